-- Lemmas on specs/Stream.
use Rattle.std.proofs.Common.{Option, ◌≡◌, ◌≢◌, ℕ, ◌+◌, ◌*◌, ◌-◌, ◌<◌, ◌≤◌, ◌↔◌, Bool, true, false, List, [], ◌∷◌, ◌++◌, length, take, drop, Bor, inl, inr, refl, ap, sym, subst, ◌∙◌, append_assoc, append-nil, arith, length-append, length-take, if◌then◌else◌, ◌⊎◌, suc}
use Rattle.std.specs.Bool.{⊤}
use Rattle.std.proofs.lemmas.List.{drop-drop, drop-take, take-append-drop, take-take, take_all, take_at, drop_all}
use Rattle.x7_words.specs.Input.{AsksForNoInput, AtEnd, InputsState, InputsStay, NoInputFault, TakenBy}
use Rattle.x7_words.proofs.InputLemmas.{taken_before, taken_none, taken_on}
use Rattle.x7_words.specs.Word.{words_of_bytes}
use Rattle.x7_packets.specs.SyncWord.{sync_bytes}
use Rattle.x7_packets.specs.Packet.{Packet, ended, payload_steps}
use Rattle.x7_packets.specs.Reading.{Place, Searching, Synced, EndedSession, IsPlace, IsReading, tail_of}
use Rattle.x7_packets.specs.Cutter.{CutAdds, AtPlace, CompletesNone, CompletesNoneAt, CutterState, CutterStandsFor, CutsRun, ComesNearer, IsLent, IsNeed, IsRun, SkipsAll, LongerSession, ChangesMode, AfterRun, TakesAsOneRun, between, calls_left, run_bytes, syncs_to_give}
use Rattle.x7_packets.specs.declared.header.Step.{Step}
use Rattle.x7_packets.specs.declared.cutter.Cut.{Cut}
use Rattle.x7_packets.specs.declared.cutter.Cut.TheVariants as cut
use Rattle.x7_packets.specs.Mode.{Mode}
use Rattle.x7_packets.specs.FoundRun.{FoundRun}
use Rattle.x7_packets.specs.declared.stream.Run.{Run}
use Rattle.x7_packets.specs.declared.stream.Run.TheVariants as run
use Rattle.x7_packets.specs.PacketsState.{PacketsState, piece_size}
use Rattle.x7_packets.specs.Run.{FitsRun, IsNext, RunAdds, cut_of, is_last, bytes_of_run}
use Rattle.x7_packets.specs.Stream.{GivesRun, GivesUp, IsFoundRun, IsLastFound, RunIsReady, IsRunOf, PacketsStandFor, TookBytes, SameSyncFound, CutsNext, ReadsAndGives, filled, not_given, with_tail}

-- how many reads there are at most until a word is whole
abbrev pub turns_left : List ℕ → List ℕ → ℕ
turns_left kept [] = 2 * (4 - length kept) + 1
turns_left kept (b ∷ left) = 2 * (4 - length kept)

-- ---- places and their tails

with_own_tail : (place : Place) → with_tail (tail_of place) place ≡ place
with_own_tail (Searching gap) = refl
with_own_tail (Synced gap packets tail) = refl

with_tail_twice : (t u : List ℕ) (place : Place) → with_tail t (with_tail u place) ≡ with_tail t place
with_tail_twice t u (Searching gap) = refl
with_tail_twice t u (Synced gap packets tail) = refl

-- ---- what a run adds, whatever bytes are kept after the words before it

longer_bare : {gap : List ℕ} {packets : List Packet} {more : List (ℕ × Step)} {sessions new_sessions : List EndedSession} {new : Place} (b : Bool) (l : LongerSession gap packets more sessions new_sessions new) → ended l.all ≡ b → tail_of new ≡ []
longer_bare true l e = ap tail_of (l.ends e).1
longer_bare false l e = ap tail_of (l.goes_on e).1

pub bare_after : (c : Cut) (sessions : List EndedSession) (place : Place) (new_sessions : List EndedSession) (new : Place) → (IsNeed c → ⊥) → CutAdds c sessions place new_sessions new → tail_of new ≡ []
bare_after cut.Need sessions place ns n never a = absurd (never tt)
bare_after (cut.Skip bytes) sessions (Searching gap) ns n never a = elim a.1 [
  | inl e ↦ ap tail_of e
  | inr f ↦ ap tail_of f.2
]
bare_after (cut.Skip bytes) sessions (Synced gap packets tail) ns n never a = absurd a
bare_after cut.Sync sessions (Searching gap) ns n never a = absurd a
bare_after cut.Sync sessions (Synced gap packets tail) ns n never a = ap tail_of a.3
bare_after (cut.Head w step) sessions (Searching gap) ns n never a = absurd a
bare_after (cut.Head w step) sessions (Synced gap packets tail) ns n never a = longer_bare (ended a.all) a refl
bare_after (cut.Word register w) sessions (Searching gap) ns n never a = absurd a
bare_after (cut.Word register w) sessions (Synced gap packets tail) ns n never a = longer_bare (ended a.all) a refl
bare_after (cut.Body register bytes) sessions (Searching gap) ns n never a = absurd a
bare_after (cut.Body register bytes) sessions (Synced gap packets tail) ns n never a = longer_bare (ended a.all) a refl

adds_bare : (c : Cut) (t : List ℕ) (sessions : List EndedSession) (place : Place) (new_sessions : List EndedSession) (new : Place) → (IsNeed c → ⊥) → tail_of place ≡ [] → CutAdds c sessions (with_tail t place) new_sessions new → CutAdds c sessions place new_sessions new
adds_bare cut.Need t sessions place ns n never e a = absurd (never tt)
adds_bare (cut.Skip bytes) t sessions (Searching gap) ns n never e a = a
adds_bare (cut.Skip bytes) t sessions (Synced gap packets tail) ns n never e a = absurd a
adds_bare cut.Sync t sessions (Searching gap) ns n never e a = absurd a
adds_bare cut.Sync t sessions (Synced gap packets tail) ns n never e a = (a.0, e, a.2, a.3)
adds_bare (cut.Head w step) t sessions (Searching gap) ns n never e a = absurd a
adds_bare (cut.Head w step) t sessions (Synced gap packets tail) ns n never e a = a
adds_bare (cut.Word register w) t sessions (Searching gap) ns n never e a = absurd a
adds_bare (cut.Word register w) t sessions (Synced gap packets tail) ns n never e a = a
adds_bare (cut.Body register bytes) t sessions (Searching gap) ns n never e a = absurd a
adds_bare (cut.Body register bytes) t sessions (Synced gap packets tail) ns n never e a = a

-- ---- a run that is cut, and the same run as it is lent

-- the run `r` is the run `c` that was cut: it has the same bytes and adds the same
record Same (c : Cut) (r : Run) : Type 0 where
  bytes : bytes_of_run r ≡ run_bytes c
  adds : (sessions new_sessions : List EndedSession) (place new : Place) → CutAdds c sessions place new_sessions new → RunAdds r sessions place new_sessions new
  mode_changes : (old new : Mode) (place : Place) → ChangesMode c old new place → ChangesMode (cut_of r) old new place
  is : IsRun c → FitsRun r
  goes_on : is_last r ≡ false

skip_alike : (a b : Bor (List ℕ)) (sessions new_sessions : List EndedSession) (place new : Place) → b.now ≡ a.now → CutAdds (cut.Skip a) sessions place new_sessions new → CutAdds (cut.Skip b) sessions place new_sessions new
skip_alike a b sessions ns (Searching gap) new e h = subst (λ t. (ns ≡ sessions) × ((new ≡ Searching (gap ++ t)) ⊎ ((prefix : List ℕ) × (gap ++ t ≡ prefix ++ sync_bytes) × (new ≡ Synced prefix [] [])))) (sym e) h
skip_alike a b sessions ns (Synced gap packets tail) new e h = absurd h

skip_turns : (a b : Bor (List ℕ)) (old new : Mode) (place : Place) → ChangesMode (cut.Skip a) old new place → ChangesMode (cut.Skip b) old new place
skip_turns a b old new (Searching gap) h = h
skip_turns a b old new (Synced gap packets tail) h = h

body_alike : (register : ℕ) (a b : Bor (List ℕ)) (sessions new_sessions : List EndedSession) (place new : Place) → b.now ≡ a.now → CutAdds (cut.Body register a) sessions place new_sessions new → CutAdds (cut.Body register b) sessions place new_sessions new
body_alike register a b sessions ns (Searching gap) new e h = absurd h
body_alike register a b sessions ns (Synced gap packets tail) new e h = subst (λ t. LongerSession gap packets (payload_steps register (words_of_bytes t)) sessions ns new) (sym e) h

same_skip : (a b : Bor (List ℕ)) → b.now ≡ a.now → Same (cut.Skip a) (run.Skip b)
same_skip a b e = record {
  bytes = e;
  adds = λ sessions ns place new h. skip_alike a b sessions ns place new e h;
  mode_changes = λ old new place h. skip_turns a b old new place h;
  is = λ h. rw e h;
  goes_on = refl;
}

same_body : (register : ℕ) (a b : Bor (List ℕ)) → b.now ≡ a.now → Same (cut.Body register a) (run.Body register b)
same_body register a b e = record {
  bytes = e;
  adds = λ sessions ns place new h. body_alike register a b sessions ns place new e h;
  mode_changes = λ old new place h. h;
  is = λ h. rw e h;
  goes_on = refl;
}

-- the bytes that a run lends are those that were cut
abbrev Lends : Cut → List ℕ → Type 0
Lends (cut.Skip bytes) all = bytes.now ≡ all
Lends (cut.Body register bytes) all = bytes.now ≡ all
Lends c all = ⊤

same_run : (f : FoundRun) (c : Cut) (r : Run) (bytes kept : List ℕ) → IsFoundRun f c → IsRunOf f bytes kept r → Lends c bytes → Same c r
same_run FoundRun.Skip c r bytes kept i l h =
    let there : Lends (cut.Skip i.0) bytes = subst (λ x. Lends x bytes) i.1 h in
    rw (i.1, l.1) (same_skip i.0 l.0 (l.2 ∙ sym there))
same_run FoundRun.Sync c r bytes kept i l h = rw (i, l) (record { bytes = refl; adds = λ s ns p n x. x; mode_changes = λ o n p x. x; is = λ x. x; goes_on = refl })
same_run (FoundRun.Head w step) c r bytes kept i l h = rw (i, l) (record { bytes = refl; adds = λ s ns p n x. x; mode_changes = λ o n p x. x; is = λ x. x; goes_on = refl })
same_run (FoundRun.Word register w) c r bytes kept i l h = rw (i, l) (record { bytes = refl; adds = λ s ns p n x. x; mode_changes = λ o n p x. x; is = λ x. x; goes_on = refl })
same_run (FoundRun.Body register) c r bytes kept i l h =
    let there : Lends (cut.Body register i.0) bytes = subst (λ x. Lends x bytes) i.1 h in
    rw (i.1, l.1) (same_body register i.0 l.0 (l.2 ∙ sym there))
same_run FoundRun.Tail c r bytes kept i l h = absurd i
same_run FoundRun.End c r bytes kept i l h = absurd i

-- the run of a cut lends the bytes that the cut lends
same_lent : (f : FoundRun) (c : Cut) (r : Run) (bytes kept : List ℕ) (o n : CutterState) (left : ℕ) → IsFoundRun f c → IsRunOf f bytes kept r → Lends c bytes → IsLent o left c → SkipsAll n left c → IsLent o left (cut_of r) × SkipsAll n left (cut_of r)
same_lent FoundRun.Skip c r bytes kept o n left i l h x y =
    let there : Lends (cut.Skip i.0) bytes = subst (λ t. Lends t bytes) i.1 h in
    rw l.1 (tt, subst (λ (t : List ℕ). (n.mode ≡ Mode.SyncFound) ⊎ (length t ≡ left)) (there ∙ sym l.2) (subst (λ t. SkipsAll n left t) i.1 y))
same_lent FoundRun.Sync c r bytes kept o n left i l h x y = rw l (tt, tt)
same_lent (FoundRun.Head w step) c r bytes kept o n left i l h x y = rw l (tt, tt)
same_lent (FoundRun.Word register w) c r bytes kept o n left i l h x y = rw l (subst (λ t. IsLent o left t) i x, tt)
same_lent (FoundRun.Body register) c r bytes kept o n left i l h x y =
    let there : Lends (cut.Body register i.0) bytes = subst (λ t. Lends t bytes) i.1 h in
    let was : IsLent o left (cut.Body register i.0) = subst (λ t. IsLent o left t) i.1 x in
    rw l.1 ((was.0, ap length (l.2 ∙ sym there) ∙ was.1), tt)
same_lent FoundRun.Tail c r bytes kept o n left i l h x y = absurd i
same_lent FoundRun.End c r bytes kept o n left i l h x y = absurd i

-- a run that was found is not `Need`
found_needs_none : (f : FoundRun) (c : Cut) → IsFoundRun f c → IsNeed c → ⊥
found_needs_none FoundRun.Skip c i n = let h : IsNeed (cut.Skip i.0) = subst IsNeed i.1 n in h
found_needs_none FoundRun.Sync c i n = let h : IsNeed cut.Sync = subst IsNeed i n in h
found_needs_none (FoundRun.Head w step) c i n = let h : IsNeed (cut.Head w step) = subst IsNeed i n in h
found_needs_none (FoundRun.Word register w) c i n = let h : IsNeed (cut.Word register w) = subst IsNeed i n in h
found_needs_none (FoundRun.Body register) c i n = let h : IsNeed (cut.Body register i.0) = subst IsNeed i.1 n in h
found_needs_none FoundRun.Tail c i n = i
found_needs_none FoundRun.End c i n = i

-- ---- one call of the cutter

-- a call of the cutter on all bytes that are left
pub cuts_whole : (c n : CutterState) (rest : List ℕ) (count : ℕ) (r : Cut) → ComesNearer r (length rest - count) (calls_left c (length rest - 0)) (calls_left n (length rest - count))
    → (IsNeed r ↔ CompletesNone c (length rest - 0)) → c.kept ++ between rest 0 count ≡ run_bytes r ++ n.kept → IsRun r → IsLent c (length rest - 0) r → SkipsAll n (length rest - 0) r
    → TakesAsOneRun c n (between rest 0 count) r → CutsRun c n rest count r
cuts_whole c n rest count r g nd j i l k a =
    let all : length rest - 0 ≡ length rest = omega arith in
    let from : count - 0 ≡ count = omega arith in
    record {
      nearer = subst (λ (m : ℕ). ComesNearer r (length rest - count) (calls_left c m) (calls_left n (length rest - count))) all g;
      need = subst (λ (m : ℕ). IsNeed r ↔ CompletesNone c m) all nd;
      joined = subst (λ (m : ℕ). c.kept ++ take m rest ≡ run_bytes r ++ n.kept) from j;
      run = i;
      lent = subst (λ (m : ℕ). IsLent c m r) all l;
      skips = subst (λ (m : ℕ). SkipsAll n m r) all k;
      adds = λ bytes sessions place s. subst (λ (m : ℕ). AfterRun c n (bytes ++ take m rest) sessions place r) from (a bytes sessions place s);
    }

-- bytes that were taken of those from one place up to another end there at the latest
pub within_piece : (items piece : List ℕ) (at end n : ℕ) → piece ≡ items → at ≤ end → n ≤ length (between piece at end) → at + n ≤ end
within_piece items piece at end n e h l = omega (arith, h, l, length-take (end - at) (drop at piece))

-- what is left of a buffer after bytes that were taken, and these bytes
pub left_after : (items : List ℕ) (at end n : ℕ) → at + n ≤ end → between items (at + n) end ≡ drop n (between items at end)
left_after items at end n h =
    let parts : end - at ≡ n + (end - (at + n)) = omega (arith, h) in
    sym (ap (λ k. drop n (take k (drop at items))) parts ∙ drop-take n (end - (at + n)) (drop at items) ∙ ap (take (end - (at + n))) (drop-drop n at items))

pub taken_of : (items : List ℕ) (at end n : ℕ) → at + n ≤ end → between items at (at + n) ≡ take n (between items at end)
taken_of items at end n h =
    let count : at + n - at ≡ n = omega arith in
    ap (λ k. take k (drop at items)) count ∙ sym (take-take n (end - at) (drop at items) (omega (arith, h)))

-- where no byte is kept after it, the bytes that a run lends are those that were taken
lends : (old new : CutterState) (left taken : List ℕ) (count : ℕ) (c : Cut) (sessions new_sessions : List EndedSession) (place new_place : Place) → IsLent old count c → CutAdds c sessions place new_sessions new_place
    → old.kept ≡ tail_of place → new.kept ≡ [] → old.kept ++ taken ≡ run_bytes c ++ new.kept → Lends c taken
lends old new left taken count (cut.Skip b) sessions ns (Searching gap) np l a k none j = sym (append-nil b.now) ∙ ap (λ t. b.now ++ t) (sym none) ∙ sym j ∙ ap (λ t. t ++ taken) k
lends old new left taken count (cut.Skip b) sessions ns (Synced gap packets tail) np l a k none j = absurd a
lends old new left taken count (cut.Body register b) sessions ns place np l a k none j = sym (append-nil b.now) ∙ ap (λ t. b.now ++ t) (sym none) ∙ sym j ∙ ap (λ t. t ++ taken) l.0
lends old new left taken count cut.Need sessions ns place np l a k none j = tt
lends old new left taken count cut.Sync sessions ns place np l a k none j = tt
lends old new left taken count (cut.Head w step) sessions ns place np l a k none j = tt
lends old new left taken count (cut.Word register w) sessions ns place np l a k none j = tt

same_due_turns : (c : Cut) (old now new : Mode) (place : Place) → SameSyncFound old now → ChangesMode c now new place → ChangesMode c old new place
same_due_turns cut.Need old now new place s t = (λ e. t.0 (s.0 e), t.1)
same_due_turns (cut.Skip bytes) old now new (Searching gap) s t = t
same_due_turns (cut.Skip bytes) old now new (Synced gap packets tail) s t = t
same_due_turns cut.Sync old now new place s t = (s.1 t.0, t.1)
same_due_turns (cut.Head w step) old now new place s t = (λ e. t.0 (s.0 e), t.1)
same_due_turns (cut.Word register w) old now new place s t = (λ e. t.0 (s.0 e), t.1)
same_due_turns (cut.Body register bytes) old now new place s t = (λ e. t.0 (s.0 e), t.1)

-- after a call that needs more bytes, the place is the one before, with the bytes that the cutter now keeps
need_place : (c : Cut) (sessions new_sessions : List EndedSession) (place new : Place) (kept new_kept : List ℕ) → IsNeed c → CutAdds c sessions (with_tail kept place) new_sessions new → new_kept ≡ tail_of new → (new_sessions ≡ sessions) × (new ≡ with_tail new_kept place)
need_place cut.Need sessions ns (Searching gap) new kept nk n a k = (a.0, a.1)
need_place cut.Need sessions ns (Synced gap packets tail) new kept nk n a k = (a.0, a.2 ∙ ap (Synced gap packets) (sym (k ∙ ap tail_of a.2)))
need_place (cut.Skip bytes) sessions ns place new kept nk n a k = absurd n
need_place cut.Sync sessions ns place new kept nk n a k = absurd n
need_place (cut.Head w step) sessions ns place new kept nk n a k = absurd n
need_place (cut.Word register w) sessions ns place new kept nk n a k = absurd n
need_place (cut.Body register bytes) sessions ns place new kept nk n a k = absurd n

need_tells_none : (c : Cut) → IsNeed c → run_bytes c ≡ []
need_tells_none cut.Need n = refl
need_tells_none (cut.Skip bytes) n = absurd n
need_tells_none cut.Sync n = absurd n
need_tells_none (cut.Head w step) n = absurd n
need_tells_none (cut.Word register w) n = absurd n
need_tells_none (cut.Body register bytes) n = absurd n

need_turns : (c : Cut) (old new : Mode) (place : Place) → IsNeed c → ChangesMode c old new place → (old ≡ Mode.SyncFound → ⊥) × (new ≡ Mode.SyncFound → ⊥)
need_turns cut.Need old new place n t = t
need_turns (cut.Skip bytes) old new place n t = absurd n
need_turns cut.Sync old new place n t = absurd n
need_turns (cut.Head w step) old new place n t = absurd n
need_turns (cut.Word register w) old new place n t = absurd n
need_turns (cut.Body register bytes) old new place n t = absurd n

unknown_on : (p : PacketsState) → p.is_done ≡ false → not_given p ≡ p.cutter.kept
unknown_on p e = rw e refl

tail_on : (place : Place) (done : Bool) (kept : List ℕ) → done ≡ false → tail_of place ≡ (if done then kept else []) → tail_of place ≡ []
tail_on place true kept e h = absurd (cc)
tail_on place false kept e h = h

-- the bytes left are the ones taken and the others
parted : (given kept left : List ℕ) (n : ℕ) → given ++ (kept ++ left) ≡ ((given ++ kept) ++ take n left) ++ drop n left
parted given kept left n = ap (λ t. given ++ (kept ++ t)) (sym (take-append-drop n left)) ∙ simp append_assoc

-- after a call that needs more bytes the reader stands for the same bytes
pub needs : (old new : PacketsState) (bytes given : List ℕ) (s : CutsNext old new false) → old.is_done ≡ false → PacketsStandFor old bytes given
    → PacketsStandFor new bytes given × (old.cutter.mode ≡ Mode.SyncFound → ⊥) × (new.cutter.mode ≡ Mode.SyncFound → ⊥)
needs old new bytes given s on p =
    let none : not_given old ≡ old.cutter.kept = unknown_on old on in
    let still : new.is_done ≡ false = s.done ∙ on in
    let w : AfterRun old.cutter new.cutter ((given ++ not_given old) ++ take s.count old.left) p.sessions (with_tail old.cutter.kept p.place) s.run = s.cuts.adds _ p.sessions _ p.cutter in
    let k : new.cutter.kept ≡ tail_of w.new_place = s.kept _ w.new_sessions w.new_place w.stands in
    let at : (w.new_sessions ≡ p.sessions) × (w.new_place ≡ with_tail new.cutter.kept p.place) = need_place s.run p.sessions w.new_sessions p.place w.new_place old.cutter.kept new.cutter.kept s.is w.adds k in
    let t : (old.cutter.mode ≡ Mode.SyncFound → ⊥) × (new.cutter.mode ≡ Mode.SyncFound → ⊥) = need_turns s.run old.cutter.mode new.cutter.mode w.new_place s.is w.mode_changes in
    let joined : old.cutter.kept ++ take s.count old.left ≡ new.cutter.kept = s.cuts.joined ∙ ap (λ x. x ++ new.cutter.kept) (need_tells_none s.run s.is) in
    let taken : (given ++ not_given old) ++ take s.count old.left ≡ given ++ not_given new = ap (λ x. (given ++ x) ++ take s.count old.left) none ∙ append_assoc given old.cutter.kept (take s.count old.left) ∙ ap (λ x. given ++ x) (joined ∙ sym (unknown_on new still)) in
    let stands : CutterStandsFor new.cutter (given ++ not_given new) p.sessions (with_tail new.cutter.kept p.place) = rw (← taken, ← at.0, ← at.1) w.stands in (
      record {
        sessions = p.sessions;
        place = p.place;
        split = p.split ∙ parted given (not_given old) old.left s.count ∙ ap (λ x. x ++ drop s.count old.left) taken ∙ append_assoc given (not_given new) (drop s.count old.left) ∙ ap (λ x. given ++ (not_given new ++ x)) (sym s.left);
        reading = p.reading;
        tail = tail_on p.place old.is_done old.cutter.kept on p.tail ∙ rw still refl;
        cutter = stands;
        kept = k ∙ ap tail_of at.1;
        all = λ e. absurd (let f : false ≡ true = sym still ∙ e in cc);
        count = s.taken ∙ p.count;
      },
      t.0,
      t.1,
    )

-- after a call that gave a run the reader stands for the same bytes, of which the run's are given
pub runs : (old new : PacketsState) (bytes given : List ℕ) (r : Run) (s : CutsNext old new true) → old.is_done ≡ false → IsLastFound new r → PacketsStandFor old bytes given
    → PacketsStandFor new bytes (given ++ bytes_of_run r) × IsNext given old.cutter.mode r new.cutter.mode × (old.cutter.kept ++ old.left ≡ bytes_of_run r ++ new.left)
    × (IsLent old.cutter (length old.left) (cut_of r) × SkipsAll new.cutter (length old.left) (cut_of r))
runs old new bytes given r s on last p =
    let never : IsNeed s.run → ⊥ = found_needs_none new.found s.run s.is in
    let none : not_given old ≡ old.cutter.kept = unknown_on old on in
    let still : new.is_done ≡ false = s.done ∙ on in
    let w : AfterRun old.cutter new.cutter ((given ++ not_given old) ++ take s.count old.left) p.sessions (with_tail old.cutter.kept p.place) s.run = s.cuts.adds _ p.sessions _ p.cutter in
    let k : new.cutter.kept ≡ tail_of w.new_place = s.kept _ w.new_sessions w.new_place w.stands in
    let bare : tail_of w.new_place ≡ [] = bare_after s.run p.sessions (with_tail old.cutter.kept p.place) w.new_sessions w.new_place never w.adds in
    let empty : new.cutter.kept ≡ [] = k ∙ bare in
    let l : Lends s.run (take s.count old.left) = lends old.cutter new.cutter old.left (take s.count old.left) (length old.left) s.run p.sessions w.new_sessions (with_tail old.cutter.kept p.place) w.new_place s.cuts.lent w.adds p.kept empty s.cuts.joined in
    let same : Same s.run r = same_run new.found s.run r new.bytes new.cutter.kept s.is last (subst (λ t. Lends s.run t) (sym s.bytes) l) in
    let now : List ℕ = given ++ bytes_of_run r in
    let joined : old.cutter.kept ++ take s.count old.left ≡ bytes_of_run r = s.cuts.joined ∙ ap (λ t. run_bytes s.run ++ t) empty ∙ append-nil (run_bytes s.run) ∙ sym same.bytes in
    let taken : (given ++ not_given old) ++ take s.count old.left ≡ now = ap (λ x. (given ++ x) ++ take s.count old.left) none ∙ append_assoc given old.cutter.kept (take s.count old.left) ∙ ap (λ x. given ++ x) joined in
    let nothing : not_given new ≡ [] = unknown_on new still ∙ empty in
    let all : (given ++ not_given old) ++ take s.count old.left ≡ now ++ not_given new = taken ∙ sym (append-nil now) ∙ ap (λ x. now ++ x) (sym nothing) in
    let own : with_tail new.cutter.kept w.new_place ≡ w.new_place = ap (λ t. with_tail t w.new_place) k ∙ with_own_tail w.new_place in
    let stands : CutterStandsFor new.cutter (now ++ not_given new) w.new_sessions w.new_place = subst (λ x. CutterStandsFor new.cutter x w.new_sessions w.new_place) all w.stands in
    let after : IsReading now w.new_sessions w.new_place = subst (λ x. IsReading x w.new_sessions w.new_place) taken w.stands.reading in (
      record {
        sessions = w.new_sessions;
        place = w.new_place;
        split = p.split ∙ parted given (not_given old) old.left s.count ∙ ap (λ x. x ++ drop s.count old.left) all ∙ append_assoc now (not_given new) (drop s.count old.left) ∙ ap (λ x. now ++ (not_given new ++ x)) (sym s.left);
        reading = after;
        tail = bare ∙ rw still refl;
        cutter = subst (λ x. CutterStandsFor new.cutter (now ++ not_given new) w.new_sessions x) (sym own) stands;
        kept = k ∙ ap tail_of (sym own);
        all = λ e. absurd (let f : false ≡ true = sym still ∙ e in cc);
        count = s.taken ∙ p.count;
      },
      record {
        sessions = p.sessions;
        place = p.place;
        new_sessions = w.new_sessions;
        new_place = w.new_place;
        before = p.reading;
        after = after;
        adds = same.adds p.sessions w.new_sessions p.place w.new_place (adds_bare s.run old.cutter.kept p.sessions p.place w.new_sessions w.new_place never (tail_on p.place old.is_done old.cutter.kept on p.tail) w.adds);
        mode_changes = same.mode_changes old.cutter.mode new.cutter.mode w.new_place w.mode_changes;
        fits = same.is s.cuts.run;
      },
      ap (λ t. old.cutter.kept ++ t) (sym (take-append-drop s.count old.left)) ∙ sym (append_assoc old.cutter.kept (take s.count old.left) (drop s.count old.left)) ∙ ap (λ t. t ++ drop s.count old.left) joined ∙ ap (λ t. bytes_of_run r ++ t) (sym s.left),
      same_lent new.found s.run r new.bytes new.cutter.kept old.cutter new.cutter (length old.left) s.is last (subst (λ t. Lends s.run t) (sym s.bytes) l) s.cuts.lent s.cuts.skips,
    )

-- ---- one read more

-- a call that needs more bytes took all that were left
pub need_goes : (c : Cut) (a b d : ℕ) → IsNeed c → ComesNearer c a b d → a ≡ 0
need_goes cut.Need a b d n g = g
need_goes (cut.Skip bytes) a b d n g = absurd n
need_goes cut.Sync a b d n g = absurd n
need_goes (cut.Head w step) a b d n g = absurd n
need_goes (cut.Word register w) a b d n g = absurd n
need_goes (cut.Body register bytes) a b d n g = absurd n

all_dropped : (n : ℕ) (xs : List ℕ) → length xs - n ≡ 0 → drop n xs ≡ []
all_dropped n xs h = drop_all n xs (omega (arith, h))

pub needs_all : (old new : PacketsState) (s : CutsNext old new false) → new.left ≡ []
needs_all old new s = s.left ∙ all_dropped s.count old.left (need_goes s.run _ _ _ s.is s.cuts.nearer)

-- the reader stands for the bytes of a piece more
pub fills : (old : PacketsState) (bytes given piece : List ℕ) → old.left ≡ [] → old.is_done ≡ false → PacketsStandFor old bytes given → PacketsStandFor (filled old piece) (bytes ++ piece) given
fills old bytes given piece none on p = record {
  sessions = p.sessions;
  place = p.place;
  split = ap (λ t. t ++ piece) (p.split ∙ ap (λ t. given ++ (not_given old ++ t)) none) ∙ simp (append_assoc, append-nil);
  reading = p.reading;
  tail = p.tail;
  cutter = p.cutter;
  kept = p.kept;
  all = λ e. absurd (let f : false ≡ true = sym on ∙ e in cc);
  count = ap (λ t. t + length piece) p.count ∙ sym (length-append bytes piece);
}

turns_fall : (kept left new piece : List ℕ) → 0 < length piece → length new ≡ length kept + length left → (0 < length left → length kept + length left < 4) → turns_left new piece < turns_left kept left
turns_fall kept left new [] s e h = absurd (omega arith)
turns_fall kept [] new (b ∷ piece) s e h = omega (arith, e)
turns_fall kept (c ∷ left) new (b ∷ piece) s e h = let few : length kept + suc (length left) < 4 = h (omega arith) in omega (arith, e, few)

few_left : (m : Mode) (kept : List ℕ) (left : ℕ) → CompletesNoneAt m kept left → 0 < left → length kept + left < 4
few_left Mode.Searching kept left h s = absurd (omega (arith, h))
few_left Mode.SyncFound kept left h s = absurd h
few_left Mode.Synced kept left h s = h

-- a call that needs more bytes keeps all that were left
pub keeps_all_left : (old new : PacketsState) (s : CutsNext old new false) → length new.cutter.kept ≡ length old.cutter.kept + length old.left
keeps_all_left old new s =
    let none : length old.left - s.count ≡ 0 = need_goes s.run _ _ _ s.is s.cuts.nearer in
    let whole : take s.count old.left ≡ old.left = take_all s.count old.left (omega (arith, none)) in
    let joined : old.cutter.kept ++ old.left ≡ new.cutter.kept = ap (λ t. old.cutter.kept ++ t) (sym whole) ∙ s.cuts.joined ∙ ap (λ x. x ++ new.cutter.kept) (need_tells_none s.run s.is) in
    ap length (sym joined) ∙ length-append old.cutter.kept old.left

pub turns_go : (old new : PacketsState) (s : CutsNext old new false) (piece : List ℕ) → 0 < length piece → turns_left new.cutter.kept piece < turns_left old.cutter.kept old.left
turns_go old new s piece some =
    turns_fall old.cutter.kept old.left new.cutter.kept piece some (keeps_all_left old new s) (few_left old.cutter.mode old.cutter.kept (length old.left) (s.cuts.need.0 s.is))

same_sync_found : (old now new : Mode) → SameSyncFound old now → (now ≡ Mode.SyncFound → ⊥) → (new ≡ Mode.SyncFound → ⊥) → SameSyncFound old new
same_sync_found old now new s n m = (λ e. absurd (n (s.0 e)), λ e. absurd (m e))

-- a reader that took bytes took a piece more after a call that needs more bytes, and a read
pub reads_on : (first old new : PacketsState) (more piece : List ℕ) (s : CutsNext old new false) → old.is_done ≡ false → TookBytes first old more → TookBytes first (filled new piece) (more ++ piece)
reads_on first old new more piece s on r = record {
  count = ap (λ t. t + length piece) (s.taken ∙ r.count) ∙ omega (arith, length-append more piece);
  stands = λ bytes given p.
      let h = r.stands bytes given p in
      let n = needs old new (bytes ++ more) given s on h.0 in (
        subst (λ t. PacketsStandFor (filled new piece) t given) (append_assoc bytes more piece) (fills new (bytes ++ more) given piece (needs_all old new s) (s.done ∙ on) n.0),
        same_sync_found first.cutter.mode old.cutter.mode new.cutter.mode h.1 n.1 n.2,
      );
}

pub reads_none : (p : PacketsState) → TookBytes p p []
reads_none p = record {
  count = omega arith;
  stands = λ bytes given s. (subst (λ t. PacketsStandFor p t given) (sym (append-nil bytes)) s, (λ e. e, λ e. e));
}

-- the bytes that a call read so far are no more than are kept or left, and than three and a piece
pub record HasRoom (first now : PacketsState) : Type 0 where
  pub all : now.taken ≤ first.taken + (length now.cutter.kept + length now.left)
  pub most : now.taken ≤ first.taken + (3 + piece_size)

-- a call that has read nothing
pub room_none : (p : PacketsState) → HasRoom p p
room_none p = record { all = omega arith; most = omega arith }

-- before each read a call has read three bytes at most
pub few_before : (first old now : PacketsState) (more : List ℕ) (s : CutsNext old now false) → TookBytes first old more → HasRoom first old → length more ≤ 3
few_before first old now more s reads room = omega (arith, reads.count, room.all, keeps_all_left old now s, s.few)

-- a call has read no more bytes than three and a piece
pub most_read : (first now : PacketsState) (more : List ℕ) → TookBytes first now more → HasRoom first now → length more ≤ 3 + piece_size
most_read first now more reads room = omega (arith, reads.count, room.most)

-- no input was asked for, and no read gave nothing
pub record AsksToReadOn (old new : InputsState) : Type 0 where
  pub asked : new.asked ≡ old.asked
  pub selects : new.selects ≡ old.selects
  pub ends : new.ends ≤ old.ends

pub asks_nothing : (now : InputsState) → AsksToReadOn now now
asks_nothing now = record { asked = refl; selects = refl; ends = omega arith }

-- after such reads, one more that gave some bytes
pub asks_on : (first mid now : InputsState) → AsksToReadOn first mid → AsksForNoInput mid now → now.ends ≤ mid.ends → AsksToReadOn first now
asks_on first mid now a b ends = record { asked = b.asked ∙ a.asked; selects = b.selects ∙ a.selects; ends = omega (arith, ends, a.ends) }

-- and after such reads, one that may have given nothing
pub asks_once : (first mid now : InputsState) → AsksToReadOn first mid → AsksForNoInput mid now → AsksForNoInput first now
asks_once first mid now a b = record { asked = b.asked ∙ a.asked; selects = b.selects ∙ a.selects; ends = omega (arith, b.ends, a.ends) }

pub asks_not : (first now : InputsState) → AsksToReadOn first now → AsksForNoInput first now
asks_not first now a = record { asked = a.asked; selects = a.selects; ends = omega (arith, a.ends) }

-- where nothing was read, no fault was counted
pub no_fault_at : (now : InputsState) → NoInputFault now now
no_fault_at now = record { faults = refl; absences = refl }

-- no fault was counted up to a read, nor in it
pub no_fault_on : (first mid now : InputsState) → NoInputFault first mid → NoInputFault mid now → NoInputFault first now
no_fault_on first mid now a b = record { faults = b.faults ∙ a.faults; absences = b.absences ∙ a.absences }

-- where a run was ready before the call, none of its cuts needs more bytes
pub never_waits : {A : Type 0} (first old now : PacketsState) (s : CutsNext old now false) → (RunIsReady first → (old ≡ first) × A) → RunIsReady first → ⊥
never_waits first old now s same ready = ready (subst (λ (p : PacketsState). CompletesNone p.cutter (length p.left)) (same ready).0 (s.cuts.need.0 s.is))

-- ---- what a call tells

next_same : (given : List ℕ) (old now new : Mode) (r : Run) → SameSyncFound old now → IsNext given now r new → IsNext given old r new
next_same given old now new r s n = record {
  sessions = n.sessions;
  place = n.place;
  new_sessions = n.new_sessions;
  new_place = n.new_place;
  before = n.before;
  after = n.after;
  adds = n.adds;
  mode_changes = same_due_turns (cut_of r) old now new n.new_place s n.mode_changes;
  fits = n.fits;
}

not_last : (r : Run) → is_last r ≡ false → is_last r ≡ true → ⊥
not_last r e f = let h : false ≡ true = sym e ∙ f in cc

-- a run that the cutter gave is neither the tail nor the end
kind_goes_on : (f : FoundRun) (c : Cut) (r : Run) (bytes kept : List ℕ) → IsFoundRun f c → IsRunOf f bytes kept r → is_last r ≡ false
kind_goes_on FoundRun.Skip c r bytes kept i l = ap is_last l.1
kind_goes_on FoundRun.Sync c r bytes kept i l = ap is_last l
kind_goes_on (FoundRun.Head w step) c r bytes kept i l = ap is_last l
kind_goes_on (FoundRun.Word register w) c r bytes kept i l = ap is_last l
kind_goes_on (FoundRun.Body register) c r bytes kept i l = ap is_last l.1
kind_goes_on FoundRun.Tail c r bytes kept i l = absurd i
kind_goes_on FoundRun.End c r bytes kept i l = absurd i

pub tells_run : (first old new : PacketsState) (more : List ℕ) (r : Run) (s : CutsNext old new true) → old.is_done ≡ false → old.has_failed ≡ false → IsLastFound new r → TookBytes first old more → ReadsAndGives first new more r
tells_run first old new more r s on good last reads =
    let goes : is_last r ≡ false = kind_goes_on new.found s.run r new.bytes new.cutter.kept s.is last in
    record {
      count = s.taken ∙ reads.count;
      stands = λ bytes given p.
          let h = reads.stands bytes given p in
          let t = runs old new (bytes ++ more) given r s on last h.0 in
          (t.0, next_same given first.cutter.mode old.cutter.mode new.cutter.mode r h.1 t.1);
      all = λ e. absurd (not_last r goes e);
      lends = λ e bytes given p. let h = reads.stands bytes given p in let t = runs old new (bytes ++ more) given r s on last h.0 in record { at = old; reads = reads; bytes = t.2; lent = t.3.0; skips = t.3.1 };
      done = s.done ∙ on ∙ sym goes;
      good = s.failed ∙ good;
    }

pub run_is_not_last : (old new : PacketsState) (r : Run) (s : CutsNext old new true) → IsLastFound new r → is_last r ≡ true → ⊥
run_is_not_last old new r s last = not_last r (kind_goes_on new.found s.run r new.bytes new.cutter.kept s.is last)

-- ---- the end

tail_adds : (bytes : Bor (List ℕ)) (kept : List ℕ) (sessions : List EndedSession) (place : Place) → bytes.now ≡ kept → 0 < length kept → kept ≡ tail_of (with_tail kept place) → tail_of place ≡ [] → RunAdds (run.Tail bytes) sessions place sessions (with_tail kept place)
tail_adds bytes kept sessions (Searching gap) e s k b = absurd (omega (arith, ap length k))
tail_adds bytes kept sessions (Synced gap packets tail) e s k b = (refl, b, ap (Synced gap packets) (sym e))

short_tail : (kept : List ℕ) (place : Place) → IsPlace (with_tail kept place) → kept ≡ tail_of (with_tail kept place) → length kept < 4
short_tail kept (Searching gap) p k = omega (arith, ap length k)
short_tail kept (Synced gap packets tail) p k = p.3

-- once it gave the tail, the reader stands for its bytes, all of them given
ends_tail : (p : PacketsState) (bytes given : List ℕ) (lent : Bor (List ℕ)) → p.is_done ≡ false → p.left ≡ [] → 0 < length p.cutter.kept → lent.now ≡ p.cutter.kept → (p.cutter.mode ≡ Mode.SyncFound → ⊥) → PacketsStandFor p bytes given
    → PacketsStandFor (record p { found = FoundRun.Tail; is_done = true }) bytes (given ++ lent.now) × IsNext given p.cutter.mode (run.Tail lent) p.cutter.mode × (given ++ lent.now ≡ bytes)
ends_tail p bytes given lent on none some e due s =
    let keeps : not_given p ≡ p.cutter.kept = unknown_on p on in
    let bare : tail_of s.place ≡ [] = tail_on s.place p.is_done p.cutter.kept on s.tail in
    let now : given ++ not_given p ≡ given ++ lent.now = ap (λ t. given ++ t) (keeps ∙ sym e) in
    let after : IsReading (given ++ lent.now) s.sessions (with_tail p.cutter.kept s.place) = subst (λ t. IsReading t s.sessions (with_tail p.cutter.kept s.place)) now s.cutter.reading in
    let all : bytes ≡ given ++ lent.now = s.split ∙ ap (λ t. given ++ (not_given p ++ t)) none ∙ ap (λ t. given ++ t) (append-nil (not_given p)) ∙ now in
    let twice : with_tail p.cutter.kept (with_tail p.cutter.kept s.place) ≡ with_tail p.cutter.kept s.place = with_tail_twice p.cutter.kept p.cutter.kept s.place in
    let stands : CutterStandsFor p.cutter ((given ++ lent.now) ++ []) s.sessions (with_tail p.cutter.kept s.place) = subst (λ t. CutterStandsFor p.cutter t s.sessions (with_tail p.cutter.kept s.place)) (now ∙ sym (append-nil (given ++ lent.now))) s.cutter in (
      record {
        sessions = s.sessions;
        place = with_tail p.cutter.kept s.place;
        split = all ∙ sym (append-nil (given ++ lent.now)) ∙ ap (λ t. (given ++ lent.now) ++ t) (sym none);
        reading = after;
        tail = sym s.kept;
        cutter = subst (λ t. CutterStandsFor p.cutter ((given ++ lent.now) ++ []) s.sessions t) (sym twice) stands;
        kept = s.kept ∙ ap tail_of (sym twice);
        all = λ d. (none, due);
        count = s.count;
      },
      record {
        sessions = s.sessions;
        place = s.place;
        new_sessions = s.sessions;
        new_place = with_tail p.cutter.kept s.place;
        before = s.reading;
        after = after;
        adds = tail_adds lent p.cutter.kept s.sessions s.place e some s.kept bare;
        mode_changes = (due, due);
        fits = (omega (arith, some, ap length e), omega (arith, short_tail p.cutter.kept s.place s.cutter.reading.ends s.kept, ap length e));
      },
      sym all,
    )

-- once it gave the end, a reader without a byte more to give stands for its bytes, all of them given
ends_none : (p : PacketsState) (bytes given : List ℕ) → p.left ≡ [] → not_given p ≡ [] → (p.cutter.mode ≡ Mode.SyncFound → ⊥) → (s : PacketsStandFor p bytes given) → tail_of s.place ≡ p.cutter.kept
    → PacketsStandFor (record p { found = FoundRun.End; is_done = true }) bytes (given ++ []) × IsNext given p.cutter.mode run.End p.cutter.mode × (given ++ [] ≡ bytes)
ends_none p bytes given none nothing due s own =
    let now : given ++ not_given p ≡ given ++ [] = ap (λ t. given ++ t) nothing in
    let all : bytes ≡ given ++ [] = s.split ∙ ap (λ t. given ++ (not_given p ++ t)) none ∙ ap (λ t. given ++ t) (append-nil (not_given p)) ∙ now in
    let after : IsReading (given ++ []) s.sessions s.place = subst (λ t. IsReading t s.sessions s.place) (sym (append-nil given)) s.reading in (
      record {
        sessions = s.sessions;
        place = s.place;
        split = all ∙ sym (append-nil (given ++ [])) ∙ ap (λ t. (given ++ []) ++ t) (sym none);
        reading = after;
        tail = own;
        cutter = subst (λ t. CutterStandsFor p.cutter t s.sessions (with_tail p.cutter.kept s.place)) (now ∙ sym (append-nil (given ++ []))) s.cutter;
        kept = s.kept;
        all = λ d. (none, due);
        count = s.count;
      },
      record {
        sessions = s.sessions;
        place = s.place;
        new_sessions = s.sessions;
        new_place = s.place;
        before = s.reading;
        after = after;
        adds = (refl, refl);
        mode_changes = (due, due);
        fits = tt;
      },
      sym all,
    )

-- a reader after the input ended, which gives the tail or the end as its last run
record Ends (old new : PacketsState) (r : Run) : Type 0 where
  pub last : is_last r ≡ true
  pub done : new.is_done ≡ true
  pub failed : new.has_failed ≡ old.has_failed
  pub taken : new.taken ≡ old.taken
  pub stands : (bytes given : List ℕ) → (old.cutter.mode ≡ Mode.SyncFound → ⊥) → PacketsStandFor old bytes given
      → PacketsStandFor new bytes (given ++ bytes_of_run r) × IsNext given old.cutter.mode r new.cutter.mode × (given ++ bytes_of_run r ≡ bytes)

tail_ends : (p : PacketsState) (lent : Bor (List ℕ)) → p.is_done ≡ false → p.left ≡ [] → 0 < length p.cutter.kept → lent.now ≡ p.cutter.kept → Ends p (record p { found = FoundRun.Tail; is_done = true }) (run.Tail lent)
tail_ends p lent on none some e = record { last = refl; done = refl; failed = refl; taken = refl; stands = λ bytes given due s. ends_tail p bytes given lent on none some e due s }

none_ends : (p : PacketsState) → p.left ≡ [] → not_given p ≡ [] → ((bytes given : List ℕ) (s : PacketsStandFor p bytes given) → tail_of s.place ≡ p.cutter.kept) → Ends p (record p { found = FoundRun.End; is_done = true }) run.End
none_ends p none nothing own = record { last = refl; done = refl; failed = refl; taken = refl; stands = λ bytes given due s. ends_none p bytes given none nothing due s (own bytes given s) }

-- the input ended: the tail where the cutter keeps bytes of no whole word, else the end
finishes : (p new : PacketsState) (r : Run) (kept : List ℕ) → p.cutter.kept ≡ kept → p.is_done ≡ false → p.left ≡ []
    → (p.cutter.kept ≢ [] → new ≡ record p { found = FoundRun.Tail; is_done = true }) → (p.cutter.kept ≡ [] → new ≡ record p { found = FoundRun.End; is_done = true }) → IsLastFound new r → Ends p new r
finishes p new r [] k on none tail end last =
    let is : new ≡ record p { found = FoundRun.End; is_done = true } = end k in
    let at : r ≡ run.End = subst (λ (x : PacketsState). IsLastFound x r) is last in
    rw (is, at) (none_ends p none (unknown_on p on ∙ k) (λ bytes given s. tail_on s.place p.is_done p.cutter.kept on s.tail ∙ sym k))
finishes p new r (x ∷ xs) k on none tail end last =
    let is : new ≡ record p { found = FoundRun.Tail; is_done = true } = tail (λ e. absurd (let f : x ∷ xs ≡ [] = sym k ∙ e in cc)) in
    let at : (lent : Bor (List ℕ)) × (r ≡ run.Tail lent) × (lent.now ≡ p.cutter.kept) = subst (λ (x : PacketsState). IsLastFound x r) is last in
    rw (is, at.1) (tail_ends p at.0 on none (omega (arith, ap length k)) at.2)

-- after a call that needs more bytes, and a read that gave none, the reader gives the tail or the end
pub tells_end : (first old now new : PacketsState) (more : List ℕ) (r : Run) (s : CutsNext old now false) → old.is_done ≡ false → old.has_failed ≡ false → TookBytes first old more
    → (now.cutter.kept ≢ [] → new ≡ record (filled now []) { found = FoundRun.Tail; is_done = true }) → (now.cutter.kept ≡ [] → new ≡ record (filled now []) { found = FoundRun.End; is_done = true })
    → IsLastFound new r → ReadsAndGives first new more r × (is_last r ≡ true)
tells_end first old now new more r s on good reads tail end last =
    let e : Ends (filled now []) new r = finishes (filled now []) new r now.cutter.kept refl (s.done ∙ on) refl tail end last in (
      record {
        count = e.taken ∙ (let z : now.taken + 0 ≡ now.taken = omega arith in z) ∙ s.taken ∙ reads.count;
        stands = λ bytes given p.
            let h = reads.stands bytes given p in
            let n = needs old now (bytes ++ more) given s on h.0 in
            let f = fills now (bytes ++ more) given [] (needs_all old now s) (s.done ∙ on) n.0 in
            let t = e.stands ((bytes ++ more) ++ []) given n.2 f in (
              subst (λ x. PacketsStandFor new x (given ++ bytes_of_run r)) (append-nil (bytes ++ more)) t.0,
              next_same given first.cutter.mode now.cutter.mode new.cutter.mode r (same_sync_found first.cutter.mode old.cutter.mode now.cutter.mode h.1 n.1 n.2) t.1,
            );
        all = λ _ bytes given p.
            let h = reads.stands bytes given p in
            let n = needs old now (bytes ++ more) given s on h.0 in
            let f = fills now (bytes ++ more) given [] (needs_all old now s) (s.done ∙ on) n.0 in
            (e.stands ((bytes ++ more) ++ []) given n.2 f).2 ∙ append-nil (bytes ++ more);
        lends = λ f. absurd (not_last r f e.last);
        done = e.done ∙ sym e.last;
        good = e.failed ∙ s.failed ∙ good;
      },
      e.last,
    )

own_tail : (place : Place) (done : Bool) (kept : List ℕ) → done ≡ true → tail_of place ≡ (if done then kept else []) → tail_of place ≡ kept
own_tail place true kept e h = h
own_tail place false kept e h = absurd (cc)

unknown_off : (p : PacketsState) → p.is_done ≡ true → not_given p ≡ []
unknown_off p e = rw e refl

-- the end is given again
again : (p : PacketsState) → p.is_done ≡ true → p.has_failed ≡ false → ReadsAndGives p (record p { found = FoundRun.End; is_done = true }) [] run.End
again p off good = record {
  count = omega arith;
  stands = λ bytes given s.
      let due = s.all off in
      let t = ends_none p bytes given due.0 (unknown_off p off) due.1 s (own_tail s.place p.is_done p.cutter.kept off s.tail) in
      (subst (λ x. PacketsStandFor (record p { found = FoundRun.End; is_done = true }) x (given ++ [])) (sym (append-nil bytes)) t.0, t.1);
  all = λ _ bytes given s.
      let due = s.all off in
      (ends_none p bytes given due.0 (unknown_off p off) due.1 s (own_tail s.place p.is_done p.cutter.kept off s.tail)).2 ∙ sym (append-nil bytes);
  lends = λ f. absurd (let g : true ≡ false = f in cc);
  done = refl;
  good = good;
}

pub gives_again : (p : PacketsState) (now : InputsState) (r : Run) → p.is_done ≡ true → p.has_failed ≡ false → AtEnd now.rest → r ≡ run.End → GivesRun p (record p { found = FoundRun.End }) now now r
gives_again p now r off good end at =
    let same : record p { found = FoundRun.End } ≡ record p { found = FoundRun.End; is_done = true } = ap (λ (d : Bool). record p { found = FoundRun.End; is_done = d }) off in
    rw (same, at) (record { more = []; taken = taken_none now.contents now.rest; most = omega arith; tells = again p off good; end = λ _. end })

-- a read that gave no byte, and then the tail or the end
pub gives_end : (first old now mid new : PacketsState) (more piece : List ℕ) (first_in mid_in now_in : InputsState) (r : Run) (s : CutsNext old now false) → old.is_done ≡ false → old.has_failed ≡ false → TookBytes first old more → HasRoom first old
    → InputsStay mid_in now_in → TakenBy mid_in.contents first_in.rest more mid_in.rest → TakenBy now_in.contents mid_in.rest piece now_in.rest → mid ≡ filled now piece → piece ≡ [] → AtEnd now_in.rest
    → (mid.cutter.kept ≢ [] → new ≡ record mid { found = FoundRun.Tail; is_done = true }) → (mid.cutter.kept ≡ [] → new ≡ record mid { found = FoundRun.End; is_done = true })
    → IsLastFound new r → GivesRun first new first_in now_in r
gives_end first old now mid new more piece first_in mid_in now_in r s on good reads room stays t u is none end tail no_tail last =
    let at : mid ≡ filled now [] = is ∙ ap (filled now) none in
    let by_tail : now.cutter.kept ≢ [] → new ≡ record (filled now []) { found = FoundRun.Tail; is_done = true } = subst (λ (m : PacketsState). m.cutter.kept ≢ [] → new ≡ record m { found = FoundRun.Tail; is_done = true }) at tail in
    let by_none : now.cutter.kept ≡ [] → new ≡ record (filled now []) { found = FoundRun.End; is_done = true } = subst (λ (m : PacketsState). m.cutter.kept ≡ [] → new ≡ record m { found = FoundRun.End; is_done = true }) at no_tail in
    record {
      more = more;
      taken = subst (λ (b : List ℕ). TakenBy now_in.contents first_in.rest b now_in.rest) (ap (λ (p : List ℕ). more ++ p) none ∙ append-nil more)
          (taken_on now_in.contents first_in.rest mid_in.rest now_in.rest more piece (taken_before mid_in.contents now_in.contents first_in.rest more mid_in.rest stays.map t) u);
      most = most_read first old more reads room;
      tells = (tells_end first old now new more r s on good reads by_tail by_none last).0;
      end = λ _. end;
    }

-- a read that failed
pub gives_up : (first old now new : PacketsState) (before after : InputsState) (more : List ℕ) (later : Option (List ℕ)) (s : CutsNext old now false) → TakenBy after.contents before.rest more later
    → old.is_done ≡ false → TookBytes first old more → HasRoom first old → new ≡ record now { bytes = []; has_failed = true } → GivesUp first new before after
gives_up first old now new before after more later s taken on reads room e = rw e (record {
  more = more;
  later = later;
  taken = taken;
  most = few_before first old now more s reads room;
  reads = record {
    count = s.taken ∙ reads.count;
    stands = λ bytes given p.
        let h = reads.stands bytes given p in
        let n = needs old now (bytes ++ more) given s on h.0 in
        let k = n.0 in (
          record { sessions = k.sessions; place = k.place; split = k.split; reading = k.reading; tail = k.tail; cutter = k.cutter; kept = k.kept; all = k.all; count = k.count },
          same_sync_found first.cutter.mode old.cutter.mode now.cutter.mode h.1 n.1 n.2,
        );
  };
  failed = refl;
})

-- after a piece more no more bytes were read in the call than are kept or left
pub room_on : (first old now new : PacketsState) (more piece : List ℕ) (s : CutsNext old now false) → new ≡ filled now piece → length piece ≤ piece_size → TookBytes first old more → HasRoom first old → HasRoom first new
room_on first old now new more piece s e most reads room = rw e (record {
  all = omega (arith, s.taken, keeps_all_left old now s, room.all);
  most = omega (arith, s.taken, reads.count, few_before first old now more s reads room, most);
})

-- after a piece of some bytes fewer reads are left until a word is whole
pub turns_fewer : (old now new : PacketsState) (s : CutsNext old now false) (piece : List ℕ) → new ≡ filled now piece → 0 < length piece → turns_left new.cutter.kept new.left < turns_left old.cutter.kept old.left
turns_fewer old now new s piece e some = rw e (turns_go old now s piece some)

-- a reader that has given nothing yet
pub starts : (p : PacketsState) (first : List ℕ) → CutterStandsFor p.cutter [] [] (Searching []) → p.cutter.kept ≡ [] → p.left ≡ first → p.is_done ≡ false → p.taken ≡ length first → PacketsStandFor p first []
starts p first c k l on t = record {
  sessions = [];
  place = Searching [];
  split = sym (ap (λ u. u ++ p.left) (unknown_on p on ∙ k) ∙ l);
  reading = c.reading;
  tail = rw on refl;
  cutter = subst (λ u. CutterStandsFor p.cutter u [] (Searching [])) (sym (unknown_on p on ∙ k)) c;
  kept = k;
  all = λ e. absurd (let f : false ≡ true = sym on ∙ e in cc);
  count = t;
}

-- the bytes that a buffer begins with
pub first_of : (items first : List ℕ) → take (length first) items ≡ first → between items 0 (length first) ≡ first
first_of items first e = let n : length first - 0 ≡ length first = omega arith in ap (λ (k : ℕ). take k items) n ∙ e

-- a buffer of these bytes that was made longer begins with them
pub begins : (first old rest new : List ℕ) (n : ℕ) → old ≡ first → new ≡ take n old ++ rest → length first ≤ n → take (length first) new ≡ first
begins first old rest new n e f h =
    let all : new ≡ first ++ rest = f ∙ ap (λ t. take n t ++ rest) e ∙ ap (λ t. t ++ rest) (take_all n first h) in
    ap (take (length first)) all ∙ take_at first rest (length first) refl

-- a cutter that took no byte is searching
pub searches : (c : CutterState) → CutterStandsFor c [] [] (Searching []) → c.mode ≡ Mode.Searching
searches c s = by_mode c.mode s.at
  where
    by_mode : (m : Mode) → AtPlace c m (Searching []) → m ≡ Mode.Searching
    by_mode Mode.Searching a = refl
    by_mode Mode.SyncFound a = absurd a
    by_mode Mode.Synced a = absurd a

-- at most one sync word is still to be given
pub one_sync : (mode : Mode) → syncs_to_give mode ≤ 1
one_sync Mode.Searching = omega arith
one_sync Mode.SyncFound = omega arith
one_sync Mode.Synced = omega arith
