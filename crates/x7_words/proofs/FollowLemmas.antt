-- Lemmas on the bytes of a flash that follow its calls.
use Rattle.std.proofs.Common.{◌≡◌, ℕ, ◌+◌, List, [], ◌∷◌, ◌++◌, Option, None, Some, option_map, Result, Ok, Err, OnOk, OnErr, length, slice_range, append-nil, append_assoc, refl, ap, sym, subst, ◌∙◌}
use Rattle.x7_words.specs.Flash.{BecomesBytes, FlashState, IfKnown, IsTorn, TornFrom, cleared, erased_sector, replaced, sector_place}
use Rattle.x7_words.specs.FlashHistory.{CallsFor, FollowsCalls, IsHistory, Makes}
use Rattle.x7_words.specs.declared.flash_call.FlashCall.{FlashCall}
use Rattle.x7_words.specs.declared.flash_call.FlashCall.TheVariants.{Read, ReadFailed, Erased, EraseFailed, Programmed, ProgramFailed}

-- ---- bytes that may be known

pub known_at : (known : Option (List ℕ)) (P : List ℕ → Type 0) → IfKnown known P → (all : List ℕ) → known ≡ Some all → P all
known_at known P t all e = let Q : Option (List ℕ) → Type 0 = λ o. IfKnown o P in let at : IfKnown (Some all) P = subst Q e t in at

pub known_all : (known : Option (List ℕ)) (P : List ℕ → Type 0) → ((all : List ℕ) → known ≡ Some all → P all) → IfKnown known P
known_all None P f = tt
known_all (Some all) P f = f all refl

pub known_map : (known : Option (List ℕ)) (P Q : List ℕ → Type 0) → ((all : List ℕ) → known ≡ Some all → P all → Q all) → IfKnown known P → IfKnown known Q
known_map None P Q f t = tt
known_map (Some all) P Q f t = f all refl t

pub becomes_at : (P : List ℕ → List ℕ → Type 0) (known new : Option (List ℕ)) → BecomesBytes P known new → (all : List ℕ) → known ≡ Some all → (now : List ℕ) × (new ≡ Some now) × P all now
becomes_at P known new b all e = let Q : Option (List ℕ) → Type 0 = λ o. BecomesBytes P o new in let at : BecomesBytes P (Some all) new = subst Q e b in at

pub becomes_map : (P Q : List ℕ → List ℕ → Type 0) (known new : Option (List ℕ)) → ((all now : List ℕ) → known ≡ Some all → P all now → Q all now) → BecomesBytes P known new → BecomesBytes Q known new
becomes_map P Q None new f b = b
becomes_map P Q (Some all) new f b = (b.0, b.1, f all b.0 refl b.2)

-- ---- one list of calls and then another

pub happens_on : (xs ys : List FlashCall) (a b c : List ℕ) → IsHistory xs a b → IsHistory ys b c → IsHistory (xs ++ ys) a c
happens_on [] ys a b c h k = subst (λ f. IsHistory ys f c) h k
happens_on (x ∷ xs) ys a b c h k = (h.0, h.1, happens_on xs ys h.0 b c h.2 k)

-- no call
pub follow_none : (s : FlashState) → FollowsCalls s s
follow_none s = record { calls = []; made = sym (append-nil s.calls); bytes = same s.bytes }
  where
    same : (known : Option (List ℕ)) → BecomesBytes (IsHistory []) known known
    same None = refl
    same (Some all) = (all, refl, refl)

pub follow_on : (a b c : FlashState) → FollowsCalls a b → FollowsCalls b c → FollowsCalls a c
follow_on a b c p q = record {
  calls = p.calls ++ q.calls;
  made = q.made ∙ ap (λ l. l ++ q.calls) p.made ∙ append_assoc a.calls p.calls q.calls;
  bytes = go a.bytes p.bytes;
}
  where
    at : (known now : Option (List ℕ)) → known ≡ now → BecomesBytes (IsHistory q.calls) known c.bytes → BecomesBytes (IsHistory q.calls) now c.bytes
    at known now e h = let S : Option (List ℕ) → Type 0 = λ o. BecomesBytes (IsHistory q.calls) o c.bytes in subst S e h

    go : (known : Option (List ℕ)) → BecomesBytes (IsHistory p.calls) known b.bytes → BecomesBytes (IsHistory (p.calls ++ q.calls)) known c.bytes
    go None h = at b.bytes None h q.bytes
    go (Some all) h =
        let m : BecomesBytes (IsHistory q.calls) (Some h.0) c.bytes = at b.bytes (Some h.0) h.1 q.bytes in
        (m.0, m.1, happens_on p.calls q.calls all h.0 m.0 h.2 m.2)

-- ---- one call

follow_call : (call : FlashCall) (old new : FlashState) → CallsFor call old new → BecomesBytes (Makes call) old.bytes new.bytes → FollowsCalls old new
follow_call call old new called made = record { calls = call ∷ []; made = ap (λ h. h.calls) called; bytes = go old.bytes made }
  where
    go : (known : Option (List ℕ)) → BecomesBytes (Makes call) known new.bytes → BecomesBytes (IsHistory (call ∷ [])) known new.bytes
    go None h = h
    go (Some all) h = (h.0, h.1, (h.0, h.2, refl))

-- a read
pub follow_read : {E : Type 0} (answer : Result (Unit {0}) E) (place size : ℕ) (buffer : List ℕ) (old new : FlashState) → length buffer ≡ size → new.bytes ≡ old.bytes
    → OnOk answer (IfKnown old.bytes (λ all. buffer ≡ slice_range all place (place + size)))
    → OnOk answer (CallsFor (Read place buffer) old new) → OnErr answer (CallsFor (ReadFailed place size) old new) → FollowsCalls old new
follow_read (Ok _) place size buffer old new long same gave done failed = follow_call (Read place buffer) old new done (go old.bytes same gave)
  where
    go : (known : Option (List ℕ)) → new.bytes ≡ known → IfKnown known (λ all. buffer ≡ slice_range all place (place + size)) → BecomesBytes (Makes (Read place buffer)) known new.bytes
    go None same gave = same
    go (Some all) same gave = (all, same, (refl, gave ∙ ap (λ n. slice_range all place (place + n)) (sym long)))
follow_read (Err _) place size buffer old new long same gave done failed = follow_call (ReadFailed place size) old new failed (go old.bytes same)
  where
    go : (known : Option (List ℕ)) → new.bytes ≡ known → BecomesBytes (Makes (ReadFailed place size)) known new.bytes
    go None same = same
    go (Some all) same = (all, same, refl)

-- a write, whole or not
follow_write : {E : Type 0} (answer : Result (Unit {0}) E) (done failed : FlashCall) (place : ℕ) (target : List ℕ → List ℕ) (old new : FlashState) → ((all : List ℕ) → Makes done all (replaced place (target all) all))
    → ((all now : List ℕ) → IsTorn place (target all) all now → Makes failed all now) → OnOk answer (new.bytes ≡ option_map (λ all. replaced place (target all) all) old.bytes) → OnErr answer (TornFrom place target old.bytes new.bytes)
    → OnOk answer (CallsFor done old new) → OnErr answer (CallsFor failed old new) → FollowsCalls old new
follow_write (Ok _) done failed place target old new whole torn is left called ended = follow_call done old new called (go old.bytes is)
  where
    go : (known : Option (List ℕ)) → new.bytes ≡ option_map (λ all. replaced place (target all) all) known → BecomesBytes (Makes done) known new.bytes
    go None is = is
    go (Some all) is = (replaced place (target all) all, is, whole all)
follow_write (Err _) done failed place target old new whole torn is left called ended =
    follow_call failed old new ended (becomes_map (λ all now. IsTorn place (target all) all now) (Makes failed) old.bytes new.bytes (λ all now e t. torn all now t) left)

pub follow_erase : {E : Type 0} (answer : Result (Unit {0}) E) (sector : ℕ) (old new : FlashState) → OnOk answer (new.bytes ≡ option_map (λ all. replaced (sector_place sector) erased_sector all) old.bytes) → OnErr answer (TornFrom (sector_place sector) (λ _. erased_sector) old.bytes new.bytes)
    → OnOk answer (CallsFor (Erased sector) old new) → OnErr answer (CallsFor (EraseFailed sector) old new) → FollowsCalls old new
follow_erase answer sector old new is left called ended =
    follow_write answer (Erased sector) (EraseFailed sector) (sector_place sector) (λ _. erased_sector) old new (λ all. refl) (λ all now torn. torn) is left called ended

pub follow_program : {E : Type 0} (answer : Result (Unit {0}) E) (place : ℕ) (given : List ℕ) (old new : FlashState) → OnOk answer (new.bytes ≡ option_map (λ all. replaced place (cleared place given all) all) old.bytes) → OnErr answer (TornFrom place (cleared place given) old.bytes new.bytes)
    → OnOk answer (CallsFor (Programmed place given) old new) → OnErr answer (CallsFor (ProgramFailed place given) old new) → FollowsCalls old new
follow_program answer place given old new is left called ended =
    follow_write answer (Programmed place given) (ProgramFailed place given) place (cleared place given) old new (λ all. refl) (λ all now torn. torn) is left called ended
