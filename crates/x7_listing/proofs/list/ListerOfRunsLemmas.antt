-- Lemmas on specs/ListerOfRuns.
use Rattle.std.proofs.Common.{◌≡◌, ℕ, Bool, true, false, List, [], ◌++◌, Bor, if◌then◌else◌, refl, ap, sym, subst, ◌∙◌, append-nil}
use Rattle.x7_packets.specs.Reading.{Place, Searching, Synced, EndedSession, IsReading, tail_of}
use Rattle.x7_packets.specs.Cutter.{CutAdds, CutterStandsFor, IsNeed, IsRun}
use Rattle.x7_packets.specs.Run.{FitsRun, IsNext, RunAdds, cut_of, is_last, bytes_of_run}
use Rattle.x7_packets.specs.declared.cutter.Cut.{Cut}
use Rattle.x7_packets.specs.Mode.{Mode}
use Rattle.x7_packets.specs.declared.stream.Run.{Run}
use Rattle.x7_packets.specs.declared.stream.Run.TheVariants as run
use Rattle.x7_packets.proofs.StreamLemmas.{bare_after}
use Rattle.x7_packets.proofs.UniqueLemmas.{one_reading}
use Rattle.x7_listing.specs.Listing.{reading_text, sessions_text}
use Rattle.x7_listing.specs.Lister.{HasFinished, ListerState, TakerStandsFor, SessionListed, HasListed, HasListedAt, WritesRun, written_of}
use Rattle.x7_listing.specs.ListerOfRuns.{TakesRun, runs_listed}
use Rattle.x7_listing.proofs.GapLemmas.{fresh_gap}
use Rattle.x7_listing.proofs.list.ListerLemmas.{begins, not_sync_found}

-- ---- runs that are a cutter's

goes_on : (r : Run) → is_last r ≡ false → IsNeed (cut_of r) → ⊥
goes_on (run.Skip bytes) e n = n
goes_on run.Sync e n = n
goes_on (run.Head w step) e n = n
goes_on (run.Word register w) e n = n
goes_on (run.Body register bytes) e n = n
goes_on (run.Tail bytes) e n = let f : true ≡ false = e in cc
goes_on run.End e n = let f : true ≡ false = e in cc

cut_adds : (r : Run) (sessions new_sessions : List EndedSession) (place new : Place) → is_last r ≡ false → RunAdds r sessions place new_sessions new → CutAdds (cut_of r) sessions place new_sessions new
cut_adds (run.Skip bytes) s ns p n e a = a
cut_adds run.Sync s ns p n e a = a
cut_adds (run.Head w step) s ns p n e a = a
cut_adds (run.Word register w) s ns p n e a = a
cut_adds (run.Body register bytes) s ns p n e a = a
cut_adds (run.Tail bytes) s ns p n e a = absurd (let f : true ≡ false = e in cc)
cut_adds run.End s ns p n e a = absurd (let f : true ≡ false = e in cc)

pub cut_fits : (r : Run) → is_last r ≡ false → FitsRun r → IsRun (cut_of r)
cut_fits (run.Skip bytes) e f = f
cut_fits run.Sync e f = f
cut_fits (run.Head w step) e f = f
cut_fits (run.Word register w) e f = f
cut_fits (run.Body register bytes) e f = f
cut_fits (run.Tail bytes) e f = absurd (let g : true ≡ false = e in cc)
cut_fits run.End e f = absurd (let g : true ≡ false = e in cc)

takes_as : (r : Run) (l : ListerState) (given before bytes : List ℕ) (due : Mode) → is_last r ≡ false → TakerStandsFor l given before bytes due → TakesRun r l (runs_listed given before bytes due)
takes_as (run.Skip x) l given before bytes due e t = t
takes_as run.Sync l given before bytes due e t = t
takes_as (run.Head w step) l given before bytes due e t = t
takes_as (run.Word register w) l given before bytes due e t = t
takes_as (run.Body register x) l given before bytes due e t = t
takes_as (run.Tail x) l given before bytes due e t = t
takes_as run.End l given before bytes due e t = absurd (let g : true ≡ false = e in cc)

-- ---- a run

-- what was listed of bytes, by any reading of them
listed_by : (l : ListerState) (given before bytes : List ℕ) (due : Mode) (t : TakerStandsFor l given before bytes due) (sessions : List EndedSession) (place : Place) → IsReading bytes sessions place
    → HasListed (written_of l.is_synced l.in_line l.held (given ++ l.text)) before sessions place due × (t.at ≡ place)
listed_by l given before bytes due t sessions place r =
    let e : (t.sessions ≡ sessions) × (t.at ≡ place) = one_reading bytes t.sessions sessions t.at place t.reading r in (
      subst (λ p. HasListed (written_of l.is_synced l.in_line l.held (given ++ l.text)) before sessions p due) e.1 (subst (λ (s : List EndedSession). HasListed (written_of l.is_synced l.in_line l.held (given ++ l.text)) before s t.at due) e.0 t.listed),
      e.1,
    )

pub takes_run : (l n : ListerState) (r : Run) (given before bytes : List ℕ) (due next : Mode) → is_last r ≡ false → n.cutter ≡ l.cutter
    → WritesRun (cut_of r) (written_of l.is_synced l.in_line l.held (given ++ l.text)) (written_of n.is_synced n.in_line n.held (given ++ n.text)) → ((IsNeed (cut_of r) → ⊥) → n.is_synced ≡ true → n.held ≡ [])
    → TakerStandsFor l given before bytes due → IsNext bytes due r next → TakesRun r n (runs_listed given before (bytes ++ bytes_of_run r) next)
takes_run l n r given before bytes due next on same writes none t x =
    let listed = (listed_by l given before bytes due t x.sessions x.place x.before).0 in
    let adds : CutAdds (cut_of r) x.sessions x.place x.new_sessions x.new_place = cut_adds r x.sessions x.new_sessions x.place x.new_place on x.adds in
    takes_as r n given before (bytes ++ bytes_of_run r) next on (record {
      sessions = x.new_sessions;
      at = x.new_place;
      reading = x.after;
      listed = writes before (bytes ++ bytes_of_run r) x.sessions x.new_sessions x.place x.new_place due next listed adds x.mode_changes (cut_fits r on x.fits) x.after;
      tail = λ s. none (goes_on r on) s ∙ sym (bare_after (cut_of r) x.sessions x.place x.new_sessions x.new_place (goes_on r on) adds);
      cutter = rw same t.cutter;
    })

-- a run that is no tail and no end is taken as the run of a cutter
pub takes_cut : (l n : ListerState) (r : Run) (k : Cut) (given before bytes : List ℕ) (due next : Mode) → ((tail : Bor (List ℕ)) → r ≡ run.Tail tail → ⊥) → (r ≡ run.End → ⊥) → n.cutter ≡ l.cutter → k ≡ cut_of r
    → WritesRun k (written_of l.is_synced l.in_line l.held (given ++ l.text)) (written_of n.is_synced n.in_line n.held (given ++ n.text)) → ((IsNeed k → ⊥) → n.is_synced ≡ true → n.held ≡ [])
    → TakerStandsFor l given before bytes due → IsNext bytes due r next → TakesRun r n (runs_listed given before (bytes ++ bytes_of_run r) next)
takes_cut l n r k given before bytes due next no_tail no_end same e writes none t x =
    takes_run l n r given before bytes due next (goes_if r no_tail no_end) same
    (subst (λ c. WritesRun c (written_of l.is_synced l.in_line l.held (given ++ l.text)) (written_of n.is_synced n.in_line n.held (given ++ n.text))) e writes)
    (subst (λ c. (IsNeed c → ⊥) → n.is_synced ≡ true → n.held ≡ []) e none) t x
  where
    goes_if : (r : Run) → ((tail : Bor (List ℕ)) → r ≡ run.Tail tail → ⊥) → (r ≡ run.End → ⊥) → is_last r ≡ false
    goes_if (run.Skip bytes) a b = refl
    goes_if run.Sync a b = refl
    goes_if (run.Head w step) a b = refl
    goes_if (run.Word register w) a b = refl
    goes_if (run.Body register bytes) a b = refl
    goes_if (run.Tail bytes) a b = absurd (a bytes refl)
    goes_if run.End a b = absurd (b refl)

-- ---- the tail

listed_tail : (synced : Bool) (line l2 : ℕ) (held all before : List ℕ) (bytes : Bor (List ℕ)) (sessions new_sessions : List EndedSession) (place new : Place) (old next : Mode) → (synced ≡ true → l2 ≡ line)
    → HasListed (written_of synced line held all) before sessions place old → RunAdds (run.Tail bytes) sessions place new_sessions new → (old ≡ Mode.SyncFound → ⊥) → (next ≡ Mode.SyncFound → ⊥)
    → HasListed (written_of true l2 bytes.now all) before new_sessions new next × (tail_of new ≡ bytes.now)
listed_tail synced line l2 held all before bytes sessions ns (Searching gap) new old next same t a d e = absurd a
listed_tail false line l2 held all before bytes sessions ns (Synced gap packets tail) new old next same t a d e = absurd (d t.0)
listed_tail true line l2 held all before bytes sessions ns (Synced gap packets tail) new old next same t a d e = (
  subst (λ p. HasListedAt (written_of true l2 bytes.now all) (before ++ sessions_text ns) p next) (sym a.2)
      (e, subst (λ (l : ℕ). SessionListed all (before ++ sessions_text ns) l gap packets) (sym (same refl)) (subst (λ (s : List EndedSession). SessionListed all (before ++ sessions_text s) line gap packets) (sym a.0) t.1)),
  ap tail_of a.2,
)

pub takes_tail : (l n : ListerState) (tail : Bor (List ℕ)) (given before bytes : List ℕ) (due next : Mode) → n.cutter ≡ l.cutter → n.is_synced ≡ true → (l.is_synced ≡ true → n.in_line ≡ l.in_line) → n.held ≡ tail.now → n.text ≡ l.text
    → TakerStandsFor l given before bytes due → IsNext bytes due (run.Tail tail) next → TakerStandsFor n given before (bytes ++ tail.now) next
takes_tail l n tail given before bytes due next c s i h e t x =
    let listed = (listed_by l given before bytes due t x.sessions x.place x.before).0 in
    let now = listed_tail l.is_synced l.in_line n.in_line l.held (given ++ l.text) before tail x.sessions x.new_sessions x.place x.new_place due next i listed x.adds x.mode_changes.0 x.mode_changes.1 in
    record {
      sessions = x.new_sessions;
      at = x.new_place;
      reading = x.after;
      listed = rw (s, h, e) now.0;
      tail = λ _. h ∙ sym now.1;
      cutter = rw c t.cutter;
    }

-- ---- the end

-- a listing that begins
pub starts : (l : ListerState) (given before : List ℕ) → CutterStandsFor l.cutter [] [] (Searching []) → l.is_synced ≡ false → l.in_line ≡ 0 → l.held ≡ [] → given ++ l.text ≡ before → TakerStandsFor l given before [] Mode.Searching
starts l given before c s i h e = record {
  sessions = [];
  at = Searching [];
  reading = c.reading;
  listed = rw (s, i, h) (fresh_gap (given ++ l.text) (before ++ []) [] refl (e ∙ sym (append-nil before)));
  tail = λ f. absurd (let g : false ≡ true = sym s ∙ f in cc);
  cutter = c;
}

pub takes_end : (l n : ListerState) (given before bytes : List ℕ) (due next : Mode) → n.cutter ≡ l.cutter → n.is_synced ≡ false → n.in_line ≡ 0 → n.held ≡ []
    → ((given before bytes : List ℕ) (sessions : List EndedSession) (place : Place) (m : Mode) → HasListed (written_of l.is_synced l.in_line l.held (given ++ l.text)) before sessions place m → (m ≡ Mode.SyncFound → ⊥) → IsReading bytes sessions place
    → (l.is_synced ≡ true → l.held ≡ tail_of place) → given ++ n.text ≡ before ++ reading_text sessions place)
    → TakerStandsFor l given before bytes due → IsNext bytes due run.End next → HasFinished n given before (bytes ++ [])
takes_end l n given before bytes due next c s i h writes t x =
    let cutter : CutterStandsFor n.cutter [] [] (Searching []) = rw c t.cutter in
    let listing : List ℕ = reading_text t.sessions t.at in
    let listed : given ++ n.text ≡ before ++ listing = writes given before bytes t.sessions t.at due t.listed x.mode_changes.0 t.reading t.tail in
    record {
      listing = listing;
      listing_is = record { sessions = t.sessions; place = t.at; reading = rw (append-nil bytes) t.reading; text_is = refl };
      listed = listed;
      stands = begins n.cutter n.is_synced n.in_line n.held n.text given (before ++ listing) cutter s i h listed (not_sync_found n.cutter cutter);
      takes = starts n given (before ++ listing) cutter s i h listed;
    }

-- the bytes that a pen holds at the end are the tail
pub last_kept : (synced : Bool) (line : ℕ) (held all before : List ℕ) (sessions : List EndedSession) (place : Place) (m : Mode) → HasListed (written_of synced line held all) before sessions place m
    → (m ≡ Mode.SyncFound → ⊥) → (synced ≡ true → held ≡ tail_of place) → (if synced then held else []) ≡ tail_of place
last_kept true line held all before sessions place m t d k = k refl
last_kept false line held all before sessions (Searching gap) m t d k = refl
last_kept false line held all before sessions (Synced gap packets tail) m t d k = absurd (d t.0)
