-- What a lister of pieces stands for after a run, after a piece, and at the end of a listing.
use Rattle.std.proofs.Common.{◌≡◌, ℕ, ◌+◌, ◌-◌, ◌<◌, ◌≤◌, Bool, true, false, List, [], ◌++◌, length, take, drop, take-add, take_all, length-take-le, length-drop, length-append, refl, ap, sym, subst, ◌∙◌, append_assoc, append-nil, arith, codes, Vec}
use Rattle.std.specs.declared.alloc.Global.{Global}
use Rattle.x7_packets.specs.Reading.{Place, Searching, EndedSession, IsReading, tail_of}
use Rattle.x7_packets.specs.Cutter.{between, CutterState, CutterStandsFor, ComesNearer, IsRun, AfterRun}
use Rattle.x7_packets.specs.Mode.{Mode}
use Rattle.x7_packets.specs.declared.cutter.Cut.{Cut}
use Rattle.x7_packets.specs.declared.cutter.Cut.TheVariants.{Need, Skip, Sync, Head, Word, Body}
use Rattle.x7_text.specs.Digits.{hex_byte}
use Rattle.x7_text.specs.Row.{close, in_line_after, open_text}
use Rattle.x7_listing.specs.Listing.{IsListing, reading_text}
use Rattle.x7_listing.specs.Pens.{is_in_session}
use Rattle.x7_listing.specs.declared.list.pen.state.GapPen.{GapPen}
use Rattle.x7_listing.specs.declared.list.pen.state.Pen.{Pen}
use Rattle.x7_listing.specs.declared.list.pen.state.Pen.TheVariants as pen
use Rattle.x7_listing.specs.Lister.{HasListed, ListerStandsFor, HasListedJust, WritesRun, lister_of, written_of}
use Rattle.x7_listing.proofs.GapLemmas.{fresh_gap}
use Rattle.x7_listing.proofs.TellingLemmas.{gap_ended, session_over}
use Rattle.x7_listing.proofs.RunLemmas.{need_adds}
use Rattle.x7_packets.proofs.UniqueLemmas.{one_reading}

reached : (piece : List ℕ) (at to : ℕ) → at ≤ to → take at piece ++ between piece at to ≡ take to piece
reached piece at to h = let e : at + (to - at) ≡ to = omega arith in sym (take-add at (to - at) piece) ∙ ap (λ (k : ℕ). take k piece) e

-- a call of the cutter, and what its run writes
pub took : (c d : CutterState) (run : Cut) (synced s2 : Bool) (line l2 at to : ℕ) (held h2 text text2 given before bytes piece : List ℕ)
    → HasListedJust (lister_of c synced line held text) given before (bytes ++ take at piece) → at ≤ to
    → ((bs : List ℕ) (sessions : List EndedSession) (spot : Place) → CutterStandsFor c bs sessions spot → AfterRun c d (bs ++ between piece at to) sessions spot run)
    → IsRun run → WritesRun run (written_of synced line held (given ++ text)) (written_of s2 l2 h2 (given ++ text2))
    → HasListedJust (lister_of d s2 l2 h2 text2) given before (bytes ++ take to piece)
took c d run synced s2 line l2 at to held h2 text text2 given before bytes piece s h went is writes =
    let w : AfterRun c d (bytes ++ take at piece ++ between piece at to) s.sessions s.at run = went (bytes ++ take at piece) s.sessions s.at s.cut in
    let e : bytes ++ take at piece ++ between piece at to ≡ bytes ++ take to piece = append_assoc bytes (take at piece) (between piece at to) ∙ ap (λ t. bytes ++ t) (reached piece at to h) in
    let all : HasListedJust (lister_of d s2 l2 h2 text2) given before (bytes ++ take at piece ++ between piece at to) = record {
      sessions = w.new_sessions;
      at = w.new_place;
      cut = w.stands;
      listed = writes before (bytes ++ take at piece ++ between piece at to) s.sessions w.new_sessions s.at w.new_place c.mode d.mode s.listed w.adds w.mode_changes is w.stands.reading;
    } in
    subst (λ t. HasListedJust (lister_of d s2 l2 h2 text2) given before t) e all

-- an equal cutter, and an equal text
pub listed_as : (c d : CutterState) (t u : Vec ℕ Global) (synced : Bool) (line : ℕ) (held given before bytes : List ℕ) → d ≡ c → u ≡ t → HasListedJust (lister_of c synced line held t.items) given before bytes → HasListedJust (lister_of d synced line held u.items) given before bytes
listed_as c d t u synced line held given before bytes e f s =
    subst (λ (k : CutterState). HasListedJust (lister_of k synced line held u.items) given before bytes) (sym e) (subst (λ (v : Vec ℕ Global). HasListedJust (lister_of c synced line held v.items) given before bytes) (sym f) s)

-- the last call of the cutter, with the piece used up
pub took_all : (c d : CutterState) (run : Cut) (synced : Bool) (line at to : ℕ) (held text given before bytes piece : List ℕ)
    → HasListedJust (lister_of c synced line held text) given before (bytes ++ take at piece) → at ≤ to → length piece ≤ to → run ≡ Need
    → ((bs : List ℕ) (sessions : List EndedSession) (spot : Place) → CutterStandsFor c bs sessions spot → AfterRun c d (bs ++ between piece at to) sessions spot run)
    → ListerStandsFor (lister_of d synced line held text) given before (bytes ++ piece)
took_all c d run synced line at to held text given before bytes piece s h full is went =
    let w0 : AfterRun c d (bytes ++ take at piece ++ between piece at to) s.sessions s.at run = went (bytes ++ take at piece) s.sessions s.at s.cut in
    let w : AfterRun c d (bytes ++ take at piece ++ between piece at to) s.sessions s.at Need = subst (λ r. AfterRun c d (bytes ++ take at piece ++ between piece at to) s.sessions s.at r) is w0 in
    let e : bytes ++ take at piece ++ between piece at to ≡ bytes ++ piece = append_assoc bytes (take at piece) (between piece at to) ∙ ap (λ t. bytes ++ t) (reached piece at to h ∙ take_all to piece full) in
    let all : HasListedJust (lister_of d synced line held text) given before (bytes ++ take at piece ++ between piece at to) = record {
      sessions = w.new_sessions;
      at = w.new_place;
      cut = w.stands;
      listed = need_adds synced line held (given ++ text) before s.sessions w.new_sessions s.at w.new_place c.mode d.mode s.listed w.adds w.mode_changes;
    } in
    record { has_listed = subst (λ t. HasListedJust (lister_of d synced line held text) given before t) e all; ready = w.mode_changes.1 }

-- a pen that is in no gap is in a session
pub not_gap : (p : Pen) → ((gap : GapPen) → p ≡ pen.Gap gap → ⊥) → is_in_session p ≡ true
not_gap (pen.Gap gap) n = absurd (n gap refl)
not_gap (pen.Session words) n = refl
not_gap (pen.Tail words tail) n = refl

pub ended_gap : (synced : Bool) (line : ℕ) (held given old new before bytes : List ℕ) (sessions : List EndedSession) (spot : Place) (m : Mode) → synced ≡ false → HasListed (written_of synced line held (given ++ old)) before sessions spot m → (m ≡ Mode.SyncFound → ⊥)
    → new ≡ old ++ open_text 32 (codes "bytes ") hex_byte line held ++ close (in_line_after 32 line held) → given ++ new ≡ before ++ reading_text sessions spot
ended_gap synced line held given old new before bytes sessions spot m is t d e =
    let t2 : HasListed (written_of false line held (given ++ old)) before sessions spot m = subst (λ s. HasListed (written_of s line held (given ++ old)) before sessions spot m) is t in
    let B : List ℕ = open_text 32 (codes "bytes ") hex_byte line held in
    gap_ended (given ++ old) (given ++ new) before line held bytes sessions spot m t2 d
    (ap (λ x. given ++ x) e ∙ sym (append_assoc given (old ++ B) (close (in_line_after 32 line held))) ∙ ap (λ x. x ++ close (in_line_after 32 line held)) (sym (append_assoc given old B)))

pub ended_session : (synced : Bool) (line : ℕ) (held kept given old new before bytes : List ℕ) (sessions : List EndedSession) (spot : Place) (m : Mode)
    → synced ≡ true → HasListed (written_of synced line held (given ++ old)) before sessions spot m → IsReading bytes sessions spot → kept ≡ tail_of spot
    → new ≡ old ++ close line ++ open_text 32 (codes "bytes ") hex_byte 0 kept ++ close (in_line_after 32 0 kept) → given ++ new ≡ before ++ reading_text sessions spot
ended_session synced line held kept given old new before bytes sessions spot m is t r k e =
    let t2 : HasListed (written_of true line held (given ++ old)) before sessions spot m = subst (λ s. HasListed (written_of s line held (given ++ old)) before sessions spot m) is t in
    let B : List ℕ = open_text 32 (codes "bytes ") hex_byte 0 kept in
    let C : List ℕ = close (in_line_after 32 0 kept) in
    session_over (given ++ old) (given ++ new) before line held kept bytes sessions spot m t2 r k
    (ap (λ x. given ++ x) e ∙ sym (append_assoc given (old ++ close line ++ B) C) ∙ ap (λ x. x ++ C) (sym (append_assoc given (old ++ close line) B)) ∙ ap (λ x. x ++ B ++ C) (sym (append_assoc given old (close line))))

-- a listing that begins
pub begins : (c : CutterState) (synced : Bool) (line : ℕ) (held text given before : List ℕ) → CutterStandsFor c [] [] (Searching []) → synced ≡ false → line ≡ 0 → held ≡ [] → given ++ text ≡ before → (c.mode ≡ Mode.SyncFound → ⊥)
    → ListerStandsFor (lister_of c synced line held text) given before []
begins c synced line held text given before s e f g t d =
    record {
      has_listed = record {
        sessions = [];
        at = Searching [];
        cut = s;
        listed = subst (λ x. HasListed (written_of x line held (given ++ text)) before [] (Searching []) c.mode) (sym e)
            (subst (λ x. HasListed (written_of false x held (given ++ text)) before [] (Searching []) c.mode) (sym f)
            (subst (λ x. HasListed (written_of false 0 x (given ++ text)) before [] (Searching []) c.mode) (sym g)
            (fresh_gap (given ++ text) (before ++ []) [] refl (t ∙ sym (append-nil before)))));
      };
      ready = d;
    }

-- a cutter that took no byte has no sync word to give
pub not_sync_found : (c : CutterState) → CutterStandsFor c [] [] (Searching []) → c.mode ≡ Mode.SyncFound → ⊥
not_sync_found c s e = let h = s.at in let a = rw e at h in a

same_text : (ss ts : List EndedSession) (p q : Place) → ss ≡ ts → p ≡ q → reading_text ss p ≡ reading_text ts q
same_text ss ts p q e f = ap (λ x. reading_text x p) e ∙ ap (reading_text ts) f

pub one_listing : (bytes t u : List ℕ) → IsListing bytes t → IsListing bytes u → t ≡ u
one_listing bytes t u p q =
    let e = one_reading bytes p.sessions q.sessions p.place q.place p.reading q.reading in
    p.text_is ∙ same_text p.sessions q.sessions p.place q.place e.0 e.1 ∙ sym q.text_is

-- the bytes of a run and those kept then are those kept before and those taken
pub run_length : (kept kept2 run piece : List ℕ) (at to : ℕ) → at ≤ to → to ≤ length piece → kept ++ between piece at to ≡ run ++ kept2 → length kept + (to - at) ≡ length run + length kept2
run_length kept kept2 run piece at to h k e =
    let long : length (between piece at to) ≡ to - at = length-take-le (to - at) (drop at piece) (omega (arith, length-drop at piece)) in
    omega (arith, ap length e, length-append kept (between piece at to), length-append run kept2, long)

-- a call that took a run comes nearer to the piece's end
pub goes_less : (run : Cut) (left before after : ℕ) → (run ≡ Need → ⊥) → ComesNearer run left before after → after < before
goes_less Need left before after n g = absurd (n refl)
goes_less (Skip bytes) left before after n g = g
goes_less Sync left before after n g = g
goes_less (Head w step) left before after n g = g
goes_less (Word register w) left before after n g = g
goes_less (Body register bytes) left before after n g = g
