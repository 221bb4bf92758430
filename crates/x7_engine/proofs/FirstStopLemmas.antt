-- Lemmas on specs/FirstStop: the stop of bytes is the first one.
use Rattle.std.proofs.Common.{◌≡◌, ◌==◌, ◌+◌, ◌-◌, ◌<◌, ◌≤◌, ◌⊎◌, inl, inr, ℕ, zero, suc, Bool, true, false, if◌then◌else◌, Option, None, Some, List, [], ◌∷◌, ◌++◌, length, take, drop, refl, ap, sym, subst, ◌∙◌, arith}
use Rattle.std.proofs.lemmas.Bool.Decides.{nat_tests}
use Rattle.std.proofs.Math.Seq.{take-length}
use Rattle.std.proofs.lemmas.List.{length-take-le, take-append-drop}
use Rattle.std.specs.Option.{option_or}
use Rattle.x7_words.specs.Word.{AreBytes}
use Rattle.x7_words.proofs.ListLemmas.{all_prefix}
use Rattle.x7_packets.specs.History.{Access, History, Placed, entry, history_of}
use Rattle.x7_packets.proofs.GrowthLemmas.{OneMore, byte_enters, placed_of}
use Rattle.x7_part.specs.Part.{PartData}
use Rattle.x7_engine.specs.declared.fault.Fault.TheVariants as fault
use Rattle.x7_engine.specs.declared.kept.Kept.{Kept}
use Rattle.x7_engine.specs.declared.stop.StopCause.{StopCause}
use Rattle.x7_engine.specs.declared.stop.StopCause.TheVariants as stop
use Rattle.x7_engine.specs.FirstStop.{IsFirstStop, why_at_byte, why_at_newest}
use Rattle.x7_engine.specs.State.{first_stop_of_bytes}
use Rattle.x7_engine.specs.Stop.{Stopped, why_at_access, first_stop_of_history, stop_at_place, stop_at_firing}
use Rattle.x7_engine.specs.Watching.{fired_or, watchdog_fires, first_firing}
use Rattle.x7_engine.proofs.ClockLemmas.{stop_more_bytes, or_none}
use Rattle.x7_engine.proofs.TurnLemmas.{newest_within}

-- ---- a byte more of a list

pub split_at : (bytes : List ℕ) (n : ℕ) → n < length bytes → (x : ℕ) × (take (suc n) bytes ≡ take n bytes ++ x ∷ [])
split_at [] n l = absurd (omega (arith, l))
split_at (x ∷ bytes) zero l = (x, refl)
split_at (x ∷ bytes) (suc n) l = let more = split_at bytes n (omega (arith, l)) in (more.0, ap (λ (t : List ℕ). x ∷ t) more.1)

pub bytes_taken : (bytes : List ℕ) (n : ℕ) → AreBytes bytes → AreBytes (take n bytes)
bytes_taken bytes n f = all_prefix (λ b. b < 256) (take n bytes) (drop n bytes) (subst AreBytes (sym (take-append-drop n bytes)) f)

-- ---- the stop of a byte more

or_assoc : {A : Type 0} (a b c : Option A) → option_or (option_or a b) c ≡ option_or a (option_or b c)
or_assoc (Some x) b c = refl
or_assoc None b c = refl

-- why a byte stops a device: by the watchdog, or by an access
abbrev why_by_fire : Bool → Option StopCause → Option StopCause
why_by_fire b why = if b then Some (stop.Fault fault.Watchdog) else why

fired_why : (b : Bool) (n : ℕ) (why : Option StopCause) → option_or (stop_at_firing (fired_or None b n)) (stop_at_place n why) ≡ stop_at_place n (why_by_fire b why)
fired_why true n why = refl
fired_why false n why = refl

none_newest : (part : PartData) (kept : Kept) (n : ℕ) (h : History) → Placed n h → why_at_newest part kept h (suc n) ≡ None
none_newest part kept n [] p = refl
none_newest part kept n (e ∷ h) p = let not_here : (e.place == suc n) ≡ false = grind (arith, nat_tests, p.1) in rw not_here refl

some_newest : (part : PartData) (kept : Kept) (n : ℕ) (h : History) (access : Access) → why_at_newest part kept (entry access n ∷ h) n ≡ why_at_access part kept h access
some_newest part kept n h access = let here : (n == n) ≡ true = grind (arith, nat_tests) in rw here refl

-- the first stop up to one byte more, without the access that ends there
fired_next : (part : PartData) (kept : Kept) (h : History) (n : ℕ) → Placed n h → first_stop_of_history part kept h (suc n) ≡ option_or (first_stop_of_history part kept h n) (stop_at_firing (fired_or None (watchdog_fires part kept h (suc n)) (suc n)))
fired_next part kept h n p =
    let next : suc n ≡ n + 1 = omega arith in
    let here : n + 0 + 1 ≡ suc n = omega arith in
    ap (first_stop_of_history part kept h) next ∙ stop_more_bytes part kept h n 1 (newest_within n h p)
    ∙ ap (λ (m : ℕ). option_or (first_stop_of_history part kept h n) (stop_at_firing (fired_or None (watchdog_fires part kept h m) m))) here

-- the first stop up to a byte, with the access that ends there
fired_entered : (part : PartData) (kept : Kept) (h : History) (n : ℕ) (access : Access) → first_stop_of_history part kept (entry access n ∷ h) n ≡ option_or (first_stop_of_history part kept h n) (stop_at_place n (why_at_access part kept h access))
fired_entered part kept h n access =
    let none : n - n ≡ 0 = omega arith in
    ap (λ (m : ℕ). option_or (first_stop_of_history part kept h n) (option_or (stop_at_place n (why_at_access part kept h access)) (stop_at_firing (first_firing part kept (entry access n ∷ h) n m)))) none
    ∙ ap (option_or (first_stop_of_history part kept h n)) (or_none (stop_at_place n (why_at_access part kept h access)))

stop_next : (part : PartData) (kept : Kept) (h g : History) (n : ℕ) → Placed n h → OneMore (suc n) h g
    → first_stop_of_history part kept g (suc n) ≡ option_or (first_stop_of_history part kept h n) (stop_at_place (suc n) (why_by_fire (watchdog_fires part kept h (suc n)) (why_at_newest part kept g (suc n))))
stop_next part kept h g n p (inl e) =
    let fired : Bool = watchdog_fires part kept h (suc n) in
    ap (λ (x : History). first_stop_of_history part kept x (suc n)) e
    ∙ fired_next part kept h n p
    ∙ ap (option_or (first_stop_of_history part kept h n)) (sym (or_none (stop_at_firing (fired_or None fired (suc n)))) ∙ fired_why fired (suc n) None)
    ∙ ap (λ (o : Option StopCause). option_or (first_stop_of_history part kept h n) (stop_at_place (suc n) (why_by_fire fired o))) (sym (ap (λ (x : History). why_at_newest part kept x (suc n)) e ∙ none_newest part kept n h p))
stop_next part kept h g n p (inr more) =
    let access : Access = more.0 in
    let fired : Bool = watchdog_fires part kept h (suc n) in
    ap (λ (x : History). first_stop_of_history part kept x (suc n)) more.1
    ∙ fired_entered part kept h (suc n) access
    ∙ ap (λ (o : Option Stopped). option_or o (stop_at_place (suc n) (why_at_access part kept h access))) (fired_next part kept h n p)
    ∙ or_assoc (first_stop_of_history part kept h n) (stop_at_firing (fired_or None fired (suc n))) (stop_at_place (suc n) (why_at_access part kept h access))
    ∙ ap (option_or (first_stop_of_history part kept h n)) (fired_why fired (suc n) (why_at_access part kept h access))
    ∙ ap (λ (o : Option StopCause). option_or (first_stop_of_history part kept h n) (stop_at_place (suc n) (why_by_fire fired o))) (sym (ap (λ (x : History). why_at_newest part kept x (suc n)) more.1 ∙ some_newest part kept (suc n) h access))

-- ---- the first of a row of stops

abbrev IsRow : (ℕ → Option Stopped) → (ℕ → Option StopCause) → ℕ → Type 0
IsRow stops whys most = (stops 0 ≡ None) × ((n : ℕ) → n < most → stops (suc n) ≡ option_or (stops n) (stop_at_place (suc n) (whys (suc n))))

record IsLeast (whys : ℕ → Option StopCause) (most : ℕ) (s : Stopped) : Type 0 where
  some : 0 < s.place
  within : s.place ≤ most
  holds : whys s.place ≡ Some s.why
  none_earlier : (n : ℕ) → 0 < n → n < s.place → whys n ≡ None

abbrev AreNone : (ℕ → Option StopCause) → ℕ → Type 0
AreNone whys most = (n : ℕ) → 0 < n → n ≤ most → whys n ≡ None

none_more : (whys : ℕ → Option StopCause) (n : ℕ) → AreNone whys n → whys (suc n) ≡ None → AreNone whys (suc n)
none_more whys n f e m some few = elim (m == suc n) as (λ b. (m == suc n) ≡ b → whys m ≡ None) [
  | true ↦ λ q. let same : m ≡ suc n = grind (arith, nat_tests, q) in ap whys same ∙ e
  | false ↦ λ q. f m some (let less : m ≤ n = grind (arith, nat_tests, q, few) in less)
] refl

-- what a row comes to at place n: none where no place up to it has a cause, else the least place that has one
abbrev Found : (ℕ → Option StopCause) → ℕ → Option Stopped → Type 0
Found whys n None = AreNone whys n
Found whys n (Some s) = IsLeast whys n s

found_more : (whys : ℕ → Option StopCause) (n : ℕ) (o : Option Stopped) (why : Option StopCause) → whys (suc n) ≡ why → Found whys n o → Found whys (suc n) (option_or o (stop_at_place (suc n) why))
found_more whys n (Some s) why e f = record { some = f.some; within = omega (arith, f.within); holds = f.holds; none_earlier = f.none_earlier }
found_more whys n None None e f = none_more whys n f e
found_more whys n None (Some why) e f = record { some = omega arith; within = omega arith; holds = e; none_earlier = λ m some less. f m some (omega (arith, less)) }

found : (stops : ℕ → Option Stopped) (whys : ℕ → Option StopCause) (most n : ℕ) → IsRow stops whys most → n ≤ most → Found whys n (stops n)
found stops whys most zero r l = subst (λ (o : Option Stopped). Found whys 0 o) (sym r.0) (λ m some few. absurd (omega (arith, some, few)))
found stops whys most (suc n) r l =
    subst (λ (o : Option Stopped). Found whys (suc n) o) (sym (r.1 n (omega (arith, l))))
    (found_more whys n (stops n) (whys (suc n)) refl (found stops whys most n r (omega (arith, l))))

-- what a row comes to is the least place that has a cause
one_least : (whys : ℕ → Option StopCause) (most : ℕ) (o : Option Stopped) (s : Stopped) → Found whys most o → IsLeast whys most s → o ≡ Some s
one_least whys most None s f i = absurd (let no : Some s.why ≡ None = sym i.holds ∙ f s.place i.some i.within in cc)
one_least whys most (Some t) s f i = by (t.place == s.place) refl
  where
    by : (b : Bool) → (t.place == s.place) ≡ b → Some t ≡ Some s
    by true q =
        let place : t.place ≡ s.place = grind (arith, nat_tests, q) in
        let same : Some t.why ≡ Some s.why = sym f.holds ∙ ap whys place ∙ i.holds in
        let why : t.why ≡ s.why = cc in
        ap Some (λ j. record { place = place j; why = why j })
    by false q = absurd (elim (less_or_more t.place s.place q) [
      | inl l ↦ (let no : Some t.why ≡ None = sym f.holds ∙ i.none_earlier t.place f.some l in cc)
      | inr l ↦ (let no : Some s.why ≡ None = sym i.holds ∙ f.none_earlier s.place i.some l in cc)
    ])
      where
        less_or_more : (a b : ℕ) → (a == b) ≡ false → (a < b) ⊎ (b < a)
        less_or_more a b e = grind (arith, nat_tests, e)

-- ---- the first stop of bytes

-- the history of a byte more
pub one_more : (bytes : List ℕ) (n : ℕ) → AreBytes bytes → n < length bytes → Placed n (history_of (take n bytes)) × OneMore (suc n) (history_of (take n bytes)) (history_of (take (suc n) bytes))
one_more bytes n fits l =
    let more = split_at bytes n l in
    let b : List ℕ = take n bytes in
    let count : length b ≡ n = length-take-le n bytes (omega (arith, l)) in
    let fits_more : AreBytes (b ++ more.0 ∷ []) = subst AreBytes more.1 (bytes_taken bytes (suc n) fits) in
    let one : length b + 1 ≡ suc n = omega (arith, count) in (
      subst (λ (m : ℕ). Placed m (history_of b)) count (placed_of b (bytes_taken bytes n fits)),
      subst (λ (m : ℕ). OneMore m (history_of b) (history_of (take (suc n) bytes))) one (subst (λ (t : List ℕ). OneMore (length b + 1) (history_of b) (history_of t)) (sym more.1) (byte_enters b more.0 fits_more)),
    )

row_of : (part : PartData) (kept : Kept) (bytes : List ℕ) → AreBytes bytes → IsRow (λ n. first_stop_of_bytes part kept (take n bytes)) (why_at_byte part kept bytes) (length bytes)
row_of part kept bytes fits = (
  refl,
  λ n l.
      let b : List ℕ = take n bytes in
      let count : length b ≡ n = length-take-le n bytes (omega (arith, l)) in
      let whole : length (take (suc n) bytes) ≡ suc n = length-take-le (suc n) bytes (omega (arith, l)) in
      let more = one_more bytes n fits l in
      let before : suc n - 1 ≡ n = omega arith in
      ap (first_stop_of_history part kept (history_of (take (suc n) bytes))) whole
      ∙ stop_next part kept (history_of b) (history_of (take (suc n) bytes)) n more.0 more.1
      ∙ ap (λ (m : ℕ). option_or (first_stop_of_history part kept (history_of b) m) (stop_at_place (suc n) (why_by_fire (watchdog_fires part kept (history_of b) (suc n)) (why_at_newest part kept (history_of (take (suc n) bytes)) (suc n))))) (sym count)
      ∙ ap (λ (m : ℕ). option_or (first_stop_of_bytes part kept b) (stop_at_place (suc n) (why_by_fire (watchdog_fires part kept (history_of (take m bytes)) (suc n)) (why_at_newest part kept (history_of (take (suc n) bytes)) (suc n))))) (sym before),
)

found_in : (part : PartData) (kept : Kept) (bytes : List ℕ) → AreBytes bytes → Found (why_at_byte part kept bytes) (length bytes) (first_stop_of_bytes part kept bytes)
found_in part kept bytes fits =
    subst (λ (t : List ℕ). Found (why_at_byte part kept bytes) (length bytes) (first_stop_of_bytes part kept t)) (take-length bytes)
    (found (λ n. first_stop_of_bytes part kept (take n bytes)) (why_at_byte part kept bytes) (length bytes) (length bytes) (row_of part kept bytes fits) (omega arith))

pub stop_is_first : (part : PartData) (kept : Kept) (bytes : List ℕ) (s : Stopped) → AreBytes bytes → first_stop_of_bytes part kept bytes ≡ Some s → IsFirstStop part kept bytes s
stop_is_first part kept bytes s fits e =
    let f : IsLeast (why_at_byte part kept bytes) (length bytes) s = subst (λ (o : Option Stopped). Found (why_at_byte part kept bytes) (length bytes) o) e (found_in part kept bytes fits) in
    record { at_least_one = f.some; within = f.within; holds = f.holds; none_earlier = f.none_earlier }

pub first_is_stop : (part : PartData) (kept : Kept) (bytes : List ℕ) (s : Stopped) → AreBytes bytes → IsFirstStop part kept bytes s → first_stop_of_bytes part kept bytes ≡ Some s
first_is_stop part kept bytes s fits f =
    one_least (why_at_byte part kept bytes) (length bytes) (first_stop_of_bytes part kept bytes) s (found_in part kept bytes fits) (record { some = f.at_least_one; within = f.within; holds = f.holds; none_earlier = f.none_earlier })

pub no_stop_none : (part : PartData) (kept : Kept) (bytes : List ℕ) (n : ℕ) → AreBytes bytes → first_stop_of_bytes part kept bytes ≡ None → 0 < n → n ≤ length bytes → why_at_byte part kept bytes n ≡ None
no_stop_none part kept bytes n fits e = subst (λ (o : Option Stopped). Found (why_at_byte part kept bytes) (length bytes) o) e (found_in part kept bytes fits) n
