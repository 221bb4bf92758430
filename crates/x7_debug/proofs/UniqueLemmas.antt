-- A line is that of one order at most, and a text comes to one script, or to one bad line.
use Rattle.std.proofs.Common.{◌≡◌, ◌⊎◌, inl, inr, ℕ, suc, ◌+◌, ◌*◌, ◌-◌, ◌^◌, ◌<◌, ◌==◌, if◌then◌else◌, Bool, true, List, [], ◌∷◌, ◌++◌, Result, Ok, Err, length, map, get_or, drop, cond, refl, ap, sym, ◌∙◌, arith, rules}
use Rattle.std.proofs.lemmas.Fmt.{digits_value-decimal}
use Rattle.std.proofs.lemmas.Str.Parse.{IsNumeralModel, numerals_by_fold}
use Rattle.std.proofs.lemmas.List.Elements.{filter-append}
use Rattle.std.specs.Fmt.{decimal}
use Rattle.std.specs.List.{AllByRecursion, filter}
use Rattle.std.specs.Str.{all_ascii_digits}
use Rattle.x7_text.specs.DigitValue.{word_value}
use Rattle.x7_text.specs.Lines.{split}
use Rattle.x7_text.proofs.ValueLemmas.{word_back}
use Rattle.x7_debug.specs.declared.fault.ScriptFault.{ScriptFault}
use Rattle.x7_debug.specs.declared.fault.ScriptFault.TheVariants as fault
use Rattle.x7_debug.specs.declared.order.Order.{Order}
use Rattle.x7_debug.specs.declared.order.Order.TheVariants as order
use Rattle.x7_debug.specs.declared.order.Stop.{Stop}
use Rattle.x7_debug.specs.declared.order.Stop.TheVariants as stop
use Rattle.x7_debug.specs.Script.{AreOrders, FitsOrder, FitsStop, has_meaning, IsFirstBadLine, IsNoOrder, IsScriptOf, order_text, stop_text}

-- the number of digits
abbrev pub number_after : ℕ → List ℕ → ℕ
number_after n [] = n
number_after n (c ∷ cs) = number_after (10 * n + (c - 48)) cs

own : IsNumeralModel (λ ds. all_ascii_digits ds ≡ true) (number_after 0)
own = numerals_by_fold _ (search rules) number_after (search rules)

number_back : (n : ℕ) → n < 2 ^ 64 → number_after 0 (decimal n) ≡ n
number_back n h = digits_value-decimal own n h

-- the order of a line, if it is one's, by its first letter; `until` goes by the second letter after it
abbrev pub stop_by : List ℕ → Stop
stop_by words =
    if get_or words 1 0 == 121 then stop.Synced else
    if get_or words 1 0 == 101 then stop.Searching else
    if get_or words 1 0 == 116 then stop.Stopped else stop.Phase (number_after 0 (drop 6 words))

abbrev pub order_by : List ℕ → Order
order_by line =
    if get_or line 0 0 == 115 then order.Step (number_after 0 (drop 5 line)) else
    if get_or line 0 0 == 98 then order.Back (number_after 0 (drop 5 line)) else
    if get_or line 0 0 == 103 then order.Go (number_after 0 (drop 3 line)) else
    if get_or line 0 0 == 117 then order.Until (stop_by (drop 6 line)) else
    if get_or line 0 0 == 114 then order.Regs else
    if get_or line 0 0 == 112 then order.Phase else order.Frame (word_value (drop 6 line))

stop_is : (s : Stop) → FitsStop s → stop_by (stop_text s) ≡ s
stop_is stop.Synced h = refl
stop_is stop.Searching h = refl
stop_is stop.Stopped h = refl
stop_is (stop.Phase n) h = ap stop.Phase (number_back n (omega arith))

pub order_is : (o : Order) → FitsOrder o → order_by (order_text o) ≡ o
order_is (order.Step n) h = ap order.Step (number_back n (omega arith))
order_is (order.Back n) h = ap order.Back (number_back n (omega arith))
order_is (order.Go n) h = ap order.Go (number_back n (omega arith))
order_is (order.Until s) h = ap order.Until (stop_is s h)
order_is order.Regs h = refl
order_is order.Phase h = refl
order_is (order.Frame far) h = ap order.Frame (word_back far h)

pub one_order : (a b : Order) → FitsOrder a → FitsOrder b → order_text a ≡ order_text b → a ≡ b
one_order a b f g e = sym (order_is a f) ∙ ap order_by e ∙ order_is b g

-- ---- scripts

one_list : (ps bs : List Order) → AllByRecursion FitsOrder ps → AllByRecursion FitsOrder bs → map order_text ps ≡ map order_text bs → ps ≡ bs
one_list [] [] f g e = refl
one_list [] (b ∷ bs) f g e = absurd cc
one_list (a ∷ ps) [] f g e = absurd cc
one_list (a ∷ ps) (b ∷ bs) f g e =
    let first : order_text a ≡ order_text b = cc in
    let rest : map order_text ps ≡ map order_text bs = cc in
    let head : a ≡ b = one_order a b f.0 g.0 first in
    let tail : ps ≡ bs = one_list ps bs f.1 g.1 rest in
    cc

-- a line that is no order's isn't among those of orders
none_among : (ps : List Order) (prefix back : List (List ℕ)) (bad : List ℕ) → AllByRecursion FitsOrder ps → IsNoOrder bad → map order_text ps ≡ prefix ++ bad ∷ back → ⊥
none_among [] [] back bad f n e = absurd cc
none_among [] (x ∷ prefix) back bad f n e = absurd cc
none_among (a ∷ ps) [] back bad f n e = let is : bad ≡ order_text a = cc in n.no_order a f.0 is
none_among (a ∷ ps) (x ∷ prefix) back bad f n e = let rest : map order_text ps ≡ prefix ++ bad ∷ back = cc in none_among ps prefix back bad f.1 n rest

-- a bad line keeps its place among those that have a meaning
bad_stays : (before after : List (List ℕ)) (bad : List ℕ) → IsNoOrder bad → filter has_meaning (before ++ bad ∷ after) ≡ filter has_meaning before ++ bad ∷ filter has_meaning after
bad_stays before after bad n =
    filter-append has_meaning before (bad ∷ after) ∙ ap (λ (b : Bool). filter has_meaning before ++ cond b (bad ∷ filter has_meaning after) (filter has_meaning after)) n.meaning

none_in : (lines before after : List (List ℕ)) (orders : List Order) (bad : List ℕ) → AreOrders lines orders → IsNoOrder bad → lines ≡ before ++ bad ∷ after → ⊥
none_in lines before after orders bad good n e =
    none_among orders (filter has_meaning before) (filter has_meaning after) bad good.fit n (sym good.texts ∙ ap (filter has_meaning) e ∙ bad_stays before after bad n)

-- of two elements of a list one comes first, or they stand at one place
apart : (xs ys ps bs : List (List ℕ)) (b c : List ℕ) → xs ++ b ∷ ps ≡ ys ++ c ∷ bs → (length xs ≡ length ys) ⊎ (((more : List (List ℕ)) × (ys ≡ xs ++ b ∷ more)) ⊎ ((more : List (List ℕ)) × (xs ≡ ys ++ c ∷ more)))
apart [] [] ps bs b c e = inl refl
apart [] (y ∷ ys) ps bs b c e = let same : b ≡ y = cc in inr (inl (ys, ap (λ (h : List ℕ). h ∷ ys) (sym same)))
apart (x ∷ xs) [] ps bs b c e = let same : x ≡ c = cc in inr (inr (xs, ap (λ (h : List ℕ). h ∷ xs) same))
apart (x ∷ xs) (y ∷ ys) ps bs b c e =
    let same : x ≡ y = cc in
    let rest : xs ++ b ∷ ps ≡ ys ++ c ∷ bs = cc in
    elim (apart xs ys ps bs b c rest) [
      | inl l ↦ inl (ap suc l)
      | inr (inl m) ↦ inr (inl (m.0, ap (λ (t : List (List ℕ)). y ∷ t) m.1 ∙ ap (λ (h : List ℕ). h ∷ (xs ++ b ∷ m.0)) (sym same)))
      | inr (inr m) ↦ inr (inr (m.0, ap (λ (t : List (List ℕ)). x ∷ t) m.1 ∙ ap (λ (h : List ℕ). h ∷ (ys ++ c ∷ m.0)) same))
    ]

one_bad : (text : List ℕ) (m n : ℕ) → IsFirstBadLine text m → IsFirstBadLine text n → m ≡ n
one_bad text m n a b =
    elim (apart a.before b.before a.after b.after a.bad b.bad (sym a.texts ∙ b.texts)) [
      | inl l ↦ a.count ∙ ap (λ (k : ℕ). k + 1) l ∙ sym b.count
      | inr (inl p) ↦ absurd (none_in b.before a.before p.0 b.orders a.bad b.good a.is_bad p.1)
      | inr (inr p) ↦ absurd (none_in a.before b.before p.0 a.orders b.bad a.good b.is_bad p.1)
    ]

pub one_script : (text : List ℕ) (a b : Result (List Order) ScriptFault) → IsScriptOf text a → IsScriptOf text b → a ≡ b
one_script text (Ok x) (Ok y) h k = ap Ok (one_list x y h.fit k.fit (sym h.texts ∙ k.texts))
one_script text (Ok x) (Err (fault.Line n)) h k = absurd (none_in (split text) k.before k.after x k.bad h k.is_bad k.texts)
one_script text (Ok x) (Err fault.NoMemory) h k = absurd k
one_script text (Err (fault.Line m)) (Ok y) h k = absurd (none_in (split text) h.before h.after y h.bad k h.is_bad h.texts)
one_script text (Err (fault.Line m)) (Err (fault.Line n)) h k = ap (λ (i : ℕ). Err (fault.Line i)) (one_bad text m n h k)
one_script text (Err (fault.Line m)) (Err fault.NoMemory) h k = absurd k
one_script text (Err fault.NoMemory) b h k = absurd h
