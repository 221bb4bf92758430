use Rattle.std.proofs.Common.{◌≡◌, ◌<◌, ◌≤◌, ℕ, List, [], ◌∷◌, Option, None, Some, String, ap, arith, get_or, length, map, string_bytes, refl, sym, ◌∙◌}
use Rattle.x7_forms.specs.Form.{number_in, plan_read_form, plan_read_asked, word_in}
use Rattle.x7_forms.specs.AskedForm as form
use Rattle.x7_forms.proofs.form.plan_read_form.Goals as goal

-- the form of three names, by what each of them says
read_of : {Z : Type 0} (names : List (String Z)) (part far count : String Z) (far_is count_is : Option ℕ) → 3 ≤ length names → length names < 4
    → part ≡ get_or names 0 part → far ≡ get_or names 1 far → count ≡ get_or names 2 count → far_is ≡ word_in (string_bytes far) → count_is ≡ number_in (string_bytes count)
    → plan_read_asked (string_bytes part) far_is count_is ≡ plan_read_form (map string_bytes names)
read_of [] part far count far_is count_is least most p f c w n = absurd (omega (arith, least))
read_of (x ∷ []) part far count far_is count_is least most p f c w n = absurd (omega (arith, least))
read_of (x ∷ y ∷ []) part far count far_is count_is least most p f c w n = absurd (omega (arith, least))
read_of (x ∷ y ∷ z ∷ []) part far count far_is count_is least most p f c w n =
    ap (λ t. plan_read_asked (string_bytes t) far_is count_is) p ∙ ap (λ t. plan_read_asked (string_bytes x) t count_is) (w ∙ ap (λ t. word_in (string_bytes t)) f) ∙ ap (λ t. plan_read_asked (string_bytes x) (word_in (string_bytes y)) t) (n ∙ ap (λ t. number_in (string_bytes t)) c)
read_of (x ∷ y ∷ z ∷ more ∷ others) part far count far_is count_is least most p f c w n = absurd (omega (arith, most))

pub returns : goal.returns
returns c =
    ap (λ t. Some (form.PlanRead t c.in-Some.far c.in-Some-number_in.count)) c.as_str-3.ensures.value
    ∙ read_of c.args.names.now c.part-item.result c.far-item.result c.slot_count-item.result (Some c.in-Some.far) (Some c.in-Some-number_in.count) c.in-len3.len_at_least c.in-len3.len_below c.part-item.is c.far-item.is c.slot_count-item.is
    (sym c.in-Some.is ∙ c.word_in.ensures ∙ ap word_in c.as_str.ensures.value) (sym c.in-Some-number_in.is ∙ c.number_in.ensures ∙ ap number_in c.as_str-2.ensures.value)

pub returns-in_default-number_in : goal.returns-in_default-number_in
returns-in_default-number_in c =
    read_of c.args.names.now c.part-item.result c.far-item.result c.slot_count-item.result (Some c.in-Some.far) None c.in-len3.len_at_least c.in-len3.len_below c.part-item.is c.far-item.is c.slot_count-item.is
    (sym c.in-Some.is ∙ c.word_in.ensures ∙ ap word_in c.as_str.ensures.value) (sym c.in_default-number_in.is ∙ c.number_in.ensures ∙ ap number_in c.as_str-2.ensures.value)

pub returns-in_default-word_in : goal.returns-in_default-word_in
returns-in_default-word_in c =
    read_of c.args.names.now c.part-item.result c.far-item.result c.slot_count-item.result None (number_in (string_bytes c.slot_count-item.result)) c.in-len3.len_at_least c.in-len3.len_below c.part-item.is c.far-item.is c.slot_count-item.is
    (sym c.in_default-word_in.is ∙ c.word_in.ensures ∙ ap word_in c.as_str.ensures.value) refl
