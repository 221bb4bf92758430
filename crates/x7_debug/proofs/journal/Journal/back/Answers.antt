use Rattle.std.proofs.Common.{◌≡◌, ◌-◌, ◌+◌, ◌≤◌, ◌∷◌, ◌++◌, [], ℕ, suc, List, length, take, drop, ap, sym, subst, ◌∙◌, arith, false, length-append}
use Rattle.std.specs.List.{AllByRecursion}
use Rattle.circular_buffer.specs.Buffer.{Buffer}
use Rattle.x7_words.proofs.ListLemmas.{all_append}
use Rattle.x7_engine.specs.Kept.{on_the_bench}
use Rattle.x7_engine.specs.Undo.{IsUndoOf, UndoState}
use Rattle.x7_debug.specs.Journal.{IsOnStream, JournalState, LeadBack, oldest_by, records_of}
use Rattle.x7_debug.proofs.JournalLemmas.{first_of, keep_all, on_less, records_less, took_few}
use Rattle.x7_debug.proofs.journal.Journal.back.Goals as goal

pub undo-requires-clause-back : goal.undo-requires-clause-back
undo-requires-clause-back c =
    let stream : List ℕ = c.requires.on_stream.0 in
    let o = c.requires.on_stream.1 in
    let rest : List UndoState = drop 1 c.self.inside.records.items in
    let some : c.self.inside.count ≡ suc (c.self.inside.count - 1) = omega (arith, c.requires.has_record, ap (λ (j : JournalState). j.count) c.self.view_is) in
    let here : records_of c.args.self.now ≡ c.in-Some.undo ∷ take (c.self.inside.count - 1) rest =
    sym (ap (λ (j : JournalState). records_of j) c.self.view_is)
    ∙ ap (take c.self.inside.count) (first_of c.self.inside.records.items c.in-Some.undo c.in-Some.ensures.value)
    ∙ ap (λ (n : ℕ). take n (c.in-Some.undo ∷ rest)) some in
    let leads = subst (LeadBack c.args.device.now.part stream c.args.device.now.taken) here o.leads in
    took_few c.args.device.now.part stream c.args.device.now c.args.device.now.taken c.in-Some.undo leads.0 o.at_position leads.1 leads.2

-- the journal after the call
abbrev after : goal.After-self-1 → JournalState
after c = record { all = c.push_back.new.self.items; count = c.self.inside.count - 1 }

first_is : (c : goal.After-self-1) → c.self.inside.records.items ≡ c.in-Some.undo ∷ drop 1 c.self.inside.records.items
first_is c = first_of c.self.inside.records.items c.in-Some.undo c.in-Some.ensures.value

long : (c : goal.After-self-1) → length (drop 1 c.self.inside.records.items ++ c.in-Some.undo ∷ []) ≡ 64
long c = omega (arith, length-append (drop 1 c.self.inside.records.items) (c.in-Some.undo ∷ []), ap length (first_is c), c.self.invariant.0)

all_is : (c : goal.After-self-1) → c.push_back.new.self.items ≡ drop 1 c.self.inside.records.items ++ c.in-Some.undo ∷ []
all_is c =
    let rest : List UndoState = drop 1 c.self.inside.records.items in
    let popped : c.pop_front.new.self.items ≡ rest = ap (λ (b : Buffer UndoState). b.items) c.in-Some.ensures.items in
    let room : c.pop_front.new.self.capacity ≡ 64 = ap (λ (b : Buffer UndoState). b.capacity) c.in-Some.ensures.items ∙ c.self.invariant.1 in
    ap (λ (b : Buffer UndoState). b.items) c.push_back.ensures.items
    ∙ ap (λ (t : List UndoState). drop (length (t ++ c.in-Some.undo ∷ []) - c.pop_front.new.self.capacity) (t ++ c.in-Some.undo ∷ [])) popped
    ∙ keep_all c.pop_front.new.self.capacity (rest ++ c.in-Some.undo ∷ []) (omega (arith, long c, room))

count_is : (c : goal.After-self-1) → c.self.inside.count - 1 + 1 ≡ c.self.inside.count
count_is c = omega (arith, c.requires.has_record, ap (λ (j : JournalState). j.count) c.self.view_is)

records_are : (c : goal.After-self-1) → records_of c.args.self.now ≡ c.in-Some.undo ∷ records_of (after c)
records_are c =
    let rest : List UndoState = drop 1 c.self.inside.records.items in
    sym (ap (λ (j : JournalState). records_of j) c.self.view_is)
    ∙ ap (take c.self.inside.count) (first_is c)
    ∙ records_less c.in-Some.undo rest c.self.inside.count (c.self.inside.count - 1) (count_is c) c.self.invariant.2 (sym (ap length (first_is c)) ∙ c.self.invariant.0)
    ∙ ap (λ (t : List UndoState). c.in-Some.undo ∷ take (c.self.inside.count - 1) t) (sym (all_is c))

all_fit : (c : goal.After-self-1) → AllByRecursion (IsUndoOf c.args.device.now.part) c.push_back.new.self.items
all_fit c =
    let P : UndoState → Type 0 = IsUndoOf c.args.device.now.part in
    let before : AllByRecursion P c.self.inside.records.items = subst (λ (j : JournalState). AllByRecursion P j.all) (sym c.self.view_is) c.requires.records in
    let parts : AllByRecursion P (c.in-Some.undo ∷ drop 1 c.self.inside.records.items) = subst (AllByRecursion P) (first_is c) before in
    subst (AllByRecursion P) (sym (all_is c)) (all_append P (drop 1 c.self.inside.records.items) (c.in-Some.undo ∷ []) parts.1 (parts.0, tt))

went : (c : goal.After-self-1) (stream : List ℕ) → IsOnStream c.args.device.now.part stream c.args.device.now c.args.self.now
    → IsOnStream c.undo.new.self.part stream c.undo.new.self (after c) × (c.undo.new.self.taken ≡ c.in-Some.undo.taken) × (c.in-Some.undo.taken ≤ c.args.device.now.taken) × (c.args.device.now.taken ≤ c.in-Some.undo.taken + 4)
went c stream o =
    on_less c.args.device.now.part stream c.args.device.now c.undo.new.self c.args.self.now (after c) c.in-Some.undo o (records_are c) (all_fit c)
    (λ more old k none few s t. c.undo.ensures.after_more (record { part = c.args.device.now.part; kept = on_the_bench; wrapped = false; bytes = take c.in-Some.undo.taken stream }) more old k none few s t)

pub returns-clause-back : goal.returns-clause-back
returns-clause-back c = λ stream o. (went c stream o).0

pub returns-clause-backward : goal.returns-clause-backward
returns-clause-backward c = λ stream o. let w = went c stream o in omega (arith, w.1, w.2)

pub returns-clause-one_record : goal.returns-clause-one_record
returns-clause-one_record c = λ stream o. let w = went c stream o in omega (arith, w.1, w.3)

pub returns-clause-fed : goal.returns-clause-fed
returns-clause-fed c = c.undo.ensures.fed

pub returns-clause-oldest : goal.returns-clause-oldest
returns-clause-oldest c = λ stream o.
    ap (λ (n : ℕ). oldest_by n (records_of (after c))) (went c stream o).1 ∙ ap (oldest_by c.args.device.now.taken) (sym (records_are c))

pub returns-clause-room_for_one : goal.returns-clause-room_for_one
returns-clause-room_for_one c = λ stream o. omega (arith, ap length (records_are c), o.few)

pub invariant_of-self : goal.invariant_of-self
invariant_of-self c = (
  ap length (all_is c) ∙ long c,
  ap (λ (b : Buffer UndoState). b.capacity) c.push_back.ensures.items ∙ ap (λ (b : Buffer UndoState). b.capacity) c.in-Some.ensures.items ∙ c.self.invariant.1,
  omega (arith, c.self.invariant.2),
)

pub returns-clause-count : goal.returns-clause-count
returns-clause-count c = count_is c ∙ ap (λ (j : JournalState). j.count) c.self.view_is
