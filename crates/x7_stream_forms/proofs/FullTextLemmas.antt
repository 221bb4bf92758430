-- A full stream that is written piece by piece.
use Rattle.std.proofs.Common.{◌≡◌, ℕ, List, [], ◌++◌, Option, ap, sym, subst, ◌∙◌, refl, append_assoc, append-nil}
use Rattle.x7_words.specs.Sink.{PutsPrefix, appended}
use Rattle.x7_words.proofs.SinkLemmas.{appended_appended, appended_nil, prefix_more}
use Rattle.x7_part.specs.Part.{PartData}
use Rattle.x7_memory.specs.Plan.{PlanData}
use Rattle.x7_planner.specs.FullStream.{full_stream}
use Rattle.x7_planner.specs.FullStreamPieces.{FullStreamState, HasGiven, AppendsNext}

-- what was given of the stream was put
pub record Sent (part : PartData) (plan : PlanData) (s : FullStreamState) (first now : Option (List ℕ)) : Type 0 where
  pub given : List ℕ
  pub stands : HasGiven s given
  pub put : now ≡ appended first given
  pub of_part : s.part ≡ part
  pub of_plan : s.plan ≡ plan

pub sent_none : (s : FullStreamState) (first : Option (List ℕ)) → HasGiven s [] → Sent s.part s.plan s first first
sent_none s first h = record { given = []; stands = h; put = sym (appended_nil first); of_part = refl; of_plan = refl }

pub sent_more : (part : PartData) (plan : PlanData) (a b : FullStreamState) (first mid now : Option (List ℕ)) (old new : List ℕ) → (t : Sent part plan a first mid) → AppendsNext b t.given old new → old ≡ [] → b.part ≡ a.part → b.plan ≡ a.plan → now ≡ appended mid new
    → Sent part plan b first now
sent_more part plan a b first mid now old new t m empty same as_planned put =
    let piece : new ≡ m.piece = m.adds ∙ ap (λ x. x ++ m.piece) empty in
    record {
      given = t.given ++ m.piece;
      stands = m.more;
      put = put ∙ ap (λ x. appended x new) t.put ∙ appended_appended first t.given new ∙ ap (λ x. appended first (t.given ++ x)) piece;
      of_part = same ∙ t.of_part;
      of_plan = as_planned ∙ t.of_plan;
    }

pub sent_part : (part : PartData) (plan : PlanData) (a b : FullStreamState) (first mid now : Option (List ℕ)) (old new : List ℕ) → (t : Sent part plan a first mid) → AppendsNext b t.given old new → old ≡ [] → b.part ≡ a.part → b.plan ≡ a.plan → PutsPrefix mid new now
    → PutsPrefix first (full_stream part plan) now
sent_part part plan a b first mid now old new t m empty same as_planned put =
    let piece : m.piece ≡ new = sym (m.adds ∙ ap (λ x. x ++ m.piece) empty) in
    let whole : t.given ++ (new ++ m.more.left) ≡ full_stream part plan =
    ap (λ x. t.given ++ (x ++ m.more.left)) (sym piece) ∙ sym (append_assoc t.given m.piece m.more.left) ∙ m.more.whole ∙ ap (λ p. full_stream p b.plan) (same ∙ t.of_part) ∙ ap (full_stream part) (as_planned ∙ t.of_plan) in
    subst (λ x. PutsPrefix first x now) whole (prefix_more first mid now t.given new m.more.left t.put put)

pub sent_all : (part : PartData) (plan : PlanData) (a : FullStreamState) (first now : Option (List ℕ)) → (t : Sent part plan a first now) → t.given ≡ full_stream a.part a.plan → now ≡ appended first (full_stream part plan)
sent_all part plan a first now t e = t.put ∙ ap (appended first) (e ∙ ap (λ p. full_stream p a.plan) t.of_part ∙ ap (full_stream part) t.of_plan)

pub all_prefix : (first now : Option (List ℕ)) (text : List ℕ) → now ≡ appended first text → PutsPrefix first text now
all_prefix first now text e = (text, ([], sym (append-nil text), e))
