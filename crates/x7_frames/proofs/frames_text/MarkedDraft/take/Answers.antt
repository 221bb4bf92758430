use Rattle.std.proofs.Common.{◌≡◌, ◌∙◌, ◌++◌, [], ◌∷◌, ℕ, List, false, inr, refl, sym, subst, ap, length, arith}
use Rattle.x7_text.proofs.LineReaderLemmas.{each_fault}
use Rattle.std.specs.Prelude.{Contains}
use Rattle.std.proofs.lemmas.Bool.{false≢true}
use Rattle.std.proofs.lemmas.List.{get_or_default}
use Rattle.x7_part.specs.AddressOrder.{addresses_in}
use Rattle.x7_memory.specs.Plan.{PlanRow, planned_addresses}
use Rattle.x7_frames.specs.FramesText.{IsFrameLine}
use Rattle.x7_frames.specs.LineTaken.{IsGoodLine}
use Rattle.x7_frames.specs.declared.fault.FramesFault.{FramesFault}
use Rattle.x7_frames.specs.declared.fault.FramesFault.TheVariants as fault
use Rattle.x7_frames.proofs.LineLemmas.{frame_long}
use Rattle.x7_frames.proofs.GoodLemmas.{marks_more}
use Rattle.x7_frames.proofs.frames_text.MarkedDraft.take.Goals as goal

pub returns-in_default-clause-fault : goal.returns-in_default-clause-fault
returns-in_default-clause-fault c =
    inr (
      refl,
      record {
        has_meaning = sym c.means_nothing.ensures ∙ c.if-means_nothing.false;
        no_frame = λ row is. c.in_default.ensures.value row (subst (λ (w : ℕ). IsFrameLine w c.args.line.now row) (sym c.words.ensures.value) is);
      },
    )

pub returns-then-index-clause-fault : goal.returns-then-index-clause-fault
returns-then-index-clause-fault c =
    let r = c.in-Some-rank.rank in
    let at = c.in-Some-rank.ensures.found in
    let long = c.requires.marks.long in
    inr (
      refl,
      record {
        row = record { far = c.in-Some.far; words = c.read_frame.new.frame.items };
        frame = subst (λ (w : ℕ). IsFrameLine w c.args.line.now record { far = c.in-Some.far; words = c.read_frame.new.frame.items }) c.words.ensures.value c.in-Some.ensures.value;
        address = (r, at.0, get_or_default (addresses_in c.args.part.now) r c.in-Some.far 0 at.0 ∙ at.1);
        repeated = subst (λ (a : ℕ). Contains (planned_addresses c.args.self.now.draft.rows) a) at.1
            ((c.requires.marks.at r (omega (arith, at.0, long))).0
            (get_or_default c.args.self.now.marks.items r false c.index.result.now (omega (arith, at.0, long)) ∙ sym c.index.ensures ∙ c.if-index.true));
      },
    )

pub push-requires : goal.push-requires
push-requires c = record {
  width = ap length c.deref.ensures.value ∙ frame_long c.words.result c.args.line.now record { far = c.in-Some.far; words = c.read_frame.new.frame.items } c.in-Some.ensures.value
      ∙ c.words.ensures.value ∙ sym c.requires.width;
}

pub returns-clause-taken : goal.returns-clause-taken
returns-clause-taken c =
    let r = c.in-Some-rank.rank in
    let at = c.in-Some-rank.ensures.found in
    let long = c.requires.marks.long in
    let row : PlanRow = record { far = c.in-Some.far; words = c.read_frame.new.frame.items } in
    inr record {
      row = row;
      frame = subst (λ (w : ℕ). IsFrameLine w c.args.line.now row) c.words.ensures.value c.in-Some.ensures.value;
      address = (r, at.0, get_or_default (addresses_in c.args.part.now) r c.in-Some.far 0 at.0 ∙ at.1);
      apart = λ has. false≢true (sym c.if-index.false ∙ c.index.ensures ∙ get_or_default c.args.self.now.marks.items r c.index.result.now false (omega (arith, at.0, long))
          ∙ (c.requires.marks.at r (omega (arith, at.0, long))).1 (subst (λ (a : ℕ). Contains (planned_addresses c.args.self.now.draft.rows) a) (sym at.1) has));
      rows = c.in_ok-push.ensures.added ∙ ap (λ (w : List ℕ). c.args.self.now.draft.rows ++ record { far = c.in-Some.far; words = w } ∷ []) c.deref.ensures.value;
    }

pub returns-clause-marks : goal.returns-clause-marks
returns-clause-marks c =
    let r = c.in-Some-rank.rank in
    let at = c.in-Some-rank.ensures.found in
    marks_more c.args.part.now c.args.self.now.draft.rows c.push.new.self.rows c.args.self.now.marks.items r record { far = c.in-Some.far; words = c.deref.result.now } c.requires.marks at.0 at.1 c.in_ok-push.ensures.added

pub returns-in_err-push-clause-memory : goal.returns-in_err-push-clause-memory
returns-in_err-push-clause-memory c =
    let rows = c.args.self.now.draft.rows in
    let r = c.in-Some-rank.rank in
    let at = c.in-Some-rank.ensures.found in
    let long = c.requires.marks.long in
    let row : PlanRow = record { far = c.in-Some.far; words = c.read_frame.new.frame.items } in
    each_fault c.from_residual.result (λ (f : FramesFault). f ≡ fault.NoMemory → IsGoodLine c.args.part.now rows c.args.line.now) (λ f e. (
      rows ++ row ∷ [],
      inr record {
        row = row;
        frame = subst (λ (w : ℕ). IsFrameLine w c.args.line.now row) c.words.ensures.value c.in-Some.ensures.value;
        address = (r, at.0, get_or_default (addresses_in c.args.part.now) r c.in-Some.far 0 at.0 ∙ at.1);
        apart = λ has. false≢true (sym c.if-index.false ∙ c.index.ensures ∙ get_or_default c.args.self.now.marks.items r c.index.result.now false (omega (arith, at.0, long))
            ∙ (c.requires.marks.at r (omega (arith, at.0, long))).1 (subst (λ (a : ℕ). Contains (planned_addresses rows) a) (sym at.1) has));
        rows = refl;
      },
    ))
