use Rattle.std.proofs.Common.{ℕ, ◌++◌, ◌≡◌, false, true, ap, codes, refl, subst, sym, take, ◌∙◌}
use Rattle.x7_text.specs.Digits.{hex_byte}
use Rattle.x7_text.specs.Row.{close, in_line_after, open_text}
use Rattle.x7_listing.specs.Pens.{EndsWith, held_by, is_in_session, in_line_of, written_with}
use Rattle.x7_listing.specs.declared.list.pen.state.Pen.{Pen}
use Rattle.x7_listing.proofs.list.ListerLemmas.{ended_gap, ended_session, not_gap}
use Rattle.x7_listing.proofs.list.pen.put_end.Goals as goal

pub returns-in-Gap : goal.returns-in-Gap
returns-in-Gap c =
    let gap = c.in-Gap.gap in
    let old = c.args.text.now.items in
    let held = take gap.count gap.held in
    let bytes = open_text 32 (codes "bytes ") hex_byte gap.in_line held in
    let appended : c.put_close.new.text.items ≡ old ++ bytes ++ close (in_line_after 32 gap.in_line held) =
    c.put_close.ensures.appends.items ∙ ap (λ t. t ++ close c.put_bytes-in_line.result) c.put_bytes-in_line.ensures.appends.items
    ∙ ap (λ (i : ℕ). old ++ bytes ++ close i) c.put_bytes-in_line.ensures.count in
    record {
      listed = subst (λ (p : Pen). EndsWith (written_with p old) c.args.kept.now c.put_close.new.text.items) (sym c.in-Gap.is)
          (λ given before sessions place t k. ended_gap false gap.in_line held given _ _ before t.bytes sessions place t.mode refl t.listed t.not_sync_found appended);
    }

pub returns : goal.returns
returns c =
    let synced : is_in_session c.args.pen ≡ true = not_gap c.args.pen c.in_default.not-Gap in
    let old = c.args.text.now.items in
    let kept = c.args.kept.now in
    let count = c.open_in.result.count in
    let bytes = open_text 32 (codes "bytes ") hex_byte 0 kept in
    let appended : c.put_close-3.new.text.items ≡ old ++ close (in_line_of c.args.pen) ++ bytes ++ close (in_line_after 32 0 kept) =
    c.put_close-3.ensures.appends.items
    ∙ ap (λ t. t ++ close c.put_bytes-in_line-2.result) (c.put_bytes-in_line-2.ensures.appends.items ∙ ap (λ t. t ++ bytes) c.put_close-2.ensures.appends.items)
    ∙ ap (λ (i : ℕ). old ++ close count ++ bytes ++ close i) c.put_bytes-in_line-2.ensures.count
    ∙ ap (λ (i : ℕ). old ++ close i ++ bytes ++ close (in_line_after 32 0 kept)) (c.open_in.ensures synced) in
    record {
      listed = λ given before sessions place t k. ended_session (is_in_session c.args.pen) (in_line_of c.args.pen) (held_by c.args.pen) kept given old _ before t.bytes sessions place t.mode synced t.listed t.reading k appended;
    }
