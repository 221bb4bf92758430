use Rattle.std.proofs.Common.{◌≡◌, ◌++◌, codes, take, ap, ◌∙◌, append_assoc, arith}
use Rattle.std.proofs.lemmas.List.{take_all, take_more}
use Rattle.x7_text.specs.Row.{close, in_line_after, open_text, spaced}
use Rattle.x7_text.proofs.LineLemmas.{data_closed}
use Rattle.x7_text.proofs.OpenLineLemmas.{written_one_more}
use Rattle.x7_report.proofs.reads.put_data.Goals as goal

pub loop-word-preserved : goal.loop-word-preserved
loop-word-preserved c =
    let v = c.loop-word.invariant in
    rw (take_more c.args.words.now c.loop-word.word-index 0 c.loop-word-test.true)
    (written_one_more 8 (codes "data") spaced 0 c.args.text.now.items (take c.loop-word.word-index c.args.words.now) c.make_room.new.text.items c.put_word-in_line.new.text.items c.loop-word.in_line c.put_word-in_line.result _
    (record { text_is = c.in_ok-make_room.ensures.items ∙ v.text_is; count_is = v.count_is; is_open = v.is_open }) c.put_word-in_line.ensures.appends.items c.put_word-in_line.ensures.count c.put_word-in_line.ensures.open)

pub returns : goal.returns
returns c =
    let v = c.loop-word.invariant in
    let words = c.args.words.now in
    let text = c.args.text.now.items in
    let all : take c.loop-word.word-index words ≡ words = take_all c.loop-word.word-index words (omega (arith, c.loop-word-test.false)) in
    let count : c.loop-word.in_line ≡ in_line_after 8 0 words = v.count_is ∙ ap (in_line_after 8 0) all in
    let items : c.loop-word.text.items ≡ text ++ open_text 8 (codes "data") spaced 0 words = v.text_is ∙ ap (λ ws. text ++ open_text 8 (codes "data") spaced 0 ws) all in
    c.put_close.ensures.appends.items ∙ ap (λ t. t ++ close c.loop-word.in_line) (c.in_ok-make_room-2.ensures.items ∙ items) ∙ ap (λ i. (text ++ open_text 8 (codes "data") spaced 0 words) ++ close i) count
    ∙ append_assoc text (open_text 8 (codes "data") spaced 0 words) (close (in_line_after 8 0 words)) ∙ ap (λ t. text ++ t) (data_closed words)
