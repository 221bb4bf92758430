use Rattle.std.proofs.Common.{◌≡◌, [], ◌∷◌, ap, sym, ◌∙◌, arith}
use Rattle.x7_text.proofs.AppendsLemmas.{appends_as}
use Rattle.x7_words.specs.Word.{words_of_bytes}
use Rattle.x7_packets.specs.Packet.{payload_steps}
use Rattle.x7_listing.specs.Lister.{in_line_after_words, open_words}
use Rattle.x7_listing.proofs.GapLemmas.{body_word}
use Rattle.x7_listing.proofs.SessionLemmas.{data_place, data_listed, is_data}
use Rattle.x7_listing.proofs.list.pen.put_body.Goals as goal

pub returns-then-register-number-clause-count : goal.returns-then-register-number-clause-count
returns-then-register-number-clause-count c =
    let one : words_of_bytes c.args.body.now ≡ c.word_of.result ∷ [] = body_word c.args.body.now c.word_of.result (omega (arith, c.word_of.type_inv)) (c.requires.one (c.if-register-number.true ∙ c.number.ensures.value)) c.word_of.ensures.back in
    c.put_payload.ensures.count ∙ ap (λ ws. in_line_after_words c.args.in_line.count (payload_steps c.args.register ws)) (sym one)

pub returns-then-register-number-clause-appends : goal.returns-then-register-number-clause-appends
returns-then-register-number-clause-appends c =
    let one : words_of_bytes c.args.body.now ≡ c.word_of.result ∷ [] = body_word c.args.body.now c.word_of.result (omega (arith, c.word_of.type_inv)) (c.requires.one (c.if-register-number.true ∙ c.number.ensures.value)) c.word_of.ensures.back in
    appends_as _ _ _ _ _ _ c.put_payload.ensures.appends (ap (λ ws. open_words c.args.in_line.count (payload_steps c.args.register ws)) (sym one)) (omega arith)

pub returns-clause-count : goal.returns-clause-count
returns-clause-count c = c.put_words.ensures.count ∙ sym (data_place c.args.register c.args.in_line.count (words_of_bytes c.args.body.now) (is_data c.args.register (λ e. c.if-register-number.false (e ∙ sym c.number.ensures.value))))

pub returns-clause-appends : goal.returns-clause-appends
returns-clause-appends c =
    appends_as _ _ _ _ _ _ c.put_words.ensures.appends (sym (data_listed c.args.register c.args.in_line.count (words_of_bytes c.args.body.now) (is_data c.args.register (λ e. c.if-register-number.false (e ∙ sym c.number.ensures.value))))) (omega arith)
