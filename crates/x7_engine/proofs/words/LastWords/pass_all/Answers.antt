use Rattle.std.proofs.Common.{◌≡◌, ℕ, List, [], ◌∷◌, ◌++◌, map, take, length, ◌-◌, ◌+◌, ◌/◌, refl, sym, ap, ◌∙◌}
use Rattle.x7_words.specs.Word.{word_of_bytes, words_of_bytes}
use Rattle.x7_packets.specs.History.{entered_all}
use Rattle.x7_packets.specs.Packet.{payload_steps}
use Rattle.x7_words.proofs.WordLemmas.{words_by_chunks}
use Rattle.x7_engine.specs.Registers.{word_held}
use Rattle.x7_engine.proofs.PlainLemmas.{word_held_all, words_last}
use Rattle.x7_engine.proofs.words.LastWords.pass_all.Goals as goal

pub returns-in-Some : goal.returns-in-Some
returns-in-Some c = λ kept h n s.
    let prefix : List ℕ = map word_of_bytes (take (length c.as_chunks.result.0.now - 1) c.as_chunks.result.0.now) in
    let ws : words_of_bytes c.args.bytes.now ≡ prefix ++ c.word_of.result ∷ [] = words_by_chunks (length c.args.bytes.now / 4) c.args.bytes.now refl ∙ ap (map word_of_bytes) (sym c.as_chunks.ensures.front)
    ∙ words_last c.as_chunks.result.0.now c.in-Some.word.now c.word_of.result (sym c.in-Some.ensures.value) c.word_of.ensures.value in
    record {
      each = λ r l.
          (c.write.ensures kept h (n + 4) s).each r l
          ∙ sym (ap (λ (t : List ℕ). word_held kept r (entered_all n (payload_steps c.args.register t) h)) ws ∙ word_held_all kept r c.args.register n c.word_of.result prefix h);
    }
