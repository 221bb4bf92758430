use Rattle.std.proofs.Common.{◌≡◌, ◌++◌, ◌∙◌, List, ℕ, ap, append_assoc, arith, codes}
use Rattle.std.specs.List.{flat_map}
use Rattle.x7_text.specs.Digits.{hex_word}
use Rattle.x7_report.specs.Frames.{frame_text}
use Rattle.x7_report.proofs.frames.put_frame.Goals as goal

-- four texts that were appended one after the other, the first of two parts
four : (o a b s d n : List ℕ) → (((o ++ (a ++ b)) ++ s) ++ d) ++ n ≡ o ++ (((a ++ b) ++ (s ++ d)) ++ n)
four o a b s d n = ap (λ (t : List ℕ). t ++ n) (append_assoc (o ++ (a ++ b)) s d ∙ append_assoc o (a ++ b) (s ++ d)) ∙ append_assoc o ((a ++ b) ++ (s ++ d)) n

pub returns : goal.returns
unfolding frame_text
returns c =
    let first = c.put_named_word.ensures.appends in
    let second = c.put.ensures.appends in
    let third = c.put_digits.ensures.appends in
    let fourth = c.put-2.ensures.appends in
    let digits = flat_map hex_word c.args.words.now in
    record {
      appends = record {
        items = fourth.items ∙ ap (λ (t : List ℕ). t ++ codes "\n") (third.items ∙ ap (λ (t : List ℕ). t ++ digits) (second.items ∙ ap (λ (t : List ℕ). t ++ codes " ") first.items))
            ∙ four c.args.out.now.items (codes "frame ") (hex_word c.args.far) (codes " ") digits (codes "\n");
        within = omega (arith, first.within, second.within, third.within, fourth.within);
        room = omega (arith, first.room, second.room, third.room, fourth.room);
      };
    }
