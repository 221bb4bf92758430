use Rattle.std.proofs.Common.{◌≡◌, ◌/◌, ◌+◌, ℕ, refl, subst, slice_index, ◌∙◌, arith, ap, sym, take, length, length-append}
use Rattle.std.proofs.lemmas.List.{take_all}
use Rattle.x7_listing.specs.Assembling.{AppendsFirstLines}
use Rattle.x7_listing.proofs.asm.fast.QuickLemmas.{stays, stays_cut}
use Rattle.x7_listing.proofs.asm.fast.WordsAtLemmas.{takes_prefix}
use Rattle.x7_listing.proofs.asm.fast.quick.read_bytes_line.Goals as goal

pub returns-then-text-eq10 : goal.returns-then-text-eq10
returns-then-text-eq10 c =
    let old = c.args.out.now.items in
    let new = c.put.new.text.items in
    let bytes = c.prefix_of_hex-prefix.result.bytes in
    let n = c.prefix_of_hex-prefix.result.digit_count in
    let full : n ≡ 64 = c.if-prefix-eq-FULL_DIGITS.true in
    record {
      takes = subst (λ (k : ℕ). AppendsFirstLines c.args.text.now old new (7 + k) 1) full (takes_prefix c.args.text.now bytes old new new n 32 (length old + 32) (omega (arith, c.told-text))
          (c.is_bytes.ensures c.if-not-is_bytes.false) c.prefix_of_hex-prefix.ensures.most c.prefix_of_hex-prefix.ensures.length c.prefix_of_hex-prefix.ensures.bytes
          (ap (take n) (sym c.bytes_digits.ensures) ∙ c.prefix_of_hex-prefix.ensures.digits) (omega arith) (omega arith) (ap (λ (k : ℕ). slice_index c.args.text.now (6 + k)) full ∙ c.if-text-eq10.true) refl c.put.ensures.appends.items
          (sym (take_all (length old + 32) new (omega (arith, ap length c.put.ensures.appends.items, length-append old bytes, c.prefix_of_hex-prefix.ensures.length)))));
      room = stays c.put.ensures.appends (omega (arith, c.prefix_of_hex-prefix.ensures.length));
    }

pub returns : goal.returns
returns c =
    record {
      takes = takes_prefix c.args.text.now c.prefix_of_hex-prefix.result.bytes c.args.out.now.items c.put-2.new.text.items c.truncate.new.self.items c.prefix_of_hex-prefix.result.digit_count (c.prefix_of_hex-prefix.result.digit_count / 2) _ (omega (arith, c.told-text))
          (c.is_bytes.ensures c.if-not-is_bytes.false) c.prefix_of_hex-prefix.ensures.most c.prefix_of_hex-prefix.ensures.length c.prefix_of_hex-prefix.ensures.bytes
          (ap (take c.prefix_of_hex-prefix.result.digit_count) (sym c.bytes_digits.ensures) ∙ c.prefix_of_hex-prefix.ensures.digits) (omega arith) (omega arith) (omega arith) (omega arith) c.put-2.ensures.appends.items c.truncate.ensures.items;
      room = stays_cut _ c.put-2.ensures.appends (omega (arith, c.prefix_of_hex-prefix.ensures.length)) c.truncate.ensures.len c.truncate.ensures.capacity;
    }
