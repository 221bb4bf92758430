use Rattle.std.proofs.Common.{[], ◌∷◌, refl, arith, ap, sym, ◌∙◌, drop, ◌++◌}
use Rattle.std.proofs.lemmas.List.{take-append-drop}
use Rattle.x7_listing.specs.Line.{Nop}
use Rattle.x7_listing.proofs.asm.fast.QuickLemmas.{stays}
use Rattle.x7_listing.proofs.asm.fast.WritePairsLemmas.{same_by_mask}
use Rattle.x7_listing.proofs.asm.fast.quick.read_nops.Goals as goal

pub returns : goal.returns
returns c =
    let same = same_by_mask 32 c.differences.result c.args.text.now _ (omega arith) refl (omega arith) c.differences.ensures (omega arith) in
    record {
      takes = record {
        not_empty = omega arith;
        within = omega (arith, c.told-text);
        counted = omega arith;
        takes = record {
          lines = Nop ∷ Nop ∷ Nop ∷ Nop ∷ Nop ∷ Nop ∷ Nop ∷ Nop ∷ [];
          fit = (tt, (tt, (tt, (tt, (tt, (tt, (tt, (tt, tt))))))));
          listed = (tt, (tt, (tt, (tt, (tt, (tt, (tt, (tt, tt))))))));
          text_is = sym (take-append-drop 32 c.args.text.now) ∙ ap (λ t. t ++ drop 32 c.args.text.now) same;
          appended = c.put.ensures.appends.items;
          count_is = refl;
        };
      };
      room = stays c.put.ensures.appends (omega arith);
    }
