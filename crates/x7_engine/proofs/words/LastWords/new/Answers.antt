use Rattle.std.proofs.Common.{◌≡◌, ◌==◌, ◌<◌, ℕ, Bool, true, false, if◌then◌else◌, List, length, get_or, set, refl, subst, ◌∙◌, arith}
use Rattle.std.proofs.lemmas.Bool.Decides.{nat_tests}
use Rattle.std.proofs.lemmas.Grind.{get_or-set_at}
use Rattle.std.proofs.lemmas.List.{get_or-set_other, length-set}
use Rattle.x7_engine.proofs.words.LastWords.new.Goals as goal

-- a word of a list, one of which was set
set_at_place : (xs : List ℕ) (i register y old : ℕ) → i < length xs → get_or xs register 0 ≡ old → get_or (set xs i y) register 0 ≡ (if register == i then y else old)
set_at_place xs i register y old l e = by (register == i) refl
  where
    by : (b : Bool) → (register == i) ≡ b → get_or (set xs i y) register 0 ≡ (if b then y else old)
    by true f = get_or-set_at xs i register y 0 (grind (arith, nat_tests, f)) l
    by false f = get_or-set_other xs i register y 0 (λ g. absurd (let yes : (register == i) ≡ true = grind (arith, nat_tests, g) in cc)) ∙ e

-- a word of a list, one of which was set at the place of a register of this number
set_is : (xs : List ℕ) (i number register y old : ℕ) → i ≡ number → i < length xs → get_or xs register 0 ≡ old → get_or (set xs i y) register 0 ≡ (if register == number then y else old)
set_is xs i number register y old is l e = subst (λ (n : ℕ). get_or (set xs i y) register 0 ≡ (if register == n then y else old)) is (set_at_place xs i register y old l e)

pub returns : goal.returns
returns c =
    let zero : List ℕ = c.zero-words.result.last in
    let bspi : List ℕ = set zero c.number-bspi.result c.args.kept.now.bspi in
    let timer : List ℕ = set bspi c.number-timer.result c.args.kept.now.timer in
    let all : length zero ≡ 32 = search in
    let more : length bspi ≡ 32 = length-set zero c.number-bspi.result c.args.kept.now.bspi ∙ all in
    let most : length timer ≡ 32 = length-set bspi c.number-timer.result c.args.kept.now.timer ∙ more in
    record {
      each = λ register l.
          set_is timer c.number-wbstar.result 16 register c.args.kept.now.wbstar _ c.number-wbstar.ensures.value (omega (arith, most, c.number-wbstar.ensures.most))
          (set_is bspi c.number-timer.result 17 register c.args.kept.now.timer _ c.number-timer.ensures.value (omega (arith, more, c.number-timer.ensures.most))
          (set_is zero c.number-bspi.result 31 register c.args.kept.now.bspi 0 c.number-bspi.ensures.value (omega (arith, all, c.number-bspi.ensures.most)) (c.zero-words.ensures register l)));
    }
