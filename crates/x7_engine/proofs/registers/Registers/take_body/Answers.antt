use Rattle.std.proofs.Common.{◌≡◌, ◌+◌, ◌-◌, ◌<◌, ℕ, zero, suc, List, drop, length, take, subst, ap, ◌∙◌, arith, length-drop}
use Rattle.std.proofs.lemmas.List.{take_rest}
use Rattle.x7_words.specs.Word.{words_of_bytes}
use Rattle.x7_packets.specs.History.{History, entered_all, until}
use Rattle.x7_packets.specs.Packet.{payload_steps}
use Rattle.x7_part.specs.Part.{PartData}
use Rattle.x7_regs.specs.Register.{number_of}
use Rattle.x7_engine.specs.Standing.{RegistersStandFor, counted_in, registers_in}
use Rattle.x7_engine.proofs.DataLemmas.{rest_entered}
use Rattle.x7_engine.proofs.registers.Registers.take_body.Goals as goal

-- of some bytes at least one is taken, at once or after those that were taken at once
some_taken : (k r size : ℕ) → (0 < size - k → 0 < r) → 0 < size → 0 < k + r
some_taken zero r size f l = let some : 0 < r = f (omega (arith, l)) in omega (arith, some)
some_taken (suc k) r size f l = omega arith

pub returns-in-Effective : goal.returns-in-Effective
returns-in-Effective c =
    let part : PartData = c.args.part.now in
    let bytes : List ℕ = c.args.bytes.now in
    let register : ℕ = number_of c.in-Effective.reg in
    let k : ℕ = c.take_words_at_once-taken.result in
    let r : ℕ = c.take_words_one_by_one.result in
    let size : length (take (length bytes - k) (drop k bytes)) ≡ length bytes - k = ap length (take_rest bytes k) ∙ length-drop k bytes in
    rw c.in-Effective.is record {
      takes = record {
        within = omega (arith, size, c.take_words_at_once-taken.ensures.within, c.take_words_one_by_one.ensures.takes.within);
        takes_some = λ l. some_taken k r (length bytes) (λ l. c.take_words_one_by_one.ensures.takes.takes_some (omega (arith, l, size))) l;
        goes_on = λ e. omega (arith, size, c.take_words_at_once-taken.ensures.within, c.take_words_one_by_one.ensures.takes.goes_on e);
      };
      leaves = record { due = c.take_words_one_by_one.ensures.leaves.due ∙ c.take_words_at_once-taken.ensures.leaves.due; frames = c.take_words_one_by_one.ensures.leaves.frames };
      enters = λ kept h n s. (
          let prefix : History = entered_all n (payload_steps register (words_of_bytes (take k bytes))) h in
          let one : RegistersStandFor part kept (registers_in c.take_words_at_once-taken.new.self) prefix (n + k) = c.take_words_at_once-taken.ensures.enters kept h n s in
          let rest = c.take_words_one_by_one.ensures.enters kept prefix (n + k) one in
          let same : entered_all (n + k) (payload_steps register (words_of_bytes (take (length bytes - k) (drop k bytes)))) prefix ≡ entered_all n (payload_steps register (words_of_bytes bytes)) h =
          rest_entered register n k bytes h c.take_words_at_once-taken.ensures.whole c.take_words_at_once-taken.ensures.within in
          let sum : n + k + r ≡ n + (k + r) = omega arith in
          subst (λ (x : ℕ). RegistersStandFor part kept (registers_in c.take_words_one_by_one.new.self) (until (counted_in c.take_words_one_by_one.new.self.values.stop x) (entered_all n (payload_steps register (words_of_bytes bytes)) h)) x) sum
          (subst (λ (t : History). RegistersStandFor part kept (registers_in c.take_words_one_by_one.new.self) (until (counted_in c.take_words_one_by_one.new.self.values.stop (n + k + r)) t) (n + k + r)) same rest));
    }

pub returns-in-Plain : goal.returns-in-Plain
returns-in-Plain c = rw c.in-Plain.is c.pass_all.ensures
