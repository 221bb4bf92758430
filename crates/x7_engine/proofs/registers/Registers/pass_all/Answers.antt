use Rattle.std.proofs.Common.{◌≡◌, ◌+◌, ◌-◌, ◌*◌, ◌/◌, ◌≤◌, ℕ, List, length, take, sym, ap, subst, ◌∙◌, arith}
use Rattle.std.proofs.lemmas.List.{length-take-le}
use Rattle.x7_words.specs.Word.{words_of_bytes}
use Rattle.x7_packets.specs.History.{History, Placed, entered_all, until}
use Rattle.x7_packets.specs.Packet.{payload_steps}
use Rattle.x7_packets.proofs.GrowthLemmas.{placed_within}
use Rattle.x7_part.specs.Part.{PartData}
use Rattle.x7_flow.specs.Standing.{FramesFit}
use Rattle.x7_engine.specs.declared.kept.Kept.{Kept}
use Rattle.x7_engine.specs.Standing.{AreLastWords, IsProgress, RegistersStandFor, RegistersState, controls_in, counted_in, due_count, progress_in, registers_in}
use Rattle.x7_engine.proofs.FrameLemmas.{plain_are, ticks_on, none_among}
use Rattle.x7_engine.proofs.PlainLemmas.{Clocked, IsPlain, clocked_all, controls_stay, counted_after, prefix_all, plain_is, plain_none, words_prefix}
use Rattle.x7_engine.proofs.registers.Registers.pass_all.Goals as goal
use Rattle.x7_words.proofs.WordLemmas.{words_count}

until_stands : (part : PartData) (kept : Kept) (d : RegistersState) (all prefix : History) (m : ℕ) → all ≡ prefix → RegistersStandFor part kept d prefix m → RegistersStandFor part kept d all m
until_stands part kept d all prefix m e s = subst (λ (h : History). RegistersStandFor part kept d h m) (sym e) s

pub returns : goal.returns
returns c = record {
  takes = record {
    within = omega arith;
    takes_some = λ l. omega (arith, c.take_bytes-left.ensures.takes_some l);
    goes_on = λ e. omega (arith, c.take_bytes-left.ensures.left.goes_on e);
  };
  leaves = record { due = c.take_bytes-left.ensures.due; frames = subst (FramesFit c.args.part.now) (sym c.take_bytes-left.ensures.frames) c.requires.may_take.frames };
  enters = λ kept h n s. (
      let part : PartData = c.args.part.now in
      let bytes : List ℕ = c.args.bytes.now in
      let ws : List ℕ = words_of_bytes bytes in
      let left : ℕ = c.take_bytes-left.result in
      let m : ℕ = n + (length bytes - left) in
      let k : ℕ = c.counted_in.result / 4 in
      let p : IsPlain c.args.plain.register = plain_is c.args.plain.register c.args.plain.plain in
      let t : RegistersStandFor part kept (registers_in c.take_bytes-left.new.self) h m = c.take_bytes-left.ensures.enters kept h n s in
      let words : length ws ≡ length bytes / 4 = words_count bytes in
      let within : c.counted_in.result ≤ length bytes - left = c.counted_in.ensures.within in
      let few : k ≤ length ws = omega (arith, words, within) in
      let prefix : List ℕ = take k ws in
      let size : length prefix ≡ k = length-take-le k ws few in
      let same : words_of_bytes (take (k * 4) bytes) ≡ prefix = words_prefix k bytes in
      let here : counted_in c.take_bytes-left.new.self.values.stop m ≡ n + c.counted_in.result = counted_after c.take_bytes-left.new.self.values.stop n (length bytes) left c.take_bytes-left.ensures.fired ∙ sym (ap (λ (x : ℕ). n + x) c.counted_in.ensures.value) in
      let start : Clocked part kept (registers_in c.take_bytes-left.new.self).values.clock c.take_bytes-left.new.self.values.stop h n m = record { places = s.places; clock = t.clock; stop = t.stop } in
      let clocked : Clocked part kept (registers_in c.take_bytes-left.new.self).values.clock c.take_bytes-left.new.self.values.stop (entered_all n (payload_steps c.args.plain.register prefix) h) (n + 4 * length prefix) m =
      clocked_all part kept (registers_in c.take_bytes-left.new.self).values.clock c.take_bytes-left.new.self.values.stop c.args.plain.register n m prefix h p.quiet (plain_none part kept c.args.plain.register n prefix h p) (omega (arith, size, within)) start in
      let all : until (counted_in c.take_bytes-left.new.self.values.stop m) (entered_all n (payload_steps c.args.plain.register ws) h) ≡ entered_all n (payload_steps c.args.plain.register prefix) h =
      prefix_all n k (counted_in c.take_bytes-left.new.self.values.stop m) c.args.plain.register ws h few (omega (arith, here)) (omega (arith, here))
      (subst (λ (x : ℕ). Placed (n + 4 * x) (entered_all n (payload_steps c.args.plain.register prefix) h)) size clocked.places) in
      until_stands part kept _ (until (counted_in c.take_bytes-left.new.self.values.stop m) (entered_all n (payload_steps c.args.plain.register ws) h)) (entered_all n (payload_steps c.args.plain.register prefix) h) m all record {
        places = placed_within (n + 4 * length prefix) m (entered_all n (payload_steps c.args.plain.register prefix) h) (omega (arith, size, within)) clocked.places;
        words = subst (λ (x : List ℕ). AreLastWords kept c.pass_all-2.new.self.last (entered_all n (payload_steps c.args.plain.register x) h)) same (c.pass_all-2.ensures kept h n t.words);
        controls = controls_stay (controls_in c.take_bytes-left.new.self.values.controls) c.args.plain.register n prefix h p.quiet t.controls;
        progress = subst (λ (x : List ℕ). IsProgress part.idcode (progress_in c.pass_all.new.self) (entered_all n (payload_steps c.args.plain.register x) h)) same (c.pass_all.ensures part.idcode h n t.progress);
        kind = t.kind;
        before = t.before;
        clock = clocked.clock;
        stop = clocked.stop;
        frames = plain_are part c.take_bytes-left.new.self.frames c.take_bytes-left.new.self.values.stop c.args.plain.register n prefix h c.take_bytes-left.new.self.values.due p
            (ticks_on c.take_bytes-left.new.self.values.stop _ c.take_bytes-left.ensures.fired) (ap due_count c.take_bytes-left.ensures.due ∙ c.requires.may_take.no_word_due) t.frames;
        due_kind = none_among c.take_bytes-left.new.self.values.due (entered_all n (payload_steps c.args.plain.register prefix) h) (ap due_count c.take_bytes-left.ensures.due ∙ c.requires.may_take.no_word_due);
      });
}
