use Rattle.std.proofs.Common.{◌∙◌, List, ℕ, refl, ap, subst, arith}
use Rattle.x7_words.specs.Sink.{PutsPrefix, appended}
use Rattle.x7_words.proofs.SinkLemmas.{counts_at, counts_on}
use Rattle.x7_planner.specs.FullStreamPieces.{AppendsNext}
use Rattle.x7_stream_forms.proofs.FullTextLemmas.{all_prefix, sent_all, sent_more, sent_none, sent_part}
use Rattle.x7_stream_forms.proofs.full_text.write_stream.Goals as goal

pub loop-more-init : goal.loop-more-init
loop-more-init g c =
    let s = g.O.Sink in
    record { sent = sent_none c.args.stream (s.state c.args.out.now).written c.requires.given; room = c.requires.room; counts = counts_at _; no_fault = refl }

pub returns-then-not-more-clause-whole : goal.returns-then-not-more-clause-whole
returns-then-not-more-clause-whole g c =
    let s = g.O.Sink in
    let t = c.loop-more.invariant.sent in
    sent_all c.args.stream.part c.args.stream.plan c.loop-more.stream (s.state c.args.out.now).written (s.state c.loop-more.out).written t (c.in-Ok.ensures.end t.given t.stands c.if-not-more.true)

pub returns-then-not-more-clause-prefix : goal.returns-then-not-more-clause-prefix
returns-then-not-more-clause-prefix g c =
    let s = g.O.Sink in
    let t = c.loop-more.invariant.sent in
    all_prefix (s.state c.args.out.now).written (s.state c.loop-more.out).written _
    (sent_all c.args.stream.part c.args.stream.plan c.loop-more.stream (s.state c.args.out.now).written (s.state c.loop-more.out).written t (c.in-Ok.ensures.end t.given t.stands c.if-not-more.true))

pub returns-in_err-write_all-clause-prefix : goal.returns-in_err-write_all-clause-prefix
returns-in_err-write_all-clause-prefix g c =
    let s = g.O.Sink in
    let t = c.loop-more.invariant.sent in
    let m : AppendsNext c.put_next.new.self t.given c.clear.new.self.items c.put_next.new.out.items = c.in-Ok.ensures.more t.given t.stands c.if-not-more.false in
    sent_part c.args.stream.part c.args.stream.plan c.loop-more.stream c.put_next.new.self (s.state c.args.out.now).written (s.state c.loop-more.out).written (s.state c.write_all.new.sink).written c.clear.new.self.items c.put_next.new.out.items t m
    c.clear.ensures.items c.put_next.ensures.part c.put_next.ensures.plan
    (subst (λ (x : List ℕ). PutsPrefix (s.state c.loop-more.out).written x (s.state c.write_all.new.sink).written) c.deref.ensures.value c.in_err-write_all.ensures.prefix)

pub loop-more-preserved : goal.loop-more-preserved
loop-more-preserved g c =
    let s = g.O.Sink in
    let v = c.loop-more.invariant in
    let t = v.sent in
    let m : AppendsNext c.put_next.new.self t.given c.clear.new.self.items c.put_next.new.out.items = c.in-Ok.ensures.more t.given t.stands c.if-not-more.false in
    record {
      sent = sent_more c.args.stream.part c.args.stream.plan c.loop-more.stream c.put_next.new.self (s.state c.args.out.now).written (s.state c.loop-more.out).written (s.state c.write_all.new.sink).written c.clear.new.self.items c.put_next.new.out.items t m
          c.clear.ensures.items c.put_next.ensures.part c.put_next.ensures.plan (c.in_ok-write_all.ensures.appends ∙ ap (λ (x : List ℕ). appended (s.state c.loop-more.out).written x) c.deref.ensures.value);
      room = omega (arith, c.clear.ensures.capacity, c.put_next.ensures.room, v.room);
      counts = counts_on _ _ _ v.counts c.in_ok-write_all.ensures.counts;
      no_fault = c.in_ok-write_all.ensures.no_fault ∙ v.no_fault;
    }
