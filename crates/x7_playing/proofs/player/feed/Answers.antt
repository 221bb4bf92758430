use Rattle.std.proofs.Common.{◌≡◌, ◌+◌, ◌-◌, ◌<◌, ◌++◌, ℕ, List, false, subst, sym, take, drop, length, length-append, length-drop, length-take-le, ap, ◌∙◌, arith}
use Rattle.std.proofs.lemmas.List.{take-append-drop, take_rest}
use Rattle.x7_words.specs.Word.{AreBytes}
use Rattle.x7_words.proofs.ListLemmas.{all_from_places}
use Rattle.x7_engine.specs.Kept.{on_the_bench}
use Rattle.x7_engine.specs.Standing.{taken_in}
use Rattle.x7_engine.proofs.FeedingLemmas.{takes_nothing}
use Rattle.x7_playing.specs.Playing.{DevicePlayed, reads_room}
use Rattle.x7_playing.proofs.PlayLemmas.{emptied_again, full_words, is_end, most_is, words_are}
use Rattle.x7_playing.proofs.PlayerLemmas.{may_feed, turn_end, turn_full, turn_over}
use Rattle.x7_playing.proofs.player.feed.Goals as goal

pub feed-fed-requires : goal.feed-fed-requires
feed-fed-requires c =
    let piece = c.args.piece.now in
    let at = c.feeds.at in
    let m = c.requires in
    let s = c.feeds.invariant.plays m.0 m.1.0 m.1.1.0 in
    let few = m.1.1.1 in
    let before = length-append m.1.0 (take at piece) in
    let size = length-take-le at piece c.feeds.invariant.at in
    let left = length-drop at piece in
    rw (take_rest piece at, left) (may_feed m.0 (m.1.0 ++ take at piece) c.feeds.device c.feeds.reads.items (length piece - at) s (omega (arith, few, before, size, c.feeds.invariant.at)))

pub returns-then-gather-clause-played : goal.returns-then-gather-clause-played
returns-then-gather-clause-played c = λ part bytes h.
    let v = c.feeds.invariant in
    let piece = c.args.piece.now in
    let at = c.feeds.at in
    let n = taken_in (length (drop at piece)) c.feed-fed.result in
    let s = v.plays part bytes h in
    let reads = rw (take_rest piece at) at (c.feed-fed.ensures.gives.words part on_the_bench false s.taken s.stands) in
    let takes = rw (take_rest piece at) at c.feed-fed.ensures.takes in
    let stopped = takes_nothing part on_the_bench false c.feeds.device c.feed-fed.new.self (drop at piece) s.taken (taken_in (length (drop at piece)) c.feed-fed.result) takes s.stands in
    let words = words_are c.feeds.buffer c.feed-fed.new.read reads.0 reads.1 v.buffer in
    let fits : AreBytes piece = all_from_places (λ b. b < 256) piece (λ k l. omega (arith, c.type_inv.piece k)) in
    turn_over part bytes piece at n c.feeds.device c.feed-fed.new.self c.feeds.reads.items reads.0 h.0.fits fits s (λ i. (stopped i).1) reads.2
    (omega (arith, c.gather.ensures.over c.if-gather.true, ap length words, ap length c.reserve.ensures.items, c.feeds.reads.ok.0, c.reserve.new.self.ok.0))

pub gather-requires-clause-most : goal.gather-requires-clause-most
gather-requires-clause-most c =
    let v = c.feeds.invariant in
    let m = c.requires in
    let s = v.plays m.0 m.1.0 m.1.1.0 in
    let reads = c.feed-fed.ensures.gives.words m.0 on_the_bench false s.taken s.stands in
    most_is c.feeds.buffer c.feed-fed.new.read reads.0 reads.1 v.buffer

pub returns-in_default-clause-prefix : goal.returns-in_default-clause-prefix
returns-in_default-clause-prefix c =
    let piece = c.args.piece.now in
    let at = c.feeds.at in
    record {
      prefix = take at piece;
      left = drop at piece;
      split = sym (take-append-drop at piece);
      holds = λ part bytes h. subst (λ (reads : List ℕ). DevicePlayed part (bytes ++ take at piece) c.feeds.device reads) (sym c.reserve.ensures.items) (c.feeds.invariant.plays part bytes h);
    }

pub feeds-smaller : goal.feeds-smaller
feeds-smaller c =
    let v = c.feeds.invariant in
    let piece = c.args.piece.now in
    let at = c.feeds.at in
    let m = c.requires in
    let s = v.plays m.0 m.1.0 m.1.1.0 in
    let reads = c.feed-fed.ensures.gives.words m.0 on_the_bench false s.taken s.stands in
    let most = most_is c.feeds.buffer c.feed-fed.new.read reads.0 reads.1 v.buffer in
    let answer = c.in-ReadFull.ensures.answer m.0 on_the_bench false s.taken s.stands in
    let full : length c.feed-fed.new.read.words ≡ reads_room = full_words c.feed-fed.new.read most answer.2 in
    let size : length c.gather.new.reads.items ≡ length c.feeds.reads.items + length c.feed-fed.new.read.words =
    ap length (c.gather.ensures.appends c.if-gather.false ∙ ap (λ r. r ++ c.feed-fed.new.read.words) c.reserve.ensures.items) ∙ length-append c.feeds.reads.items c.feed-fed.new.read.words in
    omega (arith, full, size, c.feeds.reads.ok.0, c.gather.new.reads.ok.0, c.gather.ensures.within c.if-gather.false)

pub feeds-preserved : goal.feeds-preserved
feeds-preserved c =
    let v = c.feeds.invariant in
    let piece = c.args.piece.now in
    let at = c.feeds.at in
    let count = c.in-ReadFull.count in
    let within = rw (take_rest piece at) at c.in-ReadFull.ensures.takes.within in
    let m = c.requires in
    let s0 = v.plays m.0 m.1.0 m.1.1.0 in
    let reads0 = c.feed-fed.ensures.gives.words m.0 on_the_bench false s0.taken s0.stands in
    let most = most_is c.feeds.buffer c.feed-fed.new.read reads0.0 reads0.1 v.buffer in
    let fits : AreBytes piece = all_from_places (λ b. b < 256) piece (λ k l. omega (arith, c.type_inv.piece k)) in
    let few = c.gather.ensures.within c.if-gather.false in
    record {
      at = omega (arith, within, length-drop at piece, v.at);
      buffer = emptied_again c.feed-fed.new.read c.gather.new.buffer (c.gather.ensures.cleared c.if-gather.false) most;
      few = few;
      plays = λ part bytes h.
          let s = v.plays part bytes h in
          let reads = rw (take_rest piece at) at (c.in-ReadFull.ensures.gives.words part on_the_bench false s.taken s.stands) in
          let stands = rw (take_rest piece at) at (c.in-ReadFull.ensures.takes.stands part on_the_bench false s.taken s.stands) in
          let answer = rw (take_rest piece at) at (c.in-ReadFull.ensures.answer part on_the_bench false s.taken s.stands) in
          let words = words_are c.feeds.buffer c.feed-fed.new.read reads.0 reads.1 v.buffer in
          let now = c.gather.ensures.appends c.if-gather.false ∙ ap (λ r. r ++ c.feed-fed.new.read.words) c.reserve.ensures.items ∙ ap (λ x. c.feeds.reads.items ++ x) words in
          turn_full part bytes piece at count c.feeds.device c.feed-fed.new.self c.feeds.reads.items c.gather.new.reads.items reads.0 fits s stands answer.0 reads.2 now (omega (arith, few, c.gather.new.reads.ok.0));
    }

pub returns-in_default-fed-clause-played : goal.returns-in_default-fed-clause-played
returns-in_default-fed-clause-played c = λ part bytes h.
    let v = c.feeds.invariant in
    let piece = c.args.piece.now in
    let at = c.feeds.at in
    let s = v.plays part bytes h in
    let reads = rw (take_rest piece at) at (c.feed-fed.ensures.gives.words part on_the_bench false s.taken s.stands) in
    let takes = rw (take_rest piece at) at c.feed-fed.ensures.takes in
    let stopped = takes_nothing part on_the_bench false c.feeds.device c.feed-fed.new.self (drop at piece) s.taken (taken_in (length (drop at piece)) c.feed-fed.result) takes s.stands in
    let stands = rw (take_rest piece at) at (c.feed-fed.ensures.takes.stands part on_the_bench false s.taken s.stands) in
    let answer = rw (take_rest piece at) at (c.feed-fed.ensures.answer part on_the_bench false s.taken s.stands) in
    let words = words_are c.feeds.buffer c.feed-fed.new.read reads.0 reads.1 v.buffer in
    let most = most_is c.feeds.buffer c.feed-fed.new.read reads.0 reads.1 v.buffer in
    let fits : AreBytes piece = all_from_places (λ b. b < 256) piece (λ k l. omega (arith, c.type_inv.piece k)) in
    let few = c.gather.ensures.within c.if-gather.false in
    let now = c.gather.ensures.appends c.if-gather.false ∙ ap (λ r. r ++ c.feed-fed.new.read.words) c.reserve.ensures.items ∙ ap (λ x. c.feeds.reads.items ++ x) words in
    let end = turn_end part bytes piece at c.feeds.device c.feed-fed.new.self c.feed-fed.new.read c.feeds.reads.items c.gather.new.reads.items reads.0 c.feed-fed.result fits s (is_end c.feed-fed.result c.in_default-fed.not-ReadFull) (λ i. (stopped i).1) stands answer reads.2 now
    (omega (arith, few, c.gather.new.reads.ok.0)) in
    (end.0, end.1, emptied_again c.feed-fed.new.read c.gather.new.buffer (c.gather.ensures.cleared c.if-gather.false) most)
