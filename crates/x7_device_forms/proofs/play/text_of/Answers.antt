use Rattle.std.proofs.Common.{false, refl, inr, ap, sym, subst, ◌∙◌, Ok}
use Rattle.x7_engine.specs.Kept.{on_the_bench}
use Rattle.x7_engine.specs.Standing.{DeviceStandsFor, NoWordDue}
use Rattle.x7_report.specs.Reports.{PlayTextState}
use Rattle.x7_outcome.specs.Play.{play_answer}
use Rattle.x7_device_forms.proofs.PlayLemmas.{reported_is, reported_over}
use Rattle.x7_playing.proofs.PlayerLemmas.{is_over_limit, not_over, played_all}
use Rattle.x7_playing.specs.Playing.{play_state}
use Rattle.x7_device_forms.proofs.play.text_of.Goals as goal

pub returns-then-player-clause-refused : goal.returns-then-player-clause-refused
returns-then-player-clause-refused c =
    let p = c.args.player in
    inr (refl, λ part bytes h. reported_over part bytes (is_over_limit p.is_over_limit part bytes (play_state p.device p.buffer p.reads.items) c.if-player.true h).many)

pub returns-clause-text : goal.returns-clause-text
returns-clause-text c = λ part bytes h.
    let p = c.args.player in
    let on = not_over p.is_over_limit part bytes (play_state p.device p.buffer p.reads.items) c.if-player.false h in
    let all = played_all part bytes p.device p.reads.items on.0 on.1 in
    let parts = c.into_parts-device.ensures in
    let stands = subst (λ d. DeviceStandsFor part on_the_bench false d all.prefix) (sym parts.device) all.stands in
    let no_word_due = subst NoWordDue (sym parts.device) all.no_word_due in
    let text = rw (c.deref.ensures.value, parts.reads, c.new.ensures.items) at (c.in_ok-new.ensures.value part on_the_bench false all.prefix stands no_word_due) in
    reported_is part bytes p.device p.reads.items _ c.fault.result c.is_some-stopped.result all (c.fault.ensures part on_the_bench false all.prefix all.stands) c.is_some-stopped.ensures refl ∙ ap (λ (x : PlayTextState). Ok (play_answer x)) (sym text)
