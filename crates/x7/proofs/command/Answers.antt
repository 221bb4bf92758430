use Rattle.std.proofs.Common.{map, string_bytes, refl}
use Rattle.x7_outcome.specs.Outside.{outside}
use Rattle.x7.specs.Command.{page_of}
use Rattle.x7.proofs.CommandLemmas.{page_ends, run_ends}
use Rattle.x7.proofs.command.Goals as goal

pub returns-in-Some : goal.returns-in-Some
returns-in-Some g c =
    let i = g.I.Inputs in
    let o = g.O.Sink in
    let e = g.E.Sink in
    let f = g.F.Flash in
    let words = map string_bytes c.args.words.now.items in
    page_ends (page_of words) c.in-Some.page.now words (outside (i.state c.args.inputs.now) (f.state c.args.flash.now) (o.state c.args.out.now) (e.state c.args.err.now))
    (outside (i.state c.args.inputs.now) (f.state c.args.flash.now) (o.state c.show.new.out) (e.state c.args.err.now)) _ c.in-Some.ensures c.show.ensures refl

pub returns-in-None : goal.returns-in-None
returns-in-None g c =
    let i = g.I.Inputs in
    let o = g.O.Sink in
    let e = g.E.Sink in
    let f = g.F.Flash in
    let words = map string_bytes c.args.words.now.items in
    run_ends (page_of words) words (outside (i.state c.args.inputs.now) (f.state c.args.flash.now) (o.state c.args.out.now) (e.state c.args.err.now))
    (outside (i.state c.run.new.inputs) (f.state c.run.new.flash) (o.state c.run.new.out) (e.state c.run.new.err)) c.run.result _ c.in-None.ensures c.run.ensures.ran c.end_of.ensures
