use Rattle.std.proofs.Common.{refl}
use Rattle.x7_forms.specs.Form.{form_of_strings}
use Rattle.x7_outcome.specs.Outside.{outside}
use Rattle.x7_files.specs.Flash.{known_flash}
use Rattle.x7_files.specs.Inputs.{known_inputs}
use Rattle.x7_over_files.proofs.FileTextLemmas.{assembles, lists, plays}
use Rattle.x7_over_files.proofs.run_over_files.Goals as goal

pub returns-clause-lists : goal.returns-clause-lists
returns-clause-lists g c = λ name bytes is read.
    let map = g.W.World.contents in
    let o = g.O.Sink in
    let e = g.E.Sink in
    let old = outside (known_inputs map c.new-inputs.result) (known_flash c.new-flash.result) (o.state c.args.out.now) (e.state c.args.err.now) in
    let new = outside (known_inputs map c.run-status.new.inputs) (known_flash c.run-status.new.flash) (o.state c.run-status.new.out) (e.state c.run-status.new.err) in
    lists map (form_of_strings c.args.words.now.items) old new c.run-status.new.inputs c.run-status.result name bytes refl c.run-status.ensures.ran is read

pub returns-clause-assembles : goal.returns-clause-assembles
returns-clause-assembles g c = λ name text is read.
    let map = g.W.World.contents in
    let o = g.O.Sink in
    let e = g.E.Sink in
    let old = outside (known_inputs map c.new-inputs.result) (known_flash c.new-flash.result) (o.state c.args.out.now) (e.state c.args.err.now) in
    let new = outside (known_inputs map c.run-status.new.inputs) (known_flash c.run-status.new.flash) (o.state c.run-status.new.out) (e.state c.run-status.new.err) in
    assembles map (form_of_strings c.args.words.now.items) old new c.run-status.new.inputs c.run-status.result name text refl c.run-status.ensures.ran is read

pub returns-clause-plays : goal.returns-clause-plays
returns-clause-plays g c = λ files is read.
    let map = g.W.World.contents in
    let o = g.O.Sink in
    let e = g.E.Sink in
    let old = outside (known_inputs map c.new-inputs.result) (known_flash c.new-flash.result) (o.state c.args.out.now) (e.state c.args.err.now) in
    let new = outside (known_inputs map c.run-status.new.inputs) (known_flash c.run-status.new.flash) (o.state c.run-status.new.out) (e.state c.run-status.new.err) in
    plays map (form_of_strings c.args.words.now.items) old new c.run-status.new.inputs c.run-status.result files.part files.stream files.text files.bytes refl c.run-status.ensures.ran is read.part read.stream
