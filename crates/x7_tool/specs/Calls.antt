-- What a call finds in the objects that it is given, and what it leaves in them, whatever their types (this project's
-- choice). The states of objects are functions: what an object of the type has come to.
use Rattle.std.specs.Prelude.{Option, Result, Bool}
use Rattle.x7_words.specs.Flash.{FlashState}
use Rattle.x7_words.specs.Input.{InputsState}
use Rattle.x7_words.specs.Sink.{SinkState}
use Rattle.x7_forms.specs.declared.status.Status.{Status}
use Rattle.x7_forms.specs.Event.{Event}
use Rattle.x7_forms.specs.AskedForm.{AskedForm}
use Rattle.x7_outcome.specs.Ending.{Answered}
use Rattle.x7_outcome.specs.Outside.{Outside, outside}
use Rattle.x7_tool.specs.Runs.{Runs}

-- the states of inputs, of a flash, of an output and of a sink of messages
abbrev pub ObjectStates : Type 0 → Type 0 → Type 0 → Type 0 → Type 0
ObjectStates I F O E = (I → InputsState) × (F → FlashState) × (O → SinkState) × (E → SinkState)

-- the outside of these objects: inputs, flash, output and sink of messages
abbrev pub outside_of : {I F O E : Type 0} → ObjectStates I F O E → I × F × O × E → Outside
outside_of (i, f, o, e) (inputs, flash, out, err) = outside (i inputs) (f flash) (o out) (e err)

-- the outside of a call: as the call found it, and as it left it
pub record Call : Type 0 where
  pub old : Outside
  pub new : Outside

-- the call that found these objects, and left them as those
abbrev pub call_of : {I F O E : Type 0} → ObjectStates I F O E → I × F × O × E → I × F × O × E → Call
call_of states old new = record { old = outside_of states old; new = outside_of states new }

-- what a run of the command for this form did in this call
abbrev pub CallRuns : Option AskedForm → Call → Status → Type 0
CallRuns form call s = Runs form call.old call.new s

-- the scope of a form, at one moment: the states of inputs, flash and output
pub record Scope : Type 0 where
  pub inputs : InputsState
  pub flash : FlashState
  pub out : SinkState

-- inputs, flash and output as the scope of a form
abbrev pub scope : InputsState → FlashState → SinkState → Scope
scope inputs flash out = record { inputs = inputs; flash = flash; out = out }

-- the outside of this scope and this sink of messages
abbrev pub with_messages : Scope → SinkState → Outside
with_messages o err = outside o.inputs o.flash o.out err

-- what a form did in its scope, whatever the sink of messages holds before and after
abbrev pub CallAnswers : AskedForm → Scope → Scope → Result Bool Event → Type 0
CallAnswers form old new got = (before after : SinkState) → Answered form (with_messages old before) (with_messages new after) got
