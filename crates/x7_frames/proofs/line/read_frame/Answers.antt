use Rattle.std.proofs.Common.{◌*◌, refl}
use Rattle.x7_frames.proofs.LineLemmas.{no_parts}
use Rattle.x7_frames.proofs.line.read_frame.Goals as goal

pub returns-in_default-clause-value : goal.returns-in_default-clause-value
returns-in_default-clause-value c = no_parts c.args.width (2 * (4 * c.args.width)) c.args.line.now refl c.in_default.ensures
