use Rattle.std.proofs.Common.{None, [], refl}
use Rattle.x7_engine.proofs.FrameLemmas.{frames_at}
use Rattle.x7_engine.proofs.values.Values.new.Goals as goal

pub returns-clause-stands : goal.returns-clause-stands
returns-clause-stands c = λ part f are. record {
  places = tt;
  words = c.new.ensures;
  controls = c.new-2.ensures;
  progress = c.new-3.ensures part.idcode;
  kind = refl;
  before = refl;
  clock = c.new-4.ensures part;
  stop = refl;
  frames = frames_at part f None [] 0 refl are;
  due_kind = refl;
}
