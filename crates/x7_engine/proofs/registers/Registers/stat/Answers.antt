use Rattle.std.proofs.Common.{◌≡◌, ◌==◌, ℕ, Bool, not, Option, refl, ap, ◌∙◌}
use Rattle.std.specs.Prelude.{nat_le}
use Rattle.x7_part.specs.Part.{PartData}
use Rattle.x7_regs.specs.Status.{status_of}
use Rattle.x7_startup.specs.Startup.{StartupProgress, ticks_of}
use Rattle.x7_startup.specs.declared.lines.Lines.{Lines}
use Rattle.x7_engine.specs.declared.fault.Fault.{Fault}
use Rattle.x7_engine.specs.Startup.{phase_by, startup_progress}
use Rattle.x7_engine.specs.Stop.{fault_of_stop}
use Rattle.x7_engine.specs.Value.{is_crc_fault, is_id_fault, lines_by, stat_parts}
use Rattle.x7_engine.proofs.registers.Registers.stat.Goals as goal

-- what STAT shows, by each of its parts
stat_known : (part : PartData) (fault : Option Fault) (p : StartupProgress) (lines : Lines) (crc id ghigh had lock matched eos : Bool) (phase mode width : ℕ)
    → crc ≡ is_crc_fault fault → id ≡ is_id_fault fault → had ≡ ghigh → lock ≡ nat_le part.lock (ticks_of p) → matched ≡ nat_le part.matched (ticks_of p) → eos ≡ (phase_by part p == 7) → lines ≡ lines_by part p → phase ≡ phase_by part p → mode ≡ part.mode → width ≡ part.bus_width
    → status_of (record { crc_error = crc; lock = lock; matched = matched; eos = eos; gts = lines.gts; gwe = lines.gwe; ghigh = had; mode = mode; init_b = not crc; done = lines.done; id_error = id; phase = phase; bus_width = width })
    ≡ status_of (stat_parts part fault p ghigh)
stat_known part fault p lines crc id ghigh had lock matched eos phase mode width a b g d e f k l m w = rw (a, b, g, d, e, f, k, l, m, w) refl

pub returns : goal.returns
returns c = λ kept h n s.
    let part : PartData = c.args.part.now in
    c.stat_word.ensures.value
    ∙ stat_known part (fault_of_stop c.args.self.now.values.stop) (startup_progress h n) c.lines-lines.result c.is_crc_fault-crc_error.result c.is_id_fault.result _ c.args.self.now.values.progress.ghigh c.have_passed.result c.have_passed-2.result c.startup_ended.result c.phase.result c.mode.result c.bus_width.result
    c.is_crc_fault-crc_error.ensures c.is_id_fault.ensures s.progress.ghigh
    (c.have_passed.ensures part h n s.clock.startup ∙ ap (λ (k : ℕ). nat_le k (ticks_of (startup_progress h n))) c.lock.ensures)
    (c.have_passed-2.ensures part h n s.clock.startup ∙ ap (λ (k : ℕ). nat_le k (ticks_of (startup_progress h n))) c.matched.ensures)
    (c.startup_ended.ensures.value part h n s.clock.startup) (c.lines-lines.ensures part h n s.clock.startup) (c.phase.ensures.value part h n s.clock.startup) c.mode.ensures.value c.bus_width.ensures.value
