-- The fields of the word of STAT.
use Rattle.std.proofs.Common.{ℕ, ◌<◌, Bool, true, false, arith}
use Rattle.x7_regs.specs.Status.{FitStatus, HasStatusFields, flag_of, startup_state_of, status_of}
use Rattle.x7_regs.specs.declared.status.StatParts.{StatParts}

-- a flag is 0 or 1
flag_below : (b : Bool) → flag_of b < 2
unfolding flag_of
flag_below false = omega arith
flag_below true = omega arith

-- the code of a state has three bits
state_below : (phase : ℕ) → startup_state_of phase < 8
unfolding startup_state_of
state_below phase = grind arith

-- the word of STAT holds each part in its field
pub has_fields : (p : StatParts) → FitStatus p → HasStatusFields p (status_of p)
unfolding status_of
has_fields p f =
    let crc = flag_below p.crc_error in
    let lock = flag_below p.lock in
    let matched = flag_below p.matched in
    let eos = flag_below p.eos in
    let gts = flag_below p.gts in
    let gwe = flag_below p.gwe in
    let ghigh = flag_below p.ghigh in
    let mode = f.mode in
    let init = flag_below p.init_b in
    let done = flag_below p.done in
    let id = flag_below p.id_error in
    let state = state_below p.phase in
    let width = f.bus_width in
    record {
      crc_error = omega arith;
      part_secured = omega arith;
      mmcm_lock = omega arith;
      dci_match = omega arith;
      eos = omega arith;
      gts_cfg_b = omega arith;
      gwe = omega arith;
      ghigh_b = omega arith;
      mode = omega arith;
      init_complete = omega arith;
      init_b = omega arith;
      release_done = omega arith;
      done = omega arith;
      id_error = omega arith;
      dec_error = omega arith;
      xadc_over_temp = omega arith;
      startup_state = omega arith;
      reserved_below = omega arith;
      bus_width = omega arith;
      reserved_above = omega arith;
      fits = omega arith;
    }
