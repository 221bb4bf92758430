-- The accesses that concern frames (UG470, frame data registers and the multi-frame write register), said without
-- HistoryFlow; that they are those of HistoryFlow is the law `accesses_do_what_they_ask`.
use Rattle.std.specs.Prelude.{ℕ, ◌==◌, ◌&&◌, Bool, false, not}
use Rattle.x7_packets.specs.History.{Access, Read, History, command_held, writes}
use Rattle.x7_regs.specs.declared.command.Command.TheVariants as command
use Rattle.x7_regs.specs.declared.register.Reg.TheVariants as reg
use Rattle.x7_regs.specs.Command.{code_of}
use Rattle.x7_regs.specs.Register.{number_of}
use Rattle.x7_regs.specs.Control.{forbids_reading, forbids_writing}
use Rattle.x7_flow.specs.Controls.{ctl0_held, has_idcode}

-- a word of frame data for the memory: written to FDRI on a device whose IDCODE was written, under WCFG, where SBITS
-- allow writing
abbrev pub writes_frame_data : ℕ → History → Access → Bool
writes_frame_data idcode h access =
    writes (number_of reg.Fdri) access && (has_idcode idcode h && (command_held h == code_of command.Wcfg && not (forbids_writing (ctl0_held h))))

-- a read of frame data from the memory: some words of FDRO, under RCFG, where SBITS allow reading
abbrev pub reads_frame_data : History → Access → Bool
reads_frame_data h (Read register count) =
    register == number_of reg.Fdro && (not (count == 0) && (command_held h == code_of command.Rcfg && not (forbids_reading (ctl0_held h))))
reads_frame_data h _ = false

-- a word that asks for a copy of a frame: written to MFWR on a device whose IDCODE was written, where SBITS allow
-- writing; whether the copy is made or refused, `copy_fault` of x7_pipeline says
abbrev pub asks_frame_copy : ℕ → History → Access → Bool
asks_frame_copy idcode h access =
    writes (number_of reg.Mfwr) access && (has_idcode idcode h && not (forbids_writing (ctl0_held h)))
