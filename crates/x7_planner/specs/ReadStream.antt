-- The stream of a readback: a frame of zeros and the frames of n slots from an address on (UG470, readback; this
-- sequence is this project's choice).
use Rattle.std.specs.Prelude.{ℕ, ◌+◌, ◌*◌, List, [], ◌∷◌, ◌++◌, replicate}
use Rattle.x7_part.specs.Part.{PartData, frame_words}
use Rattle.x7_regs.specs.declared.command.Command.TheVariants.{Desync, Rcfg, Rcrc}
use Rattle.x7_regs.specs.declared.register.Reg.TheVariants.{Far}
use Rattle.x7_packets.specs.PacketWords.{command, frame_read_headers, no_op, write_one}
use Rattle.x7_planner.specs.Writer.{Words, ending_no_ops, opening_words, stream_of}

-- the bytes of the stream that reads `count` words of frame data from an address on
abbrev pub read_of_words : ℕ → ℕ → List ℕ
read_of_words address count =
    stream_of (Words (opening_words ++ (command Rcrc ++ (no_op ∷ (command Rcfg ++ (write_one Far address
    ++ (frame_read_headers count ++ (command Desync ++ replicate ending_no_ops no_op))))))) ∷ [])

-- the read stream of n slots from an address on: n frames and the frame of zeros before them
abbrev pub read_stream : PartData → ℕ → ℕ → List ℕ
read_stream part address n = read_of_words address (frame_words part * (n + 1))
