-- The packets of a list of words (UG470, packet types). Fillers, the register of a type 2 packet and the end at DESYNC
-- are this project's choice where the guide leaves them open.
use Rattle.std.specs.Prelude.{◌≡◌, ℕ, ◌/◌, ◌%◌, ◌^◌, ◌≤◌, ◌==◌, ◌||◌, ◌&&◌, Bool, false, if◌then◌else◌, List, [], ◌∷◌, length, map, Option, None, Some}
use Rattle.std.specs.List.{flat_map}
use Rattle.x7_words.specs.Word.{AreWords, field_of}
use Rattle.x7_regs.specs.Register.{number_of}
use Rattle.x7_regs.specs.Command.{code_of, command_code_of}
use Rattle.x7_regs.specs.declared.register.Reg.TheVariants.{Cmd}
use Rattle.x7_regs.specs.declared.command.Command.TheVariants.{Desync}
use Rattle.x7_packets.specs.PacketWords.{dummy_word, no_op_kind, sync_word, type1_count_bound, type1_read_kind, type1_write_kind, type2_count_bound, type2_read_kind, type2_write_kind}
use Rattle.x7_packets.specs.declared.header.Step.{Step}
use Rattle.x7_packets.specs.declared.header.Step.TheVariants.{Filler, Nop, Open, Payload, Read, Bad}

-- packet type 31:29 of a word in a header's place
abbrev pub packet_type_of : ℕ → ℕ
packet_type_of word = word / 2 ^ 29

-- the kind of a header word: its packet type 31:29 and opcode 28:27, as one number
abbrev pub header_kind_of : ℕ → ℕ
header_kind_of word = word / 2 ^ 27

-- register 17:13 of a type 1 header
abbrev pub register_of : ℕ → ℕ
register_of = field_of 13 5

-- word count 10:0 of a type 1 header
abbrev pub type1_count_of : ℕ → ℕ
type1_count_of word = word % type1_count_bound

-- word count 26:0 of a type 2 header
abbrev pub type2_count_of : ℕ → ℕ
type2_count_of word = word % type2_count_bound

-- what a word in a header's place means as a type 2 header, where the nearest type 1 read or write named this register;
-- no header, where there was none
abbrev pub type2_meaning : Option ℕ → ℕ → Step
type2_meaning None w = Bad w
type2_meaning (Some register) w =
    if header_kind_of w == type2_write_kind then Open register (type2_count_of w) else
    if header_kind_of w == type2_read_kind then Read register (type2_count_of w) else Bad w

-- what a word in a header's place means, where the nearest type 1 read or write, if there was one, named this register
abbrev pub meaning : Option ℕ → ℕ → Step
meaning latest w =
    if w == sync_word || w == dummy_word || packet_type_of w == 0 then Filler else
    if header_kind_of w == no_op_kind then Nop else
    if header_kind_of w == type1_write_kind then Open (register_of w) (type1_count_of w) else
    if header_kind_of w == type1_read_kind then Read (register_of w) (type1_count_of w) else
    type2_meaning latest w

-- a header word with its meaning, and the words of its payload
pub record Packet : Type 0 where
  pub head : ℕ
  pub step : Step
  pub payload : List ℕ

-- how many payload words follow a header, by its step: those of a write
abbrev pub count_of : Step → ℕ
count_of (Open register count) = count
count_of _ = 0

-- the register that a header names, by its step; 0 where it names none
abbrev pub register_named_by : Step → ℕ
register_named_by (Open register count) = register
register_named_by (Read register count) = register
register_named_by _ = 0

-- the words of a packet
abbrev pub words : Packet → List ℕ
words p = p.head ∷ p.payload

-- the payload words of a register, each with its step
abbrev pub payload_steps : ℕ → List ℕ → List (ℕ × Step)
payload_steps register ws = map (λ w. (w, Payload register w)) ws

-- the words of a packet, each with its step
abbrev pub stepped : Packet → List (ℕ × Step)
stepped p = (p.head, p.step) ∷ payload_steps (register_named_by p.step) p.payload

-- the register that the nearest type 1 read or write named, up to and including a header, by its step; `latest` is the
-- one named before it, which a type 2 header names again
abbrev pub latest_after : Option ℕ → Step → Option ℕ
latest_after latest (Open register count) = Some register
latest_after latest (Read register count) = Some register
latest_after latest _ = latest

-- the register that the nearest type 1 read or write named, up to the end of packets; `latest` is the one named before
-- them
abbrev pub latest_of : Option ℕ → List Packet → Option ℕ
latest_of latest [] = latest
latest_of latest (p ∷ ps) = latest_of (latest_after latest p.step) ps

-- the word, written to the register, ends the session: DESYNC written to CMD, by its low five bits
abbrev pub ends_session : ℕ → ℕ → Bool
ends_session register w = register == number_of Cmd && command_code_of w == code_of Desync

-- no word written to the register ends the session
abbrev pub NoneEnds : ℕ → List ℕ → Type 0
NoneEnds register [] = Unit {0}
NoneEnds register (w ∷ ws) = (ends_session register w ≡ false) × NoneEnds register ws

-- no word written to the register but the last ends the session
abbrev pub OnlyLastMayEnd : ℕ → List ℕ → Type 0
OnlyLastMayEnd register [] = Unit {0}
OnlyLastMayEnd register (w ∷ []) = Unit {0}
OnlyLastMayEnd register (w ∷ x ∷ ws) = (ends_session register w ≡ false) × OnlyLastMayEnd register (x ∷ ws)

-- a packet of 32-bit words: the header means its step, the payload is no longer than the header says, and only its last
-- word may end the session
pub record IsPacket (latest : Option ℕ) (p : Packet) : Type 0 where
  pub fits : AreWords (words p)
  pub means : p.step ≡ meaning latest p.head
  pub most : length p.payload ≤ count_of p.step
  pub goes_on : OnlyLastMayEnd (register_named_by p.step) p.payload

-- a packet is whole: all of the payload is there, and no word of it ends the session
pub record IsWhole (p : Packet) : Type 0 where
  pub all : length p.payload ≡ count_of p.step
  pub none_ends : NoneEnds (register_named_by p.step) p.payload

-- each is a packet, and each but the last is whole
abbrev pub EachPacket : Option ℕ → List Packet → Type 0
EachPacket latest [] = Unit {0}
EachPacket latest (p ∷ []) = IsPacket latest p
EachPacket latest (p ∷ q ∷ ps) = IsPacket latest p × IsWhole p × EachPacket (latest_after latest p.step) (q ∷ ps)

-- the words are those of these packets
pub record HavePackets (ws : List ℕ) (ps : List Packet) : Type 0 where
  pub joined : ws ≡ flat_map words ps
  pub each : EachPacket None ps

-- the last of these payload words ends the session
abbrev pub last_ends : ℕ → List ℕ → Bool
last_ends register [] = false
last_ends register (w ∷ []) = ends_session register w
last_ends register (w ∷ x ∷ ws) = last_ends register (x ∷ ws)

-- the packets end by a word that ends the session
abbrev pub ended : List Packet → Bool
ended [] = false
ended (p ∷ []) = last_ends (register_named_by p.step) p.payload
ended (p ∷ q ∷ ps) = ended (q ∷ ps)
