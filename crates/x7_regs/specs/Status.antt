-- The status register STAT (UG470, status register), each field by the number of its lowest bit.
use Rattle.std.specs.Prelude.{◌≡◌, ℕ, ◌+◌, ◌*◌, ◌^◌, ◌<◌, Bool, List, [], ◌∷◌, get_or}
use Rattle.x7_words.specs.Word.{field_of, number_of_bit}
use Rattle.x7_regs.specs.declared.status.StatParts.{StatParts}

-- the bit of CRC_ERROR in STAT: 1 after a check word that differed from the running check
abbrev pub crc_error : ℕ
crc_error = 0

-- the bit of PART_SECURED in STAT: 1 where the part decrypts its streams
abbrev pub part_secured : ℕ
part_secured = 1

-- the bit of MMCM_LOCK in STAT: 1 once the clock managers have locked
abbrev pub mmcm_lock : ℕ
mmcm_lock = 2

-- the bit of DCI_MATCH in STAT: 1 once the digitally controlled impedance has matched
abbrev pub dci_match : ℕ
dci_match = 3

-- the bit of EOS in STAT: 1 once the startup sequence has ended
abbrev pub eos : ℕ
eos = 4

-- the bit of GTS_CFG_B in STAT: 1 where the outputs are enabled
abbrev pub gts_cfg_b : ℕ
gts_cfg_b = 5

-- the bit of GWE in STAT: 1 where flip-flops and memories may change
abbrev pub gwe : ℕ
gwe = 6

-- the bit of GHIGH_B in STAT: 0 where the interconnect is off
abbrev pub ghigh_b : ℕ
ghigh_b = 7

-- the lowest bit of MODE in STAT, three bits: the mode pins
abbrev pub mode_bits : ℕ
mode_bits = 8

-- the bit of INIT_COMPLETE in STAT: 1 once the device has initialized
abbrev pub init_complete : ℕ
init_complete = 11

-- the bit of INIT_B in STAT: the pin INIT_B
abbrev pub init_b : ℕ
init_b = 12

-- the bit of RELEASE_DONE in STAT: 1 where the device releases the pin DONE
abbrev pub release_done : ℕ
release_done = 13

-- the bit of DONE in STAT: the pin DONE
abbrev pub done : ℕ
done = 14

-- the bit of ID_ERROR in STAT: 1 after a written idcode that was not the part's, and after frame data, a copy or START
-- before one that was (this project's choice; the guide: after a write to FDRI without a right idcode)
abbrev pub id_error : ℕ
id_error = 15

-- the bit of DEC_ERROR in STAT: 1 after a write to FDRI before or after a decryption
abbrev pub dec_error : ℕ
dec_error = 16

-- the bit of XADC_OVER_TEMP in STAT: 1 where the part is too hot
abbrev pub xadc_over_temp : ℕ
xadc_over_temp = 17

-- the lowest bit of STARTUP_STATE in STAT, three bits: the state of the startup machine
abbrev pub startup_state_bits : ℕ
startup_state_bits = 18

-- the lowest bit of BUS_WIDTH in STAT, two bits: 00 for one bit, 01 for 8, 10 for 16 and 11 for 32
abbrev pub bus_width : ℕ
bus_width = 25

-- 1 for true and 0 for false: `number_of_bit`, which unfolds only where a proof says so, since else a check would go
-- through all words of STAT
unfoldable pub flag_of : Bool → ℕ
flag_of b = number_of_bit b

-- the codes of the startup machine's states for its phases from 0 to 7: 000, 001, 011, 010, 110, 111, 101, 100
abbrev pub startup_states : List ℕ
startup_states = 0 ∷ 1 ∷ 3 ∷ 2 ∷ 6 ∷ 7 ∷ 5 ∷ 4 ∷ []

-- what STARTUP_STATE holds in a phase from 0 to 7, and 0 for any other number
unfoldable pub startup_state_of : ℕ → ℕ
startup_state_of phase = get_or startup_states phase 0

-- The word of STAT. INIT_COMPLETE is always 1; PART_SECURED, DEC_ERROR and XADC_OVER_TEMP are always 0 (this project's
-- choice).
unfoldable pub status_of : StatParts → ℕ
status_of p =
    flag_of p.crc_error * 2 ^ crc_error
    + flag_of p.lock * 2 ^ mmcm_lock
    + flag_of p.matched * 2 ^ dci_match
    + flag_of p.eos * 2 ^ eos
    + flag_of p.gts * 2 ^ gts_cfg_b
    + flag_of p.gwe * 2 ^ gwe
    + flag_of p.ghigh * 2 ^ ghigh_b
    + p.mode * 2 ^ mode_bits
    + 2 ^ init_complete
    + flag_of p.init_b * 2 ^ init_b
    + flag_of p.done * 2 ^ release_done
    + flag_of p.done * 2 ^ done
    + flag_of p.id_error * 2 ^ id_error
    + startup_state_of p.phase * 2 ^ startup_state_bits
    + p.bus_width * 2 ^ bus_width

-- the parts fit their fields of STAT
pub record FitStatus (p : StatParts) : Type 0 where
  pub mode : p.mode < 2 ^ 3
  pub phase : p.phase < 2 ^ 3
  pub bus_width : p.bus_width < 2 ^ 2

-- each field of this word of STAT holds its part, or 1 for INIT_COMPLETE and 0 for PART_SECURED, DEC_ERROR and
-- XADC_OVER_TEMP; the reserved bits are 0, and the word has 32 bits
pub record HasStatusFields (p : StatParts) (word : ℕ) : Type 0 where
  pub crc_error : field_of crc_error 1 word ≡ flag_of p.crc_error
  pub part_secured : field_of part_secured 1 word ≡ 0
  pub mmcm_lock : field_of mmcm_lock 1 word ≡ flag_of p.lock
  pub dci_match : field_of dci_match 1 word ≡ flag_of p.matched
  pub eos : field_of eos 1 word ≡ flag_of p.eos
  pub gts_cfg_b : field_of gts_cfg_b 1 word ≡ flag_of p.gts
  pub gwe : field_of gwe 1 word ≡ flag_of p.gwe
  pub ghigh_b : field_of ghigh_b 1 word ≡ flag_of p.ghigh
  pub mode : field_of mode_bits 3 word ≡ p.mode
  pub init_complete : field_of init_complete 1 word ≡ 1
  pub init_b : field_of init_b 1 word ≡ flag_of p.init_b
  pub release_done : field_of release_done 1 word ≡ flag_of p.done
  pub done : field_of done 1 word ≡ flag_of p.done
  pub id_error : field_of id_error 1 word ≡ flag_of p.id_error
  pub dec_error : field_of dec_error 1 word ≡ 0
  pub xadc_over_temp : field_of xadc_over_temp 1 word ≡ 0
  pub startup_state : field_of startup_state_bits 3 word ≡ startup_state_of p.phase
  -- bits 24 to 21
  pub reserved_below : field_of 21 4 word ≡ 0
  pub bus_width : field_of bus_width 2 word ≡ p.bus_width
  -- bits 31 to 27, and none above
  pub reserved_above : field_of 27 5 word ≡ 0
  pub fits : word < 2 ^ 32
