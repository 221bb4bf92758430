-- Five fields of control register 0 (UG470, control register 0), each by the number of its lowest bit.
use Rattle.std.specs.Prelude.{ℕ, ◌+◌, ◌==◌, Bool, not}
use Rattle.x7_words.specs.Word.{field_of}

-- the bit of GTS_USER_B in CTL0: 1 where the outputs are as startup says
abbrev pub gts_user_b : ℕ
gts_user_b = 0

-- the lowest bit of SBITS in CTL0, two bits: 00 lets frames be read and written, 01 forbids to read them, 1x both
abbrev pub sbits : ℕ
sbits = 4

-- the bit of DEC in CTL0: 1 where the device is to decrypt the stream
abbrev pub dec : ℕ
dec = 6

-- the bit of GLUTMASK_B in CTL0: 1 where readback shows memories in logic
abbrev pub glutmask_b : ℕ
glutmask_b = 8

-- the bit of CONFIG_FALLBACK in CTL0: 1 forbids a fallback
abbrev pub config_fallback : ℕ
config_fallback = 10

-- SBITS of this word of CTL0 forbid writing frames: they are 1x
abbrev pub forbids_writing : ℕ → Bool
forbids_writing ctl0 = field_of (sbits + 1) 1 ctl0 == 1

-- SBITS of this word of CTL0 forbid reading frames: they are not 00
abbrev pub forbids_reading : ℕ → Bool
forbids_reading ctl0 = not (field_of sbits 2 ctl0 == 0)

-- DEC of this word of CTL0 is 1
abbrev pub has_dec : ℕ → Bool
has_dec ctl0 = field_of dec 1 ctl0 == 1

-- CONFIG_FALLBACK of this word of CTL0 is 1
abbrev pub forbids_fallback : ℕ → Bool
forbids_fallback ctl0 = field_of config_fallback 1 ctl0 == 1
