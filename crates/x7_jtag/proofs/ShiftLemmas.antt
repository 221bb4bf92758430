-- Lemmas on shifted bytes: eight clocks under CFG_IN complete a byte.
use Rattle.std.proofs.Common.{◌≡◌, ℕ, suc, ◌+◌, ◌-◌, ◌*◌, ◌/◌, ◌%◌, ◌<◌, ◌==◌, Bool, true, false, List, [], ◌∷◌, ◌++◌, length, slice_index, refl, ap, sym, subst, ◌∙◌, arith}
use Rattle.std.specs.List.{fold}
use Rattle.std.proofs.lemmas.List.Sums.{fold-append}
use Rattle.x7_words.specs.Word.{AreBytes, number_of_bit}
use Rattle.x7_part.specs.Part.{PartData}
use Rattle.x7_engine.specs.Standing.{DeviceState}
use Rattle.x7_svf.specs.Bits.{byte_bits, bytes_bits}
use Rattle.x7_jtag.specs.declared.instruction.Instruction.{Instruction}
use Rattle.x7_jtag.specs.declared.instruction.Instruction.TheVariants as instruction
use Rattle.x7_jtag.specs.declared.state.State.{State}
use Rattle.x7_jtag.specs.declared.state.State.TheVariants as state
use Rattle.x7_jtag.specs.Clocks.{clock, inner_clocks}
use Rattle.x7_jtag.specs.Port.{Port, after_clock, port_after, new_port, with_bit, words_read_out}
use Rattle.x7_jtag.specs.Queue.{Queue, offered}
use Rattle.x7_jtag.specs.State.{PortClock}
use Rattle.x7_jtag.specs.Tap.{QueueStandsFor, StandsForPort, TakesBytes, TapStandsFor, TapState, last_or}

-- ---- eight bits make a byte

bit_value : (n : ℕ) → number_of_bit (n % 2 == 1) ≡ n % 2
bit_value n = by (n % 2 == 1) refl
  where
    by : (b : Bool) → (n % 2 == 1) ≡ b → number_of_bit b ≡ n % 2
    by true e = grind (arith, e)
    by false e = grind (arith, e)

bit_in : (y n : ℕ) → with_bit y (n % 2 == 1) ≡ y % 128 * 2 + n % 2
bit_in y n = ap (λ (v : ℕ). y % 128 * 2 + v) (bit_value n)

in_2 : (y z b : ℕ) → z ≡ y % 128 * 2 + b / 128 % 2 → b < 256 → z % 2 ≡ b / 128
in_2 y z b d l = omega (arith, d, l)

in_4 : (y z b : ℕ) → z ≡ y % 128 * 2 + b / 64 % 2 → y % 2 ≡ b / 128 → z % 4 ≡ b / 64
in_4 y z b d e = omega (arith, d, e)

in_8 : (y z b : ℕ) → z ≡ y % 128 * 2 + b / 32 % 2 → y % 4 ≡ b / 64 → z % 8 ≡ b / 32
in_8 y z b d e = omega (arith, d, e)

in_16 : (y z b : ℕ) → z ≡ y % 128 * 2 + b / 16 % 2 → y % 8 ≡ b / 32 → z % 16 ≡ b / 16
in_16 y z b d e = omega (arith, d, e)

in_32 : (y z b : ℕ) → z ≡ y % 128 * 2 + b / 8 % 2 → y % 16 ≡ b / 16 → z % 32 ≡ b / 8
in_32 y z b d e = omega (arith, d, e)

in_64 : (y z b : ℕ) → z ≡ y % 128 * 2 + b / 4 % 2 → y % 32 ≡ b / 8 → z % 64 ≡ b / 4
in_64 y z b d e = omega (arith, d, e)

in_128 : (y z b : ℕ) → z ≡ y % 128 * 2 + b / 2 % 2 → y % 64 ≡ b / 4 → z % 128 ≡ b / 2
in_128 y z b d e = omega (arith, d, e)

in_256 : (y z b : ℕ) → z ≡ y % 128 * 2 + b % 2 → y % 128 ≡ b / 2 → z ≡ b
in_256 y z b d e = omega (arith, d, e)

-- the register after the bits of a byte
abbrev with_1 : ℕ → ℕ → ℕ
with_1 r b = with_bit r (b / 128 % 2 == 1)

abbrev with_2 : ℕ → ℕ → ℕ
with_2 r b = with_bit (with_1 r b) (b / 64 % 2 == 1)

abbrev with_3 : ℕ → ℕ → ℕ
with_3 r b = with_bit (with_2 r b) (b / 32 % 2 == 1)

abbrev with_4 : ℕ → ℕ → ℕ
with_4 r b = with_bit (with_3 r b) (b / 16 % 2 == 1)

abbrev with_5 : ℕ → ℕ → ℕ
with_5 r b = with_bit (with_4 r b) (b / 8 % 2 == 1)

abbrev with_6 : ℕ → ℕ → ℕ
with_6 r b = with_bit (with_5 r b) (b / 4 % 2 == 1)

abbrev with_7 : ℕ → ℕ → ℕ
with_7 r b = with_bit (with_6 r b) (b / 2 % 2 == 1)

abbrev with_8 : ℕ → ℕ → ℕ
with_8 r b = with_bit (with_7 r b) (b % 2 == 1)

with_byte : (r b : ℕ) → b < 256 → with_8 r b ≡ b
with_byte r b l =
    let e1 : with_1 r b % 2 ≡ b / 128 = in_2 r (with_1 r b) b (bit_in r (b / 128)) l in
    let e2 : with_2 r b % 4 ≡ b / 64 = in_4 (with_1 r b) (with_2 r b) b (bit_in (with_1 r b) (b / 64)) e1 in
    let e3 : with_3 r b % 8 ≡ b / 32 = in_8 (with_2 r b) (with_3 r b) b (bit_in (with_2 r b) (b / 32)) e2 in
    let e4 : with_4 r b % 16 ≡ b / 16 = in_16 (with_3 r b) (with_4 r b) b (bit_in (with_3 r b) (b / 16)) e3 in
    let e5 : with_5 r b % 32 ≡ b / 8 = in_32 (with_4 r b) (with_5 r b) b (bit_in (with_4 r b) (b / 8)) e4 in
    let e6 : with_6 r b % 64 ≡ b / 4 = in_64 (with_5 r b) (with_6 r b) b (bit_in (with_5 r b) (b / 4)) e5 in
    let e7 : with_7 r b % 128 ≡ b / 2 = in_128 (with_6 r b) (with_7 r b) b (bit_in (with_6 r b) (b / 2)) e6 in
    in_256 (with_7 r b) (with_8 r b) b (bit_in (with_7 r b) b) e7

-- ---- clocks of whole bytes

-- a port in Shift-DR under CFG_IN, where the next bit is the first of a byte
abbrev in_bytes : ℕ → Queue → Port
in_bytes r q = record { state = state.ShiftDr; instruction = instruction.CfgIn; register = r; count = 0; queue = q }

byte_clocked : (part : PartData) (r : ℕ) (q : Queue) (b : ℕ) → b < 256 → fold (after_clock part) (in_bytes r q) (inner_clocks (byte_bits b)) ≡ in_bytes b (offered (words_read_out part) q b)
byte_clocked part r q b l = ap (λ (w : ℕ). in_bytes w (offered (words_read_out part) q w)) (with_byte r b l)

pub inner_append : (bs cs : List Bool) → inner_clocks (bs ++ cs) ≡ inner_clocks bs ++ inner_clocks cs
inner_append [] cs = refl
inner_append (b ∷ bs) cs = ap (λ t. clock false b ∷ t) (inner_append bs cs)

bytes_clocked : (part : PartData) (r : ℕ) (q : Queue) (bs : List ℕ) → AreBytes bs → fold (after_clock part) (in_bytes r q) (inner_clocks (bytes_bits bs)) ≡ in_bytes (last_or r bs) (fold (offered (words_read_out part)) q bs)
bytes_clocked part r q [] f = refl
bytes_clocked part r q (b ∷ bs) f =
    ap (fold (after_clock part) (in_bytes r q)) (inner_append (byte_bits b) (bytes_bits bs))
    ∙ fold-append (after_clock part) (in_bytes r q) (inner_clocks (byte_bits b)) (inner_clocks (bytes_bits bs))
    ∙ ap (λ (p : Port). fold (after_clock part) p (inner_clocks (bytes_bits bs))) (byte_clocked part r q b f.0)
    ∙ bytes_clocked part b (offered (words_read_out part) q b) bs f.1

-- ---- a tap that took whole bytes

port_in_bytes : (p : Port) → p.state ≡ state.ShiftDr → p.instruction ≡ instruction.CfgIn → p.count ≡ 0 → p ≡ in_bytes p.register p.queue
port_in_bytes p s i c =
    ap (λ (x : State). record { state = x; instruction = p.instruction; register = p.register; count = p.count; queue = p.queue }) s
    ∙ ap (λ (x : Instruction). record { state = state.ShiftDr; instruction = x; register = p.register; count = p.count; queue = p.queue }) i
    ∙ ap (λ (x : ℕ). record { state = state.ShiftDr; instruction = instruction.CfgIn; register = p.register; count = x; queue = p.queue }) c

pub shifts_bytes : (part : PartData) (k n : TapState) (d e : DeviceState) (cs : List PortClock) (bs : List ℕ) → TapStandsFor part k d cs → TakesBytes k → AreBytes bs → n ≡ record k { register = last_or k.register bs; queue = n.queue }
    → QueueStandsFor part n.queue e (fold (offered (words_read_out part)) (port_after part cs).queue bs) → TapStandsFor part n e (cs ++ inner_clocks (bytes_bits bs))
shifts_bytes part k n d e cs bs s t f with q =
    let p : Port = port_after part cs in
    let in_state : p.state ≡ state.ShiftDr = sym s.state_is ∙ t.in_shift in
    let under : p.instruction ≡ instruction.CfgIn = sym s.instruction_is ∙ t.under in
    let first : p.count ≡ 0 = sym s.count_is ∙ t.at_first in
    let all : port_after part (cs ++ inner_clocks (bytes_bits bs)) ≡ in_bytes (last_or p.register bs) (fold (offered (words_read_out part)) p.queue bs) =
    fold-append (after_clock part) new_port cs (inner_clocks (bytes_bits bs)) ∙ ap (λ (x : Port). fold (after_clock part) x (inner_clocks (bytes_bits bs))) (port_in_bytes p in_state under first) ∙ bytes_clocked part p.register p.queue bs f in
    subst (StandsForPort part n e) (sym all) (record {
      state_is = ap (λ (x : TapState). x.state) with ∙ t.in_shift;
      instruction_is = ap (λ (x : TapState). x.instruction) with ∙ t.under;
      register_is = ap (λ (x : TapState). x.register) with ∙ ap (λ (r : ℕ). last_or r bs) s.register_is;
      count_is = ap (λ (x : TapState). x.count) with ∙ t.at_first;
      queue_is = q;
    })

pub last_is : (before : ℕ) (bs : List ℕ) → 0 < length bs → slice_index bs (length bs - 1) ≡ last_or before bs
last_is before [] l = absurd (omega (arith, l))
last_is before (b ∷ []) l = refl
last_is before (b ∷ c ∷ cs) l =
    let e : length (b ∷ c ∷ cs) - 1 ≡ suc (length (c ∷ cs) - 1) = omega arith in
    ap (λ (n : ℕ). slice_index (b ∷ c ∷ cs) n) e ∙ last_is b (c ∷ cs) (omega arith)
