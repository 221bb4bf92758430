-- What holds of the queue of a port after any clocks.
use Rattle.std.proofs.Common.{◌≡◌, ℕ, ◌+◌, ◌<◌, ◌≤◌, ◌≢◌, ◌==◌, ◌&&◌, Bool, true, false, if◌then◌else◌, List, [], ◌∷◌, ◌++◌, length, refl, sym, subst, ap, ◌∙◌, append_assoc, append-nil, arith, length-append}
use Rattle.std.proofs.lemmas.Bool.{ltb-true}
use Rattle.std.specs.List.{fold}
use Rattle.x7_words.specs.Word.{AreBytes, number_of_bit}
use Rattle.x7_words.proofs.ListLemmas.{all_append, all_prefix}
use Rattle.x7_part.specs.Part.{PartData}
use Rattle.x7_engine.specs.Kept.{on_the_bench}
use Rattle.x7_engine.proofs.ReadsLemmas.{reads_grow}
use Rattle.x7_jtag.specs.declared.instruction.Instruction.{Instruction}
use Rattle.x7_jtag.specs.declared.instruction.Instruction.TheVariants as instruction
use Rattle.x7_jtag.specs.declared.state.State.{State}
use Rattle.x7_jtag.specs.declared.state.State.TheVariants as state
use Rattle.x7_jtag.specs.Events.{byte_at_eight, data_events, events_in, events_of, idle_events, update_events}
use Rattle.x7_jtag.specs.Instruction.{instruction_of}
use Rattle.x7_jtag.specs.Port.{Port, after_clock, new_port, port_after, with_bit, words_read_out}
use Rattle.x7_jtag.specs.Queue.{QueueEvent, Byte, Bit, Program, Queue, bits_read, dropped, in_turn, waits, give_held, empty_queue, by_event, most_bytes_held, QueueIsSound, queue_with_room}
use Rattle.x7_jtag.specs.State.{PortClock}
use Rattle.x7_jtag.proofs.EventLemmas.{queue_events}

-- the words that are read out of bytes only grow
abbrev Grows : (List ℕ → List ℕ) → Type 0
Grows reads = (bytes more : List ℕ) → AreBytes (bytes ++ more) → (words : List ℕ) × (reads (bytes ++ more) ≡ reads bytes ++ words)

more_read : (reads : List ℕ → List ℕ) → Grows reads → (given more : List ℕ) → AreBytes (given ++ more) → bits_read reads given ≤ bits_read reads (given ++ more)
more_read reads g given more f =
    let grown = g given more f in
    let e : length (reads (given ++ more)) ≡ length (reads given) + length grown.0 = ap length grown.1 ∙ length-append (reads given) grown.0 in
    omega (arith, e)

one_byte : (x : ℕ) → x < 256 → AreBytes (x ∷ [])
one_byte x l = (l, tt)

-- ---- held bytes in their turn

-- held bytes are given one by one until a word waits
abbrev pub given_on : (List ℕ → List ℕ) → List ℕ → List ℕ → ℕ → Queue
given_on reads given [] out = record { given = given; held = []; out = out }
given_on reads given (h ∷ hs) out = if waits reads given out then record { given = given; held = h ∷ hs; out = out } else given_on reads (given ++ h ∷ []) hs out

held_waits : (reads : List ℕ → List ℕ) (given hs : List ℕ) (out : ℕ) → waits reads given out ≡ true → given_on reads given hs out ≡ record { given = given; held = hs; out = out }
held_waits reads given [] out e = refl
held_waits reads given (h ∷ hs) out e = ap (λ (b : Bool). if b then record { given = given; held = h ∷ hs; out = out } else given_on reads (given ++ h ∷ []) hs out) e

pub turns_wait : (reads : List ℕ → List ℕ) (given held hs : List ℕ) (out : ℕ) → waits reads given out ≡ true → fold (in_turn reads) (record { given = given; held = held; out = out }) hs ≡ record { given = given; held = held ++ hs; out = out }
turns_wait reads given held [] out e = ap (λ (t : List ℕ). record { given = given; held = t; out = out }) (sym (append-nil held))
turns_wait reads given held (h ∷ hs) out e =
    ap (λ (b : Bool). fold (in_turn reads) (if b then record { given = given; held = held ++ h ∷ []; out = out } else record { given = given ++ h ∷ []; held = held; out = out }) hs) e
    ∙ turns_wait reads given (held ++ h ∷ []) hs out e
    ∙ ap (λ (t : List ℕ). record { given = given; held = t; out = out }) (append_assoc held (h ∷ []) hs)

turns_by : (reads : List ℕ → List ℕ) (given : List ℕ) (h : ℕ) (hs : List ℕ) (out : ℕ) (b : Bool) → waits reads given out ≡ b
    → (waits reads given out ≡ false → given_on reads (given ++ h ∷ []) hs out ≡ fold (in_turn reads) (record { given = given ++ h ∷ []; held = []; out = out }) hs)
    → given_on reads given (h ∷ hs) out ≡ fold (in_turn reads) (record { given = given; held = []; out = out }) (h ∷ hs)
turns_by reads given h hs out true e next = held_waits reads given (h ∷ hs) out e ∙ sym (turns_wait reads given [] (h ∷ hs) out e)
turns_by reads given h hs out false e next =
    ap (λ (b : Bool). if b then record { given = given; held = h ∷ hs; out = out } else given_on reads (given ++ h ∷ []) hs out) e
    ∙ next e
    ∙ sym (ap (λ (b : Bool). fold (in_turn reads) (if b then record { given = given; held = h ∷ []; out = out } else record { given = given ++ h ∷ []; held = []; out = out }) hs) e)

pub in_turns : (reads : List ℕ → List ℕ) (given hs : List ℕ) (out : ℕ) → given_on reads given hs out ≡ fold (in_turn reads) (record { given = given; held = []; out = out }) hs
in_turns reads given [] out = refl
in_turns reads given (h ∷ hs) out = turns_by reads given h hs out (waits reads given out) refl (λ e. in_turns reads (given ++ h ∷ []) hs out)

given_on_by : (reads : List ℕ → List ℕ) (given : List ℕ) (h : ℕ) (hs : List ℕ) (out : ℕ) (next : Queue) (b : Bool) → waits reads given out ≡ b
    → length (h ∷ hs) ≤ 64 → out ≤ bits_read reads given → AreBytes (given ++ h ∷ hs) → QueueIsSound reads next
    → QueueIsSound reads (if b then record { given = given; held = h ∷ hs; out = out } else next)
given_on_by reads given h hs out next true e r w f s = record { within = w; room = r; waiting = λ p. e; fits = f }
given_on_by reads given h hs out next false e r w f s = s

given_on_sound : (reads : List ℕ → List ℕ) → Grows reads → (given hs : List ℕ) (out : ℕ) → length hs ≤ 64 → out ≤ bits_read reads given → AreBytes (given ++ hs) → QueueIsSound reads (given_on reads given hs out)
given_on_sound reads g given [] out r w f = record { within = w; room = r; waiting = λ p. absurd (omega (arith, p)); fits = f }
given_on_sound reads g given (h ∷ hs) out r w f =
    let all : AreBytes ((given ++ h ∷ []) ++ hs) = subst AreBytes (sym (append_assoc given (h ∷ []) hs)) f in
    let prefix : AreBytes (given ++ h ∷ []) = all_prefix (λ b. b < 256) (given ++ h ∷ []) hs all in
    given_on_by reads given h hs out (given_on reads (given ++ h ∷ []) hs out) (waits reads given out) refl r w f
    (given_on_sound reads g (given ++ h ∷ []) hs out (omega (arith, r)) (omega (arith, w, more_read reads g given (h ∷ []) prefix)) all)

-- with room for a byte that should be held
record Roomy (reads : List ℕ → List ℕ) (q : Queue) : Type 0 where
  pub sound : QueueIsSound reads q
  pub free : waits reads q.given q.out ≡ true → length q.held < 64

room_by : (reads : List ℕ → List ℕ) (q : Queue) (b : Bool) → (waits reads q.given q.out && length q.held == most_bytes_held) ≡ b → QueueIsSound reads q → Roomy reads (if b then dropped reads q else q)
room_by reads q true e s = record {
  sound = record { within = omega arith; room = omega arith; waiting = λ p. absurd (omega (arith, p)); fits = subst AreBytes (sym (append-nil (q.given ++ q.held))) s.fits };
  free = λ w. omega arith;
}
room_by reads q false e s = record {
  sound = s;
  free = λ w. let apart : (length q.held == most_bytes_held) ≡ false = grind (arith, e, w) in let other : length q.held ≢ 64 = grind (arith, apart) in omega (arith, s.room, other);
}

-- nothing is held where no word waits
none_held : (reads : List ℕ → List ℕ) (q : Queue) → QueueIsSound reads q → waits reads q.given q.out ≡ false → q.held ≡ []
none_held reads q s e = by q.held s.waiting
  where
    by : (held : List ℕ) → (0 < length held → waits reads q.given q.out ≡ true) → held ≡ []
    by [] w = refl
    by (h ∷ hs) w = absurd (let f : true ≡ false = sym (w (omega arith)) ∙ e in cc)

turn_by : (reads : List ℕ → List ℕ) → Grows reads → (q : Queue) (x : ℕ) (b : Bool) → x < 256 → waits reads q.given q.out ≡ b → Roomy reads q
    → QueueIsSound reads (if b then record { given = q.given; held = q.held ++ x ∷ []; out = q.out } else record { given = q.given ++ x ∷ []; held = q.held; out = q.out })
turn_by reads g q x true l e s = record {
  within = s.sound.within;
  room = omega (arith, s.free e, length-append q.held (x ∷ []));
  waiting = λ p. e;
  fits = subst AreBytes (append_assoc q.given q.held (x ∷ [])) (all_append (λ b. b < 256) (q.given ++ q.held) (x ∷ []) s.sound.fits (one_byte x l));
}
turn_by reads g q x false l e s =
    let prefix : AreBytes q.given = all_prefix (λ b. b < 256) q.given q.held s.sound.fits in
    let more : AreBytes (q.given ++ x ∷ []) = all_append (λ b. b < 256) q.given (x ∷ []) prefix (one_byte x l) in
    let held : q.held ≡ [] = none_held reads q s.sound e in
    record {
      within = omega (arith, s.sound.within, more_read reads g q.given (x ∷ []) more);
      room = s.sound.room;
      waiting = λ p. let w : true ≡ false = sym (s.sound.waiting p) ∙ e in absurd cc;
      fits = subst (λ (h : List ℕ). AreBytes ((q.given ++ x ∷ []) ++ h)) (sym held) (subst AreBytes (sym (append-nil (q.given ++ x ∷ []))) more);
    }

shifted_by : (reads : List ℕ → List ℕ) → Grows reads → (q : Queue) (b : Bool) → waits reads q.given q.out ≡ b → QueueIsSound reads q
    → QueueIsSound reads (if b then give_held reads (record q { out = q.out + 1 }) else q)
shifted_by reads g q true e s = subst (QueueIsSound reads) (in_turns reads q.given q.held (q.out + 1)) (given_on_sound reads g q.given q.held (q.out + 1) s.room (omega (arith, ltb-true q.out (bits_read reads q.given) e)) s.fits)
shifted_by reads g q false e s = s

empty_sound : (reads : List ℕ → List ℕ) → QueueIsSound reads empty_queue
empty_sound reads = record { within = omega arith; room = omega arith; waiting = λ p. absurd (omega (arith, p)); fits = tt }

-- ---- events

abbrev IsByteEvent : QueueEvent → Type 0
IsByteEvent (Byte x) = x < 256
IsByteEvent Bit = Unit {0}
IsByteEvent Program = Unit {0}

abbrev AreByteEvents : List QueueEvent → Type 0
AreByteEvents [] = Unit {0}
AreByteEvents (e ∷ es) = IsByteEvent e × AreByteEvents es

step_sound : (reads : List ℕ → List ℕ) → Grows reads → (q : Queue) (e : QueueEvent) → IsByteEvent e → QueueIsSound reads q → QueueIsSound reads (by_event reads q e)
step_sound reads g q (Byte x) l s =
    let r : Roomy reads (queue_with_room reads q) = room_by reads q (waits reads q.given q.out && length q.held == most_bytes_held) refl s in
    turn_by reads g (queue_with_room reads q) x (waits reads (queue_with_room reads q).given (queue_with_room reads q).out) l refl r
step_sound reads g q Bit l s = shifted_by reads g q (waits reads q.given q.out) refl s
step_sound reads g q Program l s = empty_sound reads

fold_sound : (reads : List ℕ → List ℕ) → Grows reads → (q : Queue) (es : List QueueEvent) → AreByteEvents es → QueueIsSound reads q → QueueIsSound reads (fold (by_event reads) q es)
fold_sound reads g q [] f s = s
fold_sound reads g q (e ∷ es) f s = fold_sound reads g (by_event reads q e) es f.1 (step_sound reads g q e f.0 s)

-- the events of clocks are of bytes

join_events : (es ds : List QueueEvent) → AreByteEvents es → AreByteEvents ds → AreByteEvents (es ++ ds)
join_events [] ds f g = g
join_events (e ∷ es) ds f g = (f.0, join_events es ds f.1 g)

at_eight : (count x : ℕ) → x < 256 → AreByteEvents (byte_at_eight count x)
at_eight count x l = by (count == 7)
  where
    by : (b : Bool) → AreByteEvents (if b then Byte x ∷ [] else [])
    by true = (l, tt)
    by false = tt

bit_small : (b : Bool) → number_of_bit b ≤ 1
bit_small true = omega arith
bit_small false = omega arith

byte_small : (r : ℕ) (tdi : Bool) → with_bit r tdi < 256
byte_small r tdi = omega (arith, bit_small tdi)

idle_bytes : (i : Instruction) (p : Port) → AreByteEvents (idle_events i p)
idle_bytes instruction.Jstart p = at_eight p.count 255 (omega arith)
idle_bytes instruction.CfgOut p = tt
idle_bytes instruction.CfgIn p = tt
idle_bytes instruction.Usercode p = tt
idle_bytes instruction.Idcode p = tt
idle_bytes instruction.Jprogram p = tt
idle_bytes instruction.Jshutdown p = tt
idle_bytes instruction.Bypass p = tt

data_bytes : (i : Instruction) (p : Port) (tdi : Bool) → AreByteEvents (data_events i p tdi)
data_bytes instruction.CfgIn p tdi = at_eight p.count (with_bit p.register tdi) (byte_small p.register tdi)
data_bytes instruction.CfgOut p tdi = (tt, tt)
data_bytes instruction.Jstart p tdi = tt
data_bytes instruction.Usercode p tdi = tt
data_bytes instruction.Idcode p tdi = tt
data_bytes instruction.Jprogram p tdi = tt
data_bytes instruction.Jshutdown p tdi = tt
data_bytes instruction.Bypass p tdi = tt

update_bytes : (i : Instruction) → AreByteEvents (update_events i)
update_bytes instruction.Jprogram = (tt, tt)
update_bytes instruction.CfgIn = tt
update_bytes instruction.CfgOut = tt
update_bytes instruction.Jstart = tt
update_bytes instruction.Usercode = tt
update_bytes instruction.Idcode = tt
update_bytes instruction.Jshutdown = tt
update_bytes instruction.Bypass = tt

clock_bytes : (s : State) (p : Port) (tdi : Bool) → AreByteEvents (events_in s p tdi)
clock_bytes state.RunTestIdle p tdi = idle_bytes p.instruction p
clock_bytes state.ShiftDr p tdi = data_bytes p.instruction p tdi
clock_bytes state.UpdateIr p tdi = update_bytes (instruction_of p.register)
clock_bytes state.TestLogicReset p tdi = tt
clock_bytes state.SelectDr p tdi = tt
clock_bytes state.CaptureDr p tdi = tt
clock_bytes state.Exit1Dr p tdi = tt
clock_bytes state.PauseDr p tdi = tt
clock_bytes state.Exit2Dr p tdi = tt
clock_bytes state.UpdateDr p tdi = tt
clock_bytes state.SelectIr p tdi = tt
clock_bytes state.CaptureIr p tdi = tt
clock_bytes state.ShiftIr p tdi = tt
clock_bytes state.Exit1Ir p tdi = tt
clock_bytes state.PauseIr p tdi = tt
clock_bytes state.Exit2Ir p tdi = tt

clocks_bytes : (part : PartData) (p : Port) (cs : List PortClock) → AreByteEvents (events_of part p cs)
clocks_bytes part p [] = tt
clocks_bytes part p (c ∷ cs) = join_events (events_in p.state p c.tdi) (events_of part (after_clock part p c) cs) (clock_bytes p.state p c.tdi) (clocks_bytes part (after_clock part p c) cs)

pub port_sound : (part : PartData) (cs : List PortClock) → QueueIsSound (words_read_out part) (port_after part cs).queue
port_sound part cs =
    subst (QueueIsSound (words_read_out part)) (sym (queue_events part cs)) (fold_sound (words_read_out part) (reads_grow part on_the_bench) empty_queue (events_of part new_port cs) (clocks_bytes part new_port cs) (empty_sound (words_read_out part)))
