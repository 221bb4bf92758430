-- A later history after two that leave the same settings but for MASK.
use Rattle.std.proofs.Common.{◌≡◌, ℕ, ◌-◌, ◌^◌, ◌==◌, ◌||◌, Bool, true, false, if◌then◌else◌, List, [], ◌∷◌, ◌++◌, Option, bit_and, bit_or, refl, ap, ◌∙◌}
use Rattle.x7_packets.specs.History.{Access, Write, Read, Bad, History, writes, written}
use Rattle.x7_part.specs.Part.{PartData}
use Rattle.x7_memory.specs.Plan.{PlanRow}
use Rattle.x7_flow.specs.Controls.{masked_word, names_part}
use Rattle.x7_pipeline.specs.FarAsRead.{loaded_base}
use Rattle.x7_regs.specs.Command.{command_with}
use Rattle.x7_flow.specs.Asking.{Asked}
use Rattle.x7_flow.specs.Settings.{Settings, command_code_after, settings_from}
use Rattle.x7_flow.specs.HistoryFlow.{Flow, asked_under, flow_by, write_asked}
use Rattle.x7_flow.specs.FrameMemory.{pairs_put}
use Rattle.x7_flow.specs.Later.{flow_from, flow_loaded, pairs_from, pairs_loaded}
use Rattle.x7_flow.specs.Alike.{AreSameButForMask, WritesMaskBeforeCtl0, sets_mask}

-- ---- settings

ctl0_same : (access : Access) (m n c d : ℕ) → (writes 5 access ≡ true → m ≡ n) → c ≡ d → masked_word 5 m access c ≡ masked_word 5 n access d
ctl0_same (Write r w) m n c d p e = by (r == 5) p
  where
    by : (b : Bool) → (b ≡ true → m ≡ n) → (if b then bit_or (bit_and c (2 ^ 32 - 1 - m)) (bit_and w m) else c) ≡ (if b then bit_or (bit_and d (2 ^ 32 - 1 - n)) (bit_and w n) else d)
    by true p = ap (λ (x : ℕ). bit_or (bit_and c (2 ^ 32 - 1 - x)) (bit_and w x)) (p refl) ∙ ap (λ (x : ℕ). bit_or (bit_and x (2 ^ 32 - 1 - n)) (bit_and w n)) e
    by false p = e
ctl0_same (Read r count) m n c d p e = e
ctl0_same (Bad w) m n c d p e = e

mask_same : (access : Access) (b : Bool) (m n : ℕ) → (b ≡ true → m ≡ n) → (writes 6 access || b) ≡ true → written 6 access m ≡ written 6 access n
mask_same (Write r w) b m n p e = by (r == 6) e
  where
    by : (x : Bool) → (x || b) ≡ true → (if x then w else m) ≡ (if x then w else n)
    by true e = refl
    by false e = p e
mask_same (Read r count) b m n p e = p e
mask_same (Bad w) b m n p e = p e

pub settings_alike : (idcode : ℕ) (s t : Settings) (later : History) → AreSameButForMask s t → WritesMaskBeforeCtl0 later →
    AreSameButForMask (settings_from idcode s later) (settings_from idcode t later) × (sets_mask later ≡ true → (settings_from idcode s later).mask ≡ (settings_from idcode t later).mask)
unfolding settings_from
settings_alike idcode s t [] a m = (a, λ e. absurd cc)
settings_alike idcode s t (e ∷ later) a m =
    let before = settings_alike idcode s t later a m.1 in
    let alike = before.0 in
    let x : Settings = settings_from idcode s later in
    let y : Settings = settings_from idcode t later in (
      record {
        has_idcode_same = ap (λ (b : Bool). names_part idcode e.access || b) alike.has_idcode_same;
        ctl0_same = ctl0_same e.access x.mask y.mask x.ctl0 y.ctl0 (λ w. before.1 (m.0 w)) alike.ctl0_same;
        command_code_same = ap (command_code_after e.access) alike.command_code_same;
      },
      mask_same e.access (sets_mask later) x.mask y.mask before.1,
    )

-- ---- what is asked, the flow and the pairs

asked_alike : (s t : Settings) (access : Access) → AreSameButForMask s t → asked_under s access ≡ asked_under t access
asked_alike s t (Write r w) a =
    let by : Bool → ℕ → ℕ → Asked = λ b c d. write_asked (record { has_idcode = b; mask = 0; ctl0 = c; command_code = d }) r w in
    ap (λ (b : Bool). by b s.ctl0 s.command_code) a.has_idcode_same ∙ ap (λ (c : ℕ). by t.has_idcode c s.command_code) a.ctl0_same ∙ ap (λ (d : ℕ). by t.has_idcode t.ctl0 d) a.command_code_same
asked_alike s t (Read r count) a =
    let by : ℕ → ℕ → Asked = λ c d. asked_under (record { has_idcode = false; mask = 0; ctl0 = c; command_code = d }) (Read r count) in
    ap (λ (c : ℕ). by c s.command_code) a.ctl0_same ∙ ap (λ (d : ℕ). by t.ctl0 d) a.command_code_same
asked_alike s t (Bad w) a = refl

pub flow_alike : (part : PartData) (s t : Settings) (f : Flow) (later : History) → AreSameButForMask s t → WritesMaskBeforeCtl0 later → flow_from part s f later ≡ flow_from part t f later
unfolding flow_from
flow_alike part s t f [] a m = refl
flow_alike part s t f (e ∷ later) a m =
    let x : Settings = settings_from part.idcode s later in
    let y : Settings = settings_from part.idcode t later in
    ap (λ (q : Asked). flow_by part q (flow_from part s f later)) (asked_alike x y e.access (settings_alike part.idcode s t later a m.1).0)
    ∙ ap (flow_by part (asked_under y e.access)) (flow_alike part s t f later a m.1)

pub pairs_alike : (part : PartData) (s t : Settings) (f : Flow) (later : History) → AreSameButForMask s t → WritesMaskBeforeCtl0 later → pairs_from part s f later ≡ pairs_from part t f later
unfolding pairs_from
pairs_alike part s t f [] a m = refl
pairs_alike part s t f (e ∷ later) a m =
    let x : Settings = settings_from part.idcode s later in
    let y : Settings = settings_from part.idcode t later in
    ap (λ (q : Asked). pairs_put part q (flow_from part s f later) ++ pairs_from part s f later) (asked_alike x y e.access (settings_alike part.idcode s t later a m.1).0)
    ∙ ap (λ (g : Flow). pairs_put part (asked_under y e.access) g ++ pairs_from part s f later) (flow_alike part s t f later a m.1)
    ∙ ap (λ (ps : List PlanRow). pairs_put part (asked_under y e.access) (flow_from part t f later) ++ ps) (pairs_alike part s t f later a m.1)

pub loaded_alike : (part : PartData) (s t : Settings) (source : Option (List ℕ)) (w : ℕ) (later : History) → AreSameButForMask s t → WritesMaskBeforeCtl0 later → pairs_loaded part s source w later ≡ pairs_loaded part t source w later
loaded_alike part s t source w later a m =
    ap (λ (held : ℕ). pairs_from part s (record { command = command_with held; base = loaded_base part w; run = []; source = source; given = 0 }) later) a.command_code_same
    ∙ pairs_alike part s t (flow_loaded part t source w) later a m
