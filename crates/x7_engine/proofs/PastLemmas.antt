-- A device has a past, and goes on from it.
use Rattle.std.proofs.Common.{◌≡◌, ℕ, Bool, true, List, refl, sym, subst, ap, ◌∙◌}
use Rattle.x7_packets.specs.Cutter.{CutterState}
use Rattle.x7_part.specs.Part.{PartData}
use Rattle.x7_flow.specs.Saved.{FramesBack}
use Rattle.x7_flow.specs.Standing.{FramesState}
use Rattle.x7_engine.specs.declared.kept.Kept.{Kept}
use Rattle.x7_engine.specs.Past.{ForEachPast, HasSomePast, Past, TakesJust, later, past_of}
use Rattle.x7_engine.specs.Standing.{DeviceState, DeviceStandsFor, with_wrap}
use Rattle.x7_engine.specs.Undo.{AreEqualButForFed, UndoLeadsBack, UndoState}

-- the past of a device, by the device's own part
pub own_past : (d : DeviceState) (s : HasSomePast d) → DeviceStandsFor d.part s.past.kept s.past.wrapped d s.past.bytes
own_past d s = subst (λ (p : PartData). DeviceStandsFor p s.past.kept s.past.wrapped d s.past.bytes) (sym s.has.part_is) s.has

-- what holds of each past of a device with the part in its fields holds of each of its pasts
pub each_by_fields : (d e : DeviceState) (Fact : Past → Type 0) → d ≡ e → ((kept : Kept) (wrapped : Bool) (bytes : List ℕ) → DeviceStandsFor d.part kept wrapped d bytes → Fact (past_of d.part kept wrapped bytes)) → ForEachPast e Fact
each_by_fields d e Fact same f part kept wrapped bytes s =
    let here : d.part ≡ part = ap (λ (x : DeviceState). x.part) same ∙ s.part_is in
    subst (λ (p : PartData). Fact (past_of p kept wrapped bytes)) here
    (f kept wrapped bytes (subst (λ (x : DeviceState). DeviceStandsFor d.part kept wrapped x bytes) (sym same) (subst (λ (p : PartData). DeviceStandsFor p kept wrapped e bytes) (sym here) s)))

-- a device that took bytes has a past, where it had one before
pub past_later : (old new : DeviceState) (more : List ℕ) → TakesJust old new more → HasSomePast old → HasSomePast new
past_later old new more takes s = record { past = later s.past more; has = takes s.past.part s.past.kept s.past.wrapped s.past.bytes s.has }

-- the count of all bytes fed is in no past
pub stands_fed : (part : PartData) (kept : Kept) (wrapped : Bool) (d : DeviceState) (bytes : List ℕ) (fed : ℕ) → DeviceStandsFor part kept wrapped d bytes → DeviceStandsFor part kept wrapped (record d { fed = fed }) bytes
stands_fed part kept wrapped d bytes fed s = record {
  fits = s.fits;
  part_is = s.part_is;
  wrapped_is = s.wrapped_is;
  taken_is = s.taken_is;
  stop_is = s.stop_is;
  registers_are = s.registers_are;
  cutter_is = s.cutter_is;
  due_are = s.due_are;
  none_due_at_stop = s.none_due_at_stop;
}

-- the end of the flash is in no stored value but one
pub stands_wrapped : (part : PartData) (kept : Kept) (wrapped : Bool) (d : DeviceState) (bytes : List ℕ) → DeviceStandsFor part kept wrapped d bytes → DeviceStandsFor part kept true (with_wrap d) bytes
stands_wrapped part kept wrapped d bytes s = record {
  fits = s.fits;
  part_is = s.part_is;
  wrapped_is = refl;
  taken_is = s.taken_is;
  stop_is = s.stop_is;
  registers_are = s.registers_are;
  cutter_is = s.cutter_is;
  due_are = s.due_are;
  none_due_at_stop = s.none_due_at_stop;
}

pub past_equal : (d e : DeviceState) → AreEqualButForFed d e → HasSomePast e → HasSomePast d
past_equal d e same s =
    let p : Past = s.past in
    subst HasSomePast (sym same) (record { past = p; has = stands_fed p.part p.kept p.wrapped e p.bytes d.fed s.has })

-- a device that has the stored values of another is equal to it but for the bytes ever fed
pub equal_back : (d e : DeviceState) → d.part ≡ e.part → d.cutter ≡ e.cutter → d.registers ≡ e.registers → d.wrapped ≡ e.wrapped → d.taken ≡ e.taken → AreEqualButForFed d e
equal_back d e part cutter registers wrapped taken =
    ap (λ x. record d { part = x }) part
    ∙ ap (λ x. record d { part = e.part; cutter = x }) cutter
    ∙ ap (λ x. record d { part = e.part; cutter = e.cutter; registers = x }) registers
    ∙ ap (λ x. record d { part = e.part; cutter = e.cutter; registers = e.registers; wrapped = x }) wrapped
    ∙ ap (λ x. record d { part = e.part; cutter = e.cutter; registers = e.registers; wrapped = e.wrapped; taken = x }) taken

-- a device is undone to the old one to which what was saved leads back; `here` and `saved` are the fields of the device
-- before and of what was saved
pub undone : (here now old : DeviceState) (saved u : UndoState) (cutter : CutterState) (frames : FramesState) → here ≡ now → saved ≡ u → cutter ≡ saved.cutter → UndoLeadsBack u now old
    → (FramesBack here.part saved.frames here.registers.frames old.registers.frames → frames ≡ old.registers.frames)
    → AreEqualButForFed (record { part = here.part; cutter = cutter; registers = record { values = saved.values; frames = frames }; wrapped = saved.wrapped; taken = saved.taken; fed = here.fed }) old
undone here now old saved u cutter frames same_device same_undo same_cutter back restored =
    let b : UndoLeadsBack saved here old = subst (λ (x : DeviceState). UndoLeadsBack saved x old) (sym same_device) (subst (λ (x : UndoState). UndoLeadsBack x now old) (sym same_undo) back) in
    let f : frames ≡ old.registers.frames = restored (subst (λ (p : PartData). FramesBack p saved.frames here.registers.frames old.registers.frames) (sym b.part) b.frames) in
    equal_back _ old b.part (same_cutter ∙ b.values.cutter) (ap (λ v. record { values = v; frames = frames }) b.values.values ∙ ap (λ x. record { values = old.registers.values; frames = x }) f) b.values.wrapped b.values.taken
