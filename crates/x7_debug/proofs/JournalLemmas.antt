-- Records that lead back: one more, one less, and how far they reach.
use Rattle.std.proofs.Common.{◌≡◌, inl, inr, ℕ, zero, suc, ◌+◌, ◌-◌, ◌*◌, ◌<◌, ◌≤◌, Bool, false, List, [], ◌∷◌, ◌++◌, length, take, drop, min, max, Some, None, refl, ap, sym, subst, ◌∙◌, arith}
use Rattle.std.proofs.lemmas.List.{length-take, take-append-le, take-take}
use Rattle.std.proofs.lemmas.Bool.{cases_lt}
use Rattle.std.proofs.lemmas.List.{take_all}
use Rattle.std.specs.List.{AllByRecursion}
use Rattle.x7_words.proofs.ListLemmas.{take_up_to}
use Rattle.x7_part.specs.Part.{PartData}
use Rattle.x7_engine.specs.Kept.{on_the_bench}
use Rattle.x7_engine.specs.Standing.{DeviceState, DeviceStandsFor, NoWordDue}
use Rattle.x7_engine.proofs.BootLemmas.{none_due_at_first}
use Rattle.x7_engine.specs.Undo.{AreEqualButForFed, IsUndoOf, SavesDevice, TookFewSince, UndoState}
use Rattle.x7_debug.specs.Journal.{ComesToPosition, IsFedAtMost, MoveCosts, IsOnStream, IsRecord, JournalState, LeadBack, oldest_by, records_of}
use Rattle.x7_debug.specs.SessionFields.{session_of}
use Rattle.x7_debug.specs.Moving.{ComesForward, ComesForwardRecorded}
use Rattle.x7_debug.specs.Position.{last_of}
use Rattle.x7_debug.specs.Session.{SessionState, StandsAtPosition}
use Rattle.x7_debug.proofs.PositionLemmas.{by_taken, own}
use Rattle.std.proofs.lemmas.Option.{none-some}
use Rattle.std.specs.Prelude.{slice_get}

-- ---- the oldest

-- the oldest is not after the position
pub oldest_within : (part : PartData) (stream : List ℕ) (at : ℕ) (us : List UndoState) → LeadBack part stream at us → oldest_by at us ≤ at
oldest_within part stream at [] l = omega arith
oldest_within part stream at (u ∷ us) l = omega (arith, oldest_within part stream u.taken us l.3, l.1)

leads_fewer : (part : PartData) (stream : List ℕ) (at n : ℕ) (us : List UndoState) → LeadBack part stream at us → LeadBack part stream at (take n us)
leads_fewer part stream at zero us l = tt
leads_fewer part stream at (suc n) [] l = tt
leads_fewer part stream at (suc n) (u ∷ us) l = (l.0, l.1, l.2, leads_fewer part stream u.taken n us l.3)

-- ---- how far records reach that were made since a position

-- of records made from `start` on, each but the newest leads four bytes further back; where some room is unused, all
-- lead back to `start`
pub record Reaches (start at : ℕ) (us : List UndoState) : Type 0 where
  pub spans : (n : ℕ) → n ≤ length us → oldest_by at (take n us) ≤ max start (at - 4 * n)
  pub unfilled : length us < 64 → oldest_by at us ≤ start

pub reaches_first : (part : PartData) (stream : List ℕ) (start : ℕ) (us : List UndoState) → LeadBack part stream start us → Reaches start start us
reaches_first part stream start us l = record {
  spans = λ n few. omega (arith, oldest_within part stream start (take n us) (leads_fewer part stream start n us l));
  unfilled = λ few. oldest_within part stream start us l;
}

take_fewer : (n : ℕ) (us : List UndoState) → n ≤ length (take 63 us) → take n (take 63 us) ≡ take n us
take_fewer n us few = take-take n 63 us (omega (arith, few, length-take 63 us))

unfilled_more : (start at : ℕ) (us : List UndoState) → Reaches start at us → length (take 63 us) < 63 → oldest_by at (take 63 us) ≤ start
unfilled_more start at us r few =
    let short : length us < 63 = omega (arith, few, length-take 63 us) in
    let all : take 63 us ≡ us = take_all 63 us (omega (arith, short)) in
    subst (λ (vs : List UndoState). oldest_by at vs ≤ start) (sym all) (r.unfilled (omega (arith, short)))

-- a whole piece more
pub reaches_whole : (start at to : ℕ) (u : UndoState) (us : List UndoState) → u.taken ≡ at → to ≡ at + 4 → Reaches start at us → Reaches start to (u ∷ take 63 us)
reaches_whole start at to u us e t r = record {
  spans = λ n few. by n few;
  unfilled = λ few. subst (λ (k : ℕ). oldest_by k (take 63 us) ≤ start) (sym e) (unfilled_more start at us r (omega (arith, few)));
}
  where
    by : (n : ℕ) → n ≤ length (u ∷ take 63 us) → oldest_by to (take n (u ∷ take 63 us)) ≤ max start (to - 4 * n)
    by zero few = omega arith
    by (suc n) few =
        let less : n ≤ length (take 63 us) = omega (arith, few) in
        let same : oldest_by u.taken (take n (take 63 us)) ≡ oldest_by at (take n us) = ap (λ (k : ℕ). oldest_by k (take n (take 63 us))) e ∙ ap (oldest_by at) (take_fewer n us less) in
        omega (arith, same, t, r.spans n (omega (arith, less, length-take 63 us)))

-- the last piece, which may be shorter
pub reaches_last : (start at to : ℕ) (u : UndoState) (us : List UndoState) → u.taken ≡ at → at < to → Reaches start at us → oldest_by to (u ∷ take 63 us) ≤ max start (to - 253)
reaches_last start at to u us e l r =
    let same : oldest_by u.taken (take 63 us) ≡ oldest_by at (take 63 us) = ap (λ (k : ℕ). oldest_by k (take 63 us)) e in
    elim (cases_lt (length us) 63) [
      | inl short ↦ omega (arith, same, unfilled_more start at us r (omega (arith, short, length-take 63 us)))
      | inr long ↦ omega (arith, same, r.spans 63 long, l)
    ]

-- what records reach between whole pieces
pub reaches_now : (start at : ℕ) (us : List UndoState) → length us ≤ 64 → Reaches start at us → oldest_by at us ≤ max start (at - 253)
reaches_now start at us few r =
    elim (cases_lt (length us) 64) [
      | inl short ↦ omega (arith, r.unfilled short)
      | inr long ↦ (let all : take 64 us ≡ us = take_all 64 us few in omega (arith, ap (oldest_by at) all, r.spans 64 long))
    ]

-- ---- a device and its records at another position

-- a device that is equal but for the bytes that it was ever fed
refed : (part : PartData) (stream : List ℕ) (d e : DeviceState) (n : ℕ) → AreEqualButForFed d e → StandsAtPosition part stream e n → StandsAtPosition part stream d n
refed part stream d e n q s =
    let t : DeviceStandsFor part on_the_bench false e (take n stream) = s.stands in
    let there : StandsAtPosition part stream (record e { fed = d.fed }) n = record {
      stands = record {
        fits = t.fits;
        part_is = t.part_is;
        wrapped_is = t.wrapped_is;
        taken_is = t.taken_is;
        stop_is = t.stop_is;
        registers_are = t.registers_are;
        cutter_is = t.cutter_is;
        due_are = t.due_are;
        none_due_at_stop = t.none_due_at_stop;
      };
      taken = s.taken;
      within = s.within;
      no_word_due = s.no_word_due;
    } in
    subst (λ (x : DeviceState). StandsAtPosition part stream x n) (sym q) there

-- a device at up to four bytes after a record
pub took_few : (part : PartData) (stream : List ℕ) (d : DeviceState) (at : ℕ) (u : UndoState) → IsRecord part stream u → StandsAtPosition part stream d at → u.taken ≤ at → at ≤ u.taken + 4 → TookFewSince u d
took_few part stream d at u r s low high = record {
  past = record { part = part; kept = on_the_bench; wrapped = false; bytes = take u.taken stream };
  more = take (at - u.taken) (drop u.taken stream);
  old = r.device;
  saves = r.saves;
  no_word_due = r.at_position.no_word_due;
  few = omega (arith, length-take (at - u.taken) (drop u.taken stream), high);
  had = r.at_position.stands;
  has = subst (λ (b : List ℕ). DeviceStandsFor part on_the_bench false d b) (sym (take_up_to stream u.taken at low)) s.stands;
}

-- a device at up to four bytes after a record goes back to it
pub goes_back : (part : PartData) (stream : List ℕ) (d new : DeviceState) (at : ℕ) (u : UndoState) (r : IsRecord part stream u) → StandsAtPosition part stream d at → u.taken ≤ at → at ≤ u.taken + 4
    → ((more : List ℕ) (old : DeviceState) → SavesDevice u old → NoWordDue old → length more ≤ 4 → DeviceStandsFor part on_the_bench false old (take u.taken stream) → DeviceStandsFor part on_the_bench false d (take u.taken stream ++ more) → AreEqualButForFed new old)
    → StandsAtPosition part stream new u.taken
goes_back part stream d new at u r s low high back =
    let more : List ℕ = take (at - u.taken) (drop u.taken stream) in
    let few : length more ≤ 4 = omega (arith, length-take (at - u.taken) (drop u.taken stream), high) in
    let now : DeviceStandsFor part on_the_bench false d (take u.taken stream ++ more) = subst (λ (b : List ℕ). DeviceStandsFor part on_the_bench false d b) (sym (take_up_to stream u.taken at low)) s.stands in
    refed part stream new r.device u.taken (back more r.device r.saves r.at_position.no_word_due few r.at_position.stands now) r.at_position

-- records of a device that went on, with one more
pub leads_more : (part : PartData) (stream : List ℕ) (d : DeviceState) (at to : ℕ) (u : UndoState) (us : List UndoState) → StandsAtPosition part stream d at → SavesDevice u d → at ≤ to → to ≤ at + 4 → LeadBack part stream at us → LeadBack part stream to (u ∷ take 63 us)
leads_more part stream d at to u us s k low high l =
    let taken : u.taken ≡ at = k.values.taken ∙ s.taken in
    let is : IsRecord part stream u = record { device = d; saves = k; at_position = subst (λ (n : ℕ). StandsAtPosition part stream d n) (sym taken) s } in
    (is, omega (arith, taken, low), omega (arith, taken, high), subst (λ (n : ℕ). LeadBack part stream n (take 63 us)) (sym taken) (leads_fewer part stream at 63 us l))

-- the newest record goes on to lead back
pub leads_further : (part : PartData) (stream : List ℕ) (at to : ℕ) (u : UndoState) (us : List UndoState) → at ≤ to → to ≤ u.taken + 4 → LeadBack part stream at (u ∷ us) → LeadBack part stream to (u ∷ us)
leads_further part stream at to u us low high l = (l.0, omega (arith, l.1, low), high, l.3)

-- one record in use less, which goes after all
pub records_less : (u : UndoState) (rest : List UndoState) (count less : ℕ) → less + 1 ≡ count → count ≤ 64 → length (u ∷ rest) ≡ 64 → take count (u ∷ rest) ≡ u ∷ take less (rest ++ u ∷ [])
records_less u rest count less e few long =
    let next : count ≡ suc less = omega (arith, e) in
    ap (λ (n : ℕ). take n (u ∷ rest)) next ∙ ap (λ (t : List UndoState). u ∷ t) (sym (take-append-le less rest (u ∷ []) (omega (arith, e, few, long))))

-- ---- the room for records

pub get_all : (P : UndoState → Type 0) (us : List UndoState) (i : ℕ) (u : UndoState) → Some u ≡ slice_get us i → AllByRecursion P us → P u
get_all P [] i u e a = absurd (none-some u (sym e))
get_all P (v ∷ us) zero u e a = (let same : v ≡ u = cc in subst P same a.0)
get_all P (v ∷ us) (suc i) u e a = get_all P us i u e a.1

pub first_of : (us : List UndoState) (u : UndoState) → Some u ≡ slice_get us 0 → us ≡ u ∷ drop 1 us
first_of [] u e = absurd (none-some u (sym e))
first_of (v ∷ us) u e = (let same : v ≡ u = cc in ap (λ (x : UndoState). x ∷ us) same)

pub keep_all : (n : ℕ) (us : List UndoState) → length us ≤ n → drop (length us - n) us ≡ us
keep_all n us few = (let none : length us - n ≡ 0 = omega (arith, few) in ap (λ (k : ℕ). drop k us) none)

-- one record more, in the place of the last one
pub records_more : (all new : List UndoState) (u : UndoState) (count more room : ℕ) → new ≡ take room (u ∷ take (length all - 1) all) → room ≡ 64 → length all ≡ 64 → count ≤ 64 → more ≡ min (count + 1) 64 → take more new ≡ u ∷ take 63 (take count all)
records_more all new u count more room e r long few m =
    let least : length all - 1 ≡ 63 = omega (arith, long) in
    let here : new ≡ u ∷ take 63 all = e ∙ ap (λ (k : ℕ). take k (u ∷ take (length all - 1) all)) r ∙ ap (λ (k : ℕ). u ∷ take 63 (take k all)) least ∙ ap (λ (t : List UndoState). u ∷ t) (take-take 63 63 all (omega arith)) in
    elim (cases_lt count 64) [
      | inl some ↦
          let next : more ≡ suc count = omega (arith, m, some) in
          ap (take more) here ∙ ap (λ (k : ℕ). take k (u ∷ take 63 all)) next ∙ ap (λ (t : List UndoState). u ∷ t) (take-take count 63 all (omega (arith, some))) ∙ ap (λ (t : List UndoState). u ∷ t) (sym (take_all 63 (take count all) (omega (arith, length-take count all, some))))
      | inr none ↦
          let next : more ≡ suc 63 = omega (arith, m, none) in
          ap (take more) here ∙ ap (λ (k : ℕ). take k (u ∷ take 63 all)) next ∙ ap (λ (t : List UndoState). u ∷ t) (take-take 63 63 all (omega arith)) ∙ ap (λ (t : List UndoState). u ∷ t) (sym (take-take 63 count all (omega (arith, none))))
    ]

-- the oldest record in use
pub oldest_is : (at : ℕ) (us : List UndoState) (less : ℕ) (u : UndoState) → Some u ≡ slice_get us less → u.taken ≡ oldest_by at (take (suc less) us)
oldest_is at [] less u e = absurd (none-some u (sym e))
oldest_is at (v ∷ us) zero u e = (let same : v ≡ u = cc in ap (λ (x : UndoState). x.taken) (sym same))
oldest_is at (v ∷ us) (suc less) u e = oldest_is v.taken us less u e

pub some_there : (us : List UndoState) (i : ℕ) → i < length us → slice_get us i ≡ None → ⊥
some_there [] i l e = omega (arith, l)
some_there (v ∷ us) zero l e = none-some v (sym e)
some_there (v ∷ us) (suc i) l e = some_there us i (omega (arith, l)) e

-- ---- a device on its way

-- no records
pub on_without : (stream : List ℕ) (d : DeviceState) (j k : JournalState) (part : PartData) (n : ℕ) → StandsAtPosition part stream d n → AllByRecursion (IsUndoOf part) j.all → k ≡ record j { count = 0 } → IsOnStream d.part stream d k
on_without stream d j k part n s a e =
    let there : d.part ≡ part = s.stands.part_is in
    subst (λ (x : JournalState). IsOnStream d.part stream d x) (sym e) (record {
      at_position = own part stream d n s;
      records = subst (λ (p : PartData). AllByRecursion (IsUndoOf p) j.all) (sym there) a;
      few = omega arith;
      leads = tt;
    })

pub on_empty : (part : PartData) (stream : List ℕ) (d : DeviceState) (j : JournalState) (n : ℕ) → StandsAtPosition part stream d n → AllByRecursion (IsUndoOf part) j.all → j.count ≡ 0 → IsOnStream d.part stream d j
on_empty part stream d j n s a e = on_without stream d j j part n s a (ap (λ (k : ℕ). record j { count = k }) e)

-- a record more
pub on_more : (part : PartData) (stream : List ℕ) (d new : DeviceState) (j k : JournalState) (to : ℕ) (u : UndoState) → IsOnStream part stream d j → StandsAtPosition part stream new to → d.taken ≤ to → to ≤ d.taken + 4 → AllByRecursion (IsUndoOf part) k.all → SavesDevice u d
    → records_of k ≡ u ∷ take 63 (records_of j) → IsOnStream new.part stream new k
on_more part stream d new j k to u o s low high a keeps e =
    let there : new.part ≡ part = s.stands.part_is in
    let leads : LeadBack part stream to (records_of k) = subst (LeadBack part stream to) (sym e) (leads_more part stream d d.taken to u (records_of j) o.at_position keeps low high o.leads) in
    subst (λ (p : PartData). IsOnStream p stream new k) (sym there) (record {
      at_position = by_taken part stream new to s;
      records = a;
      few = omega (arith, ap length e, length-take 63 (records_of j));
      leads = subst (λ (n : ℕ). LeadBack part stream n (records_of k)) (sym s.taken) leads;
    })

-- a record less
pub on_less : (part : PartData) (stream : List ℕ) (d new : DeviceState) (j k : JournalState) (u : UndoState) → IsOnStream part stream d j → records_of j ≡ u ∷ records_of k → AllByRecursion (IsUndoOf part) k.all
    → ((more : List ℕ) (old : DeviceState) → SavesDevice u old → NoWordDue old → length more ≤ 4 → DeviceStandsFor part on_the_bench false old (take u.taken stream) → DeviceStandsFor part on_the_bench false d (take u.taken stream ++ more) → AreEqualButForFed new old)
    → IsOnStream new.part stream new k × (new.taken ≡ u.taken) × (u.taken ≤ d.taken) × (d.taken ≤ u.taken + 4)
on_less part stream d new j k u o e a back =
    let leads : LeadBack part stream d.taken (u ∷ records_of k) = subst (LeadBack part stream d.taken) e o.leads in
    let s : StandsAtPosition part stream new u.taken = goes_back part stream d new d.taken u leads.0 o.at_position leads.1 leads.2 back in (
      subst (λ (p : PartData). IsOnStream p stream new k) (sym s.stands.part_is) (record {
        at_position = by_taken part stream new u.taken s;
        records = a;
        few = omega (arith, ap length e, o.few);
        leads = subst (λ (n : ℕ). LeadBack part stream n (records_of k)) (sym s.taken) leads.3;
      }),
      s.taken,
      leads.1,
      leads.2,
    )

-- the newest record still leads back
pub on_further : (part : PartData) (stream : List ℕ) (d new : DeviceState) (j : JournalState) (to : ℕ) (u : UndoState) (older : List UndoState) → IsOnStream part stream d j → records_of j ≡ u ∷ older → StandsAtPosition part stream new to → d.taken ≤ to → to ≤ u.taken + 4
    → IsOnStream new.part stream new j
on_further part stream d new j to u older o e s low high =
    let leads : LeadBack part stream to (records_of j) = subst (LeadBack part stream to) (sym e) (leads_further part stream d.taken to u older low high (subst (LeadBack part stream d.taken) e o.leads)) in
    subst (λ (p : PartData). IsOnStream p stream new j) (sym s.stands.part_is) (record {
      at_position = by_taken part stream new to s;
      records = o.records;
      few = o.few;
      leads = subst (λ (n : ℕ). LeadBack part stream n (records_of j)) (sym s.taken) leads;
    })

-- the position, by the part that a device had before
pub stands_of : (p q : PartData) (stream : List ℕ) (d : DeviceState) (j : JournalState) → p ≡ q → IsOnStream p stream d j → StandsAtPosition q stream d d.taken
stands_of p q stream d j e o = subst (λ (x : PartData). StandsAtPosition x stream d d.taken) e o.at_position

-- a device after a reset
pub stands_first : (part : PartData) (stream : List ℕ) (d : DeviceState) → DeviceStandsFor part on_the_bench false d [] → StandsAtPosition part stream d 0
stands_first part stream d s = record { stands = s; taken = s.taken_is; within = omega arith; no_word_due = none_due_at_first part on_the_bench false d s }

-- ---- what a move comes to

-- a device that stays is fed nothing, and one that goes forward twice at most as many bytes as it goes forward
pub fed_none : (d : DeviceState) → IsFedAtMost d d (d.taken - d.taken)
fed_none d = record { never_less = omega arith; most = omega arith }

pub fed_on : (d e f : DeviceState) → d.taken ≤ e.taken → e.taken ≤ f.taken → IsFedAtMost d e (e.taken - d.taken) → IsFedAtMost e f (f.taken - e.taken) → IsFedAtMost d f (f.taken - d.taken)
fed_on d e f l m i j = record { never_less = omega (arith, i.never_less, j.never_less); most = omega (arith, l, m, i.most, j.most) }

pub goes_nowhere : (s : SessionState) → s.oldest ≤ s.at → MoveCosts s s
goes_nowhere s within = record {
  stays_oldest = λ e. refl;
  forward_oldest = λ l. absurd (omega (arith, l));
  near_oldest = λ l r. refl;
  far_oldest = λ l. absurd (omega (arith, l, within));
  never_less = omega arith;
  forward_fed = λ l. omega arith;
  near_fed = λ r l. omega arith;
  far_fed = λ l. omega arith;
}

pub goes_forward : (old new : SessionState) → old.at < new.at → old.oldest ≤ old.at → new.oldest ≤ max old.at (new.at - 253) → (old.fed ≤ new.fed) × (new.fed ≤ old.fed + (new.at - old.at)) → MoveCosts old new
goes_forward old new l within oldest fed = record {
  stays_oldest = λ e. absurd (omega (arith, l, e));
  forward_oldest = λ m. oldest;
  near_oldest = λ m r. absurd (omega (arith, l, m));
  far_oldest = λ m. absurd (omega (arith, l, m, within));
  never_less = fed.0;
  forward_fed = λ m. fed.1;
  near_fed = λ r m. absurd (omega (arith, l, m));
  far_fed = λ m. absurd (omega (arith, l, m, within));
}

-- a session whose device came forward
pub goes_recorded : (stream : List ℕ) (d new : DeviceState) (j k : JournalState) (n : ℕ) → IsOnStream d.part stream d j → d.taken < new.taken → ComesForwardRecorded stream d new k n → MoveCosts (session_of d stream j) (session_of new stream k)
goes_recorded stream d new j k n o l c = goes_forward (session_of d stream j) (session_of new stream k) l (oldest_within d.part stream d.taken (records_of j) o.leads) c.oldest (c.forward.fed.never_less, c.forward.fed.most)

-- a device comes to one position, and from there to another one
pub comes_twice : (stream : List ℕ) (d e f : DeviceState) (j k : JournalState) (m n : ℕ) → ComesToPosition stream d e j m → ComesToPosition stream e f k n → ComesToPosition stream d f k n
comes_twice stream d e f j k m n c x = record { on = x.on; part = x.part ∙ c.part; taken = x.taken }

-- a device comes forward twice
pub comes_on : (stream : List ℕ) (d e f : DeviceState) (j k : JournalState) (m n : ℕ) → d.taken ≤ e.taken → e.taken ≤ f.taken → ComesForward stream d e j m → ComesForward stream e f k n → ComesForward stream d f k n
comes_on stream d e f j k m n l h c x = record { there = comes_twice stream d e f j k m n c.there x.there; fed = fed_on d e f l h c.fed x.fed }

-- a device stays where it is, and one that came forward is where it is
pub comes_nowhere : (stream : List ℕ) (d : DeviceState) (j : JournalState) → IsOnStream d.part stream d j → ComesForward stream d d j d.taken
comes_nowhere stream d j o = record { there = record { on = o; part = refl; taken = refl }; fed = fed_none d }

pub comes_here : (stream : List ℕ) (d new : DeviceState) (j : JournalState) (n : ℕ) → ComesForward stream d new j n → ComesForward stream d new j new.taken
comes_here stream d new j n c = record { there = record { on = c.there.on; part = c.there.part; taken = refl }; fed = c.fed }

-- a device of the same part, at a position that is not past the last one
pub within_still : (p q : PartData) (stream : List ℕ) (n m : ℕ) → q ≡ p → n ≤ m → m ≤ last_of p stream → n ≤ last_of q stream
within_still p q stream n m same l within = subst (λ (x : PartData). n ≤ last_of x stream) (sym same) (omega (arith, l, within))

-- ---- what holds on the way

-- nowhere from a position on up to another one, nor there
pub none_there : (p : ℕ → Bool) (from n m : ℕ) → m ≡ n + 1 → ((k : ℕ) → from ≤ k → k < n → p k ≡ false) → p n ≡ false → (k : ℕ) → from ≤ k → k < m → p k ≡ false
none_there p from n m e none here k low high = elim (cases_lt k n) [
  | inl before ↦ none k low before
  | inr after ↦ (let same : k ≡ n = omega (arith, e, high, after) in ap p same ∙ here)
]

-- nowhere up to a position, nor between it and another one
pub none_between : (p : ℕ → Bool) (from n m : ℕ) → ((k : ℕ) → from < k → k ≤ n → p k ≡ false) → ((k : ℕ) → n < k → k < m → p k ≡ false) → (k : ℕ) → from < k → k < m → p k ≡ false
none_between p from n m first later k low high = elim (cases_lt n k) [
  | inl after ↦ later k after high
  | inr before ↦ first k low before
]

-- nowhere up to a position, nor there, where the position itself is known
pub none_up_to : (p : ℕ → Bool) (from m : ℕ) → ((k : ℕ) → from < k → k < m → p k ≡ false) → p m ≡ false → (k : ℕ) → from < k → k ≤ m → p k ≡ false
none_up_to p from m none here k low high = elim (cases_lt k m) [
  | inl before ↦ none k low before
  | inr after ↦ (let same : k ≡ m = omega (arith, high, after) in ap p same ∙ here)
]
