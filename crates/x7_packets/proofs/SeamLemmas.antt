-- Where the sync word may stand: never over the seam of a gap and a dummy word, nor over that of a gap in which none
-- begins, and never where its first byte is nowhere.
use Rattle.std.proofs.Common.{◌≡◌, ℕ, ◌==◌, true, false, List, [], ◌∷◌, ◌++◌, length, inl, inr, refl, ap, sym, subst, eq-eqb, ◌∙◌, append_assoc, arith, length-append, ◌≤◌, take, drop, take-append-drop, length-take-le}
use Rattle.std.specs.List.{AllByRecursion}
use Rattle.std.proofs.lemmas.List.{append_cancel_left}
use Rattle.x7_words.proofs.ListLemmas.{prefixes_of, all_prefix, all_back, shorter_prefix}
use Rattle.x7_packets.specs.SyncWord.{HasNoSync, IsBeforeSync, sync_bytes}
use Rattle.x7_packets.specs.Appended.{BeginsWithDummy, LacksFirst}
use Rattle.x7_packets.specs.Gap.{NoneBegins}

-- a gap ends in a prefix of the sync word, and a dummy word follows
seam : (gap prefix more rest back : List ℕ) → HasNoSync gap → gap ≡ prefix ++ more → sync_bytes ++ back ≡ more ++ 0xFF ∷ 0xFF ∷ 0xFF ∷ 0xFF ∷ rest → ⊥
seam gap prefix [] rest back n g e = let h : ◌≡◌ {A = ℕ} 0xAA 0xFF = cc in omega (arith, h)
seam gap prefix (x ∷ []) rest back n g e = let h : ◌≡◌ {A = ℕ} 0x99 0xFF = cc in omega (arith, h)
seam gap prefix (x ∷ y ∷ []) rest back n g e = let h : ◌≡◌ {A = ℕ} 0x55 0xFF = cc in omega (arith, h)
seam gap prefix (x ∷ y ∷ z ∷ []) rest back n g e = let h : ◌≡◌ {A = ℕ} 0x66 0xFF = cc in omega (arith, h)
seam gap prefix (x ∷ y ∷ z ∷ u ∷ more) rest back n g e =
    let same : x ∷ y ∷ z ∷ u ∷ more ≡ sync_bytes ++ more = cc in
    n.none prefix more (g ∙ ap (λ t. prefix ++ t) same ∙ sym (append_assoc prefix sync_bytes more))

-- no sync word begins in a gap that a dummy word follows
pub none_before_dummy : (gap more : List ℕ) → HasNoSync gap → BeginsWithDummy more → NoneBegins gap more
none_before_dummy gap more n d prefix back e = elim (prefixes_of gap prefix more (sync_bytes ++ back) e) [
  | inl l ↦ omega (arith, ap length l.prefix, length-append gap l.more)
  | inr l ↦ absurd (seam gap prefix l.more d.0 back n l.prefix (l.back ∙ ap (λ t. l.more ++ t) d.1))
]

-- ---- a gap in which no sync word begins

-- after a gap in which no sync word begins, a sync word stands in the bytes after the gap
stands_after : (gap more prefix back : List ℕ) → NoneBegins gap more → gap ++ more ≡ prefix ++ (sync_bytes ++ back) → (x : List ℕ) × (prefix ≡ gap ++ x) × (more ≡ x ++ (sync_bytes ++ back))
stands_after gap more prefix back n e =
    let f : (m : List ℕ) × (prefix ≡ gap ++ m) = shorter_prefix gap prefix more (sync_bytes ++ back) (n prefix back e) e in
    (f.0, f.1, append_cancel_left gap more (f.0 ++ (sync_bytes ++ back)) (e ∙ ap (λ (p : List ℕ). p ++ (sync_bytes ++ back)) f.1 ∙ append_assoc gap f.0 (sync_bytes ++ back)))

-- a gap in which no sync word begins before bytes has none that begins before a prefix of them
pub none_before_prefix : (gap more rest : List ℕ) → NoneBegins gap (more ++ rest) → NoneBegins gap more
none_before_prefix gap more rest n prefix back e =
    let longer : (prefix ++ (sync_bytes ++ back)) ++ rest ≡ prefix ++ (sync_bytes ++ (back ++ rest)) = simp append_assoc in
    n prefix (back ++ rest) (sym (append_assoc gap more rest) ∙ ap (λ (x : List ℕ). x ++ rest) e ∙ longer)

pub none_after : (gap more : List ℕ) → NoneBegins gap more → HasNoSync more → HasNoSync (gap ++ more)
none_after gap more n m = record {
  none = λ prefix back e.
      let r : (x : List ℕ) × (prefix ≡ gap ++ x) × (more ≡ x ++ (sync_bytes ++ back)) = stands_after gap more prefix back n (e ∙ append_assoc prefix sync_bytes back) in
      m.none r.0 back (r.2 ∙ sym (append_assoc r.0 sync_bytes back));
}

pub first_after : (gap more rest : List ℕ) → NoneBegins gap (more ++ (sync_bytes ++ rest)) → IsBeforeSync more → IsBeforeSync (gap ++ more)
first_after gap more rest n m = record {
  first = λ prefix back e.
      let there : NoneBegins gap (more ++ sync_bytes) = none_before_prefix gap (more ++ sync_bytes) rest (subst (NoneBegins gap) (sym (append_assoc more sync_bytes rest)) n) in
      let r : (x : List ℕ) × (prefix ≡ gap ++ x) × (more ++ sync_bytes ≡ x ++ (sync_bytes ++ back)) =
      stands_after gap (more ++ sync_bytes) prefix back there (sym (append_assoc gap more sync_bytes) ∙ e ∙ append_assoc prefix sync_bytes back) in
      m.first r.0 back (r.2 ∙ sym (append_assoc r.0 sync_bytes back));
}

-- no sync word stands in the first bytes of a gap in which none begins
pub none_in_gap : (gap more : List ℕ) (k : ℕ) → k ≤ length gap → NoneBegins gap more → HasNoSync (take k gap)
none_in_gap gap more k l n = record {
  none = λ prefix back e.
      let after : List ℕ = drop k gap ++ more in
      let longer : (prefix ++ sync_bytes ++ back) ++ after ≡ prefix ++ (sync_bytes ++ (back ++ after)) = simp append_assoc in
      let whole : gap ++ more ≡ take k gap ++ after = ap (λ (x : List ℕ). x ++ more) (sym (take-append-drop k gap)) ∙ append_assoc (take k gap) (drop k gap) more in
      let past : length gap ≤ length prefix = n prefix (back ++ after) (whole ∙ ap (λ (x : List ℕ). x ++ after) e ∙ longer) in
      absurd (omega (arith, past, l, ap length e, length-take-le k gap l, length-append (prefix ++ sync_bytes) back, length-append prefix sync_bytes));
}

-- bytes without the sync word's first byte have no sync word
pub none_without_first : (bytes : List ℕ) → LacksFirst bytes → HasNoSync bytes
none_without_first bytes l = record {
  none = λ prefix back e.
      let all : LacksFirst ((prefix ++ sync_bytes) ++ back) = rw e at l in
      let there : LacksFirst sync_bytes = all_back (λ b. (b == 0xAA) ≡ false) prefix sync_bytes (all_prefix (λ b. (b == 0xAA) ≡ false) (prefix ++ sync_bytes) back all) in
      let no : true ≡ false = there.0 in cc;
}

no_first : (gap prefix back : List ℕ) → LacksFirst gap → gap ++ sync_bytes ≡ prefix ++ (sync_bytes ++ back) → back ≡ []
no_first [] [] back l e = let r : sync_bytes ++ [] ≡ sync_bytes ++ back = e in cc
no_first [] (x ∷ prefix) back l e = absurd (omega (arith, ap length e, length-append prefix (sync_bytes ++ back), length-append sync_bytes back))
no_first (g ∷ gap) [] back l e = absurd (let head : g ≡ 0xAA = cc in let no : (0xAA == 0xAA) ≡ false = rw head at l.0 in cc)
no_first (g ∷ gap) (x ∷ prefix) back l e = no_first gap prefix back l.1 (let rest : gap ++ sync_bytes ≡ prefix ++ (sync_bytes ++ back) = cc in rest)

-- in bytes without the sync word's first byte and the sync word after them, the sync word stands only at the end
pub first_without : (gap : List ℕ) → LacksFirst gap → IsBeforeSync gap
first_without gap l = record { first = λ prefix back e. no_first gap prefix back l (e ∙ append_assoc prefix sync_bytes back) }

-- bytes without some byte of the sync word have no sync word
pub none_without : (bytes prefix back : List ℕ) (x : ℕ) → sync_bytes ≡ prefix ++ x ∷ back → AllByRecursion (λ b. (b == x) ≡ false) bytes → HasNoSync bytes
none_without bytes prefix back x s l = record {
  none = λ f r e.
      let all : AllByRecursion (λ b. (b == x) ≡ false) ((f ++ sync_bytes) ++ r) = rw e at l in
      let word : AllByRecursion (λ b. (b == x) ≡ false) sync_bytes = all_back (λ b. (b == x) ≡ false) f sync_bytes (all_prefix (λ b. (b == x) ≡ false) (f ++ sync_bytes) r all) in
      let there : AllByRecursion (λ b. (b == x) ≡ false) (x ∷ back) = all_back (λ b. (b == x) ≡ false) prefix (x ∷ back) (subst (AllByRecursion (λ b. (b == x) ≡ false)) s word) in
      let yes : (x == x) ≡ true = eq-eqb x x refl in let no : (x == x) ≡ false = there.0 in cc;
}
