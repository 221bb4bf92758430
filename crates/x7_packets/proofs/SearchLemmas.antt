-- A search by the first place of the sync word in a piece, after a gap that ended in an earlier piece.
use Rattle.std.proofs.Common.{zero, suc, Bool, true, false, IsTrue, ◌↔◌, if◌then◌else◌, take-add, get_or-take, ◌≡◌, ℕ, ◌+◌, ◌-◌, ◌<◌, ◌≤◌, List, [], ◌∷◌, ◌++◌, length, take, drop, get_or, refl, ap, sym, subst, ◌∙◌, append_assoc, arith, length-append, length-take, inl, inr, Option, None, Some}
use Rattle.std.proofs.lemmas.List.{take-append-drop, take_more, take-take, drop_at}
use Rattle.std.specs.Option.{is_some, IfSome}
use Rattle.memchr.specs.Find.{OccursAt}
use Rattle.memchr.proofs.lemmas.MatchLemmas.{OccursAt-part, OccursAt-from_part}
use Rattle.x7_words.proofs.ListLemmas.{prefixes_of, shorter_prefix, IsFront}
use Rattle.x7_packets.specs.SyncWord.{EndsWithSync, HasNoSync, IsBeforeSync, sync_bytes}
use Rattle.x7_packets.specs.Matching.{IsClear, IsFirstSync, IsSearchOutcome, LastThree, MatcherStandsFor}
use Rattle.x7_packets.proofs.SyncLemmas.{ends_so, first_here, none_yet, took_one}

-- bytes that begin with a prefix and then the sync word have the sync word at the prefix's length
occurs : (bytes prefix back : List ℕ) → bytes ≡ prefix ++ (sync_bytes ++ back) → OccursAt bytes sync_bytes (length prefix)
occurs bytes prefix back e =
    OccursAt-from_part bytes sync_bytes (length prefix)
    (omega (arith, ap length e, length-append prefix (sync_bytes ++ back), length-append sync_bytes back))
    (ap (λ t. take 4 (drop (length prefix) t)) e ∙ ap (take 4) (drop_at prefix (sync_bytes ++ back) (length prefix) refl))

-- a gap ends in a prefix of the sync word, and the piece goes on with the rest: the piece's first three bytes are
-- enough to see the sync word
in_the_seam : (gap bytes prefix more back : List ℕ) → HasNoSync (gap ++ take 3 bytes) → gap ≡ prefix ++ more → sync_bytes ++ back ≡ more ++ bytes → 0 < length more → ⊥
in_the_seam gap bytes prefix more back n e f s =
    let long : length sync_bytes ≤ length (more ++ take 3 bytes) = omega (arith, ap length f, length-append more (take 3 bytes), length-append more bytes, length-append sync_bytes back, length-take 3 bytes) in
    let whole : sync_bytes ++ back ≡ (more ++ take 3 bytes) ++ drop 3 bytes = f ∙ ap (λ t. more ++ t) (sym (take-append-drop 3 bytes)) ∙ sym (append_assoc more (take 3 bytes) (drop 3 bytes)) in
    let r : (m : List ℕ) × (more ++ take 3 bytes ≡ sync_bytes ++ m) = shorter_prefix sync_bytes (more ++ take 3 bytes) back (drop 3 bytes) long whole in
    n.none prefix r.0 (ap (λ t. t ++ take 3 bytes) e ∙ append_assoc prefix more (take 3 bytes) ∙ ap (λ t. prefix ++ t) r.1 ∙ sym (append_assoc prefix sync_bytes r.0))

nowhere : (gap bytes prefix back : List ℕ) → HasNoSync (gap ++ take 3 bytes) → ((k : ℕ) → OccursAt bytes sync_bytes k → ⊥) → gap ++ bytes ≡ prefix ++ (sync_bytes ++ back) → ⊥
nowhere gap bytes prefix back n o e = elim (prefixes_of gap prefix bytes (sync_bytes ++ back) e) [
  | inl l ↦ o (length l.more) (occurs bytes l.more back l.back)
  | inr l ↦ seam l
]
  where
    by_more : (more : List ℕ) → gap ≡ prefix ++ more → sync_bytes ++ back ≡ more ++ bytes → ⊥
    by_more [] g b = o 0 (occurs bytes [] back (sym b))
    by_more (x ∷ xs) g b = in_the_seam gap bytes prefix (x ∷ xs) back n g b (omega arith)

    seam : IsFront prefix gap (sync_bytes ++ back) bytes → ⊥
    seam l = by_more l.more l.prefix l.back

-- where neither the seam nor the piece has it, the sync word stands nowhere
pub none_found : (gap bytes : List ℕ) → HasNoSync (gap ++ take 3 bytes) → ((k : ℕ) → OccursAt bytes sync_bytes k → ⊥) → HasNoSync (gap ++ bytes)
none_found gap bytes n o = record { none = λ prefix back e. nowhere gap bytes prefix back n o (e ∙ append_assoc prefix sync_bytes back) }

-- the search byte by byte, one byte further
pub passed : (gap bytes : List ℕ) (i : ℕ) → i < length bytes → gap ++ take (i + 1) bytes ≡ (gap ++ take i bytes) ++ get_or bytes i 0 ∷ []
passed gap bytes i h = ap (λ t. gap ++ t) (take_more bytes i 0 h) ∙ sym (append_assoc gap (take i bytes) (get_or bytes i 0 ∷ []))

-- a search in the first bytes that found the sync word
pub found_near : (gap bytes : List ℕ) (near : ℕ) (r : Option ℕ) (m : LastThree) → is_some r ≡ true → IfSome r (λ n. (0 < n) × (n ≤ length (take near bytes))) → IsSearchOutcome gap (take near bytes) r m → IsSearchOutcome gap bytes r m
found_near gap bytes near None m e w s = absurd (cc)
found_near gap bytes near (Some n) m e w s =
    let few : n ≤ near = omega (arith, w.1, length-take near bytes) in
    let same : take n (take near bytes) ≡ take n bytes = take-take n near bytes few in
    (s.0, ap (λ t. gap ++ t) (sym same) ∙ s.1, s.2)

-- a search in the first bytes, three at least, that found none
pub none_near : (gap bytes : List ℕ) (near : ℕ) (r : Option ℕ) (m : LastThree) → 3 ≤ near → is_some r ≡ false → IsSearchOutcome gap (take near bytes) r m → HasNoSync (gap ++ take 3 bytes)
none_near gap bytes near None m h e s =
    let parts : take near bytes ≡ take 3 bytes ++ drop 3 (take near bytes) = sym (take-append-drop 3 (take near bytes)) ∙ ap (λ t. t ++ drop 3 (take near bytes)) (take-take 3 near bytes h) in
    record {
      none = λ prefix back w. s.0.none prefix (back ++ drop 3 (take near bytes)) (
          ap (λ t. gap ++ t) parts ∙ sym (append_assoc gap (take 3 bytes) (drop 3 (take near bytes)))
          ∙ ap (λ t. t ++ drop 3 (take near bytes)) w ∙ append_assoc (prefix ++ sync_bytes) back (drop 3 (take near bytes)));
    }
none_near gap bytes near (Some n) m h e s = absurd (cc)

-- the sync word stands in a prefix of the bytes as it stands in them
occurs_before : (bytes : List ℕ) (n k : ℕ) → OccursAt (take n bytes) sync_bytes k → (k + 4 ≤ n) × OccursAt bytes sync_bytes k
occurs_before bytes n k o =
    let within : k + 4 ≤ n = omega (arith, o.fits, length-take n bytes) in (
      within,
      record {
        fits = omega (arith, o.fits, length-take n bytes);
        reads = λ j h. sym (get_or-take n bytes (k + j) 0 (let g : j < 4 = h in omega arith)) ∙ o.reads j h;
      },
    )

-- the first place of the sync word in a piece
pub found_in_piece : (gap bytes : List ℕ) (at : ℕ) → HasNoSync (gap ++ take 3 bytes) → OccursAt bytes sync_bytes at → ((k : ℕ) → 0 ≤ k → k < at → ¬ OccursAt bytes sync_bytes k) → (prefix : List ℕ) × (gap ++ take (at + 4) bytes ≡ prefix ++ sync_bytes) × IsBeforeSync prefix
found_in_piece gap bytes at n o before =
    let cut : List ℕ = take (at + 3) bytes in
    let same : take 3 cut ≡ take 3 bytes = take-take 3 (at + 3) bytes (omega arith) in
    let seam : HasNoSync (gap ++ take 3 cut) = rw same n in
    let none : (k : ℕ) → OccursAt cut sync_bytes k → ⊥ = λ k h. let g : (k + 4 ≤ at + 3) × OccursAt bytes sync_bytes k = occurs_before bytes (at + 3) k h in before k (omega arith) (omega (arith, g.0)) g.1 in
    let there : take (at + 4) bytes ≡ take at bytes ++ sync_bytes = take-add at 4 bytes ∙ ap (λ t. take at bytes ++ t) (OccursAt-part bytes sync_bytes at o) in
    let prefix : List ℕ = gap ++ take at bytes in
    let whole : gap ++ take (at + 4) bytes ≡ prefix ++ sync_bytes = ap (λ t. gap ++ t) there ∙ sym (append_assoc gap (take at bytes) sync_bytes) in
    let three : at + 3 + 1 ≡ at + 4 = omega arith in
    let last : (gap ++ cut) ++ get_or bytes (at + 3) 0 ∷ [] ≡ prefix ++ sync_bytes = sym (passed gap bytes (at + 3) (omega (arith, o.fits))) ∙ ap (λ k. gap ++ take k bytes) three ∙ whole in
    (prefix, whole, first_here (gap ++ cut) prefix (get_or bytes (at + 3) 0) (none_found gap cut seam none) last)

-- the last three of the bytes
last_three : (bytes : List ℕ) (k : ℕ) → length bytes ≡ suc (suc (suc k)) → drop k bytes ≡ get_or bytes k 0 ∷ get_or bytes (suc k) 0 ∷ get_or bytes (suc (suc k)) 0 ∷ []
last_three [] k e = absurd (omega (arith, e))
last_three (a ∷ []) zero e = absurd (omega (arith, e))
last_three (a ∷ b ∷ []) zero e = absurd (omega (arith, e))
last_three (a ∷ b ∷ c ∷ []) zero e = refl
last_three (a ∷ b ∷ c ∷ d ∷ xs) zero e = absurd (omega (arith, e))
last_three (x ∷ xs) (suc k) e = last_three xs k (omega (arith, e))

pub stands_after : (gap bytes : List ℕ) → 3 ≤ length bytes → MatcherStandsFor (record { first = get_or bytes (length bytes - 3) 0; second = get_or bytes (length bytes - 2) 0; third = get_or bytes (length bytes - 1) 0 }) (gap ++ bytes)
stands_after gap bytes h =
    let k : ℕ = length bytes - 3 in
    let two : length bytes - 2 ≡ suc k = omega arith in
    let one : length bytes - 1 ≡ suc (suc k) = omega arith in
    let end : drop k bytes ≡ get_or bytes k 0 ∷ get_or bytes (suc k) 0 ∷ get_or bytes (suc (suc k)) 0 ∷ [] = last_three bytes k (omega arith) in
    rw (two, one) (record {
      before = 0 ∷ 0 ∷ 0 ∷ (gap ++ take k bytes);
      last = ap (λ t. 0 ∷ 0 ∷ 0 ∷ (gap ++ t)) (sym (take-append-drop k bytes) ∙ ap (λ t. take k bytes ++ t) end) ∙ ap (λ t. 0 ∷ 0 ∷ 0 ∷ t) (sym (append_assoc gap (take k bytes) (get_or bytes k 0 ∷ get_or bytes (suc k) 0 ∷ get_or bytes (suc (suc k)) 0 ∷ [])));
    })

-- the search byte by byte, one byte further without the sync word
pub not_yet : (gap bytes : List ℕ) (i : ℕ) (m : LastThree) (r : Bool) → i < length bytes → HasNoSync (gap ++ take i bytes)
    → (IsTrue r ↔ EndsWithSync ((gap ++ take i bytes) ++ get_or bytes i 0 ∷ [])) → MatcherStandsFor m (if r then [] else (gap ++ take i bytes) ++ get_or bytes i 0 ∷ []) → r ≡ false
    → HasNoSync (gap ++ take (i + 1) bytes) × MatcherStandsFor m (gap ++ take (i + 1) bytes)
not_yet gap bytes i m true h n f s e = absurd (cc)
not_yet gap bytes i m false h n f s e = rw (passed gap bytes i h) (none_yet _ _ n (λ w. let h : IsTrue false = f.1 w in cc), s)

-- the search byte by byte, at the byte that completes the sync word
pub found_now : (gap bytes : List ℕ) (i : ℕ) (r : Bool) → i < length bytes → HasNoSync (gap ++ take i bytes)
    → (IsTrue r ↔ EndsWithSync ((gap ++ take i bytes) ++ get_or bytes i 0 ∷ [])) → r ≡ true
    → (prefix : List ℕ) × (gap ++ take (i + 1) bytes ≡ prefix ++ sync_bytes) × IsBeforeSync prefix
found_now gap bytes i false h n f e = absurd (cc)
found_now gap bytes i true h n f e = let l = f.0 refl in (l.0, passed gap bytes i h ∙ l.1, first_here _ l.0 _ n l.1)

-- four bytes in a row
four_at : (at : ℕ) (bytes : List ℕ) → at + 4 ≤ length bytes → take 4 (drop at bytes) ≡ get_or bytes at 0 ∷ get_or bytes (suc at) 0 ∷ get_or bytes (suc (suc at)) 0 ∷ get_or bytes (suc (suc (suc at))) 0 ∷ []
four_at zero [] h = absurd (omega (arith, h))
four_at zero (a ∷ []) h = absurd (omega (arith, h))
four_at zero (a ∷ b ∷ []) h = absurd (omega (arith, h))
four_at zero (a ∷ b ∷ c ∷ []) h = absurd (omega (arith, h))
four_at zero (a ∷ b ∷ c ∷ d ∷ bytes) h = refl
four_at (suc at) [] h = absurd (omega (arith, h))
four_at (suc at) (x ∷ bytes) h = four_at at bytes (omega (arith, h))

four_bytes : (at : ℕ) (bytes : List ℕ) → at + 4 ≤ length bytes → take 4 (drop at bytes) ≡ get_or bytes at 0 ∷ get_or bytes (at + 1) 0 ∷ get_or bytes (at + 2) 0 ∷ get_or bytes (at + 3) 0 ∷ []
four_bytes at bytes h =
    let one : suc at ≡ at + 1 = omega arith in
    let two : suc (suc at) ≡ at + 2 = omega arith in
    let three : suc (suc (suc at)) ≡ at + 3 = omega arith in
    four_at at bytes h ∙ ap (λ (k : ℕ). get_or bytes at 0 ∷ get_or bytes k 0 ∷ get_or bytes (suc (suc at)) 0 ∷ get_or bytes (suc (suc (suc at))) 0 ∷ []) one
    ∙ ap (λ (k : ℕ). get_or bytes at 0 ∷ get_or bytes (at + 1) 0 ∷ get_or bytes k 0 ∷ get_or bytes (suc (suc (suc at))) 0 ∷ []) two
    ∙ ap (λ (k : ℕ). get_or bytes at 0 ∷ get_or bytes (at + 1) 0 ∷ get_or bytes (at + 2) 0 ∷ get_or bytes k 0 ∷ []) three

-- the sync word at a place, where its four bytes stand there
pub occurs_by_bytes : (bytes : List ℕ) (at : ℕ) → at + 4 ≤ length bytes → get_or bytes at 0 ≡ 0xAA → get_or bytes (at + 1) 0 ≡ 0x99 → get_or bytes (at + 2) 0 ≡ 0x55 → get_or bytes (at + 3) 0 ≡ 0x66 → OccursAt bytes sync_bytes at
occurs_by_bytes bytes at h a b c d =
    let whole : get_or bytes at 0 ∷ get_or bytes (at + 1) 0 ∷ get_or bytes (at + 2) 0 ∷ get_or bytes (at + 3) 0 ∷ [] ≡ sync_bytes = cc in
    OccursAt-from_part bytes sync_bytes at h (four_bytes at bytes h ∙ whole)

-- the sync word is not complete after three bytes of which the first is 0
clear_step : (m : LastThree) (gap : List ℕ) (x : ℕ) → m.first ≡ 0 → MatcherStandsFor m gap → HasNoSync gap → HasNoSync (gap ++ x ∷ [])
clear_step m gap x e s n = none_yet gap x n (λ w. let whole : m.first ∷ m.second ∷ m.third ∷ x ∷ [] ≡ sync_bytes = ends_so m gap x s w in absurd (cc))

-- three zeros, and three bytes more: no sync word ends there
clear_seam : (m : LastThree) (gap : List ℕ) (a b c : ℕ) → m.first ≡ 0 → m.second ≡ 0 → m.third ≡ 0 → MatcherStandsFor m gap → HasNoSync gap → HasNoSync (((gap ++ a ∷ []) ++ b ∷ []) ++ c ∷ [])
clear_seam m gap a b c e f g s n =
    let s1 : MatcherStandsFor (record { first = m.second; second = m.third; third = a }) (gap ++ a ∷ []) = took_one m gap a s in
    let s2 : MatcherStandsFor (record { first = m.third; second = a; third = b }) ((gap ++ a ∷ []) ++ b ∷ []) = took_one _ (gap ++ a ∷ []) b s1 in
    clear_step _ ((gap ++ a ∷ []) ++ b ∷ []) c g s2 (clear_step _ (gap ++ a ∷ []) b f s1 (clear_step m gap a e s n))

three_more : (gap bytes : List ℕ) (m : LastThree) → 3 ≤ length bytes → m.first ≡ 0 → m.second ≡ 0 → m.third ≡ 0 → MatcherStandsFor m gap → HasNoSync gap → HasNoSync (gap ++ take 3 bytes)
three_more gap [] m h e f g s n = absurd (omega (arith, h))
three_more gap (a ∷ []) m h e f g s n = absurd (omega (arith, h))
three_more gap (a ∷ b ∷ []) m h e f g s n = absurd (omega (arith, h))
three_more gap (a ∷ b ∷ c ∷ bytes) m h e f g s n =
    subst HasNoSync (append_assoc (gap ++ a ∷ []) (b ∷ []) (c ∷ []) ∙ append_assoc gap (a ∷ []) (b ∷ c ∷ [])) (clear_seam m gap a b c e f g s n)

-- the first sync word of bytes after three zeros
pub found_clear : (m n : LastThree) (gap bytes : List ℕ) (at : ℕ) → IsClear m → IsFirstSync bytes at → MatcherStandsFor m gap → HasNoSync gap → IsSearchOutcome gap bytes (Some (at + 4)) n
found_clear m n gap bytes at e i s none =
    found_in_piece gap bytes at (three_more gap bytes m (omega (arith, i.here.fits)) e.0 e.1 e.2 s none) i.here (λ k z l o. i.first k l o)

-- what the bytes up to the end of a sync word are
pub up_to_sync : (bytes : List ℕ) (at : ℕ) → OccursAt bytes sync_bytes at → take (at + 4) bytes ≡ take at bytes ++ sync_bytes
up_to_sync bytes at o = take-add at 4 bytes ∙ ap (λ t. take at bytes ++ t) (OccursAt-part bytes sync_bytes at o)
