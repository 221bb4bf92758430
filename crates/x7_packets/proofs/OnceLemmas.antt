-- Up to four bytes enter one access at most: a word has four bytes.
use Rattle.std.proofs.Common.{◌≡◌, ℕ, ◌+◌, ◌≤◌, ◌<◌, ◌⊎◌, inl, inr, Bool, true, false, if◌then◌else◌, List, [], ◌∷◌, ◌++◌, length, refl, ap, sym, subst, ◌∙◌, append_assoc, append-nil, arith, length-append}
use Rattle.std.proofs.lemmas.List.Sums.{fold-append}
use Rattle.x7_words.specs.Word.{AreBytes, word_of_bytes}
use Rattle.x7_words.proofs.ListLemmas.{all_prefix}
use Rattle.x7_packets.specs.Packet.{Packet, ended}
use Rattle.x7_packets.specs.Reading.{Place, Searching, Synced, EndedSession, tail_of}
use Rattle.x7_packets.specs.ByHand.{Reading, before_last_four, is_sync, last_four, reading_of, with_byte, with_byte_at, packets_with_word}
use Rattle.x7_packets.specs.History.{Entry, History, entry, history_of, history_in}
use Rattle.x7_packets.proofs.GrowthLemmas.{byte_enters}

-- how many bytes of no whole word a reading ends with
abbrev left_of : Reading → ℕ
left_of r = length (tail_of r.place)

-- a byte more either enters nothing and is kept, or it ends a word, of which three bytes were kept
abbrev CutsNext : Reading → Reading → Type 0
CutsNext old new = ((history_in new ≡ history_in old) × (left_of new ≤ left_of old + 1)) ⊎ ((left_of old ≡ 3) × (left_of new ≡ 0))

gap_steps : (sessions : List EndedSession) (gap prefix more : List ℕ) (b : Bool) → CutsNext (record { sessions = sessions; place = Searching gap }) (record { sessions = sessions; place = if b then Synced prefix [] [] else Searching more })
gap_steps sessions gap prefix more true = inl (refl, omega arith)
gap_steps sessions gap prefix more false = inl (refl, omega arith)

word_steps : (sessions : List EndedSession) (gap : List ℕ) (all : List Packet) (b : Bool)
    → (let r : Reading = if b then record { sessions = sessions ++ record { gap = gap; packets = all } ∷ []; place = Searching [] } else record { sessions = sessions; place = Synced gap all [] } in left_of r ≡ 0)
word_steps sessions gap all true = refl
word_steps sessions gap all false = refl

place_steps : (sessions : List EndedSession) (place : Place) (x : ℕ) → CutsNext (record { sessions = sessions; place = place }) (with_byte_at sessions place x)
place_steps sessions (Searching gap) x = gap_steps sessions gap (before_last_four (gap ++ x ∷ [])) (gap ++ x ∷ []) (is_sync (last_four (gap ++ x ∷ [])))
place_steps sessions (Synced gap packets []) x = inl (refl, omega arith)
place_steps sessions (Synced gap packets (a ∷ [])) x = inl (refl, omega arith)
place_steps sessions (Synced gap packets (a ∷ b ∷ [])) x = inl (refl, omega arith)
place_steps sessions (Synced gap packets (a ∷ b ∷ c ∷ [])) x =
    let all : List Packet = packets_with_word packets (word_of_bytes (a ∷ b ∷ c ∷ x ∷ [])) in
    inr (refl, word_steps sessions gap all (ended all))
place_steps sessions (Synced gap packets (a ∷ b ∷ c ∷ d ∷ tail)) x = inl (refl, omega (arith, length-append (a ∷ b ∷ c ∷ d ∷ tail) (x ∷ [])))

byte_steps : (bytes : List ℕ) (x : ℕ) → CutsNext (reading_of bytes) (reading_of (bytes ++ x ∷ []))
byte_steps bytes x =
    let more : reading_of (bytes ++ x ∷ []) ≡ with_byte (reading_of bytes) x = fold-append with_byte (record { sessions = []; place = Searching [] }) bytes (x ∷ []) in
    subst (CutsNext (reading_of bytes)) (sym more) (place_steps (reading_of bytes).sessions (reading_of bytes).place x)

-- the last i of these bytes entered nothing, or one access, and then fewer than i bytes are kept
abbrev Once : History → List ℕ → ℕ → Type 0
Once h bytes i = (history_of bytes ≡ h) ⊎ ((e : Entry) × (history_of bytes ≡ e ∷ h) × (left_of (reading_of bytes) + 1 ≤ i))

once_step : (h : History) (bytes : List ℕ) (x i : ℕ) → AreBytes (bytes ++ x ∷ []) → i ≤ 3 → Once h bytes i → Once h (bytes ++ x ∷ []) (i + 1)
once_step h bytes x i f few (inl same) = elim (byte_steps bytes x) [
  | inl kept ↦ inl (kept.0 ∙ same)
  | inr word ↦ elim (byte_enters bytes x f) [
    | inl none ↦ inl (none ∙ same)
    | inr more ↦ inr (entry more.0 (length bytes + 1), more.1 ∙ ap (λ (t : History). entry more.0 (length bytes + 1) ∷ t) same, omega (arith, word.1))
  ]
]
once_step h bytes x i f few (inr one) = elim (byte_steps bytes x) [
  | inl kept ↦ inr (one.0, kept.0 ∙ one.1, omega (arith, kept.1, one.2))
  | inr word ↦ absurd (omega (arith, word.0, one.2, few))
]

once_by : (h : History) (bytes more : List ℕ) (i : ℕ) → AreBytes (bytes ++ more) → i + length more ≤ 4 → Once h bytes i → (history_of (bytes ++ more) ≡ h) ⊎ ((e : Entry) × (history_of (bytes ++ more) ≡ e ∷ h))
once_by h bytes [] i f few (inl same) = inl (ap history_of (append-nil bytes) ∙ same)
once_by h bytes [] i f few (inr one) = inr (one.0, ap history_of (append-nil bytes) ∙ one.1)
once_by h bytes (x ∷ more) i f few o =
    let all : (bytes ++ x ∷ []) ++ more ≡ bytes ++ x ∷ more = append_assoc bytes (x ∷ []) more in
    let fits : AreBytes ((bytes ++ x ∷ []) ++ more) = subst AreBytes (sym all) f in
    subst (λ (b : List ℕ). (history_of b ≡ h) ⊎ ((e : Entry) × (history_of b ≡ e ∷ h))) all
    (once_by h (bytes ++ x ∷ []) more (i + 1) fits (omega (arith, few)) (once_step h bytes x i (all_prefix (λ b. b < 256) (bytes ++ x ∷ []) more fits) (omega (arith, few)) o))

pub enter_once : (bytes more : List ℕ) → AreBytes (bytes ++ more) → length more ≤ 4 → (history_of (bytes ++ more) ≡ history_of bytes) ⊎ ((e : Entry) × (history_of (bytes ++ more) ≡ e ∷ history_of bytes))
enter_once bytes more f few = once_by (history_of bytes) bytes more 0 f (omega (arith, few)) (inl refl)
