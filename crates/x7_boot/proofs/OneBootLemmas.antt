-- A flash has one boot: where an attempt ends is the least byte, and the table leads on from there.
use Rattle.std.proofs.Common.{◌≡◌, ◌+◌, ◌<◌, ◌⊎◌, inl, inr, ℕ, suc, Bool, List, [], ◌∷◌, ◌++◌, drop, take, length, length-append, map, reverse, None, Some, refl, ap, sym, subst, ◌∙◌, arith}
use Rattle.std.proofs.lemmas.Bool.{cases_lt}
use Rattle.std.proofs.Math.Seq.{take-append_seam}
use Rattle.x7_part.specs.Part.{PartData}
use Rattle.x7_engine.specs.State.{taken_of}
use Rattle.x7_engine.specs.declared.kept.Kept.{Kept}
use Rattle.x7_boot.specs.Attempt.{EndsFirst, IsFlashAttempt, NoneBefore, RunsOut, BootAttempt, ending_at}
use Rattle.x7_boot.specs.Boot.{BootedState, IsBoot, LeadsTo, LeadsToEnd, next_by, tried}
use Rattle.x7_boot.specs.declared.attempt.Ending.{Ending}
use Rattle.x7_boot.specs.declared.boots.BootEnd.{BootEnd}
use Rattle.x7_boot.specs.declared.next.Next.{Next}
use Rattle.x7_boot.specs.declared.next.Next.TheVariants.{Again, Ends}

-- ---- an attempt

-- nothing ends an attempt before the byte that ends it
not_before : (part : PartData) (kept : Kept) (from bytes rest : List ℕ) (e : Ending) (n : ℕ) → from ≡ bytes ++ rest → ending_at part kept bytes ≡ Some e → NoneBefore part kept from n → length bytes < n → ⊥
not_before part kept from bytes rest e n split ends none l =
    let same : take (length bytes) from ≡ bytes = ap (take (length bytes)) split ∙ take-append_seam bytes rest in
    let here : ending_at part kept bytes ≡ None = ap (ending_at part kept) (sym same) ∙ none (length bytes) l in
    let both : Some e ≡ None = sym ends ∙ here in
    absurd (cc)

same_length : (m n : ℕ) → (m < n → ⊥) → (n < m → ⊥) → m ≡ n
same_length m n a b = elim (cases_lt m n) [
  | inl l ↦ absurd (a l)
  | inr l ↦ elim (cases_lt n m) [
    | inl k ↦ absurd (b k)
    | inr k ↦ omega (arith, l, k)
  ]
]

-- an attempt is the record of its fields
attempt_is : (s t : BootAttempt) → s.kept ≡ t.kept → s.address ≡ t.address → s.bytes ≡ t.bytes → s.wrapped ≡ t.wrapped → s.ending ≡ t.ending → s ≡ t
attempt_is s t a b c d e =
    ap (λ (x : Kept). record { kept = x; address = s.address; bytes = s.bytes; wrapped = s.wrapped; ending = s.ending }) a
    ∙ ap (λ (x : ℕ). record { kept = t.kept; address = x; bytes = s.bytes; wrapped = s.wrapped; ending = s.ending }) b
    ∙ ap (λ (x : List ℕ). record { kept = t.kept; address = t.address; bytes = x; wrapped = s.wrapped; ending = s.ending }) c
    ∙ ap (λ (x : Bool). record { kept = t.kept; address = t.address; bytes = t.bytes; wrapped = x; ending = s.ending }) d
    ∙ ap (λ (x : Ending). record { kept = t.kept; address = t.address; bytes = t.bytes; wrapped = t.wrapped; ending = x }) e

some_is : (a b : Ending) → Some a ≡ Some b → a ≡ b
some_is a b e = cc

-- two attempts over the same bytes
one_ended : (part : PartData) (from : List ℕ) (s t : BootAttempt) → s.kept ≡ t.kept → s.address ≡ t.address → EndsFirst part from s → EndsFirst part from t → s ≡ t
one_ended part from s t a b x y =
    let ends : ending_at part t.kept s.bytes ≡ Some s.ending = ap (λ (k : Kept). ending_at part k s.bytes) (sym a) ∙ x.ends in
    let first : NoneBefore part t.kept from (length s.bytes) = subst (λ (k : Kept). NoneBefore part k from (length s.bytes)) a x.first in
    let long : length s.bytes ≡ length t.bytes =
    same_length (length s.bytes) (length t.bytes) (not_before part t.kept from s.bytes x.rest s.ending (length t.bytes) x.taken ends y.first) (not_before part t.kept from t.bytes y.rest t.ending (length s.bytes) y.taken y.ends first) in
    let bytes : s.bytes ≡ t.bytes =
    sym (ap (take (length s.bytes)) x.taken ∙ take-append_seam s.bytes x.rest) ∙ ap (λ (n : ℕ). take n from) long ∙ ap (take (length t.bytes)) y.taken ∙ take-append_seam t.bytes y.rest in
    attempt_is s t a b bytes (x.in_flash ∙ sym y.in_flash) (some_is s.ending t.ending (sym ends ∙ ap (ending_at part t.kept) bytes ∙ y.ends))

ended_and_out : (part : PartData) (from : List ℕ) (s t : BootAttempt) → s.kept ≡ t.kept → EndsFirst part from s → RunsOut part from t → ⊥
ended_and_out part from s t a x y =
    let none : NoneBefore part s.kept from (suc (length from)) = subst (λ (k : Kept). NoneBefore part k from (suc (length from))) (sym a) y.none in
    let long : length from ≡ length (s.bytes ++ x.rest) = ap length x.taken in
    let sum : length (s.bytes ++ x.rest) ≡ length s.bytes + length x.rest = length-append s.bytes x.rest in
    not_before part s.kept from s.bytes x.rest s.ending (suc (length from)) x.taken x.ends none (omega (arith, long, sum))

one_out : (part : PartData) (from : List ℕ) (s t : BootAttempt) → s.kept ≡ t.kept → s.address ≡ t.address → RunsOut part from s → RunsOut part from t → s ≡ t
one_out part from s t a b x y =
    attempt_is s t a b (x.taken ∙ ap (λ (k : Kept). take (taken_of part k from) from) a ∙ sym y.taken) (x.past_end ∙ sym y.past_end) (x.failed ∙ sym y.failed)

one_from : (part : PartData) (from : List ℕ) (s t : BootAttempt) → s.kept ≡ t.kept → s.address ≡ t.address → EndsFirst part from s ⊎ RunsOut part from s → EndsFirst part from t ⊎ RunsOut part from t → s ≡ t
one_from part from s t a b (inl x) (inl y) = one_ended part from s t a b x y
one_from part from s t a b (inl x) (inr y) = absurd (ended_and_out part from s t a x y)
one_from part from s t a b (inr x) (inl y) = absurd (ended_and_out part from t s (sym a) y x)
one_from part from s t a b (inr x) (inr y) = one_out part from s t a b x y

-- over a flash there is one attempt with this kept at this address
pub one_attempt : (part : PartData) (flash : List ℕ) (s t : BootAttempt) → IsFlashAttempt part flash s → IsFlashAttempt part flash t → s.kept ≡ t.kept → s.address ≡ t.address → s ≡ t
one_attempt part flash s t x y a b =
    one_from part (drop t.address flash) s t a b (subst (λ (n : ℕ). EndsFirst part (drop n flash) s ⊎ RunsOut part (drop n flash) s) b x) y

-- ---- attempt after attempt

kept_next : (k l : Kept) (a b : ℕ) → Again k a ≡ Again l b → k ≡ l
kept_next k l a b e = cc

address_next : (k l : Kept) (a b : ℕ) → Again k a ≡ Again l b → a ≡ b
address_next k l a b e = cc

-- two chains of as many attempts are the same, and lead to the same
chain_same : (part : PartData) (flash : List ℕ) (a b : List BootAttempt) (x y : Next) → length a ≡ length b → LeadsTo part flash a x → LeadsTo part flash b y → (a ≡ b) × (x ≡ y)
chain_same part flash [] [] x y n p q = (refl, p ∙ sym q)
chain_same part flash [] (t ∷ b) x y n p q = absurd (omega (arith, n))
chain_same part flash (s ∷ a) [] x y n p q = absurd (omega (arith, n))
chain_same part flash (s ∷ a) (t ∷ b) x y n p q =
    let older : (a ≡ b) × (Again s.kept s.address ≡ Again t.kept t.address) = chain_same part flash a b (Again s.kept s.address) (Again t.kept t.address) (omega (arith, n)) p.0 q.0 in
    let same : s ≡ t = one_attempt part flash s t p.1 q.1 (kept_next s.kept t.kept s.address t.address older.1) (address_next s.kept t.kept s.address t.address older.1) in (
      ap (λ (u : BootAttempt). u ∷ a) same ∙ ap (λ (l : List BootAttempt). t ∷ l) older.0,
      p.2 ∙ ap (λ (u : BootAttempt). next_by part (length a + 1) u u.ending) same ∙ ap (λ (l : List BootAttempt). next_by part (length l + 1) t t.ending) older.0 ∙ sym q.2,
    )

-- fewer attempts of a chain lead to another one
record LeadsOn (part : PartData) (flash : List ℕ) (n : ℕ) : Type 0 where
  older : List BootAttempt
  count : length older ≡ n
  kept : Kept
  address : ℕ
  leads : LeadsTo part flash older (Again kept address)

fewer_lead : (part : PartData) (flash : List ℕ) (b : List BootAttempt) (y : Next) (n : ℕ) → LeadsTo part flash b y → n < length b → LeadsOn part flash n
fewer_lead part flash [] y n q l = absurd (omega (arith, l))
fewer_lead part flash (t ∷ b) y n q l = elim (cases_lt n (length b)) [
  | inl k ↦ fewer_lead part flash b (Again t.kept t.address) n q.0 k
  | inr k ↦ record { older = b; count = omega (arith, k, l); kept = t.kept; address = t.address; leads = q.0 }
]

no_shorter : (part : PartData) (flash : List ℕ) (a b : List BootAttempt) (e : BootEnd) (y : Next) → LeadsTo part flash a (Ends e) → LeadsTo part flash b y → length a < length b → ⊥
no_shorter part flash a b e y p q l =
    let c : LeadsOn part flash (length a) = fewer_lead part flash b y (length a) q l in
    let same : (a ≡ c.older) × (Ends e ≡ Again c.kept c.address) = chain_same part flash a c.older (Ends e) (Again c.kept c.address) (sym c.count) p c.leads in
    let both : Ends e ≡ Again c.kept c.address = same.1 in
    absurd (cc)

end_is : (d e : BootEnd) → Ends d ≡ Ends e → d ≡ e
end_is d e h = cc

-- two chains to an end are one
pub one_chain : (part : PartData) (flash : List ℕ) (a b : List BootAttempt) (d e : BootEnd) → LeadsToEnd part flash a d → LeadsToEnd part flash b e → (a ≡ b) × (d ≡ e)
one_chain part flash a b d e p q =
    let long : length a ≡ length b = same_length (length a) (length b) (no_shorter part flash a b d (Ends e) p q) (no_shorter part flash b a e (Ends d) q p) in
    let same : (a ≡ b) × (Ends d ≡ Ends e) = chain_same part flash a b (Ends d) (Ends e) long p q in
    (same.0, end_is d e same.1)

pub one_attempts : (part : PartData) (flash : List ℕ) (a b : BootedState) → IsBoot part flash a → IsBoot part flash b → a.attempts ≡ b.attempts
one_attempts part flash a b x y =
    let same : (x.last ∷ x.older ≡ y.last ∷ y.older) × (a.end ≡ b.end) = one_chain part flash (x.last ∷ x.older) (y.last ∷ y.older) a.end b.end x.leads y.leads in
    x.attempts ∙ ap (λ (l : List BootAttempt). reverse (map tried l)) same.0 ∙ sym y.attempts

pub one_end : (part : PartData) (flash : List ℕ) (a b : BootedState) → IsBoot part flash a → IsBoot part flash b → a.end ≡ b.end
one_end part flash a b x y = (one_chain part flash (x.last ∷ x.older) (y.last ∷ y.older) a.end b.end x.leads y.leads).1

pub first_is : (s t : BootAttempt) (older more : List BootAttempt) → s ∷ older ≡ t ∷ more → s ≡ t
first_is s t older more e = cc

pub one_last : (part : PartData) (flash : List ℕ) (a b : BootedState) → (x : IsBoot part flash a) → (y : IsBoot part flash b) → x.last ≡ y.last
one_last part flash a b x y =
    let same : (x.last ∷ x.older ≡ y.last ∷ y.older) × (a.end ≡ b.end) = one_chain part flash (x.last ∷ x.older) (y.last ∷ y.older) a.end b.end x.leads y.leads in
    first_is x.last y.last x.older y.older same.0

-- ---- what stands on a chain

-- a chain to an end goes through the attempt to which fewer attempts lead
pub record GoesThrough (part : PartData) (flash : List ℕ) (attempts older : List BootAttempt) (kept : Kept) (address : ℕ) : Type 0 where
  pub newer : List BootAttempt
  pub attempt : BootAttempt
  pub split : attempts ≡ newer ++ attempt ∷ older
  pub is : IsFlashAttempt part flash attempt
  pub kept_is : attempt.kept ≡ kept
  pub address_is : attempt.address ≡ address

more_through : (part : PartData) (flash : List ℕ) (t : BootAttempt) (attempts older : List BootAttempt) (kept : Kept) (address : ℕ) → GoesThrough part flash attempts older kept address → GoesThrough part flash (t ∷ attempts) older kept address
more_through part flash t attempts older kept address g =
    record { newer = t ∷ g.newer; attempt = g.attempt; split = ap (λ (l : List BootAttempt). t ∷ l) g.split; is = g.is; kept_is = g.kept_is; address_is = g.address_is }

through_longer : (part : PartData) (flash : List ℕ) (b older : List BootAttempt) (y : Next) (kept : Kept) (address : ℕ) → LeadsTo part flash b y → LeadsTo part flash older (Again kept address) → length older < length b → GoesThrough part flash b older kept address
through_longer part flash [] older y kept address q p l = absurd (omega (arith, l))
through_longer part flash (t ∷ b) older y kept address q p l = elim (cases_lt (length older) (length b)) [
  | inl k ↦ more_through part flash t b older kept address (through_longer part flash b older (Again t.kept t.address) kept address q.0 p k)
  | inr k ↦ (let long : length b ≡ length older = omega (arith, k, l) in
      let same : (b ≡ older) × (Again t.kept t.address ≡ Again kept address) = chain_same part flash b older (Again t.kept t.address) (Again kept address) long q.0 p in
      record {
        newer = [];
        attempt = t;
        split = ap (λ (u : List BootAttempt). t ∷ u) same.0;
        is = q.1;
        kept_is = kept_next t.kept kept t.address address same.1;
        address_is = address_next t.kept kept t.address address same.1;
      })
]

pub goes_through : (part : PartData) (flash : List ℕ) (b older : List BootAttempt) (e : BootEnd) (kept : Kept) (address : ℕ) → LeadsToEnd part flash b e → LeadsTo part flash older (Again kept address) → GoesThrough part flash b older kept address
goes_through part flash b older e kept address q p = elim (cases_lt (length older) (length b)) [
  | inl l ↦ through_longer part flash b older (Ends e) kept address q p l
  | inr l ↦ absurd (elim (cases_lt (length b) (length older)) [
    | inl k ↦ no_shorter part flash b older e (Again kept address) q p k
    | inr k ↦ (let long : length b ≡ length older = omega (arith, k, l) in
        let same : (b ≡ older) × (Ends e ≡ Again kept address) = chain_same part flash b older (Ends e) (Again kept address) long q p in
        let both : Ends e ≡ Again kept address = same.1 in absurd (cc))
  ])
]
