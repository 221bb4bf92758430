-- Lemmas on the blocks of pages that a boot reads, and on the pages that it keeps.
use Rattle.std.proofs.Common.{◌≡◌, ◌+◌, ◌-◌, ◌*◌, ◌/◌, ◌<◌, ◌≤◌, ◌++◌, ◌⊎◌, ◌∙◌, ℕ, zero, suc, Bool, true, false, List, [], ◌∷◌, length, take, Contains, Option, None, Some, IsSome, is_some, Vec, nat_eq, Result, Ok, Err, IsErr, IsErrAnd, refl, ap, sym, subst, append-nil, append_assoc, length-append, length-take, take-take, take_all, drop, inl, inr, arith}
use Rattle.std.proofs.lemmas.Bool.{cases_lt}
use Rattle.std.proofs.lemmas.List.{take-map}
use Rattle.std.proofs.lemmas.List.Elements.{Contains-append_cases, Contains-append_left, Contains-append_right}
use Rattle.std.specs.Map.{keys_of, lookup, lookup_entry, remove_entry}
use Rattle.std.specs.declared.alloc.Global.{Global}
use Rattle.lru.specs.LruCache.{lru_cache, promoted, put_entries}
use Rattle.lru.proofs.CallerLemmas.{Contains-lookup, Contains-lookup_entry, Contains-take}
use Rattle.lru.proofs.Splits.{Contains-cons, Contains-head, Contains-nil, Contains-tail}
use Rattle.x7_words.specs.Flash.{FlashState}
use Rattle.x7_words.specs.declared.flash_call.FlashCall.{FlashCall}
use Rattle.x7_words.specs.declared.flash_call.FlashCall.TheVariants as call
use Rattle.x7_boot.specs.BlockReads.{AreAbsent, AreGoodReads, EndsBy, HasRead, HasReadBlocks, KeepsPagesRead, PageStore, ReadsBlock, ReadsBlocks, ReadsRange, TakesPages, kept_pages, numbers_from, numbers_of, page_count, pages_of, pages_read, without}
use Rattle.x7_boot.specs.Pages.{Pages, ReadBy, block_end, most_pages_at_once, page_size}
use Rattle.x7_boot.specs.Reads.{FlashAnswers, answers_since}
use Rattle.x7_boot.specs.declared.fault.BootFault.{BootFault}
use Rattle.x7_boot.specs.declared.fault.BootFault.TheVariants.{Failed, NoMemory, TooLarge}
use Rattle.x7_boot.proofs.PageLemmas.{same_number, start_of}

-- ---- numbers of pages

numbers_length : (number count : ℕ) → length (numbers_from number count) ≡ count
numbers_length number zero = refl
numbers_length number (suc count) = let e = numbers_length (suc number) count in omega (arith, e)

numbers_among : (number count page : ℕ) → Contains (numbers_from number count) page → (number ≤ page) × (page < number + count)
numbers_among number zero page c = absurd (Contains-nil page c)
numbers_among number (suc count) page c = elim (Contains-cons number (numbers_from (suc number) count) page c) [
  | inl e ↦ (omega (arith, e), omega (arith, e))
  | inr d ↦ let h = numbers_among (suc number) count page d in (omega (arith, h.0), omega (arith, h.1))
]

different : (a b : ℕ) → nat_eq a b ≡ false → b ≡ a → ⊥
different a b e f = grind arith

kept_without : (number : ℕ) (xs : List ℕ) (page : ℕ) → Contains xs page → (number ≡ page) ⊎ Contains (without number xs) page
kept_without number [] page c = absurd (Contains-nil page c)
kept_without number (x ∷ xs) page c = (elim (nat_eq number x) as (λ (b : Bool). nat_eq number x ≡ b → (number ≡ page) ⊎ Contains (without number (x ∷ xs)) page) [
  | true ↦ λ t. elim (Contains-cons x xs page c) [
    | inl e ↦ inl (sym (same_number number x t) ∙ e)
    | inr d ↦ inr (rw t d)
  ]
  | false ↦ λ t. elim (Contains-cons x xs page c) [
    | inl e ↦ inr (rw t (subst (λ (n : ℕ). Contains (n ∷ without number xs) page) (sym e) (Contains-head page (without number xs))))
    | inr d ↦ elim (kept_without number xs page d) [
      | inl e ↦ inl e
      | inr f ↦ inr (rw t (Contains-tail x (without number xs) page f))
    ]
  ]
]) refl

was_with : (number : ℕ) (xs : List ℕ) (page : ℕ) → Contains (without number xs) page → Contains xs page
was_with number [] page c = c
was_with number (x ∷ xs) page c = (elim (nat_eq number x) as (λ (b : Bool). nat_eq number x ≡ b → Contains (x ∷ xs) page) [
  | true ↦ λ t. Contains-tail x xs page (rw t at c)
  | false ↦ λ t. elim (Contains-cons x (without number xs) page (rw t at c)) [
    | inl e ↦ subst (λ (n : ℕ). Contains (n ∷ xs) page) (sym e) (Contains-head page xs)
    | inr d ↦ Contains-tail x xs page (was_with number xs page d)
  ]
]) refl

without_length : (number : ℕ) (xs : List ℕ) → Contains xs number → suc (length (without number xs)) ≡ length xs
without_length number [] c = absurd (Contains-nil number c)
without_length number (x ∷ xs) c = (elim (nat_eq number x) as (λ (b : Bool). nat_eq number x ≡ b → suc (length (without number (x ∷ xs))) ≡ length (x ∷ xs)) [
  | true ↦ λ t. rw t (omega arith)
  | false ↦ λ t. elim (Contains-cons x xs number c) [
    | inl e ↦ absurd (different number x t e)
    | inr d ↦ rw t (let e = without_length number xs d in omega (arith, e))
  ]
]) refl

-- ---- pages that were read are kept

keeps_used : (seen numbers : List ℕ) (number : ℕ) → Contains numbers number → KeepsPagesRead seen numbers → KeepsPagesRead seen (number ∷ without number numbers)
keeps_used seen numbers number there k =
    let long : suc (length (without number numbers)) ≡ length numbers = without_length number numbers there in
    record {
      fits = let f = k.fits in omega (arith, f, long);
      few = let f = k.few in omega (arith, f, long);
      read = λ page c. elim (Contains-cons number (without number numbers) page c) [
        | inl e ↦ k.read page (subst (Contains numbers) e there)
        | inr d ↦ k.read page (was_with number numbers page d)
      ];
      all = λ short page c. elim (kept_without number numbers page (k.all short page c)) [
        | inl e ↦ subst (λ (n : ℕ). Contains (n ∷ without number numbers) page) (sym e) (Contains-head page (without number numbers))
        | inr d ↦ Contains-tail number (without number numbers) page d
      ];
    }

keeps_block : (seen numbers : List ℕ) (number count : ℕ) → KeepsPagesRead seen numbers → KeepsPagesRead (seen ++ numbers_from number count) (take kept_pages (numbers_from number count ++ numbers))
keeps_block seen numbers number count k =
    let block : List ℕ = numbers_from number count in
    let long : length block ≡ count = numbers_length number count in
    let both : length (block ++ numbers) ≡ length block + length numbers = length-append block numbers in
    let sum : length (seen ++ block) ≡ length seen + length block = length-append seen block in
    let few : length numbers ≤ length seen = k.few in
    record {
      fits = omega (arith, length-take kept_pages (block ++ numbers));
      few = omega (arith, length-take kept_pages (block ++ numbers), both, sum, few);
      read = λ page c. elim (Contains-append_cases block numbers page (Contains-take kept_pages (block ++ numbers) page c)) [
        | inl a ↦ Contains-append_right seen block page a
        | inr b ↦ Contains-append_left seen block page (k.read page b)
      ];
      all = λ short page c. subst (λ (xs : List ℕ). Contains xs page) (sym (take_all kept_pages (block ++ numbers) (omega (arith, short, both, sum, few)))) (elim (Contains-append_cases seen block page c) [
        | inl a ↦ Contains-append_right block numbers page (k.all (omega (arith, short, sum)) page a)
        | inr b ↦ Contains-append_left block numbers page b
      ]);
    }

-- ---- the numbers of a store

key_of : (es : Pages) (e : ℕ × Vec ℕ Global) → Contains es e → Contains (keys_of es) e.0
key_of [] e c = absurd (Contains-nil e c)
key_of (f ∷ es) e c = elim (Contains-cons f es e c) [
  | inl s ↦ subst (Contains (keys_of (f ∷ es))) (ap (λ (x : ℕ × Vec ℕ Global). x.0) s) (Contains-head f.0 (keys_of es))
  | inr d ↦ Contains-tail f.0 (keys_of es) e.0 (key_of es e d)
]

same_found : (test : ℕ → Bool) (es : Pages) → is_some (lookup_entry test es) ≡ is_some (lookup test es)
same_found test [] = refl
same_found test (f ∷ es) = (elim (test f.0) as (λ (b : Bool). test f.0 ≡ b → is_some (lookup_entry test (f ∷ es)) ≡ is_some (lookup test (f ∷ es))) [
  | true ↦ λ t. rw t refl
  | false ↦ λ t. rw t (same_found test es)
]) refl

pub there_at : (number : ℕ) (es : Pages) → is_some (lookup (nat_eq number) es) ≡ true → Contains (keys_of es) number
there_at number es e = by (lookup (nat_eq number) es) refl
  where
    by : (o : Option (Vec ℕ Global)) → lookup (nat_eq number) es ≡ o → Contains (keys_of es) number
    by None h = let i : false ≡ true = sym (ap is_some h) ∙ e in cc
    by (Some v) h = let c = Contains-lookup (nat_eq number) es v h in subst (Contains (keys_of es)) (same_number number c.0 c.2) (key_of es (c.0, v) c.1)

pub absent_at : (number : ℕ) (es : Pages) → is_some (lookup (nat_eq number) es) ≡ false → Contains (keys_of es) number → ⊥
absent_at number [] e c = Contains-nil number c
absent_at number (f ∷ es) e c = (elim (nat_eq number f.0) as (λ (b : Bool). nat_eq number f.0 ≡ b → ⊥) [
  | true ↦ λ t. let h : true ≡ false = rw t at e in cc
  | false ↦ λ t. elim (Contains-cons f.0 (keys_of es) number c) [
    | inl s ↦ different number f.0 t s
    | inr d ↦ absent_at number es (rw t at e) d
  ]
]) refl

none_there : (number : ℕ) (es : Pages) → (Contains (keys_of es) number → ⊥) → lookup_entry (nat_eq number) es ≡ None
none_there number es absent = by (lookup_entry (nat_eq number) es) refl
  where
    by : (o : Option (ℕ × Vec ℕ Global)) → lookup_entry (nat_eq number) es ≡ o → lookup_entry (nat_eq number) es ≡ None
    by None h = h
    by (Some e) h = let c = Contains-lookup_entry (nat_eq number) es e h in absurd (absent (subst (Contains (keys_of es)) (same_number number e.0 c.1) (key_of es e c.0)))

removed : (number : ℕ) (es : Pages) → keys_of (remove_entry (nat_eq number) es) ≡ without number (keys_of es)
removed number [] = refl
removed number (f ∷ es) = (elim (nat_eq number f.0) as (λ (b : Bool). nat_eq number f.0 ≡ b → keys_of (remove_entry (nat_eq number) (f ∷ es)) ≡ without number (keys_of (f ∷ es))) [
  | true ↦ λ t. rw t refl
  | false ↦ λ t. rw t (ap (λ (xs : List ℕ). f.0 ∷ xs) (removed number es))
]) refl

-- a page that is there comes first
numbers_promoted : (number : ℕ) (es : Pages) → is_some (lookup (nat_eq number) es) ≡ true → keys_of (promoted (nat_eq number) es) ≡ number ∷ without number (keys_of es)
numbers_promoted number es some = by (lookup_entry (nat_eq number) es) refl
  where
    by : (o : Option (ℕ × Vec ℕ Global)) → lookup_entry (nat_eq number) es ≡ o → keys_of (promoted (nat_eq number) es) ≡ number ∷ without number (keys_of es)
    by None h = let i : false ≡ true = sym (ap is_some h) ∙ same_found (nat_eq number) es ∙ some in cc
    by (Some f) h = rw h (ap (λ (n : ℕ). n ∷ keys_of (remove_entry (nat_eq number) es)) (same_number number f.0 (Contains-lookup_entry (nat_eq number) es f h).1) ∙ ap (λ (xs : List ℕ). number ∷ xs) (removed number es))

pub order_used : (number : ℕ) (old new : PageStore) → is_some (lookup (nat_eq number) old.entries) ≡ true → new ≡ lru_cache (promoted (nat_eq number) old.entries) old.cap → numbers_of new ≡ number ∷ without number (numbers_of old)
order_used number old new some e = ap (λ (k : PageStore). keys_of k.entries) e ∙ numbers_promoted number old.entries some

-- a page that isn't there changes nothing
pub not_promoted : (number : ℕ) (old new : PageStore) → is_some (lookup (nat_eq number) old.entries) ≡ false → new ≡ lru_cache (promoted (nat_eq number) old.entries) old.cap → new ≡ old
not_promoted number old new none e = e ∙ ap (λ (es : Pages). lru_cache es old.cap) (by (lookup_entry (nat_eq number) old.entries) refl)
  where
    by : (o : Option (ℕ × Vec ℕ Global)) → lookup_entry (nat_eq number) old.entries ≡ o → promoted (nat_eq number) old.entries ≡ old.entries
    by None h = rw h refl
    by (Some f) h = let i : true ≡ false = sym (ap is_some h) ∙ same_found (nat_eq number) old.entries ∙ none in cc

take_twice : (cap number : ℕ) (xs : List ℕ) → take cap (number ∷ take cap xs) ≡ take cap (number ∷ xs)
take_twice zero number xs = refl
take_twice (suc m) number xs = ap (λ (l : List ℕ). number ∷ l) (take-take m (suc m) xs (omega arith))

-- a page that is put comes first
numbers_put : (store : PageStore) (number : ℕ) (page : Vec ℕ Global) → 0 < store.cap → (Contains (numbers_of store) number → ⊥) → keys_of (put_entries nat_eq store number page) ≡ take store.cap (number ∷ numbers_of store)
numbers_put store number page room absent = rw (none_there number store.entries absent) (by store.cap room)
  where
    by : (cap : ℕ) → 0 < cap → keys_of ((number, page) ∷ take (cap - 1) store.entries) ≡ take cap (number ∷ keys_of store.entries)
    by zero l = absurd (omega (arith, l))
    by (suc m) l = let e : suc m - 1 ≡ m = omega arith in ap (λ (n : ℕ). number ∷ keys_of (take n store.entries)) e ∙ ap (λ (xs : List ℕ). number ∷ xs) (sym (take-map (λ (e : ℕ × Vec ℕ Global). e.0) m store.entries))

pub takes_one : (number : ℕ) (old new : PageStore) (page : Vec ℕ Global) → 0 < old.cap → (Contains (numbers_of old) number → ⊥) → new ≡ lru_cache (put_entries nat_eq old number page) old.cap → TakesPages number 1 old new
takes_one number old new page room absent e = record {
  room = ap (λ (k : PageStore). k.cap) e;
  numbers = ap (λ (k : PageStore). keys_of k.entries) e ∙ numbers_put old number page room absent;
}

pub takes_none : (number count : ℕ) (store : PageStore) → count ≡ 0 → length (numbers_of store) ≤ store.cap → TakesPages number count store store
takes_none number count store none fits = record {
  room = refl;
  numbers = sym (ap (λ (n : ℕ). take store.cap (numbers_from number n ++ numbers_of store)) none ∙ take_all store.cap (numbers_of store) fits);
}

-- one page more, before the others
pub takes_more : (number next count more : ℕ) (old mid new : PageStore) → next ≡ suc number → more ≡ suc count → TakesPages next count old mid → TakesPages number 1 mid new → TakesPages number more old new
takes_more number next count more old mid new after one t u = record {
  room = u.room ∙ t.room;
  numbers =
      u.numbers ∙ ap (λ (n : ℕ). take n (number ∷ numbers_of mid)) t.room ∙ ap (λ (xs : List ℕ). take old.cap (number ∷ xs)) t.numbers
      ∙ take_twice old.cap number (numbers_from next count ++ numbers_of old)
      ∙ ap (λ (n : ℕ). take old.cap (number ∷ (numbers_from n count ++ numbers_of old))) after
      ∙ sym (ap (λ (n : ℕ). take old.cap (numbers_from number n ++ numbers_of old)) one);
}

pub takes_same : (number first count all : ℕ) (old new : PageStore) → number ≡ first → count ≡ all → TakesPages number count old new → TakesPages first all old new
takes_same number first count all old new e f t = subst (λ (n : ℕ). TakesPages n all old new) e (subst (λ (n : ℕ). TakesPages number n old new) f t)

-- a page before those that were taken is not there yet
pub absent_before : (number count page : ℕ) (old mid : PageStore) → page < number → TakesPages number count old mid → (Contains (numbers_of old) page → ⊥) → Contains (numbers_of mid) page → ⊥
absent_before number count page old mid before t absent c =
    elim (Contains-append_cases (numbers_from number count) (numbers_of old) page (Contains-take old.cap (numbers_from number count ++ numbers_of old) page (subst (λ (xs : List ℕ). Contains xs page) t.numbers c))) [
      | inl a ↦ let h = numbers_among number count page a in omega (arith, h.0, before)
      | inr b ↦ absent b
    ]

-- ---- calls after others

pages_read_on : (xs : List FlashCall) (call : FlashCall) → pages_read (xs ++ call ∷ []) ≡ pages_read xs ++ pages_of call
pages_read_on [] call = append-nil (pages_of call)
pages_read_on (x ∷ xs) call = ap (λ (l : List ℕ). pages_of x ++ l) (pages_read_on xs call) ∙ sym (append_assoc (pages_of x) (pages_read xs) (pages_of call))

blocks_on : (extent : ℕ) (seen : List ℕ) (xs : List FlashCall) (call : FlashCall) → ReadsBlocks extent seen xs → ReadsBlock extent (seen ++ pages_read xs) call → ReadsBlocks extent seen (xs ++ call ∷ [])
blocks_on extent seen [] call b r = (subst (λ (s : List ℕ). ReadsBlock extent s call) (append-nil seen) r, tt)
blocks_on extent seen (x ∷ xs) call b r =
    (b.0, blocks_on extent (seen ++ pages_of x) xs call b.1 (subst (λ (s : List ℕ). ReadsBlock extent s call) (sym (append_assoc seen (pages_of x) (pages_read xs))) r))

good_on : (xs : List FlashCall) (place : ℕ) (bytes : List ℕ) → AreGoodReads xs → AreGoodReads (xs ++ call.Read place bytes ∷ [])
good_on [] place bytes g = (tt, tt)
good_on (x ∷ xs) place bytes g = (g.0, good_on xs place bytes g.1)

-- the pages of a block by its bytes
block_pages : (number count extent long : ℕ) → 0 < count → (number + count) * page_size < extent + page_size → long ≡ block_end number count extent - number * page_size → numbers_from (number * page_size / page_size) (page_count long) ≡ numbers_from number count
block_pages number count extent long some within e =
    let n : page_count long ≡ count = omega (arith, some, within, e) in
    ap (λ (m : ℕ). numbers_from m (page_count long)) (start_of number) ∙ ap (numbers_from number) n

-- ---- a block that is read

-- `count` pages from page `number` on are the next block to read, where the pages of these numbers are kept
pub record IsNext (extent number count : ℕ) (numbers : List ℕ) : Type 0 where
  pub some : 0 < count
  pub most : count ≤ most_pages_at_once
  pub within : (number + count) * page_size < extent + page_size
  pub ends : (count ≡ most_pages_at_once) ⊎ ((extent ≤ (number + count) * page_size) ⊎ Contains numbers (number + count))
  pub absent : AreAbsent number count numbers

-- the block to read, by what was looked up
pub next_of : (extent size number count : ℕ) (store : PageStore) → size ≡ extent → 0 < count → count ≤ most_pages_at_once → ((page : ℕ) → page < number + count → page * page_size < size)
    → ((page : ℕ) → number < page → page < number + count → lookup (nat_eq page) store.entries ≡ None)
    → (count ≡ most_pages_at_once) ⊎ ((size ≤ (number + count) * page_size) ⊎ IsSome (lookup (nat_eq (number + count)) store.entries))
    → is_some (lookup (nat_eq number) store.entries) ≡ false → IsNext extent number count (numbers_of store)
next_of extent size number count store same some most within absent ends none = record {
  some = some;
  most = most;
  within = let last = within (number + count - 1) (omega (arith, some)) in omega (arith, some, last, same);
  ends = elim ends [
    | inl all ↦ inl all
    | inr short ↦ elim short [
      | inl end ↦ inr (inl (omega (arith, end, same)))
      | inr there ↦ inr (inr (there_at (number + count) store.entries there))
    ]
  ];
  absent = λ page from to c. elim (cases_lt number page) [
    | inl after ↦ absent_at page store.entries (ap is_some (absent page after to)) c
    | inr first ↦ absent_at number store.entries none (subst (Contains (numbers_of store)) (let e : page ≡ number = omega (arith, from, first) in e) c)
  ];
}

-- a page that isn't kept was looked for: what was read and kept so far stays, and the block that begins with it is next
pub record Misses (flash : FlashAnswers) (number count : ℕ) (store : PageStore) : Type 0 where
  pub has : HasRead flash store
  pub next : IsNext flash.extent number count (numbers_of store)

pub missed : (flash : FlashAnswers) (size number count : ℕ) (old new : PageStore) → HasRead flash old → size ≡ flash.extent → 0 < count → count ≤ most_pages_at_once → ((page : ℕ) → page < number + count → page * page_size < size)
    → ((page : ℕ) → number < page → page < number + count → lookup (nat_eq page) new.entries ≡ None)
    → (count ≡ most_pages_at_once) ⊎ ((size ≤ (number + count) * page_size) ⊎ IsSome (lookup (nat_eq (number + count)) new.entries))
    → is_some (lookup (nat_eq number) old.entries) ≡ false → new ≡ lru_cache (promoted (nat_eq number) old.entries) old.cap → Misses flash number count new
missed flash size number count old new has same some most within absent ends none e =
    let kept : new ≡ old = not_promoted number old new none e in
    record {
      has = subst (HasRead flash) (sym kept) has;
      next = next_of flash.extent size number count new same some most within absent ends (subst (λ (k : PageStore). is_some (lookup (nat_eq number) k.entries) ≡ false) (sym kept) none);
    }

reads_next : (extent number count : ℕ) (seen numbers : List ℕ) (call : FlashCall) → KeepsPagesRead seen numbers → IsNext extent number count numbers → ReadsRange (number * page_size) (block_end number count extent) call → ReadsBlock extent seen call
reads_next extent number count seen numbers call k next range = record {
  page = number;
  count = count;
  some = next.some;
  most = next.most;
  within = next.within;
  range = range;
  ends = elim next.ends [
    | inl all ↦ inl all
    | inr short ↦ elim short [
      | inl end ↦ inr (inl end)
      | inr there ↦ inr (inr (k.read (number + count) there))
    ]
  ];
  once = λ short page from to c. next.absent page from to (k.all short page c);
}

-- the range of a block by its length
range_end : (extent number count long : ℕ) → 0 < count → number * page_size < extent → long ≡ block_end number count extent - number * page_size → number * page_size + long ≡ block_end number count extent
range_end extent number count long some inside e = omega (arith, some, inside, e)

-- what a flash answered before a call of it, and with that call
module _ (one other : FlashAnswers) (store : PageStore) (size : other.extent ≡ one.extent) (has : HasRead one store) where
  blocks_with : (call : FlashCall) → other.calls ≡ one.calls ++ call ∷ [] → ReadsBlock one.extent (pages_read one.calls) call → HasReadBlocks other
  blocks_with call are r = subst (λ (n : ℕ). ReadsBlocks n [] other.calls) (sym size) (subst (ReadsBlocks one.extent []) (sym are) (blocks_on one.extent [] one.calls call has.blocks r))

  blocks_same : other.calls ≡ one.calls → HasReadBlocks other
  blocks_same are = subst (λ (n : ℕ). ReadsBlocks n [] other.calls) (sym size) (subst (ReadsBlocks one.extent []) (sym are) has.blocks)

  module _ (number count : ℕ) (block : List ℕ) (inside : number * page_size < one.extent) (next : IsNext one.extent number count (numbers_of store)) where
    -- a block that was read
    module _ (long : length block ≡ block_end number count one.extent - number * page_size) (are : other.calls ≡ one.calls ++ call.Read (number * page_size) block ∷ []) where
      pub read_good : AreGoodReads other.calls
      read_good = subst AreGoodReads (sym are) (good_on one.calls (number * page_size) block has.good)

      pub read_blocks : HasReadBlocks other
      read_blocks = blocks_with (call.Read (number * page_size) block) are
          (reads_next one.extent number count (pages_read one.calls) (numbers_of store) (call.Read (number * page_size) block) has.kept next (refl, range_end one.extent number count (length block) next.some inside long))

      pub read_kept : (new : PageStore) → TakesPages number count store new → HasRead other new
      read_kept new t = record {
        room = t.room ∙ has.room;
        good = read_good;
        blocks = read_blocks;
        kept =
            let seen : pages_read other.calls ≡ pages_read one.calls ++ numbers_from number count = ap pages_read are ∙ pages_read_on one.calls (call.Read (number * page_size) block)
            ∙ ap (λ (l : List ℕ). pages_read one.calls ++ l) (block_pages number count one.extent (length block) next.some next.within long) in
            let numbers : numbers_of new ≡ take kept_pages (numbers_from number count ++ numbers_of store) = t.numbers ∙ ap (λ (n : ℕ). take n (numbers_from number count ++ numbers_of store)) has.room in
            subst (λ (s : List ℕ). KeepsPagesRead s (numbers_of new)) (sym seen) (subst (KeepsPagesRead (pages_read one.calls ++ numbers_from number count)) (sym numbers) (keeps_block (pages_read one.calls) (numbers_of store) number count has.kept));
      }

    -- a block that was not read
    module _ (ys : List FlashCall) (are : other.calls ≡ one.calls ++ ys) where
      pub unread_blocks : (fault : BootFault) → ReadBy {A = Unit {0}} (number * page_size) block (Err fault) ys → (fault ≡ Failed → length block ≡ block_end number count one.extent - number * page_size) → HasReadBlocks other
      unread_blocks Failed by long = blocks_with (call.ReadFailed (number * page_size) (length block)) (are ∙ ap (λ (l : List FlashCall). one.calls ++ l) by)
          (reads_next one.extent number count (pages_read one.calls) (numbers_of store) (call.ReadFailed (number * page_size) (length block)) has.kept next (refl, range_end one.extent number count (length block) next.some inside (long refl)))
      unread_blocks NoMemory by long = blocks_same (are ∙ ap (λ (l : List FlashCall). one.calls ++ l) by ∙ append-nil one.calls)
      unread_blocks TooLarge by long = absurd by

      pub unread_ends : (B : Type 0) (fault : BootFault) → ReadBy {A = Unit {0}} (number * page_size) block (Err fault) ys → EndsBy {A = B} (Err fault) other.calls
      unread_ends B Failed by = record { before = one.calls; place = number * page_size; count = length block; are = are ∙ ap (λ (l : List FlashCall). one.calls ++ l) by; good = has.good }
      unread_ends B NoMemory by = subst AreGoodReads (sym (are ∙ ap (λ (l : List FlashCall). one.calls ++ l) by ∙ append-nil one.calls)) has.good
      unread_ends B TooLarge by = absurd by

-- a page that is kept was used
pub used_kept : (flash : FlashAnswers) (number : ℕ) (old new : PageStore) → HasRead flash old → is_some (lookup (nat_eq number) old.entries) ≡ true → new ≡ lru_cache (promoted (nat_eq number) old.entries) old.cap → HasRead flash new
used_kept flash number old new has some e = record {
  room = ap (λ (k : PageStore). k.cap) e ∙ has.room;
  good = has.good;
  blocks = has.blocks;
  kept = subst (KeepsPagesRead (pages_read flash.calls)) (sym (order_used number old new some e)) (keeps_used (pages_read flash.calls) (numbers_of old) number (there_at number old.entries some) has.kept);
}

none_since : (xs : List FlashCall) → drop (length xs) xs ≡ []
none_since [] = refl
none_since (x ∷ xs) = none_since xs

-- where nothing was called
pub no_calls : (s : FlashState) → (answers_since s s).calls ≡ []
no_calls s = none_since s.calls

pub no_blocks : (s : FlashState) → HasReadBlocks (answers_since s s)
no_blocks s = subst (ReadsBlocks s.extent []) (sym (no_calls s)) tt

pub no_failure : (s : FlashState) → AreGoodReads (answers_since s s).calls
no_failure s = subst AreGoodReads (sym (no_calls s)) tt

-- a boot begins with no call and no page
pub begins_read : (s : FlashState) (store : PageStore) → store ≡ lru_cache [] kept_pages → HasRead (answers_since s s) store
begins_read s store e = subst (HasRead (answers_since s s)) (sym e) (record {
  room = refl;
  good = no_failure s;
  blocks = no_blocks s;
  kept = subst (λ (l : List FlashCall). KeepsPagesRead (pages_read l) []) (sym (no_calls s)) (record { fits = omega arith; few = omega arith; read = λ page c. c; all = λ short page c. c });
})

-- how a call ended is handed on
pub ends_on : (A B : Type 0) (result : Result B BootFault) (fault : BootFault) (calls : List FlashCall) → IsErr result × IsErrAnd result (λ e. e ≡ fault) → EndsBy {A = A} (Err fault) calls → EndsBy result calls
ends_on A B (Ok b) fault calls h ends = absurd h.1
ends_on A B (Err e) fault calls h ends = subst (λ (f : BootFault). EndsBy {A = B} (Err f) calls) (sym h.1) (same fault ends)
  where
    same : (f : BootFault) → EndsBy {A = A} (Err f) calls → EndsBy {A = B} (Err f) calls
    same Failed x = x
    same NoMemory x = x
    same TooLarge x = x
