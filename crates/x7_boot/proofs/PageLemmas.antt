-- Lemmas on the pages of a flash that are kept, and on the rest of a page.
use Rattle.std.proofs.Common.{◌≡◌, ◌+◌, ◌-◌, ◌*◌, ◌/◌, ◌%◌, ◌<◌, ◌≤◌, ◌++◌, ℕ, Bool, true, List, [], length, take, drop, slice_range, Option, None, Some, IsSome, is_some, Vec, nat_eq, min, Result, Ok, Err, IfOk, IsErr, IsErrAnd, refl, ap, sym, subst, ◌∙◌, drop-drop, length-drop, length-take, inl, inr, arith}
use Rattle.std.proofs.lemmas.List.{drop-take, take-take, take_rest}
use Rattle.std.specs.Cmp.{nat_eq_equiv}
use Rattle.std.specs.Map.{lookup, lookup_entry}
use Rattle.std.specs.declared.alloc.Global.{Global}
use Rattle.lru.specs.LruCache.{LruCache, lru_cache, promoted, put_entries}
use Rattle.lru.proofs.CallerLemmas.{Contains-lookup, Contains-lookup_entry, Contains-promoted, Contains-put_entries, lookup-put_entries}
use Rattle.x7_words.specs.Flash.{FlashState}
use Rattle.x7_words.specs.declared.flash_call.FlashCall.{FlashCall}
use Rattle.x7_boot.specs.Image.{flash_limit}
use Rattle.x7_boot.specs.Pages.{AreBytesFrom, ArePages, HasPage, IsBlock, IsLoaded, IsRestOfPage, Pages, BlockReaches, block_end, page_end, page_size}
use Rattle.x7_boot.specs.Reads.{FlashAnswers, HasCalled, IfAgrees, IsSince, answers_since}
use Rattle.x7_boot.specs.declared.cache.Loaded.{Loaded}
use Rattle.x7_boot.specs.declared.fault.BootFault.{BootFault}
use Rattle.x7_boot.specs.declared.cache.Loaded.TheVariants.{Cached, Read}
use Rattle.x7_boot.proofs.ReadLemmas.{IsLater, later_from, later_on}

-- ---- pages that are kept

pages_promoted : (flash : FlashAnswers) (test : ℕ → Bool) (pages : Pages) → ArePages flash pages → ArePages flash (promoted test pages)
pages_promoted flash test pages are page c = are page (Contains-promoted test pages page c)

pub pages_on_promote : (flash : FlashAnswers) (test : ℕ → Bool) (cache new : LruCache ℕ (Vec ℕ Global)) → new ≡ lru_cache (promoted test cache.entries) cache.cap → ArePages flash cache.entries → ArePages flash new.entries
pages_on_promote flash test cache new e are = subst (λ (k : LruCache ℕ (Vec ℕ Global)). ArePages flash k.entries) (sym e) (pages_promoted flash test cache.entries are)

pub same_number : (a b : ℕ) → nat_eq a b ≡ true → b ≡ a
same_number a b e = grind arith

-- the pages of a cache with one more
pub pages_put : (flash : FlashAnswers) (cache : LruCache ℕ (Vec ℕ Global)) (number : ℕ) (bytes : Vec ℕ Global) → ArePages flash cache.entries → IsRestOfPage flash (number * page_size) bytes.items
    → ArePages flash (put_entries nat_eq cache number bytes)
pages_put flash cache number bytes are here page c = elim (Contains-put_entries nat_eq cache number bytes page c) [
  | inl was ↦ are page was
  | inr new ↦
      let key : page.0 ≡ number = elim new.1 [
        | inl e ↦ e
        | inr other ↦ same_number number page.0 other.2
      ] in
      subst (λ (n : ℕ). IsRestOfPage flash (n * page_size) page.1.items) (sym key) (subst (λ (b : Vec ℕ Global). IsRestOfPage flash (number * page_size) b.items) (sym new.0) here)
]

-- ---- a block of pages

pub start_of : (page : ℕ) → page * page_size / page_size ≡ page
start_of page = grind arith

range_of_range : (all block bytes : List ℕ) (from end start stop at to : ℕ) → block ≡ slice_range all from end → bytes ≡ slice_range block start stop → from + start ≡ at → from + stop ≡ to → to ≤ end → start ≤ stop → bytes ≡ slice_range all at to
range_of_range all block bytes from end start stop at to e f g h l m =
    let long : end - from ≡ start + (end - from - start) = omega (arith, h, l, m) in
    let short : stop - start ≤ end - from - start = omega (arith, h, l, m) in
    let same : stop - start ≡ to - at = omega (arith, g, h) in
    f ∙ ap (λ (b : List ℕ). take (stop - start) (drop start b)) (e ∙ ap (λ (n : ℕ). take n (drop from all)) long)
    ∙ ap (take (stop - start)) (drop-take start (end - from - start) (drop from all))
    ∙ take-take (stop - start) (end - from - start) (drop start (drop from all)) short
    ∙ ap (take (stop - start)) (drop-drop start from all ∙ ap (λ (n : ℕ). drop n all) g)
    ∙ ap (λ (n : ℕ). take n (drop at all)) same

range_length : (block bytes : List ℕ) (start stop : ℕ) → bytes ≡ slice_range block start stop → stop ≤ length block → length bytes ≡ stop - start
range_length block bytes start stop e l = ap length e ∙ grind (arith, length-take {A = ℕ}, length-drop {A = ℕ})

-- the page of an index of a block, by where it ends in the block
end_of_index : (extent number count index start stop long : ℕ) → number * page_size < extent → long ≡ block_end number count extent - number * page_size → index < count → start ≡ index * page_size → start < long → stop ≡ min (start + page_size) long
    → number * page_size + stop ≡ page_end ((number + index) * page_size) extent
end_of_index extent number count index start stop long within e l f m g =
    let end : page_end ((number + index) * page_size) extent ≡ min ((number + index + 1) * page_size) extent = ap (λ (n : ℕ). min ((n + 1) * page_size) extent) (start_of (number + index)) in
    omega (arith, end, within, e, l, f, m, g)

pub page_of_block : (flash : FlashAnswers) (number count index start stop : ℕ) (block bytes : List ℕ) → IsBlock flash number count block → index < count → start ≡ index * page_size → start < length block
    → stop ≡ min (start + page_size) (length block) → bytes ≡ slice_range block start stop → IsRestOfPage flash ((number + index) * page_size) bytes
page_of_block flash number count index start stop block bytes b l f m g e =
    let end : number * page_size + stop ≡ page_end ((number + index) * page_size) flash.extent = end_of_index flash.extent number count index start stop (length block) b.within b.long l f m g in
    let at : number * page_size + start ≡ (number + index) * page_size = omega (arith, f) in
    let inside : stop ≤ length block = omega (arith, g) in
    let goes : start ≤ stop = omega (arith, g, m) in
    let last : number * page_size + stop ≤ block_end number count flash.extent = let w = b.within in let long = b.long in omega (arith, inside, w, long, m) in
    record {
      long = let n : length bytes ≡ stop - start = range_length block bytes start stop e inside in omega (arith, n, end, at);
      bytes_are = λ all agrees. range_of_range all block bytes (number * page_size) (block_end number count flash.extent) start stop ((number + index) * page_size) (page_end ((number + index) * page_size) flash.extent) (b.bytes_are all agrees) e at end
          (omega (arith, end, last)) goes;
    }

pub pages_split : (flash : FlashAnswers) (number count index stop : ℕ) (cache new : LruCache ℕ (Vec ℕ Global)) (page : Vec ℕ Global) (block lent prefix : List ℕ) → new ≡ lru_cache (put_entries nat_eq cache (number + index) page) cache.cap
    → page.items ≡ prefix ++ slice_range lent (index * page_size) stop → prefix ≡ [] → lent ≡ block → stop ≡ min (index * page_size + page_size) (length block) → index * page_size < length block
    → IsBlock flash number count block → index < count → ArePages flash cache.entries → ArePages flash new.entries
pages_split flash number count index stop cache new page block lent prefix e f g h m l b i are =
    let bytes : page.items ≡ slice_range block (index * page_size) stop = f ∙ ap (λ (x : List ℕ). x ++ slice_range lent (index * page_size) stop) g ∙ ap (λ (x : List ℕ). slice_range x (index * page_size) stop) h in
    subst (λ (k : LruCache ℕ (Vec ℕ Global)). ArePages flash k.entries) (sym e)
    (pages_put flash cache (number + index) page are (page_of_block flash number count index (index * page_size) stop block page.items b i refl l m bytes))

-- the page that a look-up after `push` finds
pub there_put : (cache : LruCache ℕ (Vec ℕ Global)) (number : ℕ) (page : Vec ℕ Global) → IsSome (lookup (nat_eq number) (put_entries nat_eq cache number page))
there_put cache number page = rw (lookup-put_entries nat_eq cache number page nat_eq_equiv) refl

-- a page that was in the cache is found after it is promoted
pub there_promoted : (test : ℕ → Bool) (pages : Pages) → is_some (lookup test pages) ≡ true → IsSome (lookup test (promoted test pages))
there_promoted test pages e = by (lookup_entry test pages) refl
  where
    by : (o : Option (ℕ × Vec ℕ Global)) → lookup_entry test pages ≡ o → IsSome (lookup test (promoted test pages))
    by None h = rw h e
    by (Some page) h = rw h (rw (Contains-lookup_entry test pages page h).1 refl)

-- ---- the rest of a page

-- a place stands before the end of its page
pub within_page : (at extent : ℕ) → at < extent → at < page_end at extent
within_page at extent l = grind arith

rest_of_range : (all bytes : List ℕ) (start more at end stop : ℕ) → start + more ≡ at → end ≡ stop → at ≤ stop → bytes ≡ slice_range all start end → drop more bytes ≡ slice_range all at stop
rest_of_range all bytes start more at end stop e f l w =
    let long : end - start ≡ more + (stop - at) = omega (arith, e, f, l) in
    ap (drop more) (w ∙ ap (λ (n : ℕ). take n (drop start all)) long) ∙ drop-take more (stop - at) (drop start all)
    ∙ ap (take (stop - at)) (drop-drop more start all ∙ ap (λ (n : ℕ). drop n all) e)

-- the rest of a page from a place in it
pub rest_from : (flash : FlashAnswers) (at : ℕ) (bytes : List ℕ) → at < flash.extent → IsRestOfPage flash (at / page_size * page_size) bytes → IsRestOfPage flash at (drop (at % page_size) bytes)
rest_from flash at bytes within r =
    let page : ℕ = at / page_size in
    let end : page_end (page * page_size) flash.extent ≡ page_end at flash.extent = ap (λ (n : ℕ). min ((n + 1) * page_size) flash.extent) (start_of page) in
    let sum : page * page_size + at % page_size ≡ at = omega arith in
    let inside : at < page_end at flash.extent = within_page at flash.extent within in
    record {
      long = let l : length (drop (at % page_size) bytes) ≡ length bytes - at % page_size = length-drop (at % page_size) bytes in
          let m : length bytes ≡ page_end (page * page_size) flash.extent - page * page_size = r.long in
          omega (arith, l, m, end, sum);
      bytes_are = λ all agrees. rest_of_range all bytes (page * page_size) (at % page_size) at (page_end (page * page_size) flash.extent) (page_end at flash.extent) sum end (omega (arith, inside)) (r.bytes_are all agrees);
    }

-- the page of a place, among those that are kept
pub page_among : (flash : FlashAnswers) (at : ℕ) (pages : Pages) (page : Vec ℕ Global) → ArePages flash pages → lookup (nat_eq (at / page_size)) pages ≡ Some page → IsRestOfPage flash (at / page_size * page_size) page.items
page_among flash at pages page are e =
    let c = Contains-lookup (nat_eq (at / page_size)) pages page e in
    subst (λ (n : ℕ). IsRestOfPage flash (n * page_size) page.items) (same_number (at / page_size) c.0 c.2) (are (c.0, page) c.1)

-- what a look-up gives, as the rest of the place's page
pub rest_among : (flash : FlashAnswers) (at : ℕ) (pages : Pages) (page : Vec ℕ Global) (bytes : List ℕ) → ArePages flash pages → at < flash.extent → lookup (nat_eq (at / page_size)) pages ≡ Some page → bytes ≡ page.items
    → IsRestOfPage flash at (take (length bytes - at % page_size) (drop (at % page_size) bytes))
rest_among flash at pages page bytes are within e f =
    let whole : take (length bytes - at % page_size) (drop (at % page_size) bytes) ≡ drop (at % page_size) bytes = take_rest bytes (at % page_size) in
    subst (IsRestOfPage flash at) (sym (whole ∙ ap (drop (at % page_size)) f)) (rest_from flash at page.items within (page_among flash at pages page are e))

pub place_in : (at : ℕ) (pages : Pages) (page : Vec ℕ Global) (bytes : List ℕ) → HasPage pages at → lookup (nat_eq (at / page_size)) pages ≡ Some page → bytes ≡ page.items → at % page_size ≤ length bytes
place_in at pages page bytes has e f =
    let r = page_among has.flash at pages page has.are e in
    let long : length page.items ≡ page_end (at / page_size * page_size) has.flash.extent - at / page_size * page_size = r.long in
    let end : page_end (at / page_size * page_size) has.flash.extent ≡ page_end at has.flash.extent = ap (λ (n : ℕ). min ((n + 1) * page_size) has.flash.extent) (start_of (at / page_size)) in
    let inside : at < page_end at has.flash.extent = within_page at has.flash.extent has.within in
    let same : length bytes ≡ length page.items = ap length f in
    omega (arith, long, end, inside, same)

-- ---- in an attempt

-- what was read of a flash stays so after further answers
rest_later : (one other : FlashAnswers) (place : ℕ) (bytes : List ℕ) → IsLater one other → IsRestOfPage one place bytes → IsRestOfPage other place bytes
rest_later one other place bytes later r = record {
  long = r.long ∙ ap (λ (n : ℕ). page_end place n - place) (sym later.size);
  bytes_are = λ all agrees. r.bytes_are all (later.agrees all agrees) ∙ ap (λ (n : ℕ). slice_range all place (page_end place n)) (sym later.size);
}

block_later : (one other : FlashAnswers) (number count : ℕ) (block : List ℕ) → IsLater one other → IsBlock one number count block → IsBlock other number count block
block_later one other number count block later b =
    let end : block_end number count one.extent ≡ block_end number count other.extent = ap (block_end number count) (sym later.size) in
    record {
      within = subst (λ (n : ℕ). number * page_size < n) (sym later.size) b.within;
      long = b.long ∙ ap (λ (n : ℕ). n - number * page_size) end;
      bytes_are = λ all agrees. b.bytes_are all (later.agrees all agrees) ∙ ap (slice_range all (number * page_size)) end;
    }

-- pages that were kept before calls, and a block that these read
module _ {P : List FlashCall → Type 0} (first old new : FlashState) (since : IsSince first old) (size : new.extent ≡ old.extent) (called : HasCalled P old new) where
  pub pages_on : (pages : Pages) → ArePages (answers_since first old) pages → ArePages (answers_since first new) pages
  pages_on pages are page c = rest_later (answers_since first old) (answers_since first new) (page.0 * page_size) page.1.items (later_on first old new since size called) (are page c)

  pub block_on : (number count : ℕ) (block : List ℕ) → IsBlock (answers_since old new) number count block → IsBlock (answers_since first new) number count block
  block_on number count block = block_later (answers_since old new) (answers_since first new) number count block (later_from first old new since called)

pub rest_read : (flash : FlashAnswers) (at : ℕ) (page : List ℕ) → at < flash.extent → IsRestOfPage flash at page → IfAgrees flash (λ all. page ≡ slice_range all at (at + length page))
rest_read flash at page within r =
    let inside : at < page_end at flash.extent = within_page at flash.extent within in
    let long : length page ≡ page_end at flash.extent - at = r.long in
    let end : page_end at flash.extent ≡ at + length page = omega (arith, long, inside) in
    λ all agrees. r.bytes_are all agrees ∙ ap (slice_range all at) end

pub rest_goes : (flash : FlashAnswers) (at : ℕ) (page : List ℕ) → at < flash.extent → IsRestOfPage flash at page → 0 < length page
rest_goes flash at page within r =
    let inside : at < page_end at flash.extent = within_page at flash.extent within in
    let long : length page ≡ page_end at flash.extent - at = r.long in
    omega (arith, long, inside)

pub rest_within : (flash : FlashAnswers) (at : ℕ) (page : List ℕ) → at < flash.extent → IsRestOfPage flash at page → at + length page ≤ flash.extent
rest_within flash at page within r =
    let inside : at < page_end at flash.extent = within_page at flash.extent within in
    let long : length page ≡ page_end at flash.extent - at = r.long in
    let most : page_end at flash.extent ≤ flash.extent = end_within at flash.extent in
    omega (arith, long, inside, most)
  where
    end_within : (at extent : ℕ) → page_end at extent ≤ extent
    end_within at extent = grind arith

-- what is kept of a page, as bytes from a place on
pub from_rest : (flash : FlashAnswers) (at : ℕ) (page : List ℕ) → at < flash.extent → IsRestOfPage flash at page → AreBytesFrom flash at page
from_rest flash at page within r = record { some = rest_goes flash at page within r; within = rest_within flash at page within r; bytes_are = rest_read flash at page within r }

-- a block that begins with the page of a place has the place
pub place_in_block : (flash : FlashAnswers) (at count : ℕ) (block : List ℕ) → at < flash.extent → 0 < count → IsBlock flash (at / page_size) count block → at % page_size < length block
place_in_block flash at count block within some b = let long : length block ≡ block_end (at / page_size) count flash.extent - at / page_size * page_size = b.long in omega (arith, long, within, some)

pub from_block : (flash : FlashAnswers) (at count : ℕ) (block lent : List ℕ) → at < flash.extent → 0 < count → IsBlock flash (at / page_size) count block → lent ≡ block
    → AreBytesFrom flash at (take (length lent - at % page_size) (drop (at % page_size) lent))
from_block flash at count block lent within some b e =
    let bytes : List ℕ = drop (at % page_size) block in
    let inside : at % page_size < length block = place_in_block flash at count block within some b in
    let sum : at / page_size * page_size + at % page_size ≡ at = omega arith in
    let long : length block ≡ block_end (at / page_size) count flash.extent - at / page_size * page_size = b.long in
    let left : length bytes ≡ length block - at % page_size = length-drop (at % page_size) block in
    let end : block_end (at / page_size) count flash.extent ≡ at + length bytes = omega (arith, long, left, inside, sum) in
    let from : AreBytesFrom flash at bytes = record {
      some = omega (arith, left, inside);
      within = omega (arith, end);
      bytes_are = λ all agrees. rest_of_range all block (at / page_size * page_size) (at % page_size) at (block_end (at / page_size) count flash.extent) (at + length bytes) sum end (omega arith) (b.bytes_are all agrees);
    } in
    subst (AreBytesFrom flash at) (sym (take_rest lent (at % page_size) ∙ ap (drop (at % page_size)) e)) from

-- nothing was loaded where an error was handed on
pub not_loaded : (result : Result Loaded BootFault) (fault : BootFault) (P : Loaded → Type 0) → IsErr result × IsErrAnd result (λ e. e ≡ fault) → IfOk result P
not_loaded (Ok loaded) fault P h = absurd h.1
not_loaded (Err e) fault P h = tt

-- the bytes of a block from a place in its first page on
pub ends_with_block : (at : ℕ) (block lent : List ℕ) → at % page_size < length block → lent ≡ block → at + length (take (length lent - at % page_size) (drop (at % page_size) lent)) ≡ at / page_size * page_size + length block
ends_with_block at block lent inside e =
    let same : length lent ≡ length block = ap length e in
    let left : length (take (length lent - at % page_size) (drop (at % page_size) lent)) ≡ length lent - at % page_size = ap length (take_rest lent (at % page_size)) ∙ length-drop (at % page_size) lent in
    let sum : at / page_size * page_size + at % page_size ≡ at = omega arith in
    omega (arith, same, left, sum, inside)

pub reaches : (flash : FlashAnswers) (at : ℕ) (block : List ℕ) (loaded : Loaded) → at < flash.extent → IsLoaded flash (at / page_size) block loaded → BlockReaches at block loaded
reaches flash at block Cached within read = tt
reaches flash at block (Read count) within read = place_in_block flash at count block within read.0 read.1

-- bytes of a flash that is no larger than one may be
pub from_limited : (flash : FlashAnswers) (at : ℕ) (bytes : List ℕ) → flash.extent ≤ flash_limit → AreBytesFrom flash at bytes → at + length bytes ≤ flash_limit
from_limited flash at bytes limit from = let within = from.within in omega (arith, limit, within)
