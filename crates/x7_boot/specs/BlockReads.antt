-- The blocks of pages that a boot reads, and the pages that it keeps: no page is read twice while no more were read
-- than are kept (this project's choice).
use Rattle.std.specs.Prelude.{◌≡◌, ℕ, zero, suc, ◌+◌, ◌*◌, ◌/◌, ◌<◌, ◌≤◌, ◌⊎◌, List, [], ◌∷◌, ◌++◌, length, take, cond, nat_eq, Contains, Vec, Result, Ok, Err}
use Rattle.std.specs.Map.{keys_of}
use Rattle.std.specs.declared.alloc.Global.{Global}
use Rattle.lru.specs.LruCache.{LruCache}
use Rattle.x7_words.specs.declared.flash_call.FlashCall.{FlashCall}
use Rattle.x7_words.specs.declared.flash_call.FlashCall.TheVariants as call
use Rattle.x7_boot.specs.Pages.{block_end, most_pages_at_once, page_size}
use Rattle.x7_boot.specs.Reads.{FlashAnswers}
use Rattle.x7_boot.specs.declared.cache.Loaded.{Loaded}
use Rattle.x7_boot.specs.declared.cache.Loaded.TheVariants.{Cached, Read}
use Rattle.x7_boot.specs.declared.fault.BootFault.{BootFault}
use Rattle.x7_boot.specs.declared.fault.BootFault.TheVariants.{Failed, NoMemory, TooLarge}

-- ---- which pages are read

-- the most pages that are kept
abbrev pub kept_pages : ℕ
kept_pages = 64

-- the numbers of `count` pages from page `number` on
abbrev pub numbers_from : ℕ → ℕ → List ℕ
numbers_from number zero = []
numbers_from number (suc count) = number ∷ numbers_from (suc number) count

-- how many pages so many bytes are, of which the last may have fewer
abbrev pub page_count : ℕ → ℕ
page_count bytes = (bytes + 4095) / page_size

-- the numbers of the pages that a call read: none, where it failed
abbrev pub pages_of : FlashCall → List ℕ
pages_of (call.Read place bytes) = numbers_from (place / page_size) (page_count (length bytes))
pages_of other = []

-- the numbers of the pages that calls read, in their order
abbrev pub pages_read : List FlashCall → List ℕ
pages_read [] = []
pages_read (call ∷ calls) = pages_of call ++ pages_read calls

-- none of `count` pages from page `number` on is among these
abbrev pub AreAbsent : ℕ → ℕ → List ℕ → Type 0
AreAbsent number count numbers = (page : ℕ) → number ≤ page → page < number + count → Contains numbers page → ⊥

-- a call reads all from one place to another; the read may have failed
abbrev pub ReadsRange : ℕ → ℕ → FlashCall → Type 0
ReadsRange from to (call.Read place bytes) = (place ≡ from) × (place + length bytes ≡ to)
ReadsRange from to (call.ReadFailed place count) = (place ≡ from) × (place + count ≡ to)
ReadsRange from to other = ⊥

-- A call reads a block of whole pages after those of `seen` were read: one at least, sixteen at most, and none past the
-- flash's end, which may cut the last one off. It has fewer than sixteen only up to that end, or up to a page that was
-- read before. Where no more pages were read than are kept, none of the block was.
pub record ReadsBlock (extent : ℕ) (seen : List ℕ) (call : FlashCall) : Type 0 where
  pub page : ℕ
  pub count : ℕ
  pub some : 0 < count
  pub most : count ≤ most_pages_at_once
  pub within : (page + count) * page_size < extent + page_size
  pub range : ReadsRange (page * page_size) (block_end page count extent) call
  pub ends : (count ≡ most_pages_at_once) ⊎ ((extent ≤ (page + count) * page_size) ⊎ Contains seen (page + count))
  pub once : length seen ≤ kept_pages → AreAbsent page count seen

-- each of the calls reads a block, after the pages of `seen` and those of the calls before it
abbrev pub ReadsBlocks : ℕ → List ℕ → List FlashCall → Type 0
ReadsBlocks extent seen [] = Unit {0}
ReadsBlocks extent seen (call ∷ calls) = ReadsBlock extent seen call × ReadsBlocks extent (seen ++ pages_of call) calls

-- each call that a flash answered reads a block
abbrev pub HasReadBlocks : FlashAnswers → Type 0
HasReadBlocks flash = ReadsBlocks flash.extent [] flash.calls

-- ---- whether a read failed

-- a call is a read, and it succeeded
abbrev pub IsGoodRead : FlashCall → Type 0
IsGoodRead (call.Read place bytes) = Unit {0}
IsGoodRead other = ⊥

-- each of the calls is a read that succeeded
abbrev pub AreGoodReads : List FlashCall → Type 0
AreGoodReads [] = Unit {0}
AreGoodReads (call ∷ calls) = IsGoodRead call × AreGoodReads calls

-- the last of the calls is a read that failed, and those before it are reads that succeeded
pub record LastFailed (calls : List FlashCall) : Type 0 where
  pub before : List FlashCall
  pub place : ℕ
  pub count : ℕ
  pub are : calls ≡ before ++ call.ReadFailed place count ∷ []
  pub good : AreGoodReads before

-- the calls of a boot, or up to some moment of one, by how it ended: each is a read that succeeded, but for the last
-- where the flash failed
abbrev pub EndsBy : {A : Type 0} → Result A BootFault → List FlashCall → Type 0
EndsBy (Ok a) calls = AreGoodReads calls
EndsBy (Err Failed) calls = LastFailed calls
EndsBy (Err NoMemory) calls = AreGoodReads calls
EndsBy (Err TooLarge) calls = calls ≡ []

-- ---- which pages are kept

-- pages that are kept, each under its number
abbrev pub PageStore : Type 0
PageStore = LruCache ℕ (Vec ℕ Global)

-- the numbers of the pages that are kept, the one used last first
abbrev pub numbers_of : PageStore → List ℕ
numbers_of store = keys_of store.entries

-- numbers without the first that is this one
abbrev pub without : ℕ → List ℕ → List ℕ
without number [] = []
without number (first ∷ more) = cond (nat_eq number first) more (first ∷ without number more)

-- what loading page `number` made of the numbers of the pages that are kept: a page that was there comes first; of a
-- block that was read none was there, it comes first, and those used longest ago go for which there is no room
abbrev pub LoadsInto : ℕ → Loaded → List ℕ → List ℕ → Type 0
LoadsInto number Cached old new = Contains old number × (new ≡ number ∷ without number old)
LoadsInto number (Read count) old new = AreAbsent number count old × (new ≡ take kept_pages (numbers_from number count ++ old))

-- `count` pages from page `number` on were taken into a store that had none of them: they come first, in their order,
-- and of the others those used last stay for which there is room
pub record TakesPages (number count : ℕ) (old new : PageStore) : Type 0 where
  pub room : new.cap ≡ old.cap
  pub numbers : numbers_of new ≡ take old.cap (numbers_from number count ++ numbers_of old)

-- the pages of these numbers are kept, of those that were read: while no more were read than are kept, all of them
pub record KeepsPagesRead (seen numbers : List ℕ) : Type 0 where
  pub fits : length numbers ≤ kept_pages
  pub few : length numbers ≤ length seen
  pub read : (page : ℕ) → Contains numbers page → Contains seen page
  pub all : length seen ≤ kept_pages → (page : ℕ) → Contains seen page → Contains numbers page

-- what a flash answered so far are reads of blocks that succeeded, and the store keeps pages of them
pub record HasRead (flash : FlashAnswers) (store : PageStore) : Type 0 where
  pub room : store.cap ≡ kept_pages
  pub good : AreGoodReads flash.calls
  pub blocks : HasReadBlocks flash
  pub kept : KeepsPagesRead (pages_read flash.calls) (numbers_of store)
