-- Pages of a flash, blocks of pages that are read at once, and the faults of such reads (this project's choice).
use Rattle.std.specs.Prelude.{◌≡◌, ℕ, ◌+◌, ◌-◌, ◌*◌, ◌/◌, ◌%◌, ◌<◌, ◌≤◌, min, List, [], ◌∷◌, length, slice_range, IsSome, Contains, Vec, nat_eq, Result, Ok, Err, IfOk}
use Rattle.std.specs.declared.alloc.Global.{Global}
use Rattle.std.specs.Map.{lookup}
use Rattle.x7_words.specs.Count.{HasRisen}
use Rattle.x7_words.specs.declared.flash_call.FlashCall.{FlashCall}
use Rattle.x7_words.specs.declared.flash_call.FlashCall.TheVariants as call
use Rattle.x7_boot.specs.Reads.{FlashAnswers, IfAgrees}
use Rattle.x7_boot.specs.declared.fault.BootFault.{BootFault}
use Rattle.x7_boot.specs.declared.fault.BootFault.TheVariants.{Failed, NoMemory, TooLarge}
use Rattle.x7_boot.specs.declared.cache.Loaded.{Loaded}
use Rattle.x7_boot.specs.declared.cache.Loaded.TheVariants.{Cached, Read}

-- the count of a flash's faults before and after reads, by how these ended: it has risen where one failed, and else no
-- fault was counted; reads find no flash too large
abbrev pub FaultsCounted : {A : Type 0} → ℕ → ℕ → Result A BootFault → Type 0
FaultsCounted old new (Ok read) = new ≡ old
FaultsCounted old new (Err Failed) = HasRisen old new
FaultsCounted old new (Err NoMemory) = new ≡ old
FaultsCounted old new (Err TooLarge) = ⊥

-- how many bytes a page has; a flash's last one may have fewer, and pages are numbered from 0
abbrev pub page_size : ℕ
page_size = 4096

-- the most pages that are read at once
abbrev pub most_pages_at_once : ℕ
most_pages_at_once = 16

-- where the page ends in which a place lies: where the next page begins, or at the flash's end
abbrev pub page_end : ℕ → ℕ → ℕ
page_end place extent = min ((place / page_size + 1) * page_size) extent

-- `bytes` are those of a flash from the place `place` to the end of its page
pub record IsRestOfPage (flash : FlashAnswers) (place : ℕ) (bytes : List ℕ) : Type 0 where
  pub long : length bytes ≡ page_end place flash.extent - place
  pub bytes_are : IfAgrees flash (λ all. bytes ≡ slice_range all place (page_end place flash.extent))

-- where `count` pages from page `number` on end, or the flash where it ends before
abbrev pub block_end : ℕ → ℕ → ℕ → ℕ
block_end number count extent = min ((number + count) * page_size) extent

-- `bytes` are those of `count` pages of a flash from page `number` on, as far as the flash goes
pub record IsBlock (flash : FlashAnswers) (number count : ℕ) (bytes : List ℕ) : Type 0 where
  pub within : number * page_size < flash.extent
  pub long : length bytes ≡ block_end number count flash.extent - number * page_size
  pub bytes_are : IfAgrees flash (λ all. bytes ≡ slice_range all (number * page_size) (block_end number count flash.extent))

-- what loading page `number` came to: where the page was there, nothing is said; else it is the first of `count` pages,
-- one at least, that were read into `block`
abbrev pub IsLoaded : FlashAnswers → ℕ → List ℕ → Loaded → Type 0
IsLoaded flash number block Cached = Unit {0}
IsLoaded flash number block (Read count) = (0 < count) × IsBlock flash number count block

-- the block, where one was read, is long enough to have the place `place`, which lies in its first page
abbrev pub BlockReaches : ℕ → List ℕ → Loaded → Type 0
BlockReaches place block Cached = Unit {0}
BlockReaches place block (Read count) = place % page_size < length block

-- some bytes are read at once: one at least, and at most as many as the most pages that are read at once have
abbrev pub IsReadLength : ℕ → Type 0
IsReadLength bytes = (0 < bytes) × (bytes ≤ most_pages_at_once * page_size)

-- a call reads some bytes from where page `number` begins; the read may have failed
abbrev pub ReadsFromPage : ℕ → FlashCall → Type 0
ReadsFromPage number (call.Read place bytes) = (place ≡ number * page_size) × IsReadLength (length bytes)
ReadsFromPage number (call.ReadFailed place count) = (place ≡ number * page_size) × IsReadLength count
ReadsFromPage number other = ⊥

-- one call at most, which reads from where page `number` begins
abbrev pub ReadsOnce : ℕ → List FlashCall → Type 0
ReadsOnce number [] = Unit {0}
ReadsOnce number (call ∷ []) = ReadsFromPage number call
ReadsOnce number (call ∷ next ∷ more) = ⊥

-- the place after the last byte that a call read, or was to read
abbrev pub read_end : FlashCall → ℕ
read_end (call.Read place bytes) = place + length bytes
read_end (call.ReadFailed place count) = place + count
read_end other = 0

-- what loading page `number` called for, by its answer: nothing where the page was there, and else a read that gave the
-- block
abbrev pub LoadsBy : ℕ → List ℕ → Loaded → List FlashCall → Type 0
LoadsBy number block Cached calls = calls ≡ []
LoadsBy number block (Read count) calls = calls ≡ call.Read (number * page_size) block ∷ []

-- a read from a place on was called for, by how it ended: it gave the block, or failed for as many bytes; or there was
-- no memory for the block, and no call
abbrev pub ReadBy : {A : Type 0} → ℕ → List ℕ → Result A BootFault → List FlashCall → Type 0
ReadBy place block (Ok a) calls = calls ≡ call.Read place block ∷ []
ReadBy place block (Err Failed) calls = calls ≡ call.ReadFailed place (length block) ∷ []
ReadBy place block (Err NoMemory) calls = calls ≡ []
ReadBy place block (Err TooLarge) calls = ⊥

-- reading a block from page `number` on called for one read at most, by how it ended
abbrev pub BlockCalls : {A : Type 0} → ℕ → List ℕ → Result A BootFault → List FlashCall → Type 0
BlockCalls number block result calls = ReadsOnce number calls × ReadBy (number * page_size) block result calls

-- loading page `number` called for one read at most, and where it succeeded, for what its answer says
abbrev pub LoadCalls : ℕ → List ℕ → Result Loaded BootFault → List FlashCall → Type 0
LoadCalls number block result calls = ReadsOnce number calls × IfOk result (λ loaded. LoadsBy number block loaded calls)

-- each call reads from where a page begins for which `P` holds: not before the place `from`, and after all that the
-- calls before it read; the last one reads up to the place `to` at most
abbrev pub ReadsPages : (ℕ → Type 0) → ℕ → List FlashCall → ℕ → Type 0
ReadsPages P from [] to = from ≤ to
ReadsPages P from (call ∷ calls) to = (page : ℕ) × (from ≤ page * page_size) × ReadsFromPage page call × P page × ReadsPages P (read_end call) calls to

-- the bytes from the place `place` on end where the block does, where one was read for them
abbrev pub EndsWithBlock : ℕ → List ℕ → Loaded → List ℕ → Type 0
EndsWithBlock place block Cached bytes = Unit {0}
EndsWithBlock place block (Read count) bytes = place + length bytes ≡ place / page_size * page_size + length block

-- `bytes` are those of a flash from the place `place` on, one at least
pub record AreBytesFrom (flash : FlashAnswers) (place : ℕ) (bytes : List ℕ) : Type 0 where
  pub some : 0 < length bytes
  pub within : place + length bytes ≤ flash.extent
  pub bytes_are : IfAgrees flash (λ all. bytes ≡ slice_range all place (place + length bytes))

-- the pages of a cache, each under its number
abbrev pub Pages : Type 0
Pages = List (ℕ × Vec ℕ Global)

-- each of the pages is the whole page of its number
abbrev pub ArePages : FlashAnswers → Pages → Type 0
ArePages flash pages = (page : ℕ × Vec ℕ Global) → Contains pages page → IsRestOfPage flash (page.0 * page_size) page.1.items

-- of whatever flash the block is `count` pages from page `number` on: where the old pages are the flash's, the new ones
-- are too
abbrev pub KeepsPages : List ℕ → ℕ → ℕ → Pages → Pages → Type 0
KeepsPages block number count old new = (flash : FlashAnswers) → IsBlock flash number count block → ArePages flash old → ArePages flash new

-- of whatever flash that goes past the place `place`, of which these are pages, and the block the one that was loaded:
-- `bytes` are the flash's from that place on
abbrev pub HoldsFrom : Pages → List ℕ → ℕ → Loaded → List ℕ → Type 0
HoldsFrom pages block place loaded bytes =
    (flash : FlashAnswers) → place < flash.extent → ArePages flash pages → IsLoaded flash (place / page_size) block loaded → AreBytesFrom flash place bytes

-- the page of a place of a flash is among pages of it
pub record HasPage (pages : Pages) (place : ℕ) : Type 0 where
  pub flash : FlashAnswers
  pub are : ArePages flash pages
  pub within : place < flash.extent
  pub there : IsSome (lookup (nat_eq (place / page_size)) pages)
