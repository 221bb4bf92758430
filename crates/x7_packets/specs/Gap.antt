-- Gaps in which no sync word begins, with bytes after them, and lists of bytes that ask the same (UG470, sync word).
use Rattle.std.specs.Prelude.{◌≡◌, ◌≤◌, ℕ, List, ◌++◌, length}
use Rattle.x7_words.specs.Word.{AreBytes}
use Rattle.x7_packets.specs.ByHand.{reading_of}
use Rattle.x7_packets.specs.History.{history_of}
use Rattle.x7_packets.specs.Reading.{is_synced}
use Rattle.x7_packets.specs.SyncWord.{sync_bytes}

-- no sync word of a gap and of more bytes after it begins in the gap
abbrev pub NoneBegins : List ℕ → List ℕ → Type 0
NoneBegins gap more = (prefix suffix : List ℕ) → gap ++ more ≡ prefix ++ (sync_bytes ++ suffix) → length gap ≤ length prefix

-- two lists of bytes of one length ask the same at the same places, and both end in a session or neither does
pub record AreAlike (one other : List ℕ) : Type 0 where
  pub history : history_of one ≡ history_of other
  pub count : length one ≡ length other
  pub synced : is_synced (reading_of one).place ≡ is_synced (reading_of other).place

-- two gaps of one length, after each of which `more` stands, and no sync word begins in either
pub record AreGaps (one other more : List ℕ) : Type 0 where
  pub count : length one ≡ length other
  pub fits : AreBytes (one ++ more) × AreBytes (other ++ more)
  pub none : NoneBegins one more × NoneBegins other more
