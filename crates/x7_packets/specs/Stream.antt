-- Packets over an input: what a reader of packets stands for, and what each run that it lends says (this project's
-- choice).
use Rattle.std.specs.Prelude.{◌≡◌, ℕ, ◌+◌, ◌<◌, ◌≤◌, ◌↔◌, List, [], ◌++◌, length, take, drop, Bool, true, false, if◌then◌else◌, Option, Result, Ok, Err, OnErr, OnOk, ◌⊎◌}
use Rattle.std.specs.Borrow.{Bor, Fml, MutBor}
use Rattle.std.specs.Io.BufRead.{Rests}
use Rattle.x7_words.specs.Input.{AsksForNoInput, AtEnd, InputsFail, InputsState, InputsStay, NoInputFault, TakenBy, taken_bytes_limit}
use Rattle.x7_words.specs.declared.input.Failed.{Failed}
use Rattle.x7_packets.specs.Reading.{Place, Searching, Synced, EndedSession, IsReading, tail_of}
use Rattle.x7_packets.specs.Cutter.{CompletesNone, CutterStandsFor, CutsRun, IsLent, IsNeed, SkipsAll}
use Rattle.x7_packets.specs.declared.cutter.Cut.{Cut}
use Rattle.x7_packets.specs.declared.cutter.Cut.TheVariants as cut
use Rattle.x7_packets.specs.Mode.{Mode}
use Rattle.x7_packets.specs.FoundRun.{FoundRun}
use Rattle.x7_packets.specs.declared.stream.Run.{Run}
use Rattle.x7_packets.specs.declared.stream.Run.TheVariants as run
use Rattle.x7_packets.specs.contracts.stream.Packets.{the_row}
use Rattle.x7_packets.specs.PacketsState.{PacketsState, piece_size}
use Rattle.x7_packets.specs.Run.{IsNext, cut_of, is_last, bytes_of_run}

-- a place whose bytes of no whole word are these instead, where it is in a session; a gap stays as it is
abbrev pub with_tail : List ℕ → Place → Place
with_tail tail (Searching gap) = Searching gap
with_tail tail (Synced gap packets old) = Synced gap packets tail

-- the bytes that the cutter took and that no run gave yet
abbrev pub not_given : PacketsState → List ℕ
not_given p = if p.is_done then [] else p.cutter.kept

-- The reader stands for these bytes: those that its runs gave (`given`), those that its cutter keeps and no run gave,
-- and those in the buffer that the cutter hasn't taken.
pub record PacketsStandFor (p : PacketsState) (bytes given : List ℕ) : Type 0 where
  pub sessions : List EndedSession
  pub place : Place
  pub split : bytes ≡ given ++ (not_given p ++ p.left)
  pub reading : IsReading given sessions place
  pub tail : tail_of place ≡ (if p.is_done then p.cutter.kept else [])
  pub cutter : CutterStandsFor p.cutter (given ++ not_given p) sessions (with_tail p.cutter.kept place)
  pub kept : p.cutter.kept ≡ tail_of (with_tail p.cutter.kept place)
  pub all : p.is_done ≡ true → (p.left ≡ []) × (p.cutter.mode ≡ Mode.SyncFound → ⊥)
  pub count : p.taken ≡ length bytes

-- the run that was found is the one that the cutter gave, whatever bytes that lends
abbrev pub IsFoundRun : FoundRun → Cut → Type 0
IsFoundRun FoundRun.Skip c = (bytes : Bor (List ℕ)) × (c ≡ cut.Skip bytes)
IsFoundRun FoundRun.Sync c = c ≡ cut.Sync
IsFoundRun (FoundRun.Head w step) c = c ≡ cut.Head w step
IsFoundRun (FoundRun.Word register w) c = c ≡ cut.Word register w
IsFoundRun (FoundRun.Body register) c = (bytes : Bor (List ℕ)) × (c ≡ cut.Body register bytes)
IsFoundRun f c = ⊥

-- the run is the one that was found, with its bytes in the buffer, or for the tail with those that the cutter keeps
abbrev pub IsRunOf : FoundRun → List ℕ → List ℕ → Run → Type 0
IsRunOf FoundRun.Skip bytes kept r = (lent : Bor (List ℕ)) × (r ≡ run.Skip lent) × (lent.now ≡ bytes)
IsRunOf FoundRun.Sync bytes kept r = r ≡ run.Sync
IsRunOf (FoundRun.Head w step) bytes kept r = r ≡ run.Head w step
IsRunOf (FoundRun.Word register w) bytes kept r = r ≡ run.Word register w
IsRunOf (FoundRun.Body register) bytes kept r = (lent : Bor (List ℕ)) × (r ≡ run.Body register lent) × (lent.now ≡ bytes)
IsRunOf FoundRun.Tail bytes kept r = (lent : Bor (List ℕ)) × (r ≡ run.Tail lent) × (lent.now ≡ kept)
IsRunOf FoundRun.End bytes kept r = r ≡ run.End

-- the run is the last one that was found
abbrev pub IsLastFound : PacketsState → Run → Type 0
IsLastFound p r = IsRunOf p.found p.bytes p.cutter.kept r

-- a run was cut of the bytes that are left, and is what was found; or the cutter needs more bytes
abbrev pub IsRunOrNeed : Bool → FoundRun → Cut → Type 0
IsRunOrNeed true f c = IsFoundRun f c
IsRunOrNeed false f c = IsNeed c

-- a run is ready: the bytes that are left complete one, with those that the cutter keeps
abbrev pub RunIsReady : PacketsState → Type 0
RunIsReady p = CompletesNone p.cutter (length p.left) → ⊥

-- a reader before and after one call of the cutter on the bytes that are left, which found a run or needs more bytes
pub record CutsNext (old new : PacketsState) (found_run : Bool) : Type 0 where
  pub run : Cut
  pub count : ℕ
  pub cuts : CutsRun old.cutter new.cutter old.left count run
  pub kept : (bytes : List ℕ) (sessions : List EndedSession) (place : Place) → CutterStandsFor new.cutter bytes sessions place → new.cutter.kept ≡ tail_of place
  pub few : length new.cutter.kept ≤ 3
  pub left : new.left ≡ drop count old.left
  pub bytes : new.bytes ≡ take count old.left
  pub is : IsRunOrNeed found_run new.found run
  pub done : new.is_done ≡ old.is_done
  pub failed : new.has_failed ≡ old.has_failed
  pub taken : new.taken ≡ old.taken

-- a reader whose bytes were all taken, with a piece more
abbrev pub filled : PacketsState → List ℕ → PacketsState
filled p piece = record p { left = piece; bytes = []; taken = p.taken + length piece }

-- one read: a piece of some bytes, or the end of the input
pub record ReadsPiece (old new : PacketsState) (before after : InputsState) (gave_bytes : Bool) : Type 0 where
  pub piece : List ℕ
  pub taken : TakenBy after.contents before.rest piece after.rest
  pub is : new ≡ filled old piece
  pub most : length piece ≤ piece_size
  pub some : gave_bytes ≡ true → 0 < length piece
  pub end : gave_bytes ≡ false → (piece ≡ []) × AtEnd after.rest

-- of two modes of a cutter: in both, or in neither, a sync word was found that is still to be given
abbrev pub SameSyncFound : Mode → Mode → Type 0
SameSyncFound old new = (old ≡ Mode.SyncFound) ↔ (new ≡ Mode.SyncFound)

-- the reader took more bytes of the input, and gave none
pub record TookBytes (old new : PacketsState) (more : List ℕ) : Type 0 where
  pub count : new.taken ≡ old.taken + length more
  pub stands : (bytes given : List ℕ) → PacketsStandFor old bytes given
      → PacketsStandFor new (bytes ++ more) given × SameSyncFound old.cutter.mode new.cutter.mode

-- Once more bytes were read (`at`), those that the cutter keeps and those left in the buffer are the run's bytes and
-- then those left after it. Of a payload all its whole words in the buffer are lent at once (one of CMD) where the
-- cutter keeps no byte, and else one word comes by itself. Of a gap all bytes in the buffer are lent, or those up to
-- the end of the sync word.
pub record LendsRun (old new : PacketsState) (more : List ℕ) (r : Run) : Type 0 where
  pub at : PacketsState
  pub reads : TookBytes old at more
  pub bytes : at.cutter.kept ++ at.left ≡ bytes_of_run r ++ new.left
  pub lent : IsLent at.cutter (length at.left) (cut_of r)
  pub skips : SkipsAll new.cutter (length at.left) (cut_of r)

-- the reader took more bytes of the input, and gave those of a run
pub record ReadsAndGives (old new : PacketsState) (more : List ℕ) (r : Run) : Type 0 where
  pub count : new.taken ≡ old.taken + length more
  pub stands : (bytes given : List ℕ) → PacketsStandFor old bytes given
      → PacketsStandFor new (bytes ++ more) (given ++ bytes_of_run r) × IsNext given old.cutter.mode r new.cutter.mode
  pub all : is_last r ≡ true → (bytes given : List ℕ) → PacketsStandFor old bytes given → given ++ bytes_of_run r ≡ bytes ++ more
  pub lends : is_last r ≡ false → (bytes given : List ℕ) → PacketsStandFor old bytes given → LendsRun old new more r
  pub done : new.is_done ≡ is_last r
  pub good : new.has_failed ≡ false

-- The call gave a run: the tail and the end only where the input's rest, if it is known, is empty. The bytes that it
-- took of the input are at most three that complete no run, and then one piece.
pub record GivesRun (old new : PacketsState) (before after : InputsState) (r : Run) : Type 0 where
  pub more : List ℕ
  pub taken : TakenBy after.contents before.rest more after.rest
  pub most : length more ≤ 3 + piece_size
  pub tells : ReadsAndGives old new more r
  pub end : is_last r ≡ true → AtEnd after.rest

-- a call may come: the input is selected unless an earlier call failed, its rest, if it is known, is empty once the
-- tail or the end was given, and the count of bytes taken can still grow
pub record MayCall (p : PacketsState) (input : InputsState) : Type 0 where
  pub selected : p.has_failed ≡ false → input.selected ≡ true
  pub end : p.is_done ≡ true → AtEnd input.rest
  pub count : p.taken ≤ taken_bytes_limit

-- What holds of the inputs and of a call's result: every name keeps its bytes, no input is asked for, and at most one
-- read gave nothing. After a run an input is still selected, and the call counted no fault. The call fails only
-- where a read failed in it or an earlier call failed; after an earlier failure it always fails.
pub record IsCallResult {T : Type 0} (p : PacketsState) (old new : InputsState) (result : Result T Failed) : Type 0 where
  pub failed : OnErr result ((p.has_failed ≡ true) ⊎ InputsFail old new)
  pub no_fault : OnOk result (NoInputFault old new)
  pub selected : OnOk result (new.selected ≡ true)
  pub stays : p.has_failed ≡ true → OnOk result ⊥
  pub asks : AsksForNoInput old new
  pub inputs : InputsStay old new

-- The call failed: the bytes that it took of the input before that still count, at most three, and no other byte does.
-- What the input gave after them (`later`) is what was left of it before the read that failed.
pub record GivesUp (old new : PacketsState) (before after : InputsState) : Type 0 where
  pub more : List ℕ
  pub later : Option (List ℕ)
  pub taken : TakenBy after.contents before.rest more later
  pub most : length more ≤ 3
  pub reads : TookBytes old new more
  pub failed : new.has_failed ≡ true

-- a call gave a run, or failed
abbrev pub EndsCall : PacketsState → PacketsState → InputsState → InputsState → Result Run Failed → Type 0
EndsCall old new before after (Ok r) = GivesRun old new before after r
EndsCall old new before after (Err e) = GivesUp old new before after

-- once the run that it lends is given back, the reader is one after a call with this result
abbrev pub EndsNextCall : MutBor PacketsState → InputsState → InputsState → Result Run Failed → Fml
EndsNextCall p before after result = Rests the_row p (λ new. EndsCall p.now new before after result)
