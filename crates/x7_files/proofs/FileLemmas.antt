-- Lemmas on the calls of a file: reads after reads, writes after writes, and a last one.
use Rattle.std.proofs.Common.{◌≡◌, ◌<◌, ◌≤◌, ℕ, ◌+◌, ◌-◌, List, [], ◌∷◌, ◌++◌, length, take, drop, drop_at, length-take-le, le_refl, subst, Option, None, Some, Result, Ok, Err, MatchResult, inr, refl, sym, ap, ◌∙◌, append_assoc, append-nil}
use Rattle.std.proofs.Math.Seq.{take-add, take-append-le}
use Rattle.std.proofs.lemmas.Slice.{take-put_mid_below}
use borrow.Rule.Slice.PartMut.{post_of, put_mid}
use Rattle.std.proofs.KnownBytes.{Appends-nil, Appends-trans, Consumes-nil, Consumes-trans}
use Rattle.std.specs.Io.KnownBytes.{Appends, Consumes, Keeps}
use Rattle.std.specs.declared.io.ErrorKind.{ErrorKind}
use Rattle.std.specs.declared.io.ErrorKind.TheVariants.{Interrupted}
use Rattle.x7_words.specs.declared.input.Failed.{Failed as FailedCall}
use Rattle.x7_files.specs.FileCalls.{AddsCalls, ReadsGive, StopsAtLast, StopsReading, StopsWriting, WritesTake}
use Rattle.x7_files.specs.File.{GoesTo, KnowsOfFile, ReadsBytes, ReadsBytesAndStops, ReadsFrom, ReadsShort, WritesBytes, WritesBytesAndStops, WritesFrom, WritesShort}
use Rattle.x7_files.specs.declared.file.CalledFile.{CalledFile}
use Rattle.x7_files.specs.declared.file_call.FileCall.{FileCall}
use Rattle.x7_files.specs.declared.file_call.FileCall.TheVariants.{Sought, SeekFailed, Gave, ReadFailed, Took, WriteFailed, Kept, KeepFailed}

-- ---- known bytes

-- known bytes that stay are consumed by none
consumes_none : (a b : Option (List ℕ)) → Keeps a b → Consumes a b []
consumes_none None b k = tt
consumes_none (Some xs) None k = absurd k
consumes_none (Some xs) (Some ys) k = sym k

-- known bytes that stay grow by none
appends_none : (a b : Option (List ℕ)) → Keeps a b → Appends a b []
appends_none None b k = tt
appends_none (Some xs) None k = absurd k
appends_none (Some xs) (Some ys) k = k ∙ sym (append-nil xs)

-- what stands up to the place n after a part that was written anew
front_put : (at count n : ℕ) (all part : List ℕ) → at ≤ length all → n ≤ length part → take (at + n) (put_mid at count all part) ≡ take at all ++ take n part
front_put at count n all part within fits =
    let after = post_of at count all in
    take-add at n (put_mid at count all part)
    ∙ ap (λ l. l ++ take n (drop at (put_mid at count all part))) (take-put_mid_below at count all part at (le_refl at) within)
    ∙ ap (λ l. take at all ++ take n l) (drop_at (take at all) (part ++ after) at (length-take-le at all within))
    ∙ ap (λ l. take at all ++ l) (take-append-le n part after fits)

-- ---- calls added to calls

adds_more : (First Second All : List FileCall → Type 0) (old between new : List FileCall) → ((xs ys : List FileCall) → First xs → Second ys → All (xs ++ ys))
    → AddsCalls First old between → AddsCalls Second between new → AddsCalls All old new
adds_more First Second All old between new joins a b = record {
  calls = a.calls ++ b.calls;
  added = b.added ∙ ap (λ c. c ++ b.calls) a.added ∙ append_assoc old a.calls b.calls;
  are = joins a.calls b.calls a.are b.are;
}

-- what goes on goes on to a last call
stops_more : (First Second All : List FileCall → Type 0) (Stops : FileCall → Type 0) → ((xs ys : List FileCall) → First xs → Second ys → All (xs ++ ys))
    → (xs ys : List FileCall) → First xs → StopsAtLast Second Stops ys → StopsAtLast All Stops (xs ++ ys)
stops_more First Second All Stops joins xs ys f s = record {
  before = xs ++ s.before;
  last = s.last;
  are = ap (λ c. xs ++ c) s.are ∙ sym (append_assoc xs s.before (s.last ∷ []));
  went = joins xs s.before f s.went;
  stops = s.stops;
}

-- ---- reads

reads_more : (first second : List ℕ) (xs ys : List FileCall) → ReadsGive first xs → ReadsGive second ys → ReadsGive (first ++ second) (xs ++ ys)
reads_more first second [] ys f s = subst (λ (bytes : List ℕ). ReadsGive (bytes ++ second) ys) (sym f) s
reads_more first second (Gave some ∷ xs) ys (some_given, (rest, are, f)) s =
    (some_given, (rest ++ second, ap (λ b. b ++ second) are ∙ append_assoc some rest second, reads_more rest second xs ys f s))
reads_more first second (ReadFailed kind ∷ xs) ys (interrupted, f) s = (interrupted, reads_more first second xs ys f s)
reads_more first second (Sought place ∷ xs) ys f s = absurd f
reads_more first second (SeekFailed place ∷ xs) ys f s = absurd f
reads_more first second (Took bytes ∷ xs) ys f s = absurd f
reads_more first second (WriteFailed kind ∷ xs) ys f s = absurd f
reads_more first second (Kept ∷ xs) ys f s = absurd f
reads_more first second (KeepFailed ∷ xs) ys f s = absurd f

module _ {F : Type 0} (remaining : F → Option (List ℕ)) where
  -- reads gave bytes, and then others gave more
  pub reading_more : (first second : List ℕ) (old between new : CalledFile F) → ReadsBytes remaining first old between → ReadsBytes remaining second between new → ReadsBytes remaining (first ++ second) old new
  reading_more first second old between new a b =
      (Consumes-trans _ _ _ first second a.0 b.0, adds_more (ReadsGive first) (ReadsGive second) (ReadsGive (first ++ second)) _ _ _ (reads_more first second) a.1 b.1)

  -- reads gave bytes, and then others gave more, and a last one none
  pub reading_stops : (first second : List ℕ) (old between new : CalledFile F) → ReadsBytes remaining first old between → ReadsBytesAndStops remaining second between new → ReadsBytesAndStops remaining (first ++ second) old new
  reading_stops first second old between new a b = (
    Consumes-trans _ _ _ first second a.0 b.0,
    adds_more (ReadsGive first) (StopsAtLast (ReadsGive second) StopsReading) (StopsAtLast (ReadsGive (first ++ second)) StopsReading) _ _ _
        (stops_more (ReadsGive first) (ReadsGive second) (ReadsGive (first ++ second)) StopsReading (reads_more first second)) a.1 b.1,
  )

  -- reads gave bytes, and then a last one none
  pub reading_stopped : (bytes : List ℕ) (old between new : CalledFile F) → ReadsBytes remaining bytes old between → ReadsBytesAndStops remaining [] between new → ReadsBytesAndStops remaining bytes old new
  reading_stopped bytes old between new a b =
      subst (λ (all : List ℕ). ReadsBytesAndStops remaining all old new) (append-nil bytes) (reading_stops bytes [] old between new a b)

  -- reads filled the buffer up to a place, and one more gave bytes to the part from there on
  pub reading_part : (at n : ℕ) (buffer part : List ℕ) (old between new : CalledFile F) → at ≤ length buffer → n ≤ length part → ReadsBytes remaining (take at buffer) old between → ReadsBytes remaining (take n part) between new
      → ReadsBytes remaining (take (at + n) (put_mid at (length buffer - at) buffer part)) old new
  reading_part at n buffer part old between new within fits a b =
      subst (λ (bytes : List ℕ). ReadsBytes remaining bytes old new) (sym (front_put at (length buffer - at) n buffer part within fits)) (reading_more (take at buffer) (take n part) old between new a b)

  -- no read was made
  pub reading_none : (file : CalledFile F) → ReadsBytes remaining [] file file
  reading_none file = (Consumes-nil _, record { calls = []; added = sym (append-nil file.calls); are = refl })

  -- one read gave these bytes
  pub reading_one : (bytes : List ℕ) (old new : CalledFile F) → 0 < length bytes → Consumes (remaining old.file) (remaining new.file) bytes → new.calls ≡ old.calls ++ Gave bytes ∷ [] → ReadsBytes remaining bytes old new
  reading_one bytes old new some c e = (c, record { calls = Gave bytes ∷ []; added = e; are = (some, ([], sym (append-nil bytes), refl)) })

  -- a signal interrupted one read
  pub reading_interrupted : (kind : ErrorKind) (old new : CalledFile F) → kind ≡ Interrupted → Keeps (remaining old.file) (remaining new.file) → new.calls ≡ old.calls ++ ReadFailed kind ∷ [] → ReadsBytes remaining [] old new
  reading_interrupted kind old new interrupted k e = (consumes_none _ _ k, record { calls = ReadFailed kind ∷ []; added = e; are = (interrupted, refl) })

  -- one read stopped
  pub reading_last : (last : FileCall) (old new : CalledFile F) → StopsReading last → Consumes (remaining old.file) (remaining new.file) [] → new.calls ≡ old.calls ++ last ∷ [] → ReadsBytesAndStops remaining [] old new
  reading_last last old new stops c e = (c, record { calls = last ∷ []; added = e; are = record { before = []; last = last; are = refl; went = refl; stops = stops } })

  pub reading_failed : (kind : ErrorKind) (old new : CalledFile F) → Keeps (remaining old.file) (remaining new.file) → new.calls ≡ old.calls ++ ReadFailed kind ∷ [] → ReadsBytesAndStops remaining [] old new
  reading_failed kind old new k e = reading_last (ReadFailed kind) old new tt (consumes_none _ _ k) e

-- ---- writes

writes_more : (first second : List ℕ) (xs ys : List FileCall) → WritesTake first xs → WritesTake second ys → WritesTake (first ++ second) (xs ++ ys)
writes_more first second [] ys f s = subst (λ (bytes : List ℕ). WritesTake (bytes ++ second) ys) (sym f) s
writes_more first second (Took some ∷ xs) ys (some_taken, (rest, are, f)) s =
    (some_taken, (rest ++ second, ap (λ b. b ++ second) are ∙ append_assoc some rest second, writes_more rest second xs ys f s))
writes_more first second (WriteFailed kind ∷ xs) ys (interrupted, f) s = (interrupted, writes_more first second xs ys f s)
writes_more first second (Sought place ∷ xs) ys f s = absurd f
writes_more first second (SeekFailed place ∷ xs) ys f s = absurd f
writes_more first second (Gave bytes ∷ xs) ys f s = absurd f
writes_more first second (ReadFailed kind ∷ xs) ys f s = absurd f
writes_more first second (Kept ∷ xs) ys f s = absurd f
writes_more first second (KeepFailed ∷ xs) ys f s = absurd f

module _ {F : Type 0} (contents : F → Option (List ℕ)) where
  -- writes took bytes, and then others took more
  pub writing_more : (first second : List ℕ) (old between new : CalledFile F) → WritesBytes contents first old between → WritesBytes contents second between new → WritesBytes contents (first ++ second) old new
  writing_more first second old between new a b =
      (Appends-trans _ _ _ first second a.0 b.0, adds_more (WritesTake first) (WritesTake second) (WritesTake (first ++ second)) _ _ _ (writes_more first second) a.1 b.1)

  -- writes took bytes, and then others took more, and a last one none
  pub writing_stops : (first second : List ℕ) (old between new : CalledFile F) → WritesBytes contents first old between → WritesBytesAndStops contents second between new → WritesBytesAndStops contents (first ++ second) old new
  writing_stops first second old between new a b = (
    Appends-trans _ _ _ first second a.0 b.0,
    adds_more (WritesTake first) (StopsAtLast (WritesTake second) StopsWriting) (StopsAtLast (WritesTake (first ++ second)) StopsWriting) _ _ _
        (stops_more (WritesTake first) (WritesTake second) (WritesTake (first ++ second)) StopsWriting (writes_more first second)) a.1 b.1,
  )

  -- writes took bytes, and then a last one none
  pub writing_stopped : (bytes : List ℕ) (old between new : CalledFile F) → WritesBytes contents bytes old between → WritesBytesAndStops contents [] between new → WritesBytesAndStops contents bytes old new
  writing_stopped bytes old between new a b =
      subst (λ (all : List ℕ). WritesBytesAndStops contents all old new) (append-nil bytes) (writing_stops bytes [] old between new a b)

  -- writes took the bytes up to a place, and one more took some of those from there on
  pub writing_part : (at n : ℕ) (bytes part : List ℕ) (old between new : CalledFile F) → part ≡ drop at bytes → WritesBytes contents (take at bytes) old between → WritesBytes contents (take n part) between new → WritesBytes contents (take (at + n) bytes) old new
  writing_part at n bytes part old between new e a b =
      subst (λ (all : List ℕ). WritesBytes contents all old new) (ap (λ p. take at bytes ++ take n p) e ∙ sym (take-add at n bytes)) (writing_more (take at bytes) (take n part) old between new a b)

  -- no write was made
  pub writing_none : (file : CalledFile F) → WritesBytes contents [] file file
  writing_none file = (Appends-nil _, record { calls = []; added = sym (append-nil file.calls); are = refl })

  -- one write took these bytes
  pub writing_one : (bytes : List ℕ) (old new : CalledFile F) → 0 < length bytes → Appends (contents old.file) (contents new.file) bytes → new.calls ≡ old.calls ++ Took bytes ∷ [] → WritesBytes contents bytes old new
  writing_one bytes old new some c e = (c, record { calls = Took bytes ∷ []; added = e; are = (some, ([], sym (append-nil bytes), refl)) })

  -- a signal interrupted one write
  pub writing_interrupted : (kind : ErrorKind) (old new : CalledFile F) → kind ≡ Interrupted → Keeps (contents old.file) (contents new.file) → new.calls ≡ old.calls ++ WriteFailed kind ∷ [] → WritesBytes contents [] old new
  writing_interrupted kind old new interrupted k e = (appends_none _ _ k, record { calls = WriteFailed kind ∷ []; added = e; are = (interrupted, refl) })

  -- one write stopped
  pub writing_last : (last : FileCall) (old new : CalledFile F) → StopsWriting last → Appends (contents old.file) (contents new.file) [] → new.calls ≡ old.calls ++ last ∷ [] → WritesBytesAndStops contents [] old new
  writing_last last old new stops c e = (c, record { calls = last ∷ []; added = e; are = record { before = []; last = last; are = refl; went = refl; stops = stops } })

  pub writing_failed : (kind : ErrorKind) (old new : CalledFile F) → Keeps (contents old.file) (contents new.file) → new.calls ≡ old.calls ++ WriteFailed kind ∷ [] → WritesBytesAndStops contents [] old new
  writing_failed kind old new k e = writing_last (WriteFailed kind) old new tt (appends_none _ _ k) e

-- ---- from a place on

module _ {F : Type 0} (t : KnowsOfFile F) where
  -- what reads do there, by their answer
  pub read_there : (place : ℕ) (buffer : List ℕ) (old there new : CalledFile F) (answer : Result (Unit {0}) FailedCall) → GoesTo t.position place old there
      → MatchResult answer (λ _. ReadsBytes t.bytes buffer there new) (λ _. ReadsShort t.bytes (length buffer) there new) → ReadsFrom t place buffer answer old new
  read_there place buffer old there new (Ok _) goes r = (there, goes, r)
  read_there place buffer old there new (Err _) goes r = inr (there, goes, r)

  -- what writes do there, by their answer
  pub written_there : (place : ℕ) (bytes : List ℕ) (old there new : CalledFile F) (answer : Result (Unit {0}) FailedCall) → GoesTo t.position place old there
      → MatchResult answer (λ _. WritesBytes t.bytes bytes there new) (λ _. WritesShort t.bytes bytes there new) → WritesFrom t place bytes answer old new
  written_there place bytes old there new (Ok _) goes w = (there, goes, w)
  written_there place bytes old there new (Err _) goes w = inr (there, goes, w)
