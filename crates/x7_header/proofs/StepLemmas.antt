-- The reading of a header whose first fields are read: the next field decides.
use Rattle.std.proofs.Common.{◌≡◌, ℕ, ◌-◌, List, length, Result, Ok, Err, refl}
use Rattle.std.specs.Prelude.{IsErr, IsErrAnd}
use Rattle.x7_words.specs.Word.{word_of_bytes}
use Rattle.x7_header.specs.Header.{FieldKind}
use Rattle.x7_header.specs.Reading.{field_at, fields_at, header_fields_at, ReturnsAs}
use Rattle.x7_header.specs.declared.fault.HeaderFault.{HeaderFault}

pub fault_at_a : (total : ℕ) (bytes : List ℕ) (fault : HeaderFault) → field_at total (record { letter = 97; kind = FieldKind.Counted }) bytes ≡ Err fault → header_fields_at total bytes ≡ Err fault
unfolding header_fields_at fields_at
fault_at_a total bytes fault ha = rw ha refl

pub fault_at_b : (total : ℕ) (bytes : List ℕ) (a after_a : List ℕ) (fault : HeaderFault)
    → field_at total (record { letter = 97; kind = FieldKind.Counted }) bytes ≡ Ok (a, after_a)
    → field_at total (record { letter = 98; kind = FieldKind.Counted }) after_a ≡ Err fault → header_fields_at total bytes ≡ Err fault
unfolding header_fields_at fields_at
fault_at_b total bytes a after_a fault ha hb = rw (ha, hb) refl

pub fault_at_c : (total : ℕ) (bytes : List ℕ) (a after_a : List ℕ) (b after_b : List ℕ) (fault : HeaderFault)
    → field_at total (record { letter = 97; kind = FieldKind.Counted }) bytes ≡ Ok (a, after_a)
    → field_at total (record { letter = 98; kind = FieldKind.Counted }) after_a ≡ Ok (b, after_b)
    → field_at total (record { letter = 99; kind = FieldKind.Counted }) after_b ≡ Err fault → header_fields_at total bytes ≡ Err fault
unfolding header_fields_at fields_at
fault_at_c total bytes a after_a b after_b fault ha hb hc = rw (ha, hb, hc) refl

pub fault_at_d : (total : ℕ) (bytes : List ℕ) (a after_a : List ℕ) (b after_b : List ℕ) (c after_c : List ℕ) (fault : HeaderFault)
    → field_at total (record { letter = 97; kind = FieldKind.Counted }) bytes ≡ Ok (a, after_a)
    → field_at total (record { letter = 98; kind = FieldKind.Counted }) after_a ≡ Ok (b, after_b)
    → field_at total (record { letter = 99; kind = FieldKind.Counted }) after_b ≡ Ok (c, after_c)
    → field_at total (record { letter = 100; kind = FieldKind.Counted }) after_c ≡ Err fault → header_fields_at total bytes ≡ Err fault
unfolding header_fields_at fields_at
fault_at_d total bytes a after_a b after_b c after_c fault ha hb hc hd = rw (ha, hb, hc, hd) refl

pub fault_at_e : (total : ℕ) (bytes : List ℕ) (a after_a : List ℕ) (b after_b : List ℕ) (c after_c : List ℕ) (d after_d : List ℕ) (fault : HeaderFault)
    → field_at total (record { letter = 97; kind = FieldKind.Counted }) bytes ≡ Ok (a, after_a)
    → field_at total (record { letter = 98; kind = FieldKind.Counted }) after_a ≡ Ok (b, after_b)
    → field_at total (record { letter = 99; kind = FieldKind.Counted }) after_b ≡ Ok (c, after_c)
    → field_at total (record { letter = 100; kind = FieldKind.Counted }) after_c ≡ Ok (d, after_d)
    → field_at total (record { letter = 101; kind = FieldKind.Four }) after_d ≡ Err fault → header_fields_at total bytes ≡ Err fault
unfolding header_fields_at fields_at
fault_at_e total bytes a after_a b after_b c after_c d after_d fault ha hb hc hd he = rw (ha, hb, hc, hd, he) refl

pub read_whole : (total : ℕ) (bytes : List ℕ) (a after_a : List ℕ) (b after_b : List ℕ) (c after_c : List ℕ) (d after_d : List ℕ) (e after_e : List ℕ) (number : ℕ)
    → field_at total (record { letter = 97; kind = FieldKind.Counted }) bytes ≡ Ok (a, after_a)
    → field_at total (record { letter = 98; kind = FieldKind.Counted }) after_a ≡ Ok (b, after_b)
    → field_at total (record { letter = 99; kind = FieldKind.Counted }) after_b ≡ Ok (c, after_c)
    → field_at total (record { letter = 100; kind = FieldKind.Counted }) after_c ≡ Ok (d, after_d)
    → field_at total (record { letter = 101; kind = FieldKind.Four }) after_d ≡ Ok (e, after_e) → word_of_bytes e ≡ number
    → header_fields_at total bytes ≡ Ok (record { a = a; b = b; c = c; d = d; data_length = number }, total - length after_e)
unfolding header_fields_at fields_at
read_whole total bytes a after_a b after_b c after_c d after_d e after_e number ha hb hc hd he w = rw (ha, hb, hc, hd, he, w) refl

-- a fault that is handed on is the reading's
pub gives_fault : {X Y : Type 0} (view : X → Y) (result : Result X HeaderFault) (reading : Result Y HeaderFault) (fault : HeaderFault) → IsErr result → IsErrAnd result (λ e. e ≡ fault) → reading ≡ Err fault → ReturnsAs view result reading
gives_fault view (Ok x) reading fault i a r = absurd a
gives_fault view (Err e) reading fault i a r = rw (r, a) refl
