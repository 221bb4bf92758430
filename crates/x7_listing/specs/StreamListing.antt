-- The listing of a stream as it is: its header's line, where it has a header, and the listing of its data (this
-- project's choice).
use Rattle.std.specs.Prelude.{ℕ, List, ◌∷◌, ◌++◌, drop, Result, Ok, Err}
use Rattle.x7_header.specs.Header.{HeaderContents}
use Rattle.x7_header.specs.Reading.{header_at}
use Rattle.x7_header.specs.declared.fault.HeaderFault.{HeaderFault}
use Rattle.x7_header.specs.declared.fault.HeaderFault.TheVariants as fault
use Rattle.x7_listing.specs.BitLine.{bit_text}
use Rattle.x7_words.specs.Characters.{line_end_byte}
use Rattle.x7_listing.specs.Listing.{listing_of}

-- the listing of a stream by what its header is read as, its contents and its size in bytes, or why there is none; or
-- the place, in bytes from 0, at which the header is refused, the stream's length where the header is cut
abbrev pub listing_by : List ℕ → Result (HeaderContents × ℕ) HeaderFault → Result (List ℕ) ℕ
listing_by bytes (Ok head) = Ok (bit_text head.0 ++ line_end_byte ∷ listing_of (drop head.1 bytes))
listing_by bytes (Err fault.Raw) = Ok (listing_of bytes)
listing_by bytes (Err (fault.Cut place)) = Err place
listing_by bytes (Err (fault.Field place)) = Err place

-- the listing of a stream, or the place, in bytes from 0, at which its header is refused
abbrev pub stream_listing : List ℕ → Result (List ℕ) ℕ
stream_listing bytes = listing_by bytes (header_at bytes)
