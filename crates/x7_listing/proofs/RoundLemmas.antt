-- A listing assembles back to the bytes that it is of.
use Rattle.std.proofs.Common.{◌≡◌, ℕ, ◌≤◌, List, [], ◌∷◌, ◌++◌, length, map, fold, refl, ap, sym, subst, ◌∙◌, append_assoc, append-nil}
use Rattle.std.proofs.lemmas.Grind.{flat_map-append}
use Rattle.std.specs.List.{AllByRecursion, flat_map}
use Rattle.x7_words.specs.Word.{AreBytes}
use Rattle.x7_words.proofs.ListLemmas.{all_append}
use Rattle.x7_text.proofs.SplitLemmas.{split_line}
use Rattle.x7_listing.specs.Listing.{listing_lines, listing_of}
use Rattle.x7_listing.specs.Assembly.{AssembleTo, assembled, with_line}
use Rattle.x7_crc.specs.Checker.{check_of_bytes}
use Rattle.x7_text.specs.Lines.{split}
use Rattle.x7_listing.specs.Line.{Line, Empty, line_bytes, FitsLine, text_of, ended_texts}
use Rattle.x7_listing.proofs.ListedBytesLemmas.{Stands, listing_stands}
use Rattle.x7_listing.proofs.line.LineTextLemmas.{Listed, line_free, same_bytes}
use Rattle.std.proofs.lemmas.List.{map-append}

-- the text of lines, each with its end, is cut into their texts and an empty last one
split_lines : (ls : List Line) → AllByRecursion Listed ls → split (ended_texts ls) ≡ map text_of ls ++ [] ∷ []
split_lines [] a = refl
split_lines (l ∷ ls) a =
    ap split (append_assoc (text_of l) (10 ∷ []) (ended_texts ls)) ∙ split_line (text_of l) (ended_texts ls) (line_free l a.0.0 a.0.1) ∙ ap (λ t. text_of l ∷ t) (split_lines ls a.1)

assembled_after : (bytes : List ℕ) (ls : List Line) → AllByRecursion Listed ls → fold with_line bytes ls ≡ bytes ++ flat_map (line_bytes 0) ls
assembled_after bytes [] a = sym (append-nil bytes)
assembled_after bytes (l ∷ ls) a =
    assembled_after (with_line bytes l) ls a.1 ∙ append_assoc bytes (line_bytes (check_of_bytes bytes) l) (flat_map (line_bytes 0) ls) ∙ ap (λ b. bytes ++ (b ++ flat_map (line_bytes 0) ls)) (same_bytes (check_of_bytes bytes) l a.0.1)

fit_all : (ls : List Line) → AllByRecursion Listed ls → AllByRecursion FitsLine ls
fit_all [] a = tt
fit_all (l ∷ ls) a = (a.0.0, fit_all ls a.1)

pub round_trip : (limit : ℕ) (bytes : List ℕ) → AreBytes bytes → length bytes ≤ limit → AssembleTo limit (split (listing_of bytes)) bytes
round_trip limit bytes a h =
    let ls : List Line = listing_lines bytes in
    let s : Stands (listing_lines bytes) bytes = listing_stands bytes a in
    let each : AllByRecursion Listed (listing_lines bytes ++ Empty ∷ []) = all_append Listed (listing_lines bytes) (Empty ∷ []) s.each ((tt, tt), tt) in
    let is : assembled (listing_lines bytes ++ Empty ∷ []) ≡ bytes =
    assembled_after [] (listing_lines bytes ++ Empty ∷ []) each ∙ flat_map-append (line_bytes 0) (listing_lines bytes) (Empty ∷ []) ∙ append-nil (flat_map (line_bytes 0) (listing_lines bytes)) ∙ s.are in
    record {
      lines = listing_lines bytes ++ Empty ∷ [];
      begins = record {
        texts = split_lines (listing_lines bytes) s.each ∙ sym (map-append text_of (listing_lines bytes) (Empty ∷ [])) ∙ sym (append-nil (map text_of (listing_lines bytes ++ Empty ∷ [])));
        fits = fit_all (listing_lines bytes ++ Empty ∷ []) each;
        within = subst (λ b. length b ≤ limit) (sym is) h;
      };
      bytes_are = sym is;
    }
