-- Lemmas on `AppendsLines` of specs/Assembling: lines that are read at once, and the texts after them.
use Rattle.std.proofs.Math.Seq.{drop-nil}
use Rattle.std.proofs.Common.{◌≡◌, ℕ, zero, suc, ◌+◌, ◌-◌, ◌<◌, ◌≤◌, List, [], ◌∷◌, ◌++◌, length, map, fold, take, drop, get_or, refl, ap, sym, subst, ◌∙◌, arith, append_assoc, append-nil, length-append, length-drop, length-take, take_all, Vec, vec_len, vec_capacity}
use Rattle.std.proofs.lemmas.Grind.{flat_map-append}
use Rattle.std.proofs.lemmas.List.{drop-append-le, drop_more, take-append-drop, take-append-le, map-append}
use Rattle.std.proofs.lemmas.List.Sums.{fold-append}
use Rattle.std.specs.List.{AllByRecursion, flat_map}
use Rattle.x7_words.proofs.ListLemmas.{all_append}
use Rattle.x7_crc.specs.Checker.{check_of_bytes}
use Rattle.x7_crc.proofs.CheckerLemmas.{still_keeps}
use Rattle.std.specs.declared.alloc.Global.{Global}
use Rattle.x7_text.specs.Appends.{Appends}
use Rattle.x7_text.specs.Lines.{split}
use Rattle.x7_text.specs.Reads.{StaysWithin}
use Rattle.x7_text.proofs.SplitLemmas.{split_line}
use Rattle.x7_listing.specs.Assembly.{assembled, with_line}
use Rattle.x7_listing.specs.Assembling.{Output, output_of, TextsAreRead, OpensText, AppendsFirstLines, AppendsLines}
use Rattle.x7_listing.specs.Line.{Line, line_bytes, FitsLine, IsNeitherCommentNorCheck, text_of, ended_text, ended_texts}
use Rattle.x7_listing.proofs.line.LineTextLemmas.{line_free, same_bytes}

texts_ahead : (ls : List Line) (rest : List ℕ) → AllByRecursion FitsLine ls → AllByRecursion IsNeitherCommentNorCheck ls → split (ended_texts ls ++ rest) ≡ map text_of ls ++ split rest
texts_ahead [] rest f i = refl
texts_ahead (l ∷ ls) rest f i =
    ap split (append_assoc (text_of l ++ 10 ∷ []) (ended_texts ls) rest ∙ append_assoc (text_of l) (10 ∷ []) (ended_texts ls ++ rest)) ∙ split_line (text_of l) (ended_texts ls ++ rest) (line_free l f.0 i.0) ∙ ap (λ t. text_of l ∷ t) (texts_ahead ls rest f.1 i.1)

bytes_after : (bytes : List ℕ) (ls : List Line) → AllByRecursion IsNeitherCommentNorCheck ls → fold with_line bytes ls ≡ bytes ++ flat_map (line_bytes 0) ls
bytes_after bytes [] i = sym (append-nil bytes)
bytes_after bytes (l ∷ ls) i =
    bytes_after (with_line bytes l) ls i.1 ∙ append_assoc bytes (line_bytes (check_of_bytes bytes) l) (flat_map (line_bytes 0) ls) ∙ ap (λ b. bytes ++ (b ++ flat_map (line_bytes 0) ls)) (same_bytes (check_of_bytes bytes) l i.0)

pub dropped_twice : (a b : ℕ) (t : List ℕ) → drop b (drop a t) ≡ drop (a + b) t
dropped_twice zero b t = ap (λ (k : ℕ). drop k t) (omega arith)
dropped_twice (suc a) b [] = drop-nil b ∙ sym (drop-nil (suc a + b))
dropped_twice (suc a) b (c ∷ cs) = let e : suc (a + b) ≡ suc a + b = omega arith in dropped_twice a b cs ∙ ap (λ (k : ℕ). drop k (c ∷ cs)) e

-- a text begins with one line, of a word and a row
pub takes_row : (l : Line) (word row text old new : List ℕ) (a b : ℕ) → FitsLine l → IsNeitherCommentNorCheck l → text_of l ≡ word ++ row → take a text ≡ word → take b (drop a text) ≡ row → get_or text (a + b) 0 ≡ 10 → a + b < length text → new ≡ old ++ line_bytes 0 l
    → AppendsFirstLines text old new (a + b + 1) 1
takes_row l word row text old new a b f i e w r end h n =
    let both : drop b (drop a text) ≡ drop (a + b) text = dropped_twice a b text in
    let is : text ≡ ended_text l ++ drop (a + b + 1) text =
    sym (take-append-drop a text) ∙ ap (λ t. t ++ drop a text) w ∙ ap (λ t. word ++ t) (sym (take-append-drop b (drop a text)) ∙ ap (λ t. t ++ drop b (drop a text)) r ∙ ap (λ t. row ++ t) (both ∙ drop_more text (a + b) 0 h ∙ ap (λ (c : ℕ). c ∷ drop (a + b + 1) text) end))
    ∙ sym (append_assoc word row (10 ∷ drop (a + b + 1) text)) ∙ ap (λ t. t ++ 10 ∷ drop (a + b + 1) text) (sym e) ∙ sym (append_assoc (text_of l) (10 ∷ []) (drop (a + b + 1) text)) in
    record {
      not_empty = omega arith;
      within = omega (arith, h);
      counted = omega arith;
      takes = record { lines = l ∷ []; fit = (f, tt); listed = (i, tt); text_is = is ∙ ap (λ t. t ++ drop (a + b + 1) text) (sym (append-nil (ended_text l))); appended = n ∙ ap (λ t. old ++ t) (sym (append-nil (line_bytes 0 l))); count_is = refl };
    }

pub takes_both : (text mid rest old out new : List ℕ) (j k : ℕ) → AppendsLines text mid old out j → AppendsLines mid rest out new k → AppendsLines text rest old new (j + k)
takes_both text mid rest old out new j k s t = record {
  lines = s.lines ++ t.lines;
  fit = all_append FitsLine s.lines t.lines s.fit t.fit;
  listed = all_append IsNeitherCommentNorCheck s.lines t.lines s.listed t.listed;
  text_is = s.text_is ∙ ap (λ r. ended_texts s.lines ++ r) t.text_is ∙ sym (append_assoc (ended_texts s.lines) (ended_texts t.lines) rest) ∙ ap (λ r. r ++ rest) (sym (flat_map-append ended_text s.lines t.lines));
  appended = t.appended ∙ ap (λ b. b ++ flat_map (line_bytes 0) t.lines) s.appended ∙ append_assoc old (flat_map (line_bytes 0) s.lines) (flat_map (line_bytes 0) t.lines) ∙ ap (λ b. old ++ b) (sym (flat_map-append (line_bytes 0) s.lines t.lines));
  count_is = omega (arith, s.count_is, t.count_is, length-append s.lines t.lines);
}

-- a slice from a place on is what is left from there
pub left_from : (n : ℕ) (t : List ℕ) → n ≤ length t → take (length t - n) (drop n t) ≡ drop n t
left_from n t h = take_all (length t - n) (drop n t) (omega (arith, length-drop n t))

-- lines that are read at once, and further ones after them
pub takes_more : (text old out new : List ℕ) (a n j k : ℕ) → a ≤ length text → AppendsLines text (drop a text) old out j → AppendsFirstLines (take (length text - a) (drop a text)) out new n k
    → (a + n ≤ length text) × AppendsLines text (drop (a + n) text) old new (j + k)
takes_more text old out new a n j k h s t =
    let f : AppendsFirstLines (drop a text) out new n k = subst (λ r. AppendsFirstLines r out new n k) (left_from a text h) t in
    (omega (arith, f.within, length-drop a text, h), subst (λ r. AppendsLines text r old new (j + k)) (dropped_twice a n text) (takes_both text (drop a text) (drop n (drop a text)) old out new j k s f.takes))

-- the texts of lines that are read at once stand first among those of the text
pub quick_texts : (text rest old new : List ℕ) (k : ℕ) (t : AppendsLines text rest old new k) → split text ≡ map text_of t.lines ++ split rest
quick_texts text rest old new k t = ap split t.text_is ∙ texts_ahead t.lines rest t.fit t.listed

-- a text of which lines are read at once is read so much further
pub goes_quick : (all left : List (List ℕ)) (text rest new : List ℕ) (old : Output) (k n c room : ℕ) (t : AppendsLines text rest old.out new k) → (length old.out ≤ 67108864 → length new ≤ 67108864) → c ≡ n + k
    → TextsAreRead all (map text_of t.lines ++ left) old n → TextsAreRead all left (output_of new old.start old.checker room) c
goes_quick all left text rest new old k n c room t limit e g =
    let out : List ℕ = old.out in
    let start : ℕ = old.start in
    let added : List ℕ = flat_map (line_bytes 0) t.lines in
    let body : drop start new ≡ drop start out ++ added = ap (drop start) t.appended ∙ drop-append-le start out added g.long in
    let prefix : take start new ≡ take start out = ap (take start) t.appended ∙ take-append-le start out added g.long in
    let size : length new ≡ length out + length added = ap length t.appended ∙ length-append out added in
    let now : drop start new ≡ assembled (g.went.lines ++ t.lines) = body ∙ ap (λ b. b ++ added) g.went.bytes_are ∙ sym (bytes_after (assembled g.went.lines) t.lines t.listed) ∙ sym (fold-append with_line [] g.went.lines t.lines) in
    let few : length (drop start out) ≤ 67108864 - start = subst (λ (b : List ℕ). length b ≤ 67108864 - start) (sym g.went.bytes_are) g.went.begins.within in
    let old_limit : length out ≤ 67108864 = omega (arith, few, length-drop start out, g.short) in
    let within : length (drop start new) ≤ 67108864 - start = omega (arith, limit old_limit, length-drop start new) in
    record {
      others = g.others;
      first = g.first;
      read = g.read + k;
      long = omega (arith, size, g.long);
      short = g.short;
      keeps = still_keeps old.checker (drop start out) added (drop start new) body g.keeps;
      opens = subst (λ (b : List ℕ). OpensText all g.others b g.first) (sym prefix) g.opens;
      went = record {
        lines = g.went.lines ++ t.lines;
        begins = record {
          texts = g.went.begins.texts ∙ sym (append_assoc (map text_of g.went.lines) (map text_of t.lines) left) ∙ ap (λ s. s ++ left) (sym (map-append text_of g.went.lines t.lines));
          fits = all_append FitsLine g.went.lines t.lines g.went.begins.fits t.fit;
          within = subst (λ (b : List ℕ). length b ≤ 67108864 - start) now within;
        };
        bytes_are = now;
        count = omega (arith, g.went.count, t.count_is, length-append g.went.lines t.lines);
      };
      count_is = omega (arith, e, g.count_is);
    }

-- a text begins with one line, of a word and a row, whose end stands at a given place
pub takes_line : (l : Line) (word row text old new : List ℕ) (a b end size : ℕ) → FitsLine l → IsNeitherCommentNorCheck l → text_of l ≡ word ++ row → take a text ≡ word → take b (drop a text) ≡ row → end ≡ a + b → size ≡ a + b + 1 → get_or text end 0 ≡ 10 → a + b < length text → new ≡ old ++ line_bytes 0 l
    → AppendsFirstLines text old new size 1
takes_line l word row text old new a b end size f i e w r at whole is h n =
    subst (λ (k : ℕ). AppendsFirstLines text old new k 1) (sym whole) (takes_row l word row text old new a b f i e w r (ap (λ (k : ℕ). get_or text k 0) (sym at) ∙ is) h n)

-- the first bytes of a text are looked at
pub takes_seen : (text first old new : List ℕ) (n size count : ℕ) → first ≡ take n text → AppendsFirstLines first old new size count → AppendsFirstLines text old new size count
takes_seen text first old new n size count e t =
    let s : AppendsFirstLines (take n text) old new size count = subst (λ (f : List ℕ). AppendsFirstLines f old new size count) e t in
    record {
      not_empty = s.not_empty;
      within = omega (arith, s.within, length-take n text);
      counted = s.counted;
      takes = record {
        lines = s.takes.lines;
        fit = s.takes.fit;
        listed = s.takes.listed;
        text_is = sym (take-append-drop n text) ∙ ap (λ r. r ++ drop n text) s.takes.text_is ∙ append_assoc (ended_texts s.takes.lines) (drop size (take n text)) (drop n text)
            ∙ ap (λ r. ended_texts s.takes.lines ++ r) (sym (drop-append-le size (take n text) (drop n text) s.within) ∙ ap (drop size) (take-append-drop n text));
        appended = s.takes.appended;
        count_is = s.takes.count_is;
      };
    }

-- bytes of one line at most were appended
pub stays : {old new : Vec ℕ Global} {bytes : List ℕ} {most : ℕ} → Appends old new bytes most → most ≤ 32 → StaysWithin old new 32
stays a h = record { within = omega (arith, a.within, h); room = a.room }

-- bytes of one line at most were appended, and some of them taken away
pub stays_cut : {old mid new : Vec ℕ Global} {bytes : List ℕ} {most : ℕ} (n : ℕ) → Appends old mid bytes most → most ≤ 32 → vec_len new + (vec_len mid - n) ≡ vec_len mid → vec_capacity new ≡ vec_capacity mid → StaysWithin old new 32
stays_cut n a h l k = record { within = omega (arith, a.within, h, l); room = omega (arith, a.room, k) }
