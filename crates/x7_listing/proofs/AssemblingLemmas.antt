-- Lemmas on specs/Assembling: a text of which one line more is read.
use Rattle.std.proofs.Common.{◌≡◌, inl, inr, ℕ, ◌+◌, ◌-◌, ◌<◌, ◌≤◌, Bool, true, false, List, [], ◌∷◌, ◌++◌, Ok, Err, length, map, refl, ap, sym, subst, ◌∙◌, arith, append_assoc, length-append, length-drop, take, drop}
use Rattle.std.proofs.lemmas.List.{drop-append-le, length-take-le, take-append-drop, take-append-le, map-append}
use Rattle.std.proofs.lemmas.List.Sums.{fold-append}
use Rattle.x7_words.proofs.ListLemmas.{all_append}
use Rattle.x7_listing.specs.Assembly.{AreHeadedAsm, AssembleTo, assembled, BeginsWithLines, IsFirstBadText, PassesLimitAt, with_line}
use Rattle.x7_listing.specs.Assembling.{Output, TextsAreRead, OpensText, LinesAreRead, output_of}
use Rattle.x7_listing.specs.declared.assembler.AsmFault.TheVariants as fault
use Rattle.x7_crc.specs.Checker.{check_of_bytes}
use Rattle.x7_crc.specs.Checker.{CheckerState, KeepsCheckOf}
use Rattle.x7_listing.specs.Line.{Line, line_bytes, FitsLine, text_of}
use Rattle.x7_text.specs.Reads.{AppendsIfRead}

pub one_more : (lines : List Line) (l : Line) → assembled (lines ++ l ∷ []) ≡ with_line (assembled lines) l
one_more lines l = fold-append with_line [] lines (l ∷ [])

longer : (lines : List Line) (l : Line) → length (lines ++ l ∷ []) ≡ length lines + 1
longer lines l = length-append lines (l ∷ [])

-- the bytes after one line more
grown : (lines : List Line) (l : Line) (old new : List ℕ) → old ≡ assembled lines → new ≡ old ++ line_bytes (check_of_bytes old) l → new ≡ assembled (lines ++ l ∷ [])
grown lines l old new is e = e ∙ ap (λ b. b ++ line_bytes (check_of_bytes b) l) is ∙ sym (one_more lines l)

pub begins_more : (limit : ℕ) (texts : List (List ℕ)) (lines : List Line) (l : Line) (t : List ℕ) (left : List (List ℕ)) → BeginsWithLines limit texts lines (t ∷ left) → FitsLine l → t ≡ text_of l → length (assembled (lines ++ l ∷ [])) ≤ limit
    → BeginsWithLines limit texts (lines ++ l ∷ []) left
begins_more limit texts lines l t left b fits e within = record {
  texts = b.texts ∙ ap (λ s. map text_of lines ++ s ∷ left) e ∙ sym (append_assoc (map text_of lines) (text_of l ∷ []) left) ∙ ap (λ s. s ++ left) (sym (map-append text_of lines (l ∷ [])));
  fits = all_append FitsLine lines (l ∷ []) b.fits (fits, tt);
  within = within;
}

pub begins_at : (limit : ℕ) (texts : List (List ℕ)) (lines : List Line) (left left2 : List (List ℕ)) → left ≡ left2 → BeginsWithLines limit texts lines left → BeginsWithLines limit texts lines left2
begins_at limit texts lines left left2 e b = subst (λ s. BeginsWithLines limit texts lines s) e b

module _ (limit : ℕ) (texts : List (List ℕ)) (t old new : List ℕ) (left : List (List ℕ)) (n : ℕ) (g : LinesAreRead limit texts (t ∷ left) old n) where
  pub bad : AppendsIfRead FitsLine text_of (line_bytes (check_of_bytes old)) false t old new → IsFirstBadText limit texts (n + 1)
  bad r = record { lines = g.lines; bad = t; left = left; begins = g.begins; count = ap (λ (k : ℕ). k + 1) g.count; no_line = λ l i. r.0 l i.fits i.text_is }

  pub too_long : AppendsIfRead FitsLine text_of (line_bytes (check_of_bytes old)) true t old new → limit < length new → PassesLimitAt limit texts (n + 1)
  too_long r h = record {
    lines = g.lines;
    last = r.0;
    left = left;
    begins = begins_at limit texts g.lines (t ∷ left) (text_of r.0 ∷ left) (ap (λ s. s ∷ left) r.2) g.begins;
    fits = r.1;
    count = ap (λ (k : ℕ). k + 1) g.count;
    passes = subst (λ b. limit < length b) (grown g.lines r.0 old new g.bytes_are r.3) h;
  }

  pub next : AppendsIfRead FitsLine text_of (line_bytes (check_of_bytes old)) true t old new → length new ≤ limit → LinesAreRead limit texts left new (n + 1)
  next r h =
      let e : new ≡ assembled (g.lines ++ r.0 ∷ []) = grown g.lines r.0 old new g.bytes_are r.3 in
      record { lines = g.lines ++ r.0 ∷ []; begins = begins_more limit texts g.lines r.0 t left g.begins r.1 r.2 (subst (λ b. length b ≤ limit) e h); bytes_are = e; count = ap (λ (k : ℕ). k + 1) g.count ∙ sym (longer g.lines r.0) }

pub went_nothing : (limit : ℕ) (texts : List (List ℕ)) → LinesAreRead limit texts texts [] 0
went_nothing limit texts = record { lines = []; begins = record { texts = refl; fits = tt; within = omega arith }; bytes_are = refl; count = refl }

pub went_all : (limit : ℕ) (texts : List (List ℕ)) (bytes : List ℕ) (n : ℕ) → LinesAreRead limit texts [] bytes n → AssembleTo limit texts bytes
went_all limit texts bytes n g = record { lines = g.lines; begins = g.begins; bytes_are = g.bytes_are }

-- a line is read after a header's bytes as it is without them
pub dropped : (start a : ℕ) (r : Bool) (t old new : List ℕ) → start ≤ length old → AppendsIfRead FitsLine text_of (line_bytes a) r t old new → AppendsIfRead FitsLine text_of (line_bytes a) r t (drop start old) (drop start new)
dropped start a true t old new h r = (r.0, r.1, r.2, ap (drop start) r.3 ∙ drop-append-le start old (line_bytes a r.0) h)
dropped start a false t old new h r = (r.0, ap (drop start) r.1)

pub prefix_stays : (start a : ℕ) (r : Bool) (t old new : List ℕ) → start ≤ length old → AppendsIfRead FitsLine text_of (line_bytes a) r t old new → (take start new ≡ take start old) × (start ≤ length new)
prefix_stays start a true t old new h r = (ap (take start) r.3 ∙ take-append-le start old (line_bytes a r.0) h, omega (arith, h, ap length r.3, length-append old (line_bytes a r.0)))
prefix_stays start a false t old new h r = (ap (take start) r.1, omega (arith, h, ap length r.1))

-- what texts come to after those of a header, or of none
pub close_ok : (all others : List (List ℕ)) (prefix out : List ℕ) (start first : ℕ) → start ≡ length prefix → OpensText all others prefix first → AssembleTo (67108864 - start) others (drop start out) → take start out ≡ prefix → AreHeadedAsm all (Ok out)
close_ok all others prefix out start first n (inl h) a same = inl (record {
  header = h.header;
  fits = h.fits;
  others = others;
  texts = h.texts;
  follows = record {
    rest = Ok (drop start out);
    lines = subst (λ (k : ℕ). AssembleTo (67108864 - k) others (drop start out)) (n ∙ ap length h.prefix_is) a;
    outcome_is = ap Ok (sym (take-append-drop start out) ∙ ap (λ t. t ++ drop start out) (same ∙ h.prefix_is));
  };
})
close_ok all others prefix out start first n (inr p) a same =
    let zero : start ≡ 0 = n ∙ ap length p.prefix_is in
    let is : drop start out ≡ out = ap (λ (k : ℕ). drop k out) zero in
    let b : AssembleTo 67108864 others (drop start out) = subst (λ (k : ℕ). AssembleTo (67108864 - k) others (drop start out)) zero a in
    inr (p.no_head, subst (λ (t : List (List ℕ)). AssembleTo 67108864 t out) (sym p.texts) (subst (AssembleTo 67108864 others) is b))

pub close_bad : (all others : List (List ℕ)) (prefix : List ℕ) (start first m n : ℕ) → start ≡ length prefix → OpensText all others prefix first → IsFirstBadText (67108864 - start) others m → n ≡ first + m → AreHeadedAsm all (Err (fault.Line n))
close_bad all others prefix start first m n s (inl h) b e =
    let one : n ≡ m + 1 = omega (arith, e, h.count) in
    inl (record {
      header = h.header;
      fits = h.fits;
      others = others;
      texts = h.texts;
      follows = record { rest = Err (fault.Line m); lines = subst (λ (k : ℕ). IsFirstBadText (67108864 - k) others m) (s ∙ ap length h.prefix_is) b; outcome_is = ap (λ (k : ℕ). Err (fault.Line k)) one };
    })
close_bad all others prefix start first m n s (inr p) b e =
    let zero : start ≡ 0 = s ∙ ap length p.prefix_is in
    let same : m ≡ n = omega (arith, e, p.count) in
    let c : IsFirstBadText 67108864 others m = subst (λ (k : ℕ). IsFirstBadText (67108864 - k) others m) zero b in
    inr (p.no_head, subst (λ (t : List (List ℕ)). IsFirstBadText 67108864 t n) (sym p.texts) (subst (IsFirstBadText 67108864 others) same c))

pub close_long : (all others : List (List ℕ)) (prefix : List ℕ) (start first m n : ℕ) → start ≡ length prefix → OpensText all others prefix first → PassesLimitAt (67108864 - start) others m → n ≡ first + m → AreHeadedAsm all (Err (fault.TooLong n))
close_long all others prefix start first m n s (inl h) b e =
    let one : n ≡ m + 1 = omega (arith, e, h.count) in
    inl (record {
      header = h.header;
      fits = h.fits;
      others = others;
      texts = h.texts;
      follows = record { rest = Err (fault.TooLong m); lines = subst (λ (k : ℕ). PassesLimitAt (67108864 - k) others m) (s ∙ ap length h.prefix_is) b; outcome_is = ap (λ (k : ℕ). Err (fault.TooLong k)) one };
    })
close_long all others prefix start first m n s (inr p) b e =
    let zero : start ≡ 0 = s ∙ ap length p.prefix_is in
    let same : m ≡ n = omega (arith, e, p.count) in
    let c : PassesLimitAt 67108864 others m = subst (λ (k : ℕ). PassesLimitAt (67108864 - k) others m) zero b in
    inr (p.no_head, subst (λ (t : List (List ℕ)). PassesLimitAt 67108864 t n) (sym p.texts) (subst (PassesLimitAt 67108864 others) same c))

-- the outcome of a text all of whose lines are read
pub goes_whole : (all : List (List ℕ)) (b : Output) (n : ℕ) → TextsAreRead all [] b n → AreHeadedAsm all (Ok b.out)
goes_whole all b n g =
    close_ok all g.others (take b.start b.out) b.out b.start g.first (sym (length-take-le b.start b.out g.long)) g.opens (went_all (67108864 - b.start) g.others (drop b.start b.out) g.read g.went) refl

-- one line more is read: it is bad, passes the limit, or is taken
module _ (line mid new : List ℕ) (old : Output) (n c : ℕ) (checker : CheckerState) (r : Bool) (same : mid ≡ old.out) (n-is : c ≡ n + 1)
    (reads : AppendsIfRead FitsLine text_of (line_bytes (check_of_bytes (drop old.start mid))) r line mid new) (keeps : KeepsCheckOf checker (drop old.start new)) where
  abbrev out : List ℕ
  out = old.out

  abbrev start : ℕ
  start = old.start

  module _ (all left : List (List ℕ)) (g : TextsAreRead all (line ∷ left) old n) where
    got : AppendsIfRead FitsLine text_of (line_bytes (check_of_bytes (drop start out))) r line out new
    got = subst (λ (m : List ℕ). AppendsIfRead FitsLine text_of (line_bytes (check_of_bytes (drop start m))) r line m new) same reads

    after_prefix : AppendsIfRead FitsLine text_of (line_bytes (check_of_bytes (drop start out))) r line (drop start out) (drop start new)
    after_prefix = dropped start (check_of_bytes (drop start out)) r line out new g.long got

    pub read_bad : r ≡ false → AreHeadedAsm all (Err (fault.Line c))
    read_bad e = close_bad all g.others (take start out) start g.first (g.read + 1) c (sym (length-take-le start out g.long)) g.opens
        (bad (67108864 - start) g.others line (drop start out) (drop start new) left g.read g.went (subst (λ b. AppendsIfRead FitsLine text_of (line_bytes (check_of_bytes (drop start out))) b line (drop start out) (drop start new)) e after_prefix))
        (omega (arith, n-is, g.count_is))

    yes : r ≡ true → AppendsIfRead FitsLine text_of (line_bytes (check_of_bytes (drop start out))) true line (drop start out) (drop start new)
    yes e = subst (λ b. AppendsIfRead FitsLine text_of (line_bytes (check_of_bytes (drop start out))) b line (drop start out) (drop start new)) e after_prefix

    pub read_long : r ≡ true → 67108864 < length new → AreHeadedAsm all (Err (fault.TooLong c))
    read_long e h = close_long all g.others (take start out) start g.first (g.read + 1) c (sym (length-take-le start out g.long)) g.opens
        (too_long (67108864 - start) g.others line (drop start out) (drop start new) left g.read g.went (yes e) (omega (arith, h, g.short, length-drop start new)))
        (omega (arith, n-is, g.count_is))

    pub read_on : (room : ℕ) → r ≡ true → length new ≤ 67108864 → TextsAreRead all left (output_of new start checker room) c
    read_on room e h =
        let f = prefix_stays start (check_of_bytes (drop start out)) r line out new g.long got in
        record {
          others = g.others;
          first = g.first;
          read = g.read + 1;
          long = f.1;
          short = g.short;
          keeps = keeps;
          opens = subst (λ (b : List ℕ). OpensText all g.others b g.first) (sym f.0) g.opens;
          went = next (67108864 - start) g.others line (drop start out) (drop start new) left g.read g.went (yes e) (omega (arith, h, length-drop start new));
          count_is = omega (arith, n-is, g.count_is);
        }
