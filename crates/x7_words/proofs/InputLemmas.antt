-- Lemmas on a rest that is taken piece by piece, for the crates that read inputs.
use Rattle.std.proofs.Common.{◌≡◌, ℕ, List, [], ◌++◌, ◌+◌, ◌≤◌, Option, None, Some, true, refl, ap, sym, subst, ◌∙◌, append_assoc, arith, length-append}
use Rattle.x7_words.specs.Input.{AsksAtMost, AsksOnce, InputsState, InputsStay, RestIsWhole, StillKnown, TakenBy, TakesInput, preceded}

-- before anything was taken, the rest is all
pub preceded_nil : (rest : Option (List ℕ)) → preceded [] rest ≡ rest
preceded_nil None = refl
preceded_nil (Some rest) = refl

-- two pieces taken one after the other are the joined piece
pub preceded_preceded : (first second : List ℕ) (rest : Option (List ℕ)) → preceded first (preceded second rest) ≡ preceded (first ++ second) rest
preceded_preceded first second None = refl
preceded_preceded first second (Some rest) = ap Some (sym (append_assoc first second rest))

-- ---- the map, as long as it is known

-- it is known while nothing happens
pub still_at : (map : Option (List ℕ → Option (List ℕ))) → StillKnown map map
still_at None = tt
still_at (Some map) = refl

-- a map that is known after two calls was known before both
pub still_on : (a b c : Option (List ℕ → Option (List ℕ))) → StillKnown a b → StillKnown b c → StillKnown a c
still_on a b None p q = tt
still_on a b (Some map) p q = subst (StillKnown a) q p

-- what holds of bytes that were taken while the map was known, holds where it is known later
pub taken_before : (mid new : Option (List ℕ → Option (List ℕ))) (old : Option (List ℕ)) (bytes : List ℕ) (rest : Option (List ℕ)) → StillKnown mid new → TakenBy mid old bytes rest → TakenBy new old bytes rest
taken_before mid None old bytes rest p t = tt
taken_before mid (Some map) old bytes rest p t = subst (λ (m : Option (List ℕ → Option (List ℕ))). TakenBy m old bytes rest) p t

-- two pieces taken one after the other are the joined piece taken
pub taken_on : (map : Option (List ℕ → Option (List ℕ))) (a b c : Option (List ℕ)) (first second : List ℕ) → TakenBy map a first b → TakenBy map b second c → TakenBy map a (first ++ second) c
taken_on None a b c first second p q = tt
taken_on (Some map) a b c first second p q = p ∙ ap (preceded first) q ∙ preceded_preceded first second c

-- before anything was taken
pub taken_none : (map : Option (List ℕ → Option (List ℕ))) (rest : Option (List ℕ)) → TakenBy map rest [] rest
taken_none None rest = tt
taken_none (Some map) rest = sym (preceded_nil rest)

-- the rest is whole with the bytes taken before it, as long as the map is known
pub rest_on : (old new : Option (List ℕ → Option (List ℕ))) (name bytes : List ℕ) (before after : Option (List ℕ)) → StillKnown old new → TakenBy new before bytes after → RestIsWhole old name before → RestIsWhole new name (preceded bytes after)
rest_on old None name bytes before after p t w = tt
rest_on old (Some map) name bytes before after p t w = subst (λ (r : Option (List ℕ)). RestIsWhole (Some map) name r) t (subst (λ (m : Option (List ℕ → Option (List ℕ))). RestIsWhole m name before) p w)

-- where nothing happened, all stays
pub stays_at : (s : InputsState) → InputsStay s s
stays_at s = record { map = still_at s.contents; faults = omega arith; absences = omega arith }

-- what stays over one call and over the next stays over both
pub stays_on : (a b c : InputsState) → InputsStay a b → InputsStay b c → InputsStay a c
stays_on a b c p q = record { map = still_on a.contents b.contents c.contents p.map q.map; faults = omega (arith, p.faults, q.faults); absences = omega (arith, p.absences, q.absences) }

-- a piece taken after another is the joined piece taken
pub takes_on : (a b c : InputsState) (first second : List ℕ) → InputsStay b c → TakesInput a first b → TakesInput b second c → TakesInput a (first ++ second) c
takes_on a b c first second s p q = record {
  selected = q.selected;
  taken = taken_on c.contents a.rest b.rest c.rest first second (taken_before b.contents c.contents a.rest first b.rest s.map p.taken) q.taken;
  given = omega (arith, p.given, q.given, length-append first second);
  selects = q.selects ∙ p.selects;
}

-- a piece that is equal to the bytes taken was taken
pub takes_as : (a b : InputsState) (bytes same : List ℕ) → bytes ≡ same → TakesInput a same b → TakesInput a bytes b
takes_as a b bytes same e t = rw e t

-- before anything was taken
pub takes_none : (s : InputsState) → s.selected ≡ true → TakesInput s [] s
takes_none s e = record { selected = e; taken = taken_none s.contents s.rest; given = omega arith; selects = refl }

-- ---- how often inputs are asked for, and how often a read gives nothing

-- where nothing happened, no input was asked for
pub few_at : (s : InputsState) → AsksAtMost s 0 s
few_at s = record { selects = omega arith; ends = omega arith }

-- an input that was asked for
pub few_once : (old new : InputsState) → AsksOnce old new → AsksAtMost old 1 new
few_once old new o = record { selects = o.selects; ends = omega (arith, o.ends) }

-- an input that was asked for once, and then read with no read that gave nothing
pub once_on : (old mid new : InputsState) → AsksOnce old mid → new.selects ≡ mid.selects → new.ends ≤ mid.ends → AsksOnce old new
once_on old mid new o s e = record { selects = omega (arith, o.selects, s); ends = omega (arith, o.ends, e) }

-- inputs one after the other
pub few_on : (old mid new : InputsState) (before after : ℕ) → AsksAtMost old before mid → AsksAtMost mid after new → AsksAtMost old (before + after) new
few_on old mid new before after a b = record { selects = omega (arith, a.selects, b.selects); ends = omega (arith, a.ends, b.ends) }

-- what a count bounds, a larger one bounds
pub few_more : (old new : InputsState) (few more : ℕ) → few ≤ more → AsksAtMost old few new → AsksAtMost old more new
few_more old new few more h a = record { selects = omega (arith, h, a.selects); ends = omega (arith, h, a.ends) }
