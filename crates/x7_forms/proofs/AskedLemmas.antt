-- Lemmas on the last input that was asked for, and on how few bytes of it are given.
use Rattle.std.proofs.Common.{◌≡◌, ◌<◌, ◌≤◌, ◌+◌, ◌-◌, ℕ, Bool, true, false, if◌then◌else◌, List, [], ◌∷◌, ◌++◌, Option, None, Some, Result, Ok, Err, append_assoc, drop, length, length-append, map, zero, suc, add-one, get_or, inl, inr, refl, subst, sym, ap, ◌∙◌, arith}
use Rattle.std.specs.Prelude.{IfSome, nat_lt}
use Rattle.x7_words.specs.Input.{AsksAtMost, AsksOnce, InputsState, InputsStay, StillKnown}
use Rattle.x7_words.proofs.InputLemmas.{few_once, stays_on}
use Rattle.x7_forms.specs.declared.bad_input.InputFault.TheVariants as input
use Rattle.x7_forms.specs.Event.{Event, bad_input, bad_part, missing, reading_failed, too_large}
use Rattle.x7_forms.specs.Known.{Absent, Broken, Found, Held, Mishap, StreamRead, and_so, bytes_found, data_in, input_found, stream_known, taken_whole, with_inputs, if_within}
use Rattle.x7_forms.specs.Step.{IsCaused, IsNoPart, IsUnplayed, IsUnread}
use Rattle.x7_forms.specs.ReadingStops.{IsAbout, Limited, StopsAmong, limited, limited_together, size_in, size_of}
use Rattle.x7_forms.specs.Turn.{AsksFor, AsksOnlyFor, GivesAtMost, GivesWithinLimit, ReadsBytes, IsLastAsked, UnreadBeginning, Unopened}
use Rattle.x7_forms.proofs.ReadLemmas.{IsAt, asked_on, left_at}

-- a turn after what was read
pub gives_on : (old mid new : InputsState) (taken : List ℕ) (limit left : ℕ) → ReadsBytes old taken mid → length taken + left ≡ limit → mid.ends ≤ old.ends → GivesWithinLimit mid left new → GivesWithinLimit old limit new
gives_on old mid new taken limit left r n e g = record { asked = g.asked ∙ r.asked; selects = g.selects ∙ r.takes.selects; ends = omega (arith, e, g.ends); given = omega (arith, n, r.takes.given, g.given); stays = stays_on old mid new r.stays g.stays }

-- no more than `few` bytes were given, and so no more than `most`, which isn't less
pub gives_fewer : (old new : InputsState) (few most : ℕ) → few ≤ most → GivesAtMost old few new → GivesAtMost old most new
gives_fewer old new few most h g = record { asked = g.asked; selects = g.selects; ends = g.ends; given = omega (arith, h, g.given); stays = g.stays }

-- the one input that was asked for, and of which nothing was read
pub asks_opened : (old new : InputsState) (name : List ℕ) (limit : ℕ) → AsksFor old name new → AsksOnlyFor old name limit new
asks_opened old new name limit a = record { last = record { asked = a.named.asked; given = omega (arith, a.named.given) }; once = few_once old new a.once; stays = a.stays }

-- the one input that was asked for, and read
pub asks_read : (old opened new : InputsState) (name : List ℕ) (limit : ℕ) → AsksFor old name opened → GivesWithinLimit opened limit new → AsksOnlyFor old name limit new
asks_read old opened new name limit a g = record {
  last = record { asked = asked_on name opened new a.named g.asked; given = omega (arith, a.named.given, g.given) };
  once = record { selects = omega (arith, a.once.selects, g.selects); ends = omega (arith, a.once.ends, g.ends) };
  stays = stays_on old opened new a.stays g.stays;
}

-- a turn of the one input that was asked for, after those that were read
pub asks_turn : (old mid new : InputsState) (name taken : List ℕ) (limit left : ℕ) → IsAt name taken mid → length taken + left ≡ limit → AsksOnce old mid → InputsStay old mid → GivesWithinLimit mid left new → AsksOnlyFor old name limit new
asks_turn old mid new name taken limit left a n o s g = record {
  last = record { asked = subst (λ k. IfSome k (λ kept. kept ≡ name)) (sym g.asked) a.asked; given = omega (arith, n, a.given, g.given) };
  once = record { selects = omega (arith, o.selects, g.selects); ends = omega (arith, o.ends, g.ends) };
  stays = stays_on old mid new s g.stays;
}

-- a first turn of the one input that was asked for, and the rest where that turn was not the last
pub asks_rest : (last : Bool) (old opened mid new : InputsState) (name taken : List ℕ) (limit left : ℕ) → AsksFor old name opened → ReadsBytes opened taken mid → length taken + left ≡ limit
    → GivesWithinLimit opened limit mid → (last ≡ false → mid.ends ≤ opened.ends) → GivesWithinLimit mid left new → (last ≡ true → new.ends ≤ mid.ends) → AsksOnlyFor old name limit new
asks_rest last old opened mid new name taken limit left a r n f go g none = record {
  last = record { asked = asked_on name opened new a.named (g.asked ∙ r.asked); given = omega (arith, n, a.named.given, r.takes.given, g.given) };
  once = record { selects = omega (arith, a.once.selects, f.selects, g.selects); ends = by last go none };
  stays = stays_on old mid new (stays_on old opened mid a.stays f.stays) g.stays;
}
  where
    by : (b : Bool) → (b ≡ false → mid.ends ≤ opened.ends) → (b ≡ true → new.ends ≤ mid.ends) → new.ends ≤ old.ends + 1
    by true go none = omega (arith, a.once.ends, f.ends, none refl)
    by false go none = omega (arith, a.once.ends, go refl, g.ends)

pub last_asked_less : (name : List ℕ) (left limit : ℕ) (now : InputsState) → left ≤ limit → IsLastAsked name left now → IsLastAsked name limit now
last_asked_less name left limit now h s = record { asked = s.asked; given = omega (arith, h, s.given) }

-- ---- which input an event names

about_same : (name : List ℕ) (event is : Event) → event ≡ is → is.concerned ≡ name → IsAbout name event
about_same name event is e n = inr (subst (λ (x : Event). x.concerned ≡ name) (sym e) n)

pub about_by : (name : List ℕ) (event is : Event) → event ≡ is → IsAbout name is → IsAbout name event
about_by name event is e a = subst (IsAbout name) (sym e) a

pub unread_about : (name : List ℕ) (event : Event) → IsUnread name event → IsAbout name event
unread_about name event (inl e) = inl e
unread_about name event (inr (inl e)) = about_same name event (missing name) e refl
unread_about name event (inr (inr (inl e))) = about_same name event (reading_failed name) e refl
unread_about name event (inr (inr (inr e))) = about_same name event (too_large name) e refl

pub no_part_about : (name : List ℕ) (event : Event) → IsNoPart name event → IsAbout name event
no_part_about name event (inl h) = unread_about name event h
no_part_about name event (inr h) = about_same name event (bad_part name h.0) h.1 refl

pub unplayed_about : (name : List ℕ) (event : Event) → IsUnplayed name event → IsAbout name event
unplayed_about name event (inl h) = unread_about name event h
unplayed_about name event (inr h) = about_same name event (bad_input name (input.Byte h.0)) h.1 refl

pub unopened_about : (old new : InputsState) (name : List ℕ) (event : Event) → Unopened old name new event → IsAbout name event
unopened_about old new name event (inl h, d) = about_same name event (missing name) h.0 refl
unopened_about old new name event (inr h, d) = about_same name event (reading_failed name) h.0 refl

pub without_prefix_about : (old new : InputsState) (name : List ℕ) (event : Event) → UnreadBeginning old name new event → IsAbout name event
without_prefix_about old new name event (inl e) = inl e
without_prefix_about old new name event (inr (inl h)) = about_same name event (reading_failed name) h.0 refl
without_prefix_about old new name event (inr (inr h)) = about_same name event (bad_input name (input.Byte h.place)) h.reports refl

-- ---- where reading stops

-- an event of one of the inputs
pub about_among : (inputs before : List Limited) (input : Limited) (after : List Limited) (old now : InputsState) (event : Event)
    → inputs ≡ before ++ input ∷ after → IsLastAsked input.name input.limit now → AsksAtMost old (length before + 1) now → IsAbout input.name event → StopsAmong inputs old now event
about_among inputs before input after old now event a s n (inl e) = inl e
about_among inputs before input after old now event a s n (inr t) = inr (record { before = before; input = input; after = after; among = a; concerns = t; last_asked = s; asks = n })

-- one of the inputs after a first one
pub stops_after : (first : Limited) (inputs : List Limited) (old mid now : InputsState) (event : Event) → AsksAtMost old 1 mid → StopsAmong inputs mid now event → StopsAmong (first ∷ inputs) old now event
stops_after first inputs old mid now event n (inl e) = inl e
stops_after first inputs old mid now event n (inr h) =
    inr (record {
      before = first ∷ h.before;
      input = h.input;
      after = h.after;
      among = ap (λ (x : List Limited). first ∷ x) h.among;
      concerns = h.concerns;
      last_asked = h.last_asked;
      asks = record { selects = omega (arith, n.selects, h.asks.selects); ends = omega (arith, n.ends, h.asks.ends) };
    })

-- ---- inputs that are within a limit together

room_by : (limit : ℕ) (whole : List ℕ) (gave : Result (List ℕ) Event) (s : StreamRead) → and_so gave (λ bytes. Ok (record { bytes = bytes; room = limit - length whole })) ≡ Ok s → s.room ≡ limit - length whole
room_by limit whole (Ok bytes) s e = let same : record { bytes = bytes; room = limit - length whole } ≡ s = cc in sym (ap (λ (x : StreamRead). x.room) same)
room_by limit whole (Err event) s e = absurd cc

room_within : (name bytes : List ℕ) (limit : ℕ) (s : StreamRead) (b : Bool)
    → and_so (if b then Err (too_large name) else Ok bytes) (λ whole. and_so (data_in name whole) (λ given. Ok (record { bytes = given; room = limit - length whole }))) ≡ Ok s → s.room ≡ limit - length bytes
room_within name bytes limit s true e = absurd cc
room_within name bytes limit s false e = room_by limit bytes (data_in name bytes) s e

never_read : (name : List ℕ) (next : List ℕ → Result StreamRead Event) (s : StreamRead) (r : Result (List ℕ) Event) → and_so (and_so r (λ x. Err (reading_failed name))) next ≡ Ok s → ⊥
never_read name next s (Ok a) e = absurd cc
never_read name next s (Err event) e = absurd cc

room_found : (name : List ℕ) (limit : ℕ) (f : Found) (s : StreamRead)
    → and_so (taken_whole name limit f) (λ whole. and_so (data_in name whole) (λ given. Ok (record { bytes = given; room = limit - length whole }))) ≡ Ok s → s.room ≡ limit - length (bytes_found f)
room_found name limit (Held bytes) s e = room_within name bytes limit s (nat_lt limit (length bytes)) e
room_found name limit Absent s e = absurd cc
room_found name limit (Broken bytes) s e = absurd (never_read name (λ whole. and_so (data_in name whole) (λ given. Ok (record { bytes = given; room = limit - length whole }))) s (if_within name limit bytes) e)

size_found : (held : Option (List ℕ)) → length (bytes_found (input_found held)) ≡ size_of held
size_found None = refl
size_found (Some bytes) = refl

-- a stream that was read leaves no more of the limit than its bytes do
pub room_left : (contents : Option (List ℕ → Option (List ℕ))) (C : Mishap → Type 0) (name : List ℕ) (limit : ℕ) (s : StreamRead) → s.room ≤ limit
    → IsCaused (with_inputs contents None) C (λ t. stream_known t limit name) (Ok s) → s.room ≤ limit - size_in contents name
room_left contents C name limit s h c = by contents c
  where
    by : (k : Option (List ℕ → Option (List ℕ))) → IsCaused (with_inputs k None) C (λ t. stream_known t limit name) (Ok s) → s.room ≤ limit - size_in k name
    by None c = omega (arith, h)
    by (Some map) (inl q) = absurd q
    by (Some map) (inr q) = omega (arith, room_found name limit (input_found (map name)) s q.1, size_found (map name))

-- the inputs after some of them, and what may be left of the limit for them
pub record LimitsFrom (all : List Limited) (contents : Option (List ℕ → Option (List ℕ))) (count left : ℕ) (names : List (List ℕ)) : Type 0 where
  pub passed : List Limited
  pub room : ℕ
  pub as_many : length passed ≡ count
  pub enough : left ≤ room
  pub split : all ≡ passed ++ limited_together contents room names

pub limits_first : (contents : Option (List ℕ → Option (List ℕ))) (limit : ℕ) (names : List (List ℕ)) → LimitsFrom (limited_together contents limit names) contents 0 limit names
limits_first contents limit names = record { passed = []; room = limit; as_many = refl; enough = omega arith; split = refl }

pub limits_next : {X : Type 0} (f : X → List ℕ) (all : List Limited) (contents : Option (List ℕ → Option (List ℕ))) (ss : List X) (k left less : ℕ) (s : X) (name : List ℕ) → k < length ss → s ≡ get_or ss k s → name ≡ f s
    → LimitsFrom all contents k left (map f (drop k ss)) → less ≤ left - size_in contents name → LimitsFrom all contents (k + 1) less (map f (drop (k + 1) ss))
limits_next f all contents ss k left less s name h e nm l fewer =
    let eq : map f (drop k ss) ≡ name ∷ map f (drop (suc k) ss) = rw nm (left_at f ss k s h e) in
    let split = l.split ∙ ap (λ (x : List (List ℕ)). l.passed ++ limited_together contents l.room x) eq in
    let first : Limited = limited l.room name in
    rw add-one (record {
      passed = l.passed ++ first ∷ [];
      room = l.room - size_in contents name;
      as_many = omega (arith, l.as_many, length-append l.passed (first ∷ []));
      enough = omega (arith, l.enough, fewer);
      split = split ∙ sym (append_assoc l.passed (first ∷ []) (limited_together contents (l.room - size_in contents name) (map f (drop (suc k) ss))));
    })

-- where nothing is known of the streams, each may have as many bytes as all
limits_none : {X : Type 0} (f : X → List ℕ) (ss : List X) (limit k left : ℕ) → k ≤ length ss → left ≤ limit → LimitsFrom (limited_together None limit (map f ss)) None k left (map f (drop k ss))
limits_none f ss limit zero left h e = record { passed = []; room = limit; as_many = refl; enough = e; split = refl }
limits_none f [] limit (suc k) left h e = absurd (omega (arith, h))
limits_none f (s ∷ ss) limit (suc k) left h e =
    let l = limits_none f ss limit k left (omega (arith, h)) e in
    let all : limit ≡ limit - 0 = omega arith in
    let split = subst (λ (n : ℕ). limited_together None n (map f ss) ≡ l.passed ++ limited_together None l.room (map f (drop k ss))) all l.split in
    record { passed = limited limit (f s) ∷ l.passed; room = l.room; as_many = ap suc l.as_many; enough = l.enough; split = ap (λ (x : List Limited). limited limit (f s) ∷ x) split }

-- what may be left of the limit, by what is known later
pub limits_later : {X : Type 0} (f : X → List ℕ) (mid new : Option (List ℕ → Option (List ℕ))) (ss : List X) (limit k left : ℕ) → StillKnown mid new → k ≤ length ss → left ≤ limit
    → LimitsFrom (limited_together mid limit (map f ss)) mid k left (map f (drop k ss)) → LimitsFrom (limited_together new limit (map f ss)) new k left (map f (drop k ss))
limits_later f mid None ss limit k left p h e l = limits_none f ss limit k left h e
limits_later f mid (Some inputs) ss limit k left p h e l = subst (λ (c : Option (List ℕ → Option (List ℕ))). LimitsFrom (limited_together c limit (map f ss)) c k left (map f (drop k ss))) p l

-- a stream of several that isn't played
pub limits_stop : {X : Type 0} (f : X → List ℕ) (all : List Limited) (contents : Option (List ℕ → Option (List ℕ))) (ss : List X) (k left : ℕ) (s : X) (name : List ℕ) (old mid now : InputsState) (event : Event)
    → k < length ss → s ≡ get_or ss k s → name ≡ f s → LimitsFrom all contents k left (map f (drop k ss)) → AsksAtMost old k mid → AsksAtMost mid 1 now
    → IsLastAsked name left now → IsUnplayed name event → StopsAmong all old now event
limits_stop f all contents ss k left s name old mid now event h e nm l few once stands u =
    let eq : map f (drop k ss) ≡ name ∷ map f (drop (suc k) ss) = rw nm (left_at f ss k s h e) in
    let split = l.split ∙ ap (λ (x : List (List ℕ)). l.passed ++ limited_together contents l.room x) eq in
    about_among all l.passed (limited l.room name) (limited_together contents (l.room - size_in contents name) (map f (drop (suc k) ss))) old now event split (last_asked_less name left l.room now l.enough stands)
    (record { selects = omega (arith, few.selects, once.selects, l.as_many); ends = omega (arith, few.ends, once.ends, l.as_many) }) (unplayed_about name event u)
