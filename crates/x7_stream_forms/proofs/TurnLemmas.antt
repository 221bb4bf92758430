-- A listing that is written turn by turn.
use Rattle.std.proofs.Common.{length-append, arith, inl, inr, ◌≡◌, ℕ, ◌+◌, ◌<◌, Bool, true, List, [], ◌∷◌, ◌++◌, false, IfErr, OnOk, Option, None, Some, Ok, Err, length, refl, ap, sym, subst, ◌∙◌, append_assoc, append-nil, Result}
use Rattle.x7_words.specs.Sink.{SinkState, appended, PutsPrefix}
use Rattle.x7_words.specs.Word.{AreBytes}
use Rattle.x7_words.proofs.SinkLemmas.{appended_appended, appended_nil, prefix_more}
use Rattle.x7_packets.specs.ByHand.{reading_of}
use Rattle.x7_packets.proofs.ByHandLemmas.{reading_is}
use Rattle.x7_listing.specs.Listing.{IsListing, listing_of, reading_text}
use Rattle.x7_listing.specs.StreamListing.{stream_listing}
use Rattle.x7_listing.specs.Lister.{HasFinished, ListerStandsFor, ListerState}
use Rattle.x7_listing.proofs.PrefixLemmas.{listed_prefix}
use Rattle.x7_words.specs.Input.{InputsState, AtEnd, RestIsWhole, InputsStay, preceded}
use Rattle.x7_words.proofs.ListLemmas.{all_append, all_back}
use Rattle.x7_forms.specs.Step.{CameIn, result_by, step_over}
use Rattle.x7_forms.specs.declared.refusal.Refusal.{Refusal}
use Rattle.x7_forms.specs.Event.{Event, event_of, reading_failed, too_large, writing_failed}
use Rattle.x7_forms.specs.Known.{Mishap, input_found, stream_limit, with_inputs}
use Rattle.x7_outcome.specs.Ending.{FailsOutLast, ListsSoFar}
use Rattle.x7_stream_forms.specs.Between.{IsUnlisted, ListsInTurns, ListsStream}
use Rattle.x7_forms.specs.Turn.{FollowsUnlessLast, UnreadToEnd}
use Rattle.x7_stream_forms.proofs.Causes.{Ended, PutsListed, broken, ends_same, faulted, oversized, unwritten}
use Rattle.x7_forms.proofs.ReadLemmas.{IsAt, at_fault, known_all, whole_later}
use Rattle.x7_outcome.proofs.FeedLemmas.{taken_more}

-- the listing is the one that is found
pub listing_is : (bytes text : List ℕ) → IsListing bytes text → text ≡ listing_of bytes
listing_is bytes text l =
    let same = reading_is bytes l.sessions l.place l.reading in
    l.text_is ∙ ap (λ s. reading_text s l.place) same.0 ∙ ap (λ p. reading_text (reading_of bytes).sessions p) same.1

-- the bytes of which a lister has listed are bytes
stands_fit : (l : ListerState) (given bytes : List ℕ) → ListerStandsFor l given [] bytes → AreBytes bytes
stands_fit l given bytes stands = stands.has_listed.cut.reading.fits

-- what was put is a prefix of the listing of the bytes and any that may follow
pub lists_prefix : (l : ListerState) (first now : Option (List ℕ)) (bytes rest : List ℕ) → ListsInTurns l first now bytes → AreBytes (bytes ++ rest) → PutsPrefix first (listing_of (bytes ++ rest)) now
lists_prefix l first now bytes rest t fits =
    let prefix = listed_prefix l t.given bytes rest t.stands fits in
    (t.given, (prefix.0, prefix.1 ∙ ap (λ x. (t.given ++ x) ++ prefix.0) t.clear ∙ ap (λ x. x ++ prefix.0) (append-nil t.given), t.put))

-- what was put is a prefix of the listing of the bytes
pub lists_here : (l : ListerState) (first now : Option (List ℕ)) (bytes : List ℕ) → ListsInTurns l first now bytes → PutsPrefix first (listing_of bytes) now
lists_here l first now bytes t =
    let fits : AreBytes (bytes ++ []) = rw (append-nil bytes) (stands_fit l t.given bytes t.stands) in
    let prefix = lists_prefix l first now bytes [] t fits in
    let all : bytes ++ [] ≡ bytes = append-nil bytes in
    rw all at prefix

-- a turn that fed a piece, wrote its text and cleared it
pub lists_more : (l fed clear : ListerState) (first mid now : Option (List ℕ)) (bytes piece text : List ℕ) → ListsInTurns l first mid bytes
    → ((given before taken : List ℕ) → ListerStandsFor l given before taken → ListerStandsFor fed given before (taken ++ piece)) → text ≡ fed.text → now ≡ appended mid text → clear.text ≡ []
    → ((given before taken : List ℕ) → ListerStandsFor fed given before taken → ListerStandsFor clear (given ++ fed.text) before taken) → ListsInTurns clear first now (bytes ++ piece)
lists_more l fed clear first mid now bytes piece text t feeds same put none clears = record {
  given = t.given ++ fed.text;
  stands = clears t.given [] (bytes ++ piece) (feeds t.given [] bytes t.stands);
  put = rw (put, t.put, same) (appended_appended first t.given fed.text);
  clear = none;
}

-- a turn whose text was written in part
pub lists_part : (l fed : ListerState) (first mid now : Option (List ℕ)) (bytes piece rest text : List ℕ) → ListsInTurns l first mid bytes
    → ((given before taken : List ℕ) → ListerStandsFor l given before taken → ListerStandsFor fed given before (taken ++ piece)) → text ≡ fed.text → PutsPrefix mid text now → AreBytes (bytes ++ (piece ++ rest))
    → PutsPrefix first (listing_of (bytes ++ (piece ++ rest))) now
lists_part l fed first mid now bytes piece rest text t feeds same prefix fits =
    let all : (bytes ++ piece) ++ rest ≡ bytes ++ (piece ++ rest) = append_assoc bytes piece rest in
    let fits2 : AreBytes ((bytes ++ piece) ++ rest) = rw all fits in
    let known = listed_prefix fed t.given (bytes ++ piece) rest (feeds t.given [] bytes t.stands) fits2 in
    let here : listing_of (bytes ++ (piece ++ rest)) ≡ t.given ++ (text ++ known.0) = ap listing_of (sym all) ∙ known.1 ∙ append_assoc t.given fed.text known.0 ∙ ap (λ x. t.given ++ (x ++ known.0)) (sym same) in
    rw here (prefix_more first mid now t.given text known.0 t.put prefix)

-- the end of a listing was written
pub end_put : (l done : ListerState) (first mid now : Option (List ℕ)) (bytes text : List ℕ) → ListsInTurns l first mid bytes
    → ((given before taken : List ℕ) → ListerStandsFor l given before taken → HasFinished done given before taken) → text ≡ done.text → now ≡ appended mid text → now ≡ appended first (listing_of bytes)
end_put l done first mid now bytes text t ends same put =
    let f = ends t.given [] bytes t.stands in
    let whole : t.given ++ text ≡ listing_of bytes = ap (λ x. t.given ++ x) same ∙ f.listed ∙ listing_is bytes f.listing f.listing_is in
    rw (put, t.put) (appended_appended first t.given text) ∙ ap (appended first) whole

-- the end of a listing was written in part
pub end_part : (l done : ListerState) (first mid now : Option (List ℕ)) (bytes text : List ℕ) → ListsInTurns l first mid bytes
    → ((given before taken : List ℕ) → ListerStandsFor l given before taken → HasFinished done given before taken) → text ≡ done.text → PutsPrefix mid text now → PutsPrefix first (listing_of bytes) now
end_part l done first mid now bytes text t ends same prefix =
    let f = ends t.given [] bytes t.stands in
    let whole : listing_of bytes ≡ t.given ++ (text ++ []) = sym (ap (λ x. t.given ++ x) (append-nil text ∙ same) ∙ f.listed ∙ listing_is bytes f.listing f.listing_is) in
    rw whole (prefix_more first mid now t.given text [] t.put prefix)

-- what a lister that was fed all of a stream's data lists
pub whole_text : (l fed done : ListerState) (content text : List ℕ) → ListerStandsFor l [] [] [] → ((given before taken : List ℕ) → ListerStandsFor l given before taken → ListerStandsFor fed given before (taken ++ content))
    → ((given before taken : List ℕ) → ListerStandsFor fed given before taken → HasFinished done given before taken) → text ≡ done.text → text ≡ listing_of content
whole_text l fed done content text stands feeds ends same =
    let f = ends [] [] content (feeds [] [] [] stands) in
    same ∙ f.listed ∙ listing_is content f.listing f.listing_is

-- a line that was put, and a prefix of a text after it, are a prefix of the line and the text
pub line_prefix : (first now : Option (List ℕ)) (line text : List ℕ) → PutsPrefix (appended first line) text now → PutsPrefix first (line ++ text) now
line_prefix first now line text p = subst (λ t. PutsPrefix first (line ++ t) now) (append-nil text) (prefix_more first (appended first line) now line text [] refl p)

-- the listing of a whole stream
pub stream_whole : (bytes line content : List ℕ) → stream_listing (bytes ++ []) ≡ Ok (line ++ listing_of (content ++ [])) → stream_listing bytes ≡ Ok (line ++ listing_of content)
stream_whole bytes line content e = ap stream_listing (sym (append-nil bytes)) ∙ e ∙ ap (λ s. Ok (line ++ listing_of s)) (append-nil content)

-- a lister that begins after a line
pub begins_after : (l : ListerState) (old mid : Option (List ℕ)) (line : List ℕ) → ListerStandsFor l [] [] [] → l.text ≡ [] → mid ≡ appended old line → ListsInTurns l (appended old line) mid []
begins_after l old mid line stands clear e = record { given = []; stands = stands; put = e ∙ sym (appended_nil (appended old line)); clear = clear }

-- a line and then a text that were put are the line and the text
pub line_then : (first now : Option (List ℕ)) (line text : List ℕ) → now ≡ appended (appended first line) text → now ≡ appended first (line ++ text)
line_then first now line text e = e ∙ appended_appended first line text

-- the text that a stream has is one
one_text : (all given : List ℕ) (r : Result (List ℕ) ℕ) → r ≡ Ok given → r ≡ Ok all → given ≡ all
one_text all given r g e = let same : Ok given ≡ r = sym g in cc

-- what was put is a prefix of the listing of every stream that begins with these bytes
pub stream_so_far : (l : ListerState) (first now : Option (List ℕ)) (bytes : List ℕ) → ListsStream l first now bytes → ListsSoFar bytes first now
stream_so_far l first now bytes t = record {
  has_listing = λ rest. (t.line ++ listing_of (t.content ++ rest), t.listing rest);
  puts_prefix = λ rest text fits e.
      let all_fit : AreBytes (t.content ++ rest) = all_append (λ b. b < 256) t.content rest (stands_fit l t.lists.given t.content t.lists.stands) fits in
      let prefix = line_prefix first now t.line (listing_of (t.content ++ rest)) (lists_prefix l (appended first t.line) now t.content rest t.lists all_fit) in
      subst (λ (x : List ℕ). PutsPrefix first x now) (one_text text (t.line ++ listing_of (t.content ++ rest)) (stream_listing (bytes ++ rest)) (t.listing rest) e) prefix;
}

-- a prefix of the listing of a stream that may go on, put while its first data are listed
pub prefix_so_far : (taken line content : List ℕ) (old now : Option (List ℕ)) → AreBytes content → ((left : List ℕ) → stream_listing (taken ++ left) ≡ Ok (line ++ listing_of (content ++ left)))
    → ((left : List ℕ) → AreBytes (content ++ left) → PutsPrefix old (line ++ listing_of (content ++ left)) now) → ListsSoFar taken old now
prefix_so_far taken line content old now fits g p = record {
  has_listing = λ rest. (line ++ listing_of (content ++ rest), g rest);
  puts_prefix = λ rest text more e.
      subst (λ (x : List ℕ). PutsPrefix old x now) (one_text text (line ++ listing_of (content ++ rest)) (stream_listing (taken ++ rest)) (g rest) e) (p rest (all_append (λ b. b < 256) content rest fits more));
}

-- a stream that goes on
pub goes_on : (bytes piece line content : List ℕ) → ((rest : List ℕ) → stream_listing (bytes ++ rest) ≡ Ok (line ++ listing_of (content ++ rest))) → (rest : List ℕ) → stream_listing ((bytes ++ piece) ++ rest) ≡ Ok (line ++ listing_of ((content ++ piece) ++ rest))
goes_on bytes piece line content g rest = ap stream_listing (append_assoc bytes piece rest) ∙ g (piece ++ rest) ∙ ap (λ s. Ok (line ++ listing_of s)) (sym (append_assoc content piece rest))

-- a sink that failed in a turn
pub write_failed : (contents : Option (List ℕ → Option (List ℕ))) (flash : Option (List ℕ)) (C : Mishap → Type 0) (stream taken piece same : List ℕ) (l : ListerState) (rest : Option (List ℕ)) (Full : Type 0) (old mid now : Option (List ℕ))
    → same ≡ piece → RestIsWhole contents stream (preceded (taken ++ piece) rest) → Full → (t : ListsStream l old mid taken) → AreBytes same → ((left : List ℕ) → AreBytes (t.content ++ (same ++ left)) → PutsPrefix (appended old t.line) (listing_of (t.content ++ (same ++ left))) now)
    → Ended (with_inputs contents flash) C stream Full old now (Err writing_failed)
write_failed contents flash C stream taken piece same l rest Full old mid now e s f t fits p =
    let content_fits : AreBytes t.content = stands_fit l t.lists.given t.content t.lists.stands in
    let q : (left : List ℕ) → AreBytes left → PutsListed ((taken ++ piece) ++ left) old now
    = λ left fit.
    let prefix : PutsPrefix (appended old t.line) (listing_of (t.content ++ (piece ++ left))) now = subst (λ x. PutsPrefix (appended old t.line) (listing_of (t.content ++ (x ++ left))) now) e
    (p left (all_append (λ b. b < 256) t.content (same ++ left) content_fits (all_append (λ b. b < 256) same left fits fit))) in
    (t.line ++ listing_of (t.content ++ (piece ++ left)), (ap stream_listing (append_assoc taken piece left) ∙ t.listing (piece ++ left), line_prefix old now t.line (listing_of (t.content ++ (piece ++ left))) prefix)) in
    let here : PutsListed (taken ++ piece) old now = subst (λ x. PutsListed x old now) (append-nil (taken ++ piece)) (q [] tt) in
    unwritten contents flash C stream (taken ++ piece) rest false Full old now s (λ l. absurd cc) f here (λ left m fit. q left (all_back (λ b. b < 256) (taken ++ piece) left fit))

-- what was put at the beginning of a stream
pub prefix_here : (taken line content : List ℕ) (last : Bool) (old now : Option (List ℕ)) → AreBytes content → ((left : List ℕ) → FollowsUnlessLast last left → stream_listing (taken ++ left) ≡ Ok (line ++ listing_of (content ++ left)))
    → ((left : List ℕ) → AreBytes (content ++ left) → PutsPrefix old (line ++ listing_of (content ++ left)) now) → PutsListed taken old now
prefix_here taken line content last old now fits g p =
    let put : PutsPrefix old (line ++ listing_of content) now = subst (λ s. PutsPrefix old (line ++ listing_of s) now) (append-nil content) (p [] (subst AreBytes (sym (append-nil content)) fits)) in
    (line ++ listing_of content, (stream_whole taken line content (g [] (λ l. refl)), put))

-- a sink that failed at the beginning of a stream
pub prefix_failed : (contents : Option (List ℕ → Option (List ℕ))) (flash : Option (List ℕ)) (C : Mishap → Type 0) (stream taken line content : List ℕ) (rest : Option (List ℕ)) (last : Bool) (Full : Type 0) (old now : Option (List ℕ))
    → RestIsWhole contents stream (preceded taken rest) → (last ≡ true → AtEnd rest) → Full → AreBytes content → ((left : List ℕ) → FollowsUnlessLast last left → stream_listing (taken ++ left) ≡ Ok (line ++ listing_of (content ++ left)))
    → ((left : List ℕ) → AreBytes (content ++ left) → PutsPrefix old (line ++ listing_of (content ++ left)) now) → Ended (with_inputs contents flash) C stream Full old now (Err writing_failed)
prefix_failed contents flash C stream taken line content rest last Full old now s e f fits g p =
    let q : (left : List ℕ) → FollowsUnlessLast last left → AreBytes left → PutsListed (taken ++ left) old now
    = λ left m fit. (line ++ listing_of (content ++ left), (g left m, p left (all_append (λ b. b < 256) content left fits fit))) in
    let here : PutsListed taken old now = prefix_here taken line content last old now fits g p in
    unwritten contents flash C stream taken rest last Full old now s e f here (λ left m fit. q left m (all_back (λ b. b < 256) taken left fit))

-- a sink that failed at the end
pub end_failed : (contents : Option (List ℕ → Option (List ℕ))) (flash : Option (List ℕ)) (C : Mishap → Type 0) (stream taken : List ℕ) (rest : Option (List ℕ)) (Full : Type 0) (old now : Option (List ℕ))
    → RestIsWhole contents stream (preceded taken rest) → AtEnd rest → Full → PutsListed taken old now → Ended (with_inputs contents flash) C stream Full old now (Err writing_failed)
end_failed None flash C stream taken rest Full old now s e f p = (refl, f, (p.0, p.1.1))
end_failed (Some inputs) flash C stream taken rest Full old now s e f p =
    let all = known_all inputs stream taken rest s in
    let none : all.0 ≡ [] = let end = rw all.1.0 at e in end in
    (refl, f, (taken, (ap input_found (all.1.1 ∙ ap (λ t. Some (taken ++ t)) none ∙ ap Some (append-nil taken)), λ fits. p)))

-- a turn that could not be read
pub unread_end : (s m n : InputsState) (flash : Option (List ℕ)) (stream taken : List ℕ) (l : ListerState) (left : ℕ) (Full : Type 0) (old now : Option (List ℕ)) (event : Event)
    → InputsStay s m → InputsStay m n → RestIsWhole m.contents stream (preceded taken m.rest) → IsAt stream taken m → ListsStream l old now taken → length taken + left ≡ stream_limit → UnreadToEnd m stream n left event → n.asked ≡ m.asked
    → Ended (with_inputs n.contents flash) (CameIn (step_over (stream ∷ []) s n)) stream Full old now (Err event)
unread_end s m n flash stream taken l left Full old now event f later sel a t k (inl h) q =
    let here = whole_later m.contents n.contents stream (preceded taken m.rest) later.map sel in
    let fault = at_fault s m n stream taken left f a h.1 q in
    ends_same (with_inputs n.contents flash) (CameIn (step_over (stream ∷ []) s n)) stream Full old now event (reading_failed stream) h.0
    (broken n.contents flash (CameIn (step_over (stream ∷ []) s n)) stream taken m.rest Full old now here (faulted s n flash stream fault.0 (omega (arith, fault.1, k))) (stream_so_far l old now taken t))
unread_end s m n flash stream taken l left Full old now event f later sel a t k (inr h) q =
    let here = whole_later m.contents n.contents stream (preceded taken m.rest) later.map sel in
    let piece = h.1.0 in
    let over : stream_limit < length (taken ++ piece) = omega (arith, length-append taken piece, h.1.1.1, k) in
    ends_same (with_inputs n.contents flash) (CameIn (step_over (stream ∷ []) s n)) stream Full old now event (too_large stream) h.0
    (oversized n.contents flash (CameIn (step_over (stream ∷ []) s n)) stream (taken ++ piece) taken n.rest m.rest Full old now (taken_more m n stream taken piece later sel h.1.1.0) here
    (λ more. (t.line ++ listing_of ((t.content ++ piece) ++ more), goes_on taken piece t.line t.content t.listing more)) over (stream_so_far l old now taken t))

-- ---- the output fails last

-- where nothing more was listed, memory was wanting, or the output failed
pub unlisted_last : (first mid new : SinkState) (event : Event) → IsUnlisted mid new event → FailsOutLast {A = Bool} first new (Err event)
unlisted_last first mid new event (inl h) = inl h.0
unlisted_last first mid new event (inr h) = inr (inl h.0)

-- a call that ended the listing
pub fails_last : {A : Type 0} (first mid new : SinkState) (r : Result A Refusal) → IfErr r (λ x. IsUnlisted mid new (event_of x)) → OnOk r (new.faults ≡ first.faults) → FailsOutLast first new (result_by (λ _. false) r)
fails_last first mid new (Ok a) err ok = ok
fails_last first mid new (Err x) err ok = unlisted_last first mid new (event_of x) err
