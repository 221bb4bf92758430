-- Lemmas on specs/Sequence: where startup begins.
use Rattle.std.proofs.Common.{◌≡◌, ◌||◌, ◌+◌, ◌-◌, ◌≤◌, inl, inr, ◌↔◌, IsTrue, ℕ, Bool, true, false, if◌then◌else◌, Option, None, Some, List, [], ◌∷◌, ◌++◌, refl, ap, sym, subst, ◌∙◌, append-nil, arith}
use Rattle.x7_packets.specs.History.{Entry, History, Placed, executes, last_word}
use Rattle.x7_packets.proofs.GrowthLemmas.{placed_within}
use Rattle.x7_startup.specs.Startup.{Begun, Call, NotBegun, StartupProgress, is_armed, progress_of, since_shutdown}
use Rattle.x7_startup.specs.Startup as call
use Rattle.x7_startup.proofs.CallLemmas.{progress_after_desync, further, is_armed_arm, is_armed_bytes, is_armed_desync, is_armed_drop, progress_arm, progress_bytes, progress_desync, progress_drop}
use Rattle.x7_engine.specs.Registers.{takes_shutdown}
use Rattle.x7_engine.specs.Sequence.{StartupBegins, Executes, IsArmed, IsArmedDesync, disarms}
use Rattle.x7_engine.specs.Since.{NoneSince, Since}
use Rattle.x7_engine.specs.Startup.{startup_call, startup_calls, startup_progress}
use Rattle.x7_engine.proofs.SequenceLemmas.{no_taking, other_executed}
use Rattle.x7_engine.proofs.SinceLemmas.{since_here, since_more, since_none, since_parts}

-- ---- armed and begun, access by access

abbrev armed_by : Bool → Bool → Bool → Bool
armed_by start ends armed = if start then true else if ends then false else armed

abbrev armed_in : History → Bool
armed_in [] = false
armed_in (e ∷ h) = armed_by (executes 5 h e.access) (disarms h e.access) (armed_in h)

-- where startup began, and COR0 as it stood there
record Beginning : Type 0 where
  cor0 : ℕ
  place : ℕ

abbrev or_now : Option Beginning → Bool → Beginning → Option Beginning
or_now (Some b) armed now = Some b
or_now None armed now = if armed then Some now else None

abbrev begun_by : Bool → Bool → Bool → Option Beginning → Beginning → Option Beginning
begun_by taken desync armed begun now = if taken then None else if desync then or_now begun armed now else begun

abbrev begun_in : History → Option Beginning
begun_in [] = None
begun_in (e ∷ h) = begun_by (takes_shutdown h e.access) (executes 13 h e.access) (armed_in h) (begun_in h) (record { cor0 = last_word 9 0 h; place = e.place })

abbrev progress_by : Option Beginning → ℕ → StartupProgress
progress_by None n = NotBegun
progress_by (Some b) n = Begun b.cor0 (n - b.place)

-- ---- armed and begun, by the calls of startup

begun_within : (h : History) (n : ℕ) (b : Beginning) → Placed n h → begun_in h ≡ Some b → b.place ≤ n
begun_within [] n b p e = absurd (cc)
begun_within (x ∷ h) n b p e = by (takes_shutdown h x.access) (executes 13 h x.access) (armed_in h) (begun_in h) (begun_within h n b (placed_within (x.place - 1) n h (omega (arith, p.1)) p.2)) e
  where
    by : (t d a : Bool) (o : Option Beginning) → (o ≡ Some b → b.place ≤ n) → begun_by t d a o (record { cor0 = last_word 9 0 h; place = x.place }) ≡ Some b → b.place ≤ n
    by true d a o f g = absurd (cc)
    by false true a (Some c) f g = f g
    by false true true None f g = let place : x.place ≡ b.place = ap place_of g in omega (arith, place, p.1)
      where
        place_of : Option Beginning → ℕ
        place_of None = 0
        place_of (Some c) = c.place
    by false true false None f g = absurd (cc)
    by false false a o f g = f g

further_by : (o : Option Beginning) (m n : ℕ) → ((b : Beginning) → o ≡ Some b → b.place ≤ m) → m ≤ n → further (n - m) (progress_by o m) ≡ progress_by o n
further_by None m n f l = refl
further_by (Some b) m n f l =
    let sum : m - b.place + (n - m) ≡ n - b.place = omega (arith, f b refl, l) in
    ap (Begun b.cor0) sum

-- with n bytes taken, the calls come to this: whether startup is armed, and where it began, if it has
record AfterCall (calls : List Call) (armed : Bool) (o : Option Beginning) (n : ℕ) : Type 0 where
  armed_is : is_armed false (since_shutdown calls) ≡ armed
  progress_is : progress_of calls ≡ progress_by o n

after_call : (h : History) (e : Entry) (a : Bool) (o : Option Beginning) → AfterCall (startup_calls h e.place) a o e.place
    → AfterCall (startup_calls h e.place ++ startup_call h e.access) (armed_by (executes 5 h e.access) (disarms h e.access) a)
    (begun_by (takes_shutdown h e.access) (executes 13 h e.access) a o (record { cor0 = last_word 9 0 h; place = e.place })) e.place
after_call h e a o s = by (executes 5 h e.access) (takes_shutdown h e.access) (executes 13 h e.access) a o s (no_taking h e.access 5 refl) (other_executed h e.access 5 13 refl)
  where
    calls : List Call
    calls = startup_calls h e.place

    now : Beginning
    now = record { cor0 = last_word 9 0 h; place = e.place }

    same : (a : Bool) (o : Option Beginning) → AfterCall calls a o e.place → AfterCall (calls ++ []) a o e.place
    same a o s = subst (λ (t : List Call). AfterCall t a o e.place) (sym (append-nil calls)) s

    began : (a : Bool) (o : Option Beginning) → AfterCall calls a o e.place → progress_after_desync (progress_of calls) (is_armed false (since_shutdown calls)) now.cor0 ≡ progress_by (or_now o a now) e.place
    began a o s = ap (λ (p : StartupProgress). progress_after_desync p (is_armed false (since_shutdown calls)) now.cor0) s.progress_is ∙ ap (λ (b : Bool). progress_after_desync (progress_by o e.place) b now.cor0) s.armed_is ∙ at_once a o
      where
        at_once : (a : Bool) (o : Option Beginning) → progress_after_desync (progress_by o e.place) a now.cor0 ≡ progress_by (or_now o a now) e.place
        at_once a (Some b) = refl
        at_once true None = let none : 0 ≡ e.place - e.place = omega arith in ap (Begun now.cor0) none
        at_once false None = refl

    by : (x t d a : Bool) (o : Option Beginning) → AfterCall calls a o e.place → (x ≡ true → t ≡ false) → (x ≡ true → d ≡ false)
        → AfterCall (calls ++ (if x then call.Arm ∷ [] else if t then call.DropBack ∷ [] else if d then call.Desync now.cor0 ∷ [] else [])) (armed_by x (d || t) a) (begun_by t d a o now) e.place
    by true true d a o s f g = absurd (let no : true ≡ false = f refl in cc)
    by true false true a o s f g = absurd (let no : true ≡ false = g refl in cc)
    by true false false a o s f g = record { armed_is = is_armed_arm calls; progress_is = progress_arm calls ∙ s.progress_is }
    by false true true a o s f g = record { armed_is = is_armed_drop calls; progress_is = progress_drop calls }
    by false true false a o s f g = record { armed_is = is_armed_drop calls; progress_is = progress_drop calls }
    by false false true a o s f g = record { armed_is = is_armed_desync calls now.cor0; progress_is = progress_desync calls now.cor0 ∙ began a o s }
    by false false false a o s f g = same a o s

after_history : (h : History) (n : ℕ) → Placed n h → AfterCall (startup_calls h n) (armed_in h) (begun_in h) n
after_history [] n p = record { armed_is = is_armed_bytes [] n; progress_is = progress_bytes [] n }
after_history (e ∷ h) n p =
    let calls : List Call = startup_calls h e.place ++ startup_call h e.access in
    let older : Placed e.place h = placed_within (e.place - 1) e.place h (omega arith) p.2 in
    let here : AfterCall calls (armed_in (e ∷ h)) (begun_in (e ∷ h)) e.place = after_call h e (armed_in h) (begun_in h) (after_history h e.place older) in
    let placed : Placed e.place (e ∷ h) = (p.0, omega arith, p.2) in
    record {
      armed_is = is_armed_bytes calls (n - e.place) ∙ here.armed_is;
      progress_is = progress_bytes calls (n - e.place) ∙ ap (further (n - e.place)) here.progress_is ∙ further_by (begun_in (e ∷ h)) e.place n (λ b. begun_within (e ∷ h) e.place b placed) p.1;
    }

-- ---- armed and begun, in the guide's words

armed_is : (h : History) → IsTrue (armed_in h) ↔ IsArmed h
armed_is [] = (λ e. absurd (cc), λ s. absurd (since_none (Executes 5) disarms s))
armed_is (e ∷ h) = by (executes 5 h e.access) (disarms h e.access) (armed_in h) refl refl (armed_is h)
  where
    by : (x l g : Bool) → executes 5 h e.access ≡ x → disarms h e.access ≡ l → (IsTrue g ↔ IsArmed h) → IsTrue (armed_by x l g) ↔ IsArmed (e ∷ h)
    by true l g d c i = (λ q. since_here (Executes 5) disarms e h d, λ s. refl)
    by false true g d c i = (
      λ q. absurd (cc),
      λ s. elim (since_parts (Executes 5) disarms e h s) [ inl k ↦ absurd (let yes : executes 5 h e.access ≡ true = k in cc) | inr k ↦ absurd (let no : disarms h e.access ≡ false = k.0 in cc) ],
    )
    by false false g d c i = (
      λ q. since_more (Executes 5) disarms e h c (i.0 q),
      λ s. elim (since_parts (Executes 5) disarms e h s) [ inl k ↦ absurd (let yes : executes 5 h e.access ≡ true = k in cc) | inr k ↦ i.1 k.1 ],
    )

-- where startup hasn't begun there is no armed DESYNC since the last shutdown taken
begun_none : (h : History) → begun_in h ≡ None → Since IsArmedDesync takes_shutdown h → ⊥
begun_none [] e s = since_none IsArmedDesync takes_shutdown s
begun_none (x ∷ h) e s = elim (since_parts IsArmedDesync takes_shutdown x h s) [
  | inl k ↦ here (takes_shutdown h x.access) (executes 13 h x.access) (armed_in h) (begun_in h) e (no_taking h x.access 13 refl k.0) k.0 ((armed_is h).1 k.1)
  | inr k ↦ more (takes_shutdown h x.access) (executes 13 h x.access) (armed_in h) (begun_in h) e k.0 (λ n. begun_none h n k.1)
]
  where
    now : Beginning
    now = record { cor0 = last_word 9 0 h; place = x.place }

    here : (t d a : Bool) (o : Option Beginning) → begun_by t d a o now ≡ None → t ≡ false → d ≡ true → a ≡ true → ⊥
    here true d a o e f g i = absurd (cc)
    here false false a o e f g i = absurd (cc)
    here false true false o e f g i = absurd (cc)
    here false true true (Some b) e f g i = absurd (cc)
    here false true true None e f g i = absurd (cc)

    more : (t d a : Bool) (o : Option Beginning) → begun_by t d a o now ≡ None → t ≡ false → (o ≡ None → ⊥) → ⊥
    more true d a o e f g = absurd (cc)
    more false d a None e f g = g refl
    more false true a (Some b) e f g = absurd (cc)
    more false false a (Some b) e f g = absurd (cc)

record BeganAt (h : History) (b : Beginning) : Type 0 where
  begins : StartupBegins h
  cor0_is : b.cor0 ≡ last_word 9 0 begins.older
  place_is : b.place ≡ begins.desync.place

-- where startup began stays so with a later access that takes no shutdown
began_on : (h : History) (x : Entry) (b : Beginning) → takes_shutdown h x.access ≡ false → BeganAt h b → BeganAt (x ∷ h) b
began_on h x b t s =
    let g : StartupBegins h = s.begins in
    record {
      begins = record {
        newer = x ∷ g.newer;
        desync = g.desync;
        older = g.older;
        split = ap (λ (r : History). x ∷ r) g.split;
        armed = g.armed;
        lasts = (subst (λ (r : History). takes_shutdown r x.access ≡ false) g.split t, g.lasts);
        first = g.first;
      };
      cor0_is = s.cor0_is;
      place_is = s.place_is;
    }

began : (h : History) (b : Beginning) → begun_in h ≡ Some b → BeganAt h b
began [] b e = absurd (cc)
began (x ∷ h) b e = by (takes_shutdown h x.access) (executes 13 h x.access) (armed_in h) (begun_in h) refl refl refl refl (began h b) e
  where
    by : (t d a : Bool) (o : Option Beginning) → takes_shutdown h x.access ≡ t → executes 13 h x.access ≡ d → armed_in h ≡ a → begun_in h ≡ o → (begun_in h ≡ Some b → BeganAt h b)
        → begun_by t d a o (record { cor0 = last_word 9 0 h; place = x.place }) ≡ Some b → BeganAt (x ∷ h) b
    by true d a o u v w y f g = absurd (cc)
    by false true a (Some c) u v w y f g = began_on h x b u (f (y ∙ g))
    by false false a (Some c) u v w y f g = began_on h x b u (f (y ∙ g))
    by false false a None u v w y f g = absurd (cc)
    by false true false None u v w y f g = absurd (cc)
    by false true true None u v w y f g =
        let same : record { cor0 = last_word 9 0 h; place = x.place } ≡ b = cc in
        record {
          begins = record {
            newer = [];
            desync = x;
            older = h;
            split = refl;
            armed = (v, (armed_is h).0 w);
            lasts = tt;
            first = begun_none h y;
          };
          cor0_is = sym (ap (λ (z : Beginning). z.cor0) same);
          place_is = sym (ap (λ (z : Beginning). z.place) same);
        }

-- the first armed DESYNC since the last shutdown taken begins startup
begun_at : (newer older : History) (e : Entry) → IsArmedDesync older e.access → (Since IsArmedDesync takes_shutdown older → ⊥) → NoneSince takes_shutdown newer (e ∷ older)
    → begun_in (newer ++ e ∷ older) ≡ Some (record { cor0 = last_word 9 0 older; place = e.place })
begun_at [] older e s f l = by (takes_shutdown older e.access) (executes 13 older e.access) (armed_in older) (begun_in older) refl (no_taking older e.access 13 refl s.0) s.0 ((armed_is older).1 s.1)
  where
    now : Beginning
    now = record { cor0 = last_word 9 0 older; place = e.place }

    by : (t d a : Bool) (o : Option Beginning) → begun_in older ≡ o → t ≡ false → d ≡ true → a ≡ true → begun_by t d a o now ≡ Some now
    by true d a o y t d' a' = absurd (cc)
    by false false a o y t d' a' = absurd (cc)
    by false true false o y t d' a' = absurd (cc)
    by false true true None y t d' a' = refl
    by false true true (Some b) y t d' a' =
        let g : StartupBegins older = (began older b y).begins in
        absurd (f (record { newer = g.newer; latest = g.desync; older = g.older; split = g.split; kind_is = g.armed; lasts = g.lasts }))
begun_at (x ∷ newer) older e s f l =
    by (takes_shutdown (newer ++ e ∷ older) x.access) (executes 13 (newer ++ e ∷ older) x.access) (armed_in (newer ++ e ∷ older)) (begun_in (newer ++ e ∷ older)) l.0 (begun_at newer older e s f l.1)
  where
    now : Beginning
    now = record { cor0 = last_word 9 0 older; place = e.place }

    by : (t d a : Bool) (o : Option Beginning) → t ≡ false → o ≡ Some now → begun_by t d a o (record { cor0 = last_word 9 0 (newer ++ e ∷ older); place = x.place }) ≡ Some now
    by true d a o t y = absurd (cc)
    by false true a (Some b) t y = y
    by false true a None t y = absurd (cc)
    by false false a o t y = y

-- ---- where startup begins, from the calls to the guide's words and back

pub begins_by : (h : History) (n cor0 bytes : ℕ) → Placed n h → startup_progress h n ≡ Begun cor0 bytes → (b : StartupBegins h) × (cor0 ≡ last_word 9 0 b.older) × (b.desync.place + bytes ≡ n)
begins_by h n cor0 bytes p e = by (begun_in h) refl (sym (after_history h n p).progress_is ∙ e)
  where
    by : (o : Option Beginning) → begun_in h ≡ o → progress_by o n ≡ Begun cor0 bytes → (b : StartupBegins h) × (cor0 ≡ last_word 9 0 b.older) × (b.desync.place + bytes ≡ n)
    by None y g = absurd (cc)
    by (Some b) y g =
        let s : BeganAt h b = began h b y in
        let word : b.cor0 ≡ cor0 = cc in
        let count : n - b.place ≡ bytes = cc in
        (s.begins, sym word ∙ s.cor0_is, omega (arith, count, s.place_is, begun_within h n b p y))

pub begins_there : (h : History) (n : ℕ) → Placed n h → (b : StartupBegins h) → startup_progress h n ≡ Begun (last_word 9 0 b.older) (n - b.desync.place)
begins_there h n p b =
    let here : begun_in h ≡ Some (record { cor0 = last_word 9 0 b.older; place = b.desync.place }) = ap begun_in b.split ∙ begun_at b.newer b.older b.desync b.armed b.first b.lasts in
    (after_history h n p).progress_is ∙ ap (λ (o : Option Beginning). progress_by o n) here
