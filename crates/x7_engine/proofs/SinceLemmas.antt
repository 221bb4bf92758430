-- Lemmas on specs/Since: one access more.
use Rattle.std.proofs.Common.{◌≡◌, ◌⊎◌, inl, inr, Bool, false, [], ◌∷◌, ◌++◌, refl, ap, sym, subst}
use Rattle.x7_packets.specs.History.{Access, Entry, History}
use Rattle.x7_engine.specs.Since.{NoneSince, Since}

pub since_none : (Is : History → Access → Type 0) (ends : History → Access → Bool) → Since Is ends [] → ⊥
since_none Is ends s = by s.newer s.split
  where
    by : (newer : History) → [] ≡ newer ++ s.latest ∷ s.older → ⊥
    by [] p = absurd (cc)
    by (x ∷ newer) p = absurd (cc)

-- the newest access is of the kind
pub since_here : (Is : History → Access → Type 0) (ends : History → Access → Bool) (e : Entry) (h : History) → Is h e.access → Since Is ends (e ∷ h)
since_here Is ends e h i = record { newer = []; latest = e; older = h; split = refl; kind_is = i; lasts = tt }

-- the newest access doesn't end what the kind began
pub since_more : (Is : History → Access → Type 0) (ends : History → Access → Bool) (e : Entry) (h : History) → ends h e.access ≡ false → Since Is ends h → Since Is ends (e ∷ h)
since_more Is ends e h n s = record {
  newer = e ∷ s.newer;
  latest = s.latest;
  older = s.older;
  split = ap (λ (t : History). e ∷ t) s.split;
  kind_is = s.kind_is;
  lasts = (subst (λ (t : History). ends t e.access ≡ false) s.split n, s.lasts);
}

pub since_parts : (Is : History → Access → Type 0) (ends : History → Access → Bool) (e : Entry) (h : History) → Since Is ends (e ∷ h) → Is h e.access ⊎ ((ends h e.access ≡ false) × Since Is ends h)
since_parts Is ends e h s = by s.newer s.latest s.older s.split s.kind_is s.lasts
  where
    by : (newer : History) (latest : Entry) (older : History) → e ∷ h ≡ newer ++ latest ∷ older → Is older latest.access → NoneSince ends newer (latest ∷ older) → Is h e.access ⊎ ((ends h e.access ≡ false) × Since Is ends h)
    by [] latest older p i l =
        let first : e ≡ latest = cc in
        let rest : h ≡ older = cc in
        inl (subst (λ (t : History). Is t e.access) (sym rest) (subst (λ (x : Entry). Is older x.access) (sym first) i))
    by (x ∷ newer) latest older p i l =
        let first : e ≡ x = cc in
        let rest : h ≡ newer ++ latest ∷ older = cc in
        inr (
          subst (λ (t : History). ends t e.access ≡ false) (sym rest) (subst (λ (y : Entry). ends (newer ++ latest ∷ older) y.access ≡ false) (sym first) l.0),
          record { newer = newer; latest = latest; older = older; split = rest; kind_is = i; lasts = l.1 },
        )
