-- Where the octets of a span stand in the memory.
--     spot_rights     an octet's rights are those that the search over rights goes by
--     mapped_spot     a mapped octet has a place
--     spot_inside     a place is inside the memory of the regions
--     span_places     the octets of a mapped span stand one after another
--     span_inside     and inside the memory
use mathlib.Core.Bool.{true, false, false≢true}
use mathlib.Core.Logic.{⊎_elim}
use mathlib.Core.Path.{◌≡◌, refl, sym, ap, subst, ◌∙◌}
use mathlib.Core.List.{List, [], ◌∷◌}
use Prim.Native.Nat.{ℕ, zero, suc, ◌+◌, ◌-◌, ◌<◌, ◌≤◌}
use native.Mathlib.Nat.{add-zero, add-suc}
use native.Mathlib.Omega.{arith}
use Rattle.octets.proofs.Cases.{decided}
use Rattle.octets.proofs.Pick.{pick_yes, pick_no}
use Rattle.regions.specs.Apart.{Apart}
use Rattle.regions.specs.Region.{holds_of, gives_of}
use Rattle.regions.specs.Search.{At, Nowhere, total_of, spot_of, grants_of, before_of}
use Rattle.regions.specs.declared.Region.{Region}
use Rattle.regions.specs.declared.Right.{Right}
use Rattle.regions.specs.declared.Right.TheVariants.{Mapped}
use Rattle.regions.proofs.Bounds.{holds_bounds, past_misses, misses_past}
use Rattle.regions.proofs.Spans.{all_before}

-- an octet has a place, whichever rights stand there
abbrev pub Stands : List Region → ℕ → ℕ → ℕ → Type 0
Stands rs base a p = (x : ℕ) × (spot_of rs base a ≡ At p x)

no_spot : {p x : ℕ} → Nowhere ≡ At p x → ⊥
no_spot e = let z : ◌≡◌ {A = ℕ} 0 1 = cc in omega arith

same_place : {p q x y : ℕ} → At p x ≡ At q y → p ≡ q
same_place e = cc

same_rights : {p q x y : ℕ} → At p x ≡ At q y → x ≡ y
same_rights e = cc

module _ (r : Region) (rs : List Region) (base a : ℕ) where
  spot_yes : holds_of r a ≡ true → spot_of (r ∷ rs) base a ≡ At (base + (a - r.start)) r.rights
  unfolding spot_of
  spot_yes h = pick_yes _ _ h

  spot_no : holds_of r a ≡ false → spot_of (r ∷ rs) base a ≡ spot_of rs (base + r.length) a
  unfolding spot_of
  spot_no h = pick_no _ _ h

  grants_yes : (w : Right) → holds_of r a ≡ true → grants_of (r ∷ rs) w a ≡ gives_of r.rights w
  unfolding grants_of
  grants_yes w h = pick_yes _ _ h

  grants_no : (w : Right) → holds_of r a ≡ false → grants_of (r ∷ rs) w a ≡ grants_of rs w a
  unfolding grants_of
  grants_no w h = pick_no _ _ h

pub spot_rights : (rs : List Region) (base a p x : ℕ) (w : Right) → spot_of rs base a ≡ At p x → grants_of rs w a ≡ gives_of x w
unfolding spot_of
spot_rights [] base a p x w e = absurd (no_spot e)
spot_rights (r ∷ rs) base a p x w e =
    ⊎_elim
    (λ h. grants_yes r rs base a w h ∙ ap (λ (y : ℕ). gives_of y w) (same_rights (sym (spot_yes r rs base a h) ∙ e)))
    (λ h. grants_no r rs base a w h ∙ spot_rights rs (base + r.length) a p x w (sym (spot_no r rs base a h) ∙ e))
    (decided (holds_of r a))

pub mapped_spot : (rs : List Region) (base a : ℕ) → grants_of rs Mapped a ≡ true → (p : ℕ) × Stands rs base a p
unfolding grants_of
mapped_spot [] base a g = absurd (false≢true g)
mapped_spot (r ∷ rs) base a g =
    ⊎_elim
    (λ h. (base + (a - r.start), (r.rights, spot_yes r rs base a h)))
    (λ h.
    let later = mapped_spot rs (base + r.length) a (sym (grants_no r rs base a Mapped h) ∙ g) in
    (later.0, (later.1.0, spot_no r rs base a h ∙ later.1.1)))
    (decided (holds_of r a))

pub spot_inside : (rs : List Region) (base a p x : ℕ) → spot_of rs base a ≡ At p x → (base ≤ p) × (p < base + total_of rs)
unfolding spot_of total_of
spot_inside [] base a p x e = absurd (no_spot e)
spot_inside (r ∷ rs) base a p x e =
    ⊎_elim
    (λ h.
    let b = holds_bounds r a h in
    let q = same_place (sym (spot_yes r rs base a h) ∙ e) in
    (omega arith, omega arith))
    (λ h.
    let k = spot_inside rs (base + r.length) a p x (sym (spot_no r rs base a h) ∙ e) in
    (omega arith, omega arith))
    (decided (holds_of r a))

-- an octet with a place is at or past the end that the regions are apart from
spot_from : (end : ℕ) (rs : List Region) → Apart end rs → (base a p x : ℕ) → spot_of rs base a ≡ At p x → end ≤ a
unfolding spot_of
spot_from end [] d base a p x e = absurd (no_spot e)
spot_from end (r ∷ rs) d base a p x e =
    ⊎_elim
    (λ h. let b = holds_bounds r a h in omega (arith, d.0))
    (λ h. let k = spot_from (r.start + r.length) rs d.2 (base + r.length) a p x (sym (spot_no r rs base a h) ∙ e) in omega (arith, d.0))
    (decided (holds_of r a))

-- a mapped octet at that very end is the first of the next region, and stands at its first place
spot_first : (end : ℕ) (rs : List Region) → Apart end rs → (base : ℕ) → grants_of rs Mapped end ≡ true → Stands rs base end base
unfolding grants_of
spot_first end [] d base g = absurd (false≢true g)
spot_first end (r ∷ rs) d base g =
    ⊎_elim
    (λ h.
    let b = holds_bounds r end h in
    let q : base + (end - r.start) ≡ base = omega (arith, d.0) in
    (r.rights, spot_yes r rs base end h ∙ rw q refl))
    (λ h.
    let later = mapped_spot rs base end (sym (grants_no r rs base end Mapped h) ∙ g) in
    let k = spot_from (r.start + r.length) rs d.2 base end later.0 later.1.0 later.1.1 in
    absurd (omega (arith, d.0, d.1)))
    (decided (holds_of r end))

-- the octet behind one that has a place, if mapped, has the next place
spot_next : (end : ℕ) (rs : List Region) → Apart end rs → (base a p : ℕ) → Stands rs base a p → grants_of rs Mapped (suc a) ≡ true
    → Stands rs base (suc a) (suc p)
unfolding spot_of
spot_next end [] d base a p s g = absurd (no_spot s.1)
spot_next end (r ∷ rs) d base a p s g =
    ⊎_elim
    (λ h.
    let b = holds_bounds r a h in
    let q = same_place (sym (spot_yes r rs base a h) ∙ s.1) in
    ⊎_elim
    (λ k.
    let n : base + (suc a - r.start) ≡ suc p = omega arith in
    (r.rights, spot_yes r rs base (suc a) k ∙ rw n refl))
    (λ k.
    let f = misses_past r (suc a) k (omega arith) in
    let z : r.start + r.length ≡ suc a = omega arith in
    let n : base + r.length ≡ suc p = omega arith in
    let t = spot_first (suc a) rs (subst (λ (x : ℕ). Apart x rs) z d.2) (base + r.length) (sym (grants_no r rs base (suc a) Mapped k) ∙ g) in
    (t.0, spot_no r rs base (suc a) k ∙ t.1 ∙ rw n refl))
    (decided (holds_of r (suc a))))
    (λ h.
    let there = sym (spot_no r rs base a h) ∙ s.1 in
    let l = spot_from (r.start + r.length) rs d.2 (base + r.length) a p s.0 there in
    let k = past_misses r (suc a) (omega arith) in
    let t = spot_next (r.start + r.length) rs d.2 (base + r.length) a p (s.0, there) (sym (grants_no r rs base (suc a) Mapped k) ∙ g) in
    (t.0, spot_no r rs base (suc a) k ∙ t.1))
    (decided (holds_of r a))

module _ (end : ℕ) (rs : List Region) (d : Apart end rs) (base a p n : ℕ) (s : Stands rs base a p) (all : before_of rs Mapped a n ≡ n) where
  pub span_places : (j : ℕ) → j < n → Stands rs base (a + j) (p + j)
  span_places zero h = rw (add-zero a, add-zero p) s
  span_places (suc j) h =
      rw (add-suc a j, add-suc p j)
      (spot_next end rs d base (a + j) (p + j) (span_places j (omega arith)) (all_before rs Mapped a n all (suc (a + j)) (omega arith) (omega arith)))

  pub span_inside : 1 ≤ n → p + n ≤ base + total_of rs
  span_inside h =
      let t = span_places (n - 1) (omega arith) in
      let k = spot_inside rs base (a + (n - 1)) (p + (n - 1)) t.0 t.1 in
      omega arith
