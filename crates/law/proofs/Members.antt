-- What one more record at the head of one list, or of both, makes a difference. Records behind it are of another kind or key.
use mathlib.Core.Logic.{◌⊎◌, inl, inr, ⊎_elim}
use mathlib.Core.Path.{◌≡◌, refl, sym, ap, ap₂, subst₂, ◌∙◌}
use mathlib.Core.List.{List, ◌∷◌}
use Prim.Native.Nat.{ℕ}
use Rattle.law.specs.Difference.{Entry, Change, gone, new, changed, bits_of, Has, Differs}
use Rattle.law.proofs.Ranks.{has_in}

kinds : {x y : Entry} → x ≡ y → x.kind ≡ y.kind
kinds p = ap (λ (z : Entry). z.kind) p

keys : {x y : Entry} → x ≡ y → x.key ≡ y.key
keys p = ap (λ (z : Entry). z.key) p

has_of : {k l e f : ℕ} (es : List Entry) → k ≡ l → e ≡ f → Has k e es → Has l f es
has_of es p q h = subst₂ (λ (k e : ℕ). Has k e es) p q h

-- a record that only the first list has
module _ (x : Entry) (xs ys : List Entry) (other : Has x.kind x.key ys → ⊥) where
  pub gone_here : Differs (x ∷ xs) ys (gone x.kind x.key)
  unfolding Differs
  gone_here = (inl (refl, refl), other)

  pub gone_more : (c : Change) → Differs xs ys c → Differs (x ∷ xs) ys c
  unfolding Differs
  gone_more (gone k e) d = (inr d.0, d.1)
  gone_more (new y) d =
      (d.0, λ h. ⊎_elim (λ p. other (has_in x.kind x.key y ys (sym p.0) (sym p.1) d.0)) (λ j. d.1 j) h)
  gone_more (changed b y) d = let w = d.1 in (d.0, (w.0, inr w.1, w.2, w.3, w.4, w.5))

  pub gone_less : (c : Change) → Differs (x ∷ xs) ys c → (c ≡ gone x.kind x.key) ⊎ Differs xs ys c
  unfolding Differs
  gone_less (gone k e) d = ⊎_elim (λ p. inl (ap₂ gone p.0 p.1)) (λ h. inr (h, d.1)) d.0
  gone_less (new y) d = inr (d.0, λ h. d.1 (inr h))
  gone_less (changed b y) d =
      let w = d.1 in
      ⊎_elim (λ p. absurd (other (has_in x.kind x.key y ys (sym (kinds p) ∙ w.2) (sym (keys p) ∙ w.3) d.0)))
      (λ j. inr (d.0, (w.0, j, w.2, w.3, w.4, w.5))) w.1

-- a record that only the second list has
module _ (y : Entry) (xs ys : List Entry) (other : Has y.kind y.key xs → ⊥) where
  pub new_here : Differs xs (y ∷ ys) (new y)
  unfolding Differs
  new_here = (inl refl, other)

  pub new_more : (c : Change) → Differs xs ys c → Differs xs (y ∷ ys) c
  unfolding Differs
  new_more (gone k e) d = (d.0, λ h. ⊎_elim (λ p. other (has_of xs p.0 p.1 d.0)) (λ j. d.1 j) h)
  new_more (new z) d = (inr d.0, d.1)
  new_more (changed b z) d = (inr d.0, d.1)

  pub new_less : (c : Change) → Differs xs (y ∷ ys) c → (c ≡ new y) ⊎ Differs xs ys c
  unfolding Differs
  new_less (gone k e) d = inr (d.0, λ h. d.1 (inr h))
  new_less (new z) d = ⊎_elim (λ p. inl (ap new p)) (λ i. inr (i, d.1)) d.0
  new_less (changed b z) d =
      let w = d.1 in
      ⊎_elim (λ p. absurd (other (has_in y.kind y.key w.0 xs (sym (w.2 ∙ kinds p)) (sym (w.3 ∙ keys p)) w.1)))
      (λ i. inr (i, w)) d.0

-- two records of one kind and key
module _ (x y : Entry) (xs ys : List Entry) (kind : x.kind ≡ y.kind) (key : x.key ≡ y.key)
    (first : Has x.kind x.key xs → ⊥) (second : Has x.kind x.key ys → ⊥) where
  pub both_here : (x ≡ y → ⊥) → Differs (x ∷ xs) (y ∷ ys) (changed (bits_of x y) y)
  unfolding Differs
  both_here n = (inl refl, (x, inl refl, kind, key, n, refl))

  pub both_more : (c : Change) → Differs xs ys c → Differs (x ∷ xs) (y ∷ ys) c
  unfolding Differs
  both_more (gone k e) d =
      (inr d.0, λ h. ⊎_elim (λ p. first (has_of xs (p.0 ∙ sym kind) (p.1 ∙ sym key) d.0)) (λ j. d.1 j) h)
  both_more (new z) d =
      (inr d.0, λ h. ⊎_elim (λ p. second (has_in x.kind x.key z ys (sym p.0) (sym p.1) d.0)) (λ j. d.1 j) h)
  both_more (changed b z) d = let w = d.1 in (inr d.0, (w.0, inr w.1, w.2, w.3, w.4, w.5))

  pub both_less : (c : Change) → Differs (x ∷ xs) (y ∷ ys) c → ((x ≡ y → ⊥) × (c ≡ changed (bits_of x y) y)) ⊎ Differs xs ys c
  unfolding Differs
  both_less (gone k e) d = ⊎_elim (λ p. absurd (d.1 (inl (p.0 ∙ kind, p.1 ∙ key)))) (λ h. inr (h, λ q. d.1 (inr q))) d.0
  both_less (new z) d = ⊎_elim (λ p. absurd (d.1 (inl (kinds p ∙ sym kind, keys p ∙ sym key)))) (λ i. inr (i, λ h. d.1 (inr h))) d.0
  both_less (changed b z) d =
      let w = d.1 in
      ⊎_elim
      (λ p.
      ⊎_elim (λ q. inl (λ r. w.4 (q ∙ r ∙ sym p), ap₂ changed (w.5 ∙ ap₂ bits_of q p) p))
      (λ j. absurd (first (has_in x.kind x.key w.0 xs (kind ∙ sym (w.2 ∙ kinds p)) (key ∙ sym (w.3 ∙ keys p)) j)))
      w.1)
      (λ i.
      ⊎_elim (λ q. absurd (second (has_in x.kind x.key z ys (sym (kinds q) ∙ w.2) (sym (keys q) ∙ w.3) i)))
      (λ j. inr (i, (w.0, j, w.2, w.3, w.4, w.5)))
      w.1)
      d.0
