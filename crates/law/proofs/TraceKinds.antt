-- The kinds of a trace's records, and the fault of the record at its front.
--     known_kind, unknown_kind    the machine's length for a kind, and the law's kind for a length
--     fault_found                 what stands at the front is whole, or has the fault that the machine finds
--     fault_back, fault_none      and the other way round
use mathlib.Core.Logic.{◌⊎◌, inl, inr, ⊎_elim}
use mathlib.Core.Path.{◌≡◌, refl, sym, ap, subst, ◌∙◌}
use mathlib.Core.List.{List}
use Prim.Native.Nat.{ℕ, ◌+◌, ◌*◌, ◌≤◌, ◌<◌}
use native.Mathlib.Omega.{arith}
use lib.ListN.{length, get_or}
use Rattle.octets.specs.Pick.{pick}
use Rattle.octets.proofs.Cases.{lt_or_le, eq_or_ne}
use Rattle.octets.proofs.Pick.{pick_eq, pick_ne, pick_lt, pick_ge, pick_differ, pick_same}
use Rattle.replay.specs.Trace.{kind_length, record_size, fault_of}
use Rattle.law.specs.Words.{when}
use Rattle.law.specs.Sheet.{FiveLengths}
use Rattle.law.specs.Trace.{kind_for, TracedFault}

-- what holds of the five kinds
five_kinds : (P : ℕ → Type 0) → P 0x21 → P 0x22 → P 0x23 → P 0x24 → P 0x25 → (k : ℕ) → 0x21 ≤ k → k ≤ 0x25 → P k
five_kinds P a b c d e k l u =
    ⊎_elim (λ (z : k ≡ 0x21). subst P (sym z) a) (λ (z₁ : k ≡ 0x21 → ⊥).
    ⊎_elim (λ (z : k ≡ 0x22). subst P (sym z) b) (λ (z₂ : k ≡ 0x22 → ⊥).
    ⊎_elim (λ (z : k ≡ 0x23). subst P (sym z) c) (λ (z₃ : k ≡ 0x23 → ⊥).
    ⊎_elim (λ (z : k ≡ 0x24). subst P (sym z) d) (λ (z₄ : k ≡ 0x24 → ⊥). subst P (let z : 0x25 ≡ k = omega arith in z) e)
    (eq_or_ne k 0x24)) (eq_or_ne k 0x23)) (eq_or_ne k 0x22)) (eq_or_ne k 0x21)

-- a known kind has a length, and is the kind for it
pub known_kind : (k : ℕ) → 0x21 ≤ k → k ≤ 0x25 → (1 ≤ kind_length k) × (kind_for (kind_length k) ≡ k)
unfolding kind_length pick when
known_kind = five_kinds (λ k. (1 ≤ kind_length k) × (kind_for (kind_length k) ≡ k))
    (omega arith, refl) (omega arith, refl) (omega arith, refl) (omega arith, refl) (omega arith, refl)

pub unknown_kind : (k : ℕ) → ((0x21 ≤ k) × (k ≤ 0x25) → ⊥) → kind_length k ≡ 0
unfolding kind_length
unknown_kind k n =
    let z : (j : ℕ) → 0x21 ≤ j → j ≤ 0x25 → k ≡ j → ⊥ = λ j l u e. n (omega arith, omega arith) in
    pick_ne _ _ (z 0x21 (omega arith) (omega arith)) ∙ pick_ne _ _ (z 0x22 (omega arith) (omega arith)) ∙ pick_ne _ _ (z 0x23 (omega arith) (omega arith))
    ∙ pick_ne _ _ (z 0x24 (omega arith) (omega arith)) ∙ pick_ne _ _ (z 0x25 (omega arith) (omega arith))

module _ (l : ℕ) (five : FiveLengths l) where
  -- what holds of the five lengths
  by_length : (P : ℕ → Type 0) → P 8 → P 16 → P 32 → P 48 → P 64 → P l
  by_length P a b c d e =
      ⊎_elim (λ (z : l ≡ 8). subst P (sym z) a)
      (⊎_elim (λ (z : l ≡ 16). subst P (sym z) b)
      (⊎_elim (λ (z : l ≡ 32). subst P (sym z) c)
      (⊎_elim (λ (z : l ≡ 48). subst P (sym z) d) (λ (z : l ≡ 64). subst P (sym z) e)))) five

  kind_range : (0x21 ≤ kind_for l) × (kind_for l ≤ 0x25)
  unfolding when
  kind_range = by_length (λ l. (0x21 ≤ kind_for l) × (kind_for l ≤ 0x25))
      (omega arith, omega arith) (omega arith, omega arith) (omega arith, omega arith) (omega arith, omega arith) (omega arith, omega arith)

  kind_length_lem : kind_length (kind_for l) ≡ l
  unfolding kind_length pick when
  kind_length_lem = by_length (λ l. kind_length (kind_for l) ≡ l) refl refl refl refl refl

  module _ (rest : List ℕ) where
    abbrev kind : ℕ
    kind = get_or rest 0 0

    range_or_not : ((0x21 ≤ kind) × (kind ≤ 0x25)) ⊎ ((0x21 ≤ kind) × (kind ≤ 0x25) → ⊥)
    range_or_not =
        ⊎_elim (λ (a : kind < 0x21). inr (λ q. omega (arith, q.0)))
        (λ (a : 0x21 ≤ kind).
        ⊎_elim (λ (b : 0x25 < kind). inr (λ q. omega (arith, q.1))) (λ (b : kind ≤ 0x25). inl (a, b)) (lt_or_le 0x25 kind))
        (lt_or_le kind 0x21)

    is_known : (0x21 ≤ kind) × (kind ≤ 0x25) → kind_length kind ≡ 0 → ⊥
    is_known r z = let k = (known_kind kind r.0 r.1).0 in omega arith

    -- of a known kind: its length is l exactly where it is the kind for l
    is_for : (0x21 ≤ kind) × (kind ≤ 0x25) → kind_length kind ≡ l → kind ≡ kind_for l
    is_for r e = sym (known_kind kind r.0 r.1).1 ∙ ap kind_for e

    for_is : kind ≡ kind_for l → kind_length kind ≡ l
    for_is e = ap kind_length e ∙ kind_length_lem

    pub fault_none : kind ≡ kind_for l → 1 + 2 * l ≤ length rest → fault_of l rest ≡ 0
    unfolding fault_of
    fault_none e h =
        let r : (0x21 ≤ kind) × (kind ≤ 0x25) = subst (λ (k : ℕ). (0x21 ≤ k) × (k ≤ 0x25)) (sym e) kind_range in
        pick_ne _ _ (is_known r) ∙ pick_same _ _ (for_is e) ∙ pick_ge _ _ h

    pub fault_back : (f : ℕ) → TracedFault l rest f → (fault_of l rest ≡ f) × (f ≡ 0 → ⊥)
    unfolding fault_of
    fault_back f t =
        ⊎_elim
        (λ (a : ((0x21 ≤ kind) × (kind ≤ 0x25) → ⊥) × (f ≡ 31)).
        let e = a.1 in
        (pick_eq _ _ (unknown_kind kind a.0) ∙ sym e, λ z. omega arith))
        (λ a.
        let n₁ = is_known a.0 in
        ⊎_elim
        (λ (b : (kind ≡ kind_for l → ⊥) × (f ≡ 32)).
        let e = b.1 in
        (pick_ne _ _ n₁ ∙ pick_differ _ _ (λ q. b.0 (is_for a.0 q)) ∙ sym e, λ z. omega arith))
        (λ b.
        ⊎_elim
        (λ (c : (1 + 2 * l ≤ length rest → ⊥) × (f ≡ 33)).
        let e = c.1 in
        let h : length rest < record_size l =
        ⊎_elim (λ (u : length rest < record_size l). u) (λ (u : record_size l ≤ length rest). absurd (c.0 u)) (lt_or_le (length rest) (record_size l)) in
        (pick_ne _ _ n₁ ∙ pick_same _ _ (for_is b.0) ∙ pick_lt _ _ h ∙ sym e, λ z. omega arith))
        (λ c. absurd c.1)
        b.1)
        a.1)
        t

    -- what stands at the front
    pub fault_found : ((kind ≡ kind_for l) × (1 + 2 * l ≤ length rest)) ⊎ TracedFault l rest (fault_of l rest)
    unfolding fault_of
    fault_found =
        ⊎_elim
        (λ r.
        let n₁ = is_known r in
        ⊎_elim
        (λ (e : kind ≡ kind_for l).
        ⊎_elim
        (λ (h : length rest < record_size l).
        inr (inr (r, inr (e, inl (λ u. omega arith, pick_ne _ _ n₁ ∙ pick_same _ _ (for_is e) ∙ pick_lt _ _ h)))))
        (λ (h : record_size l ≤ length rest). inl (e, h))
        (lt_or_le (length rest) (record_size l)))
        (λ (n : kind ≡ kind_for l → ⊥). inr (inr (r, inl (n, pick_ne _ _ n₁ ∙ pick_differ _ _ (λ q. n (is_for r q))))))
        (eq_or_ne kind (kind_for l)))
        (λ n. inr (inl (n, pick_eq _ _ (unknown_kind kind n))))
        range_or_not
