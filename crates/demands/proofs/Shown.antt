-- What becomes of a command does not depend on octets without the read right.
--     held_same     what is read of a readable span
--     fate_same     and so the whole fate
use mathlib.Core.Bool.{true, false, and-eq-true_iff}
use mathlib.Core.Logic.{⊎_elim}
use mathlib.Core.Path.{◌≡◌, refl, sym, ap, ap₂, ◌∙◌}
use mathlib.Core.List.{List, [], ◌∷◌}
use Prim.Native.Nat.{ℕ, zero, suc, ◌+◌}
use native.Mathlib.Omega.{arith}
use lib.Dec.{eqb}
use lib.ListN.{get_or, drop}
use lib.Seq.{get_or-drop}
use Rattle.octets.proofs.Cases.{decided}
use Rattle.law.specs.Words.{when, Every, one_of, Piece, piece}
use Rattle.law.specs.Sheet.{PduType, enhanced, short, Sheet}
use Rattle.law.specs.State.{link}
use Rattle.law.specs.Memory.{Cell, cells, readable, has, has_all, held_at, held}
use Rattle.law.specs.Table.{Check, check, Run, Row, row, table_of, table, parameter, address, n}
use Rattle.law.specs.Exchange.{fate, code, missed, checked, judged, fate_of, failing, passing, Fate}
use Rattle.law.proofs.Laid.{when_yes, when_no}
use Rattle.demands.specs.Writes.{cell_at}
use Rattle.demands.specs.Places.{Holds}
use Rattle.demands.proofs.Fates.{done_row}

-- two memories agree where the cells are readable
abbrev pub AgreeShown : List Cell → List ℕ → List ℕ → Type 0
AgreeShown cs m₁ m₂ = (i : ℕ) → readable (cell_at cs i).rights ≡ true → get_or m₁ i 0 ≡ get_or m₂ i 0

behind_first : (x : Cell) (xs : List Cell) (m₁ m₂ : List ℕ) → AgreeShown (x ∷ xs) m₁ m₂ → AgreeShown xs (drop 1 m₁) (drop 1 m₂)
behind_first x xs m₁ m₂ agree i r =
    let k : (m : List ℕ) → get_or (drop 1 m) i 0 ≡ get_or m (suc i) 0 = λ m. get_or-drop 1 m i 0 ∙ ap (λ (j : ℕ). get_or m j 0) (let e : 1 + i ≡ suc i = omega arith in e) in
    k m₁ ∙ agree (suc i) r ∙ sym (k m₂)

at_same : (cs : List Cell) (m₁ m₂ : List ℕ) (a : ℕ) → AgreeShown cs m₁ m₂ → has readable cs a ≡ true → held_at cs m₁ a ≡ held_at cs m₂ a
unfolding has held_at
at_same [] m₁ m₂ a agree e = refl
at_same (x ∷ xs) m₁ m₂ a agree e =
    ⊎_elim
    (λ (t : eqb x.address a ≡ true). when_yes _ _ t ∙ agree 0 (sym (when_yes _ _ t) ∙ e) ∙ sym (when_yes _ _ t))
    (λ (t : eqb x.address a ≡ false).
    when_no _ _ t ∙ at_same xs (drop 1 m₁) (drop 1 m₂) a (behind_first x xs m₁ m₂ agree) (sym (when_no _ _ t) ∙ e) ∙ sym (when_no _ _ t))
    (decided (eqb x.address a))

pub held_same : (cs : List Cell) (m₁ m₂ : List ℕ) (a k : ℕ) → AgreeShown cs m₁ m₂ → has_all readable cs a k ≡ true → held cs m₁ a k ≡ held cs m₂ a k
unfolding has_all held
held_same cs m₁ m₂ a zero agree e = refl
held_same cs m₁ m₂ a (suc k) agree e =
    let p = (and-eq-true_iff (has readable cs a) (has_all readable cs (suc a) k)).0 e in
    ap₂ ◌∷◌ (at_same cs m₁ m₂ a agree p.0) (held_same cs m₁ m₂ (suc a) k agree p.1)

-- two rows that do the same where their checks hold
record Twin (r₁ r₂ : Row) : Type 0 where
  pub code : r₁.code ≡ r₂.code
  pub links : r₁.links ≡ r₂.links
  pub checks : r₁.checks ≡ r₂.checks
  pub done : Every Holds r₁.checks → done_row r₁ ≡ done_row r₂

abbrev Twins : List Row → List Row → Type 0
Twins [] rs = rs ≡ []
Twins (r ∷ rs) [] = ⊥
Twins (r ∷ rs) (q ∷ qs) = Twin r q × Twins rs qs

checked_same : (s : List ℕ) (ks : List Check) (r₁ r₂ : Row) → (Every Holds ks → done_row r₁ ≡ done_row r₂) → checked s ks r₁ ≡ checked s ks r₂
unfolding checked
checked_same s [] r₁ r₂ go = go tt
checked_same s (k ∷ ks) r₁ r₂ go =
    ⊎_elim
    (λ (t : k.holds ≡ true). when_yes _ _ t ∙ checked_same s ks r₁ r₂ (λ all. go (t, all)) ∙ sym (when_yes _ _ t))
    (λ (t : k.holds ≡ false). when_no _ _ t ∙ sym (when_no _ _ t))
    (decided k.holds)

judged_same : (s : List ℕ) (code : ℕ) (rs qs : List Row) → Twins rs qs → judged s code rs ≡ judged s code qs
unfolding judged
judged_same s code [] qs e = ap (judged s code) (sym e)
judged_same s code (r ∷ rs) [] e = absurd e
judged_same s code (r ∷ rs) (q ∷ qs) (t, ts) =
    let first = checked_same s (check (one_of (link s) r.links) 12 0 ∷ r.checks) r q (λ all. t.done all.1)
    ∙ ap₂ (λ (ls : List ℕ) (ks : List Check). checked s (check (one_of (link s) ls) 12 0 ∷ ks) q) t.links t.checks in
    let rest = judged_same s code rs qs ts in
    λ i. when (eqb code (t.code i)) (first i) (rest i)

-- two reads of the same octets
read_row : {k : ℕ} {links : List ℕ} {named : List Run} {checks : List Check} {echo : Piece} {from : ℕ} {x y : List ℕ} → (Every Holds checks → x ≡ y)
    → Twin (row k links named checks [] (echo ∷ piece from x ∷ []) []) (row k links named checks [] (echo ∷ piece from y ∷ []) [])
read_row {echo = echo} {from} e =
    record { code = refl; links = refl; checks = refl; done = λ all. ap (λ (z : List ℕ). fate 0 0 [] (echo ∷ piece from z ∷ []) []) (e all) }

same_row : (r : Row) → Twin r r
same_row r = record { code = refl; links = refl; checks = refl; done = λ all. refl }

module _ (h : Sheet) (s m₁ m₂ c : List ℕ) (agree : AgreeShown (cells h.regions) m₁ m₂) where
  -- the rows that read
  twins_of : (pdu : PduType) → Twins (table_of h s m₁ c pdu) (table_of h s m₂ c pdu)
  twins_of enhanced =
      (same_row _, (read_row (λ all. held_same (cells h.regions) m₁ m₂ (parameter h s m₁ c).address (parameter h s m₁ c).size agree all.1.1.1.1.0), (same_row _, (same_row _, (same_row _, (same_row _, (same_row _, (same_row _, (same_row _, (read_row (λ all. held_same (cells h.regions) m₁ m₂ (address h s m₁ c) (n h s m₁ c) agree all.1.1.1.1.1.0), (same_row _, refl)))))))))))
  twins_of short =
      (same_row _, (read_row (λ all. held_same (cells h.regions) m₁ m₂ (parameter h s m₁ c).address (parameter h s m₁ c).size agree all.1.1.1.1.0), (same_row _, (same_row _, (same_row _, (same_row _, (same_row _, (same_row _, (same_row _, refl)))))))))

  twins : Twins (table h s m₁ c) (table h s m₂ c)
  twins = twins_of h.pdu

  pub row_same : judged s (code c) (table h s m₁ c) ≡ judged s (code c) (table h s m₂ c)
  row_same = judged_same s (code c) (table h s m₁ c) (table h s m₂ c) twins

  pub fate_same : fate_of h s m₁ c ≡ fate_of h s m₂ c
  unfolding fate_of
  fate_same = ap (λ (f : Fate). when (missed h s c) (failing h s) (passing f)) row_same
