-- A command whose unnamed octets are zero, part by part, has no stray octet.
--     part_zero     an octet of a part that is zero
--     clear_none    the parts cover all that is not named
use mathlib.Core.Bool.{Bool, true, ◌&&◌, ◌||◌}
use mathlib.Core.Logic.{⊎_elim}
use mathlib.Core.List.{List, [], ◌∷◌}
use mathlib.Core.Path.{◌≡◌, refl, ap, ap₂, subst, ◌∙◌}
use Prim.Native.Nat.{ℕ, zero, suc, ◌+◌, ◌-◌, ◌%◌, ◌≤◌, ◌<◌, max}
use native.Mathlib.Omega.{arith}
use borrow.Author.Tests.{eq-eqb, eqb-true, lt-ltb, le-leb}
use Rattle.std.proofs.lemmas.Bool.{and_parts, or_left, or_right, cases_lt, cases_eq}
use Rattle.std.proofs.Common.{rules}
use lib.Dec.{eqb}
use lib.ListN.{length, get_or, take, drop}
use Rattle.octets.specs.Parts.{all_zero}
use Rattle.octets.specs.Pick.{pick}
use Rattle.octets.proofs.Pick.{pick_yes, pick_ge, pick_eq, pick_ne}
use Rattle.sheet.specs.declared.walk.Form.{Form}
use Rattle.sheet.specs.declared.walk.Form.TheVariants.{Enhanced, Short}
use Rattle.frame.specs.Clear.{HeadClear, unnamed_end, behind_run}
use Rattle.frame.specs.Unnamed.{run, names_for, in_run, is_named, unnamed_bits, stray_from}
use Rattle.frame.specs.declared.unnamed.Run.{Run}
use Rattle.frame.proofs.Strays.{zero_bits}

-- an octet of the first n, where these are zero
take_at : (xs : List ℕ) (n : ℕ) → all_zero (take n xs) ≡ true → (j : ℕ) → j < n → get_or xs j 0 ≡ 0
unfolding all_zero
take_at [] n e j u = refl
take_at (x ∷ xs) zero e j u = absurd (let w : ⊥ = omega arith in w)
take_at (x ∷ xs) (suc n) e zero u = eqb-true x 0 (and_parts _ _ e).0
take_at (x ∷ xs) (suc n) e (suc j) u = take_at xs n (and_parts _ _ e).1 j (omega arith)

pub part_zero : (c : List ℕ) (from to : ℕ) → all_zero (take (to - from) (drop from c)) ≡ true → (k : ℕ) → from ≤ k → k < to → get_or c k 0 ≡ 0
part_zero c zero to e k l u = take_at c to (subst (λ (n : ℕ). all_zero (take n c) ≡ true) (let q : to - 0 ≡ to = omega arith in q) e) k u
part_zero [] (suc from) to e k l u = refl
part_zero (x ∷ xs) (suc from) zero e k l u = absurd (let w : ⊥ = omega arith in w)
part_zero (x ∷ xs) (suc from) (suc to) e zero l u = absurd (let w : ⊥ = omega arith in w)
part_zero (x ∷ xs) (suc from) (suc to) e (suc k) l u =
    part_zero xs from to (subst (λ (n : ℕ). all_zero (take n (drop from xs)) ≡ true) (let q : suc to - suc from ≡ to - from = omega arith in q) e) k (omega arith) (omega arith)

module _ (form : Form) (names : List Run) where
  abbrev may_be : ℕ → ℕ → Bool
  may_be k x = is_named names k || eqb (unnamed_bits form k x) 0

  pub may_zero : (k x : ℕ) → x ≡ 0 → may_be k x ≡ true
  may_zero k x e = or_right _ _ (eq-eqb _ 0 (ap (unnamed_bits form k) e ∙ zero_bits form k))

  pub may_named : (k x : ℕ) → is_named names k ≡ true → may_be k x ≡ true
  may_named k x e = or_left _ _ e

  none_from : (k : ℕ) (xs : List ℕ) → ((j : ℕ) → j < length xs → may_be (k + j) (get_or xs j 0) ≡ true) → stray_from form names k xs ≡ 0
  unfolding stray_from
  none_from k [] all = refl
  none_from k (x ∷ xs) all =
      let here : may_be k x ≡ true = ap (λ (i : ℕ). may_be i x) (let e : k ≡ k + 0 = omega arith in e) ∙ all 0 (omega arith) in
      pick_yes _ _ here
      ∙ none_from (suc k) xs (λ j l. ap (λ (i : ℕ). may_be i (get_or xs j 0)) (let e : suc k + j ≡ k + suc j = omega arith in e) ∙ all (suc j) (omega arith))

  pub none_stray : (c : List ℕ) → ((k : ℕ) → k < length c → may_be k (get_or c k 0) ≡ true) → stray_from form names 0 c ≡ 0
  none_stray c all = none_from 0 c (λ j l. ap (λ (i : ℕ). may_be i (get_or c j 0)) (let e : 0 + j ≡ j = omega arith in e) ∙ all j l)

in_run_lem : (r : Run) (k : ℕ) → r.first ≤ k → k < r.first + r.many → in_run r k ≡ true
unfolding in_run
in_run_lem r k l u = ap₂ ◌&&◌ (le-leb r.first k l) (lt-ltb k (r.first + r.many) u)

-- an octet that stands from the first of a run on, and not behind it, is in it
before_end : (r : Run) (l k : ℕ) → k < l → r.first ≤ k → k < behind_run r l → in_run r k ≡ true
unfolding behind_run
before_end r l k u f b =
    ⊎_elim
    (λ (a : l < r.first). absurd (let w : ⊥ = omega arith in w))
    (λ (a : r.first ≤ l).
    ⊎_elim
    (λ (m : l - r.first < r.many). in_run_lem r k f (omega arith))
    (λ (m : r.many ≤ l - r.first).
    let e : behind_run r l ≡ r.first + r.many = pick_ge _ _ a ∙ pick_ge _ _ m in
    in_run_lem r k f (omega (arith, e)))
    (cases_lt (l - r.first) r.many))
    (cases_lt l r.first)

module _ (f w : Run) (k : ℕ) where
  fields_named : (form : Form) → in_run f k ≡ true → is_named (names_for form f w) k ≡ true
  unfolding is_named names_for
  fields_named Enhanced e = or_right _ _ (or_left _ _ e)
  fields_named Short e = or_right _ _ (or_right _ _ (or_left _ _ e))

  written_named : (form : Form) → in_run w k ≡ true → is_named (names_for form f w) k ≡ true
  unfolding is_named names_for
  written_named Enhanced e = or_right _ _ (or_right _ _ (or_left _ _ e))
  written_named Short e = search (rules, or_left, or_right)

  head_named_lem : k < 2 → is_named (names_for Enhanced f w) k ≡ true
  unfolding is_named names_for
  head_named_lem u = or_left _ _ (in_run_lem (run 0 2) k (omega arith) (omega arith))

  code_named : k ≡ 0 → is_named (names_for Short f w) k ≡ true
  unfolding is_named names_for
  code_named e = or_left _ _ (in_run_lem (run 0 1) k (omega arith) (omega arith))

  wdt_named : k ≡ 15 → is_named (names_for Short f w) k ≡ true
  unfolding is_named names_for
  wdt_named e = or_right _ _ (or_left _ _ (in_run_lem (run 15 1) k (omega arith) (omega arith)))

module _ (f w : Run) (c : List ℕ) where
  -- the octets before the fields
  head_may : (form : Form) → HeadClear form c → (k : ℕ) → k < 4 → (is_named (names_for form f w) k || eqb (unnamed_bits form k (get_or c k 0)) 0) ≡ true
  unfolding HeadClear unnamed_bits
  head_may Enhanced h zero u = may_named Enhanced (names_for Enhanced f w) 0 (get_or c 0 0) (head_named_lem f w 0 (omega arith))
  head_may Enhanced h (suc zero) u = may_named Enhanced (names_for Enhanced f w) 1 (get_or c 1 0) (head_named_lem f w 1 (omega arith))
  head_may Enhanced h (suc (suc zero)) u = or_right _ _ (eq-eqb _ 0 (pick_eq {m = 2} {n = 2} (get_or c 2 0 % 64) (get_or c 2 0) refl ∙ h.0))
  head_may Enhanced h (suc (suc (suc zero))) u = may_zero Enhanced (names_for Enhanced f w) 3 (get_or c 3 0) h.1
  head_may Enhanced h (suc (suc (suc (suc k)))) u = absurd (let z : ⊥ = omega arith in z)
  head_may Short h zero u = may_named Short (names_for Short f w) 0 (get_or c 0 0) (code_named f w 0 refl)
  head_may Short h (suc k) u = may_zero Short (names_for Short f w) (suc k) (get_or c (suc k) 0) (h (suc k) (omega arith) u)

  -- those behind the last part that could be named
  end_may : (form : Form) (k : ℕ) → k < length c → unnamed_end form (length c) ≤ k → is_named (names_for form f w) k ≡ true
  unfolding unnamed_end
  end_may Enhanced k u l = absurd (let z : ⊥ = omega arith in z)
  end_may Short k u l =
      ⊎_elim
      (λ (e : length c ≡ 16). let p : pick (eqb (length c) 16) 15 (length c) ≡ 15 = pick_eq _ _ e in wdt_named f w k (omega (arith, p)))
      (λ (e : length c ≡ 16 → ⊥). absurd (let p : pick (eqb (length c) 16) 15 (length c) ≡ length c = pick_ne _ _ e in let z : ⊥ = omega (arith, p) in z))
      (cases_eq (length c) 16)

  module _ (form : Form) (first second last end : ℕ) where
    abbrev l : ℕ
    l = length c

    abbrev Zero : ℕ → ℕ → Type 0
    Zero from to = (k : ℕ) → from ≤ k → k < to → get_or c k 0 ≡ 0

    pub clear_none : first ≡ behind_run f l → second ≡ behind_run w l → last ≡ max first second → end ≡ unnamed_end form l
        → HeadClear form c → Zero 4 f.first → Zero first w.first → Zero last end → stray_from form (names_for form f w) 0 c ≡ 0
    clear_none at_first at_second at_last at_end head one two three =
        none_stray form (names_for form f w) c (λ k u.
        ⊎_elim (λ (a : k < 4). head_may form head k a)
        (λ (a : 4 ≤ k).
        ⊎_elim (λ (b : k < f.first). may_zero form (names_for form f w) k (get_or c k 0) (one k a b))
        (λ (b : f.first ≤ k).
        ⊎_elim (λ (d : k < first). may_named form (names_for form f w) k (get_or c k 0) (fields_named f w k form (before_end f l k u b (omega (arith, at_first)))))
        (λ (d : first ≤ k).
        ⊎_elim (λ (e : k < w.first). may_zero form (names_for form f w) k (get_or c k 0) (two k d e))
        (λ (e : w.first ≤ k).
        ⊎_elim (λ (g : k < second). may_named form (names_for form f w) k (get_or c k 0) (written_named f w k form (before_end w l k u e (omega (arith, at_second)))))
        (λ (g : second ≤ k).
        ⊎_elim (λ (i : k < end). may_zero form (names_for form f w) k (get_or c k 0) (three k (omega arith) i))
        (λ (i : end ≤ k). may_named form (names_for form f w) k (get_or c k 0) (end_may form k u (omega (arith, at_end))))
        (cases_lt k end))
        (cases_lt k second))
        (cases_lt k w.first))
        (cases_lt k first))
        (cases_lt k f.first))
        (cases_lt k 4))
