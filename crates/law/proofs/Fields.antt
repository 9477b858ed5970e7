-- A command's fields and the entries that they name: the machine's tests and the law's.
use mathlib.Core.Bool.{Bool, true, false, not, ◌&&◌, ◌||◌}
use mathlib.Core.Logic.{◌⊎◌, inl, inr, ⊎_elim}
use mathlib.Core.Path.{◌≡◌, refl, sym, ap, ap₂, subst, ◌∙◌}
use mathlib.Core.List.{List, [], ◌∷◌, map}
use Prim.Native.Nat.{ℕ, suc, ◌+◌, ◌*◌, ◌/◌, ◌%◌, ◌≤◌, ◌<◌}
use native.Mathlib.Omega.{arith}
use borrow.Author.Tests.{lt-ltb, le-ltb, le-leb, lt-leb, eq-eqb, ne_eqb}
use lib.Dec.{eqb, leb, ltb}
use lib.ListN.{get_or}
use Rattle.std.specs.Prelude.{None, Some}
use Rattle.std.proofs.lemmas.Bool.{and_left, and_right, agree_below_at}
use Rattle.octets.specs.Numbers.{le2_at, le4_at}
use Rattle.octets.proofs.Cases.{lt_or_le, eq_or_ne}
use Rattle.law.specs.Words.{number_at, one_of, bit}
use Rattle.law.specs.Sheet.{Parameter as Param}
use Rattle.law.specs.Table.{com_mod, parameter_of as param_of, element}
use Rattle.machine.specs.Connecting.{com_mod_fits, com_time_fits}
use Rattle.machine.specs.Judging.{element_of}
use Rattle.octets.proofs.Pick.{pick_yes, pick_no, pick_eq, pick_ne, pick_differ, pick_same}
use Rattle.sheet.specs.Entries.{sought, sought_parameter}
use Rattle.law.proofs.Laid.{when_yes, when_no}
use Rattle.law.proofs.Layouts.{as_parameter}

-- two tests
pub less_not : (a b : ℕ) → ltb a b ≡ not (leb b a)
less_not a b = ⊎_elim (λ (l : a < b). lt-ltb a b l ∙ ap not (sym (lt-leb b a l))) (λ (l : b ≤ a). le-ltb a b l ∙ ap not (sym (le-leb b a l))) (lt_or_le a b)

-- at most `most`, where that is told otherwise
pub less_most : {most other : ℕ} (n : ℕ) → most ≡ other → ltb other n ≡ not (leb n most)
less_most {most} {other} n e = less_not other n ∙ ap (λ (k : ℕ). not (leb n k)) (sym e)

pub none_not : (n : ℕ) → eqb n 0 ≡ not (leb 1 n)
none_not n =
    ⊎_elim (λ (e : n ≡ 0). eq-eqb n 0 e ∙ ap not (sym (lt-leb 1 n (omega arith)))) (λ (e : n ≡ 0 → ⊥). ne_eqb n 0 e ∙ ap not (sym (le-leb 1 n (omega arith))))
    (eq_or_ne n 0)

pub two_octets : (c : List ℕ) (i : ℕ) → le2_at c i ≡ number_at c i 2
two_octets c i = ap (λ (n : ℕ). get_or c i 0 + 256 * n) (ap (λ (k : ℕ). get_or c k 0) (let e : i + 1 ≡ suc i = omega arith in e) ∙ (let e : get_or c (suc i) 0 ≡ get_or c (suc i) 0 + 256 * 0 = omega arith in e))

-- com_mod
small : (x : ℕ) → x < 16 → com_mod_fits x ≡ com_mod x
unfolding com_mod_fits
small x l = agree_below_at com_mod_fits com_mod 16 x refl l

not_mods : (x : ℕ) → (x ≡ 0 → ⊥) → (x ≡ 2 → ⊥) → (x ≡ 6 → ⊥) → com_mod x ≡ false
not_mods x z y w = ap₂ ◌||◌ (ne_eqb x 0 z) (ap₂ ◌||◌ (ne_eqb x 2 y) (ap (λ (b : Bool). b || false) (ne_eqb x 6 w)))

pub com_mod_lem : (x : ℕ) → com_mod_fits x ≡ com_mod x
unfolding com_mod_fits
com_mod_lem x =
    ⊎_elim (λ (l : x < 16). small x l) (λ (l : 16 ≤ x).
    let q : eqb (x / 16) 0 ≡ false = ne_eqb (x / 16) 0 (λ e. omega arith) in
    and_left _ _ (and_left _ _ (and_right (eqb (x % 2) 0) _ q))
    ∙ sym (not_mods x (λ e. omega arith) (λ e. omega arith) (λ e. omega arith))) (lt_or_le x 16)

pub com_mods : (x : ℕ) → com_mod x ≡ true → (x ≡ 0) ⊎ ((x ≡ 2) ⊎ (x ≡ 6))
com_mods x e =
    ⊎_elim (λ (z : x ≡ 0). inl z) (λ (z : x ≡ 0 → ⊥). ⊎_elim (λ (y : x ≡ 2). inr (inl y)) (λ (y : x ≡ 2 → ⊥). ⊎_elim (λ (w : x ≡ 6). inr (inr w)) (λ (w : x ≡ 6 → ⊥).
    let q : com_mod x ≡ false = not_mods x z y w in
    cc) (eq_or_ne x 6)) (eq_or_ne x 2)) (eq_or_ne x 0)

pub com_time_lem : (x t : ℕ) → (x ≡ 0) ⊎ ((x ≡ 2) ⊎ (x ≡ 6)) → com_time_fits x t ≡ leb 1 t && (not (bit x 2) || leb 2 t)
unfolding com_time_fits
com_time_lem x t three =
    let P : ℕ → Type 0 = λ x. com_time_fits x t ≡ leb 1 t && (not (bit x 2) || leb 2 t) in
    ⊎_elim (λ (e : x ≡ 0). subst P (sym e) refl) (⊎_elim (λ (e : x ≡ 2). subst P (sym e) refl) (λ (e : x ≡ 6). subst P (sym e) refl)) three

-- the parameter of a number
pub param_found : (ps : List Param) (n : ℕ) → one_of n (map (λ (p : Param). p.number) ps) ≡ true
    → sought_parameter (map as_parameter ps) n ≡ Some (as_parameter (param_of ps n))
unfolding sought param_of
param_found [] n e = cc
param_found (p ∷ ps) n e =
    ⊎_elim (λ (q : p.number ≡ n). pick_eq _ _ q ∙ ap (λ (x : Param). Some (as_parameter x)) (sym (when_yes _ _ (eq-eqb p.number n q))))
    (λ (q : p.number ≡ n → ⊥).
    let f : eqb n p.number ≡ false = ne_eqb n p.number (λ x. q (sym x)) in
    pick_ne _ _ q ∙ param_found ps n (sym (ap (λ (b : Bool). b || one_of n (map (λ (p : Param). p.number) ps)) f) ∙ e)
    ∙ ap (λ (x : Param). Some (as_parameter x)) (sym (when_no _ _ (ne_eqb p.number n q))))
    (eq_or_ne p.number n)

pub param_missing : (ps : List Param) (n : ℕ) → one_of n (map (λ (p : Param). p.number) ps) ≡ false
    → sought_parameter (map as_parameter ps) n ≡ None
unfolding sought
param_missing [] n e = refl
param_missing (p ∷ ps) n e =
    ⊎_elim (λ (q : p.number ≡ n). absurd (let f = eq-eqb n p.number (sym q) in
    let g : true ≡ false = sym (ap (λ (b : Bool). b || one_of n (map (λ (p : Param). p.number) ps)) f) ∙ e in
    cc))
    (λ (q : p.number ≡ n → ⊥).
    let f : eqb n p.number ≡ false = ne_eqb n p.number (λ x. q (sym x)) in
    pick_ne _ _ q ∙ param_missing ps n (sym (ap (λ (b : Bool). b || one_of n (map (λ (p : Param). p.number) ps)) f) ∙ e))
    (eq_or_ne p.number n)

pub four_octets : (c : List ℕ) (i : ℕ) → le4_at c i ≡ number_at c i 4
four_octets c i =
    let at : (j k : ℕ) → j ≡ k → get_or c j 0 ≡ get_or c k 0 = λ j k e. ap (λ (n : ℕ). get_or c n 0) e in
    let a = at (i + 1) (suc i) (omega arith) in
    let b = at (i + 2) (suc (suc i)) (omega arith) in
    let d = at (i + 3) (suc (suc (suc i))) (omega arith) in
    omega arith

-- octet 5 of the memory commands
pub elements : (x : ℕ) → element_of x ≡ element x
unfolding element_of
elements x =
    ⊎_elim (λ (e : x ≡ 17). rw e (pick_no _ _ refl ∙ pick_yes _ _ refl ∙ sym (when_yes _ _ refl)))
    (λ (a : x ≡ 17 → ⊥).
    ⊎_elim (λ (e : x ≡ 33). rw e (pick_no _ _ refl ∙ pick_no _ _ refl ∙ pick_yes _ _ refl ∙ sym (when_no _ _ refl ∙ when_yes _ _ refl)))
    (λ (b : x ≡ 33 → ⊥).
    ⊎_elim (λ (e : x ≡ 49). rw e (pick_no _ _ refl ∙ pick_no _ _ refl ∙ pick_no _ _ refl ∙ pick_yes _ _ refl ∙ sym (when_no _ _ refl ∙ when_no _ _ refl ∙ when_yes _ _ refl)))
    (λ (d : x ≡ 49 → ⊥).
    ⊎_elim (λ (e : x % 16 ≡ 1 → ⊥). pick_differ _ _ e)
    (λ (e : x % 16 ≡ 1).
    pick_same _ _ e ∙ pick_ne _ _ (λ (f : x / 16 ≡ 1). a (omega arith)) ∙ pick_ne _ _ (λ (f : x / 16 ≡ 2). b (omega arith)) ∙ pick_ne _ _ (λ (f : x / 16 ≡ 3). d (omega arith)))
    (⊎_elim (λ (e : x % 16 ≡ 1). inr e) (λ (e : x % 16 ≡ 1 → ⊥). inl e) (eq_or_ne (x % 16) 1))
    ∙ sym (when_no _ _ (ne_eqb x 17 a) ∙ when_no _ _ (ne_eqb x 33 b) ∙ when_no _ _ (ne_eqb x 49 d)))
    (eq_or_ne x 49))
    (eq_or_ne x 33))
    (eq_or_ne x 17)
