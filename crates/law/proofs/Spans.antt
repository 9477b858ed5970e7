-- The cells of the regions, and the machine's search.
use mathlib.Core.Bool.{Bool, true, false, ◌&&◌}
use mathlib.Core.Logic.{⊎_elim}
use mathlib.Core.Path.{◌≡◌, refl, sym, ap, ap₂, ◌∙◌}
use mathlib.Core.List.{List, [], ◌∷◌, ◌++◌, map}
use Prim.Native.Nat.{ℕ, zero, suc, ◌+◌, ◌≤◌, ◌<◌}
use native.Mathlib.Omega.{arith}
use borrow.Author.Tests.{lt-ltb, le-ltb, le-leb, lt-leb, eq-eqb, ne_eqb}
use lib.Dec.{eqb, leb, ltb}
use Rattle.octets.specs.Pick.{pick}
use Rattle.octets.proofs.Cases.{lt_or_le, eq_or_ne}
use Rattle.law.specs.Words.{when}
use Rattle.law.specs.Sheet.{Region as Area}
use Rattle.law.specs.Memory.{Cell, cells_from, cells, has, has_all, has_before}
use Rattle.regions.specs.Region.{holds_of, gives_of}
use Rattle.regions.specs.Search.{grants_of, before_of, span_has}
use Rattle.regions.specs.declared.Right.{Right}
use Rattle.law.proofs.Laid.{when_yes, when_no}
use Rattle.law.proofs.Layouts.{as_region}

pub when_pick {ℓ} : {A : Type ℓ} (b : Bool) {x y u v : A} → x ≡ u → y ≡ v → when b x y ≡ pick b u v
unfolding when pick
when_pick true p q = p
when_pick false p q = q

-- a run of cells has the addresses from its start on
abbrev pub inside : ℕ → ℕ → ℕ → Bool
inside start n a = leb start a && ltb a (start + n)

pub inside_none : (start a : ℕ) → inside start 0 a ≡ false
inside_none start a =
    ⊎_elim (λ (l : a < start). ap (λ (b : Bool). b && ltb a (start + 0)) (lt-leb start a l))
    (λ (l : start ≤ a). ap₂ ◌&&◌ (le-leb start a l) (le-ltb a (start + 0) (omega arith))) (lt_or_le a start)

pub inside_first : (start n a : ℕ) → start ≡ a → inside start (suc n) a ≡ true
inside_first start n a e = ap₂ ◌&&◌ (le-leb start a (omega arith)) (lt-ltb a (start + suc n) (omega arith))

pub inside_later : (start n a : ℕ) → (start ≡ a → ⊥) → inside start (suc n) a ≡ inside (suc start) n a
inside_later start n a z =
    ⊎_elim (λ (l : a < start). ap (λ (b : Bool). b && ltb a (start + suc n)) (lt-leb start a l) ∙ sym (ap (λ (b : Bool). b && ltb a (suc start + n)) (lt-leb (suc start) a (omega arith))))
    (λ (l : start ≤ a).
    let u : suc start ≤ a = ⊎_elim (λ (k : a < suc start). absurd (z (omega arith))) (λ (k : suc start ≤ a). k) (lt_or_le a (suc start)) in
    ap₂ ◌&&◌ (le-leb start a l ∙ sym (le-leb (suc start) a u)) (ap (ltb a) (let e : start + suc n ≡ suc start + n = omega arith in e)))
    (lt_or_le a start)

pub has_run : (q : ℕ → Bool) (start n rights : ℕ) (rest : List Cell) (a : ℕ)
    → has q (cells_from start n rights ++ rest) a ≡ when (inside start n a) (q rights) (has q rest a)
unfolding has
has_run q start zero rights rest a = sym (when_no _ _ (inside_none start a))
has_run q start (suc n) rights rest a =
    ⊎_elim (λ (e : start ≡ a). when_yes _ _ (eq-eqb start a e) ∙ sym (when_yes _ _ (inside_first start n a e)))
    (λ (z : start ≡ a → ⊥).
    when_no _ _ (ne_eqb start a z) ∙ has_run q (suc start) n rights rest a
    ∙ ap (λ (b : Bool). when b (q rights) (has q rest a)) (sym (inside_later start n a z)))
    (eq_or_ne start a)

pub has_grants : (q : ℕ → Bool) (w : Right) → ((x : ℕ) → q x ≡ gives_of x w) → (rs : List Area) (a : ℕ) → has q (cells rs) a ≡ grants_of (map as_region rs) w a
unfolding has grants_of holds_of
has_grants q w same [] a = refl
has_grants q w same (r ∷ rs) a =
    has_run q r.start r.length r.rights (cells rs) a ∙ when_pick (inside r.start r.length a) (same r.rights) (has_grants q w same rs a)

all_step : (b c : Bool) (k n : ℕ) → eqb k n ≡ c → b && c ≡ eqb (pick b (suc k) 0) (suc n)
unfolding pick
all_step true c k n e =
    sym e ∙ ⊎_elim (λ (q : k ≡ n). eq-eqb k n q ∙ sym (eq-eqb (suc k) (suc n) (omega arith)))
    (λ (q : k ≡ n → ⊥). ne_eqb k n q ∙ sym (ne_eqb (suc k) (suc n) (λ p. q (omega arith)))) (eq_or_ne k n)
all_step false c k n e = sym (ne_eqb 0 (suc n) (λ p. omega arith))

pub all_span : (q : ℕ → Bool) (w : Right) → ((x : ℕ) → q x ≡ gives_of x w) → (rs : List Area) (a n : ℕ) → has_all q (cells rs) a n ≡ span_has (map as_region rs) w a n
unfolding has_all before_of
all_span q w same rs a zero = refl
all_span q w same rs a (suc n) =
    ap₂ ◌&&◌ (has_grants q w same rs a) (all_span q w same rs (suc a) n)
    ∙ all_step (grants_of (map as_region rs) w a) (span_has (map as_region rs) w (suc a) n) (before_of (map as_region rs) w (suc a) n) n refl

pub before_span : (q : ℕ → Bool) (w : Right) → ((x : ℕ) → q x ≡ gives_of x w) → (rs : List Area) (a n : ℕ) → has_before q (cells rs) a n ≡ before_of (map as_region rs) w a n
unfolding has_before before_of
before_span q w same rs a zero = refl
before_span q w same rs a (suc n) =
    ap (λ (b : Bool). when b (suc (has_before q (cells rs) (suc a) n)) 0) (has_grants q w same rs a)
    ∙ when_pick (grants_of (map as_region rs) w a) (ap suc (before_span q w same rs (suc a) n)) refl
