-- The pass as it stands between two turns: what is left of the list, and what of it is laid.
use Prim.Native.Nat.{ℕ, zero, suc, ◌+◌, ◌-◌, ◌*◌, ◌<◌, ◌≤◌}
use mathlib.Core.Bool.{true, false}
use mathlib.Core.List.{List, [], ◌++◌}
use mathlib.Core.Path.{◌≡◌, refl, sym, ap, ap₂, ◌∙◌}
use native.Mathlib.Omega.{arith}
use lib.ListN.{length, length-append}
use Rattle.octets.proofs.Pick.{pick_yes, pick_no, pick_both}
use Rattle.difference.specs.Laid.{laid}
use Rattle.difference.specs.Merge.{step_of, at_end, turns, merge_of}
use Rattle.difference.specs.Entered.{Turned, turned, turns_to, entered, enters}
use Rattle.difference.specs.declared.merging.Turn.{Turn}
use Rattle.difference.proofs.Bounds.{Octets}
use Rattle.difference.proofs.Laid.{laid_on, laid_length}
use Rattle.difference.proofs.Steps.{step_most, goes}

-- one turn more, and no turn
turns_more : (f : ℕ) (a : List ℕ) (i : ℕ) (b : List ℕ) (j : ℕ) → at_end a i b j ≡ false
    → turns (suc f) a i b j ≡ (step_of a i b j).octets ++ turns f a (step_of a i b j).first b (step_of a i b j).second
unfolding turns
turns_more f a i b j e = pick_no _ _ e

turns_none : (f : ℕ) (a : List ℕ) (i : ℕ) (b : List ℕ) (j : ℕ) → at_end a i b j ≡ true → turns (suc f) a i b j ≡ []
unfolding turns
turns_none f a i b j e = pick_yes _ _ e

-- what is left of the list, and what of it is laid: the pass over a and b stands at t, and its buffer holds d, which at first held d₀
pub record Left (a : List ℕ) (b d₀ d : List ℕ) (t : Turn) : Type 0 where
  pub first_in : t.first ≤ length a + 35
  pub second_in : t.second ≤ length b + 35
  pub bounded : t.list ≤ 40 * (t.first + t.second)
  pub same_room : length d ≡ length d₀
  pub fuel : ℕ
  pub enough : (length a - t.first) + (length b - t.second) < fuel
  pub long : t.list + length (turns fuel a t.first b t.second) ≡ length (merge_of a b)
  pub holds : laid d t.list (turns fuel a t.first b t.second) ≡ laid d₀ 0 (merge_of a b)

pub left_first : (a b d : List ℕ) → Left a b d d (record { first = 0; second = 0; list = 0 })
unfolding merge_of
left_first a b d = record {
  first_in = omega arith;
  second_in = omega arith;
  bounded = omega arith;
  same_room = refl;
  fuel = suc (length a + length b);
  enough = omega arith;
  long = let n = length (merge_of a b) in let z : 0 + n ≡ n = omega arith in z;
  holds = refl;
}

less_fuel : (k m n g : ℕ) {f : ℕ} → k ≡ m → m < n → n < f → f ≡ suc g → k < g
less_fuel k m n g e h q z = omega (arith, e, h, q, z)

less_by : (k m n : ℕ) → k ≡ m → m < n → k < n
less_by k m n e h = omega (arith, e, h)

-- after a turn
pub left_next : {a b d₀ d e : List ℕ} {t u : Turn} → Octets a → Octets b → Left a b d₀ d t → at_end a t.first b t.second ≡ false
    → turned u e ≡ turns_to d t.list (step_of a t.first b t.second) → Left a b d₀ e u
unfolding turns_to
left_next {a} {b} {d₀} {d} {e} {t} {u} oa ob l more p =
    let s = step_of a t.first b t.second in
    let g = goes a t.first b t.second oa ob l.first_in l.second_in more in
    let first : u.first ≡ s.first = ap (λ (x : Turned). x.turn.first) p in
    let second : u.second ≡ s.second = ap (λ (x : Turned). x.turn.second) p in
    let behind : u.list ≡ t.list + length s.octets = ap (λ (x : Turned). x.turn.list) p in
    let held : e ≡ laid d t.list s.octets = ap (λ (x : Turned). x.list) p in
    let f = l.fuel - 1 in
    let fuel : l.fuel ≡ suc f = let h = l.enough in omega (arith, h) in
    let rest : turns f a u.first b u.second ≡ turns f a s.first b s.second = ap₂ (λ (x y : ℕ). turns f a x b y) first second in
    let split : turns l.fuel a t.first b t.second ≡ s.octets ++ turns f a s.first b s.second =
    ap (λ (n : ℕ). turns n a t.first b t.second) fuel ∙ turns_more f a t.first b t.second more in
    record {
      first_in = (let h = g.first_in in omega (arith, h, first));
      second_in = (let h = g.second_in in omega (arith, h, second));
      bounded = (let h = step_most a t.first b t.second in let o = g.on in let q = l.bounded in omega (arith, h, o, q, first, second, behind));
      same_room = ap length held ∙ laid_length s.octets d t.list ∙ l.same_room;
      fuel = f;
      enough = less_fuel _ _ _ _ (ap₂ (λ (x y : ℕ). (length a - x) + (length b - y)) first second) g.less l.enough fuel;
      long =
          let n = length-append s.octets (turns f a s.first b s.second) in
          let x = ap length split in
          let y = ap length rest in
          let z = l.long in
          omega (arith, n, x, y, z, behind);
      holds =
          ap₂ (λ (x : List ℕ) (k : ℕ). laid x k (turns f a u.first b u.second)) held behind
          ∙ ap (laid (laid d t.list s.octets) (t.list + length s.octets)) rest
          ∙ laid_on s.octets (turns f a s.first b s.second) d t.list
          ∙ sym (ap (laid d t.list) split)
          ∙ l.holds;
    }

-- and less is left
pub left_less : {a b d₀ d e : List ℕ} {t u : Turn} → Octets a → Octets b → Left a b d₀ d t → at_end a t.first b t.second ≡ false
    → turned u e ≡ turns_to d t.list (step_of a t.first b t.second) → (length a - u.first) + (length b - u.second) < (length a - t.first) + (length b - t.second)
unfolding turns_to
left_less {a} {b} {t = t} oa ob l more p =
    less_by _ _ _
    (ap₂ (λ (x y : ℕ). (length a - x) + (length b - y)) (ap (λ (x : Turned). x.turn.first) p) (ap (λ (x : Turned). x.turn.second) p))
    (goes a t.first b t.second oa ob l.first_in l.second_in more).less

-- at the end of both
pub left_last : {a b d₀ d : List ℕ} {t : Turn} → Left a b d₀ d t → at_end a t.first b t.second ≡ true → entered t.list d ≡ enters d₀ 0 (merge_of a b)
unfolding enters laid
left_last {a} {b} {d₀} {d} {t} l end =
    let f = l.fuel - 1 in
    let fuel : l.fuel ≡ suc f = let h = l.enough in omega (arith, h) in
    let none : turns l.fuel a t.first b t.second ≡ [] = ap (λ (n : ℕ). turns n a t.first b t.second) fuel ∙ turns_none f a t.first b t.second end in
    let long : t.list ≡ 0 + length (merge_of a b) = let u = ap length none in let w = l.long in omega (arith, u, w) in
    ap₂ entered long (sym (ap (laid d t.list) none) ∙ l.holds)

-- a turn lists at most 40 octets, and so the whole list is not long
turns_most : (f : ℕ) (a : List ℕ) (i : ℕ) (b : List ℕ) (j : ℕ) → length (turns f a i b j) ≤ 40 * f
unfolding turns
turns_most zero a i b j = omega arith
turns_most (suc f) a i b j =
    let s = step_most a i b j in
    let r = turns_most f a (step_of a i b j).first b (step_of a i b j).second in
    let l = length-append (step_of a i b j).octets (turns f a (step_of a i b j).first b (step_of a i b j).second) in
    pick_both (λ (os : List ℕ). length os ≤ 40 * suc f) _ (omega arith) (omega (arith, s, r, l))

pub merge_most : (a b : List ℕ) → length a ≤ 2048 → length b ≤ 2048 → length (merge_of a b) < 1000000
unfolding merge_of
merge_most a b p q = let m = turns_most (suc (length a + length b)) a 0 b 0 in omega (arith, m, p, q)
