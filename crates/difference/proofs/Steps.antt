-- One turn of the pass: which record it takes, how far it goes, and how much it lists.
use Prim.Native.Nat.{ℕ, ◌+◌, ◌-◌, ◌<◌, ◌≤◌}
use mathlib.Core.Bool.{Bool, true, false, true≢false}
use mathlib.Core.List.{List}
use mathlib.Core.Logic.{⊎_elim}
use mathlib.Core.Path.{◌≡◌, sym, ap, subst, ◌∙◌}
use native.Mathlib.Omega.{arith}
use lib.ListN.{length, length-append}
use Rattle.octets.proofs.Cases.{lt_or_le, eq_or_ne}
use Rattle.octets.proofs.Pick.{pick_lt, pick_ge, pick_both}
use Rattle.difference.specs.Records.{kind_at, size_at, rank_at, key_width, bits_at}
use Rattle.difference.specs.Merge.{gone_of, new_of, changed_of, both_of, Step, step, step_of, at_end}
use Rattle.difference.specs.Entered.{turned, turns_to}
use Rattle.difference.specs.Moves.{Moves}
use Rattle.difference.specs.declared.laying.Cursor.{Cursor}
use Rattle.difference.proofs.Bounds.{Octets, cut_length, key_most, size_least, size_most, rank_end, rank_under, rank_most, inside}

-- what a cursor leaves that went on by a step's octets, with the places behind it
pub turned_by : {was to is : Cursor} {d : List ℕ} {p : ℕ × ℕ} {m n : ℕ} (t u : Step) → t ≡ u → is ≡ to → Moves was to u.octets → d ≡ is.list.now
    → p ≡ (m, n) → m ≡ u.first → n ≡ u.second → turned (record { first = p.0; second = p.1; list = is.at }) d ≡ turns_to was.list.now was.at t
unfolding turns_to
turned_by {was} {to} {is} {d} {p} t u e same moves held places first second =
    let list = held ∙ ap (λ (c : Cursor). c.list.now) same ∙ moves.holds in
    let at = ap (λ (c : Cursor). c.at) same ∙ moves.behind in
    let one = ap (λ (x : ℕ × ℕ). x.0) places ∙ first in
    let two = ap (λ (x : ℕ × ℕ). x.1) places ∙ second in
    let done : turned (record { first = p.0; second = p.1; list = is.at }) d ≡ turns_to was.list.now was.at u =
    λ i. record { turn = record { first = one i; second = two i; list = at i }; list = list i } in
    done ∙ ap (turns_to was.list.now was.at) (sym e)

-- what stands behind the end is the end
end_too : (a : List ℕ) (i : ℕ) (b : List ℕ) (j : ℕ) → Octets b → kind_at a i ≡ 0 → rank_at a i ≤ rank_at b j → kind_at b j ≡ 0
end_too a i b j o e h =
    ⊎_elim (λ f. f) (λ n. let r = rank_under b j o n in let s = rank_end a i e in omega (arith, r, s, h)) (eq_or_ne (kind_at b j) 0)

not_end : {x : Bool} → x ≡ false → x ≡ true → ⊥
not_end e f = true≢false (sym f ∙ e)

pub gone_most : (a : List ℕ) (i : ℕ) → length (gone_of a i) ≤ 5
unfolding gone_of
gone_most a i =
    let l = cut_length a (key_width (kind_at a i)) (i + 1) in
    let k = key_most (kind_at a i) in
    omega (arith, l, k)

module _ (a : List ℕ) (i : ℕ) (b : List ℕ) (j : ℕ) where
  both_end : kind_at a i ≡ 0 → kind_at b j ≡ 0 → at_end a i b j ≡ true
  unfolding at_end
  both_end e f = rw e (rw f)

  pub step_gone : rank_at a i < rank_at b j → step_of a i b j ≡ step (gone_of a i) (i + size_at a i) j
  unfolding step_of
  step_gone h = pick_lt _ _ h

  pub step_new : rank_at b j < rank_at a i → step_of a i b j ≡ step (new_of b j) i (j + size_at b j)
  unfolding step_of
  step_new h =
      let g : rank_at b j ≤ rank_at a i = omega (arith, h) in
      pick_ge _ _ g ∙ pick_lt _ _ h

  pub step_both : rank_at b j ≤ rank_at a i → rank_at a i ≤ rank_at b j → step_of a i b j ≡ step (both_of a i b j) (i + size_at a i) (j + size_at b j)
  unfolding step_of
  step_both h g = pick_ge _ _ h ∙ pick_ge _ _ g

  new_most : length (new_of b j) ≤ 35
  unfolding new_of
  new_most =
      let l = cut_length b (size_at b j - 1) (j + 1) in
      let s = size_most (kind_at b j) in
      let t = size_least (kind_at b j) in
      omega (arith, l, s, t)

  changed_most : (bits : ℕ) → length (changed_of bits b j) ≤ 36
  unfolding changed_of
  changed_most bits =
      let l = cut_length b (size_at b j - 1) (j + 1) in
      let s = size_most (kind_at b j) in
      let t = size_least (kind_at b j) in
      pick_both (λ (os : List ℕ). length os ≤ 36) _ (omega arith) (omega (arith, l, s, t))

  both_most : length (both_of a i b j) ≤ 40
  unfolding both_of
  both_most =
      let c = changed_most (bits_at a i b j (kind_at a i)) in
      let g = gone_most a i in
      let n = new_most in
      let l = length-append (gone_of a i) (new_of b j) in
      pick_both (λ (os : List ℕ). length os ≤ 40) _ (omega (arith, c)) (omega (arith, l, g, n))

  pub step_most : length (step_of a i b j).octets ≤ 40
  unfolding step_of
  step_most =
      let few : Step → Type 0 = λ s. length s.octets ≤ 40 in
      let g = gone_most a i in
      let n = new_most in
      pick_both few _ (omega (arith, g)) (pick_both few _ (omega (arith, n)) both_most)

  -- what a turn does that is not at the end of both
  pub record Goes (s : Step) : Type 0 where
    pub on : i + j < s.first + s.second
    pub first_in : s.first ≤ length a + 35
    pub second_in : s.second ≤ length b + 35
    pub less : (length a - s.first) + (length b - s.second) < (length a - i) + (length b - j)

  pub goes : Octets a → Octets b → i ≤ length a + 35 → j ≤ length b + 35 → at_end a i b j ≡ false → Goes (step_of a i b j)
  goes oa ob hi hj more =
      let ra = rank_most a i oa in
      let rb = rank_most b j ob in
      let sa = size_least (kind_at a i) in
      let sb = size_least (kind_at b j) in
      let ta = size_most (kind_at a i) in
      let tb = size_most (kind_at b j) in
      ⊎_elim
      (λ (h : rank_at a i < rank_at b j).
      let p = inside a i (λ e. let r = rank_end a i e in omega (arith, r, rb, h)) in
      subst Goes (sym (step_gone h))
      (record { on = omega (arith, sa); first_in = omega (arith, p, ta); second_in = hj; less = omega (arith, p, sa) }))
      (λ (g : rank_at b j ≤ rank_at a i).
      ⊎_elim
      (λ (h : rank_at b j < rank_at a i).
      let p = inside b j (λ e. let r = rank_end b j e in omega (arith, r, ra, h)) in
      subst Goes (sym (step_new h))
      (record { on = omega (arith, sb); first_in = hi; second_in = omega (arith, p, tb); less = omega (arith, p, sb) }))
      (λ (h : rank_at a i ≤ rank_at b j).
      let na : kind_at a i ≡ 0 → ⊥ = λ e. not_end more (both_end e (end_too a i b j ob e h)) in
      let nb : kind_at b j ≡ 0 → ⊥ = λ e. not_end more (both_end (end_too b j a i oa e g) e) in
      let p = inside a i na in
      let q = inside b j nb in
      subst Goes (sym (step_both g h))
      (record {
        on = omega (arith, sa, sb);
        first_in = omega (arith, p, ta);
        second_in = omega (arith, q, tb);
        less = omega (arith, p, q, sa, sb);
      }))
      (lt_or_le (rank_at b j) (rank_at a i)))
      (lt_or_le (rank_at a i) (rank_at b j))
