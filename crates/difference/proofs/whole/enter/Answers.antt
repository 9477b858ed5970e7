-- `difference::whole::enter` meets its contract: the first pass lays nothing, and tells how long the list is.
use Prim.Native.Nat.{ℕ, ◌<◌, ◌≤◌}
use mathlib.Core.List.{List, [], ◌∷◌, ◌++◌}
use mathlib.Core.Path.{◌≡◌, refl, sym, ap, ap₂, ◌∙◌}
use native.Mathlib.Omega.{arith}
use lib.ListN.{length}
use Rattle.octets.proofs.Pick.{pick_lt, pick_ge}
use Rattle.slave.specs.Answers.{told}
use Rattle.difference.specs.Answers.{refusal_answer, entered_answer}
use Rattle.difference.specs.Difference.{listed, entered_of}
use Rattle.difference.specs.Entered.{Entered, entered, enters}
use Rattle.difference.specs.Merge.{merge_of}
use Rattle.difference.proofs.Laid.{laid_whole}
use Rattle.difference.proofs.whole.enter.Goals as goal

-- the part of no octets comes back as it was
none_lent : (m d : List ℕ) → length m ≡ 0 → m ++ d ≡ d
none_lent [] d e = refl
none_lent (x ∷ m) d e = absurd (omega (arith, e))

tells_length : (os d e : List ℕ) (n : ℕ) → entered n e ≡ enters d 0 os → n ≡ length os
unfolding enters
tells_length os d e n p = let h = ap (λ (x : Entered). x.behind) p in omega (arith, h)

too_long : (os d : List ℕ) (n : ℕ) → n ≡ length os → length d < n → listed (told 28 n) d ≡ entered_of os d
unfolding entered_of
too_long os d n e h =
    let long : length d < length os = omega arith in
    ap (λ (k : ℕ). listed (told 28 k) d) e ∙ sym (pick_lt _ _ long)

whole : (os d e : List ℕ) (n : ℕ) → length os ≤ length d → entered n e ≡ enters d 0 os → listed (told 0 n) e ≡ entered_of os d
unfolding entered_of enters
whole os d e n room p =
    ap₂ (λ (k : ℕ) (x : List ℕ). listed (told 0 k) x) (tells_length os d e n p) (ap (λ (x : Entered). x.list) p ∙ laid_whole os d room)
    ∙ sym (pick_ge _ _ room)

pub returns-then-list-needed : goal.returns-then-list-needed
unfolding entered_answer refusal_answer
returns-then-list-needed c =
    let lent = none_lent c.merge-needed.new.list c.args.list.now c.merge-needed.auto.list in
    let long = tells_length _ _ _ _ c.merge-needed.ensures in
    rw lent (too_long _ _ _ long (omega (arith, ap length lent)))

pub returns : goal.returns
unfolding entered_answer
returns c =
    let a = c.args in
    let os = merge_of a.first.now a.second.now in
    let lent = none_lent c.merge-needed.new.list a.list.now c.merge-needed.auto.list in
    let long = tells_length os _ _ _ c.merge-needed.ensures in
    let room : length os ≤ length a.list.now = omega (arith, long, ap length lent) in
    whole os a.list.now _ _ room (c.merge-length.ensures ∙ ap (λ (d : List ℕ). enters d 0 os) lent)
