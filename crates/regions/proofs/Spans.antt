-- Laws of spans.
--     before_all       a span whose every octet has the right has none before which it stops
--     all_before       and the other way round
--     before_upto      octets that have the right are passed
--     before_at        and the search stops at the first that lacks it
--     span_mapped      a span that has a right lies wholly in regions
use mathlib.Core.Bool.{true, false}
use mathlib.Core.Logic.{⊎_elim}
use mathlib.Core.Path.{◌≡◌, refl, sym, ap, ap₂, subst, ◌∙◌}
use mathlib.Core.List.{List, [], ◌∷◌}
use Prim.Native.Nat.{ℕ, zero, suc, ◌+◌, ◌-◌, ◌<◌, ◌≤◌}
use native.Mathlib.Nat.{le_refl, add-zero, zero-add, suc-add}
use native.Mathlib.Omega.{arith}
use borrow.Author.Tests.{eqb-true, eq-eqb}
use Rattle.octets.proofs.Cases.{decided, lt_or_le}
use Rattle.octets.proofs.Pick.{pick_yes, pick_no}
use Rattle.regions.specs.Region.{holds_of, gives_of}
use Rattle.regions.specs.Search.{grants_of, before_of, span_has}
use Rattle.regions.specs.declared.Region.{Region}
use Rattle.regions.specs.declared.Right.{Right}
use Rattle.regions.specs.declared.Right.TheVariants.{Mapped}

-- a span whose every octet has the right has all n octets before the first that lacks it
pub before_all : (rs : List Region) (w : Right) (a n : ℕ) → ((x : ℕ) → a ≤ x → x < a + n → grants_of rs w x ≡ true) → before_of rs w a n ≡ n
unfolding before_of
before_all rs w a zero all = refl
before_all rs w a (suc n) all =
    pick_yes _ _ (all a (le_refl a) (omega arith))
    ∙ ap suc (before_all rs w (suc a) n (λ x l u. all x (omega arith) (omega arith)))

-- and the other way round
pub all_before : (rs : List Region) (w : Right) (a n : ℕ) → before_of rs w a n ≡ n → (x : ℕ) → a ≤ x → x < a + n → grants_of rs w x ≡ true
unfolding before_of
all_before rs w a zero e x l u = absurd (omega arith)
all_before rs w a (suc n) e x l u =
    ⊎_elim
    (λ h.
    let m : suc (before_of rs w (suc a) n) ≡ suc n = sym (pick_yes _ _ h) ∙ e in
    ⊎_elim
    (λ (p : x < suc a). subst (λ (y : ℕ). grants_of rs w y ≡ true) (let q : a ≡ x = omega arith in q) h)
    (λ (p : suc a ≤ x). all_before rs w (suc a) n (omega arith) x p (omega arith))
    (lt_or_le x (suc a)))
    (λ h. absurd (let m : 0 ≡ suc n = sym (pick_no _ _ h) ∙ e in omega arith))
    (decided (grants_of rs w a))

-- where m of the n octets have the right, the search goes on behind them
before_upto : (rs : List Region) (w : Right) (a n m : ℕ) → m ≤ n → ((x : ℕ) → a ≤ x → x < a + m → grants_of rs w x ≡ true)
    → before_of rs w a n ≡ m + before_of rs w (a + m) (n - m)
unfolding before_of
before_upto rs w a n zero h all = ap₂ (before_of rs w) (let e : a ≡ a + 0 = omega arith in e) (let e : n ≡ n - 0 = omega arith in e) ∙ sym (zero-add _)
before_upto rs w a zero (suc m) h all = absurd (omega arith)
before_upto rs w a (suc n) (suc m) h all =
    let ih = before_upto rs w (suc a) n m (omega arith) (λ x l u. all x (omega arith) (omega arith)) in
    let e : suc a + m ≡ a + suc m = omega arith in
    let d : n - m ≡ suc n - suc m = omega arith in
    pick_yes _ _ (all a (le_refl a) (omega arith)) ∙ ap suc (ih ∙ ap₂ (λ (x y : ℕ). m + before_of rs w x y) e d) ∙ sym (suc-add m _)

before_stop : (rs : List Region) (w : Right) (a n : ℕ) → grants_of rs w a ≡ false → before_of rs w a (suc n) ≡ 0
unfolding before_of
before_stop rs w a n lacks = pick_no _ _ lacks

-- and stops at an octet that lacks it
pub before_at : (rs : List Region) (w : Right) (a n m : ℕ) → m < n → ((x : ℕ) → a ≤ x → x < a + m → grants_of rs w x ≡ true)
    → grants_of rs w (a + m) ≡ false → before_of rs w a n ≡ m
before_at rs w a n m h all lacks =
    let e : n - m ≡ suc (n - (m + 1)) = omega arith in
    before_upto rs w a n m (omega arith) all ∙ ap (λ (x : ℕ). m + x) (ap (before_of rs w (a + m)) e ∙ before_stop rs w (a + m) (n - (m + 1)) lacks) ∙ add-zero m

-- an octet that has a right is in a region
mapped : (rs : List Region) (w : Right) (a : ℕ) → grants_of rs w a ≡ true → grants_of rs Mapped a ≡ true
unfolding grants_of gives_of
mapped [] w a e = e
mapped (r ∷ rs) w a e =
    ⊎_elim
    (λ h. pick_yes _ _ h)
    (λ h. pick_no _ _ h ∙ mapped rs w a (sym (pick_no _ _ h) ∙ e))
    (decided (holds_of r a))

pub span_mapped : (rs : List Region) (w : Right) (a n : ℕ) → span_has rs w a n ≡ true → span_has rs Mapped a n ≡ true
span_mapped rs w a n e = eq-eqb _ n (before_all rs Mapped a n (λ x l u. mapped rs w x (all_before rs w a n (eqb-true _ n e) x l u)))
