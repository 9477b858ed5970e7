-- Pieces over octets are the machine's overlays.
use mathlib.Core.Bool.{Bool, true, false, ◌&&◌}
use mathlib.Core.Logic.{⊎_elim}
use mathlib.Core.Path.{◌≡◌, refl, sym, ap, ap₂, ◌∙◌}
use mathlib.Core.List.{List, [], ◌∷◌, ◌++◌}
use Prim.Native.Nat.{ℕ, zero, suc, ◌+◌, ◌-◌, ◌≤◌, ◌<◌}
use native.Mathlib.Omega.{arith}
use borrow.Author.Tests.{lt-ltb, le-ltb, le-leb, lt-leb}
use lib.Dec.{leb, ltb}
use lib.ListN.{length, get_or}
use lib.Seq.{ext_get_or}
use Rattle.octets.specs.Parts.{put_at}
use Rattle.octets.specs.Pick.{pick}
use Rattle.octets.proofs.Cases.{lt_or_le}
use Rattle.law.specs.Words.{Every, when, Piece, laid, over_from, over}
use Rattle.law.specs.Memory.{Cell, stored}
use Rattle.octets.proofs.Overlaid.{put_length, put_before, put_inside, put_behind}
use Rattle.frame.proofs.Bodies.{laid_at}

pub when_yes {ℓ} : {A : Type ℓ} {b : Bool} (x y : A) → b ≡ true → when b x y ≡ x
unfolding when
when_yes x y e = rw e

pub when_no {ℓ} : {A : Type ℓ} {b : Bool} (x y : A) → b ≡ false → when b x y ≡ y
unfolding when
when_no x y e = rw e

-- one piece
abbrev pub lies : Piece → ℕ → ℕ → ℕ
lies p k old = when (leb p.first k && ltb k (p.first + length p.octets)) (get_or p.octets (k - p.first) 0) old

unfoldable lay : ℕ → Piece → List ℕ → List ℕ
lay k p [] = []
lay k p (x ∷ xs) = lies p k x ∷ lay (suc k) p xs

over_lay : (k : ℕ) (p : Piece) (ps : List Piece) (d : List ℕ) → over_from k (p ∷ ps) d ≡ over_from k ps (lay k p d)
unfolding over_from laid lay
over_lay k p ps [] = refl
over_lay k p ps (x ∷ xs) = ap (λ (l : List ℕ). laid ps k (lies p k x) ∷ l) (over_lay (suc k) p ps xs)

pub over_none : (k : ℕ) (d : List ℕ) → over_from k [] d ≡ d
unfolding over_from laid
over_none k [] = refl
over_none k (x ∷ xs) = ap (λ (l : List ℕ). x ∷ l) (over_none (suc k) xs)

lay_length : (k : ℕ) (p : Piece) (d : List ℕ) → length (lay k p d) ≡ length d
unfolding lay
lay_length k p [] = refl
lay_length k p (x ∷ xs) = ap suc (lay_length (suc k) p xs)

lay_at : (k : ℕ) (p : Piece) (d : List ℕ) (i : ℕ) → i < length d → get_or (lay k p d) i 0 ≡ lies p (k + i) (get_or d i 0)
unfolding lay
lay_at k p [] i h = absurd (omega arith)
lay_at k p (x ∷ xs) zero h = ap (λ (n : ℕ). lies p n x) (let e : k ≡ k + 0 = omega arith in e)
lay_at k p (x ∷ xs) (suc i) h =
    lay_at (suc k) p xs i (omega arith) ∙ ap (λ (n : ℕ). lies p n (get_or xs i 0)) (let e : suc k + i ≡ k + suc i = omega arith in e)

-- whether a piece lies at a number
pub lies_here : (p : Piece) (k old : ℕ) → p.first ≤ k → k < p.first + length p.octets → lies p k old ≡ get_or p.octets (k - p.first) 0
lies_here p k old l u = when_yes _ _ (ap₂ ◌&&◌ (le-leb p.first k l) (lt-ltb k (p.first + length p.octets) u))

pub lies_below : (p : Piece) (k old : ℕ) → k < p.first → lies p k old ≡ old
lies_below p k old l = when_no _ _ (ap (λ (b : Bool). b && ltb k (p.first + length p.octets)) (lt-leb p.first k l))

pub lies_past : (p : Piece) (k old : ℕ) → p.first + length p.octets ≤ k → lies p k old ≡ old
lies_past p k old l = when_no _ _ (ap₂ ◌&&◌ (le-leb p.first k (omega arith)) (le-ltb k (p.first + length p.octets) l))

lay_put : (p : Piece) (d : List ℕ) → p.first + length p.octets ≤ length d → lay 0 p d ≡ put_at d p.first p.octets
lay_put p d fits =
    let at = p.first in
    let o = p.octets in
    ext_get_or 0 (lay 0 p d) (put_at d at o) (lay_length 0 p d ∙ sym (put_length d at o fits)) (λ i u.
    let v : i < length d = let e = lay_length 0 p d in omega arith in
    lay_at 0 p d i v ∙ ap (λ (n : ℕ). lies p n (get_or d i 0)) (let e : 0 + i ≡ i = omega arith in e)
    ∙ ⊎_elim (λ (a : i < at). lies_below p i (get_or d i 0) a ∙ sym (put_before d at o fits i a))
    (λ (a : at ≤ i).
    ⊎_elim (λ (b : i < at + length o).
    lies_here p i (get_or d i 0) a b ∙ sym (put_inside d at o fits (i - at) (omega arith))
    ∙ ap (λ (n : ℕ). get_or (put_at d at o) n 0) (let e : at + (i - at) ≡ i = omega arith in e))
    (λ (b : at + length o ≤ i). lies_past p i (get_or d i 0) b ∙ sym (put_behind d at o fits i b))
    (lt_or_le i (at + length o)))
    (lt_or_le i at))

pub over_put : (p : Piece) (ps : List Piece) (d : List ℕ) → p.first + length p.octets ≤ length d
    → over (p ∷ ps) d ≡ over ps (put_at d p.first p.octets)
over_put p ps d fits = over_lay 0 p ps d ∙ ap (over ps) (lay_put p d fits)

pub stored_none : (cs : List Cell) (m : List ℕ) → length m ≡ length cs → stored [] cs m ≡ m
unfolding stored laid
stored_none [] [] e = refl
stored_none [] (x ∷ xs) e = absurd (omega arith)
stored_none (c ∷ cs) [] e = refl
stored_none (c ∷ cs) (x ∷ xs) e = ap (λ (l : List ℕ). x ∷ l) (stored_none cs xs (omega arith))

-- pieces over octets, octet by octet
pub over_length : (k : ℕ) (ps : List Piece) (d : List ℕ) → length (over_from k ps d) ≡ length d
unfolding over_from
over_length k ps [] = refl
over_length k ps (x ∷ xs) = ap suc (over_length (suc k) ps xs)

pub over_at : (k : ℕ) (ps : List Piece) (d : List ℕ) (i : ℕ) → i < length d → get_or (over_from k ps d) i 0 ≡ laid ps (k + i) (get_or d i 0)
unfolding over_from
over_at k ps [] i h = absurd (omega arith)
over_at k ps (x ∷ xs) zero h = ap (λ (n : ℕ). laid ps n x) (let e : k ≡ k + 0 = omega arith in e)
over_at k ps (x ∷ xs) (suc i) h =
    over_at (suc k) ps xs i (omega arith) ∙ ap (λ (n : ℕ). laid ps n (get_or xs i 0)) (let e : suc k + i ≡ k + suc i = omega arith in e)

-- pieces that all stand further on
pub laid_before : (ps : List Piece) (k old : ℕ) → Every (λ (p : Piece). k < p.first) ps → laid ps k old ≡ old
unfolding laid
laid_before [] k old all = refl
laid_before (p ∷ ps) k old all = ap (laid ps k) (lies_below p k old all.0) ∙ laid_before ps k old all.1

-- pieces laid over others
pub laid_append : (ps qs : List Piece) (k old : ℕ) → laid (ps ++ qs) k old ≡ laid qs k (laid ps k old)
unfolding laid
laid_append [] qs k old = refl
laid_append (p ∷ ps) qs k old = laid_append ps qs k (lies p k old)

-- pieces and the frame's octets
pub picked : (b : Bool) (x y : ℕ) → pick b x y ≡ when b x y
unfolding pick when
picked true x y = refl
picked false x y = refl

lies_so : (p : Piece) (k old : ℕ) → laid_at p.first p.octets k old ≡ lies p k old
lies_so p k old = picked (leb p.first k && ltb k (p.first + length p.octets)) (get_or p.octets (k - p.first) 0) old

pub laid_one : (p : Piece) (k old : ℕ) → laid_at p.first p.octets k old ≡ laid (p ∷ []) k old
unfolding laid
laid_one p k old = lies_so p k old

pub laid_two : (p q : Piece) (k old : ℕ) → laid_at q.first q.octets k (laid_at p.first p.octets k old) ≡ laid (p ∷ q ∷ []) k old
unfolding laid
laid_two p q k old = ap (laid_at q.first q.octets k) (lies_so p k old) ∙ lies_so q k (lies p k old)
