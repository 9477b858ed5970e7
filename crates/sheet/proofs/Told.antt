use Rattle.std.specs.Prelude.{Ok}
-- What the walk's number tells: the counts, or the fault with its place, that it was made of.
use mathlib.Core.Path.{◌≡◌, refl, ap, ◌∙◌}
use mathlib.Core.List.{List}
use Prim.Native.Nat.{ℕ, ◌+◌, ◌*◌, ◌/◌, ◌%◌, ◌≤◌, ◌<◌}
use native.Mathlib.Nat.{add-mul-div_left, add-mul-mod_self_left, div-eq_of_lt, mod-eq_of_lt}
use native.Mathlib.Omega.{arith}
use borrow.Author.Tests.{ne_eqb}
use lib.Dec.{eqb}
use Rattle.octets.specs.Pick.{pick}
use Rattle.octets.proofs.Pick.{pick_no, pick_eq}
use Rattle.sheet.specs.Faults.{number_of}
use Rattle.sheet.specs.Handed.{fault_of, counts_number, failed_number, counts_in, tells}
use Rattle.sheet.specs.Walk.{layout_of}
use Rattle.sheet.specs.declared.records.Counts.{Counts}
use Rattle.sheet.specs.declared.records.Fault.{Fault}
use Rattle.sheet.specs.declared.records.Fault.TheVariants.{Ended, Unknown, Misplaced, Range, Disorder, Excess, Unmapped}
use Rattle.sheet.specs.Told.{faulty}

pub fault_back : (fault : Fault) → fault_of (number_of fault) ≡ fault
unfolding fault_of number_of pick
fault_back Ended = refl
fault_back Unknown = refl
fault_back Misplaced = refl
fault_back Range = refl
fault_back Disorder = refl
fault_back Excess = refl
fault_back Unmapped = refl

-- 0 is no fault's number
fault_some : (fault : Fault) → 1 ≤ number_of fault
unfolding number_of
fault_some Ended = omega arith
fault_some Unknown = omega arith
fault_some Misplaced = omega arith
fault_some Range = omega arith
fault_some Disorder = omega arith
fault_some Excess = omega arith
fault_some Unmapped = omega arith

pub tells_failed : (s : List ℕ) (fault : Fault) (place : ℕ) → place ≤ 65535 → tells s (failed_number fault place) ≡ faulty fault place
unfolding tells failed_number
tells_failed s fault place h =
    let some = fault_some fault in
    let high : (place + 72057594037927936 * number_of fault) / 72057594037927936 ≡ number_of fault = omega arith in
    let low : (place + 72057594037927936 * number_of fault) % 65536 ≡ place = omega arith in
    pick_no _ _ (ap (λ (n : ℕ). eqb n 0) high ∙ ne_eqb _ _ (λ (z : number_of fault ≡ 0). let w : ⊥ = omega arith in w))
    ∙ λ i. faulty ((ap fault_of high ∙ fault_back fault) i) (low i)

-- a number between others, each in room of its own
digit : (x y z b c : ℕ) → x < b → y < c → (x + b * (y + c * z)) / b % c ≡ y
digit x y z b c h l =
    let below : x / b ≡ 0 = div-eq_of_lt h in
    let above : (x + b * (y + c * z)) / b ≡ x / b + (y + c * z) = add-mul-div_left x (y + c * z) (omega arith) in
    ap (λ (q : ℕ). q % c) (let e : (x + b * (y + c * z)) / b ≡ y + c * z = omega arith in e) ∙ add-mul-mod_self_left y c z ∙ mod-eq_of_lt l

pub tells_counts : (s : List ℕ) (so : Counts) → so.regions ≤ 255 → so.parameters ≤ 255 → so.items ≤ 255 → so.tolerances ≤ 15 → so.releases ≤ 15
    → so.memory ≤ 16777215 → tells s (counts_number so) ≡ Ok (layout_of s so)
unfolding tells counts_number counts_in
tells_counts s so few-r few-p few-k few-t few-v room =
    let r = so.regions in
    let p = so.parameters in
    let k = so.items in
    let t = so.tolerances in
    let v = so.releases in
    let m = so.memory in
    let n = r + 256 * p + 65536 * k + 16777216 * t + 268435456 * v + 4294967296 * m in
    let e₁ : n ≡ r + 256 * (p + 256 * (k + 256 * (t + 16 * (v + 16 * m)))) = omega arith in
    let e₂ : n ≡ r + 256 * p + 65536 * (k + 256 * (t + 16 * (v + 16 * m))) = omega arith in
    let e₃ : n ≡ r + 256 * p + 65536 * k + 16777216 * (t + 16 * (v + 16 * m)) = omega arith in
    let e₄ : n ≡ r + 256 * p + 65536 * k + 16777216 * t + 268435456 * (v + 16 * m) = omega arith in
    let e₅ : n ≡ r + 256 * p + 65536 * k + 16777216 * t + 268435456 * v + 4294967296 * (m + 16777216 * 0) = omega arith in
    let regions : n % 256 ≡ r = omega arith in
    let parameters : n / 256 % 256 ≡ p = ap (λ (x : ℕ). x / 256 % 256) e₁ ∙ digit r p (k + 256 * (t + 16 * (v + 16 * m))) 256 256 (omega arith) (omega arith) in
    let items : n / 65536 % 256 ≡ k = ap (λ (x : ℕ). x / 65536 % 256) e₂ ∙ digit (r + 256 * p) k (t + 16 * (v + 16 * m)) 65536 256 (omega arith) (omega arith) in
    let tolerances : n / 16777216 % 16 ≡ t =
    ap (λ (x : ℕ). x / 16777216 % 16) e₃ ∙ digit (r + 256 * p + 65536 * k) t (v + 16 * m) 16777216 16 (omega arith) (omega arith) in
    let releases : n / 268435456 % 16 ≡ v =
    ap (λ (x : ℕ). x / 268435456 % 16) e₄ ∙ digit (r + 256 * p + 65536 * k + 16777216 * t) v m 268435456 16 (omega arith) (omega arith) in
    let memory : n / 4294967296 % 16777216 ≡ m =
    ap (λ (x : ℕ). x / 4294967296 % 16777216) e₅
    ∙ digit (r + 256 * p + 65536 * k + 16777216 * t + 268435456 * v) m 0 4294967296 16777216 (omega arith) (omega arith) in
    pick_eq _ _ (let none : n / 72057594037927936 ≡ 0 = div-eq_of_lt (omega arith) in none)
    ∙ λ i.
    Ok (layout_of s (record {
      regions = regions i;
      parameters = parameters i;
      items = items i;
      tolerances = tolerances i;
      releases = releases i;
      memory = memory i;
    }))
