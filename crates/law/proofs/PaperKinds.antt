-- The code's kinds, places and records are the paper's.
use mathlib.Core.Bool.{Bool, true, false, ◌&&◌}
use mathlib.Core.Logic.{⊎_elim}
use mathlib.Core.Path.{◌≡◌, refl, ap, ◌∙◌}
use mathlib.Core.List.{List, ◌++◌}
use Prim.Native.Nat.{ℕ, zero, suc, ◌+◌, ◌<◌}
use native.Mathlib.Omega.{arith}
use borrow.Author.Tests.{eq-eqb, ne_eqb, le-ltb, le-leb, leb-true}
use lib.Dec.{eqb, ltb}
use lib.ListN.{length, get_or}
use lib.Seq.{take_at}
use Rattle.std.proofs.lemmas.Bool.{or_from}
use Rattle.octets.proofs.Cases.{eq_or_ne}
use Rattle.octets.proofs.Pick.{pick_yes, pick_no}
use Rattle.regions.specs.Region.{region_from}
use Rattle.sheet.specs.Entries.{parameter_from}
use Rattle.sheet.specs.Kinds.{is_kind, is_link, size_of, misplaced_of}
use Rattle.sheet.specs.declared.records.Counts.{Counts}
use Rattle.law.specs.Sheet.{Region as Area, Parameter as Param, Item as Ident, region_octets, parameter_octets, item_octets}
use Rattle.law.specs.Faults.{Kind, record_length}
use Rattle.law.proofs.Written.{le2_back, le4_back}
use Rattle.law.proofs.Layouts.{as_area, as_param, ident_from}

pub size_same : (k : ℕ) → Kind k → size_of k ≡ record_length k
unfolding size_of
size_same zero h = pick_yes _ _ refl
size_same (suc zero) h = pick_no _ _ refl ∙ pick_yes _ _ refl
size_same (suc (suc zero)) h = pick_no _ _ refl ∙ pick_no _ _ refl ∙ pick_yes _ _ refl
size_same (suc (suc (suc zero))) h = pick_no _ _ refl ∙ pick_no _ _ refl ∙ pick_no _ _ refl ∙ pick_yes _ _ refl
size_same (suc (suc (suc (suc zero)))) h = pick_no _ _ refl ∙ pick_no _ _ refl ∙ pick_no _ _ refl ∙ pick_no _ _ refl ∙ pick_yes _ _ refl
size_same (suc (suc (suc (suc (suc zero))))) h = pick_no _ _ refl ∙ pick_yes _ _ refl
size_same (suc (suc (suc (suc (suc (suc zero)))))) h = pick_no _ _ refl ∙ pick_no _ _ refl ∙ pick_no _ _ refl ∙ pick_no _ _ refl ∙ pick_no _ _ refl
size_same (suc (suc (suc (suc (suc (suc (suc zero))))))) h = pick_no _ _ refl ∙ pick_no _ _ refl ∙ pick_no _ _ refl ∙ pick_no _ _ refl ∙ pick_no _ _ refl
size_same (suc (suc (suc (suc (suc (suc (suc (suc n)))))))) h = absurd (omega arith)

-- the code's kinds are the paper's
pub kind_there : (k : ℕ) → is_kind k ≡ true → Kind k
unfolding is_kind
kind_there k e = leb-true k 7 e

pub kind_back : (k : ℕ) → Kind k → is_kind k ≡ true
unfolding is_kind
kind_back k h = le-leb k 7 h

kind_free : (kind k n : ℕ) → (kind ≡ k → n ≡ 0) → eqb kind k && ltb 0 n ≡ false
kind_free kind k n h =
    ⊎_elim
    (λ (e : kind ≡ k). ap (λ (b : Bool). b && ltb 0 n) (eq-eqb kind k e) ∙ le-ltb 0 n (let z = h e in omega arith))
    (λ (e : kind ≡ k → ⊥). ap (λ (b : Bool). b && ltb 0 n) (ne_eqb kind k e))
    (eq_or_ne kind k)

pub place_in : (kind : ℕ) (so : Counts) → is_link kind ≡ false → (kind ≡ 2 → so.parameters + so.items + so.tolerances + so.releases ≡ 0)
    → (kind ≡ 3 → so.items + so.tolerances + so.releases ≡ 0) → (kind ≡ 4 → so.tolerances + so.releases ≡ 0)
    → (kind ≡ 6 → so.tolerances + so.releases ≡ 0) → (kind ≡ 7 → so.releases ≡ 0) → misplaced_of false kind so ≡ false
unfolding misplaced_of
place_in kind so a b c d e f =
    or_from _ _
    (or_from _ _
    (or_from _ _
    (or_from _ _
    (or_from _ _ a (kind_free kind 2 (so.parameters + so.items + so.tolerances + so.releases) b))
    (kind_free kind 3 (so.items + so.tolerances + so.releases) c))
    (kind_free kind 4 (so.tolerances + so.releases) d))
    (kind_free kind 6 (so.tolerances + so.releases) e))
    (kind_free kind 7 so.releases f)

le4_bound : (a b c d : ℕ) → a < 256 → b < 256 → c < 256 → d < 256 → package.Rattle.octets.specs.Numbers.le4 a b c d < 4294967296
le4_bound a b c d x y z w = omega arith

pub area_same : (r : Area) (t : List ℕ) → r.start < 4294967296 → r.length < 4294967296 → as_area (region_from (region_octets r ++ t) 0) ≡ r
unfolding region_from
area_same r t a b = λ i. record { start = le4_back r.start a i; length = le4_back r.length b i; rights = r.rights }

pub param_same : (p : Param) (t : List ℕ) → p.number < 65536 → p.address < 4294967296 → as_param (parameter_from (parameter_octets p ++ t) 0) ≡ p
unfolding parameter_from
param_same p t a b = λ i. record { number = le2_back p.number a i; address = le4_back p.address b i; size = p.size }

pub ident_same : (i : Ident) (t : List ℕ) → length i.octets ≡ 32 → ident_from (item_octets i ++ t) 0 ≡ i
ident_same x t e = let o = take_at x.octets t 32 e in λ i. record { code = x.code; length = x.length; octets = o i }

pub region_fits : (l : List ℕ) → ((i : ℕ) → get_or l i 0 < 256) → ((region_from l 0).start < 4294967296) × ((region_from l 0).length < 4294967296)
unfolding region_from
region_fits l o = (le4_bound _ _ _ _ (o 1) (o 2) (o 3) (o 4), le4_bound _ _ _ _ (o 5) (o 6) (o 7) (o 8))

pub parameter_fits : (l : List ℕ) → ((i : ℕ) → get_or l i 0 < 256) → ((parameter_from l 0).number < 65536) × ((parameter_from l 0).address < 4294967296)
unfolding parameter_from
parameter_fits l o = (let a = o 1 in let b = o 2 in omega arith, le4_bound _ _ _ _ (o 3) (o 4) (o 5) (o 6))
