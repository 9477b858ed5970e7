-- Every number that the law tells of a sheet is one of the machine's faults, and the machine tells that fault at that place.
use mathlib.Core.Logic.{◌⊎◌, ⊎_elim}
use mathlib.Core.Path.{◌≡◌, refl, sym, subst}
use mathlib.Core.List.{List, ◌++◌}
use Prim.Native.Nat.{ℕ, ◌+◌, ◌≤◌, ◌<◌}
use lib.ListN.{length}
use Rattle.sheet.specs.Faults.{number_of}
use Rattle.sheet.specs.Told.{faulty}
use Rattle.sheet.specs.Walk.{verdict_of}
use Rattle.sheet.specs.declared.records.Fault.{Fault}
use Rattle.sheet.specs.declared.records.Fault.TheVariants.{Ended, Unknown, Misplaced, Range, Disorder, Excess, Unmapped}
use Rattle.law.specs.Words.{Every}
use Rattle.law.specs.Sheet.{Region as Area, Parameter as Param, Item as Ident, IsOctet, region_octets, parameter_octets, item_octets, tolerance_octets, release_octets}
use Rattle.law.specs.Faults.{Sofar, nothing, records, RegionFault, ParameterFault, ItemFault, BodyFault, RecordFault, AfterEnd, FaultAt, FirstFault, ToleranceFault, ReleaseFault}
use Rattle.law.proofs.Exact.{told_fault}

abbrev Known : ℕ → Type 0
Known n = (f : Fault) × (number_of f ≡ n)

-- a check whose number is known, and later ones whose numbers are
known : {number : ℕ} {Holds : Type 0} {Later : Type 0} {n : ℕ} → Known number → (Later → Known n) → ((Holds → ⊥) × (n ≡ number)) ⊎ (Holds × Later) → Known n
known k go c = ⊎_elim (λ a. subst Known (sym a.1) k) (λ b. go b.1) c

eleven : Known 11
unfolding number_of
eleven = (Ended, refl)

twelve : Known 12
unfolding number_of
twelve = (Unknown, refl)

thirteen : Known 13
unfolding number_of
thirteen = (Misplaced, refl)

fourteen : Known 14
unfolding number_of
fourteen = (Range, refl)

fifteen : Known 15
unfolding number_of
fifteen = (Disorder, refl)

sixteen : Known 16
unfolding number_of
sixteen = (Excess, refl)

seventeen : Known 17
unfolding number_of
seventeen = (Unmapped, refl)

none : {n : ℕ} → ⊥ → Known n
none z = absurd z

body_known : (x : Sofar) (rest : List ℕ) (n : ℕ) → BodyFault x rest n → Known n
body_known nothing rest n c = known fourteen none c
body_known (records h) rest n c =
    ⊎_elim
    (λ (a : (r : Area) × (t : List ℕ) × (rest ≡ region_octets r ++ t) × (r.start < 4294967296) × (r.length < 4294967296) × RegionFault h r n).
    known fourteen (known sixteen (known fifteen none)) a.5)
    (⊎_elim
    (λ (a : (p : Param) × (t : List ℕ) × (rest ≡ parameter_octets p ++ t) × (p.number < 65536) × (p.address < 4294967296) × ParameterFault h p n).
    known fourteen (known sixteen (known fifteen (known seventeen none))) a.5)
    (⊎_elim
    (λ (a : (i : Ident) × (t : List ℕ) × (rest ≡ item_octets i ++ t) × (length i.octets ≡ 32) × ItemFault h i n).
    known fourteen (known sixteen (known fifteen none)) a.4)
    (⊎_elim
    (λ (a : (x : ℕ) × (t : List ℕ) × (rest ≡ tolerance_octets x ++ t) × ToleranceFault x n). known fourteen none a.3)
    (λ (a : (x : ℕ) × (t : List ℕ) × (rest ≡ release_octets x ++ t) × ReleaseFault x n). known fourteen none a.3))))
    c

record_known : (x : Sofar) (rest : List ℕ) (n : ℕ) → RecordFault x rest n → Known n
record_known x rest n c = known eleven (known twelve (known thirteen (known eleven (body_known x rest n)))) c

first_known : (s : List ℕ) (n place : ℕ) → FirstFault s n place → Known n
first_known s n place c =
    ⊎_elim
    (λ (a : (2048 < length s) × (n ≡ 11) × (place ≡ 0)). subst Known (sym a.1) eleven)
    (λ (a : (length s ≤ 2048) × FaultAt s n place).
    let q = a.1 in
    ⊎_elim
    (λ (b : (place + length q.rest ≡ length s) × RecordFault q.sofar q.rest n). record_known q.sofar q.rest n b.1)
    (λ (b : AfterEnd q.sofar q.rest × (n ≡ 13) × (place + length q.rest ≡ length s + 1)). subst Known (sym b.1) thirteen)
    q.which)
    c

pub fault_is : (s : List ℕ) (n place : ℕ) → Every IsOctet s → FirstFault s n place → (f : Fault) × (number_of f ≡ n) × (verdict_of s ≡ faulty f place)
fault_is s n place o c =
    let k = first_known s n place c in
    (k.0, k.1, told_fault s k.0 place o (subst (λ (i : ℕ). FirstFault s i place) (sym k.1) c))
