-- What a reading that is a record tells of the fields that were judged.
use Rattle.std.specs.Prelude.{Err, Ok}
use mathlib.Core.Bool.{Bool, true}
use mathlib.Core.Path.{◌≡◌, ap}
use Prim.Native.Nat.{ℕ, ◌+◌, ◌≤◌, ◌<◌}
use native.Mathlib.Omega.{arith}
use borrow.Author.Tests.{ltb-false, leb-false, eqb-false, not-false}
use Rattle.octets.proofs.Pick.{passed}
use Rattle.regions.specs.declared.Region.{Region}
use Rattle.sheet.specs.Judging.{judged_region, judged_parameter, judged_item, judged_tolerance, judged_release}
use Rattle.sheet.specs.declared.entries.Parameter.{Parameter}
use Rattle.sheet.specs.declared.entries.Item.{Item}
use Rattle.sheet.specs.declared.records.Counts.{Counts}
use Rattle.sheet.specs.declared.records.Fault.{Fault}
use Rattle.sheet.specs.declared.records.Record.{Record}
use Rattle.sheet.specs.Told.{Reading, reads}

-- a fault is no record
pub bad_record : {f : Fault} {n : ℕ} {next : Counts} → Err f ≡ reads n next → ⊥
bad_record e = cc

same_record : {a b : Record} → ◌≡◌ {A = Reading} (Ok a) (Ok b) → a ≡ b
same_record e = cc

pub same_size : {n m : ℕ} {a b : Counts} → reads n a ≡ reads m b → n ≡ m
same_size e = ap (λ (r : Record). r.size) (same_record e)

pub same_counts : {n m : ℕ} {a b : Counts} → reads n a ≡ reads m b → a ≡ b
same_counts e = ap (λ (r : Record). r.counts) (same_record e)

pub record RegionRead (r : Region) (end : ℕ) (so : Counts) (n : ℕ) (next : Counts) : Type 0 where
  pub size : 10 ≡ n
  pub counts : record { regions = so.regions + 1; parameters = so.parameters; items = so.items; tolerances = so.tolerances; releases = so.releases; memory = so.memory + r.length } ≡ next
  pub some : 1 ≤ r.length
  pub ends : r.start + r.length ≤ 4294967296
  pub bits : r.rights ≤ 7
  pub few : so.regions < 32
  pub room : so.memory + r.length ≤ 65536
  pub rises : end ≤ r.start

pub region_read : (r : Region) (end : ℕ) (so : Counts) (n : ℕ) (next : Counts) → judged_region r end so ≡ reads n next → RegionRead r end so n next
unfolding judged_region
region_read r end so n next e =
    let p₁ = passed _ bad_record e in
    let p₂ = passed _ bad_record p₁.1 in
    let p₃ = passed _ bad_record p₂.1 in
    let p₄ = passed _ bad_record p₃.1 in
    let p₅ = passed _ bad_record p₄.1 in
    let p₆ = passed _ bad_record p₅.1 in
    let z = eqb-false r.length 0 p₁.0 in
    record {
      size = same_size p₆.1;
      counts = same_counts p₆.1;
      some = omega arith;
      ends = ltb-false 4294967296 (r.start + r.length) p₂.0;
      bits = ltb-false 7 r.rights p₃.0;
      few = leb-false 32 so.regions p₄.0;
      room = ltb-false 65536 (so.memory + r.length) p₅.0;
      rises = ltb-false r.start end p₆.0;
    }

pub record ParameterRead (p : Parameter) (least : ℕ) (mapped : Bool) (so : Counts) (n : ℕ) (next : Counts) : Type 0 where
  pub size : 8 ≡ n
  pub counts : record { regions = so.regions; parameters = so.parameters + 1; items = so.items; tolerances = so.tolerances; releases = so.releases; memory = so.memory } ≡ next
  pub some : 1 ≤ p.size
  pub most : p.size ≤ 56
  pub few : so.parameters < 64
  pub rises : least ≤ p.number
  pub inside : mapped ≡ true

pub parameter_read : (p : Parameter) (least : ℕ) (mapped : Bool) (so : Counts) (n : ℕ) (next : Counts)
    → judged_parameter p least mapped so ≡ reads n next → ParameterRead p least mapped so n next
unfolding judged_parameter
parameter_read p least mapped so n next e =
    let p₁ = passed _ bad_record e in
    let p₂ = passed _ bad_record p₁.1 in
    let p₃ = passed _ bad_record p₂.1 in
    let p₄ = passed _ bad_record p₃.1 in
    let p₅ = passed _ bad_record p₄.1 in
    let z = eqb-false p.size 0 p₁.0 in
    record {
      size = same_size p₅.1;
      counts = same_counts p₅.1;
      some = omega arith;
      most = ltb-false 56 p.size p₂.0;
      few = leb-false 64 so.parameters p₃.0;
      rises = ltb-false p.number least p₄.0;
      inside = not-false mapped p₅.0;
    }

pub record ItemRead (i : Item) (tail : Bool) (least : ℕ) (so : Counts) (n : ℕ) (next : Counts) : Type 0 where
  pub size : 35 ≡ n
  pub counts : record { regions = so.regions; parameters = so.parameters; items = so.items + 1; tolerances = so.tolerances; releases = so.releases; memory = so.memory } ≡ next
  pub some : 1 ≤ i.length
  pub most : i.length ≤ 32
  pub zeros : tail ≡ true
  pub few : so.items < 32
  pub rises : least ≤ i.code

pub item_read : (i : Item) (tail : Bool) (least : ℕ) (so : Counts) (n : ℕ) (next : Counts)
    → judged_item i tail least so ≡ reads n next → ItemRead i tail least so n next
unfolding judged_item
item_read i tail least so n next e =
    let p₁ = passed _ bad_record e in
    let p₂ = passed _ bad_record p₁.1 in
    let p₃ = passed _ bad_record p₂.1 in
    let p₄ = passed _ bad_record p₃.1 in
    let p₅ = passed _ bad_record p₄.1 in
    let z = eqb-false i.length 0 p₁.0 in
    record {
      size = same_size p₅.1;
      counts = same_counts p₅.1;
      some = omega arith;
      most = ltb-false 32 i.length p₂.0;
      zeros = not-false tail p₃.0;
      few = leb-false 32 so.items p₄.0;
      rises = ltb-false i.code least p₅.0;
    }

pub record ToleranceRead (x : ℕ) (so : Counts) (n : ℕ) (next : Counts) : Type 0 where
  pub size : 2 ≡ n
  pub counts : record { regions = so.regions; parameters = so.parameters; items = so.items; tolerances = 1; releases = so.releases; memory = so.memory } ≡ next
  pub most : x ≤ 3

pub tolerance_read : (x : ℕ) (so : Counts) (n : ℕ) (next : Counts) → judged_tolerance x so ≡ reads n next → ToleranceRead x so n next
unfolding judged_tolerance
tolerance_read x so n next e =
    let p = passed _ bad_record e in
    record { size = same_size p.1; counts = same_counts p.1; most = ltb-false 3 x p.0 }

pub record ReleaseRead (x : ℕ) (so : Counts) (n : ℕ) (next : Counts) : Type 0 where
  pub size : 2 ≡ n
  pub counts : record { regions = so.regions; parameters = so.parameters; items = so.items; tolerances = so.tolerances; releases = 1; memory = so.memory } ≡ next
  pub some : 1 ≤ x
  pub most : x ≤ 2

pub release_read : (x : ℕ) (so : Counts) (n : ℕ) (next : Counts) → judged_release x so ≡ reads n next → ReleaseRead x so n next
unfolding judged_release
release_read x so n next e =
    let p₁ = passed _ bad_record e in
    let p₂ = passed _ bad_record p₁.1 in
    let z = eqb-false x 0 p₁.0 in
    record { size = same_size p₂.1; counts = same_counts p₂.1; some = omega arith; most = ltb-false 2 x p₂.0 }
