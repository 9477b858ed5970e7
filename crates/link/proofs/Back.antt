-- What is written reads back.
--     read-back     the record of a valid state holds that state
--     read_fields   a state that was read has the record's fields
--     read_valid    and is valid
--     old_valid     so is one that was read from an old record, whose count is 0
--     written       over eleven octets, writing a state leaves its record
use mathlib.Core.Bool.{not}
use Rattle.std.specs.Prelude.{None, Some}
use Rattle.std.proofs.Common.{rules}
use mathlib.Core.Path.{◌≡◌, refl, ap, subst, ◌∙◌}
use mathlib.Core.List.{List}
use Prim.Native.Nat.{ℕ}
use native.Mathlib.Omega.{arith}
use borrow.Author.Tests.{eq-eqb, eqb-true, not-false}
use lib.ListN.{length}
use Rattle.octets.proofs.Pick.{pick_no, passed}
use Rattle.link.specs.Stored.{octets_of, fields_of, state_of, stored}
use Rattle.link.specs.Old.{old_state_of}
use Rattle.link.specs.declared.state.LinkState.{LinkState}
use Rattle.link.proofs.Facts.{Facts, valid_facts, facts_valid}

no_state : {st : LinkState} → None ≡ Some st → ⊥
no_state e = let z : ◌≡◌ {A = ℕ} 0 1 = cc in omega arith

same_state : {a b : LinkState} → Some a ≡ Some b → a ≡ b
same_state e = cc

pub fields_back : (st : LinkState) → fields_of (octets_of st) ≡ st
unfolding fields_of octets_of
fields_back st = refl

pub record_length_lem : (st : LinkState) → length (octets_of st) ≡ 11
unfolding octets_of
record_length_lem st = refl

pub read_back : (st : LinkState) (l t : ℕ) → Facts l t st → state_of (octets_of st) l t ≡ Some st
unfolding state_of octets_of fields_of
read_back st l t v = pick_no _ _ refl ∙ pick_no _ _ refl ∙ pick_no _ _ (ap not (facts_valid st l t v))

pub written : (s : List ℕ) (st : LinkState) → length s ≡ 11 → stored s st ≡ octets_of st
unfolding stored
written s st e = pick_no _ _ (ap not (eq-eqb (length s) 11 e))

pub read_fields : (s : List ℕ) (l t : ℕ) (st : LinkState) → state_of s l t ≡ Some st → fields_of s ≡ st
unfolding state_of
read_fields s l t st e =
    let p₁ = passed _ no_state e in
    let p₂ = passed _ no_state p₁.1 in
    let p₃ = passed _ no_state p₂.1 in
    same_state p₃.1

-- a state that was read is valid, and its record has eleven octets
pub read_valid : (s : List ℕ) (l t : ℕ) (st : LinkState) → state_of s l t ≡ Some st → (length s ≡ 11) × Facts l t st
unfolding state_of
read_valid s l t st e =
    let p₁ = passed _ no_state e in
    let p₂ = passed _ no_state p₁.1 in
    let p₃ = passed _ no_state p₂.1 in
    let q = read_fields s l t st e in
    (eqb-true (length s) 11 (not-false _ p₁.0), subst (λ (x : LinkState). Facts l t x) q (valid_facts (fields_of s) l t (not-false _ p₃.0)))

-- where no failure is tolerated none is counted, and so any number may be
pub any_sheet : (st : LinkState) (l t : ℕ) → Facts l 0 st → Facts l t st
any_sheet st l t v = search rules

-- a state that was read from an old record is valid whatever the sheet tolerates
pub old_valid : (s : List ℕ) (l t : ℕ) (st : LinkState) → old_state_of s l ≡ Some st → (length s ≡ 10) × Facts l t st
unfolding old_state_of
old_valid s l t st e =
    let p₁ = passed _ no_state e in
    let p₂ = passed _ no_state p₁.1 in
    let p₃ = passed _ no_state p₂.1 in
    let q : fields_of s ≡ st = same_state p₃.1 in
    (eqb-true (length s) 10 (not-false _ p₁.0), subst (λ (x : LinkState). Facts l t x) q (any_sheet (fields_of s) l t (valid_facts (fields_of s) l 0 (not-false _ p₃.0))))
