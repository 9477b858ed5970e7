-- Validity as facts of the fields, from the tests and back.
--     valid_facts     what a valid state's fields are
--     facts_valid     a state with such fields is valid
use Rattle.std.proofs.Common.{rules, tests}
use mathlib.Core.Bool.{Bool, true, ◌&&◌, ◌||◌, and-eq-true_iff}
use mathlib.Core.Path.{◌≡◌}
use Prim.Native.Nat.{ℕ, ◌≤◌, ◌<◌}
use lib.Dec.{eqb, ltb, leb}
use Rattle.link.specs.Valid.{is_command_alarm, is_communication_alarm, in_range, agrees, valid_of}
use Rattle.link.specs.declared.state.LinkState.{LinkState}

pub record Facts (l tolerance : ℕ) (st : LinkState) : Type 0 where
  pub length : st.l ≡ l
  pub few : st.watch.failures ≤ tolerance
  pub link : st.link ≤ 3
  pub dual : st.dual ≤ 1
  pub known : st.watch.known ≤ 1
  pub last : st.watch.last ≤ 15
  pub rsn : st.watch.rsn ≤ 15
  pub command : is_command_alarm st.latches.command ≡ true
  pub communication : is_communication_alarm st.latches.communication ≡ true
  pub timed : 2 ≤ st.link → 1 ≤ st.com_time
  pub untimed : st.link < 2 → st.com_time ≡ 0
  pub single : (st.link ≡ 3 → ⊥) → st.dual ≡ 0
  pub doubled : (st.dual ≡ 0 → ⊥) → 2 ≤ st.com_time
  pub unwatched : (st.link ≡ 3 → ⊥) → (st.watch.known ≡ 0) × (st.watch.last ≡ 0) × (st.watch.rsn ≡ 0) × (st.watch.failures ≡ 0)
  pub unknown : st.watch.known < 1 → (st.watch.last ≡ 0) × (st.watch.rsn ≡ 0) × (st.watch.failures ≡ 0)
  pub silent : st.link < 1 → (st.latches.command ≡ 0) × (st.latches.communication ≡ 0)

both : (a b : Bool) → a && b ≡ true → (a ≡ true) × (b ≡ true)
both a b e = (and-eq-true_iff a b).0 e

pub valid_facts : (st : LinkState) (l tolerance : ℕ) → valid_of st l tolerance ≡ true → Facts l tolerance st
unfolding valid_of in_range agrees
valid_facts st l tolerance v =
    let w = st.watch in
    let h = st.latches in
    let t = st.com_time in
    let quiet = eqb w.known 0 && eqb w.last 0 && eqb w.rsn 0 && eqb w.failures 0 in
    let v₁ = both (eqb st.l l && leb w.failures tolerance && in_range st) (agrees st) v in
    let v₂ = both (eqb st.l l && leb w.failures tolerance) (in_range st) v₁.0 in
    let v₃ = both (eqb st.l l) (leb w.failures tolerance) v₂.0 in
    let r₁ = both (leb st.link 3 && leb st.dual 1 && leb w.known 1 && leb w.last 15 && leb w.rsn 15 && is_command_alarm h.command) _ v₂.1 in
    let r₂ = both (leb st.link 3 && leb st.dual 1 && leb w.known 1 && leb w.last 15 && leb w.rsn 15) _ r₁.0 in
    let r₃ = both (leb st.link 3 && leb st.dual 1 && leb w.known 1 && leb w.last 15) _ r₂.0 in
    let r₄ = both (leb st.link 3 && leb st.dual 1 && leb w.known 1) _ r₃.0 in
    let r₅ = both (leb st.link 3 && leb st.dual 1) _ r₄.0 in
    let r₆ = both (leb st.link 3) _ r₅.0 in
    let a = ltb st.link 2 || leb 1 t in
    let b = leb 2 st.link || eqb t 0 in
    let c = eqb st.link 3 || eqb st.dual 0 in
    let d = eqb st.dual 0 || leb 2 t in
    let e = eqb st.link 3 || quiet in
    let f = leb 1 w.known || (eqb w.last 0 && eqb w.rsn 0 && eqb w.failures 0) in
    let a₁ = both (a && b && c && d && e && f) _ v₁.1 in
    let a₂ = both (a && b && c && d && e) _ a₁.0 in
    let a₃ = both (a && b && c && d) _ a₂.0 in
    let a₄ = both (a && b && c) _ a₃.0 in
    let a₅ = both (a && b) _ a₄.0 in
    let a₆ = both a _ a₅.0 in
    search (rules, tests)

pub facts_valid : (st : LinkState) (l tolerance : ℕ) → Facts l tolerance st → valid_of st l tolerance ≡ true
unfolding valid_of in_range agrees
facts_valid st l tolerance v = search (rules, tests)
