-- The refusals that come before a call's own work: what the sheet and the state record lead to.
use Rattle.std.specs.Prelude.{Option, None, Some, Ok, Err}
use mathlib.Core.Bool.{not}
use mathlib.Core.Path.{◌≡◌}
use Prim.Native.Nat.{ℕ, ◌≤◌}
use native.Mathlib.Omega.{arith}
use borrow.Author.Tests.{eqb-true, eqb-false, not-false}
use lib.Dec.{eqb}
use Rattle.octets.proofs.Pick.{passed}
use Rattle.link.specs.declared.state.LinkState.{LinkState}
use Rattle.sheet.specs.Faults.{number_of}
use Rattle.sheet.specs.declared.records.Fault.{Fault}
use Rattle.sheet.specs.declared.records.Fault.TheVariants.{Ended, Unknown, Misplaced, Range, Disorder, Excess, Unmapped}
use Rattle.sheet.specs.declared.records.Flaw.{Flaw}
use Rattle.sheet.specs.declared.walk.Layout.{Layout}
use Rattle.slave.specs.Answers.{refusal_answer, sheet_answer, on_sheet, on_state}
use Rattle.slave.specs.Exchange.{refusal_of}
use Rattle.slave.specs.declared.answers.Answer.{Answer}
use Rattle.slave.specs.declared.answers.Refusal.{Refusal}
use Rattle.slave.specs.declared.answers.Refusal.TheVariants.{Sheet, BadState, BadMemory, BadCommand, BadReply, IsDisabled, NotDisabled}
use Rattle.sheet.specs.Told.{Verdict, faulty}

module _ {ℓ} {A : Type ℓ} where
  pub on_faulty : (v : Verdict) (fault : Fault) (place : ℕ) (refuse : Answer → A) (go : Layout → A)
      → v ≡ faulty fault place → on_sheet v refuse go ≡ refuse (sheet_answer v)
  unfolding on_sheet
  on_faulty v fault place refuse go e = rw e

  -- the same, of the refusal that `?` makes of the flaw
  pub on_flaw : (v : Verdict) (flaw : Flaw) (refuse : Answer → A) (go : Layout → A) → v ≡ Err flaw → on_sheet v refuse go ≡ refuse (refusal_answer (Sheet flaw))
  unfolding on_sheet sheet_answer
  on_flaw v flaw refuse go e = rw e

  pub on_valid : (v : Verdict) (layout : Layout) (refuse : Answer → A) (go : Layout → A) → v ≡ Ok layout → on_sheet v refuse go ≡ go layout
  unfolding on_sheet
  on_valid v layout refuse go e = rw e

  pub on_invalid : (h : Option LinkState) (refuse : A) (go : LinkState → A) → h ≡ None → on_state h refuse go ≡ refuse
  unfolding on_state
  on_invalid h refuse go e = rw e

  pub on_state_lem : (h : Option LinkState) (st : LinkState) (refuse : A) (go : LinkState → A) → h ≡ Some st → on_state h refuse go ≡ go st
  unfolding on_state
  on_state_lem h st refuse go e = rw e

-- where nothing refuses, the lengths are the sheet's, and the link is enabled
pub no_refusal : (lay : Layout) (st : LinkState) (m c r : ℕ) → refusal_of lay st m c r ≡ 0
    → (m ≡ lay.memory) × (c ≡ lay.l) × (r ≡ lay.l) × (st.link ≡ 0 → ⊥)
unfolding refusal_of
no_refusal lay st m c r e =
    let p₁ = passed (not (eqb m lay.memory)) (λ z. let k : ⊥ = omega arith in k) e in
    let p₂ = passed (not (eqb c lay.l)) (λ z. let k : ⊥ = omega arith in k) p₁.1 in
    let p₃ = passed (not (eqb r lay.l)) (λ z. let k : ⊥ = omega arith in k) p₂.1 in
    let p₄ = passed (eqb st.link 0) (λ z. let k : ⊥ = omega arith in k) p₃.1 in (
      eqb-true m lay.memory (not-false _ p₁.0),
      eqb-true c lay.l (not-false _ p₂.0),
      eqb-true r lay.l (not-false _ p₃.0),
      eqb-false st.link 0 p₄.0,
    )

some_fault : (fault : Fault) → 1 ≤ number_of fault
unfolding number_of
some_fault Ended = omega arith
some_fault Unknown = omega arith
some_fault Misplaced = omega arith
some_fault Range = omega arith
some_fault Disorder = omega arith
some_fault Excess = omega arith
some_fault Unmapped = omega arith

-- a refusal is told by a number that is not 0
pub some_refusal : (r : Refusal) → 1 ≤ (refusal_answer r).number
some_refusal (Sheet flaw) = some_fault flaw.fault
some_refusal BadState = omega arith
some_refusal BadMemory = omega arith
some_refusal BadCommand = omega arith
some_refusal BadReply = omega arith
some_refusal IsDisabled = omega arith
some_refusal NotDisabled = omega arith
