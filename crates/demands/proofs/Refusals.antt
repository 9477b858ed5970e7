-- Reset, enable, turning and exchange: a refused one changes nothing, and a valid state stays one.
use mathlib.Core.Bool.{true, false, not}
use mathlib.Core.Logic.{⊎_elim}
use mathlib.Core.Path.{◌≡◌, refl, sym, ap, ◌∙◌}
use mathlib.Core.List.{List, []}
use Prim.Native.Nat.{ℕ, ◌≤◌, ◌<◌}
use native.Mathlib.Omega.{arith}
use borrow.Author.Tests.{eqb-true, not-false}
use lib.Dec.{eqb}
use lib.ListN.{length}
use Rattle.std.specs.Prelude.{None, Option, Some, Ok, Err}
use Rattle.std.proofs.lemmas.Option.{none-some}
use Rattle.octets.proofs.Pick.{pick_both, pick_cases}
use Rattle.frame.specs.Fields.{command_of}
use Rattle.frame.specs.Unnamed.{stray_of}
use Rattle.link.specs.Steps.{fresh, enabled}
use Rattle.link.specs.Stored.{fields_of, octets_of, state_of}
use Rattle.link.specs.Old.{old_state_of}
use Rattle.link.specs.declared.state.LinkState.{LinkState}
use Rattle.link.proofs.Back.{read_back, read_valid, old_valid}
use Rattle.link.proofs.Facts.{Facts}
use Rattle.link.proofs.Keeps.{fresh_valid, enabled_valid}
use Rattle.sheet.specs.Told.{Verdict, faulty}
use Rattle.sheet.specs.Walk.{verdict_of}
use Rattle.sheet.specs.Faults.{number_of}
use Rattle.sheet.specs.declared.records.Fault.{Fault}
use Rattle.sheet.specs.declared.records.Fault.TheVariants.{Ended, Unknown, Misplaced, Range, Disorder, Excess, Unmapped}
use Rattle.sheet.specs.declared.walk.Layout.{Layout}
use Rattle.slave.specs.Answers.{sheet_answer, on_sheet, on_state}
use Rattle.slave.specs.Calls.{After, reset_of, enable_of, turn_of}
use Rattle.slave.specs.Exchange.{Left, refusal_of, exchanged, exchange_of}
use Rattle.slave.specs.declared.answers.Answer.{Answer}
use Rattle.slave.proofs.Order.{no_refusal}
use Rattle.demands.specs.Sequences.{beside}
use Rattle.law.specs.Sheet.{Sheet, WellFormed, sheet_octets}
use Rattle.law.specs.State.{valid_state}
use Rattle.law.proofs.Clauses.{state_yes, state_no}
use Rattle.law.proofs.Complete.{complete}
use Rattle.law.proofs.Layouts.{layout_for}
use Rattle.sheet.proofs.Valid.{same_layout, tolerance_small}
use Rattle.octets.proofs.Cases.{decided}
use Rattle.demands.specs.Refused.{Unchanged, ValidRecord}
use Rattle.machine.proofs.Nexts.{outcome_valid}

-- what holds of every refusal and of every answer that goes on, holds of the call
module _ {A : Type 0} (Q : A → Type 0) where
  pub by_sheet : (v : Verdict) (refuse : Answer → A) (go : Layout → A)
      → ((fault : Fault) (place : ℕ) → Q (refuse (sheet_answer (faulty fault place)))) → ((lay : Layout) → v ≡ Ok lay → Q (go lay)) → Q (on_sheet v refuse go)
  unfolding on_sheet
  by_sheet (Ok lay) refuse go q g = g lay refl
  by_sheet (Err e) refuse go q g = q e.fault e.place

  pub by_state : (h : Option LinkState) (refuse : A) (go : LinkState → A) → Q refuse → ((st : LinkState) → h ≡ Some st → Q (go st)) → Q (on_state h refuse go)
  unfolding on_state
  by_state (Some st) refuse go q g = g st refl
  by_state None refuse go q g = q

-- where a call answers another number than 0, it leaves all as it was
abbrev pub Untold : List ℕ → List ℕ → List ℕ → Left → Type 0
Untold state memory reply l = (l.answer.number ≡ 0 → ⊥) → Unchanged state memory reply l

module _ (sheet state memory : List ℕ) where
  -- a refusal that leaves all as it was, and an answer 0, both have what demand 1 asks
  pub reset_keeps : Untold state memory [] (beside memory (reset_of sheet state))
  unfolding reset_of
  reset_keeps =
      by_sheet (λ (a : After). Untold state memory [] (beside memory a)) (verdict_of sheet) _ _ (λ fault place n. (refl, refl, refl))
      (λ lay v. pick_both (λ (a : After). Untold state memory [] (beside memory a)) _ (λ n. (refl, refl, refl)) (λ n. absurd (n refl)))

  pub enable_keeps : Untold state memory [] (beside memory (enable_of sheet state))
  unfolding enable_of
  enable_keeps =
      by_sheet (λ (a : After). Untold state memory [] (beside memory a)) (verdict_of sheet) _ _ (λ fault place n. (refl, refl, refl))
      (λ lay v.
      by_state (λ (a : After). Untold state memory [] (beside memory a)) (state_of state lay.l lay.tolerance) _ _ (λ n. (refl, refl, refl))
      (λ st h. pick_both (λ (a : After). Untold state memory [] (beside memory a)) _ (λ n. (refl, refl, refl)) (λ n. absurd (n refl))))

  pub turn_keeps : (old : List ℕ) → Untold state memory [] (beside memory (turn_of sheet old state))
  unfolding turn_of
  turn_keeps old =
      by_sheet (λ (a : After). Untold state memory [] (beside memory a)) (verdict_of sheet) _ _ (λ fault place n. (refl, refl, refl))
      (λ lay v.
      by_state (λ (a : After). Untold state memory [] (beside memory a)) (old_state_of old lay.l) _ _ (λ n. (refl, refl, refl))
      (λ st h. pick_both (λ (a : After). Untold state memory [] (beside memory a)) _ (λ n. (refl, refl, refl)) (λ n. absurd (n refl))))

  pub exchange_keeps : (command reply : List ℕ) → Untold state memory reply (exchange_of sheet state memory command reply)
  unfolding exchange_of exchanged
  exchange_keeps command reply =
      by_sheet (Untold state memory reply) (verdict_of sheet) _ _ (λ fault place n. (refl, refl, refl))
      (λ lay v.
      by_state (Untold state memory reply) (state_of state lay.l lay.tolerance) _ _ (λ n. (refl, refl, refl))
      (λ st h. pick_both (Untold state memory reply) _ (λ n. (refl, refl, refl)) (λ n. absurd (n refl))))

-- a fault's number is one of 11 to 17, and so not 0
fault_number : (fault : Fault) (place : ℕ) → (11 ≤ (sheet_answer (faulty fault place)).number) × ((sheet_answer (faulty fault place)).number ≤ 17)
unfolding sheet_answer number_of
fault_number Ended place = omega arith
fault_number Unknown place = omega arith
fault_number Misplaced place = omega arith
fault_number Range place = omega arith
fault_number Disorder place = omega arith
fault_number Excess place = omega arith
fault_number Unmapped place = omega arith

fault_counts : (fault : Fault) (place : ℕ) → (sheet_answer (faulty fault place)).number ≡ 0 → ⊥
fault_counts fault place e = let n = fault_number fault place in omega arith

-- every number that an exchange tells fits 32 bits
refusal_small : (lay : Layout) (st : LinkState) (m c r : ℕ) → refusal_of lay st m c r < 4294967296
unfolding refusal_of
refusal_small lay st m c r =
    let P : ℕ → Type 0 = λ n. n < 4294967296 in
    pick_both P _ (omega arith) (pick_both P _ (omega arith) (pick_both P _ (omega arith) (pick_both P _ (omega arith) (omega arith))))

pub exchange_small : (sheet state memory command reply : List ℕ) → (exchange_of sheet state memory command reply).answer.number < 4294967296
unfolding exchange_of exchanged
exchange_small sheet state memory command reply =
    let P : Left → Type 0 = λ l. l.answer.number < 4294967296 in
    by_sheet P (verdict_of sheet) _ _ (λ fault place. omega (arith, fault_number fault place))
    (λ lay v. by_state P (state_of state lay.l lay.tolerance) _ _ (omega arith) (λ st h. pick_both P _ (refusal_small lay st _ _ _) (omega arith)))

-- a state that the machine reads beside the sheet
abbrev pub Held : List ℕ → List ℕ → Type 0
Held sheet state = (lay : Layout) × (st : LinkState) × (verdict_of sheet ≡ Ok lay) × (state_of state lay.l lay.tolerance ≡ Some st)

module _ (sheet : List ℕ) where
  -- a state that was written beside a valid sheet is one
  written_valid : (lay : Layout) (st : LinkState) → verdict_of sheet ≡ Ok lay → Facts lay.l lay.tolerance st → Held sheet (octets_of st)
  written_valid lay st v f = (lay, st, v, read_back st lay.l lay.tolerance f)

  pub reset_valid : (state : List ℕ) → (reset_of sheet state).answer.number ≡ 0 → Held sheet (reset_of sheet state).state
  unfolding reset_of
  reset_valid state =
      by_sheet (λ (a : After). a.answer.number ≡ 0 → Held sheet a.state) (verdict_of sheet) _ _
      (λ fault place e. absurd (fault_counts fault place e))
      (λ lay v.
      pick_both (λ (a : After). a.answer.number ≡ 0 → Held sheet a.state) _ (λ e. absurd (omega arith))
      (λ e. written_valid lay (fresh lay.l) v (fresh_valid lay.l lay.tolerance)))

  pub turn_valid : (old state : List ℕ) → (turn_of sheet old state).answer.number ≡ 0 → Held sheet (turn_of sheet old state).state
  unfolding turn_of
  turn_valid old state =
      by_sheet (λ (a : After). a.answer.number ≡ 0 → Held sheet a.state) (verdict_of sheet) _ _
      (λ fault place e. absurd (fault_counts fault place e))
      (λ lay v.
      by_state (λ (a : After). a.answer.number ≡ 0 → Held sheet a.state) (old_state_of old lay.l) _ _ (λ e. absurd (omega arith))
      (λ st h.
      pick_both (λ (a : After). a.answer.number ≡ 0 → Held sheet a.state) _ (λ e. absurd (omega arith))
      (λ e. written_valid lay st v (old_valid old lay.l lay.tolerance st h).1)))

  module _ (state memory : List ℕ) (ok : Held sheet state) where
    pub then_turn : (old : List ℕ) → Held sheet (turn_of sheet old state).state
    unfolding turn_of
    then_turn old =
        by_sheet (λ (a : After). Held sheet a.state) (verdict_of sheet) _ _ (λ fault place. ok)
        (λ lay v.
        by_state (λ (a : After). Held sheet a.state) (old_state_of old lay.l) _ _ ok
        (λ st h. pick_both (λ (a : After). Held sheet a.state) _ ok (written_valid lay st v (old_valid old lay.l lay.tolerance st h).1)))

    pub again_reset : Held sheet (reset_of sheet state).state
    unfolding reset_of
    again_reset =
        by_sheet (λ (a : After). Held sheet a.state) (verdict_of sheet) _ _ (λ fault place. ok)
        (λ lay v. pick_both (λ (a : After). Held sheet a.state) _ ok (written_valid lay (fresh lay.l) v (fresh_valid lay.l lay.tolerance)))

    pub then_enable : Held sheet (enable_of sheet state).state
    unfolding enable_of
    then_enable =
        by_sheet (λ (a : After). Held sheet a.state) (verdict_of sheet) _ _ (λ fault place. ok)
        (λ lay v.
        by_state (λ (a : After). Held sheet a.state) (state_of state lay.l lay.tolerance) _ _ ok
        (λ st h.
        pick_cases (λ (a : After). Held sheet a.state) (not (eqb st.link 0)) (λ e. ok)
        (λ e. written_valid lay (enabled st) v (enabled_valid lay.l lay.tolerance st (read_valid state lay.l lay.tolerance st h).1 (eqb-true st.link 0 (not-false _ e))))))

    pub then_exchange : (command reply : List ℕ) → Held sheet (exchange_of sheet state memory command reply).state
    unfolding exchange_of exchanged
    then_exchange command reply =
        by_sheet (λ (x : Left). Held sheet x.state) (verdict_of sheet) _ _ (λ fault place. ok)
        (λ lay v.
        by_state (λ (x : Left). Held sheet x.state) (state_of state lay.l lay.tolerance) _ _ ok
        (λ st h.
        pick_cases (λ (x : Left). Held sheet x.state) _ (λ e. ok)
        (λ e.
        let q = no_refusal lay st (length memory) (length command) (length reply) (eqb-true _ 0 (not-false _ e)) in
        let on : 1 ≤ st.link = omega (arith, q.3) in
        written_valid lay _ v (outcome_valid sheet lay st (command_of lay.form command) (stray_of lay.form lay.release command) lay.l (read_valid state lay.l lay.tolerance st h).1 on (omega (arith, tolerance_small sheet lay v))))))

-- the machine reads what the law calls valid, and no other
module _ (h : Sheet) (w : WellFormed h) where
  pub held : (state : List ℕ) → ValidRecord h state → Held (sheet_octets h) state
  unfolding fields_of
  held state v = (layout_for h, fields_of state, complete h w, (state_yes h state v).0)

  pub valid : (state : List ℕ) → Held (sheet_octets h) state → ValidRecord h state
  valid state (lay, st, v, e) =
      ⊎_elim
      (λ (b : valid_state h state ≡ true). b)
      (λ (b : valid_state h state ≡ false).
      let same : lay ≡ layout_for h = same_layout (sym v ∙ complete h w) in
      absurd (none-some st (sym (state_no h state b) ∙ ap (λ (x : Layout). state_of state x.l x.tolerance) (sym same) ∙ e)))
      (decided (valid_state h state))
