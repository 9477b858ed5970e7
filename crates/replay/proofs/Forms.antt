-- The form of a trace, record by record.
--     fault_told                      the number of what stands at a place is the fault's
--     form_end, form_bad, form_on     what the form from record k on is
--     form_whole                      a trace without a fault has whole records alone
--     checked_short, checked_whole    the same, of a trace of any length
use mathlib.Core.Bool.{not}
use mathlib.Core.List.{List}
use mathlib.Core.Logic.{⊎_elim}
use mathlib.Core.Path.{◌≡◌, refl, sym, ap, ◌∙◌}
use Prim.Native.Nat.{ℕ, zero, suc, ◌+◌, ◌*◌, ◌<◌, ◌≤◌}
use native.Mathlib.Nat.{suc-mul}
use native.Mathlib.Omega.{arith}
use borrow.Author.Tests.{ltb-false, le-leb, lt-leb, eq-eqb, ne_eqb}
use lib.Dec.{eqb, ltb}
use lib.ListN.{length, get_or, drop, length-drop}
use Rattle.octets.proofs.Cases.{lt_or_le, eq_or_ne}
use Rattle.octets.proofs.Pick.{pick_yes, pick_no, pick_lt, pick_ge, passed}
use Rattle.replay.specs.Trace.{kind_length, record_size, fault_of, fault_named, record_at, formed, fault_in, form_from, form_of, checked_form, Records}
use Rattle.replay.specs.Answers.{fault_number}
use Rattle.replay.specs.declared.answers.Fault.{Fault}
use Rattle.replay.proofs.Faults.{fault_back}
use Rattle.slave.specs.Answers.{told}
use Rattle.replay.specs.declared.form.Record.{Record}
use Rattle.replay.specs.declared.form.Record.TheVariants.{End, Whole, Bad}
use Rattle.slave.specs.declared.answers.Answer.{Answer}

module _ (l : ℕ) (trace : List ℕ) (at : ℕ) where
  at_end_lem : length trace ≤ at → record_at l trace at ≡ End
  unfolding record_at
  at_end_lem h = pick_yes _ _ (le-leb (length trace) at h)

  module _ (h : at < length trace) where
    at_whole : fault_of l (drop at trace) ≡ 0 → record_at l trace at ≡ Whole
    unfolding record_at
    at_whole e = pick_no _ _ (lt-leb (length trace) at h) ∙ pick_yes _ _ (eq-eqb (fault_of l (drop at trace)) 0 e)

    at_bad : (fault_of l (drop at trace) ≡ 0 → ⊥) → record_at l trace at ≡ Bad (fault_named (fault_of l (drop at trace)))
    unfolding record_at
    at_bad n = pick_no _ _ (lt-leb (length trace) at h) ∙ pick_no _ _ (ne_eqb (fault_of l (drop at trace)) 0 n)

    -- the number of what stands there is the fault's
    pub fault_told : fault_in (record_at l trace at) ≡ fault_of l (drop at trace)
    unfolding fault_in
    fault_told =
        ⊎_elim
        (λ e. rw (at_whole e) (sym e))
        (λ n. rw (at_bad n) (fault_back l (drop at trace) n))
        (eq_or_ne (fault_of l (drop at trace)) 0)

module _ (l : ℕ) (trace : List ℕ) (k : ℕ) where
  pub form_end : (n : ℕ) → length trace ≤ k * record_size l → form_from l trace k n ≡ told 0 0
  unfolding form_from formed
  form_end zero h = refl
  form_end (suc n) h = rw (at_end_lem l trace (k * record_size l) h)

  module _ (n : ℕ) (h : k * record_size l < length trace) where
    pub form_bad : (f : ℕ) → fault_of l (drop (k * record_size l) trace) ≡ f → (f ≡ 0 → ⊥) → form_from l trace k (suc n) ≡ told f (k * record_size l)
    unfolding form_from formed
    form_bad f e z =
        let some : fault_of l (drop (k * record_size l) trace) ≡ 0 → ⊥ = λ q. z (sym e ∙ q) in
        rw (at_bad l trace (k * record_size l) h some) (ap (λ (n : ℕ). told n (k * record_size l)) (fault_back l (drop (k * record_size l) trace) some ∙ e))

    pub form_on : fault_of l (drop (k * record_size l) trace) ≡ 0 → form_from l trace k (suc n) ≡ form_from l trace (suc k) n
    unfolding form_from formed
    form_on e = rw (at_whole l trace (k * record_size l) h e)

-- where a record stands, octets are left
pub stands_inside : (l : ℕ) (trace : List ℕ) (at : ℕ) {r : Record} → r ≡ record_at l trace at → (r ≡ End → ⊥) → at < length trace
stands_inside l trace at e z = ⊎_elim (λ u. u) (λ u. absurd (z (e ∙ at_end_lem l trace at u))) (lt_or_le at (length trace))

-- what stands at record k's place, and what the form from there on is; n records may follow, at least as many as do
module _ (l : ℕ) (trace : List ℕ) (at k : ℕ) (place : at ≡ k * record_size l) where
  pub ended_form : (n : ℕ) → record_at l trace at ≡ End → form_from l trace k n ≡ told 0 0
  unfolding form_from formed
  ended_form zero e = refl
  ended_form (suc n) e = rw (sym place, e)

  pub faulty_form : (n : ℕ) (fault : Fault) → length trace < at + n → record_at l trace at ≡ Bad fault → form_from l trace k n ≡ told (fault_number fault) at
  unfolding form_from formed
  faulty_form zero fault f e = absurd (let h = stands_inside l trace at (sym e) (λ z. cc) in omega arith)
  faulty_form (suc n) fault f e = rw (sym place, e)

  pub whole_form : (n : ℕ) → length trace < at + n → record_at l trace at ≡ Whole → (m : ℕ) × (n ≡ suc m) × (form_from l trace k n ≡ form_from l trace (suc k) m)
  unfolding form_from formed
  whole_form zero f e = absurd (let h = stands_inside l trace at (sym e) (λ z. cc) in omega arith)
  whole_form (suc n) f e = (n, refl, rw (sym place, e))

-- a record without a fault is not cut
uncut : (l : ℕ) (rest : List ℕ) → fault_of l rest ≡ 0 → record_size l ≤ length rest
unfolding fault_of
uncut l rest e =
    let p₁ = passed (eqb (kind_length (get_or rest 0 0)) 0) (λ z. let k : ⊥ = omega arith in k) e in
    let p₂ = passed (not (eqb (kind_length (get_or rest 0 0)) l)) (λ z. let k : ⊥ = omega arith in k) p₁.1 in
    let p₃ = passed (ltb (length rest) (record_size l)) (λ z. let k : ⊥ = omega arith in k) p₂.1 in
    ltb-false (length rest) (record_size l) p₃.0

whole_from : (l : ℕ) (trace : List ℕ) (n k : ℕ) → k * record_size l ≤ length trace → length trace < k * record_size l + n → (form_from l trace k n).number ≡ 0
    → (m : ℕ) × (length trace ≡ m * record_size l)
whole_from l trace zero k h f e = absurd (let z : ⊥ = omega arith in z)
whole_from l trace (suc n) k h f e =
    ⊎_elim
    (λ (u : k * record_size l < length trace).
    ⊎_elim
    (λ z.
    let s = suc-mul k (record_size l) in
    let c = uncut l (drop (k * record_size l) trace) z in
    let d = length-drop (k * record_size l) trace in
    whole_from l trace n (suc k) (omega arith) (omega arith) (ap (λ (t : Answer). t.number) (sym (form_on l trace k n u z)) ∙ e))
    (λ z. absurd (z (sym (ap (λ (t : Answer). t.number) (form_bad l trace k n u _ refl z)) ∙ e)))
    (eq_or_ne (fault_of l (drop (k * record_size l) trace)) 0))
    (λ (u : length trace ≤ k * record_size l). (k, omega arith))
    (lt_or_le (k * record_size l) (length trace))

pub form_whole : (l : ℕ) (trace : List ℕ) → (form_of l trace).number ≡ 0 → (n : ℕ) × (length trace ≡ n * record_size l)
form_whole l trace e = whole_from l trace (suc (length trace)) 0 (omega arith) (omega arith) e

pub checked_short : (l : ℕ) (trace : List ℕ) → length trace ≤ 1073741823 → checked_form l trace ≡ form_of l trace
unfolding checked_form
checked_short l trace h = pick_ge _ _ h

-- nothing is wrong with the form: the trace is not too long, and has whole records alone
pub checked_whole : (l : ℕ) (trace : List ℕ) → (checked_form l trace).number ≡ 0 → Records l trace
unfolding checked_form
checked_whole l trace e =
    ⊎_elim
    (λ (long : 1073741823 < length trace). absurd (let z : 35 ≡ 0 = ap (λ (x : Answer). x.number) (sym (pick_lt _ _ long)) ∙ e in let k : ⊥ = omega arith in k))
    (λ (short : length trace ≤ 1073741823).
    let w = form_whole l trace (ap (λ (x : Answer). x.number) (sym (checked_short l trace short)) ∙ e) in
    record { short = short; many = w.0; whole = w.1 })
    (lt_or_le 1073741823 (length trace))
