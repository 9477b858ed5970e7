-- The fault of the record at a place of a trace, from what is known of the place's kind k and of the octets that are left.
--     fault_past      past the end there is no kind
--     fault_kind      the kind is none
--     fault_length    the kind's L is not the sheet's
--     fault_cut       the record is cut
--     fault_none      the record is whole
-- and of the fault and its number:
--     some_stop       what stops a replay is told by a number that is not 0
--     bad_named       what stands at a place with a fault is told by that fault
--     fault_back      and by its number
use Prim.Native.Nat.{ℕ, ◌-◌, ◌<◌, ◌≤◌}
use native.Mathlib.Omega.{arith}
use lib.Dec.{eqb}
use mathlib.Core.List.{List}
use mathlib.Core.Path.{◌≡◌, refl, sym, ap, ◌∙◌}
use native.Mathlib.Nat.{add-zero}
use lib.ListN.{length, get_or, drop, length-drop, drop_of_length-le}
use lib.Seq.{get_or-drop}
use Rattle.octets.specs.Pick.{pick}
use Rattle.octets.proofs.Pick.{pick_eq, pick_ne, pick_lt, pick_ge, pick_differ, pick_same, pick_both}
use Rattle.slave.proofs.Order.{some_refusal}
use Rattle.replay.specs.Answers.{fault_number, stop_answer}
use Rattle.replay.specs.Trace.{kind_length, record_size, fault_of, fault_named}
use Rattle.replay.specs.declared.answers.Fault.{Fault}
use Rattle.replay.specs.declared.answers.Fault.TheVariants.{Unknown, OtherLength, Cut}
use Rattle.replay.specs.declared.answers.Stop.{Stop}
use Rattle.replay.specs.declared.answers.Stop.TheVariants.{Refused, Malformed, Differs, TooLong}
use Rattle.replay.specs.declared.form.Record.TheVariants.{Whole, Bad}

module _ (l : ℕ) (s : List ℕ) (at : ℕ) where
  no_kind : length s ≤ at → kind_length (get_or (drop at s) 0 0) ≡ 0
  unfolding kind_length pick
  no_kind h = rw (drop_of_length-le s h)

  pub fault_past : length s ≤ at → fault_of l (drop at s) ≡ 31
  unfolding fault_of
  fault_past h = pick_eq _ _ (no_kind h)

  module _ {k : ℕ} (is : k ≡ kind_length (get_or s at 0)) where
    -- the rest's kind is the octet at the place
    here : kind_length (get_or (drop at s) 0 0) ≡ k
    here = ap kind_length (get_or-drop at s 0 0 ∙ ap (λ (i : ℕ). get_or s i 0) (add-zero at)) ∙ sym is

    pub fault_kind : k ≡ 0 → fault_of l (drop at s) ≡ 31
    unfolding fault_of
    fault_kind e = pick_eq _ _ (here ∙ e)

    module _ (known : k ≡ 0 → ⊥) where
      pub fault_length : (k ≡ l → ⊥) → fault_of l (drop at s) ≡ 32
      unfolding fault_of
      fault_length n = pick_ne _ _ (λ e. known (sym here ∙ e)) ∙ pick_differ _ _ (λ e. n (sym here ∙ e))

      module _ (same : k ≡ l) where
        pub fault_cut : length s - at < record_size l → fault_of l (drop at s) ≡ 33
        unfolding fault_of
        fault_cut h =
            let h' : length (drop at s) < record_size l = rw (length-drop at s) h in
            pick_ne _ _ (λ e. known (sym here ∙ e)) ∙ pick_same _ _ (here ∙ same) ∙ pick_lt _ _ h'

        pub fault_none : record_size l ≤ length s - at → fault_of l (drop at s) ≡ 0
        unfolding fault_of
        fault_none h =
            let h' : record_size l ≤ length (drop at s) = rw (length-drop at s) h in
            pick_ne _ _ (λ e. known (sym here ∙ e)) ∙ pick_same _ _ (here ∙ same) ∙ pick_ge _ _ h'

-- a fault has a number
some_fault : (fault : Fault) → 1 ≤ fault_number fault
some_fault Unknown = omega arith
some_fault OtherLength = omega arith
some_fault Cut = omega arith

-- and so has whatever stops a replay
pub some_stop : (stop : Stop) → 1 ≤ (stop_answer stop).number
some_stop (Refused refusal) = some_refusal refusal
some_stop (Malformed fault place) = some_fault fault
some_stop (Differs place) = omega arith
some_stop TooLong = omega arith

number_back : (fault : Fault) → fault_named (fault_number fault) ≡ fault
unfolding fault_named pick
number_back Unknown = refl
number_back OtherLength = refl
number_back Cut = refl

-- the place is told by the fault itself
pub bad_named : {n : ℕ} (fault : Fault) → fault_number fault ≡ n → pick (eqb n 0) Whole (Bad (fault_named n)) ≡ Bad fault
bad_named {n} fault e =
    let s = some_fault fault in
    pick_ne _ _ (λ (z : n ≡ 0). let k : ⊥ = omega arith in k) ∙ ap Bad (ap fault_named (sym e) ∙ number_back fault)

-- and the number told is the fault's own
pub fault_back : (l : ℕ) (rest : List ℕ) → (fault_of l rest ≡ 0 → ⊥) → fault_number (fault_named (fault_of l rest)) ≡ fault_of l rest
unfolding fault_of
fault_back l rest =
    let P : ℕ → Type 0 = λ n. (n ≡ 0 → ⊥) → fault_number (fault_named n) ≡ n in
    pick_both P _ (λ z. ap fault_number (number_back Unknown))
    (pick_both P _ (λ z. ap fault_number (number_back OtherLength))
    (pick_both P _ (λ z. ap fault_number (number_back Cut)) (λ z. absurd (z refl))))
