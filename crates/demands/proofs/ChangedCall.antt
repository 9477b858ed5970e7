-- Request 2: what its call leaves for two good sheets, that a refused one writes nothing, and which fault it tells.
use mathlib.Core.List.{List, ◌++◌}
use mathlib.Core.Logic.{⊎_elim}
use mathlib.Core.Path.{◌≡◌, refl, sym, ap, ◌∙◌}
use Prim.Native.Nat.{ℕ, ◌+◌, ◌-◌, ◌≤◌, ◌<◌}
use native.Mathlib.Omega.{arith}
use lib.ListN.{length, get_or, drop, length-append, length-drop, get_or-append}
use lib.Seq.{get_or-append-add, get_or-drop}
use Rattle.std.specs.Prelude.{Ok}
use Rattle.octets.proofs.Cases.{lt_or_le}
use Rattle.octets.proofs.Pick.{pick_lt, pick_ge, pick_both}
use Rattle.difference.specs.Difference.{Listed, listed, second_answer, entered_of, difference_of}
use Rattle.sheet.specs.Faults.{number_of}
use Rattle.sheet.specs.Told.{Verdict, faulty}
use Rattle.sheet.specs.Walk.{verdict_of}
use Rattle.sheet.specs.declared.records.Fault.{Fault}
use Rattle.sheet.specs.declared.walk.Layout.{Layout}
use Rattle.slave.specs.Answers.{told, sheet_answer}
use Rattle.slave.proofs.Order.{on_faulty, on_valid}
use Rattle.law.specs.Sheet.{Sheet, WellFormed, sheet_octets}
use Rattle.law.specs.Difference.{Change, entries_of, Lists, list_octets}
use Rattle.law.proofs.Complete.{complete}
use Rattle.law.proofs.Numbered.{fault_is}
use Rattle.law.proofs.Told.{is_merge, both_entered}
use Rattle.demands.specs.Changed.{TheCallTellsIt, RefusedWritesNothing, RefusalsInOrder}
use Rattle.demands.proofs.Refusals.{by_sheet}

-- octets in a buffer that is too short, or not
module _ (octets lent : List ℕ) where
  too_short : length lent < length octets → entered_of octets lent ≡ listed (told 28 (length octets)) lent
  unfolding entered_of
  too_short h = pick_lt _ _ h

  pub long_enough : length octets ≤ length lent → entered_of octets lent ≡ listed (told 0 (length octets)) (octets ++ drop (length octets) lent)
  unfolding entered_of
  long_enough h = pick_ge _ _ h

  short_exactly : (entered_of octets lent).answer.number ≡ 28 → length lent < length octets
  short_exactly e =
      ⊎_elim (λ h. h) (λ h. let z = sym (ap (λ (l : Listed). l.answer.number) (long_enough h)) ∙ e in absurd (omega arith))
      (lt_or_le (length lent) (length octets))

  length_told : (entered_of octets lent).answer.place ≡ length octets
  unfolding entered_of
  length_told = pick_both (λ (l : Listed). l.answer.place ≡ length octets) _ refl refl

  entered_front : (k : ℕ) → k < length octets → get_or (octets ++ drop (length octets) lent) k 0 ≡ get_or octets k 0
  entered_front k h = get_or-append octets (drop (length octets) lent) 0 k h

  entered_behind : (k : ℕ) → length octets ≤ k → get_or (octets ++ drop (length octets) lent) k 0 ≡ get_or lent k 0
  entered_behind k h =
      let n = length octets in
      let e : k ≡ n + (k - n) = omega arith in
      ap (λ (i : ℕ). get_or (octets ++ drop n lent) i 0) e
      ∙ get_or-append-add octets (drop n lent) (k - n) 0
      ∙ get_or-drop n lent (k - n) 0
      ∙ ap (λ (i : ℕ). get_or lent i 0) (sym e)

  entered_length : length octets ≤ length lent → length (octets ++ drop (length octets) lent) ≡ length lent
  entered_length h = simp (length-append, length-drop) (omega arith)

-- the call for two good sheets enters their list
entered : (a b : Sheet) → WellFormed a → WellFormed b → (list : List Change) → Lists (entries_of a) (entries_of b) list → (lent : List ℕ)
    → difference_of (sheet_octets a) (sheet_octets b) lent ≡ entered_of (list_octets list) lent
entered a b v w list l lent =
    both_entered (sheet_octets a) (sheet_octets b) lent a b v w refl refl
    ∙ ap (λ (m : List Change). entered_of (list_octets m) lent) (sym (is_merge a b v w list l))

pub the_call_tells_it : TheCallTellsIt
the_call_tells_it = record {
  too_long_exactly = λ a b v w list l lent.
      let e = ap (λ (x : Listed). x.answer.number) (entered a b v w list l lent) in (
        λ h. short_exactly (list_octets list) lent (sym e ∙ h),
        λ h. e ∙ ap (λ (x : Listed). x.answer.number) (too_short (list_octets list) lent h),
      );
  the_length_is_told = λ a b v w list l lent.
      ap (λ (x : Listed). x.answer.place) (entered a b v w list l lent) ∙ length_told (list_octets list) lent;
  else_it_is_written = λ a b v w list l lent h.
      let os = list_octets list in
      let e = entered a b v w list l lent ∙ long_enough os lent h in
      let now = ap (λ (x : Listed). x.list) e in (
        ap (λ (x : Listed). x.answer.number) e,
        ap length now ∙ entered_length os lent h,
        λ k i. ap (λ (o : List ℕ). get_or o k 0) now ∙ entered_front os lent k i,
        λ k i. ap (λ (o : List ℕ). get_or o k 0) now ∙ entered_behind os lent k i,
      );
}

-- where a call answers another number than 0, the lent octets stay
abbrev Unwritten : List ℕ → Listed → Type 0
Unwritten lent l = (l.answer.number ≡ 0 → ⊥) → l.list ≡ lent

pub refused_writes_nothing : RefusedWritesNothing
unfolding difference_of entered_of
refused_writes_nothing first second lent =
    by_sheet (Unwritten lent) (verdict_of first) _ _ (λ fault place n. refl)
    (λ lay v.
    by_sheet (Unwritten lent) (verdict_of second) _ _ (λ fault place n. refl)
    (λ lay v. pick_both (Unwritten lent) _ (λ n. refl) (λ n. absurd (n refl))))

-- a sheet at fault: the fault and its place, ten higher where the first is good
module _ (first second lent : List ℕ) (f : Fault) (place : ℕ) where
  first_refused : verdict_of first ≡ faulty f place → difference_of first second lent ≡ listed (told (number_of f) place) lent
  unfolding difference_of sheet_answer
  first_refused e =
      on_faulty _ f place _ _ e ∙ ap (λ (v : Verdict). listed (sheet_answer v) lent) e

  second_refused : (u : Layout) → verdict_of first ≡ Ok u → verdict_of second ≡ faulty f place
      → difference_of first second lent ≡ listed (told (number_of f + 10) place) lent
  unfolding difference_of sheet_answer
  second_refused u p e =
      on_valid _ u _ _ p ∙ on_faulty _ f place _ _ e ∙ ap (λ (v : Verdict). listed (second_answer (sheet_answer v)) lent) e

pub refusals_in_order : RefusalsInOrder
refusals_in_order = record {
  the_first_sheet = λ first second lent o f place y.
      let k = fault_is first f place o y in
      let e = first_refused first second lent k.0 place k.2 in
      (ap (λ (l : Listed). l.answer.number) e ∙ k.1, ap (λ (l : Listed). l.answer.place) e);
  then_the_second = λ a v second lent o f place y.
      let k = fault_is second f place o y in
      let e = second_refused (sheet_octets a) second lent k.0 place _ (complete a v) k.2 in
      (ap (λ (l : Listed). l.answer.number) e ∙ ap (λ (n : ℕ). n + 10) k.1, ap (λ (l : Listed). l.answer.place) e);
}
