-- Request 9: a valid old record is turned, field by field.
use mathlib.Core.Bool.{true, not}
use mathlib.Core.Path.{◌≡◌, refl, ap, subst, sym, ◌∙◌}
use mathlib.Core.List.{List}
use Prim.Native.Nat.{ℕ}
use native.Mathlib.Omega.{arith}
use borrow.Author.Tests.{eq-eqb}
use lib.ListN.{length, get_or-eq_default}
use Rattle.octets.proofs.Pick.{pick_no}
use Rattle.link.specs.Stored.{octets_of, fields_of}
use Rattle.law.specs.Sheet.{Sheet, WellFormed, sheet_octets}
use Rattle.law.specs.State.{valid_old}
use Rattle.law.proofs.Clauses.{old_yes, old_true}
use Rattle.law.proofs.Complete.{complete}
use Rattle.slave.specs.Answers.{told}
use Rattle.slave.specs.Calls.{After, after, turn_of}
use Rattle.slave.proofs.Order.{on_valid, on_state_lem}
use Rattle.demands.specs.Tolerated.{Turned, OldRecordsTurn}

turns : (h : Sheet) → WellFormed h → (old state : List ℕ) → valid_old h old ≡ true → length state ≡ 11
    → turn_of (sheet_octets h) old state ≡ after (told 0 0) (octets_of (fields_of old))
unfolding turn_of
turns h w old state v eleven =
    on_valid _ _ _ _ (complete h w) ∙ on_state_lem _ _ _ _ (old_yes h old v) ∙ pick_no _ _ (ap not (eq-eqb (length state) 11 eleven))

field_by_field : (old : List ℕ) → length old ≡ 10 → Turned old (octets_of (fields_of old))
unfolding octets_of fields_of
field_by_field old ten = record {
  eleven = refl;
  kind = refl;
  its_link = refl;
  its_l = refl;
  its_dual = refl;
  its_com_time = refl;
  its_mn = (refl, refl);
  its_rsn = refl;
  its_latches = (refl, refl);
  none_counted = get_or-eq_default old 0 {n = 10} (omega arith);
}

pub old_records_turn : OldRecordsTurn
old_records_turn h w old state v eleven =
    let e = turns h w old state v eleven in (
      ap (λ (a : After). a.answer.number) e,
      subst (λ (t : List ℕ). Turned old t) (sym (ap (λ (a : After). a.state) e)) (field_by_field old (old_true h old v).0),
    )
