-- Memory and reply keep their lengths in every exchange, whatever is lent.
use mathlib.Core.Path.{◌≡◌, refl, sym, ◌∙◌, subst, subst₂}
use mathlib.Core.List.{List}
use Prim.Native.Nat.{ℕ}
use borrow.Author.Tests.{eqb-true, not-false}
use lib.ListN.{length}
use Rattle.std.specs.Prelude.{Ok}
use Rattle.octets.proofs.Pick.{pick_cases}
use Rattle.frame.specs.Body.{Fitting}
use Rattle.frame.specs.Fields.{command_of}
use Rattle.frame.specs.Places.{Sized}
use Rattle.frame.specs.Unnamed.{stray_of}
use Rattle.frame.proofs.Kept.{memory_length}
use Rattle.frame.proofs.Replies.{whole}
use Rattle.link.specs.Stored.{state_of}
use Rattle.link.specs.declared.state.LinkState.{LinkState}
use Rattle.machine.specs.declared.words.Outcome.{Outcome}
use Rattle.sheet.specs.Walk.{verdict_of}
use Rattle.sheet.specs.declared.walk.Layout.{Layout}
use Rattle.sheet.proofs.Valid.{valid_sheet}
use Rattle.slave.specs.Exchange.{Left, outcome_for, refusal_of, exchanged, exchange_of}
use Rattle.slave.proofs.Fits.{valid_sized, outcome_fits}
use Rattle.slave.proofs.Order.{no_refusal}
use Rattle.demands.proofs.Refusals.{by_sheet, by_state}

-- an exchange that is answered
module _ (sheet memory command reply : List ℕ) (lay : Layout) (st : LinkState) (v : verdict_of sheet ≡ Ok lay)
    (free : refusal_of lay st (length memory) (length command) (length reply) ≡ 0) where
  abbrev o : Outcome
  o = outcome_for sheet lay st command

  pub fits : Fitting lay.form o.effect (length command) (length memory) (length sheet)
  fits =
      let r = no_refusal lay st (length memory) (length command) (length reply) free in
      subst₂ (λ (c m : ℕ). Fitting lay.form o.effect c m (length sheet)) (sym r.1) (sym r.0) (outcome_fits sheet lay (valid_sheet sheet lay v) st (command_of lay.form command) (stray_of lay.form lay.release command))

  exchanged_length : length (exchanged sheet lay st memory command).memory ≡ length memory
  unfolding exchanged
  exchanged_length = memory_length lay.form command memory o.effect (length sheet) fits

  exchanged_reply : length (exchanged sheet lay st memory command).reply ≡ length reply
  unfolding exchanged
  exchanged_reply =
      let r = no_refusal lay st (length memory) (length command) (length reply) free in
      let long = subst (Sized lay.form) (sym r.1) (valid_sized sheet lay (valid_sheet sheet lay v)) in
      whole lay.form sheet memory command o long fits ∙ r.1 ∙ sym r.2

pub memory_keeps : (sheet state memory command reply : List ℕ) → length (exchange_of sheet state memory command reply).memory ≡ length memory
memory_keeps sheet state memory command reply =
    unfold exchange_of in
    by_sheet (λ (l : Left). length l.memory ≡ length memory) (verdict_of sheet) _ _ (λ fault p. refl)
    (λ lay v.
    by_state (λ (l : Left). length l.memory ≡ length memory) (state_of state lay.l lay.tolerance) _ _ refl
    (λ st h.
    pick_cases (λ (l : Left). length l.memory ≡ length memory) _ (λ e. refl)
    (λ e. exchanged_length sheet memory command reply lay st v (eqb-true _ 0 (not-false _ e)))))

pub reply_keeps : (sheet state memory command reply : List ℕ) → length (exchange_of sheet state memory command reply).reply ≡ length reply
reply_keeps sheet state memory command reply =
    unfold exchange_of in
    by_sheet (λ (l : Left). length l.reply ≡ length reply) (verdict_of sheet) _ _ (λ fault p. refl)
    (λ lay v.
    by_state (λ (l : Left). length l.reply ≡ length reply) (state_of state lay.l lay.tolerance) _ _ refl
    (λ st h.
    pick_cases (λ (l : Left). length l.reply ≡ length reply) _ (λ e. refl)
    (λ e. exchanged_reply sheet memory command reply lay st v (eqb-true _ 0 (not-false _ e)))))
