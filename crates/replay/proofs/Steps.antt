-- What an exchange with a record's two parts is, case by case.
--     cut_part         a part that is lent is the record's
--     part_whole       and as long as asked
--     step_performed   a command of which a record's reply is wanted is the record's step
--     is_exchanged     a record's exchange is not refused
--     step_runs        and its step leaves a state for the next record's
--     record_left      what performing its command leaves is what the record leaves
--     left_most        which tells no octet past what is wanted
use Rattle.std.specs.Prelude.{Ok}
use mathlib.Core.Bool.{not}
use mathlib.Core.List.{List}
use mathlib.Core.Path.{◌≡◌, refl, sym, ap, ap₂, subst, ◌∙◌}
use Prim.Native.Nat.{ℕ, ◌+◌, ◌-◌, ◌≤◌}
use native.Mathlib.Omega.{arith}
use borrow.Author.Tests.{eq-eqb, ne_eqb}
use lib.ListN.{length, take, drop, length-take, length-drop}
use lib.Seq.{drop-drop}
use Rattle.octets.specs.Parts.{part}
use Rattle.octets.proofs.Pick.{pick_no, pick_same, pick_both}
use Rattle.link.specs.declared.state.LinkState.{LinkState}
use Rattle.sheet.specs.Walk.{verdict_of}
use Rattle.sheet.specs.declared.walk.Layout.{Layout}
use Rattle.slave.specs.Exchange.{Left, refusal_of, exchanged, exchange_of, Running}
use Rattle.slave.specs.Wanted.{Stepped, stepped_of, Performed, performed, performed_of}
use Rattle.replay.specs.Replay.{record_leaves}
use Rattle.slave.proofs.Again.{runs_on}
use Rattle.slave.proofs.Differs.{differs_most}
use Rattle.slave.proofs.Order.{on_valid, on_state_lem}

module _ (trace : List ℕ) (at from n : ℕ) where
  -- the part that is lent, from a place of the trace up to another
  pub cut_part : (mid to : ℕ) → mid ≡ at + from → to ≡ mid + n → take (to - mid) (drop mid trace) ≡ part (drop at trace) from n
  unfolding part
  cut_part mid to f e =
      let m : to - mid ≡ n = omega arith in
      ap₂ (λ (x : ℕ) (y : List ℕ). take x y) m (ap (λ (i : ℕ). drop i trace) f ∙ sym (drop-drop from at trace))

  pub part_whole : at + from + n ≤ length trace → length (part (drop at trace) from n) ≡ n
  unfolding part
  part_whole h = simp (length-take, length-drop) (omega arith)

-- a command of which a record's reply is wanted is the record's step
pub step_performed : (l : ℕ) (state memory wanted : List ℕ) (x : Left) → length wanted ≡ l → {s : Stepped} {r : List ℕ}
    → performed s r ≡ performed_of wanted state memory x → s ≡ stepped_of l state memory wanted x
step_performed l state memory wanted x e p = ap (λ (y : Performed). y.step) p ∙ ap (λ (n : ℕ). stepped_of n state memory wanted x) e

step_most : (l : ℕ) (state memory wanted : List ℕ) (x : Left) → length wanted ≡ l → (stepped_of l state memory wanted x).at ≤ l
unfolding stepped_of
step_most l state memory wanted x e =
    let most = differs_most x.reply wanted in
    pick_both (λ (y : Stepped). y.at ≤ l) _ (omega arith) (omega arith)

module _ (sheet state memory command reply : List ℕ) (lay : Layout) (v : verdict_of sheet ≡ Ok lay) where
  module _ (st : LinkState) (run : Running state lay st) (m : length memory ≡ lay.memory) (c : length command ≡ lay.l) (r : length reply ≡ lay.l) where
    none_refused : refusal_of lay st (length memory) (length command) (length reply) ≡ 0
    unfolding refusal_of
    none_refused =
        (λ i. refusal_of lay st (m i) (c i) (r i))
        ∙ pick_no _ _ (ap not (eq-eqb lay.memory _ refl)) ∙ pick_no _ _ (ap not (eq-eqb lay.l _ refl)) ∙ pick_no _ _ (ap not (eq-eqb lay.l _ refl)) ∙ pick_no _ _ (ne_eqb st.link 0 run.on)

    pub is_exchanged : exchange_of sheet state memory command reply ≡ exchanged sheet lay st memory command
    unfolding exchange_of
    is_exchanged = on_valid _ _ _ _ v ∙ on_state_lem _ _ _ _ run.held ∙ pick_same _ _ none_refused

    pub step_runs : (next : LinkState) × Running (stepped_of lay.l state memory reply (exchange_of sheet state memory command reply)).state lay next
    unfolding stepped_of
    step_runs =
        pick_both (λ (x : Stepped). (next : LinkState) × Running x.state lay next) _
        (subst (λ (x : Left). (next : LinkState) × Running x.state lay next) (sym is_exchanged) (_, runs_on sheet state memory command lay st v run))
        (st, run)

-- what performing the command of a record leaves is what the record leaves: its exchange is not refused
module _ (sheet state memory command wanted room : List ℕ) (lay : Layout) (v : verdict_of sheet ≡ Ok lay) (st : LinkState) (run : Running state lay st)
    (m : length memory ≡ lay.memory) (c : length command ≡ lay.l) (w : length wanted ≡ lay.l) (r : length room ≡ lay.l)
    (s : Stepped) (reply : List ℕ) (done : performed s reply ≡ performed_of wanted state memory (exchanged sheet lay st memory command)) where
  pub record_left : performed s reply ≡ record_leaves sheet lay.l state memory room command wanted
  record_left =
      ap₂ performed
      (step_performed lay.l state memory _ _ w (done ∙ ap (performed_of wanted state memory) (sym (is_exchanged sheet state memory command wanted lay v st run m c w))))
      (ap (λ (x : Performed). x.reply) done ∙ sym (ap (λ (x : Left). x.reply) (is_exchanged sheet state memory command room lay v st run m c r)))

  -- which tells no octet past what is wanted
  pub left_most : s.at ≤ lay.l
  left_most =
      let e = ap (λ (x : Performed). x.step.at) record_left in
      let most = step_most lay.l state memory wanted (exchange_of sheet state memory command wanted) w in
      omega arith
