-- A state record from exchange to exchange.
--     its_fields   a valid record holds its fields
--     runs_on      an exchange that nothing refuses leaves a state for the next
use Rattle.std.specs.Prelude.{Ok}
use mathlib.Core.List.{List}
use mathlib.Core.Path.{◌≡◌, sym, subst, ◌∙◌}
use Prim.Native.Nat.{ℕ}
use native.Mathlib.Omega.{arith}
use Rattle.frame.specs.Fields.{command_of}
use Rattle.frame.specs.Unnamed.{stray_of}
use Rattle.link.proofs.Back.{read_back, read_fields, read_valid}
use Rattle.link.specs.Stored.{fields_of}
use Rattle.link.specs.declared.state.LinkState.{LinkState}
use Rattle.machine.proofs.Nexts.{outcome_valid, outcome_on}
use Rattle.sheet.proofs.Valid.{tolerance_small}
use Rattle.sheet.specs.Walk.{verdict_of}
use Rattle.sheet.specs.declared.walk.Layout.{Layout}
use Rattle.slave.specs.Exchange.{outcome_for, exchanged, Running}

pub its_fields : (state : List ℕ) (lay : Layout) (st x : LinkState) → Running state lay st → x ≡ fields_of state → Running state lay x
its_fields state lay st x r e = subst (λ (y : LinkState). Running state lay y) (sym (e ∙ read_fields state lay.l lay.tolerance st r.held)) r

pub runs_on : (sheet state memory command : List ℕ) (lay : Layout) (st : LinkState) → verdict_of sheet ≡ Ok lay → Running state lay st
    → Running (exchanged sheet lay st memory command).state lay (outcome_for sheet lay st command).next
unfolding exchanged
runs_on sheet state memory command lay st v r =
    let z = r.on in
    let c = command_of lay.form command in
    let stray = stray_of lay.form lay.release command in
    let facts = (read_valid state lay.l lay.tolerance st r.held).1 in
    let few = tolerance_small sheet lay v in
    let on = outcome_on sheet lay st c stray lay.l facts (omega (arith, z)) in
    record {
      held = read_back _ lay.l lay.tolerance (outcome_valid sheet lay st c stray lay.l facts (omega (arith, z)) (omega (arith, few)));
      on = λ e. omega (arith, on, e);
    }
