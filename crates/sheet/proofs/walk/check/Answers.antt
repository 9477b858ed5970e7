-- `sheet::walk::check` meets its contract: a sheet that is too long, or the walk from its front.
use Prim.Native.Nat.{ℕ, suc, ◌-◌}
use mathlib.Core.Path.{◌≡◌, sym, ap, subst, ◌∙◌}
use native.Mathlib.Nat.{le_refl}
use native.Mathlib.Omega.{arith}
use lib.ListN.{length, drop}
use Rattle.octets.proofs.Pick.{pick_lt, pick_ge}
use Rattle.sheet.specs.Walk.{verdict_of, none}
use Rattle.sheet.specs.Sound.{Sound}
use Rattle.sheet.proofs.Steps.{start_sound}
use Rattle.sheet.proofs.walk.check.Goals as goal

pub returns-then-sheet-gt2048 : goal.returns-then-sheet-gt2048
unfolding verdict_of
returns-then-sheet-gt2048 c = sym (pick_lt _ _ c.if-sheet-gt2048.true)

pub walk-requires : goal.walk-requires
walk-requires c =
    let s = c.args.sheet.now in
    let e : 0 ≡ length s - length s = omega arith in (
      omega arith,
      record {
        short = c.if-sheet-gt2048.false;
        fits = le_refl (length s);
        part = ap (λ (i : ℕ). drop i s) e;
        sound = subst (λ (i : ℕ). Sound s i none) e (start_sound s);
      },
    )

pub returns : goal.returns
unfolding verdict_of
returns c =
    c.told.ensures
    ∙ c.walk.ensures (suc (length c.args.sheet.now)) (omega arith)
    ∙ sym (pick_ge _ _ c.if-sheet-gt2048.false)
