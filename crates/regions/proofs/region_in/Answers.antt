-- `regions::region_in` meets its contract: the record's octets, counted from its own place.
use Prim.Native.Nat.{◌+◌}
use mathlib.Core.Path.{sym, ◌∙◌}
use lib.ListN.{get_or}
use Rattle.octets.proofs.Numbers.{le4_at_plus}
use Rattle.regions.specs.Region.{region_from}
use Rattle.regions.proofs.region_in.Goals as goal

pub returns : goal.returns
unfolding region_from
returns c =
    let a = c.args in
    let at = a.at in
    λ i. record {
      start = (c.le4.ensures ∙ sym (le4_at_plus a.sheet.now at 1)) i;
      length = (c.le4-2.ensures ∙ sym (le4_at_plus a.sheet.now at 5)) i;
      rights = get_or a.sheet.now (at + 9) 0;
    }
