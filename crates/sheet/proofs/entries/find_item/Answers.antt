-- `sheet::entries::find_item` meets its contract: no item before the one at hand has the code.
use Rattle.std.proofs.Common.{None, Some, arith}
use Rattle.sheet.specs.Entries.{item_at}
use Rattle.sheet.specs.declared.entries.Item.{Item}
use Rattle.sheet.proofs.Sought.{sought_first}
use Rattle.sheet.proofs.entries.find_item.Goals as goal

pub returns-then-item-code : goal.returns-then-item-code
returns-then-item-code c =
    let a = c.args in
    sought_first (λ (x : Item). x.code) Some None (item_at a.sheet.now a.regions a.parameters) a.code a.items c.loop-k.k _ c.item_at-item.ensures c.if-item-code.true (omega arith) c.loop-k.invariant
