-- `difference::records::Place::bits` meets its contract: three fields, by their widths as the callee tells them.
use Rattle.std.proofs.Common.{add_assoc}
use Rattle.difference.specs.Records.{bits_at}
use Rattle.difference.proofs.records.Place.bits.Goals as goal

pub returns : goal.returns
unfolding bits_at
returns c = simp (c.bit.ensures.value, c.bit-2.ensures.value, c.bit-3.ensures.value, c.widths.ensures.value, add_assoc)
