-- `engineer::records::size` meets its contract: a record of any kind has 1 to 35 octets.
use Rattle.std.proofs.Common.{ℕ, ◌≤◌, sym, subst}
use Rattle.difference.proofs.Bounds.{size_least, size_most}
use Rattle.engineer.proofs.records.size.Goals as goal

pub returns : goal.returns
returns c =
    let P : ℕ → Type 0 = λ n. (1 ≤ n) × (n ≤ 35) in
    subst P (sym c.size.ensures) (size_least _, size_most _)
