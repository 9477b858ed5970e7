-- Checks 4 and 5 over a span of memory: "all n octets in regions" (alarm 9), then "Rights over the whole span: alarm 10"; a parameter's is in regions.
use Rattle.std.specs.Prelude.{ℕ, Bool, true, false, not, List, eqb}
use Rattle.octets.specs.Pick.{pick}
use Rattle.link.specs.declared.state.LinkState.{LinkState}
use Rattle.regions.specs.Search.{before_of, span_has, span_place}
use Rattle.regions.specs.declared.Region.{Region}
use Rattle.regions.specs.declared.Right.{Right}
use Rattle.regions.specs.declared.Right.TheVariants.{Mapped, Read, WriteAsync, WriteSync}
use Rattle.machine.specs.declared.words.Carrier.{Carrier}
use Rattle.machine.specs.declared.words.Effect.{Effect}
use Rattle.machine.specs.declared.words.Effect.TheVariants.{Reads, Writes}
use Rattle.machine.specs.declared.words.Field.TheVariants.{Address, Span}
use Rattle.machine.specs.Judgements.{Judgement, accepted, refused}
use Rattle.machine.specs.declared.codes.Alarm.TheVariants.{NoRight, OutOfRange}

-- the right that a read or a write asks: a write bit 1 in AsyncConnected and bit 2 in SyncConnected, by the link before the exchange
unfoldable pub right_of : Bool → ℕ → Right
right_of false link = Read
right_of true link = pick (eqb link 3) WriteSync WriteAsync

-- n octets at a place are read, or written
unfoldable pub moved : Bool → Carrier → ℕ → ℕ → Effect
moved false by place n = Reads by place n
moved true by place n = Writes by place n

-- n octets from address a on are asked to be read, or to be written: check 5, all there is to a parameter's span, since request 8. A refusal names the
-- first octet that lacks the right
unfoldable pub granted_of : Bool → List Region → Carrier → ℕ → ℕ → LinkState → Judgement
granted_of writes rs by a n st =
    pick (not (span_has rs (right_of writes st.link) a n)) (refused NoRight (Span (before_of rs (right_of writes st.link) a n)))
    (accepted (moved writes by (span_place rs a n) n) st)

-- and before it check 4, of a memory command's span
unfoldable pub span_of : Bool → List Region → Carrier → ℕ → ℕ → LinkState → Judgement
span_of writes rs by a n st = pick (not (span_has rs Mapped a n)) (refused OutOfRange Address) (granted_of writes rs by a n st)
