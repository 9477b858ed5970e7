-- The reply's head. Document 01: "Reply: octet 0 the code again, octet 1 RWDT, octets 2 and 3 status, then body"; request 7: "in the reply code, alarm, two
-- octets of status, 11 of body, RWDT last".
use Rattle.std.specs.Prelude.{ℕ, ◌+◌, ◌*◌, ◌/◌, ◌%◌, ◌&&◌, List, [], ◌∷◌, eqb, replicate}
use Rattle.octets.specs.Parts.{put_at}
use Rattle.octets.specs.Pick.{pick}
use Rattle.link.specs.declared.state.LinkState.{LinkState}
use Rattle.sheet.specs.declared.walk.Form.{Form}
use Rattle.sheet.specs.declared.walk.Form.TheVariants.{Enhanced, Short}
use Rattle.frame.specs.Places.{wdt_at}

-- "RWDT is 16 times the new RSN plus the command's MN if the link afterwards is 3, else 0"; RSN and MN are half octets
unfoldable pub rwdt_of : ℕ → LinkState → ℕ
rwdt_of wdt next = pick (eqb next.link 3) (16 * (next.watch.rsn % 16) + wdt % 16) 0

-- request 9: in a failure that is tolerated "status bit 1 set"; the count is 0 behind every other exchange
unfoldable pub missed_bit : LinkState → ℕ
missed_bit next = pick (eqb next.watch.failures 0) 0 2

-- "Status bit 0 is set if a latch is nonzero after the exchange; bit 2 is always set; bits 8 to 11 are this command's alarm ..; bits 12 to 15 the
-- communication latch after the exchange; the rest 0"; request 1: the command's identity comes back in bits 6 and 7
unfoldable pub status_of : ℕ → ℕ → LinkState → ℕ
status_of identity alarm next =
    pick (eqb next.latches.command 0 && eqb next.latches.communication 0) 0 1
    + missed_bit next + 4 + 64 * (identity % 4) + 256 * (alarm % 16) + 4096 * (next.latches.communication % 16)

-- the first four octets; the status is a number of two octets, low octet first. Request 7: "The command alarm goes in octet 1", and not into the status
unfoldable pub head_of : Form → ℕ → ℕ → ℕ → ℕ → LinkState → List ℕ
head_of Enhanced code wdt identity alarm next =
    code ∷ rwdt_of wdt next ∷ status_of identity alarm next % 256 ∷ status_of identity alarm next / 256 ∷ []
head_of Short code wdt identity alarm next = code ∷ alarm ∷ status_of identity 0 next % 256 ∷ status_of identity 0 next / 256 ∷ []

-- a reply of l octets with its head, RWDT, and zeros for its body
unfoldable pub begun_of : Form → ℕ → ℕ → ℕ → ℕ → ℕ → LinkState → List ℕ
begun_of Enhanced l code wdt identity alarm next = put_at (replicate l 0) 0 (head_of Enhanced code wdt identity alarm next)
begun_of Short l code wdt identity alarm next =
    put_at (put_at (replicate l 0) 0 (head_of Short code wdt identity alarm next)) (wdt_at Short) (rwdt_of wdt next ∷ [])
