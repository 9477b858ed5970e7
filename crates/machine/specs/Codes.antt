-- The command codes (002, 4.2; document 01, "One exchange"), and which link allows which.
use Rattle.std.specs.Prelude.{ℕ, Bool, true, false, ◌&&◌, ◌||◌, eqb, ◌≡◌, Result, MatchResult}
use Rattle.octets.specs.Pick.{pick}
use Rattle.machine.specs.declared.codes.Code.{Code}
use Rattle.machine.specs.declared.codes.Code.TheVariants.{Nop, PrmRd, PrmWr, IdRd, AlmRd, AlmClr, SyncSet, Connect, Disconnect, MemRd, MemWr}
use Rattle.machine.specs.declared.codes.UnknownCode.{UnknownCode}
use Rattle.sheet.specs.declared.walk.Form.{Form}
use Rattle.sheet.specs.declared.walk.Form.TheVariants.{Enhanced, Short}

-- request 7: the short type is "the same slave .., without MEM_RD and MEM_WR", and its CONNECT has no profile
abbrev pub is_full : Form → Bool
is_full Enhanced = true
is_full Short = false

-- the table's codes: NOP, PRM_RD, PRM_WR, ID_RD, ALM_RD, ALM_CLR, SYNC_SET, CONNECT, DISCONNECT, and in the enhanced type MEM_RD, MEM_WR; every other is
-- unknown
unfoldable pub is_known : Form → ℕ → Bool
is_known form c =
    eqb c 0x00 || eqb c 0x01 || eqb c 0x02 || eqb c 0x03 || eqb c 0x05 || eqb c 0x06
    || eqb c 0x0D || eqb c 0x0E || eqb c 0x0F || (is_full form && (eqb c 0x1D || eqb c 0x1E))

abbrev pub code_number : Code → ℕ
code_number Nop = 0x00
code_number PrmRd = 0x01
code_number PrmWr = 0x02
code_number IdRd = 0x03
code_number AlmRd = 0x05
code_number AlmClr = 0x06
code_number SyncSet = 0x0D
code_number Connect = 0x0E
code_number Disconnect = 0x0F
code_number MemRd = 0x1D
code_number MemWr = 0x1E

-- the command of a code, or none for a code that is no command's in any type
abbrev pub NamesCode : ℕ → Result Code UnknownCode → Type 0
NamesCode n r = MatchResult r (λ code. code_number code ≡ n) (λ e. (e.0 ≡ n) × (is_known Enhanced n ≡ false))

-- "Disconnected allows NOP, CONNECT, DISCONNECT. CONNECT is allowed nowhere else. SYNC_SET needs link 2. All others are allowed in links 2 and 3."
unfoldable pub is_allowed : ℕ → ℕ → Bool
is_allowed link c =
    pick (eqb link 1) (eqb c 0x00 || eqb c 0x0E || eqb c 0x0F)
    (pick (eqb c 0x0E) false
    (pick (eqb c 0x0D) (eqb link 2)
    true))
