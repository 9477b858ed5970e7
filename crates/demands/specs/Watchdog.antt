-- Document 02, request 5: "A master that had stopped reading our replies kept counting MN, and our drive stayed in step with it. The high half SN of WDT is
-- the master's copy of the RSN in our last reply."
use Rattle.std.specs.Prelude.{ℕ, ◌+◌, ◌/◌, ◌%◌, true, false, List, [], ◌∷◌, ◌⊎◌, ◌↔◌, ◌≡◌, get_or}
use Rattle.law.specs.Sheet.{PduType, enhanced, short, Sheet}
use Rattle.law.specs.State.{link, mn_known, last_mn, rsn}
use Rattle.law.specs.Exchange.{code, mn, sn, missed}
use Rattle.slave.specs.Exchange.{Left, exchange_of}
use Rattle.demands.specs.Answered.{Answered, tolerated_in}

-- the state in which check 1 asks: link 3, and MN is known
pub record Asks (state : List ℕ) : Type 0 where
  pub synchronous : link state ≡ 3
  pub known : mn_known state ≡ 1

-- check 1 fails, by what a host sees: the link falls from 3 to 2, which no command that is judged makes it do, or the failure is tolerated, and status bit 1
-- is set
pub record Fails (state : List ℕ) (l : Left) : Type 0 where
  pub was : link state ≡ 3
  pub shows : (link l.state ≡ 2) ⊎ (tolerated_in l.reply ≡ true)

-- "MN follows", and "SN equals the state's RSN"
abbrev pub BothHold : Sheet → List ℕ → List ℕ → Type 0
BothHold h state command = (mn h command ≡ (last_mn state + 1) % 16) × (sn h command ≡ rsn state)

-- "With MN known, link 3 shall require that MN follows and that SN equals the state's RSN. Failure of either is check 1 as it stands"; with MN not known
-- neither is asked
pub record BothAreAsked : Type 0 where
  pub failure_of_either : (h : Sheet) (sheet state memory command reply : List ℕ) → Answered h sheet state memory command reply → Asks state
      → Fails state (exchange_of sheet state memory command reply) ↔ (BothHold h state command → ⊥)
  pub not_known : (h : Sheet) (sheet state memory command reply : List ℕ) → Answered h sheet state memory command reply → mn_known state ≡ 0
      → Fails state (exchange_of sheet state memory command reply) → ⊥

-- no command leaves link 3 but DISCONNECT
abbrev pub Stays : List ℕ → Type 0
Stays command = code command ≡ 0x0F → ⊥

-- of two exchanges in a row with MN known that carry the same SN, check 1 fails in at least one, whatever MN does. Where the first does not fail, MN is
-- known in the second too, unless it was to leave link 3
abbrev pub SameSnFails : Type 0
SameSnFails =
    (h : Sheet) (sheet state memory c₁ r₁ c₂ r₂ : List ℕ) → Answered h sheet state memory c₁ r₁ → Asks state → Stays c₁
    → (let x = exchange_of sheet state memory c₁ r₁ in
    Answered h sheet x.state x.memory c₂ r₂ → sn h c₁ ≡ sn h c₂
    → Fails state x ⊎ Fails x.state (exchange_of sheet x.state x.memory c₂ r₂))

-- a command, and the octets that are lent for its reply
pub record Exchanged : Type 0 where
  pub command : List ℕ
  pub lent : List ℕ

-- "octet 1 RWDT", whose high half is RSN; request 7: "RWDT last"
abbrev pub rwdt_of : PduType → List ℕ → ℕ
rwdt_of enhanced reply = get_or reply 1 0
rwdt_of short reply = get_or reply 15 0

abbrev pub rwdt : Sheet → List ℕ → ℕ
rwdt h reply = rwdt_of h.pdu reply

-- the next WDT octet of a master that reads our replies: it counts MN on, and gives the RSN of the last reply back as SN
pub record Follows (h : Sheet) (last reply next : List ℕ) : Type 0 where
  pub counts_on : mn h next ≡ (mn h last + 1) % 16
  pub gives_back : sn h next ≡ rwdt h reply / 16

-- exchanges of such a master, behind a command and its reply, none of which is to leave link 3. Each builds a reply: what our machine leaves is valid and
-- whole, as demand 1 says, so that asks no more than the lengths of what is lent
abbrev pub Master : Sheet → List ℕ → List ℕ → List ℕ → List ℕ → List ℕ → List Exchanged → Type 0
Master h sheet state memory last reply [] = Unit {0}
Master h sheet state memory last reply (d ∷ ds) =
    Answered h sheet state memory d.command d.lent × Follows h last reply d.command × Stays d.command
    × (let x = exchange_of sheet state memory d.command d.lent in Master h sheet x.state x.memory d.command x.reply ds)

-- each leaves link 3 as it was, and status bit 1 is not set: check 1 fails in none, tolerated or not
abbrev pub InStep : List ℕ → List ℕ → List ℕ → List Exchanged → Type 0
InStep sheet state memory [] = Unit {0}
InStep sheet state memory (d ∷ ds) =
    let x = exchange_of sheet state memory d.command d.lent in
    (link x.state ≡ 3) × (tolerated_in x.reply ≡ false) × InStep sheet x.state x.memory ds

-- from a first command on that passes check 1, as any does where MN is not known, over any number of exchanges
abbrev pub MasterNeverFails : Type 0
MasterNeverFails =
    (h : Sheet) (sheet state memory command reply : List ℕ) → Answered h sheet state memory command reply → link state ≡ 3 → missed h state command ≡ false
    → Stays command
    → (let x = exchange_of sheet state memory command reply in
    (ds : List Exchanged) → Master h sheet x.state x.memory command x.reply ds → (link x.state ≡ 3) × InStep sheet x.state x.memory ds)
