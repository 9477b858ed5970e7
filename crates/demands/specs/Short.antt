-- Document 02, request 7: "A bakery keeps drives that speak the 16-octet short type of source document 002, 4.3.1 .. We need the same slave for it, without MEM_RD
-- and MEM_WR." A sheet selects it by its link record; demands 1 to 3 and the other requests speak of both types.
use Rattle.std.specs.Prelude.{ℕ, ◌+◌, ◌*◌, ◌%◌, ◌≤◌, ◌<◌, true, false, List, [], ◌∷◌, ◌≡◌, eqb, leb, length, get_or, take, drop}
use Rattle.law.specs.Words.{when, one_of, octet, number_at, laid}
use Rattle.law.specs.Sheet.{PduType, enhanced, short, Sheet, IsOctet, is_release2, sheet_octets}
use Rattle.law.specs.State.{link, rsn, communication_latch}
use Rattle.law.specs.Exchange.{code, missed, fate_of, low_status}
use Rattle.slave.specs.Exchange.{Left, exchange_of}
use Rattle.demands.specs.Answered.{Answered, alarm_in}

-- "in the reply code, alarm, two octets of status, 11 of body, RWDT last"
pub record ShortReply (h : Sheet) (state memory command : List ℕ) (l : Left) : Type 0 where
  pub sixteen : length l.reply ≡ 16
  pub code_again : get_or l.reply 0 0 ≡ get_or command 0 0
  -- "The command alarm goes in octet 1"
  pub alarm : get_or l.reply 1 0 ≡ (fate_of h state memory command).alarm
  -- "the communication latch in bits 12 to 15 of the status, bits 0 and 2 as before, the others 0; no identity is echoed"; bit 1 is request 9's
  pub low_status : get_or l.reply 2 0 ≡ low_status l.state
  pub high_status : get_or l.reply 3 0 ≡ 16 * communication_latch l.state
  -- the pieces of its row, and zero where these name nothing
  pub body : (k : ℕ) → 4 ≤ k → k < 15 → get_or l.reply k 0 ≡ laid (fate_of h state memory command).body k 0
  pub rwdt_last : get_or l.reply 15 0 ≡ when (eqb (link l.state) 3) (16 * rsn l.state + get_or command 15 0 % 16) 0

abbrev pub ShortReplies : Type 0
ShortReplies =
    (h : Sheet) (sheet state memory command reply : List ℕ) → h.pdu ≡ short → Answered h sheet state memory command reply
    → ShortReply h state memory command (exchange_of sheet state memory command reply)

-- "without MEM_RD and MEM_WR": where check 1 does not fail, their codes are unknown, and nothing is stored
abbrev pub NoMemoryCommands : Type 0
NoMemoryCommands =
    (h : Sheet) (sheet state memory command reply : List ℕ) → h.pdu ≡ short → Answered h sheet state memory command reply → missed h state command ≡ false
    → one_of (code command) (0x1D ∷ 0x1E ∷ []) ≡ true
    → (let l = exchange_of sheet state memory command reply in (alarm_in h l.reply ≡ 8) × (l.answer.place ≡ 0) × (l.memory ≡ memory))

-- a short sheet with another profile
abbrev pub with_profile : Sheet → ℕ → Sheet
with_profile h profile = record {
  pdu = short;
  l = h.l;
  version = h.version;
  profile = profile;
  regions = h.regions;
  parameters = h.parameters;
  items = h.items;
  tolerances = h.tolerances;
  releases = h.releases;
}

-- "one not there isn't checked": whatever profile the sheet has, an exchange leaves the same
abbrev pub ProfileIsNotChecked : Type 0
ProfileIsNotChecked =
    (h : Sheet) (profile other : ℕ) (state memory command reply : List ℕ) → IsOctet other
    → Answered (with_profile h profile) (sheet_octets (with_profile h profile)) state memory command reply
    → exchange_of (sheet_octets (with_profile h profile)) state memory command reply ≡ exchange_of (sheet_octets (with_profile h other)) state memory command reply

-- two commands that have the same in the octets that the short type names: the code, WDT, and the fields of that code; of PRM_WR all that its data could take
pub record SameNamed (c d : List ℕ) : Type 0 where
  pub long : length c ≡ length d
  pub codes : octet c 0 ≡ octet d 0
  pub wdts : octet c 15 ≡ octet d 15
  -- PRM_RD, PRM_WR, ID_RD, CONNECT: 4 to 6; PRM_WR: the data from 7 on
  pub fields : one_of (octet c 0) (0x01 ∷ 0x02 ∷ 0x03 ∷ 0x0E ∷ []) ≡ true → (k : ℕ) → 4 ≤ k → k < 7 → octet c k ≡ octet d k
  pub data_octets : octet c 0 ≡ 0x02 → (k : ℕ) → 7 ≤ k → k < 15 → octet c k ≡ octet d k
  -- ALM_RD, ALM_CLR: 4
  pub modes : one_of (octet c 0) (0x05 ∷ 0x06 ∷ []) ≡ true → octet c 4 ≡ octet d 4

-- of a command's other octets, a profile's among them, nothing shows in release 1 of the drive rules; release 2 asks them to be zero (request 13)
abbrev pub OthersAreIgnored : Type 0
OthersAreIgnored =
    (h : Sheet) (sheet state memory c d reply : List ℕ) → h.pdu ≡ short → is_release2 h ≡ false → Answered h sheet state memory c reply → SameNamed c d
    → exchange_of sheet state memory c reply ≡ exchange_of sheet state memory d reply

-- a sheet with another type, the rest of it as it is
abbrev pub typed : PduType → Sheet → Sheet
typed pdu h = record {
  pdu = pdu;
  l = h.l;
  version = h.version;
  profile = h.profile;
  regions = h.regions;
  parameters = h.parameters;
  items = h.items;
  tolerances = h.tolerances;
  releases = h.releases;
}

-- any code but MEM_RD and MEM_WR, which the enhanced type alone has
abbrev pub NoMemoryCode : ℕ → Type 0
NoMemoryCode k = one_of k (0x1D ∷ 0x1E ∷ []) ≡ false

-- a command of the short type and one of the enhanced type with the same code, WDT and fields; the enhanced one has the sheet's profile
pub record SameFields (h : Sheet) (c d : List ℕ) : Type 0 where
  pub codes : octet c 0 ≡ octet d 0
  pub wdts : octet c 15 ≡ octet d 1
  -- PRM_RD, PRM_WR: number and size; PRM_WR: the data, of at most the 8 octets that the short type has for it
  pub numbers : one_of (octet c 0) (0x01 ∷ 0x02 ∷ []) ≡ true → number_at c 4 2 ≡ number_at d 4 2
  pub sizes : one_of (octet c 0) (0x01 ∷ 0x02 ∷ []) ≡ true → octet c 6 ≡ octet d 6
  pub data_octets : octet c 0 ≡ 0x02 → leb (octet c 6) 8 ≡ true → take (octet c 6) (drop 7 c) ≡ take (octet c 6) (drop 8 d)
  -- ID_RD: code, offset, size
  pub items : octet c 0 ≡ 0x03 → (octet c 4 ≡ octet d 4) × (octet c 5 ≡ octet d 5) × (octet c 6 ≡ number_at d 6 2)
  -- ALM_RD, ALM_CLR: mode
  pub modes : one_of (octet c 0) (0x05 ∷ 0x06 ∷ []) ≡ true → octet c 4 ≡ number_at d 4 2
  -- CONNECT: version, com_mod, com_time
  pub connections : octet c 0 ≡ 0x0E → (octet c 4 ≡ octet d 4) × (octet c 5 ≡ octet d 5) × (octet c 6 ≡ octet d 6) × (octet d 7 ≡ h.profile)

-- "States, watchdog, rights and latches are those of the enhanced type": two exchanges from one state and memory, by sheets that differ in the type alone, whose
-- commands have the same fields, come to the same alarm and place, the same next state and the same memory; in release 1, to which release 2 comes
-- where their other octets are zero (request 13)
abbrev pub SameFieldsSameFate : Type 0
SameFieldsSameFate =
    (h : Sheet) (state memory c d r q : List ℕ) → is_release2 h ≡ false
    → Answered (typed short h) (sheet_octets (typed short h)) state memory c r → Answered (typed enhanced h) (sheet_octets (typed enhanced h)) state memory d q
    → SameFields h c d → NoMemoryCode (code c)
    → (let x = exchange_of (sheet_octets (typed short h)) state memory c r in let y = exchange_of (sheet_octets (typed enhanced h)) state memory d q in
    (alarm_in (typed short h) x.reply ≡ alarm_in (typed enhanced h) y.reply) × (x.answer ≡ y.answer) × (x.state ≡ y.state) × (x.memory ≡ y.memory))
