-- "One exchange": what every exchange does around the table.
use Rattle.std.specs.Prelude.{ℕ, ◌+◌, ◌*◌, ◌/◌, ◌%◌, Bool, not, ◌&&◌, List, [], ◌∷◌, ◌++◌, eqb, ltb, replicate}
use Rattle.law.specs.Words.{when, one_of, octet, Piece, piece, over}
use Rattle.law.specs.Sheet.{PduType, enhanced, short, Sheet, allows}
use Rattle.law.specs.State.{link, mn_known, last_mn, rsn, command_latch, communication_latch, failures}
use Rattle.law.specs.Table.{Check, check, Row, table}

-- "Command: octet 0 code, octet 1 WDT (low half MN, high half SN), octets 2 and 3 control, ignored", in release 1; request 1: bits 6 and 7 of octet 2 are the identity.
-- Request 7: "code, 14 octets of body, WDT last"
abbrev pub code : List ℕ → ℕ
code c = octet c 0

abbrev pub wdt : PduType → List ℕ → ℕ
wdt enhanced c = octet c 1
wdt short c = octet c 15

abbrev pub mn : Sheet → List ℕ → ℕ
mn h c = wdt h.pdu c % 16

abbrev pub sn : Sheet → List ℕ → ℕ
sn h c = wdt h.pdu c / 16

abbrev pub identity : List ℕ → ℕ
identity c = octet c 2 / 64 % 4

-- what becomes of a command: its alarm, 0 if accepted; the place of what was wrong; what changes in the state record; the body; what is stored
pub record Fate : Type 0 where
  pub alarm : ℕ
  pub place : ℕ
  pub changes : List Piece
  pub body : List Piece
  pub stores : List Piece

abbrev pub fate : ℕ → ℕ → List Piece → List Piece → List Piece → Fate
fate alarm place changes body stores = record { alarm = alarm; place = place; changes = changes; body = body; stores = stores }

-- "each of the last four stores its alarm in the command latch if that is 0"; "A refused command has a zero body."
unfoldable pub refused : List ℕ → ℕ → ℕ → Fate
refused s alarm place = fate alarm place (when (eqb (command_latch s) 0) (piece 8 (alarm ∷ []) ∷ []) []) [] []

-- the first check that fails decides alarm and place; where none does, the row is done, and the place is 0
unfoldable pub checked : List ℕ → List Check → Row → Fate
checked s [] r = fate 0 0 r.changes r.body r.stores
checked s (k ∷ ks) r = when k.holds (checked s ks r) (refused s k.alarm k.place)

-- "2. Unknown code: alarm 8. 3. Code not allowed in this link: alarm 12." Then "4. Data: alarm 9. 5. Rights over the whole span: alarm 10", as the row
-- has them. Request 3: "Alarms 8 and 12 and a failed watchdog have place 0."
unfoldable pub judged : List ℕ → ℕ → List Row → Fate
judged s code [] = refused s 8 0
judged s code (r ∷ rs) = when (eqb code r.code) (checked s (check (one_of (link s) r.links) 12 0 ∷ r.checks) r) (judged s code rs)

-- "1. Link 3 with MN known: MN must be last MN plus 1, modulo 16. If not, nothing is executed, the body is zero, the communication latch becomes 12, the
-- command alarm is 0, the link becomes 2." Request 5: "With MN known, link 3 shall require that MN follows and that SN equals the state's RSN. Failure of
-- either is check 1 as it stands."
abbrev pub lost : Fate
lost = fate 0 0 (piece 1 (2 ∷ []) ∷ piece 9 (12 ∷ []) ∷ []) [] []

-- request 9: "Within it the command isn't executed, the reply has a zero body, alarm 0 .., link and latches stay, MN is taken as last MN and RSN advances."
abbrev pub tolerated : List ℕ → Fate
tolerated s = fate 0 0 (piece 10 ((failures s + 1) ∷ []) ∷ []) [] []

-- the sheet "allows that many failures in a row ..; one failure more is check 1 as before"
abbrev pub failing : Sheet → List ℕ → Fate
failing h s = when (ltb (failures s) (allows h)) (tolerated s) lost

-- "An exchange that passes check 1 sets the count to 0"
abbrev pub passing : Fate → Fate
passing f = fate f.alarm f.place (piece 10 (0 ∷ []) ∷ f.changes) f.body f.stores

abbrev pub missed : Sheet → List ℕ → List ℕ → Bool
missed h s c = eqb (link s) 3 && (eqb (mn_known s) 1 && not (eqb (mn h c) ((last_mn s + 1) % 16) && eqb (sn h c) (rsn s)))

unfoldable pub fate_of : Sheet → List ℕ → List ℕ → List ℕ → Fate
fate_of h s m c = when (missed h s c) (failing h s) (passing (judged s (code c) (table h s m c)))

-- "An exchange that begins and ends in link 3 stores MN as known and adds 1 to RSN modulo 16, refused or not. .. On entry to link 3 MN is not known and
-- RSN is 0; on leaving it those fields and dual become 0", and so does the count. `sent` is the command's MN
unfoldable pub watched : ℕ → ℕ → List ℕ → ℕ → List Piece
watched link_before link_after s sent =
    when (eqb link_before 3)
    (when (eqb link_after 3) (piece 5 (1 ∷ sent ∷ (rsn s + 1) % 16 ∷ []) ∷ []) (piece 3 (0 ∷ []) ∷ piece 5 (0 ∷ 0 ∷ 0 ∷ []) ∷ piece 10 (0 ∷ []) ∷ []))
    (when (eqb link_after 3) (piece 5 (0 ∷ 0 ∷ 0 ∷ []) ∷ []) [])

-- the state record afterwards
unfoldable pub state_after : List ℕ → ℕ → List Piece → List ℕ
state_after s sent changes = over (watched (link s) (link (over changes s)) s sent) (over changes s)

-- t is the state record afterwards. "RWDT is 16 times the new RSN plus the command's MN if the link afterwards is 3, else 0."
abbrev pub rwdt_for : Sheet → List ℕ → List ℕ → ℕ
rwdt_for h c t = when (eqb (link t) 3) (16 * rsn t + mn h c) 0

-- "Status bit 0 is set if a latch is nonzero after the exchange; bit 2 is always set". Request 9: in a tolerated failure "status bit 1 set"; behind any other
-- exchange the count is 0
abbrev pub low_status : List ℕ → ℕ
low_status t = 4 + when (eqb (command_latch t) 0 && eqb (communication_latch t) 0) 0 1 + when (eqb (failures t) 0) 0 2

-- "Reply: octet 0 the code again, octet 1 RWDT, octets 2 and 3 status, then body": "bits 8 to 11 are this command's alarm, 0 if accepted; bits 12 to 15 the
-- communication latch after the exchange; the rest 0"; request 1: "Bits 6 and 7 of command octet 2 shall come back in those bits of reply octet 2, in every
-- built reply." Request 7: "in the reply code, alarm, two octets of status, 11 of body, RWDT last. .. The command alarm goes in octet 1, the communication
-- latch in bits 12 to 15 of the status, bits 0 and 2 as before, the others 0; no identity is echoed", and bit 1 by request 9
abbrev pub head_for : PduType → Sheet → List ℕ → ℕ → List ℕ → List Piece
head_for enhanced h c alarm t = piece 0 (code c ∷ rwdt_for h c t ∷ (low_status t + 64 * identity c) ∷ (alarm + 16 * communication_latch t) ∷ []) ∷ []
head_for short h c alarm t = piece 0 (code c ∷ alarm ∷ low_status t ∷ 16 * communication_latch t ∷ []) ∷ piece 15 (rwdt_for h c t ∷ []) ∷ []

-- "Unnamed reply octets are zero"
unfoldable pub reply_for : Sheet → List ℕ → ℕ → List ℕ → List Piece → List ℕ
reply_for h c alarm t body = over (head_for h.pdu h c alarm t ++ body) (replicate h.l 0)
