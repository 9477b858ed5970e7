-- The reply's body and what enters the memory. Document 01: "Data enters the reply at octet 8 or 12 and memory at the span's place; nothing before
-- or after is touched." "Unnamed reply octets are zero."
use Rattle.std.specs.Prelude.{ℕ, ◌+◌, ◌-◌, ◌≤◌, List, [], ◌∷◌, length}
use Rattle.octets.specs.Parts.{part, put_at}
use Rattle.machine.specs.declared.words.Carrier.{Carrier}
use Rattle.machine.specs.declared.words.Effect.{Effect}
use Rattle.machine.specs.declared.words.Effect.TheVariants.{Quiet, Reads, Writes, Identifies, Alarms, Connects}
use Rattle.machine.specs.declared.words.Outcome.{Outcome}
use Rattle.frame.specs.Fields.{command_of}
use Rattle.frame.specs.Head.{begun_of}
use Rattle.frame.specs.Places.{fields_end, alarms_at, body_end, data_from, echo_from, echo_size}
use Rattle.sheet.specs.declared.walk.Form.{Form}

-- n octets of a command, from a place on, stand in the reply again
abbrev pub echoed : List ℕ → ℕ → ℕ → List ℕ → List ℕ
echoed command from n reply = put_at reply from (part command from n)

-- a carrier's fields again, and its data
abbrev pub carried : Form → Carrier → List ℕ → List ℕ → List ℕ → List ℕ
carried form by octets command reply = put_at (echoed command (echo_from by) (echo_size form by) reply) (data_from form by) octets

-- the body over a reply that has its head, for each effect: the octets read or written, an ID item's octets, the two latches, the connection's
-- fields, or nothing
unfoldable pub body_of : Form → Effect → List ℕ → List ℕ → List ℕ → List ℕ → List ℕ
body_of form Quiet sheet memory command reply = reply
body_of form (Reads by place n) sheet memory command reply = carried form by (part memory place n) command reply
body_of form (Writes by place n) sheet memory command reply = carried form by (part command (data_from form by) n) command reply
body_of form (Identifies at n) sheet memory command reply = put_at (echoed command 4 (fields_end form - 4) reply) (fields_end form) (part sheet at n)
body_of form (Alarms old fault) sheet memory command reply = put_at reply (alarms_at form) (old ∷ fault ∷ [])
body_of form Connects sheet memory command reply = echoed command 4 (fields_end form - 4) reply

-- the whole reply to a command: zeros, the head over them, the body over those
unfoldable pub reply_of : Form → List ℕ → List ℕ → List ℕ → Outcome → List ℕ
reply_of form sheet memory command o =
    body_of form o.effect sheet memory command
    (begun_of form (length command) (command_of form command).code (command_of form command).wdt (command_of form command).identity o.alarm o.next)

-- the memory after an effect: a write's own octets at its place, and no others
unfoldable pub memory_after : Form → Effect → List ℕ → List ℕ → List ℕ
memory_after form Quiet command memory = memory
memory_after form (Reads by place n) command memory = memory
memory_after form (Writes by place n) command memory = put_at memory place (part command (data_from form by) n)
memory_after form (Identifies at n) command memory = memory
memory_after form (Alarms old fault) command memory = memory
memory_after form Connects command memory = memory

-- an effect that fits: a PDU of l octets, m octets of memory, s octets of sheet
unfoldable pub Fitting : Form → Effect → ℕ → ℕ → ℕ → Type 0
Fitting form Quiet l m s = Unit {0}
Fitting form (Reads by place n) l m s = (data_from form by + n ≤ body_end form l) × (place + n ≤ m)
Fitting form (Writes by place n) l m s = (data_from form by + n ≤ body_end form l) × (place + n ≤ m)
Fitting form (Identifies at n) l m s = (fields_end form + n ≤ body_end form l) × (at + n ≤ s)
Fitting form (Alarms old fault) l m s = alarms_at form + 2 ≤ body_end form l
Fitting form Connects l m s = fields_end form ≤ body_end form l

-- a write that fits, and any effect that is none
unfoldable pub Storing : Form → Effect → ℕ → ℕ → Type 0
Storing form Quiet l m = Unit {0}
Storing form (Reads by place n) l m = Unit {0}
Storing form (Writes by place n) l m = (data_from form by + n ≤ body_end form l) × (place + n ≤ m)
Storing form (Identifies at n) l m = Unit {0}
Storing form (Alarms old fault) l m = Unit {0}
Storing form Connects l m = Unit {0}
