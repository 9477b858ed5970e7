-- Checks 2 to 5, command by command: what is asked of a command's data, in the table's order, and what an accepted command does.
use Rattle.std.specs.Prelude.{ℕ, ◌+◌, ◌-◌, ◌*◌, ◌/◌, ◌%◌, Bool, true, false, not, ◌||◌, List, eqb, ltb, None, Option, Some, Ok, Err}
use Rattle.octets.specs.Pick.{pick}
use Rattle.link.specs.Steps.{synced, dropped, cleared}
use Rattle.link.specs.declared.state.LinkState.{LinkState}
use Rattle.regions.specs.Region.{regions_of}
use Rattle.regions.specs.declared.Region.{Region}
use Rattle.sheet.specs.Entries.{parameters_of, items_of, sought_parameter, sought_item}
use Rattle.sheet.specs.declared.walk.Layout.{Layout}
use Rattle.machine.specs.Codes.{is_known, is_allowed}
use Rattle.machine.specs.Connecting.{connect_of}
use Rattle.machine.specs.Spans.{granted_of, span_of}
use Rattle.machine.specs.declared.words.Carrier.TheVariants.{Parameter as ByParameter, Memory as ByMemory}
use Rattle.machine.specs.declared.words.Command.{Command}
use Rattle.machine.specs.declared.words.Effect.TheVariants.{Quiet, Identifies, Alarms}
use Rattle.machine.specs.declared.words.Field.TheVariants.{Whole, Number, Size, Item as ItemField, Count, Mode, AlarmMode, Stray}
use Rattle.sheet.specs.declared.entries.Parameter.{Parameter}
use Rattle.sheet.specs.declared.entries.Item.{Item}
use Rattle.machine.specs.Judgements.{Judgement, accepted, refused, alarm_number}
use Rattle.machine.specs.declared.codes.Alarm.TheVariants.{OutOfRange, OutOfSupport, WrongPhase}

-- 01 PRM_RD, 02 PRM_WR (which writes): "4-5 number in sheet; 6 size equal to its size and at most L - 8"; request 8: fault 17 ensures that the
-- span is mapped, and it is not asked
unfoldable pub parameter_data : Bool → List Region → Layout → LinkState → Command → Option Parameter → Judgement
parameter_data writes rs lay st c None = refused OutOfRange Number
parameter_data writes rs lay st c (Some p) =
    pick (not (eqb c.size p.size)) (refused OutOfRange Size)
    (pick (ltb (lay.l - 8) c.size) (refused OutOfRange Size)
    (granted_of writes rs ByParameter p.address p.size st))

unfoldable pub parameter_of : Bool → List ℕ → Layout → LinkState → Command → Judgement
parameter_of writes s lay st c =
    parameter_data writes (regions_of s lay.regions) lay st c (sought_parameter (parameters_of s lay.regions lay.parameters) c.number)

-- 03 ID_RD: "4 code in sheet; 5 offset; 6-7 size at least 1, offset + size within the item, size at most L - 8"
unfoldable pub item_data : Layout → LinkState → Command → Option Item → Judgement
item_data lay st c None = refused OutOfRange ItemField
item_data lay st c (Some i) =
    pick (eqb c.count 0) (refused OutOfRange Count)
    (pick (ltb i.length (c.offset + c.count)) (refused OutOfRange Count)
    (pick (ltb (lay.l - 8) c.count) (refused OutOfRange Count)
    (accepted (Identifies (i.at + c.offset) c.count) st)))

unfoldable pub item_of : List ℕ → Layout → LinkState → Command → Judgement
item_of s lay st c = item_data lay st c (sought_item (items_of s lay.regions lay.parameters lay.items) c.item)

-- 05 ALM_RD: "L at least 16; 4-5 zero", which is the mode; the latches as they were
unfoldable pub alarms_of : Layout → LinkState → Command → Judgement
alarms_of lay st c =
    pick (ltb lay.l 16) (refused OutOfRange Whole)
    (pick (not (eqb c.alarm_mode 0)) (refused OutOfRange AlarmMode)
    (accepted (Alarms st.latches.command st.latches.communication) st))

-- 06 ALM_CLR: "4-5 zero"; "both latches 0"
unfoldable pub clear_of : LinkState → Command → Judgement
clear_of st c = pick (not (eqb c.alarm_mode 0)) (refused OutOfRange AlarmMode) (accepted Quiet (cleared st))

-- octet 5 of the memory commands: by 002, 4.3.3.13 and 5.2.3, the low half is the type of memory, which must be 1, and the high half is 1, 2
-- or 3 for elements of 1, 2 or 4 octets; 0 where it is neither
unfoldable pub element_of : ℕ → ℕ
element_of mode =
    pick (not (eqb (mode % 16) 1)) 0
    (pick (eqb (mode / 16) 1) 1 (pick (eqb (mode / 16) 2) 2 (pick (eqb (mode / 16) 3) 4 0)))

-- 1D MEM_RD, 1E MEM_WR (which writes): octet 5; "6-7 count; n = count times element, 1 to L - 12; 8-11 address, all n octets in regions"
unfoldable pub memory_of : Bool → List ℕ → Layout → LinkState → Command → Judgement
memory_of writes s lay st c =
    pick (eqb (element_of c.mode) 0) (refused OutOfRange Mode)
    (pick (eqb (c.count * element_of c.mode) 0) (refused OutOfRange Count)
    (pick (ltb (lay.l - 12) (c.count * element_of c.mode)) (refused OutOfRange Count)
    (span_of writes (regions_of s lay.regions) ByMemory c.address (c.count * element_of c.mode) st)))

-- checks 4 and 5 of each code; NOP, SYNC_SET and DISCONNECT have no data
unfoldable pub data_of : List ℕ → Layout → LinkState → Command → Judgement
data_of s lay st c =
    pick (eqb c.code 0x00) (accepted Quiet st)
    (pick (eqb c.code 0x01) (parameter_of false s lay st c)
    (pick (eqb c.code 0x02) (parameter_of true s lay st c)
    (pick (eqb c.code 0x03) (item_of s lay st c)
    (pick (eqb c.code 0x05) (alarms_of lay st c)
    (pick (eqb c.code 0x06) (clear_of st c)
    (pick (eqb c.code 0x0D) (accepted Quiet (synced st))
    (pick (eqb c.code 0x0E) (connect_of lay st c)
    (pick (eqb c.code 0x0F) (accepted Quiet (dropped st))
    (pick (eqb c.code 0x1D) (memory_of false s lay st c)
    (memory_of true s lay st c))))))))))

-- request 13: an octet that should be zero is "alarm 9 at the first such octet, after a command's other data checks and before rights": a refusal by check 4
-- stands, and nothing else does where there is such an octet; 0 where there is none
unfoldable pub strayed : ℕ → Judgement → Judgement
strayed stray (Err r) = pick (eqb stray 0 || eqb (alarm_number r.alarm) 9) (Err r) (refused OutOfRange (Stray stray))
strayed stray (Ok d) = pick (eqb stray 0) (Ok d) (refused OutOfRange (Stray stray))

-- "2. Unknown code: alarm 8. 3. Code not allowed in this link: alarm 12. 4. Data: alarm 9. 5. Rights over the whole span: alarm 10."
unfoldable pub judge_of : List ℕ → Layout → LinkState → Command → ℕ → Judgement
judge_of s lay st c stray =
    pick (not (is_known lay.form c.code)) (refused OutOfSupport Whole)
    (pick (not (is_allowed st.link c.code)) (refused WrongPhase Whole)
    (strayed stray (data_of s lay st c)))
