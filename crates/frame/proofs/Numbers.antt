-- The numbers of both types, as far as proofs lean on them.
use Prim.Native.Nat.{ℕ, ◌+◌, ◌≤◌, ◌<◌}
use native.Mathlib.Omega.{arith}
use Rattle.machine.specs.declared.words.Carrier.{Carrier}
use Rattle.machine.specs.declared.words.Carrier.TheVariants.{Parameter, Memory}
use Rattle.sheet.specs.declared.walk.Form.{Form}
use Rattle.sheet.specs.declared.walk.Form.TheVariants.{Enhanced, Short}
use Rattle.frame.specs.Places.{wdt_at, fields_end, alarms_at, body_end, data_from, echo_from, echo_size, Sized}

-- the body lies in the PDU
pub end_within : (form : Form) (l : ℕ) → body_end form l ≤ l
unfolding body_end
end_within Enhanced l = omega arith
end_within Short l = omega arith

-- fields, data and latches stand behind the head
pub fields_behind : (form : Form) → 4 ≤ fields_end form
unfolding fields_end
fields_behind Enhanced = omega arith
fields_behind Short = omega arith

pub fields_most : (form : Form) → fields_end form ≤ 8
unfolding fields_end
fields_most Enhanced = omega arith
fields_most Short = omega arith

pub alarms_behind : (form : Form) → 4 ≤ alarms_at form
unfolding alarms_at
alarms_behind Enhanced = omega arith
alarms_behind Short = omega arith

pub data_behind : (form : Form) (by : Carrier) → 4 ≤ data_from form by
unfolding data_from
data_behind form Parameter = fields_behind form
data_behind form Memory = let f = fields_behind form in omega arith

pub echo_behind : (by : Carrier) → 4 ≤ echo_from by
unfolding echo_from
echo_behind Parameter = omega arith
echo_behind Memory = omega arith

-- a carrier's fields end before its data
pub echo_before : (form : Form) (by : Carrier) → echo_from by + echo_size form by ≤ data_from form by
unfolding data_from echo_from echo_size fields_end
echo_before Enhanced Parameter = omega arith
echo_before Enhanced Memory = omega arith
echo_before Short Parameter = omega arith
echo_before Short Memory = omega arith

-- a PDU has eight octets at least, and RWDT among them
pub sized_long : (form : Form) (l : ℕ) → Sized form l → 8 ≤ l
unfolding Sized
sized_long Enhanced l s = s
sized_long Short l s = omega arith

pub wdt_within : (form : Form) (l : ℕ) → Sized form l → wdt_at form < l
unfolding Sized wdt_at
wdt_within Enhanced l s = omega arith
wdt_within Short l s = omega arith
