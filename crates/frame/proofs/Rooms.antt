-- What fits into a PDU.
use mathlib.Core.Path.{◌≡◌, refl}
use Prim.Native.Nat.{ℕ, ◌+◌, ◌-◌, ◌≤◌}
use native.Mathlib.Omega.{arith}
use Rattle.machine.specs.declared.words.Carrier.{Carrier}
use Rattle.machine.specs.declared.words.Carrier.TheVariants.{Parameter, Memory}
use Rattle.machine.specs.declared.words.Effect.{Effect}
use Rattle.machine.specs.declared.words.Effect.TheVariants.{Quiet, Reads, Writes, Identifies, Alarms, Connects}
use Rattle.sheet.specs.declared.walk.Form.{Form}
use Rattle.sheet.specs.declared.walk.Form.TheVariants.{Enhanced, Short}
use Rattle.frame.specs.Body.{Fitting, Storing}
use Rattle.frame.specs.Places.{fields_end, alarms_at, body_end, data_from, Sized}

-- a type has its lengths: eight octets at least, and 16 in the short one
pub sized : (form : Form) (l : ℕ) → 8 ≤ l → (form ≡ Short → l ≡ 16) → Sized form l
unfolding Sized
sized Enhanced l least short = least
sized Short l least short = short refl

-- "at most L - 8" octets of a parameter or an ID item, and "1 to L - 12" of memory
fields_room : (form : Form) (n l : ℕ) → Sized form l → n ≤ l - 8 → fields_end form + n ≤ body_end form l
unfolding fields_end body_end Sized
fields_room Enhanced n l s most = omega arith
fields_room Short n l s most = omega arith

pub parameter_room : (form : Form) (n l : ℕ) → Sized form l → n ≤ l - 8 → data_from form Parameter + n ≤ body_end form l
unfolding data_from
parameter_room form n l s most = fields_room form n l s most

pub memory_room : (form : Form) (n l : ℕ) → Sized form l → 1 ≤ n → n ≤ l - 12 → data_from form Memory + n ≤ body_end form l
unfolding data_from
memory_room form n l s some most = let f = fields_room form (4 + n) l s (omega arith) in omega arith

module _ (form : Form) (l m s : ℕ) where
  pub quiet_fits : Fitting form Quiet l m s
  unfolding Fitting
  quiet_fits = tt

  pub reads_fit : (by : Carrier) (place n : ℕ) → data_from form by + n ≤ body_end form l → place + n ≤ m → Fitting form (Reads by place n) l m s
  unfolding Fitting
  reads_fit by place n d p = (d, p)

  pub writes_fit : (by : Carrier) (place n : ℕ) → data_from form by + n ≤ body_end form l → place + n ≤ m → Fitting form (Writes by place n) l m s
  unfolding Fitting
  writes_fit by place n d p = (d, p)

  pub identifies_fit : (at n : ℕ) → Sized form l → n ≤ l - 8 → at + n ≤ s → Fitting form (Identifies at n) l m s
  unfolding Fitting
  identifies_fit at n long most inside = (fields_room form n l long most, inside)

  pub connects_fit : Sized form l → Fitting form Connects l m s
  unfolding Fitting
  connects_fit long = let f = fields_room form 0 l long (omega arith) in omega arith

  -- what fits, stores
  pub fits_stored : (e : Effect) → Fitting form e l m s → Storing form e l m
  unfolding Fitting Storing
  fits_stored Quiet f = tt
  fits_stored (Reads by place n) f = tt
  fits_stored (Writes by place n) f = f
  fits_stored (Identifies at n) f = tt
  fits_stored (Alarms old fault) f = tt
  fits_stored Connects f = tt

pub alarms_fit : (form : Form) (l m s old fault : ℕ) → 16 ≤ l → Fitting form (Alarms old fault) l m s
unfolding Fitting alarms_at body_end
alarms_fit Enhanced l m s old fault long = omega arith
alarms_fit Short l m s old fault long = omega arith
