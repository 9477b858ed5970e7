-- What an effect leaves in the memory.
use mathlib.Core.Path.{◌≡◌, refl}
use mathlib.Core.List.{List}
use Prim.Native.Nat.{ℕ}
use native.Mathlib.Omega.{arith}
use lib.ListN.{length}
use Rattle.octets.specs.Parts.{part, put_at}
use Rattle.octets.proofs.Overlaid.{put_length, part_length}
use Rattle.machine.specs.declared.words.Carrier.{Carrier}
use Rattle.machine.specs.declared.words.Effect.{Effect}
use Rattle.machine.specs.declared.words.Effect.TheVariants.{Quiet, Reads, Writes, Identifies, Alarms, Connects}
use Rattle.sheet.specs.declared.walk.Form.{Form}
use Rattle.frame.specs.Body.{memory_after, Fitting}
use Rattle.frame.specs.Places.{data_from}
use Rattle.frame.proofs.Numbers.{end_within}

module _ (form : Form) (c m : List ℕ) where
  pub quiet_keeps : memory_after form Quiet c m ≡ m
  unfolding memory_after
  quiet_keeps = refl

  pub reads_keep : (by : Carrier) (place n : ℕ) → memory_after form (Reads by place n) c m ≡ m
  unfolding memory_after
  reads_keep by place n = refl

  pub writes_store : (by : Carrier) (place n : ℕ) → memory_after form (Writes by place n) c m ≡ put_at m place (part c (data_from form by) n)
  unfolding memory_after
  writes_store by place n = refl

  pub identifies_keep : (at n : ℕ) → memory_after form (Identifies at n) c m ≡ m
  unfolding memory_after
  identifies_keep at n = refl

  pub alarms_keep : (old fault : ℕ) → memory_after form (Alarms old fault) c m ≡ m
  unfolding memory_after
  alarms_keep old fault = refl

  pub connects_keep : memory_after form Connects c m ≡ m
  unfolding memory_after
  connects_keep = refl

  -- an effect that fits keeps the memory's length
  pub memory_length : (e : Effect) (s : ℕ) → Fitting form e (length c) (length m) s → length (memory_after form e c m) ≡ length m
  unfolding memory_after Fitting
  memory_length Quiet s f = refl
  memory_length (Reads by place n) s f = refl
  memory_length (Writes by place n) s f =
      let w = end_within form (length c) in
      let p = part_length c (data_from form by) n (omega (arith, f.0)) in
      put_length m place (part c (data_from form by) n) (omega (arith, f.1))
  memory_length (Identifies at n) s f = refl
  memory_length (Alarms old fault) s f = refl
  memory_length Connects s f = refl
