-- Every step keeps validity, under the conditions at which the machine takes it.
use mathlib.Core.Bool.{true}
use Rattle.std.proofs.Common.{rules}
use mathlib.Core.Path.{◌≡◌, refl}
use Prim.Native.Nat.{ℕ, ◌≤◌, ◌<◌}
use Rattle.octets.specs.Pick.{pick}
use Rattle.link.specs.Steps.{fresh, enabled, connected, synced, dropped, lost, latched, cleared, counted, tolerated}
use Rattle.link.specs.Valid.{is_command_alarm, is_communication_alarm}
use Rattle.link.specs.declared.state.LinkState.{LinkState}
use Rattle.link.proofs.Facts.{Facts}

zero_alarm : is_command_alarm 0 ≡ true
unfolding is_command_alarm
zero_alarm = refl

zero_fault : is_communication_alarm 0 ≡ true
unfolding is_communication_alarm
zero_fault = refl

twelve_fault : is_communication_alarm 12 ≡ true
unfolding is_communication_alarm
twelve_fault = refl

pub fresh_valid : (l tolerance : ℕ) → Facts l tolerance (fresh l)
fresh_valid l tolerance = search (rules, zero_alarm, zero_fault)

module _ (l tolerance : ℕ) (st : LinkState) (v : Facts l tolerance st) where
  pub enabled_valid : st.link ≡ 0 → Facts l tolerance (enabled st)
  enabled_valid e = search rules

  -- into AsyncConnected with single transfer, or into SyncConnected
  pub connected_valid : (link dual time : ℕ) → 2 ≤ link → link ≤ 3 → dual ≤ 1 → 1 ≤ time → (dual ≡ 1 → (link ≡ 3) × (2 ≤ time))
      → Facts l tolerance (connected st link dual time)
  connected_valid link dual time lo hi d t both = search rules

  pub synced_valid : 2 ≤ st.link → Facts l tolerance (synced st)
  synced_valid h = search rules

  pub dropped_valid : Facts l tolerance (dropped st)
  dropped_valid = search rules

  pub lost_valid : 2 ≤ st.link → Facts l tolerance (lost st)
  lost_valid h = search (rules, twelve_fault)

  pub latched_valid : (alarm : ℕ) → is_command_alarm alarm ≡ true → 1 ≤ st.link → Facts l tolerance (latched st alarm)
  unfolding is_command_alarm pick
  latched_valid alarm a h = search rules

  pub cleared_valid : Facts l tolerance (cleared st)
  cleared_valid = search (rules, zero_alarm, zero_fault)

  pub counted_valid : (mn : ℕ) → mn ≤ 15 → st.link ≡ 3 → Facts l tolerance (counted st mn)
  counted_valid mn m h = search rules

  pub tolerated_valid : (mn : ℕ) → mn ≤ 15 → st.link ≡ 3 → st.watch.failures < tolerance → tolerance ≤ 255 → Facts l tolerance (tolerated st mn)
  tolerated_valid mn m h f t = search rules
