-- Request 11: traces that the first sheet's drive answered, and a case in which alarm 10 was given.
use mathlib.Core.Bool.{true}
use mathlib.Core.List.{List, [], ◌∷◌}
use mathlib.Core.Logic.{inl, inr}
use mathlib.Core.Path.{◌≡◌, refl, sym, ap, subst, ◌∙◌}
use Prim.Native.Nat.{ℕ, zero, suc, ◌+◌, ◌≤◌, ◌<◌}
use native.Mathlib.Omega.{arith}
use lib.ListN.{replicate}
use Rattle.octets.proofs.Pick.{pick_eq}
use Rattle.law.specs.Words.{when, bit, Every}
use Rattle.law.specs.Sheet.{enhanced, Region, Sheet, WellFormed, sheet_octets}
use Rattle.law.specs.State.{valid_state}
use Rattle.law.specs.Memory.{has, has_all, has_before}
use Rattle.law.specs.Table.{parameter_of, item_of}
use Rattle.law.specs.Exchange.{refused, checked, judged, fate_of}
use Rattle.replay.specs.Trace.{Traced, traced_of}
use Rattle.slave.specs.Exchange.{Left, exchange_of}
use Rattle.slave.specs.Wanted.{Stepped, differs_at, stepped_of}
use Rattle.slave.proofs.Differs.{differs_self}
use Rattle.demands.specs.Answered.{Answered, alarm_in}
use Rattle.demands.specs.Granted.{NoTenIn, TraceAgreesToo, NotWithoutIt}
use Rattle.demands.specs.Replays.{RepliesOf, calls_of, run_replies, trace_replies}
use Rattle.demands.specs.Sequences.{Exchange, call_of, run_of}
use Rattle.demands.proofs.Agreed.{traces_have_replies}
use Rattle.demands.proofs.Done.{answered_done, seen_alarm}
use Rattle.demands.proofs.GrantedRuns.{replay_granted}

-- the first of two lists that are the same, and the rest
first_same : {A : Type 0} {x y : A} {xs ys : List A} → x ∷ xs ≡ y ∷ ys → x ≡ y
first_same e = cc

rest_same : {A : Type 0} {x y : A} {xs ys : List A} → x ∷ xs ≡ y ∷ ys → xs ≡ ys
rest_same e = cc

-- replies that are the trace's, none with alarm 10, are those of a replay without it
none_in : (h : Sheet) (ts : List Traced) (s m : List ℕ) → RepliesOf h.l ts → run_replies (run_of (sheet_octets h) s m (calls_of ts)) ≡ trace_replies ts
    → Every (λ (t : Traced). alarm_in h t.reply ≡ 10 → ⊥) ts → NoTenIn h s m ts
unfolding run_of call_of stepped_of
none_in h [] s m long same calm = tt
none_in h (t ∷ ts) s m long same calm =
    let x = exchange_of (sheet_octets h) s m t.command t.reply in
    let reply : x.reply ≡ t.reply = first_same same in
    let at : differs_at x.reply t.reply ≡ h.l = ap (λ (l : List ℕ). differs_at l t.reply) reply ∙ differs_self t.reply ∙ long.0 in (
      λ n e. calm.0 (ap (alarm_in h) (sym reply) ∙ e),
      λ far. subst (λ (y : Stepped). NoTenIn h y.state y.memory ts) (sym (pick_eq _ _ at)) (none_in h ts x.state x.memory long.1 (rest_same same) calm.1),
    )

pub trace_agrees_too : TraceAgreesToo
trace_agrees_too h more w w₂ grants s m trace same calm =
    replay_granted h more w w₂ grants s m trace (none_in h (traced_of h.l trace) s m (traces_have_replies h.l trace) same calm)

-- one octet at 1000 hex and a parameter that has it, with these rights
abbrev region : ℕ → Region
region rights = record { start = 0x1000; length = 1; rights = rights }

abbrev sheet : ℕ → Sheet
sheet rights = record {
  pdu = enhanced;
  l = 16;
  version = 0x30;
  profile = 0;
  regions = region rights ∷ [];
  parameters = record { number = 1; address = 0x1000; size = 1 } ∷ [];
  items = [];
  tolerances = [];
  releases = [];
}

good : (rights : ℕ) → rights ≤ 7 → WellFormed (sheet rights)
good rights few = record {
  l = inr (inl refl);
  version = omega arith;
  profile = omega arith;
  regions = (record { start = omega arith; length = omega arith; least = omega arith; ends = omega arith; bits = few }, tt);
  parameters = (
    record {
      number = omega arith;
      address = omega arith;
      least = omega arith;
      most = omega arith;
      spans = λ (a : ℕ) (l : 0x1000 ≤ a) (u : a < 0x1000 + 1). inl (omega arith, omega arith);
    },
    tt,
  );
  items = tt;
  apart = tt;
  numbers_rise = tt;
  codes_rise = tt;
  few_regions = (omega arith, omega arith);
  few_parameters = omega arith;
  few_items = omega arith;
  tolerances = tt;
  once = omega arith;
  releases = tt;
  picked_once = omega arith;
}

-- AsyncConnected with com_time 1; PRM_RD of parameter 1
abbrev connected : List ℕ
connected = 0x12 ∷ 2 ∷ 16 ∷ 0 ∷ 1 ∷ 0 ∷ 0 ∷ 0 ∷ 0 ∷ 0 ∷ 0 ∷ []

abbrev reads : List ℕ
reads = 1 ∷ 0 ∷ 0 ∷ 0 ∷ 1 ∷ 0 ∷ 1 ∷ 0 ∷ 0 ∷ 0 ∷ 0 ∷ 0 ∷ 0 ∷ 0 ∷ 0 ∷ 0 ∷ []

answered : (rights : ℕ) → rights ≤ 7 → Answered (sheet rights) (sheet_octets (sheet rights)) connected (0x55 ∷ []) reads (replicate 16 0)
unfolding valid_state
answered rights few = record {
  good = good rights few;
  written = refl;
  valid = refl;
  whole = refl;
  asked = refl;
  lent = refl;
  enabled = λ e. omega arith;
}

lacks : (fate_of (sheet 0) connected (0x55 ∷ []) reads).alarm ≡ 10
unfolding when has has_all has_before parameter_of item_of refused checked judged fate_of
lacks = refl

accepts : (fate_of (sheet 1) connected (0x55 ∷ []) reads).alarm ≡ 0
unfolding when has has_all has_before parameter_of item_of refused checked judged fate_of
accepts = refl

alarm_of_lem : (rights : ℕ) (few : rights ≤ 7)
    → alarm_in (sheet rights) (exchange_of (sheet_octets (sheet rights)) connected (0x55 ∷ []) reads (replicate 16 0)).reply ≡ (fate_of (sheet rights) connected (0x55 ∷ []) reads).alarm
alarm_of_lem rights few =
    ap (λ (l : Left). alarm_in (sheet rights) l.reply) (answered_done (sheet rights) (sheet_octets (sheet rights)) connected (0x55 ∷ []) reads (replicate 16 0) (answered rights few))
    ∙ seen_alarm (sheet rights) connected (0x55 ∷ []) reads (good rights few).l

-- no right at all
none_before : (k : ℕ) → k ≤ 2 → bit 0 k ≡ true → bit 1 k ≡ true
none_before zero l e = refl
none_before (suc zero) l e = cc
none_before (suc (suc zero)) l e = cc
none_before (suc (suc (suc k))) l e = absurd (omega arith)

pub not_without_it : NotWithoutIt
unfolding run_of call_of
not_without_it = record {
  h = sheet 0;
  more = region 1 ∷ [];
  good = good 0 (omega arith);
  also_good = good 1 (omega arith);
  grants = (record { start = refl; long = refl; rights = none_before }, tt);
  state = connected;
  memory = 0x55 ∷ [];
  calls = Exchange reads (replicate 16 0) ∷ [];
  differ = λ e.
      let ten : ◌≡◌ {A = ℕ} 10 0 = sym (alarm_of_lem 0 (omega arith) ∙ lacks) ∙ ap (λ (l : Left). alarm_in (sheet 0) l.reply) (first_same e) ∙ alarm_of_lem 1 (omega arith) ∙ accepts in
      omega arith;
}
