-- Document 02, request 11, "More rights must not change what worked": "Take two valid sheets that differ only in rights, each region of the second having every
-- right of the first. From one state and memory, take any sequence of calls in which the first sheet never gives alarm 10. Then all answers, replies, states and
-- memories are the same under both".
use Rattle.std.specs.Prelude.{ℕ, ◌≤◌, ◌<◌, true, List, [], ◌∷◌, ◌≡◌}
use Rattle.law.specs.Words.{bit, Every}
use Rattle.law.specs.Sheet.{Region, Sheet, WellFormed, sheet_octets}
use Rattle.replay.specs.Replay.{replay_of}
use Rattle.replay.specs.Trace.{Traced, traced_of}
use Rattle.slave.specs.Exchange.{Left, exchange_of}
use Rattle.slave.specs.Wanted.{stepped_of}
use Rattle.demands.specs.Answered.{alarm_in}
use Rattle.demands.specs.Replays.{calls_of, run_replies, trace_replies}
use Rattle.demands.specs.Sequences.{Call, Reset, Enable, Turn, Exchange, Replay, call_of, run_of}

-- a region that differs from another only in rights, and has every right of it: bits 0, 1 and 2
pub record Grants (r q : Region) : Type 0 where
  pub start : r.start ≡ q.start
  pub long : r.length ≡ q.length
  pub rights : (k : ℕ) → k ≤ 2 → bit r.rights k ≡ true → bit q.rights k ≡ true

-- each region of a list, and the one in its place in another
abbrev pub EachGrants : List Region → List Region → Type 0
EachGrants [] [] = Unit {0}
EachGrants [] (q ∷ qs) = ⊥
EachGrants (r ∷ rs) [] = ⊥
EachGrants (r ∷ rs) (q ∷ qs) = Grants r q × EachGrants rs qs

-- a sheet with these regions, the rest of it as it is
abbrev pub with_regions : List Region → Sheet → Sheet
with_regions regions h = record {
  pdu = h.pdu;
  l = h.l;
  version = h.version;
  profile = h.profile;
  regions = regions;
  parameters = h.parameters;
  items = h.items;
  tolerances = h.tolerances;
  releases = h.releases;
}

-- an exchange that was answered has no alarm 10, by what is seen in its reply
abbrev pub NoTen : Sheet → Left → Type 0
NoTen h l = l.answer.number ≡ 0 → alarm_in h l.reply ≡ 10 → ⊥

-- the exchanges that a replay makes have none: that of each record, and of the next one where the reply does not differ
abbrev pub NoTenIn : Sheet → List ℕ → List ℕ → List Traced → Type 0
NoTenIn h state memory [] = Unit {0}
NoTenIn h state memory (t ∷ ts) =
    let x = exchange_of (sheet_octets h) state memory t.command t.reply in
    let y = stepped_of h.l state memory t.reply x in
    NoTen h x × ((y.at < h.l → ⊥) → NoTenIn h y.state y.memory ts)

-- nor has a call; reset, enable and turning have no reply
abbrev pub NoTenBy : Sheet → List ℕ → List ℕ → Call → Type 0
NoTenBy h state memory Reset = Unit {0}
NoTenBy h state memory Enable = Unit {0}
NoTenBy h state memory (Turn old) = Unit {0}
NoTenBy h state memory (Exchange command reply) = NoTen h (exchange_of (sheet_octets h) state memory command reply)
NoTenBy h state memory (Replay trace) = NoTenIn h state memory (traced_of h.l trace)

-- nor has any call of a sequence
abbrev pub NeverTen : Sheet → List ℕ → List ℕ → List Call → Type 0
NeverTen h state memory [] = Unit {0}
NeverTen h state memory (c ∷ cs) =
    let x = call_of (sheet_octets h) state memory c in
    NoTenBy h state memory c × NeverTen h x.state x.memory cs

-- for both types, both releases and every tolerance: every call of the sequence leaves the same answer, place, state, memory and reply
abbrev pub MoreRightsChangeNothing : Type 0
MoreRightsChangeNothing =
    (h : Sheet) (more : List Region) → WellFormed h → WellFormed (with_regions more h) → EachGrants h.regions more
    → (state memory : List ℕ) (calls : List Call) → NeverTen h state memory calls
    → run_of (sheet_octets h) state memory calls ≡ run_of (sheet_octets (with_regions more h)) state memory calls

-- a trace that the first sheet's drive answered, each reply its own and none with alarm 10, is told the same under both: it agrees, or is refused for its form,
-- as under the first
abbrev pub TraceAgreesToo : Type 0
TraceAgreesToo =
    (h : Sheet) (more : List Region) → WellFormed h → WellFormed (with_regions more h) → EachGrants h.regions more → (state memory trace : List ℕ)
    → run_replies (run_of (sheet_octets h) state memory (calls_of (traced_of h.l trace))) ≡ trace_replies (traced_of h.l trace)
    → Every (λ (t : Traced). alarm_in h t.reply ≡ 10 → ⊥) (traced_of h.l trace)
    → replay_of (sheet_octets h) state memory trace ≡ replay_of (sheet_octets (with_regions more h)) state memory trace

-- "never gives alarm 10" cannot be left out: there are such sheets, a state, a memory and one call, a PRM_RD of an octet that the first sheet does not let be
-- read, and what it leaves is not the same
pub record NotWithoutIt : Type 0 where
  pub h : Sheet
  pub more : List Region
  pub good : WellFormed h
  pub also_good : WellFormed (with_regions more h)
  pub grants : EachGrants h.regions more
  pub state : List ℕ
  pub memory : List ℕ
  pub calls : List Call
  pub differ : run_of (sheet_octets h) state memory calls ≡ run_of (sheet_octets (with_regions more h)) state memory calls → ⊥
