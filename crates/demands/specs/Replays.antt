-- Document 02, request 6: what a replay's answer, state and memory mean. Nothing here is of the code, which promises the defined replay to the octet.
use Rattle.std.specs.Prelude.{ℕ, ◌+◌, ◌*◌, ◌/◌, ◌%◌, ◌≤◌, ◌<◌, List, [], ◌∷◌, ◌++◌, map, ◌≡◌, eqb, length, get_or, Some, Ok}
use Rattle.octets.specs.Pick.{pick}
use Rattle.link.specs.Stored.{state_of}
use Rattle.link.specs.declared.state.LinkState.{LinkState}
use Rattle.sheet.specs.Walk.{verdict_of}
use Rattle.sheet.specs.declared.walk.Layout.{Layout}
use Rattle.law.specs.Words.{Every}
use Rattle.law.specs.Sheet.{Sheet, WellFormed, IsOctet, sheet_octets}
use Rattle.slave.specs.Answers.{told}
use Rattle.slave.specs.Exchange.{Left}
use Rattle.replay.specs.Replay.{Replayed, replayed, play_of, replay_of}
use Rattle.replay.specs.Trace.{Traced, form_of, record_size, records_of, traced_of}
use Rattle.demands.specs.Hidden.{DifferOnlyHidden}
use Rattle.demands.specs.Sequences.{Call, Exchange, run_of, last_state, last_memory}
use Rattle.demands.specs.Writes.{ours, agreeing, ReachedIn}

-- a trace's records as calls of a host: each command, with the trace's reply in the lent octets
abbrev pub calls_of : List Traced → List Call
calls_of ts = map (λ (t : Traced). Exchange t.command t.reply) ts

-- each record's reply has l octets: all that is asked of the records below
abbrev pub RepliesOf : ℕ → List Traced → Type 0
RepliesOf l [] = Unit {0}
RepliesOf l (t ∷ ts) = (length t.reply ≡ l) × RepliesOf l ts

-- the records of a trace have it, whatever octets it holds
abbrev pub TracesHaveReplies : Type 0
TracesHaveReplies = (l : ℕ) (trace : List ℕ) → RepliesOf l (traced_of l trace)

-- a start that no refusal of document 01 stops: its sheet, state, memory and an enabled link
pub record Playable (sheet state memory : List ℕ) (lay : Layout) (st : LinkState) : Type 0 where
  pub valid : verdict_of sheet ≡ Ok lay
  pub held : state_of state lay.l lay.tolerance ≡ Some st
  pub whole : length memory ≡ lay.memory
  pub on : st.link ≡ 0 → ⊥

-- from such a start a trace of good form, and not too long for an answer's places, is played from its record 0 on, and so what follows is of the whole replay
abbrev pub ReplayPlays : Type 0
ReplayPlays =
    (sheet state memory trace : List ℕ) (lay : Layout) (st : LinkState) → Playable sheet state memory lay st
    → length trace ≤ 1073741823 → (form_of lay.l trace).number ≡ 0
    → replay_of sheet state memory trace ≡ play_of sheet lay.l 0 state memory (traced_of lay.l trace)

-- each call of a run was answered 0
abbrev pub EachAnswered : List Left → Type 0
EachAnswered [] = Unit {0}
EachAnswered (x ∷ xs) = (x.answer.number ≡ 0) × EachAnswered xs

-- and our machine answers each of the records with a reply of its own: none agrees because its exchange was refused
abbrev pub RecordsAreAnswered : Type 0
RecordsAreAnswered =
    (sheet state memory trace : List ℕ) (lay : Layout) (st : LinkState) → Playable sheet state memory lay st
    → EachAnswered (run_of sheet state memory (calls_of (traced_of lay.l trace)))

-- demand 1 of the replay: one that neither agrees nor differs is refused, "and nothing is written"
abbrev pub RefusedReplayWritesNothing : Type 0
RefusedReplayWritesNothing =
    (sheet state memory trace : List ℕ) → ((replay_of sheet state memory trace).answer.number ≡ 0 → ⊥)
    → ((replay_of sheet state memory trace).answer.number ≡ 34 → ⊥)
    → ((replay_of sheet state memory trace).state ≡ state) × ((replay_of sheet state memory trace).memory ≡ memory)

-- the replies of a run, and those of a trace
abbrev pub run_replies : List Left → List (List ℕ)
run_replies ls = map (λ (x : Left). x.reply) ls

abbrev pub trace_replies : List Traced → List (List ℕ)
trace_replies ts = map (λ (t : Traced). t.reply) ts

-- "or that all agree": 0 is told exactly where every reply of our machine's run is the trace's, and then with the number of records
abbrev pub AgreesExactly : Type 0
AgreesExactly =
    (sheet state memory : List ℕ) (l k : ℕ) (ts : List Traced) → RepliesOf l ts
    → ((play_of sheet l k state memory ts).answer.number ≡ 0 → run_replies (run_of sheet state memory (calls_of ts)) ≡ trace_replies ts)
    × (run_replies (run_of sheet state memory (calls_of ts)) ≡ trace_replies ts → (play_of sheet l k state memory ts).answer ≡ told 0 (k + length ts))

-- the first difference: the record behind the agreeing ones, from the state and memory that stand before it
pub record FirstDifference (sheet state memory : List ℕ) (k place : ℕ) (front ts : List Traced) : Type 0 where
  pub differing : Traced
  pub behind : List Traced
  pub parts : ts ≡ front ++ (differing ∷ behind)
  pub number : place / 64 ≡ k + length front
  pub inside : place % 64 < length differing.reply
  pub before : (i : ℕ) → i < place % 64 → get_or (ours sheet state memory differing).reply i 0 ≡ get_or differing.reply i 0
  pub differs : get_or (ours sheet state memory differing).reply (place % 64) 0 ≡ get_or differing.reply (place % 64) 0 → ⊥

-- what a replay r of records numbered from k on left, by its agreeing records
pub record Folded (sheet state memory : List ℕ) (k : ℕ) (ts : List Traced) (r : Replayed) (front : List Traced) : Type 0 where
  pub last_state : r.state ≡ last_state state (run_of sheet state memory (calls_of front))
  pub last_memory : r.memory ≡ last_memory memory (run_of sheet state memory (calls_of front))
  pub replies : run_replies (run_of sheet state memory (calls_of front)) ≡ trace_replies front
  pub all : r.answer.number ≡ 0 → front ≡ ts
  pub otherwise : (r.answer.number ≡ 0 → ⊥) → (r.answer.number ≡ 34) × FirstDifference sheet r.state r.memory k r.answer.place front ts

-- "with its number and the first differing octet .. on a difference, state and memory stand as before that record": a replay leaves what our machine's
-- run over the agreeing records leaves, and 34 names the record behind them
abbrev pub ReplayIsFold : Type 0
ReplayIsFold =
    (sheet state memory : List ℕ) (l k : ℕ) (ts : List Traced) → l ≤ 64 → RepliesOf l ts
    → Folded sheet state memory k ts (play_of sheet l k state memory ts) (agreeing sheet state memory ts)

-- a replay that told 0 goes on from where it ended; any other stands
abbrev pub goes_on : Replayed → (List ℕ → List ℕ → Replayed) → Replayed
goes_on r next = pick (eqb r.answer.number 0) (next r.state r.memory) r

-- a replay cut in two: that of the whole is that of the second part from where the first ended, whatever octets the records have
pub record CutInTwo : Type 0 where
  pub the_records :
      (sheet state memory : List ℕ) (l k : ℕ) (ts us : List Traced)
      → play_of sheet l k state memory (ts ++ us)
      ≡ goes_on (play_of sheet l k state memory ts) (λ s n. play_of sheet l (k + length ts) s n us)
  pub the_octets :
      (l m n : ℕ) (t u : List ℕ) → length t ≡ m * record_size l → records_of l (m + n) (t ++ u) ≡ records_of l m t ++ records_of l n u
  pub the_trace :
      (sheet state memory : List ℕ) (l k m : ℕ) (t u : List ℕ) → length t ≡ m * record_size l
      → play_of sheet l k state memory (traced_of l (t ++ u))
      ≡ goes_on (play_of sheet l k state memory (traced_of l t)) (λ s n. play_of sheet l (k + m) s n (traced_of l u))

-- the form of a trace that begins with m whole records is that of what stands behind them, and a fault's place is theirs further
abbrev pub FormsJoin : Type 0
FormsJoin =
    (l m : ℕ) (t u : List ℕ) → length t ≡ m * record_size l → (form_of l t).number ≡ 0
    → ((form_of l u).number ≡ 0 → (form_of l (t ++ u)).number ≡ 0)
    × (((form_of l u).number ≡ 0 → ⊥) → form_of l (t ++ u) ≡ told (form_of l u).number (m * record_size l + (form_of l u).place))

-- a replay told with its record m further: 0 has the number of records as its place, and 34 has 64 times the record's number in it
abbrev pub further : ℕ → Replayed → Replayed
further m r = replayed (told r.answer.number (r.answer.place + pick (eqb r.answer.number 0) m (64 * m))) r.state r.memory

-- the whole replay cut in two: where that of the first part t told 0, that of both is that of u from where t's ended, told m records further; where it
-- told 34, that of both is t's
abbrev pub ReplayCutInTwo : Type 0
ReplayCutInTwo =
    (sheet state memory t u : List ℕ) (lay : Layout) (st : LinkState) (m : ℕ) → Playable sheet state memory lay st
    → length (t ++ u) ≤ 1073741823 → length t ≡ m * record_size lay.l → (form_of lay.l t).number ≡ 0 → (form_of lay.l u).number ≡ 0
    → replay_of sheet state memory (t ++ u) ≡ goes_on (replay_of sheet state memory t) (λ s n. further m (replay_of sheet s n u))

-- two replays on the memories m₁ and m₂: the same is told, the state left is the same, and the memories differ nowhere that they did not differ before
pub record Alike (m₁ m₂ : List ℕ) (r₁ r₂ : Replayed) : Type 0 where
  pub answers : r₁.answer ≡ r₂.answer
  pub states : r₁.state ≡ r₂.state
  pub kept : (place : ℕ) → get_or m₁ place 0 ≡ get_or m₂ place 0 → get_or r₁.memory place 0 ≡ get_or r₂.memory place 0

-- two replays of the same records from one state; besides, the same records agree, and the memories agree wherever an accepted write of theirs reached
pub record SameReplay (sheet state m₁ m₂ : List ℕ) (l k : ℕ) (ts : List Traced) : Type 0 where
  pub alike : Alike m₁ m₂ (play_of sheet l k state m₁ ts) (play_of sheet l k state m₂ ts)
  pub fronts : agreeing sheet state m₁ ts ≡ agreeing sheet state m₂ ts
  pub reached : (place : ℕ) → ReachedIn sheet state m₁ (agreeing sheet state m₁ ts) place
      → get_or (play_of sheet l k state m₁ ts).memory place 0 ≡ get_or (play_of sheet l k state m₂ ts).memory place 0

-- demand 3 of the replay, on memories that differ only in octets without the read right
abbrev pub SecretsInReplay : Type 0
SecretsInReplay =
    (h : Sheet) → WellFormed h → (state m₁ m₂ : List ℕ) → DifferOnlyHidden h m₁ m₂ → (l k : ℕ) (ts : List Traced) → RepliesOf l ts
    → SameReplay (sheet_octets h) state m₁ m₂ l k ts

-- demand 3 of the whole replay, refusals and all, for any state and any octets as a trace
abbrev pub SecretsInWholeReplay : Type 0
SecretsInWholeReplay =
    (h : Sheet) → WellFormed h → (state m₁ m₂ : List ℕ) → DifferOnlyHidden h m₁ m₂ → (trace : List ℕ)
    → Alike m₁ m₂ (replay_of (sheet_octets h) state m₁ trace) (replay_of (sheet_octets h) state m₂ trace)

-- "for demand 3 a write of that record reached nothing": a place that no accepted write of an agreeing record reached holds what it held, whatever the
-- differing record would have written
abbrev pub OnlyAgreeingReach : Type 0
OnlyAgreeingReach =
    (sheet state memory : List ℕ) (l k : ℕ) (ts : List Traced) → Every IsOctet sheet → RepliesOf l ts
    → (place : ℕ) → (ReachedIn sheet state memory (agreeing sheet state memory ts) place → ⊥)
    → get_or (play_of sheet l k state memory ts).memory place 0 ≡ get_or memory place 0
