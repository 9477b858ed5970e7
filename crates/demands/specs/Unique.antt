-- "That two answers meeting one statement are equal is proved." Every promise of a callable function is one equation with a definition; so one law
-- serves each, and for every public function with more than one output it is spelled out: the calls of a C host, those of `slave`, of `replay` and of
-- `difference`. What the last three hand out is a Result or an Option, but for `perform`, and the equation is of the answer that it tells: so the same is said
-- of Results and Options, which is more, since no two of them tell one answer.
use Rattle.std.specs.Prelude.{ℕ, List, ◌≡◌, ◌<◌, ◌≤◌, Option, Result, IfSome}
use Rattle.std.specs.Option.{unwrap_or}
use Rattle.difference.specs.Answers.{entered_answer}
use Rattle.difference.specs.Difference.{listed, difference_of}
use Rattle.difference.specs.declared.whole.Refusal.{Refusal as Unlisted}
use Rattle.link.specs.declared.state.LinkState.{LinkState}
use Rattle.sheet.specs.Walk.{verdict_of}
use Rattle.sheet.specs.declared.walk.Layout.{Layout}
use Rattle.slave.specs.Answers.{sheet_answer, answered, answered_at}
use Rattle.slave.specs.Calls.{after, reset_of, enable_of, turn_of}
use Rattle.slave.specs.Exchange.{left, exchanged, exchange_of}
use Rattle.slave.specs.Wanted.{stepped, performed, performed_of}
use Rattle.slave.specs.declared.answers.Answer.{Answer}
use Rattle.slave.specs.declared.answers.Refusal.{Refusal}
use Rattle.replay.specs.Answers.{stopped, found_number, form_told}
use Rattle.replay.specs.Replay.{record_leaves, replayed, replay_of}
use Rattle.replay.specs.Trace.{kind_length, fault_of, checked_form}
use Rattle.replay.specs.declared.answers.Fault.{Fault}
use Rattle.replay.specs.declared.answers.Stop.{Stop}
use Rattle.type24.specs.Packed.{packed, packed_after, after_call, packed_left, left_by_call, lengths_of, packed_replay, by_replay, packed_list, by_difference}

-- the law: two values that equal one definition are equal
abbrev pub OneAnswer : Type 1
OneAnswer = (A : Type 0) (x y defined : A) → x ≡ defined → y ≡ defined → x ≡ y

-- the promises of type24/src/lib.rt: t24_sheet, t24_lengths, t24_reset, t24_enable, t24_turn, t24_exchange
abbrev pub OneSheet : Type 0
OneSheet = (sheet : List ℕ) (r q : ℕ) → r ≡ packed (sheet_answer (verdict_of sheet)) → q ≡ packed (sheet_answer (verdict_of sheet)) → r ≡ q

abbrev pub OneLengths : Type 0
OneLengths = (sheet : List ℕ) (r q : ℕ) → r ≡ lengths_of (verdict_of sheet) → q ≡ lengths_of (verdict_of sheet) → r ≡ q

abbrev pub OnePackedReset : Type 0
OnePackedReset =
    (sheet state : List ℕ) (r q : ℕ) (s t : List ℕ)
    → packed_after r s ≡ after_call (reset_of sheet state) → packed_after q t ≡ after_call (reset_of sheet state) → (r ≡ q) × (s ≡ t)

abbrev pub OnePackedEnable : Type 0
OnePackedEnable =
    (sheet state : List ℕ) (r q : ℕ) (s t : List ℕ)
    → packed_after r s ≡ after_call (enable_of sheet state) → packed_after q t ≡ after_call (enable_of sheet state) → (r ≡ q) × (s ≡ t)

abbrev pub OnePackedTurn : Type 0
OnePackedTurn =
    (sheet old state : List ℕ) (r q : ℕ) (s t : List ℕ)
    → packed_after r s ≡ after_call (turn_of sheet old state) → packed_after q t ≡ after_call (turn_of sheet old state) → (r ≡ q) × (s ≡ t)

abbrev pub OnePackedExchange : Type 0
OnePackedExchange =
    (sheet state memory command reply : List ℕ) (r q : ℕ) (s t m n o p : List ℕ)
    → packed_left r s m o ≡ left_by_call (exchange_of sheet state memory command reply)
    → packed_left q t n p ≡ left_by_call (exchange_of sheet state memory command reply)
    → (r ≡ q) × (s ≡ t) × (m ≡ n) × (o ≡ p)

-- t24_replay
abbrev pub OnePackedReplay : Type 0
OnePackedReplay =
    (sheet state memory trace : List ℕ) (r q : ℕ) (s t m n : List ℕ)
    → packed_replay r s m ≡ by_replay (replay_of sheet state memory trace)
    → packed_replay q t n ≡ by_replay (replay_of sheet state memory trace)
    → (r ≡ q) × (s ≡ t) × (m ≡ n)

-- t24_difference
abbrev pub OnePackedDifference : Type 0
OnePackedDifference =
    (first second list : List ℕ) (r q : ℕ) (s t : List ℕ)
    → packed_list r s ≡ by_difference (difference_of first second list) → packed_list q t ≡ by_difference (difference_of first second list) → (r ≡ q) × (s ≡ t)

-- the promises of slave: reset, enable, turn, exchange
abbrev pub OneReset : Type 0
OneReset =
    (sheet state : List ℕ) (r q : Answer) (s t : List ℕ) → after r s ≡ reset_of sheet state → after q t ≡ reset_of sheet state → (r ≡ q) × (s ≡ t)

abbrev pub OneEnable : Type 0
OneEnable =
    (sheet state : List ℕ) (r q : Answer) (s t : List ℕ) → after r s ≡ enable_of sheet state → after q t ≡ enable_of sheet state → (r ≡ q) × (s ≡ t)

abbrev pub OneTurn : Type 0
OneTurn =
    (sheet old state : List ℕ) (r q : Answer) (s t : List ℕ) → after r s ≡ turn_of sheet old state → after q t ≡ turn_of sheet old state → (r ≡ q) × (s ≡ t)

abbrev pub OneExchange : Type 0
OneExchange =
    (sheet state memory command reply : List ℕ) (r q : Answer) (s t m n o p : List ℕ)
    → left r s m o ≡ exchange_of sheet state memory command reply → left q t n p ≡ exchange_of sheet state memory command reply
    → (r ≡ q) × (s ≡ t) × (m ≡ n) × (o ≡ p)

-- slave::exchanging::perform: how many octets are as wanted, the state, the memory and the reply
abbrev pub OnePerform : Type 0
OnePerform =
    (sheet : List ℕ) (lay : Layout) (st : LinkState) (state memory command wanted : List ℕ) (d e : ℕ) (s t m n o p : List ℕ)
    → performed (stepped d s m) o ≡ performed_of wanted state memory (exchanged sheet lay st memory command)
    → performed (stepped e t n) p ≡ performed_of wanted state memory (exchanged sheet lay st memory command)
    → (d ≡ e) × (s ≡ t) × (m ≡ n) × (o ≡ p)

-- replay::step::one: the same of one record, and the lent room
abbrev pub OneStep : Type 0
OneStep =
    (sheet : List ℕ) (l : ℕ) (state memory room command reply : List ℕ) (d e : ℕ) (s t m n o p : List ℕ)
    → performed (stepped d s m) o ≡ record_leaves sheet l state memory room command reply
    → performed (stepped e t n) p ≡ record_leaves sheet l state memory room command reply
    → (d ≡ e) × (s ≡ t) × (m ≡ n) × (o ≡ p)

-- replay::playing::replay
abbrev pub OneReplay : Type 0
OneReplay =
    (sheet state memory trace : List ℕ) (r q : Answer) (s t m n : List ℕ)
    → replayed r s m ≡ replay_of sheet state memory trace → replayed q t n ≡ replay_of sheet state memory trace
    → (r ≡ q) × (s ≡ t) × (m ≡ n)

-- difference::whole::difference
abbrev pub OneDifference : Type 0
OneDifference =
    (first second list : List ℕ) (r q : Answer) (s t : List ℕ)
    → listed r s ≡ difference_of first second list → listed q t ≡ difference_of first second list → (r ≡ q) × (s ≡ t)

-- the same of what these functions hand out
abbrev pub OneResetResult : Type 0
OneResetResult =
    (sheet state : List ℕ) (r q : Result (Unit {0}) Refusal) (s t : List ℕ)
    → after (answered r) s ≡ reset_of sheet state → after (answered q) t ≡ reset_of sheet state → (r ≡ q) × (s ≡ t)

abbrev pub OneEnableResult : Type 0
OneEnableResult =
    (sheet state : List ℕ) (r q : Result (Unit {0}) Refusal) (s t : List ℕ)
    → after (answered r) s ≡ enable_of sheet state → after (answered q) t ≡ enable_of sheet state → (r ≡ q) × (s ≡ t)

abbrev pub OneTurnResult : Type 0
OneTurnResult =
    (sheet old state : List ℕ) (r q : Result (Unit {0}) Refusal) (s t : List ℕ)
    → after (answered r) s ≡ turn_of sheet old state → after (answered q) t ≡ turn_of sheet old state → (r ≡ q) × (s ≡ t)

abbrev pub OneExchangeResult : Type 0
OneExchangeResult =
    (sheet state memory command reply : List ℕ) (r q : Result ℕ Refusal) (s t m n o p : List ℕ)
    → left (answered_at r) s m o ≡ exchange_of sheet state memory command reply
    → left (answered_at q) t n p ≡ exchange_of sheet state memory command reply
    → (r ≡ q) × (s ≡ t) × (m ≡ n) × (o ≡ p)

-- the octet of one record, which lies in its reply
abbrev pub OneStepOption : Type 0
OneStepOption =
    (sheet : List ℕ) (l : ℕ) (state memory room command reply : List ℕ) (d e : Option ℕ) (s t m n o p : List ℕ)
    → IfSome d (λ octet. octet < l) → IfSome e (λ octet. octet < l)
    → performed (stepped (unwrap_or d l) s m) o ≡ record_leaves sheet l state memory room command reply
    → performed (stepped (unwrap_or e l) t n) p ≡ record_leaves sheet l state memory room command reply
    → (d ≡ e) × (s ≡ t) × (m ≡ n) × (o ≡ p)

-- the L of a kind, which is at least 1 where there is one
abbrev pub OneKindOption : Type 0
OneKindOption =
    (kind : ℕ) (d e : Option ℕ) → IfSome d (λ l. 1 ≤ l) → IfSome e (λ l. 1 ≤ l) → unwrap_or d 0 ≡ kind_length kind → unwrap_or e 0 ≡ kind_length kind → d ≡ e

-- the fault of a record, and what the form of a trace comes to
abbrev pub OneFaultOption : Type 0
OneFaultOption = (l : ℕ) (rest : List ℕ) (d e : Option Fault) → found_number d ≡ fault_of l rest → found_number e ≡ fault_of l rest → d ≡ e

abbrev pub OneFormResult : Type 0
OneFormResult = (l : ℕ) (trace : List ℕ) (r q : Result (Unit {0}) Stop) → form_told r ≡ checked_form l trace → form_told q ≡ checked_form l trace → r ≡ q

abbrev pub OneReplayResult : Type 0
OneReplayResult =
    (sheet state memory trace : List ℕ) (r q : Result ℕ Stop) (s t m n : List ℕ)
    → replayed (stopped r) s m ≡ replay_of sheet state memory trace → replayed (stopped q) t n ≡ replay_of sheet state memory trace
    → (r ≡ q) × (s ≡ t) × (m ≡ n)

abbrev pub OneDifferenceResult : Type 0
OneDifferenceResult =
    (first second list : List ℕ) (r q : Result ℕ Unlisted) (s t : List ℕ)
    → listed (entered_answer r) s ≡ difference_of first second list → listed (entered_answer q) t ≡ difference_of first second list → (r ≡ q) × (s ≡ t)

-- all of them, and the law that serves any other
pub record OneAnswers : Type 1 where
  pub of_every_promise : OneAnswer
  pub t24_sheet : OneSheet
  pub t24_lengths : OneLengths
  pub t24_reset : OnePackedReset
  pub t24_enable : OnePackedEnable
  pub t24_turn : OnePackedTurn
  pub t24_exchange : OnePackedExchange
  pub t24_replay : OnePackedReplay
  pub t24_difference : OnePackedDifference
  pub slave_reset : OneReset
  pub slave_enable : OneEnable
  pub slave_turn : OneTurn
  pub slave_exchange : OneExchange
  pub slave_perform : OnePerform
  pub replay_step : OneStep
  pub replay_replay : OneReplay
  pub difference_difference : OneDifference
  pub slave_reset_result : OneResetResult
  pub slave_enable_result : OneEnableResult
  pub slave_turn_result : OneTurnResult
  pub slave_exchange_result : OneExchangeResult
  pub replay_step_option : OneStepOption
  pub replay_kind_option : OneKindOption
  pub replay_fault_option : OneFaultOption
  pub replay_form_result : OneFormResult
  pub replay_replay_result : OneReplayResult
  pub difference_difference_result : OneDifferenceResult
