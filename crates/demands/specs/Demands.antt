-- The page for the owner: his demands as propositions. Each is proved, under the same name in small letters, in proofs/Demands.antt.
use Rattle.std.specs.Prelude.{ℕ, List, ◌≡◌}
use seplogic.Ra.Ura.{Ura}
use base.Logic.{SProp}
use prog.Memory.{Memory}
use prog.Routine.{Routine}
use types.Logic.{Logic}
use contract.Monad.{Fun}
use Rattle.law.specs.ByTables.{ByTables, OneReading}
use Rattle.law.specs.Promises.{Promises}
use Rattle.slave.specs.Exchange.{Left}
use Rattle.demands.specs.Accepted.{AcceptanceIsExact, RightsOverWholeSpan}
use Rattle.demands.specs.Bench.{SheetPIsValid, BenchCases}
use Rattle.demands.specs.Changed.{OneList, EmptyExactlyIfEqual, AppliedGivesSecond, ReadOneWay, OneForARecord, UnchangedIsNotListed, BitsAreFields, TheCallTellsIt, RefusedWritesNothing, OnceAndInOrder, ListIsOctets, RefusalsInOrder}
use Rattle.demands.specs.ChangedShown.{Shown}
use Rattle.demands.specs.Granted.{MoreRightsChangeNothing, TraceAgreesToo, NotWithoutIt}
use Rattle.demands.specs.Hidden.{Demand3}
use Rattle.demands.specs.Identity.{IdentityComesBack, ControlIsIgnored}
use Rattle.demands.specs.Idle.{Demand2, KeepsSecrets, AgreesWhereReached, refuses_all, single_reply, stores_nothing, echoes_afterwards, invents_rsn}
use Rattle.demands.specs.LawBench.{BenchByLaw}
use Rattle.demands.specs.Mapped.{ParametersAreMapped, MappedIsNotAsked}
use Rattle.demands.specs.OnTheWire.{RefusedOnTheWire}
use Rattle.demands.specs.Places.{FirstFailedIsTold, UnknownCodeIsTold, OctetsOfTheFields, NoFieldWasWrong, FirstWithoutTheRight, PlacesAreTheSame}
use Rattle.demands.specs.Refused.{RefusedChangesNothing, StatesStayValid}
use Rattle.demands.specs.Release.{SameWhereZero, AcceptedIfZero, TheFirstIsTold, NamedOctets}
use Rattle.demands.specs.Replays.{TracesHaveReplies, AgreesExactly, ReplayIsFold, CutInTwo, FormsJoin, ReplayCutInTwo, SecretsInReplay, OnlyAgreeingReach, ReplayPlays, RecordsAreAnswered, SecretsInWholeReplay, RefusedReplayWritesNothing}
use Rattle.demands.specs.Sequences.{Call, run_of, History}
use Rattle.demands.specs.Short.{ShortReplies, NoMemoryCommands, ProfileIsNotChecked, OthersAreIgnored, SameFieldsSameFate}
use Rattle.demands.specs.ShortRefused.{ShortCases, ShortByLaw}
use Rattle.demands.specs.Tolerated.{SoManyInARow, NoneWithout, OneIsTolerated, PassingCountsNone, OldRecordsTurn}
use Rattle.demands.specs.Unique.{OneAnswers}
use Rattle.demands.specs.Watchdog.{BothAreAsked, SameSnFails, MasterNeverFails}
use Rattle.demands.specs.Writes.{WritesOwnOctets, MemoryKeepsItsLength}

-- "1. Each call answers on every input. .. A refused call gives its number and, for the sheet, the place; state, memory and reply then hold what they
-- held before. A command refused on the wire builds a whole reply, updates the state and stores nothing." That each call answers is its contract, which
-- asks nothing of a host (`Promises`); which input gets which number and place, call by call, is the law's (`ByTables`); the rest is here, and that a valid
-- state record stays one.
pub record FirstDemand : Type 2 where
  pub each_call_answers : {M : Type 1} {𝓤 : Ura M} (𝓛 : Logic 𝓤) (mem : Memory → SProp 𝓤) (run : Routine → Fun 𝓤) → Promises 𝓛 mem run
  pub which_number_and_place : ByTables
  pub a_refused_call_changes_nothing : RefusedChangesNothing
  pub a_command_refused_on_the_wire : RefusedOnTheWire
  pub states_stay_valid : StatesStayValid

-- "2. A command is accepted exactly when document 01 accepts it: state, format, span, rights. Reply, next state and memory are the defined ones to the
-- octet, over every sequence of calls. A write stores its own octets and no others." The defined ones are those of the law, crates/law/specs, which is
-- document 01 as tables; what stands below `by_tables` says some of it once more, by what a host sees.
pub record SecondDemand : Type 1 where
  pub by_tables : ByTables
  pub one_reading : OneReading
  pub acceptance_is_exact : AcceptanceIsExact
  pub rights_over_the_whole_span : RightsOverWholeSpan
  pub over_every_sequence :
      (sheet state memory : List ℕ) (calls : List Call) (ls : List Left) → History sheet state memory calls ls → ls ≡ run_of sheet state memory calls
  pub a_write_stores_its_own_octets : WritesOwnOctets
  pub the_memory_keeps_its_length : MemoryKeepsItsLength
  pub two_answers_are_one : OneAnswers

-- "3. Two runs on memories that differ only in octets without the read right give the same answers, replies and states; afterwards the memories differ
-- nowhere that they did not differ before, and agree wherever an accepted write reached." Places are in the answers, by request 3 that of a refused command too.
abbrev pub ThirdDemand : Type 0
ThirdDemand = Demand3

-- "Demand 2 shuts out five idle programs .. Some meet demand 3 alone": none meets demand 2. All five keep secrets, which is demand 3 without its last
-- part; the one that invents RSN meets the last part too, and so all of demand 3.
pub record IdlePrograms : Type 0 where
  pub refusing_all : (Demand2 refuses_all → ⊥) × KeepsSecrets refuses_all
  pub a_single_reply : (Demand2 single_reply → ⊥) × KeepsSecrets single_reply
  pub storing_nothing : (Demand2 stores_nothing → ⊥) × KeepsSecrets stores_nothing
  pub echoing_afterwards : (Demand2 echoes_afterwards → ⊥) × KeepsSecrets echoes_afterwards
  pub inventing_rsn : (Demand2 invents_rsn → ⊥) × KeepsSecrets invents_rsn × AgreesWhereReached invents_rsn

-- "All eleven are proved": the bench cases, as one list, by the machine and by the law alone; and that sheet P is valid
pub record OnTheBench : Type 0 where
  pub sheet_p : SheetPIsValid
  pub cases : BenchCases
  pub cases_by_the_law : BenchByLaw

-- Document 02, request 1, "Echo the command's identity": "Bits 6 and 7 of command octet 2 shall come back in those bits of reply octet 2, in every built
-- reply. .. Demands 2 and 3 read with it; bench replies stay." Demands 1 to 3 and the bench cases above are of the machine with it.
pub record Request1 : Type 0 where
  pub the_identity_comes_back : IdentityComesBack
  -- of octets 2 and 3 nothing else shows in release 1 of the drive rules: answers, states and memories are the same, and the replies differ in those two bits alone
  pub control_is_ignored : ControlIsIgnored

-- Document 02, request 2, "What changed between two sheets". Demand 1 for its call is in `each_call_answers` and `which_number_and_place` above, and here.
pub record Request2 : Type 0 where
  -- "lists each difference of two sheets once, in the order .."
  pub one_list : OneList
  pub once_and_in_order : OnceAndInOrder
  pub one_for_a_record : OneForARecord
  pub unchanged_is_not_listed : UnchangedIsNotListed
  -- "changed, with the field"
  pub bits_are_fields : BitsAreFields
  -- "The list is empty exactly when the sheets are equal."
  pub empty_exactly_if_equal : EmptyExactlyIfEqual
  -- "Applied to the first it gives the second; that is proved."
  pub applied_gives_the_second : AppliedGivesSecond
  pub octets_are_read_one_way : ReadOneWay
  pub the_list_is_octets : ListIsOctets
  -- "28, exactly when the list is longer than the lent buffer. These write nothing; octets behind the list stay."
  pub the_call_tells_it : TheCallTellsIt
  pub a_refused_one_writes_nothing : RefusedWritesNothing
  -- "11 to 17 for the first sheet; then 21 to 27 likewise for the second"
  pub refusals_in_order : RefusalsInOrder
  -- cases of our own
  pub shown : Shown

-- Document 02, request 3, "Say which octet was wrong". Demands 1 to 3 and the bench cases above are of the machine that tells it.
pub record Request3 : Type 0 where
  -- "the first octet of the field that failed, in document 01's order": acceptance and place come from one list of checks
  pub the_first_that_fails_is_told : FirstFailedIsTold
  pub an_unknown_code_is_told : UnknownCodeIsTold
  pub the_octets_of_the_fields : OctetsOfTheFields
  -- "Alarms 8 and 12 and a failed watchdog have place 0."
  pub no_field_was_wrong : NoFieldWasWrong
  -- "For alarm 10 it is how many octets of the span come before the first that lacks the right."
  pub the_first_without_the_right : FirstWithoutTheRight
  -- "Demand 3 covers the place."
  pub demand_3_covers_the_place : PlacesAreTheSame

-- Document 02, request 5, "The watchdog is a two-way matter": "With MN known, link 3 shall require that MN follows and that SN equals the state's RSN. .. Demands
-- 2 and 3 read with the new check." Demands 1 to 3 and the bench cases above are of the machine with it.
pub record Request5 : Type 0 where
  -- "Failure of either is check 1 as it stands"; with MN not known neither is asked
  pub both_are_asked : BothAreAsked
  -- a master that has stopped reading our replies is noticed, whatever MN does
  pub the_same_sn_twice_fails : SameSnFails
  -- and one that reads them never fails check 1
  pub a_master_that_reads_never_fails : MasterNeverFails

-- Document 02, request 6, "Replay the fitter's trace", of the replay as it is defined.
pub record Request6 : Type 0 where
  -- "Refusals: .. nothing is written"
  pub a_refused_replay_writes_nothing : RefusedReplayWritesNothing
  -- a replay that is not refused plays the records of its trace; each has a whole reply, and our machine answers each
  pub a_replay_plays_its_records : ReplayPlays
  pub traces_have_replies : TracesHaveReplies
  pub records_are_answered : RecordsAreAnswered
  -- "tell the first record whose reply is not our machine's .. or that all agree"
  pub all_agree_exactly : AgreesExactly
  -- "with its number and the first differing octet, or that all agree, with the final state and memory"; "on a difference, state and memory stand as
  -- before that record"
  pub the_replay_is_a_fold : ReplayIsFold
  -- a trace that is replayed in two parts, each from where the last ended, is told as the whole is
  pub a_trace_in_two_parts : CutInTwo
  pub its_form_in_two_parts : FormsJoin
  pub a_replay_in_two_parts : ReplayCutInTwo
  -- demand 3 of the replay: "two runs on memories that differ only in octets without the read right give the same answers .. and states"
  pub hidden_octets_stay_hidden : SecretsInReplay
  pub hidden_from_the_whole_replay : SecretsInWholeReplay
  -- "and for demand 3 a write of that record reached nothing"
  pub a_differing_record_reaches_nothing : OnlyAgreeingReach

-- Document 02, request 7, "Older drives with the short type". Demands 1 to 3 and the other requests above and below are of the machine that speaks both types; each
-- is one statement over both.
pub record Request7 : Type 0 where
  -- octet by octet, what stands in a reply of the short type
  pub replies_of_the_short_type : ShortReplies
  -- "without MEM_RD and MEM_WR"
  pub without_the_memory_commands : NoMemoryCommands
  -- "one not there isn't checked"
  pub the_profile_is_not_checked : ProfileIsNotChecked
  -- in release 1 of the drive rules
  pub of_other_octets_nothing_shows : OthersAreIgnored
  -- "States, watchdog, rights and latches are those of the enhanced type"
  pub the_same_fields_come_to_the_same : SameFieldsSameFate
  -- cases of our own, at least one for each code and each alarm, by the machine and by the law alone
  pub cases : ShortCases
  pub cases_by_the_law : ShortByLaw

-- Document 02, request 8, "A check that can't fire": "PRM_RD and PRM_WR ask whether the span is mapped; fault 17 ensures it. Show that no valid sheet
-- reaches that alarm 9, and take the check out of code, definition and table." Demands 1 to 3 and the bench cases above are of the machine without it.
pub record Request8 : Type 0 where
  pub every_parameter_is_mapped : ParametersAreMapped
  -- judged with the check, spelled out there, and judged without it is the same
  pub the_check_never_fires : MappedIsNotAsked

-- Document 02, request 9, "One lost cycle shouldn't stop the band". Demands 1 to 3 and the bench cases above are of the machine with it and its state record:
-- the turning call is among the calls of a sequence, is refused as demand 1 says, and leaves a valid record (`StatesStayValid`).
pub record Request9 : Type 0 where
  -- "allows that many failures in a row ..; one failure more is check 1 as before"
  pub so_many_in_a_row : SoManyInARow
  -- "none without it"
  pub none_without_it : NoneWithout
  -- "Within it the command isn't executed .." and nothing of the memory is told
  pub one_is_tolerated : OneIsTolerated
  -- "An exchange that passes check 1 sets the count to 0"
  pub passing_counts_none : PassingCountsNone
  -- "A call turns a valid old record into a new one."
  pub an_old_record_is_turned : OldRecordsTurn

-- Document 02, request 11, "More rights must not change what worked": "all answers, replies, states and memories are the same under both; prove it." For both types,
-- both releases and every tolerance; places are in the answers.
pub record Request11 : Type 0 where
  pub more_rights_change_nothing : MoreRightsChangeNothing
  -- a trace that the first sheet's drive answered without alarm 10 is told the same
  pub its_traces_agree_too : TraceAgreesToo
  -- "in which the first sheet never gives alarm 10"
  pub not_without_it : NotWithoutIt

-- Document 02, request 13, "Reserved octets, release 2": "a command octet that document 01 doesn't name must be zero. .. Demands 2 and 3 and request 11 hold under
-- each." Demands 1 to 3 above are of every sheet, of either release; so are requests 3, 5, 6, 8 and 9, and of 1 and 7 all but what says that such octets are
-- ignored, or that commands which differ in them come to the same.
pub record Request13 : Type 0 where
  -- "Prove once that both give equal results wherever those octets are zero."
  pub the_same_where_they_are_zero : SameWhereZero
  -- and release 2 accepts nothing else
  pub accepted_exactly_if_zero : AcceptedIfZero
  -- "alarm 9 at the first such octet, after a command's other data checks and before rights"
  pub the_first_such_octet_is_told : TheFirstIsTold
  -- the octets that each code names, in each type
  pub the_named_octets : NamedOctets
