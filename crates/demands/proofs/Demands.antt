-- The owner's page, proved.
use Rattle.law.proofs.ByTables.{by_tables, one_reading}
use Rattle.law.proofs.Promises.{promises}
use Rattle.demands.specs.Demands.{FirstDemand, SecondDemand, ThirdDemand, IdlePrograms, OnTheBench, Request1, Request2, Request3, Request5, Request6, Request7, Request8, Request9, Request11, Request13}
use Rattle.demands.proofs.Agreed.{traces_have_replies, agrees_exactly}
use Rattle.demands.proofs.Alone.{refuses_all_keeps_secrets, single_reply_keeps_secrets, stores_nothing_keeps_secrets, echoes_afterwards_keeps_secrets, invents_rsn_keeps_secrets, invents_rsn_agrees_where_reached}
use Rattle.demands.proofs.Bench.{sheet_p_is_valid, bench_cases}
use Rattle.demands.proofs.Changed.{one_list, empty_exactly_if_equal, applied_gives_second, read_one_way}
use Rattle.demands.proofs.Changed.{one_for_a_record, unchanged_is_not_listed, bits_are_fields}
use Rattle.demands.proofs.ChangedCall.{the_call_tells_it, refused_writes_nothing, refusals_in_order}
use Rattle.demands.proofs.ChangedOctets.{list_is_octets}
use Rattle.demands.proofs.ChangedOrder.{once_and_in_order}
use Rattle.demands.proofs.ChangedShown.{shown}
use Rattle.demands.proofs.Cut.{cut_in_two}
use Rattle.demands.proofs.CutWhole.{forms_join, replay_cut_in_two}
use Rattle.demands.proofs.Exact.{acceptance_is_exact, rights_over_whole_span}
use Rattle.demands.proofs.Folded.{replay_is_fold}
use Rattle.demands.proofs.Identity.{identity_comes_back, control_is_ignored}
use Rattle.demands.proofs.Mapped.{parameters_are_mapped, mapped_is_not_asked}
use Rattle.demands.proofs.Histories.{history_is_run}
use Rattle.demands.proofs.Lacking.{first_without_the_right}
use Rattle.demands.proofs.LawBench.{bench_by_law}
use Rattle.demands.proofs.OnTheWire.{refused_on_the_wire}
use Rattle.demands.proofs.Owned.{writes_own_octets}
use Rattle.demands.proofs.Places.{first_failed_is_told, unknown_code_is_told, octets_of_the_fields, no_field_was_wrong, places_are_the_same}
use Rattle.demands.proofs.Playing.{replay_plays, records_are_answered, secrets_in_whole_replay, refused_replay_writes_nothing}
use Rattle.demands.proofs.Reached.{secrets_in_replay, only_agreeing_reach}
use Rattle.demands.proofs.Runs.{refused_changes_nothing, states_stay_valid, memory_keeps_its_length, demand_3}
use Rattle.demands.proofs.Release.{same_where_zero, accepted_if_zero}
use Rattle.demands.proofs.GrantedRuns.{more_rights_change_nothing}
use Rattle.demands.proofs.GrantedTraces.{trace_agrees_too, not_without_it}
use Rattle.demands.proofs.Beside.{first_is_told, named_octets}
use Rattle.demands.proofs.SameFields.{same_fields_same_fate}
use Rattle.demands.proofs.Short.{short_replies, no_memory_commands, profile_is_not_checked}
use Rattle.demands.proofs.ShortBench.{short_cases_lem, short_by_law}
use Rattle.demands.proofs.Shut.{refuses_all_is_shut_out, single_reply_is_shut_out, stores_nothing_is_shut_out, echoes_afterwards_is_shut_out, invents_rsn_is_shut_out}
use Rattle.demands.proofs.Unique.{one_answers}
use Rattle.demands.proofs.Unnamed.{others_are_ignored}
use Rattle.demands.proofs.Tolerated.{so_many_in_a_row, none_without, one_is_tolerated, passing_counts_none}
use Rattle.demands.proofs.Turned.{old_records_turn}
use Rattle.demands.proofs.Watchdog.{both_are_asked, same_sn_fails, master_never_fails}

pub first_demand : FirstDemand
first_demand = record {
  each_call_answers = promises;
  which_number_and_place = by_tables;
  a_refused_call_changes_nothing = refused_changes_nothing;
  a_command_refused_on_the_wire = refused_on_the_wire;
  states_stay_valid = states_stay_valid;
}

pub second_demand : SecondDemand
second_demand = record {
  by_tables = by_tables;
  one_reading = one_reading;
  acceptance_is_exact = acceptance_is_exact;
  rights_over_the_whole_span = rights_over_whole_span;
  over_every_sequence = λ sheet state memory calls ls h. history_is_run sheet h;
  a_write_stores_its_own_octets = writes_own_octets;
  the_memory_keeps_its_length = memory_keeps_its_length;
  two_answers_are_one = one_answers;
}

pub third_demand : ThirdDemand
third_demand = demand_3

pub idle_programs : IdlePrograms
idle_programs = record {
  refusing_all = (refuses_all_is_shut_out, refuses_all_keeps_secrets);
  a_single_reply = (single_reply_is_shut_out, single_reply_keeps_secrets);
  storing_nothing = (stores_nothing_is_shut_out, stores_nothing_keeps_secrets);
  echoing_afterwards = (echoes_afterwards_is_shut_out, echoes_afterwards_keeps_secrets);
  inventing_rsn = (invents_rsn_is_shut_out, invents_rsn_keeps_secrets, invents_rsn_agrees_where_reached);
}

pub on_the_bench : OnTheBench
on_the_bench = record { sheet_p = sheet_p_is_valid; cases = bench_cases; cases_by_the_law = bench_by_law }

pub request_1 : Request1
request_1 = record { the_identity_comes_back = identity_comes_back; control_is_ignored = control_is_ignored }

pub request_2 : Request2
request_2 = record {
  one_list = one_list;
  once_and_in_order = once_and_in_order;
  one_for_a_record = one_for_a_record;
  unchanged_is_not_listed = unchanged_is_not_listed;
  bits_are_fields = bits_are_fields;
  empty_exactly_if_equal = empty_exactly_if_equal;
  applied_gives_the_second = applied_gives_second;
  octets_are_read_one_way = read_one_way;
  the_list_is_octets = list_is_octets;
  the_call_tells_it = the_call_tells_it;
  a_refused_one_writes_nothing = refused_writes_nothing;
  refusals_in_order = refusals_in_order;
  shown = shown;
}

pub request_3 : Request3
request_3 = record {
  the_first_that_fails_is_told = first_failed_is_told;
  an_unknown_code_is_told = unknown_code_is_told;
  the_octets_of_the_fields = octets_of_the_fields;
  no_field_was_wrong = no_field_was_wrong;
  the_first_without_the_right = first_without_the_right;
  demand_3_covers_the_place = places_are_the_same;
}

pub request_5 : Request5
request_5 = record { both_are_asked = both_are_asked; the_same_sn_twice_fails = same_sn_fails; a_master_that_reads_never_fails = master_never_fails }

pub request_6 : Request6
request_6 = record {
  a_refused_replay_writes_nothing = refused_replay_writes_nothing;
  a_replay_plays_its_records = replay_plays;
  traces_have_replies = traces_have_replies;
  records_are_answered = records_are_answered;
  all_agree_exactly = agrees_exactly;
  the_replay_is_a_fold = replay_is_fold;
  a_trace_in_two_parts = cut_in_two;
  its_form_in_two_parts = forms_join;
  a_replay_in_two_parts = replay_cut_in_two;
  hidden_octets_stay_hidden = secrets_in_replay;
  hidden_from_the_whole_replay = secrets_in_whole_replay;
  a_differing_record_reaches_nothing = only_agreeing_reach;
}

pub request_7 : Request7
request_7 = record {
  replies_of_the_short_type = short_replies;
  without_the_memory_commands = no_memory_commands;
  the_profile_is_not_checked = profile_is_not_checked;
  of_other_octets_nothing_shows = others_are_ignored;
  the_same_fields_come_to_the_same = same_fields_same_fate;
  cases = short_cases_lem;
  cases_by_the_law = short_by_law;
}

pub request_8 : Request8
request_8 = record { every_parameter_is_mapped = parameters_are_mapped; the_check_never_fires = mapped_is_not_asked }

pub request_9 : Request9
request_9 = record {
  so_many_in_a_row = so_many_in_a_row;
  none_without_it = none_without;
  one_is_tolerated = one_is_tolerated;
  passing_counts_none = passing_counts_none;
  an_old_record_is_turned = old_records_turn;
}

pub request_11 : Request11
request_11 = record { more_rights_change_nothing = more_rights_change_nothing; its_traces_agree_too = trace_agrees_too; not_without_it = not_without_it }

pub request_13 : Request13
request_13 = record {
  the_same_where_they_are_zero = same_where_zero;
  accepted_exactly_if_zero = accepted_if_zero;
  the_first_such_octet_is_told = first_is_told;
  the_named_octets = named_octets;
}
