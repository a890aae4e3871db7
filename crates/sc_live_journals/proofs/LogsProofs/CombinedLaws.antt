-- Laws that follow from lemmas of this part of the crate and of those that it stands on.
use Rattle.sc_live_journals.proofs.LogsProofs.LawsOfLogs.{slots_have_rosters as slots_have_rosters_by, replicas_are_logged as replicas_are_logged_by, commands_come_next as commands_come_next_by, states_are_logged as states_are_logged_by, members_are_nodes as members_are_nodes_by}
use Rattle.sc_scenario.proofs.ScenarioProofs.Lemmas.{valid_scenarios_are_bounded}
use Rattle.sc_law_groups.proofs.WholeProofs.WholeLemmas.{valid_scenarios_begin_well}
use Rattle.sc_law_entries.proofs.NamesProofs.NameLemmas.{orders_are_allowed_allowed, orders_are_allowed_wishes, orders_are_allowed_positions, names_have_one_owner_others}
use Rattle.sc_live_journals.specs.logs.LogDefinitions.{SlotsHaveRosters, ReplicasAreLogged, CommandsComeNext, StatesAreLogged, MembersAreNodes}

-- By the whole log of a group in a journal each slot has one to nine members, ascending, and those that the group began with where no entry may change them.
pub slots_have_rosters : SlotsHaveRosters
slots_have_rosters = slots_have_rosters_by valid_scenarios_are_bounded valid_scenarios_begin_well orders_are_allowed_allowed orders_are_allowed_wishes orders_are_allowed_positions names_have_one_owner_others

-- After any rows of the journal each replica of the group has these for the members of its open slots, and those of the slot behind them for its own.
pub replicas_are_logged : ReplicasAreLogged
replicas_are_logged = replicas_are_logged_by valid_scenarios_are_bounded valid_scenarios_begin_well orders_are_allowed_allowed orders_are_allowed_wishes orders_are_allowed_positions names_have_one_owner_others

-- What such a replica learns of its next slot is the entry there, after which its members are those of the slot behind; so is what is ready at it, one entry after another, and what a vote decides at one that leads.
pub commands_come_next : CommandsComeNext
commands_come_next = commands_come_next_by valid_scenarios_are_bounded valid_scenarios_begin_well orders_are_allowed_allowed orders_are_allowed_wishes orders_are_allowed_positions names_have_one_owner_others

-- A state that is sent is the group's after the entries up to its slot, with the members of the slots that are open then.
pub states_are_logged : StatesAreLogged
states_are_logged = states_are_logged_by valid_scenarios_are_bounded valid_scenarios_begin_well orders_are_allowed_allowed orders_are_allowed_wishes orders_are_allowed_positions names_have_one_owner_others

-- So the members of each of its slots are nodes.
pub members_are_nodes : MembersAreNodes
members_are_nodes = members_are_nodes_by valid_scenarios_are_bounded valid_scenarios_begin_well orders_are_allowed_allowed orders_are_allowed_wishes orders_are_allowed_positions names_have_one_owner_others
