-- The example of an election is a lawful journal.
use Rattle.std.proofs.Common.{refl}
use Rattle.sc_actor.specs.Definitions.{no_words}
use Rattle.sc_node_table.specs.NodeDefinitions.{begun_reported, went_on, spoken_mails, spoken, reminded, nodes_to, elected, ended, saw, sent_all, ticked, with_children, next_queued, from_backlog, from_queues, found_for, offered, pumped_from, pumped, queued, requested, request_row, tick_row, mailed, promised, prepare_row, took, accept_row, promise_row}
use Rattle.sc_meaning.specs.sound.SoundDefinitions.{four, Lawful}
use Rattle.sc_law_groups.specs.group.GroupDefinitions.{election_scenario, election_example}

-- the example is lawful
pub example_is_lawful : Lawful four no_words election_scenario election_example
unfolding nodes_to elected ended saw sent_all ticked next_queued from_backlog from_queues found_for offered pumped_from pumped queued requested request_row tick_row mailed promised prepare_row took accept_row promise_row spoken spoken_mails begun_reported went_on reminded with_children
example_is_lawful = (refl, (refl, (refl, (refl, (refl, (refl, (refl, (refl, (refl, tt)))))))))
