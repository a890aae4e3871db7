-- The example of a join is a lawful journal.
use Rattle.std.proofs.Common.{refl}
use Rattle.sc_actor.specs.Definitions.{no_words}
use Rattle.sc_node_table.specs.NodeDefinitions.{begun_reported, went_on, spoken_mails, spoken, reminded, with_children, elected, ended, saw, entered, answered_or_put_back, effect_reported, announced, learnt_to, welcomed, landed, left, looked, executed_one, executed_ready, executed, install_to, welcomed_all, jumped, sent_all, sent_others, order_reported, next_queued, from_backlog, from_queues, found_for, offered, pumped_from, pumped, forgotten, ordered_row, looked_up, made_by, mailed, readied, took, accept_row, accepted_row}
use Rattle.sc_meaning.specs.sound.SoundDefinitions.{four, Lawful}
use Rattle.sc_law_groups.specs.group.GroupDefinitions.{join_scenario, join_example}

-- the example is lawful
pub join_is_lawful : Lawful four no_words join_scenario join_example
unfolding elected ended entered answered_or_put_back effect_reported announced learnt_to welcomed landed left looked executed_one executed_ready executed install_to welcomed_all jumped sent_all sent_others order_reported spoken spoken_mails begun_reported went_on reminded with_children
    next_queued from_backlog from_queues found_for offered pumped_from pumped forgotten looked_up made_by ordered_row mailed readied took accept_row accepted_row saw
join_is_lawful = (refl, (refl, (refl, (refl, tt))))
