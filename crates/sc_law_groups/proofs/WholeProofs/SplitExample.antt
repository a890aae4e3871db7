-- The example of a split is a lawful journal.
use Rattle.std.proofs.Common.{refl}
use Rattle.sc_actor.specs.Definitions.{no_words}
use Rattle.sc_node_table.specs.NodeDefinitions.{elected, ended, saw, nodes_to, entered, answered_or_put_back, effect_reported, announced, learnt_to, welcomed, landed, left, looked, executed_one, executed_ready, executed, install_to, welcomed_all, jumped, sent_all, sent_others, answered, order_reported, ticked, with_children, ordered_row, next_queued, from_backlog, from_queues, found_for, offered, pumped_from, pumped, reminded, forgotten, queued, requested, request_row, learn_row, mailed, begun_reported, went_on, spoken_mails, spoken, readied, took, accept_row, accepted_row}
use Rattle.sc_meaning.specs.sound.SoundDefinitions.{Lawful, four}
use Rattle.sc_law_groups.specs.whole.WholeDefinitions.{split_scenario, split_example}

-- the example is lawful
pub split_is_lawful : Lawful four no_words split_scenario split_example
unfolding nodes_to elected ended saw sent_all sent_others answered ticked next_queued from_backlog from_queues found_for offered pumped_from pumped queued requested request_row learn_row mailed took accept_row
    readied accepted_row entered answered_or_put_back effect_reported announced learnt_to welcomed landed left looked executed_one executed_ready executed install_to welcomed_all jumped order_reported forgotten ordered_row
    spoken spoken_mails begun_reported went_on reminded with_children
split_is_lawful = (refl, (refl, (refl, (refl, (refl, (refl, (refl, (refl, (refl, (refl, (refl, tt)))))))))))
