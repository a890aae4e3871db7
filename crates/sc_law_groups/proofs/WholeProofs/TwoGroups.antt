-- The example of two groups is a lawful journal.
use Rattle.std.proofs.Common.{refl}
use Rattle.sc_actor.specs.Definitions.{no_words}
use Rattle.sc_node_table.specs.NodeDefinitions.{begun_reported, went_on, spoken_mails, spoken, reminded, nodes_to, elected, ended, saw, entered, answered_or_put_back, effect_reported, announced, learnt_to, welcomed, landed, left, looked, executed_one, executed_ready, executed, install_to, welcomed_all, jumped, sent_all, sent_others, order_reported, ticked, with_children, wishing, next_queued, from_backlog, from_queues, found_for, offered, pumped_from, pumped, forgotten, queued, requested, request_row, asked_again, last_entry_sent, tick_row, mailed, readied, took, accept_row, accepted_row}
use Rattle.sc_meaning.specs.sound.SoundDefinitions.{Lawful, four}
use Rattle.sc_law_groups.specs.whole.WholeDefinitions.{two_scenario, two_example}

-- the journal is lawful
pub two_is_lawful : Lawful four no_words two_scenario two_example
unfolding nodes_to elected ended saw sent_all sent_others ticked next_queued from_backlog from_queues found_for offered pumped_from pumped queued requested request_row asked_again last_entry_sent tick_row mailed took accept_row spoken spoken_mails begun_reported went_on reminded wishing with_children
    readied accepted_row entered answered_or_put_back effect_reported announced learnt_to welcomed landed left looked executed_one executed_ready executed install_to welcomed_all jumped order_reported forgotten
two_is_lawful = (refl, (refl, (refl, (refl, (refl, (refl, (refl, tt)))))))
