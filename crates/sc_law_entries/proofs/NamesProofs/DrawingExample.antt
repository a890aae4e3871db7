-- The example is a lawful journal, and its names have these owners.
use Rattle.std.proofs.Common.{◌≡◌, Some, None, refl}
use Rattle.sc_actor.specs.Definitions.{no_words}
use Rattle.sc_base.specs.Definitions.{Each}
use Rattle.sc_node_table.specs.NodeDefinitions.{sent_all, ordered_row, next_queued, from_backlog, from_queues, found_for, offered, pumped_from, pumped}
use Rattle.sc_meaning.specs.sound.SoundDefinitions.{Lawful, four}
use Rattle.sc_scenario.specs.scenario.Definitions.{lone_name}
use Rattle.sc_law_entries.specs.names.NameDefinitions.{example_name, second_name, third_name, drawing_scenario, drawing_rows, BeginsUndrawn, owner_in}

pub begins : Each BeginsUndrawn drawing_scenario.groups
begins = (record { id = refl; succ = refl; pred = refl; free = refl; decided = refl; voted = refl; born = refl; here = refl }, tt)

pub is_lawful : Lawful four no_words drawing_scenario drawing_rows
unfolding sent_all ordered_row next_queued from_backlog from_queues found_for offered pumped_from pumped
is_lawful = (refl, (refl, (refl, tt)))

pub first_owned : owner_in four drawing_scenario drawing_rows example_name ≡ Some lone_name
unfolding sent_all ordered_row next_queued from_backlog from_queues found_for offered pumped_from pumped
first_owned = refl

pub second_owned : owner_in four drawing_scenario drawing_rows second_name ≡ Some lone_name
unfolding sent_all ordered_row next_queued from_backlog from_queues found_for offered pumped_from pumped
second_owned = refl

pub third_free : owner_in four drawing_scenario drawing_rows third_name ≡ None
unfolding sent_all ordered_row next_queued from_backlog from_queues found_for offered pumped_from pumped
third_free = refl
