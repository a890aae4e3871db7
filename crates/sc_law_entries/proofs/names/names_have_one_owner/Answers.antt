use Rattle.sc_law_entries.proofs.NamesProofs.Owned.{owners_stay, owned_are_drawn}
use Rattle.sc_law_entries.proofs.NamesProofs.Counters.{drawn_are_owned, rows_draw_once, owned_are_of_nodes, others_are_free}
use Rattle.sc_law_entries.proofs.names.names_have_one_owner.Goals as goal

pub returns : goal.returns
returns c = record { stay = owners_stay; drawn = drawn_are_owned; once = rows_draw_once; rows = owned_are_drawn; nodes = owned_are_of_nodes; others = others_are_free }
