use Rattle.std.proofs.Common.{◌∙◌}
use Rattle.sc_base.specs.Definitions.{same_draw}
use Rattle.sc_client_table.proofs.LookupProofs.KnownLemmas.{insert_entry-last}
use Rattle.sc_client_table.proofs.lookup.routes.add.Goals as goal

pub returns-clause-ok : goal.returns-clause-ok
returns-clause-ok c = c.in_ok-insert.ensures.entries ∙ insert_entry-last same_draw c.args.known.now.entries c.args.group c.args.way c.requires
