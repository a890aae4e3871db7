use Rattle.std.proofs.Common.{is_some, ap, ◌∙◌}
use Rattle.sc_base.specs.Definitions.{same_draw}
use Rattle.sc_client_table.specs.lookup.LookupDefinitions.{way_to}
use Rattle.sc_client_table.proofs.LookupProofs.KnownLemmas.{set_value-known}
use Rattle.sc_client_table.proofs.lookup.routes.start_at.Goals as goal

pub returns-in-Some-clause-same : goal.returns-in-Some-clause-same
returns-in-Some-clause-same c other =
    ap (λ known. is_some (way_to other known)) c.set_way.ensures.entries ∙ set_value-known (same_draw other) (same_draw c.args.group) c.args.known.now.entries (record c.in-Some.way { lo = c.args.lo })
