use Rattle.std.proofs.Common.{ap, sym, ◌∙◌}
use Rattle.sc_base.specs.Definitions.{same_draw}
use Rattle.sc_client_table.proofs.LookupProofs.KnownLemmas.{set_value-none}
use Rattle.sc_client_table.proofs.lookup.routes.set_way.Goals as goal

pub returns-in_default-clause-entries : goal.returns-in_default-clause-entries
returns-in_default-clause-entries c = ap (λ m. m.entries) c.get_mut.follows.holds-at-none ∙ sym (set_value-none (same_draw c.args.group) c.args.known.now.entries c.args.way (sym c.in_default.ensures.value))
