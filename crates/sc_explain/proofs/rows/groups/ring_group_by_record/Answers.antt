use Rattle.std.proofs.Common.{sym, ◌∙◌}
use Rattle.sc_meaning.specs.entries.Effective.{effective}
use Rattle.sc_explain.proofs.RowsProofs.RingGroups.{said_of_found, said_of_none}
use Rattle.sc_explain.proofs.rows.groups.ring_group_by_record.Goals as goal

pub returns-in-None : goal.returns-in-None
returns-in-None c = said_of_none c.args.name (effective c.args.world.now c.args.name) (sym c.in_ok-found.ensures.base ∙ c.in-None.is)

pub returns-in-Some : goal.returns-in-Some
returns-in-Some c =
    said_of_found c.args.name c.in-Some.base c.said_by.result (effective c.args.world.now c.args.name) (sym c.in_ok-found.ensures.base ∙ c.in-Some.is) c.said_by.ensures
