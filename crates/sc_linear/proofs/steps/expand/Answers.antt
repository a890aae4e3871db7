use Rattle.sc_linear_law.proofs.ListFacts.{each_at}
use Rattle.sc_linear.specs.Standing.{IsUnder}
use Rattle.sc_linear.proofs.steps.expand.Goals as goal

pub try_one-requires-clause-under : goal.try_one-requires-clause-under
try_one-requires-clause-under c = each_at (IsUnder c.args.requests.now c.args.line) c.args.under.now c.in-Some.x c.requires.under c.in-Some.ensures.among
