use Rattle.std.proofs.Common.{◌∙◌, sym, rules}
use borrow.Author.Tests.{tests}
use Rattle.std.proofs.lemmas.Iterator.{YieldsList-from_slice}
use Rattle.std.proofs.lemmas.Iterator.Search.{any_from_yields_List}
use Rattle.sc_world_logs.specs.declared.accepting.Acceptance.{Acceptance}
use Rattle.sc_world_logs.specs.Acceptances.{is_vote}
use Rattle.sc_world_logs.proofs.Votes.{voters_are_voted}
use Rattle.sc_world_logs.proofs.choosing.has_accepted.Goals as goal

pub returns : goal.returns
returns c =
    any_from_yields_List (λ (here : Acceptance). is_vote c.args.ballot c.args.slot c.args.node here) _ _ _ c.any.ensures.ran (YieldsList-from_slice c.args.found.now cc) (λ x b q k. search (rules, tests))
    ∙ sym (voters_are_voted c.args.found.now c.args.ballot c.args.slot c.args.node)
