-- Of the chain's items the one at that place.
use Rattle.std.proofs.Common.{◌∙◌, sym, rules, nat_le}
use borrow.Author.Tests.{tests}
use Rattle.std.proofs.lemmas.Iterator.{YieldsList-from_slice, YieldsList-from_map}
use Rattle.std.proofs.lemmas.Iterator.Consumers.{YieldsList-at, YieldsList-from_filter, nth_from_yields_List}
use Rattle.std.proofs.lemmas.Iterator.Adapters.{option_map_id}
use Rattle.sc_base.specs.Definitions.{pos_of}
use Rattle.sc_group_table.proofs.policy.wishes.nth_above.Goals as goal

pub returns : goal.returns
returns c =
    sym (option_map_id c.nth.result)
    ∙ nth_from_yields_List c.nth.result c.nth.new.self c.args.n c.nth.ensures.ran
    (YieldsList-from_filter _ (λ p. nat_le c.args.lo p)
    (YieldsList-at c.filter.ensures.source
    (YieldsList-from_map _ (λ pair. pos_of pair.0) (YieldsList-at c.map.ensures.source (YieldsList-from_slice c.args.pairs.now cc)) c.map.ensures.closure (λ x r q k. search rules)))
    c.filter.ensures.closure (λ x r q k. search (rules, tests)))
