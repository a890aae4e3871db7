use Rattle.std.proofs.Common.{◌≡◌, None, fold, sym, ap, ◌∙◌, map, rules}
use Rattle.std.specs.Map.Iter.{deref_pair}
use Rattle.std.proofs.lemmas.Map.Iter.{iter_end}
use Rattle.sc_client_table.specs.lookup.LookupDefinitions.{better}
use Rattle.sc_client_table.proofs.LookupProofs.ChoiceLemmas.{some_chosen}
use Rattle.sc_client_table.proofs.lookup.routes.Routes.choose.Goals as goal

-- some group is known, so there is a best one
pub returns-in-None-best : goal.returns-in-None-best
returns-in-None-best c =
    let whole : map deref_pair c.loop-group.yielded ≡ c.self.inside.known.entries = search (rules, iter_end) in
    let none : fold (better c.args.p) None c.self.inside.known.entries ≡ None = ap (fold (better c.args.p) None) (sym whole) ∙ sym c.loop-group.invariant ∙ c.in-None-best.is in
    absurd (some_chosen c.args.p c.self.inside.known.entries c.self.invariant none)
