use Rattle.std.proofs.Common.{◌≡◌, ap, sym, ◌∙◌, ◌∷◌, ◌++◌, map as mapped, rules, nat_cmp}
use Rattle.std.specs.FinMap as map
use Rattle.std.specs.Map.Iter.{deref_pair}
use Rattle.std.proofs.lemmas.Map.Iter.{iter_end, rest_more, rest_so_far}
use Rattle.sc_base.specs.Definitions.{EndsBelow}
use Rattle.sc_group_parts.proofs.StoreProofs.Numbers.{entries-numbers, next_below}
use Rattle.sc_group_parts.proofs.store.table.ClientTable.list.Goals as goal

pub push-requires : goal.push-requires
push-requires c =
    let so_far : c.self.inside.noted.entries ≡ mapped deref_pair c.loop-client.yielded ++ c.loop-client.client-iterator = search (rules, rest_so_far) in
    let next : c.loop-client.client-iterator ≡ (c.in-Some.client.now, c.in-Some.noted.now) ∷ c.next.new.self = search (rules, rest_more) in
    let below : EndsBelow nat_cmp (mapped deref_pair c.loop-client.yielded) c.in-Some.client.now =
    next_below _ _ (c.in-Some.client.now, c.in-Some.noted.now) c.next.new.self (so_far ∙ ap (λ l. mapped deref_pair c.loop-client.yielded ++ l) next) c.iter-client-items.ensures.ordered in
    rw (c.loop-client.invariant) below

pub returns : goal.returns
returns c =
    let whole : mapped deref_pair c.loop-client.yielded ≡ c.self.inside.noted.entries = search (rules, iter_end) in
    c.loop-client.invariant ∙ whole ∙ sym (entries-numbers c.self.inside.noted.entries c.iter-client-items.ensures.ordered) ∙ ap map.entries c.self.view_is
