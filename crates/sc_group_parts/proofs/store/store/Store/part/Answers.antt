use Rattle.std.proofs.Common.{◌≡◌, ap, sym, ◌∙◌, ◌∷◌, ◌++◌, map as mapped, rules}
use Rattle.std.specs.FinMap as map
use Rattle.std.specs.List.{filter}
use Rattle.std.specs.Ordering.{nat_cmp}
use Rattle.std.specs.Cmp.Lexicographic.{slice_cmp}
use Rattle.std.specs.Map.Iter.{deref_pair}
use Rattle.std.proofs.lemmas.Map.Iter.{iter_end, rest_more, rest_so_far}
use Rattle.sc_base.specs.Definitions.{EndsBelow}
use Rattle.sc_words.specs.ideal.IdealDefinitions.{holds_key}
use Rattle.sc_group_parts.proofs.StoreProofs.Bytes.{part-bytes, next_below}
use Rattle.sc_group_parts.proofs.store.store.Store.part.Goals as goal

pub push-requires : goal.push-requires
push-requires c =
    let so_far : c.self.inside.pairs.entries ≡ mapped deref_pair c.loop-key.yielded ++ c.loop-key.key-iterator = search (rules, rest_so_far) in
    let next : c.loop-key.key-iterator ≡ (c.in-Some.key.now, c.in-Some.value.now) ∷ c.next.new.self = search (rules, rest_more) in
    let below : EndsBelow (slice_cmp nat_cmp) (filter (λ e. holds_key c.args.arc.now e.0) (mapped deref_pair c.loop-key.yielded)) c.in-Some.key.now =
    next_below (holds_key c.args.arc.now) _ _ (c.in-Some.key.now, c.in-Some.value.now) c.next.new.self (so_far ∙ ap (λ l. mapped deref_pair c.loop-key.yielded ++ l) next) c.iter-key-items.ensures.ordered in
    rw (c.loop-key.invariant, c.in_ok-dup.ensures) below

pub returns : goal.returns
returns c =
    let whole : mapped deref_pair c.loop-key.yielded ≡ c.self.inside.pairs.entries = search (rules, iter_end) in
    c.loop-key.invariant ∙ ap (filter (λ e. holds_key c.args.arc.now e.0)) whole
    ∙ sym (part-bytes c.self.inside.pairs.entries (holds_key c.args.arc.now) c.iter-key-items.ensures.ordered)
    ∙ ap (λ m. map.entries (map.retain_keys m (holds_key c.args.arc.now))) c.self.view_is
