use Rattle.std.proofs.Common.{◌≡◌, ◌<◌, OnOk, length, ap, ◌∙◌, subst, arith}
use Rattle.std.specs.Map.{remove_entry}
use Rattle.indexmap.specs.IndexMap.{spare}
use Rattle.sc_base.specs.Definitions.{same_draw}
use Rattle.sc_client_table.specs.lookup.LookupDefinitions.{KnownGroups, group_learnt}
use Rattle.sc_client_table.proofs.LookupProofs.KnownLemmas.{of_done, some_learnt}
use Rattle.sc_client_table.proofs.lookup.routes.Routes.gone.Goals as goal

-- there was room for one more group, so one was learnt
pub invariant_of-self-2 : goal.invariant_of-self-2
invariant_of-self-2 c =
    let room : 0 < spare c.shift_remove.new.self = omega (arith, c.shift_remove.ensures.room.0, c.in_ok-reserve.ensures.ok) in
    let done : c.learn.new.known.entries ≡ group_learnt c.args.into.now.group c.args.into.now.lo c.args.into.now.members c.shift_remove.new.self.entries = of_done c.learn.result c.learn.ensures.ok (c.learn.ensures.room room) in
    omega (arith, ap length done, some_learnt c.args.into.now.group c.args.into.now.lo c.args.into.now.members c.shift_remove.new.self.entries)

pub returns : goal.returns
returns c =
    let removed : c.shift_remove.new.self.entries ≡ remove_entry (same_draw c.args.group) c.args.self.now = c.shift_remove.ensures.entries ∙ ap (remove_entry (same_draw c.args.group)) (c.reserve.ensures.entries ∙ c.self.view_is) in
    let P : KnownGroups → Type 0 = λ known. OnOk c.learn.result (c.learn.new.known.entries ≡ group_learnt c.args.into.now.group c.args.into.now.lo c.args.into.now.members known) in
    subst P removed c.learn.ensures.ok
