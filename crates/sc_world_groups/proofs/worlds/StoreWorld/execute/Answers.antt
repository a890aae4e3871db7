use Rattle.std.proofs.Common.{◌≡◌, Some, sym, ap, subst, ◌∙◌}
use Rattle.sc_words.specs.declared.commands.cores.Core.{Core}
use Rattle.sc_words.specs.declared.commands.effects.Effect.{Effect}
use Rattle.sc_group_table.specs.machine.Machine.{applied}
use Rattle.sc_meaning.specs.entries.Rings.{HaveArcs, ring_after}
use Rattle.sc_meaning.specs.entries.Worlds.{StoreWorld, named_group, with_result}
use Rattle.sc_world_groups.specs.Places.{IsFirstNamed}
use Rattle.sc_world_groups.proofs.Executing.{parts-are}
use Rattle.sc_world_groups.proofs.worlds.StoreWorld.execute.Goals as goal

pub returns : goal.returns
returns c = λ group is.
    let inside : StoreWorld = record { groups = c.self.inside.groups.items; transactions = c.self.inside.transactions.items; ring = c.self.inside.ring.items; history = c.self.inside.history.items } in
    let stands : IsFirstNamed c.args.name inside.groups c.args.at = subst (λ (world : StoreWorld). IsFirstNamed c.args.name world.groups c.args.at) (sym c.self.view_is) c.requires in
    let found : named_group c.args.name inside.groups ≡ Some group = subst (λ (world : StoreWorld). named_group c.args.name world.groups ≡ Some group) (sym c.self.view_is) is in
    let done = c.in_ok-core.ensures group (sym stands.found ∙ found) in (
      parts-are inside group c.args.command.now _ _ _ _ _ _ done.0 done.1 done.2 c.in_ok-add_entry.ensures.after c.in-Ok.ensures c.in_ok-note.ensures.history
          ∙ ap (λ (world : StoreWorld). with_result world group c.args.command.now (applied group c.args.command.now)) c.self.view_is,
      done.1,
    )

pub returns-in-Err : goal.returns-in-Err
returns-in-Err c = λ is group named arcs.
    let inside : StoreWorld = record { groups = c.self.inside.groups.items; transactions = c.self.inside.transactions.items; ring = c.self.inside.ring.items; history = c.self.inside.history.items } in
    let stands : IsFirstNamed c.args.name inside.groups c.args.at = subst (λ (world : StoreWorld). IsFirstNamed c.args.name world.groups c.args.at) (sym c.self.view_is) c.requires in
    let found : named_group c.args.name inside.groups ≡ Some group = subst (λ (world : StoreWorld). named_group c.args.name world.groups ≡ Some group) (sym c.self.view_is) named in
    let done = c.in_ok-core.ensures group (sym stands.found ∙ found) in
    let same : ring_after c.in_ok-core.core c.args.command.now c.in_ok-core.effect inside.ring ≡ ring_after group.core c.args.command.now (applied group c.args.command.now).1 c.args.self.now.ring =
    ap (λ (core : Core). ring_after core c.args.command.now c.in_ok-core.effect inside.ring) done.0
    ∙ ap (λ (effect : Effect). ring_after group.core c.args.command.now effect inside.ring) done.1
    ∙ ap (λ (world : StoreWorld). ring_after group.core c.args.command.now (applied group c.args.command.now).1 world.ring) c.self.view_is in
    c.in-Err.ensures is (subst HaveArcs (sym same) arcs)
