use Rattle.std.proofs.Common.{List, sym, ap, subst}
use Rattle.sc_meaning.specs.entries.Rings.{HaveArcs, ring_after}
use Rattle.sc_meaning.specs.declared.entries.Cut.{Cut}
use Rattle.sc_world_groups.proofs.worlds.change_ring.Goals as goal

pub returns-in-Err : goal.returns-in-Err
returns-in-Err c = λ is arcs.
    c.in-Err.ensures.ring is
    (subst (λ (ring : List Cut). HaveArcs (ring_after c.args.core.now c.args.command.now c.args.effect.now ring)) (sym (ap (λ v. v.items) c.replace-old.ensures.value)) arcs)
