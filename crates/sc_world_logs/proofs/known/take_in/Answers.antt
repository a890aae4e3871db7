use Rattle.std.proofs.Common.{refl, sym, ◌∙◌}
use Rattle.sc_world_logs.proofs.Elsewhere.{accepts_here, accepts_elsewhere, known_elsewhere}
use Rattle.sc_world_logs.proofs.known.take_in.Goals as goal

pub returns-then-same_draw-clause-known : goal.returns-then-same_draw-clause-known
returns-then-same_draw-clause-known c = λ rows after adds is.
    c.in_ok-taking.ensures rows after (accepts_here c.args.name c.args.acceptance.now rows after adds c.args.known.now.base.core.id (sym c.same_draw.ensures ∙ c.if-same_draw.true)) is

pub returns-clause-known : goal.returns-clause-known
returns-clause-known c = λ rows after adds is.
    let known = known_elsewhere rows after c.args.known.now (accepts_elsewhere c.args.name c.args.acceptance.now rows after adds c.args.known.now.base.core.id (sym c.same_draw.ensures ∙ c.if-same_draw.false)) is in
    record {
      holds = λ held. (known, refl);
      calm = λ calm. record { fact = known; base_is = refl; children_are = refl };
    }
