use Rattle.std.proofs.Common.{refl, sym, ◌∙◌}
use Rattle.std.proofs.lemmas.Bool.{and_parts}
use Rattle.sc_world_logs.proofs.known.advance.Goals as goal

pub loop-more-init : goal.loop-more-init
loop-more-init c = λ h agrees. (agrees, refl, λ kept. kept, λ calm. refl)

pub returns-in-None : goal.returns-in-None
returns-in-None c = λ h agrees.
    let so_far = c.loop-more.invariant h agrees in
    (so_far.0, so_far.1, c.in_ok-next_of.ensures h so_far.0 ∙ c.in-None.is, so_far.2, so_far.3)

pub loop-more-preserved : goal.loop-more-preserved
loop-more-preserved c = λ h agrees.
    let so_far = c.loop-more.invariant h agrees in
    let one = c.in_ok-makes_none-in-Some.ensures h so_far.0 (c.in_ok-next_of.ensures h so_far.0 ∙ c.in-Some.is) in (
      one.0,
      one.1 ∙ so_far.1,
      λ kept. one.2 (so_far.2 kept),
      λ calm. let parts = and_parts c.loop-more.childless c.in_ok-makes_none-in-Some.makes_none (sym c.both-childless.ensures ∙ calm) in one.3 parts.1 ∙ so_far.3 parts.0,
    )
