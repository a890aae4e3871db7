use Rattle.std.proofs.Common.{◌≡◌, List, subst}
use Rattle.std.specs.Prelude.{MatchResult}
use Rattle.sc_meaning.specs.entries.Rings.{HaveArcs}
use Rattle.sc_meaning.specs.declared.entries.Cut.{Cut}
use Rattle.sc_world_groups.specs.declared.errors.EntryError.TheVariants.{NoArc}
use Rattle.sc_world_groups.proofs.Changed.{ring_changed}
use Rattle.sc_world_groups.proofs.rings.ring_after.Goals as goal

pub returns-clause-ring : goal.returns-clause-ring
returns-clause-ring c =
    subst (λ (spans : List Cut). MatchResult c.cuts_of.result (λ after. after.items ≡ spans) (λ error. error ≡ NoArc → HaveArcs spans → ⊥))
    (ring_changed c.args.core.now c.args.command.now c.args.effect.now c.args.ring.items c.as_slice.result.now c.in_ok-decided.decided.items c.in_ok-after.after.items c.as_slice-2.result.now _ _
    c.as_slice.ensures.value c.decided_by-outcome.ensures c.division_of-division.ensures c.in_ok-decided.ensures c.in_ok-after.ensures c.as_slice-2.ensures.value)
    c.cuts_of.ensures.ring
