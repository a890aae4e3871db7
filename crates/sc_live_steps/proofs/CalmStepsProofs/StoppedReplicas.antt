-- Where a replica does not run, nothing that is ready is executed.
use Rattle.std.proofs.Common.{◌≡◌, ℕ, ◌&&◌, true, false, true≢false, cond, List, [], ◌∷◌, None, sym, ◌∙◌, ap, subst}
use Rattle.sc_node_table.specs.Values.{Command}
use Rattle.sc_node_table.specs.NodeDefinitions.{executed_one, has_room, Place, next, at_slot}
use Rattle.sc_law_walks.specs.WalkDefinitions.{IfThere}
use Rattle.sc_live_steps.specs.calm.CalmDefinitions.{IsPaid, MayGoOn, ArePaid}

pub idle_paid : (es : List (ℕ × Command)) (place : Place) → place.0.running ≡ false → ArePaid es place
idle_paid [] place off = λ runs. absurd (true≢false (sym runs ∙ off))
idle_paid (e ∷ es) place off =
    subst (IfThere (λ command. IsPaid command place.0 × ArePaid es (executed_one true command place)) (MayGoOn place.0)) (sym (ap (λ b. cond (b && has_room place.0) (at_slot place.0.ready (next place.0)) None) off))
    (λ runs. absurd (true≢false (sym runs ∙ off)))
