-- The ring after an entry, step by step.
use Rattle.std.proofs.Common.{◌≡◌, List, Option, ap, ◌∙◌}
use Rattle.sc_words.specs.declared.commands.commands.Command.{Command}
use Rattle.sc_words.specs.declared.commands.cores.Core.{Core}
use Rattle.sc_words.specs.declared.commands.effects.Effect.{Effect}
use Rattle.sc_words.specs.declared.commands.votes.Outcome.{Outcome}
use Rattle.sc_meaning.specs.entries.Births.{division_of}
use Rattle.sc_meaning.specs.entries.Rings.{decided_by, ring_after, ring_decided, ring_divided}
use Rattle.sc_meaning.specs.declared.entries.Cut.{Cut}
use Rattle.sc_meaning.specs.declared.entries.Division.{Division}

-- what is decided changes it, and then what is divided
pub ring_changed : (core : Core) (command : Command) (effect : Effect) (ring slice decided after last : List Cut) (outcome : Option Outcome) (division : Option Division)
    → slice ≡ ring → outcome ≡ decided_by command effect → division ≡ division_of core command effect → decided ≡ ring_decided outcome core.id core.succ.group slice
    → after ≡ ring_divided division core.id decided → last ≡ after → last ≡ ring_after core command effect ring
ring_changed core command effect ring slice decided after last outcome division slice_is outcome_is division_is decided_is after_is last_is =
    last_is ∙ after_is ∙ ap (λ d. ring_divided d core.id decided) division_is
    ∙ ap (ring_divided (division_of core command effect) core.id)
    (decided_is ∙ ap (λ o. ring_decided o core.id core.succ.group slice) outcome_is ∙ ap (ring_decided (decided_by command effect) core.id core.succ.group) slice_is)
