use Rattle.std.proofs.Common.{◌≡◌, true, sym, ◌∙◌, subst}
use Rattle.sc_linear_law.specs.LinearDefinitions.{Place}
use Rattle.sc_linear_law.proofs.Game.{differ}
use Rattle.sc_linear.specs.Standing.{has}
use Rattle.sc_linear.proofs.steps.visit.Goals as goal

pub returns-then-has-clause-closed : goal.returns-then-has-clause-closed
returns-then-has-clause-closed c = λ e. absurd (differ (subst (λ (p : Place). has p.taken c.args.who ≡ true) c.place.ensures (sym c.has.ensures ∙ c.if-has.true)) e)
