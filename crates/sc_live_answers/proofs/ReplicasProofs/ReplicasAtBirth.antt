-- The replicas of a group at the births are as the group begins, at its first members; and those of the scenario's groups are there from then on.
use Rattle.std.proofs.Common.{◌≡◌, Bool, true, false, cond, Option, Some, None, ◌⊎◌, inl, inr, refl}
use Rattle.sc_base.specs.Definitions.{Among, is_member}
use Rattle.sc_node_table.specs.Values.{Base}
use Rattle.sc_node_table.specs.NodeDefinitions.{born_replica, slots_ahead}
use Rattle.sc_scenario.specs.scenario.Definitions.{IsBounded, ValidScenariosAreBounded}
use Rattle.sc_scenario.specs.declared.scenario.scenarios.Scenario.{Scenario}
use Rattle.sc_meaning.specs.sound.SoundDefinitions.{births, as_nodes}
use Rattle.sc_live_journals.proofs.RowsProofs.RowLemmas.{view_born}
use Rattle.sc_live_answers.specs.AnswerDefinitions.{GroupsAreBornOrNot, AreBornAsBegun, GroupsAreBornAsBegun}

one_or_none : {X : Type 0} (b : Bool) (x : X) (o : Option X) → o ≡ cond b (Some x) None → (o ≡ None) ⊎ ((o ≡ Some x) × (b ≡ true))
one_or_none true x o e = inr (e, refl)
one_or_none false x o e = inl e

scenarios_born : (scenario : Scenario) (base : Base) → IsBounded scenario → Among base scenario.groups → AreBornAsBegun (births as_nodes scenario) base
scenarios_born scenario base bounded a who = one_or_none (is_member base.core.members who) (born_replica slots_ahead who base) _ (view_born scenario bounded base a who)

pub groups_born : ValidScenariosAreBounded → GroupsAreBornOrNot → GroupsAreBornAsBegun
groups_born bounded born words scenario journal base group = elim (born words scenario journal base group) [
  | inl own ↦ scenarios_born scenario base (bounded scenario group.valid) own
  | inr unborn ↦ λ who. inl (unborn who)
]
