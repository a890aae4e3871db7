-- The groups of a scenario have replicas at their first members from birth on.
use Rattle.std.proofs.Common.{◌≡◌, ℕ, ◌≤◌, true, List, [], ◌∷◌, ◌++◌, length, Some, None, inl, refl, sym, ◌∙◌, ap, subst, append_assoc}
use Rattle.std.proofs.lemmas.Bool.{cond-true}
use Rattle.sc_base.specs.Definitions.{Among, is_member, least_of}
use Rattle.sc_node_table.specs.Values.{Base}
use Rattle.sc_live_orderly.specs.OrderlyDefinitions.{AreInTime}
use Rattle.sc_scenario.specs.scenario.Definitions.{IsBounded, ValidScenariosAreBounded}
use Rattle.sc_scenario.specs.declared.scenario.scenarios.Scenario.{Scenario}
use Rattle.sc_node_table.specs.NodeDefinitions.{born_replica, slots_ahead}
use Rattle.sc_meaning.specs.sound.SoundDefinitions.{births, as_nodes}
use Rattle.sc_live_steps.specs.calm.CalmDefinitions.{players, HasReplica}
use Rattle.sc_law_entries.specs.logs.LogDefinitions.{Rows}
use Rattle.sc_live_steps.proofs.FollowingProofs.FollowingLemmas.{least_in}
use Rattle.sc_live_journals.proofs.RowsProofs.RowLemmas.{view_born}
use Rattle.sc_live_journals.proofs.MailProofs.MailLemmas.{replicas_last}
use Rattle.sc_live_plain.specs.PlainDefinitions.{replicas_after}
use Rattle.sc_live_answers.specs.AnswerDefinitions.{IsCalmJournal, IsPrefixOf, PrefixesAreFound, FirstGroupsAreReached}
use Rattle.sc_live_answers.proofs.LinksProofs.LinkLogs.{of_up_to}

module _ (bounded : ValidScenariosAreBounded) (finds : PrefixesAreFound) (words : ℕ → ℕ → ℕ × ℕ) (scenario : Scenario) (journal prefix : Rows) (calm : IsCalmJournal words scenario journal) (fact : IsPrefixOf journal prefix) where
  bound : IsBounded scenario
  bound = bounded scenario calm.valid

  timely : AreInTime (players words (births as_nodes scenario)) prefix
  timely = λ before row after e. calm.timely before row (after ++ fact.more) (fact.fact ∙ (ap (λ rows. rows ++ fact.more) e ∙ append_assoc before (row ∷ after) fact.more))

  of_member : (base : Base) → Among base scenario.groups → (node : ℕ) → is_member base.core.members node ≡ true → HasReplica (replicas_after scenario prefix) base.core.id node
  of_member base a node m =
      let one = view_born scenario bound base a node ∙ cond-true (is_member base.core.members node) (Some (born_replica slots_ahead node base)) None m in
      let later = replicas_last words scenario [] prefix base.core.id node (born_replica slots_ahead node base) timely one in
      (later.0, (finds words scenario journal prefix calm fact).views base.core.id node ∙ later.1)

  some_member : (base : Base) → Among base scenario.groups → 1 ≤ length base.core.members
  some_member base a =
      let p = of_up_to bound.starts (length bound.starts) base (subst (Among base) bound.groups a) in
      let line = bound.each p.0 (record { lo = 0; members = [] }) p.1 in
      subst (λ (b : Base). 1 ≤ length b.core.members) p.2 line.roster.some

  of_first : (first : Base) (others : List Base) → scenario.groups ≡ first ∷ others → HasReplica (replicas_after scenario prefix) first.core.id (least_of first.core.members)
  of_first first others e =
      let a : Among first scenario.groups = subst (Among first) (sym e) (inl refl) in
      of_member first a (least_of first.core.members) (least_in first.core.members (some_member first a))

pub first_groups_are_reached : ValidScenariosAreBounded → PrefixesAreFound → FirstGroupsAreReached
first_groups_are_reached bounded finds = record {
  members = λ words scenario journal prefix base calm fact a node m. of_member bounded finds words scenario journal prefix calm fact base a node m;
  first = λ words scenario journal prefix first others calm fact e. of_first bounded finds words scenario journal prefix calm fact first others e;
}
