-- One group at most goes while an order is under way, into one that stands.
use Rattle.std.proofs.Common.{◌≡◌, ◌++◌, ◌⊎◌, ℕ, Option, Some, None, inl, inr, refl, sym, ◌∙◌, ap}
use Rattle.std.proofs.lemmas.Option.{none-some}
use Rattle.sc_node_table.specs.Values.{Draw, Offer, Route}
use Rattle.sc_node_table.specs.NodeDefinitions.{ReplicaState}
use Rattle.sc_law_entries.specs.ring.RingDefinitions.{Story}
use Rattle.sc_scenario.specs.declared.scenario.scenarios.Scenario.{Scenario}
use Rattle.sc_meaning.specs.sound.SoundDefinitions.{as_nodes}
use Rattle.sc_law_groups.specs.whole.WholeDefinitions.{stories_at}
use Rattle.sc_live_steps.specs.calm.CalmDefinitions.{Rows}
use Rattle.sc_live_journals.specs.logs.LogDefinitions.{IsGroupOf}
use Rattle.sc_live_steps.specs.orders.OrderDefinitions.{Stage}
use Rattle.sc_live_plain.specs.PlainDefinitions.{replicas_after}
use Rattle.sc_live_answers.specs.AnswerDefinitions.{OneGroupEnds, GroupsEndInTurn, HasMerged, IsGoingSince, WasGone, IsCalmJournal, IsPrefixOf, StillPrefixesAreFree, PrefixesAreFound, IsFoundPrefix, IsQuietPrefix, PrefixesGoInTurn, OnlyOneEnds, MergesEndAtOwner}
use Rattle.sc_live_answers.proofs.LedGroupsProofs.GuidedGroups.{named_there}

-- the participant of a story, if it has one
abbrev asked_by : Option Offer → Draw → Draw
asked_by None other = other
asked_by (Some offer) other = offer.part

abbrev ending_group_of : Option Story → Draw → Draw
ending_group_of None other = other
ending_group_of (Some story) other = asked_by story.offer other

module _ (home : MergesEndAtOwner) (found_law : PrefixesAreFound) (words : ℕ → ℕ → ℕ × ℕ) (scenario : Scenario) (journal quiet rows : Rows) (stage : Stage) (calm : IsCalmJournal words scenario journal) (prefix : IsPrefixOf journal rows) (g : IsGoingSince scenario journal quiet rows stage) where
  -- the one that goes is the participant of the order's transaction
  ending_group : Draw
  ending_group = ending_group_of (stories_at as_nodes scenario.groups journal g.tx) g.tx

  is_goer : (name : Draw) (into : Route) → HasMerged scenario journal quiet g.tx name into → ending_group ≡ name
  unfolding ending_group
  is_goer name into m = ap (λ (o : Option Story). ending_group_of o g.tx) m.offered.1 ∙ (ap (λ (o : Option Offer). asked_by o g.tx) m.offered.2 ∙ m.offered.3)

  found : IsFoundPrefix words scenario journal rows
  found = found_law words scenario journal rows calm prefix

  -- who is gone was so in the quiet, or went by that
  went : (name : Draw) (node : ℕ) (r : ReplicaState) (into : Route) → replicas_after scenario rows name node ≡ Some r → r.group.core.gone ≡ Some into → WasGone scenario quiet name ⊎ HasMerged scenario journal quiet g.tx name into
  went name node r into e gone = g.went name node r into (sym (found.views name node) ∙ e) gone

  alone : OnlyOneEnds scenario quiet rows ending_group
  alone = record {
    others = λ name node r into other e gone. elim (went name node r into e gone) [
      | inl was ↦ (was.who, was.replica, was.into, was.was, was.gone)
      | inr merged ↦ absurd (other (sym (is_goer name into merged)))
    ];
    stands = λ node r into none e gone who s f. stood node r into none e gone who s f s.group.core.gone refl;
  }
    where
      stood : (node : ℕ) (r : ReplicaState) (into : Route) → ((who : ℕ) (s : ReplicaState) → replicas_after scenario quiet ending_group who ≡ Some s → s.group.core.gone ≡ None) → replicas_after scenario rows ending_group node ≡ Some r → r.group.core.gone ≡ Some into
          → (who : ℕ) (s : ReplicaState) → replicas_after scenario rows into.group who ≡ Some s → (o : Option Route) → s.group.core.gone ≡ o → s.group.core.gone ≡ None
      stood node r into none e gone who s f None fact = fact
      stood node r into none e gone who s f (Some route) fact = elim (went ending_group node r into e gone) [
        | inl was ↦ absurd (none-some was.into (sym (none was.who was.replica was.was) ∙ was.gone))
        | inr merged ↦ (
            let named = named_there found_law words scenario journal rows calm prefix ending_group (node, r, sym (found.views ending_group node) ∙ e) in
            let group : IsGroupOf as_nodes words scenario journal named.0 = record { open_slots = refl; valid = calm.valid; lawful = calm.lawful; stands = named.1 } in
            let into_is = home words scenario journal named.0 group g.tx ending_group ending_group merged.offer into merged.offered merged.ended in
            elim (went into.group who s route f fact) [
              | inl was ↦ absurd (none-some was.into (sym (merged.stood into.group into_is.0 was.who was.replica was.was) ∙ was.gone))
              | inr again ↦ absurd (into_is.1 (sym (is_goer into.group route again)))
            ])
      ]

  pub only_one_ends : (group : Draw) × OnlyOneEnds scenario quiet rows group
  only_one_ends = (ending_group, alone)

pub one_group_ends_by : MergesEndAtOwner → PrefixesAreFound → OneGroupEnds
one_group_ends_by = only_one_ends

pub groups_end_in_turn_by : OneGroupEnds → StillPrefixesAreFree → PrefixesGoInTurn → GroupsEndInTurn
groups_end_in_turn_by alone_law free_law turns_law words scenario first journal quiet behind stage calm rests prefix sent still g =
    let was : IsQuietPrefix words scenario journal quiet = record { calm = calm; begins = rests.prefix; quiet = rests.calm; sent = rests.sent } in
    let one = alone_law words scenario journal quiet (quiet ++ behind) stage calm prefix g in
    turns_law words scenario journal quiet behind rests.turn one.0 was (free_law words scenario journal quiet was rests.still) (record { calm = calm; begins = prefix; quiet = still; sent = sent }) one.1 rests.turns
