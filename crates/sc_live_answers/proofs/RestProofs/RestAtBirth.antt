-- A calm journal rests before its first row.
use Rattle.std.proofs.Common.{◌≡◌, ℕ, ◌+◌, ◌≤◌, Bool, cond, true, false, List, [], ◌∷◌, Option, Some, None, inl, inr, refl, sym, ◌∙◌, ap, arith}
use Rattle.std.specs.Prelude.{is_some, ◌&&◌}
use Rattle.std.proofs.lemmas.Option.{none-some}
use Rattle.sc_base.specs.Definitions.{Among, same_draw}
use Rattle.sc_node_table.specs.Values.{Draw, Base, Route}
use Rattle.sc_scenario.specs.scenario.Definitions.{ValidScenariosAreBounded}
use Rattle.sc_scenario.specs.declared.scenario.scenarios.Scenario.{Scenario}
use Rattle.sc_node_table.specs.NodeDefinitions.{ReplicaState, name_of, born_replica, slots_ahead}
use Rattle.sc_meaning.specs.sound.SoundDefinitions.{groups_at, births, as_nodes}
use Rattle.sc_live_steps.specs.calm.CalmDefinitions.{Rows}
use Rattle.sc_live_journals.specs.rows.RowDefinitions.{view_at}
use Rattle.sc_live_journals.specs.mail.MailDefinitions.{SlotsAreLeft}
use Rattle.sc_live_answers.specs.AnswerDefinitions.{GroupsBeginStanding, LawfulReplicasAreNamedOnce, GroupsBeginSent, GroupsAreBornAsBegun, QuietJournalsBegin, GroupsBeginRising, IsQuietPrefix, PrefixesAreFound, IsCalmJournal, IsPrefixOf, AreSent, IsNamedGroup, ViewsAgree, QuietJournalsRest, JournalsBeginResting}
use Rattle.sc_live_journals.specs.charts.ChartDefinitions.{names_at, all_replicas, went_in, GoInTurn}
use Rattle.sc_live_answers.proofs.LedGroupsProofs.GuidedGroups.{named_there}
use Rattle.sc_live_answers.proofs.ReplicasProofs.PlayerReplicas.{place_of}
use Rattle.sc_live_answers.proofs.LedGroupsProofs.JournalGroups.{calm_group, calm_slots}

step : (b : Bool) (gone later : Option Route) (into : Route) → gone ≡ None → (later ≡ Some into → ⊥) → cond b gone later ≡ Some into → ⊥
step true went later into none rest e = none-some into (sym none ∙ e)
step false went later into none rest e = rest e

-- where none of some replicas is gone, none went anywhere
none_went : (group : Draw) (into : Route) (replicas : List ReplicaState) → ((r : ReplicaState) → Among r replicas → r.group.core.gone ≡ None) → went_in group replicas ≡ Some into → ⊥
none_went group into [] none e = cc
none_went group into (r ∷ replicas) none e = step (same_draw (name_of r) group && is_some r.group.core.gone) r.group.core.gone (went_in group replicas) into (none r (inl refl)) (none_went group into replicas (λ x a. none x (inr a))) e

module _ (all_bounded : ValidScenariosAreBounded) (few_law : SlotsAreLeft) (stand_law : GroupsBeginStanding) (once_law : LawfulReplicasAreNamedOnce) (sent_law : GroupsBeginSent) (born_law : GroupsAreBornAsBegun) (begin_law : QuietJournalsBegin) (found_law : PrefixesAreFound) (agree_law : ViewsAgree) (rest_law : QuietJournalsRest)
    (words : ℕ → ℕ → ℕ × ℕ) (scenario : Scenario) (first : Base) (others : List Base) (journal : Rows) (groups : scenario.groups ≡ first ∷ others) (calm : IsCalmJournal words scenario journal) where
  prefix : IsPrefixOf journal []
  prefix = record { more = journal; fact = refl }

  sent : AreSent words scenario journal []
  sent base among = sent_law words scenario journal base (calm_group words scenario journal calm base among) calm.timely (calm_slots words scenario journal calm few_law base)

  q : IsQuietPrefix words scenario journal []
  q = record { calm = calm; begins = prefix; quiet = refl; sent = sent }

  -- each replica is as its group begins
  as_begun : (name : Draw) (node : ℕ) (r : ReplicaState) → view_at (births as_nodes scenario) [] name node ≡ Some r → (base : Base) × Among base (groups_at as_nodes scenario.groups journal) × (r ≡ born_replica slots_ahead node base)
  as_begun name node r e =
      let g : IsNamedGroup scenario journal name = named_there found_law words scenario journal [] calm prefix name (node, r, e) in
      let here : view_at (births as_nodes scenario) [] g.0.core.id node ≡ Some r = ap (λ n. view_at (births as_nodes scenario) [] n node) g.2 ∙ e in
      elim (born_law words scenario journal g.0 (calm_group words scenario journal calm g.0 g.1) node) [
        | inl none ↦ absurd (none-some r (sym none ∙ here))
        | inr born ↦ (let same : Some r ≡ Some (born_replica slots_ahead node g.0) = sym here ∙ born.0 in (g.0, g.1, (let one : r ≡ born_replica slots_ahead node g.0 = cc in one)))
      ]

  round_one : (name : Draw) (node : ℕ) (r : ReplicaState) → view_at (births as_nodes scenario) [] name node ≡ Some r → r.top.round ≤ 0 + 1
  round_one name node r e = (let fact = as_begun name node r e in let one : r.top.round ≡ 1 = ap (λ (x : ReplicaState). x.top.round) fact.2 in omega (arith, one))

  none_gone : (r : ReplicaState) → Among r (all_replicas (births as_nodes scenario) []) → r.group.core.gone ≡ None
  none_gone r a =
      let f = found_law words scenario journal [] calm prefix in
      let p = place_of all_bounded once_law agree_law words scenario [] calm.valid f.lawful f.homes r a in
      let fact = as_begun (name_of r) p.0 r p.1 in
      ap (λ (x : ReplicaState). x.group.core.gone) fact.2 ∙ stand_law.stands as_nodes words scenario journal fact.0 (calm_group words scenario journal calm fact.0 fact.1)

  turns : GoInTurn (names_at (births as_nodes scenario) []) (all_replicas (births as_nodes scenario) []) (λ name. 0)
  turns name into went = absurd (none_went name into (all_replicas (births as_nodes scenario) []) none_gone went)

pub journals_begin : ValidScenariosAreBounded → SlotsAreLeft → GroupsBeginStanding → LawfulReplicasAreNamedOnce → GroupsBeginSent → GroupsAreBornAsBegun → QuietJournalsBegin → PrefixesAreFound → ViewsAgree → QuietJournalsRest → GroupsBeginRising → JournalsBeginResting
unfolding q sent
journals_begin all_bounded few_law stand_law once_law sent_law born_law begin_law found_law agree_law rest_law rise_law words scenario first others journal groups calm =
    rest_law words scenario first journal [] (q all_bounded few_law stand_law once_law sent_law born_law begin_law found_law agree_law rest_law words scenario first others journal groups calm)
    (begin_law words scenario first others calm.valid groups)
    (record {
      errands = tt;
      rounds = round_one all_bounded few_law stand_law once_law sent_law born_law begin_law found_law agree_law rest_law words scenario first others journal groups calm;
      rising = λ base among. rise_law words scenario journal base (record { open_slots = refl; valid = calm.valid; lawful = calm.lawful; stands = among })
          (sent all_bounded few_law stand_law once_law sent_law born_law begin_law found_law agree_law rest_law words scenario first others journal groups calm base among);
      turn = λ name. 0;
      turns = turns all_bounded few_law stand_law once_law sent_law born_law begin_law found_law agree_law rest_law words scenario first others journal groups calm;
    })
