-- A quiet prefix that rests is known so, and replicas of groups that are well led may pump.
use Rattle.std.proofs.Common.{◌≡◌, ℕ, ◌≤◌, cond, [], Some, None, refl, sym, ◌∙◌, ap, append-nil}
use Rattle.sc_base.specs.Definitions.{Among, Each}
use Rattle.sc_node_table.specs.Values.{Node}
use Rattle.sc_actor.specs.Definitions.{value}
use Rattle.sc_node_table.specs.NodeDefinitions.{NodeState, replica_of, ReplicaState, name_of, next}
use Rattle.sc_scenario.specs.declared.scenario.scenarios.Scenario.{Scenario}
use Rattle.sc_scenario.specs.scenario.Definitions.{ValidScenariosAreBounded}
use Rattle.sc_meaning.specs.sound.SoundDefinitions.{Player, player_table, births, node_seat, as_nodes}
use Rattle.sc_law_groups.specs.whole.WholeDefinitions.{ValidJournalsAreSound, ValidEntriesAreLogs}
use Rattle.sc_live_steps.specs.calm.CalmDefinitions.{MayPump, Rows}
use Rattle.sc_live_steps.proofs.CalmStepsProofs.CalmStepLemmas.{unbound_new}
use Rattle.sc_live_journals.specs.rows.RowDefinitions.{view_at}
use Rattle.sc_live_journals.proofs.GroupsProofs.GroupLemmas.{each_among}
use Rattle.sc_live_journals.specs.logs.LogDefinitions.{logged_sets}
use Rattle.sc_live_plain.specs.PlainDefinitions.{replicas_after, replicas_of}
use Rattle.sc_live_answers.specs.AnswerDefinitions.{over_at, slot_leaders_at, SentReplicas, LawfulReplicasAreNamedOnce, RoutesInPrefixesAgree, IsFoundPrefix, PrefixesAreFound, NoMailForStrangers, IsCalmJournal, IsPrefixOf, AreSent, RestingPrefixesAreKnown, SentNodesMayPump}
use Rattle.sc_live_answers.proofs.LedMailProofs.FollowerRows.{nines_at}
use Rattle.sc_live_answers.proofs.LinesProofs.Setting.{prefix_lawful}
use Rattle.sc_live_answers.proofs.LinesProofs.Frames.{found_once, nodes_numbered}

pub resting_known : PrefixesAreFound → RoutesInPrefixesAgree → NoMailForStrangers → ValidJournalsAreSound → ValidEntriesAreLogs → RestingPrefixesAreKnown
resting_known found_law agree_law no_law sound_law logs_law words scenario first journal quiet far calm rests room = record {
  one = (sound_law as_nodes refl words scenario calm.valid journal calm.lawful quiet rests.prefix.more rests.prefix.fact).whole;
  logs = logs_law as_nodes refl words scenario calm.valid quiet (prefix_lawful words scenario journal quiet calm.lawful rests.prefix);
  agree = agree_law words scenario journal quiet (record { calm = calm; begins = rests.prefix; quiet = rests.calm; sent = rests.sent });
  homes = λ rows prefix. (found_law words scenario journal rows calm prefix).homes;
  born = λ base among who member. no_law.born words scenario journal calm base among who member;
  room = room;
}

module _ (all_bounded : ValidScenariosAreBounded) (once_law : LawfulReplicasAreNamedOnce) (found_law : PrefixesAreFound) (plain_law : SentReplicas) (words : ℕ → ℕ → ℕ × ℕ) (scenario : Scenario) (journal rows : Rows) (calm : IsCalmJournal words scenario journal) (prefix : IsPrefixOf journal rows)
    (sent : AreSent words scenario journal rows) (me : ℕ) (node : NodeState) (one : 1 ≤ me) (most : me ≤ scenario.nodes) (fact : value player_table (node_seat as_nodes scenario.groups scenario.policy me) rows ≡ Node node) where
  found : IsFoundPrefix words scenario journal rows
  found = found_law words scenario journal rows calm prefix

  may_pump : (r : ReplicaState) → Among r node.replicas → MayPump r
  may_pump r a =
      let at : replicas_after scenario rows (name_of r) me ≡ Some r =
      ap (λ b. cond b (replica_of (name_of r) (replicas_of (value player_table (node_seat as_nodes scenario.groups scenario.policy me) rows))) None) (nodes_numbered all_bounded scenario calm.valid me one most)
      ∙ (ap (λ (player : Player). replica_of (name_of r) (replicas_of player)) fact ∙ found_once node.replicas r (once_law words scenario rows me node calm.valid found.lawful one most fact) a) in
      let of = found.replicas (name_of r) me r at in
      let view : view_at (births as_nodes scenario) rows of.base.core.id me ≡ Some r = ap (λ n. view_at (births as_nodes scenario) rows n me) of.named ∙ (sym (found.views (name_of r) me) ∙ at) in
      let t = sent of.base (found.later of.base of.among) in
      let none = plain_law.plain (logged_sets as_nodes of.base journal) (over_at as_nodes of.base journal) (slot_leaders_at as_nodes scenario of.base journal) words (births as_nodes scenario) rows of.base t me r view in
      record {
        unbound = λ slot low. unbound_new r.leader none slot;
        few = nines_at (logged_sets as_nodes of.base journal) t.one.log.rosters (next r) r.sets (t.one.states rows [] me r (sym (append-nil rows)) view).opens;
      }

  nodes_pump : Each MayPump node.replicas
  nodes_pump = each_among MayPump node.replicas may_pump

pub sent_nodes_pump : ValidScenariosAreBounded → LawfulReplicasAreNamedOnce → PrefixesAreFound → SentReplicas → SentNodesMayPump
sent_nodes_pump = nodes_pump
