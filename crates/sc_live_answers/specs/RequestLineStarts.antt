-- What holds of a quiet journal, so that a line of requests may begin from it.
use Rattle.std.specs.Prelude.{◌≡◌, ℕ, ◌≤◌, Bool, List, [], ◌∷◌, Option}
use Rattle.sc_base.specs.Definitions.{Each}
use Rattle.sc_node_table.specs.Values.{Draw, Base, OrderLine, Mail, Node, Row}
use Rattle.sc_actor.specs.Definitions.{value}
use Rattle.sc_node_table.specs.NodeDefinitions.{NodeState, ReplicaState, name_of}
use Rattle.sc_scenario.specs.declared.scenario.scenarios.Scenario.{Scenario}
use Rattle.sc_scenario.specs.scenario.Definitions.{IsValid}
use Rattle.sc_meaning.specs.sound.SoundDefinitions.{Lawful, player_table, node_seat, system_of, as_nodes}
use Rattle.sc_live_orderly.specs.OrderlyDefinitions.{under_way, owed}
use Rattle.sc_live_plain.specs.PlainDefinitions.{IsAsking, replicas_after, setting_at, AreFramesOf, ways_at, IsQuietJournal, Setting, Frame}
use Rattle.sc_live_answers.specs.ClientAnswers.{AreReached, KnowOne}
use Rattle.sc_live_answers.specs.Tokens.{token_owing}

-- in a quiet journal a client that has not started knows one group alone
abbrev pub QuietJournalsKnowOne : Type 0
QuietJournalsKnowOne = (words : ℕ → ℕ → ℕ × ℕ) (scenario : Scenario) (first : Base) (rows : List (Row Mail OrderLine)) → IsQuietJournal words scenario first rows → KnowOne scenario first rows

-- in a quiet journal no mail to players is under way
abbrev pub QuietJournalsHaveNoMail : Type 0
QuietJournalsHaveNoMail =
    (words : ℕ → ℕ → ℕ × ℕ) (scenario : Scenario) (first : Base) (rows : List (Row Mail OrderLine)) → IsQuietJournal words scenario first rows → under_way (system_of as_nodes words scenario) rows ≡ []

-- no two of these replicas are of one group
abbrev pub AreNamedOnce : List ReplicaState → Type 0
AreNamedOnce [] = Unit {0}
AreNamedOnce (r ∷ replicas) = Each (λ (other : ReplicaState). name_of other ≡ name_of r → ⊥) replicas × AreNamedOnce replicas

-- in a quiet journal where no node has two replicas of one group, each client counts at most one token: its request under way, or the place of one where it waits for none
abbrev pub QuietJournalsCountOnce : Type 0
QuietJournalsCountOnce =
    (words : ℕ → ℕ → ℕ × ℕ) (scenario : Scenario) (set : Setting) (first : Base) (others : List Base) (rows : List (Row Mail OrderLine)) (c : ℕ)
    → IsValid scenario → scenario.groups ≡ first ∷ others → IsAsking words scenario set first rows → IsQuietJournal words scenario first rows
    → ((me : ℕ) (node : NodeState) → 1 ≤ me → me ≤ scenario.nodes → value player_table (node_seat as_nodes scenario.groups scenario.policy me) rows ≡ Node node → AreNamedOnce node.replicas)
    → owed (system_of as_nodes words scenario) (token_owing c) rows ≤ 1

-- by the ways of the latest rounds each node that leads a group of a quiet journal is at distance 0
abbrev pub QuietLeadersAreReached : Type 0
QuietLeadersAreReached =
    (words : ℕ → ℕ → ℕ × ℕ) (scenario : Scenario) (first : Base) (rows : List (Row Mail OrderLine)) (frames : List Frame) (latest : Draw → ℕ) (most : ℕ) (asks : Draw → Option (Draw × Bool))
    → IsQuietJournal words scenario first rows → AreFramesOf (replicas_after scenario rows) frames
    → AreReached (setting_at (replicas_after scenario rows) frames (ways_at (replicas_after scenario rows) latest most asks))

-- in a lawful journal of a valid scenario no node has two replicas of one group
abbrev pub LawfulReplicasAreNamedOnce : Type 0
LawfulReplicasAreNamedOnce =
    (words : ℕ → ℕ → ℕ × ℕ) (scenario : Scenario) (rows : List (Row Mail OrderLine)) (me : ℕ) (node : NodeState) → IsValid scenario → Lawful as_nodes words scenario rows
    → 1 ≤ me → me ≤ scenario.nodes → value player_table (node_seat as_nodes scenario.groups scenario.policy me) rows ≡ Node node → AreNamedOnce node.replicas

-- in a quiet and lawful journal of a valid scenario each client counts at most one token
abbrev pub LawfulQuietJournalsCountOnce : Type 0
LawfulQuietJournalsCountOnce =
    (words : ℕ → ℕ → ℕ × ℕ) (scenario : Scenario) (set : Setting) (first : Base) (others : List Base) (rows : List (Row Mail OrderLine)) (c : ℕ)
    → IsValid scenario → scenario.groups ≡ first ∷ others → IsAsking words scenario set first rows → IsQuietJournal words scenario first rows → Lawful as_nodes words scenario rows
    → owed (system_of as_nodes words scenario) (token_owing c) rows ≤ 1
