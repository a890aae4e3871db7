-- Mail of transactions and refusals of ballots go to nodes of their scenario.
use Rattle.std.specs.Prelude.{◌≡◌, ℕ, ◌≤◌, List, [], ◌∷◌, ◌++◌}
use Rattle.sc_base.specs.Definitions.{Each}
use Rattle.sc_node_table.specs.Values.{Ballot, Draw, Base, OrderLine, Mail, Nack, Row}
use Rattle.sc_actor.specs.Definitions.{mails}
use Rattle.sc_live_orderly.specs.OrderlyDefinitions.{AreInTime}
use Rattle.sc_scenario.specs.declared.scenario.scenarios.Scenario.{Scenario}
use Rattle.sc_meaning.specs.sound.SoundDefinitions.{births, as_nodes}
use Rattle.sc_live_steps.specs.calm.CalmDefinitions.{players, Rows}
use Rattle.sc_live_steps.specs.orders.OrderDefinitions.{Stage, IsAt}
use Rattle.sc_live_journals.specs.scenes.SceneDefinitions.{IsErrand, GoesToActor, scene_at}
use Rattle.sc_live_answers.specs.CalmJournals.{IsCalmJournal, IsPrefixOf}
use Rattle.sc_live_answers.specs.RequestInvariant.{IsKnownPrefix, IsRequested}
use Rattle.sc_live_answers.specs.RestingPrefixes.{RestsAt}
use Rattle.sc_live_answers.specs.QuestionReceivers.{IsHinted}

-- the number is that of a node of the scenario
abbrev pub IsNodeOf : Scenario → ℕ → Type 0
IsNodeOf scenario who = (1 ≤ who) × (who ≤ scenario.nodes)

-- the mail goes to a node of the scenario, if it is an errand: mail of a transaction
abbrev pub GoesToNode : Scenario → Mail → Type 0
GoesToNode scenario mail = IsErrand mail → IsNodeOf scenario mail.to

-- the mail goes to a node of the scenario, if it is a Nack
abbrev pub RefusesToNode : Scenario → Mail → Type 0
RefusesToNode scenario mail = (group : Draw) (promised : Ballot) → mail.body ≡ Nack group promised → IsNodeOf scenario mail.to

-- in a journal whose rows come in time each Nack goes to a node of the scenario, since only nodes ask to promise or to accept
abbrev pub RefusalsGoToNodes : Type 0
RefusalsGoToNodes = (words : ℕ → ℕ → ℕ × ℕ) (scenario : Scenario) (rows : Rows) → AreInTime (players words (births as_nodes scenario)) rows → Each (RefusesToNode scenario) (mails rows)

-- after one row more of an order, its own row or a delivery, errands go to nodes of the scenario, if they did before the row
abbrev pub OrderErrandsGoToNodes : Type 0
OrderErrandsGoToNodes =
    (words : ℕ → ℕ → ℕ × ℕ) (scenario : Scenario) (journal quiet rows : Rows) (row : Row Mail OrderLine) (stage : Stage) → IsCalmJournal words scenario journal → IsPrefixOf journal quiet → IsPrefixOf journal (rows ++ row ∷ [])
    → IsAt stage (scene_at (births as_nodes scenario) (rows ++ row ∷ [])) → IsHinted scenario quiet (rows ++ row ∷ []) stage → Each (GoesToNode scenario) (mails rows) → Each (GoesToNode scenario) (mails (rows ++ row ∷ []))

-- where clients ask alone before and after a row, all errands still go to nodes of the scenario, since the row sends none
abbrev pub RequestsSendNoErrands : Type 0
RequestsSendNoErrands =
    (words : ℕ → ℕ → ℕ × ℕ) (scenario : Scenario) (first : Base) (others : List Base) (far sent : ℕ) (journal quiet after : Rows) (row : Row Mail OrderLine) → IsCalmJournal words scenario journal → scenario.groups ≡ first ∷ others
    → RestsAt words scenario first journal quiet → IsKnownPrefix words scenario journal quiet far → IsRequested words scenario first far sent quiet after → IsRequested words scenario first far sent quiet (after ++ row ∷ [])
    → Each (GoesToNode scenario) (mails (quiet ++ after)) → Each (GoesToNode scenario) (mails (quiet ++ (after ++ row ∷ [])))

-- errands that go to nodes of the scenario go to players
abbrev pub NodeErrandsReachPlayers : Type 0
NodeErrandsReachPlayers = (words : ℕ → ℕ → ℕ × ℕ) (scenario : Scenario) (sent : List Mail) → Each (GoesToNode scenario) sent → Each (GoesToActor words (births as_nodes scenario)) sent
