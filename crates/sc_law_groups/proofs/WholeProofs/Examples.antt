-- The examples are read off texts, so their lawful journals are sound.
use Rattle.std.proofs.Common.{◌≡◌, ℕ, List, [], Some, inl, refl, sym, append-nil}
use Rattle.sc_actor.specs.Definitions.{no_words}
use Rattle.sc_meaning.specs.sound.SoundDefinitions.{Lawful, four, IsSound}
use Rattle.sc_scenario.specs.scenario.Definitions.{scenario_of}
use Rattle.sc_scenario.specs.declared.scenario.scenarios.Scenario.{Scenario}
use Rattle.sc_law_groups.specs.group.GroupDefinitions.{election_scenario, join_scenario}
use Rattle.sc_law_entries.specs.logs.LogDefinitions.{Rows}
use Rattle.sc_law_groups.specs.whole.WholeDefinitions.{split_scenario, election_text, join_text, two_text, split_text, two_scenario, ValidJournalsAreSound}

-- a lawful journal of a scenario that a text is
pub text_sound : ValidJournalsAreSound → (text : List ℕ) (scenario : Scenario) → scenario_of text ≡ Some scenario → (rows : Rows) → Lawful four no_words scenario rows → IsSound four scenario rows []
text_sound law text scenario read rows lawful = law four refl no_words scenario (inl (record { text = text; read = read })) rows lawful rows [] (sym (append-nil rows))

-- the scenario of the election
pub election_is_read : scenario_of election_text ≡ Some election_scenario
election_is_read = refl

-- the scenario of the join
pub join_is_read : scenario_of join_text ≡ Some join_scenario
join_is_read = refl

-- the scenario of two groups
pub two_are_read : scenario_of two_text ≡ Some two_scenario
two_are_read = refl

-- the scenario of the split
pub split_is_read : scenario_of split_text ≡ Some split_scenario
split_is_read = refl
