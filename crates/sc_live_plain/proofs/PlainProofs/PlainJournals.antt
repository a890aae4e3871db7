-- Every lawful journal of a plain scenario is a plain journal.
use Rattle.std.proofs.Common.{ℕ, ◌+◌, ◌*◌, ◌≤◌, List, [], ◌∷◌}
use Rattle.sc_base.specs.Definitions.{Each}
use Rattle.sc_node_table.specs.Values.{OrderLine, Line}
use Rattle.sc_actor.specs.Definitions.{IsLawful}
use Rattle.sc_actor.proofs.Lemmas.{lawful-prefix}
use Rattle.sc_node_table.specs.NodeDefinitions.{last_slot}
use Rattle.sc_scenario.specs.declared.scenario.scenarios.Scenario.{Scenario}
use Rattle.sc_meaning.specs.sound.SoundDefinitions.{system_of, as_nodes}
use Rattle.sc_live_orderly.specs.OrderlyDefinitions.{IsPlainLine, owed_at_birth}
use Rattle.sc_live_orderly.proofs.OrderlyLemmas.{orderly, by_rows, tidy}
use Rattle.sc_live_plain.specs.PlainDefinitions.{IsLinkedSetting}
use Rattle.sc_live_plain.proofs.PlainProofs.PlainBeginnings.{IsStage}
use Rattle.sc_live_plain.proofs.PlainProofs.PlainInduction.{owing_of, IsPlainJournal}
use Rattle.sc_live_plain.proofs.PlainProofs.PlainRows.{plain_row}
use Rattle.sc_live_plain.proofs.PlainProofs.PlainSetting.{plain_setting}
use Rattle.sc_live_plain.proofs.PlainRowsProofs.RowViews.{Journal}

pub plain_journal : (words : ℕ → ℕ → ℕ × ℕ) (scenario : Scenario) (stage : IsStage scenario) → IsLinkedSetting (plain_setting scenario) → 4 * owed_at_birth (system_of as_nodes words scenario) (owing_of scenario) + 16 ≤ last_slot
    → (lines : List (Line OrderLine)) → Each IsPlainLine lines → IsPlainJournal words scenario stage [] → (journal : Journal) → IsLawful (system_of as_nodes words scenario) lines journal → IsPlainJournal words scenario stage journal
plain_journal words scenario stage linked few lines plain birth journal lawful =
    let sys = system_of as_nodes words scenario in
    by_rows sys lines (IsPlainJournal words scenario stage) birth
    (λ rows row l j. plain_row words scenario stage linked few rows (tidy sys lines rows plain (lawful-prefix sys lines rows (row ∷ []) l)) j row (orderly sys lines rows row plain l))
    journal lawful
