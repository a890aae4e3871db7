-- Laws that follow from lemmas of this part of the crate and of those that it stands on.
use Rattle.sc_law_groups.proofs.WholeProofs.LawfulSoundness.{lawful_journals_are_sound as lawful_journals_are_sound_by, lawful_journals_decide_in_turn}
use Rattle.sc_law_entries.proofs.LogsProofs.LogLemmas.{journals_in_turn_are_sound, entries_are_allowed_logs_logs}
use Rattle.sc_law_groups.specs.whole.WholeDefinitions.{LawfulJournalsAreSound, ValidJournalsAreSound, ValidEntriesAreLogs, WellFormedJournalsAreSound}
use Rattle.sc_law_groups.proofs.WholeProofs.Valid.{formed_sound, valid_sound, valid_logs}
use Rattle.sc_scenario.proofs.ScenarioProofs.Lemmas.{valid_scenarios_are_bounded}
use Rattle.sc_law_groups.proofs.WholeProofs.StartLaws.{valid_scenarios_begin_well}
use Rattle.sc_law_entries.proofs.NamesProofs.NameLemmas.{orders_are_allowed_allowed, orders_are_allowed_wishes, orders_are_allowed_positions, names_have_one_owner_others}

-- Each prefix of a lawful journal is sound, whatever its groups order.
pub lawful_journals_are_sound : LawfulJournalsAreSound
lawful_journals_are_sound = lawful_journals_are_sound_by journals_in_turn_are_sound

-- Each prefix of a lawful journal of a well formed scenario is sound.
pub well_formed_journals_are_sound : WellFormedJournalsAreSound
well_formed_journals_are_sound = formed_sound orders_are_allowed_allowed orders_are_allowed_wishes orders_are_allowed_positions names_have_one_owner_others lawful_journals_are_sound

-- Each prefix of a lawful journal of a valid scenario is sound.
pub valid_journals_are_sound : ValidJournalsAreSound
valid_journals_are_sound = valid_sound valid_scenarios_are_bounded well_formed_journals_are_sound

-- The entries of such a journal, row by row, are the logs of its groups, and make of each the state after its log.
pub valid_entries_are_logs : ValidEntriesAreLogs
valid_entries_are_logs = valid_logs valid_scenarios_are_bounded valid_scenarios_begin_well orders_are_allowed_allowed orders_are_allowed_wishes orders_are_allowed_positions names_have_one_owner_others lawful_journals_decide_in_turn entries_are_allowed_logs_logs
