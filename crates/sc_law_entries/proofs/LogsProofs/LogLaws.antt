-- Laws that follow from lemmas of this part of the crate and of those that it stands on.
use Rattle.sc_law_entries.proofs.LogsProofs.SoundJournals.{journals_in_turn_are_sound as journals_in_turn_are_sound_by}
use Rattle.sc_law_entries.proofs.LogsProofs.OneMap.{allowed_entries_make_one_map}
use Rattle.sc_law_entries.specs.logs.LogDefinitions.{JournalsInTurnAreSound}

-- A journal whose rows decide in turn is sound, whatever its groups order, split and merge, where these hold beside: each group has one value per slot, each replica has executed a prefix of its group's log, each call was issued before the row that decides it, and each reply was decided before the row that takes it.
pub journals_in_turn_are_sound : JournalsInTurnAreSound
journals_in_turn_are_sound = journals_in_turn_are_sound_by allowed_entries_make_one_map
