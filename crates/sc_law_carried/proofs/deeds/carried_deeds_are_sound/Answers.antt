use Rattle.sc_law_carried.proofs.DeedProofs.CarriedDeeds.{carried_are_lawful, carried_are_sound, rows_are_deeds}
use Rattle.sc_law_carried.proofs.deeds.carried_deeds_are_sound.Goals as goal

pub returns-clause-rows : goal.returns-clause-rows
returns-clause-rows c = rows_are_deeds

pub returns-clause-lawful : goal.returns-clause-lawful
returns-clause-lawful c = carried_are_lawful

pub returns-clause-sound : goal.returns-clause-sound
returns-clause-sound c = carried_are_sound
