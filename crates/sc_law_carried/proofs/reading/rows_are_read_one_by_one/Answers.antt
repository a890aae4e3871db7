use Rattle.sc_law_carried.proofs.ReadingProofs.FormedScenarios.{read_scenarios_are_formed}
use Rattle.sc_law_carried.proofs.ReadingProofs.LawfulRows.{lawful_rows_are_steps, no_rows_are_lawful, steps_are_lawful}
use Rattle.sc_law_carried.proofs.reading.rows_are_read_one_by_one.Goals as goal

pub returns-clause-none : goal.returns-clause-none
returns-clause-none c = no_rows_are_lawful

pub returns-clause-steps : goal.returns-clause-steps
returns-clause-steps c = steps_are_lawful

pub returns-clause-last : goal.returns-clause-last
returns-clause-last c = lawful_rows_are_steps

pub returns-clause-formed : goal.returns-clause-formed
returns-clause-formed c = read_scenarios_are_formed
