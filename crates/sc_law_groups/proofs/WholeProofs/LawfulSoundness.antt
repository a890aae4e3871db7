-- The laws of this part of the crate: lawful journals decide in turn, so the law of journals makes them sound.
use Rattle.std.proofs.Common.{◌≡◌, ◌∷◌, ◌++◌, ◌∙◌, ap, append_assoc}
use Rattle.sc_node_table.specs.Values.{OrderLine, Mail, Row}
use Rattle.sc_actor.proofs.Lemmas.{lawful-prefix}
use Rattle.sc_meaning.specs.sound.SoundDefinitions.{Ahead, system_of, schedule}
use Rattle.sc_scenario.specs.declared.scenario.scenarios.Scenario.{Scenario}
use Rattle.sc_law_entries.specs.ring.RingDefinitions.{Sources}
use Rattle.sc_law_entries.specs.logs.LogDefinitions.{Rows, JournalsInTurnAreSound}
use Rattle.sc_law_groups.specs.whole.WholeDefinitions.{LawfulJournalsDecideInTurn, LawfulJournalsHoldBeside, LawfulJournalsAreSound, OrdersAreAllowed}
use Rattle.sc_law_groups.proofs.WholeProofs.LawfulJournals.{holds, beside}

pub lawful_journals_decide_in_turn : LawfulJournalsDecideInTurn
lawful_journals_decide_in_turn sources ahead words scenario route b rows orders lawful =
    (holds sources ahead words scenario route b.place b.seats b.asks b.apart b.fresh rows orders lawful).turn

pub lawful_journals_hold_beside : LawfulJournalsHoldBeside
lawful_journals_hold_beside sources ahead words scenario route b rows orders lawful =
    beside sources ahead words scenario route b.place b.seats b.asks b.apart b.fresh rows orders lawful

-- what is asked of a journal's orders is asked of those of its prefix
pub fewer_orders : (sources : Sources) (ahead : Ahead) (scenario : Scenario) (rows more : Rows) → OrdersAreAllowed sources ahead scenario (rows ++ more) → OrdersAreAllowed sources ahead scenario rows
fewer_orders sources ahead scenario rows more orders = record {
  told = λ before row later e. orders.told before row (later ++ more) (longer before row later e);
  wished = λ before row later e. orders.wished before row (later ++ more) (longer before row later e);
}
  where
    longer : (before : Rows) (row : Row Mail OrderLine) (later : Rows) → rows ≡ before ++ row ∷ later → rows ++ more ≡ before ++ row ∷ (later ++ more)
    longer before row later e = ap (λ xs. xs ++ more) e ∙ append_assoc before (row ∷ later) more

pub lawful_journals_are_sound : JournalsInTurnAreSound → LawfulJournalsAreSound
lawful_journals_are_sound law sources ahead words scenario route b bare rows more orders lawful =
    let first = lawful-prefix (system_of ahead words scenario) (schedule scenario) rows more lawful in
    law sources ahead scenario b.place bare rows more (lawful_journals_decide_in_turn sources ahead words scenario route b (rows ++ more) orders lawful)
    (lawful_journals_hold_beside sources ahead words scenario route b rows (fewer_orders sources ahead scenario rows more orders) first)
