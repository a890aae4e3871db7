-- Lawful journals of well formed scenarios are sound, and the entries of those of valid scenarios are logs: they begin well, and what their orders queue is allowed.
use Rattle.std.proofs.Common.{◌++◌, subst}
use Rattle.sc_meaning.specs.sound.SoundDefinitions.{Lawful, route_of}
use Rattle.sc_scenario.specs.scenario.Definitions.{ValidScenariosAreBounded}
use Rattle.sc_law_entries.specs.names.NameDefinitions.{OtherNamesAreFree, TakenOrdersAreAllowed, TakenWishesAreAllowed, WishesAreAtPositions, owner_in}
use Rattle.sc_law_groups.specs.whole.WholeDefinitions.{section_op, ValidScenariosBeginWell, LawfulJournalsAreSound, LawfulJournalsDecideInTurn, ValidEntriesAreLogs, ValidJournalsAreSound, WellFormedJournalsAreSound}
use Rattle.sc_law_entries.specs.logs.LogDefinitions.{EntriesAreLogs}
use Rattle.sc_law_groups.proofs.WholeProofs.Scheduled.{formed_orders_allowed, orders_allowed}
use Rattle.sc_law_groups.proofs.WholeProofs.StartValid.{bounded_is_formed, formed_ready}

-- each prefix of a lawful journal of a well formed scenario is sound
pub formed_sound : TakenOrdersAreAllowed → TakenWishesAreAllowed → WishesAreAtPositions → OtherNamesAreFree → LawfulJournalsAreSound → WellFormedJournalsAreSound
formed_sound allowed wishes positions free law ahead open_slots words scenario formed journal lawful rows more fact =
    let all = subst (Lawful ahead words scenario) fact lawful in
    let owner = owner_in ahead scenario (rows ++ more) in
    let ready = formed_ready owner (free ahead scenario (rows ++ more)) ahead open_slots scenario formed in
    law (record { owner = owner; request = section_op scenario }) ahead words scenario (route_of ready.first) ready.well ready.bare rows more
    (formed_orders_allowed ahead words scenario formed allowed wishes positions (rows ++ more) all) all

-- so is that of a valid one
pub valid_sound : ValidScenariosAreBounded → WellFormedJournalsAreSound → ValidJournalsAreSound
valid_sound bounded law ahead open_slots words scenario valid = law ahead open_slots words scenario (bounded_is_formed scenario (bounded scenario valid))

pub valid_logs : ValidScenariosAreBounded → ValidScenariosBeginWell → TakenOrdersAreAllowed → TakenWishesAreAllowed → WishesAreAtPositions → OtherNamesAreFree → LawfulJournalsDecideInTurn → EntriesAreLogs → ValidEntriesAreLogs
valid_logs bounded begin allowed wishes positions free turn logs ahead open_slots words scenario valid journal lawful =
    let owner = owner_in ahead scenario journal in
    let ready = begin owner (free ahead scenario journal) ahead open_slots scenario valid in
    let orders = orders_allowed ahead words scenario (bounded scenario valid) allowed wishes positions journal lawful in
    logs (record { owner = owner; request = section_op scenario }) ahead scenario.groups ready.well.place journal
    (turn (record { owner = owner; request = section_op scenario }) ahead words scenario (route_of ready.first) ready.well journal orders lawful)
