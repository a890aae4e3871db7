use Rattle.std.proofs.Common.{refl, subst}
use Rattle.sc_world_replay.specs.Replays.{IsReplayed, IsBadRow, Leaves}
use Rattle.sc_texts.specs.chance.KeyStream.{two_words}
use Rattle.sc_meaning.specs.sound.Players.{as_nodes, system_of, schedule}
use Rattle.sc_world.proofs.Held.{holds}
use Rattle.sc_world.proofs.replaying.replay_rows.Goals as goal

pub invariant_of-result : goal.invariant_of-result
invariant_of-result c =
    let s = system_of as_nodes two_words c.args.scenario.now in
    let lines = schedule c.args.scenario.now in
    let leaves : Leaves s lines c.as_slice.result.now c.in-Lawful.left = subst (IsReplayed s lines c.as_slice.result.now) c.in-Lawful.is c.in_ok-verdict.ensures in
    let here : Leaves s lines c.args.rows.now c.in-Lawful.left = subst (λ rows. Leaves s lines rows c.in-Lawful.left) c.as_slice.ensures leaves in
    let sound = c.valid_journals_are_sound.ensures as_nodes refl two_words c.args.scenario.now c.requires.valid c.args.rows.now here.replayed.lawful in
    let refuses = c.valid_journals_refuse_with_cause.ensures as_nodes refl two_words c.args.scenario.now c.requires.valid c.args.rows.now here.replayed.lawful in
    holds c.args.scenario.now c.args.rows.now c.in_ok-parties-in-Lawful.parties c.in-Lawful.left sound refuses c.requires.few_rows c.requires.few_mails c.in_ok-parties-in-Lawful.ensures here

pub returns-in_ok-parties-in-Lawful : goal.returns-in_ok-parties-in-Lawful
returns-in_ok-parties-in-Lawful c =
    let s = system_of as_nodes two_words c.args.scenario.now in
    let lines = schedule c.args.scenario.now in
    let leaves : Leaves s lines c.as_slice.result.now c.in-Lawful.left = subst (IsReplayed s lines c.as_slice.result.now) c.in-Lawful.is c.in_ok-verdict.ensures in
    let here : Leaves s lines c.args.rows.now c.in-Lawful.left = subst (λ rows. Leaves s lines rows c.in-Lawful.left) c.as_slice.ensures leaves in
    record {
      lawful = here.replayed.lawful;
      sound = c.valid_journals_are_sound.ensures as_nodes refl two_words c.args.scenario.now c.requires.valid c.args.rows.now here.replayed.lawful;
      refuses = c.valid_journals_refuse_with_cause.ensures as_nodes refl two_words c.args.scenario.now c.requires.valid c.args.rows.now here.replayed.lawful;
      scenario_is = refl;
      rows_are = refl;
    }

pub returns-in-BadRow : goal.returns-in-BadRow
returns-in-BadRow c =
    let s = system_of as_nodes two_words c.args.scenario.now in
    let lines = schedule c.args.scenario.now in
    let bad : IsBadRow s lines c.as_slice.result.now c.in-BadRow.at = subst (IsReplayed s lines c.as_slice.result.now) c.in-BadRow.is c.in_ok-verdict.ensures in
    subst (λ rows. IsBadRow s lines rows c.in-BadRow.at) c.as_slice.ensures bad
