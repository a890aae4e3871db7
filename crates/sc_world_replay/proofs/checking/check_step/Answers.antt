use Rattle.std.proofs.Common.{◌%◌, arith, sym, ◌∙◌}
use Rattle.std.proofs.lemmas.Bool.{MatchBool-at_true, MatchBool-at_false}
use Rattle.sc_world_replay.specs.Checks.{DidWithRow, Misses}
use Rattle.sc_world_replay.specs.Moves.{rules_of}
use Rattle.sc_world_replay.proofs.Checks.{room_mails, taking_next, next_row}
use Rattle.sc_world_replay.proofs.StormSteps.{storm_action-can, StageGoes-pass, StageGoes-step, Ends-step, Breaks-step}
use Rattle.sc_world_replay.proofs.checking.check_step.Goals as goal

pub returns-in_default-clause-checked : goal.returns-in_default-clause-checked
returns-in_default-clause-checked g c =
    let r = rules_of g.A.Actor.table g.A.Mail.Parcel.receiver in (
      StageGoes-pass r c.args.stage.now c.args.stage.now c.args.rows.now c.args.words (sym c.storm_action.ensures ∙ c.in_default.is),
      c.requires.taking,
    )

pub take_row-requires-clause-can : goal.take_row-requires-clause-can
take_row-requires-clause-can g c = λ κs within.
    storm_action-can g.A.Mail.Parcel.receiver c.args.stage.now.seats.items c.args.stage.now.rows (c.args.words.0 % 16) c.args.words.1 c.in-Some.action (sym c.storm_action.ensures ∙ c.in-Some.is)

pub take_row-requires-clause-mails : goal.take_row-requires-clause-mails
take_row-requires-clause-mails g c = λ κs within.
    let next = next_row c.args.stage.now.rows c.args.rows.now c.index-rows-at.result c.len-at.result c.len-at.ensures c.if-at-rows.false c.index-rows-at.is in
    room_mails c.args.stage.now.rows c.args.rows.now c.index-rows-at.result c.requires.taking.follows next.more next.row_is c.requires.taking.few_mails_in_all

pub returns-then-branch-clause-checked : goal.returns-then-branch-clause-checked
returns-then-branch-clause-checked g c =
    let r = rules_of g.A.Actor.table g.A.Mail.Parcel.receiver in
    let next = next_row c.args.stage.now.rows c.args.rows.now c.index-rows-at.result c.len-at.result c.len-at.ensures c.if-at-rows.false c.index-rows-at.is in
    let took = MatchBool-at_true (DidWithRow r c.args.stage.now c.take_row.new.stage c.in-Some.action c.index-rows-at.result) (Misses r c.args.stage.now c.take_row.new.stage c.in-Some.action c.index-rows-at.result) c.if-branch.true c.in_ok-take_row.ensures.took in (
      StageGoes-step r c.args.stage.now c.take_row.new.stage c.args.rows.now c.args.words c.in-Some.action (sym c.storm_action.ensures ∙ c.in-Some.is) took.did,
      taking_next r c.args.stage.now c.take_row.new.stage c.in-Some.action c.index-rows-at.result c.args.rows.now c.requires.taking next.more next.row_is took,
    )

pub returns-else-branch-clause-checked : goal.returns-else-branch-clause-checked
returns-else-branch-clause-checked g c =
    let r = rules_of g.A.Actor.table g.A.Mail.Parcel.receiver in
    let next = next_row c.args.stage.now.rows c.args.rows.now c.index-rows-at.result c.len-at.result c.len-at.ensures c.if-at-rows.false c.index-rows-at.is in
    let misses = MatchBool-at_false (DidWithRow r c.args.stage.now c.take_row.new.stage c.in-Some.action c.index-rows-at.result) (Misses r c.args.stage.now c.take_row.new.stage c.in-Some.action c.index-rows-at.result) c.if-branch.false c.in_ok-take_row.ensures.took in
    Breaks-step r c.args.stage.now c.take_row.new.stage c.args.rows.now c.args.words c.in-Some.action (sym c.storm_action.ensures ∙ c.in-Some.is) c.index-rows-at.result misses c.requires.taking.follows next.more next.row_is

pub returns-then-at-rows-clause-checked : goal.returns-then-at-rows-clause-checked
returns-then-at-rows-clause-checked g c =
    let r = rules_of g.A.Actor.table g.A.Mail.Parcel.receiver in (
      Ends-step r c.args.stage.now c.args.stage.now c.args.rows.now c.args.words c.in-Some.action (sym c.storm_action.ensures ∙ c.in-Some.is) c.requires.taking.follows (omega (arith, c.len-at.ensures, c.if-at-rows.true)),
      c.requires.taking,
    )
