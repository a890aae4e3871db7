use Rattle.std.proofs.Common.{◌≡◌, ◌+◌, ◌-◌, [], ◌∷◌, refl, sym, ◌∙◌, arith}
use Rattle.std.proofs.lemmas.Bool.{MatchBool-at_true, MatchBool-at_false}
use Rattle.sc_world_replay.specs.Checks.{DidWithRow, Misses}
use Rattle.sc_world_replay.specs.Moves.{rules_of, many}
use Rattle.sc_world_replay.proofs.Checks.{chooses_none, room_mails, none_if, next_row, taking_next, taking_same, Ends-many, Ends-then, Breaks-many, Breaks-none, Breaks-then, StageGoes-chosen, loud_off, quiet_off}
use Rattle.sc_world_replay.proofs.ActionLemmas.{quiet_is}
use Rattle.sc_world_replay.proofs.Steps.{StageGoes-quiet, StageGoes-close, StageGoes-then, StageGoes-count}
use Rattle.sc_world_replay.proofs.checking.check_many.Goals as goal

pub returns-then-is_quiet-clause-checked : goal.returns-then-is_quiet-clause-checked
returns-then-is_quiet-clause-checked g c =
    let quiet = quiet_is {O = _} g.A.Mail.Parcel.receiver c.loop-done.stage.seats.items c.loop-done.stage.rows in
    let r = rules_of g.A.Actor.table g.A.Mail.Parcel.receiver in (
      StageGoes-then r c.args.stage.now c.loop-done.stage c.loop-done.stage (many c.args.free c.args.most ∷ []) (many c.args.free (c.args.most - c.loop-done.done) ∷ []) [] c.loop-done.invariant.0
          (StageGoes-quiet r c.loop-done.stage c.loop-done.stage c.args.free (c.args.most - c.loop-done.done) (none_if _ (sym (c.is_quiet.ensures ∙ quiet) ∙ c.if-is_quiet.true)) (record { rows = refl; seats = refl }) refl refl),
      c.loop-done.invariant.1,
    )

pub returns-then-at-rows-clause-checked : goal.returns-then-at-rows-clause-checked
returns-then-at-rows-clause-checked g c =
    let quiet = quiet_is {O = _} g.A.Mail.Parcel.receiver c.loop-done.stage.seats.items c.loop-done.stage.rows in
    let r = rules_of g.A.Actor.table g.A.Mail.Parcel.receiver in (
      Ends-then r c.args.stage.now c.loop-done.stage c.loop-done.stage (many c.args.free c.args.most ∷ []) (many c.args.free (c.args.most - c.loop-done.done) ∷ []) c.args.rows.now c.loop-done.invariant.0
          (Ends-many r c.loop-done.stage c.loop-done.stage c.args.rows.now c.args.free (c.args.most - c.loop-done.done) (omega arith) (sym (c.is_quiet.ensures ∙ quiet) ∙ c.if-is_quiet.false) c.loop-done.invariant.1.follows (omega (arith, c.len-at.ensures, c.if-at-rows.true))),
      c.loop-done.invariant.1,
    )

pub returns-in_default-clause-checked : goal.returns-in_default-clause-checked
returns-in_default-clause-checked g c =
    let quiet = quiet_is {O = _} g.A.Mail.Parcel.receiver c.loop-done.stage.seats.items c.loop-done.stage.rows in
    let r = rules_of g.A.Actor.table g.A.Mail.Parcel.receiver in
    let next = next_row c.loop-done.stage.rows c.args.rows.now c.index-rows-at.result c.len-at.result c.len-at.ensures c.if-at-rows.false c.index-rows-at.is in
    Breaks-then r c.args.stage.now c.loop-done.stage c.loop-done.stage (many c.args.free c.args.most ∷ []) (many c.args.free (c.args.most - c.loop-done.done) ∷ []) c.args.rows.now c.loop-done.invariant.0
    (Breaks-none r c.loop-done.stage c.loop-done.stage c.args.rows.now c.args.free (c.args.most - c.loop-done.done) c.index-rows-at.result (sym c.in_default.ensures.action) (omega arith) (sym (c.is_quiet.ensures ∙ quiet) ∙ c.if-is_quiet.false) c.loop-done.invariant.1.follows next.more next.row_is)

pub take_row-requires-clause-mails : goal.take_row-requires-clause-mails
take_row-requires-clause-mails g c = λ κs within.
    let next = next_row c.loop-done.stage.rows c.args.rows.now c.index-rows-at.result c.len-at.result c.len-at.ensures c.if-at-rows.false c.index-rows-at.is in
    room_mails c.loop-done.stage.rows c.args.rows.now c.index-rows-at.result c.loop-done.invariant.1.follows next.more next.row_is c.requires.taking.few_mails_in_all

pub returns-then-not-branch-clause-checked : goal.returns-then-not-branch-clause-checked
returns-then-not-branch-clause-checked g c =
    let quiet = quiet_is {O = _} g.A.Mail.Parcel.receiver c.loop-done.stage.seats.items c.loop-done.stage.rows in
    let r = rules_of g.A.Actor.table g.A.Mail.Parcel.receiver in
    let next = next_row c.loop-done.stage.rows c.args.rows.now c.index-rows-at.result c.len-at.result c.len-at.ensures c.if-at-rows.false c.index-rows-at.is in
    let misses = MatchBool-at_false (DidWithRow r c.loop-done.stage c.take_row.new.stage c.in-Some.action c.index-rows-at.result) (Misses r c.loop-done.stage c.take_row.new.stage c.in-Some.action c.index-rows-at.result) c.if-not-branch.true c.in_ok-take_row.ensures.took in
    Breaks-then r c.args.stage.now c.loop-done.stage c.take_row.new.stage (many c.args.free c.args.most ∷ []) (many c.args.free (c.args.most - c.loop-done.done) ∷ []) c.args.rows.now c.loop-done.invariant.0
    (Breaks-many r c.loop-done.stage c.take_row.new.stage c.args.rows.now c.args.free (c.args.most - c.loop-done.done) c.in-Some.action c.index-rows-at.result (sym c.in-Some.ensures.action) c.in-Some.ensures.can (omega arith) (sym (c.is_quiet.ensures ∙ quiet) ∙ c.if-is_quiet.false) misses c.loop-done.invariant.1.follows next.more next.row_is)

pub loop-done-preserved : goal.loop-done-preserved
loop-done-preserved g c =
    let quiet = quiet_is {O = _} g.A.Mail.Parcel.receiver c.loop-done.stage.seats.items c.loop-done.stage.rows in
    let r = rules_of g.A.Actor.table g.A.Mail.Parcel.receiver in
    let next = next_row c.loop-done.stage.rows c.args.rows.now c.index-rows-at.result c.len-at.result c.len-at.ensures c.if-at-rows.false c.index-rows-at.is in
    let took = MatchBool-at_true (DidWithRow r c.loop-done.stage c.take_row.new.stage c.in-Some.action c.index-rows-at.result) (Misses r c.loop-done.stage c.take_row.new.stage c.in-Some.action c.index-rows-at.result) c.if-not-branch.false c.in_ok-take_row.ensures.took in
    let less : c.args.most - c.loop-done.done - 1 ≡ c.args.most - (c.loop-done.done + 1) = omega arith in (
      StageGoes-then r c.args.stage.now c.loop-done.stage c.take_row.new.stage (many c.args.free c.args.most ∷ []) (many c.args.free (c.args.most - c.loop-done.done) ∷ []) (many c.args.free (c.args.most - (c.loop-done.done + 1)) ∷ []) c.loop-done.invariant.0
          (StageGoes-count r c.loop-done.stage c.take_row.new.stage c.args.free (c.args.most - c.loop-done.done) (c.args.most - c.loop-done.done - 1) (c.args.most - (c.loop-done.done + 1)) less
          (StageGoes-chosen r c.loop-done.stage c.take_row.new.stage c.args.rows.now c.args.free (c.args.most - c.loop-done.done) c.in-Some.action c.index-rows-at.result (sym c.in-Some.ensures.action) c.in-Some.ensures.can (omega arith) (sym (c.is_quiet.ensures ∙ quiet) ∙ c.if-is_quiet.false) took)),
      taking_next r c.loop-done.stage c.take_row.new.stage c.in-Some.action c.index-rows-at.result c.args.rows.now c.loop-done.invariant.1 next.more next.row_is took,
      c.in_ok-take_row.ensures.skipped ∙ c.loop-done.invariant.2,
      λ never.
          absurd (chooses_none g.A.Mail.Parcel.receiver c.args.stage.now c.loop-done.stage c.args.rows.now c.args.free c.index-rows-at.result c.in-Some.action never (c.loop-done.invariant.3 never) next c.in-Some.ensures.action),
    )

pub returns-then-not-is_quiet-clause-checked : goal.returns-then-not-is_quiet-clause-checked
returns-then-not-is_quiet-clause-checked g c =
    let quiet = quiet_is {O = _} g.A.Mail.Parcel.receiver c.loop-done.stage.seats.items c.loop-done.stage.rows in
    let r = rules_of g.A.Actor.table g.A.Mail.Parcel.receiver in (
      StageGoes-then r c.args.stage.now c.loop-done.stage _ (many c.args.free c.args.most ∷ []) (many c.args.free 0 ∷ []) []
          (StageGoes-count r c.args.stage.now c.loop-done.stage c.args.free c.args.most (c.args.most - c.loop-done.done) 0 (omega arith) c.loop-done.invariant.0)
          (StageGoes-close r c.loop-done.stage _ c.args.free (record { rows = refl; seats = refl }) refl (loud_off c.loop-done.stage.unsettled _ (sym (c.is_quiet-2.ensures ∙ quiet) ∙ c.if-not-is_quiet.true))),
      taking_same g.A.Mail.Parcel.receiver c.loop-done.stage _ c.args.rows.now (record { rows = refl; seats = refl; mails = refl; pending = refl; started = refl; crashed = refl }) c.loop-done.invariant.1,
    )

pub returns-else-not-is_quiet-clause-checked : goal.returns-else-not-is_quiet-clause-checked
returns-else-not-is_quiet-clause-checked g c =
    let quiet = quiet_is {O = _} g.A.Mail.Parcel.receiver c.loop-done.stage.seats.items c.loop-done.stage.rows in
    let r = rules_of g.A.Actor.table g.A.Mail.Parcel.receiver in (
      StageGoes-then r c.args.stage.now c.loop-done.stage c.loop-done.stage (many c.args.free c.args.most ∷ []) (many c.args.free 0 ∷ []) []
          (StageGoes-count r c.args.stage.now c.loop-done.stage c.args.free c.args.most (c.args.most - c.loop-done.done) 0 (omega arith) c.loop-done.invariant.0)
          (StageGoes-close r c.loop-done.stage c.loop-done.stage c.args.free (record { rows = refl; seats = refl }) refl (quiet_off c.loop-done.stage.unsettled _ (sym (c.is_quiet-2.ensures ∙ quiet) ∙ c.if-not-is_quiet.false))),
      c.loop-done.invariant.1,
    )

pub returns-in_err-take_row-clause-none : goal.returns-in_err-take_row-clause-none
returns-in_err-take_row-clause-none g c = λ never.
    let next = next_row c.loop-done.stage.rows c.args.rows.now c.index-rows-at.result c.len-at.result c.len-at.ensures c.if-at-rows.false c.index-rows-at.is in
    absurd (chooses_none g.A.Mail.Parcel.receiver c.args.stage.now c.loop-done.stage c.args.rows.now c.args.free c.index-rows-at.result c.in-Some.action never (c.loop-done.invariant.3 never) next c.in-Some.ensures.action)
