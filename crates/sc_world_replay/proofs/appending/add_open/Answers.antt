use Rattle.std.proofs.Common.{◌≡◌, ◌+◌, ◌++◌, [], ◌∷◌, cond, true, false, ◌∙◌, ap, sym, append-nil}
use Rattle.sc_actor.specs.System.{numbers_of}
use Rattle.sc_world_replay.specs.Opens.{copy_of, runs}
use Rattle.sc_world_replay.proofs.KeptStage.{open_next}
use Rattle.sc_world_replay.proofs.appending.add_open.Goals as goal
use Rattle.sc_world_replay.proofs.appending.add_open.Goals.{then-runs+in_ok-push, else-runs}

pub loop-i-preserved : goal.loop-i-preserved
loop-i-preserved g c =
    let receiver = g.M.Parcel.receiver in
    let test = runs (numbers_of c.args.seats.now) c.args.crashed.now in
    let mail = c.index-sent-i.result in
    let found = c.loop-i.pending.items in
    let here = copy_of (c.args.first + c.loop-i.i) (receiver mail) in
    let next : c.if-runs.pending.items ≡ found ++ cond (test (receiver mail)) (here ∷ []) [] =
    elim c.if-runs.branch [
      | then-runs+in_ok-push w ↦ (
          let yes : test (receiver mail) ≡ true = ap test (sym c.to-to.ensures) ∙ sym c.runs.ensures ∙ w.if-runs.true in
          ap (λ v. v.items) w.pending-is ∙ w.in_ok-push.ensures.items ∙ ap (λ to. found ++ copy_of (c.args.first + c.loop-i.i) to ∷ []) c.to-to.ensures ∙ ap (λ b. found ++ cond b (here ∷ []) []) (sym yes)
          )
      | else-runs w ↦ (
          let no : test (receiver mail) ≡ false = ap test (sym c.to-to.ensures) ∙ sym c.runs.ensures ∙ w.if-runs.false in
          ap (λ v. v.items) w.pending-is ∙ sym (append-nil found) ∙ ap (λ b. found ++ cond b (here ∷ []) []) (sym no)
          )
    ] in
    open_next receiver test found c.if-runs.pending.items _ c.args.first c.loop-i.i c.args.sent.now mail c.loop-i-test.true c.index-sent-i.is next c.loop-i.invariant
