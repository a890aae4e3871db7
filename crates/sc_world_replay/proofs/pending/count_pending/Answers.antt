use Rattle.std.proofs.Common.{length, map, sym, ◌∙◌, ap}
use Rattle.std.proofs.Math.ListN.{length-map}
use Rattle.sc_actor.specs.System.{numbers_of}
use Rattle.sc_world_replay.proofs.KeptStage.{pending-all}
use Rattle.sc_world_replay.proofs.pending.count_pending.Goals as goal

pub returns : goal.returns
returns g c =
    let stage = c.args.stage.now in
    c.len.ensures
    ∙ stage.pending.ok.0
    ∙ sym (length-map stage.pending.items (λ copy. copy.number))
    ∙ ap (λ xs. length (map (λ copy. copy.number) xs)) c.requires.all_pending
    ∙ ap length (pending-all g.M.Parcel.receiver (numbers_of stage.seats.items) stage.rows)
