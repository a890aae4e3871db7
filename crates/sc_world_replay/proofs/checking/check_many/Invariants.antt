use Rattle.std.proofs.Common.{◌≡◌, ◌-◌, [], ◌∷◌, length, None, Some}
use Rattle.std.specs.Prelude.{slice_get}
use Rattle.sc_actor.specs.System.{numbers_of}
use Rattle.sc_world_replay.specs.Actions.{chosen_action}
use Rattle.sc_world_replay.specs.Moves.{StageGoes, many, rules_of}
use Rattle.sc_world_replay.specs.Checks.{IsTaking}
use Rattle.sc_world_replay.proofs.checking.check_many.Given as goal

abbrev pub invariant-loop-done : goal.invariant-loop-done
invariant-loop-done g l =
    StageGoes (rules_of g.A.Actor.table g.A.Mail.Parcel.receiver) l.initial.stage (many l.free l.most ∷ []) l.stage (many l.free (l.most - l.done) ∷ [])
    × IsTaking g.A.Mail.Parcel.receiver l.stage l.rows
    × (l.stage.skipped ≡ l.initial.stage.skipped)
    × (((row : _) → slice_get l.rows (length l.initial.stage.rows) ≡ Some row
    → chosen_action g.A.Mail.Parcel.receiver (numbers_of l.initial.stage.seats.items) l.initial.stage.rows l.free row.who ≡ None) → l.stage ≡ l.initial.stage)
