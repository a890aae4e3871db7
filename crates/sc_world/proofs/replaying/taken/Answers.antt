use Rattle.std.proofs.Common.{◌∙◌, List, ap, subst}
use Rattle.std.proofs.lemmas.Result.{IfOk-weaker}
use Rattle.sc_words.specs.declared.commands.orders.OrderLine.{OrderLine}
use Rattle.sc_actor.specs.declared.actors.Seat.{Seat}
use Rattle.sc_actor.specs.declared.schedules.Line.{Line}
use Rattle.sc_actor.specs.System.{are_apart, system}
use Rattle.sc_texts.specs.chance.KeyStream.{two_words}
use Rattle.sc_world_replay.specs.Replays.{IsReplayed}
use Rattle.sc_meaning.specs.sound.Players.{Player, player_table, receiver_of, schedule}
use Rattle.sc_world.proofs.replaying.taken.Goals as goal

pub births-requires-clause-ordered : goal.births-requires-clause-ordered
births-requires-clause-ordered c = (c.valid_scenarios_can_play.ensures c.args.scenario.now c.requires.valid).ordered

pub births-requires-clause-few : goal.births-requires-clause-few
births-requires-clause-few c = (c.valid_scenarios_can_play.ensures c.args.scenario.now c.requires.valid).few

pub replay-requires-clause-apart : goal.replay-requires-clause-apart
replay-requires-clause-apart c = λ _. ap are_apart c.in_ok-seats.ensures ∙ (c.valid_scenarios_can_play.ensures c.args.scenario.now c.requires.valid).apart

-- the seats are the births, and the lines the schedule
pub returns : goal.returns
returns c =
    IfOk-weaker c.replay.result _ _
    (λ verdict h.
    subst (λ (seats : List (Seat Player)). IsReplayed (system player_table receiver_of two_words seats) (schedule c.args.scenario.now) c.args.rows.now verdict) c.in_ok-seats.ensures
    (subst (λ (lines : List (Line OrderLine)). IsReplayed (system player_table receiver_of two_words c.in_ok-seats.seats.items) lines c.args.rows.now verdict) (c.as_slice.ensures.value ∙ c.in_ok-lines.ensures) h))
    c.replay.ensures.replayed
