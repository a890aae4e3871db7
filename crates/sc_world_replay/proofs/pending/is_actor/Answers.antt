use Rattle.std.proofs.Common.{◌∙◌, sym, eqb}
use Rattle.sc_actor.proofs.Numbers.{list_any-map}
use Rattle.sc_world_replay.proofs.pending.is_actor.Goals as goal

pub returns : goal.returns
returns g c = c.has_seat.ensures ∙ sym (list_any-map (λ actor. eqb actor c.args.who) (λ seat. seat.who) c.args.seats.now)
