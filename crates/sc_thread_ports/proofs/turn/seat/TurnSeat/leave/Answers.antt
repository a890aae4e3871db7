use Rattle.std.proofs.Common.{rules, Bool, [], ◌∷◌, ap, ◌∙◌, if◌then◌else◌, None}
use Rattle.sc_thread_ports.proofs.TurnProofs.Leaving.{frees}
use Rattle.sc_thread_ports.proofs.turn.seat.TurnSeat.leave.Goals as goal

pub store-requires : goal.store-requires
store-requires g c = (
  search rules,
  search rules,
  frees g.T.Listed.entries _ _ c.args.self.now.place.me c.exchange.new.seat.me _ c.args.value (search rules) c.requires.turn
      (c.args.self.now.carries ∙ ap (λ (b : Bool). if b then (0, None) ∷ [] else []) c.requires.turn) c.exchange.ensures.3 c.count_row.ensures.counted,
)
