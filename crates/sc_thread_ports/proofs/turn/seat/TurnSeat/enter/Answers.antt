use Rattle.std.proofs.Common.{rules, ℕ, List, ◌∷◌, sym, ap, ◌∙◌, Option, Some}
use Rattle.atomic_table.specs.Table.{rest}
use Rattle.sc_thread_ports.proofs.turn.seat.TurnSeat.enter.Goals as goal

pub exchange-requires : goal.exchange-requires
exchange-requires g c = let got = c.acquire.ensures.got in (
  search rules,
  (Some got.value, got.slot ∙ ap (λ (l : List (ℕ × Option g.row.T.Denot)). (0, Some got.value) ∷ l) (sym (ap rest got.slot))),
)
