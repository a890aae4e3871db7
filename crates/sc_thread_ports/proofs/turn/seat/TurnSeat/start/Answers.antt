use Rattle.std.proofs.Common.{◌≡◌, [], ◌∷◌, ◌++◌, sym, ap, subst, ◌∙◌, Some}
use Rattle.atomic_table.specs.Table.{opening}
use Rattle.sc_thread_ports.specs.turn.TurnDefinitions.{opener, Kept}
use Rattle.sc_thread_ports.proofs.TurnProofs.KeptTurnRule.{opens}
use Rattle.sc_thread_ports.proofs.turn.seat.TurnSeat.start.Goals as goal

pub new-requires : goal.new-requires
new-requires g c = let items : c.push.new.self.items ≡ Some c.args.value ∷ [] = c.in_ok-push.ensures.items ∙ ap (λ l. l ++ Some c.args.value ∷ []) c.new-slots.ensures.items in
    subst (λ l. Kept g.T.Listed.entries (opening (0 ∷ 0 ∷ []) l opener)) (sym items) (opens g.T.Listed.entries c.args.value c.requires)
