use Rattle.std.proofs.Common.{ℕ, List, [], ◌∷◌, ◌++◌, ap, ◌∙◌, inr}
use Rattle.sc_thread_ports.specs.turn.Seats.{known}
use Rattle.sc_thread_ports.proofs.TurnProofs.Leaving.{one_row_more}
use Rattle.sc_tests_threads.proofs.turn_tests.add.Goals as goal

pub leave-requires-clause-list : goal.leave-requires-clause-list
leave-requires-clause-list g c =
    one_row_more (known c.enter-log.new.self) c.enter-log.result.entries.items c.push_reserved.new.self.items c.args.value c.args.who (ap (λ v. v.seen) c.enter-log.ensures.view)
    (ap (λ v. v.who) c.enter-log.ensures.view ∙ c.requires.0) (c.push_reserved.ensures.items ∙ ap (λ (l : List (ℕ × ℕ)). l ++ (c.args.value, c.args.who) ∷ []) c.reserve.ensures.items)
