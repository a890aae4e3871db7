use Rattle.std.proofs.Common.{ap, ◌∙◌}
use Rattle.std.proofs.Math.Seq.{map-set_same}
use Rattle.sc_tests_threads.proofs.players.go.Goals as goal

pub returns-then-place-len-clause-numbers : goal.returns-then-place-len-clause-numbers
returns-then-place-len-clause-numbers g c =
    map-set_same (λ s. s.port.who) c.args.shells.now.items c.args.place c.went.new.shell c.index_mut.result.now (c.went.ensures.stays.who ∙ ap (λ s. s.port.who) c.index_mut.ensures.value)
