use Rattle.std.proofs.Common.{ap, ◌∙◌, map, ◌∷◌, []}
use Rattle.std.proofs.lemmas.List.{map-append}
use Rattle.sc_thread_ports.specs.exchange.Ports.{joined_ports}
use Rattle.sc_tests_threads.proofs.exchange_tests.take_in.Goals as goal

pub returns : goal.returns
returns c = let e = c.join.ensures in
    (e.exchange, e.who, e.given, ap (map (λ k. k.0)) e.joined ∙ map-append (λ k. k.0) (joined_ports c.args.net.now) ((c.args.other.who, _) ∷ []))
