use Rattle.std.proofs.Common.{ap}
use Rattle.sc_words.specs.declared.commands.bodies.Watch.{Watch}
use Rattle.sc_json_text.specs.rows.Bodies.{watch_json, FitsWatch}
use Rattle.sc_json_read.proofs.Finding.{failed}
use Rattle.sc_json_read.proofs.bodies.WatchFromJson.from_json.Goals as goal

pub returns-in_err-by-clause-finds : goal.returns-in_err-by-clause-finds
unfolding watch_json FitsWatch
returns-in_err-by-clause-finds c = λ watch fits e. failed _ _ _ c.from_residual.ensures (c.in_err-by.ensures.finds watch.by watch.coord watch.members watch.next watch.old watch.part fits.0 fits.1 fits.2 fits.3 fits.4 fits.5 e)

pub returns-clause-finds : goal.returns-clause-finds
unfolding watch_json FitsWatch
returns-clause-finds c = λ watch fits e. ap (λ p. let r : Watch = record { by = p.0; coord = p.1; members = p.2; next = p.3; old = p.4; part = p.5 } in r) (c.in_ok-by.ensures.finds watch.by watch.coord watch.members watch.next watch.old watch.part fits.0 fits.1 fits.2 fits.3 fits.4 fits.5 e)

pub returns-clause-exact : goal.returns-clause-exact
unfolding watch_json
returns-clause-exact c = c.in_ok-by.ensures.exact
