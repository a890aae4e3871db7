use Rattle.std.proofs.Common.{rules, ◌≢◌, ◌∙◌, sym}
use Rattle.sc_actor.specs.declared.schedules.Played.TheVariants.{OutOfMemory}
use Rattle.sc_run.proofs.reporting.play_whole.Goals as goal

pub close-requires-clause-exchange : goal.close-requires-clause-exchange
close-requires-clause-exchange g c κs within =
    let went_on : c.play_in-played.result ≢ OutOfMemory = search rules in
    (c.play_in-played.ensures.kept went_on).exchange

pub close-requires-clause-all : goal.close-requires-clause-all
close-requires-clause-all g c κs within =
    let went_on : c.play_in-played.result ≢ OutOfMemory = search rules in
    let kept = c.play_in-played.ensures.kept went_on in
    kept.stays.given ∙ c.in_ok-company.ensures.opened.birth.all ∙ sym kept.same

pub close-requires-clause-none : goal.close-requires-clause-none
close-requires-clause-none g c κs within =
    let went_on : c.play_in-played.result ≢ OutOfMemory = search rules in
    (c.play_in-played.ensures.kept went_on).stays.joined ∙ c.in_ok-company.ensures.unjoined

pub close-requires-clause-over : goal.close-requires-clause-over
close-requires-clause-over g c κs within =
    let went_on : c.play_in-played.result ≢ OutOfMemory = search rules in
    (c.play_in-played.ensures.kept went_on).over

pub close-requires-clause-rows : goal.close-requires-clause-rows
close-requires-clause-rows g c κs within =
    let went_on : c.play_in-played.result ≢ OutOfMemory = search rules in
    (c.play_in-played.ensures.kept went_on).rows

pub close-requires-clause-net : goal.close-requires-clause-net
close-requires-clause-net g c κs within =
    let went_on : c.play_in-played.result ≢ OutOfMemory = search rules in
    (c.play_in-played.ensures.kept went_on).stays.who ∙ c.in_ok-company.ensures.opened.birth.crew.first
