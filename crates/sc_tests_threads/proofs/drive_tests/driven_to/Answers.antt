use Rattle.std.proofs.Common.{rules, ◌≡◌, true}
use Rattle.sc_tests_threads.proofs.drive_tests.driven_to.Goals as goal

pub drive-end-requires-clause-spared : goal.drive-end-requires-clause-spared
drive-end-requires-clause-spared g c κs within =
    let spared : c.goers_are_spared.result ≡ true = search rules in
    c.goers_are_spared.ensures.0 spared
