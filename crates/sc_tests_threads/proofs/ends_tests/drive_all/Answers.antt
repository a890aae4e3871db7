use Rattle.std.proofs.Common.{rules, ◌≡◌, true}
use Rattle.sc_tests_threads.proofs.ends_tests.drive_all.Goals as goal

pub drive-requires-clause-spared : goal.drive-requires-clause-spared
drive-requires-clause-spared g c κs within =
    let spared : c.goers_are_spared.result ≡ true = search rules in
    c.goers_are_spared.ensures.0 spared
