use Rattle.std.proofs.Common.{◌∙◌, sym}
use Rattle.sc_thread_workers.proofs.Crews.{still_all_go}
use Rattle.sc_thread_workers.proofs.Serving.{numbers_go}
use Rattle.sc_tests_threads.proofs.ends_tests.ended.Goals as goal

pub close-requires-clause-all : goal.close-requires-clause-all
close-requires-clause-all g c κs within =
    let ss = c.args.company.shells.items in let after = c.gather.new.shells.items in
    c.gather.ensures.still.looked.stays.given ∙ (c.requires.all ∙ sym (numbers_go ss after c.gather.ensures.still.len (still_all_go ss after c.gather.ensures.still.still)))
