use Rattle.std.proofs.Common.{refl}
use Rattle.std.proofs.lemmas.Result.{IfOk-weaker}
use Rattle.sc_thread_drive.proofs.CompanyActs.{found_then, rested, together_rested}
use Rattle.sc_thread_drive.proofs.settle_lines.lowest.Goals as goal

pub placed-requires-clause-together : goal.placed-requires-clause-together
placed-requires-clause-together g c κs within =
    let old = c.args.company.now in let mid = record old { net = c.gather-found.new.net; shells = c.gather-found.new.shells } in
    together_rested old mid c.requires.together (rested old mid c.requires.together c.gather-found.ensures.still c.gather-found.ensures.gathered refl)

pub returns : goal.returns
returns g c =
    let old = c.args.company.now in let mid = record old { net = c.gather-found.new.net; shells = c.gather-found.new.shells } in
    IfOk-weaker c.placed.result _ _ (λ found more. found_then old mid c.placed.new.company found (rested old mid c.requires.together c.gather-found.ensures.still c.gather-found.ensures.gathered refl) more) c.placed.ensures.found
