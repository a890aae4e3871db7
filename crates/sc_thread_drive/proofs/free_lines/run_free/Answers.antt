use Rattle.std.proofs.Common.{refl, subst}
use Rattle.sc_thread_workers.specs.declared.answers.Rounds.TheVariants.{Quiet, Limit, Full}
use Rattle.sc_thread_workers.specs.Crews.{crew_numbers}
use Rattle.sc_thread_workers.specs.RoundEnds.{IsEnd}
use Rattle.sc_thread_workers.proofs.Crews.{all_of_on, still_sound}
use Rattle.sc_thread_drive.proofs.FreeSteps.{frees_quiet, frees_cut, frees_full}
use Rattle.sc_thread_drive.proofs.GatheredExchange.{kept_gone}
use Rattle.sc_thread_drive.proofs.free_lines.run_free.Goals as goal

pub returns-in-Quiet-clause-goes : goal.returns-in-Quiet-clause-goes
returns-in-Quiet-clause-goes g c =
    let net = c.args.company.now.net in let mid = c.freed.new.net in let next = c.gather.new.net in let ss = c.args.company.now.shells.items in let mids = c.freed.new.shells.items in let after = c.gather.new.shells.items in
    let later = c.in_ok-end.ensures.later in let still = c.gather.ensures.still in let gathered = c.gather.ensures.gathered in
    let end : IsEnd (Quiet c.in-Quiet.used) mid ss mids (crew_numbers ss) c.args.most = subst (λ r. IsEnd r mid ss mids (crew_numbers ss) c.args.most) c.in-Quiet.is c.in_ok-end.ensures.end in
    record {
      on = record { kept = kept_gone net mid next ss mids after c.requires.together.crew.exchange later still gathered; sound = still_sound mids after still.len still.still end.5 };
      goes = frees_quiet net mid next ss mids after c.args.company.now.score c.args.company.now.score c.args.most later.looked later.len later.go still.looked still.len still.still
          gathered gathered.rows c.in-Quiet.used end refl refl refl;
    }

pub returns-in-Limit-clause-goes : goal.returns-in-Limit-clause-goes
returns-in-Limit-clause-goes g c =
    let net = c.args.company.now.net in let mid = c.freed.new.net in let next = c.gather.new.net in let ss = c.args.company.now.shells.items in let mids = c.freed.new.shells.items in let after = c.gather.new.shells.items in
    let later = c.in_ok-end.ensures.later in let still = c.gather.ensures.still in let gathered = c.gather.ensures.gathered in
    let end : IsEnd (Limit c.in-Limit.used) mid ss mids (crew_numbers ss) c.args.most = subst (λ r. IsEnd r mid ss mids (crew_numbers ss) c.args.most) c.in-Limit.is c.in_ok-end.ensures.end in
    record {
      on = record { kept = kept_gone net mid next ss mids after c.requires.together.crew.exchange later still gathered; sound = still_sound mids after still.len still.still end.5 };
      goes = frees_cut net mid next ss mids after c.args.company.now.score _ c.args.most later.looked later.len later.go still.looked still.len still.still
          gathered gathered.rows c.in-Limit.used end refl refl refl;
    }

pub returns-in-Full-clause-fills : goal.returns-in-Full-clause-fills
returns-in-Full-clause-fills g c = λ _ _.
    let net = c.args.company.now.net in let mid = c.freed.new.net in let next = c.gather.new.net in let ss = c.args.company.now.shells.items in let mids = c.freed.new.shells.items in let after = c.gather.new.shells.items in
    let later = c.in_ok-end.ensures.later in let still = c.gather.ensures.still in let gathered = c.gather.ensures.gathered in
    let end : IsEnd (Full c.in-Full.bytes) mid ss mids (crew_numbers ss) c.args.most = subst (λ r. IsEnd r mid ss mids (crew_numbers ss) c.args.most) c.in-Full.is c.in_ok-end.ensures.end in
    record {
      kept = kept_gone net mid next ss mids after c.requires.together.crew.exchange later still gathered;
      fills = frees_full net mid next ss mids after c.args.company.now.score c.args.company.now.score c.args.most later.looked later.len later.go still.looked still.len still.still
          gathered gathered.rows c.in-Full.bytes end;
    }

pub gather-requires-clause-exchange : goal.gather-requires-clause-exchange
gather-requires-clause-exchange g c κs within = all_of_on c.args.company.now.net c.freed.new.net c.args.company.now.shells.items c.freed.new.shells.items c.in_ok-end.ensures.later c.requires.together.crew.exchange
