use Rattle.std.proofs.Common.{set, subst, sym}
use Rattle.sc_thread_ports.specs.exchange.Ports.{SameExchange}
use Rattle.sc_thread_workers.specs.Crews.{AreStill}
use Rattle.sc_thread_workers.proofs.Crews.{all_met_later, all_of_on, are_still_looked, are_still_then, still_later}
use Rattle.sc_thread_workers.proofs.Ending.{first_so, gathered_so}
use Rattle.sc_thread_drive.proofs.OneMet.{one_met, all_met}
use Rattle.sc_thread_drive.proofs.gathering.gather_after.Goals as goal

pub meet_one-requires-clause-exchange : goal.meet_one-requires-clause-exchange
meet_one-requires-clause-exchange g c κs within =
    subst (λ s. SameExchange s.port c.args.net.now) (sym c.index_mut.ensures.value) (c.requires.exchange c.args.place c.index_mut.result.now c.requires.inside)

pub vouch-requires-clause-exchange : goal.vouch-requires-clause-exchange
vouch-requires-clause-exchange g c κs within =
    let ss = c.args.shells.now.items in let t = c.meet_one.new.shell in let mid = c.meet_one.new.net in
    let still : AreStill c.args.net.now mid ss (set ss c.args.place t) = one_met c.args.net.now mid ss c.args.place c.index_mut.result.now t c.requires.inside c.index_mut.ensures.value c.meet_one.ensures in
    all_of_on c.args.net.now c.first_receiver-found.new.self ss (set ss c.args.place t)
    (still_later c.args.net.now c.first_receiver-found.new.self ss (set ss c.args.place t) (are_still_looked c.args.net.now mid c.first_receiver-found.new.self ss (set ss c.args.place t) still c.first_receiver-found.ensures.looked.looked)) c.requires.exchange

pub vouch-requires-clause-met : goal.vouch-requires-clause-met
vouch-requires-clause-met g c κs within =
    let ss = c.args.shells.now.items in let t = c.meet_one.new.shell in let mid = c.meet_one.new.net in
    all_met_later mid c.first_receiver-found.new.self (set ss c.args.place t) c.first_receiver-found.ensures.looked.looked
    (all_met c.args.net.now mid ss c.args.place c.index_mut.result.now t c.requires.inside c.requires.others c.meet_one.ensures)

pub returns-clause-still : goal.returns-clause-still
returns-clause-still g c =
    let ss = c.args.shells.now.items in let t = c.meet_one.new.shell in let mid = c.meet_one.new.net in
    are_still_then c.args.net.now c.first_receiver-found.new.self c.vouch.new.net ss (set ss c.args.place t) c.vouch.new.shells.items
    (are_still_looked c.args.net.now mid c.first_receiver-found.new.self ss (set ss c.args.place t)
    (one_met c.args.net.now mid ss c.args.place c.index_mut.result.now t c.requires.inside c.index_mut.ensures.value c.meet_one.ensures) c.first_receiver-found.ensures.looked.looked) c.vouch.ensures.still

pub returns-clause-gathered : goal.returns-clause-gathered
returns-clause-gathered g c =
    gathered_so c.first_receiver-found.new.self c.vouch.new.net (set c.args.shells.now.items c.args.place c.meet_one.new.shell) c.vouch.new.shells.items c.first_receiver-found.ensures.looked.rows c.first_receiver-found.ensures.looked.addressed c.vouch.ensures.still c.vouch.ensures.vouched

pub returns-clause-found : goal.returns-clause-found
returns-clause-found g c =
    first_so c.meet_one.new.net c.first_receiver-found.new.self c.vouch.new.net c.first_receiver-found.result c.first_receiver-found.ensures.looked.looked c.vouch.ensures.still.looked c.vouch.ensures.vouched.seen c.first_receiver-found.ensures.first
