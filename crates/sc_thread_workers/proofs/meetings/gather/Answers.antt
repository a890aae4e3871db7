use Rattle.sc_thread_workers.specs.Crews.{HaveMet}
use Rattle.sc_thread_workers.proofs.Crews.{all_met_later, all_of_on, are_still_looked, are_still_then, still_later}
use Rattle.sc_thread_workers.proofs.Ending.{first_so, gathered_so}
use Rattle.sc_thread_workers.proofs.meetings.gather.Goals as goal

pub vouch-requires-clause-exchange : goal.vouch-requires-clause-exchange
vouch-requires-clause-exchange g c κs within =
    all_of_on c.args.net.now c.first_receiver-found.new.self c.args.shells.now.items c.meet.new.shells.items
    (still_later c.args.net.now c.first_receiver-found.new.self c.args.shells.now.items c.meet.new.shells.items
    (are_still_looked c.args.net.now c.meet.new.net c.first_receiver-found.new.self c.args.shells.now.items c.meet.new.shells.items c.meet.ensures.still c.first_receiver-found.ensures.looked.looked)) c.requires.exchange

pub vouch-requires-clause-met : goal.vouch-requires-clause-met
vouch-requires-clause-met g c κs within =
    let met : HaveMet c.args.net.now c.meet.new.net c.meet.new.shells.items = c.meet.ensures.met in
    all_met_later c.meet.new.net c.first_receiver-found.new.self c.meet.new.shells.items c.first_receiver-found.ensures.looked.looked met.met

pub returns-clause-still : goal.returns-clause-still
returns-clause-still g c =
    are_still_then c.args.net.now c.first_receiver-found.new.self c.vouch.new.net c.args.shells.now.items c.meet.new.shells.items c.vouch.new.shells.items
    (are_still_looked c.args.net.now c.meet.new.net c.first_receiver-found.new.self c.args.shells.now.items c.meet.new.shells.items c.meet.ensures.still c.first_receiver-found.ensures.looked.looked) c.vouch.ensures.still

pub returns-clause-gathered : goal.returns-clause-gathered
returns-clause-gathered g c = gathered_so c.first_receiver-found.new.self c.vouch.new.net c.meet.new.shells.items c.vouch.new.shells.items c.first_receiver-found.ensures.looked.rows c.first_receiver-found.ensures.looked.addressed c.vouch.ensures.still c.vouch.ensures.vouched

pub returns-clause-found : goal.returns-clause-found
returns-clause-found g c =
    first_so c.meet.new.net c.first_receiver-found.new.self c.vouch.new.net c.first_receiver-found.result c.first_receiver-found.ensures.looked.looked c.vouch.ensures.still.looked c.vouch.ensures.vouched.seen c.first_receiver-found.ensures.first
