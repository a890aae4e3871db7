use Rattle.sc_thread_workers.proofs.Crews.{still_made, over_vouched}
use Rattle.sc_thread_workers.proofs.meetings.vouch_one.Goals as goal

pub returns : goal.returns
returns g c = let e = c.vouch.ensures in record {
  still = record {
    goes = still_made c.args.shell.now _ e.mine.looked.stays e.rested.replay e.mine.looked.made;
    made = e.mine.looked.made;
    later = e.mine.looked.later;
    spent = e.rested.spent;
    crashed = e.mine.crashed;
  };
  net = e.theirs.looked;
  same = (e.theirs.seen, e.mine.seen);
  over = over_vouched c.args.net.now c.vouch.new.net c.args.shell.now _ c.requires.met e.theirs.seen e.mine.seen e.mine.looked.stays.who e.rested.actor e.vouched.own e.vouched.over;
}
