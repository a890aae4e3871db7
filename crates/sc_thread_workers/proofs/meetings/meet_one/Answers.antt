use Rattle.sc_thread_workers.proofs.Crews.{still_made}
use Rattle.sc_thread_workers.proofs.meetings.meet_one.Goals as goal

pub returns : goal.returns
returns g c = let e = c.meet.ensures in record {
  still = record {
    goes = still_made c.args.shell.now _ e.mine.looked.stays e.rested.replay e.mine.looked.made;
    made = e.mine.looked.made;
    later = e.mine.looked.later;
    spent = e.rested.spent;
    crashed = e.mine.crashed;
  };
  net = e.theirs.looked;
  has = record { begins = e.last };
  ahead = record { begins = e.mine.begins; own = e.mine.rows.own };
}
