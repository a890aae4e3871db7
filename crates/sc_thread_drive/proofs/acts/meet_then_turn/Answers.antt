use Rattle.sc_thread_workers.proofs.Crews.{still_made}
use Rattle.sc_thread_drive.proofs.acts.meet_then_turn.Goals as goal

pub returns : goal.returns
returns g c = let m = c.meet.ensures in record {
  met = c.meet.new.self;
  still = record {
    goes = still_made c.args.shell.now c.meet.new.self m.mine.looked.stays m.rested.replay m.mine.looked.made;
    made = m.mine.looked.made;
    later = m.mine.looked.later;
    spent = m.rested.spent;
    crashed = m.mine.crashed;
  };
  ahead = record { begins = m.mine.begins; own = m.mine.rows.own };
  looked = m.theirs.looked;
  stays = c.turn.ensures.stays;
  keeps = c.turn.ensures.replay;
  effect_holds = (c.turn.ensures.takes, c.turn.ensures.memory);
}
