use Rattle.std.proofs.Common.{refl, sym, ap, ◌∙◌, ⊎_elim, inl, inr}
use Rattle.sc_actor.specs.Replay.{value}
use Rattle.sc_thread_ports.specs.exchange.Ports.{seen}
use Rattle.sc_thread_work.proofs.ShellProofs.Replaying.{replay_looked, replay_over}
use Rattle.sc_thread_work.proofs.shell.shells.Shell.vouch.Goals as goal

pub returns-clause-rested : goal.returns-clause-rested
returns-clause-rested g c = let e = c.vouch.ensures.mine in record {
  actor = refl;
  spent = refl;
  last = refl;
  replay = λ birth old now. replay_looked g.A.Actor.table c.args.self.now.port c.vouch.new.self e.looked c.args.self.now.actor birth (old (⊎_elim (λ x. inl x) (λ x. inr (sym e.crashed ∙ x)) now));
}

pub returns-clause-vouched : goal.returns-clause-vouched
returns-clause-vouched g c = let e = c.vouch.ensures in record {
  own = e.own;
  over = λ birth is.
      replay_over g.A.Actor.table c.args.self.now.port (seen c.vouch.new.other) (c.requires.later.0, e.theirs.seen ∙ c.requires.later.1) (e.own ∙ e.mine.looked.made) c.args.self.now.actor birth is
      ∙ ap (λ n. value g.A.Actor.table (record { who = n; actor = birth }) (seen c.vouch.new.other)) (sym e.mine.looked.stays.who);
}
