use Rattle.std.proofs.Common.{refl, sym, ◌∙◌, ⊎_elim, inl, inr}
use Rattle.sc_thread_work.proofs.ShellProofs.Replaying.{replay_looked}
use Rattle.sc_thread_work.proofs.shell.shells.Shell.waiting.Goals as goal

pub returns-clause-rested : goal.returns-clause-rested
returns-clause-rested g c = let e = c.pending.ensures.looked in record {
  actor = refl;
  spent = refl;
  last = refl;
  replay = λ birth old now. replay_looked g.A.Actor.table c.args.self.now.port c.pending.new.self e.looked c.args.self.now.actor birth (old (⊎_elim (λ x. inl x) (λ x. inr (sym e.crashed ∙ x)) now));
}
