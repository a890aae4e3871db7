use Rattle.std.proofs.Common.{rules, ◌≡◌, refl, inl}
use Rattle.sc_actor.specs.Replay.{acted}
use Rattle.sc_thread_work.proofs.ShellProofs.Replaying.{replay_appended}
use Rattle.sc_thread_work.proofs.shell.shells.Shell.act.Goals as goal

pub returns-in-Ok-post-clause-replay : goal.returns-in-Ok-post-clause-replay
returns-in-Ok-post-clause-replay g c = λ birth old now.
    let next : c.sent_at.new.actor ≡ (acted g.A.Actor.table c.args.self.now.actor c.args.input).0 = search rules in
    replay_appended g.A.Actor.table c.args.self.now.port c.post.new.self _ c.in-Ok-post.ensures.ok.appended refl c.args.self.now.actor c.sent_at.new.actor birth (old (inl c.requires.runs)) c.args.input c.requires.input next
