use Rattle.std.proofs.Common.{rules, ◌≡◌, sym, ◌∙◌, [], ◌++◌}
use Rattle.sc_actor.specs.Mail.{mails}
use Rattle.sc_actor.specs.Replay.{input_of}
use Rattle.sc_thread_ports.specs.exchange.Ports.{seen}
use Rattle.sc_thread_work.proofs.ShellProofs.Taking.{input_steady, may_post}
use Rattle.sc_thread_work.proofs.shell.shells.Shell.take_event.Goals as goal

pub act-requires-clause-event : goal.act-requires-clause-event
act-requires-clause-event g c κs within = may_post c.args.self.now.port.fetched c.args.event c.requires

pub act-requires-clause-input : goal.act-requires-clause-input
act-requires-clause-input g c κs within = λ more.
    let is : c.in-Ok.input ≡ input_of [] c.args.event = search rules in
    input_steady c.args.event c.requires (mails (seen c.args.self.now.port ++ more)) ∙ sym is
