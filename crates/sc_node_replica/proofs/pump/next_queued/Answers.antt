use Rattle.std.proofs.Common.{List, [], Option, Some, sym, ap, ◌∙◌}
use Rattle.sc_words.specs.declared.commands.commands.Command.{Command}
use Rattle.sc_mail.specs.declared.bodies.Mail.{Mail}
use Rattle.sc_node_parts.proofs.ReplicaProofs.AppendedMail.{answered-others}
use Rattle.sc_node_replica.proofs.Backlog.{next_queued-ends, next_queued-found, next_queued-goes}
use Rattle.sc_node_replica.proofs.Unsent.{next_queued-silent, next_queued-unanswered}
use Rattle.sc_node_replica.proofs.pump.next_queued.Goals as goal

pub returns-in-None-clause-found : goal.returns-in-None-clause-found
returns-in-None-clause-found c =
    ap (λ (cs : List Command). (let found : Option Command × List Command × List Mail = (Some c.in-Some.command, cs, c.loop-alloc.out) in found)) c.take_head.ensures.rest
    ∙ next_queued-found c.args.me c.args.idle c.args.core.now c.loop-alloc.backlog.items c.loop-alloc.out c.in-Some.command
    (sym c.head_waits.ensures ∙ c.loop-alloc-test.true) (sym c.in-Some.is ∙ c.take_head.ensures.head) (sym c.turned_down.ensures ∙ c.in-None.is)
    ∙ c.loop-alloc.invariant.left

pub returns-clause-found : goal.returns-clause-found
returns-clause-found c =
    next_queued-ends c.args.me c.args.idle c.args.core.now c.loop-alloc.backlog.items c.loop-alloc.out (sym c.head_waits.ensures ∙ c.loop-alloc-test.false) ∙ c.loop-alloc.invariant.left

pub loop-alloc-preserved-in_ok-answer_command-in-Some-turned_down : goal.loop-alloc-preserved-in_ok-answer_command-in-Some-turned_down
loop-alloc-preserved-in_ok-answer_command-in-Some-turned_down c = record {
  left =
      next_queued-goes c.args.me c.args.idle c.args.core.now c.loop-alloc.backlog.items c.take_head.new.queue.items c.loop-alloc.out _
      c.in-Some.command c.in-Some-turned_down.body c.take_head.ensures.rest c.in_ok-answer_command-in-Some-turned_down.ensures.mails
      (sym c.head_waits.ensures ∙ c.loop-alloc-test.true) (sym c.in-Some.is ∙ c.take_head.ensures.head) (sym c.turned_down.ensures ∙ c.in-Some-turned_down.is)
      ∙ c.loop-alloc.invariant.left;
  none = λ e.
      next_queued-silent c.args.me c.args.idle c.args.core.now c.loop-alloc.backlog.items c.take_head.new.queue.items c.in-Some.command c.in-Some-turned_down.body c.take_head.ensures.rest
      (sym c.head_waits.ensures ∙ c.loop-alloc-test.true) (sym c.in-Some.is ∙ c.take_head.ensures.head) (sym c.turned_down.ensures ∙ c.in-Some-turned_down.is) (c.loop-alloc.invariant.none e);
}

pub loop-alloc-preserved-in_ok-answer_command-in-Some-turned_down-2 : goal.loop-alloc-preserved-in_ok-answer_command-in-Some-turned_down-2
loop-alloc-preserved-in_ok-answer_command-in-Some-turned_down-2 c = record {
  left =
      next_queued-goes c.args.me c.args.idle c.args.core.now c.loop-alloc.backlog.items c.take_head.new.queue.items c.loop-alloc.out _
      c.in-Some.command c.in-Some-turned_down.body c.take_head.ensures.rest c.in_ok-answer_command-in-Some-turned_down.ensures.mails
      (sym c.head_waits.ensures ∙ c.loop-alloc-test.true) (sym c.in-Some.is ∙ c.take_head.ensures.head) (sym c.turned_down.ensures ∙ c.in-Some-turned_down.is)
      ∙ c.loop-alloc.invariant.left;
  none = λ e.
      next_queued-silent c.args.me c.args.idle c.args.core.now c.loop-alloc.backlog.items c.take_head.new.queue.items c.in-Some.command c.in-Some-turned_down.body c.take_head.ensures.rest
      (sym c.head_waits.ensures ∙ c.loop-alloc-test.true) (sym c.in-Some.is ∙ c.take_head.ensures.head) (sym c.turned_down.ensures ∙ c.in-Some-turned_down.is) (c.loop-alloc.invariant.none e);
}

pub loop-alloc-preserved-in_ok-answer_command-in-Some-turned_down-3 : goal.loop-alloc-preserved-in_ok-answer_command-in-Some-turned_down-3
loop-alloc-preserved-in_ok-answer_command-in-Some-turned_down-3 c = record {
  left =
      next_queued-goes c.args.me c.args.idle c.args.core.now c.loop-alloc.backlog.items c.take_head.new.queue.items c.loop-alloc.out _
      c.in-Some.command c.in-Some-turned_down.body c.take_head.ensures.rest c.in_ok-answer_command-in-Some-turned_down.ensures.mails
      (sym c.head_waits.ensures ∙ c.loop-alloc-test.true) (sym c.in-Some.is ∙ c.take_head.ensures.head) (sym c.turned_down.ensures ∙ c.in-Some-turned_down.is)
      ∙ c.loop-alloc.invariant.left;
  none = λ e.
      next_queued-silent c.args.me c.args.idle c.args.core.now c.loop-alloc.backlog.items c.take_head.new.queue.items c.in-Some.command c.in-Some-turned_down.body c.take_head.ensures.rest
      (sym c.head_waits.ensures ∙ c.loop-alloc-test.true) (sym c.in-Some.is ∙ c.take_head.ensures.head) (sym c.turned_down.ensures ∙ c.in-Some-turned_down.is) (c.loop-alloc.invariant.none e);
}

pub loop-alloc-preserved-in_ok-answer_command-in-Some-turned_down-4 : goal.loop-alloc-preserved-in_ok-answer_command-in-Some-turned_down-4
loop-alloc-preserved-in_ok-answer_command-in-Some-turned_down-4 c = record {
  left =
      next_queued-goes c.args.me c.args.idle c.args.core.now c.loop-alloc.backlog.items c.take_head.new.queue.items c.loop-alloc.out _
      c.in-Some.command c.in-Some-turned_down.body c.take_head.ensures.rest c.in_ok-answer_command-in-Some-turned_down.ensures.mails
      (sym c.head_waits.ensures ∙ c.loop-alloc-test.true) (sym c.in-Some.is ∙ c.take_head.ensures.head) (sym c.turned_down.ensures ∙ c.in-Some-turned_down.is)
      ∙ c.loop-alloc.invariant.left;
  none = λ e.
      next_queued-silent c.args.me c.args.idle c.args.core.now c.loop-alloc.backlog.items c.take_head.new.queue.items c.in-Some.command c.in-Some-turned_down.body c.take_head.ensures.rest
      (sym c.head_waits.ensures ∙ c.loop-alloc-test.true) (sym c.in-Some.is ∙ c.take_head.ensures.head) (sym c.turned_down.ensures ∙ c.in-Some-turned_down.is) (c.loop-alloc.invariant.none e);
}

pub loop-alloc-preserved-in_ok-answer_command-in-Some-turned_down-5 : goal.loop-alloc-preserved-in_ok-answer_command-in-Some-turned_down-5
loop-alloc-preserved-in_ok-answer_command-in-Some-turned_down-5 c = record {
  left =
      next_queued-goes c.args.me c.args.idle c.args.core.now c.loop-alloc.backlog.items c.take_head.new.queue.items c.loop-alloc.out _
      c.in-Some.command c.in-Some-turned_down.body c.take_head.ensures.rest c.in_ok-answer_command-in-Some-turned_down.ensures.mails
      (sym c.head_waits.ensures ∙ c.loop-alloc-test.true) (sym c.in-Some.is ∙ c.take_head.ensures.head) (sym c.turned_down.ensures ∙ c.in-Some-turned_down.is)
      ∙ c.loop-alloc.invariant.left;
  none = λ e.
      next_queued-silent c.args.me c.args.idle c.args.core.now c.loop-alloc.backlog.items c.take_head.new.queue.items c.in-Some.command c.in-Some-turned_down.body c.take_head.ensures.rest
      (sym c.head_waits.ensures ∙ c.loop-alloc-test.true) (sym c.in-Some.is ∙ c.take_head.ensures.head) (sym c.turned_down.ensures ∙ c.in-Some-turned_down.is) (c.loop-alloc.invariant.none e);
}

pub returns-in_err-answer_command-in-Some-turned_down-clause-none : goal.returns-in_err-answer_command-in-Some-turned_down-clause-none
returns-in_err-answer_command-in-Some-turned_down-clause-none c = λ e.
    let unanswered = next_queued-unanswered c.args.me c.args.idle c.args.core.now c.loop-alloc.backlog.items c.in-Some.command c.in-Some-turned_down.body
    (sym c.head_waits.ensures ∙ c.loop-alloc-test.true) (sym c.in-Some.is ∙ c.take_head.ensures.head) (sym c.turned_down.ensures ∙ c.in-Some-turned_down.is) (c.loop-alloc.invariant.none e) in
    let ok = c.in_err-answer_command-in-Some-turned_down.ensures.others (answered-others c.args.me c.args.core.now.id c.in-Some-turned_down.body c.in-Some.command [] unanswered) in
    absurd (cc)
