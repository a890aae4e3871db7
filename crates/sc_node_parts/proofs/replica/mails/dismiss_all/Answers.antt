use Rattle.std.proofs.Common.{arith, length, ◌<◌, ◌∙◌}
use Rattle.sc_node_parts.proofs.ReplicaProofs.AppendedMail.{dismissed_all-none, dismissed_all-more}
use Rattle.sc_node_parts.proofs.replica.mails.dismiss_all.Goals as goal

pub returns-in_err-dismiss-clause-none : goal.returns-in_err-dismiss-clause-none
returns-in_err-dismiss-clause-none c = λ e.
    let within : c.loop-i.i < length c.args.commands.now.items = omega (arith, c.loop-i-test.true, c.len-i-end.ensures) in
    let silent = dismissed_all-none c.args.me c.args.group c.args.hint c.args.body.now c.args.commands.now.items c.loop-i.i c.index.result.now within c.index.ensures (c.loop-i.invariant.none e) in
    let ok = c.in_err-dismiss.ensures.none silent.0 in
    absurd (cc)

pub loop-i-preserved : goal.loop-i-preserved
loop-i-preserved c =
    let within : c.loop-i.i < length c.args.commands.now.items = omega (arith, c.loop-i-test.true, c.len-i-end.ensures) in
    record {
      left = dismissed_all-more c.args.me c.args.group c.args.hint c.args.body.now c.args.commands.now.items c.loop-i.i c.index.result.now c.loop-i.out c.dismiss.new.out within c.index.ensures c.in_ok-dismiss.ensures.mails ∙ c.loop-i.invariant.left;
      none = λ e. (dismissed_all-none c.args.me c.args.group c.args.hint c.args.body.now c.args.commands.now.items c.loop-i.i c.index.result.now within c.index.ensures (c.loop-i.invariant.none e)).1;
    }
