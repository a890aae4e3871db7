use Rattle.std.proofs.Common.{sym, append-nil, arith}
use Rattle.sc_explain.proofs.TextsProofs.Strings.{escape_end}
use Rattle.sc_explain.proofs.texts.pieces.add_string.Goals as goal

pub loop-byte-init : goal.loop-byte-init
loop-byte-init c = sym (append-nil c.push.new.self.items)

pub returns : goal.returns
returns c =
    escape_end c.args.bytes.now c.loop-byte.byte-index c.args.text.now.items c.push.new.self.items c.loop-byte.text.items c.push-2.new.self.items
    (omega (arith, c.loop-byte-test.false)) c.in_ok-push.ensures.items c.loop-byte.invariant c.in_ok-push-2.ensures.items
