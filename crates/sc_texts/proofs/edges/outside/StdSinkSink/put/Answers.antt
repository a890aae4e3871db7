use Rattle.std.proofs.Common.{◌≤◌, drop, length, subst, arith}
use Rattle.std.proofs.lemmas.List.{take_rest, length-drop}
use Rattle.sc_texts.proofs.EdgesProofs.Known.{Appends-piece}
use Rattle.sc_texts.proofs.edges.outside.StdSinkSink.put.Goals as goal

pub loop-at-preserved : goal.loop-at-preserved
loop-at-preserved g c =
    let rest = take_rest c.args.piece.now c.loop-at.at in
    let bound : c.in-Ok.n ≤ length (drop c.loop-at.at c.args.piece.now) = subst (λ xs. c.in-Ok.n ≤ length xs) rest c.in-Ok.ensures.bound in (
      Appends-piece (g.W.Write.contents c.args.self.now.writer) (g.W.Write.contents c.loop-at.self.writer) (g.W.Write.contents c.write.new.self) c.loop-at.at c.in-Ok.n c.args.piece.now _ rest c.loop-at.invariant.0 c.in-Ok.ensures.bytes,
      omega (arith, bound, length-drop c.loop-at.at c.args.piece.now),
      c.loop-at.invariant.2,
      c.loop-at.invariant.3,
    )
