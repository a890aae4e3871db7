use Rattle.std.proofs.Common.{◌+◌, subst, arith}
use Rattle.std.specs.Io.KnownBytes.{Appends}
use Rattle.sc_texts.specs.edges.Bytes.{AppendsPart, IsHanded}
use Rattle.sc_cli.proofs.Pieces.{Appends-more, AppendsPart-more, BringsLines-more}
use Rattle.sc_cli.proofs.printing.put_all.Goals as goal

pub loop-line-preserved : goal.loop-line-preserved
loop-line-preserved g c = (
  Appends-more (g.K.Sink.held c.args.sink.now) (g.K.Sink.held c.loop-line.sink) (g.K.Sink.held c.put.new.self) c.args.lines.now c.loop-line.line-index c.line-item.result c.loop-line-test.true c.line-item.is c.loop-line.invariant.0
      (subst (Appends (g.K.Sink.held c.loop-line.sink) (g.K.Sink.held c.put.new.self)) c.bytes.ensures c.in_default.ensures.whole),
  omega (arith, c.in_default.ensures.cause.later),
  omega (arith, c.put.ensures.call, c.loop-line.invariant.2),
  BringsLines-more (g.K.Sink.pieces c.args.sink.now) (g.K.Sink.pieces c.loop-line.sink) (g.K.Sink.pieces c.put.new.self) c.args.lines.now c.loop-line.line-index c.line-item.result c.loop-line-test.true c.line-item.is c.loop-line.invariant.3
      (subst (IsHanded (g.K.Sink.pieces c.loop-line.sink) (g.K.Sink.pieces c.put.new.self)) c.bytes.ensures c.put.ensures.piece),
)

pub returns-in-Err-clause-part : goal.returns-in-Err-clause-part
returns-in-Err-clause-part g c =
    AppendsPart-more (g.K.Sink.held c.args.sink.now) (g.K.Sink.held c.loop-line.sink) (g.K.Sink.held c.put.new.self) c.args.lines.now c.loop-line.line-index c.line-item.result c.loop-line-test.true c.line-item.is c.loop-line.invariant.0
    (subst (AppendsPart (g.K.Sink.held c.loop-line.sink) (g.K.Sink.held c.put.new.self)) c.bytes.ensures c.in-Err.ensures.part)

pub returns-in-Err-clause-first : goal.returns-in-Err-clause-first
returns-in-Err-clause-first g c = (
  c.loop-line.line-index + 1,
  BringsLines-more (g.K.Sink.pieces c.args.sink.now) (g.K.Sink.pieces c.loop-line.sink) (g.K.Sink.pieces c.put.new.self) c.args.lines.now c.loop-line.line-index c.line-item.result c.loop-line-test.true c.line-item.is c.loop-line.invariant.3
      (subst (IsHanded (g.K.Sink.pieces c.loop-line.sink) (g.K.Sink.pieces c.put.new.self)) c.bytes.ensures c.put.ensures.piece),
)
