use Rattle.std.proofs.Common.{◌≡◌, true, false, take, sym, ◌∙◌, arith}
use Rattle.std.proofs.lemmas.Bool.Decides.{Decides-eqb}
use Rattle.std.proofs.lemmas.List.{take_all}
use Rattle.std.proofs.lemmas.Slice.Eq.{slice_eq-Decides}
use Rattle.sc_json_read.proofs.Nodes.{adds_next}
use Rattle.sc_json_read.proofs.sets.set_of.Goals as goal

pub loop-i-preserved : goal.loop-i-preserved
loop-i-preserved c roster = (adds_next c.args.nodes.now c.loop-i.members c.add.new.self c.loop-i.i c.add.result roster c.loop-i-test.true (c.loop-i.invariant roster) c.add.ensures).1

pub returns-else-eq-clause-finds : goal.returns-else-eq-clause-finds
returns-else-eq-clause-finds c = λ roster.
    let all : take c.loop-i.i c.args.nodes.now ≡ c.args.nodes.now = take_all c.loop-i.i c.args.nodes.now (omega arith) in
    let same : c.as_slice.result.now ≡ c.args.nodes.now = c.as_slice.ensures.same ∙ (c.loop-i.invariant roster ∙ all) in
    let yes : c.eq.result ≡ true = (slice_eq-Decides Decides-eqb c.as_slice.result.now c.args.nodes.now c.eq.result c.eq.ensures).1 same in
    let clash : true ≡ false = sym yes ∙ c.if-eq.false in absurd (cc)
