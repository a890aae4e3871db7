use Rattle.std.proofs.Common.{ℕ, ◌++◌, ◌∙◌, [], List, sym, ap, subst, arith}
use Rattle.std.specs.List.{flat_map}
use Rattle.sc_world_entries.specs.declared.decided.deciding.DecidingRow.{DecidingRow}
use Rattle.sc_meaning.specs.entries.Worlds.{StoreWorld}
use Rattle.sc_explain.specs.rows.Explained.{no_world, row_lines}
use Rattle.sc_explain.specs.rows.Said.{HaveArcsThroughout, lines_by}
use Rattle.sc_explain.proofs.RowsProofs.Takings.{arcs_here, arcs_next, lines_end, lines_next}
use Rattle.sc_explain.proofs.rows.explaining.explain_rows.Goals as goal

pub loop-row-init : goal.loop-row-init
loop-row-init c = record {
  said = c.in_ok-said.ensures.0;
  arcs = subst (λ (world : StoreWorld). HaveArcsThroughout world (flat_map (λ (d : DecidingRow). d.entries) c.args.deciding.now)) (sym c.in_ok-world.ensures.world) c.requires;
  lines =
      ap (λ (lines : List (List ℕ)). lines ++ lines_by c.in_ok-world.world c.args.deciding.now) c.in_ok-said.ensures.1
      ∙ ap (λ (lines : List (List ℕ)). (lines ++ row_lines 0 no_world [] c.in_ok-world.world) ++ lines_by c.in_ok-world.world c.args.deciding.now) c.new-lines.ensures.items
      ∙ ap (λ (world : StoreWorld). row_lines 0 no_world [] world ++ lines_by world c.args.deciding.now) c.in_ok-world.ensures.world;
}

pub unreachable-requires : goal.unreachable-requires
unreachable-requires c =
    c.in-Err-NoArc.ensures c.in-Err-NoArc.field-0-is
    (arcs_here c.loop-row.world c.args.deciding.now c.loop-row.row-index c.row-item.result (omega (arith, c.loop-row-test.true)) c.row-item.is c.loop-row.invariant.arcs)

pub loop-row-preserved : goal.loop-row-preserved
loop-row-preserved c =
    let done = c.in-Ok.ensures c.loop-row.invariant.said in
    record {
      said = done.0;
      arcs = arcs_next c.loop-row.world c.explain_row.new.world c.args.deciding.now c.loop-row.row-index c.row-item.result (omega (arith, c.loop-row-test.true)) c.row-item.is done.1 c.loop-row.invariant.arcs;
      lines =
          lines_next c.loop-row.world c.explain_row.new.world c.args.deciding.now c.loop-row.row-index c.row-item.result c.loop-row.lines.items c.explain_row.new.lines.items _
          (omega (arith, c.loop-row-test.true)) c.row-item.is done.1 done.2 c.loop-row.invariant.lines;
    }

pub returns : goal.returns
returns c = lines_end c.loop-row.world c.args.deciding.now c.loop-row.row-index c.loop-row.lines.items _ (omega (arith, c.loop-row-test.false)) c.loop-row.invariant.lines
