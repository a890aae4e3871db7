use Rattle.std.proofs.Common.{◌≡◌, ◌++◌, [], drop}
use Rattle.std.specs.List.{flat_map}
use Rattle.sc_meaning.specs.entries.Worlds.{first_world}
use Rattle.sc_explain.specs.rows.Explained.{no_world, row_lines}
use Rattle.sc_explain.specs.rows.Said.{HaveArcsThroughout, IsSaidOf, lines_by}
use Rattle.sc_explain.proofs.rows.explaining.explain_rows.Given as goal

-- the lines so far with those of what is left are all
abbrev pub invariant-loop-row : goal.invariant-loop-row
invariant-loop-row l = record {
  said : IsSaidOf l.world l.said;
  arcs : HaveArcsThroughout l.world (flat_map (λ row. row.entries) (drop l.row-index l.deciding));
  lines : l.lines.items ++ lines_by l.world (drop l.row-index l.deciding) ≡ row_lines 0 no_world [] (first_world l.bases) ++ lines_by (first_world l.bases) l.deciding;
}
