use Rattle.std.proofs.Common.{◌++◌, ◌∙◌, [], List, sym, ap, subst}
use Rattle.std.specs.List.{flat_map}
use Rattle.sc_world_entries.specs.declared.decided.deciding.DecidingRow.{DecidingRow}
use Rattle.sc_meaning.specs.declared.entries.LogEntry.{LogEntry}
use Rattle.sc_meaning.specs.entries.Worlds.{first_world}
use Rattle.sc_meaning.specs.sound.Players.{as_nodes}
use Rattle.sc_explain.specs.rows.Explained.{no_world, row_lines}
use Rattle.sc_explain.specs.rows.Said.{HaveArcsThroughout, lines_by}
use Rattle.sc_explain.proofs.RowsProofs.Rows.{entries_are, lines_are}
use Rattle.sc_explain.proofs.rows.explaining.explain.Goals as goal

pub explain_rows-requires : goal.explain_rows-requires
explain_rows-requires c =
    let bases = c.args.bases.now in let rows = c.args.rows.now in
    let found = ap (flat_map (λ (d : DecidingRow). d.entries)) (c.as_slice.ensures.value ∙ c.in_ok-deciding.ensures.deciding) ∙ entries_are as_nodes bases [] rows in
    subst (λ (entries : List LogEntry). HaveArcsThroughout (first_world bases) entries) (sym found) (λ before later is. (c.requires before later is).arcs)

pub returns : goal.returns
returns c =
    let bases = c.args.bases.now in let rows = c.args.rows.now in
    c.from_vec.ensures ∙ c.in_ok-lines.ensures
    ∙ ap (λ (ds : List DecidingRow). row_lines 0 no_world [] (first_world bases) ++ lines_by (first_world bases) ds) (c.as_slice.ensures.value ∙ c.in_ok-deciding.ensures.deciding)
    ∙ ap (λ ls. row_lines 0 no_world [] (first_world bases) ++ ls) (sym (lines_are as_nodes bases [] rows))
