use Rattle.std.proofs.Common.{ℕ, List, length, drop, ap, ◌∙◌}
use Rattle.std.proofs.lemmas.Result.{on_ok_weaker}
use Rattle.sc_explain.specs.facts.Sameness.{same_record, same_ring_group}
use Rattle.sc_explain.specs.declared.facts.facts.GroupRecord.{GroupRecord}
use Rattle.sc_explain.specs.declared.facts.facts.RingGroup.{RingGroup}
use Rattle.sc_explain.specs.rows.Explained.{changed, records_in, ring_groups_in}
use Rattle.sc_explain.proofs.RowsProofs.RowLines.{row_added}
use Rattle.sc_explain.proofs.rows.said.add_row.Goals as goal

pub returns : goal.returns
returns c =
    on_ok_weaker c.add_ring.result
    (λ added was decided said now entries.
    row_added c.args.row was c.args.world.now decided c.args.lines.now.items c.add_births.new.lines.items c.add_all.new.lines.items c.add_history.new.lines.items c.add_records.new.lines.items
    c.add_ring_groups.new.lines.items c.add_ring.new.lines.items c.behind-births.result.now c.args.entries.items c.behind-history.result.now c.as_slice-said_records.result.now
    c.as_slice-said_groups.result.now c.as_slice-ring_before.result.now c.ring-ring_after.result.now
    c.in_ok-add_births.ensures
    (c.behind-births.ensures ∙ ap (λ (n : ℕ). drop n c.groups-born.result.now) said.births ∙ ap (drop (length was.groups)) c.groups-born.ensures)
    c.in_ok-add_all.ensures entries
    c.in_ok-add_history.ensures
    (c.behind-history.ensures ∙ ap (λ (n : ℕ). drop n c.history-recorded.result.now) said.history ∙ ap (drop (length was.history)) c.history-recorded.ensures)
    c.in_ok-add_records.ensures
    (c.as_slice-said_records.ensures.value ∙ c.in_ok-records.ensures
    ∙ ap (λ (rs : List GroupRecord). changed same_record rs c.args.after.now.records.items) said.records ∙ ap (changed same_record (records_in was)) now.records)
    c.in_ok-add_ring_groups.ensures
    (c.as_slice-said_groups.ensures.value ∙ c.in_ok-groups.ensures
    ∙ ap (λ (gs : List RingGroup). changed same_ring_group gs c.args.after.now.groups.items) said.groups ∙ ap (changed same_ring_group (ring_groups_in was)) now.groups)
    added (c.as_slice-ring_before.ensures.value ∙ said.ring) c.ring-ring_after.ensures)
    c.add_ring.ensures
