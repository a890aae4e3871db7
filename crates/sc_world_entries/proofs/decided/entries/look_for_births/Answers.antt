use Rattle.std.proofs.Common.{◌++◌, List, map, ap, ◌∙◌}
use Rattle.std.specs.List.{flat_map}
use Rattle.sc_meaning.specs.declared.entries.LogEntry.{LogEntry}
use Rattle.sc_world_logs.specs.declared.known.Known.{Known}
use Rattle.sc_world_entries.specs.decided.Found.{length_before, length_kept, entries_behind}
use Rattle.sc_world_entries.proofs.DecidedProofs.Gained.{born_gained}
use Rattle.sc_world_entries.proofs.decided.entries.look_for_births.Goals as goal

pub returns : goal.returns
returns c = λ before row acceptance olds is adds heard known hold count.
    let entries = c.args.entries.now.items in
    let name = c.args.name in
    let tracked = c.in_ok-groups.ensures.tracked heard hold.each in
    let noted = c.as_slice-lengths.ensures.value ∙ c.in_ok-noted.ensures ∙ ap (map length_kept) c.as_slice-kept.ensures.value in (
      tracked,
      c.in_ok-add_behind.ensures
          ∙ ap (λ lengths. entries ++ flat_map (entries_behind (length_before name c.args.count lengths) c.as_slice-found.result.now) c.as_slice-found.result.now) noted
          ∙ ap (λ (ks : List Known). entries ++ flat_map (entries_behind (length_before name c.args.count (map length_kept c.args.knowns.items)) ks) ks) c.as_slice-found.ensures.value
          ∙ ap (λ (more : List LogEntry). entries ++ more)
          (born_gained c.args.bases.now before c.args.after.now row name acceptance olds c.args.knowns.items c.in_ok-groups.groups.knowns.items c.args.count is adds known hold count tracked.known),
    )
