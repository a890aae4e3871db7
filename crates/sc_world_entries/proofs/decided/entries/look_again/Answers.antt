use Rattle.std.proofs.Common.{◌++◌, List, ap, ◌∙◌}
use Rattle.std.specs.List.{flat_map}
use Rattle.sc_meaning.specs.declared.entries.LogEntry.{LogEntry}
use Rattle.sc_world_entries.specs.decided.Found.{entries_behind, log_length}
use Rattle.sc_world_logs.specs.declared.known.Known.{Known}
use Rattle.sc_world_entries.proofs.DecidedProofs.Gained.{gained_is}
use Rattle.sc_world_entries.proofs.decided.entries.look_again.Goals as goal

pub returns : goal.returns
returns c =
    let entries = c.args.entries.now.items in
    let old = c.in_ok-old.old.knowns.items in
    let new = c.in_ok-new.new.knowns.items in (
      c.in_ok-new.ensures.tracked,
      λ row is. c.in_ok-add_gained.ensures
          ∙ ap (λ (ks : List Known). entries ++ flat_map (entries_behind (log_length ks) c.as_slice-news.result.now) c.as_slice-news.result.now) c.as_slice-olds.ensures.value
          ∙ ap (λ (ks : List Known). entries ++ flat_map (entries_behind (log_length old) ks) ks) c.as_slice-news.ensures.value
          ∙ ap (λ (more : List LogEntry). entries ++ more) (gained_is c.args.bases.now c.args.before.now c.args.after.now row old new is c.in_ok-old.ensures.tracked.known c.in_ok-new.ensures.tracked.known),
    )
