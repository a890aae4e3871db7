use Rattle.std.proofs.Common.{◌++◌, List, length, refl, ap, ◌∙◌}
use Rattle.std.specs.List.{flat_map}
use Rattle.sc_meaning.specs.declared.entries.LogEntry.{LogEntry}
use Rattle.sc_world_entries.specs.decided.Found.{log_kept, grown_by}
use Rattle.sc_world_logs.specs.declared.known.Known.{Known}
use Rattle.sc_world_entries.proofs.DecidedProofs.Gained.{one_accepted}
use Rattle.sc_world_entries.proofs.decided.entries.after_acceptance.Goals as goal

pub returns-then-not-holds : goal.returns-then-not-holds
returns-then-not-holds c = λ row is adds heard found. (c.in_ok-found.ensures.0, c.in_ok-found.ensures.1 row is)

pub returns-then-not-calm : goal.returns-then-not-calm
returns-then-not-calm c = λ row is adds heard found.
    let count = ap length (c.log_in-count.ensures ∙ ap (log_kept c.args.name) c.as_slice-kept.ensures.value) in
    let taken = c.in_ok-taking.ensures c.args.before.now c.args.after.now adds in
    c.in_ok-born.ensures c.args.before.now row c.args.acceptance.now c.args.knowns.items is adds heard found.known (taken.holds c.if-not-holds.false found.known.each) count

pub returns : goal.returns
returns c = λ row is adds heard found.
    let entries = c.args.entries.now.items in
    let count = ap length (c.log_in-count.ensures ∙ ap (log_kept c.args.name) c.as_slice-kept.ensures.value) in
    let stay = (c.in_ok-taking.ensures c.args.before.now c.args.after.now adds).calm c.if-not-calm.false found.known.each in
    let goes = one_accepted c.args.bases.now c.args.before.now c.args.after.now row c.args.name c.args.acceptance.now c.args.knowns.items c.take_all.new.knowns.items _ is adds found.known (found.settled refl) stay count in (
      record { known = goes.known; settled = λ t. goes.settled },
      c.in_ok-add_grown.ensures
          ∙ ap (λ (ks : List Known). entries ++ flat_map (grown_by c.args.name (length c.log_in-count.result.now) (log_kept c.args.name ks)) ks) c.as_slice-later.ensures.value
          ∙ ap (λ (more : List LogEntry). entries ++ more) goes.entries,
    )
