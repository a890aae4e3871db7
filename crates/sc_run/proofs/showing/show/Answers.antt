use Rattle.std.proofs.Common.{◌≡◌, List, length, take, subst, sym, ◌∙◌, ap, refl, Some}
use Rattle.std.specs.Prelude.{IfSome}
use Rattle.sc_actor.specs.declared.rows.Row.{Row}
use Rattle.sc_words.specs.declared.commands.orders.OrderLine.{OrderLine}
use Rattle.sc_mail.specs.declared.bodies.Mail.{Mail}
use Rattle.sc_world_entries.specs.scans.Scan.{entries_in, scan_of}
use Rattle.sc_world_entries.specs.scans.Text.{scan_lines}
use Rattle.sc_meaning.specs.sound.GroupsOf.{entries_at, world_at}
use Rattle.sc_meaning.specs.sound.Players.{as_nodes}
use Rattle.sc_meaning.specs.sound.Soundness.{IsSoundThroughout}
use Rattle.sc_cli.specs.Causes.{said_by}
use Rattle.sc_run.specs.declared.done.Text.{Text}
use Rattle.sc_run.specs.Played.{HasFilled, HasPlayedToEnd, IsPlayed}
use Rattle.sc_run.specs.Run.{Comes, journal_limit}
use Rattle.sc_run.specs.Shown.{ShowsScan}
use Rattle.sc_run.proofs.Plays.{comes_ended, comes_full}
use Rattle.sc_run.proofs.Shown.{shows_scan}
use Rattle.sc_run.proofs.showing.show.Goals as goal

pub returns-in_ok-lines-in-Ended : goal.returns-in_ok-lines-in-Ended
returns-in_ok-lines-in-Ended g c =
    let left = c.in_ok-left.left in let scenario = c.args.scenario.now in let sight = c.args.sight in
    let text : Text = record { lines = c.in_ok-lines-in-Ended.lines; journal = Some left.journal; parties = left.parties } in
    let ended : HasPlayedToEnd scenario journal_limit c.in-Ended.unsettled c.in-Ended.quiet c.in-Ended.skipped left.journal left.parties =
    subst (IsPlayed scenario journal_limit left.journal left.parties) c.in-Ended.is c.in_ok-left.ensures in
    let shows : ShowsScan scenario sight left.journal text.lines =
    shows_scan c.scans_show.ensures c.entries_count_logs.ensures c.valid_entries_are_logs.ensures scenario c.requires.valid left.journal ended.lawful ended.sound sight
    c.in_ok-lines-in-Ended.ensures.arc.0 c.in_ok-lines-in-Ended.ensures.arc.1 (take sight.rows left.journal) refl text.lines
    (subst (λ (rows : List (Row Mail OrderLine)). text.lines ≡ scan_lines sight.most (length (take sight.rows rows))
    (scan_of (world_at as_nodes scenario.groups (take sight.rows rows)) (entries_in (entries_at as_nodes scenario.groups (take sight.rows rows))) sight.arc))
    c.as_slice.ensures c.in_ok-lines-in-Ended.ensures.lines) in
    subst (λ begun. IfSome begun (λ said. Comes (ShowsScan scenario sight) scenario said text)) (sym (sym c.in-Some.is ∙ (c.said_by.ensures ∙ ap said_by c.in-Ended.is)))
    (comes_ended (ShowsScan scenario sight) scenario c.in-Ended.unsettled c.in-Ended.quiet c.in-Ended.skipped left.journal left.parties text ended shows refl refl)

pub returns-in_ok-full_text-in-Full : goal.returns-in_ok-full_text-in-Full
returns-in_ok-full_text-in-Full g c =
    let left = c.in_ok-left.left in let scenario = c.args.scenario.now in let text = c.in_ok-full_text-in-Full.field-0 in
    let filled : HasFilled scenario journal_limit left.journal = subst (IsPlayed scenario journal_limit left.journal left.parties) c.in-Full.is c.in_ok-left.ensures in
    subst (λ begun. IfSome begun (λ said. Comes (ShowsScan scenario c.args.sight) scenario said text)) (sym (sym c.in-Some.is ∙ (c.said_by.ensures ∙ ap said_by c.in-Full.is)))
    (comes_full (ShowsScan scenario c.args.sight) scenario left.journal text filled c.in_ok-full_text-in-Full.ensures)

pub lines_of-requires-clause-sound : goal.lines_of-requires-clause-sound
lines_of-requires-clause-sound g c =
    let left = c.in_ok-left.left in let scenario = c.args.scenario.now in
    let ended : HasPlayedToEnd scenario journal_limit c.in-Ended.unsettled c.in-Ended.quiet c.in-Ended.skipped left.journal left.parties =
    subst (IsPlayed scenario journal_limit left.journal left.parties) c.in-Ended.is c.in_ok-left.ensures in
    subst (IsSoundThroughout as_nodes scenario) (sym c.as_slice.ensures) ended.sound
