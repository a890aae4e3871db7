-- What a scan of the first rows of a journal that was played tells.
use Rattle.std.proofs.Common.{◌≡◌, ℕ, ◌<◌, ◌^◌, List, length, take, drop, refl, sym, ◌∙◌, ap, subst, take-append-drop}
use Rattle.sc_actor.proofs.WalkLemmas.{lawful-prefix}
use Rattle.sc_actor.specs.Walk.{IsLawful}
use Rattle.sc_actor.specs.declared.rows.Row.{Row}
use Rattle.sc_base.specs.Arc.{IsArc}
use Rattle.sc_texts.specs.chance.KeyStream.{two_words}
use Rattle.sc_words.specs.declared.commands.orders.OrderLine.{OrderLine}
use Rattle.sc_mail.specs.declared.bodies.Mail.{Mail}
use Rattle.sc_world_entries.specs.scans.Laws.{EntriesCountLogs, ScansShow}
use Rattle.sc_world_entries.specs.scans.Scan.{entries_in, scan_of}
use Rattle.sc_world_entries.specs.scans.Text.{scan_lines}
use Rattle.sc_scenario.specs.scenario.Valid.{IsValid}
use Rattle.sc_scenario.specs.declared.scenario.scenarios.Scenario.{Scenario}
use Rattle.sc_meaning.specs.sound.GroupsOf.{entries_at, world_at}
use Rattle.sc_meaning.specs.sound.Players.{system_of, schedule, Lawful, as_nodes}
use Rattle.sc_meaning.specs.sound.Soundness.{IsSoundThroughout}
use Rattle.sc_law_groups.specs.whole.Valid.{ValidEntriesAreLogs}
use Rattle.sc_cli.specs.declared.subcommands.Sight.{Sight}
use Rattle.sc_run.specs.Shown.{ShowsScan}

module _ (tell : ScansShow) (count : EntriesCountLogs) (logs : ValidEntriesAreLogs) (scenario : Scenario) (valid : IsValid scenario) (journal : List (Row Mail OrderLine)) (lawful : Lawful as_nodes two_words scenario journal) (sound : IsSoundThroughout as_nodes scenario journal) where
  pub shows_scan : (sight : Sight) → IsArc sight.arc → sight.arc.lo < 2 ^ 32 → (rows : List (Row Mail OrderLine)) → rows ≡ take sight.rows journal → (lines : List (List ℕ))
      → lines ≡ scan_lines sight.most (length rows) (scan_of (world_at as_nodes scenario.groups rows) (entries_in (entries_at as_nodes scenario.groups rows)) sight.arc)
      → ShowsScan scenario sight journal lines
  shows_scan sight is fits rows rows_are lines lines_are =
      let first : List (Row Mail OrderLine) = take sight.rows journal in
      let parts = take-append-drop sight.rows journal in
      let lawful_first : Lawful as_nodes two_words scenario first =
      lawful-prefix (system_of as_nodes two_words scenario) (schedule scenario) first (drop sight.rows journal) (subst (IsLawful (system_of as_nodes two_words scenario) (schedule scenario)) (sym parts) lawful) in
      let entries = logs as_nodes refl two_words scenario valid first lawful_first in
      record {
        text = lines_are
            ∙ ap (λ (some : List (Row Mail OrderLine)). scan_lines sight.most (length some) (scan_of (world_at as_nodes scenario.groups some) (entries_in (entries_at as_nodes scenario.groups some)) sight.arc)) rows_are
            ∙ ap (scan_lines sight.most (length first)) (count as_nodes scenario.groups first entries sight.arc);
        store = tell as_nodes scenario.groups first (sound first (drop sight.rows journal) (sym parts)).whole entries sight.arc is fits;
      }
