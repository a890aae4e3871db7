use Rattle.std.proofs.Common.{take, drop, sym, ap, subst, ◌∙◌}
use Rattle.std.proofs.lemmas.List.{take-append-drop}
use Rattle.sc_meaning.specs.entries.Worlds.{CoverThroughout}
use Rattle.sc_meaning.specs.sound.GroupsOf.{entries_at}
use Rattle.sc_meaning.specs.sound.Players.{as_nodes}
use Rattle.sc_tests_runs.proofs.scan_tests.prefix_is_map.Goals as goal

-- the ring covers after each entry of first rows
pub is_map-requires : goal.is_map-requires
is_map-requires g c =
    let groups = c.args.scenario.now.groups in
    let journal = c.args.journal.now in
    let first = (c.requires.sound (take c.args.count journal) (drop c.args.count journal) (sym (take-append-drop c.args.count journal))).rings in
    subst (λ bases. CoverThroughout bases (entries_at as_nodes bases c.first_rows-first.result.now)) (sym c.as_slice-bases.ensures)
    (subst (λ rows. CoverThroughout groups (entries_at as_nodes groups rows)) (sym (c.first_rows-first.ensures ∙ ap (take c.args.count) c.as_slice.ensures)) first)
