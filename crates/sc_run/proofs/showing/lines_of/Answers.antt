use Rattle.std.proofs.Common.{take, drop, sym, subst}
use Rattle.std.proofs.lemmas.List.{take-append-drop}
use Rattle.sc_meaning.specs.entries.Worlds.{CoverThroughout}
use Rattle.sc_meaning.specs.sound.GroupsOf.{entries_at}
use Rattle.sc_meaning.specs.sound.Players.{as_nodes}
use Rattle.sc_run.proofs.showing.lines_of.Goals as goal

pub scan-requires : goal.scan-requires
scan-requires c =
    let bases = c.args.scenario.now.groups in
    let first = (c.requires.sound (take c.args.sight.rows c.args.rows.now) (drop c.args.sight.rows c.args.rows.now) (sym (take-append-drop c.args.sight.rows c.args.rows.now))).rings in
    subst (λ read. CoverThroughout read (entries_at as_nodes read c.first_rows-first.result.now)) (sym c.as_slice.ensures)
    (subst (λ rows. CoverThroughout bases (entries_at as_nodes bases rows)) (sym c.first_rows-first.ensures) first)
