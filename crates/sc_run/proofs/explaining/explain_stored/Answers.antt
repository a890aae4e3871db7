use Rattle.std.proofs.Common.{◌≡◌, ℕ, List, Option, [], sym, subst, append-nil}
use Rattle.std.specs.Prelude.{MatchOption}
use Rattle.sc_actor.specs.declared.rows.Row.{Row}
use Rattle.sc_texts.specs.chance.KeyStream.{two_words}
use Rattle.sc_words.specs.declared.commands.cores.Base.{Base}
use Rattle.sc_words.specs.declared.commands.orders.OrderLine.{OrderLine}
use Rattle.sc_law_refusal.specs.refusal.Journals.{RefusesWithCause}
use Rattle.sc_meaning.specs.entries.Worlds.{CoverThroughout}
use Rattle.sc_mail.specs.declared.bodies.Mail.{Mail}
use Rattle.sc_meaning.specs.sound.GroupsOf.{entries_at}
use Rattle.sc_meaning.specs.sound.Players.{Lawful, as_nodes}
use Rattle.sc_meaning.specs.sound.Soundness.{IsSoundThroughout}
use Rattle.sc_world.specs.ReplayErrors.{IsBadRow}
use Rattle.sc_run.proofs.explaining.explain_stored.Goals as goal

pub explain-requires : goal.explain-requires
explain-requires c =
    let scenario = c.args.scenario.now in let bases = scenario.groups in let rows = c.args.rows in
    let stands : Lawful as_nodes two_words scenario rows × IsSoundThroughout as_nodes scenario rows × RefusesWithCause as_nodes scenario rows =
    subst
    (λ (bad : Option ℕ).
    MatchOption bad
    (Lawful as_nodes two_words scenario rows
    × IsSoundThroughout as_nodes scenario rows
    × RefusesWithCause as_nodes scenario rows)
    (IsBadRow scenario rows))
    c.in-None.is
    c.in_ok-bad_row.ensures in
    let rings : CoverThroughout bases (entries_at as_nodes bases rows) = (stands.1 rows [] (sym (append-nil rows))).rings in
    subst (λ (read : List Base). CoverThroughout read (entries_at as_nodes read c.as_slice-read.result.now)) (sym c.as_slice-groups.ensures)
    (subst (λ (read : List (Row Mail OrderLine)). CoverThroughout bases (entries_at as_nodes bases read)) (sym c.as_slice-read.ensures) rings)
