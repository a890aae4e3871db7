-- What the entries of a world's rows make of its groups is one map.
use Rattle.std.proofs.Common.{◌≡◌, List, [], sym, ◌∙◌, ap, subst, append-nil}
use Rattle.sc_actor.specs.declared.rows.Row.{Row}
use Rattle.sc_words.specs.declared.commands.cores.Base.{Base}
use Rattle.sc_words.specs.declared.commands.orders.OrderLine.{OrderLine}
use Rattle.sc_meaning.specs.entries.Worlds.{StoreWorld, CoverThroughout}
use Rattle.sc_mail.specs.declared.bodies.Mail.{Mail}
use Rattle.sc_scenario.specs.declared.scenario.scenarios.Scenario.{Scenario}
use Rattle.sc_meaning.specs.sound.GroupsOf.{entries_at, world_at}
use Rattle.sc_meaning.specs.sound.Players.{as_nodes}
use Rattle.sc_meaning.specs.sound.Soundness.{IsOneMap, IsSoundThroughout}

-- what is shown of the scenario's groups and of rows of which each prefix is sound
pub one_map : (scenario : Scenario) (rows : List (Row Mail OrderLine)) → IsSoundThroughout as_nodes scenario rows
    → (groups : List Base) (read : List (Row Mail OrderLine)) (recorded : StoreWorld) → groups ≡ scenario.groups → read ≡ rows → recorded ≡ world_at as_nodes groups read → IsOneMap recorded
one_map scenario rows sound groups read recorded groups_are rows_are is =
    let all : recorded ≡ world_at as_nodes scenario.groups rows =
    is ∙ ap (λ bases. world_at as_nodes bases read) groups_are ∙ ap (λ whole. world_at as_nodes scenario.groups whole) rows_are in
    subst IsOneMap (sym all) (sound rows [] (sym (append-nil rows))).whole

-- after each of its entries the ring covers
pub rings : (scenario : Scenario) (rows : List (Row Mail OrderLine)) → IsSoundThroughout as_nodes scenario rows
    → (groups : List Base) (read : List (Row Mail OrderLine)) → groups ≡ scenario.groups → read ≡ rows → CoverThroughout groups (entries_at as_nodes groups read)
rings scenario rows sound groups read groups_are rows_are =
    let all : CoverThroughout scenario.groups (entries_at as_nodes scenario.groups rows) = (sound rows [] (sym (append-nil rows))).rings in
    subst (λ bases. CoverThroughout bases (entries_at as_nodes bases read)) (sym groups_are)
    (subst (λ whole. CoverThroughout scenario.groups (entries_at as_nodes scenario.groups whole)) (sym rows_are) all)
