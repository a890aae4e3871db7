-- What an arc of the ring holds, part by part: each part with the number of entries of its group's log, and its pairs in order, by the group's effective record.
use Rattle.std.specs.Prelude.{ℕ, List, [], map, length, count_by, Option, Some, None}
use Rattle.std.specs.List.{flat_map}
use Rattle.std.specs.FinMap.{entries}
use Rattle.sc_base.specs.Arc.{Arc}
use Rattle.sc_base.specs.Same.{same_draw}
use Rattle.sc_base.specs.declared.names.Draw.{Draw}
use Rattle.sc_actor.specs.declared.rows.Row.{Row}
use Rattle.sc_words.specs.declared.commands.cores.Base.{Base}
use Rattle.sc_words.specs.declared.commands.orders.OrderLine.{OrderLine}
use Rattle.sc_mail.specs.declared.bodies.Mail.{Mail}
use Rattle.sc_group_table.specs.machine.Group.{Group}
use Rattle.sc_meaning.specs.declared.entries.LogEntry.{LogEntry}
use Rattle.sc_meaning.specs.entries.Effective.{effective}
use Rattle.sc_meaning.specs.entries.Worlds.{StoreWorld}
use Rattle.sc_meaning.specs.sound.Players.{Ahead}
use Rattle.sc_meaning.specs.sound.GroupsOf.{log_at, world_at}
use Rattle.sc_world_entries.specs.declared.scans.walking.Part.{Part}
use Rattle.sc_world_entries.specs.declared.scans.scans.Shown.{Shown}
use Rattle.sc_world_entries.specs.scans.Order.{Pair, ordered}
use Rattle.sc_world_entries.specs.scans.Walk.{parts_in}

-- the pairs of a group; none where there is no group
abbrev pub pairs_in : Option Group → List Pair
pairs_in None = []
pairs_in (Some group) = entries group.pairs

-- what a scan shows of a part, by the function that gives the length of each log
abbrev pub shown : StoreWorld → (Draw → ℕ) → Part → Shown
shown world slot part = record { part = part; slot = slot part.group; pairs = ordered part.arc (pairs_in (effective world part.group)) }

-- what an arc holds in a world, by the function that gives the length of each log
abbrev pub scan_of : StoreWorld → (Draw → ℕ) → Arc → List Shown
scan_of world slot arc = map (shown world slot) (parts_in world.ring arc)

-- the number of these entries that are of a group's log
abbrev pub entries_in : List LogEntry → Draw → ℕ
entries_in entries name = count_by (λ entry. same_draw entry.group name) entries

-- what an arc holds after some rows
abbrev pub scan_at : Ahead → List Base → List (Row Mail OrderLine) → Arc → List Shown
scan_at ahead bases rows = scan_of (world_at ahead bases rows) (λ name. length (log_at ahead bases rows name))

-- the pairs of all parts
abbrev pub all_pairs : List Shown → List Pair
all_pairs = flat_map (λ shown. shown.pairs)
