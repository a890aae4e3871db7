-- The groups that rows decide, each with what is kept of it, and the entries that one more row adds.
use Rattle.std.specs.List.{flat_map, list_any}
use Rattle.std.specs.Prelude.{◌≡◌, ℕ, ◌+◌, Bool, List, [], ◌∷◌, length, drop, fold, map, find, true, false, if◌then◌else◌, Option, Some, None}
use Rattle.sc_base.specs.Among.{Each}
use Rattle.sc_base.specs.Same.{same_draw}
use Rattle.sc_base.specs.declared.names.Draw.{Draw}
use Rattle.sc_words.specs.declared.commands.commands.Command.{Command}
use Rattle.sc_words.specs.declared.commands.cores.Base.{Base}
use Rattle.sc_words.specs.declared.commands.orders.OrderLine.{OrderLine}
use Rattle.sc_mail.specs.declared.bodies.Mail.{Mail}
use Rattle.sc_actor.specs.declared.rows.Row.{Row}
use Rattle.sc_meaning.specs.sound.Players.{as_nodes}
use Rattle.sc_meaning.specs.declared.entries.LogEntry.{LogEntry}
use Rattle.sc_meaning.specs.sound.Accepts.{accepts}
use Rattle.sc_meaning.specs.sound.GroupsOf.{children_by, groups_at, with_birth, with_next_children, entries_from}
use Rattle.sc_world_logs.specs.declared.known.Known.{Known}
use Rattle.sc_world_logs.specs.declared.known.Taking.{Taking}
use Rattle.sc_world_entries.specs.declared.decided.births.Groups.{Groups}
use Rattle.sc_world_entries.specs.declared.decided.births.Heard.{Heard}
use Rattle.sc_world_logs.specs.Known.{IsKnown}

-- the log that is kept of a group, if the group was found, and else the empty log
abbrev pub kept_log : Option Known → List Command
kept_log None = []
kept_log (Some known) = known.log.items

-- whether what is kept is about the group with a name
abbrev pub is_kept_of : Draw → Known → Bool
is_kept_of name known = same_draw known.base.core.id name

-- the log that is kept of the group with a name
abbrev pub log_kept : Draw → List Known → List Command
log_kept name knowns = kept_log (find (is_kept_of name) knowns)

-- What is kept is about these groups, in their order, and says of each what the rows say.
pub record AreKnown (rows : List (Row Mail OrderLine)) (bases : List Base) (knowns : List Known) : Type 0 where
  pub bases_are : map (λ known. known.base) knowns ≡ bases
  pub each : Each (IsKnown rows) knowns

-- the children that the logs of these create are among the groups, by their names: to add them adds none
abbrev pub HaveChildrenOf : List Base → List Known → Type 0
HaveChildrenOf bases knowns = fold with_birth bases (flat_map (λ known. known.children.items) knowns) ≡ bases

-- What is kept later is about the same groups and says what the rows say.
pub record HoldKnown (rows : List (Row Mail OrderLine)) (knowns later : List Known) : Type 0 where
  pub same : map (λ known. known.base) later ≡ map (λ known. known.base) knowns
  pub each : Each (IsKnown rows) later

-- What is kept later is about the same groups and says what the longer rows say, and the logs of these groups create the same children in both.
pub record StayKnown (rows after : List (Row Mail OrderLine)) (knowns later : List Known) : Type 0 where
  pub hold : HoldKnown after knowns later
  pub children : Each (λ base. children_by as_nodes after base ≡ children_by as_nodes rows base) (map (λ known. known.base) knowns)

-- what became of what is kept of these groups after one row more
pub record AreTaken (rows after : List (Row Mail OrderLine)) (taking : Taking) (knowns later : List Known) : Type 0 where
  pub holds : taking.holds ≡ true → Each (IsKnown rows) knowns → HoldKnown after knowns later
  pub calm : taking.calm ≡ true → Each (IsKnown rows) knowns → StayKnown rows after knowns later

-- where all names are said to be heard, the rows accept nothing for a name that is not among them
abbrev pub IsHeard : List (Row Mail OrderLine) → Heard → Type 0
IsHeard rows heard = heard.all ≡ true → (name : Draw) → list_any (same_draw name) heard.names.items ≡ false → accepts name rows ≡ []

-- how long a group's log is, under its name
abbrev pub length_kept : Known → Draw × ℕ
length_kept known = (known.base.core.id, length known.log.items)

-- the length that is noted under a name; none is 0
abbrev pub length_of : Draw → List (Draw × ℕ) → ℕ
length_of name [] = 0
length_of name (noted ∷ lengths) = if same_draw noted.0 name then noted.1 else length_of name lengths

-- how long the log of a group was before a row, where the row adds to the log of the group with a name alone, which had this count of entries, and the other logs are as long as noted
abbrev pub length_before : Draw → ℕ → List (Draw × ℕ) → Draw → ℕ
length_before name count lengths group = if same_draw group name then count else length_of group lengths

-- how long the log is that is kept of the group with a name
abbrev pub log_length : List Known → Draw → ℕ
log_length knowns name = length (log_kept name knowns)

-- the entries that the log of a group has behind those that it had before, where this says how many it had
abbrev pub entries_behind : (Draw → ℕ) → List Known → Known → List LogEntry
entries_behind had knowns known =
    entries_from known.base.core.id (had known.base.core.id + 1) (drop (had known.base.core.id) (log_kept known.base.core.id knowns))

-- the entries of this log behind its first `count`, where what is kept is about the group with a name
abbrev pub grown_by : Draw → ℕ → List Command → Known → List LogEntry
grown_by name count log known = if same_draw known.base.core.id name then entries_from name (count + 1) (drop count log) else []

-- All groups that the rows decide were found, each with what the rows say of it; and where they are settled, one more round finds no other.
pub record AreTracked (bases : List Base) (rows : List (Row Mail OrderLine)) (groups : Groups) : Type 0 where
  pub known : AreKnown rows (groups_at as_nodes bases rows) groups.knowns.items
  pub settled : groups.settled ≡ true → with_next_children as_nodes rows (groups_at as_nodes bases rows) ≡ groups_at as_nodes bases rows
