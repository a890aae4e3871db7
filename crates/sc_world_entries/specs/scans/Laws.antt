-- What a scan says of the store: its parts share the arc, its pairs are the map's, and each part is what its group's log gives.
use Rattle.std.specs.Prelude.{◌≡◌, ◌↔◌, ℕ, ◌<◌, ◌≤◌, ◌^◌, IsTrue, List, ◌++◌, map, length, drop, AllPairs, Some, None}
use Rattle.std.specs.List.{flat_map}
use Rattle.std.specs.FinMap.{empty, entries, get}
use Rattle.sc_base.specs.Among.{Among}
use Rattle.sc_base.specs.Arc.{Arc, IsArc, holds}
use Rattle.sc_actor.specs.declared.rows.Row.{Row}
use Rattle.sc_words.specs.declared.commands.cores.Base.{Base}
use Rattle.sc_words.specs.declared.commands.orders.OrderLine.{OrderLine}
use Rattle.sc_mail.specs.declared.bodies.Mail.{Mail}
use Rattle.sc_words.specs.ideal.History.{contents_after}
use Rattle.sc_words.specs.ideal.IdealStore.{holds_key}
use Rattle.sc_group_table.specs.machine.Group.{Group}
use Rattle.sc_meaning.specs.declared.entries.Cut.{Cut}
use Rattle.sc_meaning.specs.entries.Effective.{effective_by}
use Rattle.sc_meaning.specs.entries.Rings.{Covers}
use Rattle.sc_meaning.specs.entries.Worlds.{StoreWorld}
use Rattle.sc_meaning.specs.sound.Players.{Ahead}
use Rattle.sc_meaning.specs.sound.GroupsOf.{entries_at, groups_at, world_at}
use Rattle.sc_meaning.specs.sound.Logs.{decided_log, decided_state}
use Rattle.sc_meaning.specs.sound.Soundness.{IsOneMap}
use Rattle.sc_law_entries.specs.logs.Findings.{AreItsLogs}
use Rattle.sc_world_entries.specs.declared.scans.walking.Part.{Part}
use Rattle.sc_world_entries.specs.declared.scans.scans.Shown.{Shown}
use Rattle.sc_world_entries.specs.scans.Order.{HaveKeysOnce, Pair, ordered}
use Rattle.sc_world_entries.specs.scans.Pages.{after_key, next_key, pages_from}
use Rattle.sc_world_entries.specs.scans.Scan.{all_pairs, entries_in, scan_at, scan_of}
use Rattle.sc_world_entries.specs.scans.Walk.{parts_in}

-- ---- the parts

-- a part lies within a range of its group
pub record IsWithinCut (ring : List Cut) (part : Part) : Type 0 where
  pub cut : Cut
  pub stands : Among cut ring
  pub group : part.group ≡ cut.group
  pub within : (p : ℕ) → IsTrue (holds part.arc p) → IsTrue (holds cut.arc p)

-- no position lies in both of two parts
abbrev pub ShareNothing : Part → Part → Type 0
ShareNothing part other = (p : ℕ) → IsTrue (holds part.arc p) → IsTrue (holds other.arc p) → ⊥

-- the parts cover an arc once
pub record ShareArc (ring : List Cut) (arc : Arc) (parts : List Part) : Type 0 where
  -- each part has an arc of the ring and lies within a range of its group
  pub arcs : (part : Part) → Among part parts → IsArc part.arc × (part.arc.lo < 2 ^ 32)
  pub cuts : (part : Part) → Among part parts → IsWithinCut ring part
  -- each position of the arc lies in a part
  pub some : (p : ℕ) → IsTrue (holds arc p) → (part : Part) × Among part parts × IsTrue (holds part.arc p)
  -- no position lies in two parts
  pub once : AllPairs ShareNothing parts
  -- no position outside the arc lies in a part
  pub only : (part : Part) → Among part parts → (p : ℕ) → IsTrue (holds part.arc p) → IsTrue (holds arc p)

-- the walk through a ring that covers shares each arc out
abbrev pub WalksShareArcs : Type 0
WalksShareArcs = (ring : List Cut) → Covers ring → (arc : Arc) → IsArc arc → arc.lo < 2 ^ 32 → ShareArc ring arc (parts_in ring arc)

-- ---- the pairs

-- the pairs of a scan are those of the map after the history whose keys the arc holds, each key once
pub record HasMap (world : StoreWorld) (arc : Arc) (scan : List Shown) : Type 0 where
  pub pairs : (key value : List ℕ) → Among (key, value) (all_pairs scan) ↔ ((get (contents_after empty world.history) key ≡ Some value) × IsTrue (holds_key arc key))
  pub once : HaveKeysOnce (all_pairs scan)

-- ---- each part

-- A part is of a group of the journal: its slot is the length of the group's log, and its pairs are those of the group after that log, and after the outcome of a decided transaction that the log lacks.
pub record IsOfItsLog (ahead : Ahead) (bases : List Base) (rows : List (Row Mail OrderLine)) (shown : Shown) : Type 0 where
  pub base : Base
  pub stands : Among base (groups_at ahead bases rows)
  pub name : base.core.id ≡ shown.part.group
  pub slot : shown.slot ≡ length (decided_log ahead base rows)
  pub pairs : let group : Group = decided_state ahead base rows in
      shown.pairs ≡ ordered shown.part.arc (entries (effective_by group.core.lock (world_at ahead bases rows).transactions group).pairs)

-- ---- all together

-- a scan is what an arc holds after some rows: its parts share the arc, its pairs are the map's, and each part is of its group's log
pub record ShowsStore (ahead : Ahead) (bases : List Base) (rows : List (Row Mail OrderLine)) (arc : Arc) (scan : List Shown) : Type 0 where
  pub parts : ShareArc (world_at ahead bases rows).ring arc (map (λ shown. shown.part) scan)
  pub pairs : HasMap (world_at ahead bases rows) arc scan
  pub logs : (shown : Shown) → Among shown scan → IsOfItsLog ahead bases rows shown

-- a scan of rows that make one map, and whose entries are the logs of their groups, is what the arc holds
abbrev pub ScansShow : Type 0
ScansShow = (ahead : Ahead) (bases : List Base) (rows : List (Row Mail OrderLine)) → IsOneMap (world_at ahead bases rows) → AreItsLogs ahead bases rows
    → (arc : Arc) → IsArc arc → arc.lo < 2 ^ 32 → ShowsStore ahead bases rows arc (scan_at ahead bases rows arc)

-- where entries are logs, a scan that counts each group's entries is one that takes the length of its log
abbrev pub EntriesCountLogs : Type 0
EntriesCountLogs = (ahead : Ahead) (bases : List Base) (rows : List (Row Mail OrderLine)) → AreItsLogs ahead bases rows
    → (arc : Arc) → scan_of (world_at ahead bases rows) (entries_in (entries_at ahead bases rows)) arc ≡ scan_at ahead bases rows arc

-- ---- pages

-- pages of at least one pair, of a list that has each key once, follow one another
pub record PagesFollow : Type 0 where
  -- where more pairs are left than a page takes, all that it leaves comes behind its key, wherever in the list the page begins
  pub next : (most : ℕ) (prefix rest : List Pair) → HaveKeysOnce (prefix ++ rest) → 0 < most → most < length rest → after_key (next_key most rest) (prefix ++ rest) ≡ drop most rest
  -- a page that takes all that is left gives no key
  pub last : (most : ℕ) (rest : List Pair) → length rest ≤ most → next_key most rest ≡ None
  -- the pages from the start on, one after another, are the list
  pub whole : (most many : ℕ) (all : List Pair) → HaveKeysOnce all → 0 < most → length all ≤ many → flat_map (λ page. page) (pages_from many most all None) ≡ all
