-- What a scan says, where rows make one map and entries are logs.
use Rattle.std.proofs.Common.{◌≡◌, ℕ, inl, inr, List, [], ◌∷◌, map, length, find, Option, Some, None, refl, sym, ◌∙◌, ap, subst}
use Rattle.std.specs.Prelude.{IsTrue}
use Rattle.std.specs.List.{filter}
use Rattle.std.specs.Option.{option_map}
use Rattle.std.proofs.lemmas.List.{length-map}
use Rattle.std.proofs.lemmas.List.Sums.{length-filter}
use Rattle.std.specs.FinMap.{empty, entries, get}
use Rattle.sc_base.specs.Among.{Among}
use Rattle.sc_base.specs.Arc.{Arc, holds}
use Rattle.sc_base.specs.Text.{pos_of}
use Rattle.sc_base.specs.Same.{same_draw}
use Rattle.sc_base.specs.declared.names.Draw.{Draw}
use Rattle.sc_base.proofs.NameLemmas.{draw_is}
use Rattle.sc_actor.specs.declared.rows.Row.{Row}
use Rattle.sc_words.specs.declared.commands.cores.Base.{Base}
use Rattle.sc_words.specs.declared.commands.orders.OrderLine.{OrderLine}
use Rattle.sc_mail.specs.declared.bodies.Mail.{Mail}
use Rattle.sc_words.specs.ideal.History.{contents_after}
use Rattle.sc_words.specs.ideal.IdealStore.{Contents, holds_key, part_of}
use Rattle.sc_paxos_law.proofs.Among.{Among-flat_map, from_flat_map, from_map}
use Rattle.sc_words.proofs.PaxosProofs.ListLemmas.{Each-among, find_found}
use Rattle.sc_law_entries.proofs.RingProofs.Finds.{Pairwise, all_pairs, map_among, pairwise_from}
use Rattle.sc_group_table.specs.machine.Group.{Group}
use Rattle.sc_meaning.specs.declared.entries.LogEntry.{LogEntry}
use Rattle.sc_meaning.specs.entries.Effective.{effective, effective_by}
use Rattle.sc_meaning.specs.entries.Worlds.{StoreWorld}
use Rattle.sc_meaning.specs.sound.Players.{Ahead}
use Rattle.sc_meaning.specs.sound.GroupsOf.{birth_at, entries_at, groups_at, is_birth_of, log_at, log_by, world_at}
use Rattle.sc_meaning.specs.sound.Logs.{decided_state}
use Rattle.sc_meaning.specs.sound.Soundness.{IsOneMap}
use Rattle.sc_law_entries.specs.logs.Findings.{AreItsLogs}
use Rattle.sc_world_entries.specs.declared.scans.walking.Part.{Part}
use Rattle.sc_world_entries.specs.declared.scans.scans.Shown.{Shown}
use Rattle.sc_world_entries.specs.scans.Laws.{ShareNothing, EntriesCountLogs, HasMap, IsOfItsLog, IsWithinCut, ScansShow, ShareArc, WalksShareArcs}
use Rattle.sc_world_entries.specs.scans.Order.{Pair, ordered}
use Rattle.sc_world_entries.specs.scans.Scan.{entries_in, pairs_in, scan_of, shown}
use Rattle.sc_world_entries.specs.scans.Scan as scan
use Rattle.sc_world_entries.specs.scans.Walk.{parts_in}
use Rattle.sc_world_entries.proofs.ScanProofs.PairsInArcs.{KeysDiffer, entries_differ, entry_found, found_entry, found_in_part, from_order, in_order, order_differs, pairwise_append, part_found}

-- the parts of what is shown of parts
parts_shown : (world : StoreWorld) (slot : Draw → ℕ) (parts : List Part) → map (λ (one : Shown). one.part) (map (shown world slot) parts) ≡ parts
parts_shown world slot [] = refl
parts_shown world slot (part ∷ parts) = ap (λ more. part ∷ more) (parts_shown world slot parts)

-- pairs of several parts have keys that differ, where no position lies in two parts
once_all : (f : Part → Shown) (parts : List Part) → ((part : Part) → Among part parts → Pairwise KeysDiffer (f part).pairs)
    → ((part : Part) → Among part parts → (pair : Pair) → Among pair (f part).pairs → IsTrue (holds_key part.arc pair.0))
    → Pairwise ShareNothing parts → Pairwise KeysDiffer (scan.all_pairs (map f parts))
once_all f [] each within apart = tt
once_all f (part ∷ parts) each within apart =
    pairwise_append KeysDiffer (f part).pairs (scan.all_pairs (map f parts)) (each part (inl refl))
    (once_all f parts (λ other a. each other (inr a)) (λ other a. within other (inr a)) apart.1)
    (λ x y a b same.
    let k = from_flat_map (λ (one : Shown). one.pairs) (map f parts) y b in
    let l = from_map f parts k.0 k.1 in
    Each-among (ShareNothing part) parts l.0 apart.0 l.1 (pos_of x.0) (within part (inl refl) x a)
    (subst (λ key. IsTrue (holds l.0.arc (pos_of key))) (sym same) (within l.0 (inr l.1) y (subst (λ (one : Shown). Among y one.pairs) (sym l.2) k.2))))

-- ---- a world that is one map

module _ (world : StoreWorld) (one : IsOneMap world) (slot : Draw → ℕ) (arc : Arc) (share : ShareArc world.ring arc (parts_in world.ring arc)) where
  whole : Contents
  whole = contents_after empty world.history

  -- the pairs of a part's group are the map's on its cut
  record IsPartOfMap (part : Part) : Type 0 where
    pub cut : Arc
    pub within : (p : ℕ) → IsTrue (holds part.arc p) → IsTrue (holds cut p)
    pub pairs : pairs_in (effective world part.group) ≡ entries (part_of cut (contents_after empty world.history))

  is_part : (part : Part) → Among part (parts_in world.ring arc) → IsPartOfMap part
  is_part part a =
      let w = share.cuts part a in
      let placed = one.placed w.cut w.stands in
      record {
        cut = w.cut.arc;
        within = w.within;
        pairs = ap (λ name. pairs_in (effective world name)) w.group ∙ ap pairs_in placed.fact ∙ ap (λ contents. entries contents) (one.parts w.cut w.stands placed.group placed.fact);
      }

  part_differs : (part : Part) → Among part (parts_in world.ring arc) → Pairwise KeysDiffer (shown world slot part).pairs
  part_differs part a =
      let is = is_part part a in
      order_differs part.arc (pairs_in (effective world part.group)) (subst (Pairwise KeysDiffer) (sym is.pairs) (entries_differ (part_of is.cut (contents_after empty world.history))))

  part_holds : (part : Part) → Among part (parts_in world.ring arc) → (pair : Pair) → Among pair (shown world slot part).pairs → IsTrue (holds_key part.arc pair.0)
  part_holds part a pair b = (from_order part.arc (pairs_in (effective world part.group)) pair b).1

  part_has : (part : Part) → Among part (parts_in world.ring arc) → (key value : List ℕ) → Among (key, value) (shown world slot part).pairs → get (contents_after empty world.history) key ≡ Some value
  part_has part a key value b =
      let is = is_part part a in
      let there = subst (Among (key, value)) is.pairs (from_order part.arc (pairs_in (effective world part.group)) (key, value) b).0 in
      part_found is.cut (contents_after empty world.history) key value (entry_found (part_of is.cut (contents_after empty world.history)) key value there)

  has_part : (part : Part) → Among part (parts_in world.ring arc) → (key value : List ℕ) → get (contents_after empty world.history) key ≡ Some value → IsTrue (holds_key part.arc key) → Among (key, value) (shown world slot part).pairs
  has_part part a key value e held =
      let is = is_part part a in
      let there = found_entry (part_of is.cut (contents_after empty world.history)) key value (found_in_part is.cut (contents_after empty world.history) key value e (is.within (pos_of key) held)) in
      in_order part.arc (pairs_in (effective world part.group)) (key, value) (subst (Among (key, value)) (sym is.pairs) there) held

  all_had : (key value : List ℕ) → Among (key, value) (scan.all_pairs (scan_of world slot arc)) → (get (contents_after empty world.history) key ≡ Some value) × IsTrue (holds_key arc key)
  all_had key value a =
      let k = from_flat_map (λ (one : Shown). one.pairs) (scan_of world slot arc) (key, value) a in
      let l = from_map (shown world slot) (parts_in world.ring arc) k.0 k.1 in
      let there = subst (λ (one : Shown). Among (key, value) one.pairs) (sym l.2) k.2 in
      (part_has l.0 l.1 key value there, share.only l.0 l.1 (pos_of key) (part_holds l.0 l.1 (key, value) there))

  had_all : (key value : List ℕ) → (get (contents_after empty world.history) key ≡ Some value) × IsTrue (holds_key arc key) → Among (key, value) (scan.all_pairs (scan_of world slot arc))
  had_all key value h =
      let k = share.some (pos_of key) h.1 in
      Among-flat_map (λ (one : Shown). one.pairs) (scan_of world slot arc) (shown world slot k.0) (key, value) (map_among (shown world slot) (parts_in world.ring arc) k.0 k.1) (has_part k.0 k.1 key value h.0 k.2)

  pub has_map : HasMap world arc (scan_of world slot arc)
  has_map = record {
    pairs = λ key value. (all_had key value, had_all key value);
    once = all_pairs KeysDiffer (scan.all_pairs (scan_of world slot arc))
        (once_all (shown world slot) (parts_in world.ring arc) part_differs part_holds (pairwise_from ShareNothing (parts_in world.ring arc) share.once));
  }

-- ---- logs

module _ (ahead : Ahead) (bases : List Base) (rows : List (Row Mail OrderLine)) (one : IsOneMap (world_at ahead bases rows)) (logs : AreItsLogs ahead bases rows) where
  -- the group of a part, by its birth record
  of_birth : (part : Part) (group : Group) → effective (world_at ahead bases rows) part.group ≡ Some group
      → (birth : Option Base) → find (is_birth_of part.group) (groups_at ahead bases rows) ≡ birth
      → IsOfItsLog ahead bases rows (shown (world_at ahead bases rows) (λ name. length (log_at ahead bases rows name)) part)
  of_birth part group is None unborn =
      absurd (let none : None ≡ Some group =
      sym (ap (option_map (λ (g : Group). effective_by g.core.lock (world_at ahead bases rows).transactions g))
      (logs.states part.group ∙ ap (option_map (λ base. decided_state ahead base rows)) unborn)) ∙ is in cc)
  of_birth part group is (Some base) born =
      let k = find_found (is_birth_of part.group) (groups_at ahead bases rows) base born in
      record {
        base = base;
        stands = k.0;
        name = draw_is base.core.id part.group k.1;
        slot = ap (λ birth. length (log_by ahead rows birth)) born;
        pairs = ap (λ o. ordered part.arc (pairs_in o))
            (ap (option_map (λ (g : Group). effective_by g.core.lock (world_at ahead bases rows).transactions g))
            (logs.states part.group ∙ ap (option_map (λ base. decided_state ahead base rows)) born));
      }

  pub of_its_log : (part : Part) → IsWithinCut (world_at ahead bases rows).ring part
      → IsOfItsLog ahead bases rows (shown (world_at ahead bases rows) (λ name. length (log_at ahead bases rows name)) part)
  of_its_log part w =
      let placed = one.placed w.cut w.stands in
      of_birth part placed.group (ap (effective (world_at ahead bases rows)) w.group ∙ placed.fact) (birth_at ahead bases rows part.group) refl

pub scans_show : WalksShareArcs → ScansShow
scans_show shares ahead bases rows one logs arc is fits =
    let world = world_at ahead bases rows in
    let slot : Draw → ℕ = λ name. length (log_at ahead bases rows name) in
    let share = shares world.ring one.covers arc is fits in
    record {
      parts = subst (ShareArc world.ring arc) (sym (parts_shown world slot (parts_in world.ring arc))) share;
      pairs = has_map world one slot arc share;
      logs = λ it a.
          let k = from_map (shown world slot) (parts_in world.ring arc) it a in
          subst (IsOfItsLog ahead bases rows) k.2 (of_its_log ahead bases rows one logs k.0 (share.cuts k.0 k.1));
    }

-- ---- counting entries

pub entries_count : EntriesCountLogs
entries_count ahead bases rows logs arc =
    let entries = entries_at ahead bases rows in
    let same : (name : Draw) → entries_in entries name ≡ length (log_at ahead bases rows name) =
    λ name. sym (length-filter (λ (entry : LogEntry). same_draw entry.group name) entries)
    ∙ sym (length-map (filter (λ (entry : LogEntry). same_draw entry.group name) entries) (λ (entry : LogEntry). entry.command)) ∙ ap length (logs.logs name) in
    ap (λ (slot : Draw → ℕ). scan_of (world_at ahead bases rows) slot arc) (λ i name. same name i)
