-- Each group of a quiet prefix has replicas at its first members: those of a scenario from birth on, and each child since its group's members learnt the entry that names it.
use Rattle.std.proofs.Common.{◌≡◌, ℕ, zero, suc, ◌≤◌, true, List, [], length, Some, None, inl, inr, ◌∙◌, ap, subst, arith}
use Rattle.std.proofs.lemmas.Bool.{cond-true}
use Rattle.sc_base.specs.Definitions.{Among, is_member}
use Rattle.sc_node_table.specs.Values.{Base}
use Rattle.sc_live_orderly.specs.OrderlyDefinitions.{AreInTime}
use Rattle.sc_scenario.specs.scenario.Definitions.{IsBounded, ValidScenariosAreBounded}
use Rattle.sc_scenario.specs.declared.scenario.scenarios.Scenario.{Scenario}
use Rattle.sc_node_table.specs.NodeDefinitions.{born_replica, slots_ahead}
use Rattle.sc_meaning.specs.sound.SoundDefinitions.{groups_at, decided_log, births, as_nodes}
use Rattle.sc_live_steps.specs.calm.CalmDefinitions.{players, HasReplica}
use Rattle.sc_law_entries.specs.logs.LogDefinitions.{Rows, Descends, AreFound}
use Rattle.sc_law_entries.specs.names.NameDefinitions.{OtherNamesAreFree, TakenOrdersAreAllowed, TakenWishesAreAllowed, WishesAreAtPositions}
use Rattle.sc_law_groups.specs.whole.WholeDefinitions.{ValidScenariosBeginWell}
use Rattle.sc_live_steps.specs.following.FollowingDefinitions.{Teaches, Mark, reached}
use Rattle.sc_live_journals.specs.rows.RowDefinitions.{view_at, marks_at, next_in}
use Rattle.sc_live_journals.proofs.RowsProofs.RowLemmas.{view_born}
use Rattle.sc_live_journals.proofs.MailProofs.MailLemmas.{replicas_last}
use Rattle.sc_live_journals.specs.groups.GroupDefinitions.{ScenariosAreWellBorn}
use Rattle.sc_live_answers.specs.AnswerDefinitions.{GroupsBeginTaught, slot_leaders_at, IsBirth, IsQuietPrefix, IsFoundPrefix, PrefixesAreFound, GroupsAreAskedThrough, NoMailForStrangers, ChildrenAreMade, PrefixGroupsHaveReplicas, PrefixMembersHaveReplicas}
use Rattle.sc_live_answers.proofs.LedGroupsProofs.GroupBeginnings.{begun_first}
use Rattle.sc_live_answers.proofs.QuietProofs.QuietGroupReplicas.{none}
use Rattle.sc_live_journals.specs.scenes.SceneDefinitions.{IsThere}
use Rattle.sc_live_answers.proofs.ChildrenProofs.NamedChildren.{birth_slot}
use Rattle.sc_live_answers.proofs.QuietProofs.QuietPrefixGroupLogs.{prefix_timely, newest_there, executed}
use Rattle.sc_live_answers.proofs.LinksProofs.LinkLogs.{found}

module _ (bounded : ValidScenariosAreBounded) (begin : ValidScenariosBeginWell) (allowed : TakenOrdersAreAllowed) (wishes : TakenWishesAreAllowed) (positions : WishesAreAtPositions) (free : OtherNamesAreFree)
    (wb : ScenariosAreWellBorn) (begin_taught : GroupsBeginTaught) (through : GroupsAreAskedThrough) (no_mail : NoMailForStrangers) (finds : PrefixesAreFound) (made : ChildrenAreMade) (words : ℕ → ℕ → ℕ × ℕ) (scenario : Scenario) (journal prefix : Rows) (q : IsQuietPrefix words scenario journal prefix) where
  bound : IsBounded scenario
  bound = bounded scenario q.calm.valid

  seen : IsFoundPrefix words scenario journal prefix
  seen = finds words scenario journal prefix q.calm q.begins

  are_found : AreFound as_nodes scenario.groups prefix
  are_found = found bounded begin allowed wishes positions free words scenario prefix q.calm.valid seen.lawful

  timely : AreInTime (players words (births as_nodes scenario)) prefix
  timely = prefix_timely words scenario journal prefix q

  first_member : (base : Base) → Among base (groups_at as_nodes scenario.groups prefix) → is_member base.core.members base.core.first ≡ true
  first_member base a = begun_first as_nodes scenario bound prefix base a

  -- the first members of a group have replicas
  abbrev HasAll : Base → Type 0
  HasAll base = (who : ℕ) → is_member base.core.members who ≡ true → HasReplica (view_at (births as_nodes scenario) prefix) base.core.id who

  -- those of a group of the scenario from birth on
  from_birth : (base : Base) → Among base scenario.groups → HasAll base
  from_birth base a who member =
      let one = view_born scenario bound base a who ∙ cond-true (is_member base.core.members who) (Some (born_replica slots_ahead who base)) None member in
      let later = replicas_last words scenario [] prefix base.core.id who (born_replica slots_ahead who base) timely one in
      (later.0, later.1)

  -- and those of a child since they learnt of it
  child_has : (parent base : Base) → Among parent (groups_at as_nodes scenario.groups prefix) → HasAll parent → (slot : ℕ) → slot ≤ length (decided_log as_nodes parent prefix) → IsBirth (decided_log as_nodes parent journal) parent slot base → HasAll base
  child_has parent base here has slot low b who member =
      let k = executed wb begin_taught through no_mail words scenario journal prefix parent q finds here has in
      let by = slot_leaders_at as_nodes scenario parent journal in
      let t = q.sent parent (seen.later parent here) in
      let on = made words by scenario journal prefix q.begins.more parent k.0.quiet.group q.begins.fact timely t.one t.so in
      let last = newest_there by words scenario journal prefix parent k.0.course k.0.quiet in
      let silent : (who_ : ℕ) → marks_at (players words (births as_nodes scenario)) prefix parent.core.id who_ ≡ [] = λ who_. none by words scenario journal prefix parent k.0.course k.0.quiet who_ in
      let within : next_in parent last.0 (view_at (births as_nodes scenario) prefix parent.core.id last.0) ≤ on.course.newest =
      subst (λ (ms : List Mark). reached (next_in parent last.0 (view_at (births as_nodes scenario) prefix parent.core.id last.0)) ms ≤ on.course.newest) (silent last.0) (on.led.followed.follows.within last.0) in
      let fact = ap (next_in parent last.0) last.2 in
      let top = last.3 in
      let log = k.1 in
      elim (on.born slot base who b (omega (arith, within, fact, top, log, low)) member) [
        | inl found_one ↦ found_one
        | inr a ↦ absurd (subst (Among (Teaches slot)) (silent who) a)
      ]

  descends : (depth : ℕ) (base : Base) → Descends as_nodes scenario.groups prefix depth base → HasAll base
  descends zero base a = from_birth base a
  descends (suc depth) base (parent, d, a) =
      let here = are_found.all parent (depth, d) in
      let on = seen.goes_on parent here in
      let s = birth_slot parent (decided_log as_nodes parent prefix) on.0 (decided_log as_nodes parent journal) base on.1 a in
      child_has parent base here (descends depth parent d) s.0 s.1 s.2

  has_all : (base : Base) → Among base (groups_at as_nodes scenario.groups prefix) → HasAll base
  has_all base a = (let f = are_found.only base a in descends f.0 base f.1)

  pub all_there : (base : Base) → Among base (groups_at as_nodes scenario.groups prefix) → IsThere (births as_nodes scenario) prefix base.core.id
  all_there base a = (let has = has_all base a base.core.first (first_member base a) in (base.core.first, has.0, has.1))

  -- what has a replica is a group of the prefix
  pub members_there : (base : Base) → Among base (groups_at as_nodes scenario.groups journal) → IsThere (births as_nodes scenario) prefix base.core.id → HasAll base
  members_there base a there =
      let of = seen.replicas base.core.id there.0 there.1 (seen.views base.core.id there.0 ∙ there.2) in
      subst HasAll (seen.apart of.base base (seen.later of.base of.among) a of.named) (has_all of.base of.among)

-- what these laws stand on
abbrev pub Stands : Type 0 → Type 0
Stands law =
    ValidScenariosAreBounded → ValidScenariosBeginWell → TakenOrdersAreAllowed → TakenWishesAreAllowed → WishesAreAtPositions → OtherNamesAreFree → ScenariosAreWellBorn → GroupsBeginTaught → GroupsAreAskedThrough → NoMailForStrangers → PrefixesAreFound → ChildrenAreMade → law

pub prefix_groups_have_replicas : Stands PrefixGroupsHaveReplicas
prefix_groups_have_replicas = all_there

pub prefix_members_have_replicas : Stands PrefixMembersHaveReplicas
prefix_members_have_replicas bounded begin allowed wishes positions free wb begin_taught through no_mail finds made words scenario journal prefix base q a there = members_there bounded begin allowed wishes positions free wb begin_taught through no_mail finds made words scenario journal prefix q base a there
