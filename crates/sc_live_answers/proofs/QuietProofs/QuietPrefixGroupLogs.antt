-- The groups that have replicas in a quiet prefix are quiet groups, and have executed their logs.
use Rattle.std.proofs.Common.{◌≡◌, ℕ, ◌+◌, ◌≤◌, true, true≢false, ◌∷◌, ◌++◌, length, Some, inl, inr, refl, sym, ◌∙◌, ap, subst, append_assoc, arith, length-append}
use Rattle.std.specs.Prelude.{is_some}
use Rattle.std.proofs.lemmas.Bool.{cases_Bool, cases_lt}
use Rattle.sc_base.specs.Definitions.{Among, is_member, least_of}
use Rattle.sc_node_table.specs.Values.{Base}
use Rattle.sc_live_orderly.specs.OrderlyDefinitions.{AreInTime}
use Rattle.sc_scenario.specs.declared.scenario.scenarios.Scenario.{Scenario}
use Rattle.sc_node_table.specs.NodeDefinitions.{ReplicaState, next}
use Rattle.sc_meaning.specs.sound.SoundDefinitions.{groups_at, decided_log, births, as_nodes, HasRun}
use Rattle.sc_live_steps.specs.calm.CalmDefinitions.{players, HasReplica}
use Rattle.sc_law_entries.specs.logs.LogDefinitions.{Rows}
use Rattle.sc_live_steps.specs.following.FollowingDefinitions.{Course, members_at, SlotLeaders}
use Rattle.sc_live_steps.proofs.FollowingProofs.FollowingLemmas.{least_in}
use Rattle.sc_live_journals.specs.logs.LogDefinitions.{logged_sets, IsGroupOf}
use Rattle.sc_live_journals.specs.rows.RowDefinitions.{view_at}
use Rattle.sc_live_journals.specs.groups.GroupDefinitions.{ScenariosAreWellBorn}
use Rattle.sc_live_journals.proofs.GroupsProofs.GroupLemmas.{kept_leaders_rest, scenarios_kept_born, quiet_groups_led}
use Rattle.sc_live_answers.specs.AnswerDefinitions.{over_at, GroupsBeginTaught, slot_leaders_at, IsQuietGroup, IsQuietPrefix, IsKnownGroup, IsFoundPrefix, PrefixesAreFound, QuietPrefixesHaveGroups, QuietLogsAreExecuted, GroupsAreAskedThrough, NoMailForStrangers, PrefixMembersHaveReplicas}
use Rattle.sc_live_answers.proofs.QuietProofs.QuietGroupReplicas.{at, over, all, view, members_have, newest_next, place, room}
use Rattle.sc_live_answers.proofs.LedGroupsProofs.LogLengths.{log_short}
pub use Rattle.sc_live_steps.proofs.PumpProofs.Pumping.{none_at as none_taken}

module _ (by : SlotLeaders) (words : ℕ → ℕ → ℕ × ℕ) (scenario : Scenario) (journal prefix : Rows) (base : Base) (course : Course) (q : IsQuietGroup by words scenario journal prefix base course) where
  -- some replica has executed as much as the newest state
  pub newest_there : (node : ℕ) × (r : ReplicaState) × (view by words scenario journal prefix base course q node ≡ Some r) × (next r ≡ course.newest)
  newest_there =
      let set = members_at (at by words scenario journal prefix base course q) course.newest in
      let one = least_of set in
      let member = least_in set (q.one.log.rosters (course.newest + 3)).some in
      let has = members_have by words scenario journal prefix base course q one course.newest (omega arith) member in
      (one, has.0, has.1, sym (place by words scenario journal prefix base course q one has.0 has.1) ∙ newest_next by words scenario journal prefix base course q one member)

  -- where one leads, it has nothing in flight
  leader_bound : course.running ≡ true → course.bound ≤ course.newest
  leader_bound runs =
      let leads = q.led.followed.follows.leads runs in
      let node = course.ballot.node in
      let has = members_have by words scenario journal prefix base course q node course.newest (omega arith) leads.member in
      let led = quiet_groups_led.stands (at by words scenario journal prefix base course q) (over by words scenario journal prefix base course q) by words (all by words scenario journal prefix base course q) prefix base course has.0 q.one.log.rosters q.timely q.quiet q.strangers q.led
      leads.stands has.1 in
      let rest = kept_leaders_rest (at by words scenario journal prefix base course q) (over by words scenario journal prefix base course q) by words (all by words scenario journal prefix base course q) prefix base course has.0 (scenarios_kept_born scenario) q.one.log.rosters q.timely
      q.quiet q.strangers q.led leads.stands has.1 (room by words scenario journal prefix base course q node has.0 has.1) in
      let newest = led.leads.newest in
      elim (cases_lt (next has.0) course.bound) [
        | inl lt ↦ absurd (true≢false (sym (led.leads.led.may.taken (next has.0) (omega arith) lt) ∙ ap is_some (none_taken has.0 (next has.0) rest.flights rest.ready)))
        | inr ge ↦ omega (arith, ge, newest)
      ]

  -- so nothing is offered that is not executed
  pub bound_low : course.bound ≤ course.newest
  bound_low = elim (cases_Bool course.running) [
    | inl runs ↦ leader_bound runs
    | inr off ↦ (let same = q.led.followed.follows.offered off in omega (arith, same))
  ]

-- the rows of a prefix come in time
pub prefix_timely : (words : ℕ → ℕ → ℕ × ℕ) (scenario : Scenario) (journal prefix : Rows) → IsQuietPrefix words scenario journal prefix → AreInTime (players words (births as_nodes scenario)) prefix
prefix_timely words scenario journal prefix q = λ before row after e. q.calm.timely before row (after ++ q.begins.more) (q.begins.fact ∙ (ap (λ rows. rows ++ q.begins.more) e ∙ append_assoc before (row ∷ after) q.begins.more))

module _ (wb : ScenariosAreWellBorn) (begin : GroupsBeginTaught) (through : GroupsAreAskedThrough) (none : NoMailForStrangers) (words : ℕ → ℕ → ℕ × ℕ) (scenario : Scenario) (journal prefix : Rows) (base : Base) (q : IsQuietPrefix words scenario journal prefix) where
  -- its first members have replicas
  abbrev pub HasMembers : Type 0
  HasMembers = (node : ℕ) → is_member base.core.members node ≡ true → HasReplica (view_at (births as_nodes scenario) prefix) base.core.id node

  pub known_group : Among base (groups_at as_nodes scenario.groups journal) → HasMembers → IsKnownGroup words scenario journal prefix base
  known_group a has =
      let group : IsGroupOf as_nodes words scenario journal base = record { open_slots = refl; valid = q.calm.valid; lawful = q.calm.lawful; stands = a } in
      let by = slot_leaders_at as_nodes scenario base journal in
      let t = q.sent base a in
      let on = through (logged_sets as_nodes base journal) (over_at as_nodes base journal) by words (births as_nodes scenario) prefix base (wb scenario) t.one t.so (prefix_timely words scenario journal prefix q) (begin words by scenario journal base group) in
      let len = ap length q.begins.fact in
      let parts = length-append prefix q.begins.more in
      let short = q.calm.short in
      record {
        course = on.course;
        quiet = record {
          group = group;
          more = q.begins.more;
          split = q.begins.fact;
          timely = prefix_timely words scenario journal prefix q;
          quiet = q.quiet;
          short = omega (arith, len, parts, short);
          strangers = none.strangers words scenario journal prefix q.calm q.begins q.sent base.core.id;
          led = on.led;
          taught = on.taught;
          one = t.one;
          born = has;
        };
        asked = on.asked;
      }

  module _ (finds : PrefixesAreFound) where
    found : IsFoundPrefix words scenario journal prefix
    found = finds words scenario journal prefix q.calm q.begins

    pub executed : Among base (groups_at as_nodes scenario.groups prefix) → HasMembers → (known : IsKnownGroup words scenario journal prefix base) × (length (decided_log as_nodes base prefix) + 1 ≡ known.course.newest)
    executed a has =
        let k = known_group (found.later base a) has in
        let by = slot_leaders_at as_nodes scenario base journal in
        let follows = k.quiet.led.followed.follows in
        let some = follows.some in
        let low = follows.low in
        let high = bound_low by words scenario journal prefix base k.course k.quiet in
        let short = log_short base prefix k.course.bound (decided_log as_nodes base prefix) (omega (arith, some, low)) (found.is_log base a) k.asked in
        let last = newest_there by words scenario journal prefix base k.course k.quiet in
        let of = found.replicas base.core.id last.0 last.1 (found.views base.core.id last.0 ∙ last.2) in
        let same = found.apart of.base base (found.later of.base of.among) (found.later base a) of.named in
        let run = subst (λ b. HasRun as_nodes b prefix last.1) same of.run in
        let within = run.within in
        let next_is = run.next_is in
        let newest = last.3 in
        (k, omega (arith, high, short, within, next_is, newest))

pub quiet_prefixes_have_groups : ScenariosAreWellBorn → GroupsBeginTaught → GroupsAreAskedThrough → NoMailForStrangers → PrefixMembersHaveReplicas → QuietPrefixesHaveGroups
quiet_prefixes_have_groups wb begin through none members words scenario journal prefix base q a there = known_group wb begin through none words scenario journal prefix base q a (members words scenario journal prefix base q a there)

pub quiet_logs_are_executed : ScenariosAreWellBorn → GroupsBeginTaught → GroupsAreAskedThrough → NoMailForStrangers → PrefixesAreFound → PrefixMembersHaveReplicas → QuietLogsAreExecuted
quiet_logs_are_executed wb begin through none finds members words scenario journal prefix base q a there =
    let f = finds words scenario journal prefix q.calm q.begins in
    executed wb begin through none words scenario journal prefix base q finds a (members words scenario journal prefix base q (f.later base a) there)
