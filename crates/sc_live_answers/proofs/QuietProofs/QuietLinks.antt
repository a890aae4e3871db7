-- The link of a group that stands in a quiet prefix is as a quiet journal asks it.
use Rattle.std.proofs.Common.{◌≡◌, ◌^◌, ◌<◌, true, Option, Some, None, refl, sym, ◌∙◌, ap, subst, arith}
use Rattle.std.specs.Option.{option_map}
use Rattle.std.proofs.lemmas.Option.{none-some, same_Some}
use Rattle.sc_base.specs.Definitions.{Among, Arc, IsArc, holds, end_of, is_member}
use Rattle.sc_base.proofs.Lemmas.{draw_is}
use Rattle.sc_node_table.specs.Values.{Base}
use Rattle.sc_words.specs.ideal.IdealDefinitions.{holds_key}
use Rattle.sc_meaning.specs.entries.EntryDefinitions.{effective, effective_by, IsPlaced, StoreWorld, named_group, is_named}
use Rattle.sc_meaning.specs.declared.entries.Cut.{Cut}
use Rattle.sc_law_entries.specs.logs.LogDefinitions.{Rows, AreItsLogs}
use Rattle.sc_law_entries.proofs.LogsProofs.LogLemmas.{find_base}
use Rattle.sc_group_table.specs.machine.MachineDefinitions.{Group}
use Rattle.sc_words.proofs.PaxosProofs.PaxosLemmas.{find_found}
use Rattle.sc_scenario.specs.declared.scenario.scenarios.Scenario.{Scenario}
use Rattle.sc_meaning.specs.sound.SoundDefinitions.{groups_at, birth_at, is_birth_of, world_at, decided_state, as_nodes, IsOneMap}
use Rattle.sc_law_groups.specs.whole.WholeDefinitions.{ValidJournalsAreSound, ValidEntriesAreLogs}
use Rattle.sc_live_steps.specs.calm.CalmDefinitions.{HasReplica, IsNewest}
use Rattle.sc_live_answers.specs.AnswerDefinitions.{over_at, replicas_at, FreeGroupsHaveArcs, PrefixesAreFound, QuietLogsAreExecuted, PrefixesAreLinked, AreAllFree, LinksWereMembers, PrefixGroupsHaveReplicas}
use Rattle.sc_live_answers.proofs.QuietProofs.QuietGroupReplicas.{even, kept, place, states}
use Rattle.sc_live_answers.proofs.QuietProofs.QuietPrefixGroups.{found, most, ends, last_state}
use Rattle.sc_live_answers.proofs.RestProofs.ReachableGroups.{last, has_replica, link_of}
use Rattle.sc_live_answers.proofs.QuietProofs.QuietGroupCuts.{key_at, key_there, first_held, serves_it}
use Rattle.sc_live_answers.proofs.RestProofs.LeaderWork.{not_some as none_of}

-- ---- a key at a position

module _ (scenario : Scenario) (prefix : Rows) (map : IsOneMap (world_at as_nodes scenario.groups prefix)) (logs : AreItsLogs as_nodes scenario.groups prefix) (apart : (one other : Base) → Among one (groups_at as_nodes scenario.groups prefix) → Among other (groups_at as_nodes scenario.groups prefix) → one.core.id ≡ other.core.id → one ≡ other)
    (free : AreAllFree scenario prefix) (arcs : (base : Base) → Among base (groups_at as_nodes scenario.groups prefix) → (decided_state as_nodes base prefix).core.gone ≡ None → IsArc (decided_state as_nodes base prefix).core.arc × ((decided_state as_nodes base prefix).core.arc.lo < 2 ^ 32)) where
  abbrev world : StoreWorld
  world = world_at as_nodes scenario.groups prefix

  abbrev state : Base → Group
  state base = decided_state as_nodes base prefix

  there_is : (base : Base) → Among base (groups_at as_nodes scenario.groups prefix) → named_group base.core.id world.groups ≡ Some (state base)
  there_is base a = logs.states base.core.id ∙ ap (option_map state) (find_base (groups_at as_nodes scenario.groups prefix) base a (λ other b e. apart other base b a e))

  -- the effective record of a group that is free is its own
  effective_is : (base : Base) → Among base (groups_at as_nodes scenario.groups prefix) → effective world base.core.id ≡ Some (state base)
  effective_is base a =
      ap (option_map (λ (g : Group). effective_by g.core.lock world.transactions g)) (there_is base a) ∙ ap (λ lock. Some (effective_by lock world.transactions (state base))) (free base a)

  -- the group of a cut is one of these
  of_cut : (cut : Cut) (p : IsPlaced world cut) → (base : Base) × Among base (groups_at as_nodes scenario.groups prefix) × (base.core.id ≡ cut.group) × (p.group ≡ state base)
  of_cut cut p = by (birth_at as_nodes scenario.groups prefix cut.group) refl
    where
      by : (o : Option Base) → birth_at as_nodes scenario.groups prefix cut.group ≡ o → (base : Base) × Among base (groups_at as_nodes scenario.groups prefix) × (base.core.id ≡ cut.group) × (p.group ≡ state base)
      by None e =
          let none : named_group cut.group world.groups ≡ None = logs.states cut.group ∙ ap (option_map state) e in
          absurd (none-some p.group (sym (ap (option_map (λ (g : Group). effective_by g.core.lock world.transactions g)) none) ∙ p.fact))
      by (Some base) e =
          let f = find_found (is_birth_of cut.group) (groups_at as_nodes scenario.groups prefix) base e in
          let named = draw_is base.core.id cut.group f.1 in
          (base, f.0, named, same_Some p.group (state base) (sym p.fact ∙ (ap (effective world) (sym named) ∙ effective_is base f.0)))

  -- who stands behind a group that stands
  pub record HasNext (base : Base) : Type 0 where
    pub other : Base
    pub among : Among other (groups_at as_nodes scenario.groups prefix)
    pub named : (state base).core.succ.group ≡ other.core.id
    pub stands : (state other).core.gone ≡ None
    pub begins : (state other).core.arc.lo ≡ end_of (state base).core.arc

  -- the cut of a group that stands, whose effective record is its own
  pub record HasCut (base : Base) : Type 0 where
    pub cut : Cut
    pub among : Among cut world.ring
    pub own : effective world cut.group ≡ Some (state base)

  pub cut_of : (base : Base) → Among base (groups_at as_nodes scenario.groups prefix) → (state base).core.gone ≡ None → HasCut base
  cut_of base a stands =
      let arc = arcs base a stands in
      let key = key_at (state base).core.arc.lo in
      let held : holds_key (state base).core.arc key ≡ true = ap (holds (state base).core.arc) (key_there (state base).core.arc.lo arc.1) ∙ first_held (state base).core.arc arc in
      let here = find_found (is_named base.core.id) world.groups (state base) (there_is base a) in
      let c = map.serves_apart (state base) here.0 key (serves_it (state base) key held (free base a) stands) in
      record { cut = c.0; among = c.1; own = ap (effective world) (c.2 ∙ draw_is (state base).core.id base.core.id here.1) ∙ effective_is base a }

  pub next_of : (base : Base) → Among base (groups_at as_nodes scenario.groups prefix) → (state base).core.gone ≡ None → HasNext base
  next_of base a stands =
      let c = cut_of base a stands in
      let p = map.placed c.cut c.among in
      let own : p.group ≡ state base = same_Some p.group (state base) (sym p.fact ∙ c.own) in
      let n = p.succ in
      let x = map.placed n.0 n.1 in
      let of = of_cut n.0 x in
      record {
        other = of.0;
        among = of.1;
        named = ap (λ (g : Group). g.core.succ.group) (sym own) ∙ (n.3 ∙ sym of.2);
        stands = ap (λ (g : Group). g.core.gone) (sym of.3) ∙ x.here;
        begins = ap (λ (g : Group). g.core.arc.lo) (sym of.3) ∙ (ap (λ (r : Arc). r.lo) x.arc ∙ (n.2 ∙ ap end_of (sym p.arc ∙ ap (λ (g : Group). g.core.arc) own)));
      }

module _ (executed : QuietLogsAreExecuted) (finds : PrefixesAreFound) (all_there : PrefixGroupsHaveReplicas) (haves : FreeGroupsHaveArcs) (links : LinksWereMembers) (sounds : ValidJournalsAreSound) (entries : ValidEntriesAreLogs) where
  pub prefixes_are_linked : PrefixesAreLinked
  prefixes_are_linked words scenario journal prefix by base course lead q free a k stands here =
      let there = all_there words scenario journal prefix q in
      let f = found executed finds words scenario journal prefix q in
      let end = ends executed finds words scenario journal prefix q base a by course k in
      let leads = (even by words scenario journal prefix base course k).led stands in
      let far = leads.leads.executed in
      let own = place by words scenario journal prefix base course k course.ballot.node lead here in
      let whole = last_state executed finds words scenario journal prefix q base a course.ballot.node lead here (omega (arith, far, own, end)) in
      let led_stands : lead.group.core.gone ≡ None = none_of lead.group.core.gone ((states by words scenario journal prefix base course k course.ballot.node lead here).ends ∙ (ap (over_at as_nodes base journal) (omega (arith, far, own)) ∙ (sym k.led.ends ∙ stands))) in
      let map = (sounds as_nodes refl words scenario q.calm.valid journal q.calm.lawful prefix q.begins.more q.begins.fact).whole in
      let n = next_of scenario prefix map (entries as_nodes refl words scenario q.calm.valid prefix f.lawful) (λ one other x y e. f.apart one other (f.later one x) (f.later other y) e) free
      (λ b x s. haves words scenario prefix b q.calm.valid f.lawful x (free b x) s) base a (ap (λ (g : Group). g.core.gone) (sym whole) ∙ led_stands) in
      let last_ = last executed finds words scenario journal prefix q there n.other n.among in
      let other = executed words scenario journal prefix n.other q n.among (there n.other n.among) in
      let named : lead.group.core.succ.group ≡ n.other.core.id = ap (λ (g : Group). g.core.succ.group) whole ∙ n.named in
      let newest : IsNewest (replicas_at scenario prefix) n.other.core.id last_.1 = record {
        is_there = subst (λ node. replicas_at scenario prefix n.other.core.id node ≡ Some last_.1) (sym (kept _ words scenario journal prefix n.other other.0.course other.0.quiet last_.0 last_.1 last_.2.is_there).0.0) last_.2.is_there;
        most = λ node x e. (let low = most executed finds words scenario journal prefix q n.other n.among node x e in let high = last_.2.next_is in omega (arith, low, high));
      } in
      record {
        behind = last_.1;
        newest = subst (λ name. IsNewest (replicas_at scenario prefix) name last_.1) (sym named) newest;
        stands = ap (λ (g : Group). g.core.gone) last_.2.state ∙ n.stands;
        begins = ap (λ (g : Group). g.core.arc.lo) last_.2.state ∙ (n.begins ∙ ap (λ (g : Group). end_of g.core.arc) (sym whole));
        nodes = λ node m. (
            let were = link_of executed finds words scenario journal prefix q there free links base a in
            subst (λ name. HasReplica (replicas_at scenario prefix) name node) (ap (λ (g : Group). g.core.succ.group) (sym whole))
            (has_replica executed finds words scenario journal prefix q there (decided_state as_nodes base prefix).core.succ.group node (were.each node (ap (λ (g : Group). is_member g.core.succ.members node) (sym whole) ∙ m))));
      }
