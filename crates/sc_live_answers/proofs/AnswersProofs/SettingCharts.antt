-- The chart of some rows counts as the setting does that the last quiet journal before them gives.
use Rattle.std.proofs.Common.{◌≡◌, ℕ, zero, suc, ◌+◌, ◌≤◌, cond, true, false, true≢false, Bool, List, ◌∷◌, ◌-◌, length, min, Option, Some, None, inl, inr, refl, sym, ◌∙◌, ap, subst, arith}
use Rattle.std.specs.Prelude.{filter, is_some, ◌||◌, not}
use Rattle.std.proofs.lemmas.List.{take_all}
use Rattle.sc_base.specs.Definitions.{Among, Each}
use Rattle.sc_node_table.specs.Values.{Draw, Base, Route, OrderLine, Mail, Seat, Row}
use Rattle.sc_actor.specs.Definitions.{value}
use Rattle.sc_node_table.specs.NodeDefinitions.{replica_of, ReplicaState, name_of}
use Rattle.sc_words.proofs.PaxosProofs.PaxosLemmas.{Among-filter, Each-among, Each-from, Each-passes}
use Rattle.sc_scenario.specs.declared.scenario.scenarios.Scenario.{Scenario}
use Rattle.sc_scenario.specs.scenario.Definitions.{IsValid, ValidScenariosAreBounded}
use Rattle.sc_meaning.specs.sound.SoundDefinitions.{Player, player_table, node_seat, as_nodes, births, Lawful}
use Rattle.sc_live_steps.specs.calm.CalmDefinitions.{players, HasReplica, StandsQuiet, leads, is_leading, is_led}
use Rattle.sc_live_journals.proofs.ChartsProofs.ChartLemmas.{upto_low}
use Rattle.sc_live_journals.specs.charts.ChartDefinitions.{all_replicas, went_in, ends_by, way_by, names_at, chart_at, reach_in, GoInTurn, EndsFall, LedStandOnce, quiet_upto, quiet_prefix}
use Rattle.sc_live_journals.proofs.ChartsProofs.ChartLemmas.{led_by}
use Rattle.sc_live_plain.specs.PlainDefinitions.{replicas_after, setting_at, AreFramesOf, IsQuietJournal, replicas_of, HasGoneTo, Frame}
use Rattle.sc_live_answers.specs.AnswerDefinitions.{CountsAs, LawfulReplicasAreNamedOnce, GoneAgree, QuietChartsCount, AreAtNodes, AreReachable}
use Rattle.sc_live_answers.proofs.LinesProofs.Frames.{nodes_numbered}
use Rattle.sc_live_answers.proofs.RestProofs.GoneGroupsInPrefixes.{once_among, went_none, went_found, went_some}
use Rattle.sc_live_answers.proofs.OrdersProofs.OrderDeliveries.{gone_leads}
use Rattle.sc_live_answers.proofs.QuietProofs.QuietViews.{node_there, all_seen, seen_all}

-- ---- lists

-- no group that passes has a name that does not
left_out : (test : Draw → Bool) (group : Draw) (names : List Draw) → test group ≡ false → Each (λ other. other ≡ group → ⊥) (filter test names)
left_out test group names none = Each-from (λ other. other ≡ group → ⊥) (filter test names) (λ other a e. true≢false (sym (passed names other a) ∙ (ap test e ∙ none)))
  where
    passed : (xs : List Draw) (x : Draw) → Among x (filter test xs) → test x ≡ true
    passed xs x a = Each-among (λ y. test y ≡ true) (filter test xs) x (Each-passes test xs) a

-- one went where each of its replicas that is gone says
went_all : (group : Draw) (into : Route) (rs : List ReplicaState) (r : ReplicaState) → Among r rs → name_of r ≡ group → r.group.core.gone ≡ Some into
    → ((x : ReplicaState) (elsewhere : Route) → Among x rs → name_of x ≡ group → x.group.core.gone ≡ Some elsewhere → elsewhere ≡ into) → went_in group rs ≡ Some into
went_all group into rs r a named went agree =
    let some = went_some group into rs r a named went in
    let f = went_found group some.0 rs some.1 in
    some.1 ∙ ap Some (agree f.0 some.0 f.1 f.2 f.3)

-- ---- the longest way, and no ends

pub way_low : (most latest : ℕ) (o : Option ReplicaState) → way_by most latest o ≤ most
way_low most latest None = omega arith
way_low most latest (Some r) = by (r.running || is_some r.group.core.gone)
  where
    by : (b : Bool) → cond b 0 (min most (1 + latest - r.top.round)) ≤ most
    by true = omega arith
    by false = omega arith

ends_none : (n : ℕ) (rs : List ReplicaState) (group : Draw) → went_in group rs ≡ None → ends_by n rs group ≡ 0
ends_none zero rs group none = refl
ends_none (suc n) rs group none = ap (λ (o : Option Route). elim o [ None ↦ 0 | Some into ↦ 1 + ends_by n rs into.group ]) none

module _ (all_bounded : ValidScenariosAreBounded) (named : LawfulReplicasAreNamedOnce) (led_once : LedStandOnce) (falls : EndsFall) (words : ℕ → ℕ → ℕ × ℕ) (scenario : Scenario) (first : Base) (others : List Base) (rows later : List (Row Mail OrderLine)) (far sent : ℕ)
    (frames : List Frame) (turn : Draw → ℕ) (valid : IsValid scenario) (groups : scenario.groups ≡ first ∷ others) (lawful : Lawful as_nodes words scenario rows) (quiet : IsQuietJournal words scenario first rows) (homes : AreAtNodes scenario rows) (are : AreFramesOf (replicas_after scenario rows) frames)
    (reach : AreReachable (replicas_after scenario rows)) (agree : GoneAgree (replicas_after scenario rows)) (prefix : quiet_prefix (players words (births as_nodes scenario)) later ≡ rows)
    (turns : GoInTurn (names_at (births as_nodes scenario) rows) (all_replicas (births as_nodes scenario) rows) turn) where
  abbrev at : Draw → ℕ → Option ReplicaState
  at = replicas_after scenario rows

  abbrev seats : List (Seat Player)
  seats = births as_nodes scenario

  abbrev names : List Draw
  names = names_at seats rows

  abbrev all : List ReplicaState
  all = all_replicas seats rows

  abbrev seat_of : ℕ → Seat Player
  seat_of me = node_seat as_nodes scenario.groups scenario.policy me

  -- ---- replicas, seat by seat

  -- ---- who leads

  led_at : (group : Draw) (me : ℕ) (r : ReplicaState) → at group me ≡ Some r → is_leading (Some r) ≡ true → is_led seats rows group ≡ true
  led_at group me r e leading =
      let home = homes group me (r, e) in
      let n = quiet.nodes me home.0 home.1 in
      let found : replica_of group (replicas_of (value player_table (seat_of me) rows)) ≡ Some r = sym (ap (λ b. cond b (replica_of group (replicas_of (value player_table (seat_of me) rows))) None) (nodes_numbered all_bounded scenario valid me home.0 home.1)) ∙ e in
      led_by seats rows group (seat_of me) (node_there all_bounded named words scenario first others rows valid groups lawful quiet homes me home.0 home.1) (ap (leads group) n.1 ∙ (ap is_leading (sym (ap (λ player. replica_of group (replicas_of player)) n.1) ∙ found) ∙ leading))

  led : (group : Draw) (node : ℕ) → HasReplica at group node → is_led seats rows group ≡ true
  led group node has = elim (quiet.quiet.groups group node has) [
    | inl q ↦ led_at group q.lead.me q.lead q.newest.is_there (ap (λ b. b || is_some q.lead.group.core.gone) q.leads.running)
    | inr g ↦ led_at group g.last.me g.last g.newest.is_there (gone_leads g.last.running g.last.group.core.gone g.into g.went)
  ]

  -- ---- how far groups are

  frame_named : (frame : Frame) → Among frame frames → (group : Draw) × (q : StandsQuiet at group) × (frame.core.id ≡ group)
  frame_named frame a = (let f = are.are frame a in (f.0, f.1, ap (λ (x : Frame). x.core.id) (sym f.2) ∙ (quiet.kept f.0 f.1.lead.me f.1.lead f.1.newest.is_there).name_is))

  stands_none : (group : Draw) (q : StandsQuiet at group) → went_in group all ≡ None
  stands_none group q = went_none group all (λ r a same. (let v = all_seen all_bounded named words scenario first others rows valid groups lawful quiet homes r a in reach.stand group q v.0 r (subst (λ n. at n v.0 ≡ Some r) same v.1)))

  here_named : (group : Draw) (node : ℕ) → HasReplica at group node → Among group names
  here_named group node has =
      once_among group names (led_once seats rows (length rows) group (omega arith) (subst (λ q. is_led seats q group ≡ true) (sym (take_all (length rows) rows (omega arith))) (led group node has)))

  went_is : (group : Draw) (into : Route) → HasGoneTo (setting_at at frames (chart_at far sent (players words seats) later).ways) group into → went_in group all ≡ Some into
  went_is group into went =
      went_all group into all went.r (seen_all all_bounded named words scenario first others rows valid groups lawful quiet homes group went.node went.r went.is_there) (quiet.kept group went.node went.r went.is_there).name_is went.went
      (λ x elsewhere a same e. (let v = all_seen all_bounded named words scenario first others rows valid groups lawful quiet homes x a in agree group v.0 went.node x went.r elsewhere into (subst (λ n. at n v.0 ≡ Some x) same v.1) went.is_there e went.went))

  counts : CountsAs (setting_at at frames (chart_at far sent (players words seats) later).ways) (chart_at far sent (players words seats) later)
  counts = record {
    bounded = λ group node. way_low far _ _;
    far = λ group node. refl;
    named = λ group node home. led_once seats later (quiet_upto (players words seats) later (length later)) group (upto_low (players words seats) later (length later)) (subst (λ q. is_led seats q group ≡ true) (sym prefix) (led group node (home.r, home.is_there)));
    stand = λ frame a. subst (λ q. Among frame.core.id (reach_in sent (names_at seats q) (all_replicas seats q)).standing × ((reach_in sent (names_at seats q) (all_replicas seats q)).distance frame.core.id ≡ 0)) (sym prefix)
        (let f = frame_named frame a in
        let none = ap (λ n. went_in n all) f.2 ∙ stands_none f.0 f.1 in
        (Among-filter (λ name. not (is_some (went_in name all))) names frame.core.id (subst (λ n. Among n names) (sym f.2) (here_named f.0 f.1.lead.me (f.1.lead, f.1.newest.is_there))) (ap (λ o. not (is_some o)) none), ends_none (length names) all frame.core.id none));
    go = λ group into went. subst
        (λ q. Each (λ other. other ≡ group → ⊥) (reach_in sent (names_at seats q) (all_replicas seats q)).standing × ((reach_in sent (names_at seats q) (all_replicas seats q)).distance into.group + 1 ≤ (reach_in sent (names_at seats q) (all_replicas seats q)).distance group)) (sym prefix)
        (left_out (λ name. not (is_some (went_in name all))) group names (ap (λ o. not (is_some o)) (went_is group into went)), falls names all turn turns group into (went_is group into went));
  }

pub charts_count : ValidScenariosAreBounded → LawfulReplicasAreNamedOnce → LedStandOnce → EndsFall → QuietChartsCount
charts_count = counts
