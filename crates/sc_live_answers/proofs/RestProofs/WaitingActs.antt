-- No act waits at a replica with nothing in flight, row by row since a quiet prefix of a calm journal.
use Rattle.std.proofs.Common.{◌≡◌, ℕ, ◌≤◌, eqb, true, true≢false, List, [], length, Some, inl, inr, refl, sym, ◌∙◌, ap, subst, arith}
use Rattle.std.proofs.lemmas.Bool.{cases_Bool, eq-eqb, eqb-true, le-leb}
use Rattle.sc_base.specs.Definitions.{Among}
use Rattle.sc_node_table.specs.Values.{Draw, Base, OrderLine, Mail, Seat, Event, Deliver, Row}
use Rattle.sc_actor.specs.Definitions.{is_quiet, System, row_of}
use Rattle.sc_actor.specs.declared.rows.Event.TheVariants.{Told}
use Rattle.sc_live_orderly.specs.OrderlyDefinitions.{AreInTime}
use Rattle.sc_live_orderly.proofs.OrderlyLemmas.{in_time_before, last_in_time}
use Rattle.sc_scenario.specs.declared.scenario.scenarios.Scenario.{Scenario}
use Rattle.sc_node_table.specs.NodeDefinitions.{ReplicaState, born_replica, last_slot, next, slots_ahead}
use Rattle.sc_live_steps.specs.pump.Waiting.{HasNoneWaiting, PumpsLeaveNone}
use Rattle.sc_meaning.specs.sound.SoundDefinitions.{groups_at, Player, player_table, births, as_nodes}
use Rattle.sc_live_steps.specs.calm.CalmDefinitions.{players, IsAtRest, Rows}
use Rattle.sc_live_journals.specs.rows.RowDefinitions.{view_at, IsSeat, with_event}
use Rattle.sc_live_journals.proofs.RowsProofs.RowLemmas.{view_others}
use Rattle.sc_live_journals.specs.mail.MailDefinitions.{SlotsAreLeft, IsPlainlyKept, JournalsKeepIdle}
use Rattle.sc_live_journals.specs.groups.GroupDefinitions.{ScenariosAreKeptBorn, ScenariosAreWellBorn}
use Rattle.sc_live_journals.proofs.GroupsProofs.GroupLemmas.{kept_leaders_rest}
use Rattle.sc_live_journals.specs.logs.LogDefinitions.{IsGroupOf, SlotsHaveRosters, logged_sets}
use Rattle.sc_live_journals.proofs.ScenesProofs.SceneLemmas.{calm_is}
use Rattle.sc_live_answers.specs.AnswerDefinitions.{over_at, slot_leaders_at, IsSentThrough, PrefixesAreFound, NoMailForStrangers, IsCalmJournal, IsPrefixOf, IsNamedGroup, AreSent, HaveNoneWaiting, NoneWaits}
use Rattle.sc_live_answers.proofs.RequestsProofs.RequestInvariant.{prefix_short, prefix_timely}
use Rattle.sc_live_answers.proofs.LedMailProofs.WellLedLeaders.{gives}
use Rattle.sc_live_answers.proofs.RestProofs.TableWaitingActs.{off_none, idle_none, mailed_ends, order_ends, made_none}
use Rattle.sc_live_answers.proofs.LedGroupsProofs.GuidedGroups.{named_there}
use Rattle.sc_live_answers.proofs.ReplicasProofs.PlayerEvents.{IsTurn, TurnRests, TurnCreates, TurnTakes, TurnMakes, TurnTold, turn_of}
use Rattle.std.proofs.lemmas.Option.{same_Some}

-- one that runs or not
none_at : (r : ReplicaState) → (r.running ≡ true → HasNoneWaiting r) → HasNoneWaiting r
none_at r none = elim (cases_Bool r.running) [ inl runs ↦ none runs | inr off ↦ off_none r off ]

-- ---- a row

module _ (pump_law : PumpsLeaveNone) (idle_law : JournalsKeepIdle) (wb : ScenariosAreWellBorn) (found_law : PrefixesAreFound)
    (words : ℕ → ℕ → ℕ × ℕ) (scenario : Scenario) (journal rows : Rows) (seat : Seat Player) (event : Event OrderLine) (calm : IsCalmJournal words scenario journal) (seated : IsSeat (births as_nodes scenario) seat)
    (prefix : IsPrefixOf journal (with_event rows seat event)) (sent : AreSent words scenario journal (with_event rows seat event)) (had : HaveNoneWaiting scenario rows) where
  abbrev all : List (Seat Player)
  all = births as_nodes scenario

  abbrev s : System Player Mail OrderLine
  s = players words (births as_nodes scenario)

  abbrev row : Row Mail OrderLine
  row = row_of player_table seat rows event

  abbrev then : Rows
  then = with_event rows seat event

  timely : AreInTime s then
  timely = prefix_timely words scenario journal then calm prefix

  -- what each replica had before, also one that did not run
  had_at : (name : Draw) (node : ℕ) (r : ReplicaState) → view_at all rows name node ≡ Some r → HasNoneWaiting r
  had_at name node r e = none_at r (had name node r e)

  module _ (base : Base) (among : Among base (groups_at as_nodes scenario.groups journal)) (r : ReplicaState) (e : view_at all then base.core.id seat.who ≡ Some r) where
    some : 1 ≤ length r.sets
    some = (let many = (idle_law words scenario then base.core.id seat.who r timely e).1 in omega (arith, many))

    turn : IsTurn (logged_sets as_nodes base journal) (slot_leaders_at as_nodes scenario base journal) words all rows seat event base
    turn =
        let t : IsSentThrough (logged_sets as_nodes base journal) (over_at as_nodes base journal) (slot_leaders_at as_nodes scenario base journal) words all then base = sent base among in
        turn_of (logged_sets as_nodes base journal) (over_at as_nodes base journal) (slot_leaders_at as_nodes scenario base journal) words all base (wb scenario) rows seat seated event t.one t.so timely (calm_is words all rows seat event (last_in_time s rows row timely).0)

    -- what the row left of it
    ends : (x : ReplicaState) → view_at all then base.core.id seat.who ≡ Some x → (1 ≤ length x.sets → HasNoneWaiting x) → HasNoneWaiting r
    ends x fact none = subst (λ (y : ReplicaState). 1 ≤ length y.sets → HasNoneWaiting y) (same_Some x r (sym fact ∙ e)) none some

    by_turn : IsTurn (logged_sets as_nodes base journal) (slot_leaders_at as_nodes scenario base journal) words all rows seat event base → HasNoneWaiting r
    by_turn (TurnRests same idle) = had_at base.core.id seat.who r (sym same ∙ e)
    by_turn (TurnCreates was fact) = ends (born_replica slots_ahead seat.who base) fact (λ _. idle_none (born_replica slots_ahead seat.who base) refl)
    by_turn (TurnTakes number mail node x t) =
        let kept : IsPlainlyKept seat.who x = idle_law words scenario rows base.core.id seat.who x (in_time_before s rows row timely) t.row_.was in
        ends _ (ap (λ v. view_at all (with_event rows seat v) base.core.id seat.who) t.event_is ∙ t.row_.fact) (mailed_ends pump_law mail.from mail.body x (λ off. (kept.2.0 off).1) (had_at base.core.id seat.who x t.row_.was))
    by_turn (TurnMakes from slot state sets t) = ends _ t.then_ (λ _. made_none pump_law seat.who from base.core.id slot state sets)
    by_turn (TurnTold line node x t) = ends _ t.then_ (order_ends pump_law node.draws line x (had_at base.core.id seat.who x t.was))

    own_none : HasNoneWaiting r
    own_none = by_turn turn

  none_then : HaveNoneWaiting scenario then
  none_then name node r e runs = elim (cases_Bool (eqb node seat.who)) [
    | inl t ↦ (
        let g : IsNamedGroup scenario journal name = named_there found_law words scenario journal then calm prefix name (node, r, e) in
        let here : view_at all then g.0.core.id seat.who ≡ Some r = ap (λ n. view_at all then n seat.who) g.2 ∙ (ap (view_at all then name) (sym (eqb-true node seat.who t)) ∙ e) in
        own_none g.0 g.1 r here)
    | inr f ↦ had_at name node r (sym (view_others all rows row name node (λ i. true≢false (sym (eq-eqb node seat.who i) ∙ f))) ∙ e)
  ]

-- ---- a quiet prefix

module _ (few_law : SlotsAreLeft) (born_law : ScenariosAreKeptBorn) (rosters_law : SlotsHaveRosters) (found_law : PrefixesAreFound) (no_law : NoMailForStrangers) (words : ℕ → ℕ → ℕ × ℕ) (scenario : Scenario) (journal rows : Rows) (calm : IsCalmJournal words scenario journal)
    (prefix : IsPrefixOf journal rows) (sent : AreSent words scenario journal rows) (still : is_quiet (players words (births as_nodes scenario)) rows ≡ true) (had : HaveNoneWaiting scenario rows) where
  over_none : (name : Draw) (node : ℕ) (r : ReplicaState) → view_at (births as_nodes scenario) rows name node ≡ Some r → r.running ≡ true → r.leader.flights ≡ [] → r.acts ≡ []
  over_none name node r e runs none =
      let timely = prefix_timely words scenario journal rows calm prefix in
      let g : IsNamedGroup scenario journal name = named_there found_law words scenario journal rows calm prefix name (node, r, e) in
      let group : IsGroupOf as_nodes words scenario journal g.0 = record { open_slots = refl; valid = calm.valid; lawful = calm.lawful; stands = g.1 } in
      let t : IsSentThrough (logged_sets as_nodes g.0 journal) (over_at as_nodes g.0 journal) (slot_leaders_at as_nodes scenario g.0 journal) words (births as_nodes scenario) rows g.0 = sent g.0 g.1 in
      let here : view_at (births as_nodes scenario) rows g.0.core.id node ≡ Some r = ap (λ n. view_at (births as_nodes scenario) rows n node) g.2 ∙ e in
      let low = (few_law words scenario rows name node r timely (prefix_short words scenario journal rows calm prefix) e).0 in
      let leads = gives (logged_sets as_nodes g.0 journal) (over_at as_nodes g.0 journal) (slot_leaders_at as_nodes scenario g.0 journal) words (births as_nodes scenario) rows g.0 t.course t.led node r here runs in
      let rest = kept_leaders_rest (logged_sets as_nodes g.0 journal) (over_at as_nodes g.0 journal) (slot_leaders_at as_nodes scenario g.0 journal) words (births as_nodes scenario) rows g.0 t.course r (born_law scenario) (rosters_law.rosters as_nodes words scenario journal g.0 group) timely still
      (no_law.strangers words scenario journal rows calm prefix sent g.0.core.id) t.led leads.0.stands (ap (view_at (births as_nodes scenario) rows g.0.core.id) (sym leads.1) ∙ here) (omega (arith, low)) in
      had name node r e runs rest.leads.settled_is (le-leb (next r) last_slot (omega (arith, low))) none rest.ready

-- ---- all

pub none_waits : PumpsLeaveNone → JournalsKeepIdle → ScenariosAreWellBorn → PrefixesAreFound → SlotsAreLeft → ScenariosAreKeptBorn → SlotsHaveRosters → NoMailForStrangers → NoneWaits
none_waits pump_law idle_law wb found_law few_law born_law rosters_law no_law = record {
  begins = λ words scenario first journal quiet seat line calm rests seated prefix sent.
      (let found = found_law words scenario journal quiet calm rests.prefix in
      none_then pump_law idle_law wb found_law words scenario journal quiet seat (Told line) calm seated prefix sent
      (λ name node r e runs. (let rest : IsAtRest r = rests.fact.quiet.at_rest name node r (found.views name node ∙ e) in idle_none r rest.acts)));
  goes_on = λ words scenario journal rows seat number calm on sent had. none_then pump_law idle_law wb found_law words scenario journal rows seat (Deliver number) calm on.seated on.prefix sent had;
  over = λ words scenario journal rows calm prefix sent still had. over_none few_law born_law rosters_law found_law no_law words scenario journal rows calm prefix sent still had;
}
