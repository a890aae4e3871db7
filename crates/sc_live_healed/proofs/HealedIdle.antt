-- A store that healed is idle: behind the sweep, and behind each turn of a client, each replica that runs at a living node is settled and has nothing to do.
use Rattle.std.proofs.Common.{◌≡◌, ℕ, ◌+◌, ◌*◌, ◌-◌, ◌^◌, ◌≤◌, false, true, List, [], ◌∷◌, ◌++◌, length, length-append, map, Option, Some, ◌⊎◌, inl, inr, refl, sym, ◌∙◌, ap, subst, arith, append-nil}
use Rattle.std.specs.List.{flat_map}
use Rattle.std.proofs.lemmas.Bool.{cond_both, cond-true}
use Rattle.sc_base.specs.Definitions.{Among, Each, same_draw}
use Rattle.sc_base.proofs.Lemmas.{draw_is, same_name}
use Rattle.sc_words.proofs.PaxosProofs.PaxosLemmas.{Each-among, Each-from}
use Rattle.sc_node_table.specs.Values.{Draw, Seat, Base, OrderLine, Mail, Node}
use Rattle.sc_actor.specs.declared.schedules.Line.{Line}
use Rattle.sc_actor.specs.declared.schedules.Line.TheVariants.{Settle as SettleLine}
use Rattle.sc_actor.specs.Definitions.{value, is_quiet, may_get, numbers_of, unsettled, System, IsLawful, IsWhole}
use Rattle.sc_actor.proofs.Lemmas.{lawful-prefix}
use Rattle.sc_node_table.specs.NodeDefinitions.{NodeState, ReplicaState, name_of, replica_of, is_node, last_slot}
use Rattle.sc_scenario.specs.declared.scenario.scenarios.Scenario.{Scenario}
use Rattle.sc_scenario.specs.scenario.Definitions.{IsValid, IsBounded}
use Rattle.sc_scenario.proofs.ScenarioProofs.Lemmas.{valid_scenarios_are_bounded}
use Rattle.sc_meaning.specs.sound.SoundDefinitions.{Lawful, Player, as_nodes, births, line_of, player_table, schedule, system_of, Whole}
use Rattle.sc_live_orderly.specs.OrderlyDefinitions.{Ticks, Turn, turn_lines, HasTurns}
use Rattle.sc_live_orderly.proofs.TakenTurns.{turns_taken}
use Rattle.sc_live_healed.proofs.FixedNodes.{AreFresh, IsOne, name_one}
use Rattle.sc_live_healed.proofs.FixedBirths.{groups_fresh}
use Rattle.sc_live_healed.proofs.FixedJournals.{Rows, IsOf, IsFixedPlayer, AreWithoutOrders, untold_prefix, journal_fixed}
use Rattle.sc_live_healed.proofs.FreshBallots.{ballots_fresh, seen_at}
use Rattle.sc_live_healed.proofs.DeliveredViews.{player_view}
use Rattle.sc_live_healed.proofs.GrowingJournals.{PlayerGrown, journal_grown}
use Rattle.sc_live_healed.proofs.HealedLines.{node_turn, client_turn, turns_of, lines_to, lines_are_turns, lines_go_on, healed_untold}
use Rattle.sc_live_healed.proofs.IdleNodes.{HaveRounds, living_replicas_idle}
use Rattle.sc_live_healed.proofs.LivingActors.{turns_kind}
use Rattle.sc_live_healed.proofs.LivingSeats.{node_is_found, living_node, living_gets, living_majority}
use Rattle.sc_live_healed.proofs.NearRounds.{rounds_grow}
use Rattle.sc_live_healed.proofs.NodeTicks.{OneNamed}
use Rattle.sc_live_healed.proofs.ActorRows.{HasOne}
use Rattle.sc_live_healed.proofs.SettledTurns.{HasTicked, turns_settle}
use Rattle.sc_live_healed.proofs.ShorterSchedules.{WholePrefix, whole_prefix}
use Rattle.sc_live_healed.proofs.RowsWithoutOrders.{rows_untold}
use Rattle.sc_live_healed.proofs.VotesOfTurns.{IsTicked}
use Rattle.sc_live_healed.specs.HealedDefinitions.{lives, HasLivingMajorities, NodeTurn, ClientTurn, client_lines, IsHealed, IsIdle, IsSettledOrStopped, IsIdleLeader, IsIdleStore, IsAtEnd, StaysIdle}

-- one of some that are named once is found by its name
found_once : (name : Draw) (replicas : List ReplicaState) (r : ReplicaState) → OneNamed name_of name replicas → Among r replicas → name_of r ≡ name → replica_of name replicas ≡ Some r
found_once name [] r once a n = absurd a
found_once name (x ∷ replicas) r once (inl e) n = cond-true (same_draw (name_of x) name) (Some x) (replica_of name replicas) (same_name (name_of x) name (ap name_of e ∙ n)) ∙ ap (λ (y : ReplicaState). Some y) e
found_once name (x ∷ replicas) r (inl none) (inr a) n = absurd (Each-among (λ (y : ReplicaState). name_of y ≡ name → ⊥) replicas r none a n)
found_once name (x ∷ replicas) r (inr one) (inr a) n =
    cond_both (same_draw (name_of x) name) (Some x) (replica_of name replicas) (λ (o : Option ReplicaState). (replica_of name replicas ≡ Some r) → o ≡ Some r)
    (λ t f. absurd (one.0 (draw_is (name_of x) name t))) (λ off f. f) (found_once name replicas r one.1 a n)

-- one of these turns is the tick of an actor
abbrev pub TicksOf : ℕ → List Turn → Type 0
TicksOf who [] = ⊥
TicksOf who (turn ∷ turns) = ((turn.kick ≡ Ticks) × (turn.who ≡ who)) ⊎ TicksOf who turns

pub sweep_ticks : (who : ℕ) (turn : NodeTurn) (sweep : List NodeTurn) (more : List Turn) → Among turn sweep → turn.node ≡ who → TicksOf who (map node_turn sweep ++ more)
sweep_ticks who turn [] more a same = absurd a
sweep_ticks who turn (x ∷ sweep) more (inl e) same = inl (refl, ap (λ (t : NodeTurn). t.node) e ∙ same)
sweep_ticks who turn (x ∷ sweep) more (inr a) same = inr (sweep_ticks who turn sweep more a same)

-- turns end where no mail is pending
pub ends_quiet : {A M O : Type 0} (s : System A M O) (rows : List _) (turns : List Turn) (after : List _) → HasTurns s rows turns after → is_quiet s after ≡ true
ends_quiet s rows [] after t = subst (λ rs. is_quiet s rs ≡ true) t.1 t.0
ends_quiet s rows (turn ∷ turns) after t = ends_quiet s t.0 turns after t.2

module _ (words : ℕ → ℕ → ℕ × ℕ) (scenario : Scenario) (bounded : IsBounded scenario) (off : scenario.policy ≡ false) (majorities : HasLivingMajorities scenario) where
  abbrev s : System Player Mail OrderLine
  s = system_of as_nodes words scenario

  fresh : AreFresh scenario.groups
  fresh = groups_fresh scenario bounded

  abbrev alive : ℕ → Type 0
  alive who = lives scenario who ≡ true

  are_nodes : (who : ℕ) → lives scenario who ≡ true → is_node who ≡ true
  are_nodes who l = living_node scenario bounded who l

  -- ---- behind turns of a lawful journal

  module _ (before rows : Rows) (turns : List Turn) (t : HasTurns s before turns rows) (lawful : Lawful as_nodes words scenario rows) (without_orders : AreWithoutOrders words scenario bounded off rows) (few : length rows ≤ 2 ^ 28) (ticked : (who : ℕ) → lives scenario who ≡ true → TicksOf who turns) where
    few_slots : 1 + 4 * length rows ≤ last_slot
    few_slots = omega (arith, few)

    gets : (who : ℕ) → lives scenario who ≡ true → may_get (numbers_of (births as_nodes scenario)) before who ≡ true
    gets who l = (let all = turns_kind s before turns rows t in living_gets scenario words before (lawful-prefix s (schedule scenario) before all.0 (subst (Lawful as_nodes words scenario) all.1 lawful)) who l)

    rounds : (first later : Rows) → rows ≡ first ++ later → HaveRounds scenario first
    rounds first later e seat is_of node fact =
        let l = lawful-prefix s (schedule scenario) first later (subst (Lawful as_nodes words scenario) e lawful) in
        let u = untold_prefix words scenario bounded off first later (subst (AreWithoutOrders words scenario bounded off) e without_orders) in
        let parts = ap length e ∙ length-append first later in
        let grown : PlayerGrown rounds_grow (1 + length first) (Node node) = subst (PlayerGrown rounds_grow (1 + length first)) fact ((journal_grown rounds_grow words scenario bounded off first u l).players seat is_of) in
        Each-from (λ (r : ReplicaState). r.top.round ≡ 2 ^ 32 - 1 → ⊥) node.replicas (λ r a top. (let low : r.top.round ≤ 1 + length first = Each-among (λ (x : ReplicaState). x.top.round ≤ 1 + length first) node.replicas r grown a in omega (arith, low, top, parts, few)))

    module _ (seat : Seat Player) (is_of : IsOf scenario seat) (node : NodeState) (fact : value player_table seat rows ≡ Node node) (living : lives scenario seat.who ≡ true) where
      ticks_settled : (base : Base) (among : Among base scenario.groups) (ts : List Turn) → TicksOf seat.who ts → HasTicked words scenario bounded off rows lawful without_orders few_slots base among (lives scenario) (living_majority scenario majorities base among) seat is_of (are_nodes seat.who living) living ts
      ticks_settled base among [] k = absurd k
      ticks_settled base among (turn ∷ ts) (inl mine) = inl mine
      ticks_settled base among (turn ∷ ts) (inr k) = inr (ticks_settled base among ts k)

      ticks_voted : (ts : List Turn) → TicksOf seat.who ts → IsTicked words scenario bounded off alive are_nodes seat is_of living ts
      ticks_voted [] k = absurd k
      ticks_voted (turn ∷ ts) (inl mine) = inl mine
      ticks_voted (turn ∷ ts) (inr k) = inr (ticks_voted ts k)

      k : IsFixedPlayer scenario.groups seat.who (Node node)
      k = subst (IsFixedPlayer scenario.groups seat.who) fact ((journal_fixed words scenario bounded off rows without_orders lawful).players seat is_of)

      -- a replica of the node that runs is settled and idle
      replica_both : (r : ReplicaState) → Among r node.replicas → r.running ≡ true → IsIdleLeader r × IsIdle r
      replica_both r a on =
          let one : IsOne scenario.groups fresh node.me r = Each-among (IsOne scenario.groups fresh node.me) node.replicas r k.2.replicas a in
          let base : Base = one.0 in
          let once : OneNamed name_of base.core.id node.replicas = subst (λ (p : Player). HasOne words scenario bounded off base one.1 p) fact ((ballots_fresh words scenario bounded off base one.1 rows without_orders lawful).once seat is_of) in
          let found : replica_of base.core.id node.replicas ≡ Some r = found_once base.core.id node.replicas r once a (name_one scenario.groups fresh node.me r one) in
          let most = living_majority scenario majorities base one.1 in
          let settles : IsSettledOrStopped r =
          turns_settle words scenario bounded off rows lawful without_orders few_slots base one.1 (lives scenario) most seat is_of (are_nodes seat.who living) living before turns rows [] (sym (append-nil rows)) t gets (inr (ticks_settled base one.1 turns (ticked seat.who living)))
          r (seen_at words scenario bounded off base one.1 rows seat is_of ∙ (ap (λ (p : Player). player_view words scenario bounded base one.1 p) fact ∙ found)) in
          let idle : IsIdle r =
          living_replicas_idle words scenario bounded off (lives scenario) are_nodes seat is_of living before turns rows t lawful without_orders gets few_slots rounds (ticks_voted turns (ticked seat.who living)) node fact base one.1 most r found settles on in
          (record { leads = settles on; flights = idle.flights; ready = idle.ready; acts = idle.acts; backlog = idle.backlog }, idle)

      replica_idle : (r : ReplicaState) → Among r node.replicas → r.running ≡ true → IsIdleLeader r
      replica_idle r a on = (replica_both r a on).0

      -- each replica of the node that runs is idle, and has executed each slot that was reported to it
      pub replicas_rest : Each (λ (r : ReplicaState). r.running ≡ true → IsIdle r) node.replicas
      replicas_rest = Each-from (λ (r : ReplicaState). r.running ≡ true → IsIdle r) node.replicas (λ r a on. (replica_both r a on).1)

    pub store_idle : IsIdleStore scenario rows
    store_idle seat node a fact l =
        let is_of = node_is_found scenario seat a rows node fact in
        let mine : IsFixedPlayer scenario.groups seat.who (Node node) = subst (IsFixedPlayer scenario.groups seat.who) fact ((journal_fixed words scenario bounded off rows without_orders lawful).players seat is_of) in
        Each-from (λ (r : ReplicaState). r.running ≡ true → IsIdleLeader r) node.replicas (replica_idle seat is_of node fact (subst (λ (who : ℕ). lives scenario who ≡ true) mine.0 l))

-- ---- the lines that heal

module _ (words : ℕ → ℕ → ℕ × ℕ) (scenario : Scenario) (journal : Rows) (healed : IsHealed scenario) (valid : IsValid scenario) (majorities : HasLivingMajorities scenario) (lawful : Lawful as_nodes words scenario journal) (few : length journal ≤ 2 ^ 28) (done rest : List ClientTurn) where
  abbrev system : System Player Mail OrderLine
  system = system_of as_nodes words scenario

  abbrev first : List (Line OrderLine)
  first = map line_of (lines_to healed.before healed.most healed.sweep done)

  abbrev others : List (Line OrderLine)
  others = map line_of (flat_map client_lines rest)

  abbrev turns : List Turn
  turns = turns_of healed.sweep done

  -- what these turns leave of a prefix of the journal
  abbrev Idle : Type 0
  Idle = (rows : Rows) × IsAtEnd words scenario healed done journal rows × IsIdleStore scenario rows

  module _ (is_lawful : IsLawful system (first ++ others) journal) (is_whole : IsWhole system (first ++ others) journal) (part : WholePrefix system first others journal is_lawful is_whole) where
    idle_by : (before : Rows) → HasTurns system before turns part.rows → Idle
    idle_by before t =
        let bounded : IsBounded scenario = valid_scenarios_are_bounded scenario valid in
        let lawful_rows : Lawful as_nodes words scenario part.rows = lawful-prefix system (schedule scenario) part.rows part.more (subst (Lawful as_nodes words scenario) part.journal_is lawful) in
        let untold_rows = rows_untold system (schedule scenario) part.rows (healed_untold scenario healed) lawful_rows in
        let parts = ap length part.journal_is ∙ length-append part.rows part.more in (
          part.rows,
          record { later = part.more; goes_on = part.journal_is; lawful = part.lawful_first; whole = part.whole_first; quiet = ends_quiet system before turns part.rows t },
          store_idle words scenario bounded healed.no_policy majorities before part.rows turns t lawful_rows untold_rows (omega (arith, parts, few))
              (λ who l. (let swept = healed.swept who l in sweep_ticks who swept.0 healed.sweep (map client_turn done) swept.1 swept.2)),
        )

    part_idle : Idle
    part_idle =
        let turned : first ≡ map line_of healed.before ++ SettleLine healed.most ∷ flat_map turn_lines turns = lines_are_turns healed.before healed.most healed.sweep done in
        let taken = turns_taken system (map line_of healed.before) healed.most turns part.rows (subst (λ ls. IsLawful system ls part.rows) turned part.lawful_first) (subst (λ ls. IsWhole system ls part.rows) turned part.whole_first)
        (subst (λ ls. unsettled system ls part.rows ≡ false) turned part.uncut) in
        idle_by taken.0 taken.1

-- The first half of the law: behind the sweep, and behind each turn of a client, each replica that runs at a living node is settled and idle.
pub healed_stores_stay_idle : (words : ℕ → ℕ → ℕ × ℕ) (scenario : Scenario) (journal : Rows) (healed : IsHealed scenario) → IsValid scenario → HasLivingMajorities scenario → Lawful as_nodes words scenario journal → Whole as_nodes words scenario journal
    → unsettled (system_of as_nodes words scenario) (schedule scenario) journal ≡ false → length journal ≤ 2 ^ 28 → StaysIdle words scenario healed journal
healed_stores_stay_idle words scenario journal healed valid majorities lawful whole uncut few done rest e =
    let system : System Player Mail OrderLine = system_of as_nodes words scenario in
    let first : List (Line OrderLine) = map line_of (lines_to healed.before healed.most healed.sweep done) in
    let others : List (Line OrderLine) = map line_of (flat_map client_lines rest) in
    let lines_are : schedule scenario ≡ first ++ others =
    ap (λ ls. map line_of ls) healed.lines_are
    ∙ (ap (λ asks. map line_of (lines_to healed.before healed.most healed.sweep asks)) e ∙ lines_go_on healed.before healed.most healed.sweep done rest) in
    let is_lawful = subst (λ ls. IsLawful system ls journal) lines_are lawful in
    let is_whole = subst (λ ls. IsWhole system ls journal) lines_are whole in
    part_idle words scenario journal healed valid majorities lawful few done rest is_lawful is_whole (whole_prefix system first others journal is_lawful is_whole (subst (λ ls. unsettled system ls journal ≡ false) lines_are uncut))
