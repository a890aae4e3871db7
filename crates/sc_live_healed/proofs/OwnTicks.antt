-- A node's own tick, seen by a group: its replica ticks, and what is pending of the group behind the row is what this replica says.
use Rattle.std.proofs.Common.{◌≡◌, ℕ, eqb, Bool, true, false, List, [], ◌∷◌, ◌++◌, filter, Option, Some, None, ◌⊎◌, inl, inr, refl, sym, ◌∙◌, ap, subst}
use Rattle.std.proofs.lemmas.Bool.{cond-true, eq-eqb}
use Rattle.sc_base.specs.Definitions.{Among, Each, Drawer, same_draw}
use Rattle.sc_base.proofs.Lemmas.{draw_is}
use Rattle.sc_words.proofs.PaxosProofs.PaxosLemmas.{Each-among, find_found}
use Rattle.sc_node_table.specs.Values.{Seat, Row, Base, OrderLine, Mail, Node}
use Rattle.sc_actor.specs.declared.rows.Event.TheVariants.{Tick as TickEvent}
use Rattle.sc_actor.specs.declared.rows.Input.TheVariants.{Tick}
use Rattle.sc_actor.specs.Definitions.{mails, copies, acted, value, may_get, numbers_of, row_of, is_quiet, System}
use Rattle.sc_actor.proofs.Lemmas.{value-snoc}
use Rattle.sc_node_table.specs.NodeDefinitions.{NodeState, ReplicaState, name_of, replica_of, group_of_mail, ticked, tick_row, on_tick, is_node}
use Rattle.sc_scenario.specs.declared.scenario.scenarios.Scenario.{Scenario}
use Rattle.sc_scenario.specs.scenario.Definitions.{IsBounded}
use Rattle.sc_meaning.specs.sound.SoundDefinitions.{Player, as_nodes, player_table, system_of}
use Rattle.sc_live_orderly.specs.OrderlyDefinitions.{pending_mail}
use Rattle.sc_live_orderly.proofs.PendingMail.{gets_same, mail_with-agree, none_pending}
use Rattle.sc_live_orderly.proofs.RemainingMail.{after-row}
use Rattle.sc_live_healed.proofs.FixedWalks.{IsFixedPlace, IsMember}
use Rattle.sc_live_healed.proofs.FixedNodes.{AreFresh, IsOne, into, name_one}
use Rattle.sc_live_healed.proofs.FixedBirths.{groups_fresh}
use Rattle.sc_live_healed.proofs.FixedJournals.{Rows, IsOf, IsFixedPlayer, IsFixedJournal}
use Rattle.sc_live_healed.proofs.LivingActors.{seats_stay_nodes}
use Rattle.sc_live_healed.proofs.NodeTicks.{none_found, found_none, tick_none, one_of_all_ticks}
use Rattle.sc_live_healed.proofs.ActorRows.{View, HasOne}
use Rattle.sc_live_healed.proofs.FreshBallots.{HasFreshBallots, seen_at}
use Rattle.sc_live_healed.proofs.DeliveredViews.{view}

module _ (words : ℕ → ℕ → ℕ × ℕ) (scenario : Scenario) (bounded : IsBounded scenario) (off : scenario.policy ≡ false) (base : Base) (among : Among base scenario.groups) where
  abbrev s : System Player Mail OrderLine
  s = system_of as_nodes words scenario

  abbrev seen : Rows → ℕ → Option ReplicaState
  seen rows who = view words scenario bounded base among rows who

  -- a tick of an actor crashes nobody
  pub ticks_get : (rows : Rows) (seat : Seat Player) (who : ℕ) → may_get (numbers_of s.births) (rows ++ row_of player_table seat rows TickEvent ∷ []) who ≡ may_get (numbers_of s.births) rows who
  ticks_get rows seat who = gets_same (numbers_of s.births) rows (row_of player_table seat rows TickEvent) refl who

  -- what is pending behind a tick where nothing was pending
  pub pending_ticked : (rows : Rows) (seat : Seat Player) → is_quiet s rows ≡ true → pending_mail s (rows ++ row_of player_table seat rows TickEvent ∷ []) ≡ filter (λ (m : Mail). may_get (numbers_of s.births) (rows ++ row_of player_table seat rows TickEvent ∷ []) m.to) (row_of player_table seat rows TickEvent).sent
  pending_ticked rows seat quiet =
      let row : Row Mail OrderLine = row_of player_table seat rows TickEvent in
      let test : Mail → Bool = λ (m : Mail). may_get (numbers_of s.births) (rows ++ row ∷ []) m.to in
      let was : Mail → Bool = λ (m : Mail). may_get (numbers_of s.births) rows m.to in
      after-row s test rows row ∙ ap (λ (ms : List Mail). ms ++ filter test row.sent) (mail_with-agree test was (λ m. ticks_get rows seat m.to) (mails rows) (copies rows) ∙ none_pending s rows quiet)

  module _ (seat : Seat Player) (is_of : IsOf scenario seat) (node_is : is_node seat.who ≡ true) where
    -- The replica of the group ticks in the row.
    pub record OwnTick (rows : Rows) : Type 0 where
      pub drawer : Drawer
      pub replica : ReplicaState
      pub was : seen rows seat.who ≡ Some replica
      pub fact : seen (rows ++ row_of player_table seat rows TickEvent ∷ []) seat.who ≡ Some (tick_row false drawer (replica, [])).0
      pub member : IsMember base seat.who
      pub fixed : IsFixedPlace base seat.who (replica, [])
      pub before : List Mail
      pub after : List Mail
      pub sent : (row_of player_table seat rows TickEvent).sent ≡ before ++ ((tick_row false drawer (replica, [])).1 ++ after)
      pub others_before : Each (λ (m : Mail). group_of_mail m.body ≡ Some base.core.id → ⊥) before
      pub others_after : Each (λ (m : Mail). group_of_mail m.body ≡ Some base.core.id → ⊥) after

    module _ (rows : Rows) (now : IsFixedJournal scenario rows) (ballots : HasFreshBallots words scenario bounded off base among rows) where
      abbrev row : Row Mail OrderLine
      row = row_of player_table seat rows TickEvent

      fresh : AreFresh scenario.groups
      fresh = groups_fresh scenario bounded

      abbrev ViewOf : Player → Option ReplicaState
      ViewOf p = View words scenario bounded off base among p

      -- the replica of the group ticks, or there is none
      pub own_tick : (seen (rows ++ row_of player_table seat rows TickEvent ∷ []) seat.who ≡ None) ⊎ OwnTick rows
      own_tick = by_node (seats_stay_nodes scenario bounded seat is_of node_is rows).0 (seats_stay_nodes scenario bounded seat is_of node_is rows).1
        where
          by_node : (node : NodeState) → value player_table seat rows ≡ Node node → (seen (rows ++ row_of player_table seat rows TickEvent ∷ []) seat.who ≡ None) ⊎ OwnTick rows
          by_node node e = by (replica_of base.core.id node.replicas) refl
            where
              k : IsFixedPlayer scenario.groups seat.who (Node node)
              k = subst (IsFixedPlayer scenario.groups seat.who) e (now.players seat is_of)

              once : HasOne words scenario bounded off base among (Node node)
              once = subst (λ (p : Player). HasOne words scenario bounded off base among p) e (ballots.once seat is_of)

              after_is : value player_table seat (rows ++ row ∷ []) ≡ Node (on_tick node).0
              after_is =
                  value-snoc player_table seat rows row
                  ∙ (cond-true (eqb seat.who seat.who) (acted player_table (value player_table seat rows) (Some Tick)).0 (value player_table seat rows) (eq-eqb seat.who seat.who refl)
                  ∙ ap (λ (p : Player). (acted player_table p (Some Tick)).0) e)

              sent_is : row.sent ≡ (on_tick node).1
              sent_is = ap (λ (p : Player). (acted player_table p (Some Tick)).1) e

              seen_after : seen (rows ++ row ∷ []) seat.who ≡ replica_of base.core.id (ticked false node.draws node.replicas []).0
              seen_after =
                  seen_at words scenario bounded off base among (rows ++ row ∷ []) seat is_of ∙ (ap ViewOf after_is ∙ ap (λ (on : Bool). replica_of base.core.id (ticked on node.draws node.replicas []).0) k.1)

              by : (o : Option ReplicaState) → replica_of base.core.id node.replicas ≡ o → (seen (rows ++ row ∷ []) seat.who ≡ None) ⊎ OwnTick rows
              by None f =
                  let none = none_found base.core.id node.replicas f in
                  inl (seen_after ∙ found_none base.core.id (ticked false node.draws node.replicas []).0 (tick_none scenario.groups fresh node k.2 base among base.core.id node.draws node.replicas [] k.2.replicas none))
              by (Some r) f =
                  let t = one_of_all_ticks scenario.groups fresh node k.2 base among node.draws node.replicas [] k.2.replicas once r f in
                  let found = find_found (λ (x : ReplicaState). same_draw (name_of x) base.core.id) node.replicas t.replica t.was in
                  let one : IsOne scenario.groups fresh node.me t.replica = Each-among (IsOne scenario.groups fresh node.me) node.replicas t.replica k.2.replicas found.0 in
                  let same : one.0 ≡ base = fresh.apart one.0 base one.1 among (sym (name_one scenario.groups fresh node.me t.replica one) ∙ draw_is (name_of t.replica) base.core.id found.1) in
                  inr (record {
                    drawer = t.drawer;
                    replica = t.replica;
                    was = seen_at words scenario bounded off base among rows seat is_of ∙ (ap ViewOf e ∙ t.was);
                    fact = seen_after ∙ t.fact;
                    member = subst (IsMember base) k.0 (subst (λ (b : Base). IsMember b node.me) same one.2);
                    fixed = subst (λ (n : ℕ). IsFixedPlace base n (t.replica, [])) k.0 (subst (λ (b : Base). IsFixedPlace b node.me (t.replica, [])) same (into scenario.groups fresh node.me t.replica one));
                    before = t.before;
                    after = t.after;
                    sent = sent_is ∙ (ap (λ (on : Bool). (ticked on node.draws node.replicas []).1) k.1 ∙ t.sent);
                    others_before = t.others_before;
                    others_after = t.others_after;
                  })
