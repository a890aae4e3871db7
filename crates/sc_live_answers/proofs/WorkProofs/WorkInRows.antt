-- What an order makes of groups is kept by each delivery to a player.
use Rattle.std.proofs.Common.{◌≡◌, ℕ, Bool, true, false, List, [], ◌++◌, Option, Some, None, inl, inr, refl, sym, ◌∙◌, ap, subst, append-nil, arith, ◌<◌}
use Rattle.std.specs.Option.{option_map}
use Rattle.std.proofs.lemmas.Bool.{cond-false}
use Rattle.sc_base.specs.Definitions.{Each}
use Rattle.sc_node_table.specs.Values.{Ballot, Draw, Command, Base, OrderLine, AnswerBody, Mail, MailBody, Request, Answer, Prepare, Promise, Accept, Accepted, Nack, Learn, Ask, Install, TxPrepare, TxVote, TxWatch, Node, Client, Seat, Event, Deliver, Go, Got}
use Rattle.sc_actor.specs.Definitions.{mails, numbered, value, row_of}
use Rattle.sc_client_table.specs.table.TableDefinitions.{Client as ClientState}
use Rattle.sc_live_orderly.specs.OrderlyDefinitions.{AreInTime}
use Rattle.sc_node_table.specs.NodeDefinitions.{NodeState, replica_of, with_replica, with_children, group_of_mail, may_come, unknown, routed, on_mail, absent, ReplicaState, Executed, name_of, next, born_replica, mailed, made_by, slots_ahead, listed}
use Rattle.sc_law_walks.proofs.WalkLemmas.{either_way}
use Rattle.sc_scenario.specs.declared.scenario.scenarios.Scenario.{Scenario}
use Rattle.sc_meaning.specs.sound.SoundDefinitions.{Player, player_table, births, as_nodes}
use Rattle.sc_live_steps.specs.calm.CalmDefinitions.{players, Rows}
use Rattle.sc_live_steps.proofs.CalmStepsProofs.CalmStepLemmas.{put_others}
use Rattle.sc_live_steps.proofs.OrderStepsProofs.OrderStepLemmas.{cases-draw}
use Rattle.sc_live_steps.specs.following.FollowingDefinitions.{Mark, Asks, Prepares, mark_of, IsFit, from_slot_of}
use Rattle.sc_live_steps.proofs.FollowingProofs.FollowingLemmas.{prepares_are_known, same_mark}
use Rattle.sc_live_journals.specs.rows.RowDefinitions.{view_at, next_in, progress_at, TakesMail, HoldsReplica, IsSeat, with_event, IsReplicasRow, IsWellKept}
use Rattle.sc_live_journals.proofs.RowsProofs.RowLemmas.{names_stay, fit, found_name, rows_replicas, view_was, sent_is, Plays, Found, found_well, replay_well}
use Rattle.sc_live_journals.specs.groups.GroupDefinitions.{dated_at, IsLedScene, Delivers, ScenariosAreWellBorn}
use Rattle.sc_live_journals.proofs.GroupsProofs.GroupLemmas.{scene, dated_in, taken_dated, rows_dated}
use Rattle.sc_live_answers.specs.AnswerDefinitions.{IsGuided, IsNamedGuide, MeetsOrder}
use Rattle.sc_live_journals.specs.scenes.SceneDefinitions.{FindsReplica, AtLeader, AtAnother, LeaderFinds, BesideFinds, NodeFinds, IsTaking}
use Rattle.sc_live_journals.proofs.ScenesProofs.SceneLemmas.{client_leaves, got_nothing, unknown_apart, OneOf, all_children, all_sent, each_is, now_is}
use Rattle.sc_live_answers.proofs.WorkProofs.Affairs.{Affair, BeginsFree, Says, IsGood, AreGood}
use Rattle.sc_live_answers.proofs.WorkProofs.AffairParts.{Held, AllDo, Fly, Wait, Fine, Kids}
use Rattle.sc_group_table.specs.machine.MachineDefinitions.{child_by, Group}
use Rattle.sc_live_answers.proofs.ChildrenProofs.UnknownChildren.{IsUnborn, made_unborn}
use Rattle.sc_live_answers.proofs.WorkProofs.AffairRows.{Hears, mailed_fine, mailed_kids, made_fine}
use Rattle.std.proofs.lemmas.Option.{same_Some}
use Rattle.sc_live_answers.proofs.BallotsProofs.WellPlayers.{plays_of}
use Rattle.sc_live_answers.proofs.ReplicasProofs.TakenMail.{mail_taken}

-- what holds of a replica at a prefix, but its name and what its leader counted
abbrev pub HeldSo : Affair → Draw → ReplicaState → Type 0
HeldSo a name r = (r.backlog ≡ []) × AllDo a name r.acts × Fly a name r.leader.flights × Wait a name r.ready × a.Is name r.group.core

held_so : (a : Affair) (name : Draw) (r : ReplicaState) → Held a name r → HeldSo a name r
held_so a name r k = (k.1, k.2, k.3, k.4, k.5)

-- the mail that a node without replica sends is good
absent_good : (a : Affair) (me from : ℕ) (body : MailBody) → Says a body → AreGood a (absent me from body)
absent_good a me from (Request group client seq op) q = absurd q
absent_good a me from (Prepare group ballot from_slot) q = (tt, tt)
absent_good a me from (Accept group ballot slot command) q = (tt, tt)
absent_good a me from (Learn group slot command) q = (tt, tt)
absent_good a me from (TxPrepare tx offer) q = (tt, tt)
absent_good a me from (TxWatch tx watch) q = (tt, tt)
absent_good a me from _ q = tt

module _ (a : Affair) (words : ℕ → ℕ → ℕ × ℕ) (births : List (Seat Player)) (rows : Rows) (seat : Seat Player) (event : Event OrderLine) where
  -- what a row leaves at its player, and sends
  pub record RowHolds : Type 0 where
    pub views : (name : Draw) (r : ReplicaState) → view_at births (with_event rows seat event) name seat.who ≡ Some r → HeldSo a name r
    pub good : AreGood a (row_of player_table seat rows event).sent

  -- each replica there before
  abbrev pub Holds : Type 0
  Holds = (name : Draw) (r : ReplicaState) → view_at births rows name seat.who ≡ Some r → HeldSo a name r

module _ (well : ScenariosAreWellBorn) (a : Affair) (begins : BeginsFree a) (words : ℕ → ℕ → ℕ × ℕ) (scenario : Scenario) (rows : Rows) (seat : Seat Player) (number : ℕ) (born : IsSeat (births as_nodes scenario) seat) (timely : AreInTime (players words (births as_nodes scenario)) (with_event rows seat (Deliver number)))
    (meets : MeetsOrder words (births as_nodes scenario) rows seat number)
    (groups : (name : Draw) (node : ℕ) (r : ReplicaState) → view_at (births as_nodes scenario) rows name node ≡ Some r → IsNamedGuide words (births as_nodes scenario) rows seat (Deliver number) name)
    (has : Holds a words (births as_nodes scenario) rows seat (Deliver number)) (mail : Mail) (at : numbered (mails rows) number ≡ Some mail) (good : IsGood a mail) where
  abbrev all : List (Seat Player)
  all = births as_nodes scenario

  abbrev Done : Type 0
  Done = RowHolds a words (births as_nodes scenario) rows seat (Deliver number)

  module _ (node : NodeState) (fact : value player_table seat rows ≡ Node node) where
    plays : Plays seat.who (Node node)
    plays = subst (Plays seat.who) fact (replay_well seat.who seat.who rows seat.actor [] (plays_of seat.who seat.actor ((well scenario).well seat born)))

    view_of : (group : Draw) (o : Option ReplicaState) → replica_of group node.replicas ≡ o → view_at all rows group seat.who ≡ o
    view_of group o here = view_was all rows seat Go group born (Node node) fact ∙ here

    -- a node's step, by the replica of each group after it
    response : (step : NodeState × List Mail) → on_mail mail.from mail.body node ≡ step → ((name : Draw) (r : ReplicaState) → replica_of name step.0.replicas ≡ Some r → HeldSo a name r) → AreGood a step.1 → Done
    response step e views sends = record {
      views = λ name r v.
          views name r (sym (now_is all rows seat (Deliver number) node born fact step (Some (Got mail)) (ap (option_map Got) at) (ap (λ (x : NodeState × List Mail). (Node x.0, x.1)) e) name) ∙ v);
      good = subst (AreGood a) (sym (all_sent all rows seat (Deliver number) node born fact step (Some (Got mail)) (ap (option_map Got) at) (ap (λ (x : NodeState × List Mail). (Node x.0, x.1)) e))) sends;
    }

    had : (name : Draw) (r : ReplicaState) → replica_of name node.replicas ≡ Some r → HeldSo a name r
    had name r here = has name r (view_of name (Some r) here)

    module _ (group : Draw) (t : IsTaking words (births as_nodes scenario) rows seat number mail group node) where
      -- ---- a replica takes it

      module _ (r : ReplicaState) (here : replica_of group node.replicas ≡ Some r) (guide : IsNamedGuide words (births as_nodes scenario) rows seat (Deliver number) group) where
        abbrev base : Base
        base = guide.base

        abbrev g : IsGuided words (births as_nodes scenario) rows seat (Deliver number) guide.base
        g = guide.guided

        own : name_of r ≡ group
        own = found_name group node.replicas r here

        own_here : replica_of guide.base.core.id node.replicas ≡ Some r
        own_here = ap (λ n. replica_of n node.replicas) guide.named ∙ here

        own_view : view_at all rows guide.base.core.id seat.who ≡ Some r
        own_view = view_of guide.base.core.id (Some r) own_here

        kept : IsWellKept seat.who r
        kept = subst (Found seat.who) here (found_well seat.who group node.replicas plays.1)

        held : Held a group r
        held =
            let h = had group r here in
            (own, h.0, h.1, h.2, h.3, h.4, (λ on. (g.led.orderly seat.who r own_view on).plain))

        delivers : Delivers (with_event rows seat (Deliver number)) rows seat number mail
        delivers = record { row = record { more = []; fact = sym (append-nil (with_event rows seat (Deliver number))) }; sent = at }

        takes : TakesMail words all rows seat number mail
        takes = record { timely = timely; sent = at; comes = t.comes }

        holds : HoldsReplica seat node guide.base r
        holds = record { here = own_here; well = kept }

        led : IsLedScene g.at g.over g.by words all rows seat node guide.base g.course
        led = record { log = g.log.log; seated = born; fact = fact; led = g.led }

        comes : group_of_mail mail.body ≡ Some guide.base.core.id
        comes = t.named ∙ ap Some (sym guide.named)

        fitting : (mark : Mark) → mark_of guide.base.core.id mail.from mail.body ≡ Some mark → IsFit (next r) r.acceptor.promised mark
        fitting mark e =
            fit g.at words all rows seat node guide.base g.course (scene g.at g.over g.by words all rows seat node guide.base g.course led) number mail takes r holds mark e (mailed mail.from mail.body (r, [])).0
            (rows_replicas.taken all rows seat number mail guide.base.core.id node r born fact at t.comes comes own_here)

        named_body : (n : Draw) (b : Draw → MailBody) → mail.body ≡ b n → group_of_mail (b n) ≡ Some n → mail.body ≡ b guide.base.core.id
        named_body n b e is_of = e ∙ ap b (same_Some n guide.base.core.id (sym is_of ∙ (sym (ap group_of_mail e) ∙ comes)))

        low_prepare : (n : Draw) (ballot : Ballot) (from_slot : ℕ) → mail.body ≡ Prepare n ballot from_slot → r.acceptor.floor < from_slot
        low_prepare n ballot from_slot e =
            let body : mail.body ≡ Prepare guide.base.core.id ballot from_slot = named_body n (λ x. Prepare x ballot from_slot) e refl in
            let marked : mark_of guide.base.core.id mail.from mail.body ≡ Some (Prepares ballot) = ap (mark_of guide.base.core.id mail.from) body ∙ same_mark guide.base.core.id (Prepares ballot) in
            let dated = rows_dated words all rows (row_of player_table seat rows (Deliver number)) guide.base g.course g.course timely in
            let taken : taken_dated guide.base.core.id (mails rows) (Deliver number) ≡ Some (Prepares ballot, from_slot) = ap (dated_in guide.base.core.id) at ∙ (ap (option_map (λ mark. (mark, from_slot_of mail.body))) marked ∙ ap (λ b. Some (Prepares ballot, from_slot_of b)) body) in
            prepares_are_known.above (progress_at all rows guide.base g.course) (dated_at (players words all) rows guide.base.core.id) seat.who ballot from_slot dated.left r g.led.low (dated.takes ∙ ap (λ o. listed o ++ dated.left) taken)
            (sym (ap (next_in guide.base seat.who) own_view)) kept.2

        low_accept : (n : Draw) (ballot : Ballot) (slot : ℕ) (command : Command) → mail.body ≡ Accept n ballot slot command → r.acceptor.floor < slot
        low_accept n ballot slot command e =
            let body : mail.body ≡ Accept guide.base.core.id ballot slot command = named_body n (λ x. Accept x ballot slot command) e refl in
            let f = fitting (Asks ballot slot) (ap (mark_of guide.base.core.id mail.from) body ∙ same_mark guide.base.core.id (Asks ballot slot)) in
            let high = f.1 in
            let low = kept.2 in
            omega (arith, high, low)

        -- a Learn of the next slot finds nothing in flight
        learn_finds : (n : Draw) (slot : ℕ) (command : Command) → mail.body ≡ Learn n slot command → slot ≡ next r → r.leader.flights ≡ []
        learn_finds n slot command e same = by (meets.here mail group node r t here)
          where
            by : FindsReplica (births as_nodes scenario) rows seat number mail group r → r.leader.flights ≡ []
            by (AtLeader leads f) = (let less : slot < next r = subst (LeaderFinds (births as_nodes scenario) rows seat number mail group r) e f in absurd (omega (arith, less, same)))
            by (AtAnother beside f) = (subst (BesideFinds mail r) e f).flights

        hears : (b : MailBody) → mail.body ≡ b → Says a b → Hears a r b
        hears (Request n client seq op) e q = q
        hears (Answer n seq answer) e q = q
        hears (Prepare n ballot from_slot) e q = low_prepare n ballot from_slot e
        hears (Promise n ballot reports) e q = g.sends.plain rows seat number mail ballot reports delivers (named_body n (λ x. Promise x ballot reports) e refl)
        hears (Accept n ballot slot command) e q = low_accept n ballot slot command e
        hears (Accepted n ballot slot) e q = tt
        hears (Nack n promised) e q = tt
        hears (Learn n slot command) e q =
            (subst (λ x. a.Does x command) (same_Some n group (sym (ap group_of_mail e) ∙ t.named) ∙ sym own) q, learn_finds n slot command e)
        hears (Ask n from_slot) e q = g.sends.asks rows seat number mail from_slot delivers (named_body n (λ x. Ask x from_slot) e refl)
        hears (Install n slot state sets) e q = subst (λ x. a.Is x state.core) (same_Some n group (sym (ap group_of_mail e) ∙ t.named) ∙ sym own) q.1
        hears (TxPrepare tx offer) e q = q
        hears (TxVote tx coord part vote) e q = q
        hears _ e q = tt

        abbrev made : Executed
        made = mailed mail.from mail.body (r, [])

        fine : Fine a group made.0
        fine = mailed_fine a group mail.from mail.body r [] (hears mail.body refl good) (held, tt)

        pub kids : Kids a group made.1
        kids = mailed_kids a group mail.from mail.body r [] (hears mail.body refl good) (held, tt)

        pub new_kids : ((name : Draw) (x : Group) (command : Command) (kid : Base) → a.Is name x.core → child_by x command ≡ Some kid → IsUnborn x.core.born kid) → Each (λ (kid : Base). a.Creates group kid × IsUnborn r.group.core.born kid) made.1
        new_kids unborn = made_unborn a unborn group r mail.from mail.body (hears mail.body refl good) held

        abbrev put : NodeState
        put = record node { replicas = with_replica group made.0.0 node.replicas }

        row : IsReplicasRow all rows seat (Deliver number) group (Some r) made.0
        row = rows_replicas.taken all rows seat number mail group node r born fact at t.comes t.named here

        other_view : (name : Draw) → (name ≡ group → ⊥) → (x : ReplicaState) → replica_of name (with_children made.1 put).replicas ≡ Some x → HeldSo a name x
        other_view name ne x v = by (all_children seat.who name made.1 put t.me_is)
          where
            by : OneOf name seat.who made.1 (replica_of name (with_children made.1 put).replicas) (replica_of name put.replicas) → HeldSo a name x
            by (inl e) = had name x (sym (put_others group name made.0.0 node.replicas (names_stay.mailed mail.from mail.body r ∙ own) ne) ∙ (sym e ∙ v))
            by (inr (child, among, id, none, made_so)) =
                let free = begins.young group child (each_is (a.Creates group) made.1 child kids among) in
                subst (HeldSo a name) (same_Some (born_replica slots_ahead seat.who child) x (sym made_so ∙ v)) (refl, tt, tt, tt, begins.free name child.core free)

        takes_it : Done
        takes_it = record {
          views = λ name x v. elim (cases-draw name group) [
            | inl i ↦ subst (HeldSo a name) (same_Some made.0.0 x (sym row.fact ∙ (ap (λ n. view_at all (with_event rows seat (Deliver number)) n seat.who) (sym i) ∙ v))) (subst (λ n. HeldSo a n made.0.0) (sym i) (held_so a group made.0.0 fine.0))
            | inr ne ↦ other_view name ne x
                (sym (now_is all rows seat (Deliver number) node born fact (with_children made.1 put, made.0.1) (Some (Got mail)) (ap (option_map Got) at) (ap (λ (s : NodeState × List Mail). (Node s.0, s.1)) (mail_taken mail.from mail.body node group t.named t.comes (Some r) here)) name) ∙ v)
          ];
          good = subst (AreGood a) (sym row.sends_all) fine.1;
        }

      -- ---- a node without replica takes it

      missed : (b : MailBody) → mail.body ≡ b → replica_of group node.replicas ≡ None → Says a b → unknown mail.from b node ≡ (node, absent node.me mail.from b) → Done
      missed b e here q step =
          response (node, absent node.me mail.from b) (mail_taken mail.from mail.body node group t.named t.comes None here ∙ (ap (λ x. unknown mail.from x node) e ∙ step)) had (absent_good a node.me mail.from b q)

      installs : (n : Draw) (slot : ℕ) (state : Base) (sets : List (List ℕ)) → mail.body ≡ Install n slot state sets → replica_of group node.replicas ≡ None → a.Is n state.core → Done
      installs n slot state sets e here s =
          let same : n ≡ group = same_Some n group (sym (ap group_of_mail e) ∙ t.named) in
          let body : mail.body ≡ Install group slot state sets = e ∙ ap (λ x. Install x slot state sets) same in
          let found = subst (NodeFinds (births as_nodes scenario) rows seat number mail group) body (meets.missed mail group node t here) in
          let row = rows_replicas.made all rows seat number mail group slot state sets node born fact at t.comes body found.0.whole here in
          let fine = made_fine a group node.me mail.from slot state sets (subst (λ x. a.Is x state.core) same s) in
          record {
            views = λ name x v. elim (cases-draw name group) [
              | inl i ↦ subst (HeldSo a name) (same_Some _ x (sym row.fact ∙ (ap (λ k. view_at all (with_event rows seat (Deliver number)) k seat.who) (sym i) ∙ v)))
                  (subst (λ k. HeldSo a k (made_by node.me mail.from group slot state sets).0) (sym i) (held_so a group (made_by node.me mail.from group slot state sets).0 fine.0))
              | inr ne ↦ had name x
                  (sym (unknown_apart name group ne node mail.from mail.body t.named).0
                  ∙ (sym (now_is all rows seat (Deliver number) node born fact (unknown mail.from mail.body node) (Some (Got mail)) (ap (option_map Got) at) (ap (λ (k : NodeState × List Mail). (Node k.0, k.1)) (mail_taken mail.from mail.body node group t.named t.comes None here)) name) ∙ v))
            ];
            good = subst (AreGood a) (sym row.sends_all) fine.1;
          }

      none_takes : (b : MailBody) → mail.body ≡ b → replica_of group node.replicas ≡ None → Says a b → Done
      none_takes (Install n slot state sets) e here q = installs n slot state sets e here q.1
      none_takes (Request n client seq op) e here q = absurd q
      none_takes (Answer n seq answer) e here q = absurd q
      none_takes body e here q = missed body e here q refl

      taken_so : (o : Option ReplicaState) → replica_of group node.replicas ≡ o → Done
      taken_so None here = none_takes mail.body refl here good
      taken_so (Some r) here = takes_it r here (groups group seat.who r (view_of group (Some r) here))

    taking : (group : Draw) → may_come mail.from mail.body ≡ true → group_of_mail mail.body ≡ Some group → IsTaking words (births as_nodes scenario) rows seat number mail group node
    taking group comes e = record { seated = born; timely = timely; is_node = fact; me_is = plays.0; sent = at; comes = comes; named = e }

    mail_so : (b : Bool) → may_come mail.from mail.body ≡ b → (o : Option Draw) → group_of_mail mail.body ≡ o → Done
    mail_so false bar o e = response (node, []) (cond-false (may_come mail.from mail.body) (routed (group_of_mail mail.body) mail.from mail.body node) (node, []) bar) had tt
    mail_so true may None e =
        response (node, []) (either_way (λ (step : NodeState × List Mail). step ≡ (node, [])) (may_come mail.from mail.body) (routed (group_of_mail mail.body) mail.from mail.body node) (node, []) (ap (λ g. routed g mail.from mail.body node) e) refl) had tt
    mail_so true may (Some group) e = taken_so group (taking group may e) (replica_of group node.replicas) refl

  no_answer : (group : Draw) (seq : ℕ) (answer : AnswerBody) → mail.body ≡ Answer group seq answer → ⊥
  no_answer group seq answer e = subst (Says a) e good

  player_so : (player : Player) → value player_table seat rows ≡ player → Done
  player_so (Client client) fact = record {
    views = λ name r v. (let l = client_leaves words all rows seat (Deliver number) born timely client fact name (Got mail) (ap (option_map Got) at) (got_nothing mail.from mail.body client no_answer) in has name r (sym l.view ∙ v));
    good = subst (AreGood a) (sym (client_silent client fact)) tt;
  }
    where
      client_silent : (client : ClientState) → value player_table seat rows ≡ Client client → (row_of player_table seat rows (Deliver number)).sent ≡ []
      client_silent client fact = sent_is all rows seat (Deliver number) (record { node = 0; count = 0 }) born (Client client) fact (Some (Got mail)) (ap (option_map Got) at) ∙ got_nothing mail.from mail.body client no_answer
  player_so (Node node) fact = mail_so node fact (may_come mail.from mail.body) refl (group_of_mail mail.body) refl

  pub delivery_holds : Done
  delivery_holds = player_so (value player_table seat rows) refl

  -- each child that a replica makes is one that it may create
  pub delivery_creates : (group : Draw) (node : NodeState) (r : ReplicaState) (t : IsTaking words (births as_nodes scenario) rows seat number mail group node) → replica_of group node.replicas ≡ Some r → Kids a group (mailed mail.from mail.body (r, [])).1
  delivery_creates group node r t here = kids node t.is_node group t r here (groups group seat.who r (view_of node t.is_node group (Some r) here))

  -- the child has a name that the group did not know
  pub delivery_unborn : ((name : Draw) (x : Group) (command : Command) (kid : Base) → a.Is name x.core → child_by x command ≡ Some kid → IsUnborn x.core.born kid)
      → (group : Draw) (node : NodeState) (r : ReplicaState) (t : IsTaking words (births as_nodes scenario) rows seat number mail group node) → replica_of group node.replicas ≡ Some r → Each (λ (kid : Base). a.Creates group kid × IsUnborn r.group.core.born kid) (mailed mail.from mail.body (r, [])).1
  delivery_unborn unborn group node r t here = new_kids node t.is_node group t r here (groups group seat.who r (view_of node t.is_node group (Some r) here)) unborn
