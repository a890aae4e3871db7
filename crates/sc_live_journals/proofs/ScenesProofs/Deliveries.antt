-- A delivery leaves the groups that an order has not touched as they were; so does the order, and so all deliveries behind it.
use Rattle.sc_client_table.specs.table.TableDefinitions.{Client as ClientState}
use Rattle.sc_base.specs.Definitions.{Each}
use Rattle.sc_live_steps.specs.orders.OrderDefinitions.{Elsewhere, Errand, Deal, Asks, Stage, Still, IsAt, errand_by, ByTaking}
use Rattle.sc_live_journals.proofs.RowsProofs.RowLemmas.{mailed_keeps, order_keeps, view_was, names_stay, found_name, none_some}
use Rattle.sc_live_journals.specs.scenes.SceneDefinitions.{IsErrandFor, is_running, lead_of, scene_at, IsTaking, GoesBy, ComesTo, StageAfter, BesideFinds, FindsReplica, AtLeader, AtAnother, IsFresh, IsThere, AreThere, IsNowhere, AreUntouched, IsDelivered, after_all, AreDelivered, IsGivenInQuiet, FreshGroupsStay}
use Rattle.sc_live_journals.proofs.ScenesProofs.UntouchedGroups.{quiet_errands, absent_errand, got_nothing}
use Rattle.std.proofs.Common.{◌≡◌, ◌⊎◌, ℕ, true, List, [], ◌∷◌, Option, Some, None, inl, inr, refl, sym, ◌∙◌, ap, subst}
use Rattle.std.specs.Option.{option_map}
use Rattle.std.proofs.lemmas.Bool.{cases_Bool, cond-false}
use Rattle.sc_node_table.specs.Values.{Draw, Base, OrderLine, Refused, Mail, Node, Client, Seat, Event, Deliver, Got}
use Rattle.sc_words.specs.declared.commands.orders.OrderRefusal.TheVariants.{NotLeader}
use Rattle.sc_actor.specs.declared.rows.Event.TheVariants.{Told}
use Rattle.sc_actor.specs.declared.rows.Input.TheVariants.{Told as ToldInput}
use Rattle.sc_actor.specs.Definitions.{mails, numbered, value, System, row_of, numbers_of}
use Rattle.sc_live_orderly.specs.OrderlyDefinitions.{IsCalmRow, is_born}
use Rattle.sc_live_orderly.proofs.OrderlyLemmas.{in_time_before, in_time_tidy, last_in_time, TakesFirst, quiet-empty, is_born-from, takes_first}
use Rattle.sc_node_table.specs.NodeDefinitions.{NodeState, replica_of, with_replica, with_children, group_of_mail, may_come, unknown, routed, on_mail, absent, group_of_order, ordered_of, result_sent, ordered_row, ReplicaState, Place, Executed, name_of, mailed}
use Rattle.sc_law_walks.proofs.WalkLemmas.{either_way, takes_by}
use Rattle.sc_meaning.specs.sound.SoundDefinitions.{Player, player_table}
use Rattle.sc_live_steps.specs.calm.CalmDefinitions.{players, Rows}
use Rattle.sc_live_steps.proofs.CalmStepsProofs.CalmStepLemmas.{put_others}
use Rattle.sc_live_steps.proofs.OrderStepsProofs.OrderStepLemmas.{cases-draw}
use Rattle.sc_live_journals.specs.rows.RowDefinitions.{view_at, with_event}
use Rattle.sc_live_journals.proofs.ScenesProofs.NewestLeaders.{lead_runs}
use Rattle.sc_live_journals.proofs.ScenesProofs.RowPremises.{IsQuestion, leader_asked, found_step}
use Rattle.sc_live_journals.proofs.ScenesProofs.OrderRows.{taken_on, row_of_comes}
use Rattle.sc_live_journals.proofs.ScenesProofs.UntakenMail.{takes_one}
use Rattle.sc_live_journals.proofs.ScenesProofs.ErrandLeaders.{errand_among}
use Rattle.sc_live_journals.proofs.ScenesProofs.SceneReceivers.{errand_unknown, OneOf, all_children, each_is}
use Rattle.sc_live_journals.proofs.ScenesProofs.SceneRows.{calm_is}
use Rattle.sc_live_journals.proofs.ScenesProofs.UntouchedBySteps.{taken_back, step_back, step_there, begun_other, begun_there, fresh_errand, asked_fresh, sent_on_fresh}
use Rattle.sc_live_journals.proofs.ScenesProofs.UntouchedGroups.{Leaves, left_view, left_mail, client_leaves, node_leaves, is_asked, asks_it, aside_is, unknown_apart}

-- ---- who takes it

pub some_or_none : {X : Type 0} (o : Option X) → (o ≡ None) ⊎ ((x : X) × (o ≡ Some x))
some_or_none None = inl refl
some_or_none (Some x) = inr (x, refl)

pub client_or_node : (player : Player) → ((client : ClientState) × (player ≡ Client client)) ⊎ ((node : NodeState) × (player ≡ Node node))
client_or_node (Client client) = inl (client, refl)
client_or_node (Node node) = inr (node, refl)

module _ (words : ℕ → ℕ → ℕ × ℕ) (births : List (Seat Player)) (quiet rows : Rows) (seat : Seat Player) (number : ℕ) (stage : Stage) (u : AreUntouched words births quiet rows stage) (d : IsDelivered words births quiet rows seat number) where
  abbrev s : System Player Mail OrderLine
  s = players words births

  abbrev event : Event OrderLine
  event = Deliver number

  abbrev Left : Draw → Type 0
  Left name = Leaves words births rows seat event d.seated d.timely name

  abbrev Done : Type 0
  Done = (later : Stage) × AreUntouched words births quiet (with_event rows seat event) later × ((later ≡ stage) ⊎ GoesBy rows event stage later)

  tidy_calm : IsCalmRow s rows (row_of player_table seat rows event)
  tidy_calm = (last_in_time s rows (row_of player_table seat rows event) d.timely).0

  -- what an untouched group is delivered is an errand
  pub own_errand : (name : Draw) (mail : Mail) → IsFresh stage name → IsThere births quiet name → numbered (mails rows) number ≡ Some mail → group_of_mail mail.body ≡ Some name
      → (entry : Draw × Errand) × (errand_by mail.from mail.to mail.body ≡ Some entry)
  own_errand name mail fresh there at named = subst (IsErrandFor name) same (subst (Each (IsErrandFor name)) first.first (u.mails name fresh there seat.who born)).0 named
    where
      born : is_born s seat.who ≡ true
      born = is_born-from s seat.who seat d.seated

      first : TakesFirst s rows seat.who number
      first = takes_first s rows seat.who number (in_time_tidy s rows (in_time_before s rows (row_of player_table seat rows event) d.timely)) born (calm_is words births rows seat event tidy_calm)

      same : first.mail ≡ mail
      same = (let e : Some first.mail ≡ Some mail = sym first.sent ∙ at in cc)

  -- ---- the stage after it

  finish : (later : Stage) → IsAt later (scene_at births (with_event rows seat event)) → AreThere births quiet later → (later ≡ stage) ⊎ GoesBy rows event stage later → ((name : Draw) → IsFresh later name → IsThere births quiet name → IsFresh stage name × Left name) → Done
  finish later a there goes all = (
    later,
    record {
      stands = a;
      parties = there;
      views = λ name f t who. (let l = all name f t in left_view words births rows seat event d.seated d.timely name l.1 who ∙ u.views name l.0 t who);
      mails = λ name f t who born. (let l = all name f t in left_mail words births rows seat event d.seated d.timely name l.1 who (u.mails name l.0 t who born));
    },
    goes,
  )

  found : StageAfter births rows seat event stage
  found = found_step words births rows seat event d.seated d.timely d.finds stage u.stands

  -- whom a stage after it asks is there
  asked_there : (later : Stage) → IsAt later (scene_at births (with_event rows seat event)) → (deal : Deal) (to : ℕ) → later ≡ Asks deal to → IsThere births quiet deal.asked
  asked_there later a deal to e = d.asked deal to (subst (λ x. IsAt x (scene_at births (with_event rows seat event))) e a)

  found_there : AreThere births quiet found.0
  found_there = elim found.2 [
    | inl e ↦ subst (AreThere births quiet) (sym e) u.parties
    | inr g ↦ step_there births quiet g.group stage found.0 g.step g.begins (asked_there found.0 found.1) u.parties
  ]

  fresh_before : (name : Draw) → IsFresh found.0 name → IsFresh stage name
  fresh_before name f = elim found.2 [ inl e ↦ subst (λ x. IsFresh x name) e f | inr g ↦ step_back g.group stage found.0 name g.step g.begins f ]

  by_found : ((name : Draw) → IsFresh stage name → IsThere births quiet name → Left name) → Done
  by_found all = finish found.0 found.1 found_there found.2 (λ name f t. (let b = fresh_before name f in (b, all name b t)))

  -- ---- by who takes it

  module _ (node : NodeState) (fact : value player_table seat rows ≡ Node node) (mail : Mail) (at : numbered (mails rows) number ≡ Some mail) where
    makes : (step : NodeState × List Mail) → on_mail mail.from mail.body node ≡ step → (name : Draw) → replica_of name step.0.replicas ≡ replica_of name node.replicas → Each (IsErrandFor name) step.1 → Left name
    makes step e name same silent =
        node_leaves words births rows seat event d.seated d.timely node fact step (Some (Got mail)) (ap (option_map Got) at) (ap (λ (x : NodeState × List Mail). (Node x.0, x.1)) e) name same silent

    module _ (group : Draw) (t : IsTaking words births rows seat number mail group node) where
      named_so : (name : Draw) → name ≡ group → group_of_mail mail.body ≡ Some name
      named_so name i = t.named ∙ ap Some (sym i)

      -- without replica
      none_leaves : replica_of group node.replicas ≡ None → (name : Draw) → IsFresh stage name → IsThere births quiet name → Left name
      none_leaves here name fresh there = elim (cases-draw name group) [
        | inl i ↦ (let own = own_errand name mail fresh there at (named_so name i) in
            makes (node, absent node.me mail.from mail.body) (takes_by group mail.from mail.body node t.comes t.named None here ∙ errand_unknown mail.from mail.to mail.body node own.0 own.1) name refl (absent_errand name node.me mail.from mail.to mail.body own.0 own.1))
        | inr ne ↦ (let apart = unknown_apart name group ne node mail.from mail.body t.named in makes (unknown mail.from mail.body node) (takes_by group mail.from mail.body node t.comes t.named None here) name apart.0 apart.1)
      ]

      module _ (r : ReplicaState) (here : replica_of group node.replicas ≡ Some r) where
        abbrev made : Executed
        made = mailed mail.from mail.body (r, [])

        abbrev put : NodeState
        put = record node { replicas = with_replica group made.0.0 node.replicas }

        -- another group
        other_leaves : (name : Draw) → (name ≡ group → ⊥) → IsThere births quiet name → Left name
        other_leaves name ne there =
            makes (with_children made.1 put, made.0.1) (takes_by group mail.from mail.body node t.comes t.named (Some r) here) name (by (all_children seat.who name made.1 put t.me_is))
            (quiet_errands (name_of r) name made.0.1 (λ i. ne (sym i ∙ own)) (mailed_keeps (name_of r) mail.from mail.body (r, []) (refl, tt)).1)
          where
            own : name_of r ≡ group
            own = found_name group node.replicas r here

            by : OneOf name seat.who made.1 (replica_of name (with_children made.1 put).replicas) (replica_of name put.replicas) → replica_of name (with_children made.1 put).replicas ≡ replica_of name node.replicas
            by (inl e) = e ∙ put_others group name made.0.0 node.replicas (names_stay.mailed mail.from mail.body r ∙ own) ne
            by (inr (child, among, id, none, made_so)) =
                (let new : IsNowhere births quiet child.core.id = each_is (λ (c : Base). IsNowhere births quiet c.core.id) made.1 child (d.children mail group node r t here) among in
                absurd (none_some (sym (new there.0) ∙ (ap (λ n. view_at births quiet n there.0) id ∙ there.2))))

        -- what comes to a group that is untouched is a question
        asked : (c : ComesTo words births rows seat number mail group r) → c.node ≡ node → (name : Draw) → name ≡ group → IsFresh stage name → IsThere births quiet name → IsQuestion mail.body
        asked c same name i fresh there =
            let own = own_errand name mail fresh there at (named_so name i) in
            let among = errand_among words births rows seat number mail group own.0 own.1 node t (row_of_comes words births rows seat number mail group r c).0 in
            asks_it mail.from mail.to mail.body own.0 own.1 (fresh_errand (scene_at births rows) stage group own.0.1 u.stands (subst (IsFresh stage) i fresh) among)

        beside_leaves : (c : ComesTo words births rows seat number mail group r) → IsQuestion mail.body → BesideFinds mail r mail.body → Left group
        beside_leaves c q f =
            let row = (row_of_comes words births rows seat number mail group r c).1 in
            let sent_on = aside_is mail r mail.body q f in
            record {
              view = row.fact ∙ (ap (λ (p : Place). Some p.0) sent_on.2 ∙ sym row.was);
              silent = subst (Each (IsErrandFor group)) (sym (row.sends ∙ ap (λ (p : Place). p.1) sent_on.2)) ((λ n. ((sent_on.1, Elsewhere sent_on.0 mail.from), refl)), tt);
            }

        comes_by : (c : ComesTo words births rows seat number mail group r) → c.node ≡ node → FindsReplica births rows seat number mail group r → Done
        comes_by c same (AtLeader leads f) = elim (is_asked mail.body) [
          | inl q ↦ (let to = leader_asked words births rows seat number mail group r (record { comes = c; leads = leads }) mail.body q refl f (stage, u.stands) in
              finish to.0 to.1 (step_there births quiet group stage to.0 (ByTaking to.2) (taken_on group stage to.0 to.2) (asked_there to.0 to.1) u.parties)
              (inr (record { group = group; step = ByTaking to.2; of = (mail, t.sent, t.named); begins = λ still. absurd (taken_on group stage to.0 to.2 still) }))
              (λ name fr th. (let b = taken_back group stage to.0 name to.2 fr in (b.0, other_leaves name b.1 th))))
          | inr other ↦ by_found (λ name fr th. elim (cases-draw name group) [ inl i ↦ absurd (other (asked c same name i fr th)) | inr ne ↦ other_leaves name ne th ])
        ]
        comes_by c same (AtAnother beside f) =
            by_found (λ name fr th. elim (cases-draw name group) [ inl i ↦ subst Left (sym i) (beside_leaves c (asked c same name i fr th) f) | inr ne ↦ other_leaves name ne th ])

      node_takes : Done
      node_takes = elim (some_or_none (replica_of group node.replicas)) [
        | inl here ↦ by_found (none_leaves here)
        | inr one ↦ (let f = d.finds.here number mail group node one.0 refl t one.1 in comes_by one.0 one.1 (record { node = node; taking = t; here = one.1; children = f.0 }) refl f.1)
      ]

    -- a mail that is for no group, or may not come, is nothing to it
    node_so : Done
    node_so = elim (cases_Bool (may_come mail.from mail.body)) [
      | inr bar ↦ by_found (λ name f th. makes (node, []) (cond-false (may_come mail.from mail.body) (routed (group_of_mail mail.body) mail.from mail.body node) (node, []) bar) name refl tt)
      | inl comes ↦ elim (some_or_none (group_of_mail mail.body)) [
        | inl e ↦ by_found (λ name f th. makes (node, [])
            (either_way (λ (step : NodeState × List Mail). step ≡ (node, [])) (may_come mail.from mail.body) (routed (group_of_mail mail.body) mail.from mail.body node) (node, []) (ap (λ g. routed g mail.from mail.body node) e) refl)
            name refl tt)
        | inr group ↦ node_takes group.0 (record { seated = d.seated; timely = d.timely; is_node = fact; me_is = d.finds.me_is node fact; sent = at; comes = comes; named = group.1 })
      ]
    ]

  pub delivered_so : Done
  delivered_so =
      let one = takes_one words births rows seat.who number (calm_is words births rows seat event tidy_calm) in
      elim (client_or_node (value player_table seat rows)) [
        | inl client ↦ by_found (λ name f th. client_leaves words births rows seat event d.seated d.timely client.0 client.1 name (Got one.mail) (ap (option_map Got) one.sent)
            (got_nothing one.mail.from one.mail.body client.0 (λ group seq answer. d.unanswered one.mail group seq answer one.sent)))
        | inr node ↦ node_so node.0 node.1 one.mail one.sent
      ]

-- ---- the order

module _ (words : ℕ → ℕ → ℕ × ℕ) (births : List (Seat Player)) (quiet : Rows) (seat : Seat Player) (line : OrderLine) (b : IsGivenInQuiet words births quiet seat line) where
  abbrev told : Event OrderLine
  told = Told line

  abbrev group : Draw
  group = group_of_order line.order

  abbrev Kept : Draw → Type 0
  Kept name = Leaves words births quiet seat told b.seated b.timely name

  -- where there is none, it is refused
  none_leaves_it : (node : NodeState) → value player_table seat quiet ≡ Node node → (name : Draw) → replica_of group node.replicas ≡ None → Kept name
  none_leaves_it node fact name here =
      node_leaves words births quiet seat told b.seated b.timely node fact (node, result_sent node.me line.number (Refused (NotLeader None)) []) (Some (ToldInput line)) refl
      (ap (λ (x : NodeState × List Mail). (Node x.0, x.1)) (ap (λ o. ordered_of o line node) here)) name refl ((λ n. absurd (none_some n)), tt)

  ordered_leaves : (node : NodeState) → value player_table seat quiet ≡ Node node → (name : Draw) → (name ≡ group → ⊥) → (o : Option ReplicaState) → replica_of group node.replicas ≡ o → Kept name
  ordered_leaves node fact name ne None here = none_leaves_it node fact name here
  ordered_leaves node fact name ne (Some r) here =
      let own = found_name group node.replicas r here in
      let step : NodeState × List Mail = ordered_of (Some r) line node in
      node_leaves words births quiet seat told b.seated b.timely node fact step (Some (ToldInput line)) refl
      (ap (λ (x : NodeState × List Mail). (Node x.0, x.1)) (ap (λ o. ordered_of o line node) here)) name
      (put_others group name (ordered_row node.draws line (r, [])).0 node.replicas (names_stay.ordered node.draws line r ∙ own) ne)
      (quiet_errands (name_of r) name (ordered_row node.draws line (r, [])).1 (λ i. ne (sym i ∙ own)) (order_keeps (name_of r) node.draws line (r, []) (refl, tt)).1)

  player_leaves : (player : Player) → value player_table seat quiet ≡ player → (name : Draw) → (name ≡ group → ⊥) → Kept name
  player_leaves (Client client) fact name ne = client_leaves words births quiet seat told b.seated b.timely client fact name (ToldInput line) refl refl
  player_leaves (Node node) fact name ne = ordered_leaves node fact name ne (replica_of group node.replicas) refl

  found_first : StageAfter births quiet seat told Still
  found_first = found_step words births quiet seat told b.seated b.timely b.finds Still b.still

  fresh_other : (name : Draw) → IsFresh found_first.0 name → name ≡ group → ⊥
  fresh_other name f i = elim found_first.2 [
    | inl e ↦ absurd (subst (λ x. IsFresh x name) e f)
    | inr g ↦ begun_other g.group found_first.0 name g.step f (i ∙ g.of)
  ]

  leaves : (name : Draw) → IsFresh found_first.0 name → Kept name
  leaves name f = player_leaves (value player_table seat quiet) refl name (fresh_other name f)

  -- who gets the order has a replica of the group, or leaves that as it is
  told_there : (player : Player) → value player_table seat quiet ≡ player → IsThere births quiet group ⊎ ((who : ℕ) → view_at births (with_event quiet seat told) group who ≡ view_at births quiet group who)
  told_there (Client client) fact = inr (left_view words births quiet seat told b.seated b.timely group (client_leaves words births quiet seat told b.seated b.timely client fact group (ToldInput line) refl refl))
  told_there (Node node) fact = by (replica_of group node.replicas) refl
    where
      by : (o : Option ReplicaState) → replica_of group node.replicas ≡ o → IsThere births quiet group ⊎ ((who : ℕ) → view_at births (with_event quiet seat told) group who ≡ view_at births quiet group who)
      by (Some r) here = inl (seat.who, r, view_was births quiet seat told group b.seated (Node node) fact ∙ here)
      by None here = inr (left_view words births quiet seat told b.seated b.timely group (none_leaves_it node fact group here))

  runs_there : (at : ℕ → Option ReplicaState) (chief : ℕ) (o : Option ReplicaState) → at chief ≡ o → is_running o ≡ true → (node : ℕ) × (r : ReplicaState) × (at node ≡ Some r)
  runs_there at chief None e runs = absurd cc
  runs_there at chief (Some r) e runs = (chief, r, e)

  led_there : (chief : ℕ) → lead_of (view_at births (with_event quiet seat told) group) (numbers_of births) ≡ Some chief → IsThere births quiet group
  led_there chief e = elim (told_there (value player_table seat quiet) refl) [
    | inl there ↦ there
    | inr same ↦ (let runs = lead_runs (view_at births (with_event quiet seat told) group) (numbers_of births) chief e in
        runs_there (view_at births quiet group) chief (view_at births (with_event quiet seat told) group chief) (sym (same chief)) runs)
  ]

  first_there : AreThere births quiet found_first.0
  first_there = elim found_first.2 [
    | inl e ↦ subst (AreThere births quiet) (sym e) tt
    | inr g ↦ begun_there births quiet g.group found_first.0 g.step (λ chief work e.
        subst (IsThere births quiet) g.of (led_there chief (ap (scene_at births (with_event quiet seat told)).lead g.of ∙ (subst (λ x. IsAt x (scene_at births (with_event quiet seat told))) e found_first.1).leads.0)))
  ]

  pub begun_so : (stage : Stage) × AreUntouched words births quiet (with_event quiet seat told) stage
  begun_so = (
    found_first.0,
    record {
      stands = found_first.1;
      parties = first_there;
      views = λ name f t who. left_view words births quiet seat told b.seated b.timely name (leaves name f) who;
      mails = λ name f t who born. left_mail words births quiet seat told b.seated b.timely name (leaves name f) who
          (subst (Each (IsErrandFor name)) (sym (quiet-empty (players words births) quiet who (in_time_tidy (players words births) quiet (in_time_before (players words births) quiet (row_of player_table seat quiet told) b.timely)) born b.calm)) tt);
    },
  )

all_so : (words : ℕ → ℕ → ℕ × ℕ) (births : List (Seat Player)) (quiet rows : Rows) (turns : List (Seat Player × ℕ)) → (stage : Stage) × AreUntouched words births quiet rows stage → AreDelivered words births quiet rows turns
    → (stage : Stage) × AreUntouched words births quiet (after_all rows turns) stage
all_so words births quiet rows [] u d = u
all_so words births quiet rows (turn ∷ turns) u d = all_so words births quiet (with_event rows turn.0 (Deliver turn.1)) turns (let next = delivered_so words births quiet rows turn.0 turn.1 u.0 u.1 d.0 in (next.0, next.1)) d.1

-- A group that an order has not touched so far has the replicas that it had in the quiet before the order, and all mail under way for it are errands. The groups that have a part in the order were there in that quiet, and one that is asked, and has not taken the question, is untouched.
pub fresh_stay : FreshGroupsStay
fresh_stay = record {
  begins = begun_so;
  goes_on = λ words births quiet rows seat number stage u d. delivered_so words births quiet rows seat number stage u d;
  through = λ words births quiet seat line turns b d. all_so words births quiet (with_event quiet seat (Told line)) turns (begun_so words births quiet seat line b) d;
  errands = λ words births quiet rows seat number stage name mail u d fresh there at named. own_errand words births quiet rows seat number stage u d name mail fresh there at named;
  asked = asked_fresh;
  sent_on = sent_on_fresh;
}
