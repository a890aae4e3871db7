-- A row by which a node executes an entry leaves it with a replica of the child that the entry names.
use Rattle.std.proofs.Common.{◌≡◌, ℕ, ◌<◌, ◌≤◌, Bool, true, true≢false, cond, List, [], ◌∷◌, ◌++◌, Option, Some, None, inl, inr, refl, sym, ◌∙◌, ap, subst, append_assoc, arith}
use Rattle.std.specs.Prelude.{is_some}
use Rattle.std.proofs.lemmas.Bool.{cases_Bool, cond_both, cond-true}
use Rattle.std.proofs.lemmas.Option.{none-some, same_Some}
use Rattle.sc_base.specs.Definitions.{Among, Each, same_draw, is_member}
use Rattle.sc_node_table.specs.Values.{Draw, Command, Base, OrderLine, Mail, MailBody, Prepare, Promise, Accept, Accepted, Nack, Learn, Ask, Install, Node, Client, Seat, Event, Deliver, Go, Got}
use Rattle.sc_base.proofs.Lemmas.{draw_is, same_name}
use Rattle.sc_actor.specs.declared.rows.Event.TheVariants.{Told}
use Rattle.sc_actor.specs.Definitions.{mails, value, row_of}
use Rattle.sc_live_orderly.specs.OrderlyDefinitions.{IsTidy, IsCalmEvent, AreInTime}
use Rattle.sc_live_orderly.proofs.OrderlyLemmas.{in_time_before, in_time_tidy, takes_first, is_born-from}
use Rattle.sc_scenario.specs.declared.scenario.scenarios.Scenario.{Scenario}
use Rattle.sc_node_table.specs.NodeDefinitions.{NodeState, replica_of, with_replica, with_new, with_born, with_children, group_of_mail, may_come, taken_by, routed, on_mail, group_of_order, ordered_row, ReplicaState, Executed, listed, name_of, next, born_replica, mailed, stepped, slots_ahead}
use Rattle.sc_meaning.specs.sound.SoundDefinitions.{decided_log, Player, player_table, births, as_nodes}
use Rattle.sc_live_steps.specs.calm.CalmDefinitions.{players}
use Rattle.sc_live_steps.proofs.CalmStepsProofs.CalmStepLemmas.{children_found}
use Rattle.sc_law_entries.specs.logs.LogDefinitions.{Rows}
use Rattle.sc_live_steps.specs.following.FollowingDefinitions.{Mark, Asks, Votes, Teaches, Installs, Prepares, Promises, mark_of, Course, Sets, SlotLeaders, IsLeadOf, IsAside, IsCount}
use Rattle.sc_live_steps.proofs.FollowingProofs.FollowingLemmas.{same_mark}
use Rattle.sc_live_journals.specs.rows.RowDefinitions.{view_at, progress_at, mark_in, taken_mark, TakesMail, HoldsReplica as Holds, IsScene, IsSeat, with_event, IsReplicasRow}
use Rattle.sc_live_journals.proofs.RowsProofs.RowLemmas.{fit, delivered, others_idle, rows_replicas, found_name, new_is, view_is, view_was, Plays, Found, found_well, replay_well}
use Rattle.sc_live_journals.specs.logs.LogDefinitions.{IsGroupOf, HasReplica}
use Rattle.sc_live_journals.specs.groups.GroupDefinitions.{Ends, IsWellLed, AreWellBorn, IsRowOf, Delivers, HasOneLog, IsSentSo}
use Rattle.sc_live_journals.proofs.GroupsProofs.GroupLemmas.{asides_stay, orders_stay, promises_stay}
use Rattle.sc_live_answers.specs.AnswerDefinitions.{IsBirth, EntriesCreateChildren}
use Rattle.sc_live_answers.proofs.BallotsProofs.WellPlayers.{plays_of}

-- ---- children of a node

born_found : (child : Base) (node : NodeState) → (x : ReplicaState) × (replica_of child.core.id (with_born child node).replicas ≡ Some x)
born_found child node = by (replica_of child.core.id node.replicas) refl
  where
    by : (o : Option ReplicaState) → replica_of child.core.id node.replicas ≡ o
        → (x : ReplicaState) × (replica_of child.core.id (cond (is_some o) node (record node { replicas = with_new (born_replica slots_ahead node.me child) node.replicas })).replicas ≡ Some x)
    by (Some r) e = (r, e)
    by None e = (born_replica slots_ahead node.me child, new_is child.core.id (born_replica slots_ahead node.me child) node.replicas refl e)

children_born : (children : List Base) (node : NodeState) (child : Base) → Among child children → (x : ReplicaState) × (replica_of child.core.id (with_children children node).replicas ≡ Some x)
unfolding with_children
children_born [] node child a = absurd a
children_born (c ∷ cs) node child (inl e) =
    let b = born_found c node in
    subst (λ (k : Base). (x : ReplicaState) × (replica_of k.core.id (with_children cs (with_born c node)).replicas ≡ Some x)) e (b.0, children_found c.core.id b.0 cs (with_born c node) b.1)
children_born (c ∷ cs) node child (inr a) = children_born cs (with_born c node) child a

-- ---- marks

no_tell : (b : Bool) (mark : Mark) (slot : ℕ) → (mark ≡ Teaches slot → ⊥) → cond b (Some mark) None ≡ Some (Teaches slot) → ⊥
no_tell b mark slot no_ = cond_both b (Some mark) None (λ o. o ≡ Some (Teaches slot) → ⊥) (λ _ e. no_ (same_Some mark (Teaches slot) e)) (λ _ e. none-some (Teaches slot) e)

-- the mail that brings an entry is a Learn
told_body : (name : Draw) (from slot : ℕ) (body : MailBody) → mark_of name from body ≡ Some (Teaches slot) → (command : Command) × (body ≡ Learn name slot command)
told_body name from slot (Learn g other command) e =
    cond_both (same_draw g name) (Some (Teaches other)) None (λ o. o ≡ Some (Teaches slot) → (c : Command) × (Learn g other command ≡ Learn name slot c))
    (λ t f. (let same : other ≡ slot = told_slot other slot (same_Some (Teaches other) (Teaches slot) f) in (command, ap (λ n. Learn n other command) (draw_is g name t) ∙ ap (λ n. Learn name n command) same)))
    (λ _ f. absurd (none-some (Teaches slot) f)) e
  where
    told_slot : (one other : ℕ) → Teaches one ≡ Teaches other → one ≡ other
    told_slot one other f = cc
told_body name from slot (Accept g ballot other command) e = absurd (no_tell (same_draw g name) (Asks ballot other) slot (λ f. cc) e)
told_body name from slot (Accepted g ballot other) e = absurd (no_tell (same_draw g name) (Votes from ballot other) slot (λ f. cc) e)
told_body name from slot (Install g other base sets) e = absurd (no_tell (same_draw g name) (Installs other) slot (λ f. cc) e)
told_body name from slot (Prepare g ballot other) e = absurd (no_tell (same_draw g name) (Prepares ballot) slot (λ f. cc) e)
told_body name from slot (Promise g ballot reports) e = absurd (no_tell (same_draw g name) (Promises from ballot) slot (λ f. cc) e)
told_body name from slot _ e = absurd (none-some (Teaches slot) e)

past_next : (low slot high : ℕ) → low ≤ slot → slot < high → high ≡ low → ⊥
past_next low slot high least most same = omega (arith, least, most, same)

module _ (bear : EntriesCreateChildren) (words : ℕ → ℕ → ℕ × ℕ) (scenario : Scenario) (journal prefix rest : Rows) (split : journal ≡ prefix ++ rest) (base : Base) (group : IsGroupOf as_nodes words scenario journal base) (at : Sets) (over : Ends) (by : SlotLeaders)
    (wb : AreWellBorn (births as_nodes scenario)) (one : HasOneLog at over by (births as_nodes scenario) prefix base) (so : IsSentSo (births as_nodes scenario) prefix base)
    (rows : Rows) (seat : Seat Player) (course : Course) (born : IsSeat (births as_nodes scenario) seat) (was : IsWellLed at over by words (births as_nodes scenario) rows base course) where
  abbrev all_births : List (Seat Player)
  all_births = births as_nodes scenario

  abbrev name : Draw
  name = base.core.id

  -- who acts has a replica of a group after its row
  abbrev pub Has : Event OrderLine → Draw → Type 0
  Has event of = (x : ReplicaState) × (view_at (births as_nodes scenario) (with_event rows seat event) of seat.who ≡ Some x)

  module _ (node : NodeState) (fact : value player_table seat rows ≡ Node node) where
    plays : Plays seat.who (Node node)
    plays = subst (Plays seat.who) fact (replay_well seat.who seat.who rows seat.actor [] (plays_of seat.who seat.actor (wb.well seat born)))

    view_of : (r : ReplicaState) → replica_of name node.replicas ≡ Some r → view_at all_births rows name seat.who ≡ Some r
    view_of r here = view_was all_births rows seat Go name born (Node node) fact ∙ here

    scene : IsScene at words (births as_nodes scenario) rows seat node base course
    scene = record { rosters = one.log.rosters; seated = born; fact = fact; followed = was.followed }

    module _ (r : ReplicaState) (here : replica_of base.core.id node.replicas ≡ Some r) where
      holds : Holds seat node base r
      holds = record { here = here; well = subst (Found seat.who) here (found_well seat.who name node.replicas plays.1) }

      has : {event : Event OrderLine} → IsRowOf prefix rows seat event → HasReplica as_nodes scenario journal base rows seat node r
      has {event} row = record {
        more = row_of player_table seat rows event ∷ row.more ++ rest;
        prefix = split ∙ (ap (λ rs. rs ++ rest) (row.fact ∙ append_assoc rows (row_of player_table seat rows event ∷ []) row.more) ∙ append_assoc rows (row_of player_table seat rows event ∷ row.more) rest);
        seated = born;
        fact = fact;
        here = here;
      }

      module _ (number : ℕ) (mail : Mail) (d : Delivers prefix rows seat number mail) (comes : may_come mail.from mail.body ≡ true) (named : group_of_mail mail.body ≡ Some base.core.id) where
        taken : on_mail mail.from mail.body node ≡ taken_by (Some r) base.core.id mail.from mail.body node
        taken =
            cond-true (may_come mail.from mail.body) (routed (group_of_mail mail.body) mail.from mail.body node) (node, []) comes
            ∙ (ap (λ g. routed g mail.from mail.body node) named ∙ ap (λ o. taken_by o name mail.from mail.body node) here)

        -- a child that it makes has a replica there
        child_there : (child : Base) → Among child (mailed mail.from mail.body (r, [])).1 → Has (Deliver number) child.core.id
        child_there child a =
            let after : Executed = mailed mail.from mail.body (r, []) in
            let b = children_born after.1 (record node { replicas = with_replica name after.0.0 node.replicas }) child a in (
              b.0,
              view_is all_births rows seat (Deliver number) child.core.id born (Node node) fact (Some (Got mail)) (delivered rows number mail d.sent)
                  ∙ (ap (λ (step : NodeState × List Mail). replica_of child.core.id step.0.replicas) taken ∙ b.1),
            )

        row_ : IsReplicasRow (births as_nodes scenario) rows seat (Deliver number) base.core.id (Some r) (mailed mail.from mail.body (r, [])).0
        row_ = rows_replicas.taken all_births rows seat number mail name node r born fact d.sent comes named here

        takes : AreInTime (players words (births as_nodes scenario)) (with_event rows seat (Deliver number)) → TakesMail words (births as_nodes scenario) rows seat number mail
        takes timely = record { timely = timely; sent = d.sent; comes = comes }

        -- the entry that it learns
        told_child : AreInTime (players words (births as_nodes scenario)) (with_event rows seat (Deliver number)) → (slot : ℕ) (command : Command) → mail.body ≡ Learn base.core.id slot command
            → (child : Base) → IsBirth (decided_log as_nodes base journal) base slot child → is_member child.core.members seat.who ≡ true → Has (Deliver number) child.core.id
        told_child timely slot command body child b member =
            let marked : mark_of name mail.from mail.body ≡ Some (Teaches slot) = ap (mark_of name mail.from) body ∙ same_mark name (Teaches slot) in
            let place = (fit at words all_births rows seat node base course scene number mail (takes timely) r holds (Teaches slot) marked (mailed mail.from mail.body (r, [])).0 row_).1 in
            let low = (one.told rows seat number mail slot command r d body (view_of r here) place).0 in
            child_there child (bear.learnt as_nodes words scenario journal base group rows seat node r (has d.row) number mail slot command d.sent body place low child b (ap (is_member child.core.members) holds.well.0 ∙ member))

    -- where a mail brings it an entry
    module _ (number : ℕ) (mail : Mail) (d : Delivers prefix rows seat number mail) (timely : AreInTime (players words (births as_nodes scenario)) (with_event rows seat (Deliver number))) (slot : ℕ) (marked : mark_of base.core.id mail.from mail.body ≡ Some (Teaches slot)) where
      no_mark : mark_of base.core.id mail.from mail.body ≡ None → ⊥
      no_mark none = none-some (Teaches slot) (sym none ∙ marked)

      tells_child : (child : Base) → IsBirth (decided_log as_nodes base journal) base slot child → is_member child.core.members seat.who ≡ true → Has (Deliver number) child.core.id
      tells_child child b member = by_replica (replica_of name node.replicas) refl
        where
          learn : (command : Command) × (mail.body ≡ Learn name slot command)
          learn = told_body name mail.from slot mail.body marked

          by_replica : (o : Option ReplicaState) → replica_of name node.replicas ≡ o → Has (Deliver number) child.core.id
          by_replica None here = elim (so.finds rows seat number mail node d born fact here) [
            | inl none ↦ absurd (no_mark none)
            | inr i ↦ absurd (no_install (sym learn.1 ∙ i.3))
          ]
            where
              no_install : {s t : ℕ} {c : Command} {b : Base} {sets : List (List ℕ)} → Learn name s c ≡ Install name t b sets → ⊥
              no_install e = cc
          by_replica (Some r) here = elim (so.comes rows seat number mail d) [
            | inl none ↦ absurd (no_mark none)
            | inr comes ↦ told_child r here number mail d comes (ap group_of_mail learn.1) timely slot learn.0 learn.1 child b member
          ]

    -- ---- where a leader executes an entry

    module _ (event : Event OrderLine) (row : IsRowOf prefix rows seat event) (r after : ReplicaState) (here : replica_of base.core.id node.replicas ≡ Some r) (then_ : view_at (births as_nodes scenario) (with_event rows seat event) base.core.id seat.who ≡ Some after) (runs : r.running ≡ true)
        (slot : ℕ) (child : Base) (least : next r ≤ slot) (most : slot < next after) (b : IsBirth (decided_log as_nodes base journal) base slot child) (member : is_member child.core.members seat.who ≡ true) where
      lead : IsLeadOf at (progress_at (births as_nodes scenario) rows base course) r
      lead = (was.followed.given.gives seat.who r (view_of r here) runs).0

      -- it does not, where it has executed as much as before
      still : (q : ReplicaState) → view_at (births as_nodes scenario) (with_event rows seat event) base.core.id seat.who ≡ Some q → next q ≡ next r → Has event child.core.id
      still q e same = absurd (past_next (next r) slot (next after) least most (ap next (same_Some after q (sym then_ ∙ e)) ∙ same))

      same_view : view_at (births as_nodes scenario) (with_event rows seat event) base.core.id seat.who ≡ view_at (births as_nodes scenario) rows base.core.id seat.who → Has event child.core.id
      same_view e = still r (e ∙ view_of r here) refl

    module _ (number : ℕ) (mail : Mail) (d : Delivers prefix rows seat number mail) (r after : ReplicaState) (here : replica_of base.core.id node.replicas ≡ Some r) (then_ : view_at (births as_nodes scenario) (with_event rows seat (Deliver number)) base.core.id seat.who ≡ Some after)
        (runs : r.running ≡ true) (counts : Each IsCount (listed (taken_mark base.core.id (mails rows) (Deliver number)))) (slot : ℕ) (child : Base) (least : next r ≤ slot) (most : slot < next after) (b : IsBirth (decided_log as_nodes base journal) base slot child)
        (member : is_member child.core.members seat.who ≡ true) where
      abbrev Goal : Type 0
      Goal = Has (Deliver number) child.core.id

      stays : view_at (births as_nodes scenario) (with_event rows seat (Deliver number)) base.core.id seat.who ≡ view_at (births as_nodes scenario) rows base.core.id seat.who → Goal
      stays e = same_view (Deliver number) d.row r after here then_ runs slot child least most b member e

      leads_so : IsLeadOf at (progress_at (births as_nodes scenario) rows base course) r
      leads_so = lead (Deliver number) d.row r after here then_ runs slot child least most b member

      counted : (mark : Mark) → mark_of name mail.from mail.body ≡ Some mark → IsCount mark
      counted mark e = (let one_ : Each IsCount (listed (Some mark)) = subst (λ o. Each IsCount (listed o)) (ap (mark_in name) d.sent ∙ e) counts in one_.0)

      module _ (comes : may_come mail.from mail.body ≡ true) (named : group_of_mail mail.body ≡ Some base.core.id) where
        as_before : next (mailed mail.from mail.body (r, [])).0.0 ≡ next r → Goal
        as_before same = still (Deliver number) d.row r after here then_ runs slot child least most b member (mailed mail.from mail.body (r, [])).0.0 (row_ r here number mail d comes named).fact same

        aside : IsAside r mail.body → Goal
        aside a = as_before (asides_stay at (progress_at all_births rows base course) r leads_so mail.from mail.body a)

        some_is : (g : Draw) → Some g ≡ Some base.core.id → g ≡ base.core.id
        some_is g e = cc

        uncounted : (mark : Mark) → (IsCount mark → ⊥) → mark_of name mail.from mail.body ≡ Some mark → Goal
        uncounted mark no_ e = absurd (no_ (counted mark e))

        by_body : (m : MailBody) → mail.body ≡ m → Goal
        by_body (Accept g ballot other command) e =
            uncounted (Asks ballot other) (λ x. x) (ap (mark_of name mail.from) (e ∙ ap (λ n. Accept n ballot other command) (some_is g (sym (ap group_of_mail e) ∙ named))) ∙ same_mark name (Asks ballot other))
        by_body (Prepare g ballot from_slot) e =
            uncounted (Prepares ballot) (λ x. x) (ap (mark_of name mail.from) (e ∙ ap (λ n. Prepare n ballot from_slot) (some_is g (sym (ap group_of_mail e) ∙ named))) ∙ same_mark name (Prepares ballot))
        by_body (Learn g other command) e =
            uncounted (Teaches other) (λ x. x) (ap (mark_of name mail.from) (e ∙ ap (λ n. Learn n other command) (some_is g (sym (ap group_of_mail e) ∙ named))) ∙ same_mark name (Teaches other))
        by_body (Install g other state sets) e =
            uncounted (Installs other) (λ x. x) (ap (mark_of name mail.from) (e ∙ ap (λ n. Install n other state sets) (some_is g (sym (ap group_of_mail e) ∙ named))) ∙ same_mark name (Installs other))
        by_body (Accepted g ballot other) e =
            let body : mail.body ≡ Accepted name ballot other = e ∙ ap (λ n. Accepted n ballot other) (some_is g (sym (ap group_of_mail e) ∙ named)) in
            let own = same_Some after (mailed mail.from mail.body (r, [])).0.0 (sym then_ ∙ (row_ r here number mail d comes named).fact) in
            child_there r here number mail d comes named child
            (bear.voted as_nodes words scenario journal base group rows seat node r (has r here d.row) runs number mail ballot other d.sent body slot child least (subst (λ (q : ReplicaState). slot < next q) own most) b
            (ap (is_member child.core.members) (holds r here).well.0 ∙ member))
        by_body (Promise g ballot reports) e =
            let own : g ≡ name_of r = some_is g (sym (ap group_of_mail e) ∙ named) ∙ sym (found_name name node.replicas r here) in
            as_before (subst (λ m. next (mailed mail.from m (r, [])).0.0 ≡ next r) (sym (e ∙ ap (λ n. Promise n ballot reports) own)) (promises_stay at (progress_at all_births rows base course) r leads_so mail.from ballot reports))
        by_body (Nack g promised) e =
            aside (subst (IsAside r) (sym e) (so.nacks rows seat number mail promised r d (e ∙ ap (λ n. Nack n promised) (some_is g (sym (ap group_of_mail e) ∙ named))) (view_of r here)))
        by_body (Ask g from_slot) e = absurd (so.asks rows seat number mail from_slot d (e ∙ ap (λ n. Ask n from_slot) (some_is g (sym (ap group_of_mail e) ∙ named))))
        by_body _ e = aside (subst (IsAside r) (sym e) tt)

      own_group : group_of_mail mail.body ≡ Some base.core.id → Goal
      own_group named = elim (cases_Bool (may_come mail.from mail.body)) [
        | inl comes ↦ by_body comes named mail.body refl
        | inr barred ↦ elim (so.comes rows seat number mail d) [
          | inl none ↦ stays (others_idle.barred all_births rows seat number mail base node born fact d.sent none barred).view
          | inr comes ↦ absurd (true≢false (sym comes ∙ barred))
        ]
      ]

      by_group : (o : Option Draw) → group_of_mail mail.body ≡ o → Goal
      by_group None e = stays (others_idle.stray all_births rows seat number mail base node born fact d.sent e).view
      by_group (Some g) e = elim (cases_Bool (same_draw g name)) [
        | inl t ↦ own_group (e ∙ ap Some (draw_is g name t))
        | inr f ↦ (let ne : g ≡ name → ⊥ = λ i. true≢false (sym (same_name g name i) ∙ f) in
            elim (others_idle.other all_births rows seat number mail base g node born fact plays.0 d.sent e ne (one.born rows seat number mail node g d born fact e ne)).view [
              | inl same ↦ stays same
              | inr makes ↦ absurd (none-some r (sym makes.0 ∙ view_of r here))
            ])
      ]

    module _ (line : OrderLine) (row : IsRowOf prefix rows seat (Told line)) (r after : ReplicaState) (here : replica_of base.core.id node.replicas ≡ Some r) (then_ : view_at (births as_nodes scenario) (with_event rows seat (Told line)) base.core.id seat.who ≡ Some after)
        (runs : r.running ≡ true) (slot : ℕ) (child : Base) (least : next r ≤ slot) (most : slot < next after) (b : IsBirth (decided_log as_nodes base journal) base slot child) (member : is_member child.core.members seat.who ≡ true) where
      order_stays : next (ordered_row node.draws line (r, [])).0 ≡ next r
      unfolding stepped
      order_stays = orders_stay at (progress_at all_births rows base course) r (lead (Told line) row r after here then_ runs slot child least most b member) true node.draws line

      ordered : Has (Told line) child.core.id
      ordered = elim (cases_Bool (same_draw (group_of_order line.order) name)) [
        | inl t ↦ (let group_is = draw_is (group_of_order line.order) name t in
            let there : replica_of (group_of_order line.order) node.replicas ≡ Some r = ap (λ n. replica_of n node.replicas) group_is ∙ here in
            let row_is = subst (λ n. IsReplicasRow all_births rows seat (Told line) n (Some r) (ordered_row node.draws line (r, []))) group_is (rows_replicas.ordered all_births rows seat line node r born fact there) in
            still (Told line) row r after here then_ runs slot child least most b member (ordered_row node.draws line (r, [])).0 row_is.fact order_stays)
        | inr f ↦ same_view (Told line) row r after here then_ runs slot child least most b member
            (others_idle.ordered all_births rows seat line base node born fact (λ i. true≢false (sym (same_name (group_of_order line.order) name i) ∙ f))).view
      ]

  -- ---- each event

  tidy : (event : Event OrderLine) → AreInTime (players words (births as_nodes scenario)) (with_event rows seat event) → IsTidy rows
  tidy event timely = in_time_tidy (players words all_births) rows (in_time_before (players words all_births) rows (row_of player_table seat rows event) timely)

  module _ (slot : ℕ) (child : Base) (b : IsBirth (decided_log as_nodes base journal) base slot child) (member : is_member child.core.members seat.who ≡ true) where
    -- a node to which the Learn of the entry is delivered has the child
    pub learnt_creates : (event : Event OrderLine) → IsRowOf prefix rows seat event → IsCalmEvent (players words (births as_nodes scenario)) rows seat.who event → AreInTime (players words (births as_nodes scenario)) (with_event rows seat event)
        → taken_mark base.core.id (mails rows) event ≡ Some (Teaches slot) → Has event child.core.id
    learnt_creates event row calm timely marked = each_player (value player_table seat rows) event refl row calm timely marked
      where
        each_player : (player : Player) (e : Event OrderLine) → value player_table seat rows ≡ player → IsRowOf prefix rows seat e → IsCalmEvent (players words all_births) rows seat.who e → AreInTime (players words all_births) (with_event rows seat e)
            → taken_mark name (mails rows) e ≡ Some (Teaches slot) → Has e child.core.id
        each_player (Client client) (Deliver number) fact row_e calm_e timely_e m =
            let f = takes_first (players words all_births) rows seat.who number (tidy (Deliver number) timely_e) (is_born-from (players words all_births) seat.who seat born) calm_e in
            absurd (none-some (Teaches slot) (sym (ap (mark_in name) f.sent ∙ so.clients rows seat number f.mail client (record { row = row_e; sent = f.sent }) born fact) ∙ m))
        each_player (Node node) (Deliver number) fact row_e calm_e timely_e m =
            let f = takes_first (players words all_births) rows seat.who number (tidy (Deliver number) timely_e) (is_born-from (players words all_births) seat.who seat born) calm_e in
            tells_child node fact number f.mail (record { row = row_e; sent = f.sent }) timely_e slot (sym (ap (mark_in name) f.sent) ∙ m) child b member
        each_player player Go fact row_e calm_e timely_e m = absurd (none-some (Teaches slot) m)
        each_player player (Told line) fact row_e calm_e timely_e m = absurd (none-some (Teaches slot) m)
        each_player player _ fact row_e calm_e timely_e m = absurd calm_e

    -- a leader that executes the entry has the child
    pub lead_creates : (event : Event OrderLine) → IsRowOf prefix rows seat event → IsCalmEvent (players words (births as_nodes scenario)) rows seat.who event → AreInTime (players words (births as_nodes scenario)) (with_event rows seat event)
        → (r after : ReplicaState) → view_at (births as_nodes scenario) rows base.core.id seat.who ≡ Some r → view_at (births as_nodes scenario) (with_event rows seat event) base.core.id seat.who ≡ Some after → r.running ≡ true
        → Each IsCount (listed (taken_mark base.core.id (mails rows) event)) → next r ≤ slot → slot < next after → Has event child.core.id
    lead_creates event row calm timely r after view_r view_after runs counts least most = each_player (value player_table seat rows) event refl row calm timely view_after counts
      where
        here : (node : NodeState) → value player_table seat rows ≡ Node node → replica_of name node.replicas ≡ Some r
        here node fact = sym (view_was all_births rows seat Go name born (Node node) fact) ∙ view_r

        each_player : (player : Player) (e : Event OrderLine) → value player_table seat rows ≡ player → IsRowOf prefix rows seat e → IsCalmEvent (players words all_births) rows seat.who e → AreInTime (players words all_births) (with_event rows seat e)
            → view_at all_births (with_event rows seat e) name seat.who ≡ Some after → Each IsCount (listed (taken_mark name (mails rows) e)) → Has e child.core.id
        each_player (Client client) e fact row_e calm_e timely_e then_ counts_e = absurd (none-some r (sym (view_was all_births rows seat Go name born (Client client) fact) ∙ view_r))
        each_player (Node node) (Deliver number) fact row_e calm_e timely_e then_ counts_e =
            let f = takes_first (players words all_births) rows seat.who number (tidy (Deliver number) timely_e) (is_born-from (players words all_births) seat.who seat born) calm_e in
            by_group node fact number f.mail (record { row = row_e; sent = f.sent }) r after (here node fact) then_ runs counts_e slot child least most b member (group_of_mail f.mail.body) refl
        each_player (Node node) Go fact row_e calm_e timely_e then_ counts_e = same_view node fact Go row_e r after (here node fact) then_ runs slot child least most b member (others_idle.go all_births rows seat base node born fact).view
        each_player (Node node) (Told line) fact row_e calm_e timely_e then_ counts_e = ordered node fact line row_e r after (here node fact) then_ runs slot child least most b member
        each_player (Node node) _ fact row_e calm_e timely_e then_ counts_e = absurd calm_e
