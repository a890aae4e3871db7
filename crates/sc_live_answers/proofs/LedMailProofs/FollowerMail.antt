-- A replica beside the leader, or in a group in which none runs.
use Rattle.std.proofs.Common.{List, None, Some, [], ap, false, inl, inr, is_some, not, refl, subst, sym, true, true≢false, ℕ, ◌&&◌, ◌||◌, ◌∙◌, ◌≡◌}
use Rattle.std.proofs.lemmas.Bool.{cases_Bool, cond-false, cond-true, or_right}
use Rattle.std.proofs.lemmas.Option.{same_Some}
use Rattle.sc_actor.specs.Definitions.{mails}
use Rattle.sc_node_table.specs.Values.{Seat, Event, Deliver, Go, Ballot, Draw, Command, Base, OrderLine, OrderRefusal, Mail, MailBody, Accept, Accepted, Install, Learn, Nack, Prepare, Promise, Request, TxPrepare, TxWatch, Node}
use Rattle.sc_actor.specs.declared.rows.Event.TheVariants.{Told}
use Rattle.sc_base.specs.Definitions.{Drawer, next_name, same_draw}
use Rattle.sc_live_answers.proofs.LedMailProofs.WellLedLeaders.{one}
use Rattle.sc_live_answers.proofs.BallotsProofs.NewestReplicas.{newest_after, newest_before, stays_at, unled}
use Rattle.sc_live_answers.proofs.ErrandsProofs.QuestionSenders.{offers_own, watches_own}
use Rattle.sc_live_answers.specs.AnswerDefinitions.{BesidesAreFound, IsHere, IsUnsettled, IsGuided}
use Rattle.sc_live_journals.specs.groups.GroupDefinitions.{RowElects, RowLeads, RowMakes, RowPasses, RowRests, RowTakes}
use Rattle.sc_live_steps.specs.calm.CalmDefinitions.{players, Rows}
use Rattle.sc_live_journals.specs.mail.MailDefinitions.{IsPosted}
use Rattle.sc_live_steps.proofs.OrderStepsProofs.OrderStepLemmas.{tables-rest}
use Rattle.sc_live_steps.specs.orders.OrderDefinitions.{works}
use Rattle.sc_live_journals.proofs.RowsProofs.RowLemmas.{asides_still, same_some, rows_replicas, view_was}
use Rattle.sc_live_journals.specs.rows.RowDefinitions.{mark_in, taken_mark, view_at, IsReplicasRow, with_event}
use Rattle.sc_live_journals.specs.scenes.SceneDefinitions.{IsOrdered, BesideFinds, IsThere, IsBeside, Led, Unled, LeadsAlone, NewestAreBound}
use Rattle.sc_words.specs.declared.commands.orders.OrderRefusal.TheVariants.{NotLeader}
use Rattle.sc_live_steps.specs.following.FollowingDefinitions.{Asks, Installs, Mark, Prepares, Promises, Teaches, Votes, mark_of, named_mark}
use Rattle.sc_law_walks.specs.WalkDefinitions.{GoesOn}
use Rattle.sc_group_table.specs.machine.MachineDefinitions.{refusal_of}
use Rattle.sc_node_table.specs.NodeDefinitions.{NodeState, group_of_order, first_of_both, named_refused, ordered_command, ordered_row, untaken, Place, ReplicaState, first_set, may_offer, settled, mailed}
use Rattle.sc_live_orderly.specs.OrderlyDefinitions.{AreInTime}
use Rattle.sc_words.specs.paxos.PaxosDefinitions.{below}
use Rattle.sc_meaning.specs.sound.SoundDefinitions.{Player}

-- the mark of a mail
named_is : (name group : Draw) (mark other : Mark) → named_mark name group mark ≡ Some other → mark ≡ other
named_is name group mark other e = elim (cases_Bool (same_draw group name)) [
  | inl t ↦ (let s : Some mark ≡ Some other = sym (cond-true (same_draw group name) (Some mark) None t) ∙ e in cc)
  | inr f ↦ (let s : None ≡ Some other = sym (cond-false (same_draw group name) (Some mark) None f) ∙ e in cc)
]

-- only a mail that brings an entry has the mark of one
tells_body : (name : Draw) (from slot : ℕ) (body : MailBody) → mark_of name from body ≡ Some (Teaches slot) → (group : Draw) × (command : Command) × (body ≡ Learn group slot command)
tells_body name from slot (Learn group other command) e = (group, command, (let same : Teaches other ≡ Teaches slot = named_is name group (Teaches other) (Teaches slot) e in cc))
tells_body name from slot (Accept group ballot other command) e = (let bad : Asks ballot other ≡ Teaches slot = named_is name group (Asks ballot other) (Teaches slot) e in cc)
tells_body name from slot (Accepted group ballot other) e = (let bad : Votes from ballot other ≡ Teaches slot = named_is name group (Votes from ballot other) (Teaches slot) e in cc)
tells_body name from slot (Install group other state sets) e = (let bad : Installs other ≡ Teaches slot = named_is name group (Installs other) (Teaches slot) e in cc)
tells_body name from slot (Prepare group ballot other) e = (let bad : Prepares ballot ≡ Teaches slot = named_is name group (Prepares ballot) (Teaches slot) e in cc)
tells_body name from slot (Promise group ballot reports) e = (let bad : Promises from ballot ≡ Teaches slot = named_is name group (Promises from ballot) (Teaches slot) e in cc)
tells_body name from slot _ e = cc

-- ---- a row of a replica that does not run

module _ (words : ℕ → ℕ → ℕ × ℕ) (births : List (Seat Player)) (rows : Rows) (seat : Seat Player) (event : Event OrderLine) (base : Base) (g : IsGuided words births rows seat event base) (timely : AreInTime (players words births) (with_event rows seat event))
    (r : ReplicaState) (after : Place) (row : IsReplicasRow births rows seat event base.core.id (Some r) after) (off : r.running ≡ false) where
  abbrev name : Draw
  name = base.core.id

  -- where another leads, it does not run after it
  stays_off : (node : ℕ) (lead : ReplicaState) → LeadsAlone births rows base.core.id node lead → (node ≡ seat.who → ⊥) → after.0.running ≡ false
  stays_off node lead l other = elim (cases_Bool after.0.running) [
    | inr none ↦ none
    | inl runs ↦ (let there = stays_at words births rows seat event base g timely node lead other l.is_there in
        let mine = (g.step.led.followed.given.gives seat.who after.0 row.fact runs).1 in
        let its = (g.step.led.followed.given.gives node lead there l.running).1 in
        absurd (other (its ∙ sym mine)))
  ]

  apart : (node : ℕ) (lead : ReplicaState) → LeadsAlone births rows base.core.id node lead → node ≡ seat.who → ⊥
  apart node lead l same = true≢false (sym l.running ∙ (ap (λ (x : ReplicaState). x.running) (same_some (view_at births rows base.core.id seat.who) lead r (subst (λ n. view_at births rows base.core.id n ≡ Some lead) same l.is_there) row.was) ∙ off))

  there : IsThere births rows base.core.id
  there = (seat.who, r, row.was)

  -- if it runs after it, it has elected itself by an entry that it learns
  last_entry_sent : after.0.running ≡ true → (slot : ℕ) × (taken_mark base.core.id (mails rows) event ≡ Some (Teaches slot))
  last_entry_sent runs = elim g.step.row [
    | RowPasses e idle ↦ elim idle.view [
      | inl stays ↦ absurd (stopped (ap (λ (x : ReplicaState). x.running) (sym (same_Some r after.0 (sym ((stays ∙ row.was)) ∙ row.fact))) ∙ off))
      | inr born ↦ (let bad : Some r ≡ None = sym row.was ∙ born.0 in cc)
    ]
    | RowRests e x then_ line out still kind ↦ absurd (stopped (ap (λ (x : ReplicaState). x.running) (sym (same_Some then_.0 after.0 (sym (line.fact) ∙ row.fact))) ∙ still.off))
    | RowTakes e x then_ mark line taken steps kind ↦ absurd (stopped (ap (λ (x : ReplicaState). x.running) (sym (same_Some then_.0 after.0 (sym (line.fact) ∙ row.fact))) ∙ (steps.runs ∙ (ap (λ (x : ReplicaState). x.running) (same_Some x r (sym (line.was) ∙ row.was)) ∙ off))))
    | RowMakes e from slot state sets line taken logs kind ↦ (let bad : Some r ≡ None = sym row.was ∙ line.was in cc)
    | RowLeads x then_ line ran counts led e ↦ absurd (true≢false (sym ran ∙ (ap (λ (x : ReplicaState). x.running) (same_Some x r (sym (line.was) ∙ row.was)) ∙ off)))
    | RowElects x then_ ballot line out self_election e ↦ (self_election.told.0, self_election.told.2)
  ]
    where
      stopped : after.0.running ≡ false → ⊥
      stopped none = true≢false (sym runs ∙ none)

  -- it comes beside the leader
  comes_beside : (after.0.running ≡ true → works after.0 ≡ []) → IsBeside births rows seat event base.core.id after
  comes_beside rested = elim (one g.at g.over g.by words births rows base g.course g.led) [
    | inl l ↦ Led l.0 l.1 l.2 (apart l.0 l.1 l.2) (stays_off l.0 l.1 l.2 (apart l.0 l.1 l.2))
    | inr none ↦ (let still : g.step.later.newest ≡ g.course.newest = unled words births rows seat event base g none in
        Unled (record {
          none = none;
          bond = g.bonds g.course.newest;
          was = newest_before words births rows seat event base g there;
          has = subst (λ n. NewestAreBound births (with_event rows seat event) base.core.id (g.bonds n)) still (newest_after words births rows seat event base g timely there);
          elected = λ runs. (rested runs, g.is_bound seat.who after.0 row.fact ∙ ap g.bonds (sym ((g.step.led.followed.given.gives seat.who after.0 row.fact runs).0.newest) ∙ still));
        }))
  ]

-- ---- a mail

module _ (words : ℕ → ℕ → ℕ × ℕ) (births : List (Seat Player)) (rows : Rows) (seat : Seat Player) (number : ℕ) (mail : Mail) (base : Base) (node : NodeState) (r : ReplicaState) (h : IsHere words births rows seat number mail base node r) where
  pub view_here : view_at births rows base.core.id seat.who ≡ Some r
  view_here = view_was births rows seat Go base.core.id h.taking.seated (Node node) h.taking.is_node ∙ h.here

  pub row_here : IsReplicasRow births rows seat (Deliver number) base.core.id (Some r) (mailed mail.from mail.body (r, [])).0
  row_here = rows_replicas.taken births rows seat number mail base.core.id node r h.taking.seated h.taking.is_node h.taking.sent h.taking.comes h.taking.named h.here

  module _ (off : r.running ≡ false) where
    rested : (mailed mail.from mail.body (r, [])).0.0.running ≡ true → works (mailed mail.from mail.body (r, [])).0.0 ≡ []
    rested runs =
        let told = last_entry_sent words births rows seat (Deliver number) base h.guided h.taking.timely r (mailed mail.from mail.body (r, [])).0 row_here off runs in
        let fact : mark_of base.core.id mail.from mail.body ≡ Some (Teaches told.0) = sym (ap (mark_in base.core.id) h.taking.sent) ∙ told.1 in
        let learn = tells_body base.core.id mail.from told.0 mail.body fact in
        subst (λ b. works (mailed mail.from b (r, [])).0.0 ≡ []) (sym learn.2) (tables-rest.learn mail.from learn.0 told.0 learn.1 r (h.idle off)).work

    is_beside : IsBeside births rows seat (Deliver number) base.core.id (mailed mail.from mail.body (r, [])).0
    is_beside = comes_beside words births rows seat (Deliver number) base h.guided h.taking.timely r (mailed mail.from mail.body (r, [])).0 row_here off rested

    goes : (ballot : Ballot) → GoesOn ballot r
    goes ballot = ap (λ b. b && below r.leader.ballot ballot) off

    finds_by : (body : MailBody) → mail.body ≡ body → IsPosted births mail → IsUnsettled r body → BesideFinds mail r body
    finds_by (TxPrepare tx offer) e p u = (offers_own births mail tx offer e p, (off, u))
    finds_by (TxWatch tx watch) e p u = (watches_own births mail tx watch e p, (off, u))
    finds_by (Accept named ballot slot command) e p u = goes ballot
    finds_by (Prepare named ballot from_slot) e p u = goes ballot
    finds_by (Nack named ballot) e p u = goes ballot
    finds_by (Promise named ballot reports) e p u = off
    finds_by (Accepted named ballot slot) e p u = off
    finds_by (Learn named slot command) e p u = h.idle off
    finds_by (Install named slot base_ sets) e p u = h.idle off
    finds_by (Request named client seq op) e p u = off
    finds_by _ e p u = tt

-- ---- an order

-- one that does not run refuses it
refused_off : (drawer : Drawer) (line : OrderLine) (r : ReplicaState) → r.running ≡ false → untaken drawer line r ≡ Some (NotLeader r.hint)
refused_off drawer line r off =
    let unsettled : settled r ≡ false = ap (λ b. b && may_offer r (first_set r.sets)) off in
    cond-true (is_some r.group.core.gone || not (settled r)) (Some (NotLeader r.hint)) (first_of_both (refusal_of r.group.core (ordered_command (next_name drawer) line.number line.order)) (named_refused drawer line.order r))
    (or_right (is_some r.group.core.gone) (not (settled r)) (ap not unsettled))

beside_told : (words : ℕ → ℕ → ℕ × ℕ) (births : List (Seat Player)) (rows : Rows) (seat : Seat Player) (line : OrderLine) (node : NodeState) (base : Base) (r : ReplicaState) → IsGuided words births rows seat (Told line) base
    → IsOrdered words births rows seat line node r → base.core.id ≡ group_of_order line.order → r.running ≡ false
    → IsBeside births rows seat (Told line) (group_of_order line.order) (ordered_row node.draws line (r, [])) × ((why : OrderRefusal) × (untaken node.draws line r ≡ Some why))
beside_told words births rows seat line node base r g o named off =
    let after = ordered_row node.draws line (r, []) in
    let row : IsReplicasRow births rows seat (Told line) base.core.id (Some r) after = subst (λ n. IsReplicasRow births rows seat (Told line) n (Some r) after) (sym named) (rows_replicas.ordered births rows seat line node r o.seated o.is_node o.here) in
    let none = (asides_still.ordered node.draws line r off base.core.id).off in (
      subst (λ n. IsBeside births rows seat (Told line) n after) named (comes_beside words births rows seat (Told line) base g o.timely r after row off (λ runs. absurd (true≢false (sym runs ∙ none)))),
      (NotLeader r.hint, refused_off node.draws line r off),
    )

-- A mail to a replica that does not run comes beside the leader, or to a group in which none runs and whose newest states stay bound, and finds what an order needs; and so does an order.
pub besides_found : BesidesAreFound
besides_found = record {
  beside = λ words births rows seat number mail base node r h off. is_beside words births rows seat number mail base node r h off;
  finds = λ words births rows seat number mail base node r h off p u. finds_by words births rows seat number mail base node r h off mail.body refl p u;
  told = beside_told;
}
