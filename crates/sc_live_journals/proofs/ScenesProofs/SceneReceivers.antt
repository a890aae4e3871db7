-- Who takes a mail or an order leaves the replicas of other groups, or makes children.
use Rattle.std.proofs.Common.{◌≡◌, ℕ, true≢false, cond, List, [], ◌∷◌, Option, Some, None, ◌⊎◌, inl, inr, refl, sym, ◌∙◌, ap, subst}
use Rattle.std.specs.Prelude.{is_some}
use Rattle.std.specs.Option.{option_map}
use Rattle.std.proofs.lemmas.Bool.{cases_Bool}
use Rattle.sc_base.specs.Definitions.{Among, Each, same_draw}
use Rattle.sc_node_table.specs.Values.{Draw, Base, OrderLine, Mail, MailBody, Install, TxPrepare, TxVote, TxOutcome, TxElsewhere, TxWatch, TxWatched, Node, Seat, Event, Deliver, Input, Got}
use Rattle.sc_base.proofs.Lemmas.{draw_is, same_name}
use Rattle.sc_actor.specs.declared.rows.Event.TheVariants.{Told}
use Rattle.sc_actor.specs.declared.rows.Input.TheVariants.{Told as ToldInput}
use Rattle.sc_actor.specs.Definitions.{mails, numbered, value, acted, input_of, row_of}
use Rattle.sc_live_orderly.specs.OrderlyDefinitions.{AreInTime}
use Rattle.sc_node_table.specs.NodeDefinitions.{NodeState, replica_of, with_replica, with_new, with_born, with_children, group_of_mail, unknown, on_mail, absent, group_of_order, ordered_of, on_order, ordered_row, ReplicaState, Executed, born_replica, mailed, slots_ahead}
use Rattle.sc_meaning.specs.sound.SoundDefinitions.{Player, player_table}
use Rattle.sc_live_steps.specs.calm.CalmDefinitions.{players, Rows}
use Rattle.sc_live_steps.proofs.CalmStepsProofs.CalmStepLemmas.{put_others}
use Rattle.sc_live_steps.specs.orders.OrderDefinitions.{Errand, errand_by}
use Rattle.sc_live_journals.specs.rows.RowDefinitions.{replicas_of, view_at, IsSeat, with_event}
use Rattle.sc_live_journals.proofs.RowsProofs.RowLemmas.{names_stay, found_name, rows_replicas, view_was, view_is, sent_is, new_is}
use Rattle.sc_live_journals.specs.scenes.SceneDefinitions.{errand_in, errand_taken, Creates, LeavesOrMakes, IsOfGroup, IsTablesRow, MayCreate, IsTaking, RowsAreTaken}
use Rattle.sc_live_journals.proofs.RowsProofs.ReplicaViews.{child_others as other_child, child_me}
pub use Rattle.sc_words.proofs.PaxosProofs.ListLemmas.{Each-among as each_is}
use Rattle.sc_law_walks.proofs.WalkLemmas.{takes_by}

-- ---- the group of an errand

-- an errand is for the group of its mail
pub errand_group : (from to : ℕ) (body : MailBody) (entry : Draw × Errand) → errand_by from to body ≡ Some entry → group_of_mail body ≡ Some entry.0
errand_group from to (TxPrepare tx offer) entry e = ap (option_map (λ (p : Draw × Errand). p.0)) e
errand_group from to (TxWatch tx watch) entry e = ap (option_map (λ (p : Draw × Errand). p.0)) e
errand_group from to (TxElsewhere tx coord hint) entry e = ap (option_map (λ (p : Draw × Errand). p.0)) e
errand_group from to (TxVote tx coord part vote) entry e = ap (option_map (λ (p : Draw × Errand). p.0)) e
errand_group from to (TxWatched tx coord part vote) entry e = ap (option_map (λ (p : Draw × Errand). p.0)) e
errand_group from to (TxOutcome tx part outcome) entry e = ap (option_map (λ (p : Draw × Errand). p.0)) e
errand_group from to _ entry e = cc

-- a node without replica that gets an errand stays, and answers so
pub errand_unknown : (from to : ℕ) (body : MailBody) (node : NodeState) (entry : Draw × Errand) → errand_by from to body ≡ Some entry → unknown from body node ≡ (node, absent node.me from body)
errand_unknown from to (Install group slot base sets) node entry e = cc
errand_unknown from to _ node entry e = refl

own_group : (rows : Rows) (number : ℕ) (mail : Mail) (group : Draw) → numbered (mails rows) number ≡ Some mail → group_of_mail mail.body ≡ Some group → (entry : Draw × Errand)
    → errand_taken (mails rows) (Deliver number) ≡ Some entry → entry.0 ≡ group
own_group rows number mail group at named entry e =
    let fact : errand_by mail.from mail.to mail.body ≡ Some entry = sym (ap errand_in at) ∙ e in
    let same : Some entry.0 ≡ Some group = sym (errand_group mail.from mail.to mail.body entry fact) ∙ named in
    cc

-- ---- children

-- a replica of this name is as before, or one of these children's, made now
abbrev pub OneOf : Draw → ℕ → List Base → Option ReplicaState → Option ReplicaState → Type 0
OneOf name who children now before = (now ≡ before) ⊎ ((child : Base) × Among child children × (child.core.id ≡ name) × (before ≡ None) × (now ≡ Some (born_replica slots_ahead who child)))

module _ (who : ℕ) where
  own_child : (child : Base) (node : NodeState) → node.me ≡ who → OneOf child.core.id who (child ∷ []) (replica_of child.core.id (with_born child node).replicas) (replica_of child.core.id node.replicas)
  own_child child node me = by (replica_of child.core.id node.replicas) refl
    where
      by : (o : Option ReplicaState) → replica_of child.core.id node.replicas ≡ o
          → OneOf child.core.id who (child ∷ []) (replica_of child.core.id (cond (is_some o) node (record node { replicas = with_new (born_replica slots_ahead node.me child) node.replicas })).replicas) (replica_of child.core.id node.replicas)
      by (Some r) e = inl refl
      by None e = inr (child, inl refl, refl, e, new_is child.core.id (born_replica slots_ahead node.me child) node.replicas refl e ∙ ap (λ n. Some (born_replica slots_ahead n child)) me)

  one_child : (name : Draw) (child : Base) (node : NodeState) → node.me ≡ who → OneOf name who (child ∷ []) (replica_of name (with_born child node).replicas) (replica_of name node.replicas)
  one_child name child node me = elim (cases_Bool (same_draw child.core.id name)) [
    | inl t ↦ subst (λ n. OneOf n who (child ∷ []) (replica_of n (with_born child node).replicas) (replica_of n node.replicas)) (draw_is child.core.id name t) (own_child child node me)
    | inr f ↦ inl (other_child name child node (λ e. true≢false (sym (same_name child.core.id name e) ∙ f)))
  ]

  first_of : (child : Base) (children : List Base) (x : Base) → Among x (child ∷ []) → Among x (child ∷ children)
  first_of child children x fact = elim fact [ inl e ↦ inl e | inr bad ↦ absurd bad ]

  then_of : (name : Draw) (child : Base) (children : List Base) (now between before : Option ReplicaState) → OneOf name who (child ∷ []) between before → OneOf name who children now between → OneOf name who (child ∷ children) now before
  then_of name child children now between before (inl e) (inl f) = inl (f ∙ e)
  then_of name child children now between before (inl e) (inr (x, fact, id, none, makes)) = inr (x, inr fact, id, sym e ∙ none, makes)
  then_of name child children now between before (inr (x, fact, id, none, makes)) (inl f) = inr (x, first_of child children x fact, id, none, f ∙ makes)
  then_of name child children now between before (inr (x, fact, id, none, makes)) (inr (y, is', id', none', makes')) = (let bad : None ≡ Some (born_replica slots_ahead who x) = sym none' ∙ makes in cc)

  pub all_children : (name : Draw) (children : List Base) (node : NodeState) → node.me ≡ who → OneOf name who children (replica_of name (with_children children node).replicas) (replica_of name node.replicas)
  unfolding with_children
  all_children name [] node me = inl refl
  all_children name (child ∷ children) node me =
      then_of name child children (replica_of name (with_children children (with_born child node)).replicas) (replica_of name (with_born child node).replicas) (replica_of name node.replicas) (one_child name child node me)
      (all_children name children (with_born child node) (child_me child node ∙ me))

-- ---- rows

module _ (births : List (Seat Player)) (rows : Rows) (seat : Seat Player) (event : Event OrderLine) (node : NodeState) (born : IsSeat births seat) (fact : value player_table seat rows ≡ Node node) (step : NodeState × List Mail)
    (o : Option (Input Mail OrderLine)) (input : input_of (mails rows) event ≡ o) (does : acted player_table (Node node) o ≡ (Node step.0, step.1)) where
  pub now_is : (name : Draw) → view_at births (with_event rows seat event) name seat.who ≡ replica_of name step.0.replicas
  now_is name = view_is births rows seat event name born (Node node) fact o input ∙ ap (λ (x : Player × List Mail). replica_of name (replicas_of x.0)) does

  pub was_is : (name : Draw) → view_at births rows name seat.who ≡ replica_of name node.replicas
  was_is name = view_was births rows seat event name born (Node node) fact

  pub all_sent : (row_of player_table seat rows event).sent ≡ step.1
  all_sent = sent_is births rows seat event (replicas_name) born (Node node) fact o input ∙ ap (λ (x : Player × List Mail). x.1) does
    where
      replicas_name : Draw
      replicas_name = record { node = 0; count = 0 }

  -- by what it makes
  creates_by : (name : Draw) (children : List Base) → Each (MayCreate births rows seat) children → OneOf name seat.who children (replica_of name step.0.replicas) (replica_of name node.replicas) → LeavesOrMakes births rows seat event name
  creates_by name children may (inl e) = inl (now_is name ∙ (e ∙ sym (was_is name)))
  creates_by name children may (inr (child, among, id, none, makes)) =
      let m = each_is (MayCreate births rows seat) children child may among in
      let was : view_at births rows child.core.id seat.who ≡ None = was_is child.core.id ∙ (ap (λ n. replica_of n node.replicas) id ∙ none) in
      let has : view_at births (with_event rows seat event) child.core.id seat.who ≡ Some (born_replica slots_ahead seat.who child) = now_is child.core.id ∙ (ap (λ n. replica_of n step.0.replicas) id ∙ makes) in
      inr (subst (λ n. Creates births rows seat event n) id (record { base = child; none = was; makes = has; free = m.free; newest = m.newest; first = m.first }))

-- ---- who takes

module _ (words : ℕ → ℕ → ℕ × ℕ) (births : List (Seat Player)) (rows : Rows) (seat : Seat Player) (number : ℕ) (mail : Mail) (group : Draw) (node : NodeState) (t : IsTaking words births rows seat number mail group node) where
  got : input_of {O = OrderLine} (mails rows) (Deliver number) ≡ Some (Got mail)
  got = ap (λ o. option_map Got o) t.sent

  acts_by : (step : NodeState × List Mail) → on_mail mail.from mail.body node ≡ step → acted player_table (Node node) (Some (Got mail)) ≡ (Node step.0, step.1)
  acts_by step e = ap (λ (x : NodeState × List Mail). (Node x.0, x.1)) e

  of_group : (step : NodeState × List Mail) → on_mail mail.from mail.body node ≡ step
      → ((other : Draw) → (other ≡ group → ⊥) → LeavesOrMakes births rows seat (Deliver number) other) → IsOfGroup words births rows seat (Deliver number) group
  of_group step e others = record { seated = t.seated; timely = t.timely; own = own_group rows number mail group t.sent t.named; others = others }

  pub takes : (r : ReplicaState) → replica_of group node.replicas ≡ Some r → Each (MayCreate births rows seat) (mailed mail.from mail.body (r, [])).1
      → IsOfGroup words births rows seat (Deliver number) group × IsTablesRow births rows seat (Deliver number) group r (mailed mail.from mail.body (r, [])).0
  takes r here may =
      let after : Executed = mailed mail.from mail.body (r, []) in
      let put : NodeState = record node { replicas = with_replica group after.0.0 node.replicas } in
      let step : NodeState × List Mail = (with_children after.1 put, after.0.1) in
      let e : on_mail mail.from mail.body node ≡ step = takes_by group mail.from mail.body node t.comes t.named (Some r) here in
      let does = acts_by step e in
      let name = found_name group node.replicas r here in
      let row = rows_replicas.taken births rows seat number mail group node r t.seated t.is_node t.sent t.comes t.named here in (
        of_group step e (λ other ne.
            let stays : replica_of other put.replicas ≡ replica_of other node.replicas = put_others group other after.0.0 node.replicas (names_stay.mailed mail.from mail.body r ∙ name) ne in
            creates_by births rows seat (Deliver number) node t.seated t.is_node step (Some (Got mail)) got does other after.1 may
            (subst (λ (x : Option ReplicaState). OneOf other seat.who after.1 (replica_of other step.0.replicas) x) stays (all_children seat.who other after.1 put t.me_is))),
        record { was = row.was; fact = row.fact; sends = all_sent births rows seat (Deliver number) node t.seated t.is_node step (Some (Got mail)) got does },
      )

  pub misses : (entry : Draw × Errand) → replica_of group node.replicas ≡ None → errand_by mail.from mail.to mail.body ≡ Some entry
      → IsOfGroup words births rows seat (Deliver number) group
      × (view_at births (with_event rows seat (Deliver number)) group seat.who ≡ view_at births rows group seat.who)
      × ((row_of player_table seat rows (Deliver number)).sent ≡ absent node.me mail.from mail.body)
  misses entry here errand =
      let step : NodeState × List Mail = (node, absent node.me mail.from mail.body) in
      let e : on_mail mail.from mail.body node ≡ step = takes_by group mail.from mail.body node t.comes t.named None here ∙ errand_unknown mail.from mail.to mail.body node entry errand in
      let does = acts_by step e in
      let stays : (name : Draw) → view_at births (with_event rows seat (Deliver number)) name seat.who ≡ view_at births rows name seat.who =
      λ name. now_is births rows seat (Deliver number) node t.seated t.is_node step (Some (Got mail)) got does name ∙ sym (was_is births rows seat (Deliver number) node t.seated t.is_node step (Some (Got mail)) got does name) in
      (of_group step e (λ other ne. inl (stays other)), stays group, all_sent births rows seat (Deliver number) node t.seated t.is_node step (Some (Got mail)) got does)

orders : (words : ℕ → ℕ → ℕ × ℕ) (births : List (Seat Player)) (rows : Rows) (seat : Seat Player) (line : OrderLine) (node : NodeState) (r : ReplicaState)
    → IsSeat births seat → AreInTime (players words births) (with_event rows seat (Told line)) → value player_table seat rows ≡ Node node → replica_of (group_of_order line.order) node.replicas ≡ Some r
    → IsOfGroup words births rows seat (Told line) (group_of_order line.order) × IsTablesRow births rows seat (Told line) (group_of_order line.order) r (ordered_row node.draws line (r, []))
orders words births rows seat line node r born timely fact here =
    let group = group_of_order line.order in
    let step : NodeState × List Mail = ordered_of (Some r) line node in
    let e : on_order line node ≡ step = ap (λ o. ordered_of o line node) here in
    let does : acted player_table (Node node) (Some (ToldInput line)) ≡ (Node step.0, step.1) = ap (λ (x : NodeState × List Mail). (Node x.0, x.1)) e in
    let row = rows_replicas.ordered births rows seat line node r born fact here in
    let name = found_name group node.replicas r here in (
      record {
        seated = born;
        timely = timely;
        own = λ entry bad. cc;
        others = λ other ne. inl (now_is births rows seat (Told line) node born fact step (Some (ToldInput line)) refl does other
            ∙ (put_others group other (ordered_row node.draws line (r, [])).0 node.replicas (names_stay.ordered node.draws line r ∙ name) ne
            ∙ sym (was_is births rows seat (Told line) node born fact step (Some (ToldInput line)) refl does other)));
      },
      record { was = row.was; fact = row.fact; sends = all_sent births rows seat (Told line) node born fact step (Some (ToldInput line)) refl does },
    )

-- The row in which a node takes a mail or an order is one of that group, and what it does and sends is what the table of the replica there says; without one it answers an errand so.
pub rows_taken : RowsAreTaken
rows_taken = record {
  taken = λ words births rows seat number mail group node r t here may. takes words births rows seat number mail group node t r here may;
  missed = λ words births rows seat number mail group node entry t here errand. misses words births rows seat number mail group node t entry here errand;
  ordered = orders;
}
