-- A node that makes its replica of a state is nothing to an order.
use Rattle.std.proofs.Common.{◌≡◌, ℕ, ◌||◌, not, nat_lt, eqb, true, false, true≢false, List, [], length, Some, None, inl, inr, refl, sym, ◌∙◌, ap, subst}
use Rattle.std.specs.Option.{option_map}
use Rattle.std.proofs.lemmas.Bool.{cond-true, cond-false, eq-eqb, le-ltb, or_from, not_from_true, cases_eq}
use Rattle.sc_node_table.specs.Values.{Draw, Base, OrderLine, Mail, Install, Node, Seat, Event, Deliver, Got}
use Rattle.sc_base.specs.Definitions.{is_member}
use Rattle.sc_actor.specs.Definitions.{acted, input_of, mails}
use Rattle.sc_node_table.specs.NodeDefinitions.{NodeState, with_made, unknown, group_of_mail, may_come, routed, taken_by, on_mail, ReplicaState, Place, name_of, last_slot, installed_replica, forgotten, looked, named, made_by, looked_up, slots_ahead}
use Rattle.sc_meaning.specs.sound.SoundDefinitions.{Player, player_table}
use Rattle.sc_live_steps.specs.calm.CalmDefinitions.{Rows}
use Rattle.sc_live_steps.specs.orders.OrderDefinitions.{errand_by, errands_for}
use Rattle.sc_live_journals.specs.rows.RowDefinitions.{view_at, with_event, IsWholeState}
use Rattle.sc_live_journals.proofs.RowsProofs.RowLemmas.{names_stay, rows_replicas, new_others}
use Rattle.sc_live_journals.specs.scenes.SceneDefinitions.{errand_in, errand_taken, LeadsAlone, NoneRuns, Stays, KeepsStage, ComesToNone, MayJoin, StatesKeep}
use Rattle.sc_live_journals.specs.scenes.CreatedReplicas.{Led, Unled}
use Rattle.sc_live_journals.proofs.ScenesProofs.RowKinds.{others_same, asides_are}
use Rattle.sc_live_journals.proofs.ScenesProofs.OrderRows.{rests_by}
use Rattle.sc_live_journals.proofs.ScenesProofs.SceneReceivers.{now_is, was_is, all_sent}
use Rattle.sc_live_journals.proofs.ScenesProofs.SceneViews.{tell}

-- ---- the group

module _ (births : List (Seat Player)) (rows : Rows) (seat : Seat Player) (event : Event OrderLine) (name : Draw) (made : ReplicaState) (was : view_at births rows name seat.who ≡ None) (fact : view_at births (with_event rows seat event) name seat.who ≡ Some made)
    (stopped : made.running ≡ false) where
  made_stopped : (node : ℕ) (x : ReplicaState) → node ≡ seat.who → view_at births (with_event rows seat event) name node ≡ Some x → x.running ≡ false
  made_stopped node x e has =
      let own : Some made ≡ Some x = sym fact ∙ (sym (ap (view_at births (with_event rows seat event) name) e) ∙ has) in
      let same : made ≡ x = cc in
      subst (λ (y : ReplicaState). y.running ≡ false) same stopped

  away : (node : ℕ) (x : ReplicaState) → view_at births rows name node ≡ Some x → node ≡ seat.who → ⊥
  away node x has e = (let bad : None ≡ Some x = sym was ∙ (sym (ap (view_at births rows name) e) ∙ has) in cc)

  leads_still : (node : ℕ) (lead : ReplicaState) → LeadsAlone births rows name node lead → LeadsAlone births (with_event rows seat event) name node lead
  leads_still node lead leads = record {
    is_there = others_same births rows seat event name node (away node lead leads.is_there) ∙ leads.is_there;
    running = leads.running;
    alone = λ n x has running. elim (cases_eq n seat.who) [
      | inl e ↦ absurd (true≢false (sym running ∙ made_stopped n x e has))
      | inr ne ↦ leads.alone n x (sym (others_same births rows seat event name n ne) ∙ has) running
    ];
  }

  none_still : NoneRuns births rows name → NoneRuns births (with_event rows seat event) name
  none_still none n x has = elim (cases_eq n seat.who) [
    | inl e ↦ made_stopped n x e has
    | inr ne ↦ none n x (sym (others_same births rows seat event name n ne) ∙ has)
  ]

  joins : MayJoin births rows seat event name → Stays births rows seat event name
  joins (Led node lead leads) =
      let before = tell.led births rows name node lead leads in
      let after = tell.led births (with_event rows seat event) name node lead (leads_still node lead leads) in
      record { bond = after.1.0 ∙ sym before.1.0; work = after.1.1 ∙ sym before.1.1; leads = λ n e. after.0 ∙ (sym before.0 ∙ e) }
  joins (Unled bond node other none old new has) =
      let before = tell.idle births rows name bond node other none old has in
      let after = tell.idle births (with_event rows seat event) name bond seat.who made (none_still none) new fact in
      record { bond = after.1.0 ∙ sym before.1.0; work = after.1.1 ∙ sym before.1.1; leads = λ n e. (let bad : None ≡ Some n = sym before.0 ∙ e in cc) }

-- ---- the node

-- one that is sent a state by a member makes a replica of it that does not run, and sends nothing
made_rests : (me from : ℕ) (group : Draw) (slot : ℕ) (base : Base) (sets : List (List ℕ)) → is_member base.core.members from ≡ true → ((made_by me from group slot base sets).0.running ≡ false) × ((made_by me from group slot base sets).1 ≡ [])
unfolding made_by looked_up forgotten
made_rests me from group slot base sets member =
    let r : ReplicaState = installed_replica me slot (named group base) sets in
    subst (λ (p : Place). (p.0.running ≡ false) × (p.1 ≡ [])) (sym (cond-true (is_member base.core.members from) (record r { hint = Some from }, []) (looked (r, [])) member)) (refl, refl)

states_by : (words : ℕ → ℕ → ℕ × ℕ) (births : List (Seat Player)) (rows : Rows) (seat : Seat Player) (number : ℕ) (mail : Mail) (group : Draw) (slot : ℕ) (base : Base) (sets : List (List ℕ)) (c : ComesToNone words births rows seat number mail group)
    → mail.body ≡ Install group slot base sets → IsWholeState slot sets → is_member base.core.members mail.from ≡ true → MayJoin births rows seat (Deliver number) group → KeepsStage births rows seat (Deliver number)
states_by words births rows seat number mail group slot base sets c body may member joins_so =
    let node = c.node in
    let t = c.taking in
    let place : Place = made_by node.me mail.from group slot base sets in
    let step : NodeState × List Mail = with_made place node in
    let does_it : on_mail mail.from mail.body node ≡ step =
    cond-true (may_come mail.from mail.body) (routed (group_of_mail mail.body) mail.from mail.body node) (node, []) t.comes
    ∙ (ap (λ g. routed g mail.from mail.body node) t.named ∙ (ap (λ o. taken_by o group mail.from mail.body node) c.none ∙ (ap (λ b. unknown mail.from b node) body
    ∙ cond-false (not (eqb (length sets) slots_ahead) || nat_lt last_slot slot) (node, []) step
    (or_from (not (eqb (length sets) slots_ahead)) (nat_lt last_slot slot) (not_from_true (eqb (length sets) slots_ahead) (eq-eqb (length sets) slots_ahead may.open_)) (le-ltb last_slot slot may.low))))) in
    let does : acted player_table (Node node) (Some (Got mail)) ≡ (Node step.0, step.1) = ap (λ (x : NodeState × List Mail). (Node x.0, x.1)) does_it in
    let got : input_of {O = OrderLine} (mails rows) (Deliver number) ≡ Some (Got mail) = ap (λ o. option_map Got o) t.sent in
    let row = rows_replicas.made births rows seat number mail group slot base sets node t.seated t.is_node t.sent t.comes body may c.none in
    let rests = made_rests node.me mail.from group slot base sets member in
    let own : name_of place.0 ≡ group = names_stay.made node.me mail.from group slot base sets in
    let none : errand_taken (mails rows) (Deliver number) ≡ None = ap errand_in t.sent ∙ ap (errand_by mail.from mail.to) body in
    rests_by words births rows seat (Deliver number) group
    (record {
      seated = t.seated;
      timely = t.timely;
      own = λ entry has. (let bad : None ≡ Some entry = sym none ∙ has in cc);
      others = λ other ne. inl (now_is births rows seat (Deliver number) node t.seated t.is_node step (Some (Got mail)) got does other
          ∙ (new_others other place.0 node.replicas (λ e. ne (sym e ∙ own)) ∙ sym (was_is births rows seat (Deliver number) node t.seated t.is_node step (Some (Got mail)) got does other)));
    })
    (asides_are.rests births rows seat (Deliver number) group (joins births rows seat (Deliver number) group place.0 row.was row.fact rests.0 joins_so) (ap (option_map (λ entry. entry.1)) none)
    (tt, λ name away_from. ap (errands_for name) (all_sent births rows seat (Deliver number) node t.seated t.is_node step (Some (Got mail)) got does ∙ rests.1)))

-- An order stays under way where a node makes its replica of a whole state that a member sends.
pub states_keep : StatesKeep
states_keep = states_by
