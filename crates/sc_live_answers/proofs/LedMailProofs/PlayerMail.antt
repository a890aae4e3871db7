-- What a player says in a row, of a group that is well led.
use Rattle.std.proofs.Common.{◌≡◌, ℕ, ◌||◌, not, nat_lt, eqb, cond, true, false, List, [], length, Bool, Option, Some, None, ◌⊎◌, inl, inr, refl, sym, ◌∙◌, ap, subst, arith}
use Rattle.std.proofs.lemmas.Bool.{cond-true, eqb-true}
use Rattle.sc_base.specs.Definitions.{same_draw}
use Rattle.sc_node_table.specs.Values.{Draw, Ballot, Base, OrderLine, Mail, MailBody, Request, Prepare, Accept, Learn, Install, TxPrepare, TxWatch, Input}
use Rattle.sc_base.proofs.Lemmas.{same_name}
use Rattle.sc_client_table.specs.table.TableDefinitions.{Client as ClientState, table}
use Rattle.sc_node_table.specs.NodeDefinitions.{NodeState, replica_of, group_of_mail, group_of_order, may_come, unknown, with_made, taken_by, routed, on_mail, ordered_of, on_order, ReplicaState, first_ballot, last_slot, ordered_row, mailed, made_by, slots_ahead}
use Rattle.sc_live_steps.specs.following.FollowingDefinitions.{Mark, Asks, Teaches, Installs, Prepares, mark_of}
use Rattle.sc_words.specs.paxos.PaxosDefinitions.{IsAtLeast}
use Rattle.sc_words.proofs.PaxosProofs.PaxosLemmas.{Each-weaker}
use Rattle.sc_law_walks.proofs.WalkLemmas.{either_way}
use Rattle.sc_live_journals.proofs.MailProofs.MailLemmas.{IsRequestOf, clients_ask}
use Rattle.sc_live_answers.specs.AnswerDefinitions.{SaysWell, AreSaidWell}
use Rattle.sc_live_answers.proofs.LedMailProofs.ReplicaMail.{made_says}

-- a mail that comes to a node, of which the replica of its group says so; where there is none, a mail of this group has no mark, or is a state with no later ballot
module _ (name : Draw) (ballot : Ballot) (node : NodeState) (from : ℕ) where
  abbrev Well : NodeState × List Mail → Type 0
  Well step = AreSaidWell name ballot step.1

  abbrev pub IsLate : MailBody → Type 0
  IsLate b = (mark_of name from b ≡ None) ⊎ ((slot : ℕ) × (state : Base) × (sets : List (List ℕ)) × (b ≡ Install name slot state sets) × IsAtLeast ballot (first_ballot state.core))

  marked : (g : Draw) (mark : Mark) → g ≡ name → cond (same_draw g name) (Some mark) None ≡ None → ⊥
  marked g mark fact none = (let some : cond (same_draw g name) (Some mark) None ≡ Some mark = cond-true (same_draw g name) (Some mark) None (same_name g name fact) in let bad : Some mark ≡ None = sym some ∙ none in cc)

  made_well : (group : Draw) (slot : ℕ) (state : Base) (sets : List (List ℕ)) → (group ≡ name → IsAtLeast ballot (first_ballot state.core)) → Well (unknown from (Install group slot state sets) node)
  made_well group slot state sets late = by (eqb (length sets) slots_ahead) refl
    where
      by : (c : Bool) → eqb (length sets) slots_ahead ≡ c → Well (cond {A = NodeState × List Mail} (not c || nat_lt last_slot slot) (node, []) (with_made (made_by node.me from group slot state sets) node))
      by false e = tt
      by true e = either_way Well (nat_lt last_slot slot) (node, []) (with_made (made_by node.me from group slot state sets) node) tt
          (made_says name ballot 0 (Unit {0}) node.me from group slot state sets (eqb-true (length sets) slots_ahead e) (omega arith) (λ fact. (tt, late fact)))

  state_late : (g : Draw) (slot : ℕ) (state : Base) (sets : List (List ℕ)) → g ≡ name → IsLate (Install g slot state sets) → IsAtLeast ballot (first_ballot state.core)
  state_late g slot state sets fact (inl none) = absurd (marked g (Installs slot) fact none)
  state_late g slot state sets fact (inr i) = (let same : Install g slot state sets ≡ Install name i.0 i.1 i.2 = i.3 in let states : state ≡ i.1 = cc in subst (λ (b : Base). IsAtLeast ballot (first_ballot b.core)) (sym states) i.4)

  prepare_late : (g : Draw) (b : Ballot) (f : ℕ) → g ≡ name → IsLate (Prepare g b f) → ⊥
  prepare_late g b f fact (inl none) = marked g (Prepares b) fact none
  prepare_late g b f fact (inr i) = (let same : Prepare g b f ≡ Install name i.0 i.1 i.2 = i.3 in cc)

  accept_late : (g : Draw) (body : MailBody) (mark : Mark) → g ≡ name → mark_of name from body ≡ cond (same_draw g name) (Some mark) None → ((slot : ℕ) (state : Base) (sets : List (List ℕ)) → body ≡ Install name slot state sets → ⊥) → IsLate body → ⊥
  accept_late g body mark fact e none (inl n) = marked g mark fact (sym e ∙ n)
  accept_late g body mark fact e none (inr i) = none i.0 i.1 i.2 i.3

  missed : (b : MailBody) (group : Draw) → group_of_mail b ≡ Some group → (group ≡ name → IsLate b) → Well (unknown from b node)
  missed (Install g slot state sets) group e late = (let same : g ≡ group = cc in made_well g slot state sets (λ fact. state_late g slot state sets fact (late (sym same ∙ fact))))
  missed (Prepare g b f) group e late = (let same : g ≡ group = cc in ((λ fact. prepare_late g b f fact (late (sym same ∙ fact))), tt))
  missed (Accept g b slot command) group e late = (let same : g ≡ group = cc in ((λ fact. accept_late g (Accept g b slot command) (Asks b slot) fact refl (λ s state sets i. (let bad : Accept g b slot command ≡ Install name s state sets = i in cc)) (late (sym same ∙ fact))), tt))
  missed (Learn g slot command) group e late = (let same : g ≡ group = cc in ((λ fact. accept_late g (Learn g slot command) (Teaches slot) fact refl (λ s state sets i. (let bad : Learn g slot command ≡ Install name s state sets = i in cc)) (late (sym same ∙ fact))), tt))
  missed (Request g client seq op) group e late = (tt, tt)
  missed (TxPrepare tx offer) group e late = (tt, tt)
  missed (TxWatch tx watch) group e late = (tt, tt)
  missed _ group e late = tt

  module _ (body : MailBody) (has : (group : Draw) (r : ReplicaState) → group_of_mail body ≡ Some group → replica_of group node.replicas ≡ Some r → AreSaidWell name ballot (mailed from body (r, [])).0.1)
      (late : replica_of name node.replicas ≡ None → group_of_mail body ≡ Some name → IsLate body) where
    taken_says : (o : Option ReplicaState) (group : Draw) → group_of_mail body ≡ Some group → replica_of group node.replicas ≡ o → Well (taken_by o group from body node)
    taken_says None group e here = missed body group e (λ fact. late (ap (λ n. replica_of n node.replicas) (sym fact) ∙ here) (e ∙ ap Some fact))
    taken_says (Some r) group e here = has group r e here

    routed_says : (o : Option Draw) → group_of_mail body ≡ o → Well (routed o from body node)
    routed_says None e = tt
    routed_says (Some group) e = taken_says (replica_of group node.replicas) group e refl

    pub node_says : Well (on_mail from body node)
    node_says = either_way Well (may_come from body) (routed (group_of_mail body) from body node) (node, []) (routed_says (group_of_mail body) refl) tt

-- an order
module _ (name : Draw) (ballot : Ballot) (node : NodeState) (line : OrderLine) (has : (r : ReplicaState) → replica_of (group_of_order line.order) node.replicas ≡ Some r → AreSaidWell name ballot (ordered_row node.draws line (r, [])).1) where
  order_by : (o : Option ReplicaState) → replica_of (group_of_order line.order) node.replicas ≡ o → AreSaidWell name ballot (ordered_of o line node).1
  order_by None e = (tt, tt)
  order_by (Some r) e = has r e

  pub node_orders : AreSaidWell name ballot (on_order line node).1
  node_orders = order_by (replica_of (group_of_order line.order) node.replicas) refl

-- a client asks alone
pub client_says : (name : Draw) (ballot : Ballot) (client : ClientState) (input : Input Mail OrderLine) → AreSaidWell name ballot (table client input).1
client_says name ballot client input =
    Each-weaker (IsRequestOf client.me) (λ (mail : Mail). SaysWell name ballot mail.body) (λ mail q. subst (λ (m : Mail). SaysWell name ballot m.body) (sym q.3) tt) (table client input).1 (clients_ask client.me client input refl).1
