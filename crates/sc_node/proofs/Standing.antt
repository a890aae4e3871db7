-- What comes for a group, by where its replica stands, and a tick of the replica at a place.
use Rattle.std.proofs.Common.{◌≡◌, ℕ, ◌<◌, List, [], length, set, get_or, None, Result, Ok, Err, IfOk, refl, sym, ap, ◌∙◌}
use Rattle.std.proofs.lemmas.List.{get_or_read_under}
use Rattle.sc_base.specs.declared.names.Draw.{Draw}
use Rattle.sc_base.specs.Drawing.{Drawer}
use Rattle.sc_words.specs.declared.commands.cores.Base.{Base}
use Rattle.sc_words.specs.declared.commands.orders.OrderLine.{OrderLine}
use Rattle.sc_words.specs.declared.commands.orders.OrderRefusal.TheVariants.{NotLeader}
use Rattle.sc_words.specs.declared.commands.orders.OrderResult.TheVariants.{Refused}
use Rattle.sc_mail.specs.declared.bodies.Mail.{Mail}
use Rattle.sc_mail.specs.declared.bodies.MailBody.{MailBody}
use Rattle.sc_node_table.specs.Replica.{ReplicaState, Place}
use Rattle.sc_node_table.specs.Node.{NodeState, replica_of, with_replica, with_children, taken_by, unknown, group_of_order, ordered_of, on_order}
use Rattle.sc_node_table.specs.Mails.{result_sent}
use Rattle.sc_node_table.specs.Rows.{mailed, tick_row}
use Rattle.sc_node_table.specs.Policy.{names_after_tick}
use Rattle.sc_node_table.specs.Ordering.{ordered_row, names_after}
use Rattle.sc_node.specs.Places.{StandsAt}
use Rattle.sc_node.specs.Ticking.{ticked_at}

-- a mail for a group whose replica stands at a place
pub taken-at : (group : Draw) (from : ℕ) (body : MailBody) (node : NodeState) (n : ℕ) (d new : ReplicaState) (more : List Mail) (made : List Base) → StandsAt group node.replicas n
    → (new, more) ≡ (mailed from body (get_or node.replicas n d, [])).0 → made ≡ (mailed from body (get_or node.replicas n d, [])).1
    → taken_by (replica_of group node.replicas) group from body node ≡ (with_children made (record node { replicas = set node.replicas n new }), more)
taken-at group from body node n d new more made stands e born =
    ap (λ o. taken_by o group from body node) (stands.found d)
    ∙ ap (λ (p : Place). (with_children (mailed from body (get_or node.replicas n d, [])).1 (record node { replicas = with_replica group p.0 node.replicas }), p.1)) (sym e)
    ∙ ap (λ rs. (with_children (mailed from body (get_or node.replicas n d, [])).1 (record node { replicas = rs }), more)) (sym (stands.written new))
    ∙ ap (λ cs. (with_children cs (record node { replicas = set node.replicas n new }), more)) (sym born)

-- a mail for a group of which there is no replica
pub taken-nowhere : {E : Type 0} (group : Draw) (from : ℕ) (body : MailBody) (node after : NodeState) (result : Result (List Mail) E) → replica_of group node.replicas ≡ None
    → IfOk result (λ mails. unknown from body node ≡ (after, mails)) → IfOk result (λ mails. taken_by (replica_of group node.replicas) group from body node ≡ (after, mails))
taken-nowhere group from body node after (Ok mails) none e = ap (λ o. taken_by o group from body node) none ∙ e
taken-nowhere group from body node after (Err x) none e = e

-- an order for a group whose replica stands at a place
pub ordered-at : (line : OrderLine) (node : NodeState) (n : ℕ) (d new : ReplicaState) (more : List Mail) (left : Drawer) → StandsAt (group_of_order line.order) node.replicas n
    → (new, more) ≡ ordered_row node.draws line (get_or node.replicas n d, []) → left ≡ names_after node.draws line (get_or node.replicas n d)
    → on_order line node ≡ (record node { draws = left; replicas = set node.replicas n new }, more)
ordered-at line node n d new more left stands e names =
    ap (λ o. ordered_of o line node) (stands.found d)
    ∙ ap (λ (p : Place). (record node { draws = names_after node.draws line (get_or node.replicas n d); replicas = with_replica (group_of_order line.order) p.0 node.replicas }, p.1)) (sym e)
    ∙ ap (λ rs. (record node { draws = names_after node.draws line (get_or node.replicas n d); replicas = rs }, more)) (sym (stands.written new))
    ∙ ap (λ (draws : Drawer). (record node { draws = draws; replicas = set node.replicas n new }, more)) (sym names)

-- an order for a group of which there is no replica
pub ordered-nowhere : {E : Type 0} (line : OrderLine) (node : NodeState) (result : Result (List Mail) E) → replica_of (group_of_order line.order) node.replicas ≡ None
    → IfOk result (λ mails. mails ≡ result_sent node.me line.number (Refused (NotLeader None)) []) → IfOk result (λ mails. on_order line node ≡ (node, mails))
ordered-nowhere line node (Ok mails) none e = ap (λ o. ordered_of o line node) none ∙ ap (λ ms. (node, ms)) (sym e)
ordered-nowhere line node (Err x) none e = e

-- the replica at a place has ticked
pub ticked-there : (node : NodeState) (i : ℕ) (x new : ReplicaState) (mails more : List Mail) (left : Drawer) → i < length node.replicas → x ≡ get_or node.replicas i x
    → (new, more) ≡ tick_row node.policy node.draws (x, mails) → left ≡ names_after_tick node.policy node.draws x
    → (d : ReplicaState) → (record node { draws = left; replicas = set node.replicas i new }, more) ≡ ticked_at i d (node, mails)
ticked-there node i x new mails more left less read e names d =
    ap (λ (p : Place). (record node { draws = left; replicas = set node.replicas i p.0 }, p.1)) e
    ∙ ap (λ (l : Drawer). let p = tick_row node.policy node.draws (x, mails) in (record node { draws = l; replicas = set node.replicas i p.0 }, p.1)) names
    ∙ ap (λ (r : ReplicaState). let p = tick_row node.policy node.draws (r, mails) in (record node { draws = names_after_tick node.policy node.draws r; replicas = set node.replicas i p.0 }, p.1))
    (get_or_read_under node.replicas i (length node.replicas) x d read less refl)
