-- A player refuses nothing but what it is asked to promise or to accept.
use Rattle.std.proofs.Common.{◌≡◌, ℕ, ◌||◌, not, nat_lt, eqb, refl, List, [], length, Option, Some, None, sym, subst}
use Rattle.sc_node_table.specs.Values.{Ballot, Draw, OrderLine, Mail, MailBody, Request, Prepare, Accept, Learn, Install, TxPrepare, TxWatch, Node, Client, Input, Got}
use Rattle.sc_actor.specs.declared.rows.Input.TheVariants.{Tick, Go as GoInput, Told as ToldInput}
use Rattle.sc_client_table.specs.table.TableDefinitions.{table}
use Rattle.sc_node_table.specs.NodeDefinitions.{NodeState, replica_of, group_of_mail, with_made, unknown, may_come, taken_by, routed, on_mail, group_of_order, ordered_of, ReplicaState, name_of, last_slot, made_by, slots_ahead}
use Rattle.sc_words.proofs.PaxosProofs.PaxosLemmas.{Each-weaker}
use Rattle.sc_law_walks.proofs.WalkLemmas.{either_way}
use Rattle.sc_meaning.specs.sound.SoundDefinitions.{Player, player_table}
use Rattle.sc_live_journals.proofs.MailProofs.MailLemmas.{IsRequestOf, clients_ask}
use Rattle.sc_live_answers.proofs.BallotsProofs.Refusals.{IsSaid, AreSaid, mailed_keeps, order_keeps, made_keeps}
use Rattle.sc_live_journals.proofs.RowsProofs.OwnGroupMail.{Refuses}

module _ (may : Draw → ℕ → Ballot → Type 0) where
  unknown_said : (from : ℕ) (body : MailBody) (node : NodeState) → AreSaid may (unknown from body node).1
  unknown_said from (Install group slot base sets) node =
      either_way (λ (step : NodeState × List Mail). AreSaid may step.1) (not (eqb (length sets) slots_ahead) || nat_lt last_slot slot) (node, []) (with_made (made_by node.me from group slot base sets) node) tt (made_keeps may node.me from group slot base sets).1
  unknown_said from (Request group client seq op) node = (tt, tt)
  unknown_said from (Prepare group ballot from_slot) node = (tt, tt)
  unknown_said from (Accept group ballot slot command) node = (tt, tt)
  unknown_said from (Learn group slot command) node = (tt, tt)
  unknown_said from (TxPrepare tx offer) node = (tt, tt)
  unknown_said from (TxWatch tx watch) node = (tt, tt)
  unknown_said from _ node = tt

  -- what a replica of a node may refuse
  abbrev pub MayRefuse : NodeState → ℕ → MailBody → Type 0
  MayRefuse node from body = (group : Draw) (r : ReplicaState) → group_of_mail body ≡ Some group → replica_of group node.replicas ≡ Some r → Refuses r.acceptor body → may (name_of r) from r.acceptor.promised

  taken_said : (o : Option ReplicaState) (group : Draw) (from : ℕ) (body : MailBody) (node : NodeState) → ((r : ReplicaState) → o ≡ Some r → Refuses r.acceptor body → may (name_of r) from r.acceptor.promised) → AreSaid may (taken_by o group from body node).1
  taken_said None group from body node q = unknown_said from body node
  taken_said (Some r) group from body node q = (mailed_keeps may (name_of r) from body (r, []) (q r refl) (refl, tt)).1

  routed_said : (o : Option Draw) (from : ℕ) (body : MailBody) (node : NodeState) → group_of_mail body ≡ o → MayRefuse node from body → AreSaid may (routed o from body node).1
  routed_said None from body node e q = tt
  routed_said (Some group) from body node e q = taken_said (replica_of group node.replicas) group from body node (λ r here. q group r e here)

  mail_said : (from : ℕ) (body : MailBody) (node : NodeState) → MayRefuse node from body → AreSaid may (on_mail from body node).1
  mail_said from body node q = either_way (λ (step : NodeState × List Mail). AreSaid may step.1) (may_come from body) (routed (group_of_mail body) from body node) (node, []) (routed_said (group_of_mail body) from body node refl q) tt

  ordered_said : (o : Option ReplicaState) (line : OrderLine) (node : NodeState) → AreSaid may (ordered_of o line node).1
  ordered_said None line node = (tt, tt)
  ordered_said (Some r) line node = (order_keeps may (name_of r) node.draws line (r, []) (refl, tt)).1

  pub input_said : (player : Player) (input : Input Mail OrderLine) → (input ≡ Tick → ⊥) → ((node : NodeState) (mail : Mail) → player ≡ Node node → input ≡ Got mail → MayRefuse node mail.from mail.body) → AreSaid may (player_table player input).1
  input_said (Node node) (Got mail) calm q = mail_said mail.from mail.body node (q node mail refl refl)
  input_said (Node node) Tick calm q = absurd (calm refl)
  input_said (Node node) (ToldInput line) calm q = ordered_said (replica_of (group_of_order line.order) node.replicas) line node
  input_said (Node node) GoInput calm q = tt
  input_said (Client client) input calm q =
      Each-weaker (IsRequestOf client.me) (IsSaid may) (λ mail a. subst (IsSaid may) (sym a.3) tt) (table client input).1 (clients_ask client.me client input refl).1
