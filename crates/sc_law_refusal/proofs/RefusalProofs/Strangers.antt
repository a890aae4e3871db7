-- A node without a replica of a mail's group: what it answers is to the request that came, and names no leader.
use Rattle.std.proofs.Common.{◌≡◌, ℕ, ◌+◌, ◌-◌, ◌^◌, ◌||◌, not, nat_lt, eqb, List, [], ◌∷◌, length, Option, Some, None, refl, sym, subst}
use Rattle.sc_base.specs.Definitions.{Each, is_member, least_of}
use Rattle.sc_node_table.specs.Values.{Draw, Base, Route, Got, AnswerBody, Mail, MailBody, Request, Prepare, Accept, Learn, Ask, Install, TxPrepare, TxElsewhere, TxWatch}
use Rattle.sc_words.proofs.PaxosProofs.PaxosLemmas.{Each-append}
use Rattle.sc_node_table.specs.NodeDefinitions.{open_nodes, elected, is_among, looked_for, looked, named, sent, NodeState, replica_of, group_of_mail, with_made, unknown, ReplicaState, Place, name_of, next, members, last_slot, installed_replica, looked_up, made_by, slots_ahead}
use Rattle.sc_law_walks.proofs.WalkLemmas.{either_way}
use Rattle.sc_law_refusal.specs.refusal.RefusalDefinitions.{IfAnswer, TurnsAway}
use Rattle.sc_law_refusal.proofs.RefusalProofs.Plain.{IsPlain, plain_has, all_plain}

module _ (node : NodeState) (mail : Mail) (group : Draw) (missing : replica_of group node.replicas ≡ None) where
  abbrev Turned : Mail → Draw → ℕ → AnswerBody → Type 0
  Turned answer other seq says = TurnsAway node (Got mail) answer.to other seq says

  abbrev pub P : Mail → Type 0
  P answer = IfAnswer (Turned answer) answer.body

  plain : (me to : ℕ) (body : MailBody) (mails : List Mail) → IsPlain body → Each P mails → Each P (sent me to body mails)
  plain me to body mails p m = let one : Mail = record { from = me; to = to; body = body } in Each-append P mails (one ∷ []) m (plain_has (Turned one) body p, tt)

  abbrev Sends : Place → Type 0
  Sends place = Each P place.1

  -- ---- a replica that is made by a state that is sent

  elected_sends : (r : ReplicaState) (mails : List Mail) → Each P mails → Sends (elected (r, mails))
  unfolding elected
  elected_sends r mails m =
      either_way Sends (eqb r.top.round (2 ^ 32 - 1)) _ _ m (all_plain (Each P) plain r.me (open_nodes r.sets) (Prepare (name_of r) (record { round = r.top.round + 1; node = r.me }) (next r)) mails tt m)

  for_sends : (gone : Option Route) (r : ReplicaState) (mails : List Mail) → Each P mails → Sends (looked_for gone (r, mails))
  for_sends (Some into) r mails m = m
  for_sends None r mails m =
      either_way Sends (is_among (members r) r.hint) (r, mails) _ m
      (either_way Sends (eqb (least_of (members r)) r.me) (elected (record r { hint = Some r.me }, mails)) (record r { hint = Some (least_of (members r)) }, mails) (elected_sends (record r { hint = Some r.me }) mails m) m)

  looked_sends : (r : ReplicaState) (mails : List Mail) → Each P mails → Sends (looked (r, mails))
  unfolding looked
  looked_sends r mails m = either_way Sends r.running (r, mails) (looked_for r.group.core.gone (r, mails)) m (for_sends r.group.core.gone r mails m)

  made_sends : (me from : ℕ) (group : Draw) (slot : ℕ) (base : Base) (sets : List (List ℕ)) → Sends (made_by me from group slot base sets)
  unfolding made_by looked_up
  made_sends me from group slot base sets =
      let r : ReplicaState = installed_replica me slot (named group base) sets in
      either_way Sends (is_member (members r) from) (record r { hint = Some from }, []) (looked (r, [])) tt (looked_sends r [] tt)

  -- ---- all mail

  abbrev Says : NodeState × List Mail → Type 0
  Says step = Each P step.1

  with_made_says : (place : Place) (node : NodeState) → Sends place → Says (with_made place node)
  with_made_says (r, mails) node m = m

  unknown_as : (body : MailBody) → body ≡ mail.body → group_of_mail body ≡ Some group → Says (unknown mail.from body node)
  unknown_as (Install other slot base sets) e g =
      either_way Says (not (eqb (length sets) slots_ahead) || nat_lt last_slot slot) (node, []) (with_made (made_by node.me mail.from other slot base sets) node) tt (with_made_says (made_by node.me mail.from other slot base sets) node (made_sends node.me mail.from other slot base sets))
  unknown_as (Request other client seq op) e g =
      let same : other ≡ group = cc in
      (record { mail = mail; brought = refl; client = client; op = op; request = sym e; missing = subst (λ (name : Draw). replica_of name node.replicas ≡ None) (sym same) missing; receiver = refl; says = refl }, tt)
  unknown_as (Prepare other ballot from_slot) e g = plain node.me mail.from (Ask other 0) [] tt tt
  unknown_as (Accept other ballot slot command) e g = plain node.me mail.from (Ask other 0) [] tt tt
  unknown_as (Learn other slot command) e g = plain node.me mail.from (Ask other 0) [] tt tt
  unknown_as (TxPrepare tx offer) e g = plain node.me mail.from (TxElsewhere tx offer.coord None) [] tt tt
  unknown_as (TxWatch tx watch) e g = plain node.me mail.from (TxElsewhere tx watch.coord None) [] tt tt
  unknown_as _ e g = tt

  pub unknown_says : group_of_mail mail.body ≡ Some group → Each P (unknown mail.from mail.body node).1
  unknown_says g = unknown_as mail.body refl g
