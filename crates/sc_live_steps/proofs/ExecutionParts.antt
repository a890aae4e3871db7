-- Parts of an execution keep what holds of a replica: all that is said of an entry, where what waits is nothing to it; where the replica leaves its group, if who stops keeps it; and where it looks for a leader, if who elects itself and who follows another keep it.
use Rattle.std.proofs.Common.{ℕ, not, eqb, Bool, cond, List, [], ◌∷◌, Option, Some, None}
use Rattle.std.specs.List.{filter}
use Rattle.sc_node_table.specs.Values.{Command, Call, Effect, Route, OrderResult, AnswerBody, Mail}
use Rattle.sc_mail.specs.declared.bodies.AnswerBody.TheVariants as Answers
use Rattle.sc_base.specs.Definitions.{is_member, least_of}
use Rattle.sc_node_table.specs.NodeDefinitions.{elected, ended, stopped, answer_of, answered_or_put_back, order_result, effect_reported, announced, learnt_to, welcomed, slot_lost, left_gone, left, is_among, looked_for, looked, install_to, asked_to_promise, welcomed_all, put_back, ReplicaState, Place, members, spoken}
use Rattle.sc_node_table.specs.declared.Before.{Before}
use Rattle.sc_law_walks.proofs.WalkLemmas.{either_way, back_any}

-- what waits is nothing to P: so it is kept by all that is told of an entry, but for the entry itself
module _ (P : ReplicaState → Type 0) (queues : (r : ReplicaState) (acts backlog : List Command) → P r → P (record r { acts = acts; backlog = backlog })) where
  abbrev E : Place → Type 0
  E place = P place.0

  call_reported : (answer : Option AnswerBody) (command : Command) (place : Place) → E place → E (answered_or_put_back answer command place)
  unfolding answered_or_put_back
  call_reported (Some answer) (Call client seq op) (r, mails) p = p
  call_reported None (Call client seq op) (r, mails) p = back_any P queues (Call client seq op) r p
  call_reported (Some answer) _ place p = p
  call_reported None _ place p = p

  effect_recorded : (result : Option OrderResult) (command : Command) (place : Place) → E place → E (effect_reported result command place)
  unfolding effect_reported
  effect_recorded None command place p = p
  effect_recorded (Some result) command (r, mails) p = p

  announces : (counted : Bool) (effect : Effect) (command : Command) (place : Place) → E place → E (announced counted effect command place)
  unfolding announced
  announces counted effect command place p =
      effect_recorded (order_result command effect) command (cond counted (answered_or_put_back (answer_of effect) command place) place)
      (either_way E counted (answered_or_put_back (answer_of effect) command place) place (call_reported (answer_of effect) command place p) p)

  sent_state : (node : ℕ) (place : Place) → E place → E (install_to node place)
  unfolding install_to
  sent_state node (r, mails) p = p

  asks_promise : (node : ℕ) (place : Place) → E place → E (asked_to_promise node place)
  asks_promise node (r, mails) p = either_way E r.leader.is_first (r, mails) _ p p

  all_welcomed : (nodes : List ℕ) (place : Place) → E place → E (welcomed_all nodes place)
  unfolding welcomed_all
  all_welcomed [] place p = p
  all_welcomed (node ∷ nodes) place p = all_welcomed nodes (asked_to_promise node (install_to node place)) (asks_promise node (install_to node place) (sent_state node place p))

  welcomes : (counted : Bool) (before : List ℕ) (place : Place) → E place → E (welcomed counted before place)
  unfolding welcomed
  welcomes counted before (r, mails) p =
      either_way E counted (welcomed_all (filter (λ node. not (is_member before node)) (members r)) (r, mails)) (r, mails) (all_welcomed (filter (λ node. not (is_member before node)) (members r)) (r, mails) p) p

  speaks : (counted : Bool) (before : Before) (effect : Effect) (command : Command) (place : Place) → E place → E (spoken counted before effect command place)
  unfolding spoken
  speaks counted before effect command (r, mails) p = p

  teaches : (counted : Bool) (nodes : List ℕ) (slot : ℕ) (command : Command) (place : Place) → E place → E (learnt_to counted nodes slot command place)
  unfolding learnt_to
  teaches counted nodes slot command (r, mails) p = either_way E counted _ (r, mails) p p

  pub entry_reported : (counted : Bool) (before : Before) (effect : Effect) (nodes : List ℕ) (slot : ℕ) (command : Command) (place : Place) → E place
      → E (welcomed counted nodes (learnt_to counted nodes slot command (spoken counted before effect command (announced counted effect command place))))
  entry_reported counted before effect nodes slot command place p =
      let reported : Place = announced counted effect command place in
      let said : Place = spoken counted before effect command reported in
      welcomes counted nodes (learnt_to counted nodes slot command said) (teaches counted nodes slot command said (speaks counted before effect command reported (announces counted effect command place p)))

  pub slot_lost_kept : (counted : Bool) (command : Command) (o : Option Command) (r : ReplicaState) → P r → P (slot_lost counted command o r)
  slot_lost_kept counted command None r p = p
  slot_lost_kept counted command (Some other) r p = either_way P _ r (put_back other r) p (back_any P queues other r p)

-- what is kept by who stops is kept where a replica leaves its group
module _ (F : Place → Type 0) (ends : (hint : Option ℕ) (answer : AnswerBody) (place : Place) → F place → F (ended hint answer place)) where
  gone_leaves : (gone : Option Route) (place : Place) → F place → F (left_gone gone place)
  gone_leaves (Some into) place p = ends None (Answers.Gone into) place p
  gone_leaves None (r, mails) p = either_way F (is_member (members r) r.me) (r, mails) (stopped (Some (least_of (members r))) (r, mails)) p (ends (Some (least_of (members r))) (Answers.NotLeader (Some (least_of (members r)))) (r, mails) p)

  pub leaving_kept : (place : Place) → F place → F (left place)
  unfolding left
  leaving_kept (r, mails) p = either_way F r.running (left_gone r.group.core.gone (r, mails)) (r, mails) (gone_leaves r.group.core.gone (r, mails) p) p

-- what holds of a replica whatever its hint, and of it elected, holds once it looked for a leader
pub looks_from : (P : Place → Type 0) (r : ReplicaState) (mails : List Mail) → ((hint : Option ℕ) → P (record r { hint = hint }, mails)) → P (elected (record r { hint = Some r.me }, mails)) → P (looked (r, mails))
unfolding looked
looks_from P r mails any mine = either_way P r.running (r, mails) (looked_for r.group.core.gone (r, mails)) (any r.hint) (by_gone r.group.core.gone)
  where
    by_gone : (gone : Option Route) → P (looked_for gone (r, mails))
    by_gone (Some into) = any r.hint
    by_gone None =
        either_way P (is_among (members r) r.hint) (r, mails) _ (any r.hint)
        (either_way P (eqb (least_of (members r)) r.me) (elected (record r { hint = Some r.me }, mails)) (record r { hint = Some (least_of (members r)) }, mails) mine (any (Some (least_of (members r)))))

-- what is kept by who elects itself and who follows is kept where a replica looks for a leader
pub looking_kept : (F : Place → Type 0) → ((place : Place) → F place → F (elected place)) → ((hint : Option ℕ) (r : ReplicaState) (mails : List Mail) → F (r, mails) → F (record r { hint = hint }, mails)) → (place : Place) → F place → F (looked place)
looking_kept F elects follows (r, mails) p = looks_from F r mails (λ hint. follows hint r mails p) (elects (record r { hint = Some r.me }, mails) (follows (Some r.me) r mails p))
