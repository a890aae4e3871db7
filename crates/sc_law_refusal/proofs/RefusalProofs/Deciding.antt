-- Until a slot is decided its leader is as it was, and so are the acts that wait.
use Rattle.std.proofs.Common.{◌≡◌, ℕ, Bool, cond, List, [], ◌∷◌, Option, Some, None, refl}
use Rattle.sc_words.specs.paxos.PaxosDefinitions.{LeaderState}
use Rattle.sc_node_table.specs.NodeDefinitions.{install_to, asked_to_promise, welcomed_all, entered, answer_of, answered_or_put_back, order_result, effect_reported, announced, learnt_to, welcomed, sent, sent_others, put_back, ReplicaState, Place, name_of, next, members, forgotten, before_of, spoken}
use Rattle.sc_node_table.specs.Values.{Command, Call, Effect, OrderResult, AnswerBody, Mail, Learn, Prepare}
use Rattle.sc_node_table.specs.declared.Before.{Before}
use Rattle.sc_law_walks.proofs.WalkLemmas.{welcomed_place, either_way}

module _ (leader : LeaderState Command) (acts : List Command) where
  abbrev pub Stays : Place → Type 0
  Stays place = (place.0.leader ≡ leader) × (place.0.acts ≡ acts)

  reported_leads : (answer : Option AnswerBody) (command : Command) (place : Place) → Stays place → Stays (answered_or_put_back answer command place)
  unfolding answered_or_put_back put_back
  reported_leads (Some answer) (Call client seq op) (r, mails) l = l
  reported_leads None (Call client seq op) (r, mails) l = l
  reported_leads (Some answer) _ place l = l
  reported_leads None _ place l = l

  effect_leads : (result : Option OrderResult) (command : Command) (place : Place) → Stays place → Stays (effect_reported result command place)
  unfolding effect_reported
  effect_leads None command place l = l
  effect_leads (Some result) command (r, mails) l = l

  announced_leads : (counted : Bool) (effect : Effect) (command : Command) (place : Place) → Stays place → Stays (announced counted effect command place)
  unfolding announced
  announced_leads counted effect command place l =
      effect_leads (order_result command effect) command (cond counted (answered_or_put_back (answer_of effect) command place) place) (either_way Stays counted (answered_or_put_back (answer_of effect) command place) place (reported_leads (answer_of effect) command place l) l)

  spoken_leads : (counted : Bool) (before : Before) (effect : Effect) (command : Command) (place : Place) → Stays place → Stays (spoken counted before effect command place)
  unfolding spoken
  spoken_leads counted before effect command (r, mails) l = l

  learnt_leads : (counted : Bool) (nodes : List ℕ) (slot : ℕ) (command : Command) (place : Place) → Stays place → Stays (learnt_to counted nodes slot command place)
  unfolding learnt_to
  learnt_leads counted nodes slot command (r, mails) l = either_way Stays counted (r, sent_others r.me nodes (Learn (name_of r) slot command) mails) (r, mails) l l

  welcomed_leads : (nodes : List ℕ) (place : Place) → Stays place → Stays (welcomed_all nodes place)
  unfolding welcomed_all install_to
  welcomed_leads [] place l = l
  welcomed_leads (node ∷ nodes) (r, mails) l =
      welcomed_leads nodes (asked_to_promise node (install_to node (r, mails)))
      (either_way Stays r.leader.is_first (install_to node (r, mails)) (r, sent r.me node (Prepare (name_of r) r.leader.ballot (next r)) (install_to node (r, mails)).1) l l)

pub same_leader : (counted : Bool) (effect : Effect) (command : Command) (r : ReplicaState) (mails : List Mail)
    → Stays r.leader r.acts (welcomed counted (members r) (learnt_to counted (members r) (next r) command (spoken counted (before_of r.group.core) effect command (announced counted effect command (entered command r, mails)))))
unfolding entered forgotten
same_leader counted effect command r mails =
    let place1 : Place = announced counted effect command (entered command r, mails) in
    let place2 : Place = spoken counted (before_of r.group.core) effect command place1 in
    let place3 : Place = learnt_to counted (members r) (next r) command place2 in
    welcomed_place (Stays r.leader r.acts) (welcomed_leads r.leader r.acts) counted (members r) place3
    (learnt_leads r.leader r.acts counted (members r) (next r) command place2 (spoken_leads r.leader r.acts counted (before_of r.group.core) effect command place1 (announced_leads r.leader r.acts counted effect command (entered command r, mails) (refl, refl))))
