-- A pump raises nothing: what is offered was owed while it waited.
use Rattle.std.proofs.Common.{◌≡◌, ℕ, ◌+◌, ◌-◌, ◌≤◌, Bool, true, false, cond, List, [], length, sum_by, Option, Some, None, sym, ◌∙◌, ap, arith}
use Rattle.std.proofs.lemmas.List.Sums.{sum_by_push, sum_by-cons}
use Rattle.sc_node_table.specs.Values.{Draw, Op, Command, Noop, Call, Core, Route, AnswerBody, Mail, Accept, Answer, Flight}
use Rattle.sc_words.specs.ideal.IdealDefinitions.{key_of, holds_key}
use Rattle.sc_mail.specs.declared.bodies.AnswerBody.TheVariants as Says
use Rattle.sc_words.specs.declared.paxos.answers.Must.TheVariants.{Value, Gap, Free as Open}
use Rattle.sc_base.specs.Definitions.{client_actor}
use Rattle.sc_node_table.specs.NodeDefinitions.{answered, refused_by, turned_down, offered, pumped, ReplicaState, Place, name_of, next}
use Rattle.sc_words.proofs.PaxosProofs.PaxosLemmas.{Each-among}
use Rattle.sc_paxos_law.proofs.Lemmas.{place_among}
use Rattle.sc_law_walks.proofs.WalkLemmas.{IsOpenOffer, offer_still, TableOffers, pump_keeps}
use Rattle.sc_live_steps.specs.calm.CalmDefinitions.{IsUnbound, AreNines, Ways, command_owes, offered_owes, answer_owes, mail_owes, place_owes}
use Rattle.sc_live_steps.proofs.CalmStepsProofs.PotentialSums.{command_most, sent_owes, all_owe}

module _ (ways : Ways) where
  -- ---- what is found in the queues

  refused_owes : (gone : Option Route) (core : Core) (op : Op) (answer : AnswerBody) (group : Draw) → refused_by gone core op ≡ Some answer → answer_owes ways group answer ≤ 27
  refused_owes (Some into) core op answer group e =
      let same : Says.Gone into ≡ answer = cc in
      let owes = ap (answer_owes ways group) same in
      omega (arith, owes)
  refused_owes None core op answer group e = by (holds_key core.arc (key_of op)) e
    where
      by : (b : Bool) → ◌≡◌ {A = Option AnswerBody} (cond b None (Some (Says.NotMine core.arc core.succ))) (Some answer) → answer_owes ways group answer ≤ 27
      by true fact = cc
      by false fact =
          let same : Says.NotMine core.arc core.succ ≡ answer = cc in
          let owes = ap (answer_owes ways group) same in
          omega (arith, owes)

  -- a call that is turned down owed its answer
  turned_owes : (me : ℕ) (core : Core) (command : Command) (answer : AnswerBody) (mails : List Mail) → turned_down core command ≡ Some answer →
      sum_by (mail_owes ways) (answered me core.id answer command mails) ≤ sum_by (mail_owes ways) mails + command_owes ways.most command
  unfolding answered
  turned_owes me core (Call client seq op) answer mails e =
      let le = refused_owes core.gone core op answer core.id e in
      let one = sent_owes ways me (client_actor client) (Answer core.id seq answer) mails in
      omega (arith, le, one)
  turned_owes me core Noop answer mails e = cc
  turned_owes me core _ answer mails e = cc

  -- ---- what is offered

  offering : (slot : ℕ) (set : List ℕ) (command : Command) (r : ReplicaState) (mails : List Mail) → length set ≤ 9 → place_owes ways (offered slot set command (r, mails)) ≤ place_owes ways (r, mails) + command_owes ways.most command
  unfolding offered
  offering slot set command r mails few =
      let flight : Flight Command = record { slot = slot; value = command; voters = None } in
      let one = sum_by_push (λ (f : Flight Command). offered_owes ways.most f.value) r.leader.flights flight in
      let all = all_owe ways r.me (Accept (name_of r) r.leader.ballot slot command) 2 (λ node. omega arith) set mails in
      let least = command_most ways.most command in
      omega (arith, one, all, least, few)

  -- ---- the pump

  abbrev Owes : ℕ → Place → Type 0
  Owes most place = (place_owes ways place ≤ most) × IsUnbound place.0 × AreNines place.0.sets

  -- what is offered leaves what binds the leader, and who decides the open slots
  still : (slot : ℕ) (set : List ℕ) (command : Command) (r : ReplicaState) (mails : List Mail) → IsUnbound r → AreNines r.sets → IsUnbound (offered slot set command (r, mails)).0 × AreNines (offered slot set command (r, mails)).0.sets
  unfolding offered
  still slot set command r mails unbound few = (unbound, few)

  -- one that waited, and waits no more
  offers_one : (most slot : ℕ) (set : List ℕ) (command : Command) (r : ReplicaState) (mails : List Mail) → IsOpenOffer slot set command r → place_owes ways (r, mails) + command_owes ways.most command ≤ most → IsUnbound r → AreNines r.sets → Owes most (offered slot set command (r, mails))
  offers_one most slot set command r mails at low unbound few =
      let nine : length set ≤ 9 = Each-among (λ (nodes : List ℕ). length nodes ≤ 9) r.sets set few (place_among r.sets (slot - next r) set at.members_are) in
      let one = offering slot set command r mails nine in
      let after = still slot set command r mails unbound few in
      (omega (arith, one, low), after.0, after.1)

  offers_owe : (most : ℕ) → TableOffers (Owes most)
  offers_owe most = record {
    turned = λ command answer backlog r mails on e no k. (
        let turned = turned_owes r.me r.group.core command answer mails no in
        let s = sum_by-cons (command_owes ways.most) command backlog in
        let same = ap (sum_by (command_owes ways.most)) e in
        let low = k.0 in
        (omega (arith, turned, s, same, low), k.1, k.2));
    offers_value = λ slot set command r mails on at free e k. absurd (let bad : Open ≡ Value command = sym (k.1 slot at.low) ∙ e in cc);
    offers_noop = λ slot set r mails on at free gap k. absurd (let bad : Open ≡ Gap = sym (k.1 slot at.low) ∙ gap in cc);
    offers_act = λ slot set act acts r mails on at free e k. (
        let s = sum_by-cons (command_owes ways.most) act acts in
        let same = ap (sum_by (command_owes ways.most)) e in
        let low = k.0 in
        offers_one most slot set act (record r { acts = acts }) mails (offer_still slot set act r acts r.backlog at) (omega (arith, s, same, low)) k.1 k.2);
    offers_call = λ slot set command backlog r mails on at free e k. (
        let s = sum_by-cons (command_owes ways.most) command backlog in
        let same = ap (sum_by (command_owes ways.most)) e in
        let low = k.0 in
        offers_one most slot set command (record r { backlog = backlog }) mails (offer_still slot set command r r.acts backlog at) (omega (arith, s, same, low)) k.1 k.2);
  }

  pub pump_owes : (place : Place) → IsUnbound place.0 → AreNines place.0.sets → place_owes ways (pumped place) ≤ place_owes ways place
  pump_owes place unbound few = (pump_keeps (Owes (place_owes ways place)) (offers_owe (place_owes ways place)) place (omega arith, unbound, few)).0.0
