-- A counted call that its group serves owes its answer alone.
use Rattle.std.proofs.Common.{◌≡◌, ℕ, ◌+◌, ◌≤◌, eqb, ltb, not, Bool, true, false, true≢false, cond, List, length, sum_by, Option, Some, None, refl, sym, ◌∙◌, ap, arith}
use Rattle.std.specs.FinMap.{get}
use Rattle.std.specs.List.{filter}
use Rattle.sc_node_table.specs.Values.{Draw, Noted, Op, Call, Lock, Free, Coordinating, Promised, Watching, Effect, Route, AnswerBody, Mail, Answer}
use Rattle.sc_base.specs.Definitions.{client_actor, is_member}
use Rattle.sc_words.specs.ideal.IdealDefinitions.{key_of, holds_key}
use Rattle.sc_words.specs.declared.commands.effects.Effect.TheVariants as Was
use Rattle.sc_mail.specs.declared.bodies.AnswerBody.TheVariants as Says
use Rattle.sc_group_table.specs.machine.MachineDefinitions.{Group, applied, called, served, served_by_note, done}
use Rattle.sc_node_table.specs.declared.Before.{Before}
use Rattle.sc_node_table.specs.NodeDefinitions.{entered, effect_reported, answered_or_put_back, announced, answer_of, executed_one, admits_requests, ReplicaState, Place, name_of, members, forgotten, before_of, went_on, spoken_mails, spoken}
use Rattle.sc_live_steps.specs.calm.CalmDefinitions.{IsServed, said_place, newcomers, IsCounting, LeadsOn, Ways, answer_owes, mail_owes, place_owes}
use Rattle.sc_live_steps.proofs.CalmStepsProofs.PotentialSums.{sent_owes}
use Rattle.sc_live_steps.proofs.CalmStepsProofs.LearntPotential.{begun_owes}
use Rattle.sc_live_steps.proofs.CalmStepsProofs.CountedPotential.{counted_owes}
use Rattle.sc_live_steps.proofs.CalmStepsProofs.MemberChanges.{among_member, same_new}

-- ---- what the machine makes of it

-- the group keeps its record, and the client gets an answer that ends its request
pub record Serves (group : Group) (step : Group × Effect) : Type 0 where
  pub kept : step.0.core ≡ group.core
  pub answer : AnswerBody
  pub answers : answer_of step.1 ≡ Some answer
  pub ends : (ways : Ways) (name : Draw) → answer_owes ways name answer ≤ 1

serves_done : (group : Group) (client seq : ℕ) (op : Op) → Serves group (done group client seq op)
serves_done group client seq op = record { kept = refl; answer = _; answers = refl; ends = λ ways name. omega arith }

serves_noted : (o : Option Noted) (group : Group) (client seq : ℕ) (op : Op) → Serves group (served_by_note o group client seq op)
serves_noted None group client seq op = serves_done group client seq op
serves_noted (Some noted) group client seq op = by (ltb noted.seq seq) (eqb noted.seq seq)
  where
    by : (b c : Bool) → Serves group (cond b (done group client seq op) (cond c (group, Was.Again noted.reply) (group, Was.Stale noted.seq)))
    by true c = serves_done group client seq op
    by false true = record { kept = refl; answer = Says.Value noted.reply; answers = refl; ends = λ ways name. omega arith }
    by false false = record { kept = refl; answer = Says.Stale noted.seq; answers = refl; ends = λ ways name. omega arith }

serves_held : (group : Group) (client seq : ℕ) (op : Op) → holds_key group.core.arc (key_of op) ≡ true → Serves group (served group client seq op)
serves_held group client seq op holds = by (holds_key group.core.arc (key_of op)) holds
  where
    by : (b : Bool) → b ≡ true → Serves group (cond b (served_by_note (get group.clients client) group client seq op) (group, Was.NotMine group.core.arc group.core.succ))
    by true e = serves_noted (get group.clients client) group client seq op
    by false e = absurd (true≢false (sym e))

serves_called : (gone : Option Route) (lock : Lock) (group : Group) (client seq : ℕ) (op : Op) → gone ≡ None → admits_requests lock ≡ true → holds_key group.core.arc (key_of op) ≡ true → Serves group (called gone lock group client seq op)
serves_called (Some into) lock group client seq op stands may holds = cc
serves_called None Free group client seq op stands may holds = serves_held group client seq op holds
serves_called None (Watching tx watch) group client seq op stands may holds = serves_held group client seq op holds
serves_called None (Coordinating tx body order heard) group client seq op stands may holds = absurd (true≢false (sym may))
serves_called None (Promised tx offer) group client seq op stands may holds = absurd (true≢false (sym may))

pub call_serves : (client seq : ℕ) (op : Op) (group : Group) → IsServed op group.core → Serves group (applied group (Call client seq op))
call_serves client seq op group fact = serves_called group.core.gone group.core.lock group client seq op fact.stands fact.serves fact.holds

-- the record of the group is what it was
pub call_core : (client seq : ℕ) (op : Op) (r : ReplicaState) → IsServed op r.group.core → (entered (Call client seq op) r).group.core ≡ r.group.core
unfolding entered forgotten
call_core client seq op r fact = (call_serves client seq op r.group fact).kept

call_new : (client seq : ℕ) (op : Op) (r : ReplicaState) → IsServed op r.group.core → length (newcomers (Call client seq op) r) ≡ 0
call_new client seq op r fact =
    ap (λ (xs : List ℕ). length (filter (λ node. not (is_member (members r) node)) xs)) (ap (λ core. core.members) (call_core client seq op r fact))
    ∙ ap length (same_new (members r) (members r) (λ x a. among_member x (members r) a))

-- it leads on
pub call_leads : (client seq : ℕ) (op : Op) (r : ReplicaState) → IsCounting (Call client seq op) r → IsServed op r.group.core → LeadsOn (Call client seq op) r
call_leads client seq op r counting fact =
    let core = call_core client seq op r fact in
    record { counting = counting; stands = ap (λ c. c.gone) core ∙ fact.stands; stays = ap (λ c. is_member c.members r.me) core ∙ counting.mine }

-- ---- what is said

module _ (ways : Ways) where
  announced_call : (effect : Effect) (client seq : ℕ) (op : Op) (r : ReplicaState) (mails : List Mail) (answer : AnswerBody) → answer_of effect ≡ Some answer → answer_owes ways (name_of r) answer ≤ 1 →
      ((announced true effect (Call client seq op) (r, mails)).0 ≡ r) × (sum_by (mail_owes ways) (announced true effect (Call client seq op) (r, mails)).1 ≤ sum_by (mail_owes ways) mails + 1)
  unfolding announced answered_or_put_back effect_reported
  announced_call effect client seq op r mails answer fact ends = by (answer_of effect) fact
    where
      by : (o : Option AnswerBody) → o ≡ Some answer →
          ((effect_reported None (Call client seq op) (answered_or_put_back o (Call client seq op) (r, mails))).0 ≡ r) × (sum_by (mail_owes ways) (effect_reported None (Call client seq op) (answered_or_put_back o (Call client seq op) (r, mails))).1 ≤ sum_by (mail_owes ways) mails + 1)
      by None e = cc
      by (Some other) e =
          let same : other ≡ answer = cc in
          let owes = ap (answer_owes ways (name_of r)) same in
          let one = sent_owes ways r.me (client_actor client) (Answer (name_of r) seq other) mails in
          (refl, omega (arith, one, owes, ends))

  spoken_call : (before : Before) (effect : Effect) (client seq : ℕ) (op : Op) (r : ReplicaState) (mails : List Mail) →
      ((spoken true before effect (Call client seq op) (r, mails)).0 ≡ r) × (sum_by (mail_owes ways) (spoken true before effect (Call client seq op) (r, mails)).1 ≡ sum_by (mail_owes ways) mails)
  unfolding spoken spoken_mails went_on
  spoken_call before effect client seq op r mails = (refl, begun_owes ways r.me before effect (Call client seq op) mails)

  pub call_said : (client seq : ℕ) (op : Op) (r : ReplicaState) (mails : List Mail) → IsServed op r.group.core →
      ((said_place (Call client seq op) (r, mails)).0 ≡ entered (Call client seq op) r) × (sum_by (mail_owes ways) (said_place (Call client seq op) (r, mails)).1 ≤ sum_by (mail_owes ways) mails + 1)
  call_said client seq op r mails fact =
      let effect = (applied r.group (Call client seq op)).1 in
      let s = call_serves client seq op r.group fact in
      let a = announced_call effect client seq op (entered (Call client seq op) r) mails s.answer s.answers (s.ends ways (name_of (entered (Call client seq op) r))) in
      let place1 = announced true effect (Call client seq op) (entered (Call client seq op) r, mails) in
      let b = spoken_call (before_of r.group.core) effect client seq op place1.0 place1.1 in
      let reported = a.1 in
      let same = b.1 in
      (b.0 ∙ a.0, omega (arith, reported, same))

  pub call_owes : (client seq : ℕ) (op : Op) (place : Place) → IsCounting (Call client seq op) place.0 → IsServed op place.0.group.core → place_owes ways (executed_one true (Call client seq op) place) ≤ place_owes ways place
  call_owes client seq op place is_counting fact =
      let said = call_said client seq op place.0 place.1 fact in
      let leads = call_leads client seq op place.0 is_counting fact in
      let none = call_new client seq op place.0 fact in
      counted_owes ways (Call client seq op) place 1 is_counting leads.stands leads.stays said.0 said.1 (omega (arith, none))
