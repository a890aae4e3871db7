-- A replica of a group that is not reshaped answers each Accept.
use Rattle.std.proofs.Common.{◌≡◌, ℕ, ◌-◌, ◌&&◌, not, nat_le, Bool, true, false, cond, List, Option, Some, refl, ◌∙◌, ap, subst, arith}
use Rattle.std.proofs.lemmas.Bool.{cond_both, leb-true}
use Rattle.sc_base.specs.Definitions.{Among}
use Rattle.sc_node_table.specs.Values.{Ballot, Draw, Base, Command, Mail, Accepted, Nack, Install, AcceptAnswer}
use Rattle.sc_words.specs.declared.paxos.answers.AcceptAnswer.TheVariants as Votes
use Rattle.sc_words.specs.paxos.PaxosDefinitions.{below, AcceptorState, after_accept, may_accept}
use Rattle.sc_group_table.specs.machine.MachineDefinitions.{base_of}
use Rattle.sc_node_table.specs.NodeDefinitions.{stopped, ended, saw, install_to, sent, ReplicaState, Place, name_of, next, accepted_to, took, accept_row}
use Rattle.sc_law_walks.proofs.WalkLemmas.{either_way}
use Rattle.sc_live_plain.proofs.PlainLemmas.{last_among}
use Rattle.sc_live_healed.specs.HealedDefinitions.{mail_between, IsAnswered, Accepts, Refuses, Installs, IsInBounds}

-- a ballot that is seen leaves what answers an Accept
pub record IsSameVoter (before after : ReplicaState) : Type 0 where
  pub acceptor : after.acceptor ≡ before.acceptor
  pub me : after.me ≡ before.me
  pub name : name_of after ≡ name_of before
  pub next_ : next after ≡ next before

same_voter : (r : ReplicaState) → IsSameVoter r r
same_voter r = record { acceptor = refl; me = refl; name = refl; next_ = refl }

stopped_voter : (hint : Option ℕ) (r : ReplicaState) (mails : List Mail) → IsSameVoter r (stopped hint (r, mails)).0
unfolding ended
stopped_voter hint r mails = record { acceptor = refl; me = refl; name = refl; next_ = refl }

top_voter : (seen top : Ballot) (b : Bool) (r : ReplicaState) → IsSameVoter r (cond b (record r { top = top }) r)
top_voter seen top b r = either_way (λ (x : ReplicaState). IsSameVoter r x) b (record r { top = top }) r (record { acceptor = refl; me = refl; name = refl; next_ = refl }) (same_voter r)

then_voter : (a b c : ReplicaState) → IsSameVoter a b → IsSameVoter b c → IsSameVoter a c
then_voter a b c f g = record { acceptor = g.acceptor ∙ f.acceptor; me = g.me ∙ f.me; name = g.name ∙ f.name; next_ = g.next_ ∙ f.next_ }

seen_voter : (seen : Ballot) (r : ReplicaState) (mails : List Mail) → IsSameVoter r (saw seen (r, mails)).0
unfolding saw
seen_voter seen r mails =
    let top : ReplicaState = cond (below r.top seen) (record r { top = seen }) r in
    let t = top_voter seen seen (below r.top seen) r in
    either_way (λ (p : Place). IsSameVoter r p.0) (r.running && below r.leader.ballot seen) (stopped (Some seen.node) (top, mails)) (top, mails) (then_voter r top (stopped (Some seen.node) (top, mails)).0 t (stopped_voter (Some seen.node) top mails)) t

module _ (base : Base) (from : ℕ) (seen : Ballot) (slot : ℕ) (command : Command) where
  -- the acceptor answers, or the executed state is sent
  took_answers : (r : ReplicaState) (mails : List Mail) → name_of r ≡ base.core.id → IsInBounds r → IsAnswered (took from (record { slot = slot; ballot = seen; value = command }) (r, mails)).1 base r.me from seen slot
  unfolding took install_to
  took_answers r mails name bounds =
      let floor = bounds.floor in
      let near = bounds.near in
      cond_both (nat_le slot r.acceptor.floor) _ _ (λ (p : Place). IsAnswered p.1 base r.me from seen slot)
      (λ low. (let under = leb-true slot r.acceptor.floor low in
      Installs (next r - 1) (base_of r.group) r.sets (omega (arith, under, floor)) (omega (arith, near))
      (subst (λ (n : Draw). Among (mail_between r.me from (Install n (next r - 1) (base_of r.group) r.sets)) (sent r.me from (Install (name_of r) (next r - 1) (base_of r.group) r.sets) mails)) name
      (last_among mails (mail_between r.me from (Install (name_of r) (next r - 1) (base_of r.group) r.sets))))))
      (λ _. cond_both (may_accept r.acceptor seen) (Votes.Accepted, after_accept (record { slot = slot; ballot = seen; value = command }) r.acceptor) (Votes.Ignored r.acceptor.promised, r.acceptor)
      (λ (p : AcceptAnswer × AcceptorState Command). IsAnswered (accepted_to from seen slot p (r, mails)).1 base r.me from seen slot)
      (λ t. Accepts (subst (λ (n : Draw). Among (mail_between r.me from (Accepted n seen slot)) (sent r.me from (Accepted (name_of r) seen slot) mails)) name (last_among mails (mail_between r.me from (Accepted (name_of r) seen slot)))))
      (λ f. Refuses r.acceptor.promised (passed (below seen r.acceptor.promised) f)
      (subst (λ (n : Draw). Among (mail_between r.me from (Nack n r.acceptor.promised)) (sent r.me from (Nack (name_of r) r.acceptor.promised) mails)) name (last_among mails (mail_between r.me from (Nack (name_of r) r.acceptor.promised))))))
    where
      passed : (b : Bool) → not b ≡ false → b ≡ true
      passed true e = refl
      passed false e = cc

  pub accept_answers : (r : ReplicaState) (mails : List Mail) → name_of r ≡ base.core.id → IsInBounds r → IsAnswered (accept_row from seen slot command (r, mails)).1 base r.me from seen slot
  unfolding accept_row
  accept_answers r mails name bounds =
      let place : Place = saw seen (r, mails) in
      let same = seen_voter seen r mails in
      let low = ap (λ (a : AcceptorState Command). a.floor) same.acceptor in
      let up = same.next_ in
      let floor = bounds.floor in
      let near = bounds.near in
      subst (λ me. IsAnswered (took from (record { slot = slot; ballot = seen; value = command }) place).1 base me from seen slot) same.me
      (took_answers place.0 place.1 (same.name ∙ name) (record { floor = omega (arith, low, up, floor); near = omega (arith, up, near) }))
