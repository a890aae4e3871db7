-- Of what a replica says again or refuses: an entry that it holds was chosen, what it has in flight was offered, and what it answers where it takes no request names no entry.
use Rattle.std.proofs.Common.{◌≡◌, ℕ, ◌+◌, ◌-◌, ◌<◌, ◌&&◌, not, nat_lt, eqb, List, drop, Option, Some, None, sym, ◌∙◌, ap, subst, arith}
use Rattle.std.specs.Prelude.{slice_get}
use Rattle.std.proofs.lemmas.Bool.{eqb-true, ltb-true, cond_both}
use Rattle.std.proofs.lemmas.Option.{slice_get_within}
use Rattle.sc_base.specs.Definitions.{Among}
use Rattle.sc_node_table.specs.Values.{Op, Route, Command, Base, AnswerBody, Flight}
use Rattle.sc_words.specs.ideal.IdealDefinitions.{key_of, holds_key}
use Rattle.sc_mail.specs.declared.bodies.AnswerBody.TheVariants as Says
use Rattle.sc_words.specs.paxos.PaxosDefinitions.{entry_at, flight_at}
use Rattle.sc_words.proofs.PaxosProofs.PaxosLemmas.{Each-among, find_found}
use Rattle.sc_paxos_law.specs.PaxosLawDefinitions.{Offered}
use Rattle.sc_paxos_law.proofs.Lemmas.{chosen_by, earlier}
use Rattle.sc_node_table.specs.NodeDefinitions.{ReplicaState, flying, admits_requests, refused_at}
use Rattle.sc_meaning.specs.sound.SoundDefinitions.{Ahead}
use Rattle.sc_law_groups.proofs.GroupProofs.Growth.{IsLearnt}
use Rattle.sc_law_groups.proofs.GroupProofs.Invariant.{Steps, rule, IsReplica, IsTrueAnswer}
use Rattle.sc_law_groups.proofs.GroupProofs.WithoutOne.{flying_found}
use Rattle.sc_law_groups.proofs.GroupProofs.ForgottenEntries.{get_dropped}

module _ (ahead : Ahead) (base : Base) (made : Command → Type 0) (me : ℕ) where
  abbrev Replica : Steps → ReplicaState → Type 0
  Replica h r = IsReplica ahead base made h me r

  held_at : (low slot : ℕ) (whole : List Command) → low < slot → slice_get whole (slot - 1) ≡ slice_get (drop low whole) (slot - low - 1)
  held_at low slot whole lt = (let same : slot - 1 ≡ low + (slot - low - 1) = omega (arith, lt) in ap (slice_get whole) same ∙ sym (get_dropped low whole (slot - low - 1)))

  -- an entry that is held was chosen
  pub entry_learnt : (h : Steps) (slot : ℕ) (r : ReplicaState) (c : Command) → Replica h r → entry_at slot r.log ≡ Some c → IsLearnt (rule ahead base) h slot c
  entry_learnt h slot r c k e =
      cond_both (nat_lt r.log.base slot) (slice_get r.log.entries (slot - r.log.base - 1)) None (λ (o : Option Command). o ≡ Some c → IsLearnt (rule ahead base) h slot c)
      (λ lt at. (
      let less = ltb-true r.log.base slot lt in
      let place = slot - 1 in
      let here : slice_get k.whole place ≡ Some c = held_at r.log.base slot k.whole less ∙ ap (λ es. slice_get es (slot - r.log.base - 1)) (sym k.log_is.entries_are) ∙ at in
      let within = slice_get_within k.whole place c here in
      let same : place + 1 ≡ slot = omega (arith, less) in
      let early = earlier (rule ahead base) place in
      subst (λ n. IsLearnt (rule ahead base) h n c) same
      (record { log = k.whole; is_log = k.log_is.is_log; chosen = record { known = omega (arith, within, early); chosen = chosen_by (rule ahead base) h k.whole place c (k.log_is.is_log place c here) } })))
      (λ _ at. cc) e

  -- what is in flight was offered
  pub flying_offered : (h : Steps) (slot : ℕ) (r : ReplicaState) (c : Command) → Replica h r → flying r slot ≡ Some c → Among (Offered r.leader.ballot slot c) h
  flying_offered h slot r c k e =
      let got = flying_found slot (flight_at slot r.leader.flights) c e in
      let there = find_found (λ (flight : Flight Command). eqb flight.slot slot) r.leader.flights got.0 got.1 in
      let offer = (Each-among _ r.leader.flights got.0 k.flights there.0).0 in
      subst (λ v. Among (Offered r.leader.ballot slot v) h) got.2 (subst (λ n. Among (Offered r.leader.ballot n got.0.value) h) (eqb-true got.0.slot slot there.1) offer)

  -- what refuses a request says nothing of an entry
  pub refused_dull : (gone : Option Route) (op : Op) (r : ReplicaState) (answer : AnswerBody) → refused_at gone op r ≡ Some answer → (h : Steps) (to seq : ℕ) → IsTrueAnswer ahead base h to seq answer
  refused_dull (Some into) op r answer e h to seq = let same : Says.Gone into ≡ answer = cc in subst (IsTrueAnswer ahead base h to seq) same tt
  refused_dull None op r answer e h to seq =
      cond_both (not r.running) (Some (Says.NotLeader r.hint)) _ (λ o. o ≡ Some answer → IsTrueAnswer ahead base h to seq answer)
      (λ _ k. (let same : Says.NotLeader r.hint ≡ answer = cc in subst (IsTrueAnswer ahead base h to seq) same tt))
      (λ _ k. cond_both (admits_requests r.group.core.lock && not (holds_key r.group.core.arc (key_of op))) (Some (Says.NotMine r.group.core.arc r.group.core.succ)) None
      (λ o. o ≡ Some answer → IsTrueAnswer ahead base h to seq answer)
      (λ _ j. (let same : Says.NotMine r.group.core.arc r.group.core.succ ≡ answer = cc in subst (IsTrueAnswer ahead base h to seq) same tt)) (λ _ j. cc) k) e
