-- By a vote a leader executes nothing of a group that is gone.
use Rattle.std.proofs.Common.{◌≡◌, ℕ, ◌+◌, ◌<◌, ◌≤◌, true, false, List, [], ◌∷◌, length, take, is_some, Option, Some, None, inl, inr, refl, sym, ◌∙◌, ap, arith}
use Rattle.std.proofs.lemmas.Bool.{cases_eq}
use Rattle.sc_base.specs.Definitions.{Among, Each, IsRoster}
use Rattle.sc_node_table.specs.Values.{Ballot, Command, Base}
use Rattle.sc_words.proofs.PaxosProofs.PaxosLemmas.{Each-among}
use Rattle.sc_paxos_law.specs.PaxosLawDefinitions.{IsLog, IsLawfulHistory, Accepted}
use Rattle.sc_node_table.specs.NodeDefinitions.{executed_one, next_child, next_ready, ending, executed_ready, executed, pumped, ReplicaState, Place, Executed, childless, next, slots_ahead, accepted_row}
use Rattle.sc_meaning.specs.sound.SoundDefinitions.{Ahead}
use Rattle.sc_law_groups.proofs.GroupProofs.GroupLemmas.{IsLearnt, Steps, rule, first, IsFlying}
use Rattle.sc_live_steps.specs.following.FollowingDefinitions.{AreAt}
use Rattle.sc_live_journals.proofs.LogsProofs.GroupLogLemmas.{at, IsAlong, next_ready_is, one_past}
use Rattle.sc_live_journals.specs.groups.GroupDefinitions.{Ends}
use Rattle.sc_live_answers.proofs.ReplicasProofs.Pumps.{pump_next}
use Rattle.sc_live_answers.proofs.LedGroupsProofs.VoteEntries.{past_next, vote_executes}

-- some steps of a group, and where it is gone by its log
module _ (ahead : Ahead) (open_slots : ahead.slots ≡ slots_ahead) (base : Base) (roster : IsRoster base.core.members) (h : Steps) (lawful : IsLawfulHistory (rule ahead base) (first ahead base) h) (all : List Command)
    (prefixes : (log : List Command) → IsLog (rule ahead base) h log → (length log ≤ length all) × (take (length log) all ≡ log))
    (over : Ends) (same : (r : ReplicaState) → IsAlong ahead open_slots base roster h lawful all prefixes r → is_some r.group.core.gone ≡ over (next r)) where
  abbrev Along : ReplicaState → Type 0
  Along r = IsAlong ahead open_slots base roster h lawful all prefixes r

  -- it stood at each slot that is executed from one on
  abbrev Stood : ℕ → Place → Type 0
  Stood from place = (slot : ℕ) → from ≤ slot → slot < next place.0 → over slot ≡ false

  -- ---- what is ready

  step_stood : (c : Command) (place : Place) (es : List (ℕ × Command)) → Along place.0 → place.0.group.core.gone ≡ None → next (executed_one true c place).0 ≡ next place.0 + 1
      → Stood (next (executed_one true c place).0) (executed_ready es (executed_one true c place)).0 → Stood (next place.0) (pumped (executed_ready es (executed_one true c place)).0)
  step_stood c place es k stands up rest slot least most = elim (cases_eq slot (next place.0)) [
    | inl fact ↦ ap over fact ∙ (sym (same place.0 k) ∙ ap is_some stands)
    | inr ne ↦ rest slot (past_next slot (next place.0) (next (executed_one true c place).0) up least ne) (let still = pump_next (executed_ready es (executed_one true c place)).0 in omega (arith, most, still))
  ]

  ready_stood : (es : List (ℕ × Command)) (place : Place) → Along place.0 → (place.0.running ≡ true → place.0.group.core.gone ≡ None) → Stood (next place.0) (executed_ready es place).0
  unfolding executed_ready
  ready_stood [] place k stands = λ slot least most. absurd (omega (arith, least, most))
  ready_stood (e ∷ es) place k stands = by (λ p a b. ready_stood es p a b) (next_ready place.0) refl
    where
      by : ((p : Place) → Along p.0 → (p.0.running ≡ true → p.0.group.core.gone ≡ None) → Stood (next p.0) (executed_ready es p).0) → (o : Option Command) → next_ready place.0 ≡ o
          → Stood (next place.0) (elim o as (λ _. Executed) [ None ↦ childless place | Some command ↦ ending (next_child command place.0) (executed_ready es (executed_one true command place)) ]).0
      by rest None fact = λ slot least most. absurd (omega (arith, least, most))
      by rest (Some c) fact =
          let there = next_ready_is place.0 c fact in
          let t = Each-among (λ e. IsLearnt (rule ahead base) h e.0 e.1) place.0.ready (next place.0, c) k.ready there.0 in
          let past = one_past ahead open_slots base roster h lawful all prefixes c place.0 k there.1 t place.1 in
          step_stood c place es k (stands there.1) past.1 (rest (executed_one true c place) past.0 past.2)

  executed_stood : (c : Command) (place : Place) → Along place.0 → place.0.running ≡ true → place.0.group.core.gone ≡ None → IsLearnt (rule ahead base) h (next place.0) c → Stood (next place.0) (executed true c place).0
  unfolding executed
  executed_stood c place k runs stands t =
      let past = one_past ahead open_slots base roster h lawful all prefixes c place.0 k runs t place.1 in
      let mid : Place = executed_one true c place in
      step_stood c place mid.0.ready k stands past.1 (ready_stood mid.0.ready mid past.0 past.2)

  -- ---- a vote

  module _ (r : ReplicaState) (k : IsAlong ahead open_slots base roster h lawful all prefixes r) (runs : r.running ≡ true) (stands : r.group.core.gone ≡ None)
      (opens : AreAt (at ahead open_slots base roster h lawful all prefixes) (next r) r.sets) (flying : Each (IsFlying ahead base h r.leader.ballot) r.leader.flights)
      (from : ℕ) (ballot : Ballot) (slot : ℕ) (d : Command) (did : Among (Accepted from ballot slot d) h) where
    pub vote_stood : Stood (next r) (accepted_row from ballot slot (r, [])).0
    vote_stood =
        vote_executes ahead open_slots base roster h lawful all prefixes r k opens flying from ballot slot d did (λ step. Stood (next r) step.0) (λ step fact other least most. absurd (omega (arith, least, most, fact)))
        (λ c leader ready along t. executed_stood c (record r { leader = leader; ready = ready }, []) along runs stands t)
