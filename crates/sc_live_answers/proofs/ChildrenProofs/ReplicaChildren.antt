-- A replica along its group's log makes the child of each entry that it executes.
use Rattle.std.proofs.Common.{◌≡◌, ℕ, ◌+◌, ◌-◌, ◌<◌, ◌≤◌, eqb, nat_lt, Bool, true, false, true≢false, List, [], ◌∷◌, ◌++◌, length, take, Option, Some, None, inl, inr, refl, sym, ◌∙◌, ap, subst, arith}
use Rattle.std.proofs.lemmas.Bool.{cases_eq, cond_both, cond-true, eq-eqb, ltb-true}
use Rattle.std.proofs.lemmas.List.{length_push}
use Rattle.sc_base.specs.Definitions.{Among, Each, IsRoster, is_member}
use Rattle.sc_node_table.specs.Values.{Ballot, Command, Base, Mail}
use Rattle.sc_group_table.specs.machine.MachineDefinitions.{child_by, Group, group_of, state_after, applied}
use Rattle.sc_words.specs.paxos.PaxosDefinitions.{without_flight_at, counted}
use Rattle.sc_words.proofs.PaxosProofs.PaxosLemmas.{Each-among}
use Rattle.sc_paxos_law.specs.PaxosLawDefinitions.{IsLog, IsLawfulHistory, Accepted}
use Rattle.sc_paxos_law.proofs.Lemmas.{Among-left, Among-right, earlier, longer_log}
use Rattle.sc_node_table.specs.NodeDefinitions.{ended, entered, learnt_to, welcomed, landed, left, looked, child_at, executed_one, next_child, next_ready, ending, all_ready, executed_ready, executed, ReplicaState, Place, Executed, childless, name_of, next, members, last_slot, learn_row, slots_ahead, without_slot, before_of, spoken, accepted_row}
use Rattle.sc_meaning.specs.sound.SoundDefinitions.{Ahead}
use Rattle.sc_law_groups.proofs.GroupProofs.GroupLemmas.{IsLearnt, by_own_log, Steps, rule, first, IsFlying}
use Rattle.sc_live_steps.specs.following.FollowingDefinitions.{AreAt}
use Rattle.sc_live_steps.proofs.FollowingProofs.FollowingLemmas.{taught_state, landed_is, entered_keeps, ends, announced_keeps, spoken_same}
use Rattle.sc_live_journals.proofs.LogsProofs.GroupLogLemmas.{at, IsAlong, is_next, next_ready_is, one_past}
use Rattle.sc_live_answers.proofs.ReplicasProofs.Pumps.{pump_next}
use Rattle.sc_live_answers.specs.AnswerDefinitions.{IsBirth}
use Rattle.sc_live_answers.proofs.LedGroupsProofs.VoteEntries.{past_next, vote_executes}

-- the last of two lists that go on the same
same_last : (xs : List Command) (c d : Command) → xs ++ c ∷ [] ≡ xs ++ d ∷ [] → c ≡ d
same_last [] c d e = cc
same_last (x ∷ xs) c d e = same_last xs c d (let rest : xs ++ c ∷ [] ≡ xs ++ d ∷ [] = cc in rest)

apart : (a b : ℕ) → a < b → b ≤ a → ⊥
apart a b lt le = omega (arith, lt, le)

-- some steps of a group, and a node
module _ (ahead : Ahead) (open_slots : ahead.slots ≡ slots_ahead) (base : Base) (roster : IsRoster base.core.members) (h : Steps) (lawful : IsLawfulHistory (rule ahead base) (first ahead base) h) (all : List Command)
    (prefixes : (log : List Command) → IsLog (rule ahead base) h log → (length log ≤ length all) × (take (length log) all ≡ log)) (me : ℕ) where
  abbrev Along : ReplicaState → Type 0
  Along r = IsAlong ahead open_slots base roster h lawful all prefixes r

  -- the node makes the child of each entry from one on that is executed
  abbrev Creates : ℕ → Executed → Type 0
  Creates from step = (slot : ℕ) (child : Base) → from ≤ slot → slot < next step.0.0 → IsBirth all base slot child → is_member child.core.members me ≡ true → Among child step.1

  -- ---- one entry

  module _ (c : Command) (r : ReplicaState) (k : IsAlong ahead open_slots base roster h lawful all prefixes r) (t : IsLearnt (rule ahead base) h (next r) c) (child : Base) (b : IsBirth all base (next r) child) where
    prefix_is : b.prefix ≡ k.whole
    prefix_is =
        let next_is = k.next_is in
        let same : next r - 1 ≡ length k.whole = omega (arith, next_is) in
        sym b.before ∙ (ap (λ n. take n all) same ∙ (prefixes k.whole k.is_log).1)

    upto_is : take (next r) all ≡ k.whole ++ c ∷ []
    upto_is =
        let longer : IsLog (rule ahead base) h (k.whole ++ c ∷ []) = longer_log (rule ahead base) h k.whole c k.is_log
        (by_own_log (rule ahead base) (first ahead base) h lawful (length k.whole + 1) c (subst (λ n. IsLearnt (rule ahead base) h n c) k.next_is t) k.whole k.is_log (earlier (rule ahead base) (length k.whole))) in
        let next_is = k.next_is in
        let len = length_push k.whole c in
        let same : next r ≡ length (k.whole ++ c ∷ []) = omega (arith, next_is, len) in
        ap (λ n. take n all) same ∙ (prefixes (k.whole ++ c ∷ []) longer).1

    command_is : b.command ≡ c
    command_is = same_last k.whole b.command c (sym (ap (λ xs. xs ++ b.command ∷ []) prefix_is) ∙ (sym b.upto ∙ upto_is))

    child_there : child_by r.group c ≡ Some child
    child_there =
        ap (λ (g : Group). child_by g c) (k.group_is ∙ ap (state_after (group_of base)) (sym prefix_is)) ∙ (ap (λ d. child_by (state_after (group_of base) b.prefix) d) (sym command_is) ∙ b.child_is)

  born_here : (c : Command) (r : ReplicaState) → Along r → r.me ≡ me → IsLearnt (rule ahead base) h (next r) c → (child : Base) → IsBirth all base (next r) child → is_member child.core.members me ≡ true → Among child (next_child c r)
  born_here c r k mine t child b member =
      subst (λ o. Among child (child_at r.me o)) (sym (child_there c r k t child b))
      (subst (Among child) (sym (cond-true (is_member child.core.members r.me) (child ∷ []) [] (ap (is_member child.core.members) mine ∙ member))) (inl refl))

  -- ---- an entry leaves whose it is

  module _ (c : Command) (r : ReplicaState) (k : IsAlong ahead open_slots base roster h lawful all prefixes r) (runs : r.running ≡ true) (t : IsLearnt (rule ahead base) h (next r) c) where
    past_me : (acts backlog : List Command) (more : List Mail)
        → (looked (left (landed true (next r) c (welcomed true (members r) (learnt_to true (members r) (next r) c (record (entered c r) { acts = acts; backlog = backlog }, more)))))).0.me ≡ r.me
    unfolding ended
    past_me acts backlog more =
        let here : ReplicaState = record (entered c r) { acts = acts; backlog = backlog } in
        let reported : Place = welcomed true (members r) (learnt_to true (members r) (next r) c (here, more)) in
        let over : ReplicaState = record here { leader = without_flight_at (next r) here.leader; ready = without_slot here.ready (next r) } in
        let landed_there : landed true (next r) c reported ≡ (over, reported.1) =
        ap (λ (q : ReplicaState). landed true (next r) c (q, reported.1)) (taught_state (members r) (next r) c here more) ∙ landed_is (next r) c here reported.1 in
        subst (λ (p : Place). (looked (left p)).0.me ≡ r.me) (sym landed_there)
        (ends (λ (p : Place). p.0.me ≡ r.me) over reported.1 ((entered_keeps c r).0 ∙ runs) (is_next ahead open_slots base roster h lawful all prefixes c r k t).roster
        (λ stands stays. (entered_keeps c r).3) (λ why hint answer. (entered_keeps c r).3))

    one_me : (mails : List Mail) → (executed_one true c (r, mails)).0.me ≡ r.me
    unfolding executed_one
    one_me mails =
        announced_keeps (name_of r)
        (λ place. (looked (left (landed true (next r) c (welcomed true (members r) (learnt_to true (members r) (next r) c (spoken true (before_of r.group.core) (applied r.group c).1 c place)))))).0.me ≡ r.me) (entered c r) mails
        (λ acts backlog more same.
        let q : ReplicaState = record (entered c r) { acts = acts; backlog = backlog } in
        let said : Place = spoken true (before_of r.group.core) (applied r.group c).1 c (q, more) in
        subst (λ (x : ReplicaState). (looked (left (landed true (next r) c (welcomed true (members r) (learnt_to true (members r) (next r) c (x, said.1)))))).0.me ≡ r.me)
        (sym (spoken_same (name_of r) 0 (before_of r.group.core) (applied r.group c).1 c q more).0) (past_me acts backlog said.1))
        (applied r.group c).1 c

  -- ---- what is ready

  step_creates : (c : Command) (place : Place) (es : List (ℕ × Command)) → Along place.0 → place.0.me ≡ me → IsLearnt (rule ahead base) h (next place.0) c → next (executed_one true c place).0 ≡ next place.0 + 1
      → Creates (next (executed_one true c place).0) (executed_ready es (executed_one true c place)) → Creates (next place.0) (ending (next_child c place.0) (executed_ready es (executed_one true c place)))
  step_creates c place es k mine t up rest slot child least most b member = elim (cases_eq slot (next place.0)) [
    | inl fact ↦ Among-left child (next_child c place.0) (executed_ready es (executed_one true c place)).1 (born_here c place.0 k mine t child (subst (λ n. IsBirth all base n child) fact b) member)
    | inr ne ↦ Among-right child (next_child c place.0) (executed_ready es (executed_one true c place)).1
        (rest slot child (past_next slot (next place.0) (next (executed_one true c place).0) up least ne) (let still = pump_next (executed_ready es (executed_one true c place)).0 in omega (arith, most, still)) b member)
  ]

  ready_creates : (es : List (ℕ × Command)) (place : Place) → Along place.0 → place.0.me ≡ me → Creates (next place.0) (executed_ready es place)
  unfolding executed_ready
  ready_creates [] place k mine = λ slot child least most. absurd (omega (arith, least, most))
  ready_creates (e ∷ es) place k mine = by (λ p a b. ready_creates es p a b) (next_ready place.0) refl
    where
      by : ((p : Place) → Along p.0 → p.0.me ≡ me → Creates (next p.0) (executed_ready es p)) → (o : Option Command) → next_ready place.0 ≡ o
          → Creates (next place.0) (elim o as (λ _. Executed) [ None ↦ childless place | Some command ↦ ending (next_child command place.0) (executed_ready es (executed_one true command place)) ])
      by rest None fact = λ slot child least most. absurd (omega (arith, least, most))
      by rest (Some c) fact =
          let there = next_ready_is place.0 c fact in
          let t = Each-among (λ e. IsLearnt (rule ahead base) h e.0 e.1) place.0.ready (next place.0, c) k.ready there.0 in
          let past = one_past ahead open_slots base roster h lawful all prefixes c place.0 k there.1 t place.1 in
          step_creates c place es k mine t past.1 (rest (executed_one true c place) past.0 (one_me c place.0 k there.1 t place.1 ∙ mine))

  executed_creates : (c : Command) (place : Place) → Along place.0 → place.0.me ≡ me → place.0.running ≡ true → IsLearnt (rule ahead base) h (next place.0) c → Creates (next place.0) (executed true c place)
  unfolding executed
  executed_creates c place k mine runs t =
      let past = one_past ahead open_slots base roster h lawful all prefixes c place.0 k runs t place.1 in
      let mid : Place = executed_one true c place in
      step_creates c place mid.0.ready k mine t past.1 (ready_creates mid.0.ready mid past.0 (one_me c place.0 k runs t place.1 ∙ mine))

  -- ---- the entry that it learns

  learnt_creates : (counted : Bool) (c : Command) (r : ReplicaState) (child : Base) → Among child (next_child c r) → Among child (executed counted c (r, [])).1
  unfolding executed
  learnt_creates counted c r child a = Among-left child (next_child c r) (all_ready (executed_one counted c (r, []))).1 a

  pub learn_creates : (from slot : ℕ) (c : Command) (r : ReplicaState) → Along r → r.me ≡ me → IsLearnt (rule ahead base) h slot c → slot ≡ next r → slot ≤ last_slot → (child : Base) → IsBirth all base slot child → is_member child.core.members me ≡ true
      → Among child (learn_row from slot c (r, [])).1
  unfolding learn_row
  learn_creates from slot c r k mine t at low child b member =
      cond_both (nat_lt last_slot slot) _ _ (λ (step : Executed). Among child step.1) (λ late. absurd (no_later late))
      (λ _. cond_both (eqb slot (next r)) _ _ (λ (step : Executed). Among child step.1)
      (λ _. learnt_creates false c r child (born_here c r k mine (subst (λ n. IsLearnt (rule ahead base) h n c) at t) child (subst (λ n. IsBirth all base n child) at b) member))
      (λ no. absurd (true≢false (sym (eq-eqb slot (next r) at) ∙ no))))
    where
      no_later : nat_lt last_slot slot ≡ true → ⊥
      no_later e = apart last_slot slot (ltb-true last_slot slot e) low

  -- ---- a vote

  module _ (r : ReplicaState) (k : IsAlong ahead open_slots base roster h lawful all prefixes r) (mine : r.me ≡ me) (runs : r.running ≡ true)
      (opens : AreAt (at ahead open_slots base roster h lawful all prefixes) (next r) r.sets) (flying : Each (IsFlying ahead base h r.leader.ballot) r.leader.flights)
      (from : ℕ) (ballot : Ballot) (slot : ℕ) (d : Command) (did : Among (Accepted from ballot slot d) h) where
    pub vote_creates : Creates (next r) (accepted_row from ballot slot (r, []))
    vote_creates =
        vote_executes ahead open_slots base roster h lawful all prefixes r k opens flying from ballot slot d did (Creates (next r)) (λ step fact other child least most. absurd (omega (arith, least, most, fact)))
        (λ c leader ready along t. executed_creates c (record r { leader = leader; ready = ready }, []) along mine runs t)
