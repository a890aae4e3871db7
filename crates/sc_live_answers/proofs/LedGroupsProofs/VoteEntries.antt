-- A vote that a leader counts executes nothing, or the entry of its next slot that its group has learnt.
use Rattle.std.proofs.Common.{◌≡◌, ℕ, ◌+◌, ◌-◌, ◌≤◌, ◌&&◌, eqb, nat_lt, Bool, true, false, cond, List, [], ◌∷◌, length, take, slice_get, Option, Some, None, inl, inr, refl, sym, ◌∙◌, ap, subst, arith}
use Rattle.std.proofs.lemmas.Bool.{cases_lt, cond_both, and_parts, eqb-true}
use Rattle.sc_base.specs.Definitions.{Among, Each, IsRoster}
use Rattle.sc_node_table.specs.Values.{Ballot, Command, Base, Counted, Chosen, NotYet}
use Rattle.sc_words.specs.paxos.PaxosDefinitions.{LeaderState, counted}
use Rattle.sc_paxos_law.specs.PaxosLawDefinitions.{needed, IsLog, IsLawfulHistory, Accepted}
use Rattle.sc_paxos_law.proofs.Lemmas.{earlier}
use Rattle.sc_node_table.specs.NodeDefinitions.{has_room, executed, ReplicaState, Executed, childless, next, set_at, slots_ahead, with_slot, leads, readied, vote_tallied, voted, accepted_row}
use Rattle.sc_meaning.specs.sound.SoundDefinitions.{Ahead}
use Rattle.sc_law_groups.proofs.GroupProofs.GroupLemmas.{IsLearnt, Steps, rule, first, IsFlying}
use Rattle.sc_live_steps.specs.following.FollowingDefinitions.{AreAt}
use Rattle.sc_live_journals.proofs.LogsProofs.GroupLogLemmas.{at, IsAlong, by_log, counted_learnt, each_with_slot}

-- another slot from here on is past the next one
pub past_next : (slot here after : ℕ) → after ≡ here + 1 → here ≤ slot → (slot ≡ here → ⊥) → after ≤ slot
past_next slot here after up least ne = elim (cases_lt here slot) [ inl lt ↦ omega (arith, up, lt) | inr ge ↦ absurd (ne (omega (arith, least, ge))) ]

-- what holds where nothing is executed, and where the entry of the next slot is
module _ (ahead : Ahead) (open_slots : ahead.slots ≡ slots_ahead) (base : Base) (roster : IsRoster base.core.members) (h : Steps) (lawful : IsLawfulHistory (rule ahead base) (first ahead base) h) (all : List Command)
    (prefixes : (log : List Command) → IsLog (rule ahead base) h log → (length log ≤ length all) × (take (length log) all ≡ log)) (r : ReplicaState) (k : IsAlong ahead open_slots base roster h lawful all prefixes r)
    (opens : AreAt (at ahead open_slots base roster h lawful all prefixes) (next r) r.sets) (flying : Each (IsFlying ahead base h r.leader.ballot) r.leader.flights)
    (from : ℕ) (ballot : Ballot) (slot : ℕ) (d : Command) (did : Among (Accepted from ballot slot d) h) (After : Executed → Type 0) (nothing : (step : Executed) → next step.0.0 ≡ next r → After step)
    (executes : (c : Command) (leader : LeaderState Command) (ready : List (ℕ × Command)) → IsAlong ahead open_slots base roster h lawful all prefixes (record r { leader = leader; ready = ready }) → IsLearnt (rule ahead base) h (next r) c → After (executed true c (record r { leader = leader; ready = ready }, []))) where
  -- the members of its next slot
  first_at : (sets : List (List ℕ)) (set : List ℕ) → AreAt (at ahead open_slots base roster h lawful all prefixes) (next r) sets → slice_get sets 0 ≡ Some set → at ahead open_slots base roster h lawful all prefixes (next r) ≡ set
  first_at [] set are e = cc
  first_at (one ∷ sets) set are e = (let fact : one ≡ set = (let both : Some one ≡ Some set = e in cc) in are.0 ∙ fact)

  set_is : (set : List ℕ) → set_at slot r ≡ Some set → slot ≡ next r → at ahead open_slots base roster h lawful all prefixes (next r) ≡ set
  set_is set e there = first_at r.sets set opens (by (nat_lt slot (next r)) (sym (ap (λ n. slice_get r.sets n) (omega (arith, there)))) e)
    where
      by : (b : Bool) → slice_get r.sets 0 ≡ slice_get r.sets (slot - next r) → cond b None (slice_get r.sets (slot - next r)) ≡ Some set → slice_get r.sets 0 ≡ Some set
      by true i j = cc
      by false i j = i ∙ j

  -- a decided slot
  decided : (set : List ℕ) → set_at slot r ≡ Some set → (c : Command) (leader : LeaderState Command) → counted from ballot slot set r.leader ≡ (Chosen c, leader) → After (readied slot c (record r { leader = leader }, []))
  unfolding readied
  decided set open_ c leader chosen =
      let after : ReplicaState = record r { leader = leader; ready = with_slot r.ready slot c } in
      cond_both ((eqb slot (next r)) && has_room r) (executed true c (after, [])) (childless (after, [])) After
      (λ t. next_one (eqb-true slot (next r) (and_parts (eqb slot (next r)) (has_room r) t).0)) (λ _. nothing (childless (after, [])) refl)
    where
      next_one : slot ≡ next r → After (executed true c (record r { leader = leader; ready = with_slot r.ready slot c }, []))
      next_one there =
          let low : needed (rule ahead base) slot ≤ length k.whole = subst (λ n. needed (rule ahead base) n ≤ length k.whole) (sym (there ∙ k.next_is)) (earlier (rule ahead base) (length k.whole)) in
          let members = sym (set_is set open_ there) ∙ (ap (at ahead open_slots base roster h lawful all prefixes) (sym there) ∙ by_log ahead open_slots base roster h lawful all prefixes k.whole k.is_log slot low) in
          let t = counted_learnt ahead base h lawful r.leader flying k.whole k.is_log slot set members low from ballot d did c leader chosen in
          executes c leader (with_slot r.ready slot c)
          (record { whole = k.whole; is_log = k.is_log; next_is = k.next_is; group_is = k.group_is; ready = each_with_slot _ r.ready slot c k.ready t }) (subst (λ n. IsLearnt (rule ahead base) h n c) there t)

  tallied : (set : List ℕ) → set_at slot r ≡ Some set → (p : Counted Command × LeaderState Command) → counted from ballot slot set r.leader ≡ p → After (vote_tallied slot p (r, []))
  tallied set open_ (Chosen c, leader) fact = decided set open_ c leader fact
  tallied set open_ (NotYet count, leader) fact = nothing (childless (record r { leader = leader }, [])) refl

  by_set : (o : Option (List ℕ)) → set_at slot r ≡ o → After (voted from ballot slot o (r, []))
  by_set None e = nothing (childless (r, [])) refl
  by_set (Some set) e = tallied set e (counted from ballot slot set r.leader) refl

  pub vote_executes : After (accepted_row from ballot slot (r, []))
  unfolding accepted_row
  vote_executes = cond_both (leads ballot r) (voted from ballot slot (set_at slot r) (r, [])) (childless (r, [])) After (λ _. by_set (set_at slot r) refl) (λ _. nothing (childless (r, [])) refl)
