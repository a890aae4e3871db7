-- A replica executes the log of its group while a row lasts: what it executes is the next entry of a log of the steps before the row, and what is ready was chosen.
use Rattle.std.proofs.Common.{◌≡◌, ℕ, ◌+◌, ◌≤◌, refl, sym, ◌∙◌, ap, subst, List, [], ◌∷◌, ◌++◌, length, Option, Some, None, arith, eqb}
use Rattle.std.proofs.lemmas.Bool.{cond_both, eqb-true}
use Rattle.std.proofs.lemmas.List.{length_push, drop_all}
use Rattle.sc_base.specs.Definitions.{Among, Each, is_majority, same_ballot}
use Rattle.sc_base.proofs.Lemmas.{ballot_is}
use Rattle.sc_node_table.specs.Values.{Ballot, Draw, Command, Base, Counted, Chosen, Flight}
use Rattle.sc_group_table.specs.machine.MachineDefinitions.{Group, group_of, applied}
use Rattle.sc_words.specs.paxos.PaxosDefinitions.{LeaderState, LogState, flight_at, installed, kept_voters, voters_after, counted, vote_at}
use Rattle.sc_words.proofs.PaxosProofs.PaxosLemmas.{find_found}
use Rattle.sc_paxos_law.specs.PaxosLawDefinitions.{Accepted, needed, members_of, IsLog, IsLawfulHistory}
use Rattle.sc_paxos_law.proofs.Lemmas.{earlier, longer_log}
use Rattle.sc_node_table.specs.NodeDefinitions.{ReplicaState, name_of, next, set_at, entered, with_slot, forgotten, jumped, named, without_slot, floor_of, installed_replica}
use Rattle.sc_law_entries.proofs.HistoryProofs.HistoryLemmas.{state_same}
use Rattle.sc_law_walks.proofs.WalkLemmas.{entry_is}
use Rattle.sc_meaning.specs.sound.SoundDefinitions.{Ahead}
use Rattle.sc_law_groups.proofs.GroupProofs.GroupLemmas.{IsLearnt, by_own_log, Each-without_slot, Steps, rule, first, birth, IsReplica, IsState}
use Rattle.sc_law_groups.proofs.GroupProofs.Invariant.{HasLog, next_is, pushed_has, cut_has}
use Rattle.sc_law_groups.proofs.GroupProofs.ForgottenEntries.{floor_low}
use Rattle.sc_law_groups.proofs.GroupProofs.Counting.{each_with_slot}
use Rattle.sc_law_groups.proofs.GroupProofs.MajorityVotes.{set_is, learnt_here}

module _ (ahead : Ahead) (base : Base) (h : Steps) (lawful : IsLawfulHistory (rule ahead base) (first ahead base) h) where
  abbrev Any : Command → Type 0
  Any command = Unit {0}

  any : (commands : List Command) → Each Any commands
  any [] = tt
  any (command ∷ commands) = (tt, any commands)

  -- what a replica has executed is a log of the steps, and its group is the state after it; what is ready was chosen
  pub record IsLoggedAs (log : LogState Command) (group : Group) (ready : List (ℕ × Command)) : Type 0 where
    pub whole : List Command
    pub log_is : HasLog ahead base Any h whole log group
    pub is_ready : Each (λ e. IsLearnt (rule ahead base) h e.0 e.1) ready

  abbrev pub IsLogged : ReplicaState → Type 0
  IsLogged r = IsLoggedAs r.log r.group r.ready

  pub is_logged : (made : Command → Type 0) (me : ℕ) (r : ReplicaState) → IsReplica ahead base made h me r → IsLogged r
  is_logged made me r k = (let l = k.log_is in record { whole = k.whole; log_is = record { low = l.low; entries_are = l.entries_are; group_is = l.group_is; is_log = l.is_log; all_made = any k.whole }; is_ready = k.ready })

  -- ---- the next entry

  -- the log with the entry that was chosen for its next slot
  pub longer_is : (r : ReplicaState) (command : Command) (k : IsLogged r) → IsLearnt (rule ahead base) h (next r) command → IsLog (rule ahead base) h (k.whole ++ command ∷ [])
  longer_is r command k t =
      let at = next_is ahead base Any h k.whole r.log r.group k.log_is in
      longer_log (rule ahead base) h k.whole command k.log_is.is_log
      (by_own_log (rule ahead base) (first ahead base) h lawful (length k.whole + 1) command (subst (λ n. IsLearnt (rule ahead base) h n command) at t) k.whole k.log_is.is_log (earlier (rule ahead base) (length k.whole)))

  pub enters : (command : Command) (r : ReplicaState) → IsLogged r → IsLearnt (rule ahead base) h (next r) command → IsLogged (entered command r)
  unfolding entered forgotten
  enters command r k t =
      let has = pushed_has ahead base Any h k.whole r.log r.group command k.log_is tt (longer_is r command k t) in
      let at = next_is ahead base Any h k.whole r.log r.group k.log_is in
      let low = floor_low (next r) in
      let longer = length_push k.whole command in
      record {
        whole = k.whole ++ command ∷ [];
        log_is = cut_has ahead base Any h (k.whole ++ command ∷ []) _ _ (floor_of (next r)) (omega (arith, low, at, longer))
            (subst (λ l. HasLog ahead base Any h (k.whole ++ command ∷ []) l (applied r.group command).0) (sym (entry_is command r.log)) has);
        is_ready = k.is_ready;
      }

  pub clears : (slot : ℕ) (r : ReplicaState) (leader : LeaderState Command) → IsLogged r → IsLogged (record r { leader = leader; ready = without_slot r.ready slot })
  clears slot r leader k = record { whole = k.whole; log_is = k.log_is; is_ready = Each-without_slot (λ e. IsLearnt (rule ahead base) h e.0 e.1) r.ready slot k.is_ready }

  -- nothing is ready at one that begins or ends a leadership
  pub unready : (r : ReplicaState) → IsLogged r → IsLoggedAs r.log r.group []
  unready r k = record { whole = k.whole; log_is = k.log_is; is_ready = tt }

  -- what was chosen may be ready
  pub readies_more : (slot : ℕ) (command : Command) (r : ReplicaState) → IsLearnt (rule ahead base) h slot command → IsLogged r → IsLoggedAs r.log r.group (with_slot r.ready slot command)
  readies_more slot command r t k = record { whole = k.whole; log_is = k.log_is; is_ready = each_with_slot (λ e. IsLearnt (rule ahead base) h e.0 e.1) r.ready slot command k.is_ready t }

  -- ---- a state that is taken over

  pub state_has : (made : Command → Type 0) (slot : ℕ) (from : Base) (sets : List (List ℕ)) (t : IsState ahead base made h slot from sets) → HasLog ahead base Any h t.log (installed slot) (group_of from)
  state_has made slot from sets t =
      let count = t.count in
      record { low = omega (arith, count); entries_are = sym (drop_all slot t.log (omega (arith, count))); group_is = t.group_is; is_log = t.is_log; all_made = any t.log }

  -- under the group's name it stays what it is
  state_named : (made : Command → Type 0) (name : Draw) (slot : ℕ) (state : Base) (sets : List (List ℕ)) → name ≡ base.core.id → IsState ahead base made h slot state sets → named name state ≡ state
  state_named made name slot state sets e t = ap (λ d. named d state) (e ∙ sym (ap (λ (g : Group). g.core.id) t.group_is ∙ (state_same (birth ahead base) t.log).0))

  pub jumps : (made : Command → Type 0) (slot : ℕ) (state : Base) (sets : List (List ℕ)) (r : ReplicaState) → name_of r ≡ base.core.id → IsState ahead base made h slot state sets → IsLogged r → IsLogged (jumped slot state sets r)
  unfolding jumped forgotten
  jumps made slot state sets r same t k =
      let count = t.count in
      let low = floor_low slot in
      record {
        whole = t.log;
        log_is = cut_has ahead base Any h t.log _ _ (floor_of slot) (omega (arith, low, count))
            (subst (λ (s : Base). HasLog ahead base Any h t.log (installed slot) (group_of s)) (sym (state_named made (name_of r) slot state sets same t)) (state_has made slot state sets t));
        is_ready = k.is_ready;
      }

  pub makes : (made : Command → Type 0) (me : ℕ) (name : Draw) (slot : ℕ) (state : Base) (sets : List (List ℕ)) → name ≡ base.core.id → IsState ahead base made h slot state sets → IsLogged (installed_replica me slot (named name state) sets)
  unfolding forgotten
  makes made me name slot state sets same t =
      let count = t.count in
      let low = floor_low slot in
      record {
        whole = t.log;
        log_is = cut_has ahead base Any h t.log _ _ (floor_of slot) (omega (arith, low, count))
            (subst (λ (s : Base). HasLog ahead base Any h t.log (installed slot) (group_of s)) (sym (state_named made name slot state sets same t)) (state_has made slot state sets t));
        is_ready = tt;
      }

  -- ---- a vote

  module _ (made : Command → Type 0) (me from slot : ℕ) (set : List ℕ) (r : ReplicaState) (k : IsReplica ahead base made h me r) (d : Command) (did : Among (Accepted from r.leader.ballot slot d) h)
      (fact : set ≡ members_of (rule ahead base) k.whole slot) (known : needed (rule ahead base) slot ≤ length k.whole) where
    abbrev b : Ballot
    b = r.leader.ballot

    abbrev Chooses : Counted Command × LeaderState Command → Type 0
    Chooses p = (command : Command) → p.0 ≡ Chosen command → IsLearnt (rule ahead base) h slot command

    chooses_at : (o : Option (Flight Command)) → flight_at slot r.leader.flights ≡ o → Chooses (vote_at from slot set o r.leader)
    chooses_at None e = λ command f. cc
    chooses_at (Some flight) e =
        let there = find_found (λ (g : Flight Command). eqb g.slot slot) r.leader.flights flight e in
        let at = eqb-true flight.slot slot there.1 in
        cond_both (is_majority set (kept_voters (voters_after set from flight.voters))) _ _ Chooses
        (λ most command f. (let same : flight.value ≡ command = cc in subst (IsLearnt (rule ahead base) h slot) same (learnt_here ahead base made me h lawful from slot set r k d did fact known flight there.0 at most))) (λ _ command f. cc)

  -- a vote that decides its slot is for what was chosen there
  pub vote_chooses : (made : Command → Type 0) (me from slot : ℕ) (ballot : Ballot) (set : List ℕ) (r : ReplicaState) → IsReplica ahead base made h me r → (d : Command) → Among (Accepted from ballot slot d) h → set_at slot r ≡ Some set
      → (command : Command) → (counted from ballot slot set r.leader).0 ≡ Chosen command → IsLearnt (rule ahead base) h slot command
  vote_chooses made me from slot ballot set r k d did e =
      let here = set_is ahead base made h me slot set r k e in
      cond_both (same_ballot ballot r.leader.ballot) _ _ (λ (p : Counted Command × LeaderState Command). (command : Command) → p.0 ≡ Chosen command → IsLearnt (rule ahead base) h slot command)
      (λ t. chooses_at made me from slot set r k d (subst (λ b. Among (Accepted from b slot d) h) (ballot_is ballot r.leader.ballot t) did) here.0 here.1 (flight_at slot r.leader.flights) refl) (λ _ command f. cc)
