-- A replica along the log of its group: the members of its slots, and the commands that come next.
use Rattle.std.proofs.Common.{◌≡◌, ℕ, ◌+◌, ◌≤◌, ◌&&◌, suc, true, true≢false, List, [], ◌∷◌, ◌++◌, length, take, Option, Some, None, refl, sym, ◌∙◌, ap, subst, arith}
use Rattle.std.proofs.lemmas.Bool.{and_parts, cond_both}
use Rattle.std.proofs.lemmas.List.{length_push, take-take}
use Rattle.sc_base.specs.Definitions.{Among, Each, IsRoster}
use Rattle.sc_node_table.specs.Values.{Command, Base, Mail}
use Rattle.sc_group_table.specs.machine.MachineDefinitions.{Group, group_of, applied, state_after}
use Rattle.sc_group_table.proofs.MachineProofs.Lemmas.{state_push}
use Rattle.sc_words.specs.paxos.PaxosDefinitions.{without_flight_at}
use Rattle.sc_words.proofs.PaxosProofs.PaxosLemmas.{Each-among}
use Rattle.sc_paxos_law.specs.PaxosLawDefinitions.{needed, members_of, IsLog, IsLawfulHistory}
use Rattle.sc_paxos_law.proofs.Lemmas.{earlier, longer_log}
use Rattle.sc_node_table.specs.NodeDefinitions.{ended, entered, learnt_to, welcomed, landed, left, looked, executed_one, has_room, next_ready, ReplicaState, Place, name_of, next, members, slots_ahead, at_slot, without_slot, before_of, spoken}
use Rattle.sc_meaning.specs.sound.SoundDefinitions.{Ahead}
use Rattle.sc_law_entries.proofs.HistoryProofs.HistoryLemmas.{state_same}
use Rattle.sc_law_walks.specs.WalkDefinitions.{IfThere}
use Rattle.sc_law_walks.proofs.WalkLemmas.{entered_next, entered_group}
use Rattle.sc_live_steps.specs.following.FollowingDefinitions.{Sets, members_at, IsNext, AreNext, AreEntries, AreAt}
use Rattle.sc_live_steps.proofs.FollowingProofs.FollowingLemmas.{taught_state, landed_is, entered_keeps, ends, announced_keeps, spoken_same, are_next as are_later, entered_sets}
use Rattle.sc_law_groups.proofs.GroupProofs.GroupLemmas.{IsLearnt, by_own_log, Steps, rule, first, birth, AreSets, Each-without_slot, slot_among, rest_length}
use Rattle.sc_law_groups.proofs.WholeProofs.WholeLemmas.{members_stay_rosters}

-- a ready command that is executed next is ready at the next slot, and the replica runs
pub next_ready_is : (r : ReplicaState) (c : Command) → next_ready r ≡ Some c → Among (next r, c) r.ready × (r.running ≡ true)
next_ready_is r c e =
    cond_both (r.running && has_room r) (at_slot r.ready (next r)) None (λ o. o ≡ Some c → Among (next r, c) r.ready × (r.running ≡ true))
    (λ t k. (slot_among r.ready (next r) c k, (and_parts r.running (has_room r) t).0)) (λ _ k. cc) e

-- ---- the members of the open slots, with one more

-- some steps of a group, each log of which is a prefix of one
module _ (ahead : Ahead) (open_slots : ahead.slots ≡ slots_ahead) (base : Base) (roster : IsRoster base.core.members) (h : Steps) (lawful : IsLawfulHistory (rule ahead base) (first ahead base) h) (all : List Command)
    (prefixes : (log : List Command) → IsLog (rule ahead base) h log → (length log ≤ length all) × (take (length log) all ≡ log)) where
  -- the members of each slot
  abbrev pub at : Sets
  at slot = members_of (rule ahead base) all slot

  -- a replica has executed a log, and what is ready was chosen
  pub record IsAlong (r : ReplicaState) : Type 0 where
    pub whole : List Command
    pub is_log : IsLog (rule ahead base) h whole
    pub next_is : next r ≡ length whole + 1
    pub group_is : r.group ≡ state_after (birth ahead base) whole
    pub ready : Each (λ e. IsLearnt (rule ahead base) h e.0 e.1) r.ready

  -- ---- members

  -- the members after a log are those of the slot so far behind it
  pub after_log : (log : List Command) → IsLog (rule ahead base) h log → (slot : ℕ) → slot ≡ length log + slots_ahead → at slot ≡ (state_after (birth ahead base) log).core.members
  after_log log fact slot e =
      let open_ = open_slots in
      let same : needed (rule ahead base) slot ≡ length log = omega (arith, e, open_) in
      ap (λ n. (rule ahead base).members (take n all)) same ∙ ap (rule ahead base).members (prefixes log fact).1

  -- those of a slot that a log knows are those by the whole one
  pub by_log : (log : List Command) → IsLog (rule ahead base) h log → (slot : ℕ) → needed (rule ahead base) slot ≤ length log → at slot ≡ members_of (rule ahead base) log slot
  by_log log fact slot known =
      ap (rule ahead base).members (sym (take-take (needed (rule ahead base) slot) (length log) all known) ∙ ap (take (needed (rule ahead base) slot)) (prefixes log fact).1)

  -- those of the slots up to the first that an entry may change are the first ones
  pub first_sets : (slot : ℕ) → slot ≤ slots_ahead → at slot ≡ base.core.members
  first_sets slot low =
      let open_ = open_slots in
      let same : needed (rule ahead base) slot ≡ 0 = omega (arith, low, open_) in
      ap (λ n. (rule ahead base).members (take n all)) same

  -- all are rosters
  pub rosters : (slot : ℕ) → IsRoster (at slot)
  rosters slot = members_stay_rosters (group_of base) (take (needed (rule ahead base) slot) all) roster

  -- the members of open slots
  pub are_at : (log : List Command) → IsLog (rule ahead base) h log → (slot : ℕ) (sets : List (List ℕ)) → AreSets ahead base log slot sets → AreAt at slot sets
  are_at log fact slot [] are = tt
  are_at log fact slot (set ∷ sets) are = (
    (
        let here = subst (λ n. (set ≡ members_of (rule ahead base) log n) × (needed (rule ahead base) n ≤ length log)) (omega arith) (are 0 set refl) in
        by_log log fact slot here.1 ∙ sym here.0),
    are_at log fact (slot + 1) sets (λ k other e. subst (λ n. (other ≡ members_of (rule ahead base) log n) × (needed (rule ahead base) n ≤ length log)) (omega arith) (are (suc k) other e)),
  )

  -- a replica's members are those of its newest slot
  pub members_are : (r : ReplicaState) → IsAlong r → members_at at (next r) ≡ members r
  members_are r k =
      let next_is = k.next_is in
      after_log k.whole k.is_log (next r + 3) (omega (arith, next_is)) ∙ ap (λ (g : Group). g.core.members) (sym k.group_is)

  -- ---- the next command

  -- what is learnt at its next slot makes the log longer
  longer : (c : Command) (r : ReplicaState) → (k : IsAlong r) → IsLearnt (rule ahead base) h (next r) c → IsLog (rule ahead base) h (k.whole ++ c ∷ [])
  longer c r k t =
      longer_log (rule ahead base) h k.whole c k.is_log
      (by_own_log (rule ahead base) (first ahead base) h lawful (length k.whole + 1) c (subst (λ n. IsLearnt (rule ahead base) h n c) k.next_is t) k.whole k.is_log (earlier (rule ahead base) (length k.whole)))

  group_after : (c : Command) (r : ReplicaState) → (k : IsAlong r) → (entered c r).group ≡ state_after (birth ahead base) (k.whole ++ c ∷ [])
  group_after c r k = entered_group c r ∙ ap (λ (g : Group). (applied g c).0) k.group_is ∙ sym (state_push (birth ahead base) k.whole c)

  -- the group's name is kept
  pub name_is : (r : ReplicaState) → IsAlong r → name_of r ≡ base.core.id
  name_is r k = ap (λ (g : Group). g.core.id) k.group_is ∙ (state_same (birth ahead base) k.whole).0

  -- with what is learnt at its next slot it is along the log
  pub entered_along : (c : Command) (r : ReplicaState) → IsAlong r → IsLearnt (rule ahead base) h (next r) c → IsAlong (entered c r)
  entered_along c r k t =
      let next_is = k.next_is in
      let up = entered_next c r in
      let len = length_push k.whole c in
      record {
        whole = k.whole ++ c ∷ [];
        is_log = longer c r k t;
        next_is = omega (arith, next_is, up, len);
        group_is = group_after c r k;
        ready = subst (Each (λ e. IsLearnt (rule ahead base) h e.0 e.1)) (sym (entered_keeps c r).2) k.ready;
      }

  -- it is the next one
  pub is_next : (c : Command) (r : ReplicaState) → IsAlong r → IsLearnt (rule ahead base) h (next r) c → IsNext at c r
  is_next c r k t =
      let after = entered_along c r k t in
      record {
        fact = ap (members_at at) (sym (entered_next c r)) ∙ members_are (entered c r) after;
        roster = subst IsRoster (ap (λ (g : Group). g.core.members) (sym after.group_is)) (members_stay_rosters (group_of base) after.whole roster);
        named = name_is (entered c r) after ∙ sym (name_is r k);
      }

  -- with it one more slot is open
  pub entered_opens : (c : Command) (r : ReplicaState) → IsAlong r → IsLearnt (rule ahead base) h (next r) c → AreAt at (next r) r.sets → length r.sets ≡ slots_ahead → AreAt at (next (entered c r)) (entered c r).sets
  entered_opens c r k t are many =
      subst (λ n. AreAt at n (entered c r).sets) (sym (entered_next c r))
      (subst (AreAt at (next r + 1)) (sym (entered_sets c r)) (are_later at (next r) r.sets (members (entered c r)) are many (ap at (omega arith) ∙ (is_next c r k t).fact)))

  pub entered_many : (c : Command) (r : ReplicaState) → length r.sets ≡ slots_ahead → length (entered c r).sets ≡ slots_ahead
  entered_many c r many = ap length (entered_sets c r) ∙ rest_length r.sets (members (entered c r)) (omega (arith, many)) ∙ many

  -- ---- all that is ready

  module _ (c : Command) (r : ReplicaState) (k : IsAlong r) (runs : r.running ≡ true) (t : IsLearnt (rule ahead base) h (next r) c) where
    along : IsAlong (entered c r)
    along = entered_along c r k t

    -- with it it is further along, and stands where it leads on
    abbrev pub IsPast : ReplicaState → Type 0
    IsPast q = IsAlong q × (next q ≡ next r + 1) × (q.running ≡ true → q.group.core.gone ≡ None)

    past : (acts backlog : List Command) (more : List Mail)
        → IsPast (looked (left (landed true (next r) c (welcomed true (members r) (learnt_to true (members r) (next r) c (record (entered c r) { acts = acts; backlog = backlog }, more)))))).0
    unfolding ended
    past acts backlog more =
        let here : ReplicaState = record (entered c r) { acts = acts; backlog = backlog } in
        let reported : Place = welcomed true (members r) (learnt_to true (members r) (next r) c (here, more)) in
        let over : ReplicaState = record here { leader = without_flight_at (next r) here.leader; ready = without_slot here.ready (next r) } in
        let landed_there : landed true (next r) c reported ≡ (over, reported.1) =
        ap (λ (q : ReplicaState). landed true (next r) c (q, reported.1)) (taught_state (members r) (next r) c here more) ∙ landed_is (next r) c here reported.1 in
        subst (λ (p : Place). IsPast (looked (left p)).0) (sym landed_there)
        (ends (λ p. IsPast p.0) over reported.1 ((entered_keeps c r).0 ∙ runs) (is_next c r k t).roster
        (λ stands stays. (record { whole = along.whole; is_log = along.is_log; next_is = along.next_is; group_is = along.group_is; ready = Each-without_slot _ (entered c r).ready (next r) along.ready }, entered_next c r, λ on. stands))
        (λ why hint answer. (record { whole = along.whole; is_log = along.is_log; next_is = along.next_is; group_is = along.group_is; ready = tt }, entered_next c r, λ on. absurd (true≢false (sym on)))))

    pub one_past : (mails : List Mail) → IsPast (executed_one true c (r, mails)).0
    unfolding executed_one
    one_past mails =
        announced_keeps (name_of r)
        (λ place. IsPast (looked (left (landed true (next r) c (welcomed true (members r) (learnt_to true (members r) (next r) c (spoken true (before_of r.group.core) (applied r.group c).1 c place)))))).0) (entered c r) mails
        (λ acts backlog more same.
        let q : ReplicaState = record (entered c r) { acts = acts; backlog = backlog } in
        let said : Place = spoken true (before_of r.group.core) (applied r.group c).1 c (q, more) in
        subst (λ (x : ReplicaState). IsPast (looked (left (landed true (next r) c (welcomed true (members r) (learnt_to true (members r) (next r) c (x, said.1)))))).0)
        (sym (spoken_same (name_of r) 0 (before_of r.group.core) (applied r.group c).1 c q more).0) (past acts backlog said.1))
        (applied r.group c).1 c

    one_along : (mails : List Mail) → IsAlong (executed_one true c (r, mails)).0
    one_along mails = (one_past mails).0

  -- the ready entries come one after another
  pub are_next : (es : List (ℕ × Command)) (place : Place) → IsAlong place.0 → AreNext at es place
  are_next [] place k = tt
  are_next (e ∷ es) place k = by (λ p a. are_next es p a) (next_ready place.0) refl
    where
      by : ((p : Place) → IsAlong p.0 → AreNext at es p) → (o : Option Command) → next_ready place.0 ≡ o
          → IfThere (λ command. IsNext at command place.0 × AreNext at es (executed_one true command place)) (Unit {0}) o
      by rest None fact = tt
      by rest (Some c) fact =
          let there = next_ready_is place.0 c fact in
          let t = Each-among (λ e. IsLearnt (rule ahead base) h e.0 e.1) place.0.ready (next place.0, c) k.ready there.0 in
          (is_next c place.0 k t, rest (executed_one true c place) (one_along c place.0 k there.1 t place.1))

  -- so do those from one that is learnt on
  pub are_entries : (c : Command) (place : Place) → IsAlong place.0 → place.0.running ≡ true → IsLearnt (rule ahead base) h (next place.0) c → AreEntries at c place
  are_entries c place k runs t =
      (is_next c place.0 k t, are_next (executed_one true c place).0.ready (executed_one true c place) (one_along c place.0 k runs t place.1))
