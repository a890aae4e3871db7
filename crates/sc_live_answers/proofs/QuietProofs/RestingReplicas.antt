-- Each replica of a quiet group is at rest, where the newest state is locked in no transaction.
use Rattle.std.proofs.Common.{◌≡◌, ℕ, suc, ◌-◌, ◌<◌, ◌≤◌, true, false, true≢false, Some, inl, inr, sym, ◌∙◌, ap, subst, arith}
use Rattle.std.proofs.lemmas.Bool.{cases_Bool, cases_lt}
use Rattle.sc_node_table.specs.Values.{Base, Free}
use Rattle.sc_group_table.specs.machine.MachineDefinitions.{Group}
use Rattle.sc_base.specs.Definitions.{is_member}
use Rattle.sc_scenario.specs.declared.scenario.scenarios.Scenario.{Scenario}
use Rattle.sc_node_table.specs.NodeDefinitions.{ReplicaState, next}
use Rattle.sc_meaning.specs.sound.SoundDefinitions.{as_nodes}
use Rattle.sc_live_steps.specs.calm.CalmDefinitions.{IsAtRest}
use Rattle.sc_law_entries.specs.logs.LogDefinitions.{Rows}
use Rattle.sc_live_steps.specs.following.FollowingDefinitions.{Sets, Course, members_at, SlotLeaders, IsMemberBy}
use Rattle.sc_live_journals.specs.groups.GroupDefinitions.{RestsCleared, IsSlotKept}
use Rattle.sc_live_journals.proofs.GroupsProofs.GroupLemmas.{kept_leaders_rest, scenarios_kept_born}
use Rattle.sc_live_answers.specs.AnswerDefinitions.{state_at, ReplicasRunLogs, replicas_at, IsQuietGroup, IsDone, QuietReplicasRest}
use Rattle.sc_live_answers.proofs.RestProofs.FreeLeavers.{leavers_free}
use Rattle.sc_live_journals.specs.mail.MailDefinitions.{IsPlainlyKept}
use Rattle.sc_live_answers.proofs.QuietProofs.QuietGroupReplicas.{at, over, all, view, even, knows, place, kept, plain, room, ran}

module _ (run : ReplicasRunLogs) (by : SlotLeaders) (words : ℕ → ℕ → ℕ × ℕ) (scenario : Scenario) (journal prefix : Rows) (base : Base) (course : Course) (q : IsQuietGroup by words scenario journal prefix base course)
    (free : (state_at as_nodes base journal course.newest).core.lock ≡ Free) (done : IsDone (replicas_at scenario prefix) base) (node : ℕ) (r : ReplicaState) (e : view by words scenario journal prefix base course q node ≡ Some r) where
  abbrev sets : Sets
  sets = at by words scenario journal prefix base course q

  ran_here : (1 ≤ next r) × (r.group ≡ state_at as_nodes base journal (next r))
  ran_here = ran by words scenario journal prefix base course q run node r e

  -- the state of one that is not as far is that after an entry by which its node went
  free_behind : (slot : ℕ) → next r ≡ suc slot → next r < course.newest → (state_at as_nodes base journal (suc slot)).core.lock ≡ Free
  free_behind slot fact low = elim (cases_Bool (is_member (members_at sets (suc slot)) node)) [
    | inl member ↦ (let more = knows by words scenario journal prefix base course q node (suc slot) (omega (arith, low, fact)) member in
        let here = place by words scenario journal prefix base course q node r e in
        absurd (omega (arith, more, here, fact)))
    | inr out ↦ leavers_free as_nodes words scenario journal base q.group slot node (was_member (q.taught.learnt node slot (place by words scenario journal prefix base course q node r e ∙ fact)) out) out
  ]
    where
      was_member : IsMemberBy sets node slot → is_member (members_at sets (suc slot)) node ≡ false → is_member (members_at sets slot) node ≡ true
      was_member (inl m) out = m
      was_member (inr m) out = absurd (true≢false (sym m ∙ out))

  state_free : (state_at as_nodes base journal (next r)).core.lock ≡ Free
  state_free = elim (cases_lt (next r) course.newest) [
    | inl low ↦ (let some = ran_here.0 in
        let k = next r - 1 in
        let fact : next r ≡ suc k = omega (arith, some) in
        subst (λ n. (state_at as_nodes base journal n).core.lock ≡ Free) (sym fact) (free_behind k fact low))
    | inr ge ↦ (let most = (even by words scenario journal prefix base course q).even.most node in
        let here = place by words scenario journal prefix base course q node r e in
        let fact : next r ≡ course.newest = omega (arith, ge, most, here) in
        subst (λ n. (state_at as_nodes base journal n).core.lock ≡ Free) (sym fact) free)
  ]

  lock_free : r.group.core.lock ≡ Free
  lock_free = ap (λ (g : Group). g.core.lock) ran_here.1 ∙ state_free

  idle : IsPlainlyKept node r
  idle = plain by words scenario journal prefix base course q node r e

  slots_kept : IsSlotKept r
  slots_kept = (kept by words scenario journal prefix base course q node r e).1

  -- one that runs is the leader
  cleared : r.running ≡ true → RestsCleared r
  cleared runs =
      let fact : node ≡ course.ballot.node = (even by words scenario journal prefix base course q).alone node r e runs in
      let stands : course.gone ≡ false = (q.led.followed.given.gives node r e runs).0.stands in
      kept_leaders_rest sets (over by words scenario journal prefix base course q) by words (all by words scenario journal prefix base course q) prefix base course r (scenarios_kept_born scenario) q.one.log.rosters q.timely q.quiet q.strangers q.led stands
      (subst (λ n. view by words scenario journal prefix base course q n ≡ Some r) fact e) (room by words scenario journal prefix base course q node r e)

  at_rest : IsAtRest r
  at_rest = record {
    free = lock_free;
    acts = elim (cases_Bool r.running) [ inl runs ↦ (done node r e runs).0 | inr off ↦ (idle.2.0 off).1 ];
    backlog = elim (cases_Bool r.running) [ inl runs ↦ (done node r e runs).1 | inr off ↦ (idle.2.0 off).2 ];
    waits = idle.2.1;
    flights = elim (cases_Bool r.running) [ inl runs ↦ (cleared runs).flights | inr off ↦ (idle.2.0 off).0 ];
    ready = elim (cases_Bool r.running) [ inl runs ↦ (cleared runs).ready | inr off ↦ (slots_kept.0.2 off).1 ];
  }

pub quiet_replicas_rest : ReplicasRunLogs → QuietReplicasRest
quiet_replicas_rest run by words scenario journal prefix base course q free done node r e = at_rest run by words scenario journal prefix base course q free done node r e
