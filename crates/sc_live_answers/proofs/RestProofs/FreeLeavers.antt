-- By each command a group loses no member, or it is locked in no transaction after it.
use Rattle.std.proofs.Common.{◌≡◌, ℕ, ◌-◌, Bool, true, false, zero, suc, take, List, ◌⊎◌, inl, inr, refl, sym, ◌∙◌, ap, subst, arith}
use Rattle.sc_node_table.specs.Values.{Free, Command, Leave, Split, Core}
use Rattle.sc_base.specs.Definitions.{is_member}
use Rattle.sc_live_steps.proofs.FollowingProofs.FollowingLemmas.{with_kept}
use Rattle.sc_group_table.specs.machine.MachineDefinitions.{Group, applied, state_after, group_of}
use Rattle.sc_meaning.specs.sound.SoundDefinitions.{decided_log}
use Rattle.sc_live_steps.specs.following.FollowingDefinitions.{members_at}
use Rattle.sc_live_journals.specs.logs.LogDefinitions.{logged_sets}
use Rattle.sc_live_answers.specs.AnswerDefinitions.{state_at, LeaversFree}
use Rattle.sc_live_answers.proofs.LedGroupsProofs.MemberWalks.{next_states}
use Rattle.sc_live_answers.proofs.LedGroupsProofs.GroupEnds.{sets_are}
use Rattle.sc_law_walks.proofs.WalkLemmas.{MachineWalk, machine_step, unrefused_free}

-- no member is lost, or the group is free
abbrev IsFreed : Core → Core → Type 0
IsFreed one other = (one.lock ≡ Free) ⊎ ((who : ℕ) → is_member other.members who ≡ true → is_member one.members who ≡ true)

freed_walk : (group : Group) → MachineWalk group (λ c x. IsFreed x.0.core group.core)
freed_walk group = record {
  same = λ c effect _. inr (λ who m. m);
  serves = λ client seq op. inr (λ who m. m);
  joins = λ node order a. inr (with_kept group.core.members node);
  leaves = λ node order a. inl (unrefused_free group.core (Leave node order) a.taken);
  splits = λ at child order a new alone. inl (unrefused_free group.core (Split at child order) a.taken);
  begins_split = λ at child order a new other. inr (λ who m. m);
  begins = λ tx body order a new. inr (λ who m. m);
  offers = λ tx offer new. inr (λ who m. m);
  watches = λ tx watch new. inr (λ who m. m);
  hears = λ tx order lock frozen by other. inr (λ who m. m);
  aborts = λ c tx ends body order got lock. inl refl;
  divides = λ tx at child order got lock by can. inl refl;
  merges = λ tx order heard lock by may. inl refl;
  closes = λ tx order lock frozen by two may. inl refl;
  gives = λ tx at order lock frozen by here can. inl refl;
  takes = λ tx at order lock frozen by there can. inl refl;
  migrates = λ tx node order lock frozen by can. inl refl;
  stays = λ tx offer lock. inl refl;
  goes = λ tx offer lock into. inl refl;
  gains = λ tx offer lock at gift can. inl refl;
  loses = λ tx offer lock at can. inl refl;
  welcomes = λ tx offer lock node few. inl refl;
  sees_end = λ tx watch lock outcome. inl refl;
}

applied_freed : (group : Group) (c : Command) → IsFreed (applied group c).0.core group.core
applied_freed group = machine_step group (λ c x. IsFreed x.0.core group.core) (freed_walk group)

-- after some entries, and after one more
next_freed : (log : List Command) (group : Group) (n : ℕ) → IsFreed (state_after group (take (suc n) log)).core (state_after group (take n log)).core
next_freed = next_states IsFreed (λ core. inr (λ who m. m)) applied_freed

-- The state after an entry by which a member goes is locked in no transaction.
pub leavers_free : LeaversFree
leavers_free ahead words scenario journal base group slot who was not_is = by slot was not_is
  where
    both_no : {b : Bool} → b ≡ true → b ≡ false → ⊥
    both_no t f = cc

    by : (s : ℕ) → is_member (members_at (logged_sets ahead base journal) s) who ≡ true → is_member (members_at (logged_sets ahead base journal) (suc s)) who ≡ false → (state_at ahead base journal (suc s)).core.lock ≡ Free
    by zero m none = absurd (both_no m (ap (λ ms. is_member ms who) (sets_are ahead words scenario journal base group 0 0 (omega arith) ∙ sym (sets_are ahead words scenario journal base group 1 0 (omega arith))) ∙ none))
    by (suc n) m none = elim (next_freed (decided_log ahead base journal) (group_of base) n) [
      | inl free ↦ (let same : suc n ≡ suc (suc n) - 1 = omega arith in subst (λ k. (state_after (group_of base) (take k (decided_log ahead base journal))).core.lock ≡ Free) same free)
      | inr kept ↦ absurd (both_no (kept who (ap (λ ms. is_member ms who) (sym (sets_are ahead words scenario journal base group (suc n) n (omega arith))) ∙ m)) (ap (λ ms. is_member ms who) (sym (sets_are ahead words scenario journal base group (suc (suc n)) (suc n) (omega arith))) ∙ none))
    ]
