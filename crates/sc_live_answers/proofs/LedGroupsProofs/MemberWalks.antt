-- What an invariant needs that reads a group's members, and whether it is gone, alone: each way in which a command changes them. And what each command does between two states happens along a log.
use Rattle.std.proofs.Common.{ℕ, zero, suc, List, [], ◌∷◌, take, Option, Some}
use Rattle.sc_base.specs.Definitions.{united, with_member, without_member}
use Rattle.sc_node_table.specs.Values.{Command, Core, Route}
use Rattle.sc_group_table.specs.machine.MachineDefinitions.{Group, applied, left_members, state_after}
use Rattle.sc_law_walks.proofs.WalkLemmas.{MachineWalk, machine_step}

-- That each part keeps it: a node that joins or leaves, also to another group; those that stay in a split; those of another group that come, or one of its nodes; and where the group goes.
pub record MemberParts (core : Core) (P : List ℕ → Option Route → Type 0) : Type 0 where
  pub begun : P core.members core.gone
  pub joins : (node : ℕ) → P (with_member core.members node) core.gone
  pub leaves : (node : ℕ) → P (without_member core.members node) core.gone
  pub splits : P (left_members core.members) core.gone
  pub unites : (others : List ℕ) → P (united core.members others) core.gone
  pub goes : (into : Route) → P core.members (Some into)

module _ (group : Group) (P : List ℕ → Option Route → Type 0) (k : MemberParts group.core P) where
  member_walk : MachineWalk group (λ c x. P x.0.core.members x.0.core.gone)
  member_walk = record {
    same = λ c effect _. k.begun;
    serves = λ client seq op. k.begun;
    joins = λ node order a. k.joins node;
    leaves = λ node order a. k.leaves node;
    splits = λ at child order a new alone. k.splits;
    begins_split = λ at child order a new other. k.begun;
    begins = λ tx body order a new. k.begun;
    offers = λ tx offer new. k.begun;
    watches = λ tx watch new. k.begun;
    hears = λ tx order lock frozen by other. k.begun;
    aborts = λ c tx ends body order got lock. k.begun;
    divides = λ tx at child order got lock by can. k.splits;
    merges = λ tx order heard lock by may. k.unites heard.frozen.members;
    closes = λ tx order lock frozen by two may. k.unites frozen.members;
    gives = λ tx at order lock frozen by here can. k.begun;
    takes = λ tx at order lock frozen by there can. k.begun;
    migrates = λ tx node order lock frozen by can. k.leaves node;
    stays = λ tx offer lock. k.begun;
    goes = λ tx offer lock into. k.goes into;
    gains = λ tx offer lock at gift can. k.begun;
    loses = λ tx offer lock at can. k.begun;
    welcomes = λ tx offer lock node few. k.unites (node ∷ []);
    sees_end = λ tx watch lock outcome. k.begun;
  }

  pub member_step : (c : Command) → P (applied group c).0.core.members (applied group c).0.core.gone
  member_step = machine_step group (λ c x. P x.0.core.members x.0.core.gone) member_walk

-- what each command does is so between the states after some entries, and after one more
pub next_states : (R : Core → Core → Type 0) → ((core : Core) → R core core) → ((group : Group) (c : Command) → R (applied group c).0.core group.core) → (log : List Command) (group : Group) (n : ℕ) → R (state_after group (take (suc n) log)).core (state_after group (take n log)).core
next_states R same step [] group zero = same group.core
next_states R same step [] group (suc n) = same group.core
next_states R same step (c ∷ log) group zero = step group c
next_states R same step (c ∷ log) group (suc n) = next_states R same step log (applied group c).0 n
