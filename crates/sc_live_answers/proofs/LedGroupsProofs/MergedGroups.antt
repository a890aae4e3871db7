-- A group goes only where it learns that a merge which it promised was decided.
use Rattle.std.specs.Prelude.{◌⊎◌}
use Rattle.std.proofs.Common.{◌≡◌, Some, inl, inr, ap}
use Rattle.std.proofs.lemmas.Option.{same_Some}
use Rattle.sc_node_table.specs.Values.{Draw, Offer, Command, Finish, Promised, Effect, Route, Merged}
use Rattle.sc_group_table.specs.machine.MachineDefinitions.{Group, applied}
use Rattle.sc_law_walks.proofs.WalkLemmas.{MachineWalk, machine_step}

-- a command merges a group that has promised its transaction into another
pub record IsMergedBy (group : Group) (command : Command) (into : Route) : Type 0 where
  pub tx : Draw
  pub offer : Offer
  pub lock : group.core.lock ≡ Promised tx offer
  pub fact : command ≡ Finish tx (Merged into)

module _ (group : Group) where
  module _ (into : Route) where
    abbrev Goes : Command → Group × Effect → Type 0
    Goes command r = r.0.core.gone ≡ Some into → (group.core.gone ≡ Some into) ⊎ IsMergedBy group command into

    goes_walk : MachineWalk group Goes
    goes_walk = record {
      same = λ c effect _ e. inl e;
      serves = λ client seq op e. inl e;
      joins = λ node order a e. inl e;
      leaves = λ node order a e. inl e;
      splits = λ at child order a new alone e. inl e;
      begins_split = λ at child order a new other e. inl e;
      begins = λ tx body order a new e. inl e;
      offers = λ tx offer new e. inl e;
      watches = λ tx watch new e. inl e;
      hears = λ tx order lock frozen by other e. inl e;
      aborts = λ c tx ends body order got lock e. inl e;
      divides = λ tx at child order got lock by can e. inl e;
      merges = λ tx order heard lock by may e. inl e;
      closes = λ tx order lock frozen by two may e. inl e;
      gives = λ tx at order lock frozen by here can e. inl e;
      takes = λ tx at order lock frozen by there can e. inl e;
      migrates = λ tx node order lock frozen by can e. inl e;
      stays = λ tx offer lock e. inl e;
      goes = λ tx offer lock route e. inr (record { tx = tx; offer = offer; lock = lock; fact = ap (λ r. Finish tx (Merged r)) (same_Some route into e) });
      gains = λ tx offer lock at gift can e. inl e;
      loses = λ tx offer lock at can e. inl e;
      welcomes = λ tx offer lock node few e. inl e;
      sees_end = λ tx watch lock outcome e. inl e;
    }

    pub goes_by : (command : Command) → (applied group command).0.core.gone ≡ Some into → (group.core.gone ≡ Some into) ⊎ IsMergedBy group command into
    goes_by = machine_step group Goes goes_walk
