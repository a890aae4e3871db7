-- What one entry makes of a group's name and lock: the name stays, and a lock is taken only where there was none.
use Rattle.std.proofs.Common.{◌≡◌, ℕ, ◌≤◌, ◌⊎◌, inl, inr, refl, sym, ap, subst, arith, Option, Some, None}
use Rattle.sc_node_table.specs.Values.{Ballot, Draw, Command, Lock, Free, Coordinating, Promised, Watching, Effect}
use Rattle.sc_law_walks.proofs.WalkLemmas.{lock_step}
use Rattle.sc_group_table.specs.machine.MachineDefinitions.{Group, applied}
use Rattle.sc_node_table.specs.NodeDefinitions.{waits_in}

-- ---- what a lock allows

-- the transaction that a lock coordinates
abbrev pub coordinated : Lock → Option Draw
coordinated (Coordinating tx body order heard) = Some tx
coordinated Free = None
coordinated (Promised tx offer) = None
coordinated (Watching tx watch) = None

-- how long a leader may have waited, by the transaction that it coordinates
abbrev pub allowed_in : (Ballot → Draw → ℕ) → Ballot → Option Draw → ℕ
allowed_in W lead None = 0
allowed_in W lead (Some tx) = W lead tx

abbrev pub allowed : (Ballot → Draw → ℕ) → Ballot → Lock → ℕ
allowed W lead lock = allowed_in W lead (coordinated lock)

-- a lock after another: it is freed, taken, or of the same coordinator
abbrev pub Follows : Lock → Lock → Type 0
Follows before after = (after ≡ Free) ⊎ ((before ≡ Free) ⊎ (coordinated after ≡ coordinated before))

few_waits : (lock : Lock) (waits : ℕ) → waits_in lock waits ≤ waits
few_waits Free waits = omega arith
few_waits _ waits = omega arith

-- so the waiting is within what is allowed after an entry, if it was before
pub still_allowed : (W : Ballot → Draw → ℕ) (lead : Ballot) (before after : Lock) (waits : ℕ) → Follows before after → waits ≤ allowed W lead before → waits_in after waits ≤ allowed W lead after
still_allowed W lead before after waits (inl free) w = subst (λ lock. waits_in lock waits ≤ allowed W lead lock) (sym free) (omega arith)
still_allowed W lead before after waits (inr (inl free)) w =
    let none : waits ≤ 0 = subst (λ lock. waits ≤ allowed W lead lock) free w in
    let few = few_waits after waits in omega (arith, none, few)
still_allowed W lead before after waits (inr (inr same)) w =
    let few = few_waits after waits in
    let same_bound : allowed W lead after ≡ allowed W lead before = ap (allowed_in W lead) same in omega (arith, few, same_bound, w)

-- ---- one entry

-- what an entry makes of a group: its name stays, and its lock follows the old one
pub record Turns (group : Group) (step : Group × Effect) : Type 0 where
  pub name : step.0.core.id ≡ group.core.id
  pub lock : Follows group.core.lock step.0.core.lock

-- an entry does so
pub entry_turns : (group : Group) (command : Command) → Turns group (applied group command)
entry_turns group command =
    let made = lock_step group (λ id first lock. (id ≡ group.core.id) × Follows group.core.lock lock)
    (record {
      begun = (refl, inr (inr refl));
      begins = λ tx body order free. (refl, inr (inl free));
      hears = λ tx order heard lock. (refl, inr (inr (sym (ap coordinated lock))));
      promises = λ tx offer free. (refl, inr (inl free));
      watches = λ tx watch free. (refl, inr (inl free));
      frees = (refl, inl refl);
    }) command in
    record { name = made.0; lock = made.1 }
