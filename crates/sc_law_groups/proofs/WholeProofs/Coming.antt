-- What may come of a command: the group as it was, or one of these.
use Rattle.std.specs.List.Sorted.{IsStrictlyIncreasing}
use Rattle.std.proofs.Common.{◌≡◌, ℕ, ◌+◌, ◌-◌, ◌/◌, ◌<◌, ◌≤◌, ◌&&◌, not, cond, filter, Bool, true, false, nat_le, List, [], ◌∷◌, length, Option, Some, None, refl, sym, ap, subst, arith}
use Rattle.std.proofs.lemmas.Bool.{and_parts, leb-true, cond-true, cond-false}
use Rattle.std.proofs.lemmas.List.{length-take-le, get_or-take}
use Rattle.sc_base.specs.Definitions.{IsRoster, is_member, with_any, without_member, united}
use Rattle.sc_node_table.specs.Values.{Prepared, Watched, Promised, Watching, Draw, Op, Body, Command, Core, Call, Join, Leave, Split, Begin, RecordVote, Finish, Lock, Coordinating, Effect, Route, OrderRefusal, Frozen, Heard, Outcome}
use Rattle.sc_base.proofs.Lemmas.{roster_with, roster_without, grows, count_united}
use Rattle.sc_words.specs.declared.commands.bodies.Body.TheVariants as By
use Rattle.sc_words.specs.declared.commands.effects.Effect.TheVariants as Was
use Rattle.sc_words.specs.declared.commands.votes.Outcome.TheVariants as Is
use Rattle.sc_words.specs.declared.commands.votes.Vote.TheVariants as Vows
use Rattle.sc_law_walks.proofs.WalkLemmas.{EndsIt, ChangesNothing, IsAccepted, VotesOn, MachineWalk, machine_step}
use Rattle.sc_group_table.specs.machine.MachineDefinitions.{vote_of, watch_vote_of, with_node, without_node, gone_group, gained_group, lost_group, welcomed_group, watcher_after, party_freed, Group, applied, refusal_of, ordered, can_cut, has_key_of, can_split, can_merge, merged_group, may_merge, closing_group, giving_group, taking_group, can_migrate, migrated_group, staying, left_members, left_group, begun_group, decided_group, heard_group}

-- ---- members

-- a group that can be split has two members or more
pub two_members : (core : Core) (at : ℕ) → can_split core at ≡ true → 2 ≤ length core.members
two_members core at can = leb-true 2 (length core.members) (and_parts (can_cut core.arc at) (nat_le 2 (length core.members)) can).1

-- of two to nine nodes some stay, and not all
pub staying_some : (n : ℕ) → 2 ≤ n → n ≤ 9 → (1 ≤ n - n / 2) × (n - n / 2 < n)
staying_some n two nine = (omega arith, omega arith)

-- the members that stay are a roster
pub staying_roster : (members : List ℕ) → IsRoster members → 2 ≤ length members → IsRoster (left_members members)
staying_roster members fact two =
    let some = staying_some (length members) two fact.most in
    let low = some.1 in
    let count = length-take-le (staying members) members (omega (arith, low)) in
    let one = some.0 in
    let most = fact.most in
    record {
      some = omega (arith, count, one);
      most = omega (arith, count, low, most);
      ascending = λ k within. (
          let here = get_or-take (staying members) members k 0 (omega (arith, within, count)) in
          let next = get_or-take (staying members) members (k + 1) 0 (omega (arith, within, count)) in
          let up = fact.ascending k (omega (arith, within, count, low)) in
          omega (arith, here, next, up));
    }

-- a union of at most nine is a roster
pub united_roster : (members others : List ℕ) → IsRoster members → length (united members others) ≤ 9 → IsRoster (united members others)
united_roster members [] fact few = fact
united_roster members (node ∷ others) fact few =
    let more = grows (with_any members node) others in
    let fits : length (with_any members node) ≤ 9 = omega (arith, more, few) in
    united_roster (with_any members node) others (one_more (is_member members node) refl fits) few
  where
    one_more : (b : Bool) → is_member members node ≡ b → length (with_any members node) ≤ 9 → IsRoster (with_any members node)
    one_more true e fits = subst IsRoster (sym (cond-true (is_member members node) members _ e)) fact
    one_more false e fits =
        let up : IsStrictlyIncreasing (node ∷ []) = λ k within. absurd (omega (arith, within)) in
        let count = count_united members (node ∷ []) up in
        let one : length (filter (λ x. not (is_member members x)) (node ∷ [])) ≡ 1 = ap (λ b. length (cond (not b) (node ∷ []) [])) e in
        subst IsRoster (sym (cond-false (is_member members node) members _ e)) (roster_with members node fact e (omega (arith, fits, count, one)))

-- ---- what may come

-- a group with the votes and decisions of another
pub record Reshaped (group after : Group) : Type 0 where
  pub voted : after.core.voted ≡ group.core.voted
  pub decided : after.core.decided ≡ group.core.decided
  pub roster : IsRoster group.core.members → IsRoster after.core.members

-- a lock that a Yes of the group binds in a transaction
abbrev pub Binds : Lock → Draw → Type 0
Binds (Promised t offer) tx = t ≡ tx
Binds (Watching t watch) tx = t ≡ tx
Binds _ tx = ⊥

-- a lock that no Yes of the group binds
abbrev pub BindsNone : Lock → Type 0
BindsNone lock = (tx : Draw) → Binds lock tx → ⊥

-- an effect by which nothing changes, and nothing is voted or decided
abbrev pub IsDull : Effect → Type 0
IsDull (Was.Done reply) = Unit {0}
IsDull (Was.Again reply) = Unit {0}
IsDull (Was.Stale last) = Unit {0}
IsDull (Was.NotMine arc succ) = Unit {0}
IsDull (Was.Gone into) = Unit {0}
IsDull (Was.NoEffect tx) = Unit {0}
IsDull Was.Idle = Unit {0}
IsDull Was.Changed = ⊥
IsDull (Was.Voted vote) = ⊥
IsDull (Was.Decided outcome) = ⊥
IsDull (Was.Refused why) = Unit {0}

-- what holds of all that may come of a command
pub record Cases (group : Group) (P : Command → Group × Effect → Type 0) : Type 0 where
  pub same : (c : Command) (effect : Effect) → IsDull effect → P c (group, effect)
  pub served : (client seq : ℕ) (op : Op) (after : Group) (effect : Effect) → after.core ≡ group.core → P (Call client seq op) (after, effect)
  pub joined : (node order : ℕ) → P (Join node order) (applied group (Join node order))
  pub left : (node order : ℕ) → P (Leave node order) (applied group (Leave node order))
  pub parted : (at : ℕ) (child : Draw) (order : ℕ) → refusal_of group.core (Split at child order) ≡ None → P (Split at child order) (left_group group at child, Was.Changed)
  pub split : (at : ℕ) (child : Draw) (order : ℕ) → refusal_of group.core (Split at child order) ≡ None → P (Split at child order) (begun_group group child (By.Split at child) order, Was.Changed)
  pub begun : (tx : Draw) (body : Body) (order : ℕ) → refusal_of group.core (Begin tx body order) ≡ None → P (Begin tx body order) (begun_group group tx body order, Was.Changed)
  pub offered : VotesOn group Prepared vote_of Promised P
  pub asked : VotesOn group Watched watch_vote_of Watching P
  pub heard : (tx : Draw) (order : ℕ) (got : Option Heard) → group.core.lock ≡ Coordinating tx By.Merge order got → (frozen : Frozen) (by : ℕ)
      → P (RecordVote tx (Vows.Yes frozen) by) (heard_group group tx By.Merge order (record { frozen = frozen; by = by }), Was.Changed)
  pub ended : (c : Command) (tx : Draw) → EndsIt tx c → BindsNone group.core.lock → (after : Group) (outcome : Outcome) → Reshaped group after → P c (decided_group after tx outcome, Was.Decided outcome)
  pub finished : (tx : Draw) → Binds group.core.lock tx → (after : Group) (outcome : Outcome) → Reshaped group after → P (Finish tx outcome) (party_freed after tx, Was.Decided outcome)

-- ---- what comes of each

-- a group that is not changed
as_it_was : (group : Group) → Reshaped group group
as_it_was group = record { voted = refl; decided = refl; roster = λ r. r }

-- an effect by which nothing changes
dull : (group : Group) (c : Command) (effect : Effect) → ChangesNothing group c effect → IsDull effect
dull group c Was.Changed none = none
dull group c (Was.Voted vote) none = none
dull group c (Was.Decided outcome) none = none
dull group c _ none = tt

-- a coordinator is bound in no other group's transaction
none_bound : (lock : Lock) (tx : Draw) (body : Body) (order : ℕ) (got : Option Heard) → lock ≡ Coordinating tx body order got → BindsNone lock
none_bound lock tx body order got e t binds = subst (λ l. Binds l t) e binds

-- the members of two groups that may merge are a roster together
merged_roster : (group : Group) (frozen : Frozen) → may_merge group frozen ≡ true → IsRoster group.core.members → IsRoster (united group.core.members frozen.members)
merged_roster group frozen t fact =
    let fits = and_parts (can_merge group.core frozen) (not (has_key_of group.pairs frozen.pairs)) t in
    let nine = (and_parts _ (nat_le (length (united group.core.members frozen.members)) 9) fits.0).1 in
    united_roster group.core.members frozen.members fact (leb-true _ 9 nine)

-- a member that is handed over leaves a roster
handing_roster : (core : Core) (node : ℕ) (frozen : Frozen) → can_migrate core node frozen ≡ true → IsRoster core.members → IsRoster (without_member core.members node)
handing_roster core node frozen t fact =
    let parts = and_parts (is_member core.members node && nat_le 2 (length core.members)) (nat_le (length (united frozen.members (node ∷ []))) 9) t in
    let two = (and_parts (is_member core.members node) (nat_le 2 (length core.members)) parts.0).1 in
    roster_without core.members node fact (leb-true 2 (length core.members) two)

module _ (group : Group) (P : Command → Group × Effect → Type 0) (k : Cases group P) where
  -- who is bound in a transaction
  binds_it : (lock : Lock) (tx : Draw) → group.core.lock ≡ lock → Binds lock tx → Binds group.core.lock tx
  binds_it lock tx e binds = subst (λ l. Binds l tx) (sym e) binds

  -- all that may come of a command is a case
  cases_walk : MachineWalk group P
  cases_walk = record {
    same = λ c effect none. k.same c effect (dull group c effect none);
    serves = λ client seq op. k.served client seq op _ _ refl;
    joins = λ node order a. accepted (Join node order) (with_node group node) a (k.joined node order);
    leaves = λ node order a. accepted (Leave node order) (without_node group node) a (k.left node order);
    splits = λ at child order a new alone. k.parted at child order a.taken;
    begins_split = λ at child order a new other. k.split at child order a.taken;
    begins = λ tx body order a new. k.begun tx body order a.taken;
    offers = k.offered;
    watches = k.asked;
    hears = λ tx order lock frozen by other. k.heard tx order None lock frozen by;
    aborts = λ c tx ends body order got lock. k.ended c tx ends (none_bound _ tx body order got lock) group Is.Abort (as_it_was group);
    divides = λ tx at child order got lock by can. k.ended _ tx refl (none_bound _ tx (By.Split at child) order got lock) (left_group group at child) _
        (record { voted = refl; decided = refl; roster = λ fact. staying_roster group.core.members fact (two_members group.core at can) });
    merges = λ tx order heard lock by may. k.ended _ tx refl (none_bound _ tx By.Merge order (Some heard) lock) (merged_group group heard.frozen) _ (record { voted = refl; decided = refl; roster = merged_roster group heard.frozen may });
    closes = λ tx order lock frozen by two may. k.ended _ tx refl (none_bound _ tx By.Merge order None lock) (closing_group group frozen) _ (record { voted = refl; decided = refl; roster = merged_roster group frozen may });
    gives = λ tx at order lock frozen by here can. k.ended _ tx refl (none_bound _ tx (By.Repart at) order None lock) (giving_group group at frozen) _ (record { voted = refl; decided = refl; roster = λ r. r });
    takes = λ tx at order lock frozen by there can. k.ended _ tx refl (none_bound _ tx (By.Repart at) order None lock) (taking_group group at frozen) _ (record { voted = refl; decided = refl; roster = λ r. r });
    migrates = λ tx node order lock frozen by can. k.ended _ tx refl (none_bound _ tx (By.Migrate node) order None lock) (migrated_group group node frozen) _ (record { voted = refl; decided = refl; roster = handing_roster group.core node frozen can });
    stays = λ tx offer lock. k.finished tx (binds_it _ tx lock refl) group Is.Abort (as_it_was group);
    goes = λ tx offer lock into. k.finished tx (binds_it _ tx lock refl) (gone_group group into) _ (record { voted = refl; decided = refl; roster = λ r. r });
    gains = λ tx offer lock at gift can. k.finished tx (binds_it _ tx lock refl) (gained_group group offer at gift) _ (record { voted = refl; decided = refl; roster = λ r. r });
    loses = λ tx offer lock at can. k.finished tx (binds_it _ tx lock refl) (lost_group group at) _ (record { voted = refl; decided = refl; roster = λ r. r });
    welcomes = λ tx offer lock node few. k.finished tx (binds_it _ tx lock refl) (welcomed_group group node) _ (record { voted = refl; decided = refl; roster = λ fact. united_roster group.core.members (node ∷ []) fact (leb-true _ 9 few) });
    sees_end = λ tx watch lock outcome. k.finished tx (binds_it _ tx lock refl) (watcher_after outcome group watch) outcome (record { voted = refl; decided = refl; roster = λ r. r });
  }
    where
      -- what is known of a join and a leave is known where they are accepted
      accepted : (c : Command) (after : Group) → IsAccepted group c → P c (ordered group.core.gone (refusal_of group.core c) after group) → P c (after, Was.Changed)
      accepted c after a p = subst (λ (why : Option OrderRefusal). P c (ordered None why after group)) a.taken (subst (λ (gone : Option Route). P c (ordered gone (refusal_of group.core c) after group)) a.stands p)

  -- what holds of all cases holds of what comes of a command
  pub comes : (c : Command) → P c (applied group c)
  comes = machine_step group P cases_walk
