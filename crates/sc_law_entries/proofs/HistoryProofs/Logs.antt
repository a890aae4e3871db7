-- What a log leaves of the group's record.
use Rattle.std.proofs.Common.{◌≡◌, ℕ, List, [], ◌∷◌, Option, Some, None, refl, ◌∙◌, ap}
use Rattle.sc_base.specs.declared.ops.Op.{Op}
use Rattle.sc_words.specs.declared.commands.links.Route.{Route}
use Rattle.sc_words.specs.declared.commands.commands.Command.{Command}
use Rattle.sc_words.specs.declared.commands.commands.Command.TheVariants.{Call}
use Rattle.sc_words.specs.declared.commands.cores.Core.{Core}
use Rattle.sc_words.specs.declared.commands.orders.OrderRefusal.{OrderRefusal}
use Rattle.sc_law_walks.proofs.WalkLemmas.{name_step}
use Rattle.sc_group_table.specs.machine.MachineDefinitions.{Group, applied, ordered, state_after}
use Rattle.sc_law_walks.proofs.CoreWalks.{called_core}

-- ---- the core of the group stays

-- a call changes no members
pub called_members : (group : Group) (client seq : ℕ) (op : Op) → (applied group (Call client seq op)).0.core.members ≡ group.core.members
called_members group client seq op = ap (λ (c : Core). c.members) (called_core group.core.gone group.core.lock group client seq op)

-- an order makes the group another one, or leaves it
pub ordered_either : (P : Group → Type 0) (gone : Option Route) (why : Option OrderRefusal) (after group : Group) → P after → P group → P (ordered gone why after group).0
ordered_either P (Some into) why after group p q = q
ordered_either P None (Some why) after group p q = q
ordered_either P None None after group p q = p

-- the name and the first leader of a group
abbrev pub IsSameGroup : Core → Core → Type 0
IsSameGroup one other = (one.id ≡ other.id) × (one.first ≡ other.first)

-- a command keeps the name and the first leader
pub applied_same : (group : Group) (c : Command) → IsSameGroup (applied group c).0.core group.core
applied_same group = name_step group (λ id first. (id ≡ group.core.id) × (first ≡ group.core.first)) (refl, refl)

-- whatever a group executes, it keeps its name and its first leader
pub state_same : (group : Group) (log : List Command) → IsSameGroup (state_after group log).core group.core
state_same group [] = (refl, refl)
state_same group (c ∷ log) =
    let later = state_same (applied group c).0 log in
    let here = applied_same group c in
    (later.0 ∙ here.0, later.1 ∙ here.1)

-- ---- what no split divides changes but its members

abbrev pub OnlyMembers : Core → Core → Type 0
OnlyMembers before after = after ≡ record before { members = after.members }
