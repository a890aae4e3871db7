-- The replicas of groups: one of each of which the node is a member.
use Rattle.std.proofs.Common.{◌≡◌, ℕ, zero, suc, ◌<◌, Bool, true, false, cond, List, [], ◌∷◌, length, get_or, map, sym, ap, ◌∙◌, arith}
use Rattle.sc_base.specs.Roster.{is_member}
use Rattle.sc_words.specs.declared.commands.cores.Base.{Base}
use Rattle.sc_node_table.specs.Replica.{ReplicaState}
use Rattle.sc_node_table.specs.Node.{born_replicas}

by_first : (b : Bool) (f : Base → ReplicaState) (base : Base) (bases : List Base) → b ≡ true → map f (cond b (base ∷ bases) bases) ≡ [] → ⊥
by_first true f base bases is e = cc
by_first false f base bases is e = cc

by_rest : (b : Bool) (f : Base → ReplicaState) (base : Base) (bases : List Base) → map f (cond b (base ∷ bases) bases) ≡ [] → map f bases ≡ []
by_rest true f base bases e = absurd (cc)
by_rest false f base bases e = e

-- where there is none, the node is a member of no group
pub born-none : (ahead me : ℕ) (groups : List Base) (i : ℕ) (base : Base) → i < length groups → base ≡ get_or groups i base → is_member base.core.members me ≡ true → born_replicas ahead me groups ≡ [] → ⊥
born-none ahead me [] i base lt is member e = absurd (omega (arith, lt))
born-none ahead me (group ∷ groups) zero base lt is member e = by_first (is_member group.core.members me) _ group _ (ap (λ (b : Base). is_member b.core.members me) (sym is) ∙ member) e
born-none ahead me (group ∷ groups) (suc i) base lt is member e = born-none ahead me groups i base (omega (arith, lt)) is member (by_rest (is_member group.core.members me) _ group _ e)
