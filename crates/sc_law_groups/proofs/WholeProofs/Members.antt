-- The members of a group stay one to nine nodes, ascending, whatever its log has.
use Rattle.std.proofs.Common.{◌≡◌, ℕ, ◌||◌, not, true, nat_le, eqb, [], ◌∷◌, length, Some, None, sym, ap, subst, arith}
use Rattle.std.proofs.lemmas.Bool.{and_from, or_parts, not-false, eqb-false, le-leb, cond_both}
use Rattle.sc_base.specs.Definitions.{holds, IsRoster}
use Rattle.sc_node_table.specs.Values.{Draw, Command, Join, Leave, Split, Core, BadBoundary, LastMember}
use Rattle.sc_group_table.specs.machine.MachineDefinitions.{Group, applied, locked_in, refusal_of, can_cut, can_split}
use Rattle.sc_law_groups.proofs.GroupProofs.GroupLemmas.{free_refusal, applied_roster}
use Rattle.sc_law_groups.specs.whole.WholeDefinitions.{MembersStayRosters}
use Rattle.sc_law_groups.proofs.WholeProofs.Coming.{two_members, staying_roster, comes}

-- where a split is not refused the group can be split
pub may_split : (core : Core) (at : ℕ) (child : Draw) (order : ℕ) → IsRoster core.members → refusal_of core (Split at child order) ≡ None → can_split core at ≡ true
may_split core at child order roster e =
    cond_both (eqb at core.arc.lo || not (holds core.arc at)) (Some BadBoundary) _ (λ o. o ≡ None → can_split core at ≡ true) (λ _ other. cc)
    (λ f rest. (
    let parts = or_parts (eqb at core.arc.lo) (not (holds core.arc at)) f in
    let cut = and_from (holds core.arc at) (not (eqb at core.arc.lo)) (not-false (holds core.arc at) parts.1) (ap (λ b. not b) parts.0) in
    cond_both (eqb (length core.members) 1) (Some LastMember) _ (λ o. o ≡ None → can_split core at ≡ true) (λ _ other. cc)
    (λ g more. (
    let some = roster.some in
    let several = eqb-false (length core.members) 1 g in
    and_from (can_cut core.arc at) (nat_le 2 (length core.members)) cut (le-leb 2 (length core.members) (omega (arith, some, several))))) rest))
    (free_refusal (locked_in core.lock) core (Split at child order) e)

-- with one command more
pub members_after : (group : Group) (c : Command) → IsRoster group.core.members → IsRoster (applied group c).0.core.members
members_after group c roster =
    comes group (λ d x. IsRoster x.0.core.members)
    (record {
      same = λ d effect dull. roster;
      served = λ client seq op after effect e. subst (λ (core : Core). IsRoster core.members) (sym e) roster;
      joined = λ node order. applied_roster group (Join node order) tt roster;
      left = λ node order. applied_roster group (Leave node order) tt roster;
      parted = λ at child order e. staying_roster group.core.members roster (two_members group.core at (may_split group.core at child order roster e));
      split = λ at child order e. roster;
      begun = λ tx body order e. roster;
      offered = λ tx offer e. roster;
      asked = λ tx watch e. roster;
      heard = λ tx order got lock frozen by. roster;
      ended = λ d tx ends free after outcome r. r.roster roster;
      finished = λ tx binds after outcome r. r.roster roster;
    }) c

-- with all commands of a log
pub members_stay_rosters : MembersStayRosters
members_stay_rosters group [] roster = roster
members_stay_rosters group (c ∷ log) roster = members_stay_rosters (applied group c).0 log (members_after group c roster)
