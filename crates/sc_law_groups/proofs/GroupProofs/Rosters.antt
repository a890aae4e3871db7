-- A group that no split divides has one to nine members, ascending, whatever it executes.
use Rattle.std.proofs.Common.{◌≡◌, ℕ, ◌≤◌, ◌&&◌, not, true, false, cond, eqb, length, Option, Some, None, inl, inr, refl, sym, ◌∙◌, subst, arith}
use Rattle.std.proofs.lemmas.Bool.{cases_Bool, eqb-false, and_from, cond_both}
use Rattle.sc_node_table.specs.Values.{Command, Noop, Call, Join, Leave, Core, Draw, Route, OrderRefusal, TooManyMembers, NotMember, LastMember, IsMember}
use Rattle.sc_group_table.specs.machine.MachineDefinitions.{Group, applied, locked_in, join_refused, leave_refused, refused_in, refusal_of, ordered, with_node, without_node}
use Rattle.sc_base.specs.Definitions.{IsRoster, is_member}
use Rattle.sc_base.proofs.Lemmas.{roster_with, roster_without}
use Rattle.sc_law_entries.specs.history.HistoryDefinitions.{LeavesWhole}
use Rattle.sc_law_entries.proofs.HistoryProofs.HistoryLemmas.{called_members}

-- an order makes the group another one only where it is not refused
pub ordered_if : (P : Group → Type 0) (gone : Option Route) (why : Option OrderRefusal) (after group : Group) → (why ≡ None → P after) → P group → P (ordered gone why after group).0
ordered_if P (Some into) why after group p q = q
ordered_if P None (Some why) after group p q = q
ordered_if P None None after group p q = p refl

-- a join that is not refused
may_join : (core : Core) (node : ℕ) → join_refused core node ≡ None → IsRoster core.members → (is_member core.members node ≡ false) × (length core.members ≤ 8)
may_join core node e roster =
    cond_both (eqb (length core.members) 9 && not (is_member core.members node)) (Some (TooManyMembers 10)) (cond (is_member core.members node) (Some IsMember) None)
    (λ o. o ≡ None → (is_member core.members node ≡ false) × (length core.members ≤ 8))
    (λ _ k. cc)
    (λ few k. cond_both (is_member core.members node) (Some IsMember) None (λ o. o ≡ None → (is_member core.members node ≡ false) × (length core.members ≤ 8))
    (λ _ j. cc)
    (λ out j. (
      out,
      (
          let most = roster.most in
          elim (cases_Bool (eqb (length core.members) 9)) [
            | inl t ↦ (let no_way : false ≡ true = sym few ∙ and_from (eqb (length core.members) 9) (not (is_member core.members node)) t (subst (λ b. not b ≡ true) (sym out) refl) in absurd (cc))
            | inr f ↦ (let ne = eqb-false (length core.members) 9 f in omega (arith, most, ne))
          ]),
    )) k) e

-- a leave that is not refused
may_leave : (core : Core) (node : ℕ) → leave_refused core node ≡ None → IsRoster core.members → 2 ≤ length core.members
may_leave core node e roster =
    cond_both (not (is_member core.members node)) (Some NotMember) (cond (eqb (length core.members) 1) (Some LastMember) None) (λ o. o ≡ None → 2 ≤ length core.members)
    (λ _ k. cc)
    (λ _ k. cond_both (eqb (length core.members) 1) (Some LastMember) None (λ o. o ≡ None → 2 ≤ length core.members)
    (λ _ j. cc)
    (λ f j. (let some = roster.some in let ne = eqb-false (length core.members) 1 f in omega (arith, some, ne))) k) e

-- a refusal whatever the lock is one of a free group
pub free_refusal : (o : Option Draw) (core : Core) (c : Command) → refused_in o core c ≡ None → refused_in None core c ≡ None
free_refusal (Some tx) core c e = cc
free_refusal None core c e = e

-- so does one command
pub applied_roster : (group : Group) (c : Command) → LeavesWhole c → IsRoster group.core.members → IsRoster (applied group c).0.core.members
applied_roster group (Call client seq op) whole roster = subst IsRoster (sym (called_members group client seq op)) roster
applied_roster group (Join node order) whole roster =
    ordered_if (λ g. IsRoster g.core.members) group.core.gone (refusal_of group.core (Join node order)) (with_node group node) group
    (λ e. (
    let may = may_join group.core node (free_refusal (locked_in group.core.lock) group.core (Join node order) e) roster in
    let few = may.1 in
    roster_with group.core.members node roster may.0 (omega (arith, few)))) roster
applied_roster group (Leave node order) whole roster =
    ordered_if (λ g. IsRoster g.core.members) group.core.gone (refusal_of group.core (Leave node order)) (without_node group node) group
    (λ e. roster_without group.core.members node roster (may_leave group.core node (free_refusal (locked_in group.core.lock) group.core (Leave node order) e) roster)) roster
applied_roster group Noop whole roster = roster
applied_roster group _ whole roster = absurd whole
