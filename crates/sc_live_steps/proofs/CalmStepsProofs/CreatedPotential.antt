-- What a replica owes that is made: at its group's birth, or of a state that is sent.
use Rattle.std.proofs.Common.{◌≡◌, ℕ, ◌+◌, ◌≤◌, Bool, true, false, cond, List, [], sum_by, Option, Some, None, refl, ◌∙◌, ap, arith}
use Rattle.sc_node_table.specs.Values.{Base, Route, Mail}
use Rattle.sc_base.specs.Definitions.{is_member}
use Rattle.sc_node_table.specs.NodeDefinitions.{looked, named, ReplicaState, Place, members, forgotten, installed_replica, looked_up, made_by}
use Rattle.sc_live_steps.specs.calm.CalmDefinitions.{MadeReplicasOwe, Ways, mail_owes, replica_owes, idle_owes, place_owes}
use Rattle.sc_live_steps.proofs.CalmStepsProofs.InstallRows.{looks_up}
use Rattle.sc_live_steps.proofs.CalmStepsProofs.GoneLeaders.{looked_gone}

-- one that is made of a state waits for nothing, and does not run
pub installed_idle : (most me slot : ℕ) (base : Base) (sets : List (List ℕ)) →
    (replica_owes most (installed_replica me slot base sets) ≡ 0) × ((installed_replica me slot base sets).running ≡ false) × ((installed_replica me slot base sets).group.core.gone ≡ base.core.gone)
unfolding forgotten
installed_idle most me slot base sets = (refl, refl, refl)

module _ (ways : Ways) where
  gone_looks : (from : ℕ) (into : Route) (r : ReplicaState) (mails : List Mail) → r.running ≡ false → r.group.core.gone ≡ Some into → place_owes ways (looked_up from (r, mails)) ≤ replica_owes ways.most r + sum_by (mail_owes ways) mails
  unfolding looked_up
  gone_looks from into r mails off gone = by (is_member (members r) from)
    where
      idle : idle_owes r.running r.group.core.gone ≡ 0
      idle = ap (λ b. idle_owes b r.group.core.gone) off ∙ ap (idle_owes false) gone

      by : (b : Bool) → place_owes ways (cond {A = Place} b (record r { hint = Some from }, mails) (looked (r, mails))) ≤ replica_owes ways.most r + sum_by (mail_owes ways) mails
      by true = let none = idle in omega (arith, none)
      by false = let none = idle in let same = ap (place_owes ways) (looked_gone ways into r mails off gone) in omega (arith, none, same)

-- A replica that is made of a state that is sent owes less than that mail and what a group owes in which none runs.
pub made_owe : MadeReplicasOwe
unfolding made_by
made_owe ways me from group slot base sets = by base.core.gone refl
  where
    r : ReplicaState
    r = installed_replica me slot (named group base) sets

    new : (replica_owes ways.most r ≡ 0) × (r.running ≡ false) × (r.group.core.gone ≡ base.core.gone)
    new = installed_idle ways.most me slot (named group base) sets

    by : (o : Option Route) → base.core.gone ≡ o → place_owes ways (looked_up from (installed_replica me slot (named group base) sets, [])) + 1 ≤ idle_owes false base.core.gone + 1
    by None e =
        let le = looks_up ways from r [] new.1 in
        let none = new.0 in
        let idle = ap (idle_owes false) e in
        omega (arith, le, none, idle)
    by (Some into) e =
        let le = gone_looks ways from into r [] new.1 (new.2 ∙ e) in
        let none = new.0 in
        omega (arith, le, none)
