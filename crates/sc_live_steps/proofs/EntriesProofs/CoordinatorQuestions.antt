-- A coordinator's question, and entries by which no member comes or goes.
use Rattle.std.proofs.Common.{◌≡◌, ℕ, Bool, true, false, cond, Option, Some, None, refl, sym, ◌∙◌, ap, arith}
use Rattle.std.proofs.lemmas.Bool.{cond_both}
use Rattle.sc_node_table.specs.Values.{Draw, Body, Command, Begin, Prepared, Watched, Core, Lock, Promised, Watching, Effect, Route, OrderRefusal, Heard, No}
use Rattle.sc_words.specs.declared.commands.bodies.Body.TheVariants as At
use Rattle.sc_words.specs.declared.commands.effects.Effect.TheVariants as Was
use Rattle.sc_group_table.specs.machine.MachineDefinitions.{Group, applied, refusal_of, ordered, has_named, begun_group, has_voted, vote_of, watch_vote_of, voted_on}
use Rattle.sc_base.specs.Definitions.{is_member}
use Rattle.sc_node_table.specs.NodeDefinitions.{entered, question, asked_link, ReplicaState, forgotten}
use Rattle.sc_live_steps.specs.calm.CalmDefinitions.{IsCounting, LeadsOn, Ways, asked_owes, body_owes}
use Rattle.sc_live_steps.specs.orders.OrderDefinitions.{is_watch, Asking, turn_of, bond_in}
use Rattle.sc_live_steps.specs.entries.StageEntries.{BondsAsk, KeepsMembers}

-- ---- what a coordinator asks

question_owes : (ways : Ways) (me node : ℕ) (core : Core) (tx : Draw) (body : Body) (heard : Option Heard)
    → body_owes ways node (question me core tx body heard) ≡ asked_owes ways node (Some ((asked_link core body heard).group, is_watch (turn_of core body heard)))
question_owes ways me node core tx (At.Split at child) heard = refl
question_owes ways me node core tx _ None = refl
question_owes ways me node core tx _ (Some heard) = refl

-- What a coordinator asks of a node is what the ways say that it asks, where they say what its bond says.
pub bonds-ask : BondsAsk
bonds-ask ways tx asked turn node r bond asks body heard order lock =
    (let b : Asking tx (asked_link r.group.core body heard).group (turn_of r.group.core body heard) ≡ Asking tx asked turn = sym (ap (λ (l : Lock). bond_in l r.group.core) lock) ∙ bond in
    let g : (asked_link r.group.core body heard).group ≡ asked = cc in let t : turn_of r.group.core body heard ≡ turn = cc in
    let e = question_owes ways r.me node r.group.core tx body heard
    ∙ (ap (λ x. asked_owes ways node (Some (x, is_watch (turn_of r.group.core body heard)))) g ∙ (ap (λ x. asked_owes ways node (Some (asked, is_watch x))) t ∙ ap (asked_owes ways node) (sym asks))) in
    omega (arith, e))

-- ---- entries by which no member comes or goes

abbrev SameParts : Group → Group × Effect → Type 0
SameParts group made = (made.0.core.gone ≡ group.core.gone) × (made.0.core.members ≡ group.core.members)

begin_same : (group after : Group) (tx : Draw) (b : Bool) (went : Option Route) (why : Option OrderRefusal) → SameParts group (after, Was.Changed) → SameParts group (cond b (group, Was.NoEffect tx) (ordered went why after group))
begin_same group after tx true went why s = (refl, refl)
begin_same group after tx false (Some into) why s = (refl, refl)
begin_same group after tx false None (Some reason) s = (refl, refl)
begin_same group after tx false None None s = s

voted_same : (why : Option No) (bond : Lock) (group : Group) (tx : Draw) → SameParts group (voted_on why bond group tx)
voted_same why bond group tx = cond_both (has_voted group.core tx) _ _ (SameParts group) (λ t. (refl, refl)) (λ t. (refl, refl))

applied_same : (group : Group) (command : Command) → KeepsMembers command → SameParts group (applied group command)
applied_same group (Begin tx body order) k = begin_same group (begun_group group tx body order) tx (has_named group.core tx) group.core.gone (refusal_of group.core (Begin tx body order)) (refl, refl)
applied_same group (Prepared tx offer) k = voted_same (vote_of group.core offer) (Promised tx offer) group tx
applied_same group (Watched tx watch) k = voted_same (watch_vote_of group.core watch) (Watching tx watch) group tx
applied_same group _ k = absurd k

pub leads_on : (command : Command) (r : ReplicaState) → KeepsMembers command → IsCounting command r → r.group.core.gone ≡ None → LeadsOn command r
unfolding entered forgotten
leads_on command r k c stands = (let s = applied_same r.group command k in record {
  counting = c;
  stands = s.0 ∙ stands;
  stays = ap (λ l. is_member l r.me) s.1 ∙ c.mine;
})
