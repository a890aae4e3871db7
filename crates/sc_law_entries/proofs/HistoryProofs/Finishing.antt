-- What a party holds by the outcome of its transaction, whatever else its record remembers.
use Rattle.std.specs.Prelude.{nat_le, length}
use Rattle.std.proofs.Common.{◌≡◌, Bool, true, false, cond, ◌&&◌, not, List, ◌∷◌, [], Option, Some, None, refl, ap, ◌∙◌}
use Rattle.sc_base.specs.Definitions.{same_draw, united}
use Rattle.sc_base.specs.declared.names.Draw.{Draw}
use Rattle.sc_words.specs.declared.commands.bodies.Offer.{Offer}
use Rattle.sc_words.specs.declared.commands.bodies.Watch.{Watch}
use Rattle.sc_words.specs.declared.commands.cores.Lock.{Lock}
use Rattle.sc_words.specs.declared.commands.cores.Lock.TheVariants.{Free, Coordinating, Promised, Watching}
use Rattle.sc_words.specs.declared.commands.commands.Command.TheVariants.{Finish}
use Rattle.sc_words.specs.declared.commands.effects.Effect.{Effect}
use Rattle.sc_words.specs.declared.commands.effects.Effect.TheVariants.{NoEffect}
use Rattle.sc_words.specs.declared.commands.votes.Outcome.{Outcome}
use Rattle.sc_words.specs.declared.commands.votes.Outcome.TheVariants.{Abort, Merged, Moved, Migrated, Divided}
use Rattle.sc_words.specs.declared.commands.votes.Past.{Past}
use Rattle.sc_group_table.specs.machine.MachineDefinitions.{Group, can_gain, finished, gained_group, lost_group, participant_after, settled_in, watch_ended, welcomed_group, applied, can_cut, has_key_of, is_coordinating}
use Rattle.sc_meaning.specs.declared.entries.Transaction.{Transaction}
use Rattle.sc_meaning.specs.entries.EntryDefinitions.{decision, after_outcome, effective_by, is_commit}
use Rattle.sc_law_entries.specs.history.HistoryDefinitions.{Holding, holding_of}
use Rattle.sc_law_entries.proofs.HistoryProofs.Elsewhere.{held_by}
use Rattle.sc_law_entries.proofs.HistoryProofs.Outcomes.{commit_in, no_commit}

-- a group with other votes
abbrev pub with_votes : Group → List (Draw × Past) → Group
with_votes group voted = record group { core = record group.core { voted = voted } }

either_plan : (b : Bool) (after after' group group' : Group) (tx : Draw) (outcome : Outcome) → holding_of after ≡ holding_of after' → holding_of group ≡ holding_of group'
    → holding_of (settled_in (cond b (Some after) None) group tx outcome).0 ≡ holding_of (settled_in (cond b (Some after') None) group' tx outcome).0
either_plan true after after' group group' tx outcome e f = e
either_plan false after after' group group' tx outcome e f = f

settled_alike : (outcome : Outcome) (group : Group) (voted : List (Draw × Past)) (tx : Draw) (offer : Offer)
    → holding_of (settled_in (participant_after outcome (with_votes group voted) offer) (with_votes group voted) tx outcome).0 ≡ holding_of (settled_in (participant_after outcome group offer) group tx outcome).0
settled_alike Abort group voted tx offer = refl
settled_alike (Merged into) group voted tx offer = refl
settled_alike (Moved at (Some gift)) group voted tx offer =
    either_plan (can_gain group.core offer at && not (has_key_of group.pairs gift.pairs)) (gained_group (with_votes group voted) offer at gift) (gained_group group offer at gift) (with_votes group voted) group tx (Moved at (Some gift)) refl refl
settled_alike (Moved at None) group voted tx offer =
    either_plan (can_cut group.core.arc at) (lost_group (with_votes group voted) at) (lost_group group at) (with_votes group voted) group tx (Moved at None) refl refl
settled_alike (Migrated node) group voted tx offer =
    either_plan (nat_le (length (united group.core.members (node ∷ []))) 9) (welcomed_group (with_votes group voted) node) (welcomed_group group node) (with_votes group voted) group tx (Migrated node) refl refl
settled_alike Divided group voted tx offer = refl

either_held : (b : Bool) (one two : Group × Effect) (holding : Holding) → holding_of one.0 ≡ holding → holding_of two.0 ≡ holding → holding_of (cond b one two).0 ≡ holding
either_held true one two holding e f = e
either_held false one two holding e f = f

same_test : (b : Bool) (one one' two two' : Group × Effect) → holding_of one.0 ≡ holding_of one'.0 → holding_of two.0 ≡ holding_of two'.0 → holding_of (cond b one two).0 ≡ holding_of (cond b one' two').0
same_test true one one' two two' e f = e
same_test false one one' two two' e f = f

finished_alike : (lock : Lock) (group : Group) (voted : List (Draw × Past)) (tx : Draw) (outcome : Outcome) → holding_of (finished lock (with_votes group voted) tx outcome).0 ≡ holding_of (finished lock group tx outcome).0
finished_alike Free group voted tx outcome = refl
finished_alike (Coordinating locked body order heard) group voted tx outcome = refl
finished_alike (Promised locked offer) group voted tx outcome =
    same_test (same_draw locked tx) (settled_in (participant_after outcome (with_votes group voted) offer) (with_votes group voted) tx outcome) (settled_in (participant_after outcome group offer) group tx outcome)
    (with_votes group voted, NoEffect tx) (group, NoEffect tx) (settled_alike outcome group voted tx offer) refl
finished_alike (Watching locked watch) group voted tx outcome =
    same_test (same_draw locked tx) (watch_ended outcome (with_votes group voted) tx watch) (watch_ended outcome group tx watch) (with_votes group voted, NoEffect tx) (group, NoEffect tx) refl refl

outcome_alike : (decided : Option Outcome) (group : Group) (voted : List (Draw × Past)) (tx : Draw) → holding_of (after_outcome decided tx (with_votes group voted)) ≡ holding_of (after_outcome decided tx group)
outcome_alike None group voted tx = refl
outcome_alike (Some outcome) group voted tx =
    elim (is_commit outcome) as (λ b. holding_of (cond b (applied (with_votes group voted) (Finish tx outcome)).0 (with_votes group voted)) ≡ holding_of (cond b (applied group (Finish tx outcome)).0 group)) [
      | true ↦ finished_alike group.core.lock group voted tx outcome
      | false ↦ refl
    ]

by_lock : (lock : Lock) (transactions : List Transaction) (group : Group) (voted : List (Draw × Past)) → holding_of (effective_by lock transactions (with_votes group voted)) ≡ holding_of (effective_by lock transactions group)
by_lock Free transactions group voted = refl
by_lock (Coordinating tx body order heard) transactions group voted = refl
by_lock (Promised tx offer) transactions group voted = outcome_alike (decision tx transactions) group voted tx
by_lock (Watching tx watch) transactions group voted = outcome_alike (decision tx transactions) group voted tx

-- votes that are remembered change nothing that is held
pub votes_held : (transactions : List Transaction) (group : Group) (voted : List (Draw × Past)) → held_by transactions (with_votes group voted) ≡ held_by transactions group
votes_held transactions group voted = by_lock group.core.lock transactions group voted

-- ---- by the lock

-- a group that is free, or coordinates, holds what its own log says
pub free_held : (transactions : List Transaction) (group : Group) → group.core.lock ≡ Free → held_by transactions group ≡ holding_of group
free_held transactions group e = ap (λ lock. holding_of (effective_by lock transactions group)) e

pub coordinating_held : (transactions : List Transaction) (group : Group) (lock : Lock) → group.core.lock ≡ lock → effective_by lock transactions group ≡ group → held_by transactions group ≡ holding_of group
coordinating_held transactions group lock e same = ap (λ l. holding_of (effective_by l transactions group)) e ∙ ap holding_of same

watched_either : (locked tx : Draw) (lock : Lock) (group : Group) (outcome : Outcome) → ((watch : Watch) → lock ≡ Watching locked watch → holding_of (finished lock group tx outcome).0 ≡ holding_of group)
watched_either locked tx lock group outcome watch e =
    ap (λ l. holding_of (finished l group tx outcome).0) e
    ∙ either_held (same_draw locked tx) (watch_ended outcome group tx watch) (group, NoEffect tx) (holding_of group) refl refl

watching_outcome : (decided : Option Outcome) (tx : Draw) (group : Group) (watch : Watch) → group.core.lock ≡ Watching tx watch → holding_of (after_outcome decided tx group) ≡ holding_of group
watching_outcome None tx group watch e = refl
watching_outcome (Some outcome) tx group watch e =
    elim (is_commit outcome) as (λ b. holding_of (cond b (applied group (Finish tx outcome)).0 group) ≡ holding_of group) [
      | true ↦ watched_either tx tx group.core.lock group outcome watch e
      | false ↦ refl
    ]

-- so does a watcher, whatever was decided
pub watching_held : (transactions : List Transaction) (group : Group) (tx : Draw) (watch : Watch) → group.core.lock ≡ Watching tx watch → held_by transactions group ≡ holding_of group
watching_held transactions group tx watch e =
    ap (λ lock. holding_of (effective_by lock transactions group)) e ∙ watching_outcome (decision tx transactions) tx group watch e

-- and a participant before a commit
pub promised_held : (transactions : List Transaction) (group : Group) (tx : Draw) (offer : Offer) → group.core.lock ≡ Promised tx offer → commit_in (decision tx transactions) ≡ None → held_by transactions group ≡ holding_of group
promised_held transactions group tx offer e none =
    ap (λ lock. holding_of (effective_by lock transactions group)) e ∙ ap holding_of (no_commit (decision tx transactions) tx group none)

-- and a coordinator
pub coordinator_held : (transactions : List Transaction) (group : Group) (tx : Draw) (lock : Lock) → group.core.lock ≡ lock → is_coordinating lock tx ≡ true → held_by transactions group ≡ holding_of group
coordinator_held transactions group tx Free e fact = (let no_way : false ≡ true = fact in absurd (cc))
coordinator_held transactions group tx (Coordinating locked body order heard) e fact = coordinating_held transactions group (Coordinating locked body order heard) e refl
coordinator_held transactions group tx (Promised locked offer) e fact = (let no_way : false ≡ true = fact in absurd (cc))
coordinator_held transactions group tx (Watching locked watch) e fact = (let no_way : false ≡ true = fact in absurd (cc))
