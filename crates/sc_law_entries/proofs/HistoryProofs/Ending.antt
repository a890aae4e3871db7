-- An entry by which a party takes over an outcome: what it holds is what it held by the decision.
use Rattle.std.specs.Prelude.{nat_le, length}
use Rattle.std.proofs.Common.{◌≡◌, ℕ, Bool, true, false, cond, ◌&&◌, not, [], ◌∷◌, Some, None, ◌⊎◌, inl, inr, refl, sym, ap, ◌∙◌}
use Rattle.std.specs.FinMap.{empty}
use Rattle.std.proofs.lemmas.Bool.{cond_both}
use Rattle.sc_base.specs.Definitions.{same_draw, united}
use Rattle.sc_base.specs.declared.names.Draw.{Draw}
use Rattle.sc_base.proofs.Lemmas.{draw_is}
use Rattle.sc_words.specs.declared.commands.bodies.Offer.{Offer}
use Rattle.sc_words.specs.declared.commands.commands.Command.TheVariants.{Finish}
use Rattle.sc_words.specs.declared.commands.cores.Lock.{Lock}
use Rattle.sc_words.specs.declared.commands.cores.Lock.TheVariants.{Free, Coordinating, Promised, Watching}
use Rattle.sc_words.specs.declared.commands.effects.Effect.{Effect}
use Rattle.sc_words.specs.declared.commands.effects.Effect.TheVariants.{NoEffect}
use Rattle.sc_words.specs.declared.commands.votes.Gift.{Gift}
use Rattle.sc_words.specs.declared.commands.votes.Outcome.{Outcome}
use Rattle.sc_words.specs.declared.commands.votes.Outcome.TheVariants.{Abort, Merged, Moved, Migrated, Divided}
use Rattle.sc_group_table.specs.machine.MachineDefinitions.{Group, can_gain, finished, gained_group, lost_group, participant_after, settled_in, watch_ended, welcomed_group, applied, locked_in, can_cut, has_key_of}
use Rattle.sc_meaning.specs.entries.EntryDefinitions.{decision, after_outcome, effective_by, is_commit, StoreWorld, named_group, with_result}
use Rattle.sc_law_entries.specs.history.HistoryDefinitions.{RequestOf, holding_of, MayFinish, HasKnownTable}
use Rattle.sc_law_entries.proofs.HistoryProofs.Elsewhere.{held_by, held_some, here, same_table}
use Rattle.sc_law_entries.proofs.HistoryProofs.Finishing.{free_held, watching_held}
use Rattle.sc_law_entries.proofs.HistoryProofs.Logs.{applied_same}
use Rattle.sc_law_entries.proofs.HistoryProofs.Staying.{Goes, stays_known}

-- a gift comes with an outcome
abbrev IsGiven : Outcome → Type 0
IsGiven outcome = (at : ℕ) × (gift : Gift) × (outcome ≡ Moved at (Some gift))

-- the table after an end: as it was, or empty, or that of a free group that was given something
abbrev EndsWith : Group → Group → Outcome → Type 0
EndsWith group after outcome = (after.clients ≡ group.clients) ⊎ (after.clients ≡ empty) ⊎ ((after.core.lock ≡ Free) × IsGiven outcome)

settled_table : (outcome : Outcome) (group : Group) (tx : Draw) (offer : Offer) → EndsWith group (settled_in (participant_after outcome group offer) group tx outcome).0 outcome
settled_table Abort group tx offer = inl refl
settled_table (Merged into) group tx offer = inr (inl refl)
settled_table (Moved at (Some gift)) group tx offer =
    elim (can_gain group.core offer at && not (has_key_of group.pairs gift.pairs)) as (λ b. EndsWith group (settled_in (cond b (Some (gained_group group offer at gift)) None) group tx (Moved at (Some gift))).0 (Moved at (Some gift))) [
      | true ↦ inr (inr (refl, (at, gift, refl)))
      | false ↦ inl refl
    ]
settled_table (Moved at None) group tx offer =
    elim (can_cut group.core.arc at) as (λ b. EndsWith group (settled_in (cond b (Some (lost_group group at)) None) group tx (Moved at None)).0 (Moved at None)) [ true ↦ inl refl | false ↦ inl refl ]
settled_table (Migrated node) group tx offer =
    elim (nat_le (length (united group.core.members (node ∷ []))) 9) as (λ b. EndsWith group (settled_in (cond b (Some (welcomed_group group node)) None) group tx (Migrated node)).0 (Migrated node)) [ true ↦ inl refl | false ↦ inl refl ]
settled_table Divided group tx offer = inl refl

-- the same by the lock: what is given comes to a party of this transaction
abbrev EndsBy : Lock → Group → Group → Draw → Outcome → Type 0
EndsBy lock group after tx outcome = (after.clients ≡ group.clients) ⊎ (after.clients ≡ empty) ⊎ ((after.core.lock ≡ Free) × IsGiven outcome × (locked_in lock ≡ Some tx))

of_party : (lock : Lock) (group after : Group) (tx : Draw) (outcome : Outcome) → locked_in lock ≡ Some tx → EndsWith group after outcome → EndsBy lock group after tx outcome
of_party lock group after tx outcome e (inl same) = inl same
of_party lock group after tx outcome e (inr (inl none)) = inr (inl none)
of_party lock group after tx outcome e (inr (inr given)) = inr (inr (given.0, given.1, e))

ends_with : (lock : Lock) (group : Group) (tx : Draw) (outcome : Outcome) → EndsBy lock group (finished lock group tx outcome).0 tx outcome
ends_with Free group tx outcome = inl refl
ends_with (Coordinating locked body order heard) group tx outcome = inl refl
ends_with (Promised locked offer) group tx outcome =
    cond_both (same_draw locked tx) (settled_in (participant_after outcome group offer) group tx outcome) (group, NoEffect tx) (λ r. EndsBy (Promised locked offer) group r.0 tx outcome)
    (λ t. of_party (Promised locked offer) group (settled_in (participant_after outcome group offer) group tx outcome).0 tx outcome (ap Some (draw_is locked tx t)) (settled_table outcome group tx offer)) (λ _. inl refl)
ends_with (Watching locked watch) group tx outcome =
    cond_both (same_draw locked tx) (watch_ended outcome group tx watch) (group, NoEffect tx) (λ r. EndsBy (Watching locked watch) group r.0 tx outcome) (λ _. inl refl) (λ _. inl refl)

-- ---- what a participant holds

-- an end that is made frees the group, and one that is not leaves it; where the outcome is no commit, what is held stays
record IsEnd (group : Group) (outcome : Outcome) (after : Group) : Type 0 where
  either : (after ≡ group) ⊎ (after.core.lock ≡ Free)
  abort : is_commit outcome ≡ false → holding_of after ≡ holding_of group

settled_end : (outcome : Outcome) (group : Group) (tx : Draw) (offer : Offer) → IsEnd group outcome (settled_in (participant_after outcome group offer) group tx outcome).0
settled_end Abort group tx offer = record { either = inr refl; abort = λ _. refl }
settled_end (Merged into) group tx offer = record { either = inr refl; abort = λ e. (let no_way : true ≡ false = e in absurd (cc)) }
settled_end (Moved at (Some gift)) group tx offer = record {
  either = elim (can_gain group.core offer at && not (has_key_of group.pairs gift.pairs)) as (λ b. ((settled_in (cond b (Some (gained_group group offer at gift)) None) group tx (Moved at (Some gift))).0 ≡ group)
      ⊎ ((settled_in (cond b (Some (gained_group group offer at gift)) None) group tx (Moved at (Some gift))).0.core.lock ≡ Free)) [ true ↦ inr refl | false ↦ inl refl ];
  abort = λ e. (let no_way : true ≡ false = e in absurd (cc));
}
settled_end (Moved at None) group tx offer = record {
  either = elim (can_cut group.core.arc at) as (λ b. ((settled_in (cond b (Some (lost_group group at)) None) group tx (Moved at None)).0 ≡ group)
      ⊎ ((settled_in (cond b (Some (lost_group group at)) None) group tx (Moved at None)).0.core.lock ≡ Free)) [ true ↦ inr refl | false ↦ inl refl ];
  abort = λ e. (let no_way : true ≡ false = e in absurd (cc));
}
settled_end (Migrated node) group tx offer = record {
  either = elim (nat_le (length (united group.core.members (node ∷ []))) 9) as (λ b. ((settled_in (cond b (Some (welcomed_group group node)) None) group tx (Migrated node)).0 ≡ group)
      ⊎ ((settled_in (cond b (Some (welcomed_group group node)) None) group tx (Migrated node)).0.core.lock ≡ Free)) [ true ↦ inr refl | false ↦ inl refl ];
  abort = λ e. (let no_way : true ≡ false = e in absurd (cc));
}
settled_end Divided group tx offer = record { either = inl refl; abort = λ e. (let no_way : true ≡ false = e in absurd (cc)) }

module _ (world : StoreWorld) (group : Group) (tx : Draw) (outcome : Outcome) (decided : locked_in group.core.lock ≡ Some tx → decision tx world.transactions ≡ Some outcome) where
  abbrev after : Group
  after = (applied group (Finish tx outcome)).0

  unchanged : (lock : Lock) → group.core.lock ≡ lock → (finished lock group tx outcome).0 ≡ group → held_by world.transactions after ≡ held_by world.transactions group
  unchanged lock e same = ap (held_by world.transactions) (ap (λ l. (finished l group tx outcome).0) e ∙ same)

  -- a participant that goes by the outcome
  promised : (offer : Offer) → group.core.lock ≡ Promised tx offer → (after ≡ (settled_in (participant_after outcome group offer) group tx outcome).0) → IsEnd group outcome (settled_in (participant_after outcome group offer) group tx outcome).0
      → held_by world.transactions after ≡ held_by world.transactions group
  promised offer e fact ended = elim ended.either [
    | inl same ↦ ap (held_by world.transactions) (fact ∙ same)
    | inr free ↦ free_held world.transactions after (ap (λ (g : Group). g.core.lock) fact ∙ free) ∙ sym (ap (λ lock. holding_of (effective_by lock world.transactions group)) e ∙ ap (λ o. holding_of (after_outcome o tx group)) (decided (ap locked_in e)) ∙ by_outcome (is_commit outcome) refl)
  ]
    where
      by_outcome : (b : Bool) → is_commit outcome ≡ b → holding_of (cond (is_commit outcome) after group) ≡ holding_of after
      by_outcome true t = ap (λ b. holding_of (cond b after group)) t
      by_outcome false f = ap (λ b. holding_of (cond b after group)) f ∙ sym (ap holding_of fact ∙ ended.abort f)

  -- an end that a test lets happen
  tested : (lock : Lock) → group.core.lock ≡ lock → (b : Bool) (ended : Group × Effect) → (finished lock group tx outcome).0 ≡ (cond b ended (group, NoEffect tx)).0
      → (b ≡ true → after ≡ ended.0 → held_by world.transactions after ≡ held_by world.transactions group) → held_by world.transactions after ≡ held_by world.transactions group
  tested lock e true ended fact ends = ends refl (ap (λ l. (finished l group tx outcome).0) e ∙ fact)
  tested lock e false ended fact ends = unchanged lock e fact

  by_lock : (lock : Lock) → group.core.lock ≡ lock → held_by world.transactions after ≡ held_by world.transactions group
  by_lock Free e = unchanged Free e refl
  by_lock (Coordinating locked body order heard) e = unchanged (Coordinating locked body order heard) e refl
  by_lock (Promised locked offer) e =
      tested (Promised locked offer) e (same_draw locked tx) (settled_in (participant_after outcome group offer) group tx outcome) refl
      (λ t fact. promised offer (e ∙ ap (λ x. Promised x offer) (draw_is locked tx t)) fact (settled_end outcome group tx offer))
  by_lock (Watching locked watch) e =
      tested (Watching locked watch) e (same_draw locked tx) (watch_ended outcome group tx watch) refl
      (λ t fact. free_held world.transactions after (ap (λ (g : Group). g.core.lock) fact) ∙ ap holding_of fact ∙ sym (watching_held world.transactions group locked watch e))

  -- what a party holds stays
  pub end_held : held_by world.transactions after ≡ held_by world.transactions group
  end_held = by_lock group.core.lock refl

module _ (request : RequestOf) (world : StoreWorld) (name : Draw) (group : Group) (found : named_group name world.groups ≡ Some group) (tx : Draw) (outcome : Outcome) (may : MayFinish world group tx outcome) where
  abbrev result : Group × Effect
  result = applied group (Finish tx outcome)

  abbrev later : StoreWorld
  later = with_result world group (Finish tx outcome) result

  same_id : result.0.core.id ≡ group.core.id
  same_id = (applied_same group (Finish tx outcome)).0

  known : EndsBy group.core.lock group result.0 tx outcome → HasKnownTable world later group.core.id result.0
  known (inl same) = same_table world name group found (Finish tx outcome) result same_id refl same
  known (inr (inl none)) = inl none
  known (inr (inr given)) =
      let gift = given.1 in
      let cut = may.cut given.2 gift.0 gift.1 gift.2 in
      inr (inr (holding_of result.0, held_some later group.core.id result.0 cut (here world name group found (Finish tx outcome) result same_id refl group.core.id refl) ∙ ap Some (free_held world.transactions result.0 given.0), refl))

  pub finish_goes : Goes request world name group found (Finish tx outcome) (applied group (Finish tx outcome))
  finish_goes =
      stays_known request world name group found (Finish tx outcome) result same_id refl (λ other. refl) (λ t. refl)
      (end_held world group tx outcome may.decided) refl (known (ends_with group.core.lock group tx outcome))
