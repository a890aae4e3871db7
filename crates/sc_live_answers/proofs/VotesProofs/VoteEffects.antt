-- What a vote that is recorded comes to at a coordinator: it decides, or by a Yes on a merge the one that stands behind is asked.
use Rattle.std.proofs.Common.{◌≡◌, ℕ, Bool, true, false, true≢false, Option, Some, None, ◌⊎◌, inl, inr, refl, sym, ◌∙◌, ap, subst}
use Rattle.std.specs.Prelude.{◌&&◌, not, cond}
use Rattle.std.proofs.lemmas.Bool.{cases_Bool, cond-true, cond-false}
use Rattle.sc_base.specs.Definitions.{holds, same_draw, is_member}
use Rattle.sc_node_table.specs.Values.{Draw, Body, Command, RecordVote, RecordWatch, Coordinating, Effect, Changed, NoEffect, Frozen, Heard, Outcome, Divided, Merged, Migrated, Moved, Past}
use Rattle.sc_base.proofs.Lemmas.{same_name}
use Rattle.sc_words.specs.commands.CommandDefinitions.{decided_in, is_changed}
use Rattle.sc_words.specs.declared.commands.bodies.Body.TheVariants as At
use Rattle.sc_words.specs.declared.commands.votes.Past.TheVariants as Cast
use Rattle.sc_words.specs.declared.commands.votes.Vote.TheVariants as Vows
use Rattle.sc_group_table.specs.machine.MachineDefinitions.{Group, applied, can_migrate, can_repart, can_split, closing_group, closing_plan, giving_group, giving_plan, has_key_of, may_merge, merged_group, merged_route, migrated_group, part_gift, taken, taking_group, taking_plan, left_group, committed, granted, heard_group, watch_answered, vote_recorded, watch_recorded}
use Rattle.sc_live_journals.specs.scenes.SceneDefinitions.{StaysIn}

-- it decides
abbrev pub Decides : Group × Effect → Type 0
Decides x = (outcome : Outcome) × (decided_in x.1 ≡ Some outcome)

-- a plan that can be made is carried out
made_plan : (b : Bool) (plan : Group × Outcome) (group : Group) (tx : Draw) → b ≡ true → Decides (committed (cond b (Some plan) None) group tx)
made_plan b plan group tx e = subst (λ p. Decides (committed p group tx)) (sym (cond-true b (Some plan) None e)) (plan.1, refl)

-- the entry, by a lock
vote_comes : (group : Group) (tx : Draw) (body : Body) (order by : ℕ) (frozen : Frozen) → group.core.lock ≡ Coordinating tx body order None → (Rattle.sc_group_table.specs.machine.Transactions.asks_watcher body None ≡ false)
    → applied group (RecordVote tx (Vows.Yes frozen) by) ≡ granted body group tx order frozen by
vote_comes group tx body order by frozen lock none =
    ap (λ l. vote_recorded l group tx (Vows.Yes frozen) by) lock
    ∙ (cond-true (same_draw tx tx) (cond (Rattle.sc_group_table.specs.machine.Transactions.asks_watcher body None) (group, NoEffect tx) (granted body group tx order frozen by)) (group, NoEffect tx) (same_name tx tx refl)
    ∙ cond-false (Rattle.sc_group_table.specs.machine.Transactions.asks_watcher body None) (group, NoEffect tx) (granted body group tx order frozen by) none)

module _ (group : Group) (tx : Draw) (order by : ℕ) (frozen : Frozen) where
  abbrev entry : Command
  entry = RecordVote tx (Vows.Yes frozen) by

  -- a moved boundary
  pub repart_true : (at : ℕ) → group.core.lock ≡ Coordinating tx (At.Repart at) order None → (holds group.core.arc at ≡ true → can_repart group.core at frozen ≡ true)
      → (holds group.core.arc at ≡ false → (can_repart group.core at frozen && not (has_key_of group.pairs (taken at frozen).pairs)) ≡ true) → Decides (applied group (RecordVote tx (Vows.Yes frozen) by))
  repart_true at lock gives takes =
      subst Decides (sym (vote_comes group tx (At.Repart at) order by frozen lock refl)) (elim (cases_Bool (holds group.core.arc at)) [
        | inl t ↦ subst (λ p. Decides (committed p group tx)) (sym (cond-true (holds group.core.arc at) (giving_plan group at frozen) (taking_plan group at frozen) t))
            (made_plan (can_repart group.core at frozen) (giving_group group at frozen, Moved at (Some (part_gift group at))) group tx (gives t))
        | inr f ↦ subst (λ p. Decides (committed p group tx)) (sym (cond-false (holds group.core.arc at) (giving_plan group at frozen) (taking_plan group at frozen) f))
            (made_plan (can_repart group.core at frozen && not (has_key_of group.pairs (taken at frozen).pairs)) (taking_group group at frozen, Moved at None) group tx (takes f))
      ])

  -- a member that moves on
  pub migrate_true : (node : ℕ) → group.core.lock ≡ Coordinating tx (At.Migrate node) order None → can_migrate group.core node frozen ≡ true → Decides (applied group (RecordVote tx (Vows.Yes frozen) by))
  migrate_true node lock can =
      subst Decides (sym (vote_comes group tx (At.Migrate node) order by frozen lock refl)) (made_plan (can_migrate group.core node frozen) (migrated_group group node frozen, Migrated node) group tx can)

  -- a merge: of the last two groups it is carried out, else the one behind is asked
  abbrev pub AsksOn : ℕ → Type 0
  AsksOn me =
      Decides (applied group (RecordVote tx (Vows.Yes frozen) by))
      ⊎ ((is_changed (applied group (RecordVote tx (Vows.Yes frozen) by)).1 ≡ true) × (StaysIn (RecordVote tx (Vows.Yes frozen) by) me group × (frozen.succ.group ≡ group.core.id → ⊥)))

  pub merge_true : (me : ℕ) → group.core.lock ≡ Coordinating tx At.Merge order None → may_merge group frozen ≡ true → group.core.gone ≡ None → is_member group.core.members me ≡ true → AsksOn me
  merge_true me lock may stands mine =
      let comes = vote_comes group tx At.Merge order by frozen lock refl in
      let heard = heard_group group tx At.Merge order (record { frozen = frozen; by = by }) in
      elim (cases_Bool (same_draw frozen.succ.group group.core.id)) [
        | inl t ↦ inl (subst Decides (sym (comes ∙ cond-true (same_draw frozen.succ.group group.core.id) (committed (closing_plan group frozen) group tx) (heard, Changed) t))
            (made_plan (may_merge group frozen) (closing_group group frozen, Merged (merged_route group.core frozen)) group tx may))
        | inr f ↦ (
            let fact : applied group (RecordVote tx (Vows.Yes frozen) by) ≡ (heard, Changed) = comes ∙ cond-false (same_draw frozen.succ.group group.core.id) (committed (closing_plan group frozen) group tx) (heard, Changed) f in
            inr (
              ap (λ (x : Group × Effect). is_changed x.1) fact,
              (
                record { stands = ap (λ (x : Group × Effect). x.0.core.gone) fact ∙ stands; mine = ap (λ (x : Group × Effect). is_member x.0.core.members me) fact ∙ mine },
                λ e. true≢false (sym (same_name frozen.succ.group group.core.id e) ∙ f),
              ),
            ))
      ]

-- ---- a watcher's vote

watch_comes : (group : Group) (tx : Draw) (body : Body) (order by : ℕ) (heard : Option Heard) (vote : Past) → group.core.lock ≡ Coordinating tx body order heard → (Rattle.sc_group_table.specs.machine.Transactions.asks_watcher body heard ≡ true)
    → applied group (RecordWatch tx vote by) ≡ watch_answered vote body heard group tx
watch_comes group tx body order by heard vote lock asks =
    ap (λ l. watch_recorded l group tx vote) lock
    ∙ (cond-true (same_draw tx tx) (cond (Rattle.sc_group_table.specs.machine.Transactions.asks_watcher body heard) (watch_answered vote body heard group tx) (group, NoEffect tx)) (group, NoEffect tx) (same_name tx tx refl)
    ∙ cond-true (Rattle.sc_group_table.specs.machine.Transactions.asks_watcher body heard) (watch_answered vote body heard group tx) (group, NoEffect tx) asks)

-- of a merge
pub next_true : (group : Group) (tx : Draw) (order by : ℕ) (heard : Heard) (vote : Past) → group.core.lock ≡ Coordinating tx At.Merge order (Some heard) → may_merge group heard.frozen ≡ true → Decides (applied group (RecordWatch tx vote by))
next_true group tx order by heard vote lock may = subst Decides (sym (watch_comes group tx At.Merge order by (Some heard) vote lock refl)) (by_vote vote)
  where
    by_vote : (v : Past) → Decides (watch_answered v At.Merge (Some heard) group tx)
    by_vote Cast.Yes = made_plan (may_merge group heard.frozen) (merged_group group heard.frozen, Merged (merged_route group.core heard.frozen)) group tx may
    by_vote (Cast.No why) = (_, refl)
    by_vote Cast.Ended = (_, refl)

-- of a split
pub lone_true : (group : Group) (tx child : Draw) (at order by : ℕ) (heard : Option Heard) (vote : Past) → group.core.lock ≡ Coordinating tx (At.Split at child) order heard → can_split group.core at ≡ true → Decides (applied group (RecordWatch tx vote by))
lone_true group tx child at order by heard vote lock may = subst Decides (sym (watch_comes group tx (At.Split at child) order by heard vote lock refl)) (by_vote vote)
  where
    by_vote : (v : Past) → Decides (watch_answered v (At.Split at child) heard group tx)
    by_vote Cast.Yes = made_plan (can_split group.core at) (left_group group at child, Divided) group tx may
    by_vote (Cast.No why) = (_, refl)
    by_vote Cast.Ended = (_, refl)
