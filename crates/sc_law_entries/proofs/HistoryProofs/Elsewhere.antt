-- What one entry leaves of what groups hold that it is not of.
use Rattle.std.proofs.Common.{◌≡◌, true, false, List, Option, Some, None, inl, inr, refl, sym, ap, ◌∙◌, subst, append-nil}
use Rattle.std.specs.Prelude.{is_some}
use Rattle.std.specs.Option.{option_map, option_and_then}
use Rattle.std.proofs.lemmas.Option.{same_Some}
use Rattle.sc_base.specs.Definitions.{Arc}
use Rattle.sc_base.specs.declared.names.Draw.{Draw}
use Rattle.sc_words.specs.declared.commands.commands.Command.{Command}
use Rattle.sc_words.specs.declared.commands.effects.Effect.{Effect}
use Rattle.sc_group_table.specs.machine.MachineDefinitions.{Group}
use Rattle.sc_meaning.specs.entries.EntryDefinitions.{birth_of, effective_by, arc_in, StoreWorld, groups_after, named_group, with_group, with_result}
use Rattle.sc_meaning.specs.declared.entries.Transaction.{Transaction}
use Rattle.sc_law_entries.specs.history.HistoryDefinitions.{Holding, holding_of, HasKnownTable, holdings_in}
use Rattle.sc_meaning.proofs.EntriesProofs.EntryLemmas.{found_name, draw_cases}
use Rattle.sc_law_entries.proofs.HistoryProofs.Found.{found_now, found_still}

-- what a group holds by the decisions of these transactions
abbrev pub held_by : List Transaction → Group → Holding
held_by transactions group = holding_of (effective_by group.core.lock transactions group)

-- what is held under a name, by its cut and its group
abbrev held_in : Option Arc → List Transaction → Option Group → Option Holding
held_in cut transactions found = option_and_then (λ arc. option_map holding_of (option_map (λ group. effective_by group.core.lock transactions group) found)) cut

-- of a group that has a cut
pub held_some : (world : StoreWorld) (name : Draw) (group : Group) → (arc : Arc) × (arc_in name world.ring ≡ Some arc) → named_group name world.groups ≡ Some group → holdings_in world name ≡ Some (held_by world.transactions group)
held_some world name group cut found =
    ap (λ o. held_in o world.transactions (named_group name world.groups)) cut.1
    ∙ ap (λ o. option_map holding_of (option_map (λ group. effective_by group.core.lock world.transactions group) o)) found

-- and by decisions that leave it as it is
pub holds_own : (world : StoreWorld) (name : Draw) (group : Group) → (arc : Arc) × (arc_in name world.ring ≡ Some arc) → named_group name world.groups ≡ Some group → held_by world.transactions group ≡ holding_of group
    → holdings_in world name ≡ Some (holding_of group)
holds_own world name group cut found same = held_some world name group cut found ∙ ap Some same

-- of one that has none
pub held_none : (world : StoreWorld) (name : Draw) → arc_in name world.ring ≡ None → holdings_in world name ≡ None
held_none world name none = ap (λ o. held_in o world.transactions (named_group name world.groups)) none

-- what is held is the same where there is a cut before and after, or neither, and the group holds the same by its decisions
abbrev pub HoldsSame : List Transaction → List Transaction → Option Group → Option Group → Type 0
HoldsSame one other (Some group) (Some second) = held_by one group ≡ held_by other second
HoldsSame one other (Some group) None = ⊥
HoldsSame one other None (Some second) = ⊥
HoldsSame one other None None = Unit {0}

same_held : (cut next : Option Arc) (one other : List Transaction) (found second : Option Group) → is_some cut ≡ is_some next → HoldsSame one other found second → held_in cut one found ≡ held_in next other second
same_held None None one other found second e same = refl
same_held None (Some next) one other found second e same = (let no_way : false ≡ true = e in absurd (cc))
same_held (Some cut) None one other found second e same = (let no_way : true ≡ false = e in absurd (cc))
same_held (Some cut) (Some next) one other None None e same = refl
same_held (Some cut) (Some next) one other None (Some second) e same = absurd same
same_held (Some cut) (Some next) one other (Some group) None e same = absurd same
same_held (Some cut) (Some next) one other (Some group) (Some second) e same = ap Some same

pub same_at : (before after : StoreWorld) (name : Draw) → is_some (arc_in name after.ring) ≡ is_some (arc_in name before.ring)
    → HoldsSame after.transactions before.transactions (named_group name after.groups) (named_group name before.groups) → holdings_in after name ≡ holdings_in before name
same_at before after name cuts same = same_held (arc_in name after.ring) (arc_in name before.ring) after.transactions before.transactions (named_group name after.groups) (named_group name before.groups) cuts same

-- one group, which holds the same by both
pub same_found : (one other : List Transaction) (found second : Option Group) → found ≡ second → ((group : Group) → second ≡ Some group → held_by one group ≡ held_by other group) → HoldsSame one other found second
same_found one other found second e same = subst (λ o. HoldsSame one other o second) (sym e) (by_group second same)
  where
    by_group : (o : Option Group) → ((group : Group) → o ≡ Some group → held_by one group ≡ held_by other group) → HoldsSame one other o o
    by_group None same = tt
    by_group (Some group) same = same group refl

-- ---- an entry that makes no group

module _ (world : StoreWorld) (name : Draw) (group : Group) (found : named_group name world.groups ≡ Some group) (c : Command) (result : Group × Effect)
    (id_is : result.0.core.id ≡ group.core.id) (unborn : birth_of group c result.1 ≡ None) where
  abbrev after : StoreWorld
  after = with_result world group c result

  pub own_group : named_group group.core.id world.groups ≡ Some group
  own_group = ap (λ n. named_group n world.groups) (found_name name world.groups group found) ∙ found

  groups_are : after.groups ≡ with_group group.core.id result.0 world.groups
  groups_are = ap (λ o. groups_after group result.0 o world.groups) unborn ∙ append-nil (with_group group.core.id result.0 world.groups)

  pub here : (other : Draw) → other ≡ group.core.id → named_group other after.groups ≡ Some result.0
  here other e =
      ap (named_group other) groups_are ∙ ap (λ n. named_group n (with_group group.core.id result.0 world.groups)) e
      ∙ found_now group.core.id result.0 world.groups group id_is own_group

  pub there : (other : Draw) → (other ≡ group.core.id → ⊥) → named_group other after.groups ≡ named_group other world.groups
  there other ne = ap (named_group other) groups_are ∙ found_still group.core.id other result.0 world.groups id_is ne

  -- a group that has its cut before and after, and whose decision stays
  pub elsewhere : (other : Draw) → (other ≡ group.core.id → ⊥) → is_some (arc_in other after.ring) ≡ is_some (arc_in other world.ring)
      → ((g : Group) → named_group other world.groups ≡ Some g → held_by after.transactions g ≡ held_by world.transactions g) → holdings_in after other ≡ holdings_in world other
  elsewhere other ne cuts same = same_at world after other cuts (same_found after.transactions world.transactions _ _ (there other ne) same)

  -- the group itself, where it holds the same
  pub itself : (other : Draw) → other ≡ group.core.id → is_some (arc_in other after.ring) ≡ is_some (arc_in other world.ring) → held_by after.transactions result.0 ≡ held_by world.transactions group
      → holdings_in after other ≡ holdings_in world other
  itself other e cuts same = same_at world after other cuts (subst (λ o. HoldsSame after.transactions world.transactions o (named_group other world.groups)) (sym (here other e))
      (subst (HoldsSame after.transactions world.transactions (Some result.0)) (sym (ap (λ n. named_group n world.groups) e ∙ own_group)) same))

  -- the tables of logs: only its own may be another
  pub tables_from : HasKnownTable world after group.core.id result.0 → (other : Draw) (g : Group) → named_group other after.groups ≡ Some g → HasKnownTable world after other g
  tables_from own other g fact = elim (draw_cases other group.core.id) [
    | inl e ↦ subst (λ n. HasKnownTable world after n g) (sym e) (subst (HasKnownTable world after group.core.id) (same_Some result.0 g (sym (here other e) ∙ fact)) own)
    | inr ne ↦ inr (inl (g, sym (there other ne) ∙ fact, refl))
  ]

  -- a table that stays
  pub same_table : result.0.clients ≡ group.clients → HasKnownTable world after group.core.id result.0
  same_table e = inr (inl (group, own_group, sym e))
