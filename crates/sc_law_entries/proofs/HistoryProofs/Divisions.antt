-- An entry that makes a group: the group keeps the part before the boundary, and its child has the rest.
use Rattle.std.specs.Prelude.{is_some}
use Rattle.std.proofs.Common.{◌≡◌, ℕ, ◌<◌, ◌^◌, true, List, [], ◌∷◌, ◌++◌, Some, None, inl, inr, refl, sym, ap, ◌∙◌}
use Rattle.std.specs.List.{flat_map}
use Rattle.std.specs.Option.{option_map}
use Rattle.std.proofs.lemmas.Bool.{cases_Bool, cond-true, cond-false}
use Rattle.sc_base.specs.Definitions.{CanCut}
use Rattle.sc_base.specs.declared.names.Draw.{Draw}
use Rattle.sc_base.proofs.Lemmas.{draw_is, same_name}
use Rattle.sc_words.specs.declared.commands.commands.Command.{Command}
use Rattle.sc_words.specs.declared.commands.effects.Effect.{Effect}
use Rattle.sc_group_table.specs.machine.MachineDefinitions.{Group, group_of, entry_of, child_of}
use Rattle.sc_words.proofs.PaxosProofs.PaxosLemmas.{find_within}
use Rattle.sc_meaning.specs.entries.EntryDefinitions.{birth_of, parts_of, StoreWorld, groups_after, is_named, named_group, with_group, with_result}
use Rattle.sc_meaning.specs.declared.entries.Division.{Division}
use Rattle.sc_law_entries.specs.history.HistoryDefinitions.{DividedAt, Holding, RequestOf, holding_of, part_before, part_from, IsNewChild, HasKnownTable, holdings_in}
use Rattle.sc_law_entries.proofs.HistoryProofs.Disjoint.{first_here, neither_here, second_here}
use Rattle.sc_law_entries.proofs.HistoryProofs.Elsewhere.{held_by, held_none, held_some, same_at, same_found, holds_own}
use Rattle.sc_meaning.proofs.EntriesProofs.EntryLemmas.{found_name, draw_cases}
use Rattle.sc_law_entries.proofs.HistoryProofs.Found.{found_now, found_still}
use Rattle.sc_law_entries.proofs.HistoryProofs.PlanHoldings.{plans_move}
use Rattle.sc_law_entries.proofs.HistoryProofs.Recuts.{arc_of, child_has, has_arc, has_divided}
use Rattle.sc_law_entries.proofs.HistoryProofs.Staying.{Goes}
use Rattle.std.proofs.lemmas.Option.{none-some, same_Some}

-- what is found first stays first
pub found_left : (name : Draw) (groups more : List Group) (group : Group) → named_group name groups ≡ Some group → named_group name (groups ++ more) ≡ Some group
found_left name [] more group e = absurd (none-some group e)
found_left name (g ∷ groups) more group e =
    elim (cases_Bool (is_named name g)) [
      | inl t ↦ cond-true (is_named name g) (Some g) (named_group name (groups ++ more)) t ∙ sym (cond-true (is_named name g) (Some g) (named_group name groups) t) ∙ e
      | inr f ↦ cond-false (is_named name g) (Some g) (named_group name (groups ++ more)) f ∙ found_left name groups more group (sym (cond-false (is_named name g) (Some g) (named_group name groups) f) ∙ e)
    ]

-- and what is not found there is found behind
found_right : (name : Draw) (groups more : List Group) → named_group name groups ≡ None → named_group name (groups ++ more) ≡ named_group name more
found_right name [] more e = refl
found_right name (g ∷ groups) more e =
    elim (cases_Bool (is_named name g)) [
      | inl t ↦ absurd (none-some g (sym e ∙ cond-true (is_named name g) (Some g) (named_group name groups) t))
      | inr f ↦ cond-false (is_named name g) (Some g) (named_group name (groups ++ more)) f ∙ found_right name groups more (sym (cond-false (is_named name g) (Some g) (named_group name groups) f) ∙ e)
    ]

module _ (request : RequestOf) (world : StoreWorld) (name : Draw) (group : Group) (found : named_group name world.groups ≡ Some group) (c : Command) (result : Group × Effect) (at : ℕ) (child : Draw)
    (id_is : result.0.core.id ≡ group.core.id) (born : birth_of group c result.1 ≡ Some (child_of group at child)) (fresh : IsNewChild world group child)
    (ring_are : (with_result world group c result).ring ≡ flat_map (parts_of group.core.id (record { at = at; child = child })) world.ring) where
  abbrev after : StoreWorld
  after = with_result world group c result

  abbrev mine : Draw
  mine = group.core.id

  abbrev newborn : Group
  newborn = group_of (child_of group at child)

  abbrev division : Division
  division = record { at = at; child = child }

  abbrev kept : List Group
  kept = with_group mine result.0 world.groups

  own_is : named_group mine world.groups ≡ Some group
  own_is = ap (λ n. named_group n world.groups) (found_name name world.groups group found) ∙ found

  -- the child has another name
  apart : mine ≡ child → ⊥
  apart e = none-some group (sym fresh.unborn ∙ ap (λ n. named_group n world.groups) (sym e) ∙ own_is)

  groups_are : after.groups ≡ kept ++ newborn ∷ []
  groups_are = ap (λ o. groups_after group result.0 o world.groups) born

  here : named_group mine after.groups ≡ Some result.0
  here = ap (named_group mine) groups_are ∙ found_left mine kept (newborn ∷ []) result.0 (found_now mine result.0 world.groups group id_is own_is)

  not_newborn : (other : Draw) → (other ≡ child → ⊥) → named_group other (newborn ∷ []) ≡ None
  not_newborn other ne = elim (cases_Bool (is_named other newborn)) [
    | inl t ↦ absurd (ne (sym (draw_is child other t)))
    | inr f ↦ cond-false (is_named other newborn) (Some newborn) None f
  ]

  there : (other : Draw) → (other ≡ mine → ⊥) → (other ≡ child → ⊥) → named_group other after.groups ≡ named_group other world.groups
  there other ne not =
      ap (named_group other) groups_are ∙ find_within (is_named other) kept (newborn ∷ []) (not_newborn other not)
      ∙ found_still mine other result.0 world.groups id_is ne

  child_there : named_group child after.groups ≡ Some newborn
  child_there =
      ap (named_group child) groups_are
      ∙ found_right child kept (newborn ∷ []) (found_still mine child result.0 world.groups id_is (λ e. apart (sym e)) ∙ fresh.unborn)
      ∙ cond-true (is_named child newborn) (Some newborn) None (same_name child child refl)

  has : (other : Draw) → (other ≡ child → ⊥) → has_arc other after.ring ≡ has_arc other world.ring
  has other ne = ap (has_arc other) ring_are ∙ has_divided other mine division world.ring ne

  own_cut : has_arc mine world.ring ≡ true
  own_cut = ap is_some fresh.cut.1

  child_cut : has_arc child after.ring ≡ true
  child_cut = ap (has_arc child) ring_are ∙ child_has mine division world.ring own_cut

  module _ (holds : holding_of result.0 ≡ part_before at (holding_of group)) (before : held_by world.transactions group ≡ holding_of group) (now : held_by after.transactions result.0 ≡ holding_of result.0)
      (same : (other : Draw) (g : Group) → named_group other world.groups ≡ Some g → held_by after.transactions g ≡ held_by world.transactions g) (no_entry : entry_of c result.1 ≡ [])
      (table : result.0.clients ≡ group.clients) (fits : at < 2 ^ 32) (cut : CanCut group.core.arc at) where
    mine_after : holdings_in after mine ≡ Some (part_before at (holding_of group))
    mine_after = holds_own after mine result.0 (arc_of mine after.ring (has mine apart ∙ own_cut)) here now ∙ ap Some holds

    child_after : holdings_in after child ≡ Some (part_from at (holding_of group))
    child_after = held_some after child newborn (arc_of child after.ring child_cut) child_there ∙ ap Some (plans_move.divides group at child).rest

    elsewhere : (other : Draw) → (other ≡ mine → ⊥) → (other ≡ child → ⊥) → holdings_in after other ≡ holdings_in world other
    elsewhere other ne not = same_at world after other (has other not) (same_found after.transactions world.transactions _ _ (there other ne not) (λ g fact. same other g fact))

    tables : (other : Draw) (g : Group) → named_group other after.groups ≡ Some g → HasKnownTable world after other g
    tables other g fact = elim (draw_cases other child) [
      | inl e ↦ (
          let it : newborn ≡ g = same_Some newborn g (sym child_there ∙ ap (λ n. named_group n after.groups) (sym e) ∙ fact) in
          inr (inr (part_from at (holding_of group), ap (holdings_in after) e ∙ child_after, ap (λ (h : Holding). h.clients) (sym (plans_move.divides group at child).rest) ∙ ap (λ (x : Group). x.clients) it)))
      | inr not ↦ elim (draw_cases other mine) [
        | inl e ↦ (
            let it : result.0 ≡ g = same_Some result.0 g (sym here ∙ ap (λ n. named_group n after.groups) (sym e) ∙ fact) in
            inr (inl (group, ap (λ n. named_group n world.groups) e ∙ own_is, sym table ∙ ap (λ (x : Group). x.clients) it)))
        | inr ne ↦ inr (inl (g, sym (there other ne not) ∙ fact, refl))
      ]
    ]

    -- the move of a division
    pub division_goes : Goes request world name group found c result
    division_goes =
        let own = holds_own world mine group fresh.cut own_is before in
        record {
          move = DividedAt mine at child;
          may = record { holding = holding_of group; fact = own; fits = fits; cut = cut; free = held_none world child fresh.uncut };
          holds = λ other. elim (draw_cases other child) [
            | inl e ↦ ap (holdings_in after) e ∙ child_after ∙ sym (ap (option_map (part_from at)) own) ∙ sym (second_here mine child (option_map (part_before at) (holdings_in world mine)) (option_map (part_from at) (holdings_in world mine)) (holdings_in world) other e)
            | inr not ↦ elim (draw_cases other mine) [
              | inl e ↦ ap (holdings_in after) e ∙ mine_after ∙ sym (ap (option_map (part_before at)) own) ∙ sym (first_here mine child (option_map (part_before at) (holdings_in world mine)) (option_map (part_from at) (holdings_in world mine)) (holdings_in world) other not e)
              | inr ne ↦ elsewhere other ne not ∙ sym (neither_here mine child (option_map (part_before at) (holdings_in world mine)) (option_map (part_from at) (holdings_in world mine)) (holdings_in world) other not ne)
            ]
          ];
          adds = ap (λ es. world.history ++ es) no_entry;
          tables = tables;
        }
