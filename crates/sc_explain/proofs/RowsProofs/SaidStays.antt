-- What is said of a group of the ring stays with an entry of another group, unless another group may have decided something of it.
use Rattle.std.proofs.Common.{◌≡◌, ◌⊎◌, ℕ, ◌+◌, ◌<◌, Bool, false, true, cond, List, [], ◌∷◌, ◌++◌, length, get_or, map, take, Option, Some, None, inl, inr, refl, sym, ◌∙◌, ap, subst}
use Rattle.std.specs.List.{flat_map, list_any}
use Rattle.std.specs.Option.{option_map, option_or, option_to_list}
use Rattle.std.proofs.lemmas.Bool.{cases_Bool, cond-true, cond-false, both_ways, or_parts}
use Rattle.std.proofs.lemmas.List.{flat_map_more, take_more}
use Rattle.std.proofs.lemmas.List.Folds.{find-append, list_any-append}
use Rattle.std.proofs.lemmas.Option.{none-some, same_Some}
use Rattle.sc_base.specs.Definitions.{Each, same_draw}
use Rattle.sc_base.specs.declared.names.Draw.{Draw}
use Rattle.sc_base.proofs.Lemmas.{draw_is, same_name}
use Rattle.sc_words.specs.declared.commands.effects.Effect.{Effect}
use Rattle.sc_words.proofs.PaxosProofs.ListLemmas.{Each-append}
use Rattle.sc_group_table.specs.machine.MachineDefinitions.{Group, applied, group_of}
use Rattle.sc_meaning.specs.declared.entries.Cut.{Cut}
use Rattle.sc_meaning.specs.declared.entries.LogEntry.{LogEntry}
use Rattle.sc_meaning.specs.entries.EntryDefinitions.{StoreWorld, after_command, birth_of, effective, effective_by, is_named, named_group, recorded, with_group}
use Rattle.sc_meaning.proofs.EntriesProofs.EntryLemmas.{found_name, names_differ}
use Rattle.sc_law_entries.proofs.HistoryProofs.Divisions.{found_left}
use Rattle.sc_law_entries.proofs.HistoryProofs.Found.{found_still}
use Rattle.sc_law_entries.proofs.HistoryProofs.HistoryLemmas.{applied_same}
use Rattle.sc_world_entries.proofs.DecidedProofs.Pools.{each_at}
use Rattle.sc_explain.specs.facts.Facts.{ring_group_of}
use Rattle.sc_explain.specs.declared.facts.facts.RingGroup.{RingGroup}
use Rattle.sc_explain.specs.rows.Explained.{ring_group_in, ring_groups_in}
use Rattle.sc_explain.specs.rows.Said.{AreByLog, IsByLog, is_bound, bound_names}

-- ---- what was said

-- it is what is said of the group with its name in this world
abbrev IsSaidIn : StoreWorld → RingGroup → Type 0
IsSaidIn world said = option_map (ring_group_of said.name) (effective world said.name) ≡ Some said

one_said : (world : StoreWorld) (name : Draw) (found : Option Group) → effective world name ≡ found → Each (IsSaidIn world) (option_to_list (option_map (ring_group_of name) found))
one_said world name None is = tt
one_said world name (Some group) is = (ap (option_map (ring_group_of name)) is, tt)

all_said : (world : StoreWorld) (ring : List Cut) → Each (IsSaidIn world) (flat_map (ring_group_in world) ring)
all_said world [] = tt
all_said world (cut ∷ ring) =
    Each-append (IsSaidIn world) (ring_group_in world cut) (flat_map (ring_group_in world) ring)
    (one_said world cut.group (effective world cut.group) refl) (all_said world ring)

-- what stands at a place was said of the group whose name it has
pub said_here : (world : StoreWorld) (groups : List RingGroup) (at : ℕ) (said : RingGroup) (name : Draw) → groups ≡ ring_groups_in world → at < length groups → said ≡ get_or groups at said
    → same_draw (get_or groups at said).name name ≡ true → option_map (ring_group_of name) (effective world name) ≡ Some said
said_here world groups at said name are within is named =
    let all : Each (IsSaidIn world) groups = subst (Each (IsSaidIn world)) (sym are) (all_said world world.ring) in
    let here : IsSaidIn world said = subst (IsSaidIn world) (sym is) (each_at (IsSaidIn world) groups at said within all) in
    subst (λ (n : Draw). option_map (ring_group_of n) (effective world n) ≡ Some said) (draw_is said.name name (subst (λ (r : RingGroup). same_draw r.name name ≡ true) (sym is) named)) here

-- ---- the entry of another group

-- the group is found as it was
found_after : (before : StoreWorld) (entry : LogEntry) (name : Draw) (group : Group) (own : Option Group) → named_group entry.group before.groups ≡ own → (name ≡ entry.group → ⊥) → named_group name before.groups ≡ Some group
    → named_group name (after_command before own entry.command).groups ≡ Some group
found_after before entry name group None found differs is = is
found_after before entry name group (Some own) found differs is =
    let made : Group × Effect = applied own entry.command in
    found_left name (with_group own.core.id made.0 before.groups) (map group_of (option_to_list (birth_of own entry.command made.1))) group
    (found_still own.core.id name made.0 before.groups (applied_same own entry.command).0 (λ e. differs (e ∙ found_name entry.group before.groups own found)) ∙ is)

-- the same is said of it
pub said_still : (before world : StoreWorld) (entry : LogEntry) (bound : List Draw) (name : Draw) (said : RingGroup) → world ≡ recorded before entry → AreByLog world.groups bound
    → same_draw name entry.group ≡ false → list_any (same_draw name) bound ≡ false
    → option_map (ring_group_of name) (effective before name) ≡ Some said → option_map (ring_group_of name) (effective world name) ≡ Some said
said_still before world entry bound name said is by differs free was = still (named_group name before.groups) refl was
  where
    still : (own : Option Group) → named_group name before.groups ≡ own → option_map (ring_group_of name) (option_map (λ (g : Group). effective_by g.core.lock before.transactions g) own) ≡ Some said
        → option_map (ring_group_of name) (effective world name) ≡ Some said
    still None found said_is = absurd (none-some said said_is)
    still (Some group) found said_is =
        let now : named_group name world.groups ≡ Some group =
        ap (λ (w : StoreWorld). named_group name w.groups) is
        ∙ found_after before entry name group (named_group entry.group before.groups) refl (names_differ name entry.group differs) found in
        let own_log : IsByLog group.core.lock = by name group now free in
        ap (λ (o : Option Group). option_map (ring_group_of name) (option_map (λ (g : Group). effective_by g.core.lock world.transactions g) o)) now
        ∙ ap (λ (g : Group). Some (ring_group_of name g)) (own_log world.transactions group ∙ sym (own_log before.transactions group))
        ∙ said_is

-- ---- of which groups another may have decided something

-- of no groups
pub none_bound : AreByLog [] []
none_bound = λ name group found free. absurd (none-some group found)

found_last : (name : Draw) (groups : List Group) (last group : Group) → named_group name (groups ++ last ∷ []) ≡ Some group → (named_group name groups ≡ Some group) ⊎ ((last ≡ group) × (is_named name last ≡ true))
found_last name groups last group is = by (named_group name groups) (sym (find-append (is_named name) groups (last ∷ [])) ∙ is)
  where
    by : (o : Option Group) → option_or o (named_group name (last ∷ [])) ≡ Some group → (o ≡ Some group) ⊎ ((last ≡ group) × (is_named name last ≡ true))
    by (Some g) e = inl e
    by None e = elim (cases_Bool (is_named name last)) [
      | inl t ↦ inr (same_Some last group (sym (cond-true (is_named name last) (Some last) None t) ∙ e), t)
      | inr f ↦ absurd (none-some group (sym (cond-false (is_named name last) (Some last) None f) ∙ e))
    ]

-- one group more, of which none may
pub bound_kept : (groups : List Group) (bound : List Draw) (last : Group) → IsByLog last.core.lock → AreByLog groups bound → AreByLog (groups ++ last ∷ []) bound
bound_kept groups bound last own by = λ name group found free. elim (found_last name groups last group found) [
  | inl e ↦ by name group e free
  | inr e ↦ subst (λ (g : Group). IsByLog g.core.lock) e.0 own
]

-- one group more, of which one may
pub bound_push : (groups : List Group) (bound : List Draw) (last : Group) → AreByLog groups bound → AreByLog (groups ++ last ∷ []) (bound ++ last.core.id ∷ [])
bound_push groups bound last by = λ name group found free.
    let parts = or_parts (list_any (same_draw name) bound) (list_any (same_draw name) (last.core.id ∷ [])) (sym (list_any-append (same_draw name) bound (last.core.id ∷ [])) ∙ free) in
    elim (found_last name groups last group found) [
      | inl e ↦ by name group e parts.0
      | inr e ↦
          let own = or_parts (same_draw name last.core.id) false parts.1 in
          absurd (both_ways (same_draw name last.core.id) own.0 (same_name name last.core.id (sym (draw_is last.core.id name e.1))))
    ]

-- ---- one cut more

pub groups_more : (world : StoreWorld) (ring : List Cut) (i : ℕ) (cut : Cut) → i < length ring → cut ≡ get_or ring i cut
    → flat_map (ring_group_in world) (take i ring) ++ ring_group_in world cut ≡ flat_map (ring_group_in world) (take (i + 1) ring)
groups_more world ring i cut within is =
    flat_map_more (ring_group_in world) [] (take i ring) cut
    ∙ ap (flat_map (ring_group_in world)) (ap (λ (c : Cut). take i ring ++ c ∷ []) is ∙ sym (take_more ring i cut within))

-- one more group adds its name where another group may have decided something of it
pub names_more : (groups : List Group) (last : Group) → bound_names (groups ++ last ∷ []) ≡ cond (is_bound last.core.lock) (bound_names groups ++ last.core.id ∷ []) (bound_names groups)
names_more [] last = refl
names_more (group ∷ groups) last = by (is_bound group.core.lock) (is_bound last.core.lock) (names_more groups last)
  where
    by : (a b : Bool) → bound_names (groups ++ last ∷ []) ≡ cond b (bound_names groups ++ last.core.id ∷ []) (bound_names groups)
        → cond a (group.core.id ∷ bound_names (groups ++ last ∷ [])) (bound_names (groups ++ last ∷ [])) ≡ cond b (cond a (group.core.id ∷ bound_names groups) (bound_names groups) ++ last.core.id ∷ []) (cond a (group.core.id ∷ bound_names groups) (bound_names groups))
    by true true e = ap (λ ns. group.core.id ∷ ns) e
    by true false e = ap (λ ns. group.core.id ∷ ns) e
    by false true e = e
    by false false e = e
