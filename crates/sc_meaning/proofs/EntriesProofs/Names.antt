-- Names that are the same, or not, and groups that are found by theirs.
use Rattle.std.proofs.Common.{◌≡◌, false, ◌⊎◌, List, [], ◌∷◌, Some, None, inl, inr, sym, ap, ◌∙◌}
use Rattle.std.proofs.lemmas.Bool.{cases_Bool, cond-true, cond-false, false_from_ne_true, both_ways}
use Rattle.std.proofs.lemmas.Option.{same_Some}
use Rattle.sc_base.specs.Definitions.{same_draw}
use Rattle.sc_base.specs.declared.names.Draw.{Draw}
use Rattle.sc_base.proofs.Lemmas.{draw_is, same_name}
use Rattle.sc_group_table.specs.machine.MachineDefinitions.{Group}
use Rattle.sc_meaning.specs.entries.EntryDefinitions.{is_named, named_group}

-- two names are one, or differ
pub draw_cases : (a b : Draw) → (a ≡ b) ⊎ (a ≡ b → ⊥)
draw_cases a b = elim (cases_Bool (same_draw a b)) [
  | inl e ↦ inl (draw_is a b e)
  | inr e ↦ inr (λ q. both_ways (same_draw a b) e (same_name a b q))
]

-- names that differ fail the test
pub other_name : (a b : Draw) → (a ≡ b → ⊥) → same_draw a b ≡ false
other_name a b ne = false_from_ne_true (same_draw a b) (λ t. ne (draw_is a b t))

-- names that fail the test differ
pub names_differ : (a b : Draw) → same_draw a b ≡ false → a ≡ b → ⊥
names_differ a b t e = both_ways (same_draw a b) t (same_name a b e)

-- a group that is found has the name
pub found_name : (name : Draw) (groups : List Group) (group : Group) → named_group name groups ≡ Some group → group.core.id ≡ name
found_name name [] group e = (let no_way : None ≡ Some group = e in absurd (cc))
found_name name (g ∷ groups) group e = elim (cases_Bool (is_named name g)) [
  | inl t ↦ ap (λ (x : Group). x.core.id) (same_Some group g (sym e ∙ cond-true (is_named name g) (Some g) (named_group name groups) t)) ∙ draw_is g.core.id name t
  | inr f ↦ found_name name groups group (sym (cond-false (is_named name g) (Some g) (named_group name groups) f) ∙ e)
]
