-- Groups that are found by their names after one of them was replaced.
use Rattle.std.proofs.Common.{◌≡◌, cond, List, [], ◌∷◌, Some, None, inl, inr, refl, sym, ap, ◌∙◌}
use Rattle.std.proofs.lemmas.Bool.{cases_Bool, cond-true, cond-false}
use Rattle.sc_base.specs.declared.names.Draw.{Draw}
use Rattle.sc_base.proofs.Lemmas.{draw_is, same_name}
use Rattle.sc_group_table.specs.machine.MachineDefinitions.{Group}
use Rattle.sc_meaning.specs.entries.EntryDefinitions.{is_named, named_group, with_group}
use Rattle.sc_meaning.proofs.EntriesProofs.EntryLemmas.{other_name}

-- a group that was replaced is found as it is now
pub found_now : (name : Draw) (after : Group) (groups : List Group) (group : Group) → after.core.id ≡ name → named_group name groups ≡ Some group → named_group name (with_group name after groups) ≡ Some after
found_now name after [] group fact e = (let no_way : None ≡ Some group = e in absurd (cc))
found_now name after (g ∷ groups) group fact e =
    let rest = with_group name after groups in
    elim (cases_Bool (is_named name g)) [
      | inl t ↦ ap (λ x. cond (is_named name x) (Some x) (named_group name rest)) (cond-true (is_named name g) after g t)
          ∙ cond-true (is_named name after) (Some after) (named_group name rest) (same_name after.core.id name fact)
      | inr f ↦ ap (λ x. cond (is_named name x) (Some x) (named_group name rest)) (cond-false (is_named name g) after g f)
          ∙ cond-false (is_named name g) (Some g) (named_group name rest) f
          ∙ found_now name after groups group fact (sym (cond-false (is_named name g) (Some g) (named_group name groups) f) ∙ e)
    ]

-- the others are found as they were
pub found_still : (name other : Draw) (after : Group) (groups : List Group) → after.core.id ≡ name → (other ≡ name → ⊥) → named_group other (with_group name after groups) ≡ named_group other groups
found_still name other after [] fact ne = refl
found_still name other after (g ∷ groups) fact ne =
    let rest = with_group name after groups in
    elim (cases_Bool (is_named name g)) [
      | inl t ↦ ap (λ x. cond (is_named other x) (Some x) (named_group other rest)) (cond-true (is_named name g) after g t)
          ∙ cond-false (is_named other after) (Some after) (named_group other rest) (other_name after.core.id other (λ e. ne (sym e ∙ fact)))
          ∙ found_still name other after groups fact ne
          ∙ sym (cond-false (is_named other g) (Some g) (named_group other groups) (other_name g.core.id other (λ e. ne (sym e ∙ draw_is g.core.id name t))))
      | inr f ↦ ap (λ x. cond (is_named other x) (Some x) (named_group other rest)) (cond-false (is_named name g) after g f)
          ∙ ap (λ o. cond (is_named other g) (Some g) o) (found_still name other after groups fact ne)
    ]
