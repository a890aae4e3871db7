-- The cut that a group has in the ring.
use Rattle.std.proofs.Common.{◌≡◌, true, false, List, [], ◌∷◌, Some, inl, inr, sym, ap, ◌∙◌}
use Rattle.std.specs.Option.{option_map}
use Rattle.std.specs.List.{find}
use Rattle.std.proofs.lemmas.Bool.{cases_Bool, cond-true, cond-false}
use Rattle.sc_base.specs.Definitions.{Among, Arc}
use Rattle.sc_base.specs.declared.names.Draw.{Draw}
use Rattle.sc_base.proofs.Lemmas.{map-some, draw_is, same_name}
use Rattle.sc_meaning.specs.declared.entries.Cut.{Cut}
use Rattle.sc_meaning.specs.entries.EntryDefinitions.{arc_in, is_cut_of}
use Rattle.sc_words.proofs.PaxosProofs.PaxosLemmas.{find_found}

-- a name that has an arc has a cut with it
pub cut_of : (name : Draw) (ring : List Cut) (arc : Arc) → arc_in name ring ≡ Some arc → (cut : Cut) × Among cut ring × (cut.group ≡ name) × (cut.arc ≡ arc)
cut_of name ring arc e =
    let k = map-some (λ (cut : Cut). cut.arc) (find (is_cut_of name) ring) arc e in
    let f = find_found (is_cut_of name) ring k.0 k.1 in
    (k.0, f.0, draw_is k.0.group name f.1, k.2)

-- a cut's group has an arc
pub has_cut : (ring : List Cut) (cut : Cut) → Among cut ring → (arc : Arc) × (arc_in cut.group ring ≡ Some arc)
has_cut [] cut a = absurd a
has_cut (c ∷ ring) cut a =
    elim (cases_Bool (is_cut_of cut.group c)) [
      | inl t ↦ (c.arc, ap (option_map (λ (x : Cut). x.arc)) (cond-true (is_cut_of cut.group c) (Some c) (find (is_cut_of cut.group) ring) t))
      | inr f ↦ (
          let rest = has_cut ring cut (elim a [
            | inl same ↦ (let t = same_name c.group cut.group (ap (λ (x : Cut). x.group) same) in let no_way : true ≡ false = sym t ∙ f in absurd (cc))
            | inr b ↦ b
          ]) in
          (rest.0, ap (option_map (λ (x : Cut). x.arc)) (cond-false (is_cut_of cut.group c) (Some c) (find (is_cut_of cut.group) ring) f) ∙ rest.1))
    ]
