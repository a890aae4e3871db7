-- The names for which rows accept commands, with one more row.
use Rattle.std.proofs.Common.{◌≡◌, true, false, List, [], ◌∷◌, ◌++◌, Some, inl, inr, sym, ◌∙◌, ap}
use Rattle.std.specs.List.{list_any}
use Rattle.std.proofs.lemmas.Bool.{cases_Bool, or_parts}
use Rattle.std.proofs.lemmas.List.Folds.{list_any-append}
use Rattle.sc_base.specs.Same.{same_draw}
use Rattle.sc_base.specs.declared.names.Draw.{Draw}
use Rattle.sc_base.proofs.NameLemmas.{draw_is}
use Rattle.sc_words.specs.declared.commands.orders.OrderLine.{OrderLine}
use Rattle.sc_mail.specs.declared.bodies.Mail.{Mail}
use Rattle.sc_actor.specs.declared.rows.Row.{Row}
use Rattle.sc_meaning.specs.sound.Accepts.{accepts}
use Rattle.sc_world_logs.specs.Known.{Adds}
use Rattle.sc_world_logs.specs.declared.accepting.Acceptance.{Acceptance}
use Rattle.sc_world_logs.proofs.Elsewhere.{accepts_elsewhere}

-- a name that is not among those with one more is not among them, and is another name
pub unheard_push : (names : List Draw) (name other : Draw) → list_any (same_draw other) (names ++ name ∷ []) ≡ false
    → (list_any (same_draw other) names ≡ false) × (same_draw other name ≡ false)
unheard_push names name other none =
    let parts = or_parts (list_any (same_draw other) names) (list_any (same_draw other) (name ∷ [])) (sym (list_any-append (same_draw other) names (name ∷ [])) ∙ none) in
    (parts.0, (or_parts (same_draw other name) false parts.1).0)

-- a name that is not among those that are heard is not one of them
pub unheard_apart : (names : List Draw) (name other : Draw) → list_any (same_draw name) names ≡ true → list_any (same_draw other) names ≡ false → same_draw other name ≡ false
unheard_apart names name other there none = elim (cases_Bool (same_draw other name)) [
  | inl t ↦ (
      let same : other ≡ name = draw_is other name t in
      let never : true ≡ false = sym there ∙ ap (λ (n : Draw). list_any (same_draw n) names) (sym same) ∙ none in
      absurd (cc))
  | inr f ↦ f
]

-- nothing is accepted for a name that is not heard with one more row
pub unheard_still : (rows after : List (Row Mail OrderLine)) (name other : Draw) (acceptance : Acceptance) → Adds (Some (name, acceptance)) rows after → same_draw other name ≡ false → accepts other rows ≡ []
    → accepts other after ≡ []
unheard_still rows after name other acceptance adds apart none = accepts_elsewhere name acceptance rows after adds other apart ∙ none
