-- The owner of a name, by the rows one after another.
use Rattle.std.proofs.Common.{◌≡◌, List, [], ◌∷◌, ◌++◌, Option, Some, None, inl, inr, refl, sym, ◌∙◌, ap, subst, append_assoc, append-nil}
use Rattle.std.proofs.lemmas.Bool.{cases_Bool, cond-true, cond-false}
use Rattle.sc_base.specs.Definitions.{Among, same_draw}
use Rattle.sc_node_table.specs.Values.{Draw, OrderLine, Mail, Row}
use Rattle.sc_base.proofs.Lemmas.{draw_is, same_name}
use Rattle.sc_node_table.specs.NodeDefinitions.{either}
use Rattle.sc_meaning.specs.sound.SoundDefinitions.{Ahead}
use Rattle.sc_scenario.specs.declared.scenario.scenarios.Scenario.{Scenario}
use Rattle.sc_law_entries.specs.names.NameDefinitions.{Rows, Owned, owned_by, drawn_at, owner_by, owner_from, owner_in, IsDrawn, OwnersStay, OwnedNamesAreDrawn}
use Rattle.sc_law_walks.proofs.WalkLemmas.{either_assoc, either_none}

-- the first of drawn names is owned by its group
pub owner_of_drawn : (owned : Owned) (more : List Owned) → owner_by (owned ∷ more) owned.name ≡ Some owned.group
owner_of_drawn owned more = cond-true (same_draw owned.name owned.name) (Some owned.group) (owner_by more owned.name) (same_name owned.name owned.name refl)

-- and no other by it
pub owner_of_other : (owned : Owned) (more : List Owned) (name : Draw) → (owned.name ≡ name → ⊥) → owner_by (owned ∷ more) name ≡ owner_by more name
owner_of_other owned more name apart = elim (cases_Bool (same_draw owned.name name)) [
  | inl t ↦ absurd (apart (draw_is owned.name name t))
  | inr f ↦ cond-false (same_draw owned.name name) (Some owned.group) (owner_by more name) f
]

-- who owns a name by what was drawn
pub owner_was_drawn : (drawn : List Owned) (name group : Draw) → owner_by drawn name ≡ Some group → Among (owned_by name group) drawn
owner_was_drawn [] name group e = cc
owner_was_drawn (owned ∷ more) name group e = elim (cases_Bool (same_draw owned.name name)) [
  | inl t ↦ inl (let fact : owned.name ≡ name = draw_is owned.name name t in
      let same : Some owned.group ≡ Some group = sym (cond-true (same_draw owned.name name) (Some owned.group) (owner_by more name) t) ∙ e in
      let group_is : owned.group ≡ group = cc in
      ap (λ (n : Draw). owned_by n owned.group) fact ∙ ap (λ (g : Draw). owned_by name g) group_is)
  | inr f ↦ inr (owner_was_drawn more name group (sym (cond-false (same_draw owned.name name) (Some owned.group) (owner_by more name) f) ∙ e))
]

module _ (ahead : Ahead) (scenario : Scenario) where
  abbrev from : Rows → Rows → Draw → Option Draw
  from before rows name = owner_from ahead scenario before rows name

  -- rows one after another
  pub owner-append : (before rows more : Rows) (name : Draw) → owner_from ahead scenario before (rows ++ more) name ≡ either (owner_from ahead scenario before rows name) (owner_from ahead scenario (before ++ rows) more name)
  owner-append before [] more name = ap (λ (b : Rows). from b more name) (sym (append-nil before))
  owner-append before (row ∷ rows) more name =
      ap (λ (o : Option Draw). either (owner_by (drawn_at ahead scenario before row) name) o) (owner-append (before ++ row ∷ []) rows more name)
      ∙ sym (either_assoc (owner_by (drawn_at ahead scenario before row) name) (from (before ++ row ∷ []) rows name) (from ((before ++ row ∷ []) ++ rows) more name))
      ∙ ap (λ (b : Rows). either (from before (row ∷ rows) name) (from b more name)) (append_assoc before (row ∷ []) rows)

  -- one row more
  pub owner-push : (rows : Rows) (row : Row Mail OrderLine) (name : Draw) → owner_in ahead scenario (rows ++ row ∷ []) name ≡ either (owner_in ahead scenario rows name) (owner_by (drawn_at ahead scenario rows row) name)
  owner-push rows row name =
      owner-append [] rows (row ∷ []) name
      ∙ ap (λ (o : Option Draw). either (owner_in ahead scenario rows name) o) (either_none (owner_by (drawn_at ahead scenario rows row) name))

  -- a row from which on a name has an owner
  pub owned_later : (rows more : Rows) (name group : Draw) → owner_in ahead scenario rows name ≡ Some group → owner_in ahead scenario (rows ++ more) name ≡ Some group
  owned_later rows more name group e =
      owner-append [] rows more name ∙ ap (λ (o : Option Draw). either o (from rows more name)) e

  by_row : (before : Rows) (row : Row Mail OrderLine) (rows : Rows) (name group : Draw) (o : Option Draw) → owner_by (drawn_at ahead scenario before row) name ≡ o → either o (from (before ++ row ∷ []) rows name) ≡ Some group
      → ((from (before ++ row ∷ []) rows name ≡ Some group) → IsDrawn ahead scenario (before ++ row ∷ rows) name group) → IsDrawn ahead scenario (before ++ row ∷ rows) name group
  by_row before row rows name group None here e later = later e
  by_row before row rows name group (Some owner) here e later = record {
    before = before;
    row = row;
    later = rows;
    are = refl;
    drawn = owner_was_drawn (drawn_at ahead scenario before row) name group (here ∙ e);
  }

  -- the row that drew a name
  pub drawn_in : (before rows : Rows) (name group : Draw) → owner_from ahead scenario before rows name ≡ Some group → IsDrawn ahead scenario (before ++ rows) name group
  drawn_in before [] name group e = cc
  drawn_in before (row ∷ rows) name group e =
      by_row before row rows name group (owner_by (drawn_at ahead scenario before row) name) refl e
      (λ later. subst (λ (xs : Rows). IsDrawn ahead scenario xs name group) (append_assoc before (row ∷ []) rows) (drawn_in (before ++ row ∷ []) rows name group later))

pub owners_stay : OwnersStay
owners_stay ahead scenario rows more name group e = owned_later ahead scenario rows more name group e

pub owned_are_drawn : OwnedNamesAreDrawn
owned_are_drawn ahead scenario rows name group e = drawn_in ahead scenario [] rows name group e
