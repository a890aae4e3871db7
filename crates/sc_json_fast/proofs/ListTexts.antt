-- Lists at the beginning of a text.
use Rattle.std.proofs.Common.{◌≡◌, ℕ, Bool, true, false, ◌<◌, List, [], ◌∷◌, ◌++◌, codes, refl, sym, ap, ap₂, subst, ◌∙◌, length, length-append, append_assoc, arith}
use Rattle.serde_json.specs.Data.{Data}
use Rattle.serde_json.specs.Written.{compact_text, items_text, comma_if}
use Rattle.sc_base.specs.Among.{Each}
use Rattle.sc_json_text.specs.rows.Shapes.{items_json, list_json}
use Rattle.sc_json_fast.specs.Prefixes.{IsOnly, TextBegins}

module _ {T : Type 0} (json_of : T → Data) (Fits : T → Type 0) where
  -- the texts of items, with the commas before them
  abbrev pub prefix : Bool → List T → List ℕ
  prefix later [] = []
  prefix later (item ∷ items) = comma_if later ++ (compact_text (json_of item) ++ prefix true items)

  prefix_more : (later : Bool) (items : List T) (item : T) (rest : List ℕ) → 0 < length items → prefix later (items ++ item ∷ []) ++ rest ≡ prefix later items ++ (44 ∷ (compact_text (json_of item) ++ rest))
  prefix_more later [] item rest some = absurd (omega arith)
  prefix_more later (one ∷ []) item rest some = simp append_assoc
  prefix_more later (one ∷ two ∷ items) item rest some =
      append_assoc (comma_if later) (compact_text (json_of one) ++ prefix true (two ∷ items ++ item ∷ [])) rest
      ∙ (ap (λ t. comma_if later ++ t) (append_assoc (compact_text (json_of one)) (prefix true (two ∷ items ++ item ∷ [])) rest
      ∙ (ap (λ t. compact_text (json_of one) ++ t) (prefix_more true (two ∷ items) item rest (omega arith))
      ∙ sym (append_assoc (compact_text (json_of one)) (prefix true (two ∷ items)) (44 ∷ (compact_text (json_of item) ++ rest)))))
      ∙ sym (append_assoc (comma_if later) (compact_text (json_of one) ++ prefix true (two ∷ items)) (44 ∷ (compact_text (json_of item) ++ rest))))

  -- a bracket ends them
  pub prefix_ends : (later : Bool) (items : List T) (rest : List ℕ) → items_text later (items_json json_of items) ++ rest ≡ prefix later items ++ (93 ∷ rest)
  prefix_ends later [] rest = refl
  prefix_ends later (item ∷ items) rest =
      append_assoc (comma_if later) (compact_text (json_of item) ++ items_text true (items_json json_of items)) rest
      ∙ (ap (λ t. comma_if later ++ t) (append_assoc (compact_text (json_of item)) (items_text true (items_json json_of items)) rest
      ∙ (ap (λ t. compact_text (json_of item) ++ t) (prefix_ends true items rest)
      ∙ sym (append_assoc (compact_text (json_of item)) (prefix true items) (93 ∷ rest))))
      ∙ sym (append_assoc (comma_if later) (compact_text (json_of item) ++ prefix true items) (93 ∷ rest)))

  items_fit : (items : List T) → Each (IsOnly json_of Fits) items → Each Fits items
  items_fit [] each = tt
  items_fit (item ∷ items) each = (each.0.fits, items_fit items each.1)

  items_only : (items : List T) → Each (IsOnly json_of Fits) items → (other : List T) → Each Fits other → items_json json_of other ≡ items_json json_of items → other ≡ items
  items_only [] each [] held same = refl
  items_only [] each (o ∷ os) held same = absurd (cc)
  items_only (item ∷ items) each [] held same = absurd (cc)
  items_only (item ∷ items) each (o ∷ os) held same = ap₂ (λ x xs. x ∷ xs) (each.0.only o held.0 (cc)) (items_only items each.1 os held.1 (cc))

  list_only : (items : List T) → Each (IsOnly json_of Fits) items → IsOnly (list_json json_of) (Each Fits) items
  list_only items each = record { fits = items_fit items each; only = λ other held same. items_only items each other held (cc) }

  -- an array of items
  pub items_begin : (bytes before rest : List ℕ) (items : List T) → Each (IsOnly json_of Fits) items → bytes ≡ 91 ∷ (prefix false items ++ before) → before ≡ codes "]" ++ rest → TextBegins (list_json json_of) (Each Fits) bytes items rest
  items_begin bytes before rest items each text ends = record {
    text = text ∙ ap (λ t. 91 ∷ t) (ap (λ t. prefix false items ++ t) ends ∙ sym (prefix_ends false items rest));
    known = list_only items each;
  }

  -- one without items
  pub none_begin : (bytes rest : List ℕ) → bytes ≡ codes "[]" ++ rest → TextBegins (list_json json_of) (Each Fits) bytes [] rest
  none_begin bytes rest text = record { text = text; known = list_only [] tt }

  each_more : (items : List T) (item : T) → Each (IsOnly json_of Fits) items → IsOnly json_of Fits item → Each (IsOnly json_of Fits) (items ++ item ∷ [])
  each_more [] item each one = (one, tt)
  each_more (first ∷ items) item each one = (each.0, each_more items item each.1 one)

  -- one more item stands behind a comma, and is known too
  pub one_more : (bytes rest more after : List ℕ) (items : List T) (item : T) (all : List T) → 0 < length items → Each (IsOnly json_of Fits) items → bytes ≡ 91 ∷ (prefix false items ++ rest) → rest ≡ codes "," ++ more → TextBegins json_of Fits more item after → all ≡ items ++ item ∷ []
      → (bytes ≡ 91 ∷ (prefix false all ++ after)) × (0 < length all) × Each (IsOnly json_of Fits) all
  one_more bytes rest more after items item all some each text comma begins pushed =
      let here : rest ≡ 44 ∷ (compact_text (json_of item) ++ after) = comma ∙ ap (λ t. 44 ∷ t) begins.text in
      let prefix_is : prefix false all ++ after ≡ prefix false items ++ (44 ∷ (compact_text (json_of item) ++ after)) = ap (λ xs. prefix false xs ++ after) pushed ∙ prefix_more false items item after some in (
        text ∙ (ap (λ t. 91 ∷ (prefix false items ++ t)) here ∙ ap (λ t. 91 ∷ t) (sym prefix_is)),
        omega (arith, ap length pushed, length-append items (item ∷ [])),
        subst (λ xs. Each (IsOnly json_of Fits) xs) (sym pushed) (each_more items item each begins.known),
      )
