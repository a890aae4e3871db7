-- What one more row makes of the history of a journal.
use Rattle.std.proofs.Common.{◌≡◌, Bool, true, false, ◌||◌, List, [], ◌∷◌, ◌++◌, refl, sym, ◌∙◌, ap, append-nil, append_assoc}
use Rattle.std.specs.List.{flat_map, list_any}
use Rattle.sc_node_table.specs.Values.{Base, OrderLine, Mail, Row}
use Rattle.sc_meaning.specs.sound.SoundDefinitions.{Ahead, newly_decided, history_from}

history_from-push : (ahead : Ahead) (groups : List Base) (before rows : List (Row Mail OrderLine)) (row : Row Mail OrderLine)
    → history_from ahead groups before (rows ++ row ∷ []) ≡ history_from ahead groups before rows ++ flat_map (newly_decided ahead (before ++ rows) ((before ++ rows) ++ row ∷ [])) groups
history_from-push ahead groups before [] row =
    append-nil (flat_map (newly_decided ahead before (before ++ row ∷ [])) groups)
    ∙ ap (λ b. flat_map (newly_decided ahead b (b ++ row ∷ [])) groups) (sym (append-nil before))
history_from-push ahead groups before (r ∷ rows) row =
    let there = flat_map (newly_decided ahead before (before ++ r ∷ [])) groups in
    ap (λ es. there ++ es) (history_from-push ahead groups (before ++ r ∷ []) rows row)
    ∙ sym (append_assoc there (history_from ahead groups (before ++ r ∷ []) rows) (flat_map (newly_decided ahead ((before ++ r ∷ []) ++ rows) (((before ++ r ∷ []) ++ rows) ++ row ∷ [])) groups))
    ∙ ap (λ b. (there ++ history_from ahead groups (before ++ r ∷ []) rows) ++ flat_map (newly_decided ahead b (b ++ row ∷ [])) groups) (append_assoc before (r ∷ []) rows)

-- where no element of a list with one more passes a test, none of the list does, nor the new one
pub any_push : {X : Type 0} (p : X → Bool) (xs : List X) (y : X) → list_any p (xs ++ y ∷ []) ≡ false → (list_any p xs ≡ false) × (p y ≡ false)
any_push p [] y e = (refl, by (p y) e)
  where
    by : (b : Bool) → (b || false) ≡ false → b ≡ false
    by true e = e
    by false e = refl
any_push p (x ∷ xs) y e = by (p x) e (any_push p xs y)
  where
    by : (b : Bool) → (b || list_any p (xs ++ y ∷ [])) ≡ false → (list_any p (xs ++ y ∷ []) ≡ false → (list_any p xs ≡ false) × (p y ≡ false)) → ((b || list_any p xs) ≡ false) × (p y ≡ false)
    by true e more = cc
    by false e more = more e
