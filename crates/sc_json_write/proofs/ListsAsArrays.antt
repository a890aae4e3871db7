-- Lists as arrays.
use Rattle.std.proofs.Common.{◌≡◌, ℕ, ◌≤◌, List, [], ◌∷◌, length, map, take, Vec, Global, refl, ap, ◌∙◌}
use Rattle.std.proofs.lemmas.List.{take_all}
use Rattle.serde_json.specs.Data.{Data, array, item}
use Rattle.serde_json.specs.View.{view, items_of}
use Rattle.serde_json.specs.declared.value.Value.{Value, Array}
use Rattle.serde_json.proofs.Views.{view-Array}
use Rattle.sc_json_text.specs.rows.Shapes.{items_json, list_json}

items_map : {T : Type 0} (json_of : T → Data) (xs : List T) → items_of (map json_of xs) ≡ items_json json_of xs
items_map json_of [] = refl
items_map json_of (x ∷ xs) = ap (item (json_of x)) (items_map json_of xs)

-- an array of all the items
pub array_full : {T : Type 0} (json_of : T → Data) (list : Vec Value Global) (xs : List T) (i : ℕ) → length xs ≤ i → map view list.items ≡ map json_of (take i xs) → view (Array list) ≡ list_json json_of xs
array_full json_of list xs i full same = view-Array list ∙ ap array (ap items_of (same ∙ ap (map json_of) (take_all i xs full)) ∙ items_map json_of xs)
