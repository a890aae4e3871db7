-- The items of arrays.
use Rattle.std.proofs.Common.{◌≡◌, ℕ, zero, suc, ◌+◌, ◌<◌, ◌≤◌, List, [], ◌∷◌, ◌++◌, length, map, take, get_or, Some, refl, ap, ap₂, sym, ◌∙◌, arith}
use Rattle.std.proofs.lemmas.List.{take_all, take_more, map-append}
use Rattle.serde_json.specs.Data.{Data, Items, null, boolean, number, string, array, object, item}
use Rattle.serde_json.specs.Find.{as_array}
use Rattle.serde_json.specs.View.{view, items_of, items_view}
use Rattle.serde_json.specs.declared.value.Value.{Value}
use Rattle.sc_base.specs.Among.{Each}
use Rattle.sc_json_text.specs.rows.Shapes.{items_json}

-- the value of which an item is the JSON
pub item_at : {T : Type 0} (json_of : T → Data) (Fits : T → Type 0) (list : List Value) (values : List T) (i : ℕ) (json : Value) → i < length list → json ≡ get_or list i json → Each Fits values → items_view list ≡ items_json json_of values
    → (value : T) × (Fits value × (view json ≡ json_of value) × (take (suc i) values ≡ take i values ++ value ∷ []))
item_at json_of Fits [] values i json within is fits same = absurd (omega arith)
item_at json_of Fits (j ∷ js) [] i json within is fits same = absurd (cc)
item_at json_of Fits (j ∷ js) (x ∷ xs) zero json within is fits same = (x, (fits.0, (let h : item (view j) (items_view js) ≡ item (json_of x) (items_json json_of xs) = same in ap view is ∙ (cc)), refl))
item_at json_of Fits (j ∷ js) (x ∷ xs) (suc i) json within is fits same =
    let h : item (view j) (items_view js) ≡ item (json_of x) (items_json json_of xs) = same in
    let more = item_at json_of Fits js xs i json (omega arith) is fits.1 (cc) in
    (more.0, (more.1.0, more.1.1, ap (λ l. x ∷ l) more.1.2))

same_length : {T : Type 0} (json_of : T → Data) (list : List Value) (values : List T) → items_view list ≡ items_json json_of values → length list ≡ length values
same_length json_of [] [] same = refl
same_length json_of [] (x ∷ xs) same = absurd (cc)
same_length json_of (j ∷ js) [] same = absurd (cc)
same_length json_of (j ∷ js) (x ∷ xs) same = let h : item (view j) (items_view js) ≡ item (json_of x) (items_json json_of xs) = same in omega (arith, same_length json_of js xs (cc))

-- all values have been taken
pub values_full : {T : Type 0} (json_of : T → Data) (list : List Value) (values : List T) (i : ℕ) → length list ≤ i → items_view list ≡ items_json json_of values → take i values ≡ values
values_full json_of list values i full same = take_all i values (omega (arith, same_length json_of list values same))

-- one more value is taken
pub one_more : {T : Type 0} (values : List T) (i : ℕ) (found value : T) (old new : List T) → old ≡ take i values → new ≡ old ++ found ∷ [] → found ≡ value → take (suc i) values ≡ take i values ++ value ∷ [] → new ≡ take (i + 1) values
one_more values i found value old new before pushed is next =
    let more : suc i ≡ i + 1 = omega arith in
    pushed ∙ (ap (λ l. l ++ found ∷ []) before ∙ (ap (λ x. take i values ++ x ∷ []) is ∙ (sym next ∙ ap (λ n. take n values) more)))

-- one more item is seen as its value
pub seen_more : {T : Type 0} (json_of : T → Data) (list : List Value) (i : ℕ) (json : Value) (found : T) (old new : List T) → i < length list → json ≡ get_or list i json → view json ≡ json_of found → new ≡ old ++ found ∷ [] → map view (take i list) ≡ map json_of old → map view (take (i + 1) list) ≡ map json_of new
seen_more json_of list i json found old new within is read pushed before =
    ap (map view) (take_more list i json within) ∙ (map-append view (take i list) (get_or list i json ∷ []) ∙ (ap₂ (λ a b. a ++ b ∷ []) before (ap view (sym is) ∙ read) ∙ (sym (map-append json_of old (found ∷ [])) ∙ ap (map json_of) (sym pushed))))

items_by : {T : Type 0} (json_of : T → Data) (values : List T) → items_of (map json_of values) ≡ items_json json_of values
items_by json_of [] = refl
items_by json_of (x ∷ xs) = ap (item (json_of x)) (items_by json_of xs)

-- all items are seen as their values
pub all_seen : {T : Type 0} (json_of : T → Data) (list : List Value) (values : List T) (i : ℕ) → length list ≤ i → map view (take i list) ≡ map json_of values → items_view list ≡ items_json json_of values
all_seen json_of list values i full seen = ap (λ l. items_of (map view l)) (sym (take_all i list full)) ∙ (ap items_of seen ∙ items_by json_of values)

-- what has these items is an array of them
pub is_array : (json : Data) (ds : Items) → Some ds ≡ as_array json → json ≡ array ds
is_array null ds is = absurd (cc)
is_array (boolean b) ds is = absurd (cc)
is_array (number n) ds is = absurd (cc)
is_array (string s) ds is = absurd (cc)
is_array (array es) ds is = cc
is_array (object ms) ds is = absurd (cc)
