-- Values with commas between are the text of an array.
use Rattle.std.proofs.Common.{◌≡◌, ℕ, zero, suc, ◌+◌, ◌<◌, ◌≤◌, Bool, true, false, List, [], ◌∷◌, ◌++◌, codes, length, get_or, drop, refl, sym, ap, ◌∙◌, arith, append_assoc, drop-cons}
use Rattle.serde_json.specs.Data.{Data}
use Rattle.serde_json.specs.Written.{comma_if, compact_text, items_text}
use Rattle.sc_json_text.specs.rows.Sets.{nodes_json}
use Rattle.sc_json_text.specs.rows.Shapes.{items_json, list_json, number_json}

-- what follows the values before a place, where something stands before it or not
abbrev pub text_from : {T : Type 0} → (T → Data) → Bool → ℕ → List T → List ℕ
text_from json_of later i xs = items_text later (items_json json_of (drop i xs))

pub list_begins : {T : Type 0} (json_of : T → Data) (old t : List ℕ) (xs : List T) → t ≡ old ++ codes "[" → t ++ text_from json_of false 0 xs ≡ old ++ compact_text (list_json json_of xs)
list_begins json_of old t xs t_is =
    ap (λ (x : List ℕ). x ++ text_from json_of false 0 xs) t_is ∙ append_assoc old (codes "[") (text_from json_of false 0 xs)

pub list_goes_on : {T : Type 0} (json_of : T → Data) (xs : List T) (i : ℕ) (x : T) (later : Bool) (text t u : List ℕ)
    → i < length xs → x ≡ get_or xs i x → t ≡ text ++ comma_if later → u ≡ t ++ compact_text (json_of x)
    → u ++ text_from json_of true (i + 1) xs ≡ text ++ text_from json_of later i xs
list_goes_on {T} json_of xs i x later text t u within here t_is u_is =
    let one : i + 1 ≡ suc i = omega arith in
    let behind : List ℕ = text_from json_of true (suc i) xs in
    let first : drop i xs ≡ x ∷ drop (suc i) xs = drop-cons xs i x within ∙ ap (λ (y : T). y ∷ drop (suc i) xs) (sym here) in
    ap (λ (n : ℕ). u ++ text_from json_of true n xs) one
    ∙ ap (λ (v : List ℕ). v ++ behind) (u_is ∙ ap (λ (v : List ℕ). v ++ compact_text (json_of x)) t_is)
    ∙ append_assoc (text ++ comma_if later) (compact_text (json_of x)) behind
    ∙ append_assoc text (comma_if later) (compact_text (json_of x) ++ behind)
    ∙ ap (λ (ys : List T). text ++ items_text later (items_json json_of ys)) (sym first)

none_left : {T : Type 0} (xs : List T) (i : ℕ) → length xs ≤ i → drop i xs ≡ []
none_left [] zero full = refl
none_left [] (suc i) full = refl
none_left (x ∷ xs) zero full = absurd (omega (arith, full))
none_left (x ∷ xs) (suc i) full = none_left xs i (omega (arith, full))

pub list_ends : {T : Type 0} (json_of : T → Data) (xs : List T) (i : ℕ) (later : Bool) (old text : List ℕ) → length xs ≤ i
    → text ++ text_from json_of later i xs ≡ old ++ compact_text (list_json json_of xs)
    → text ++ codes "]" ≡ old ++ compact_text (list_json json_of xs)
list_ends {T} json_of xs i later old text full all =
    ap (λ (ys : List T). text ++ items_text later (items_json json_of ys)) (sym (none_left xs i full)) ∙ all

-- a set of nodes is an array of numbers
pub nodes_are : (items members : List ℕ) → items ≡ members → list_json number_json items ≡ nodes_json members
unfolding nodes_json
nodes_are items members same = ap (list_json number_json) same
