-- The first member of an object.
use Rattle.std.proofs.Common.{◌≡◌, List, [], ◌∷◌, Some, String, BTreeMap, Global, length, string_bytes, btree_map_len, refl, ap, sym, arith}
use Rattle.std.specs.List.{slice_get}
use Rattle.serde_json.specs.Data.{object}
use Rattle.serde_json.specs.View.{view, members_view}
use Rattle.serde_json.specs.declared.value.Value.{Value, Object}
use Rattle.serde_json.proofs.Views.{view-Object}
use Rattle.sc_json_read.specs.Reading.{IsSingle, MayBeVariant, Spells, content_of, first_content}
use Rattle.sc_json_text.specs.rows.Shapes.{variant, variant_name, first_name}

-- the first entry is the first member
first_of_entries : (entries : List (String Global × Value)) (name : String Global) (content : Value) → slice_get entries 0 ≡ Some (name, content) → (string_bytes name ≡ first_name (members_view entries)) × (view content ≡ first_content (members_view entries))
first_of_entries [] name content first = cc
first_of_entries (e ∷ es) name content first = let same : e ≡ (name, content) = cc in (ap (λ (e : String Global × Value). string_bytes e.0) (sym same), ap (λ (e : String Global × Value). view e.1) (sym same))

pub parts_of_first : (json : Value) (m : BTreeMap (String Global) Value) (name : String Global) (content : Value) → json ≡ Object m → slice_get m.entries 0 ≡ Some (name, content) → (string_bytes name ≡ variant_name (view json)) × (view content ≡ content_of (view json))
parts_of_first json m name content is first = rw (is, view-Object m) (first_of_entries m.entries name content first)

one_entry : (entries : List (String Global × Value)) → IsSingle (members_view entries) → length entries ≡ 1
one_entry [] one = absurd one
one_entry (e ∷ []) one = refl
one_entry (e ∷ f ∷ fs) one = absurd one

-- an object of other than one member is no variant
pub is_no_variant : (json : Value) (m : BTreeMap (String Global) Value) → json ≡ Object m → (btree_map_len m ≡ 1 → ⊥) → MayBeVariant (view json) → ⊥
is_no_variant json m is other = rw (is, view-Object m) (λ one. other (one_entry m.entries one))

only_entry : (entries : List (String Global × Value)) (name : String Global) (content : Value) → length entries ≡ 1 → slice_get entries 0 ≡ Some (name, content) → object (members_view entries) ≡ variant (string_bytes name) (view content)
only_entry [] name content one first = absurd (omega arith)
only_entry (e ∷ []) name content one first = let same : e ≡ (name, content) = cc in ap (λ (e : String Global × Value). variant (string_bytes e.0) (view e.1)) same
only_entry (e ∷ f ∷ fs) name content one first = absurd (omega arith)

-- an object of one member spells its name and content
pub spells_only : (json : Value) (m : BTreeMap (String Global) Value) (name : String Global) (content : Value) → json ≡ Object m → btree_map_len m ≡ 1 → slice_get m.entries 0 ≡ Some (name, content) → Spells (view json) (string_bytes name) (view content)
spells_only json m name content is one first = rw (is, view-Object m) (only_entry m.entries name content one first)
