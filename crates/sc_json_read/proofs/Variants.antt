-- Variants, from their names and contents.
use Rattle.std.proofs.Common.{◌≡◌, ℕ, List, true, false, Result, Ok, Err, ap, sym, ◌∙◌, subst}
use Rattle.std.specs.Prelude.{IfOk}
use Rattle.serde_json.specs.Data.{Data, null, boolean, number, string, array, object}
use Rattle.sc_json_text.specs.rows.Shapes.{variant}
use Rattle.sc_json_read.specs.Reading.{Finds, IsWord, Spells}
use Rattle.sc_json_read.specs.declared.errors.RowError.{RowError}

-- a variant without content is found in its name
pub unit_found : {T : Type 0} (json_of : T → Data) (json : Data) (value unit : T) (result : Result T RowError) → json ≡ json_of value → unit ≡ value → IsWord (json_of unit) → (IsWord json → result ≡ Ok unit) → Finds value result
unit_found json_of json value unit result e same lone read =
    let whole : json ≡ json_of unit = e ∙ ap json_of (sym same) in
    subst (Finds value) (sym (read (subst IsWord (sym whole) lone))) same

-- it is found in nothing else
pub unit_exact : {T : Type 0} (json_of : T → Data) (json content : Data) (found name : List ℕ) (unit : T) (result : Result T RowError) → Spells json found content → found ≡ name → json_of unit ≡ string name → IfOk result (λ v. (v ≡ unit) × IsWord json) → IfOk result (λ v. json ≡ json_of v)
unit_exact json_of json content found name unit (Err why) spells is lone read = tt
unit_exact json_of null content found name unit (Ok v) spells is lone read = absurd spells
unit_exact json_of (boolean b) content found name unit (Ok v) spells is lone read = absurd spells
unit_exact json_of (number n) content found name unit (Ok v) spells is lone read = absurd spells
unit_exact json_of (string word) content found name unit (Ok v) spells is lone read = ap string (spells.0 ∙ is) ∙ (sym lone ∙ ap json_of (sym read.0))
unit_exact json_of (array ds) content found name unit (Ok v) spells is lone read = absurd spells
unit_exact json_of (object ms) content found name unit (Ok v) spells is lone read = absurd (let clash : false ≡ true = read.1 in cc)

-- a variant with content is found in nothing but an object of its name and content
pub arm_exact : {T : Type 0} (json_of : T → Data) (no_echo : (value : T) (called : List ℕ) → variant called (string called) ≡ json_of value → ⊥) (json content : Data) (found name : List ℕ) (result : Result T RowError) → Spells json found content → found ≡ name → IfOk result (λ v. variant name content ≡ json_of v) → IfOk result (λ v. json ≡ json_of v)
arm_exact json_of no_echo json content found name (Err why) spells is read = tt
arm_exact json_of no_echo null content found name (Ok v) spells is read = absurd spells
arm_exact json_of no_echo (boolean b) content found name (Ok v) spells is read = absurd spells
arm_exact json_of no_echo (number n) content found name (Ok v) spells is read = absurd spells
arm_exact json_of no_echo (string word) content found name (Ok v) spells is read =
    let inner : content ≡ string name = spells.1 ∙ ap string (spells.0 ∙ is) in
    absurd (no_echo v name (ap (variant name) (sym inner) ∙ read))
arm_exact json_of no_echo (array ds) content found name (Ok v) spells is read = absurd spells
arm_exact json_of no_echo (object ms) content found name (Ok v) spells is read = spells ∙ (ap (λ n. variant n content) is ∙ read)
