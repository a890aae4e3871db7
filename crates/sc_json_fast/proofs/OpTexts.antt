-- Operations and replies at the beginning of a text.
use Rattle.std.proofs.Common.{◌≡◌, ℕ, List, ◌++◌, codes, refl, ap, ◌∙◌, append_assoc}
use Rattle.json.specs.Print.{escape_byte}
use Rattle.serde_json.specs.Data.{string}
use Rattle.serde_json.specs.Written.{compact_text}
use Rattle.sc_json_text.specs.rows.Shapes.{option_json}
use Rattle.sc_json_text.specs.rows.Held.{FitsKey, FitsValue, OptionFits}
use Rattle.sc_json_fast.specs.Prefixes.{IsOnly, TextBegins}
use Rattle.sc_json_text.proofs.RowsProofs.Apart.{variants_apart}
use Rattle.sc_base.specs.declared.ops.Op.{Op}
use Rattle.sc_base.specs.declared.ops.Op.TheVariants as TheOp
use Rattle.sc_base.specs.declared.ops.Reply.{Reply}
use Rattle.std.proofs.Common.{Option}
use Rattle.sc_json_text.specs.rows.Ops.{op_json, FitsOp, reply_json, FitsReply}

get_only : (key : List ℕ) → IsOnly string FitsKey key → (other : Op) → FitsOp other → op_json other ≡ op_json (TheOp.Get key) → other ≡ (TheOp.Get key)
unfolding op_json FitsOp
get_only key key_known (TheOp.Get other_key) held same =
    let key_same : other_key ≡ key = key_known.only other_key held (cc) in
    cc
get_only key key_known _ held same = absurd (variants_apart _ _ same refl)

pub get_begins : (bytes rest : List ℕ) (key : List ℕ) → IsOnly string FitsKey key → bytes ≡ codes "{\"Get\":{\"key\":" ++ (compact_text (string key) ++ (codes "}}" ++ rest)) → TextBegins op_json FitsOp bytes (TheOp.Get key) rest
unfolding op_json FitsOp escape_byte
get_begins bytes rest key key_known text = record {
  text = text ∙ simp append_assoc;
  known = record { fits = key_known.fits; only = get_only key key_known };
}

put_only : (key : List ℕ) (value : List ℕ) → IsOnly string FitsKey key → IsOnly string FitsValue value → (other : Op) → FitsOp other → op_json other ≡ op_json (TheOp.Put key value) → other ≡ (TheOp.Put key value)
unfolding op_json FitsOp
put_only key value key_known value_known (TheOp.Put other_key other_value) held same =
    let key_same : other_key ≡ key = key_known.only other_key held.0 (cc) in
    let value_same : other_value ≡ value = value_known.only other_value held.1 (cc) in
    cc
put_only key value key_known value_known _ held same = absurd (variants_apart _ _ same refl)

pub put_begins : (bytes rest : List ℕ) (key : List ℕ) (value : List ℕ) → IsOnly string FitsKey key → IsOnly string FitsValue value → bytes ≡ codes "{\"Put\":{\"key\":" ++ (compact_text (string key) ++ (codes ",\"value\":" ++ (compact_text (string value) ++ (codes "}}" ++ rest)))) → TextBegins op_json FitsOp bytes (TheOp.Put key value) rest
unfolding op_json FitsOp escape_byte
put_begins bytes rest key value key_known value_known text = record {
  text = text ∙ simp append_assoc;
  known = record { fits = (key_known.fits, value_known.fits); only = put_only key value key_known value_known };
}

del_only : (key : List ℕ) → IsOnly string FitsKey key → (other : Op) → FitsOp other → op_json other ≡ op_json (TheOp.Del key) → other ≡ (TheOp.Del key)
unfolding op_json FitsOp
del_only key key_known (TheOp.Del other_key) held same =
    let key_same : other_key ≡ key = key_known.only other_key held (cc) in
    cc
del_only key key_known _ held same = absurd (variants_apart _ _ same refl)

pub del_begins : (bytes rest : List ℕ) (key : List ℕ) → IsOnly string FitsKey key → bytes ≡ codes "{\"Del\":{\"key\":" ++ (compact_text (string key) ++ (codes "}}" ++ rest)) → TextBegins op_json FitsOp bytes (TheOp.Del key) rest
unfolding op_json FitsOp escape_byte
del_begins bytes rest key key_known text = record {
  text = text ∙ simp append_assoc;
  known = record { fits = key_known.fits; only = del_only key key_known };
}

add_only : (key : List ℕ) (value : List ℕ) → IsOnly string FitsKey key → IsOnly string FitsValue value → (other : Op) → FitsOp other → op_json other ≡ op_json (TheOp.Add key value) → other ≡ (TheOp.Add key value)
unfolding op_json FitsOp
add_only key value key_known value_known (TheOp.Add other_key other_value) held same =
    let key_same : other_key ≡ key = key_known.only other_key held.0 (cc) in
    let value_same : other_value ≡ value = value_known.only other_value held.1 (cc) in
    cc
add_only key value key_known value_known _ held same = absurd (variants_apart _ _ same refl)

pub add_begins : (bytes rest : List ℕ) (key : List ℕ) (value : List ℕ) → IsOnly string FitsKey key → IsOnly string FitsValue value → bytes ≡ codes "{\"Add\":{\"key\":" ++ (compact_text (string key) ++ (codes ",\"value\":" ++ (compact_text (string value) ++ (codes "}}" ++ rest)))) → TextBegins op_json FitsOp bytes (TheOp.Add key value) rest
unfolding op_json FitsOp escape_byte
add_begins bytes rest key value key_known value_known text = record {
  text = text ∙ simp append_assoc;
  known = record { fits = (key_known.fits, value_known.fits); only = add_only key value key_known value_known };
}

cas_only : (key : List ℕ) (expect : List ℕ) (value : List ℕ) → IsOnly string FitsValue expect → IsOnly string FitsKey key → IsOnly string FitsValue value → (other : Op) → FitsOp other → op_json other ≡ op_json (TheOp.Cas key expect value) → other ≡ (TheOp.Cas key expect value)
unfolding op_json FitsOp
cas_only key expect value expect_known key_known value_known (TheOp.Cas other_key other_expect other_value) held same =
    let expect_same : other_expect ≡ expect = expect_known.only other_expect held.0 (cc) in
    let key_same : other_key ≡ key = key_known.only other_key held.1 (cc) in
    let value_same : other_value ≡ value = value_known.only other_value held.2 (cc) in
    cc
cas_only key expect value expect_known key_known value_known _ held same = absurd (variants_apart _ _ same refl)

pub cas_begins : (bytes rest : List ℕ) (key : List ℕ) (expect : List ℕ) (value : List ℕ) → IsOnly string FitsValue expect → IsOnly string FitsKey key → IsOnly string FitsValue value → bytes ≡ codes "{\"Cas\":{\"expect\":" ++ (compact_text (string expect) ++ (codes ",\"key\":" ++ (compact_text (string key) ++ (codes ",\"value\":" ++ (compact_text (string value) ++ (codes "}}" ++ rest)))))) → TextBegins op_json FitsOp bytes (TheOp.Cas key expect value) rest
unfolding op_json FitsOp escape_byte
cas_begins bytes rest key expect value expect_known key_known value_known text = record {
  text = text ∙ simp append_assoc;
  known = record { fits = (expect_known.fits, key_known.fits, value_known.fits); only = cas_only key expect value expect_known key_known value_known };
}

reply_only : (reply other : Reply) → IsOnly (option_json string) (OptionFits FitsValue) reply.old → FitsReply other → reply_json other ≡ reply_json reply → other ≡ reply
unfolding reply_json FitsReply
reply_only reply other old_only held same = ap (λ o. let r : Reply = record { old = o } in r) (old_only.only other.old held (cc))

pub reply_begins : (bytes rest : List ℕ) (old : Option (List ℕ)) → IsOnly (option_json string) (OptionFits FitsValue) old → bytes ≡ codes "{\"old\":" ++ (compact_text (option_json string old) ++ (codes "}" ++ rest)) → TextBegins reply_json FitsReply bytes (record { old = old }) rest
unfolding reply_json FitsReply escape_byte
reply_begins bytes rest old old_only text = record {
  text = text ∙ simp append_assoc;
  known = record { fits = old_only.fits; only = λ other held same. reply_only (record { old = old }) other old_only held same };
}
