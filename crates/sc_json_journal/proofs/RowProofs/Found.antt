-- What a parser of JSON finds in the text of a row.
use Rattle.std.proofs.Common.{◌≡◌, ℕ, List, true, false, bytes_eq, Some, Result, Err, IsErr, sym, ap, ◌∙◌, subst}
use Rattle.std.specs.Result.{IsErrAnd}
use Rattle.std.proofs.lemmas.Option.{same_Some}
use Rattle.std.proofs.lemmas.Slice.Eq.{bytes_eq-Decides}
use Rattle.serde_json.specs.Data.{Data}
use Rattle.serde_json.specs.Read.{read}
use Rattle.sc_actor.specs.declared.rows.Row.{Row}
use Rattle.sc_words.specs.declared.commands.orders.OrderLine.{OrderLine}
use Rattle.sc_mail.specs.declared.bodies.Mail.{Mail}
use Rattle.sc_json_read.specs.declared.errors.RowError.{RowError}
use Rattle.sc_json_read.specs.declared.errors.RowError.TheVariants.{NoRow, OutOfMemory}
use Rattle.sc_json_text.specs.rows.Rows.{row_json, FitsRow}
use Rattle.sc_json_text.specs.rows.RowText.{text_of, IsHeld}

-- a row that is held has its parts as they are to be
pub fits_of : (row : Row Mail OrderLine) → IsHeld row → FitsRow row
unfolding IsHeld
fits_of row held = held

-- the JSON of a row's text is the row's
pub found : (text : List ℕ) (json : Data) (row : Row Mail OrderLine) → ((one : Row Mail OrderLine) → IsHeld one → read (text_of one) ≡ Some (row_json one)) → read text ≡ Some json → IsHeld row → text_of row ≡ text → json ≡ row_json row
found text json row back is held same = same_Some json (row_json row) (sym is ∙ (ap read (sym same) ∙ back row held))

-- what is out of memory fails for no other reason
pub short : {T : Type 0} (result : Result T RowError) (why : RowError) → IsErr result × IsErrAnd result (λ e. e ≡ why) → why ≡ OutOfMemory → result ≡ Err NoRow → ⊥
short result why is memory none = let clash : NoRow ≡ OutOfMemory = subst (λ r. IsErrAnd r (λ e. e ≡ why)) none is.1 ∙ memory in cc

-- texts that differ are not the same
pub differ : (one other : List ℕ) → bytes_eq one other ≡ false → one ≡ other → ⊥
differ one other differs same = let clash : true ≡ false = sym ((bytes_eq-Decides one other).1 same) ∙ differs in cc
