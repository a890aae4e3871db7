-- What results that are made of results gave.
use Rattle.std.proofs.Common.{◌≡◌, refl, sym, ap, true≢false}
use Rattle.std.specs.Prelude.{Result, Ok, Err}
use Rattle.std.specs.Result.{is_ok, result_unwrap_or}
use Rattle.sc_history.specs.Reasons.{then_on}
use Rattle.sc_history.specs.declared.reasons.HistoryReason.{HistoryReason}

-- no error is a value
pub err_ok : {X E : Type 0} (e : E) (x : X) → Err e ≡ Ok x → ⊥
err_ok e x h = true≢false (sym (ap is_ok h))

abbrev ok : {X : Type 0} → (E : Type 0) → X → Result X E
ok E x = Ok x

-- equal values
pub same_Ok : {X E : Type 0} (x y : X) → ok E x ≡ Ok y → x ≡ y
same_Ok x y h = ap (λ r. result_unwrap_or r x) h

-- what two steps gave, the first gave and then the second
pub after_ok : {X Y : Type 0} (r : Result X HistoryReason) (onward : X → Result Y HistoryReason) (y : Y) → then_on r onward ≡ Ok y → (x : X) × (r ≡ Ok x) × (onward x ≡ Ok y)
after_ok (Ok x) onward y e = (x, refl, e)
after_ok (Err reason) onward y e = absurd (err_ok reason y e)
