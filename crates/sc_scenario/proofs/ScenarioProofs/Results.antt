-- What results that are made of results gave.
use Rattle.std.proofs.Common.{◌≡◌, Option, Some, None, Bool, true, false, if◌then◌else◌, refl, sym, ap, true≢false}
use Rattle.std.specs.Prelude.{Result, Ok, Err}
use Rattle.std.specs.Result.{is_ok, result_unwrap_or}
use Rattle.sc_texts.specs.lines.Definitions.{or_reason, then_on}
use Rattle.sc_texts.specs.declared.lines.reasons.Reason.{Reason}

-- no fault is a value
pub err_ok : {X E : Type 0} (e : E) (x : X) → Err e ≡ Ok x → ⊥
err_ok e x h = true≢false (sym (ap is_ok h))

abbrev ok : {X : Type 0} → (E : Type 0) → X → Result X E
ok E x = Ok x

-- equal values
pub same_Ok : {X E : Type 0} (x y : X) → ok E x ≡ Ok y → x ≡ y
same_Ok x y h = ap (λ r. result_unwrap_or r x) h

-- what two steps gave, the first gave and then the second
pub or_reason_ok : {X Y : Type 0} (o : Option X) (reason : Reason) (onward : X → Result Y Reason) (y : Y) → or_reason o reason onward ≡ Ok y → (x : X) × (o ≡ Some x) × (onward x ≡ Ok y)
or_reason_ok (Some x) reason onward y e = (x, refl, e)
or_reason_ok None reason onward y e = absurd (err_ok reason y e)

-- the same, where the first gave a result
pub after_ok : {X Y : Type 0} (r : Result X Reason) (onward : X → Result Y Reason) (y : Y) → then_on r onward ≡ Ok y → (x : X) × (r ≡ Ok x) × (onward x ≡ Ok y)
after_ok (Ok x) onward y e = (x, refl, e)
after_ok (Err reason) onward y e = absurd (err_ok reason y e)

-- what a choice gave against a fault, and the test did not hold
pub passed : {X E : Type 0} (b : Bool) (e : E) (r : Result X E) (x : X) → (if b then Err e else r) ≡ Ok x → (b ≡ false) × (r ≡ Ok x)
passed true e r x h = absurd (err_ok e x h)
passed false e r x h = (refl, h)

-- the same, and the test held
pub met : {X E : Type 0} (b : Bool) (e : E) (r : Result X E) (x : X) → (if b then r else Err e) ≡ Ok x → (b ≡ true) × (r ≡ Ok x)
met true e r x h = (refl, h)
met false e r x h = absurd (err_ok e x h)
