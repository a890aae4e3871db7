-- What holds of an answer, from what holds of another.
use Rattle.std.proofs.Common.{Result, Ok, Err, IfOk, IfErr, OnOk}

module _ {T E : Type 0} where
  -- of a value, with a fact beside it
  pub ok_with : {P Q : T → Type 0} {F : Type 0} (r : Result T E) → ((t : T) → P t → F → Q t) → IfOk r P → OnOk r F → IfOk r Q
  ok_with (Ok t) f p q = f t p q
  ok_with (Err e) f p q = tt

  -- of a value
  pub ok_maps : {P Q : T → Type 0} (r : Result T E) → ((t : T) → P t → Q t) → IfOk r P → IfOk r Q
  ok_maps (Ok t) f p = f t p
  ok_maps (Err e) f p = tt

  -- of an error
  pub err_maps : {P Q : E → Type 0} (r : Result T E) → ((e : E) → P e → Q e) → IfErr r P → IfErr r Q
  err_maps (Ok t) f p = tt
  err_maps (Err e) f p = f e p

  -- what holds of either answer
  pub either : {P : Type 0} (r : Result T E) → IfOk r (λ _. P) → IfErr r (λ _. P) → P
  either (Ok t) p q = p
  either (Err e) p q = q
