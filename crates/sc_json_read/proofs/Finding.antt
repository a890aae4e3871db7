-- Steps of parsers.
use Rattle.std.proofs.Common.{◌≡◌, Result, Ok, Err, IsErr, ◌∙◌}
use Rattle.std.specs.Result.{IsErrAnd}
use Rattle.sc_json_read.specs.Reading.{Finds, Shows}
use Rattle.sc_json_read.specs.declared.errors.RowError.{RowError}
use Rattle.sc_json_read.specs.declared.errors.RowError.TheVariants.{OutOfMemory}

-- a part that is out of memory makes the whole out of memory
pub failed : {T : Type 0} (result : Result T RowError) (value : T) (why : RowError) → IsErr result × IsErrAnd result (λ e. e ≡ why) → why ≡ OutOfMemory → Finds value result
failed (Ok found) value why is short = absurd is.1
failed (Err e) value why is short = is.1 ∙ short

-- the same where the value is seen as another
pub failed_as : {T X : Type 0} (result : Result T RowError) (seen : T → X) (value : X) (why : RowError) → IsErr result × IsErrAnd result (λ e. e ≡ why) → why ≡ OutOfMemory → Shows seen value result
failed_as (Ok found) seen value why is short = absurd is.1
failed_as (Err e) seen value why is short = is.1 ∙ short

-- what is out of memory where its cause is so
pub failed_for : {T : Type 0} (result : Result T RowError) (value : T) (Cause : Type 0) → IsErr result × IsErrAnd result (λ e. Cause → e ≡ OutOfMemory) → Cause → Finds value result
failed_for (Ok found) value Cause is cause = absurd is.1
failed_for (Err e) value Cause is cause = is.1 cause
