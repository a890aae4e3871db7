-- The waiting request is one of the client's requests.
use Rattle.std.specs.Prelude.{◌≡◌, ℕ, ◌≤◌, List, length, Option, Some}
use Rattle.sc_base.specs.Limits.{most_requests}
use Rattle.sc_base.specs.declared.ops.Op.{Op}

-- there are no more requests than a client may have, and the number of a waiting request is that of one of them
pub record IsNumbered (requests : List Op) (waiting : Option ℕ) : Type 0 where
  pub few : length requests ≤ most_requests
  pub least : (seq : ℕ) → waiting ≡ Some seq → 1 ≤ seq
  pub most : (seq : ℕ) → waiting ≡ Some seq → seq ≤ length requests
