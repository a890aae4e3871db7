-- The groups' records, one after another.
use Rattle.std.proofs.Common.{◌≡◌, ℕ, suc, ◌+◌, List, [], ◌∷◌, ◌++◌, ap, arith}
use Rattle.sc_scenario.specs.scenario.Definitions.{base_at, bases_up_to}
use Rattle.sc_scenario.specs.declared.scenario.drafts.GroupLine.{GroupLine}

-- one record more
pub bases_next : (lines : List GroupLine) (k : ℕ) → bases_up_to lines (k + 1) ≡ bases_up_to lines k ++ base_at lines k ∷ []
bases_next lines k = let e : k + 1 ≡ suc k = omega arith in ap (bases_up_to lines) e
