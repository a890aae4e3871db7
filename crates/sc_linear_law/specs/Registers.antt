-- A key as a register.
use Rattle.std.specs.Prelude.{◌≡◌, ℕ, List, [], ◌∷◌, Option}
use Rattle.sc_linear_law.specs.declared.requests.Step.{Step}
use Rattle.sc_linear_law.specs.Requests.{value_after}

-- each step meets the value that the steps before it leave, from this one on
abbrev pub HasRegisterReplies : Option (List ℕ) → List Step → Type 0
HasRegisterReplies value [] = Unit {0}
HasRegisterReplies value (step ∷ steps) = (step.old ≡ value) × HasRegisterReplies (value_after step.request.op value) steps
