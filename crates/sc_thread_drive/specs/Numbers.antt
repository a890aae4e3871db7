-- Lists of actors' numbers.
use Rattle.std.specs.Prelude.{ℕ, ◌==◌, List, [], ◌∷◌, Bool, true, ◌&&◌, not}
use Rattle.std.specs.List.{list_any}

-- Whether the number is in the list.
abbrev pub is_in : ℕ → List ℕ → Bool
is_in n ws = list_any (λ w. n == w) ws

-- Whether no number is in the list twice.
abbrev pub apart : List ℕ → Bool
apart [] = true
apart (w ∷ ws) = not (is_in w ws) && apart ws
