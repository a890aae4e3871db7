-- Just-in-time search (Lowe, 2017) as a game, for requests by number and values of any type.
use Rattle.std.specs.Prelude.{◌≡◌, ℕ, Bool, true, false, ◌==◌, List, [], ◌∷◌, if◌then◌else◌}

-- a line of a history: a request begins there, or it ends, with its number
abbrev pub Move : Type 0
Move = ℕ × Bool × ℕ

-- a set of requests without one
abbrev pub without : ℕ → (ℕ → Bool) → ℕ → Bool
without x p y = if y == x then false else p y

-- a set of requests joined by one
abbrev pub joined : ℕ → (ℕ → Bool) → ℕ → Bool
joined x p y = if y == x then true else p y

module _ {V : Type 0} (fits : ℕ → V → Bool) (next : ℕ → V → V) where
  -- requests are taken, one after another, until c is; then K holds
  abbrev pub Takes : ℕ → ((ℕ → Bool) → V → Type 0) → List ℕ → (ℕ → Bool) → V → Type 0
  Takes c K [] p v = (p c ≡ false) × K p v
  Takes c K (x ∷ xs) p v = (p c ≡ true) × (p x ≡ true) × (fits x v ≡ true) × Takes c K xs (without x p) (next x v)

  -- the rest of the lines can be passed, from a set of requests under way that are not taken, and a value
  abbrev pub CanPass : List Move → (ℕ → Bool) → V → Type 0
  CanPass [] p v = Unit {0}
  CanPass ((l, false, d) ∷ ms) p v = CanPass ms (joined d p) v
  CanPass ((l, true, c) ∷ ms) p v = (xs : List ℕ) × Takes c (CanPass ms) xs p v

  -- each request fits where it stands
  abbrev pub AllFit : V → List ℕ → Type 0
  AllFit v [] = Unit {0}
  AllFit v (x ∷ xs) = (fits x v ≡ true) × AllFit (next x v) xs
