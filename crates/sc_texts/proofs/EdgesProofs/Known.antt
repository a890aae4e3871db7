-- Known bytes over several calls.
use Rattle.std.proofs.Common.{◌≡◌, ℕ, ◌+◌, List, ◌++◌, sym, ◌∙◌, ap, append_assoc, None, Some, Option, subst, take, drop}
use Rattle.std.proofs.Math.Seq.{take-add}
use Rattle.std.specs.Io.KnownBytes.{Appends}

-- what is appended in two calls
pub Appends-trans : (old mid new : Option (List ℕ)) (a b : List ℕ) → Appends old mid a → Appends mid new b → Appends old new (a ++ b)
Appends-trans None mid new a b p q = tt
Appends-trans (Some xs) None new a b p q = absurd p
Appends-trans (Some xs) (Some ys) None a b p q = absurd q
Appends-trans (Some xs) (Some ys) (Some zs) a b p q = q ∙ ap (λ t. t ++ b) p ∙ append_assoc xs a b

-- a prefix of a piece, and then a prefix of the rest
pub Appends-piece : (old mid new : Option (List ℕ)) (at n : ℕ) (piece rest : List ℕ) → rest ≡ drop at piece → Appends old mid (take at piece) → Appends mid new (take n rest) → Appends old new (take (at + n) piece)
Appends-piece old mid new at n piece rest e p q =
    subst (Appends old new) (sym (take-add at n piece)) (Appends-trans old mid new (take at piece) (take n (drop at piece)) p (subst (λ xs. Appends mid new (take n xs)) e q))
