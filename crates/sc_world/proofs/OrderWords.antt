-- What mails report of orders, with one more mail or row.
use Rattle.std.proofs.Common.{◌≡◌, ℕ, zero, suc, ◌+◌, ◌<◌, List, [], ◌∷◌, ◌++◌, map, length, get_or, Option, Some, None, refl, sym, ap, ◌∙◌, arith}
use Rattle.sc_mail.specs.declared.bodies.Mail.{Mail}
use Rattle.sc_node_table.specs.Slots.{numbers_from}
use Rattle.sc_node_table.specs.Replica.{either}
use Rattle.sc_law_walks.proofs.Ways.{either_assoc, either_none}
use Rattle.sc_world.specs.Summary.{reported_in_mail, reported_of}

-- what more mails report of an order
pub told-append : (number : ℕ) (xs ys : List Mail) → reported_of number (xs ++ ys) ≡ either (reported_of number xs) (reported_of number ys)
told-append number [] ys = refl
told-append number (x ∷ xs) ys = ap (either (reported_in_mail number x.body)) (told-append number xs ys) ∙ sym (either_assoc (reported_in_mail number x.body) (reported_of number xs) (reported_of number ys))

-- what one more mail reports of an order
pub told-last : (number : ℕ) (xs : List Mail) (x : Mail) → reported_of number (xs ++ x ∷ []) ≡ either (reported_of number xs) (reported_in_mail number x.body)
told-last number xs x = told-append number xs (x ∷ []) ∙ ap (either (reported_of number xs)) (either_none (reported_in_mail number x.body))

-- a list made of a number of numbers has that length
pub length-numbered : {X : Type 0} (f : ℕ → X) (from count : ℕ) → length (map f (numbers_from from count)) ≡ count
length-numbered f from zero = refl
length-numbered f from (suc count) = ap suc (length-numbered f (from + 1) count)

-- the place k of what is made of the numbers from one on
pub get_or-numbered : {X : Type 0} (f : ℕ → X) (from count k : ℕ) (d : X) → k < count → get_or (map f (numbers_from from count)) k d ≡ f (from + k)
get_or-numbered f from zero k d lt = absurd (omega (arith, lt))
get_or-numbered f from (suc count) zero d lt = ap f (omega arith)
get_or-numbered f from (suc count) (suc k) d lt = get_or-numbered f (from + 1) count k d (omega (arith, lt)) ∙ ap f (omega arith)
