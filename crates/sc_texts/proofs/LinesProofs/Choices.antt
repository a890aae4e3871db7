-- What options that are made of options gave.
use Rattle.std.proofs.Common.{◌≡◌, ◌≤◌, ◌&&◌, ℕ, List, Some, None, Option, Bool, true, false, if◌then◌else◌, nat_le, refl, rules, arith}
use Rattle.std.proofs.lemmas.Option.{same_Some}
use Rattle.sc_base.proofs.Lemmas.{and_then-some}
use Rattle.sc_base.specs.Definitions.{number_of, is_numeral, value_from}
use Rattle.sc_texts.specs.lines.Definitions.{count_in}

-- what a choice gives against nothing was given, and the test holds
pub chosen : {X : Type 0} (b : Bool) (o : Option X) (x : X) → (if b then o else None) ≡ Some x → (b ≡ true) × (o ≡ Some x)
chosen true o x e = (refl, e)
chosen false o x e = search (rules, e)

both_chosen : (a b : Bool) (x y : ℕ) → (if a && b then Some x else None) ≡ Some y → (b ≡ true) × (x ≡ y)
both_chosen true true x y e = (refl, same_Some x y e)
both_chosen true false x y e = search (rules, e)
both_chosen false b x y e = search (rules, e)

-- a number that is read is up to the most
pub is_up_to : (most : ℕ) (word : List ℕ) (n : ℕ) → number_of word most ≡ Some n → n ≤ most
is_up_to most word n e =
    let c = both_chosen (is_numeral word) (nat_le (value_from 0 word) most) (value_from 0 word) n e in
    let le : value_from 0 word ≤ most = search (rules, c.0) in
    let same = c.1 in
    omega arith

-- a count that is read is from 1 to the most
pub counted : (most : ℕ) (word : List ℕ) (n : ℕ) → count_in most word ≡ Some n → (1 ≤ n) × (n ≤ most)
counted most word n e =
    let b = and_then-some (λ m. if nat_le 1 m then Some m else None) (number_of word most) n e in
    let c = chosen (nat_le 1 b.0) (Some b.0) n b.2 in
    let same = same_Some b.0 n c.1 in
    let le : 1 ≤ b.0 = search (rules, c.0) in
    let up = is_up_to most word b.0 b.1 in
    (omega arith, omega arith)
