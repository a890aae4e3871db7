-- Two majorities share a member.
use Rattle.std.proofs.Common.{◌≡◌, ℕ, ◌+◌, ◌<◌, ◌≤◌, Bool, true, false, cond, eqb, List, [], ◌∷◌, length, count_by, filter, ltb, ◌⊎◌, inl, inr, refl, ◌∙◌, ap, arith}
use Rattle.std.proofs.lemmas.Bool.{cases_Bool, cond-false, cond_both, or_left, or_right, eq-eqb}
use Rattle.std.proofs.lemmas.List.Sums.{sum_by-cons, sum_by-append}
use Rattle.std.proofs.lemmas.List.{length-append}
use Rattle.sc_base.specs.Definitions.{is_member, with_member, IsMajority, SharesMember}
use Rattle.sc_base.proofs.SetLemmas.{split_le, split_length}

pub at_most_one : (b : Bool) → cond b 1 0 ≤ 1
at_most_one b = cond_both b 1 0 (λ n. n ≤ 1) (λ e. omega arith) (λ e. omega arith)

-- an element of the list that passes both tests
abbrev BothPass : (ℕ → Bool) → (ℕ → Bool) → List ℕ → Type 0
BothPass p q xs = (x : ℕ) × (is_member xs x ≡ true) × (p x ≡ true) × (q x ≡ true)

later : (p q : ℕ → Bool) (y : ℕ) (xs : List ℕ) → BothPass p q xs → BothPass p q (y ∷ xs)
later p q y xs b = (b.0, or_right (eqb y b.0) (is_member xs b.0) b.1, b.2, b.3)

both_at : (p q : ℕ → Bool) (x : ℕ) (xs : List ℕ) → (p x ≡ true) ⊎ (p x ≡ false) → (q x ≡ true) ⊎ (q x ≡ false)
    → length (x ∷ xs) < count_by p (x ∷ xs) + count_by q (x ∷ xs)
    → (length xs < count_by p xs + count_by q xs → BothPass p q xs) → BothPass p q (x ∷ xs)
both_at p q x xs (inl a) (inl b) h rest = (x, or_left (eqb x x) (is_member xs x) (eq-eqb x x refl), a, b)
both_at p q x xs (inr a) b h rest =
    let e = sum_by-cons (λ y. cond (p y) 1 0) x xs ∙ ap (λ n. n + count_by p xs) (cond-false (p x) 1 0 a) in
    let f = sum_by-cons (λ y. cond (q y) 1 0) x xs in
    let g = at_most_one (q x) in
    later p q x xs (rest (omega (arith, e, f, g)))
both_at p q x xs a (inr b) h rest =
    let e = sum_by-cons (λ y. cond (p y) 1 0) x xs in
    let f = sum_by-cons (λ y. cond (q y) 1 0) x xs ∙ ap (λ n. n + count_by q xs) (cond-false (q x) 1 0 b) in
    let g = at_most_one (p x) in
    later p q x xs (rest (omega (arith, e, f, g)))

-- two tests that more than all elements pass, counted together, pass at one
both_pass : (p q : ℕ → Bool) (xs : List ℕ) → length xs < count_by p xs + count_by q xs → BothPass p q xs
both_pass p q [] h = absurd (omega arith)
both_pass p q (x ∷ xs) h = both_at p q x xs (cases_Bool (p x)) (cases_Bool (q x)) h (λ k. both_pass p q xs k)

shared : (members one other : List ℕ) → length members < count_by (is_member one) members + count_by (is_member other) members → SharesMember members one other
shared members one other h =
    let r = both_pass (is_member one) (is_member other) members h in
    record { node = r.0; member = r.1; in_one = r.2; in_other = r.3 }

-- two majorities of one set share a member
pub meeting : (members one other : List ℕ) → IsMajority members one → IsMajority members other → SharesMember members one other
meeting members one other h k = shared members one other (omega (arith, h, k))

-- one node more brings one vote more at most
votes_with : (f : ℕ → Bool) (members : List ℕ) (node : ℕ) → count_by f (with_member members node) ≤ count_by f members + 1
votes_with f members node =
    let below = filter (λ member. ltb member node) members in
    let above = filter (λ member. ltb node member) members in
    let all = sum_by-append (λ y. cond (f y) 1 0) below (node ∷ above) in
    let more = sum_by-cons (λ y. cond (f y) 1 0) node above in
    let one = at_most_one (f node) in
    omega (arith, all, more, one, split_le f members node)

-- a node that was not there makes one more
pub length_with : (members : List ℕ) (node : ℕ) → is_member members node ≡ false → length (with_member members node) ≡ length members + 1
length_with members node absent =
    let below = filter (λ member. ltb member node) members in
    let above = filter (λ member. ltb node member) members in
    omega (arith, length-append below (node ∷ above), split_length members node absent)

-- a majority of a set and one of the set with one node more share a member
pub meeting_with : (members : List ℕ) (node : ℕ) (one other : List ℕ) → is_member members node ≡ false
    → IsMajority members one → IsMajority (with_member members node) other → SharesMember members one other
meeting_with members node one other absent h k =
    shared members one other (omega (arith, h, k, length_with members node absent, votes_with (is_member other) members node))
