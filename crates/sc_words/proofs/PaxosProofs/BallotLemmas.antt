-- The order of ballots.
use Rattle.std.proofs.Common.{◌≡◌, ℕ, ◌<◌, ◌≤◌, true, false, ltb, eqb, cond, ◌⊎◌, inl, inr, refl, sym, ◌∙◌, ap, arith}
use Rattle.std.specs.Ordering.{nat_cmp, ordering_then, is_lt}
use Rattle.std.specs.declared.cmp.Ordering.TheVariants.{Less, Equal, Greater}
use Rattle.std.proofs.lemmas.Bool.{cases_Bool, cases_lt, cases_order, cond-true, cond-false, lt-ltb, le-ltb, eq-eqb, ne_eqb}
use Rattle.sc_base.specs.declared.names.Ballot.{Ballot}
use Rattle.sc_base.proofs.Lemmas.{ballots_equal}
use Rattle.sc_words.specs.paxos.PaxosDefinitions.{below, IsAtLeast}

less : (m n : ℕ) → m < n → nat_cmp m n ≡ Less
less m n lt = cond-true (ltb m n) Less (cond (eqb m n) Equal Greater) (lt-ltb m n lt)

tied : (m n : ℕ) → m ≡ n → nat_cmp m n ≡ Equal
tied m n e = cond-false (ltb m n) Less (cond (eqb m n) Equal Greater) (le-ltb m n (omega arith)) ∙ cond-true (eqb m n) Equal Greater (eq-eqb m n e)

greater : (m n : ℕ) → n < m → nat_cmp m n ≡ Greater
greater m n gt = cond-false (ltb m n) Less (cond (eqb m n) Equal Greater) (le-ltb m n (omega arith)) ∙ cond-false (eqb m n) Equal Greater (ne_eqb m n (λ e. absurd (omega arith)))

-- a ballot is below another by its round, or in the same round by its node
abbrev pub ComesBefore : Ballot → Ballot → Type 0
ComesBefore a b = (a.round < b.round) ⊎ ((a.round ≡ b.round) × (a.node < b.node))

-- a ballot that comes before is below
pub below_from : (a b : Ballot) → ComesBefore a b → below a b ≡ true
below_from a b (inl lt) = ap (λ o. is_lt (ordering_then o (nat_cmp a.node b.node))) (less a.round b.round lt)
below_from a b (inr h) =
    ap (λ o. is_lt (ordering_then o (nat_cmp a.node b.node))) (tied a.round b.round h.0) ∙ ap is_lt (less a.node b.node h.1)

-- and it is not below one of a lower round, or of its round and a node not above its own
abbrev pub ComesNotBefore : Ballot → Ballot → Type 0
ComesNotBefore a b = (b.round < a.round) ⊎ ((a.round ≡ b.round) × (b.node ≤ a.node))

pub not_below_from : (a b : Ballot) → ComesNotBefore a b → below a b ≡ false
not_below_from a b (inl gt) = ap (λ o. is_lt (ordering_then o (nat_cmp a.node b.node))) (greater a.round b.round gt)
not_below_from a b (inr h) =
    let first = ap (λ o. is_lt (ordering_then o (nat_cmp a.node b.node))) (tied a.round b.round h.0) in
    elim (cases_order a.node b.node) [
      | inl e ↦ first ∙ ap is_lt (tied a.node b.node e)
      | inr o ↦ elim o [ inl lt ↦ absurd (omega arith) | inr gt ↦ first ∙ ap is_lt (greater a.node b.node gt) ]
    ]

pub cases_before : (a b : Ballot) → ComesBefore a b ⊎ ComesNotBefore a b
cases_before a b =
    elim (cases_order a.round b.round) [
      | inl e ↦ elim (cases_lt a.node b.node) [ inl lt ↦ inl (inr (e, lt)) | inr ge ↦ inr (inr (e, ge)) ]
      | inr o ↦ elim o [ inl lt ↦ inl (inl lt) | inr gt ↦ inr (inl gt) ]
    ]

-- a ballot that is below comes before
pub below_parts : (a b : Ballot) → below a b ≡ true → ComesBefore a b
below_parts a b t = elim (cases_before a b) [ inl h ↦ h | inr h ↦ (let f = not_below_from a b h in cc) ]

pub not_below_parts : (a b : Ballot) → below a b ≡ false → ComesNotBefore a b
not_below_parts a b f = elim (cases_before a b) [ inl h ↦ (let t = below_from a b h in cc) | inr h ↦ h ]

pub before_trans : (a b c : Ballot) → ComesBefore a b → ComesBefore b c → ComesBefore a c
before_trans a b c (inl h) (inl k) = inl (omega arith)
before_trans a b c (inl h) (inr k) = inl (omega (arith, k.0))
before_trans a b c (inr h) (inl k) = inl (omega (arith, h.0))
before_trans a b c (inr h) (inr k) = inr (h.0 ∙ k.0, omega (arith, h.1, k.1))

not_after_before : (a b c : Ballot) → ComesNotBefore b a → ComesBefore b c → ComesBefore a c
not_after_before a b c (inl h) (inl k) = inl (omega arith)
not_after_before a b c (inl h) (inr k) = inl (omega (arith, k.0))
not_after_before a b c (inr h) (inl k) = inl (omega (arith, h.0))
not_after_before a b c (inr h) (inr k) = inr (sym h.0 ∙ k.0, omega (arith, h.1, k.1))

not_before_trans : (a b c : Ballot) → ComesNotBefore a b → ComesNotBefore b c → ComesNotBefore a c
not_before_trans a b c (inl h) (inl k) = inl (omega arith)
not_before_trans a b c (inl h) (inr k) = inl (omega (arith, k.0))
not_before_trans a b c (inr h) (inl k) = inl (omega (arith, h.0))
not_before_trans a b c (inr h) (inr k) = inr (h.0 ∙ k.0, omega (arith, h.1, k.1))

-- below what is below
pub below_trans : (a b c : Ballot) → below a b ≡ true → below b c ≡ true → below a c ≡ true
below_trans a b c h k = below_from a c (before_trans a b c (below_parts a b h) (below_parts b c k))

-- a is not above b, and b < c: a < c
pub at_least_below : (a b c : Ballot) → IsAtLeast b a → below b c ≡ true → below a c ≡ true
at_least_below a b c h k = below_from a c (not_after_before a b c (not_below_parts b a h) (below_parts b c k))

-- at least what is at least
pub at_least_trans : (a b c : Ballot) → IsAtLeast a b → IsAtLeast b c → IsAtLeast a c
at_least_trans a b c h k = not_below_from a c (not_before_trans a b c (not_below_parts a b h) (not_below_parts b c k))

-- a ballot is at least itself
pub at_least_itself : (a : Ballot) → IsAtLeast a a
at_least_itself a = not_below_from a a (inr (refl, omega arith))

-- what is below another is not above it
pub at_least_from_below : (a b : Ballot) → below a b ≡ true → IsAtLeast b a
at_least_from_below a b h = elim (below_parts a b h) [ inl k ↦ not_below_from b a (inl k) | inr k ↦ not_below_from b a (inr (sym k.0, omega (arith, k.1))) ]

-- below and at least exclude each other
pub not_both : (a b : Ballot) → below a b ≡ true → IsAtLeast a b → ⊥
not_both a b h k = cc

-- neither is above the other: they are the same
pub same_from_at_least : (a b : Ballot) → IsAtLeast a b → IsAtLeast b a → a ≡ b
same_from_at_least a b h k =
    elim (not_below_parts a b h) [
      | inl p ↦ elim (not_below_parts b a k) [ inl q ↦ absurd (omega arith) | inr q ↦ absurd (omega (arith, q.0)) ]
      | inr p ↦ elim (not_below_parts b a k) [ inl q ↦ absurd (omega (arith, p.0)) | inr q ↦ ballots_equal a.round a.node b.round b.node p.0 (omega (arith, p.1, q.1)) ]
    ]

-- a ballot is below another, or it is that one or a later one
pub cases_below : (a b : Ballot) → (below a b ≡ true) ⊎ IsAtLeast a b
cases_below a b = cases_Bool (below a b)
