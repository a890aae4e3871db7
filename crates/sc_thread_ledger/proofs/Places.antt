-- Where a number stands among the entries of pending mail.
use Rattle.std.proofs.Common.{◌≡◌, ℕ, zero, suc, ◌+◌, ◌<◌, ◌≤◌, nat_eq, List, [], ◌∷◌, ◌++◌, length, remove, eqb, Bool, true, false, not, ltb, get_or, set, refl, sym, ap, ◌∙◌, arith, ne_eqb, eq-eqb, None, Some, inl, inr}
use Rattle.std.proofs.lemmas.Bool.{cases_Bool, cond-true, cond-false, eqb-true, eqb-false, ltb-false, not_from_true, not_from_false}
use Rattle.std.proofs.lemmas.List.Quantifiers.{position-Some}
use Rattle.std.specs.List.{position, position_or_len}
use Rattle.std.specs.Map.{remove_entry}
use Rattle.indexmap.specs.IndexMap.{insert_entry}

module _ (key count : ℕ) where
  -- whether an entry is of the number
  abbrev pub At : ℕ × ℕ → Bool
  At e = eqb e.0 key

  other : (e : ℕ × ℕ) → At e ≡ false → nat_eq key e.0 ≡ false
  other e isnt = ne_eqb key e.0 (λ q. eqb-false e.0 key isnt (sym q))

  there : (es : List (ℕ × ℕ)) (p : ℕ) (d : ℕ × ℕ) → p < length es → At (get_or es p d) ≡ true → ((k : ℕ) → k < p → At (get_or es k d) ≡ false) →
      (remove es p ≡ remove_entry (nat_eq key) es) × (set es p (key, count) ≡ insert_entry nat_eq es key count)
  there [] p d lt here isnt = absurd (omega arith)
  there (e ∷ es) zero d lt here isnt =
      let is : e.0 ≡ key = eqb-true e.0 key here in (
        sym (cond-true (nat_eq key e.0) es (e ∷ remove_entry (nat_eq key) es) (eq-eqb key e.0 (sym is))),
        ap (λ n. (n, count) ∷ es) (sym is) ∙ sym (cond-true (nat_eq key e.0) ((e.0, count) ∷ es) (e ∷ insert_entry nat_eq es key count) (eq-eqb key e.0 (sym is))),
      )
  there (e ∷ es) (suc p) d lt here isnt =
      let rest = there es p d (omega arith) here (λ k l. isnt (suc k) (omega arith)) in
      let apart = other e (isnt 0 (omega arith)) in (
        ap (λ l. e ∷ l) rest.0 ∙ sym (cond-false (nat_eq key e.0) es (e ∷ remove_entry (nat_eq key) es) apart),
        ap (λ l. e ∷ l) rest.1 ∙ sym (cond-false (nat_eq key e.0) ((e.0, count) ∷ es) (e ∷ insert_entry nat_eq es key count) apart),
      )

  -- where a number stands, its entry is the one that is taken out or gets the new count
  pub at_place : (es : List (ℕ × ℕ)) (p : ℕ) → position At es ≡ Some p → (remove es p ≡ remove_entry (nat_eq key) es) × (set es p (key, count) ≡ insert_entry nat_eq es key count)
  at_place es p is = let found = position-Some At es p (0, 0) is in there es p (0, 0) found.0 found.1 found.2

  nowhere : (es : List (ℕ × ℕ)) → length es ≤ position_or_len At es → (es ≡ remove_entry (nat_eq key) es) × (es ++ (key, count) ∷ [] ≡ insert_entry nat_eq es key count)
  nowhere [] le = (refl, refl)
  nowhere (e ∷ es) le =
      elim (cases_Bool (At e)) [
        | inl t ↦ (let z = cond-false (not (At e)) (1 + position_or_len At es) 0 (not_from_true (At e) t) in absurd (omega arith))
        | inr f ↦ (
            let z = cond-true (not (At e)) (1 + position_or_len At es) 0 (not_from_false (At e) f) in
            let rest = nowhere es (omega arith) in (
              ap (λ l. e ∷ l) rest.0 ∙ sym (cond-false (nat_eq key e.0) es (e ∷ remove_entry (nat_eq key) es) (other e f)),
              ap (λ l. e ∷ l) rest.1 ∙ sym (cond-false (nat_eq key e.0) ((e.0, count) ∷ es) (e ∷ insert_entry nat_eq es key count) (other e f)),
            ))
      ]

  -- where it stands nowhere, nothing is taken out, and it goes last
  pub at_none : (es : List (ℕ × ℕ)) → position At es ≡ None → (es ≡ remove_entry (nat_eq key) es) × (es ++ (key, count) ∷ [] ≡ insert_entry nat_eq es key count)
  at_none es e =
      let n = position_or_len At es in
      elim (cases_Bool (ltb n (length es))) [
        | inl t ↦ (let apart = sym (cond-true (ltb n (length es)) (Some n) None t) ∙ e in cc)
        | inr f ↦ nowhere es (ltb-false n (length es) f)
      ]
