-- Client tables that are joined, client by client.
use Rattle.std.proofs.Common.{◌≡◌, ℕ, Bool, true, false, cond, ltb, List, [], ◌∷◌, Option, Some, None, refl, sym, ap, ◌∙◌, arith, inl, inr}
use Rattle.std.specs.Ordering.{nat_cmp, eq_by_cmp}
use Rattle.std.specs.Cmp.{nat_cmp_total}
use Rattle.std.specs.FinMap.{find, is_sorted, get, insert, entries, same_map, get-insert, get-entries, entries_sorted}
use Rattle.std.proofs.lemmas.Map.Lookups.{exact_unsigned}
use Rattle.std.proofs.lemmas.Bool.Decides.{nat_tests}
use Rattle.std.proofs.lemmas.Bool.{lt-ltb, le-ltb, cases_lt}
use Rattle.sc_base.specs.declared.ops.Noted.{Noted}
use Rattle.sc_base.proofs.Lemmas.{cond-same}
use Rattle.sc_words.specs.ideal.IdealDefinitions.{ClientTable, is_later, with_later, joined_with, later, JoinedByNumber, JoinedInAnyOrder, Agree, noted_number}
use Rattle.sc_words.proofs.IdealProofs.Joins.{ties, none_past, sorted_rest}
use lib.Dec.{T}

get-choice : (b : Bool) (m n : ClientTable) (q : ℕ) → get (cond b m n) q ≡ cond b (get m q) (get n q)
get-choice true m n q = refl
get-choice false m n q = refl

-- what a table has at a client after one entry
get-with_later : (table : ClientTable) (client : ℕ) (noted : Noted) (q : ℕ) → get (with_later table client noted) q ≡ cond (eq_by_cmp nat_cmp q client) (later (get table q) (Some noted)) (get table q)
get-with_later table client noted q =
    get-choice (is_later (get table client) noted.seq) (insert table client noted) table q
    ∙ ap (λ o. cond (is_later (get table client) noted.seq) o (get table q)) (get-insert nat_cmp_total table client noted q)
    ∙ elim (eq_by_cmp nat_cmp q client) as (λ tie. eq_by_cmp nat_cmp q client ≡ tie → cond (is_later (get table client) noted.seq) (cond tie (Some noted) (get table q)) (get table q) ≡ cond tie (later (get table q) (Some noted)) (get table q)) [
      | true ↦ λ e. ap (λ k. cond (is_later (get table k) noted.seq) (Some noted) (get table q)) (sym (exact_unsigned q client (ties _ e)))
      | false ↦ λ e. cond-same (is_later (get table client) noted.seq) (get table q)
    ] refl

one_more : (tie : Bool) (old : Option Noted) (noted : Noted) (found : Option Noted) → (tie ≡ true → found ≡ None) → later (cond tie (later old (Some noted)) old) found ≡ later old (cond tie (Some noted) found)
one_more true old noted found none = rw (none refl) refl
one_more false old noted found none = refl

-- look-ups in joined tables
pub get-joined_with : (es : List (ℕ × Noted)) → T (is_sorted nat_cmp es) → (table : ClientTable) (q : ℕ) → get (joined_with table es) q ≡ later (get table q) (find nat_cmp q es)
get-joined_with [] up table q = refl
get-joined_with (e ∷ es) up table q =
    get-joined_with es (sorted_rest nat_cmp nat_cmp_total e es up) (with_later table e.0 e.1) q
    ∙ ap (λ o. later o (find nat_cmp q es)) (get-with_later table e.0 e.1 q)
    ∙ one_more (eq_by_cmp nat_cmp q e.0) (get table q) e.1 (find nat_cmp q es) (none_past nat_cmp nat_cmp_total q e es up)

-- tables join client by client by the greater number
pub joined_by_number : JoinedByNumber
joined_by_number table other client = get-joined_with (entries other) (entries_sorted other) table client ∙ ap (later (get table client)) (sym (get-entries other client))

-- of two numbers the greater one, in either order
number_later : (a b : Noted) → noted_number (cond (ltb a.seq b.seq) (Some b) (Some a)) ≡ noted_number (cond (ltb b.seq a.seq) (Some a) (Some b))
number_later a b = grind (arith, nat_tests)

numbers_turn : (a b : Option Noted) → noted_number (later a b) ≡ noted_number (later b a)
numbers_turn None None = refl
numbers_turn None (Some b) = refl
numbers_turn (Some a) None = refl
numbers_turn (Some a) (Some b) = number_later a b

notes_turn : (a b : Noted) → (a.seq ≡ b.seq → a ≡ b) → cond (ltb a.seq b.seq) (Some b) (Some a) ≡ cond (ltb b.seq a.seq) (Some a) (Some b)
notes_turn a b same = elim (cases_lt a.seq b.seq) [
  | inl below ↦ rw (lt-ltb a.seq b.seq below, le-ltb b.seq a.seq (omega arith)) refl
  | inr above ↦ elim (cases_lt b.seq a.seq) [
    | inl less ↦ rw (le-ltb a.seq b.seq above, lt-ltb b.seq a.seq less) refl
    | inr more ↦ rw (le-ltb a.seq b.seq above, le-ltb b.seq a.seq more) (ap Some (same (omega arith)))
  ]
]

turns : (a b : Option Noted) → Agree a b → later a b ≡ later b a
turns None None agree = refl
turns None (Some b) agree = refl
turns (Some a) None agree = refl
turns (Some a) (Some b) agree = notes_turn a b agree

-- tables join in whatever order
pub joined_in_any_order : JoinedInAnyOrder
joined_in_any_order table other = record {
  numbers = λ client. ap noted_number (joined_by_number table other client) ∙ numbers_turn (get table client) (get other client) ∙ ap noted_number (sym (joined_by_number other table client));
  whole = λ agree. same_map nat_cmp_total exact_unsigned _ _ (λ client. joined_by_number table other client ∙ turns _ _ (agree client) ∙ sym (joined_by_number other table client));
}
