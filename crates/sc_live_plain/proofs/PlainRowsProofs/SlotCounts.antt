-- How many values stand at a slot, when one is taken out or put in.
use Rattle.std.proofs.Common.{◌≡◌, ℕ, ◌+◌, ◌≤◌, eqb, ltb, Bool, true, false, cond, List, [], ◌∷◌, ◌++◌, length, count_by, Some, None, inl, inr, refl, sym, ◌∙◌, ap, subst, arith}
use Rattle.std.specs.Prelude.{find}
use Rattle.std.proofs.lemmas.Bool.{cond_both, eqb-true, eq-eqb, ne_eqb, both_ways, cases_lt, cond-true, cond-false}
use Rattle.std.proofs.lemmas.List.Sums.{sum_by-cons, sum_by_push}
use Rattle.sc_base.specs.Definitions.{Among, Each}
use Rattle.sc_node_table.specs.NodeDefinitions.{at_slot, with_slot}

-- one or none
abbrev pub one_if : Bool → ℕ
one_if b = cond b 1 0

pub one_yes : (b : Bool) → b ≡ true → one_if b ≡ 1
one_yes b e = ap one_if e

pub one_no : (b : Bool) → b ≡ false → one_if b ≡ 0
one_no b e = ap one_if e

pub one_if_most : (b : Bool) → one_if b ≤ 1
one_if_most b = cond_both b 1 0 (λ n. n ≤ 1) (λ _. omega arith) (λ _. omega arith)

pub count-cons : {X : Type 0} (p : X → Bool) (x : X) (xs : List X) → count_by p (x ∷ xs) ≡ one_if (p x) + count_by p xs
count-cons p x xs = sum_by-cons (λ y. cond (p y) 1 0) x xs

pub count-push : {X : Type 0} (p : X → Bool) (xs : List X) (x : X) → count_by p (xs ++ x ∷ []) ≡ count_by p xs + one_if (p x)
count-push p xs x = sum_by_push (λ y. cond (p y) 1 0) xs x

-- ---- what is found

pub find_none : {X : Type 0} (p : X → Bool) (xs : List X) → count_by p xs ≡ 0 → find p xs ≡ None
find_none p [] e = refl
find_none p (x ∷ xs) e =
    let c = count-cons p x xs in
    cond_both (p x) (Some x) (find p xs) (λ o. o ≡ None) (λ t. (let one = one_yes (p x) t in absurd (omega (arith, c, e, one)))) (λ f. find_none p xs (omega (arith, c, e)))

pub find_some : {X : Type 0} (p : X → Bool) (xs : List X) → 1 ≤ count_by p xs → (x : X) × (find p xs ≡ Some x)
find_some p [] e = absurd (omega (arith, e))
find_some {X} p (x ∷ xs) e =
    let c = count-cons p x xs in
    cond_both (p x) (Some x) (find p xs) (λ o. (y : X) × (o ≡ Some y)) (λ t. (x, refl)) (λ f. (let no = one_no (p x) f in find_some p xs (omega (arith, c, e, no))))

pub found_one : {X : Type 0} (p : X → Bool) (xs : List X) (x : X) → find p xs ≡ Some x → 1 ≤ count_by p xs
found_one p [] x e = cc
found_one p (y ∷ xs) x e =
    let c = count-cons p y xs in
    cond_both (p y) (Some y) (find p xs) (λ o. o ≡ Some x → 1 ≤ count_by p (y ∷ xs)) (λ t k. (let one = one_yes (p y) t in omega (arith, c, one)))
    (λ f k. (let more = found_one p xs x k in omega (arith, c, more))) e

-- ---- one taken out, by its slot

module _ {X : Type 0} (key : X → ℕ) (out : ℕ → List X → List X) (none : (slot : ℕ) → out slot [] ≡ [])
    (some : (slot : ℕ) (x : X) (xs : List X) → out slot (x ∷ xs) ≡ cond (eqb (key x) slot) xs (x ∷ out slot xs)) where
  -- how many stand there
  abbrev pub standing : ℕ → List X → ℕ
  standing slot xs = count_by (λ x. eqb (key x) slot) xs

  through : (P : List X → Type 0) (slot : ℕ) (x : X) (xs : List X) → (eqb (key x) slot ≡ true → P xs) → (eqb (key x) slot ≡ false → P (x ∷ out slot xs)) → P (out slot (x ∷ xs))
  through P slot x xs here later = subst P (sym (some slot x xs)) (cond_both (eqb (key x) slot) xs (x ∷ out slot xs) P here later)

  pub out_none : (slot : ℕ) (xs : List X) → standing slot xs ≡ 0 → out slot xs ≡ xs
  out_none slot [] e = none slot
  out_none slot (x ∷ xs) e =
      let c = count-cons (λ y. eqb (key y) slot) x xs in
      through (λ l. l ≡ x ∷ xs) slot x xs (λ t. (let one = one_yes (eqb (key x) slot) t in absurd (omega (arith, c, e, one)))) (λ f. ap (λ l. x ∷ l) (out_none slot xs (omega (arith, c, e))))

  pub out_length : (slot : ℕ) (xs : List X) → 1 ≤ standing slot xs → length (out slot xs) + 1 ≡ length xs
  out_length slot [] e = absurd (omega (arith, e))
  out_length slot (x ∷ xs) e =
      let c = count-cons (λ y. eqb (key y) slot) x xs in
      through (λ l. length l + 1 ≡ length (x ∷ xs)) slot x xs (λ t. omega arith)
      (λ f. (let no = one_no (eqb (key x) slot) f in let less = out_length slot xs (omega (arith, c, e, no)) in omega (arith, less)))

  pub out_here : (slot : ℕ) (xs : List X) → 1 ≤ standing slot xs → standing slot (out slot xs) + 1 ≡ standing slot xs
  out_here slot [] e = absurd (omega (arith, e))
  out_here slot (x ∷ xs) e =
      let c = count-cons (λ y. eqb (key y) slot) x xs in
      through (λ l. standing slot l + 1 ≡ standing slot (x ∷ xs)) slot x xs (λ t. (let one = one_yes (eqb (key x) slot) t in omega (arith, c, one)))
      (λ f. (let no = one_no (eqb (key x) slot) f in
      let less = out_here slot xs (omega (arith, c, e, no)) in
      let d = count-cons (λ y. eqb (key y) slot) x (out slot xs) in omega (arith, c, d, no, less)))

  pub out_other : (slot other : ℕ) (xs : List X) → (slot ≡ other → ⊥) → standing other (out slot xs) ≡ standing other xs
  out_other slot other [] ne = ap (standing other) (none slot)
  out_other slot other (x ∷ xs) ne =
      let c = count-cons (λ y. eqb (key y) other) x xs in
      through (λ l. standing other l ≡ standing other (x ∷ xs)) slot x xs
      (λ t. (let k = eqb-true (key x) slot t in let no = one_no (eqb (key x) other) (ne_eqb (key x) other (λ e. ne (sym k ∙ e))) in omega (arith, c, no)))
      (λ f. (let same = out_other slot other xs ne in let d = count-cons (λ y. eqb (key y) other) x (out slot xs) in omega (arith, c, d, same)))

  pub out_each : (P : X → Type 0) (slot : ℕ) (xs : List X) → Each P xs → Each P (out slot xs)
  out_each P slot [] e = subst (Each P) (sym (none slot)) e
  out_each P slot (x ∷ xs) e = through (Each P) slot x xs (λ t. e.1) (λ f. (e.0, out_each P slot xs e.1))

  pub out_among : (slot : ℕ) (xs : List X) (x : X) → Among x xs → (key x ≡ slot → ⊥) → Among x (out slot xs)
  out_among slot [] x a ne = absurd a
  out_among slot (y ∷ xs) x (inl same) ne = through (Among x) slot y xs (λ t. absurd (ne (ap key (sym same) ∙ eqb-true (key y) slot t))) (λ f. inl same)
  out_among slot (y ∷ xs) x (inr a) ne = through (Among x) slot y xs (λ t. a) (λ f. inr (out_among slot xs x a ne))

-- ---- values by their slots

-- how many values a slot has
abbrev pub entries_at : {V : Type 0} → ℕ → List (ℕ × V) → ℕ
entries_at slot es = count_by (λ e. eqb e.0 slot) es

pub at_none : {V : Type 0} (es : List (ℕ × V)) (slot : ℕ) → entries_at slot es ≡ 0 → at_slot es slot ≡ None
at_none [] slot e = refl
at_none {V} (x ∷ es) slot e =
    let c = count-cons (λ (y : ℕ × V). eqb y.0 slot) x es in
    cond_both (eqb x.0 slot) (Some x.1) (at_slot es slot) (λ o. o ≡ None) (λ t. (let one = one_yes (eqb x.0 slot) t in absurd (omega (arith, c, e, one)))) (λ f. at_none es slot (omega (arith, c, e)))

pub at_some : {V : Type 0} (es : List (ℕ × V)) (slot : ℕ) → 1 ≤ entries_at slot es → (v : V) × (at_slot es slot ≡ Some v)
at_some [] slot e = absurd (omega (arith, e))
at_some {V} (x ∷ es) slot e =
    let c = count-cons (λ (y : ℕ × V). eqb y.0 slot) x es in
    cond_both (eqb x.0 slot) (Some x.1) (at_slot es slot) (λ o. (v : V) × (o ≡ Some v)) (λ t. (x.1, refl)) (λ f. (let no = one_no (eqb x.0 slot) f in at_some es slot (omega (arith, c, e, no))))

pub at_found : {V : Type 0} (es : List (ℕ × V)) (slot : ℕ) (v : V) → at_slot es slot ≡ Some v → (1 ≤ entries_at slot es) × Among (slot, v) es
at_found [] slot v e = cc
at_found {V} (x ∷ es) slot v e =
    let c = count-cons (λ (y : ℕ × V). eqb y.0 slot) x es in
    cond_both (eqb x.0 slot) (Some x.1) (at_slot es slot) (λ o. o ≡ Some v → (1 ≤ entries_at slot (x ∷ es)) × Among (slot, v) (x ∷ es))
    (λ t k. (let one = one_yes (eqb x.0 slot) t in
    let same : x.1 ≡ v = cc in
    (omega (arith, c, one), inl (ap (λ n. (n, x.1)) (eqb-true x.0 slot t) ∙ ap (λ w. (slot, w)) same))))
    (λ f k. (let more = at_found es slot v k in let low = more.0 in (omega (arith, c, low), inr more.1))) e

stands : {V : Type 0} (es : List (ℕ × V)) (slot : ℕ) (w : V) → Among (slot, w) es → 1 ≤ entries_at slot es
stands [] slot w a = absurd a
stands {V} (x ∷ es) slot w (inl fact) =
    let c = count-cons (λ (y : ℕ × V). eqb y.0 slot) x es in
    let here = one_yes (eqb x.0 slot) (eq-eqb x.0 slot (ap (λ (p : ℕ × V). p.0) fact)) in omega (arith, c, here)
stands {V} (x ∷ es) slot w (inr a) =
    let c = count-cons (λ (y : ℕ × V). eqb y.0 slot) x es in
    let more = stands es slot w a in omega (arith, c, more)

-- where one value stands at a slot, it is that one
pub at_only : {V : Type 0} (es : List (ℕ × V)) (slot : ℕ) (v w : V) → entries_at slot es ≡ 1 → at_slot es slot ≡ Some v → Among (slot, w) es → v ≡ w
at_only [] slot v w one e a = absurd a
at_only {V} (x ∷ es) slot v w one e a =
    let c = count-cons (λ (y : ℕ × V). eqb y.0 slot) x es in
    cond_both (eqb x.0 slot) (Some x.1) (at_slot es slot) (λ o. o ≡ Some v → v ≡ w)
    (λ t k. (let here = one_yes (eqb x.0 slot) t in
    let same : x.1 ≡ v = cc in
    elim a [ inl fact ↦ sym same ∙ ap (λ (p : ℕ × V). p.1) fact | inr b ↦ (let more = stands es slot w b in absurd (omega (arith, c, here, one, more))) ]))
    (λ f k. (let none = one_no (eqb x.0 slot) f in
    elim a [ inl fact ↦ absurd (both_ways (eqb x.0 slot) f (eq-eqb x.0 slot (ap (λ (p : ℕ × V). p.0) fact))) | inr b ↦ at_only es slot v w (omega (arith, c, none, one)) k b ])) e

-- none stands there where none is found
pub at_nothing : {V : Type 0} (es : List (ℕ × V)) (slot : ℕ) → at_slot es slot ≡ None → entries_at slot es ≡ 0
at_nothing {V} es slot e = elim (cases_lt 0 (entries_at slot es)) [ inl up ↦ (let found = at_some es slot (omega (arith, up)) in cc (found.1, e)) | inr none ↦ omega (arith, none) ]

-- one more at a slot that has none
module _ {V : Type 0} (slot : ℕ) (v : V) where
  with_by : (P : List (ℕ × V) → Type 0) (x : ℕ × V) (es : List (ℕ × V)) → (eqb x.0 slot ≡ true → P ((slot, v) ∷ es)) → P ((slot, v) ∷ x ∷ es) → P (x ∷ with_slot es slot v) → P (with_slot (x ∷ es) slot v)
  with_by P x es here first later =
      cond_both (eqb x.0 slot) ((slot, v) ∷ es) (cond (ltb slot x.0) ((slot, v) ∷ x ∷ es) (x ∷ with_slot es slot v)) P here
      (λ f. cond_both (ltb slot x.0) ((slot, v) ∷ x ∷ es) (x ∷ with_slot es slot v) P (λ _. first) (λ _. later))

  pub with_count : (es : List (ℕ × V)) (other : ℕ) → entries_at slot es ≡ 0 → entries_at other (with_slot es slot v) ≡ one_if (eqb slot other) + entries_at other es
  with_count [] other e = count-cons (λ (y : ℕ × V). eqb y.0 other) (slot, v) []
  with_count (x ∷ es) other e =
      let c = count-cons (λ (y : ℕ × V). eqb y.0 slot) x es in
      with_by (λ l. entries_at other l ≡ one_if (eqb slot other) + entries_at other (x ∷ es)) x es (λ t. (let one = one_yes (eqb x.0 slot) t in absurd (omega (arith, c, e, one))))
      (count-cons (λ (y : ℕ × V). eqb y.0 other) (slot, v) (x ∷ es))
      (let more = with_count es other (omega (arith, c, e)) in
      let d = count-cons (λ (y : ℕ × V). eqb y.0 other) x es in
      let f = count-cons (λ (y : ℕ × V). eqb y.0 other) x (with_slot es slot v) in omega (arith, more, d, f))

  pub with_each : (P : ℕ × V → Type 0) (es : List (ℕ × V)) → P (slot, v) → Each P es → Each P (with_slot es slot v)
  with_each P [] p e = (p, tt)
  with_each P (x ∷ es) p e = with_by (Each P) x es (λ t. (p, e.1)) (p, (e.0, e.1)) (e.0, with_each P es p e.1)

  pub with_among : (es : List (ℕ × V)) (y : ℕ × V) → entries_at slot es ≡ 0 → Among y es → Among y (with_slot es slot v)
  with_among [] y e a = absurd a
  with_among (x ∷ es) y e a =
      let c = count-cons (λ (z : ℕ × V). eqb z.0 slot) x es in
      with_by (Among y) x es (λ t. (let one = one_yes (eqb x.0 slot) t in absurd (omega (arith, c, e, one)))) (inr a)
      (elim a [ inl same ↦ inl same | inr b ↦ inr (with_among es y (omega (arith, c, e)) b) ])

  pub with_it : (es : List (ℕ × V)) → Among (slot, v) (with_slot es slot v)
  with_it [] = inl refl
  with_it (x ∷ es) = with_by (Among (slot, v)) x es (λ t. inl refl) (inl refl) (inr (with_it es))

  pub with_at : (es : List (ℕ × V)) → at_slot (with_slot es slot v) slot ≡ Some v
  with_at [] = cond-true (eqb slot slot) (Some v) None (eq-eqb slot slot refl)
  with_at (x ∷ es) =
      let first : (l : List (ℕ × V)) → at_slot ((slot, v) ∷ l) slot ≡ Some v = λ l. cond-true (eqb slot slot) (Some v) (at_slot l slot) (eq-eqb slot slot refl) in
      cond_both (eqb x.0 slot) ((slot, v) ∷ es) (cond (ltb slot x.0) ((slot, v) ∷ x ∷ es) (x ∷ with_slot es slot v)) (λ l. at_slot l slot ≡ Some v) (λ t. first es)
      (λ f. cond_both (ltb slot x.0) ((slot, v) ∷ x ∷ es) (x ∷ with_slot es slot v) (λ l. at_slot l slot ≡ Some v) (λ _. first (x ∷ es)) (λ _. cond-false (eqb x.0 slot) (Some x.1) (at_slot (with_slot es slot v) slot) f ∙ with_at es))
