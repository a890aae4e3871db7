-- Where a report is put into a list by slot.
use Rattle.std.proofs.Common.{◌≡◌, ℕ, ◌<◌, ◌≤◌, Bool, true, false, ltb, List, [], ◌∷◌, ◌++◌, length, take, drop, set, get_or, filter, count_by, ◌⊎◌, inl, inr, refl, sym, ◌∙◌, ap, subst, arith}
use Rattle.std.specs.List.{insert}
use Rattle.std.proofs.lemmas.Bool.{cond-true, cond-false, lt-ltb, le-ltb, ltb-true, cases_order}
use Rattle.std.proofs.lemmas.List.{set_at, take_at, drop_at, get_or_at, append-nil, length-append}
use Rattle.std.proofs.lemmas.List.Sums.{length-filter}
use Rattle.sc_words.specs.declared.paxos.reports.Report.{Report}
use Rattle.sc_base.specs.Definitions.{Each}
use Rattle.sc_words.proofs.PaxosProofs.PaxosLemmas.{Each-weaker, Each-passes}
use Rattle.sc_words.specs.paxos.PaxosDefinitions.{IsBySlot, with_report}

abbrev low_of : {V : Type 0} → ℕ → List (Report V) → List (Report V)
low_of slot xs = filter (λ r. ltb r.slot slot) xs

abbrev high_of : {V : Type 0} → ℕ → List (Report V) → List (Report V)
high_of slot xs = filter (λ r. ltb slot r.slot) xs

yes : {V : Type 0} (p : Report V → Bool) (x : Report V) (xs : List (Report V)) → p x ≡ true → filter p (x ∷ xs) ≡ x ∷ filter p xs
yes p x xs t = cond-true (p x) (x ∷ filter p xs) (filter p xs) t

miss : {V : Type 0} (p : Report V → Bool) (x : Report V) (xs : List (Report V)) → p x ≡ false → filter p (x ∷ xs) ≡ filter p xs
miss p x xs f = cond-false (p x) (x ∷ filter p xs) (filter p xs) f

none_low : {V : Type 0} (slot bound : ℕ) (xs : List (Report V)) → slot ≤ bound → Each (λ (r : Report V). bound < r.slot) xs → low_of slot xs ≡ []
none_low slot bound [] le e = refl
none_low slot bound (x ∷ xs) le e = miss (λ r. ltb r.slot slot) x xs (le-ltb x.slot slot (omega (arith, e.0))) ∙ none_low slot bound xs le e.1

all_high : {V : Type 0} (slot bound : ℕ) (xs : List (Report V)) → slot ≤ bound → Each (λ (r : Report V). bound < r.slot) xs → high_of slot xs ≡ xs
all_high slot bound [] le e = refl
all_high slot bound (x ∷ xs) le e = yes (λ r. ltb slot r.slot) x xs (lt-ltb slot x.slot (omega (arith, e.0))) ∙ ap (λ ys. x ∷ ys) (all_high slot bound xs le e.1)

-- a list by slot is what is below a slot, what is at it, if anything is, and what is above it
abbrev pub IsSplit : {V : Type 0} → ℕ → List (Report V) → Type 0
IsSplit {V} slot xs = (xs ≡ low_of slot xs ++ high_of slot xs) ⊎ ((y : Report V) × (y.slot ≡ slot) × (xs ≡ low_of slot xs ++ y ∷ high_of slot xs))

more : {V : Type 0} (slot : ℕ) (x : Report V) (xs : List (Report V)) → x.slot < slot → IsSplit slot xs → IsSplit slot (x ∷ xs)
more {V} slot x xs lt rest =
    let low : low_of slot (x ∷ xs) ≡ x ∷ low_of slot xs = yes (λ r. ltb r.slot slot) x xs (lt-ltb x.slot slot lt) in
    let high : high_of slot (x ∷ xs) ≡ high_of slot xs = miss (λ r. ltb slot r.slot) x xs (le-ltb slot x.slot (omega arith)) in
    elim rest [
      | inl e ↦ inl (ap (λ ys. x ∷ ys) e ∙ ap (λ ys. ys ++ high_of slot xs) (sym low) ∙ ap (λ ys. low_of slot (x ∷ xs) ++ ys) (sym high))
      | inr e ↦ inr (e.0, e.1, ap (λ ys. x ∷ ys) e.2 ∙ ap (λ ys. ys ++ e.0 ∷ high_of slot xs) (sym low) ∙ ap (λ ys. low_of slot (x ∷ xs) ++ e.0 ∷ ys) (sym high))
    ]

-- a list by slot splits at each slot
pub split : {V : Type 0} (slot : ℕ) (xs : List (Report V)) → IsBySlot xs → IsSplit slot xs
split slot [] up = inl refl
split slot (x ∷ xs) up =
    elim (cases_order x.slot slot) [
      | inl e ↦ (
          let low = miss (λ r. ltb r.slot slot) x xs (le-ltb x.slot slot (omega arith)) ∙ none_low slot x.slot xs (omega arith) up.0 in
          let high = miss (λ r. ltb slot r.slot) x xs (le-ltb slot x.slot (omega arith)) ∙ all_high slot x.slot xs (omega arith) up.0 in
          inr (x, e, ap (λ ys. x ∷ ys) (sym high) ∙ ap (λ ys. ys ++ x ∷ high_of slot (x ∷ xs)) (sym low)))
      | inr o ↦ elim o [
        | inl lt ↦ more slot x xs lt (split slot xs up.1)
        | inr gt ↦ (
            let low = miss (λ r. ltb r.slot slot) x xs (le-ltb x.slot slot (omega arith)) ∙ none_low slot x.slot xs (omega arith) up.0 in
            let high = yes (λ r. ltb slot r.slot) x xs (lt-ltb slot x.slot gt) ∙ ap (λ ys. x ∷ ys) (all_high slot x.slot xs (omega arith) up.0) in
            inl (sym high ∙ ap (λ ys. ys ++ high_of slot (x ∷ xs)) (sym low)))
      ]
    ]

-- over what is at the slot
pub set_is : {V : Type 0} (new y : Report V) (xs : List (Report V)) (n : ℕ) → n ≡ length (low_of new.slot xs) → xs ≡ low_of new.slot xs ++ y ∷ high_of new.slot xs → set xs n new ≡ with_report new xs
set_is {V} new y xs n at e = ap (λ ys. set ys n new) e ∙ set_at (low_of new.slot xs) y (high_of new.slot xs) new n (sym at)

-- between what is below the slot and what is above it
pub insert_is : {V : Type 0} (new : Report V) (xs : List (Report V)) (n : ℕ) → n ≡ length (low_of new.slot xs) → xs ≡ low_of new.slot xs ++ high_of new.slot xs → insert xs n new ≡ with_report new xs
insert_is {V} new xs n at e =
    ap (λ ys. take n ys ++ new ∷ drop n ys) e
    ∙ ap (λ ys. ys ++ new ∷ drop n (low_of new.slot xs ++ high_of new.slot xs)) (take_at (low_of new.slot xs) (high_of new.slot xs) n (sym at))
    ∙ ap (λ ys. low_of new.slot xs ++ new ∷ ys) (drop_at (low_of new.slot xs) (high_of new.slot xs) n (sym at))

-- what stands at the place of a report whose slot is there
pub stands_at : {V : Type 0} (slot : ℕ) (y : Report V) (xs : List (Report V)) (n : ℕ) (d : Report V) → n ≡ length (low_of slot xs) → xs ≡ low_of slot xs ++ y ∷ high_of slot xs → get_or xs n d ≡ y
stands_at slot y xs n d at e = ap (λ ys. get_or ys n d) e ∙ get_or_at (low_of slot xs) y (high_of slot xs) d n (sym at)

above_all : {V : Type 0} (slot : ℕ) (low high : List (Report V)) (n : ℕ) (d : Report V) → n ≡ length low → n < length (low ++ high) → Each (λ (r : Report V). slot < r.slot) high → slot < (get_or (low ++ high) n d).slot
above_all slot low [] n d at within e = absurd (let k = ap length (append-nil low) in omega arith)
above_all {V} slot low (y ∷ high) n d at within e = subst (λ (r : Report V). slot < r.slot) (sym (get_or_at low y high d n (sym at))) e.0

counted : {V : Type 0} (slot : ℕ) (xs : List (Report V)) (n : ℕ) → n ≡ count_by (λ r. ltb r.slot slot) xs → n ≡ length (low_of slot xs)
counted slot xs n e = e ∙ sym (length-filter (λ r. ltb r.slot slot) xs)

high_part : {V : Type 0} (slot : ℕ) (xs : List (Report V)) → Each (λ (r : Report V). slot < r.slot) (high_of slot xs)
high_part {V} slot xs = Each-weaker _ (λ (r : Report V). slot < r.slot) (λ (r : Report V) t. ltb-true slot r.slot t) (high_of slot xs) (Each-passes (λ (r : Report V). ltb slot r.slot) xs)

-- the report of the slot is written over
pub replaced : {V : Type 0} (new : Report V) (xs : List (Report V)) (n : ℕ) (found : Report V) → IsBySlot xs → n ≡ count_by (λ r. ltb r.slot new.slot) xs
    → n < length xs → found ≡ get_or xs n found → found.slot ≡ new.slot → set xs n new ≡ with_report new xs
replaced {V} new xs n found up e within read same =
    let at = counted new.slot xs n e in
    elim (split new.slot xs up) [
      | inl parts ↦ (
          let within' : n < length (low_of new.slot xs ++ high_of new.slot xs) = omega (arith, ap length parts) in
          let gt = above_all new.slot (low_of new.slot xs) (high_of new.slot xs) n found at within' (high_part new.slot xs) in
          let is = ap (λ (r : Report V). r.slot) (read ∙ ap (λ ys. get_or ys n found) parts) in
          absurd (omega arith))
      | inr parts ↦ set_is new parts.0 xs n at parts.2
    ]

-- a report of a slot that is not there is put between
pub inserted : {V : Type 0} (new : Report V) (xs : List (Report V)) (n : ℕ) → IsBySlot xs → n ≡ count_by (λ r. ltb r.slot new.slot) xs
    → ((d : Report V) → n < length xs → (get_or xs n d).slot ≡ new.slot → ⊥) → insert xs n new ≡ with_report new xs
inserted {V} new xs n up e other =
    let at = counted new.slot xs n e in
    elim (split new.slot xs up) [
      | inl parts ↦ insert_is new xs n at parts
      | inr parts ↦ (
          let is = stands_at new.slot parts.0 xs n new at parts.2 in
          let long = length-append (low_of new.slot xs) (parts.0 ∷ high_of new.slot xs) in
          let all = ap length parts.2 in
          absurd (other new (omega arith) (ap (λ (r : Report V). r.slot) is ∙ parts.1)))
    ]
