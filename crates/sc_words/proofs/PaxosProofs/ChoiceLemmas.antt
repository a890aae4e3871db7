-- The choice from reports.
use Rattle.std.proofs.Common.{◌≡◌, ℕ, true, false, eqb, List, [], ◌∷◌, ◌++◌, Option, Some, None, ◌⊎◌, inl, inr, refl, sym, ◌∙◌, ap, subst}
use Rattle.std.specs.List.{fold}
use Rattle.std.proofs.lemmas.Bool.{cases_Bool, cond-true, cond-false, and_parts, and_cases, eqb-true, eqb-false}
use Rattle.sc_words.specs.declared.paxos.reports.Report.{Report}
use Rattle.sc_base.specs.Definitions.{Among, Each}
use Rattle.sc_words.specs.paxos.PaxosDefinitions.{below, IsAtLeast, beats, is_better, better_of, choice, IsFirstHighest}
use Rattle.sc_words.proofs.PaxosProofs.BallotLemmas.{below_trans, at_least_below, at_least_from_below, at_least_itself}
use Rattle.sc_words.proofs.PaxosProofs.ListLemmas.{Each-among}

-- the best so far, if there is one, has a lower ballot
abbrev Outdone : {V : Type 0} → Option (Report V) → Report V → Type 0
Outdone None best = Unit {0}
Outdone (Some old) best = below old.ballot best.ballot ≡ true

abbrev NotHigher : {V : Type 0} → ℕ → Report V → List (Report V) → Type 0
NotHigher {V} slot best rs = Each (λ (r : Report V). r.slot ≡ slot → IsAtLeast best.ballot r.ballot) rs

-- what is chosen was the best already, or stands among the others
abbrev IsOutcome : {V : Type 0} → ℕ → Option (Report V) → List (Report V) → Report V → Type 0
IsOutcome slot acc rs best = ((acc ≡ Some best) × NotHigher slot best rs) ⊎ (Outdone acc best × IsFirstHighest slot rs best)

beaten : {V : Type 0} (acc : Option (Report V)) (r : Report V) → beats acc r ≡ true → Outdone acc r
beaten None r t = tt
beaten (Some old) r t = t

outdone_both : {V : Type 0} (acc : Option (Report V)) (r best : Report V) → Outdone acc r → below r.ballot best.ballot ≡ true → Outdone acc best
outdone_both None r best h k = tt
outdone_both (Some old) r best h k = below_trans old.ballot r.ballot best.ballot h k

not_beaten : {V : Type 0} (acc : Option (Report V)) (r best : Report V) → beats acc r ≡ false → Outdone acc best → below r.ballot best.ballot ≡ true
not_beaten None r best f h = cc
not_beaten (Some old) r best f h = at_least_below r.ballot old.ballot best.ballot f h

-- a report that is better than the best so far comes first
taken : {V : Type 0} (slot : ℕ) (acc : Option (Report V)) (r : Report V) (rs : List (Report V)) (best : Report V) → is_better slot acc r ≡ true
    → IsOutcome slot (Some r) rs best → IsOutcome slot acc (r ∷ rs) best
taken {V} slot acc r rs best t (inl kept) =
    let same : r ≡ best = cc in
    let parts = and_parts (eqb r.slot slot) (beats acc r) t in
    inr (
      subst (Outdone acc) same (beaten acc r parts.1),
      record {
        before = [];
        after = rs;
        stands = ap (λ x. x ∷ rs) same;
        of_slot = ap (λ (x : Report V). x.slot) (sym same) ∙ eqb-true r.slot slot parts.0;
        lower = tt;
        none_higher = kept.1;
      },
    )
taken slot acc r rs best t (inr there) =
    let parts = and_parts (eqb r.slot slot) (beats acc r) t in
    inr (
      outdone_both acc r best (beaten acc r parts.1) there.0,
      record {
        before = r ∷ there.1.before;
        after = there.1.after;
        stands = ap (λ xs. r ∷ xs) there.1.stands;
        of_slot = there.1.of_slot;
        lower = (λ e. there.0, there.1.lower);
        none_higher = there.1.none_higher;
      },
    )

-- one that is not is passed over
passed : {V : Type 0} (slot : ℕ) (acc : Option (Report V)) (r : Report V) (rs : List (Report V)) (best : Report V) → is_better slot acc r ≡ false
    → IsOutcome slot acc rs best → IsOutcome slot acc (r ∷ rs) best
passed slot acc r rs best f (inl kept) =
    inl (
      kept.0,
      (
        (λ e. elim (and_cases (eqb r.slot slot) (beats acc r) f) [
          | inl miss ↦ absurd (eqb-false r.slot slot miss e)
          | inr miss ↦ sym (ap (λ o. beats o r) kept.0) ∙ miss
        ]),
        kept.1,
      ),
    )
passed slot acc r rs best f (inr there) =
    inr (
      there.0,
      record {
        before = r ∷ there.1.before;
        after = there.1.after;
        stands = ap (λ xs. r ∷ xs) there.1.stands;
        of_slot = there.1.of_slot;
        lower = (
          (λ e. elim (and_cases (eqb r.slot slot) (beats acc r) f) [
            | inl miss ↦ absurd (eqb-false r.slot slot miss e)
            | inr miss ↦ not_beaten acc r best miss there.0
          ]),
          there.1.lower,
        );
        none_higher = there.1.none_higher;
      },
    )

outcome : {V : Type 0} (slot : ℕ) (acc : Option (Report V)) (rs : List (Report V)) (best : Report V) → fold (better_of slot) acc rs ≡ Some best → IsOutcome slot acc rs best
outcome slot acc [] best e = inl (e, tt)
outcome slot acc (r ∷ rs) best e =
    elim (cases_Bool (is_better slot acc r)) [
      | inl t ↦ taken slot acc r rs best t (outcome slot (Some r) rs best (sym (ap (λ o. fold (better_of slot) o rs) (cond-true (is_better slot acc r) (Some r) acc t)) ∙ e))
      | inr f ↦ passed slot acc r rs best f (outcome slot acc rs best (sym (ap (λ o. fold (better_of slot) o rs) (cond-false (is_better slot acc r) (Some r) acc f)) ∙ e))
    ]

-- the choice is the first of the highest ballot
pub choice_is : {V : Type 0} (slot : ℕ) (reports : List (Report V)) (best : Report V) → choice slot reports ≡ Some best → IsFirstHighest slot reports best
choice_is slot reports best e = elim (outcome slot None reports best e) [ inl kept ↦ (let none = kept.0 in cc) | inr there ↦ there.1 ]

-- nothing is chosen only from nothing
no_outcome : {V : Type 0} (slot : ℕ) (acc : Option (Report V)) (rs : List (Report V)) → fold (better_of slot) acc rs ≡ None → (acc ≡ None) × Each (λ (r : Report V). r.slot ≡ slot → ⊥) rs
no_outcome slot acc [] e = (e, tt)
no_outcome {V} slot acc (r ∷ rs) e =
    elim (cases_Bool (is_better slot acc r)) [
      | inl t ↦ (let k = no_outcome slot (Some r) rs (sym (ap (λ o. fold (better_of slot) o rs) (cond-true (is_better slot acc r) (Some r) acc t)) ∙ e) in let none = k.0 in cc)
      | inr f ↦ (
          let k = no_outcome slot acc rs (sym (ap (λ o. fold (better_of slot) o rs) (cond-false (is_better slot acc r) (Some r) acc f)) ∙ e) in (
            k.0,
            (
              (λ h. elim (and_cases (eqb r.slot slot) (beats acc r) f) [
                | inl miss ↦ eqb-false r.slot slot miss h
                | inr miss ↦ (let yes : beats acc r ≡ true = ap (λ o. beats o r) k.0 in cc)
              ]),
              k.1,
            ),
          ))
    ]

-- no choice: no report names the slot
pub no_choice : {V : Type 0} (slot : ℕ) (reports : List (Report V)) → choice slot reports ≡ None → Each (λ (r : Report V). r.slot ≡ slot → ⊥) reports
no_choice slot reports e = (no_outcome slot None reports e).1

-- ---- the choice as the law of one value reads it

abbrev NotBetter : {V : Type 0} → ℕ → Report V → Report V → Type 0
NotBetter slot best r = r.slot ≡ slot → IsAtLeast best.ballot r.ballot

split_among : {V : Type 0} (slot : ℕ) (before : List (Report V)) (best : Report V) (after : List (Report V)) (r : Report V)
    → Each (λ (x : Report V). x.slot ≡ slot → below x.ballot best.ballot ≡ true) before → NotHigher slot best after → Among r (before ++ best ∷ after) → NotBetter slot best r
split_among {V} slot [] best after r low high (inl e) same = subst (λ (x : Report V). IsAtLeast best.ballot x.ballot) e (at_least_itself best.ballot)
split_among slot [] best after r low high (inr a) same = Each-among (NotBetter slot best) after r high a same
split_among {V} slot (x ∷ before) best after r low high (inl e) same =
    let first : x.slot ≡ slot = ap (λ (y : Report V). y.slot) e ∙ same in
    subst (λ (y : Report V). IsAtLeast best.ballot y.ballot) e (at_least_from_below x.ballot best.ballot (low.0 first))
split_among slot (x ∷ before) best after r low high (inr a) same = split_among slot before best after r low.1 high a same

in_middle : {X : Type 0} (before : List X) (x : X) (after : List X) → Among x (before ++ x ∷ after)
in_middle [] x after = inl refl
in_middle (y ∷ before) x after = inr (in_middle before x after)

-- the choice is a report of the slot
pub choice_among : {V : Type 0} (slot : ℕ) (reports : List (Report V)) (best : Report V) → choice slot reports ≡ Some best → Among best reports × (best.slot ≡ slot)
choice_among slot reports best e =
    let is = choice_is slot reports best e in
    (subst (Among best) (sym is.stands) (in_middle is.before best is.after), is.of_slot)

-- where there is a report of the slot there is a choice, and of no lower ballot
pub choice_best : {V : Type 0} (slot : ℕ) (reports : List (Report V)) (r : Report V) → Among r reports → r.slot ≡ slot
    → (best : Report V) × (choice slot reports ≡ Some best) × IsAtLeast best.ballot r.ballot
choice_best {V} slot reports r a same = by_cases (choice slot reports) refl
  where
    by_cases : (o : Option (Report V)) → choice slot reports ≡ o → (best : Report V) × (choice slot reports ≡ Some best) × IsAtLeast best.ballot r.ballot
    by_cases None e = absurd (Each-among (λ (x : Report V). x.slot ≡ slot → ⊥) reports r (no_choice slot reports e) a same)
    by_cases (Some best) e =
        let is = choice_is slot reports best e in
        (best, e, split_among slot is.before best is.after r is.lower is.none_higher (subst (Among r) is.stands a) same)
