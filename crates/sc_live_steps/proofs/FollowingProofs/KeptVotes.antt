-- One more vote of a member is one more vote that is kept.
use Rattle.std.proofs.Common.{◌≡◌, ℕ, ◌+◌, ◌*◌, ◌≤◌, ◌||◌, eqb, ltb, Bool, true, false, cond, List, [], ◌∷◌, length, filter, count_by, Option, Some, None, inl, inr, refl, sym, ◌∙◌, ap, subst, arith}
use Rattle.std.proofs.lemmas.Bool.{cases_Bool, cases_order, cond_both, cond-true, both_ways, eqb-true, eq-eqb, lt-ltb, or_cases, or_left, or_parts, or_right}
use Rattle.std.proofs.lemmas.List.Folds.{list_any-append}
use Rattle.std.proofs.lemmas.List.Sums.{sum_by-cons}
use Rattle.sc_base.specs.Definitions.{votes_of, is_majority, is_member, with_member, IsRoster}
use Rattle.sc_base.proofs.Lemmas.{length_with as with_one}
use Rattle.sc_words.specs.paxos.PaxosDefinitions.{kept_voters, add_voter, voters_after}
use Rattle.sc_paxos_law.proofs.Among.{count_by-le as more_pass}

-- ---- a set with one more

in_part : (test : ℕ → Bool) (members : List ℕ) (who : ℕ) → is_member members who ≡ true → test who ≡ true → is_member (filter test members) who ≡ true
in_part test [] who m t = cc
in_part test (x ∷ members) who m t = elim (or_cases (eqb x who) (is_member members who) m) [
  | inl fact ↦ subst (λ l. is_member l who ≡ true) (sym (cond-true (test x) (x ∷ filter test members) (filter test members) (ap test (eqb-true x who fact) ∙ t))) (or_left (eqb x who) (is_member (filter test members) who) fact)
  | inr rest ↦ cond_both (test x) (x ∷ filter test members) (filter test members) (λ l. is_member l who ≡ true)
      (λ _. or_right (eqb x who) (is_member (filter test members) who) (in_part test members who rest t)) (λ _. in_part test members who rest t)
]

-- it has that one, and those that it had
pub with_own : (members : List ℕ) (node : ℕ) → is_member (with_member members node) node ≡ true
with_own members node =
    let low = filter (λ m. ltb m node) members in
    let high = filter (λ m. ltb node m) members in
    list_any-append (λ m. eqb m node) low (node ∷ high) ∙ or_right (is_member low node) (is_member (node ∷ high) node) (or_left (eqb node node) (is_member high node) (eq-eqb node node refl))

pub with_kept : (members : List ℕ) (node who : ℕ) → is_member members who ≡ true → is_member (with_member members node) who ≡ true
with_kept members node who m =
    let low = filter (λ x. ltb x node) members in
    let high = filter (λ x. ltb node x) members in
    list_any-append (λ x. eqb x who) low (node ∷ high)
    ∙ elim (cases_order who node) [
      | inl same ↦ or_right (is_member low who) (is_member (node ∷ high) who) (or_left (eqb node who) (is_member high who) (eq-eqb node who (sym same)))
      | inr o ↦ elim o [
        | inl lt ↦ or_left (is_member low who) (is_member (node ∷ high) who) (in_part (λ x. ltb x node) members who m (lt-ltb who node lt))
        | inr gt ↦ or_right (is_member low who) (is_member (node ∷ high) who) (or_right (eqb node who) (is_member high who) (in_part (λ x. ltb node x) members who m (lt-ltb node who gt)))
      ]
    ]

-- ---- what passes more tests counts more

one : (b : Bool) → b ≡ true → ◌≡◌ {A = ℕ} (cond b 1 0) 1
one b t = ap (λ c. cond {A = ℕ} c 1 0) t

none : (b : Bool) → b ≡ false → ◌≡◌ {A = ℕ} (cond b 1 0) 0
none b f = ap (λ c. cond {A = ℕ} c 1 0) f

head : (p : ℕ → Bool) (y : ℕ) (xs : List ℕ) → count_by p (y ∷ xs) ≡ cond (p y) 1 0 + count_by p xs
head p y xs = sum_by-cons (λ z. cond (p z) 1 0) y xs

-- where one more element passes, the count is higher by one at least
one_more : (p q : ℕ → Bool) (x : ℕ) (xs : List ℕ) → ((y : ℕ) → p y ≡ true → q y ≡ true) → p x ≡ false → q x ≡ true → is_member xs x ≡ true → count_by p xs + 1 ≤ count_by q xs
one_more p q x [] f out in_ m = cc
one_more p q x (y ∷ xs) f out in_ m =
    let c = head p y xs in
    let d = head q y xs in
    elim (or_cases (eqb y x) (is_member xs x) m) [
      | inl fact ↦ (let same = eqb-true y x fact in
          let rest = more_pass p q xs f in
          let a = none (p y) (ap p same ∙ out) in
          let b = one (q y) (ap q same ∙ in_) in
          omega (arith, c, d, rest, a, b))
      | inr later ↦ (let rest = one_more p q x xs f out in_ later in
          elim (cases_Bool (p y)) [
            | inl t ↦ (let a = one (p y) t in let b = one (q y) (f y t) in omega (arith, c, d, rest, a, b))
            | inr n ↦ (let a = none (p y) n in omega (arith, c, d, rest, a))
          ])
    ]

-- ---- a vote that is counted

pub record HasVoted (members : List ℕ) (node : ℕ) (before after : Option (List ℕ)) : Type 0 where
  pub few : length (kept_voters after) ≤ votes_of members (kept_voters after)
  pub kept : (who : ℕ) → is_member (kept_voters before) who ≡ true → is_member (kept_voters after) who ≡ true
  pub own : is_member (kept_voters after) node ≡ true

no_votes : (members : List ℕ) → votes_of members [] ≡ 0
no_votes [] = refl
no_votes (x ∷ members) = no_votes members

pub vote_kept : (members : List ℕ) (node : ℕ) (voters : Option (List ℕ)) → IsRoster members → is_member members node ≡ true → length (kept_voters voters) ≤ votes_of members (kept_voters voters) → is_majority members (kept_voters voters) ≡ false
    → HasVoted members node voters (voters_after members node voters)
vote_kept members node voters fact m few undecided = subst (HasVoted members node voters) (sym (cond-true (is_member members node) (add_voter node voters) voters m)) (added voters few undecided)
  where
    with_new : (l : List ℕ) → length l ≤ votes_of members l → is_member l node ≡ false → HasVoted members node (Some l) (Some (with_member l node))
    with_new l few out =
        let longer = with_one l node out in
        let more = one_more (is_member l) (is_member (with_member l node)) node members (λ who k. with_kept l node who k) out (with_own l node) m in
        record { few = omega (arith, longer, more, few); kept = λ who k. with_kept l node who k; own = with_own l node }

    added : (voters : Option (List ℕ)) → length (kept_voters voters) ≤ votes_of members (kept_voters voters) → is_majority members (kept_voters voters) ≡ false → HasVoted members node voters (add_voter node voters)
    added None few undecided =
        let none_yet = no_votes members in
        let own = or_left (eqb node node) false (eq-eqb node node refl) in
        let more = one_more (is_member []) (is_member (node ∷ [])) node members (λ who k. cc) refl own m in
        record { few = omega (arith, more); kept = λ who k. cc; own = own }
    added (Some l) few undecided =
        cond_both (is_member l node || eqb (length l) 9) (Some l) (Some (with_member l node)) (HasVoted members node (Some l))
        (λ t. elim (or_cases (is_member l node) (eqb (length l) 9) t) [
          | inl here ↦ record { few = few; kept = λ who k. k; own = here }
          | inr full ↦ (
              let nine = eqb-true (length l) 9 full in
              let most = fact.most in
              absurd (both_ways (is_majority members l) undecided (lt-ltb (length members) (2 * votes_of members l) (omega (arith, nine, few, most)))))
        ])
        (λ f. with_new l few (or_parts (is_member l node) (eqb (length l) 9) f).0)
