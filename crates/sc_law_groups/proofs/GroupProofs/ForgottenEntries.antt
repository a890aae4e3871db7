-- What a replica keeps where it forgets what is old: the entries of its log after a base, and what its acceptor reports from above its floor. And the state that is sent to another.
use Rattle.std.proofs.Common.{◌≡◌, ℕ, zero, suc, ◌+◌, ◌-◌, ◌<◌, ◌≤◌, nat_lt, nat_le, max, Bool, true, false, cond, List, [], ◌∷◌, ◌++◌, filter, drop, inl, inr, refl, sym, ◌∙◌, ap, append_assoc, arith}
use Rattle.std.specs.Prelude.{slice_get}
use Rattle.std.proofs.Math.Nat.{le-max_left, le-max_right, max-eq_left, max-eq_right, mul-div-le}
use Rattle.std.proofs.lemmas.Bool.{cases_Bool, cases_lt, leb-true, lt-ltb, cond-true, cond-false, cond_both}
use Rattle.std.proofs.lemmas.List.Elements.{filter-append}
use Rattle.sc_node_table.specs.Values.{Ballot, Report}
use Rattle.sc_words.specs.paxos.PaxosDefinitions.{AcceptorState, reports_from, with_report, after_promise, after_accept, after_cut}
use Rattle.sc_node_table.specs.NodeDefinitions.{floor_of}

-- ---- lists

-- a place behind the first entries is a later place of all
pub get_dropped : {X : Type 0} (n : ℕ) (xs : List X) (k : ℕ) → slice_get (drop n xs) k ≡ slice_get xs (n + k)
get_dropped zero xs k = (let same : k ≡ 0 + k = omega arith in ap (slice_get xs) same)
get_dropped (suc n) [] zero = refl
get_dropped (suc n) [] (suc k) = refl
get_dropped (suc n) (x ∷ xs) k = (let same : suc (n + k) ≡ suc n + k = omega arith in get_dropped n xs k ∙ ap (slice_get (x ∷ xs)) same)

filters_turn : {X : Type 0} (p q : X → Bool) (xs : List X) → filter p (filter q xs) ≡ filter q (filter p xs)
filters_turn p q [] = refl
filters_turn {X} p q (x ∷ xs) =
    let more = filters_turn p q xs in
    cond_both (q x) (x ∷ filter q xs) (filter q xs) (λ l. filter p l ≡ filter q (cond (p x) (x ∷ filter p xs) (filter p xs)))
    (λ t. elim (p x) as (λ b. cond b (x ∷ filter p (filter q xs)) (filter p (filter q xs)) ≡ filter q (cond b (x ∷ filter p xs) (filter p xs))) [
      | true ↦ ap (λ (l : List X). x ∷ l) more ∙ sym (cond-true (q x) (x ∷ filter q (filter p xs)) (filter q (filter p xs)) t)
      | false ↦ more
    ])
    (λ f. elim (p x) as (λ b. filter p (filter q xs) ≡ filter q (cond b (x ∷ filter p xs) (filter p xs))) [
      | true ↦ more ∙ sym (cond-false (q x) (x ∷ filter q (filter p xs)) (filter q (filter p xs)) f)
      | false ↦ more
    ])

filter_within : {X : Type 0} (p q : X → Bool) → ((x : X) → p x ≡ true → q x ≡ true) → (xs : List X) → filter p (filter q xs) ≡ filter p xs
filter_within p q inside [] = refl
filter_within {X} p q inside (x ∷ xs) =
    let more = filter_within p q inside xs in
    cond_both (q x) (x ∷ filter q xs) (filter q xs) (λ l. filter p l ≡ cond (p x) (x ∷ filter p xs) (filter p xs))
    (λ t. elim (p x) as (λ b. cond b (x ∷ filter p (filter q xs)) (filter p (filter q xs)) ≡ cond b (x ∷ filter p xs) (filter p xs)) [
      | true ↦ ap (λ (l : List X). x ∷ l) more
      | false ↦ more
    ])
    (λ f. elim (cases_Bool (p x)) [
      | inl t ↦ (let no_way : true ≡ false = sym (inside x t) ∙ f in absurd (cc))
      | inr e ↦ more ∙ sym (cond-false (p x) (x ∷ filter p xs) (filter p xs) e)
    ])

-- ---- an acceptor that has forgotten some

-- it promised what the other did, and reports what the other does from any slot above its floor
pub record Mirrors {V : Type 0} (kept whole : AcceptorState V) : Type 0 where
  pub promised_is : kept.promised ≡ whole.promised
  pub low : whole.floor ≤ kept.floor
  pub reports_are : (from : ℕ) → kept.floor < from → reports_from from kept.accepted ≡ reports_from from whole.accepted

-- an acceptor that has forgotten nothing mirrors itself
pub mirrors_itself : {V : Type 0} (state : AcceptorState V) → Mirrors state state
mirrors_itself state = record { promised_is = refl; low = omega arith; reports_are = λ from lt. refl }

-- one that forgets more mirrors it still
pub cut_mirrors : {V : Type 0} (upto : ℕ) (kept whole : AcceptorState V) → Mirrors kept whole → Mirrors (after_cut upto kept) whole
cut_mirrors {V} upto kept whole m =
    let low = m.low in
    let left = le-max_left kept.floor upto in
    let right = le-max_right kept.floor upto in
    record {
      promised_is = m.promised_is;
      low = omega (arith, low, left);
      reports_are = λ from lt.
          (filter_within (λ (r : Report V). nat_le from r.slot) (λ (r : Report V). nat_lt upto r.slot)
          (λ r t. (let le = leb-true from r.slot t in lt-ltb upto r.slot (omega (arith, le, lt, right)))) kept.accepted
          ∙ m.reports_are from (omega (arith, lt, left)));
    }

-- a promise keeps that one mirrors the other
pub promise_mirrors : {V : Type 0} (ballot : Ballot) (kept whole : AcceptorState V) → Mirrors kept whole → Mirrors (after_promise ballot kept) (after_promise ballot whole)
promise_mirrors ballot kept whole m = record { promised_is = refl; low = m.low; reports_are = m.reports_are }

-- the reports with one more
reports_with : {V : Type 0} (from : ℕ) (new : Report V) (accepted : List (Report V))
    → reports_from from (with_report new accepted)
    ≡ filter (λ r. nat_lt r.slot new.slot) (reports_from from accepted) ++ reports_from from (new ∷ []) ++ filter (λ r. nat_lt new.slot r.slot) (reports_from from accepted)
reports_with {V} from new accepted =
    let p = λ (r : Report V). nat_le from r.slot in
    let lower = λ (r : Report V). nat_lt r.slot new.slot in
    let higher = λ (r : Report V). nat_lt new.slot r.slot in
    filter-append p (filter lower accepted) (new ∷ filter higher accepted)
    ∙ ap (λ (l : List (Report V)). l ++ filter p (new ∷ filter higher accepted)) (filters_turn p lower accepted)
    ∙ ap (λ (l : List (Report V)). filter lower (filter p accepted) ++ l) (filter-append p (new ∷ []) (filter higher accepted) ∙ ap (λ (l : List (Report V)). filter p (new ∷ []) ++ l) (filters_turn p higher accepted))
    ∙ sym (append_assoc (filter lower (filter p accepted)) (filter p (new ∷ [])) (filter higher (filter p accepted)))

-- so does an acceptance
pub accept_mirrors : {V : Type 0} (new : Report V) (kept whole : AcceptorState V) → Mirrors kept whole → Mirrors (after_accept new kept) (after_accept new whole)
accept_mirrors {V} new kept whole m = record {
  promised_is = refl;
  low = m.low;
  reports_are = λ from lt.
      (reports_with from new kept.accepted
      ∙ ap (λ (l : List (Report V)). filter (λ (r : Report V). nat_lt r.slot new.slot) l ++ reports_from from (new ∷ []) ++ filter (λ (r : Report V). nat_lt new.slot r.slot) l) (m.reports_are from lt)
      ∙ sym (reports_with from new whole.accepted));
}

-- ---- what is forgotten

-- what is added up to a greater number
pub max_is : (low upto : ℕ) → low + (upto - low) ≡ max low upto
max_is low upto =
    elim (cases_lt low upto) [
      | inl lt ↦ (let same : low + (upto - low) ≡ upto = omega (arith, lt) in same ∙ sym (max-eq_right (omega (arith, lt))))
      | inr ge ↦ (let same : low + (upto - low) ≡ low = omega (arith, ge) in same ∙ sym (max-eq_left (omega (arith, ge))))
    ]

-- the floor is not above the last executed slot
pub floor_low : (last : ℕ) → floor_of last ≤ last
floor_low last = let le = mul-div-le last 64 in omega (arith, le)
