-- Names of groups: how many pass a test, that names apart among others are no more, and by how many ends a group is away from one that stands.
use Rattle.std.proofs.Common.{◌≡◌, ℕ, zero, suc, ◌+◌, ◌≤◌, ◌&&◌, not, nat_le, cond, Bool, true, false, true≢false, List, [], ◌∷◌, ◌++◌, length, Option, Some, None, inl, inr, refl, sym, ◌∙◌, ap, subst, arith, length-append}
use Rattle.std.specs.Prelude.{filter, is_some}
use Rattle.std.proofs.lemmas.Bool.{and_from, and_parts, cases_Bool, le-leb, leb-true}
use Rattle.std.proofs.lemmas.List.Filters.{length-filter_both}
use Rattle.std.proofs.lemmas.List.Sums.{sum_by-cons}
use Rattle.sc_base.specs.Definitions.{Among, Each}
use Rattle.sc_node_table.specs.Values.{Draw, Route}
use Rattle.sc_client_table.specs.declared.lookup.ways.Way.{Way}
use Rattle.sc_node_table.specs.NodeDefinitions.{ReplicaState}
use Rattle.sc_paxos_law.proofs.Lemmas.{Among-either, Among-left, Among-right}
use Rattle.sc_words.proofs.PaxosProofs.PaxosLemmas.{Each-among}
use Rattle.sc_live_steps.specs.calm.CalmDefinitions.{StandsOnce, sent_on}
use Rattle.sc_live_journals.specs.charts.ChartDefinitions.{ends_by, reach_in, went_in, GoInTurn}
use Rattle.sc_live_plain.proofs.PlainLemmas.{parts_of, unknown_few}

-- ---- how many pass

module _ (p q : Draw → Bool) (more : (x : Draw) → p x ≡ true → q x ≡ true) where
  pub fewer : (names : List Draw) → length (filter p names) ≤ length (filter q names)
  fewer [] = omega arith
  fewer (x ∷ names) = by (p x) (q x) (more x) (fewer names)
    where
      by : (a b : Bool) → (a ≡ true → b ≡ true) → length (filter p names) ≤ length (filter q names) → length (cond a (x ∷ filter p names) (filter p names)) ≤ length (cond b (x ∷ filter q names) (filter q names))
      by true true on low = omega (arith, low)
      by true false on low = absurd (true≢false (sym (on refl)))
      by false true on low = omega (arith, low)
      by false false on low = low

  -- one passes only the other test
  pub fewer_by : (names : List Draw) (x : Draw) → Among x names → p x ≡ false → q x ≡ true → length (filter p names) + 1 ≤ length (filter q names)
  fewer_by [] x a off on = absurd a
  fewer_by (y ∷ names) x (inl e) off on = by (p y) (q y) (ap p e ∙ off) (ap q e ∙ on) (fewer names)
    where
      by : (a b : Bool) → a ≡ false → b ≡ true → length (filter p names) ≤ length (filter q names) → length (cond a (y ∷ filter p names) (filter p names)) + 1 ≤ length (cond b (y ∷ filter q names) (filter q names))
      by true b e f low = absurd (true≢false e)
      by false true e f low = omega (arith, low)
      by false false e f low = absurd (true≢false (sym f))
  fewer_by (y ∷ names) x (inr a) off on = by (p y) (q y) (more y) (fewer_by names x a off on)
    where
      by : (a b : Bool) → (a ≡ true → b ≡ true) → length (filter p names) + 1 ≤ length (filter q names) → length (cond a (y ∷ filter p names) (filter p names)) + 1 ≤ length (cond b (y ∷ filter q names) (filter q names))
      by true true on low = omega (arith, low)
      by true false on low = absurd (true≢false (sym (on refl)))
      by false true on low = omega (arith, low)
      by false false on low = low

-- ---- ends

module _ (names : List Draw) (replicas : List ReplicaState) (turn : Draw → ℕ) (goes : GoInTurn names replicas turn) (named : (group : Draw) (into : Route) → went_in group replicas ≡ Some into → Among group names) where
  -- one that is gone, no earlier than this
  abbrev from : ℕ → Draw → Bool
  from least name = is_some (went_in name replicas) && nat_le least (turn name)

  -- one that is gone so is later than one that went before it
  from_less : (least most : ℕ) → least ≤ most → (x : Draw) → from most x ≡ true → from least x ≡ true
  from_less least most low x t =
      let parts = and_parts (is_some (went_in x replicas)) (nat_le most (turn x)) t in
      let high = leb-true most (turn x) parts.1 in
      and_from (is_some (went_in x replicas)) (nat_le least (turn x)) parts.0 (le-leb least (turn x) (omega (arith, high, low)))

  from_off : (group : Draw) → from (turn group + 1) group ≡ false
  from_off group = elim (cases_Bool (from (turn group + 1) group)) [
    | inl t ↦ (let high = leb-true (turn group + 1) (turn group) (and_parts (is_some (went_in group replicas)) (nat_le (turn group + 1) (turn group)) t).1 in absurd (omega (arith, high)))
    | inr f ↦ f
  ]

  ends_from : (n : ℕ) (group : Draw) (least : ℕ) → (is_some (went_in group replicas) ≡ true → least ≤ turn group) → ends_by n replicas group ≤ length (filter (from least) names)
  ends_from zero group least later = omega arith
  ends_from (suc n) group least later = by (went_in group replicas) refl (λ other low more. ends_from n other low more)
    where
      by : (o : Option Route) → went_in group replicas ≡ o → ((other : Draw) (low : ℕ) → (is_some (went_in other replicas) ≡ true → low ≤ turn other) → ends_by n replicas other ≤ length (filter (from low) names))
          → elim o [ None ↦ 0 | Some into ↦ 1 + ends_by n replicas into.group ] ≤ length (filter (from least) names)
      by None e rest = omega arith
      by (Some into) e rest =
          let g = goes group into e in
          let low : least ≤ turn group = later (ap is_some e) in
          let behind : ends_by n replicas into.group ≤ length (filter (from (turn group + 1)) names) = rest into.group (turn group + 1) (λ gone. (let up = g.1 gone in omega (arith, up))) in
          let one = fewer_by (from (turn group + 1)) (from least) (from_less least (turn group + 1) (omega (arith, low))) names group (named group into e) (from_off group)
          (and_from (is_some (went_in group replicas)) (nat_le least (turn group)) (ap is_some e) (le-leb least (turn group) low)) in
          omega (arith, behind, one)

  -- as many ends lead there at most as groups are gone
  ends_few : (n : ℕ) (group : Draw) → ends_by n replicas group ≤ length (filter (λ name. is_some (went_in name replicas)) names)
  ends_few n group =
      let low = ends_from n group 0 (λ gone. omega arith) in
      let all = fewer (from 0) (λ name. is_some (went_in name replicas)) (λ x t. (and_parts (is_some (went_in x replicas)) (nat_le 0 (turn x)) t).0) names in
      omega (arith, low, all)

  -- so one that knows one group is sent on no more often than there are names
  pub sent_few : (most : ℕ) (entry : Draw × Way) → sent_on (reach_in most names replicas) (entry ∷ []) ≤ length names
  sent_few most entry =
      let strange = unknown_few (entry ∷ []) (filter (λ name. not (is_some (went_in name replicas))) names) in
      let ends = ends_few (length names) entry.0 in
      let both = length-filter_both (λ (name : Draw). is_some (went_in name replicas)) (λ (name : Draw). not (is_some (went_in name replicas))) (λ x. refl) names in
      let one = sum_by-cons (λ (e : Draw × Way). ends_by (length names) replicas e.0) entry [] in
      omega (arith, strange, ends, both, one)

-- ---- apart

-- each of these is another than those behind it
abbrev pub AreApart : List Draw → Type 0
AreApart [] = Unit {0}
AreApart (name ∷ names) = Each (λ other. other ≡ name → ⊥) names × AreApart names

pub once_split : (group : Draw) (one other : List Draw) → StandsOnce group (one ++ other) → Among group one → Among group other → ⊥
once_split group [] other once a b = absurd a
once_split group (name ∷ one) other (inl here) (inl e) b = Each-among (λ (another : Draw). another ≡ group → ⊥) (one ++ other) group here.1 (Among-right group one other b) refl
once_split group (name ∷ one) other (inl here) (inr a) b = Each-among (λ (another : Draw). another ≡ group → ⊥) (one ++ other) group here.1 (Among-right group one other b) refl
once_split group (name ∷ one) other (inr more) (inl e) b = more.0 e
once_split group (name ∷ one) other (inr more) (inr a) b = once_split group one other more.1 a b

pub once_apart : (names : List Draw) → ((group : Draw) → Among group names → StandsOnce group names) → AreApart names
once_apart [] once = tt
once_apart (name ∷ names) once = (head (once name (inl refl)), once_apart names (λ group a. tail group a (once group (inr a))))
  where
    head : StandsOnce name (name ∷ names) → Each (λ other. other ≡ name → ⊥) names
    head (inl here) = here.1
    head (inr more) = absurd (more.0 refl)

    tail : (group : Draw) → Among group names → StandsOnce group (name ∷ names) → StandsOnce group names
    tail group a (inl here) = absurd (Each-among (λ (other : Draw). other ≡ group → ⊥) names group here.1 a refl)
    tail group a (inr more) = more.1

-- names apart, each of which is among others, are no more than these
pub apart_few : (names others : List Draw) → AreApart names → ((group : Draw) → Among group names → Among group others) → length names ≤ length others
apart_few [] others apart within = omega arith
apart_few (name ∷ names) others apart within =
    let p = parts_of others name (within name (inl refl)) in
    let rest : length names ≤ length (p.0 ++ p.1) = apart_few names (p.0 ++ p.1) apart.1 (λ group a. left p.0 p.1 group (Each-among (λ (other : Draw). other ≡ name → ⊥) names group apart.0 a) (subst (Among group) p.2 (within group (inr a)))) in
    let one = length-append p.0 p.1 in
    let all = ap length p.2 in
    let two = length-append p.0 (name ∷ p.1) in
    omega (arith, rest, one, all, two)
  where
    left : (prefix back : List Draw) (group : Draw) → (group ≡ name → ⊥) → Among group (prefix ++ name ∷ back) → Among group (prefix ++ back)
    left prefix back group ne a = elim (Among-either group prefix (name ∷ back) a) [
      | inl b ↦ Among-left group prefix back b
      | inr b ↦ behind b
    ]
      where
        behind : Among group (name ∷ back) → Among group (prefix ++ back)
        behind (inl e) = absurd (ne (sym e))
        behind (inr b) = Among-right group prefix back b
