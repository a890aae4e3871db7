-- A group that is gone is farther by one end from one that stands than the one that it went into, since groups go one after another.
use Rattle.std.proofs.Common.{◌≡◌, ℕ, zero, suc, ◌+◌, ◌-◌, ◌≤◌, true, length, List, Option, Some, None, refl, sym, ◌∙◌, ap, arith}
use Rattle.std.specs.Prelude.{is_some}
use Rattle.sc_node_table.specs.Values.{Draw, Route}
use Rattle.sc_node_table.specs.NodeDefinitions.{ReplicaState}
use Rattle.sc_live_journals.specs.charts.ChartDefinitions.{went_in, ends_by, GoInTurn, EndsFall}

module _ (names : List Draw) (replicas : List ReplicaState) (turn : Draw → ℕ) (goes : GoInTurn names replicas turn) where
  -- one that stands is away by none
  stands_none : (n : ℕ) (group : Draw) → went_in group replicas ≡ None → ends_by n replicas group ≡ 0
  stands_none zero group none = refl
  stands_none (suc n) group none = ap (λ (o : Option Route). elim o [ None ↦ 0 | Some into ↦ 1 + ends_by n replicas into.group ]) none

  -- one that is gone by one more than the one that it went into
  gone_one : (n : ℕ) (group : Draw) (into : Route) → went_in group replicas ≡ Some into → ends_by (suc n) replicas group ≡ 1 + ends_by n replicas into.group
  gone_one n group into went = ap (λ (o : Option Route). elim o [ None ↦ 0 | Some into ↦ 1 + ends_by n replicas into.group ]) went

  -- how many ends are looked for does not matter, where they are enough
  enough : (n m : ℕ) (group : Draw) (o : Option Route) → went_in group replicas ≡ o → (is_some o ≡ true → (length names - turn group ≤ n) × (length names - turn group ≤ m)) → ends_by n replicas group ≡ ends_by m replicas group
  enough n m group None none room = stands_none n group none ∙ sym (stands_none m group none)
  enough zero m group (Some into) went room = (let low = (goes group into went).0 in let some = (room refl).0 in absurd (omega (arith, low, some)))
  enough (suc n) zero group (Some into) went room = (let low = (goes group into went).0 in let some = (room refl).1 in absurd (omega (arith, low, some)))
  enough (suc n) (suc m) group (Some into) went room =
      let g = goes group into went in
      let r = room refl in
      gone_one n group into went ∙ (ap (λ k. 1 + k) (enough n m into.group (went_in into.group replicas) refl (λ some. (let up = g.1 some in let one = r.0 in let other = r.1 in (omega (arith, up, one), omega (arith, up, other))))) ∙ sym (gone_one m group into went))

  falls : (group : Draw) (into : Route) (size : ℕ) → size ≡ length names → went_in group replicas ≡ Some into → ends_by size replicas into.group + 1 ≤ ends_by size replicas group
  falls group into zero fact went = (let low = (goes group into went).0 in absurd (omega (arith, fact, low)))
  falls group into (suc n) fact went =
      let g = goes group into went in
      let one = gone_one n group into went in
      let same = enough n (suc n) into.group (went_in into.group replicas) refl (λ some. (let up = g.1 some in (omega (arith, up, fact), omega (arith, up, fact)))) in
      omega (arith, one, same)

-- Where groups go one after another, each is farther by one end from one that stands than the one that it went into.
pub ends_fall : EndsFall
ends_fall names replicas turn goes group into went = falls names replicas turn goes group into (length names) refl went
