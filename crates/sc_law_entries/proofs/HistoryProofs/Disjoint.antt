-- Two groups' holdings that are replaced: what is shared out between the two touches no other group.
use Rattle.std.proofs.Common.{◌≡◌, ℕ, true, List, Option, Some, ◌⊎◌, inl, inr, sym, ◌∙◌}
use Rattle.std.proofs.lemmas.Bool.{cases_Bool, cond-true, cond-false}
use Rattle.sc_base.specs.Definitions.{holds, same_draw}
use Rattle.sc_base.specs.declared.names.Draw.{Draw}
use Rattle.sc_base.proofs.Lemmas.{draw_is, same_name}
use Rattle.sc_words.specs.declared.ideal.Entry.{Entry}
use Rattle.sc_law_entries.specs.history.HistoryDefinitions.{Holding, Holdings, with_holding, AreDisjoint, IsReportedOf}
use Rattle.sc_law_entries.proofs.HistoryProofs.Holdings.{IsOnRing}
use Rattle.sc_meaning.proofs.EntriesProofs.EntryLemmas.{draw_cases}

pub holding_here : (group : Draw) (holding : Option Holding) (holdings : Holdings) (other : Draw) → other ≡ group → with_holding group holding holdings other ≡ holding
holding_here group holding holdings other e = cond-true (same_draw other group) holding (holdings other) (same_name other group e)

pub holding_there : (group : Draw) (holding : Option Holding) (holdings : Holdings) (other : Draw) → (other ≡ group → ⊥) → with_holding group holding holdings other ≡ holdings other
holding_there group holding holdings other ne = elim (cases_Bool (same_draw other group)) [
  | inl t ↦ absurd (ne (draw_is other group t))
  | inr f ↦ cond-false (same_draw other group) holding (holdings other) f
]

-- of two holdings that are replaced: the second, the first, and all others
pub second_here : (group second : Draw) (mine theirs : Option Holding) (holdings : Holdings) (other : Draw) → other ≡ second → with_holding second theirs (with_holding group mine holdings) other ≡ theirs
second_here group second mine theirs holdings other e = holding_here second theirs (with_holding group mine holdings) other e

pub first_here : (group second : Draw) (mine theirs : Option Holding) (holdings : Holdings) (other : Draw) → (other ≡ second → ⊥) → other ≡ group → with_holding second theirs (with_holding group mine holdings) other ≡ mine
first_here group second mine theirs holdings other ne e = holding_there second theirs (with_holding group mine holdings) other ne ∙ holding_here group mine holdings other e

pub neither_here : (group second : Draw) (mine theirs : Option Holding) (holdings : Holdings) (other : Draw) → (other ≡ second → ⊥) → (other ≡ group → ⊥) → with_holding second theirs (with_holding group mine holdings) other ≡ holdings other
neither_here group second mine theirs holdings other ne not = holding_there second theirs (with_holding group mine holdings) other ne ∙ holding_there group mine holdings other not

-- the holding, if there is one, has the position
pub record HoldsAt (found : Option Holding) (p : ℕ) : Type 0 where
  pub holding : Holding
  pub fact : found ≡ Some holding
  pub at : holds holding.arc p ≡ true

-- the holding, if there is one, matches the history, with an arc of the ring
abbrev pub IsGood : List Entry → Option Holding → Type 0
IsGood history found = (holding : Holding) → found ≡ Some holding → IsOnRing holding.arc × IsReportedOf history holding

-- two holdings that share out what two had before
pub record SharesOut (history : List Entry) (holdings : Holdings) (group other : Draw) (mine theirs : Option Holding) : Type 0 where
  pub apart : group ≡ other → ⊥
  pub mine_good : IsGood history mine
  pub theirs_good : IsGood history theirs
  pub mine_from : (p : ℕ) → HoldsAt mine p → HoldsAt (holdings group) p ⊎ HoldsAt (holdings other) p
  pub theirs_from : (p : ℕ) → HoldsAt theirs p → HoldsAt (holdings group) p ⊎ HoldsAt (holdings other) p
  pub disjoint : (p : ℕ) → HoldsAt mine p → HoldsAt theirs p → ⊥

-- the same position at the same holding
at_same : (found other : Option Holding) (p : ℕ) → found ≡ other → HoldsAt found p → HoldsAt other p
at_same found other p e h = record { holding = h.holding; fact = sym e ∙ h.fact; at = h.at }

-- a position that a group has is not another group's
pub owner : (holdings : Holdings) → AreDisjoint holdings → (p : ℕ) (group other : Draw) → HoldsAt (holdings group) p → HoldsAt (holdings other) p → group ≡ other
owner holdings d p group other h k = d.only p group other h.holding k.holding h.fact k.fact h.at k.at

module _ (history : List Entry) (holdings : Holdings) (group other : Draw) (mine theirs : Option Holding)
    (disjoint : AreDisjoint holdings) (recorded : (name : Draw) → IsGood history (holdings name)) (share : SharesOut history holdings group other mine theirs) where
  abbrev pub shared : Holdings
  shared = with_holding other theirs (with_holding group mine holdings)

  -- of each name: it is the one, or the other, or it has what it had
  data Place (name : Draw) : Type 0 where
    First : name ≡ group → shared name ≡ mine → Place name
    Second : name ≡ other → shared name ≡ theirs → Place name
    Third : (name ≡ group → ⊥) → (name ≡ other → ⊥) → shared name ≡ holdings name → Place name

  place : (name : Draw) → Place name
  place name = elim (draw_cases name other) [
    | inl e ↦ Second e (holding_here other theirs (with_holding group mine holdings) name e)
    | inr ne ↦ (
        let past = holding_there other theirs (with_holding group mine holdings) name ne in
        elim (draw_cases name group) [
          | inl e ↦ First e (past ∙ holding_here group mine holdings name e)
          | inr not ↦ Third not ne (past ∙ holding_there group mine holdings name not)
        ])
  ]

  good_at : (name : Draw) → Place name → IsGood history (shared name)
  good_at name (First e fact) holding found = share.mine_good holding (sym fact ∙ found)
  good_at name (Second e fact) holding found = share.theirs_good holding (sym fact ∙ found)
  good_at name (Third ne not fact) holding found = recorded name holding (sym fact ∙ found)

  -- who has a position that one of the two had is one of the two
  stranger : (name : Draw) (p : ℕ) → (name ≡ group → ⊥) → (name ≡ other → ⊥) → HoldsAt (holdings name) p → HoldsAt (holdings group) p ⊎ HoldsAt (holdings other) p → ⊥
  stranger name p ne not h (inl k) = ne (owner holdings disjoint p name group h k)
  stranger name p ne not h (inr k) = not (owner holdings disjoint p name other h k)

  only_at : (p : ℕ) (name second : Draw) → Place name → Place second → HoldsAt (shared name) p → HoldsAt (shared second) p → name ≡ second
  only_at p name second (First e fact) (First f its) h k = e ∙ sym f
  only_at p name second (First e fact) (Second f its) h k = absurd (share.disjoint p (at_same _ _ p fact h) (at_same _ _ p its k))
  only_at p name second (First e fact) (Third ne not its) h k = absurd (stranger second p ne not (at_same _ _ p its k) (share.mine_from p (at_same _ _ p fact h)))
  only_at p name second (Second e fact) (First f its) h k = absurd (share.disjoint p (at_same _ _ p its k) (at_same _ _ p fact h))
  only_at p name second (Second e fact) (Second f its) h k = e ∙ sym f
  only_at p name second (Second e fact) (Third ne not its) h k = absurd (stranger second p ne not (at_same _ _ p its k) (share.theirs_from p (at_same _ _ p fact h)))
  only_at p name second (Third ne not fact) (First f its) h k = absurd (stranger name p ne not (at_same _ _ p fact h) (share.mine_from p (at_same _ _ p its k)))
  only_at p name second (Third ne not fact) (Second f its) h k = absurd (stranger name p ne not (at_same _ _ p fact h) (share.theirs_from p (at_same _ _ p its k)))
  only_at p name second (Third ne not fact) (Third nf nor its) h k = owner holdings disjoint p name second (at_same _ _ p fact h) (at_same _ _ p its k)

  -- all are disjoint and match the history as before
  pub shared_disjoint : AreDisjoint shared
  shared_disjoint = record {
    arcs = λ name holding found. (good_at name (place name) holding found).0;
    only = λ p name second holding another fact its at there.
        only_at p name second (place name) (place second) (record { holding = holding; fact = fact; at = at }) (record { holding = another; fact = its; at = there });
  }

  pub shared_reported : (name : Draw) (holding : Holding) → shared name ≡ Some holding → IsReportedOf history holding
  shared_reported name holding found = (good_at name (place name) holding found).1
