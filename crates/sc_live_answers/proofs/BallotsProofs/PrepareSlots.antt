-- From above all that it accepted each node is asked to promise, after each kind of row.
use Rattle.std.proofs.Common.{◌≡◌, ℕ, suc, zero, ◌+◌, ◌<◌, ◌≤◌, eqb, cond, Bool, true, false, true≢false, List, [], ◌∷◌, ◌++◌, Option, Some, None, ◌⊎◌, inl, inr, refl, sym, ◌∙◌, ap, subst, append_assoc, arith}
use Rattle.std.proofs.lemmas.Bool.{cases_eq, cond-true, cond-false, eq-eqb, ne_eqb}
use Rattle.sc_base.specs.Definitions.{Each, is_member}
use Rattle.sc_node_table.specs.NodeDefinitions.{listed}
use Rattle.sc_live_steps.specs.following.FollowingDefinitions.{Dated, marks_in, IsLow, AreLow, IsDatedRow, Mark, Asks, Teaches, Installs, Prepares, next_by, Course, Progress, Sets, members_at, IsKnown, IsCount, IsOffer, taught_from}
use Rattle.sc_live_answers.specs.AnswerDefinitions.{IsAbove, top_by, AreAbove}

-- ---- lists

-- the slot from which on a node has accepted nothing after it took all of these
abbrev pub tops_by : ℕ → List Dated → ℕ
tops_by top [] = top
tops_by top (d ∷ dated) = tops_by (top_by top d.0) dated

above-append : (top : ℕ) (xs ys : List Dated) → AreAbove top xs → AreAbove (tops_by top xs) ys → AreAbove top (xs ++ ys)
above-append top [] ys f g = g
above-append top (d ∷ xs) ys f g = (f.0, above-append (top_by top d.0) xs ys f.1 g)

-- it never falls, and stays below the bound by what is known
pub top_up : (top : ℕ) (mark : Mark) → top ≤ top_by top mark
top_up top (Asks ballot slot) = omega arith
top_up top _ = omega arith

top_known : (course : Course) (top : ℕ) (mark : Mark) → top ≤ course.bound → IsKnown course mark → top_by top mark ≤ course.bound
top_known course top (Asks ballot slot) low known = omega (arith, low, known)
top_known course top _ low known = low

tops_known : (course : Course) (top : ℕ) (dated : List Dated) → top ≤ course.bound → Each (IsKnown course) (marks_in dated) → tops_by top dated ≤ course.bound
tops_known course top [] low known = low
tops_known course top (d ∷ dated) low known = tops_known course (top_by top d.0) dated (top_known course top d.0 low known.0) known.1

-- votes and promises ask for nothing
count_above : (top from : ℕ) (mark : Mark) → IsCount mark → IsAbove top mark from
count_above top from (Prepares ballot) c = absurd c
count_above top from _ c = tt

counts_above : (top : ℕ) (dated : List Dated) → Each IsCount (marks_in dated) → AreAbove top dated
counts_above top [] e = tt
counts_above top (d ∷ dated) e = (count_above top d.1 d.0 e.0, counts_above (top_by top d.0) dated e.1)

-- what is offered asks for no promise
offer_above : (at : Sets) (course : Course) (bound who top from : ℕ) (mark : Mark) → IsOffer at course bound who mark → IsAbove top mark from
offer_above at course bound who top from (Prepares ballot) o = absurd o
offer_above at course bound who top from _ o = tt

offers_above : (at : Sets) (course : Course) (bound who top : ℕ) (dated : List Dated) → Each (IsOffer at course bound who) (marks_in dated) → AreAbove top dated
offers_above at course bound who top [] e = tt
offers_above at course bound who top (d ∷ dated) e = (offer_above at course bound who top d.1 d.0 e.0, offers_above at course bound who (top_by top d.0) dated e.1)

-- ---- what Learns bring

head_is : (x y : Mark) (xs ys : List Mark) → x ∷ xs ≡ y ∷ ys → (x ≡ y) × (xs ≡ ys)
head_is x y xs ys e = (cc, cc)

-- by an entry from a slot on members come and go by the last alone that is offered
abbrev pub MovesLast : Sets → Course → ℕ → ℕ → Type 0
MovesLast at course from to = (slot : ℕ) → from ≤ slot → slot < to → (course.bound ≤ slot + 1) ⊎ (members_at at (slot + 1) ≡ members_at at slot)

-- nobody joins by an entry before the last one that is offered
comes_last : (at : Sets) (course : Course) (slot who : ℕ) → (course.bound ≤ slot + 1) ⊎ (members_at at (slot + 1) ≡ members_at at slot) → is_member (members_at at slot) who ≡ false → is_member (members_at at (slot + 1)) who ≡ true → course.bound ≤ slot + 1
comes_last at course slot who (inl last) out come = last
comes_last at course slot who (inr same) out come = absurd (true≢false (sym come ∙ (ap (λ l. is_member l who) same ∙ out)))

module _ (at : Sets) (course : Course) (who : ℕ) where
  module _ (slot : ℕ) where
    -- what is sent of one entry, by whether the node leads, learns it, and joins by it
    abbrev taught_by : Bool → Bool → Bool → Bool → List Mark
    taught_by lead taught comes first = cond lead [] (cond taught (Teaches slot ∷ []) (cond comes (Installs slot ∷ cond first [] (Prepares course.ballot ∷ [])) []))

    -- one of these, before others
    module _ (rest : List Mark) where
      abbrev Rest : Type 0
      Rest = (dated : List Dated) (next top : ℕ) → marks_in dated ≡ rest → AreLow next dated → top ≤ course.bound → AreAbove top dated

      one_mark : (mark : Mark) → ((top : ℕ) → top_by top mark ≡ top) → ((top from : ℕ) → IsAbove top mark from) → Rest → (dated : List Dated) (next top : ℕ) → marks_in dated ≡ mark ∷ rest → AreLow next dated → top ≤ course.bound → AreAbove top dated
      one_mark mark same free more [] next top fact low most = cc
      one_mark mark same free more (d ∷ dated) next top fact low most =
          let both = head_is d.0 mark (marks_in dated) rest fact in
          subst (λ m. IsAbove top m d.1 × AreAbove (top_by top m) dated) (sym both.0) (free top d.1, subst (λ t. AreAbove t dated) (sym (same top)) (more dated (next_by next d.0) top both.1 low.1 most))

      two_marks : course.bound ≤ slot + 1 → Rest → (dated : List Dated) (next top : ℕ) → marks_in dated ≡ Installs slot ∷ Prepares course.ballot ∷ rest → AreLow next dated → top ≤ course.bound → AreAbove top dated
      two_marks last more [] next top fact low most = cc
      two_marks last more (d ∷ []) next top fact low most = (let one = (head_is d.0 (Installs slot) [] (Prepares course.ballot ∷ rest) fact).1 in cc)
      two_marks last more (d ∷ e ∷ dated) next top fact low most =
          let one = head_is d.0 (Installs slot) (marks_in (e ∷ dated)) (Prepares course.ballot ∷ rest) fact in
          let two = head_is e.0 (Prepares course.ballot) (marks_in dated) rest one.1 in
          let asked : IsLow (suc slot) (Prepares course.ballot) e.1 = subst (λ m. IsLow (suc slot) m e.1) two.0 (subst (λ m. IsLow (next_by next m) e.0 e.1) one.0 low.1.0) in
          subst (λ m. IsAbove top m d.1 × AreAbove (top_by top m) (e ∷ dated)) (sym one.0)
          (tt, subst (λ m. IsAbove top m e.1 × AreAbove (top_by top m) dated) (sym two.0) (omega (arith, asked, last, most), more dated (next_by (next_by next d.0) e.0) top two.1 low.1.1 most))

      taught_above : (lead taught comes first : Bool) → (taught ≡ false → comes ≡ true → course.bound ≤ slot + 1) → Rest → (dated : List Dated) (next top : ℕ) → marks_in dated ≡ taught_by lead taught comes first ++ rest → AreLow next dated → top ≤ course.bound → AreAbove top dated
      taught_above true taught comes first last more = more
      taught_above false true comes first last more = one_mark (Teaches slot) (λ top. refl) (λ top from. tt) more
      taught_above false false true true last more = one_mark (Installs slot) (λ top. refl) (λ top from. tt) more
      taught_above false false true false last more = two_marks (last refl refl) more
      taught_above false false false first last more = more

  -- all of these marks, and what is offered behind them
  all_above : (after : Course) (more slot : ℕ) (offers : List Mark) → MovesLast at course slot (slot + more) → Each (IsOffer at after course.bound who) offers
      → (dated : List Dated) (next top : ℕ) → marks_in dated ≡ taught_from at course slot more who ++ offers → AreLow next dated → top ≤ course.bound → AreAbove top dated
  all_above after zero slot offers last asks dated next top fact low most = offers_above at after course.bound who top dated (subst (Each (IsOffer at after course.bound who)) (sym fact) asks)
  all_above after (suc more) slot offers last asks dated next top fact low most =
      taught_above slot (taught_from at course (slot + 1) more who ++ offers) (eqb who course.ballot.node) (is_member (members_at at slot) who) (is_member (members_at at (slot + 1)) who) course.is_first
      (λ out come. comes_last at course slot who (last slot (omega arith) (omega arith)) out come)
      (all_above after more (slot + 1) offers (λ s least less. last s (omega (arith, least)) (omega (arith, less))) asks) dated next top
      (fact ∙ append_assoc (taught_by slot (eqb who course.ballot.node) (is_member (members_at at slot) who) (is_member (members_at at (slot + 1)) who) course.is_first) (taught_from at course (slot + 1) more who) offers) low most

-- ---- rows

-- the slots from which on nodes have accepted nothing after the row of one
module _ (node : ℕ) (taken : Option Dated) (tops : ℕ → ℕ) where
  abbrev pub top_of : Option Dated → ℕ
  top_of None = tops node
  top_of (Some d) = top_by (tops node) d.0

  abbrev pub tops_after : ℕ → ℕ
  tops_after who = cond (eqb who node) (top_of taken) (tops who)

  pub own_top : tops_after node ≡ top_of taken
  own_top = cond-true (eqb node node) (top_of taken) (tops node) (eq-eqb node node refl)

  pub others_top : (who : ℕ) → (who ≡ node → ⊥) → tops_after who ≡ tops who
  others_top who ne = cond-false (eqb who node) (top_of taken) (tops who) (ne_eqb who node ne)

  top_grows : (t : Option Dated) → tops node ≤ top_of t
  top_grows None = omega arith
  top_grows (Some d) = top_up (tops node) d.0

  pub own_up : tops node ≤ tops_after node
  own_up = (let g = top_grows taken in let e = own_top in omega (arith, g, e))

module _ (now after : Progress) (node : ℕ) (taken : Option Dated) (sent dated dated_after : ℕ → List Dated) (row : IsDatedRow now after node taken sent dated dated_after) (tops : ℕ → ℕ)
    (low : (who : ℕ) → tops who ≤ now.course.bound) (was : (who : ℕ) → AreAbove (tops who) (dated who)) (known : (who : ℕ) → Each (IsKnown now.course) (marks_in (dated who))) where
  abbrev topped : Option Dated → ℕ
  topped t = top_of node taken tops t

  abbrev tops_then : ℕ → ℕ
  tops_then who = tops_after node taken tops who

  -- what is left is asked from above what was taken, and both stay below the bound
  left_above : (t : Option Dated) → AreAbove (tops node) (listed t ++ row.left) → AreAbove (topped t) row.left
  left_above None f = f
  left_above (Some d) f = f.1

  taken_low : (t : Option Dated) → Each (IsKnown now.course) (marks_in (listed t ++ row.left)) → topped t ≤ now.course.bound
  taken_low None e = low node
  taken_low (Some d) e = top_known now.course (tops node) d.0 (low node) e.0

  left_known : (t : Option Dated) → Each (IsKnown now.course) (marks_in (listed t ++ row.left)) → Each (IsKnown now.course) (marks_in row.left)
  left_known None e = e
  left_known (Some d) e = e.1

  known_node : Each (IsKnown now.course) (marks_in (listed taken ++ row.left))
  known_node = subst (λ l. Each (IsKnown now.course) (marks_in l)) row.takes (known node)

  own_low : topped taken ≤ now.course.bound
  own_low = taken_low taken known_node

  pub low_after : (who : ℕ) → tops_then who ≤ now.course.bound
  low_after who = elim (cases_eq who node) [
    | inl fact ↦ (let e = ap tops_then fact ∙ own_top node taken tops in let l = own_low in omega (arith, e, l))
    | inr ne ↦ (let e = others_top node taken tops who ne in let l = low who in omega (arith, e, l))
  ]

  -- so all is, where what is sent is asked from above what is below the bound
  pub sent_above : ((who top : ℕ) → top ≤ now.course.bound → AreAbove top (sent who)) → (who : ℕ) → AreAbove (tops_then who) (dated_after who)
  sent_above asks who = elim (cases_eq who node) [
    | inl fact ↦ subst (λ n. AreAbove (tops_then n) (dated_after n)) (sym fact)
        (subst (λ t. AreAbove t (dated_after node)) (sym (own_top node taken tops)) (subst (AreAbove (topped taken)) (sym row.own)
        (above-append (topped taken) row.left (sent node) (left_above taken (subst (AreAbove (tops node)) row.takes (was node)))
        (asks node (tops_by (topped taken) row.left) (tops_known now.course (topped taken) row.left own_low (left_known taken known_node))))))
    | inr ne ↦ subst (λ t. AreAbove t (dated_after who)) (sym (others_top node taken tops who ne)) (subst (AreAbove (tops who)) (sym (row.others who ne))
        (above-append (tops who) (dated who) (sent who) (was who) (asks who (tops_by (tops who) (dated who)) (tops_known now.course (tops who) (dated who) (low who) (known who)))))
  ]

-- what is sent by a row of each kind
pub counts_asked : (sent : List Dated) → Each IsCount (marks_in sent) → (bound top : ℕ) → top ≤ bound → AreAbove top sent
counts_asked sent counts bound top most = counts_above top sent counts

pub leads_asked : (at : Sets) (course after : Course) (who executed : ℕ) (offers : List Mark) (sent : List Dated) → MovesLast at course course.newest (course.newest + executed) → Each (IsOffer at after course.bound who) offers
    → marks_in sent ≡ taught_from at course course.newest executed who ++ offers → ((next : ℕ) → AreLow next sent) → (top : ℕ) → top ≤ course.bound → AreAbove top sent
leads_asked at course after who executed offers sent last asks fact low top most = all_above at course who after executed course.newest offers last asks sent 0 top fact (low 0) most

pub elects_asked : {A : Type 0} {mark : Mark} (bound : ℕ) (sent : List Dated) → Each (λ (d : Dated). bound ≤ d.1) sent → (marks_in sent ≡ []) ⊎ (A × (marks_in sent ≡ mark ∷ [])) → (top : ℕ) → top ≤ bound → AreAbove top sent
elects_asked bound [] e k top most = tt
elects_asked bound (d ∷ []) e k top most = (above_at d.0 d.1 e.0, tt)
  where
    above_at : (mark : Mark) (from : ℕ) → bound ≤ from → IsAbove top mark from
    above_at (Prepares ballot) from least = omega (arith, most, least)
    above_at _ from least = tt
elects_asked bound (d ∷ other ∷ sent) e (inl k) top most = cc
elects_asked bound (d ∷ other ∷ sent) e (inr k) top most = (let bad = k.1 in cc)
