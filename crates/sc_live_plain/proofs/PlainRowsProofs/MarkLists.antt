-- Marks in order: the first is taken, and others come behind.
use Rattle.std.proofs.Common.{◌≡◌, ℕ, zero, suc, ◌+◌, ◌≤◌, max, List, [], ◌∷◌, ◌++◌, inl, inr, refl, sym, ◌∙◌, ap, subst, arith}
use Rattle.sc_base.specs.Definitions.{Among, Each}
use Rattle.sc_words.proofs.PaxosProofs.PaxosLemmas.{Each-append, Each-weaker}
use Rattle.sc_node_table.specs.NodeDefinitions.{numbers_from}
use Rattle.sc_live_plain.specs.PlainDefinitions.{Mark, Asks, Votes, Teaches, Other, AreInOrder, IsBelow, taught_slots, IsNew, IsOther}

-- ---- order

-- what is in order from a slot on is so from each lower one
pub order-lower : (low high : ℕ) (marks : List Mark) → low ≤ high → AreInOrder high marks → AreInOrder low marks
order-lower low high [] le o = tt
order-lower low high (Asks slot ∷ marks) le o = (let at = o.0 in omega (arith, le, at), order-lower low high marks le o.1)
order-lower low high (Votes node slot ∷ marks) le o = order-lower (max low (suc slot)) (max high (suc slot)) marks (omega (arith, le)) o
order-lower low high (Teaches slot ∷ marks) le o = order-lower (max low (suc slot)) (max high (suc slot)) marks (omega (arith, le)) o
order-lower low high (Other ∷ marks) le o = order-lower low high marks le o

-- what comes behind the first is in order
pub order-tail : (low : ℕ) (mark : Mark) (marks : List Mark) → AreInOrder low (mark ∷ marks) → AreInOrder low marks
order-tail low (Asks slot) marks o = o.1
order-tail low (Votes node slot) marks o = order-lower low (max low (suc slot)) marks (omega arith) o
order-tail low (Teaches slot) marks o = order-lower low (max low (suc slot)) marks (omega arith) o
order-tail low Other marks o = o

-- what is asked for is not below
pub order-asks : (low : ℕ) (marks : List Mark) (slot : ℕ) → AreInOrder low marks → Among (Asks slot) marks → low ≤ slot
order-asks low [] slot o a = absurd a
order-asks low (mark ∷ marks) slot o (inl same) = at low mark slot same marks o
  where
    at : (low : ℕ) (mark : Mark) (slot : ℕ) → mark ≡ Asks slot → (marks : List Mark) → AreInOrder low (mark ∷ marks) → low ≤ slot
    at low (Asks other) slot same marks o = (let le = o.0 in let fact : other ≡ slot = cc in omega (arith, le, fact))
    at low (Votes node other) slot same marks o = cc
    at low (Teaches other) slot same marks o = cc
    at low Other slot same marks o = cc
order-asks low (mark ∷ marks) slot o (inr a) = order-asks low marks slot (order-tail low mark marks o) a

-- more marks in order come behind, from a slot above all that stand before
pub order-append : (low bound : ℕ) (xs ys : List Mark) → AreInOrder low xs → Each (IsBelow bound) xs → low ≤ bound → AreInOrder bound ys → AreInOrder low (xs ++ ys)
order-append low bound [] ys o below le more = order-lower low bound ys le more
order-append low bound (Asks slot ∷ xs) ys o below le more = (o.0, order-append low bound xs ys o.1 below.1 le more)
order-append low bound (Votes node slot ∷ xs) ys o below le more = (let at = below.0 in order-append (max low (suc slot)) bound xs ys o below.1 (omega (arith, le, at)) more)
order-append low bound (Teaches slot ∷ xs) ys o below le more = (let at = below.0 in order-append (max low (suc slot)) bound xs ys o below.1 (omega (arith, le, at)) more)
order-append low bound (Other ∷ xs) ys o below le more = order-append low bound xs ys o below.1 le more

-- where nothing below a slot is asked for, the order is from that slot on
pub order-raise : (low high : ℕ) (marks : List Mark) → AreInOrder low marks → ((slot : ℕ) → Among (Asks slot) marks → high ≤ slot) → AreInOrder high marks
order-raise low high [] o f = tt
order-raise low high (Asks slot ∷ marks) o f = (f slot (inl refl), order-raise low high marks o.1 (λ s a. f s (inr a)))
order-raise low high (Votes node slot ∷ marks) o f =
    order-raise (max low (suc slot)) (max high (suc slot)) marks o (λ s a. (let one = order-asks (max low (suc slot)) marks s o a in let two = f s (inr a) in omega (arith, one, two)))
order-raise low high (Teaches slot ∷ marks) o f =
    order-raise (max low (suc slot)) (max high (suc slot)) marks o (λ s a. (let one = order-asks (max low (suc slot)) marks s o a in let two = f s (inr a) in omega (arith, one, two)))
order-raise low high (Other ∷ marks) o f = order-raise low high marks o (λ s a. f s (inr a))

-- what a row sends is in order from its bound on
pub order-new : (from to : ℕ) (marks : List Mark) → Each (IsNew from to) marks → AreInOrder from marks
order-new from to [] e = tt
order-new from to (Asks slot ∷ marks) e = (e.0.0, order-new from to marks e.1)
order-new from to (Votes node slot ∷ marks) e = (let at = e.0 in order-lower (max from (suc slot)) from marks (omega (arith, at)) (order-new from to marks e.1))
order-new from to (Teaches slot ∷ marks) e = (let at = e.0 in order-lower (max from (suc slot)) from marks (omega (arith, at)) (order-new from to marks e.1))
order-new from to (Other ∷ marks) e = order-new from to marks e.1

-- ---- bounds

new_below : (from to : ℕ) → from ≤ to → (mark : Mark) → IsNew from to mark → IsBelow to mark
new_below from to le (Asks slot) e = e.1
new_below from to le (Votes node slot) e = omega (arith, e, le)
new_below from to le (Teaches slot) e = omega (arith, e, le)
new_below from to le Other e = tt

more_below : (from to : ℕ) → from ≤ to → (mark : Mark) → IsBelow from mark → IsBelow to mark
more_below from to le (Asks slot) e = omega (arith, e, le)
more_below from to le (Votes node slot) e = omega (arith, e, le)
more_below from to le (Teaches slot) e = omega (arith, e, le)
more_below from to le Other e = tt

-- all that is under way after a row is below its bound
pub below-append : (from to : ℕ) (xs ys : List Mark) → from ≤ to → Each (IsBelow from) xs → Each (IsNew from to) ys → Each (IsBelow to) (xs ++ ys)
below-append from to xs ys le old new =
    Each-append (IsBelow to) xs ys (Each-weaker (IsBelow from) (IsBelow to) (more_below from to le) xs old) (Each-weaker (IsNew from to) (IsBelow to) (new_below from to le) ys new)

pub below-among : (bound : ℕ) (marks : List Mark) (mark : Mark) → Each (IsBelow bound) marks → Among mark marks → IsBelow bound mark
below-among bound [] mark e a = absurd a
below-among bound (m ∷ marks) mark e (inl same) = subst (IsBelow bound) same e.0
below-among bound (m ∷ marks) mark e (inr a) = below-among bound marks mark e.1 a

-- nothing of a group is new
pub other-new : (from to : ℕ) (marks : List Mark) → Each IsOther marks → Each (IsNew from to) marks
other-new from to marks e = Each-weaker IsOther (IsNew from to) (λ m fact. subst (IsNew from to) (sym fact) tt) marks e

-- marks of nothing in the group ask for nothing
pub other-asks : (marks : List Mark) (mark : Mark) → Each IsOther marks → (mark ≡ Other → ⊥) → Among mark marks → ⊥
other-asks [] mark e ne a = a
other-asks (m ∷ marks) mark e ne (inl same) = ne (sym same ∙ e.0)
other-asks (m ∷ marks) mark e ne (inr a) = other-asks marks mark e.1 ne a

pub asks≢other : (slot : ℕ) → Asks slot ≡ Other → ⊥
asks≢other slot e = cc

pub votes≢other : (node slot : ℕ) → Votes node slot ≡ Other → ⊥
votes≢other node slot e = cc

-- ---- the slots of Tells marks

pub taught-append : (xs ys : List Mark) → taught_slots (xs ++ ys) ≡ taught_slots xs ++ taught_slots ys
taught-append [] ys = refl
taught-append (Teaches slot ∷ xs) ys = ap (λ t. slot ∷ t) (taught-append xs ys)
taught-append (Asks slot ∷ xs) ys = taught-append xs ys
taught-append (Votes node slot ∷ xs) ys = taught-append xs ys
taught-append (Other ∷ xs) ys = taught-append xs ys

pub taught-other : (marks : List Mark) → Each IsOther marks → taught_slots marks ≡ []
taught-other [] e = refl
taught-other (mark ∷ marks) e = ap (λ m. taught_slots (m ∷ marks)) e.0 ∙ taught-other marks e.1

pub numbers-append : (from one two : ℕ) → numbers_from from (one + two) ≡ numbers_from from one ++ numbers_from (from + one) two
numbers-append from zero two = (let a : zero + two ≡ two = omega arith in let b : from + zero ≡ from = omega arith in rw (a, b) refl)
numbers-append from (suc one) two =
    (let a : suc one + two ≡ suc (one + two) = omega arith in
    let b : from + suc one ≡ from + 1 + one = omega arith in
    rw (a, b) (ap (λ t. from ∷ t) (numbers-append (from + 1) one two)))
