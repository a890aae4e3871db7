-- Whom nodes take for the leader, along the marks under way to them.
use Rattle.std.proofs.Common.{◌≡◌, ℕ, zero, suc, ◌+◌, ◌<◌, ◌≤◌, Bool, true, false, List, [], ◌∷◌, ◌++◌, Option, Some, ◌⊎◌, inl, inr, refl, sym, ◌∙◌, ap, subst, arith}
use Rattle.std.proofs.lemmas.Bool.{cond_both, cond-true}
use Rattle.sc_base.specs.Definitions.{Each, is_member, least_of}
use Rattle.sc_node_table.specs.Values.{Ballot}
use Rattle.sc_node_table.specs.NodeDefinitions.{is_among}
use Rattle.sc_words.specs.paxos.PaxosDefinitions.{below}
use Rattle.sc_live_steps.specs.following.FollowingDefinitions.{Mark, Asks, Votes, Teaches, Installs, Prepares, Promises, promise_by, reached, pledged, AreFit, Course, Sets, members_at, SlotLeaders, hint_by, hinted, MayLeave, IsHeeded, AreHeeded, IsCount, IsOffer, reported_of, taught_from}
use Rattle.sc_live_steps.proofs.FollowingProofs.Marks.{reached-least, taught-cases}

module _ (at : Sets) (by : SlotLeaders) where
  pub hinted-append : (promise : Ballot) (hint : Option ℕ) (xs ys : List Mark) → hinted at by promise hint (xs ++ ys) ≡ hinted at by (pledged promise xs) (hinted at by promise hint xs) ys
  hinted-append promise hint [] ys = refl
  hinted-append promise hint (mark ∷ xs) ys = hinted-append (promise_by promise mark) (hint_by at by promise hint mark) xs ys

  pub heeded-append : (course : Course) (node : ℕ) (promise : Ballot) (hint : Option ℕ) (xs ys : List Mark) → AreHeeded at by course node promise hint xs
      → AreHeeded at by course node (pledged promise xs) (hinted at by promise hint xs) ys → AreHeeded at by course node promise hint (xs ++ ys)
  heeded-append course node promise hint [] ys f g = g
  heeded-append course node promise hint (mark ∷ xs) ys f g = (f.0, heeded-append course node (promise_by promise mark) (hint_by at by promise hint mark) xs ys f.1 g)

  -- in another course in which whoever might leave may
  module _ (one other : Course) (node : ℕ) (may : (slot : ℕ) → MayLeave at by one node slot → MayLeave at by other node slot) where
    one_change : (hint : Option ℕ) (mark : Mark) → IsHeeded at by one node hint mark → IsHeeded at by other node hint mark
    one_change hint (Teaches slot) f = (f.0, may slot f.1)
    one_change hint (Installs slot) f = f
    one_change hint _ f = tt

    pub heeded-change : (promise : Ballot) (hint : Option ℕ) (marks : List Mark) → AreHeeded at by one node promise hint marks → AreHeeded at by other node promise hint marks
    heeded-change promise hint [] f = tt
    heeded-change promise hint (mark ∷ marks) f = (one_change hint mark f.0, heeded-change (promise_by promise mark) (hint_by at by promise hint mark) marks f.1)

  -- where a node is taken no further, it learns nothing
  pub no_more : (course : Course) (node next : ℕ) (promise : Ballot) (marks : List Mark) → AreFit next promise marks → reached next marks ≤ next → (hint : Option ℕ) → AreHeeded at by course node promise hint marks
  no_more course node next promise [] f le hint = tt
  no_more course node next promise (Asks ballot slot ∷ marks) f le hint = (tt, no_more course node next promise marks f.1 le (Some ballot.node))
  no_more course node next promise (Votes n ballot slot ∷ marks) f le hint = (tt, no_more course node next promise marks f.1 le hint)
  no_more course node next promise (Teaches slot ∷ marks) f le hint = (let fact = f.0.1 in let more = reached-least (suc slot) promise marks f.1 in absurd (omega (arith, fact, more, le)))
  no_more course node next promise (Installs slot ∷ marks) f le hint = (let fact = f.0 in let more = reached-least (suc slot) promise marks f.1 in absurd (omega (arith, fact, more, le)))
  no_more course node next promise (Prepares ballot ∷ marks) f le hint = (tt, no_more course node next ballot marks f.1 le (hint_by at by promise hint (Prepares ballot)))
  no_more course node next promise (Promises n ballot ∷ marks) f le hint = (tt, no_more course node next promise marks f.1 le hint)

  -- ---- votes and promises

  pub count-heeded : (course : Course) (node : ℕ) (promise : Ballot) (hint : Option ℕ) (marks : List Mark) → Each IsCount marks → AreHeeded at by course node promise hint marks
  count-heeded course node promise hint [] e = tt
  count-heeded course node promise hint (Votes n ballot slot ∷ marks) e = (tt, count-heeded course node promise hint marks e.1)
  count-heeded course node promise hint (Promises n ballot ∷ marks) e = (tt, count-heeded course node promise hint marks e.1)
  count-heeded course node promise hint (Asks ballot slot ∷ marks) e = absurd e.0
  count-heeded course node promise hint (Teaches slot ∷ marks) e = absurd e.0
  count-heeded course node promise hint (Installs slot ∷ marks) e = absurd e.0
  count-heeded course node promise hint (Prepares ballot ∷ marks) e = absurd e.0

  pub count-hinted : (promise : Ballot) (hint : Option ℕ) (marks : List Mark) → Each IsCount marks → hinted at by promise hint marks ≡ hint
  count-hinted promise hint [] e = refl
  count-hinted promise hint (Votes n ballot slot ∷ marks) e = count-hinted promise hint marks e.1
  count-hinted promise hint (Promises n ballot ∷ marks) e = count-hinted promise hint marks e.1
  count-hinted promise hint (Asks ballot slot ∷ marks) e = absurd e.0
  count-hinted promise hint (Teaches slot ∷ marks) e = absurd e.0
  count-hinted promise hint (Installs slot ∷ marks) e = absurd e.0
  count-hinted promise hint (Prepares ballot ∷ marks) e = absurd e.0

  -- ---- what is offered

  pub offers-heeded : (in_course course : Course) (from who node : ℕ) (promise : Ballot) (hint : Option ℕ) (marks : List Mark) → Each (IsOffer at in_course from who) marks → AreHeeded at by course node promise hint marks
  offers-heeded in_course course from who node promise hint [] e = tt
  offers-heeded in_course course from who node promise hint (Asks ballot slot ∷ marks) e = (tt, offers-heeded in_course course from who node promise (Some ballot.node) marks e.1)
  offers-heeded in_course course from who node promise hint (Votes n ballot slot ∷ marks) e = absurd e.0
  offers-heeded in_course course from who node promise hint (Teaches slot ∷ marks) e = absurd e.0
  offers-heeded in_course course from who node promise hint (Installs slot ∷ marks) e = absurd e.0
  offers-heeded in_course course from who node promise hint (Prepares ballot ∷ marks) e = absurd e.0
  offers-heeded in_course course from who node promise hint (Promises n ballot ∷ marks) e = absurd e.0

  pub offers-hinted : (course : Course) (from who : ℕ) (promise : Ballot) (hint : Option ℕ) (marks : List Mark) → Each (IsOffer at course from who) marks → hint ≡ Some course.ballot.node → hinted at by promise hint marks ≡ Some course.ballot.node
  offers-hinted course from who promise hint [] e fact = fact
  offers-hinted course from who promise hint (Asks ballot slot ∷ marks) e fact = offers-hinted course from who promise (Some ballot.node) marks e.1 (ap (λ (b : Ballot). Some b.node) e.0.0)
  offers-hinted course from who promise hint (Votes n ballot slot ∷ marks) e fact = absurd e.0
  offers-hinted course from who promise hint (Teaches slot ∷ marks) e fact = absurd e.0
  offers-hinted course from who promise hint (Installs slot ∷ marks) e fact = absurd e.0
  offers-hinted course from who promise hint (Prepares ballot ∷ marks) e fact = absurd e.0
  offers-hinted course from who promise hint (Promises n ballot ∷ marks) e fact = absurd e.0

  -- ---- what is learnt

  module _ (now after : Course) (who : ℕ) (apart : who ≡ now.ballot.node → ⊥) where
    abbrev lead : ℕ
    lead = now.ballot.node

    -- the leader is a member after an entry, or it is the last one, by which nobody comes
    abbrev pub IsEnd : ℕ → Type 0
    IsEnd slot = (is_member (members_at at (slot + 1)) lead ≡ true) ⊎ ((after.running ≡ false) × (suc slot ≡ after.newest) × (is_member (members_at at (slot + 1)) who ≡ true → is_member (members_at at slot) who ≡ true))

    both_no : {b : Bool} → b ≡ true → b ≡ false → ⊥
    both_no t f = cc

    one_heeded : (slot : ℕ) (promise : Ballot) (hint : Option ℕ) → (is_member (members_at at slot) who ≡ true → hint ≡ Some lead) → by slot ≡ lead → IsEnd slot → AreHeeded at by after who promise hint (reported_of at now slot who)
    one_heeded slot promise hint member counts ends =
        taught-cases at now who apart (AreHeeded at by after who promise hint) slot
        (λ m. ((member m ∙ ap Some (sym counts), may), tt))
        (λ out come. (welcomed out come, cond_both now.is_first [] (Prepares now.ballot ∷ []) (AreHeeded at by after who promise (Some (by slot))) (λ _. tt) (λ _. (tt, tt))))
        (λ out stays. tt)
      where
        may : MayLeave at by after who slot
        may = elim ends [ inl m ↦ inl (ap (is_member (members_at at (slot + 1))) counts ∙ m) | inr last ↦ inr (inr (last.0, last.1)) ]

        welcomed : is_member (members_at at slot) who ≡ false → is_member (members_at at (slot + 1)) who ≡ true → is_member (members_at at (slot + 1)) (by slot) ≡ true
        welcomed out come = elim ends [ inl m ↦ ap (is_member (members_at at (slot + 1))) counts ∙ m | inr last ↦ absurd (both_no (last.2 come) out) ]

    one_hinted : (slot : ℕ) (promise : Ballot) (hint : Option ℕ) → (hint ≡ Some lead) ⊎ (is_member (members_at at (slot + 1)) who ≡ true) → (is_member (members_at at slot) who ≡ true → hint ≡ Some lead) → by slot ≡ lead
        → is_member (members_at at (slot + 1)) lead ≡ true → hinted at by promise hint (reported_of at now slot who) ≡ Some lead
    one_hinted slot promise hint some member counts stays =
        taught-cases at now who apart (λ l. hinted at by promise hint l ≡ Some lead) slot
        (λ m. cond-true (is_among (members_at at (slot + 1)) hint) hint (Some (least_of (members_at at (slot + 1)))) (ap (is_among (members_at at (slot + 1))) (member m) ∙ stays) ∙ member m)
        (λ out come. cond_both now.is_first [] (Prepares now.ballot ∷ []) (λ l. hinted at by promise (Some (by slot)) l ≡ Some lead) (λ _. ap Some counts)
        (λ _. cond_both (below promise now.ballot) (Some lead) (Some (by slot)) (λ o. o ≡ Some lead) (λ _. refl) (λ _. ap Some counts)))
        (λ out none. elim some [ inl e ↦ e | inr come ↦ absurd (both_no come none) ])

    pub taught-heeded : (more slot : ℕ) (promise : Ballot) (hint : Option ℕ) → (is_member (members_at at slot) who ≡ true → hint ≡ Some lead) → ((s : ℕ) → slot ≤ s → s < slot + more → by s ≡ lead)
        → ((s : ℕ) → slot ≤ s → suc s < slot + more → is_member (members_at at (s + 1)) lead ≡ true) → ((s : ℕ) → slot ≤ s → suc s ≡ slot + more → IsEnd s) → AreHeeded at by after who promise hint (taught_from at now slot more who)
    taught-heeded zero slot promise hint member counts stayed ends = tt
    taught-heeded (suc zero) slot promise hint member counts stayed ends =
        heeded-append after who promise hint (reported_of at now slot who) [] (one_heeded slot promise hint member (counts slot (omega arith) (omega arith)) (ends slot (omega arith) (omega arith))) tt
    taught-heeded (suc (suc more)) slot promise hint member counts stayed ends =
        let here = stayed slot (omega arith) (omega arith) in
        let first = reported_of at now slot who in
        heeded-append after who promise hint first (taught_from at now (slot + 1) (suc more) who)
        (one_heeded slot promise hint member (counts slot (omega arith) (omega arith)) (inl here))
        (taught-heeded (suc more) (slot + 1) (pledged promise first) (hinted at by promise hint first) (λ m. one_hinted slot promise hint (inr m) member (counts slot (omega arith) (omega arith)) here)
        (λ s least most. counts s (omega (arith, least)) (omega (arith, most))) (λ s least most. stayed s (omega (arith, least)) (omega (arith, most))) (λ s least fact. ends s (omega (arith, least)) (omega (arith, fact))))

    pub taught-hinted : (more slot : ℕ) (promise : Ballot) (hint : Option ℕ) → (hint ≡ Some lead) ⊎ ((j : ℕ) × (j < more) × (is_member (members_at at (slot + j + 1)) who ≡ true)) → (is_member (members_at at slot) who ≡ true → hint ≡ Some lead)
        → ((s : ℕ) → slot ≤ s → s < slot + more → by s ≡ lead) → ((s : ℕ) → slot ≤ s → s < slot + more → is_member (members_at at (s + 1)) lead ≡ true) → hinted at by promise hint (taught_from at now slot more who) ≡ Some lead
    taught-hinted zero slot promise hint (inl e) member counts stayed = e
    taught-hinted zero slot promise hint (inr (j, low, m)) member counts stayed = absurd (omega (arith, low))
    taught-hinted (suc more) slot promise hint some member counts stayed =
        hinted-append promise hint first (taught_from at now (slot + 1) more who)
        ∙ taught-hinted more (slot + 1) (pledged promise first) (hinted at by promise hint first) (later some) (λ m. here (inr m)) (λ s least most. counts s (omega (arith, least)) (omega (arith, most)))
        (λ s least most. stayed s (omega (arith, least)) (omega (arith, most)))
      where
        first : List Mark
        first = reported_of at now slot who

        here : (hint ≡ Some lead) ⊎ (is_member (members_at at (slot + 1)) who ≡ true) → hinted at by promise hint (reported_of at now slot who) ≡ Some lead
        here some = one_hinted slot promise hint some member (counts slot (omega arith) (omega arith)) (stayed slot (omega arith) (omega arith))

        later : (hint ≡ Some lead) ⊎ ((j : ℕ) × (j < suc more) × (is_member (members_at at (slot + j + 1)) who ≡ true))
            → (hinted at by promise hint (reported_of at now slot who) ≡ Some lead) ⊎ ((j : ℕ) × (j < more) × (is_member (members_at at (slot + 1 + j + 1)) who ≡ true))
        later (inl e) = inl (here (inl e))
        later (inr (zero, low, m)) = inl (here (inr (let same : slot + zero + 1 ≡ slot + 1 = omega arith in subst (λ s. is_member (members_at at s) who ≡ true) same m)))
        later (inr (suc j, low, m)) = inr (j, omega (arith, low), (let same : slot + suc j + 1 ≡ slot + 1 + j + 1 = omega arith in subst (λ s. is_member (members_at at s) who ≡ true) same m))
