-- Lists of marks that leave whom a node takes for the leader, and which slots a node decides.
use Rattle.std.proofs.Common.{◌≡◌, ℕ, zero, suc, ◌+◌, ◌<◌, ◌≤◌, eqb, true, false, true≢false, List, [], ◌∷◌, ◌++◌, Option, ◌⊎◌, inl, inr, refl, sym, ◌∙◌, ap, subst, arith}
use Rattle.std.proofs.lemmas.Bool.{cases_Bool, cases_eq, cases_lt, cond-true, cond-false, cond_both, eqb-true}
use Rattle.sc_base.specs.Definitions.{Each, is_member}
use Rattle.sc_node_table.specs.Values.{Ballot}
use Rattle.sc_node_table.specs.NodeDefinitions.{slots_ahead}
use Rattle.sc_words.specs.paxos.PaxosDefinitions.{IsAtLeast}
use Rattle.sc_words.proofs.PaxosProofs.PaxosLemmas.{at_least_itself, at_least_trans}
use Rattle.sc_live_steps.specs.following.FollowingDefinitions.{Mark, Asks, Votes, Teaches, Installs, Prepares, Promises, next_by, promise_by, reached, pledged, IsFit, AreFit, Course, Sets, members_at, IsOpen, SlotLeaders, hinted, IsCount, IsOffer, reported_of, taught_from}
use Rattle.sc_live_steps.proofs.FollowingProofs.FollowingLemmas.{count-hinted, reached-append, count-reached, count-pledged}
pub use Rattle.sc_law_walks.proofs.WalkLemmas.{at_least_round as round_most}
pub use Rattle.sc_live_steps.proofs.FollowingProofs.LearningMembers.{fit_behind}

-- ---- marks that change nothing

pub record Silent (at : Sets) (by : SlotLeaders) (marks : List Mark) : Type 0 where
  pub hint : (promise : Ballot) (hint : Option ℕ) → hinted at by promise hint marks ≡ hint
  pub promise : (promise : Ballot) → pledged promise marks ≡ promise
  pub reach : (next : ℕ) → reached next marks ≡ next

pub none_silent : (at : Sets) (by : SlotLeaders) (marks : List Mark) → marks ≡ [] → Silent at by marks
none_silent at by [] e = record { hint = λ promise hint. refl; promise = λ promise. refl; reach = λ next. refl }
none_silent at by (m ∷ marks) e = cc

pub counts_silent : (at : Sets) (by : SlotLeaders) (marks : List Mark) → Each IsCount marks → Silent at by marks
counts_silent at by marks e = record { hint = λ promise hint. count-hinted at by promise hint marks e; promise = λ promise. count-pledged promise marks e; reach = λ next. count-reached next marks e }

-- ---- promises rise along marks that come in time

one_rises : (next : ℕ) (promise : Ballot) (mark : Mark) → IsFit next promise mark → IsAtLeast (promise_by promise mark) promise
one_rises next promise (Prepares ballot) f = f.1
one_rises next promise _ f = at_least_itself promise

pub pledged_rises : (next : ℕ) (promise : Ballot) (marks : List Mark) → AreFit next promise marks → IsAtLeast (pledged promise marks) promise
pledged_rises next promise [] f = at_least_itself promise
pledged_rises next promise (mark ∷ marks) f = at_least_trans (pledged (promise_by promise mark) marks) (promise_by promise mark) promise (pledged_rises (next_by next mark) (promise_by promise mark) marks f.1) (one_rises next promise mark f.0)

-- ---- which slots a node decides

module _ (at : Sets) (who : ℕ) where
  abbrev SomeIn : ℕ → ℕ → Type 0
  SomeIn from more = (slot : ℕ) × (from ≤ slot) × (slot < from + more) × (is_member (at slot) who ≡ true)

  abbrev NoneIn : ℕ → ℕ → Type 0
  NoneIn from more = (slot : ℕ) → from ≤ slot → slot < from + more → is_member (at slot) who ≡ false

  some_or_none : (from more : ℕ) → SomeIn from more ⊎ NoneIn from more
  some_or_none from zero = inr (λ slot least most. absurd (omega (arith, least, most)))
  some_or_none from (suc more) = elim (cases_Bool (is_member (at (from + more)) who)) [
    | inl t ↦ inl (from + more, omega arith, omega arith, t)
    | inr f ↦ elim (some_or_none from more) [
      | inl some ↦ (let a = some.1 in let b = some.2 in inl (some.0, omega (arith, a), omega (arith, b), some.3))
      | inr none ↦ inr (λ slot least most. elim (cases_eq slot (from + more)) [
        | inl fact ↦ subst (λ s. is_member (at s) who ≡ false) (sym fact) f
        | inr ne ↦ none slot least (before slot most ne)
      ])
    ]
  ]
    where
      before : (slot : ℕ) → slot < from + suc more → (slot ≡ from + more → ⊥) → slot < from + more
      before slot most ne = elim (cases_lt slot (from + more)) [ inl lt ↦ lt | inr ge ↦ absurd (ne (omega (arith, most, ge))) ]

  pub open_or : (next : ℕ) → IsOpen at next who ⊎ ((IsOpen at next who) → ⊥)
  open_or next = elim (some_or_none next slots_ahead) [
    | inl some ↦ inl (record { slot = some.0; from = some.1; to = some.2; decides = some.3 })
    | inr none ↦ inr (λ o. true≢false (sym o.decides ∙ none o.slot o.from o.to))
  ]

  -- a member of a state before the newest one, or of that, decides an open slot
  pub member_open : (next slot : ℕ) → next ≤ slot + 1 → slot ≤ next → is_member (members_at at slot) who ≡ true → IsOpen at next who
  member_open next slot least most m = record { slot = slot + 3; from = omega (arith, least); to = omega (arith, most); decides = m }

-- ---- what Learns bring

module _ (at : Sets) (course : Course) (who : ℕ) where
  -- nothing to who is no member of these states
  pub taught_nothing : (more slot : ℕ) → ((s : ℕ) → slot ≤ s → s < slot + more → (is_member (members_at at s) who ≡ false) × (is_member (members_at at (s + 1)) who ≡ false)) → taught_from at course slot more who ≡ []
  taught_nothing zero slot out = refl
  taught_nothing (suc more) slot out = ap (λ l. l ++ taught_from at course (slot + 1) more who) one ∙ taught_nothing more (slot + 1) (λ s least most. out s (omega (arith, least)) (omega (arith, most)))
    where
      one : reported_of at course slot who ≡ []
      one = (let o = out slot (omega arith) (omega arith) in cond_both (eqb who course.ballot.node) _ _ (λ l. l ≡ []) (λ _. refl) (λ _. cond-false (is_member (members_at at slot) who) _ _ o.0 ∙ cond-false (is_member (members_at at (slot + 1)) who) _ _ o.1))

  -- each entry to who is a member before each
  taught_one : (who ≡ course.ballot.node → ⊥) → (slot : ℕ) → is_member (members_at at slot) who ≡ true → reported_of at course slot who ≡ Teaches slot ∷ []
  taught_one apart slot m = cond-false (eqb who course.ballot.node) _ _ away ∙ cond-true (is_member (members_at at slot) who) _ _ m
    where
      away : eqb who course.ballot.node ≡ false
      away = elim (cases_Bool (eqb who course.ballot.node)) [ inl t ↦ absurd (apart (eqb-true who course.ballot.node t)) | inr f ↦ f ]

  pub told_all : (who ≡ course.ballot.node → ⊥) → (more slot next : ℕ) → ((s : ℕ) → slot ≤ s → s < slot + suc more → is_member (members_at at s) who ≡ true) → reached next (taught_from at course slot (suc more) who) ≡ slot + suc more
  told_all apart zero slot next members =
      reached-append next (reported_of at course slot who) [] ∙ (ap (λ l. reached (reached next l) []) (taught_one apart slot (members slot (omega arith) (omega arith))) ∙ omega arith)
  told_all apart (suc more) slot next members =
      reached-append next (reported_of at course slot who) (taught_from at course (slot + 1) (suc more) who)
      ∙ (ap (λ l. reached (reached next l) (taught_from at course (slot + 1) (suc more) who)) (taught_one apart slot (members slot (omega arith) (omega arith)))
      ∙ (told_all apart more (slot + 1) (suc slot) (λ s least most. members s (omega (arith, least)) (omega (arith, most))) ∙ omega arith))

  -- nothing is offered to who decides none of these slots
  pub offered_nothing : (after : Course) (from : ℕ) (marks : List Mark) → ((s : ℕ) → from ≤ s → s < after.bound → is_member (at s) who ≡ true → ⊥) → Each (IsOffer at after from who) marks → marks ≡ []
  offered_nothing after from [] out e = refl
  offered_nothing after from (Asks ballot slot ∷ marks) out e = absurd (out slot e.0.1 e.0.2 e.0.3)
  offered_nothing after from (Votes node ballot slot ∷ marks) out e = absurd e.0
  offered_nothing after from (Teaches slot ∷ marks) out e = absurd e.0
  offered_nothing after from (Installs slot ∷ marks) out e = absurd e.0
  offered_nothing after from (Prepares ballot ∷ marks) out e = absurd e.0
  offered_nothing after from (Promises node ballot ∷ marks) out e = absurd e.0
