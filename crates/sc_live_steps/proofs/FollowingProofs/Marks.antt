-- Marks one after another: how far they take a node, that they come in time, and that what is asked for comes before votes.
use Rattle.std.proofs.Common.{◌≡◌, ℕ, zero, suc, ◌+◌, ◌<◌, ◌≤◌, Bool, true, false, eqb, cond, List, [], ◌∷◌, ◌++◌, Option, Some, None, ◌⊎◌, inl, inr, refl, sym, ◌∙◌, ap, subst, arith}
use Rattle.std.proofs.lemmas.Bool.{cond_both, cond-true, cond-false, cases_lt, eq-eqb, ne_eqb}
use Rattle.sc_base.specs.Definitions.{Among, Each, is_member}
use Rattle.sc_node_table.specs.Values.{Ballot}
use Rattle.sc_node_table.specs.NodeDefinitions.{listed, slots_ahead}
use Rattle.sc_words.specs.paxos.PaxosDefinitions.{IsAtLeast}
use Rattle.sc_words.proofs.PaxosProofs.PaxosLemmas.{at_least_itself, Each-append, Each-weaker}
use Rattle.sc_live_steps.specs.following.FollowingDefinitions.{Mark, Asks, Votes, Teaches, Installs, Prepares, Promises, next_by, promise_by, reached, pledged, IsFit, AreFit, IsNoAsk, AreAskedFirst, Course, Sets, members_at, IsKnown, IsCount, IsOffer, welcome, reported_of, taught_from}
pub use Rattle.sc_paxos_law.proofs.Lemmas.{Among-left as among-left, Among-right as among-right, Among-either as among-either}

-- ---- what stands in lists

pub among-listed : (mark : Mark) (taken : Option Mark) → Among mark (listed taken) → taken ≡ Some mark
among-listed mark None a = absurd a
among-listed mark (Some other) (inl same) = ap Some same
among-listed mark (Some other) (inr a) = absurd a

-- ---- how far

pub reached-append : (next : ℕ) (xs ys : List Mark) → reached next (xs ++ ys) ≡ reached (reached next xs) ys
reached-append next [] ys = refl
reached-append next (mark ∷ xs) ys = reached-append (next_by next mark) xs ys

pub pledged-append : (promise : Ballot) (xs ys : List Mark) → pledged promise (xs ++ ys) ≡ pledged (pledged promise xs) ys
pledged-append promise [] ys = refl
pledged-append promise (mark ∷ xs) ys = pledged-append (promise_by promise mark) xs ys

pub fit-append : (next : ℕ) (promise : Ballot) (xs ys : List Mark) → AreFit next promise xs → AreFit (reached next xs) (pledged promise xs) ys → AreFit next promise (xs ++ ys)
fit-append next promise [] ys f g = g
fit-append next promise (mark ∷ xs) ys f g = (f.0, fit-append (next_by next mark) (promise_by promise mark) xs ys f.1 g)

-- a mail that comes in time takes a node no way back
pub rises : (next : ℕ) (promise : Ballot) (mark : Mark) → IsFit next promise mark → next ≤ next_by next mark
rises next promise (Teaches slot) f = (let at = f.1 in omega (arith, at))
rises next promise (Installs slot) f = omega (arith, f)
rises next promise _ f = omega arith

pub reached-least : (next : ℕ) (promise : Ballot) (marks : List Mark) → AreFit next promise marks → next ≤ reached next marks
reached-least next promise [] f = omega arith
reached-least next promise (mark ∷ marks) f = (let one = rises next promise mark f.0 in let more = reached-least (next_by next mark) (promise_by promise mark) marks f.1 in omega (arith, one, more))

-- the first of marks that take a node no further takes it no further
pub no_step : (next : ℕ) (promise : Ballot) (mark : Mark) (marks : List Mark) → AreFit next promise (mark ∷ marks) → reached next (mark ∷ marks) ≤ next → next_by next mark ≡ next
no_step next promise mark marks f le =
    (let one = rises next promise mark f.0 in let more = reached-least (next_by next mark) (promise_by promise mark) marks f.1 in omega (arith, one, more, le))

-- what is asked for is not executed
pub fit-asks : (next : ℕ) (promise : Ballot) (marks : List Mark) (ballot : Ballot) (slot : ℕ) → AreFit next promise marks → Among (Asks ballot slot) marks → next ≤ slot
fit-asks next promise [] ballot slot f a = absurd a
fit-asks next promise (mark ∷ marks) ballot slot f (inl same) = (subst (IsFit next promise) same f.0).1
fit-asks next promise (mark ∷ marks) ballot slot f (inr a) =
    (let one = rises next promise mark f.0 in let more = fit-asks (next_by next mark) (promise_by promise mark) marks ballot slot f.1 a in omega (arith, one, more))

-- no later ballot is promised than was asked for
pub promise-most : (course : Course) (promise : Ballot) (mark : Mark) → IsAtLeast course.ballot promise → IsKnown course mark → IsAtLeast course.ballot (promise_by promise mark)
promise-most course promise (Prepares ballot) most known = known
promise-most course promise _ most known = most

pub pledged-most : (course : Course) (promise : Ballot) (marks : List Mark) → IsAtLeast course.ballot promise → Each (IsKnown course) marks → IsAtLeast course.ballot (pledged promise marks)
pledged-most course promise [] most known = most
pledged-most course promise (mark ∷ marks) most known = pledged-most course (promise_by promise mark) marks (promise-most course promise mark most known.0) known.1

-- a node whose mail takes it no further may execute more by itself, where nothing that it executes is asked for
pub stands : (next : ℕ) (promise : Ballot) (marks : List Mark) → AreFit next promise marks → reached next marks ≤ next
    → (to : ℕ) → next ≤ to → ((ballot : Ballot) (slot : ℕ) → Among (Asks ballot slot) marks → to ≤ slot) → AreFit to promise marks × (reached to marks ≡ to)
stands next promise [] f le to up asks = (tt, refl)
stands next promise (Asks ballot slot ∷ marks) f le to up asks =
    let some = f.0.0 in
    let more = stands next promise marks f.1 le to up (λ b s a. asks b s (inr a)) in
    (((omega (arith, some, up), asks ballot slot (inl refl), f.0.2), more.0), more.1)
stands next promise (Votes node ballot slot ∷ marks) f le to up asks = (let more = stands next promise marks f.1 le to up (λ b s a. asks b s (inr a)) in ((tt, more.0), more.1))
stands next promise (Teaches slot ∷ marks) f le to up asks = (let at = f.0.1 in let more = reached-least (suc slot) promise marks f.1 in absurd (omega (arith, at, more, le)))
stands next promise (Installs slot ∷ marks) f le to up asks = (let at = f.0 in let more = reached-least (suc slot) promise marks f.1 in absurd (omega (arith, at, more, le)))
stands next promise (Prepares ballot ∷ marks) f le to up asks =
    let some = f.0.0 in
    let more = stands next ballot marks f.1 le to up (λ b s a. asks b s (inr a)) in
    (((omega (arith, some, up), f.0.1), more.0), more.1)
stands next promise (Promises node ballot ∷ marks) f le to up asks = (let more = stands next promise marks f.1 le to up (λ b s a. asks b s (inr a)) in ((tt, more.0), more.1))

-- ---- votes and promises take nobody anywhere

pub count-reached : (next : ℕ) (marks : List Mark) → Each IsCount marks → reached next marks ≡ next
count-reached next [] e = refl
count-reached next (Votes node ballot slot ∷ marks) e = count-reached next marks e.1
count-reached next (Promises node ballot ∷ marks) e = count-reached next marks e.1
count-reached next (Asks ballot slot ∷ marks) e = absurd e.0
count-reached next (Teaches slot ∷ marks) e = absurd e.0
count-reached next (Installs slot ∷ marks) e = absurd e.0
count-reached next (Prepares ballot ∷ marks) e = absurd e.0

pub count-pledged : (promise : Ballot) (marks : List Mark) → Each IsCount marks → pledged promise marks ≡ promise
count-pledged promise [] e = refl
count-pledged promise (Votes node ballot slot ∷ marks) e = count-pledged promise marks e.1
count-pledged promise (Promises node ballot ∷ marks) e = count-pledged promise marks e.1
count-pledged promise (Asks ballot slot ∷ marks) e = absurd e.0
count-pledged promise (Teaches slot ∷ marks) e = absurd e.0
count-pledged promise (Installs slot ∷ marks) e = absurd e.0
count-pledged promise (Prepares ballot ∷ marks) e = absurd e.0

pub count-fit : (next : ℕ) (promise : Ballot) (marks : List Mark) → Each IsCount marks → AreFit next promise marks
count-fit next promise [] e = tt
count-fit next promise (Votes node ballot slot ∷ marks) e = (tt, count-fit next promise marks e.1)
count-fit next promise (Promises node ballot ∷ marks) e = (tt, count-fit next promise marks e.1)
count-fit next promise (Asks ballot slot ∷ marks) e = absurd e.0
count-fit next promise (Teaches slot ∷ marks) e = absurd e.0
count-fit next promise (Installs slot ∷ marks) e = absurd e.0
count-fit next promise (Prepares ballot ∷ marks) e = absurd e.0

-- they ask for nothing
pub count-asks : (marks : List Mark) → Each IsCount marks → (ballot : Ballot) (slot : ℕ) → Among (Asks ballot slot) marks → ⊥
count-asks [] e ballot slot a = a
count-asks (mark ∷ marks) e ballot slot (inl same) = subst IsCount same e.0
count-asks (mark ∷ marks) e ballot slot (inr a) = count-asks marks e.1 ballot slot a

-- ---- what is asked for comes before votes

-- what is asked for has a slot from this one on
abbrev pub IsLater : ℕ → Mark → Type 0
IsLater bound (Asks ballot slot) = bound ≤ slot
IsLater bound (Votes node ballot slot) = Unit {0}
IsLater bound (Teaches slot) = Unit {0}
IsLater bound (Installs slot) = Unit {0}
IsLater bound (Prepares ballot) = Unit {0}
IsLater bound (Promises node ballot) = Unit {0}

-- no vote
abbrev pub IsNoVote : Mark → Type 0
IsNoVote (Votes node ballot slot) = ⊥
IsNoVote (Asks ballot slot) = Unit {0}
IsNoVote (Teaches slot) = Unit {0}
IsNoVote (Installs slot) = Unit {0}
IsNoVote (Prepares ballot) = Unit {0}
IsNoVote (Promises node ballot) = Unit {0}

later_apart : (slot bound : ℕ) → slot < bound → (mark : Mark) → IsLater bound mark → IsNoAsk slot mark
later_apart slot bound lt (Asks ballot other) later = λ same. omega (arith, lt, later, same)
later_apart slot bound lt _ later = tt

pub asked-append : (course : Course) (xs ys : List Mark) → AreAskedFirst xs → Each (IsKnown course) xs → Each (IsLater course.bound) ys → AreAskedFirst ys → AreAskedFirst (xs ++ ys)
asked-append course [] ys o known later more = more
asked-append course (Votes node ballot slot ∷ xs) ys o known later more =
    (Each-append (IsNoAsk slot) xs ys o.0 (Each-weaker (IsLater course.bound) (IsNoAsk slot) (later_apart slot course.bound known.0) ys later), asked-append course xs ys o.1 known.1 later more)
asked-append course (Asks ballot slot ∷ xs) ys o known later more = asked-append course xs ys o known.1 later more
asked-append course (Teaches slot ∷ xs) ys o known later more = asked-append course xs ys o known.1 later more
asked-append course (Installs slot ∷ xs) ys o known later more = asked-append course xs ys o known.1 later more
asked-append course (Prepares ballot ∷ xs) ys o known later more = asked-append course xs ys o known.1 later more
asked-append course (Promises node ballot ∷ xs) ys o known later more = asked-append course xs ys o known.1 later more

-- where there is no vote
pub asked-none : (marks : List Mark) → Each IsNoVote marks → AreAskedFirst marks
asked-none [] e = tt
asked-none (Votes node ballot slot ∷ marks) e = absurd e.0
asked-none (Asks ballot slot ∷ marks) e = asked-none marks e.1
asked-none (Teaches slot ∷ marks) e = asked-none marks e.1
asked-none (Installs slot ∷ marks) e = asked-none marks e.1
asked-none (Prepares ballot ∷ marks) e = asked-none marks e.1
asked-none (Promises node ballot ∷ marks) e = asked-none marks e.1

-- where nothing is asked for
pub asked-counts : (marks : List Mark) → Each IsCount marks → AreAskedFirst marks
asked-counts [] e = tt
asked-counts (Votes node ballot slot ∷ marks) e = (Each-weaker IsCount (IsNoAsk slot) (no_ask slot) marks e.1, asked-counts marks e.1)
  where
    no_ask : (slot : ℕ) (mark : Mark) → IsCount mark → IsNoAsk slot mark
    no_ask slot (Asks ballot other) c = absurd c
    no_ask slot _ c = tt
asked-counts (Promises node ballot ∷ marks) e = asked-counts marks e.1
asked-counts (Asks ballot slot ∷ marks) e = absurd e.0
asked-counts (Teaches slot ∷ marks) e = absurd e.0
asked-counts (Installs slot ∷ marks) e = absurd e.0
asked-counts (Prepares ballot ∷ marks) e = absurd e.0

-- what comes behind the first
asked-tail : (mark : Mark) (marks : List Mark) → AreAskedFirst (mark ∷ marks) → AreAskedFirst marks
asked-tail (Votes node ballot slot) marks o = o.1
asked-tail _ marks o = o

pub asked-left : (taken : Option Mark) (left : List Mark) → AreAskedFirst (listed taken ++ left) → AreAskedFirst left
asked-left None left o = o
asked-left (Some mark) left o = asked-tail mark left o

-- behind a vote at a slot nothing is asked for there
no_ask_among : (slot : ℕ) (marks : List Mark) → Each (IsNoAsk slot) marks → (ballot : Ballot) → Among (Asks ballot slot) marks → ⊥
no_ask_among slot [] e ballot a = a
no_ask_among slot (mark ∷ marks) e ballot (inl same) = subst (IsNoAsk slot) same e.0 refl
no_ask_among slot (mark ∷ marks) e ballot (inr a) = no_ask_among slot marks e.1 ballot a

pub asked-votes : (node : ℕ) (ballot : Ballot) (slot : ℕ) (left : List Mark) → AreAskedFirst (Votes node ballot slot ∷ left) → (other : Ballot) (at : ℕ) → Among (Asks other at) left → at ≡ slot → ⊥
asked-votes node ballot slot left o other at a same = no_ask_among slot left o.0 other (subst (λ s. Among (Asks other s) left) same a)

-- ---- what is offered

-- offers come in time to a node that has a replica, has executed no more than is, and has promised the ballot
pub offers-fit : (at : Sets) (course : Course) (from who next : ℕ) (promise : Ballot) (marks : List Mark) → Each (IsOffer at course from who) marks → next ≤ from
    → ((slot : ℕ) → from ≤ slot → slot < course.bound → is_member (at slot) who ≡ true → (1 ≤ next) × (promise ≡ course.ballot)) → AreFit next promise marks
offers-fit at course from who next promise [] e le ready = tt
offers-fit at course from who next promise (Asks ballot slot ∷ marks) e le ready =
    let fact = ready slot e.0.1 e.0.2 e.0.3 in
    let up = e.0.1 in
    ((fact.0, omega (arith, le, up), e.0.0 ∙ sym fact.1), offers-fit at course from who next promise marks e.1 le ready)
offers-fit at course from who next promise (Votes node ballot slot ∷ marks) e le ready = absurd e.0
offers-fit at course from who next promise (Teaches slot ∷ marks) e le ready = absurd e.0
offers-fit at course from who next promise (Installs slot ∷ marks) e le ready = absurd e.0
offers-fit at course from who next promise (Prepares ballot ∷ marks) e le ready = absurd e.0
offers-fit at course from who next promise (Promises node ballot ∷ marks) e le ready = absurd e.0

-- they take nobody anywhere
pub offers-reached : (at : Sets) (course : Course) (from who next : ℕ) (marks : List Mark) → Each (IsOffer at course from who) marks → reached next marks ≡ next
offers-reached at course from who next [] e = refl
offers-reached at course from who next (Asks ballot slot ∷ marks) e = offers-reached at course from who next marks e.1
offers-reached at course from who next (Votes node ballot slot ∷ marks) e = absurd e.0
offers-reached at course from who next (Teaches slot ∷ marks) e = absurd e.0
offers-reached at course from who next (Installs slot ∷ marks) e = absurd e.0
offers-reached at course from who next (Prepares ballot ∷ marks) e = absurd e.0
offers-reached at course from who next (Promises node ballot ∷ marks) e = absurd e.0

pub offers-pledged : (at : Sets) (course : Course) (from who : ℕ) (promise : Ballot) (marks : List Mark) → Each (IsOffer at course from who) marks → pledged promise marks ≡ promise
offers-pledged at course from who promise [] e = refl
offers-pledged at course from who promise (Asks ballot slot ∷ marks) e = offers-pledged at course from who promise marks e.1
offers-pledged at course from who promise (Votes node ballot slot ∷ marks) e = absurd e.0
offers-pledged at course from who promise (Teaches slot ∷ marks) e = absurd e.0
offers-pledged at course from who promise (Installs slot ∷ marks) e = absurd e.0
offers-pledged at course from who promise (Prepares ballot ∷ marks) e = absurd e.0
offers-pledged at course from who promise (Promises node ballot ∷ marks) e = absurd e.0

-- what holds of each offer
pub offers-each : (P : Mark → Type 0) (at : Sets) (course : Course) (from who : ℕ) → ((ballot : Ballot) (slot : ℕ) → from ≤ slot → slot < course.bound → P (Asks ballot slot))
    → (marks : List Mark) → Each (IsOffer at course from who) marks → Each P marks
offers-each P at course from who f [] e = tt
offers-each P at course from who f (Asks ballot slot ∷ marks) e = (f ballot slot e.0.1 e.0.2, offers-each P at course from who f marks e.1)
offers-each P at course from who f (Votes node ballot slot ∷ marks) e = absurd e.0
offers-each P at course from who f (Teaches slot ∷ marks) e = absurd e.0
offers-each P at course from who f (Installs slot ∷ marks) e = absurd e.0
offers-each P at course from who f (Prepares ballot ∷ marks) e = absurd e.0
offers-each P at course from who f (Promises node ballot ∷ marks) e = absurd e.0

-- ---- what is sent where entries are executed

module _ (at : Sets) (course : Course) (who : ℕ) where
  -- it is an entry to be learnt, a state, or a request to promise the ballot
  pub taught-each : (P : Mark → Type 0) → ((slot : ℕ) → P (Teaches slot)) → ((slot : ℕ) → P (Installs slot)) → P (Prepares course.ballot) → (more slot : ℕ) → Each P (taught_from at course slot more who)
  taught-each P tells installs prepares zero slot = tt
  taught-each P tells installs prepares (suc more) slot = Each-append P (reported_of at course slot who) (taught_from at course (slot + 1) more who) one (taught-each P tells installs prepares more (slot + 1))
    where
      welcomed_each : Each P (welcome course slot)
      welcomed_each = (installs slot, cond_both course.is_first [] (Prepares course.ballot ∷ []) (Each P) (λ _. tt) (λ _. (prepares, tt)))

      one : Each P (reported_of at course slot who)
      one =
          cond_both (eqb who course.ballot.node) [] (cond (is_member (members_at at slot) who) (Teaches slot ∷ []) (cond (is_member (members_at at (slot + 1)) who) (welcome course slot) [])) (Each P) (λ _. tt)
          (λ _. cond_both (is_member (members_at at slot) who) (Teaches slot ∷ []) (cond (is_member (members_at at (slot + 1)) who) (welcome course slot) []) (Each P) (λ _. (tells slot, tt))
          (λ _. cond_both (is_member (members_at at (slot + 1)) who) (welcome course slot) [] (Each P) (λ _. welcomed_each) (λ _. tt)))

  -- the one that leads is sent nothing
  pub taught-own : who ≡ course.ballot.node → (more slot : ℕ) → taught_from at course slot more who ≡ []
  taught-own fact zero slot = refl
  taught-own fact (suc more) slot =
      ap (λ l. l ++ taught_from at course (slot + 1) more who)
      (cond-true (eqb who course.ballot.node) [] (cond (is_member (members_at at slot) who) (Teaches slot ∷ []) (cond (is_member (members_at at (slot + 1)) who) (welcome course slot) [])) (eq-eqb who course.ballot.node fact))
      ∙ taught-own fact more (slot + 1)

  -- where a node is that is sent all entries from a slot on, once this one is next: no further than that, a member there, and one that decides an open slot has a replica and promised the ballot
  pub record IsTaughtUpTo (from slot next : ℕ) (promise : Ballot) : Type 0 where
    pub low : next ≤ slot
    pub member : is_member (members_at at slot) who ≡ true → next ≡ slot
    pub most : IsAtLeast course.ballot promise
    pub first : course.is_first ≡ true → promise ≡ course.ballot
    pub opens : (other : ℕ) → from ≤ other → other < slot + slots_ahead → is_member (at other) who ≡ true → (1 ≤ next) × (promise ≡ course.ballot)

  -- what is sent comes in time, and takes it there
  abbrev IsTaughtBy : ℕ → ℕ → ℕ → Ballot → List Mark → Type 0
  IsTaughtBy from slot next promise marks = AreFit next promise marks × IsTaughtUpTo from slot (reached next marks) (pledged promise marks)

  module _ (apart : who ≡ course.ballot.node → ⊥) where
    -- a member is sent the entry, one that joins is welcomed, and others are sent nothing
    pub taught-cases : (P : List Mark → Type 0) (slot : ℕ) → (is_member (members_at at slot) who ≡ true → P (Teaches slot ∷ []))
        → (is_member (members_at at slot) who ≡ false → is_member (members_at at (slot + 1)) who ≡ true → P (welcome course slot))
        → (is_member (members_at at slot) who ≡ false → is_member (members_at at (slot + 1)) who ≡ false → P []) → P (reported_of at course slot who)
    taught-cases P slot one two three =
        subst P
        (sym (cond-false (eqb who course.ballot.node) [] (cond (is_member (members_at at slot) who) (Teaches slot ∷ []) (cond (is_member (members_at at (slot + 1)) who) (welcome course slot) [])) (ne_eqb who course.ballot.node apart)))
        (cond_both (is_member (members_at at slot) who) (Teaches slot ∷ []) (cond (is_member (members_at at (slot + 1)) who) (welcome course slot) []) P one
        (λ f. cond_both (is_member (members_at at (slot + 1)) who) (welcome course slot) [] P (two f) (three f)))

    -- one that comes is asked to promise, where the ballot is not the first
    pub taught-prepares : course.is_first ≡ false → (more slot j : ℕ) → j ≤ more → is_member (members_at at (slot + j)) who ≡ true
        → (is_member (members_at at slot) who ≡ true) ⊎ Among (Prepares course.ballot) (taught_from at course slot more who)
    taught-prepares later more slot zero le fact = (let e : slot + zero ≡ slot = omega arith in inl (subst (λ s. is_member (members_at at s) who ≡ true) e fact))
    taught-prepares later zero slot (suc j) le fact = absurd (omega (arith, le))
    taught-prepares later (suc more) slot (suc j) le fact =
        let e : slot + suc j ≡ slot + 1 + j = omega arith in
        let next = taught-prepares later more (slot + 1) j (omega (arith, le)) (subst (λ s. is_member (members_at at s) who ≡ true) e fact) in
        taught-cases (λ l. (is_member (members_at at slot) who ≡ true) ⊎ Among (Prepares course.ballot) (l ++ taught_from at course (slot + 1) more who)) slot
        (λ t. inl t)
        (λ _ _. inr (among-left (Prepares course.ballot) (welcome course slot) (taught_from at course (slot + 1) more who) (inr (subst (Among (Prepares course.ballot)) (sym (cond-false course.is_first [] (Prepares course.ballot ∷ []) later)) (inl refl)))))
        (λ _ f. elim next [ inl t ↦ absurd (no_both t f) | inr a ↦ inr a ])
      where
        no_both : {b : Bool} → b ≡ true → b ≡ false → ⊥
        no_both t f = cc

    taught-one : (from slot next : ℕ) (promise : Ballot) → from ≤ slot → 1 ≤ slot → IsTaughtUpTo from slot next promise → IsTaughtBy from (slot + 1) next promise (reported_of at course slot who)
    taught-one from slot next promise up some t = taught-cases (IsTaughtBy from (slot + 1) next promise) slot member comes none
      where
        low : next ≤ slot
        low = t.low

        -- the last slot that opens is decided by the members after the entry
        opened : (other : ℕ) → other < slot + 1 + slots_ahead → (other < slot + slots_ahead) ⊎ (other ≡ slot + 1 + 3)
        opened other lt = elim (cases_lt other (slot + slots_ahead)) [ inl l ↦ inl l | inr g ↦ inr (omega (arith, lt, g)) ]

        member : is_member (members_at at slot) who ≡ true → IsTaughtBy from (slot + 1) next promise (Teaches slot ∷ [])
        member fact =
            let old = t.opens (slot + 3) (omega (arith, up)) (omega arith) fact in (
              ((old.0, sym (t.member fact)), tt),
              record {
                low = omega arith;
                member = λ _. omega arith;
                most = t.most;
                first = t.first;
                opens = λ other f lt d. (omega arith, old.1);
              },
            )

        comes : is_member (members_at at slot) who ≡ false → is_member (members_at at (slot + 1)) who ≡ true → IsTaughtBy from (slot + 1) next promise (welcome course slot)
        comes out come =
            cond_both course.is_first [] (Prepares course.ballot ∷ []) (λ l. IsTaughtBy from (slot + 1) next promise (Installs slot ∷ l))
            (λ first. (
              (low, tt),
              record {
                low = omega arith;
                member = λ _. omega arith;
                most = t.most;
                first = t.first;
                opens = λ other f lt d. (omega arith, t.first first);
              },
            ))
            (λ later. (
              (low, ((omega arith, t.most), tt)),
              record {
                low = omega arith;
                member = λ _. omega arith;
                most = at_least_itself course.ballot;
                first = λ _. refl;
                opens = λ other f lt d. (omega arith, refl);
              },
            ))

        none : is_member (members_at at slot) who ≡ false → is_member (members_at at (slot + 1)) who ≡ false → IsTaughtBy from (slot + 1) next promise []
        none out stays = (
          tt,
          record {
            low = omega (arith, low);
            member = λ fact. (let bad : true ≡ false = sym fact ∙ stays in cc);
            most = t.most;
            first = t.first;
            opens = λ other f lt d. elim (opened other lt) [ inl l ↦ t.opens other f l d | inr e ↦ (let bad : true ≡ false = sym d ∙ (ap (λ s. is_member (at s) who) e ∙ stays) in cc) ];
          },
        )

    pub taught-all : (from more slot next : ℕ) (promise : Ballot) → from ≤ slot → 1 ≤ slot → IsTaughtUpTo from slot next promise → IsTaughtBy from (slot + more) next promise (taught_from at course slot more who)
    taught-all from zero slot next promise up some t = (let e : slot ≡ slot + zero = omega arith in (tt, subst (λ s. IsTaughtUpTo from s next promise) e t))
    taught-all from (suc more) slot next promise up some t =
        let one = taught-one from slot next promise up some t in
        let first = reported_of at course slot who in
        let then = taught_from at course (slot + 1) more who in
        let e : slot + 1 + more ≡ slot + suc more = omega arith in
        let rest = taught-all from more (slot + 1) (reached next first) (pledged promise first) (omega (arith, up)) (omega (arith, some)) one.1 in (
          fit-append next promise first then one.0 rest.0,
          subst (λ s. IsTaughtUpTo from s (reached next (first ++ then)) (pledged promise (first ++ then))) e
              (subst (λ n. IsTaughtUpTo from (slot + 1 + more) n (pledged promise (first ++ then))) (sym (reached-append next first then))
              (subst (λ p. IsTaughtUpTo from (slot + 1 + more) (reached (reached next first) then) p) (sym (pledged-append promise first then)) rest.1)),
        )

-- what is known stays so where more is offered in a later ballot
pub known_later : (old new : Course) → ((slot : ℕ) → slot < old.bound → slot < new.bound) → ((b : Ballot) → IsAtLeast old.ballot b → IsAtLeast new.ballot b) → (mark : Mark) → IsKnown old mark → IsKnown new mark
known_later old new up later (Asks ballot slot) k = up slot k
known_later old new up later (Votes node ballot slot) k = up slot k
known_later old new up later (Teaches slot) k = tt
known_later old new up later (Installs slot) k = tt
known_later old new up later (Prepares ballot) k = later ballot k
known_later old new up later (Promises node ballot) k = tt
