-- Marks under way to one that leads or is to lead: what asks to promise, what promises, and the last entry to be learnt.
use Rattle.std.proofs.Common.{◌≡◌, ℕ, zero, suc, ◌+◌, ◌<◌, ◌≤◌, eqb, cond, List, [], ◌∷◌, ◌++◌, Option, Some, None, sym, subst, arith}
use Rattle.std.proofs.lemmas.Bool.{cond_both}
use Rattle.sc_base.specs.Definitions.{Each, is_member}
use Rattle.sc_node_table.specs.Values.{Ballot}
use Rattle.sc_node_table.specs.NodeDefinitions.{listed}
use Rattle.sc_words.proofs.PaxosProofs.PaxosLemmas.{Each-append, Each-weaker}
use Rattle.sc_live_steps.specs.following.FollowingDefinitions.{IsNoPrepare, Mark, Asks, Votes, Teaches, Installs, Prepares, Promises, reached, AreFit, Course, Sets, members_at, IsOtherPrepare, IsOwnPrepare, ArePromisedLast, AreLearntLast, IsCount, IsOffer, welcome, reported_of, taught_from}
use Rattle.sc_live_steps.proofs.FollowingProofs.Marks.{reached-least, offers-each}
pub use Rattle.sc_live_steps.proofs.FollowingProofs.AskedSlots.{count_none}
use Rattle.sc_live_steps.proofs.FollowingProofs.LeastMembers.{append_one as append_marks}

-- ---- lists

pub none_other : (ballot : Ballot) (mark : Mark) → IsNoPrepare mark → IsOtherPrepare ballot mark
none_other ballot (Prepares other) n = absurd n
none_other ballot _ n = tt

pub none_own : (ballot : Ballot) (mark : Mark) → IsNoPrepare mark → IsOwnPrepare ballot mark
none_own ballot (Prepares other) n = absurd n
none_own ballot _ n = tt

pub neither : (ballot : Ballot) (mark : Mark) → IsOwnPrepare ballot mark → IsOtherPrepare ballot mark → IsNoPrepare mark
neither ballot (Prepares other) o n = n o
neither ballot _ o n = tt

pub all_neither : (ballot : Ballot) (marks : List Mark) → Each (IsOwnPrepare ballot) marks → Each (IsOtherPrepare ballot) marks → Each IsNoPrepare marks
all_neither ballot [] o n = tt
all_neither ballot (mark ∷ marks) o n = (neither ballot mark o.0 n.0, all_neither ballot marks o.1 n.1)

pub each_all : (P : Mark → Type 0) → ((mark : Mark) → P mark) → (marks : List Mark) → Each P marks
each_all P f [] = tt
each_all P f (mark ∷ marks) = (f mark, each_all P f marks)

-- nothing behind a promise asks to promise its ballot
abbrev pub Behind : List Mark → Mark → Type 0
Behind ys (Promises node ballot) = Each (IsOtherPrepare ballot) ys
Behind ys (Asks ballot slot) = Unit {0}
Behind ys (Votes node ballot slot) = Unit {0}
Behind ys (Teaches slot) = Unit {0}
Behind ys (Installs slot) = Unit {0}
Behind ys (Prepares ballot) = Unit {0}

pub behind_none : (ys : List Mark) → Each IsNoPrepare ys → (mark : Mark) → Behind ys mark
behind_none ys e (Promises node ballot) = Each-weaker IsNoPrepare (IsOtherPrepare ballot) (none_other ballot) ys e
behind_none ys e _ = tt

pub promised_append : (xs ys : List Mark) → ArePromisedLast xs → Each (Behind ys) xs → ArePromisedLast ys → ArePromisedLast (xs ++ ys)
promised_append [] ys f a g = g
promised_append (Promises node ballot ∷ xs) ys f a g = (Each-append (IsOtherPrepare ballot) xs ys f.0 a.0, promised_append xs ys f.1 a.1 g)
promised_append (Asks ballot slot ∷ xs) ys f a g = promised_append xs ys f a.1 g
promised_append (Votes node ballot slot ∷ xs) ys f a g = promised_append xs ys f a.1 g
promised_append (Teaches slot ∷ xs) ys f a g = promised_append xs ys f a.1 g
promised_append (Installs slot ∷ xs) ys f a g = promised_append xs ys f a.1 g
promised_append (Prepares ballot ∷ xs) ys f a g = promised_append xs ys f a.1 g

-- where nothing asks to promise, or nothing is a promise
pub promised_none : (marks : List Mark) → Each IsNoPrepare marks → ArePromisedLast marks
promised_none [] e = tt
promised_none (Promises node ballot ∷ marks) e = (Each-weaker IsNoPrepare (IsOtherPrepare ballot) (none_other ballot) marks e.1, promised_none marks e.1)
promised_none (Asks ballot slot ∷ marks) e = promised_none marks e.1
promised_none (Votes node ballot slot ∷ marks) e = promised_none marks e.1
promised_none (Teaches slot ∷ marks) e = promised_none marks e.1
promised_none (Installs slot ∷ marks) e = promised_none marks e.1
promised_none (Prepares ballot ∷ marks) e = absurd e.0

abbrev pub IsNoPromise : Mark → Type 0
IsNoPromise (Promises node ballot) = ⊥
IsNoPromise (Asks ballot slot) = Unit {0}
IsNoPromise (Votes node ballot slot) = Unit {0}
IsNoPromise (Teaches slot) = Unit {0}
IsNoPromise (Installs slot) = Unit {0}
IsNoPromise (Prepares ballot) = Unit {0}

pub no_promised : (marks : List Mark) → Each IsNoPromise marks → ArePromisedLast marks
no_promised [] e = tt
no_promised (Promises node ballot ∷ marks) e = absurd e.0
no_promised (Asks ballot slot ∷ marks) e = no_promised marks e.1
no_promised (Votes node ballot slot ∷ marks) e = no_promised marks e.1
no_promised (Teaches slot ∷ marks) e = no_promised marks e.1
no_promised (Installs slot ∷ marks) e = no_promised marks e.1
no_promised (Prepares ballot ∷ marks) e = no_promised marks e.1

pub promised_tail : (mark : Mark) (marks : List Mark) → ArePromisedLast (mark ∷ marks) → ArePromisedLast marks
promised_tail (Promises node ballot) marks f = f.1
promised_tail _ marks f = f

pub promised_left : (taken : Option Mark) (left : List Mark) → ArePromisedLast (listed taken ++ left) → ArePromisedLast left
promised_left None left f = f
promised_left (Some mark) left f = promised_tail mark left f

-- ---- behind the last entry

abbrev pub IsNotLast : ℕ → Mark → Type 0
IsNotLast newest (Teaches slot) = suc slot ≡ newest → ⊥
IsNotLast newest (Promises node ballot) = Unit {0}
IsNotLast newest (Asks ballot slot) = Unit {0}
IsNotLast newest (Votes node ballot slot) = Unit {0}
IsNotLast newest (Installs slot) = Unit {0}
IsNotLast newest (Prepares ballot) = Unit {0}

pub last_append : (newest : ℕ) (xs ys : List Mark) → Each (IsNotLast newest) xs → AreLearntLast newest ys → AreLearntLast newest (xs ++ ys)
last_append newest [] ys a g = g
last_append newest (Teaches slot ∷ xs) ys a g = ((λ e. absurd (a.0 e)), last_append newest xs ys a.1 g)
last_append newest (Promises node ballot ∷ xs) ys a g = last_append newest xs ys a.1 g
last_append newest (Asks ballot slot ∷ xs) ys a g = last_append newest xs ys a.1 g
last_append newest (Votes node ballot slot ∷ xs) ys a g = last_append newest xs ys a.1 g
last_append newest (Installs slot ∷ xs) ys a g = last_append newest xs ys a.1 g
last_append newest (Prepares ballot ∷ xs) ys a g = last_append newest xs ys a.1 g

pub last_counts : (newest : ℕ) (xs ys : List Mark) → AreLearntLast newest xs → Each IsCount ys → AreLearntLast newest (xs ++ ys)
last_counts newest [] [] f c = tt
last_counts newest [] (Votes node ballot slot ∷ ys) f c = last_counts newest [] ys tt c.1
last_counts newest [] (Promises node ballot ∷ ys) f c = last_counts newest [] ys tt c.1
last_counts newest [] (Asks ballot slot ∷ ys) f c = absurd c.0
last_counts newest [] (Teaches slot ∷ ys) f c = absurd c.0
last_counts newest [] (Installs slot ∷ ys) f c = absurd c.0
last_counts newest [] (Prepares ballot ∷ ys) f c = absurd c.0
last_counts newest (Teaches slot ∷ xs) ys f c = ((λ e. Each-append IsNoPrepare xs ys (f.0 e) (Each-weaker IsCount IsNoPrepare count_none ys c)), last_counts newest xs ys f.1 c)
last_counts newest (Promises node ballot ∷ xs) ys f c = last_counts newest xs ys f c
last_counts newest (Asks ballot slot ∷ xs) ys f c = last_counts newest xs ys f c
last_counts newest (Votes node ballot slot ∷ xs) ys f c = last_counts newest xs ys f c
last_counts newest (Installs slot ∷ xs) ys f c = last_counts newest xs ys f c
last_counts newest (Prepares ballot ∷ xs) ys f c = last_counts newest xs ys f c

pub last_tail : (newest : ℕ) (mark : Mark) (marks : List Mark) → AreLearntLast newest (mark ∷ marks) → AreLearntLast newest marks
last_tail newest (Teaches slot) marks f = f.1
last_tail newest _ marks f = f

-- what comes in time and takes a node no further than so far is not the last entry of a later state
pub not_last : (newest later next : ℕ) (promise : Ballot) (marks : List Mark) → AreFit next promise marks → reached next marks ≤ newest → newest < later → Each (IsNotLast later) marks
not_last newest later next promise [] f le lt = tt
not_last newest later next promise (Teaches slot ∷ marks) f le lt = ((λ e. (let least = reached-least (suc slot) promise marks f.1 in omega (arith, e, least, le, lt))), not_last newest later (suc slot) promise marks f.1 le lt)
not_last newest later next promise (Installs slot ∷ marks) f le lt = (tt, not_last newest later (suc slot) promise marks f.1 le lt)
not_last newest later next promise (Asks ballot slot ∷ marks) f le lt = (tt, not_last newest later next promise marks f.1 le lt)
not_last newest later next promise (Votes node ballot slot ∷ marks) f le lt = (tt, not_last newest later next promise marks f.1 le lt)
not_last newest later next promise (Prepares ballot ∷ marks) f le lt = (tt, not_last newest later next ballot marks f.1 le lt)
not_last newest later next promise (Promises node ballot ∷ marks) f le lt = (tt, not_last newest later next promise marks f.1 le lt)

pub offers_last : (at : Sets) (course : Course) (from who newest : ℕ) (marks : List Mark) → Each (IsOffer at course from who) marks → AreLearntLast newest marks
offers_last at course from who newest [] e = tt
offers_last at course from who newest (Asks ballot slot ∷ marks) e = offers_last at course from who newest marks e.1
offers_last at course from who newest (Votes node ballot slot ∷ marks) e = absurd e.0
offers_last at course from who newest (Teaches slot ∷ marks) e = absurd e.0
offers_last at course from who newest (Installs slot ∷ marks) e = absurd e.0
offers_last at course from who newest (Prepares ballot ∷ marks) e = absurd e.0
offers_last at course from who newest (Promises node ballot ∷ marks) e = absurd e.0

pub last_taught : (at : Sets) (course in_course : Course) (from who newest : ℕ) (offers : List Mark) → Each (IsOffer at in_course from who) offers → (more slot : ℕ) → slot + more ≡ newest → AreLearntLast newest (taught_from at course slot more who ++ offers)
last_taught at course in_course from who newest offers e zero slot fact = offers_last at in_course from who newest offers e
last_taught at course in_course from who newest offers e (suc more) slot fact = with_later (last_taught at course in_course from who newest offers e more (slot + 1) (omega (arith, fact)))
  where
    rest : List Mark
    rest = taught_from at course (slot + 1) more who ++ offers

    at_end : (count : ℕ) → slot + suc count ≡ newest → suc slot ≡ newest → Each IsNoPrepare (taught_from at course (slot + 1) count who ++ offers)
    at_end zero sum last = offers-each IsNoPrepare at in_course from who (λ ballot s least most. tt) offers e
    at_end (suc count) sum last = absurd (omega (arith, sum, last))

    with_later : AreLearntLast newest (taught_from at course (slot + 1) more who ++ offers) → AreLearntLast newest (taught_from at course slot (suc more) who ++ offers)
    with_later later =
        subst (AreLearntLast newest) (sym (append_marks (reported_of at course slot who) (taught_from at course (slot + 1) more who) offers))
        (cond_both (eqb who course.ballot.node) [] (cond (is_member (members_at at slot) who) (Teaches slot ∷ []) (cond (is_member (members_at at (slot + 1)) who) (welcome course slot) [])) (λ l. AreLearntLast newest (l ++ rest)) (λ _. later)
        (λ _. cond_both (is_member (members_at at slot) who) (Teaches slot ∷ []) (cond (is_member (members_at at (slot + 1)) who) (welcome course slot) []) (λ l. AreLearntLast newest (l ++ rest)) (λ _. (at_end more fact, later))
        (λ _. cond_both (is_member (members_at at (slot + 1)) who) (welcome course slot) [] (λ l. AreLearntLast newest (l ++ rest)) (λ _. cond_both course.is_first [] (Prepares course.ballot ∷ []) (λ l. AreLearntLast newest (l ++ rest)) (λ _. later) (λ _. later)) (λ _. later))))
