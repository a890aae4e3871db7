-- A node accepted where one of the acceptances is its vote.
use Rattle.std.proofs.Common.{◌≡◌, ℕ, ◌≤◌, Bool, true, false, cond, List, [], ◌∷◌, ◌++◌, map, take, ◌&&◌, ◌||◌, ◌==◌, refl, ap, ◌∙◌}
use Rattle.std.proofs.lemmas.List.{reverse-append}
use Rattle.std.proofs.lemmas.List.Folds.{list_any-append}
use Rattle.std.proofs.lemmas.List.Sums.{sum_by-take-le}
use Rattle.std.specs.List.{list_any}
use Rattle.sc_base.specs.declared.names.Ballot.{Ballot}
use Rattle.sc_base.specs.Same.{same_ballot}
use Rattle.sc_words.specs.declared.commands.commands.Command.{Command}
use Rattle.sc_base.specs.Majority.{votes_of}
use Rattle.sc_base.specs.Roster.{is_member}
use Rattle.sc_paxos_law.specs.Steps.{Step, Prepared, Promised, Offered, Accepted, Cut}
use Rattle.sc_paxos_law.specs.Decided.{voters_of}
use Rattle.sc_world_logs.specs.Acceptances.{step_of, steps_of, is_vote}
use Rattle.sc_world_logs.specs.declared.accepting.Acceptance.{Acceptance}

split_choice : (t : Bool) (n : ℕ) (xs ys : List ℕ) → cond t (n ∷ (xs ++ ys)) (xs ++ ys) ≡ cond t (n ∷ xs) xs ++ ys
split_choice true n xs ys = refl
split_choice false n xs ys = refl

-- the voters of a history and an older one
voters_of-append : {V : Type 0} (h older : List (Step V)) (b : Ballot) (s : ℕ) → voters_of (h ++ older) b s ≡ voters_of h b s ++ voters_of older b s
voters_of-append [] older b s = refl
voters_of-append (Prepared x from ∷ h) older b s = voters_of-append h older b s
voters_of-append (Promised n x from reports ∷ h) older b s = voters_of-append h older b s
voters_of-append (Offered x t value ∷ h) older b s = voters_of-append h older b s
voters_of-append (Cut n upto ∷ h) older b s = voters_of-append h older b s
voters_of-append (Accepted n x t value ∷ h) older b s =
    ap (λ (voters : List ℕ). cond (same_ballot x b && (t == s)) (n ∷ voters) voters) (voters_of-append h older b s)
    ∙ split_choice (same_ballot x b && (t == s)) n (voters_of h b s) (voters_of older b s)

one_or : (r : Bool) → (r || false) ≡ (r && true)
one_or true = refl
one_or false = refl

none_or : (r : Bool) → false ≡ (r && false)
none_or true = refl
none_or false = refl

-- the one voter of one acceptance
one_voter : (t : Bool) (voter n : ℕ) → list_any (λ (member : ℕ). member == n) (cond t (voter ∷ []) []) ≡ ((voter == n) && t)
one_voter true voter n = one_or (voter == n)
one_voter false voter n = none_or (voter == n)

turned : (a b : Bool) → (a || b) ≡ (b || a)
turned true true = refl
turned true false = refl
turned false true = refl
turned false false = refl

-- a node is among the voters where one of the acceptances is its vote
pub voters_are_voted : (xs : List Acceptance) (b : Ballot) (s n : ℕ) → is_member (voters_of (steps_of xs) b s) n ≡ list_any (λ (here : Acceptance). is_vote b s n here) xs
voters_are_voted [] b s n = refl
voters_are_voted (x ∷ xs) b s n =
    ap (λ (h : List (Step Command)). is_member (voters_of h b s) n) (reverse-append (step_of x ∷ []) (map step_of xs))
    ∙ ap (λ (voters : List ℕ). is_member voters n) (voters_of-append (steps_of xs) (step_of x ∷ []) b s)
    ∙ list_any-append (λ (member : ℕ). member == n) (voters_of (steps_of xs) b s) (voters_of (step_of x ∷ []) b s)
    ∙ ap (λ (t : Bool). t || is_member (voters_of (step_of x ∷ []) b s) n) (voters_are_voted xs b s n)
    ∙ ap (λ (t : Bool). list_any (λ (here : Acceptance). is_vote b s n here) xs || t) (one_voter (same_ballot x.ballot b && (x.slot == s)) x.node n)
    ∙ turned (list_any (λ (here : Acceptance). is_vote b s n here) xs) (is_vote b s n x)

-- the votes of the first members are some of all votes
pub votes_so_far : (members voters : List ℕ) (i : ℕ) → votes_of (take i members) voters ≤ votes_of members voters
votes_so_far members voters i = sum_by-take-le (λ (member : ℕ). cond (is_member voters member) 1 0) members i
