-- What a leader's words come to in the law.
use Rattle.std.proofs.Common.{◌≡◌, ℕ, ◌≤◌, Bool, true, cond, List, [], ◌∷◌, map, filter, count_by, Option, Some, None, IfSome, inl, inr, refl, sym, subst, arith}
use Rattle.std.specs.List.{flat_map}
use Rattle.std.specs.Option.{option_map}
use Rattle.std.proofs.lemmas.Bool.{ltb-true, cond-true, cond_both}
use Rattle.std.proofs.lemmas.List.Sums.{sum_by-cons}
use Rattle.sc_base.specs.Definitions.{is_member, IsMajority, is_majority, Among, Each}
use Rattle.sc_words.specs.declared.paxos.reports.Report.{Report}
use Rattle.sc_words.specs.paxos.PaxosDefinitions.{choice, names_above, LeaderState, Obeys, must, must_without}
use Rattle.sc_words.proofs.PaxosProofs.PaxosLemmas.{Among-filter}
use Rattle.sc_paxos_law.specs.PaxosLawDefinitions.{Step, Promised, CountedPromise, IsElected}
use Rattle.sc_paxos_law.proofs.Among.{member-among, among-member}

obeys : {V : Type 0} (above : Bool) (o : Option (Report V)) (value : V) → Obeys (must_without above (option_map (λ (r : Report V). r.value) o)) value → IfSome o (λ (best : Report V). best.value ≡ value)
obeys above None value h = tt
obeys above (Some best) value h = sym h

-- a leader's counted votes are an election
pub elected_by : {V : Type 0} (members : List ℕ) (older : List (Step V)) (slot : ℕ) (value : V) (leader : LeaderState V) (votes : List (CountedPromise V))
    → leader.promisers ≡ map (λ (vote : CountedPromise V). vote.node) votes → leader.reports ≡ flat_map (λ (vote : CountedPromise V). vote.reports) votes
    → Each (λ (vote : CountedPromise V). Among (Promised vote.node leader.ballot vote.from vote.reports) older × (vote.from ≤ slot)) votes
    → is_majority members leader.promisers ≡ true → Obeys (must slot leader) value → IsElected members leader.ballot slot value older
elected_by {V} members older slot value leader votes nodes reports made most obeyed = record {
  votes = votes;
  made = made;
  majority = subst (IsMajority members) nodes (ltb-true _ _ most);
  choice = subst (λ (rs : List (Report V)). IfSome (choice slot rs) (λ (best : Report V). best.value ≡ value)) reports
      (obeys (names_above slot leader.reports) (choice slot leader.reports) value obeyed);
}

-- over the members a test that passes at least as many counts at least as many
pub counts_within : (p q : ℕ → Bool) (xs : List ℕ) → ((x : ℕ) → Among x xs → p x ≡ true → q x ≡ true) → count_by p xs ≤ count_by q xs
counts_within p q [] f = omega arith
counts_within p q (x ∷ xs) f =
    let rest = counts_within p q xs (λ y a. f y (inr a)) in
    let here : cond (p x) 1 0 ≤ cond (q x) 1 0 = cond_both (p x) 1 0 (λ n. n ≤ cond (q x) 1 0) (λ t. (let e = cond-true {A = ℕ} (q x) 1 0 (f x (inl refl) t) in omega (arith, e))) (λ t. omega arith) in
    omega (arith, here, rest, sum_by-cons (λ y. cond (p y) 1 0) x xs, sum_by-cons (λ y. cond (q y) 1 0) x xs)

-- voters who are no members can be left out of a majority
pub strangers : (members voters : List ℕ) → IsMajority members voters → IsMajority members (filter (λ voter. is_member members voter) voters)
strangers members voters most =
    let le = counts_within (is_member voters) (is_member (filter (λ voter. is_member members voter) voters)) members
    (λ n a t. among-member (filter (λ voter. is_member members voter) voters) n (Among-filter (λ voter. is_member members voter) voters n (member-among voters n t) (among-member members n a))) in
    omega (arith, most, le)
