-- What holds of a history holds after more steps, and whose a step is.
use Rattle.std.proofs.Common.{◌≡◌, ℕ, ◌≤◌, eqb, List, [], ◌∷◌, ◌++◌, length, inl, inr, refl, sym, ◌∙◌, subst}
use Rattle.std.proofs.lemmas.Bool.{ne_eqb, cond-false}
use Rattle.sc_node_table.specs.Values.{Ballot}
use Rattle.sc_base.specs.Definitions.{Among, Each}
use Rattle.sc_words.specs.paxos.PaxosDefinitions.{born_acceptor}
use Rattle.sc_words.proofs.PaxosProofs.PaxosLemmas.{Each-among}
use Rattle.sc_paxos_law.specs.PaxosLawDefinitions.{Step, Prepared, Promised, Offered, Accepted, Cut, state_of, Rule, needed, members_of, IsChosen, IsChosenAfter, IsLog, MayOffer, IsLawfulStep, IsLawfulHistory}
use Rattle.sc_paxos_law.proofs.Lemmas.{shared_member, was_offered, one_offer, later_log, later_chosen, agree_members, logs_agree, later_elected}

pub later_after : {V : Type 0} (rule : Rule V) (s : Step V) (h : List (Step V)) (log : List V) (slot : ℕ) (v : V) → IsChosenAfter rule h log slot v → IsChosenAfter rule (s ∷ h) log slot v
later_after rule s h log slot v c = record { known = c.known; chosen = later_chosen _ s h slot v c.chosen }

-- a value that is chosen at a slot, whose members come from some log
pub record IsLearnt {V : Type 0} (rule : Rule V) (h : List (Step V)) (slot : ℕ) (value : V) : Type 0 where
  pub log : List V
  pub is_log : IsLog rule h log
  pub chosen : IsChosenAfter rule h log slot value

-- what is learnt stays learnt after one more step
pub later_learnt : {V : Type 0} (rule : Rule V) (s : Step V) (h : List (Step V)) (slot : ℕ) (v : V) → IsLearnt rule h slot v → IsLearnt rule (s ∷ h) slot v
later_learnt rule s h slot v l = record { log = l.log; is_log = later_log rule s h l.log l.is_log; chosen = later_after rule s h l.log slot v l.chosen }

-- what is learnt stays learnt after more steps
pub grown_learnt : {V : Type 0} (rule : Rule V) (newer h : List (Step V)) (slot : ℕ) (v : V) → IsLearnt rule h slot v → IsLearnt rule (newer ++ h) slot v
grown_learnt rule [] h slot v l = l
grown_learnt rule (s ∷ newer) h slot v l = later_learnt rule s (newer ++ h) slot v (grown_learnt rule newer h slot v l)

-- what is learnt at a slot was chosen by the members that any log gives which knows them
pub by_own_log : {V : Type 0} (rule : Rule V) (first : Ballot) (h : List (Step V)) → IsLawfulHistory rule first h → (slot : ℕ) (v : V) → IsLearnt rule h slot v
    → (log : List V) → IsLog rule h log → needed rule slot ≤ length log → IsChosenAfter rule h log slot v
by_own_log rule first h l slot v t log is_log known =
    let here = agree_members rule h slot log is_log known (logs_agree rule first h l (needed rule slot)) in
    record { known = known; chosen = subst (λ ms. IsChosen ms h slot v) (here t.log t.is_log t.chosen.known) t.chosen.chosen }

-- a chosen value was offered
pub learnt_offered : {V : Type 0} (rule : Rule V) (first : Ballot) (h : List (Step V)) → IsLawfulHistory rule first h → (slot : ℕ) (v : V) → IsLearnt rule h slot v
    → (b : Ballot) × Among (Offered b slot v) h
learnt_offered rule first h l slot v t =
    let c = t.chosen.chosen in
    let voter = shared_member (members_of rule t.log slot) c.voters c.voters c.majority c.majority in
    (c.ballot, was_offered rule first h voter.0 c.ballot slot v l (Each-among _ c.voters voter.0 c.each voter.1))

-- ---- an offer may be made again

later_offer : {V : Type 0} (rule : Rule V) (first b : Ballot) (slot : ℕ) (v : V) (s : Step V) (h : List (Step V)) → IsLawfulHistory rule first (s ∷ h) → Among (Offered b slot v) (s ∷ h)
    → MayOffer rule first b slot v h → MayOffer rule first b slot v (s ∷ h)
later_offer rule first b slot v s h l a m = record {
  log = m.log;
  is_log = later_log rule s h m.log m.is_log;
  known = m.known;
  elected = elim m.elected [ inl e ↦ inl e | inr e ↦ inr (later_elected _ b slot v s h e) ];
  only = λ other o. one_offer rule first (s ∷ h) b slot other v l o a;
}

-- what was offered may be offered again in its ballot
pub offer_again : {V : Type 0} (rule : Rule V) (first : Ballot) (h : List (Step V)) (b : Ballot) (slot : ℕ) (v : V) → IsLawfulHistory rule first h → Among (Offered b slot v) h → MayOffer rule first b slot v h
offer_again rule first [] b slot v l a = absurd a
offer_again rule first (s ∷ h) b slot v l (inl e) =
    later_offer rule first b slot v s h l (inl e) (subst (λ t. IsLawfulStep rule first t h) e l.0)
offer_again rule first (s ∷ h) b slot v l (inr a) = later_offer rule first b slot v s h l (inr a) (offer_again rule first h b slot v l.1 a)

-- ---- whose a step is

-- whose a step is: an acceptor's, or a proposer's in its own ballots
abbrev pub By : {V : Type 0} → ℕ → Step V → Type 0
By me (Prepared ballot from) = ballot.node ≡ me
By me (Promised node ballot from reports) = node ≡ me
By me (Offered ballot slot value) = ballot.node ≡ me
By me (Accepted node ballot slot value) = node ≡ me
By me (Cut node upto) = node ≡ me

-- a step of another node changes nothing of an acceptor
pub state_kept : {V : Type 0} (first : Ballot) (me other : ℕ) (s : Step V) (h : List (Step V)) → By me s → (me ≡ other → ⊥) → state_of first other (s ∷ h) ≡ state_of first other h
state_kept first me other (Prepared b from) h by ne = refl
state_kept first me other (Promised n b from rs) h by ne = cond-false (eqb n other) _ _ (ne_eqb n other (λ e. ne (sym by ∙ e)))
state_kept first me other (Offered b s v) h by ne = refl
state_kept first me other (Accepted n b s v) h by ne = cond-false (eqb n other) _ _ (ne_eqb n other (λ e. ne (sym by ∙ e)))
state_kept first me other (Cut n upto) h by ne = cond-false (eqb n other) _ _ (ne_eqb n other (λ e. ne (sym by ∙ e)))

-- ---- a node that has taken no step

-- a node has taken no step as an acceptor
abbrev pub IsFresh : {V : Type 0} → ℕ → List (Step V) → Type 0
IsFresh me h = Each (λ s. By me s → ⊥) h

by_one : {V : Type 0} (one other : ℕ) (s : Step V) → By one s → By other s → one ≡ other
by_one one other (Prepared b from) p q = sym p ∙ q
by_one one other _ p q = sym p ∙ q

-- steps of others keep it so
pub fresh_on : {V : Type 0} (me other : ℕ) (newer h : List (Step V)) → Each (By other) newer → (other ≡ me → ⊥) → IsFresh me h → IsFresh me (newer ++ h)
fresh_on me other [] h by ne k = k
fresh_on me other (s ∷ newer) h by ne k = (λ mine. ne (by_one other me s by.0 mine), fresh_on me other newer h by.1 ne k)

fresh_kept : {V : Type 0} (first : Ballot) (me : ℕ) (s : Step V) (h : List (Step V)) → (By me s → ⊥) → state_of first me (s ∷ h) ≡ state_of first me h
fresh_kept first me (Prepared b from) h ne = refl
fresh_kept first me (Promised n b from rs) h ne = cond-false (eqb n me) _ _ (ne_eqb n me ne)
fresh_kept first me (Offered b s v) h ne = refl
fresh_kept first me (Accepted n b s v) h ne = cond-false (eqb n me) _ _ (ne_eqb n me ne)
fresh_kept first me (Cut n upto) h ne = cond-false (eqb n me) _ _ (ne_eqb n me ne)

-- its acceptor would be as at birth
pub fresh_state : {V : Type 0} (first : Ballot) (me : ℕ) (h : List (Step V)) → IsFresh me h → state_of first me h ≡ born_acceptor first
fresh_state first me [] k = refl
fresh_state first me (s ∷ h) k = fresh_kept first me s h k.0 ∙ fresh_state first me h k.1
