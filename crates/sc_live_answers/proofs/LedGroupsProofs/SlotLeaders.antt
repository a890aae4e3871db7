-- Who is the first to execute a slot in a journal, and which marks of states a leader's row sends.
use Rattle.std.proofs.Common.{◌≡◌, ℕ, zero, suc, ◌+◌, ◌<◌, ◌≤◌, ◌&&◌, eqb, Bool, true, false, cond, List, [], ◌∷◌, ◌++◌, Option, Some, None, inl, inr, refl, sym, ◌∙◌, ap, subst, arith, append_assoc}
use Rattle.std.proofs.lemmas.Bool.{cond_both, cond-true, cond-false}
use Rattle.sc_base.specs.Definitions.{Among, Each, is_member, least_of}
use Rattle.sc_node_table.specs.Values.{Ballot, Draw, OrderLine, Mail, Seat, Row}
use Rattle.sc_words.specs.paxos.PaxosDefinitions.{below}
use Rattle.sc_words.proofs.PaxosProofs.PaxosLemmas.{Each-among}
use Rattle.sc_meaning.specs.sound.SoundDefinitions.{Player}
use Rattle.sc_law_entries.specs.logs.LogDefinitions.{Rows}
use Rattle.sc_live_steps.specs.following.FollowingDefinitions.{Mark, Asks, Votes, Teaches, Installs, Prepares, Promises, Course, Sets, answered, welcome, reported_of, taught_from, IsOffer}
use Rattle.sc_live_steps.proofs.FollowingProofs.FollowingLemmas.{among-either}
use Rattle.sc_live_journals.specs.rows.RowDefinitions.{view_at}
use Rattle.sc_live_answers.specs.AnswerDefinitions.{has_executed, first_to, slot_leader_of}
pub use Rattle.sc_live_orderly.proofs.RowsInTime.{snoc_parts as last_parts}

-- ---- lists

-- ---- the first to execute a slot

module _ (births : List (Seat Player)) (name : Draw) (slot : ℕ) where
  -- where none has by these rows, the next row's player is the first, if it has after that
  pub first_hit : (before rows : Rows) (row : Row Mail OrderLine) (more : Rows) → first_to births name slot before rows ≡ None → has_executed slot (view_at births (before ++ (rows ++ row ∷ [])) name row.who) ≡ true
      → first_to births name slot before (rows ++ row ∷ more) ≡ Some row.who
  first_hit before [] row more none has = cond-true (has_executed slot (view_at births (before ++ row ∷ []) name row.who)) (Some row.who) (first_to births name slot (before ++ row ∷ []) more) has
  first_hit before (x ∷ rows) row more none has =
      by (has_executed slot (view_at births (before ++ x ∷ []) name x.who))
      (λ e. first_hit (before ++ x ∷ []) rows row more e (subst (λ all. has_executed slot (view_at births all name row.who) ≡ true) (sym (append_assoc before (x ∷ []) (rows ++ row ∷ []))) has)) none
    where
      by : (b : Bool) → (first_to births name slot (before ++ x ∷ []) rows ≡ None → first_to births name slot (before ++ x ∷ []) (rows ++ row ∷ more) ≡ Some row.who)
          → cond b (Some x.who) (first_to births name slot (before ++ x ∷ []) rows) ≡ None → cond b (Some x.who) (first_to births name slot (before ++ x ∷ []) (rows ++ row ∷ more)) ≡ Some row.who
      by true later e = cc
      by false later e = later e

  -- if the next row's player has not executed the slot, none has by one row more
  pub none_hit : (before rows : Rows) (row : Row Mail OrderLine) → first_to births name slot before rows ≡ None → has_executed slot (view_at births (before ++ (rows ++ row ∷ [])) name row.who) ≡ false
      → first_to births name slot before (rows ++ row ∷ []) ≡ None
  none_hit before [] row none not = cond-false (has_executed slot (view_at births (before ++ row ∷ []) name row.who)) (Some row.who) None not
  none_hit before (x ∷ rows) row none not =
      by (has_executed slot (view_at births (before ++ x ∷ []) name x.who))
      (λ e. none_hit (before ++ x ∷ []) rows row e (subst (λ all. has_executed slot (view_at births all name row.who) ≡ false) (sym (append_assoc before (x ∷ []) (rows ++ row ∷ []))) not)) none
    where
      by : (b : Bool) → (first_to births name slot (before ++ x ∷ []) rows ≡ None → first_to births name slot (before ++ x ∷ []) (rows ++ row ∷ []) ≡ None)
          → cond b (Some x.who) (first_to births name slot (before ++ x ∷ []) rows) ≡ None → cond b (Some x.who) (first_to births name slot (before ++ x ∷ []) (rows ++ row ∷ [])) ≡ None
      by true later e = cc
      by false later e = later e

-- the teller is a member
pub slot_leader_member : (members : List ℕ) (o : Option ℕ) → is_member members (least_of members) ≡ true → is_member members (slot_leader_of members o) ≡ true
slot_leader_member members None least = least
slot_leader_member members (Some who) least = by (is_member members who) refl
  where
    by : (b : Bool) → is_member members who ≡ b → is_member members (cond b who (least_of members)) ≡ true
    by true e = e
    by false e = least

-- a member that is the first is the teller
pub slot_leader_first : (members : List ℕ) (o : Option ℕ) (who : ℕ) → o ≡ Some who → is_member members who ≡ true → slot_leader_of members o ≡ who
slot_leader_first members o who fact m = ap (slot_leader_of members) fact ∙ cond-true (is_member members who) who (least_of members) m

-- ---- marks of states

-- one that takes a mail sends no state
pub answers_none : (node : ℕ) (promise : Ballot) (mark : Mark) (who slot : ℕ) → Among (Installs slot) (answered node promise mark who) → ⊥
answers_none node promise (Asks ballot s) who slot a = cond_both (eqb who ballot.node) (Votes node ballot s ∷ []) [] (λ l. Among (Installs slot) l → ⊥) (λ _ b. no_vote b) (λ _ b. absurd b) a
  where
    no_vote : Among (Installs slot) (Votes node ballot s ∷ []) → ⊥
    no_vote (inl e) = cc
    no_vote (inr n) = absurd n
answers_none node promise (Prepares ballot) who slot a = cond_both (eqb who ballot.node && below promise ballot) (Promises node ballot ∷ []) [] (λ l. Among (Installs slot) l → ⊥) (λ _ b. no_promise b) (λ _ b. absurd b) a
  where
    no_promise : Among (Installs slot) (Promises node ballot ∷ []) → ⊥
    no_promise (inl e) = cc
    no_promise (inr n) = absurd n
answers_none node promise (Votes other ballot s) who slot a = absurd a
answers_none node promise _ who slot a = absurd a

-- what a leader offers has no state
pub offers_none : (at : Sets) (course : Course) (from who slot : ℕ) (marks : List Mark) → Each (IsOffer at course from who) marks → Among (Installs slot) marks → ⊥
offers_none at course from who slot marks each a = Each-among (IsOffer at course from who) marks (Installs slot) each a

-- no state is sent where a leader asks for promises again
pub none_installs : (course : Course) (slot : ℕ) → Among (Installs slot) (cond course.is_first [] (Prepares course.ballot ∷ [])) → ⊥
none_installs course slot = cond_both course.is_first [] (Prepares course.ballot ∷ []) (λ l. Among (Installs slot) l → ⊥) (λ _ a. absurd a) (λ _ a. elim a [ inl e ↦ cc | inr n ↦ absurd n ])

-- the states that it sends are of the slots that it executes
welcomes_one : (at : Sets) (course : Course) (from who slot : ℕ) → Among (Installs slot) (reported_of at course from who) → slot ≡ from
welcomes_one at course from who slot =
    cond_both (eqb who course.ballot.node) [] _ P (λ _ a. absurd a)
    (λ _. cond_both (is_member (at (from + 3)) who) (Teaches from ∷ []) _ P (λ _ a. elim a [ inl e ↦ cc | inr n ↦ absurd n ])
    (λ _. cond_both (is_member (at (from + 1 + 3)) who) (welcome course from) [] P (λ _. comes) (λ _ a. absurd a)))
  where
    P : List Mark → Type 0
    P l = Among (Installs slot) l → slot ≡ from

    same : Installs from ≡ Installs slot → slot ≡ from
    same e = cc

    comes : Among (Installs slot) (welcome course from) → slot ≡ from
    comes (inl e) = same e
    comes (inr a) = absurd (none_installs course slot a)

pub tells_within : (at : Sets) (course : Course) (more from who slot : ℕ) → Among (Installs slot) (taught_from at course from more who) → (from ≤ slot) × (slot < from + more)
tells_within at course zero from who slot a = absurd a
tells_within at course (suc more) from who slot a = elim (among-either (Installs slot) (reported_of at course from who) (taught_from at course (from + 1) more who) a) [
  | inl one ↦ (let fact = welcomes_one at course from who slot one in (omega (arith, fact), omega (arith, fact)))
  | inr later ↦ (let in_ = tells_within at course more (from + 1) who slot later in let low = in_.0 in let high = in_.1 in (omega (arith, low), omega (arith, high)))
]
