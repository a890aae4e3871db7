-- By each command a group loses no member, or nobody comes to it.
use Rattle.std.proofs.Common.{◌≡◌, ℕ, Bool, true, not, eqb, zero, suc, take, filter, List, [], ◌∷◌, ◌⊎◌, inl, inr}
use Rattle.sc_node_table.specs.Values.{Command, Core}
use Rattle.sc_base.specs.Definitions.{is_member}
use Rattle.std.proofs.lemmas.Bool.{cond_both}
use Rattle.sc_live_steps.proofs.FollowingProofs.FollowingLemmas.{with_kept}
use Rattle.sc_group_table.specs.machine.MachineDefinitions.{Group, applied, staying, state_after}
use Rattle.sc_live_answers.proofs.VotesProofs.EntriesInFlight.{or_map, united_kept}
use Rattle.sc_live_answers.proofs.LedGroupsProofs.MemberWalks.{member_step, next_states}
use Rattle.sc_group_table.proofs.MachineProofs.Lemmas.{second_or as or_skip}

-- ---- members

-- of some members each is one
take_member : (n : ℕ) (members : List ℕ) (who : ℕ) → is_member (take n members) who ≡ true → is_member members who ≡ true
take_member zero members who e = cc
take_member (suc n) [] who e = cc
take_member (suc n) (x ∷ members) who e = or_map (eqb x who) (is_member (take n members) who) (is_member members who) (take_member n members who) e

filter_member : (f : ℕ → Bool) (members : List ℕ) (who : ℕ) → is_member (filter f members) who ≡ true → is_member members who ≡ true
filter_member f [] who e = e
filter_member f (x ∷ members) who e =
    cond_both (f x) (x ∷ filter f members) (filter f members) (λ xs. is_member xs who ≡ true → is_member (x ∷ members) who ≡ true)
    (λ _ m. or_map (eqb x who) (is_member (filter f members) who) (is_member members who) (filter_member f members who) m)
    (λ _ m. or_skip (eqb x who) (is_member members who) (filter_member f members who m)) e

-- no member is lost, or nobody comes
abbrev MovesOneWay : Core → Core → Type 0
MovesOneWay one other = ((who : ℕ) → is_member other.members who ≡ true → is_member one.members who ≡ true) ⊎ ((who : ℕ) → is_member one.members who ≡ true → is_member other.members who ≡ true)

applied_moves : (group : Group) (c : Command) → MovesOneWay (applied group c).0.core group.core
applied_moves group =
    member_step group (λ members gone. ((who : ℕ) → is_member group.core.members who ≡ true → is_member members who ≡ true) ⊎ ((who : ℕ) → is_member members who ≡ true → is_member group.core.members who ≡ true)) (record {
      begun = inl (λ who m. m);
      joins = λ node. inl (with_kept group.core.members node);
      leaves = λ node. inr (filter_member (λ member. not (eqb member node)) group.core.members);
      splits = inr (take_member (staying group.core.members) group.core.members);
      unites = λ others. inl (united_kept group.core.members others);
      goes = λ into. inl (λ who m. m);
    })

-- the members after some entries, and after one more
pub next_moves : (log : List Command) (group : Group) (n : ℕ) → MovesOneWay (state_after group (take (suc n) log)).core (state_after group (take n log)).core
next_moves = next_states MovesOneWay (λ core. inl (λ who m. m)) applied_moves
