-- Nobody comes to a group by the command by which it is gone.
use Rattle.std.proofs.Common.{◌≡◌, ◌⊎◌, ℕ, true, suc, take, is_some, List, inl, inr}
use Rattle.sc_base.specs.Definitions.{is_member}
use Rattle.sc_node_table.specs.Values.{Command, Core}
use Rattle.sc_group_table.specs.machine.MachineDefinitions.{Group, applied, state_after}
use Rattle.sc_live_answers.proofs.LedGroupsProofs.MemberWalks.{member_step, next_states}

-- gone with one record, it was so with the other, or nobody came
abbrev EndsAlone : Core → Core → Type 0
EndsAlone one other = is_some one.gone ≡ true → (is_some other.gone ≡ true) ⊎ ((who : ℕ) → is_member one.members who ≡ true → is_member other.members who ≡ true)

applied_ends : (group : Group) (c : Command) → EndsAlone (applied group c).0.core group.core
applied_ends group =
    member_step group (λ members gone. is_some gone ≡ true → (is_some group.core.gone ≡ true) ⊎ ((who : ℕ) → is_member members who ≡ true → is_member group.core.members who ≡ true)) (record {
      begun = λ g. inl g;
      joins = λ node g. inl g;
      leaves = λ node g. inl g;
      splits = λ g. inl g;
      unites = λ others g. inl g;
      goes = λ into g. inr (λ who m. m);
    })

-- the members after some entries, and after one more by which the group is gone
pub next_ends : (log : List Command) (group : Group) (n : ℕ) → EndsAlone (state_after group (take (suc n) log)).core (state_after group (take n log)).core
next_ends = next_states EndsAlone (λ core g. inl g) applied_ends
