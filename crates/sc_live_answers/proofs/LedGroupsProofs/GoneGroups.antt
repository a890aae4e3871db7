-- A group that is gone stays so, whatever it executes.
use Rattle.std.proofs.Common.{◌≡◌, ℕ, true, ◌≤◌, zero, suc, take, is_some, List, [], ◌∷◌, refl, arith}
use Rattle.sc_node_table.specs.Values.{Command}
use Rattle.sc_group_table.specs.machine.MachineDefinitions.{Group, applied, state_after}
use Rattle.sc_live_answers.proofs.LedGroupsProofs.MemberWalks.{member_step}

applied_gone : (group : Group) (c : Command) → is_some group.core.gone ≡ true → is_some (applied group c).0.core.gone ≡ true
applied_gone group =
    member_step group (λ members gone. is_some group.core.gone ≡ true → is_some gone ≡ true) (record { begun = λ g. g; joins = λ node g. g; leaves = λ node g. g; splits = λ g. g; unites = λ others g. g; goes = λ into g. refl })

-- a log keeps a group gone
pub state_gone : (group : Group) (log : List Command) → is_some group.core.gone ≡ true → is_some (state_after group log).core.gone ≡ true
state_gone group [] g = g
state_gone group (c ∷ log) g = state_gone (applied group c).0 log (applied_gone group c g)

-- gone after some first entries, it is so after more of them
pub later_gone : (log : List Command) (group : Group) (some more : ℕ) → some ≤ more → is_some (state_after group (take some log)).core.gone ≡ true → is_some (state_after group (take more log)).core.gone ≡ true
later_gone log group zero more low g = state_gone group (take more log) g
later_gone log group (suc some) zero low g = absurd (omega (arith, low))
later_gone [] group (suc some) (suc more) low g = g
later_gone (c ∷ log) group (suc some) (suc more) low g = later_gone log (applied group c).0 some more (omega (arith, low)) g
