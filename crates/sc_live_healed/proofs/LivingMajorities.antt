-- Where the members that are alive are more than half, and all of them are among some nodes, these are a majority.
use Rattle.std.proofs.Common.{◌≡◌, ℕ, ◌*◌, Bool, true, List, length, arith}
use Rattle.std.proofs.lemmas.Bool.{lt-ltb}
use Rattle.sc_base.specs.Definitions.{Among, votes_of, is_majority, is_member}
use Rattle.sc_paxos_law.proofs.Leading.{counts_within}
use Rattle.sc_live_healed.specs.HealedDefinitions.{LivingMajority}

-- all members that are alive are a majority
pub living_decide : (lives : ℕ → Bool) (members nodes : List ℕ) → LivingMajority lives members → ((member : ℕ) → Among member members → lives member ≡ true → is_member nodes member ≡ true) → is_majority members nodes ≡ true
living_decide lives members nodes most all =
    let more = counts_within lives (is_member nodes) members all in
    lt-ltb (length members) (2 * votes_of members nodes) (omega (arith, most, more))
