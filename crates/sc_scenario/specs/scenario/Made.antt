-- Made scenarios: ordinary use of three groups by sixteen clients, with requests drawn from the random words that a number seeds.
use Rattle.std.specs.Prelude.{◌≡◌, ◌≤◌, ℕ, zero, suc, ◌+◌, ◌*◌, ◌%◌, ◌==◌, true, false, List, [], ◌∷◌, ◌++◌, if◌then◌else◌}
use Rattle.std.specs.Fmt.{decimal}
use Rattle.sc_base.specs.Definitions.{most_requests}
use Rattle.sc_base.specs.declared.ops.Op.{Op}
use Rattle.sc_base.specs.declared.ops.Op.TheVariants.{Get, Put, Del}
use Rattle.sc_texts.specs.chance.KeyStream.{two_words}
use Rattle.sc_scenario.specs.scenario.Groups.{bases_of}
use Rattle.sc_scenario.specs.declared.scenario.drafts.GroupLine.{GroupLine}
use Rattle.sc_scenario.specs.declared.scenario.scenarios.Asks.{Asks}
use Rattle.sc_scenario.specs.declared.scenario.scenarios.Scenario.{Scenario}
use Rattle.sc_scenario.specs.declared.scenario.scenarios.SchedLine.{SchedLine}
use Rattle.sc_scenario.specs.declared.scenario.scenarios.SchedLine.TheVariants.{Go, Settle}

-- ---- the requests

-- the key that a random word draws: a visible byte, and the client's number
abbrev pub made_key : ℕ → ℕ → List ℕ
made_key word client = (33 + word % 94) ∷ decimal client

-- the value of a request: `v`, and the request's number
abbrev pub made_value : ℕ → List ℕ
made_value number = 118 ∷ decimal number

-- a client's request with this number: the first random word draws its kind, and the second its key
abbrev pub made_op : ℕ × ℕ → ℕ → ℕ → Op
made_op words client number =
    if words.0 % 3 == 0 then Get (made_key words.1 client)
    else if words.0 % 3 == 1 then Put (made_key words.1 client) (made_value number)
    else Del (made_key words.1 client)

-- the first requests of the client that comes after `before` others with n requests each; each request takes two random words
unfoldable pub made_ops : ℕ → ℕ → ℕ → ℕ → List Op
made_ops seed n before zero = []
made_ops seed n before (suc k) = made_ops seed n before k ++ made_op (two_words seed (before * n + k)) (before + 1) (k + 1) ∷ []

-- the first clients, with n requests each
unfoldable pub made_clients : ℕ → ℕ → ℕ → List Asks
made_clients seed n zero = []
made_clients seed n (suc k) = made_clients seed n k ++ record { client = k + 1; ops = made_ops seed n k n } ∷ []

-- ---- the whole

-- three groups of three nodes each
abbrev pub made_groups : List GroupLine
made_groups =
    record { lo = 0; members = 1 ∷ 2 ∷ 3 ∷ [] } ∷ record { lo = 1342177280; members = 4 ∷ 5 ∷ 6 ∷ [] }
    ∷ record { lo = 1744830464; members = 7 ∷ 8 ∷ 9 ∷ [] } ∷ []

-- the lines by which the first clients start
unfoldable pub made_goes : ℕ → List SchedLine
made_goes zero = []
made_goes (suc k) = made_goes k ++ Go (k + 1) ∷ []

-- the scenario with n requests for each client and this seed; its report only counts the answered requests
abbrev pub made_scenario : ℕ → ℕ → Scenario
made_scenario n seed = record {
  nodes = 9;
  groups = bases_of made_groups;
  policy = false;
  clients = made_clients seed n 16;
  lines = made_goes 16 ++ Settle 1000000 ∷ [];
  brief = true;
  version = 1;
}

-- the scenario is made, with 1 to 1,000 requests for each client
pub record IsMade (scenario : Scenario) : Type 0 where
  pub n : ℕ
  pub seed : ℕ
  pub some : 1 ≤ n
  pub few : n ≤ most_requests
  pub fact : made_scenario n seed ≡ scenario
