-- What the rows of a client change of what is owed in a calm journal.
use Rattle.std.specs.Prelude.{◌≡◌, ℕ, ◌+◌, ◌-◌, ◌*◌, ◌≤◌, true, List, [], ◌∷◌, length, sum_by, if◌then◌else◌, Option, Some, None, is_some, ◌⊎◌}
use Rattle.sc_base.specs.Definitions.{Among, Arc}
use Rattle.sc_node_table.specs.Values.{Draw, Reply, Link, Route, Answer}
use Rattle.sc_client_table.specs.lookup.LookupDefinitions.{KnownGroups, way_to, target_in, new_way}
use Rattle.sc_client_table.specs.declared.lookup.ways.Way.{Way}
use Rattle.sc_mail.specs.declared.bodies.AnswerBody.TheVariants as Says
use Rattle.sc_client_table.specs.table.TableDefinitions.{Client as ClientState, ClientStep, started, waits_for, was_asked, got}
use Rattle.sc_live_steps.specs.calm.HarmlessEntries.{AreBounded}
use Rattle.sc_live_steps.specs.calm.CalmPotential.{Ways, answer_owes, mail_owes}

-- 1 where a request waits for its answer, else 0.
abbrev pub waiting_one : Option ℕ → ℕ
waiting_one None = 0
waiting_one (Some seq) = 1

-- What a client owes for its requests that have not begun: 28 for each.
abbrev pub requests_owe : ClientState → ℕ
requests_owe client = 28 * (length client.requests - (length client.replies + waiting_one client.waiting))

-- What a client owes for its requests after a step, with the mails that the step sends.
abbrev pub step_owes : Ways → ClientStep → ℕ
step_owes ways step = requests_owe step.0 + sum_by (mail_owes ways) step.1

-- Each node that the client would ask is at most `most` hints away from its group's leader.
abbrev pub AsksWithin : Ways → ℕ → ClientState → Type 0
AsksWithin ways most client = (group : Draw) (node : ℕ) → target_in group client.known ≡ Some node → ways.far group node ≤ most

-- The number of the request that waits is one more than the number of replies.
abbrev pub IsInTurn : ClientState → Type 0
IsInTurn client = (seq : ℕ) → client.waiting ≡ Some seq → length client.replies + 1 ≡ seq

-- By the rows of a client, except those by which it learns of other groups, what is owed changes as follows.
pub record ClientsLower : Type 0 where
  -- a client that goes raises it by at most `2 * most`: the way to the node that it asks first
  pub go : (ways : Ways) (most : ℕ) (client : ClientState) → client.waiting ≡ None → client.replies ≡ [] → AsksWithin ways most client → step_owes ways (started 1 client) ≤ requests_owe client + 2 * most
  -- a reply lowers it by at least one, apart from `2 * most`, the way to the node that its next request asks
  pub value : (ways : Ways) (most from seq : ℕ) (group : Draw) (reply : Reply) (client : ClientState) → IsInTurn client → AsksWithin ways most client
      → step_owes ways (got from (Answer group seq (Says.Value reply)) client) + 1 ≤ requests_owe client + answer_owes ways group (Says.Value reply) + 2 * most
  -- an answer that names another node lowers it by at least one: the client asks there
  pub not_leader : (ways : Ways) (from seq : ℕ) (group : Draw) (hint : Option ℕ) (client : ClientState) → AreBounded ways
      → step_owes ways (got from (Answer group seq (Says.NotLeader hint)) client) + 1 ≤ requests_owe client + answer_owes ways group (Says.NotLeader hint)

-- 1 where the client does not know this group, else 0.
abbrev pub unknown_one : KnownGroups → Draw → ℕ
unknown_one known group = if is_some (way_to group known) then 0 else 1

-- How many of these groups the client does not know.
abbrev pub unknown : List Draw → KnownGroups → ℕ
unknown groups known = sum_by (unknown_one known) groups

-- The step of a client that learns that its key is another group's: it knows one more of these groups,
-- and what is owed falls by at least one, apart from what is owed for asking a group in vain (2 and twice the bound of ways).
abbrev pub LearnsOneGroup : Ways → List Draw → Draw → Arc → Link → ClientState → ClientStep → Type 0
LearnsOneGroup ways groups group arc succ client step =
    (step_owes ways step + 1 ≤ requests_owe client + answer_owes ways group (Says.NotMine arc succ) + (2 + 2 * ways.most)) × (unknown groups step.0.known + 1 ≤ unknown groups client.known)

-- An answer that the key is another group's is ignored, or the client learns of one group by it.
abbrev pub NotMineTeaches : Type 0
NotMineTeaches =
    (ways : Ways) (groups : List Draw) (from seq : ℕ) (group : Draw) (arc : Arc) (succ : Link) (client : ClientState) → AreBounded ways
    → (waits_for client.waiting seq ≡ true → was_asked client.asked from group ≡ true → Among succ.group groups × (way_to succ.group client.known ≡ None))
    → (got from (Answer group seq (Says.NotMine arc succ)) client ≡ (client, [])) ⊎ LearnsOneGroup ways groups group arc succ client (got from (Answer group seq (Says.NotMine arc succ)) client)

-- The step of a client that learns that its group went into another, and knew no other group: it now knows that other group alone,
-- and what is owed falls by at least one, apart from what is owed for asking a group in vain.
abbrev pub IsSentOn : Ways → Draw → Route → ClientState → ClientStep → Type 0
IsSentOn ways group into client step =
    (step_owes ways step + 1 ≤ requests_owe client + answer_owes ways group (Says.Gone into) + (2 + 2 * ways.most)) × (step.0.known ≡ (into.group, new_way into.lo into.members) ∷ [])

-- An answer that a group is gone is ignored, or sends the client on to another group.
abbrev pub GoneSendsOn : Type 0
GoneSendsOn =
    (ways : Ways) (from seq : ℕ) (group : Draw) (into : Route) (way : Way) (client : ClientState) → AreBounded ways → client.known ≡ (group, way) ∷ []
    → (got from (Answer group seq (Says.Gone into)) client ≡ (client, [])) ⊎ IsSentOn ways group into client (got from (Answer group seq (Says.Gone into)) client)
