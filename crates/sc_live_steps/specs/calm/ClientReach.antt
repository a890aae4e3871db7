-- What a client owes for groups that it does not know, and that its rows do not raise what it owes.
use Rattle.std.specs.Prelude.{◌≡◌, ℕ, ◌+◌, ◌*◌, ◌≤◌, nat_lt, true, List, [], ◌∷◌, length, sum_by, Option, Some, None, if◌then◌else◌}
use Rattle.sc_base.specs.Definitions.{Among, Each}
use Rattle.sc_node_table.specs.Values.{Draw, AnswerBody, MailBody, Answer}
use Rattle.sc_client_table.specs.lookup.LookupDefinitions.{KnownGroups, way_to}
use Rattle.sc_client_table.specs.declared.lookup.ways.Way.{Way}
use Rattle.sc_mail.specs.declared.bodies.AnswerBody.TheVariants as Says
use Rattle.sc_client_table.specs.table.TableDefinitions.{Client as ClientState, ClientStep, started, waits_for, was_asked, got}
use Rattle.sc_live_steps.specs.calm.Clients.{requests_owe, AsksWithin, IsInTurn, unknown}
use Rattle.sc_live_steps.specs.calm.HarmlessEntries.{AreBounded}
use Rattle.sc_live_steps.specs.calm.CalmPotential.{Ways, answer_owes, mail_owes}

-- The groups that stand; for each group, how many groups that are gone lie on the way from it to one that stands; and a bound of how often a client is sent on to another group.
pub record Reach : Type 0 where
  pub standing : List Draw
  pub distance : Draw → ℕ
  pub most : ℕ

-- How often a client may still be sent on: once to each group that stands and that it does not know, and once for each gone group on the way from those that it knows.
abbrev pub sent_on : Reach → KnownGroups → ℕ
sent_on reach known = unknown reach.standing known + sum_by (λ entry. reach.distance entry.0) known

-- What a client owes for being sent on, where no way is longer than `far`: while a request waits, as often as that may still happen;
-- before its next request, `most` times, and the way to the node that it asks.
abbrev pub search_owes : ℕ → Reach → ClientState → Option ℕ → ℕ
search_owes far reach client (Some seq) = sent_on reach client.known * (2 + 2 * far)
search_owes far reach client None = if nat_lt (length client.replies) (length client.requests) then reach.most * (2 + 2 * far) + 2 * far else 0

-- What a client owes: for its requests that have not begun, and for being sent on.
abbrev pub client_owes : Ways → Reach → ClientState → ℕ
client_owes ways reach client = requests_owe client + search_owes ways.most reach client client.waiting

-- What a client owes after its step, with the mails that the step sends.
abbrev pub client_turn_owes : Ways → Reach → ClientStep → ℕ
client_turn_owes ways reach step = client_owes ways reach step.0 + sum_by (mail_owes ways) step.1

-- The client has not gone, and may be sent on at most `most` times.
pub record IsUnbegun (reach : Reach) (client : ClientState) : Type 0 where
  pub idle : client.waiting ≡ None
  pub none : client.replies ≡ []
  pub near : sent_on reach client.known ≤ reach.most

-- The client waits for this answer of this node and group.
abbrev pub Awaits : ℕ → Draw → ℕ → ClientState → Type 0
Awaits from group seq client = (waits_for client.waiting seq ≡ true) × (was_asked client.asked from group ≡ true)

-- The client learns of a successor that stands and that it does not know.
pub record LearnsOf (reach : Reach) (succ : Draw) (client : ClientState) : Type 0 where
  pub among : Among succ reach.standing
  pub none : way_to succ client.known ≡ None
  pub ends : reach.distance succ ≡ 0

-- The client knows one group alone, which does not stand, and is sent on to one that is nearer to a group that stands.
pub record LeavesFor (reach : Reach) (group into : Draw) (client : ClientState) : Type 0 where
  pub way : Way
  pub known : client.known ≡ (group, way) ∷ []
  pub gone : Each (λ other. other ≡ group → ⊥) reach.standing
  pub nearer : reach.distance into + 1 ≤ reach.distance group

-- What has to hold of a client that takes an answer, by what the answer says.
abbrev pub MayHear : Ways → Reach → ℕ → Draw → ℕ → ClientState → AnswerBody → Type 0
MayHear ways reach from group seq client (Says.Value reply) = IsInTurn client × AsksWithin ways 0 client
MayHear ways reach from group seq client (Says.NotLeader hint) = Unit {0}
MayHear ways reach from group seq client (Says.NotMine arc succ) = Awaits from group seq client → LearnsOf reach succ.group client
MayHear ways reach from group seq client (Says.Gone into) = Awaits from group seq client → LeavesFor reach group into.group client
MayHear ways reach from group seq client (Says.Stale last) = Unit {0}

-- The mail is an answer of which `MayHear` holds.
pub record HearsCalmly (ways : Ways) (reach : Reach) (from : ℕ) (body : MailBody) (client : ClientState) : Type 0 where
  pub group : Draw
  pub seq : ℕ
  pub answer : AnswerBody
  pub body_is : body ≡ Answer group seq answer
  pub may : MayHear ways reach from group seq client answer

-- A client that goes raises nothing, and each answer that a client takes lowers what is owed by at least one.
pub record ClientsPay : Type 0 where
  pub go : (ways : Ways) (reach : Reach) (client : ClientState) → AreBounded ways → IsUnbegun reach client → client_turn_owes ways reach (started 1 client) ≤ client_owes ways reach client
  pub answer : (ways : Ways) (reach : Reach) (from seq : ℕ) (group : Draw) (answer : AnswerBody) (client : ClientState) → AreBounded ways → MayHear ways reach from group seq client answer
      → client_turn_owes ways reach (got from (Answer group seq answer) client) + 1 ≤ client_owes ways reach client + answer_owes ways group answer
