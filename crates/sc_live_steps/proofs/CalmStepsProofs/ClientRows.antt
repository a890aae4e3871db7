-- Rows of a client lower what is owed.
use Rattle.std.proofs.Common.{◌≡◌, ℕ, ◌+◌, ◌-◌, ◌*◌, ◌≤◌, Bool, true, false, cond, [], ◌∷◌, ◌++◌, length, Option, Some, None, refl, sym, ◌∙◌, ap, arith}
use Rattle.std.specs.Map.{lookup, set_value}
use Rattle.std.specs.Option.{option_map}
use Rattle.std.proofs.lemmas.Bool.{leb-true}
use Rattle.std.proofs.lemmas.List.{length_push}
use Rattle.std.proofs.lemmas.List.Sums.{sum_by-cons}
use Rattle.sc_base.specs.Definitions.{same_draw}
use Rattle.sc_node_table.specs.Values.{Draw, Reply, Answer}
use Rattle.sc_client_table.specs.lookup.LookupDefinitions.{KnownGroups, way_to, target_in, changed, preferring, passed_on, target_of}
use Rattle.sc_client_table.specs.declared.lookup.ways.Way.{Way}
use Rattle.sc_mail.specs.declared.bodies.AnswerBody.TheVariants as Says
use Rattle.sc_client_table.specs.table.TableDefinitions.{Client as ClientState, ClientStep, request_of, request_sent, started, redirected, got}
use Rattle.sc_law_walks.proofs.WalkLemmas.{SendsTo, sent_step, request_step, started_step, taken_step, redirected_step}
use Rattle.sc_live_steps.specs.calm.CalmDefinitions.{waiting_one, requests_owe, step_owes, AsksWithin, IsInTurn, ClientsLower, AreBounded, Ways, answer_owes, mail_owes}

module _ (ways : Ways) where
  -- ---- a request goes out

  -- what is owed where a request goes to a node that is so far at most
  abbrev IsWithin : ℕ → ClientState → ClientStep → Type 0
  IsWithin most client step = step_owes ways step ≤ requests_owe client + (28 + 2 * most)

  sends_owe : (most : ℕ) (client : ClientState) (group : Draw) → ((node : ℕ) → target_in group client.known ≡ Some node → ways.far group node ≤ most) → SendsTo client group (IsWithin most client)
  sends_owe most client group near = record {
    silent = omega arith;
    asks = λ target request t r. (
        let far = near target t in
        let s = sum_by-cons (mail_owes ways) (request_of client.me group target request) [] in
        omega (arith, far, s));
  }

  pub request_owes : (most : ℕ) (client : ClientState) → AsksWithin ways most client → step_owes ways (request_sent client) ≤ requests_owe client + (28 + 2 * most)
  request_owes most client near = request_step client (IsWithin most client) (omega arith) (λ group _. sends_owe most client group (λ node e. near group node e))

  -- the next request owes what it owed before it was begun, but for its way
  started_owes : (most seq : ℕ) (client : ClientState) → AsksWithin ways most client → length client.replies + 1 ≡ seq → step_owes ways (started seq client) ≤ 28 * (length client.requests - length client.replies) + 2 * most
  started_owes most seq client near turn = started_step client (λ (step : ClientStep). step_owes ways step ≤ 28 * (length client.requests - length client.replies) + 2 * most) seq
      (λ fact. (
      let low = leb-true seq (length client.requests) fact in
      let le = request_owes most (record client { waiting = Some seq }) near in
      omega (arith, low, le, turn)))
      (λ _. omega arith)

  -- ---- a reply

  pub replied_owes : (most seq : ℕ) (reply : Reply) (client : ClientState) → IsInTurn client → AsksWithin ways most client → client.waiting ≡ Some seq → step_owes ways (started (seq + 1) (record client { replies = client.replies ++ reply ∷ [] })) ≤ requests_owe client + 2 * most
  replied_owes most seq reply client turn near waits =
      let now = turn seq waits in
      let longer = length_push client.replies reply in
      let le = started_owes most (seq + 1) (record client { replies = client.replies ++ reply ∷ [] }) near (omega (arith, now, longer)) in
      let one = ap waiting_one waits in
      omega (arith, le, longer, one)

  value_owes : (most from seq : ℕ) (group : Draw) (reply : Reply) (client : ClientState) → IsInTurn client → AsksWithin ways most client → step_owes ways (got from (Answer group seq (Says.Value reply)) client) ≤ requests_owe client + 2 * most
  value_owes most from seq group reply client turn near =
      taken_step client from group seq (λ (step : ClientStep). step_owes ways step ≤ requests_owe client + 2 * most) (Says.Value reply) (λ _. omega arith) (λ waits. replied_owes most seq reply client turn near waits)

  -- ---- an answer names another node

  lookup_set : (test : Draw → Bool) (known : KnownGroups) (way other : Way) → lookup test known ≡ Some other → lookup test (set_value test known way) ≡ Some way
  lookup_set test [] way other e = cc
  lookup_set test (k ∷ ks) way other e = by (test k.0) refl e (lookup_set test ks way other)
    where
      by : (b : Bool) → test k.0 ≡ b → cond b (Some k.1) (lookup test ks) ≡ Some other → (lookup test ks ≡ Some other → lookup test (set_value test ks way) ≡ Some way) → lookup test (cond b ((k.0, way) ∷ ks) (k ∷ set_value test ks way)) ≡ Some way
      by true fact found more = ap (λ c. cond c (Some way) (lookup test ks)) fact
      by false fact found more = ap (λ c. cond c (Some k.1) (lookup test (set_value test ks way))) fact ∙ more found

  -- a group that is known is asked at the node that is preferred
  preferred_by : (group : Draw) (hint node : ℕ) (known : KnownGroups) (o : Option Way) → way_to group known ≡ o → option_map target_of (way_to group (changed (λ way. record way { preferred = Some hint }) group known o)) ≡ Some node → hint ≡ node
  preferred_by group hint node known None fact e = let none : option_map target_of (way_to group known) ≡ None = ap (option_map target_of) fact in cc
  preferred_by group hint node known (Some way) fact e =
      let found = lookup_set (same_draw group) known (record way { preferred = Some hint }) way fact in
      let same : Some hint ≡ Some node = sym (ap (option_map target_of) found) ∙ e in
      cc

  abbrev Lowers : Draw → Option ℕ → ClientState → ClientStep → Type 0
  Lowers group hint client step = step_owes ways step + 1 ≤ requests_owe client + answer_owes ways group (Says.NotLeader hint)

  pub redirected_owes : (hint : Option ℕ) (group : Draw) (client : ClientState) → AreBounded ways → step_owes ways (redirected group (Says.NotLeader hint) client) + 1 ≤ requests_owe client + answer_owes ways group (Says.NotLeader hint)
  redirected_owes (Some hint) group client bounded =
      let after : ClientState = record client { known = preferring group hint client.known } in
      let le = sent_step after (IsWithin (ways.far group hint) after) group (sends_owe (ways.far group hint) after group
      (λ node e. (let same = ap (ways.far group) (preferred_by group hint node client.known (way_to group client.known) refl e) in omega (arith, same)))) in
      omega (arith, le)
  redirected_owes None group client bounded =
      let after : ClientState = record client { known = passed_on group client.known } in
      let le = sent_step after (IsWithin ways.most after) group (sends_owe ways.most after group (λ node e. bounded group node)) in
      omega (arith, le)

  hinted_owes : (hint : Option ℕ) (from seq : ℕ) (group : Draw) (client : ClientState) → AreBounded ways → step_owes ways (got from (Answer group seq (Says.NotLeader hint)) client) + 1 ≤ requests_owe client + answer_owes ways group (Says.NotLeader hint)
  hinted_owes hint from seq group client bounded =
      taken_step client from group seq (Lowers group hint client) (Says.NotLeader hint) (λ _. still hint)
      (λ _. redirected_step client from group seq (Lowers group hint client) (Says.NotLeader hint) (λ reply e. cc) (λ _. still hint) (λ _. redirected_owes hint group client bounded))
    where
      still : (o : Option ℕ) → Lowers group o client (client, [])
      still None = omega arith
      still (Some node) = omega arith

-- A reply, and an answer that names another node or none, lower what is owed at their client, and a client that goes raises it by the way of its first request at most.
pub clients : ClientsLower
clients = record {
  go = λ ways most client idle none near. (let zero_ = ap length none in let le = started_owes ways most 1 client near (omega (arith, zero_)) in let one = ap waiting_one idle in omega (arith, le, zero_, one));
  value = λ ways most from seq group reply client turn near. (let le = value_owes ways most from seq group reply client turn near in omega (arith, le));
  not_leader = λ ways from seq group hint client bounded. hinted_owes ways hint from seq group client bounded;
}
