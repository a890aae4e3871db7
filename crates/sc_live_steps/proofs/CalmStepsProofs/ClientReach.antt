-- What a client owes with what it owes for groups that it does not know: each answer lowers it.
use Rattle.std.proofs.Common.{◌≡◌, ℕ, zero, suc, ◌+◌, ◌*◌, ◌≤◌, ltb, Bool, true, false, cond, List, [], ◌∷◌, ◌++◌, length, sum_by, Option, Some, None, refl, ◌∙◌, ap, arith}
use Rattle.std.specs.Prelude.{is_some}
use Rattle.std.specs.Map.{set_value}
use Rattle.std.proofs.lemmas.Bool.{leb-true, leb-false, lt-ltb, le-ltb, cond-true, cond-false}
use Rattle.std.proofs.lemmas.List.{length_push}
use Rattle.std.proofs.lemmas.List.Sums.{sum_by-cons, sum_by_push}
use Rattle.std.proofs.Math.Nat.{suc-mul}
use Rattle.sc_base.specs.Definitions.{Each, same_draw, Arc, end_of}
use Rattle.sc_node_table.specs.Values.{Draw, Reply, Link, Route, AnswerBody, Answer}
use Rattle.sc_base.proofs.Lemmas.{draw_is}
use Rattle.sc_client_table.specs.lookup.LookupDefinitions.{KnownGroups, way_to, changed, preferring, passed_on, starting, group_learnt, learnt_from_not_mine, learnt_from_gone, new_way, next_target}
use Rattle.sc_client_table.specs.declared.lookup.ways.Way.{Way}
use Rattle.sc_mail.specs.declared.bodies.AnswerBody.TheVariants as Says
use Rattle.sc_client_table.proofs.LookupProofs.KnownLemmas.{set_value-known}
use Rattle.sc_client_table.specs.table.TableDefinitions.{Client as ClientState, ClientStep, sent_to, request_sent, started, redirected, got}
use Rattle.sc_law_walks.proofs.WalkLemmas.{started_step, sent_same, request_same, waits_so, asked_so, answer_step}
use Rattle.sc_live_steps.specs.calm.CalmDefinitions.{waiting_one, IsInTurn, unknown_one, unknown, AreBounded, Ways, answer_owes, Reach, sent_on, search_owes, client_owes, client_turn_owes, IsUnbegun, LearnsOf, LeavesFor, MayHear, ClientsPay}
use Rattle.sc_live_steps.proofs.CalmStepsProofs.ClientRows.{request_owes, replied_owes, redirected_owes}
use Rattle.sc_live_steps.proofs.CalmStepsProofs.TeachingAnswers.{told_one, gone_one, gone_known}

-- ---- products

times_le : (k a b : ℕ) → a ≤ b → a * k ≤ b * k
times_le k zero b le = let none : 0 * k ≡ 0 = grind arith in omega (arith, none)
times_le k (suc a) zero le = absurd (omega (arith, le))
times_le k (suc a) (suc b) le =
    let more = times_le k a b (omega (arith, le)) in
    let x : suc a * k ≡ a * k + k = suc-mul a k in
    let y : suc b * k ≡ b * k + k = suc-mul b k in
    omega (arith, more, x, y)

times_less : (k a b : ℕ) → a + 1 ≤ b → a * k + k ≤ b * k
times_less k a b le =
    let more = times_le k (suc a) b (omega (arith, le)) in
    let x : suc a * k ≡ a * k + k = suc-mul a k in
    omega (arith, more, x)

module _ (reach : Reach) where
  -- ---- how often a client may be sent on

  abbrev ends_of : KnownGroups → ℕ
  ends_of known = sum_by (λ (entry : Draw × Way). reach.distance entry.0) known

  ends_set : (test : Draw → Bool) (known : KnownGroups) (way : Way) → ends_of (set_value test known way) ≡ ends_of known
  ends_set test [] way = refl
  ends_set test (k ∷ ks) way = by (test k.0) (ends_set test ks way)
    where
      by : (b : Bool) → ends_of (set_value test ks way) ≡ ends_of ks → ends_of (cond b ((k.0, way) ∷ ks) (k ∷ set_value test ks way)) ≡ ends_of (k ∷ ks)
      by true more =
          let a = sum_by-cons (λ (entry : Draw × Way). reach.distance entry.0) (k.0, way) ks in
          let b = sum_by-cons (λ (entry : Draw × Way). reach.distance entry.0) k ks in
          omega (arith, a, b)
      by false more =
          let a = sum_by-cons (λ (entry : Draw × Way). reach.distance entry.0) k (set_value test ks way) in
          let b = sum_by-cons (λ (entry : Draw × Way). reach.distance entry.0) k ks in
          omega (arith, a, b, more)

  ends_changed : (change : Way → Way) (group : Draw) (known : KnownGroups) (o : Option Way) → ends_of (changed change group known o) ≡ ends_of known
  ends_changed change group known None = refl
  ends_changed change group known (Some way) = ends_set (same_draw group) known (change way)

  -- one more that stands adds no end
  ends_learnt : (group : Draw) (lo : ℕ) (members : List ℕ) (known : KnownGroups) → reach.distance group ≡ 0 → ends_of (group_learnt group lo members known) ≡ ends_of known
  ends_learnt group lo members known none = by (is_some (way_to group known))
    where
      by : (b : Bool) → ends_of (cond b (starting group lo known) (known ++ (group, new_way lo members) ∷ [])) ≡ ends_of known
      by true = ends_changed (λ way. record way { lo = lo }) group known (way_to group known)
      by false = let s = sum_by_push (λ (entry : Draw × Way). reach.distance entry.0) known (group, new_way lo members) in omega (arith, s, none)

  ends_reported : (group : Draw) (arc : Arc) (succ : Link) (known : KnownGroups) → reach.distance succ.group ≡ 0 → ends_of (learnt_from_not_mine group arc succ known) ≡ ends_of known
  ends_reported group arc succ known none =
      ends_learnt succ.group (end_of arc) succ.members (starting group arc.lo known) none ∙ ends_changed (λ way. record way { lo = arc.lo }) group known (way_to group known)

  unknown_same : (known after : KnownGroups) → ((group : Draw) → is_some (way_to group after) ≡ is_some (way_to group known)) → (groups : List Draw) → unknown groups after ≡ unknown groups known
  unknown_same known after same [] = refl
  unknown_same known after same (group ∷ groups) =
      let one : unknown_one after group ≡ unknown_one known group = ap (λ b. cond b 0 1) (same group) in
      let rest = unknown_same known after same groups in
      let a = sum_by-cons (unknown_one after) group groups in
      let b = sum_by-cons (unknown_one known) group groups in
      omega (arith, one, rest, a, b)

  -- another value of a known group changes nothing
  changed_same : (change : Way → Way) (group : Draw) (known : KnownGroups) (o : Option Way) → sent_on reach (changed change group known o) ≡ sent_on reach known
  changed_same change group known None = refl
  changed_same change group known (Some way) =
      let a = unknown_same known (set_value (same_draw group) known (change way)) (λ other. set_value-known (same_draw other) (same_draw group) known (change way)) reach.standing in
      let b = ends_set (same_draw group) known (change way) in
      omega (arith, a, b)

  -- one that knows a group alone that does not stand knows none that stands
  all_unknown : (group : Draw) (way : Way) (after : KnownGroups) (groups : List Draw) → Each (λ other. other ≡ group → ⊥) groups → unknown groups after ≤ unknown groups ((group, way) ∷ [])
  all_unknown group way after [] apart = omega arith
  all_unknown group way after (other ∷ groups) apart =
      let more = all_unknown group way after groups apart.1 in
      let here : unknown_one ((group, way) ∷ []) other ≡ 1 = none_known (same_draw other group) refl in
      let low = most_one (is_some (way_to other after)) in
      let a = sum_by-cons (unknown_one after) other groups in
      let b = sum_by-cons (unknown_one ((group, way) ∷ [])) other groups in
      omega (arith, more, here, low, a, b)
    where
      most_one : (b : Bool) → cond b 0 1 ≤ 1
      most_one true = omega arith
      most_one false = omega arith

      none_known : (b : Bool) → same_draw other group ≡ b → ◌≡◌ {A = ℕ} (cond (is_some (cond b (Some way) None)) 0 1) 1
      none_known true fact = absurd (apart.0 (draw_is other group fact))
      none_known false fact = refl

  leaves_less : (group : Draw) (into : Route) (client : ClientState) → LeavesFor reach group into.group client → sent_on reach (learnt_from_gone group into client.known) + 1 ≤ sent_on reach client.known
  leaves_less group into client fact =
      let now = ap (sent_on reach) (gone_known group into fact.way client.known fact.known) in
      let was = ap (sent_on reach) fact.known in
      let few = all_unknown group fact.way ((into.group, new_way into.lo into.members) ∷ []) reach.standing fact.gone in
      let a = sum_by-cons (λ (entry : Draw × Way). reach.distance entry.0) (into.group, new_way into.lo into.members) [] in
      let b = sum_by-cons (λ (entry : Draw × Way). reach.distance entry.0) (group, fact.way) [] in
      let near = fact.nearer in
      omega (arith, now, was, few, a, b, near)

  module _ (far : ℕ) where
    -- ---- a request that goes out changes nothing of that

    asked_search : (client : ClientState) (asked : Option (Draw × ℕ)) → search_owes far reach (record client { asked = asked }) client.waiting ≡ search_owes far reach client client.waiting
    asked_search client asked = by client.waiting
      where
        by : (o : Option ℕ) → search_owes far reach (record client { asked = asked }) o ≡ search_owes far reach client o
        by None = refl
        by (Some seq) = refl

    to_group_search : (group : Draw) (client : ClientState) → search_owes far reach (sent_to group client).0 (sent_to group client).0.waiting ≡ search_owes far reach client client.waiting
    to_group_search group client = sent_same (λ (c : ClientState). search_owes far reach c c.waiting) asked_search group client

    request_search : (client : ClientState) → search_owes far reach (request_sent client).0 (request_sent client).0.waiting ≡ search_owes far reach client client.waiting
    request_search client = request_same (λ (c : ClientState). search_owes far reach c c.waiting) asked_search client

    -- ---- nor does another way to a known group

    same_search : (client : ClientState) (known : KnownGroups) (o : Option ℕ) → sent_on reach known ≡ sent_on reach client.known → search_owes far reach (record client { known = known }) o ≡ search_owes far reach client o
    same_search client known None same = refl
    same_search client known (Some seq) same = ap (λ n. n * (2 + 2 * far)) same

    -- one that may be sent on once less owes that less
    less_search : (client : ClientState) (known : KnownGroups) (o : Option ℕ) (seq : ℕ) → o ≡ Some seq → sent_on reach known + 1 ≤ sent_on reach client.known
        → search_owes far reach (record client { known = known }) o + (2 + 2 * far) ≤ search_owes far reach client o
    less_search client known None seq waits less = absurd (cc)
    less_search client known (Some number) seq waits less = times_less (2 + 2 * far) (sent_on reach known) (sent_on reach client.known) less

-- ---- the rows of a client

module _ (ways : Ways) (reach : Reach) (client : ClientState) (bounded : AreBounded ways) where
  abbrev search : ClientState → ℕ
  search c = search_owes ways.most reach c c.waiting

  -- ---- a reply

  replied_search : (seq : ℕ) (reply : Reply) → IsInTurn client → client.waiting ≡ Some seq → search (started (seq + 1) (record client { replies = client.replies ++ reply ∷ [] })).0 ≤ search client
  replied_search seq reply turn waits =
      started_step after (λ (step : ClientStep). search step.0 ≤ search client) (seq + 1)
      (λ _. (
      let same = request_search reach ways.most (record after { waiting = Some (seq + 1) }) in
      let was = ap (search_owes ways.most reach client) waits in
      omega (arith, same, was)))
      (λ more. (
      let past = leb-false (seq + 1) (length client.requests) more in
      let longer = length_push client.replies reply in
      let now = turn seq waits in
      let none = cond-false (ltb (length (client.replies ++ reply ∷ [])) (length client.requests)) (reach.most * (2 + 2 * ways.most) + 2 * ways.most) 0 (le-ltb (length (client.replies ++ reply ∷ [])) (length client.requests) (omega (arith, past, longer, now))) in
      omega (arith, none)))
    where
      after : ClientState
      after = record client { replies = client.replies ++ reply ∷ [] }

  -- ---- an answer names another node

  redirected_search : (group : Draw) (hint : Option ℕ) → search (redirected group (Says.NotLeader hint) client).0 ≤ search client
  redirected_search group (Some hint) =
      let known = preferring group hint client.known in
      let sent = to_group_search reach ways.most group (record client { known = known }) in
      let same = same_search reach ways.most client known client.waiting (changed_same reach (λ way. record way { preferred = Some hint }) group client.known (way_to group client.known)) in
      omega (arith, sent, same)
  redirected_search group None =
      let known = passed_on group client.known in
      let sent = to_group_search reach ways.most group (record client { known = known }) in
      let same = same_search reach ways.most client known client.waiting (changed_same reach (λ way. record way { preferred = Some (next_target way) }) group client.known (way_to group client.known)) in
      omega (arith, sent, same)

  -- ---- an answer names another group

  not_mine_pays : (seq : ℕ) (group : Draw) (arc : Arc) (succ : Link) → client.waiting ≡ Some seq → LearnsOf reach succ.group client → client_turn_owes ways reach (request_sent (record client { known = learnt_from_not_mine group arc succ client.known })) + 1 ≤ client_owes ways reach client + 27
  not_mine_pays seq group arc succ waits fact =
      let reported = told_one ways reach.standing group arc succ client bounded fact.among fact.none in
      let owes = reported.0 in
      let few = reported.1 in
      let knows = request_same (λ (c : ClientState). unknown reach.standing c.known) (λ c a. refl) after in
      let ends = ends_reported reach group arc succ client.known fact.ends in
      let less = less_search reach ways.most client (learnt_from_not_mine group arc succ client.known) client.waiting seq waits (omega (arith, few, knows, ends)) in
      let same = request_search reach ways.most after in
      omega (arith, owes, less, same)
    where
      after : ClientState
      after = record client { known = learnt_from_not_mine group arc succ client.known }

  gone_pays : (seq : ℕ) (group : Draw) (into : Route) → client.waiting ≡ Some seq → LeavesFor reach group into.group client → client_turn_owes ways reach (request_sent (record client { known = learnt_from_gone group into client.known })) + 1 ≤ client_owes ways reach client + 27
  gone_pays seq group into waits fact =
      let owes = (gone_one ways group into fact.way client bounded fact.known).0 in
      let less = less_search reach ways.most client (learnt_from_gone group into client.known) client.waiting seq waits (leaves_less reach group into client fact) in
      let same = request_search reach ways.most (record client { known = learnt_from_gone group into client.known }) in
      omega (arith, owes, less, same)

  -- ---- any answer

  abbrev Pays : Draw → AnswerBody → ClientStep → Type 0
  Pays group answer step = client_turn_owes ways reach step + 1 ≤ client_owes ways reach client + answer_owes ways group answer

  ignored_pays : (group : Draw) (answer : AnswerBody) → Pays group answer (client, [])
  ignored_pays group (Says.Value reply) = omega arith
  ignored_pays group (Says.NotLeader (Some hint)) = omega arith
  ignored_pays group (Says.NotLeader None) = omega arith
  ignored_pays group (Says.NotMine arc succ) = omega arith
  ignored_pays group (Says.Gone into) = omega arith
  ignored_pays group (Says.Stale last) = omega arith

  answer_pays : (from seq : ℕ) (group : Draw) (answer : AnswerBody) → MayHear ways reach from group seq client answer → Pays group answer (got from (Answer group seq answer) client)
  answer_pays from seq group answer may = answer_step client from group seq (λ (a : AnswerBody) (step : ClientStep). MayHear ways reach from group seq client a → Pays group a step) (λ a i m. ignored_pays group a) (record {
    replied = λ reply waits m. (let owes = replied_owes ways 0 seq reply client m.0 m.1 waits in let low = replied_search seq reply m.0 waits in omega (arith, owes, low));
    hinted = λ hint waits asked m. (let owes = redirected_owes ways (Some hint) group client bounded in let low = redirected_search group (Some hint) in omega (arith, owes, low));
    turned = λ waits asked m. (let owes = redirected_owes ways None group client bounded in let low = redirected_search group None in omega (arith, owes, low));
    not_mine = λ arc succ waits asked m. not_mine_pays seq group arc succ waits (m (waits_so client.waiting seq waits, asked_so client.asked from group asked));
    gone = λ into waits asked m. gone_pays seq group into waits (m (waits_so client.waiting seq waits, asked_so client.asked from group asked));
  }) answer may

  -- ---- one that goes

  go_pays : IsUnbegun reach client → client_turn_owes ways reach (started 1 client) ≤ client_owes ways reach client
  go_pays fact =
      let idle = ap waiting_one fact.idle in
      let was = ap (search_owes ways.most reach client) fact.idle in
      started_step client (λ (step : ClientStep). client_turn_owes ways reach step ≤ client_owes ways reach client) 1
      (λ some. (
      let one = leb-true 1 (length client.requests) some in
      let none = ap length fact.none in
      let owes = request_owes ways ways.most begun (λ group node e. bounded group node) in
      let same = request_search reach ways.most begun in
      let near = times_le (2 + 2 * ways.most) (sent_on reach client.known) reach.most fact.near in
      let left = cond-true (ltb (length client.replies) (length client.requests)) (reach.most * (2 + 2 * ways.most) + 2 * ways.most) 0 (lt-ltb (length client.replies) (length client.requests) (omega (arith, none, one))) in
      omega (arith, one, none, owes, idle, same, near, was, left)))
      (λ _. omega (arith, idle, was))
    where
      begun : ClientState
      begun = record client { waiting = Some 1 }

-- A client that goes raises nothing that is owed, and each answer lowers it, where a client owes besides for each group that stands and that it does not know, and for each end by which a group that it knows is away from one that stands.
pub clients_pay : ClientsPay
clients_pay = record {
  go = λ ways reach client bounded fact. go_pays ways reach client bounded fact;
  answer = λ ways reach from seq group answer client bounded may. answer_pays ways reach client bounded from seq group answer may;
}
