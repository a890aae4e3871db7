-- What a text that is a scenario gives.
use Rattle.std.proofs.Common.{◌≡◌, ◌<◌, ◌≤◌, ◌+◌, ◌&&◌, ◌||◌, eqb, ltb, leb, not, ℕ, List, [], ◌∷◌, ◌++◌, drop, length, Some, Bool, true, false, if◌then◌else◌, nat_lt, refl, sym, ap, subst, inl, inr, arith, true≢false, codes}
use Rattle.std.specs.Prelude.{Result, Ok, Err, ⊤, ◌⊎◌}
use Rattle.std.specs.List.{All, AllPairs}
use Rattle.std.specs.Result.{result_ok}
use Rattle.std.proofs.lemmas.Bool.{and_parts, or_parts, eqb-true, eqb-false, leb-true, leb-false}
use Rattle.std.proofs.lemmas.List.{length_push}
use Rattle.std.proofs.lemmas.Option.{none-some, same_Some}
use Rattle.std.proofs.lemmas.List.Elements.{All-nil, All-cons, All-push, All-head, All-tail}
use Rattle.sc_base.specs.Definitions.{most_nodes, most_clients, most_requests, number_of}
use Rattle.sc_base.specs.declared.ops.Op.{Op}
use Rattle.sc_words.specs.declared.commands.orders.Order.{Order}
use Rattle.sc_texts.specs.lines.Definitions.{or_reason, then_on, nth, words_of, count_in, is_too_long, lines_of, trimmed, is_skipped, has_bad_byte, most_lines, kind_of, phase_of, is_inner, has_count, request_in}
use Rattle.sc_scenario.specs.scenario.Definitions.{nodes_with, has_repeat, set_of, is_client, line_in, order_in, last_position, group_in, statement_in, phase_so_far, may_follow, is_in_place, is_order_known, is_line_known, is_above, most_groups, most_members, with_group_line, has_stranger, group_taken, client_place, with_client, with_op, client_taken, request_taken, with_sched_line, line_of_order, with_order, line_taken, order_line_taken, taken_outside, taken_within, begun, are_two, header_read, said, words_read, is_fresh, line_read, scenario_by, reading_ended, text_ended, going_on, lines_read, verdict_of, IsWritten, IsBounded, IsBoundedGroup, IsShortOp, IsBoundedClient, IsBoundedLine, IsUpTo, ValidScenariosAreBounded}
use Rattle.sc_texts.specs.declared.lines.reasons.Reason.{Reason}
use Rattle.sc_texts.specs.declared.lines.reasons.Reason.TheVariants.{MissingHeader, BadByte, UnknownWord, OutOfPlace, WrongCount, BadNumber, UnknownName, Repeated, BadBoundary, TooMany, UnendedClient, MissingPart, TooLarge}
use Rattle.sc_texts.specs.declared.lines.kinds.Kind.{Kind}
use Rattle.sc_texts.specs.declared.lines.kinds.Kind.TheVariants.{Header, Nodes, Group, Policy, Client, End, Asking, Playing, GivingOrder}
use Rattle.sc_scenario.specs.declared.scenario.statements.Statement.{Statement}
use Rattle.sc_scenario.specs.declared.scenario.statements.Statement.TheVariants.{NodeCount, NewGroup, WithPolicy, NewClient, Ask, SectionEnd, Play, GiveOrder}
use Rattle.sc_scenario.specs.declared.scenario.drafts.Draft.{Draft}
use Rattle.sc_scenario.specs.declared.scenario.drafts.GroupLine.{GroupLine}
use Rattle.sc_scenario.specs.declared.scenario.drafts.Reading.{Reading}
use Rattle.sc_scenario.specs.declared.scenario.drafts.Reading.TheVariants.{Fresh, Outside, Within}
use Rattle.sc_scenario.specs.declared.scenario.reading.ScenarioError.{ScenarioError}
use Rattle.sc_scenario.specs.declared.scenario.reading.ScenarioError.TheVariants.{Bad}
use Rattle.sc_scenario.specs.declared.scenario.scenarios.Asks.{Asks}
use Rattle.sc_scenario.specs.declared.scenario.scenarios.Scenario.{Scenario}
use Rattle.sc_scenario.specs.declared.scenario.scenarios.SchedLine.{SchedLine}
use Rattle.sc_texts.proofs.LinesProofs.Lemmas.{is_up_to, counted}
use Rattle.sc_scenario.proofs.ScenarioProofs.Results.{err_ok, same_Ok, or_reason_ok, after_ok, passed, met}
use Rattle.sc_scenario.proofs.ScenarioProofs.Rosters.{roster_one}
use Rattle.sc_scenario.proofs.ScenarioProofs.Short.{Each-push, request_short}
use Rattle.sc_scenario.proofs.ScenarioProofs.Clients.{Below, all_inserted, rising_with}
use Rattle.sc_scenario.proofs.ScenarioProofs.Made.{made_bounded}
use Rattle.sc_scenario.proofs.ScenarioProofs.Spelled.{joined_is, joined_all, nodes_up, no_stranger, node_is, Played, line_is, Ordered, order_is}
use Rattle.sc_scenario.proofs.ScenarioProofs.Starts.{Lower, above_push}

-- ---- what was read so far

abbrev IsVersion : ℕ → Type 0
IsVersion version = (version ≡ 1) ⊎ (version ≡ 2)

record IsDraft (draft : Draft) : Type 0 where
  version : IsVersion draft.version
  nodes : draft.nodes ≤ most_nodes
  groups : All (IsBoundedGroup draft.nodes) draft.groups
  few : length draft.groups ≤ most_groups
  steps : AllPairs Lower draft.groups
  clients : All IsBoundedClient draft.clients
  rising : AllPairs Below draft.clients
  lines : All (IsBoundedLine draft.nodes draft.clients) draft.lines

-- a section stands before the schedule, and is the only one of its client
abbrev IsReading : Reading → Type 0
IsReading Fresh = ⊤
IsReading (Outside draft) = IsDraft draft
IsReading (Within draft asks) = IsDraft draft × (length draft.lines ≡ 0) × (is_client draft.clients asks.client ≡ false) × IsBoundedClient asks

none_of : {X : Type 0} (P : X → Type 0) (xs : List X) → length xs ≡ 0 → All P xs
none_of P xs none k d within = absurd (omega (arith, none, within))

no_pairs : {X : Type 0} (R : X → X → Type 0) (xs : List X) → length xs ≡ 0 → AllPairs R xs
no_pairs R xs none i j d lt within = absurd (omega (arith, none, within))

first_holds : (a b c d e f : Bool) → (a && b && c && d && e && f) ≡ true → a ≡ true
first_holds true b c d e f h = refl
first_holds false b c d e f h = absurd (true≢false (sym h))

not_later : (last phase : ℕ) → may_follow last phase ≡ true → last ≤ phase
not_later last phase e =
    let h = first_holds (leb last phase) (not (eqb phase 0)) (not (eqb last 1 && eqb phase 1)) (not (eqb last 3 && eqb phase 3)) (ltb phase 2 || leb 1 last) (ltb phase 3 || leb 2 last) e in
    leb-true last phase h

before_lines : (lines clients policy groups nodes : Bool) → (if not lines then 5 else if not clients then 4 else if policy then 3 else if not groups then 2 else if not nodes then 1 else 0) ≤ 4 → lines ≡ true
before_lines true clients policy groups nodes le = refl
before_lines false clients policy groups nodes le = absurd (omega arith)

before_groups : (lines clients policy groups nodes : Bool) → (if not lines then 5 else if not clients then 4 else if policy then 3 else if not groups then 2 else if not nodes then 1 else 0) ≤ 1 → (lines ≡ true) × (clients ≡ true) × (groups ≡ true)
before_groups false clients policy groups nodes le = absurd (omega arith)
before_groups true false policy groups nodes le = absurd (omega arith)
before_groups true true true groups nodes le = absurd (omega arith)
before_groups true true false false nodes le = absurd (omega arith)
before_groups true true false true nodes le = (refl, refl, refl)

no_lines : (draft : Draft) → phase_so_far draft ≤ 4 → length draft.lines ≡ 0
no_lines draft le =
    eqb-true (length draft.lines) 0 (before_lines (eqb (length draft.lines) 0) (eqb (length draft.clients) 0) draft.policy (eqb (length draft.groups) 0) (eqb draft.nodes 0) le)

record IsEmpty (draft : Draft) : Type 0 where
  lines : length draft.lines ≡ 0
  clients : length draft.clients ≡ 0
  groups : length draft.groups ≡ 0

empty : (draft : Draft) → phase_so_far draft ≤ 1 → IsEmpty draft
empty draft le =
    let h = before_groups (eqb (length draft.lines) 0) (eqb (length draft.clients) 0) draft.policy (eqb (length draft.groups) 0) (eqb draft.nodes 0) le in
    record { lines = eqb-true (length draft.lines) 0 h.0; clients = eqb-true (length draft.clients) 0 h.1; groups = eqb-true (length draft.groups) 0 h.2 }

-- ---- outside

-- the number of nodes, before anything that names them
counted_nodes : (draft : Draft) (n : ℕ) → n ≤ most_nodes → IsEmpty draft → IsDraft draft → IsDraft (record draft { nodes = n })
counted_nodes draft n up none is = record {
  version = is.version;
  nodes = up;
  groups = none_of (IsBoundedGroup n) draft.groups none.groups;
  few = is.few;
  steps = is.steps;
  clients = is.clients;
  rising = is.rising;
  lines = none_of (IsBoundedLine n draft.clients) draft.lines none.lines;
}

grouped : (draft : Draft) (line : GroupLine) → length draft.groups < most_groups → is_above draft.groups line.lo ≡ true → IsBoundedGroup draft.nodes line → IsDraft draft → IsDraft (record draft { groups = draft.groups ++ line ∷ [] })
grouped draft line room above good is = record {
  version = is.version;
  nodes = is.nodes;
  groups = All-push (IsBoundedGroup draft.nodes) draft.groups line is.groups good;
  few = omega (arith, room, length_push draft.groups line);
  steps = above_push draft.groups line is.steps above;
  clients = is.clients;
  rising = is.rising;
  lines = is.lines;
}

lined : (draft : Draft) (line : SchedLine) (orders : ℕ) → IsBoundedLine draft.nodes draft.clients line → IsDraft draft → IsDraft (record draft { lines = draft.lines ++ line ∷ []; orders = orders })
lined draft line orders good is = record {
  version = is.version;
  nodes = is.nodes;
  groups = is.groups;
  few = is.few;
  steps = is.steps;
  clients = is.clients;
  rising = is.rising;
  lines = All-push (IsBoundedLine draft.nodes draft.clients) draft.lines line is.lines good;
}

policy_read : (draft : Draft) → IsDraft draft → IsDraft (record draft { policy = true })
policy_read draft is = record {
  version = is.version;
  nodes = is.nodes;
  groups = is.groups;
  few = is.few;
  steps = is.steps;
  clients = is.clients;
  rising = is.rising;
  lines = is.lines;
}

pub turned : (b : Bool) → not b ≡ false → b ≡ true
turned true h = refl
turned false h = absurd (true≢false h)

group_taken_is : (draft : Draft) (lo first : ℕ) (others : List ℕ) (more : Reading) → lo ≤ last_position → IsUpTo most_nodes first → All (IsUpTo most_nodes) others → IsDraft draft
    → group_taken draft lo first others ≡ Ok more → IsReading more
group_taken_is draft lo first others more low up all is e =
    let a = passed (has_stranger draft.nodes (first ∷ others)) UnknownName _ more e in
    let b = passed (has_repeat (first ∷ others)) Repeated _ more a.1 in
    let c = passed (not (is_above draft.groups lo)) BadBoundary _ more b.1 in
    let d = passed (leb most_groups (length draft.groups) || leb most_members (length others)) TooMany (Ok (Outside (with_group_line draft lo (set_of first others)))) more c.1 in
    let parts = or_parts (leb most_groups (length draft.groups)) (leb most_members (length others)) d.0 in
    let known = no_stranger draft.nodes (first ∷ others) a.0 (All-cons (IsUpTo most_nodes) first others up all) in
    let good : IsBoundedGroup draft.nodes (record { lo = lo; members = set_of first others }) = record {
      lo_in = omega (arith, low);
      roster = joined_is others (first ∷ []) (roster_one first);
      members_in = joined_all (IsUpTo draft.nodes) others (first ∷ []) (All-cons (IsUpTo draft.nodes) first [] (All-head (IsUpTo draft.nodes) first others known) (All-nil (IsUpTo draft.nodes))) (All-tail (IsUpTo draft.nodes) first others known);
    } in
    subst IsReading (same_Ok _ more d.1)
    (grouped draft (record { lo = lo; members = set_of first others }) (leb-false most_groups (length draft.groups) parts.0) (turned (is_above draft.groups lo) c.0) good is)

group_is : (draft : Draft) (words : List (List ℕ)) (statement : Statement) (more : Reading) → IsDraft draft → group_in words ≡ Ok statement → taken_outside draft statement ≡ Ok more → IsReading more
group_is draft words statement more is e t =
    let lo = or_reason_ok (number_of (nth words 1) last_position) BadNumber (λ lo. or_reason (count_in most_nodes (nth words 2)) BadNumber (λ first. or_reason (nodes_with [] (drop 3 words)) BadNumber (λ others. Ok (NewGroup lo first others)))) statement e in
    let first = or_reason_ok (count_in most_nodes (nth words 2)) BadNumber (λ first. or_reason (nodes_with [] (drop 3 words)) BadNumber (λ others. Ok (NewGroup lo.0 first others))) statement lo.2 in
    let others = or_reason_ok (nodes_with [] (drop 3 words)) BadNumber (λ others. Ok (NewGroup lo.0 first.0 others)) statement first.2 in
    let taken : group_taken draft lo.0 first.0 others.0 ≡ Ok more = subst (λ s. taken_outside draft s ≡ Ok more) (sym (same_Ok (NewGroup lo.0 first.0 others.0) statement others.2)) t in
    group_taken_is draft lo.0 first.0 others.0 more (is_up_to last_position (nth words 1) lo.0 lo.1) (counted most_nodes (nth words 2) first.0 first.1)
    (nodes_up (drop 3 words) [] others.0 (All-nil (IsUpTo most_nodes)) others.1) is taken

client_is : (draft : Draft) (client : ℕ) (more : Reading) → IsUpTo most_clients client → length draft.lines ≡ 0 → IsDraft draft → client_taken draft client ≡ Ok more → IsReading more
client_is draft client more up none is e =
    let p = passed (is_client draft.clients client) Repeated (Ok (Within draft (record { client = client; ops = [] }))) more e in
    subst IsReading (same_Ok _ more p.1) (is, none, p.0, (up, omega arith, tt))

played_is : (draft : Draft) (line : SchedLine) (more : Reading) → Played draft.nodes draft.clients line → IsDraft draft → line_taken draft line ≡ Ok more → IsReading more
played_is draft line more good is e =
    let m = met (is_line_known draft.nodes draft.clients line) UnknownName (Ok (Outside (with_sched_line draft line))) more e in
    subst IsReading (same_Ok _ more m.1) (lined draft line draft.orders (good m.0) is)

told_is : (draft : Draft) (node : ℕ) (word : List ℕ) (order : Order) (more : Reading) → count_in most_nodes word ≡ Some node → Ordered draft.nodes order → IsDraft draft → order_line_taken draft (line_of_order draft node order) ≡ Ok more → IsReading more
told_is draft node word order more number good is e =
    let m = met (is_line_known draft.nodes draft.clients (line_of_order draft node order)) UnknownName (Ok (Outside (with_order draft (line_of_order draft node order)))) more e in
    let parts = and_parts (leb node draft.nodes) (is_order_known draft.nodes order) m.0 in
    subst IsReading (same_Ok _ more m.1) (lined draft (line_of_order draft node order) (draft.orders + 1) (node_is draft.nodes word node number parts.0, good parts.1, omega arith) is)

outside_is : (draft : Draft) (k : Kind) (words : List (List ℕ)) (statement : Statement) (more : Reading) → IsDraft draft → may_follow (phase_so_far draft) (phase_of k) ≡ true
    → statement_in k words ≡ Ok statement → taken_outside draft statement ≡ Ok more → IsReading more
outside_is draft Header words statement more is place e t = absurd (err_ok OutOfPlace statement e)
outside_is draft Nodes words statement more is place e t =
    let g = or_reason_ok (count_in most_nodes (nth words 1)) BadNumber (λ nodes. Ok (NodeCount nodes)) statement e in
    let taken : Ok (Outside (record draft { nodes = g.0 })) ≡ Ok more = subst (λ s. taken_outside draft s ≡ Ok more) (sym (same_Ok (NodeCount g.0) statement g.2)) t in
    subst IsReading (same_Ok _ more taken) (counted_nodes draft g.0 (counted most_nodes (nth words 1) g.0 g.1).1 (empty draft (not_later (phase_so_far draft) 1 place)) is)
outside_is draft Group words statement more is place e t = group_is draft words statement more is e t
outside_is draft Policy words statement more is place e t =
    let taken : Ok (Outside (record draft { policy = true })) ≡ Ok more = subst (λ s. taken_outside draft s ≡ Ok more) (sym (same_Ok WithPolicy statement e)) t in
    subst IsReading (same_Ok _ more taken) (policy_read draft is)
outside_is draft Client words statement more is place e t =
    let g = or_reason_ok (count_in most_clients (nth words 1)) BadNumber (λ client. Ok (NewClient client)) statement e in
    let taken : client_taken draft g.0 ≡ Ok more = subst (λ s. taken_outside draft s ≡ Ok more) (sym (same_Ok (NewClient g.0) statement g.2)) t in
    client_is draft g.0 more (counted most_clients (nth words 1) g.0 g.1) (no_lines draft (not_later (phase_so_far draft) 4 place)) is taken
outside_is draft End words statement more is place e t =
    absurd (err_ok OutOfPlace more (subst (λ s. taken_outside draft s ≡ Ok more) (sym (same_Ok SectionEnd statement e)) t))
outside_is draft (Asking k) words statement more is place e t =
    let a = after_ok (request_in k words) (λ op. Ok (Ask op)) statement e in
    absurd (err_ok OutOfPlace more (subst (λ s. taken_outside draft s ≡ Ok more) (sym (same_Ok (Ask a.0) statement a.2)) t))
outside_is draft (Playing k) words statement more is place e t =
    let a = after_ok (line_in k words) (λ line. Ok (Play line)) statement e in
    let taken : line_taken draft a.0 ≡ Ok more = subst (λ s. taken_outside draft s ≡ Ok more) (sym (same_Ok (Play a.0) statement a.2)) t in
    played_is draft a.0 more (line_is draft.nodes draft.clients k words a.0 a.1) is taken
outside_is draft (GivingOrder k) words statement more is place e t =
    let g = or_reason_ok (count_in most_nodes (nth words 1)) BadNumber (λ node. then_on (order_in k words) (λ order. Ok (GiveOrder node order))) statement e in
    let a = after_ok (order_in k words) (λ order. Ok (GiveOrder g.0 order)) statement g.2 in
    let taken : order_line_taken draft (line_of_order draft g.0 a.0) ≡ Ok more = subst (λ s. taken_outside draft s ≡ Ok more) (sym (same_Ok (GiveOrder g.0 a.0) statement a.2)) t in
    told_is draft g.0 (nth words 1) a.0 more g.1 (order_is draft.nodes k words a.0 a.1) is taken

-- ---- inside a section

section_ended : (draft : Draft) (asks : Asks) → IsReading (Within draft asks) → IsDraft (with_client draft asks)
section_ended draft asks is = record {
  version = is.0.version;
  nodes = is.0.nodes;
  groups = is.0.groups;
  few = is.0.few;
  steps = is.0.steps;
  clients = all_inserted IsBoundedClient draft.clients (client_place asks.client draft.clients) asks is.0.clients is.3;
  rising = rising_with asks draft.clients is.0.rising is.2;
  lines = none_of (IsBoundedLine draft.nodes (with_client draft asks).clients) draft.lines is.1;
}

requested : (draft : Draft) (asks : Asks) (op : Op) → length asks.ops < most_requests → IsShortOp op → IsReading (Within draft asks) → IsReading (Within draft (with_op asks op))
requested draft asks op few short is = (is.0, is.1, is.2, (is.3.0, omega (arith, few, length_push asks.ops op), Each-push IsShortOp asks.ops op is.3.2 short))

request_is : (draft : Draft) (asks : Asks) (op : Op) (more : Reading) → IsShortOp op → IsReading (Within draft asks) → request_taken draft asks op ≡ Ok more → IsReading more
request_is draft asks op more short is e =
    let p = passed (leb most_requests (length asks.ops)) TooMany (Ok (Within draft (with_op asks op))) more e in
    let few : length asks.ops < most_requests = leb-false most_requests (length asks.ops) p.0 in
    subst IsReading (same_Ok _ more p.1) (requested draft asks op few short is)

within_is : (draft : Draft) (asks : Asks) (k : Kind) (words : List (List ℕ)) (statement : Statement) (more : Reading) → IsReading (Within draft asks) → is_inner k ≡ true
    → statement_in k words ≡ Ok statement → taken_within draft asks statement ≡ Ok more → IsReading more
within_is draft asks Header words statement more is inner e t = absurd (true≢false (sym inner))
within_is draft asks Nodes words statement more is inner e t = absurd (true≢false (sym inner))
within_is draft asks Group words statement more is inner e t = absurd (true≢false (sym inner))
within_is draft asks Policy words statement more is inner e t = absurd (true≢false (sym inner))
within_is draft asks Client words statement more is inner e t = absurd (true≢false (sym inner))
within_is draft asks End words statement more is inner e t =
    let taken : Ok (Outside (with_client draft asks)) ≡ Ok more = subst (λ s. taken_within draft asks s ≡ Ok more) (sym (same_Ok SectionEnd statement e)) t in
    subst IsReading (same_Ok _ more taken) (section_ended draft asks is)
within_is draft asks (Asking k) words statement more is inner e t =
    let a = after_ok (request_in k words) (λ op. Ok (Ask op)) statement e in
    request_is draft asks a.0 more (request_short k words a.0 a.1) is (subst (λ s. taken_within draft asks s ≡ Ok more) (sym (same_Ok (Ask a.0) statement a.2)) t)
within_is draft asks (Playing k) words statement more is inner e t = absurd (true≢false (sym inner))
within_is draft asks (GivingOrder k) words statement more is inner e t = absurd (true≢false (sym inner))

-- ---- line by line

begun_is : (version : ℕ) → IsVersion version → IsReading (begun version)
begun_is version is = record {
  version = is;
  nodes = omega arith;
  groups = All-nil (IsBoundedGroup 0);
  few = omega arith;
  steps = no_pairs Lower [] refl;
  clients = All-nil IsBoundedClient;
  rising = no_pairs Below [] refl;
  lines = All-nil (IsBoundedLine 0 []);
}

-- of a choice between two what holds of both
either : {X : Type 0} (P : X → Type 0) (b : Bool) (o p : Result X Reason) (x : X) → ((x : X) → o ≡ Ok x → P x) → ((x : X) → p ≡ Ok x → P x) → (if b then o else p) ≡ Ok x → P x
either P true o p x f g e = f x e
either P false o p x f g e = g x e

header_is : (words : List (List ℕ)) (more : Reading) → header_read words ≡ Ok more → IsReading more
header_is words more e =
    either IsReading (are_two words (codes "scatter") (codes "1")) (Ok (begun 1)) _ more (λ r h. subst IsReading (same_Ok _ r h) (begun_is 1 (inl refl))) (λ r h.
    either IsReading (are_two words (codes "scatter") (codes "2")) (Ok (begun 2)) (Err MissingHeader) r (λ r h. subst IsReading (same_Ok _ r h) (begun_is 2 (inr refl))) (λ r h. absurd (err_ok MissingHeader r h)) h) e

said_is : (in_place : Bool) (k : Kind) (words : List (List ℕ)) (statement : Statement) → said in_place k words ≡ Ok statement → (in_place ≡ true) × (statement_in k words ≡ Ok statement)
said_is in_place k words statement e =
    let a = passed (not in_place) OutOfPlace _ statement e in
    let b = passed (not (has_count k (length words))) WrongCount (statement_in k words) statement a.1 in
    (turned in_place a.0, b.1)

words_are : (reading : Reading) (words : List (List ℕ)) (more : Reading) → IsReading reading → words_read reading words ≡ Ok more → IsReading more
words_are Fresh words more is e = header_is words more e
words_are (Outside draft) words more is e =
    let k = or_reason_ok (kind_of draft.version words) UnknownWord (λ k. then_on (said (is_in_place (Outside draft) k) k words) (taken_outside draft)) more e in
    let s = after_ok (said (is_in_place (Outside draft) k.0) k.0 words) (taken_outside draft) more k.2 in
    let p = said_is (is_in_place (Outside draft) k.0) k.0 words s.0 s.1 in
    let parts = and_parts (not (is_inner k.0)) (may_follow (phase_so_far draft) (phase_of k.0)) p.0 in
    outside_is draft k.0 words s.0 more is parts.1 p.1 s.2
words_are (Within draft asks) words more is e =
    let k = or_reason_ok (kind_of draft.version words) UnknownWord (λ k. then_on (said (is_in_place (Within draft asks) k) k words) (taken_within draft asks)) more e in
    let s = after_ok (said (is_in_place (Within draft asks) k.0) k.0 words) (taken_within draft asks) more k.2 in
    let p = said_is (is_in_place (Within draft asks) k.0) k.0 words s.0 s.1 in
    within_is draft asks k.0 words s.0 more is p.0 p.1 s.2

line_read_is : (reading : Reading) (line : List ℕ) (more : Reading) → IsReading reading → line_read reading line ≡ Ok more → IsReading more
line_read_is reading line more is e =
    either IsReading (not (is_fresh reading) && is_skipped line) (Ok reading) _ more (λ r h. subst IsReading (same_Ok reading r h) is) (λ r h.
    either IsReading (not (is_fresh reading) && has_bad_byte line) (Err BadByte) (words_read reading (words_of line)) r (λ r h. absurd (err_ok BadByte r h)) (λ r h. words_are reading (words_of line) r is h) h) e

-- ---- the whole

-- what a line gave, where the reading went on to a scenario
pub going_ok : (number : ℕ) (onward : Reading → Result Scenario ScenarioError) (r : Result Reading Reason) (scenario : Scenario) → going_on number onward r ≡ Ok scenario → (more : Reading) × (r ≡ Ok more) × (onward more ≡ Ok scenario)
going_ok number onward (Ok more) scenario e = (more, refl, e)
going_ok number onward (Err reason) scenario e = absurd (err_ok (Bad number reason) scenario e)

not_zero : (n : ℕ) → eqb n 0 ≡ false → 1 ≤ n
not_zero n e = let ne = eqb-false n 0 e in omega (arith, ne)

draft_is : (draft : Draft) → IsDraft draft → eqb draft.nodes 0 ≡ false → eqb (length draft.groups) 0 ≡ false → IsBounded (scenario_by draft)
draft_is draft is some filled = record {
  starts = draft.groups;
  nodes = (not_zero draft.nodes some, is.nodes);
  some = not_zero (length draft.groups) filled;
  few = is.few;
  each = is.groups;
  rising = is.steps;
  groups = refl;
  clients = is.clients;
  ascending = is.rising;
  lines = is.lines;
  version = is.version;
}

finished_is : (number : ℕ) (reading : Reading) (scenario : Scenario) → IsReading reading → reading_ended number reading ≡ Ok scenario → IsBounded scenario
finished_is number Fresh scenario is e = absurd (err_ok (Bad number MissingHeader) scenario e)
finished_is number (Within draft asks) scenario is e = absurd (err_ok (Bad number UnendedClient) scenario e)
finished_is number (Outside draft) scenario is e =
    let p = passed (eqb draft.nodes 0 || eqb (length draft.groups) 0) (Bad number MissingPart) (Ok (scenario_by draft)) scenario e in
    let parts = or_parts (eqb draft.nodes 0) (eqb (length draft.groups) 0) p.0 in
    subst IsBounded (same_Ok _ scenario p.1) (draft_is draft is parts.0 parts.1)

ended_is : (is_long : Bool) (number : ℕ) (reading : Reading) (scenario : Scenario) → IsReading reading → text_ended is_long number reading ≡ Ok scenario → IsBounded scenario
ended_is true number reading scenario is e = absurd (err_ok (Bad number TooLarge) scenario e)
ended_is false number reading scenario is e = finished_is number reading scenario is e

lines_are : (is_long : Bool) (lines : List (List ℕ)) (number : ℕ) (reading : Reading) (scenario : Scenario) → IsReading reading → lines_read is_long number reading lines ≡ Ok scenario → IsBounded scenario
lines_are is_long [] number reading scenario is e = ended_is is_long number reading scenario is e
lines_are is_long (line ∷ lines) number reading scenario is e =
    let p = passed (nat_lt most_lines number) (Bad number TooLarge) (going_on number (λ more. lines_read is_long (number + 1) more lines) (line_read reading (trimmed line))) scenario e in
    let g = going_ok number (λ more. lines_read is_long (number + 1) more lines) (line_read reading (trimmed line)) scenario p.1 in
    lines_are is_long lines (number + 1) g.0 scenario (line_read_is reading (trimmed line) g.0 is g.1) g.2

some_ok : (r : Result Scenario ScenarioError) (scenario : Scenario) → result_ok r ≡ Some scenario → r ≡ Ok scenario
some_ok (Ok x) scenario e = ap (λ s. Ok s) (same_Some x scenario e)
some_ok (Err f) scenario e = absurd (none-some scenario e)

-- what a text gives is within the bounds of scenarios
written_bounded : (scenario : Scenario) → IsWritten scenario → IsBounded scenario
written_bounded scenario valid = lines_are (is_too_long valid.text) (lines_of valid.text) 1 Fresh scenario tt (some_ok (verdict_of valid.text) scenario valid.read)

-- so is what is made
pub texts_bounded : ValidScenariosAreBounded
texts_bounded scenario (inl written) = written_bounded scenario written
texts_bounded scenario (inr made) = subst IsBounded made.fact (made_bounded made.n made.seed made.few)
