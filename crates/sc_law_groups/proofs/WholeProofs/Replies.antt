-- Replies that clients keep, and rows that answer requests: where each row brings only what was decided before it, each of them was.
use Rattle.std.proofs.Common.{◌≡◌, ℕ, suc, ◌+◌, ◌-◌, ◌≤◌, nat_le, eqb, List, [], ◌∷◌, ◌++◌, length, map, drop, None, Some, inl, inr, refl, sym, ◌∙◌, ap, subst, append_assoc, arith}
use Rattle.std.specs.Prelude.{slice_get}
use Rattle.std.proofs.lemmas.Bool.{cases_Bool, cond-true, cond-false, eqb-false, leb-true}
use Rattle.std.proofs.lemmas.List.{append_cancel_left}
use Rattle.std.proofs.lemmas.Option.{slice_get_cases}
use Rattle.sc_base.specs.Definitions.{Among}
use Rattle.sc_node_table.specs.Values.{Draw, Reply, Call, Base, Route, OrderLine, Mail, Seat, Row, Client as AClient}
use Rattle.sc_client_table.specs.table.TableDefinitions.{Client, born_client}
use Rattle.sc_client_table.specs.lookup.LookupDefinitions.{KnownGroups, new_way}
use Rattle.sc_client_table.specs.declared.lookup.ways.Way.{Way}
use Rattle.sc_node_table.specs.NodeDefinitions.{numbers_from}
use Rattle.sc_paxos_law.specs.PaxosLawDefinitions.{IsLawfulHistory}
use Rattle.sc_meaning.specs.sound.SoundDefinitions.{Ahead, Player, node_seat, client_seat, client_seats, route_of, groups_at, decided_log, kept_replies, kept_reply, answered_from, answer_row}
use Rattle.sc_scenario.specs.declared.scenario.scenarios.Asks.{Asks}
use Rattle.sc_scenario.specs.declared.scenario.scenarios.Scenario.{Scenario}
use Rattle.sc_law_entries.specs.logs.LogDefinitions.{IsDecidedBefore, RepliesAreDecided, Rows}
use Rattle.sc_law_groups.proofs.GroupProofs.GroupLemmas.{IsAnswered, h_of, rule, first}
use Rattle.sc_law_groups.specs.whole.WholeDefinitions.{HasSeats}
use Rattle.sc_law_groups.proofs.WholeProofs.WholePrefixes.{goes_on_from}

-- ---- the group that clients ask first

-- lists that two functions make are the same at each element
mapped_same : {X Y : Type 0} (f g : X → Y) (xs : List X) → map f xs ≡ map g xs → (x : X) → Among x xs → f x ≡ g x
mapped_same f g [] e x a = absurd a
mapped_same f g (y ∷ ys) e x (inl fact) = (let same : f y ≡ g y = cc in subst (λ z. f z ≡ g z) fact same)
mapped_same f g (y ∷ ys) e x (inr a) = (let rest : map f ys ≡ map g ys = cc in mapped_same f g ys rest x a)

-- routes of the same group, start and members are one
routes_are_one : (g h : Draw) (lo start : ℕ) (members nodes : List ℕ) → g ≡ h → lo ≡ start → members ≡ nodes
    → (let route : Route = record { group = g; lo = lo; members = members } in route) ≡ record { group = h; lo = start; members = nodes }
routes_are_one g h lo start members nodes e f i = cc

-- where one group is known, its name and the way to it are known
one_known : (g h : Draw) (way other : Way) → (let known : KnownGroups = (g, way) ∷ [] in known) ≡ (h, other) ∷ [] → (g ≡ h) × (way ≡ other)
one_known g h way other e =
    let same : (let pair : Draw × Way = (g, way) in pair) ≡ (h, other) = cc in
    (ap (λ (pair : Draw × Way). pair.0) same, ap (λ (pair : Draw × Way). pair.1) same)

-- a client at its birth knows one group alone
one_route : (one other : Route) (asks : Asks) → client_seat one asks ≡ client_seat other asks → one ≡ other
one_route one other asks e =
    let role : AClient (born_client asks.client asks.ops one) ≡ AClient (born_client asks.client asks.ops other) = ap (λ (s : Seat Player). s.actor) e in
    let born : born_client asks.client asks.ops one ≡ born_client asks.client asks.ops other = cc in
    let both = one_known one.group other.group (new_way one.lo one.members) (new_way other.lo other.members) (ap (λ (c : Client). c.known) born) in
    routes_are_one one.group other.group one.lo other.lo one.members other.members both.0 (ap (λ (w : Way). w.lo) both.1) (ap (λ (w : Way). w.members) both.1)

-- so it is the scenario's first group
route_is : (ahead : Ahead) (scenario : Scenario) (route : Route) → HasSeats ahead scenario route
    → (group : Base) (others : List Base) → scenario.groups ≡ group ∷ others → (asks : Asks) → Among asks scenario.clients → route_of group ≡ route
route_is ahead scenario route seats group others fact asks stands =
    let nodes = map (node_seat ahead scenario.groups scenario.policy) (numbers_from 1 scenario.nodes) in
    let clients = append_cancel_left nodes (client_seats scenario.groups scenario.clients) (map (client_seat route) scenario.clients) seats.seats in
    let same : map (client_seat (route_of group)) scenario.clients ≡ map (client_seat route) scenario.clients = sym (ap (λ gs. client_seats gs scenario.clients) fact) ∙ clients in
    one_route (route_of group) route asks (mapped_same (client_seat (route_of group)) (client_seat route) scenario.clients same asks stands)

-- ---- rows that answer

-- rows that are some have a last one
has_last : {X : Type 0} (x : X) (xs : List X) → (prefix : List X) × (last : X) × (x ∷ xs ≡ prefix ++ last ∷ [])
has_last x [] = ([], x, refl)
has_last {X} x (y ∷ ys) = (let (prefix, last, fact) = has_last y ys in (x ∷ prefix, last, ap (λ (l : List X). x ∷ l) fact))

-- a place within a list has an element
has_place : {X : Type 0} (xs : List X) (place : ℕ) → suc place ≤ length xs → (x : X) × (slice_get xs place ≡ Some x)
has_place xs place within = elim (slice_get_cases xs place).1 [
  | inl (x, inside, at, same) ↦ (x, at)
  | inr (past, none) ↦ absurd (omega (arith, within, past))
]

-- the row that answers a request, after which its client has a reply to it
record IsAnswerRow (route : Route) (asks : Asks) (seq : ℕ) (before rows : Rows) (answered : ℕ) : Type 0 where
  pub prefix : Rows
  pub row : Row Mail OrderLine
  pub later : Rows
  pub are : before ++ rows ≡ prefix ++ row ∷ later
  pub taken : answered ≡ length prefix + 1
  pub within : seq ≤ length (kept_replies route asks (prefix ++ row ∷ []))

-- a row that answers is one of those with the replies so far
answer_found : (route : Route) (asks : Asks) (seq : ℕ) (before rows : Rows) (answered : ℕ) → answered_from route asks seq before rows ≡ Some answered → IsAnswerRow route asks seq before rows answered
answer_found route asks seq before [] answered e = cc
answer_found route asks seq before (row ∷ rows) answered e =
    let now = nat_le seq (length (kept_replies route asks (before ++ row ∷ []))) in
    elim (cases_Bool now) [
      | inl t ↦ (
          let here : Some (length before + 1) ≡ Some answered = sym (cond-true now (Some (length before + 1)) (answered_from route asks seq (before ++ row ∷ []) rows) t) ∙ e in
          record { prefix = before; row = row; later = rows; are = refl; taken = cc; within = leb-true seq (length (kept_replies route asks (before ++ row ∷ []))) t })
      | inr f ↦ (
          let r = answer_found route asks seq (before ++ row ∷ []) rows answered (sym (cond-false now (Some (length before + 1)) (answered_from route asks seq (before ++ row ∷ []) rows) f) ∙ e) in
          record { prefix = r.prefix; row = r.row; later = r.later; are = sym (append_assoc before (row ∷ []) rows) ∙ r.are; taken = r.taken; within = r.within })
    ]

-- ---- what was decided

module _ (ahead : Ahead) (scenario : Scenario) (rows : Rows) where
  -- a reply by a log was decided before the row that comes next
  pub decided_before : (before : Rows) (row : Row Mail OrderLine) (later : Rows) → rows ≡ before ++ row ∷ later
      → ((b : Base) → Among b (groups_at ahead scenario.groups before) → IsLawfulHistory (rule ahead b) (first ahead b) (h_of before b))
      → (client seq : ℕ) (reply : Reply) → IsAnswered ahead (groups_at ahead scenario.groups before) (h_of before) client seq reply → IsDecidedBefore ahead scenario.groups rows client seq reply (length before + 1)
  decided_before before row later are lawful client seq reply (b, a, at) =
      let called = at.prefix ++ Call client seq at.op ∷ [] in
      let log = decided_log ahead b before in
      record {
        before = before;
        row = row;
        later = later;
        are = are;
        taken = refl;
        base = b;
        stands = a;
        prefix = at.prefix;
        op = at.op;
        rest = drop (length called) log;
        log = goes_on_from ahead b before (lawful b a) called at.is_log ∙ append_assoc at.prefix (Call client seq at.op ∷ []) (drop (length called) log);
        replied = at.replied;
      }

module _ (ahead : Ahead) (scenario : Scenario) (route : Route) (rows : Rows) where
  -- after each row clients keep only what was decided before it
  abbrev pub KeepDecided : Type 0
  KeepDecided = (before : Rows) (row : Row Mail OrderLine) (later : Rows) → rows ≡ before ++ row ∷ later → (asks : Asks) → Among asks scenario.clients
      → (place : ℕ) (reply : Reply) → slice_get (kept_replies route asks (before ++ row ∷ [])) place ≡ Some reply → IsDecidedBefore ahead scenario.groups rows asks.client (place + 1) reply (length before + 1)

  module _ (keep : KeepDecided) (asks : Asks) (stands : Among asks scenario.clients) where
    -- a reply was there after the last row
    kept_in : (some : Rows) → rows ≡ some → (place : ℕ) (reply : Reply) → slice_get (kept_replies route asks some) place ≡ Some reply → (answered : ℕ) × IsDecidedBefore ahead scenario.groups rows asks.client (place + 1) reply answered
    kept_in [] are place reply e = cc
    kept_in (x ∷ xs) are place reply e =
        let (before, row, fact) = has_last x xs in
        (length before + 1, keep before row [] (are ∙ fact) asks stands place reply (subst (λ (some : Rows). slice_get (kept_replies route asks some) place ≡ Some reply) fact e))

    -- so each that is kept was decided
    kept_now : (seq : ℕ) (reply : Reply) → kept_reply route asks seq rows ≡ Some reply → (answered : ℕ) × IsDecidedBefore ahead scenario.groups rows asks.client seq reply answered
    kept_now seq reply e = elim (cases_Bool (eqb seq 0)) [
      | inl z ↦ (let no_way : None ≡ Some reply = sym (cond-true (eqb seq 0) None (slice_get (kept_replies route asks rows) (seq - 1)) z) ∙ e in absurd (cc))
      | inr f ↦ (
          let some : seq ≡ 0 → ⊥ = eqb-false seq 0 f in
          let same : seq - 1 + 1 ≡ seq = omega (arith, some) in
          let (answered, d) = kept_in rows refl (seq - 1) reply (sym (cond-false (eqb seq 0) None (slice_get (kept_replies route asks rows) (seq - 1)) f) ∙ e) in
          (answered, subst (λ n. IsDecidedBefore ahead scenario.groups rows asks.client n reply answered) same d))
    ]

    -- and the one that a row answers with
    answered_now : (seq : ℕ) → 1 ≤ seq → (answered : ℕ) → answer_row route asks seq rows ≡ Some answered → (reply : Reply) × IsDecidedBefore ahead scenario.groups rows asks.client seq reply answered
    answered_now seq some answered e =
        let r = answer_found route asks seq [] rows answered e in
        let replies = kept_replies route asks (r.prefix ++ r.row ∷ []) in
        let within = r.within in
        let same : seq - 1 + 1 ≡ seq = omega (arith, some) in
        let (reply, at) = has_place replies (seq - 1) (omega (arith, some, within)) in (
          reply,
          subst (λ n. IsDecidedBefore ahead scenario.groups rows asks.client seq reply n) (sym r.taken)
              (subst (λ n. IsDecidedBefore ahead scenario.groups rows asks.client n reply (length r.prefix + 1)) same (keep r.prefix r.row r.later r.are asks stands (seq - 1) reply at)),
        )

  -- so all replies were decided before
  pub replies_are_decided : HasSeats ahead scenario route → KeepDecided → RepliesAreDecided ahead scenario rows
  replies_are_decided seats keep = record {
    kept = λ group others fact asks stands seq reply e.
        kept_now keep asks stands seq reply (subst (λ (r : Route). kept_reply r asks seq rows ≡ Some reply) (route_is ahead scenario route seats group others fact asks stands) e);
    answered = λ group others fact asks stands seq some answered e.
        answered_now keep asks stands seq some answered (subst (λ (r : Route). answer_row r asks seq rows ≡ Some answered) (route_is ahead scenario route seats group others fact asks stands) e);
  }
