-- Between two orders each row of a client leaves a journal in which clients ask alone; and so each row.
use Rattle.sc_live_plain.proofs.PlainRowsProofs.Lists.{at_zero}
use Rattle.std.proofs.Common.{◌≡◌, ℕ, ◌+◌, ◌≤◌, eqb, Bool, true, false, cond, List, [], ◌∷◌, ◌++◌, map, drop, find, Some, ◌⊎◌, inl, inr, refl, sym, ◌∙◌, ap, subst, arith}
use Rattle.std.proofs.lemmas.Bool.{cases_eq, both_ways}
use Rattle.sc_base.specs.Definitions.{Among, Each, client_actor, is_member}
use Rattle.sc_node_table.specs.Values.{Draw, Base, OrderLine, Mail, MailBody, Request, Answer, Accept, Accepted, Learn, Seat, Row, Event, Deliver, Go, Got, Client}
use Rattle.sc_actor.specs.declared.rows.Input.TheVariants.{Go as GoInput}
use Rattle.sc_actor.specs.Definitions.{mails, is_delivery, value, acted, input_of, System, row_of, has_started, waiting, kth}
use Rattle.sc_node_table.specs.NodeDefinitions.{is_node, slots_ahead}
use Rattle.sc_client_table.specs.table.TableDefinitions.{ClientStep, table}
use Rattle.sc_scenario.specs.declared.scenario.scenarios.Asks.{Asks}
use Rattle.sc_scenario.specs.declared.scenario.scenarios.Scenario.{Scenario}
use Rattle.sc_scenario.specs.scenario.Definitions.{ValidScenariosAreBounded}
use Rattle.sc_meaning.specs.sound.SoundDefinitions.{Player, player_table, node_seat, client_seat, route_of, births, system_of, as_nodes}
use Rattle.sc_live_orderly.specs.OrderlyDefinitions.{IsTidy, IsOrderly, IsInOrder, rest, mail_for, taken}
use Rattle.sc_live_orderly.proofs.OrderlyLemmas.{TakesFirst, takes_first, is_born-from, rest-row}
use Rattle.sc_live_plain.specs.PlainDefinitions.{IsAskingClient, IsAsking, AreFarFromLast, RequestsGoOn, Other, mark, marks_for, marks_at, IsOther, IsTaken, IsLinkedSetting, IsCalmClient, BeginsBy, StaysCalm, Setting, IsSetting, IsCalmMail, begun_ones, IsBegun, Frame, IsFrame, mark_of, Requests, IsPlainBody}
use Rattle.sc_live_plain.proofs.PlainProofs.ActingClients.{becomes, begins_more, begins_by, takes_is, starts_is, starts_more, starts_now}
use Rattle.sc_live_plain.proofs.CalmProofs.MoreCalmRequests.{aside_mark, takes_only, go_only}
use Rattle.sc_live_plain.proofs.CalmProofs.RequestPhaseNodes as turns_of
use Rattle.sc_live_plain.proofs.PlainProofs.MorePlainRequests.{IsMore}
use Rattle.sc_live_plain.proofs.PlainRowsProofs.LeaderMailOfGroups.{group_idle}
use Rattle.sc_live_plain.proofs.PlainProofs.BegunRequestCounts.{begun_right, got_grows}
use Rattle.sc_live_plain.proofs.PlainRowsProofs.LeaderMarks.{each_mark}
use Rattle.sc_live_plain.proofs.PlainProofs.PlainBeginnings.{IsStage, stage}
use Rattle.sc_live_plain.proofs.PlainProofs.PlainSteps.{client_number, started_still, same_client, node_away, of_player}
use Rattle.sc_live_plain.proofs.PlainRowsProofs.RowViews.{Journal, replica_others, replica_none}
use Rattle.sc_live_plain.proofs.CalmProofs.CalmClients.{Seeks, Ignores, takes_calm, go_calm}

-- a mail for one who votes in no slot of a group is nothing to it
module _ (begun : Requests) (frame : Frame) (fact : IsFrame frame) (from to : ℕ) (name : Draw) (away : (slot : ℕ) → is_member (frame.at slot) to ≡ true → ⊥) where
  member_away : is_member frame.core.members to ≡ true → ⊥
  member_away m = away (frame.from + slots_ahead) (ap (λ ms. is_member ms to) (fact.later (frame.from + slots_ahead) (omega arith)) ∙ m)

  pub nothing_to : (body : MailBody) → IsPlainBody begun frame from to body → mark_of name from body ≡ Other
  nothing_to (Request group client seq op) b = refl
  nothing_to (Answer group seq answer) b = refl
  nothing_to (Accept group ballot slot command) b = absurd (away slot b.2.to_in)
  nothing_to (Accepted group ballot slot) b = absurd (member_away (ap (is_member frame.core.members) b.2 ∙ fact.leads))
  nothing_to (Learn group slot command) b = absurd (member_away b.1.to_in)
  nothing_to _ b = absurd b

-- a mail that a client takes is of no mark of a group
pub taken_other : (words : ℕ → ℕ → ℕ × ℕ) (scenario : Scenario) (rows : Journal) (who number : ℕ) (first : TakesFirst (system_of as_nodes words scenario) rows who number) (name : Draw) → mark name first.mail ≡ Other
    → IsTaken Other (marks_at words scenario rows name who) (drop 1 (marks_at words scenario rows name who))
taken_other words scenario rows who number first name other =
    let all : marks_at words scenario rows name who ≡ mark name first.mail ∷ map (mark name) first.behind = ap (map (mark name)) first.first in
    inl (all ∙ (ap (λ m. m ∷ map (mark name) first.behind) other ∙ ap (λ l. Other ∷ l) (sym (ap (drop 1) all))))

module _ (words : ℕ → ℕ → ℕ × ℕ) (scenario : Scenario) (begins : IsStage scenario) (set : Setting) (fact : IsSetting set) (linked : IsLinkedSetting set) (rows : Journal) (t : IsTidy rows) (j : IsAsking words scenario set begins.first rows) where
  abbrev sys : System Player Mail OrderLine
  sys = system_of as_nodes words scenario

  abbrev cseat : Asks → Seat Player
  cseat other = client_seat (route_of begins.first) other

  module _ (asks : Asks) (a : Among asks scenario.clients) (born : find (λ (other : Seat Player). eqb other.who (client_actor asks.client)) (births as_nodes scenario) ≡ Some (client_seat (route_of begins.first) asks)) where
    pub c : IsAskingClient scenario set begins.first rows asks
    c = j.clients asks a

    pub no_node : is_node (client_actor asks.client) ≡ false
    no_node = client_number words scenario begins asks a

    -- the client's row and what it makes of it
    module _ (event : Event OrderLine) (fine : IsInOrder (system_of as_nodes words scenario) rows (client_actor asks.client) event) (after : ClientStep)
        (acted_is : acted player_table (value player_table (client_seat (route_of begins.first) asks) rows) (input_of (mails rows) event) ≡ (Client after.0, after.1)) (grows : begun_ones c.client ≤ begun_ones after.0) where
      pub became : value player_table (client_seat (route_of begins.first) asks) (rows ++ row_of player_table (client_seat (route_of begins.first) asks) rows event ∷ []) ≡ Client after.0
      became = becomes words scenario begins rows asks a c.client c.fact event after acted_is

      pub more : IsMore (IsBegun scenario rows) (IsBegun scenario (rows ++ row_of player_table (client_seat (route_of begins.first) asks) rows event ∷ []))
      more = begins_more words scenario begins rows asks a c.client c.fact event after acted_is grows

      -- what is begun after it
      pub now : BeginsBy (IsBegun scenario (rows ++ row_of player_table (client_seat (route_of begins.first) asks) rows event ∷ [])) c.client after
      now = begins_by words scenario begins rows asks a c.client c.fact event after acted_is c.calm.me_is c.calm.requests_are

      -- the journal after it
      client_after : (gone : Bool) → has_started (rows ++ row_of player_table (client_seat (route_of begins.first) asks) rows event ∷ []) (client_actor asks.client) ≡ gone
          → StaysCalm (IsBegun scenario (rows ++ row_of player_table (client_seat (route_of begins.first) asks) rows event ∷ [])) set asks gone after
          → ((name : Draw) → IsTaken Other (marks_at words scenario rows name (client_actor asks.client)) (drop (cond (is_delivery event) 1 0) (marks_at words scenario rows name (client_actor asks.client))))
          → Each (λ mail. (name : Draw) → mark name mail ≡ Other) after.1 → IsAsking words scenario set begins.first (rows ++ row_of player_table (client_seat (route_of begins.first) asks) rows event ∷ [])
      client_after gone is_gone out takes sends =
          let r = row_of player_table (cseat asks) rows event in
          let orderly : IsOrderly sys rows r = record { seat = cseat asks; born = born; event = event; row_is = refl; in_order = fine } in
          let rest_after : (who : ℕ) → rest sys (rows ++ r ∷ []) who ≡ drop (taken who r) (rest sys rows who) ++ mail_for sys who r.sent = λ who. rest-row sys rows r who t orderly in
          let sent_is : r.sent ≡ after.1 = ap (λ (p : Player × List Mail). p.1) acted_is in
          record {
            nodes = λ node low high. turns_of.node_stays words scenario begins set fact rows t j r more node (node_away words scenario begins asks no_node node low high) (j.nodes node low high);
            clients = λ other b. elim (cases_eq (client_actor other.client) (client_actor asks.client)) [
              | inl here ↦ subst (IsAskingClient scenario set begins.first (rows ++ r ∷ [])) (sym (same_client scenario begins asks other a b here))
                  (record { client = after.0; fact = became; calm = subst (λ g. IsCalmClient set asks g after.0) (sym is_gone) out.0 })
              | inr ne ↦ turns_of.client_stays words scenario begins set fact rows t j r other ne (j.clients other b)
            ];
            left = turns_of.left_more words scenario begins set fact rows t j r more rest_after (subst (Each (IsCalmMail (IsBegun scenario (rows ++ r ∷ [])) set)) (sym sent_is) out.1);
            groups = λ frame b.
                group_idle words scenario rows r rest_after frame (j.groups frame b)
                (λ node. elim (cases_eq node (client_actor asks.client)) [
                  | inl here ↦ (let none : is_node node ≡ false = ap is_node here ∙ no_node in replica_none words scenario (rows ++ r ∷ []) frame.core.id node none ∙ sym (replica_none words scenario rows frame.core.id node none))
                  | inr ne ↦ replica_others words scenario rows r frame.core.id node ne
                ])
                (takes frame.core.id)
                (λ who. subst (λ l. Each IsOther (marks_for frame.core.id who l)) (sym sent_is) (each_mark IsOther (λ mail. (name : Draw) → mark name mail ≡ Other) frame.core.id who (λ mail e. e frame.core.id) after.1 sends));
          }

    -- ---- a client takes a mail

    module _ (number : ℕ) (fine : kth (waiting (system_of as_nodes words scenario) rows (Some (client_actor asks.client))) 1 ≡ Some number) where
      pub first : TakesFirst (system_of as_nodes words scenario) rows (client_actor asks.client) number
      first = takes_first sys rows (client_actor asks.client) number t (is_born-from sys (client_actor asks.client) (cseat asks) born) fine

      pub is_calm : IsCalmMail (IsBegun scenario rows) set first.mail
      is_calm = (subst (Each (IsCalmMail (IsBegun scenario rows) set)) first.first (j.left (client_actor asks.client) (is_born-from sys (client_actor asks.client) (cseat asks) born))).0

      pub got_is : acted player_table (value player_table (client_seat (route_of begins.first) asks) rows) (input_of {O = OrderLine} (mails rows) (Deliver number)) ≡ (Client (table c.client (Got first.mail)).0, (table c.client (Got first.mail)).1)
      got_is = takes_is words scenario begins rows asks a c.client c.fact number first

      pub got_more : begun_ones c.client ≤ begun_ones (table c.client (Got first.mail)).0
      got_more = got_grows first.mail.from first.mail.body c.client

      -- it stays calm; and what becomes of the request that waits
      pub took : StaysCalm (IsBegun scenario (rows ++ row_of player_table (client_seat (route_of begins.first) asks) rows (Deliver number) ∷ [])) set asks (has_started rows (client_actor asks.client)) (table c.client (Got first.mail))
          × (Seeks (table c.client (Got first.mail)) ⊎ Ignores c.client first.mail (table c.client (Got first.mail)))
      took =
          takes_calm set asks (IsBegun scenario rows) (IsBegun scenario (rows ++ row_of player_table (client_seat (route_of begins.first) asks) rows (Deliver number) ∷ [])) (has_started rows (client_actor asks.client)) c.client first.mail fact linked c.calm is_calm
          (first.receiver ∙ ap client_actor (sym c.calm.me_is)) (begun_right scenario rows begins.once asks a c.client c.calm.me_is c.calm.requests_are) (more (Deliver number) fine (table c.client (Got first.mail)) got_is got_more) (now (Deliver number) fine (table c.client (Got first.mail)) got_is got_more)

      pub response : Seeks (table c.client (Got first.mail)) ⊎ Ignores c.client first.mail (table c.client (Got first.mail))
      response = took.1

      mark_none : (name : Draw) → IsCalmMail (IsBegun scenario rows) set first.mail → mark name first.mail ≡ Other
      mark_none name (inl p) =
          nothing_to (IsBegun scenario rows) p.frame (fact.are p.frame p.is_frame) first.mail.from first.mail.to name
          (λ slot m. both_ways (is_node first.mail.to) (ap is_node first.receiver ∙ no_node) ((fact.are p.frame p.is_frame).nodes slot first.mail.to m)) first.mail.body p.says
      mark_none name (inr s) = aside_mark (IsBegun scenario rows) set name first.mail first.mail.body refl s

      client_turn : IsAsking words scenario set begins.first (rows ++ row_of player_table (client_seat (route_of begins.first) asks) rows (Deliver number) ∷ [])
      client_turn =
          let r = row_of player_table (cseat asks) rows (Deliver number) in
          client_after (Deliver number) fine (table c.client (Got first.mail)) got_is got_more (has_started rows (client_actor asks.client)) (started_still words scenario begins rows r (client_actor asks.client) refl)
          took.0 (λ name. taken_other words scenario rows (client_actor asks.client) number first name (mark_none name is_calm)) (takes_only first.mail c.client)

    -- ---- a client starts

    module _ (fine : has_started rows (client_actor asks.client) ≡ false) where
      pub go_is : acted player_table (value player_table (client_seat (route_of begins.first) asks) rows) (input_of {O = OrderLine} (mails rows) Go) ≡ (Client (table c.client GoInput).0, (table c.client GoInput).1)
      go_is = starts_is words scenario begins rows asks a c.client c.fact

      pub fresh : IsCalmClient set asks false c.client
      fresh = subst (λ g. IsCalmClient set asks g c.client) fine c.calm

      pub go_more : begun_ones c.client ≤ begun_ones (table c.client GoInput).0
      go_more = starts_more words scenario begins rows asks a c.client c.fact fresh.state

      pub went : StaysCalm (IsBegun scenario (rows ++ row_of player_table (client_seat (route_of begins.first) asks) rows Go ∷ [])) set asks true (table c.client GoInput) × Seeks (table c.client GoInput)
      went = go_calm set asks (IsBegun scenario (rows ++ row_of player_table (client_seat (route_of begins.first) asks) rows Go ∷ [])) c.client fresh (now Go fine (table c.client GoInput) go_is go_more)

      pub seeks : Seeks (table c.client GoInput)
      seeks = went.1

      client_go : IsAsking words scenario set begins.first (rows ++ row_of player_table (client_seat (route_of begins.first) asks) rows Go ∷ [])
      client_go =
          client_after Go fine (table c.client GoInput) go_is go_more true (starts_now words scenario begins rows asks a c.client c.fact)
          went.0
          (λ name. inr (refl, sym (at_zero (marks_at words scenario rows name (client_actor asks.client))))) (go_only c.client)

    -- whatever row of it comes in order
    client_event : (event : Event OrderLine) → IsInOrder (system_of as_nodes words scenario) rows (client_actor asks.client) event → IsAsking words scenario set begins.first (rows ++ row_of player_table (client_seat (route_of begins.first) asks) rows event ∷ [])
    client_event (Deliver number) fine = client_turn number fine
    client_event Go fine = client_go fine
    client_event _ fine = absurd fine

  -- ---- each row that comes in order

  pub asking_row : AreFarFromLast scenario set rows → (row : Row Mail OrderLine) → IsOrderly (system_of as_nodes words scenario) rows row → IsAsking words scenario set begins.first (rows ++ row ∷ [])
  asking_row room row o = elim (of_player words scenario begins rows row o) [
    | inl n ↦ (
        let row_is : row ≡ row_of player_table (node_seat as_nodes scenario.groups scenario.policy n.me) rows o.event = o.row_is ∙ ap (λ (seat : Seat Player). row_of player_table seat rows o.event) n.seat_is in
        let born = subst (λ (seat : Seat Player). find (λ (other : Seat Player). eqb other.who seat.who) (births as_nodes scenario) ≡ Some seat) n.seat_is o.born in
        subst (λ r. IsAsking words scenario set begins.first (rows ++ r ∷ [])) (sym row_is)
        (turns_of.node_event words scenario begins set fact rows t j room n.me n.one n.most born o.event (subst (λ (seat : Seat Player). IsInOrder sys rows seat.who o.event) n.seat_is o.in_order)))
    | inr d ↦ (
        let row_is : row ≡ row_of player_table (cseat d.asks) rows o.event = o.row_is ∙ ap (λ (seat : Seat Player). row_of player_table seat rows o.event) d.seat_is in
        let born = subst (λ (seat : Seat Player). find (λ (other : Seat Player). eqb other.who seat.who) (births as_nodes scenario) ≡ Some seat) d.seat_is o.born in
        subst (λ r. IsAsking words scenario set begins.first (rows ++ r ∷ [])) (sym row_is)
        (client_event d.asks d.is_asks born o.event (subst (λ (seat : Seat Player). IsInOrder sys rows seat.who o.event) d.seat_is o.in_order)))
  ]

pub go_on : ValidScenariosAreBounded → RequestsGoOn
go_on all_bounded words scenario set first others rows row valid groups fact linked t room j o =
    let begins = stage scenario (all_bounded scenario valid) in
    let same : first ≡ begins.first = (let e : first ∷ others ≡ begins.first ∷ begins.others = sym groups ∙ begins.groups_are in cc) in
    subst (λ (f : Base). IsAsking words scenario set f (rows ++ row ∷ [])) (sym same) (asking_row words scenario begins set fact linked rows t (subst (λ (f : Base). IsAsking words scenario set f rows) same j) room row o)
