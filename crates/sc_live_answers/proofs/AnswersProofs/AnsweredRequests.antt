-- In a whole calm journal every request of a client whose `go` line is followed by a line of deliveries is answered.
use Rattle.std.proofs.Common.{◌≡◌, ℕ, ◌+◌, ◌-◌, ◌≤◌, ◌<◌, eqb, Bool, true, false, append-nil, List, [], ◌∷◌, ◌++◌, length, map, Some, None, inl, inr, refl, sym, ◌∙◌, ap, subst, arith, append_assoc}
use Rattle.std.specs.Prelude.{slice_get}
use Rattle.std.proofs.lemmas.Bool.{cases_Bool, cases_lt, cond-false, eqb-true}
use Rattle.std.proofs.lemmas.List.{map-append}
use Rattle.std.proofs.lemmas.Option.{slice_get_within, slice_get_cases}
use Rattle.sc_base.specs.Definitions.{Among, client_actor}
use Rattle.sc_node_table.specs.Values.{Reply, Base, OrderLine, Mail, Seat, Row, Line}
use Rattle.sc_actor.specs.declared.schedules.Line.TheVariants as line
use Rattle.sc_actor.specs.Definitions.{value, System, has_started, IsLawful, is_quiet, unsettled}
use Rattle.sc_actor.proofs.Lemmas.{lawful-prefix}
use Rattle.sc_client_table.specs.table.TableDefinitions.{Client as ClientState}
use Rattle.sc_node_table.specs.NodeDefinitions.{numbers_from}
use Rattle.sc_paxos_law.proofs.Lemmas.{Among-left, Among-right}
use Rattle.sc_words.proofs.PaxosProofs.PaxosLemmas.{Each-among}
use Rattle.sc_live_orderly.proofs.OrderlyLemmas.{was_quiet_started, seat_found}
use Rattle.sc_scenario.specs.scenario.Definitions.{IsValid, ValidScenariosAreBounded}
use Rattle.sc_scenario.specs.declared.scenario.scenarios.Asks.{Asks}
use Rattle.sc_scenario.specs.declared.scenario.scenarios.Scenario.{Scenario}
use Rattle.sc_scenario.specs.declared.scenario.scenarios.SchedLine.TheVariants.{Go}
use Rattle.sc_meaning.specs.sound.SoundDefinitions.{Player, player_table, node_seat, client_seat, route_of, births, line_of, schedule, system_of, as_nodes, replies_of, Lawful, Whole, kept_replies}
use Rattle.sc_law_groups.specs.whole.WholeDefinitions.{ValidJournalsAreSound}
use Rattle.sc_live_plain.specs.PlainDefinitions.{AreAnswered, IsQuietJournal}
use Rattle.sc_live_plain.proofs.PlainLemmas.{IsStage, stage, map_among, replies_more, first_delivery, many_line}
use Rattle.sc_live_steps.specs.calm.CalmDefinitions.{IsAnswered}

abbrev Rows : Type 0
Rows = List (Row Mail OrderLine)

module _ (sound_law : ValidJournalsAreSound) (words : ℕ → ℕ → ℕ × ℕ) (scenario : Scenario) (s : IsStage scenario) (journal : Rows) (valid : IsValid scenario) (lawful : Lawful as_nodes words scenario journal) (asks : Asks) (a : Among asks scenario.clients) where
  -- a reply that is kept is of a request that there is
  reply_low : (seq : ℕ) (reply : Reply) → slice_get (kept_replies (route_of s.first) asks journal) seq ≡ Some reply → seq < length asks.ops
  reply_low seq reply e =
      let sound = sound_law as_nodes refl words scenario valid journal lawful journal [] (sym (append-nil journal)) in
      let one : 1 ≤ seq + 1 = omega arith in
      let kept = sound.answers.kept s.first s.others s.groups_are asks a (seq + 1) reply
      (cond-false (eqb (seq + 1) 0) None (slice_get (kept_replies (route_of s.first) asks journal) (seq + 1 - 1)) (not_zero seq) ∙ (ap (slice_get (kept_replies (route_of s.first) asks journal)) (let back : seq + 1 - 1 ≡ seq = omega arith in back) ∙ e)) in
      let fact = sound.answers.requests kept.entry kept.stands in
      let same : fact.0 ≡ asks = s.once fact.0 asks fact.1 a (sym fact.2.client ∙ kept.client_is) in
      let low = slice_get_within fact.0.ops (kept.entry.seq - 1) kept.entry.op fact.2.op in
      let number = kept.seq_is in
      let ops = ap (λ (x : Asks). length x.ops) same in
      omega (arith, low, number, ops)
    where
      not_zero : (n : ℕ) → eqb (n + 1) 0 ≡ false
      not_zero n = elim (cases_Bool (eqb (n + 1) 0)) [ inl t ↦ (let z = eqb-true (n + 1) 0 t in absurd (omega (arith, z))) | inr f ↦ f ]

  -- so there are no more replies than requests
  replies_low : length (kept_replies (route_of s.first) asks journal) ≤ length asks.ops
  replies_low = elim (cases_lt (length asks.ops) (length (kept_replies (route_of s.first) asks journal))) [
    | inl more ↦ elim (slice_get_cases (kept_replies (route_of s.first) asks journal) (length asks.ops)).1 [
      | inl there ↦ (let low = reply_low (length asks.ops) there.0 there.2 in absurd (omega (arith, low)))
      | inr past ↦ (let high = past.0 in absurd (omega (arith, more, high)))
    ]
    | inr few ↦ few
  ]

  -- where the client had started in a prefix that is as a quiet journal, all its requests are answered
  pub answered_since : (before after : Rows) → journal ≡ before ++ after → IsQuietJournal words scenario s.first before → has_started before (client_actor asks.client) ≡ true
      → (first : Base) (others : List Base) → scenario.groups ≡ first ∷ others → length (kept_replies (route_of first) asks journal) ≡ length asks.ops
  answered_since before after rows_are quiet gone first others groups =
      let seat : Seat Player = client_seat (route_of s.first) asks in
      let player = quiet.players asks a in
      let answer = Each-among (λ (client : Bool × ClientState). IsAnswered client.0 (route_of s.first) client.1) quiet.clients (has_started before (client_actor asks.client), player.0) quiet.quiet.answered player.4 in
      let all = (subst (λ b. IsAnswered b (route_of s.first) player.0) gone answer).1 in
      let requests = ap length player.3 in
      let then_ = ap (λ p. length (replies_of p)) player.1 in
      let more = replies_more seat before after in
      let same_rows = ap (λ l. length (replies_of (value player_table seat l))) rows_are in
      let low = replies_low in
      let same : s.first ≡ first = (let e : s.first ∷ s.others ≡ first ∷ others = sym s.groups_are ∙ groups in cc) in
      ap (λ (b : Base). length (replies_of (value player_table (client_seat (route_of b) asks) journal))) (sym same)
      ∙ (let equal : length (replies_of (value player_table seat journal)) ≡ length asks.ops = omega (arith, then_, all, requests, more, same_rows, low) in equal)

-- each request of a client that has started before a line of deliveries is answered in a whole journal in which no line was cut off, where its quiet prefixes rest
pub answered_calmly : ValidScenariosAreBounded → ValidJournalsAreSound → (words : ℕ → ℕ → ℕ × ℕ) (scenario : Scenario) (journal : Rows) → IsValid scenario
    → Lawful as_nodes words scenario journal → Whole as_nodes words scenario journal → unsettled (system_of as_nodes words scenario) (schedule scenario) journal ≡ false
    → ((first : Base) (others : List Base) (rows more : Rows) → journal ≡ rows ++ more → Lawful as_nodes words scenario rows → scenario.groups ≡ first ∷ others → is_quiet (system_of as_nodes words scenario) rows ≡ true → IsQuietJournal words scenario first rows)
    → AreAnswered scenario journal
answered_calmly all_bounded sound_law words scenario journal valid lawful whole uncut rest_law first others groups asks a served =
    let bounded = all_bounded scenario valid in
    let s = stage scenario bounded in
    let sys : System Player Mail OrderLine = system_of as_nodes words scenario in
    let seat : Seat Player = client_seat (route_of s.first) asks in
    let there : Among seat (births as_nodes scenario) =
    subst (Among seat) (sym s.seats) (Among-right seat (map (node_seat as_nodes scenario.groups scenario.policy) (numbers_from 1 scenario.nodes)) (map (client_seat (route_of s.first)) scenario.clients) (map_among (client_seat (route_of s.first)) scenario.clients asks a)) in
    let born = seat_found (births as_nodes scenario) seat s.seats_apart there in
    let d = first_delivery served.after served.delivered in
    let start : List (Line OrderLine) = map line_of served.before ++ line.Go (client_actor asks.client) ∷ [] in
    let lines : schedule scenario ≡ start ++ map line_of served.after =
    ap (map line_of) served.lines_are ∙ (map-append line_of served.before (Go asks.client ∷ served.after) ∙ sym (append_assoc (map line_of served.before) (line.Go (client_actor asks.client) ∷ []) (map line_of served.after))) in
    let rest_is : map line_of served.after ≡ map line_of d.0 ++ line_of d.1 ∷ map line_of d.2 = ap (map line_of) d.3 ∙ map-append line_of d.0 (d.1 ∷ d.2) in
    let parts : schedule scenario ≡ (start ++ map line_of d.0) ++ line_of d.1 ∷ map line_of d.2 =
    lines ∙ (ap (λ l. start ++ l) rest_is ∙ sym (append_assoc start (map line_of d.0) (line_of d.1 ∷ map line_of d.2))) in
    let goes : Among (line.Go (client_actor asks.client)) (start ++ map line_of d.0) =
    Among-left (line.Go (client_actor asks.client)) start (map line_of d.0) (Among-right (line.Go (client_actor asks.client)) (map line_of served.before) (line.Go (client_actor asks.client) ∷ []) (inl refl)) in
    let was = was_quiet_started sys (client_actor asks.client) seat born (schedule scenario) (start ++ map line_of d.0) (map line_of d.2) (line_of d.1) parts goes (many_line d.1 d.4) journal lawful uncut whole in
    let begins : IsLawful sys (schedule scenario) was.before = lawful-prefix sys (schedule scenario) was.before was.after (subst (λ l. IsLawful sys (schedule scenario) l) was.rows_are lawful) in
    let quiet = rest_law s.first s.others was.before was.after was.rows_are begins s.groups_are was.quiet in
    answered_since sound_law words scenario s journal valid lawful asks a was.before was.after was.rows_are quiet was.held first others groups
