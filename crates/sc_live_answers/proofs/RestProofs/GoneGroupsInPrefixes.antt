-- Which groups went, by the replicas of a quiet prefix, and that they stay gone.
use Rattle.std.proofs.Common.{◌≡◌, ℕ, ◌≤◌, ◌&&◌, Bool, true, false, true≢false, cond, List, [], ◌∷◌, length, map, Option, Some, None, inl, inr, refl, sym, ◌∙◌, ap, subst, arith}
use Rattle.std.specs.Prelude.{is_some}
use Rattle.std.proofs.lemmas.Bool.{cases_Bool, and_parts, or_right}
use Rattle.std.proofs.lemmas.List.{take_all}
use Rattle.std.proofs.lemmas.Option.{none-some}
use Rattle.sc_base.specs.Definitions.{Among, same_draw}
use Rattle.sc_node_table.specs.Values.{Draw, Route, Node, Client, Seat}
use Rattle.sc_base.proofs.Lemmas.{draw_is, same_name}
use Rattle.sc_actor.specs.Definitions.{value}
use Rattle.sc_paxos_law.proofs.Lemmas.{Among-left, Among-either, from_map}
use Rattle.sc_words.proofs.PaxosProofs.PaxosLemmas.{find_found}
use Rattle.sc_scenario.specs.scenario.Definitions.{ValidScenariosAreBounded}
use Rattle.sc_scenario.specs.declared.scenario.scenarios.Scenario.{Scenario}
use Rattle.sc_node_table.specs.NodeDefinitions.{NodeState, replica_of, ReplicaState, name_of, numbers_from}
use Rattle.sc_meaning.specs.sound.SoundDefinitions.{Player, player_table, node_seat, client_seats, births, as_nodes}
use Rattle.sc_live_steps.specs.calm.CalmDefinitions.{StandsOnce, is_leading, leads, is_led}
use Rattle.sc_law_entries.specs.logs.LogDefinitions.{Rows}
use Rattle.sc_live_plain.specs.PlainDefinitions.{replicas_after}
use Rattle.sc_live_plain.proofs.PlainLemmas.{to_numbers, map_among}
use Rattle.sc_live_journals.specs.rows.RowDefinitions.{replicas_of as view_replicas, replica_in, view_at}
use Rattle.sc_live_journals.specs.charts.ChartDefinitions.{replicas_of, all_replicas, names_at, went_in, LedStandOnce}
use Rattle.sc_live_journals.proofs.ChartsProofs.ChartLemmas.{led_by}
use Rattle.sc_live_answers.specs.AnswerDefinitions.{LawfulReplicasAreNamedOnce, GoneAgree, IsQuietPrefix, IsFoundPrefix, PrefixesAreFound}
use Rattle.sc_live_answers.proofs.QuietProofs.QuietPrefixes.{IsClient, replay_client, client_among, seat_in, node_among}
use Rattle.sc_live_answers.proofs.LinesProofs.Frames.{found_once}
use Rattle.sc_live_answers.proofs.ReplicasProofs.AllReplicas.{from_seats, into_seats}

-- ---- lists

pub once_among : (group : Draw) (names : List Draw) → StandsOnce group names → Among group names
once_among group [] once = absurd once
once_among group (name ∷ names) (inl here) = inl here.0
once_among group (name ∷ names) (inr more) = inr (once_among group names more.1)

-- none went anywhere, where none of its replicas is gone
pub went_none : (group : Draw) (rs : List ReplicaState) → ((r : ReplicaState) → Among r rs → name_of r ≡ group → r.group.core.gone ≡ None) → went_in group rs ≡ None
went_none group [] none = refl
went_none group (r ∷ rs) none = elim (cases_Bool (same_draw (name_of r) group)) [
  | inl fact ↦ ap (λ b. cond b r.group.core.gone (went_in group rs)) (ap (λ b. b && is_some r.group.core.gone) fact ∙ ap is_some (none r (inl refl) (draw_is (name_of r) group fact))) ∙ went_none group rs (λ x a. none x (inr a))
  | inr other ↦ ap (λ b. cond b r.group.core.gone (went_in group rs)) (ap (λ b. b && is_some r.group.core.gone) other) ∙ went_none group rs (λ x a. none x (inr a))
]

-- one went where some replica says
pub went_found : (group : Draw) (into : Route) (rs : List ReplicaState) → went_in group rs ≡ Some into → (r : ReplicaState) × Among r rs × (name_of r ≡ group) × (r.group.core.gone ≡ Some into)
went_found group into [] e = absurd (none-some into e)
went_found group into (r ∷ rs) e = by (λ w. went_found group into rs w) (same_draw (name_of r) group && is_some r.group.core.gone) refl e
  where
    by : (went_in group rs ≡ Some into → (x : ReplicaState) × Among x rs × (name_of x ≡ group) × (x.group.core.gone ≡ Some into)) → (b : Bool) → (same_draw (name_of r) group && is_some r.group.core.gone) ≡ b → cond b r.group.core.gone (went_in group rs) ≡ Some into → (x : ReplicaState) × Among x (r ∷ rs) × (name_of x ≡ group) × (x.group.core.gone ≡ Some into)
    by rest true t w = (r, inl refl, draw_is (name_of r) group (and_parts (same_draw (name_of r) group) (is_some r.group.core.gone) t).0, w)
    by rest false f w = (let more = rest w in (more.0, inr more.1, more.2, more.3))

-- where some replica is gone, it went somewhere
pub went_some : (group : Draw) (into : Route) (rs : List ReplicaState) (r : ReplicaState) → Among r rs → name_of r ≡ group → r.group.core.gone ≡ Some into → (elsewhere : Route) × (went_in group rs ≡ Some elsewhere)
went_some group into [] r a named gone = absurd a
went_some group into (x ∷ rs) r a named gone = by (λ more. went_some group into rs r more named gone) (same_draw (name_of x) group && is_some x.group.core.gone) refl
  where
    there : Among r (x ∷ rs) → (same_draw (name_of x) group && is_some x.group.core.gone) ≡ false → Among r rs
    there (inr more) f = more
    there (inl e) f = absurd (true≢false (sym (ap (λ b. b && is_some x.group.core.gone) (same_name (name_of x) group (ap name_of e ∙ named)) ∙ ap is_some (ap (λ (y : ReplicaState). y.group.core.gone) e ∙ gone)) ∙ f))

    some : (o : Option Route) → x.group.core.gone ≡ o → is_some o ≡ true → (elsewhere : Route) × (x.group.core.gone ≡ Some elsewhere)
    some None e s = absurd (true≢false (sym s))
    some (Some elsewhere) e s = (elsewhere, e)

    by : (Among r rs → (elsewhere : Route) × (went_in group rs ≡ Some elsewhere)) → (b : Bool) → (same_draw (name_of x) group && is_some x.group.core.gone) ≡ b → (elsewhere : Route) × (cond b x.group.core.gone (went_in group rs) ≡ Some elsewhere)
    by rest true t = some x.group.core.gone refl (and_parts (same_draw (name_of x) group) (is_some x.group.core.gone) t).1
    by rest false f = rest (there a f)

module _ (bounded : ValidScenariosAreBounded) (named : LawfulReplicasAreNamedOnce) (led_once : LedStandOnce) (finds : PrefixesAreFound) (words : ℕ → ℕ → ℕ × ℕ) (scenario : Scenario) (journal prefix : Rows) (q : IsQuietPrefix words scenario journal prefix) where
  abbrev seats : List (Seat Player)
  seats = births as_nodes scenario

  abbrev all : List ReplicaState
  all = all_replicas seats prefix

  abbrev at : Draw → ℕ → Option ReplicaState
  at = replicas_after scenario prefix

  abbrev seat_of : ℕ → Seat Player
  seat_of me = node_seat as_nodes scenario.groups scenario.policy me

  found : IsFoundPrefix words scenario journal prefix
  found = finds words scenario journal prefix q.calm q.begins

  -- ---- seat by seat

  no_client : (player : Player) (r : ReplicaState) → IsClient player → Among r (replicas_of player) → ⊥
  no_client (Node node) r fact a = fact
  no_client (Client client) r fact a = a

  -- each replica is one that is seen of its group
  all_seen : (r : ReplicaState) → Among r all → (me : ℕ) × (at (name_of r) me ≡ Some r)
  all_seen r a =
      let f = from_seats prefix seats r a in
      elim (Among-either f.0 (map seat_of (numbers_from 1 scenario.nodes)) (client_seats scenario.groups scenario.clients) f.1) [
        | inl node ↦ (
            let m = from_map seat_of (numbers_from 1 scenario.nodes) f.0 node in
            let within = node_among scenario.groups scenario.policy scenario.nodes 1 f.0 node in
            let own = ap (λ (s : Seat Player). s.who) m.2 in
            let low = within.0 in
            let high = within.1 in
            (m.0, found.views (name_of r) m.0 ∙ of_node m.0 (omega (arith, own, low)) (omega (arith, own, high)) (value player_table (seat_of m.0) prefix) refl (subst (λ s. Among r (replicas_of (value player_table s prefix))) (sym m.2) f.2)))
        | inr client ↦ absurd (no_client (value player_table f.0 prefix) r (replay_client f.0.who f.0.actor [] prefix (client_among scenario.groups scenario.clients f.0 client)) f.2)
      ]
    where
      of_node : (me : ℕ) → 1 ≤ me → me ≤ scenario.nodes → (p : Player) → value player_table (seat_of me) prefix ≡ p → Among r (replicas_of p) → view_at seats prefix (name_of r) me ≡ Some r
      of_node me low high (Client client) fact a = absurd a
      of_node me low high (Node state) fact a =
          ap (replica_in (name_of r) prefix) (seat_in scenario.groups scenario.policy scenario.nodes 1 me (client_seats scenario.groups scenario.clients) low (omega (arith, high)))
          ∙ (ap (λ (p : Player). replica_of (name_of r) (view_replicas p)) fact ∙ found_once state.replicas r (named words scenario prefix me state q.calm.valid found.lawful low high fact) a)

  -- each replica that is seen is among all
  record IsAmong (name : Draw) (r : ReplicaState) : Type 0 where
    seat : Seat Player
    seated : Among seat seats
    state : NodeState
    fact : value player_table seat prefix ≡ Node state
    here : replica_of name state.replicas ≡ Some r

  seen_all : (name : Draw) (me : ℕ) (r : ReplicaState) → at name me ≡ Some r → IsAmong name r
  seen_all name me r e =
      let home = found.homes name me (r, e) in
      let low = home.0 in
      let high = home.1 in
      by (value player_table (seat_of me) prefix) refl
      (sym (ap (replica_in name prefix) (seat_in scenario.groups scenario.policy scenario.nodes 1 me (client_seats scenario.groups scenario.clients) low (omega (arith, high)))) ∙ (sym (found.views name me) ∙ e))
      (Among-left (seat_of me) (map seat_of (numbers_from 1 scenario.nodes)) (client_seats scenario.groups scenario.clients) (map_among seat_of (numbers_from 1 scenario.nodes) me (to_numbers 1 scenario.nodes me low (omega (arith, high)))))
    where
      by : (p : Player) → value player_table (seat_of me) prefix ≡ p → replica_of name (view_replicas p) ≡ Some r → Among (seat_of me) seats → IsAmong name r
      by (Client client) fact w a = absurd (none-some r w)
      by (Node state) fact w a = record { seat = seat_of me; seated = a; state = state; fact = fact; here = w }

  -- ---- who went

  pub gone_seen : (name : Draw) (into : Route) → went_in name all ≡ Some into → (node : ℕ) × (r : ReplicaState) × (at name node ≡ Some r) × (r.group.core.gone ≡ Some into)
  gone_seen name into e =
      let f = went_found name into all e in
      let s = all_seen f.0 f.1 in
      (s.0, f.0, ap (λ n. at n s.0) (sym f.2) ∙ s.1, f.3)

  pub seen_gone : GoneAgree at → (name : Draw) (node : ℕ) (r : ReplicaState) (into : Route) → at name node ≡ Some r → r.group.core.gone ≡ Some into → went_in name all ≡ Some into
  seen_gone agree name node r into e gone =
      let s = seen_all name node r e in
      let f = find_found (λ (x : ReplicaState). same_draw (name_of x) name) s.state.replicas r s.here in
      let w = went_some name into all r (into_seats prefix seats s.seat r s.seated (subst (λ (p : Player). Among r (replicas_of p)) (sym s.fact) f.0)) (draw_is (name_of r) name f.1) gone in
      let g = gone_seen name w.0 w.1 in
      w.1 ∙ ap Some (agree name g.0 node g.1 r w.0 into g.2 e g.3 gone)

  pub seen_none : (name : Draw) → ((node : ℕ) (r : ReplicaState) → at name node ≡ Some r → r.group.core.gone ≡ None) → went_in name all ≡ None
  seen_none name none = went_none name all (λ r a same. (let s = all_seen r a in none s.0 r (ap (λ n. at n s.0) (sym same) ∙ s.1)))

  -- each that went has a name
  pub gone_named : (name : Draw) (into : Route) → went_in name all ≡ Some into → Among name (names_at seats prefix)
  gone_named name into e =
      let g = gone_seen name into e in
      let s = seen_all name g.0 g.1 g.2 in
      let led : is_led seats prefix name ≡ true = led_by seats prefix name s.seat s.seated (ap (leads name) s.fact ∙ (ap is_leading s.here ∙ or_right g.1.running (is_some g.1.group.core.gone) (ap is_some g.3))) in
      once_among name (names_at seats prefix) (led_once seats prefix (length prefix) name (omega arith) (subst (λ rows. is_led seats rows name ≡ true) (sym (take_all (length prefix) prefix (omega arith))) led))
