-- Where no replica has a queued request and no mail is under way, each client counts one at most.
use Rattle.std.proofs.Common.{◌≡◌, ℕ, ◌-◌, ◌≤◌, not, eqb, Bool, true, false, cond, List, [], ◌∷◌, map, sum_by, inl, inr, refl, sym, ◌∙◌, ap, subst, arith}
use Rattle.std.specs.List.{list_any}
use Rattle.std.proofs.lemmas.Bool.{and_parts, or_parts, cases_eq, eq-eqb, ne_eqb, cond-true, cond-false}
use Rattle.std.proofs.lemmas.List.Sums.{sum_by-cons}
use Rattle.sc_base.specs.Definitions.{Among, client_actor}
use Rattle.sc_node_table.specs.Values.{Base, Seat}
use Rattle.sc_actor.specs.Definitions.{value, are_apart}
use Rattle.sc_node_table.specs.NodeDefinitions.{numbers_from}
use Rattle.sc_paxos_law.proofs.Lemmas.{Among-either, from_map}
use Rattle.sc_scenario.specs.declared.scenario.scenarios.Asks.{Asks}
use Rattle.sc_scenario.specs.scenario.Definitions.{ValidScenariosAreBounded}
use Rattle.sc_meaning.specs.sound.SoundDefinitions.{Player, player_table, node_seat, client_seat, route_of, births, as_nodes}
use Rattle.sc_live_steps.specs.calm.CalmDefinitions.{waiting_one}
use Rattle.sc_live_plain.specs.PlainDefinitions.{IsAsking}
use Rattle.sc_live_plain.proofs.PlainLemmas.{stage, in_numbers}
use Rattle.sc_live_answers.specs.AnswerDefinitions.{mail_token, player_token, IdleCountsOnce}

-- seats that are apart, of which that with one number counts one at most and all others none
module _ {A : Type 0} (f : Seat A → ℕ) (who : ℕ) where
  abbrev AreFew : List (Seat A) → Type 0
  AreFew seats = (seat : Seat A) → Among seat seats → f seat ≤ cond (eqb seat.who who) 1 0

  none_there : (seats : List (Seat A)) → list_any (λ other. eqb other.who who) seats ≡ false → AreFew seats → sum_by f seats ≡ 0
  none_there [] e few = refl
  none_there (s ∷ seats) e few =
      let parts = or_parts (eqb s.who who) (list_any (λ other. eqb other.who who) seats) e in
      let rec = none_there seats parts.1 (λ seat a. few seat (inr a)) in
      let here = few s (inl refl) in
      let zero_ = cond-false {A = ℕ} (eqb s.who who) 1 0 parts.0 in
      let all = sum_by-cons f s seats in
      omega (arith, rec, here, zero_, all)

  not_any : (b : Bool) → not b ≡ true → b ≡ false
  not_any false e = refl
  not_any true e = sym e

  few_all : (seats : List (Seat A)) → are_apart seats ≡ true → AreFew seats → sum_by f seats ≤ 1
  few_all [] apart few = omega arith
  few_all (s ∷ seats) apart few =
      let parts = and_parts (not (list_any (λ other. eqb other.who s.who) seats)) (are_apart seats) apart in
      let here = few s (inl refl) in
      let all = sum_by-cons f s seats in
      elim (cases_eq s.who who) [
        | inl same ↦ (
            let none = none_there seats (ap (λ n. list_any (λ other. eqb other.who n) seats) (sym same) ∙ not_any (list_any (λ other. eqb other.who s.who) seats) parts.0) (λ seat a. few seat (inr a)) in
            let one = cond-true {A = ℕ} (eqb s.who who) 1 0 (eq-eqb s.who who same) in
            omega (arith, none, one, here, all))
        | inr ne ↦ (
            let rec = few_all seats parts.1 (λ seat a. few seat (inr a)) in
            let zero_ = cond-false {A = ℕ} (eqb s.who who) 1 0 (ne_eqb s.who who ne) in
            omega (arith, rec, zero_, here, all))
      ]

slack_most : (b : Bool) (n : ℕ) → cond b (1 - n) 0 ≤ cond b 1 0
slack_most true n = omega arith
slack_most false n = omega arith

pub idle_once : ValidScenariosAreBounded → IdleCountsOnce
idle_once all_bounded words scenario set first others rows c valid groups j idle none =
    let begins = stage scenario (all_bounded scenario valid) in
    let same : first ≡ begins.first = (let e : first ∷ others ≡ begins.first ∷ begins.others = sym groups ∙ begins.groups_are in cc) in
    let j_ = subst (λ (f : Base). IsAsking words scenario set f rows) same j in
    let f : Seat Player → ℕ = λ seat. player_token c (value player_table seat rows) in
    let few : (seat : Seat Player) → Among seat (births as_nodes scenario) → f seat ≤ cond (eqb seat.who (client_actor c)) 1 0 = λ seat a.
    elim (Among-either seat (map (λ me. node_seat as_nodes scenario.groups scenario.policy me) (numbers_from 1 scenario.nodes)) (map (λ asks. client_seat (route_of begins.first) asks) scenario.clients) (subst (Among seat) begins.seats a)) [
      | inl b ↦ (
          let from = from_map (λ me. node_seat as_nodes scenario.groups scenario.policy me) (numbers_from 1 scenario.nodes) seat b in
          let bounds = in_numbers 1 scenario.nodes from.0 from.1 in
          let low = bounds.0 in
          let high = bounds.1 in
          let n = j_.nodes from.0 low (omega (arith, high)) in
          let zero_ = idle from.0 n.node low (omega (arith, high)) n.fact in
          let here = ap (player_token c) n.fact in
          let there = ap f (sym from.2) in
          omega (arith, zero_, here, there))
      | inr b ↦ (
          let from = from_map (λ (asks : Asks). client_seat (route_of begins.first) asks) scenario.clients seat b in
          let k = j_.clients from.0 from.1 in
          let here = ap (player_token c) k.fact in
          let there = ap f (sym from.2) in
          let most = slack_most (eqb k.client.me c) (waiting_one k.client.waiting) in
          let who : seat.who ≡ client_actor from.0.client = ap (λ (x : Seat Player). x.who) (sym from.2) in
          elim (cases_eq k.client.me c) [
            | inl me ↦ (
                let one = cond-true {A = ℕ} (eqb k.client.me c) 1 0 (eq-eqb k.client.me c me) in
                let at = cond-true {A = ℕ} (eqb seat.who (client_actor c)) 1 0 (eq-eqb seat.who (client_actor c) (who ∙ ap client_actor (sym k.calm.me_is ∙ me))) in
                omega (arith, here, there, most, one, at))
            | inr ne ↦ (let zero_ = cond-false {A = ℕ} (eqb k.client.me c) 1 0 (ne_eqb k.client.me c ne) in omega (arith, here, there, most, zero_))
          ])
    ] in
    let all = few_all f (client_actor c) (births as_nodes scenario) begins.seats_apart few in
    let mail = ap (sum_by (mail_token c)) none in
    omega (arith, all, mail)
