-- A client never has fewer requests begun.
use Rattle.std.proofs.Common.{◌≡◌, ℕ, ◌-◌, ◌≤◌, List, length, Some, inl, inr, refl, sym, ◌∙◌, ap, arith}
use Rattle.std.specs.Prelude.{slice_get}
use Rattle.std.proofs.lemmas.List.{length_push}
use Rattle.sc_base.specs.Definitions.{Among}
use Rattle.sc_node_table.specs.Values.{Op, OrderLine, Got, Mail, Row, MailBody}
use Rattle.sc_client_table.specs.table.TableDefinitions.{Client, request_sent, got}
use Rattle.sc_client_table.proofs.TableProofs.TurnLemmas.{sends_in_turn}
use Rattle.sc_scenario.specs.declared.scenario.scenarios.Asks.{Asks}
use Rattle.sc_scenario.specs.declared.scenario.scenarios.Scenario.{Scenario}
use Rattle.sc_law_walks.proofs.WalkLemmas.{request_same as same_sent}
use Rattle.sc_live_plain.specs.PlainDefinitions.{waiting_one, begun_ones, IsBegun}

pub request_same : (client : Client) → begun_ones (request_sent client).0 ≡ begun_ones client
request_same client = same_sent (λ (c : Client). begun_ones c) (λ c asked. refl) client

-- whatever mail it takes
pub got_grows : (from : ℕ) (body : MailBody) (client : Client) → begun_ones client ≤ begun_ones (got from body client).0
got_grows from body client = elim ((sends_in_turn client (Got (record { from = from; to = 0; body = body }))).moves) [
  | inl w ↦ (let replies = ap (λ l. length l) w.replies in let number = ap waiting_one w.number in omega (arith, replies, number))
  | inr (inl b) ↦ absurd (let bad = b.go in cc)
  | inr (inr t) ↦ (
      let more = ap (λ l. length l) t.replies ∙ length_push client.replies t.reply in
      let one = ap waiting_one t.waited in
      omega (arith, more, one))
]

-- what is begun of a client is its request
pub begun_right : (scenario : Scenario) (rows : List (Row Mail OrderLine)) → ((one other : Asks) → Among one scenario.clients → Among other scenario.clients → one.client ≡ other.client → one ≡ other)
    → (asks : Asks) → Among asks scenario.clients → (client : Client) → client.me ≡ asks.client → client.requests ≡ asks.ops → (seq : ℕ) (op : Op) → IsBegun scenario rows client.me seq op → slice_get client.requests (seq - 1) ≡ Some op
begun_right scenario rows once asks a client me_is requests_are seq op b =
    let same : b.asks ≡ asks = once b.asks asks b.is_asks a (b.client_is ∙ me_is) in
    ap (λ (ops : List Op). slice_get ops (seq - 1)) (requests_are ∙ sym (ap (λ (x : Asks). x.ops) same)) ∙ b.op_is
