-- No row of a client raises its tokens: it sends one request where it takes an answer, or where none waited.
use Rattle.std.proofs.Common.{◌≡◌, ℕ, ◌+◌, ◌-◌, ◌≤◌, eqb, Bool, true, false, cond, [], ◌∷◌, ◌++◌, sum_by, Some, None, refl, ◌∙◌, ap, arith}
use Rattle.std.proofs.lemmas.List.Sums.{sum_by-cons}
use Rattle.sc_base.specs.Definitions.{client_actor}
use Rattle.sc_node_table.specs.Values.{Draw, AnswerBody, Value, NotLeader, NotMine, Gone, MailBody, Answer}
use Rattle.sc_client_table.specs.lookup.LookupDefinitions.{preferring, passed_on, learnt_from_not_mine, learnt_from_gone}
use Rattle.sc_client_table.specs.table.TableDefinitions.{Client as ClientState, ClientStep, request_of, sent_to, request_sent, started, got}
use Rattle.sc_law_walks.proofs.WalkLemmas.{SendsTo, sent_step, request_step, started_step, mail_step}
use Rattle.sc_live_steps.specs.calm.CalmDefinitions.{waiting_one}
use Rattle.sc_live_answers.specs.AnswerDefinitions.{body_token, mail_token}
use Rattle.sc_live_answers.proofs.LinesProofs.PumpTokens.{answer_token}

module _ (c : ℕ) where
  -- what a client counts: one where none waits
  abbrev pub slack : ClientState → ℕ
  slack client = cond (eqb client.me c) (1 - waiting_one client.waiting) 0

  slack_none : (client : ClientState) (n : ℕ) → client.waiting ≡ Some n → slack client ≡ 0
  slack_none client n e = by (eqb client.me c)
    where
      by : (b : Bool) → cond b (1 - waiting_one client.waiting) 0 ≡ 0
      by true = ap (λ o. 1 - waiting_one o) e
      by false = refl

  abbrev pub step_tokens : ClientStep → ℕ
  step_tokens step = slack step.0 + sum_by (mail_token c) step.1

  -- no more than one of its own
  abbrev Most : ClientState → ClientStep → Type 0
  Most client step = step_tokens step ≤ cond (eqb client.me c) 1 0

  stays_most : (client : ClientState) (n : ℕ) → client.waiting ≡ Some n → Most client (client, [])
  stays_most client n e = (let none = slack_none client n e in omega (arith, none))

  sends : (client : ClientState) (n : ℕ) → client.waiting ≡ Some n → (group : Draw) → SendsTo client group (Most client)
  sends client n e group = record {
    silent = stays_most client n e;
    asks = λ target request t r. (
        let none = slack_none (record client { asked = Some (group, target) }) n e in
        let one = sum_by-cons (mail_token c) (request_of client.me group target request) [] in
        omega (arith, none, one));
  }

  to_most : (client : ClientState) (n : ℕ) → client.waiting ≡ Some n → (group : Draw) → Most client (sent_to group client)
  to_most client n e group = sent_step client (Most client) group (sends client n e group)

  sent_most : (client : ClientState) (n : ℕ) → client.waiting ≡ Some n → Most client (request_sent client)
  sent_most client n e = request_step client (Most client) (stays_most client n e) (λ group _. sends client n e group)

  started_most : (client : ClientState) (seq : ℕ) → Most client (started seq client)
  started_most client seq = started_step client (Most client) seq (λ _. sent_most (record client { waiting = Some seq }) seq refl) (λ _. at_rest (eqb client.me c))
    where
      at_rest : (b : Bool) → cond b 1 0 + 0 ≤ cond b 1 0
      at_rest b = omega arith

  -- ---- its rows

  pub go_tokens : (client : ClientState) → client.waiting ≡ None → step_tokens (started 1 client) ≤ slack client
  go_tokens client e =
      let most = started_most client 1 in
      let free : slack client ≡ cond (eqb client.me c) 1 0 = ap (λ o. cond (eqb client.me c) (1 - waiting_one o) 0) e in
      omega (arith, most, free)

  abbrev Pays : ClientState → ℕ → MailBody → ClientStep → Type 0
  Pays client to body step = step_tokens step ≤ slack client + body_token c to body

  pub got_tokens : (client : ClientState) (from to : ℕ) (body : MailBody) → to ≡ client_actor client.me → Pays client to body (got from body client)
  got_tokens client from to body here = mail_step client (record { from = from; to = to; body = body }) (Pays client to body) (λ i. omega arith) (λ group seq. record {
    replied = λ reply w. (let after : ClientState = record client { replies = client.replies ++ reply ∷ [] } in pays group seq (Value reply) (started (seq + 1) after) (started_most after (seq + 1)));
    hinted = λ hint w a. (let after : ClientState = record client { known = preferring group hint client.known } in pays group seq (NotLeader (Some hint)) (sent_to group after) (to_most after seq w group));
    turned = λ w a. (let after : ClientState = record client { known = passed_on group client.known } in pays group seq (NotLeader None) (sent_to group after) (to_most after seq w group));
    not_mine = λ arc succ w a. (let after : ClientState = record client { known = learnt_from_not_mine group arc succ client.known } in pays group seq (NotMine arc succ) (request_sent after) (sent_most after seq w));
    gone = λ into w a. (let after : ClientState = record client { known = learnt_from_gone group into client.known } in pays group seq (Gone into) (request_sent after) (sent_most after seq w));
  })
    where
      pays : (group : Draw) (seq : ℕ) (answer : AnswerBody) (step : ClientStep) → Most client step → body ≡ Answer group seq answer → Pays client to body step
      pays group seq answer step most e =
          let same = ap (body_token c to) e ∙ (ap (λ x. body_token c x (Answer group seq answer)) here ∙ answer_token c client.me group seq answer) in
          omega (arith, most, same)
