-- What a statement about a client's step needs: a case for each way in which a client takes an input, with what is known there, and one for every input of which it takes no notice.
use Rattle.std.proofs.Common.{◌≡◌, ℕ, ◌+◌, eqb, nat_le, Bool, true, false, true≢false, cond, [], ◌∷◌, ◌++◌, length, Option, Some, None, ◌⊎◌, inl, inr, refl, sym, ◌∙◌, ap, subst}
use Rattle.std.proofs.lemmas.Bool.{cond_both, both_ways, eqb-true, eq-eqb, and_parts, and_from}
use Rattle.sc_base.specs.Definitions.{Each, Arc, same_draw}
use Rattle.sc_base.proofs.Lemmas.{draw_is, same_name}
use Rattle.sc_node_table.specs.Values.{Draw, Op, Reply, Link, Route, AnswerBody, Value, NotLeader, NotMine, Gone, Stale, Input, Got, OrderLine, Mail, MailBody, Answer}
use Rattle.sc_actor.specs.declared.rows.Input.TheVariants.{Tick, Go, Told}
use Rattle.sc_client_table.specs.lookup.LookupDefinitions.{target_in, preferring, learnt_from_not_mine, learnt_from_gone}
use Rattle.sc_client_table.specs.table.TableDefinitions.{Client, ClientStep, waiting_request, request_of, asked_of, sent_to, sent_where, chosen_for, request_sent, started, turned_on, client_ticked, waits_for, was_asked, redirected, answer_taken, got, table}
use Rattle.sc_client_table.proofs.TableProofs.TurnLemmas.{waited_for, sends_in_turn}

-- ---- what a client sends

-- what a statement about a step needs where a client sends to a group: nothing is sent, or the waiting request, to the group's target
pub record SendsTo (client : Client) (group : Draw) (P : ClientStep → Type 0) : Type 0 where
  pub silent : P (client, [])
  pub asks : (target : ℕ) (request : ℕ × Op) → target_in group client.known ≡ Some target → waiting_request client ≡ Some request → P (asked_of client group (Some target) (Some request))

module _ (client : Client) (P : ClientStep → Type 0) where
  -- a client that sends to this group
  pub sent_step : (group : Draw) → SendsTo client group P → P (sent_to group client)
  sent_step group s = by (target_in group client.known) (waiting_request client) refl refl
    where
      by : (o : Option ℕ) (request : Option (ℕ × Op)) → target_in group client.known ≡ o → waiting_request client ≡ request → P (asked_of client group o request)
      by (Some target) (Some request) t r = s.asks target request t r
      by (Some target) None t r = s.silent
      by None request t r = s.silent

  -- a client that sends to the group that is chosen, if one is
  pub request_step : P (client, []) → ((group : Draw) → chosen_for client (waiting_request client) ≡ Some group → SendsTo client group P) → P (request_sent client)
  request_step none s = by (chosen_for client (waiting_request client)) refl
    where
      by : (o : Option Draw) → chosen_for client (waiting_request client) ≡ o → P (sent_where client o)
      by (Some group) c = sent_step group (s group c)
      by None c = none

  -- a client that begins the request with this number, if there is one
  pub started_step : (seq : ℕ) → (nat_le seq (length client.requests) ≡ true → P (request_sent (record client { waiting = Some seq }))) → (nat_le seq (length client.requests) ≡ false → P (record client { waiting = None }, [])) → P (started seq client)
  started_step seq begun none = cond_both (nat_le seq (length client.requests)) (request_sent (record client { waiting = Some seq })) (record client { waiting = None }, []) P begun none

-- what does not read whom a client asked last is as before after it has sent
module _ {X : Type 0} (f : Client → X) (same : (client : Client) (asked : Option (Draw × ℕ)) → f (record client { asked = asked }) ≡ f client) where
  sends_same : (client : Client) (group : Draw) → SendsTo client group (λ (step : ClientStep). f step.0 ≡ f client)
  sends_same client group = record { silent = refl; asks = λ target request t r. same client (Some (group, target)) }

  pub sent_same : (group : Draw) (client : Client) → f (sent_to group client).0 ≡ f client
  sent_same group client = sent_step client (λ (step : ClientStep). f step.0 ≡ f client) group (sends_same client group)

  pub request_same : (client : Client) → f (request_sent client).0 ≡ f client
  request_same client = request_step client (λ (step : ClientStep). f step.0 ≡ f client) refl (λ group c. sends_same client group)

-- what holds of each request of a client holds of all that it sends
pub each_sent : (P : Mail → Type 0) (client : Client) → ((group : Draw) (target : ℕ) (request : ℕ × Op) → P (request_of client.me group target request)) → (input : Input Mail OrderLine) → Each P (table client input).1
each_sent P client of input =
    let turn = sends_in_turn client input in
    elim turn.sends [
      | inl none ↦ subst (Each P) (sym none) tt
      | inr one ↦ subst (Each P) (sym (one.4 ∙ ap (λ me. request_of me one.0 one.1 one.2 ∷ []) turn.me)) (of one.0 one.1 one.2, tt)
    ]

-- ---- an answer

-- whether an answer sends a client on to another node or group
abbrev pub redirects : AnswerBody → Bool
redirects (NotLeader hint) = true
redirects (NotMine arc succ) = true
redirects (Gone into) = true
redirects (Value reply) = false
redirects (Stale last) = false

-- a client takes no notice of an answer: it is no reply to the request that waits, and does not send it on from the node that was asked last
pub record IgnoresAnswer (client : Client) (from : ℕ) (group : Draw) (seq : ℕ) (answer : AnswerBody) : Type 0 where
  pub no_reply : (reply : Reply) → client.waiting ≡ Some seq → answer ≡ Value reply → ⊥
  pub not_sent : client.waiting ≡ Some seq → client.asked ≡ Some (group, from) → redirects answer ≡ true → ⊥

-- what a statement about an answer and the step needs where a client takes notice: the answer is to the request that waits, and but for a reply it comes from the node that was asked last
pub record AnswerWalk (client : Client) (from : ℕ) (group : Draw) (seq : ℕ) (P : AnswerBody → ClientStep → Type 0) : Type 0 where
  pub replied : (reply : Reply) → client.waiting ≡ Some seq → P (Value reply) (started (seq + 1) (record client { replies = client.replies ++ reply ∷ [] }))
  pub hinted : (hint : ℕ) → client.waiting ≡ Some seq → client.asked ≡ Some (group, from) → P (NotLeader (Some hint)) (sent_to group (record client { known = preferring group hint client.known }))
  pub turned : client.waiting ≡ Some seq → client.asked ≡ Some (group, from) → P (NotLeader None) (turned_on group client)
  pub not_mine : (arc : Arc) (succ : Link) → client.waiting ≡ Some seq → client.asked ≡ Some (group, from) → P (NotMine arc succ) (request_sent (record client { known = learnt_from_not_mine group arc succ client.known }))
  pub gone : (into : Route) → client.waiting ≡ Some seq → client.asked ≡ Some (group, from) → P (Gone into) (request_sent (record client { known = learnt_from_gone group into client.known }))

-- the tests of the table, as equations
pub waits_so : (waiting : Option ℕ) (seq : ℕ) → waiting ≡ Some seq → waits_for waiting seq ≡ true
waits_so waiting seq e = ap (λ o. waits_for o seq) e ∙ eq-eqb seq seq refl

pub asked_so : (asked : Option (Draw × ℕ)) (from : ℕ) (group : Draw) → asked ≡ Some (group, from) → was_asked asked from group ≡ true
asked_so asked from group e = ap (λ o. was_asked o from group) e ∙ and_from (eqb from from) (same_draw group group) (eq-eqb from from refl) (same_name group group refl)

pub asked_last : (asked : Option (Draw × ℕ)) (from : ℕ) (group : Draw) → was_asked asked from group ≡ true → asked ≡ Some (group, from)
asked_last None from group t = absurd (true≢false (sym t))
asked_last (Some (other, node)) from group t =
    let both = and_parts (eqb node from) (same_draw other group) t in
    ap (λ (g : Draw). Some (g, node)) (draw_is other group both.1) ∙ ap (λ (n : ℕ). Some (group, n)) (eqb-true node from both.0)

module _ (client : Client) (from : ℕ) (group : Draw) (seq : ℕ) where
  -- an answer is ignored, or it is to the request that waits
  pub taken_step : (P : ClientStep → Type 0) (answer : AnswerBody) → (IgnoresAnswer client from group seq answer → P (client, [])) → (client.waiting ≡ Some seq → P (answer_taken from group seq answer client)) → P (got from (Answer group seq answer) client)
  taken_step P answer ignored taken =
      cond_both (waits_for client.waiting seq) (answer_taken from group seq answer client) (client, []) P (λ t. taken (waited_for client.waiting seq t))
      (λ f. (let never : client.waiting ≡ Some seq → ⊥ = λ w. both_ways (waits_for client.waiting seq) f (waits_so client.waiting seq w) in ignored (record { no_reply = λ reply w e. never w; not_sent = λ w a on. never w })))

  -- one that is no reply is ignored, or it comes from the node that was asked last
  pub redirected_step : (P : ClientStep → Type 0) (answer : AnswerBody) → ((reply : Reply) → answer ≡ Value reply → ⊥) → (IgnoresAnswer client from group seq answer → P (client, [])) → (client.asked ≡ Some (group, from) → P (redirected group answer client))
      → P (cond (was_asked client.asked from group) (redirected group answer client) (client, []))
  redirected_step P answer other ignored on =
      cond_both (was_asked client.asked from group) (redirected group answer client) (client, []) P (λ t. on (asked_last client.asked from group t))
      (λ f. ignored (record { no_reply = λ reply w e. other reply e; not_sent = λ w a so. both_ways (was_asked client.asked from group) f (asked_so client.asked from group a) }))

  -- any answer
  module _ (P : AnswerBody → ClientStep → Type 0) (ignored : (answer : AnswerBody) → IgnoresAnswer client from group seq answer → P answer (client, [])) (w : AnswerWalk client from group seq P) where
    taken : (answer : AnswerBody) → client.waiting ≡ Some seq → P answer (answer_taken from group seq answer client)
    taken (Value reply) waits = w.replied reply waits
    taken (NotLeader (Some hint)) waits = redirected_step (P (NotLeader (Some hint))) (NotLeader (Some hint)) (λ reply e. cc) (ignored (NotLeader (Some hint))) (w.hinted hint waits)
    taken (NotLeader None) waits = redirected_step (P (NotLeader None)) (NotLeader None) (λ reply e. cc) (ignored (NotLeader None)) (w.turned waits)
    taken (NotMine arc succ) waits = redirected_step (P (NotMine arc succ)) (NotMine arc succ) (λ reply e. cc) (ignored (NotMine arc succ)) (w.not_mine arc succ waits)
    taken (Gone into) waits = redirected_step (P (Gone into)) (Gone into) (λ reply e. cc) (ignored (Gone into)) (w.gone into waits)
    taken (Stale last) waits = redirected_step (P (Stale last)) (Stale last) (λ reply e. cc) (ignored (Stale last)) (λ a. ignored (Stale last) (record { no_reply = λ reply w e. cc; not_sent = λ w a on. true≢false (sym on) }))

    pub answer_step : (answer : AnswerBody) → P answer (got from (Answer group seq answer) client)
    answer_step answer = taken_step (P answer) answer (ignored answer) (taken answer)

-- ---- any mail, and any input

-- a client takes no notice of a mail
abbrev pub IgnoresBody : Client → ℕ → MailBody → Type 0
IgnoresBody client from (Answer group seq answer) = IgnoresAnswer client from group seq answer
IgnoresBody client from _ = Unit {0}

-- and of the answer that it is
pub ignored_answer : (client : Client) (from : ℕ) {body : MailBody} {group : Draw} {seq : ℕ} {answer : AnswerBody} → body ≡ Answer group seq answer → IgnoresBody client from body → IgnoresAnswer client from group seq answer
ignored_answer client from e i = subst (IgnoresBody client from) e i

-- what holds where a client takes a mail: it holds where the mail is ignored, and for each way in which an answer is taken
pub mail_step : (client : Client) (mail : Mail) (P : ClientStep → Type 0) → (IgnoresBody client mail.from mail.body → P (client, []))
    → ((group : Draw) (seq : ℕ) → AnswerWalk client mail.from group seq (λ answer step. mail.body ≡ Answer group seq answer → P step)) → P (got mail.from mail.body client)
mail_step client mail P ignored w = by mail.body refl
  where
    by : (body : MailBody) → mail.body ≡ body → P (got mail.from body client)
    by (Answer group seq answer) e =
        answer_step client mail.from group seq (λ answer step. mail.body ≡ Answer group seq answer → P step) (λ answer i e. ignored (subst (IgnoresBody client mail.from) (sym e) i)) (w group seq) answer e
    by _ e = ignored (subst (IgnoresBody client mail.from) (sym e) tt)

-- a client takes no notice of an input
abbrev pub IgnoresInput : Client → Input Mail OrderLine → Type 0
IgnoresInput client (Got mail) = IgnoresBody client mail.from mail.body
IgnoresInput client Tick = (client.waiting ≡ None) ⊎ (client.asked ≡ None)
IgnoresInput client Go = ⊥
IgnoresInput client (Told line) = Unit {0}

-- what a statement about an input and the step of this client needs
pub record ClientWalk (client : Client) (P : Input Mail OrderLine → ClientStep → Type 0) : Type 0 where
  pub ignored : (input : Input Mail OrderLine) → IgnoresInput client input → P input (client, [])
  pub begun : P Go (started 1 client)
  pub ticked : (seq : ℕ) (group : Draw) (node : ℕ) → client.waiting ≡ Some seq → client.asked ≡ Some (group, node) → P Tick (turned_on group client)
  pub answered : (mail : Mail) (group : Draw) (seq : ℕ) → AnswerWalk client mail.from group seq (λ answer step. mail.body ≡ Answer group seq answer → P (Got mail) step)

-- the statement holds of each row of the client's table
pub client_step : (client : Client) (P : Input Mail OrderLine → ClientStep → Type 0) → ClientWalk client P → (input : Input Mail OrderLine) → P input (table client input)
client_step client P w (Got mail) = mail_step client mail (P (Got mail)) (w.ignored (Got mail)) (w.answered mail)
client_step client P w Tick = by client.waiting client.asked refl refl
  where
    by : (waiting : Option ℕ) (asked : Option (Draw × ℕ)) → client.waiting ≡ waiting → client.asked ≡ asked → P Tick (client_ticked client waiting asked)
    by (Some seq) (Some (group, node)) e a = w.ticked seq group node e a
    by (Some seq) None e a = w.ignored Tick (inr a)
    by None asked e a = w.ignored Tick (inl e)
client_step client P w Go = w.begun
client_step client P w (Told line) = w.ignored (Told line) tt
