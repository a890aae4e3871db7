-- A client's steps are the same with more requests.
use Rattle.std.proofs.Common.{◌≡◌, ℕ, zero, suc, ◌+◌, ◌-◌, ◌<◌, ◌≤◌, Bool, true, false, cond, nat_le, List, [], ◌∷◌, ◌++◌, length, Option, Some, None, inl, inr, refl, sym, ap, ◌∙◌, subst, arith, length-append}
use Rattle.std.specs.Prelude.{slice_get}
use Rattle.std.specs.Option.{option_map}
use Rattle.std.proofs.lemmas.Bool.{cond-true, le-leb}
use Rattle.std.proofs.lemmas.Option.{same_Some}
use Rattle.sc_base.specs.declared.names.Draw.{Draw}
use Rattle.sc_base.specs.declared.ops.Op.{Op}
use Rattle.sc_base.specs.declared.ops.Reply.{Reply}
use Rattle.sc_actor.specs.declared.rows.Input.{Input}
use Rattle.sc_actor.specs.declared.rows.Input.TheVariants.{Got, Tick, Go, Told}
use Rattle.sc_words.specs.declared.commands.orders.OrderLine.{OrderLine}
use Rattle.sc_mail.specs.declared.bodies.Mail.{Mail}
use Rattle.sc_mail.specs.declared.bodies.MailBody.{MailBody}
use Rattle.sc_mail.specs.declared.bodies.MailBody.TheVariants.{Answer}
use Rattle.sc_mail.specs.declared.bodies.AnswerBody.{AnswerBody}
use Rattle.sc_mail.specs.declared.bodies.AnswerBody.TheVariants.{Value, NotLeader, NotMine, Gone, Stale}
use Rattle.sc_client_table.specs.lookup.LookupDefinitions.{target_in, preferring, passed_on, learnt_from_not_mine, learnt_from_gone}
use Rattle.sc_client_table.specs.table.Client.{Client, born_client, request_at, waiting_request}
use Rattle.sc_client_table.specs.table.Table.{ClientStep, table, asked_of, sent_to, sent_where, chosen_for, request_sent, started, turned_on, client_ticked, waits_for, was_asked, redirected, answer_taken, got}
use Rattle.sc_law_requests.specs.MoreRequests.{with_more, step_with_more, IsWithin, WaitsForOwn, steps, AreWithin, StepsAreSame, SameWithMoreRequests}
use Rattle.sc_client_table.proofs.TableProofs.TurnLemmas.{sends_in_turn, waited_for}

-- the same request waits with more behind it
same_get : (requests more : List Op) (k : ℕ) → k < length requests → slice_get (requests ++ more) k ≡ slice_get requests k
same_get [] more k low = absurd (omega (arith, low))
same_get (op ∷ requests) more zero low = refl
same_get (op ∷ requests) more (suc k) low = same_get requests more k (omega (arith, low))

same_request : (requests more : List Op) (seq : ℕ) → 1 ≤ seq → seq ≤ length requests → request_at (requests ++ more) (Some seq) ≡ request_at requests (Some seq)
same_request requests more seq least most = ap (option_map (λ (op : Op). (seq, op))) (same_get requests more (seq - 1) (omega (arith, least, most)))

module _ (more : List Op) where
  -- the same request waits
  abbrev IsSame : Client → Type 0
  IsSame client = waiting_request (with_more more client) ≡ waiting_request client

  own_same : (requests : List Op) (waiting : Option ℕ) → ((seq : ℕ) → waiting ≡ Some seq → 1 ≤ seq) → ((seq : ℕ) → waiting ≡ Some seq → seq ≤ length requests) → request_at (requests ++ more) waiting ≡ request_at requests waiting
  own_same requests None least most = refl
  own_same requests (Some seq) least most = same_request requests more seq (least seq refl) (most seq refl)

  asked_same : (client : Client) (group : Draw) (target : Option ℕ) (request : Option (ℕ × Op)) → asked_of (with_more more client) group target request ≡ step_with_more more (asked_of client group target request)
  asked_same client group (Some target) (Some request) = refl
  asked_same client group (Some target) None = refl
  asked_same client group None request = refl

  to_same : (group : Draw) (client : Client) → IsSame client → sent_to group (with_more more client) ≡ step_with_more more (sent_to group client)
  to_same group client same =
      ap (asked_of (with_more more client) group (target_in group client.known)) same ∙ asked_same client group (target_in group client.known) (waiting_request client)

  where_same : (client : Client) (group : Option Draw) → IsSame client → sent_where (with_more more client) group ≡ step_with_more more (sent_where client group)
  where_same client (Some group) same = to_same group client same
  where_same client None same = refl

  chosen_same : (client : Client) (request : Option (ℕ × Op)) → chosen_for (with_more more client) request ≡ chosen_for client request
  chosen_same client (Some request) = refl
  chosen_same client None = refl

  sent_same : (client : Client) → IsSame client → request_sent (with_more more client) ≡ step_with_more more (request_sent client)
  sent_same client same =
      ap (λ (r : Option (ℕ × Op)). sent_where (with_more more client) (chosen_for (with_more more client) r)) same
      ∙ ap (sent_where (with_more more client)) (chosen_same client (waiting_request client))
      ∙ where_same client (chosen_for client (waiting_request client)) same

  started_same : (seq : ℕ) (client : Client) → 1 ≤ seq → seq ≤ length client.requests → started seq (with_more more client) ≡ step_with_more more (started seq client)
  started_same seq client least most =
      let begun : Client = record client { waiting = Some seq } in
      let longer : seq ≤ length (client.requests ++ more) = omega (arith, most, length-append client.requests more) in
      let same : IsSame begun = same_request client.requests more seq least most in
      cond-true (nat_le seq (length (client.requests ++ more))) (request_sent (with_more more begun)) (record (with_more more client) { waiting = None }, []) (le-leb seq (length (client.requests ++ more)) longer)
      ∙ sent_same begun same
      ∙ ap (step_with_more more) (sym (cond-true (nat_le seq (length client.requests)) (request_sent begun) (record client { waiting = None }, []) (le-leb seq (length client.requests) most)))

  turned_same : (group : Draw) (client : Client) → IsSame client → turned_on group (with_more more client) ≡ step_with_more more (turned_on group client)
  turned_same group client same = to_same group (record client { known = passed_on group client.known }) same

  ticked_same : (client : Client) (seq : Option ℕ) (asked : Option (Draw × ℕ)) → IsSame client → client_ticked (with_more more client) seq asked ≡ step_with_more more (client_ticked client seq asked)
  ticked_same client (Some seq) (Some asked) same = turned_same asked.0 client same
  ticked_same client (Some seq) None same = refl
  ticked_same client None asked same = refl

  redirected_same : (group : Draw) (answer : AnswerBody) (client : Client) → IsSame client → redirected group answer (with_more more client) ≡ step_with_more more (redirected group answer client)
  redirected_same group (NotLeader (Some hint)) client same = to_same group (record client { known = preferring group hint client.known }) same
  redirected_same group (NotLeader None) client same = turned_same group client same
  redirected_same group (NotMine arc succ) client same = sent_same (record client { known = learnt_from_not_mine group arc succ client.known }) same
  redirected_same group (Gone into) client same = sent_same (record client { known = learnt_from_gone group into client.known }) same
  redirected_same group (Value reply) client same = refl
  redirected_same group (Stale last) client same = refl

  -- what a test leaves
  either_same : (test : Bool) (client : Client) (step longer : ClientStep) → longer ≡ step_with_more more step → cond test longer (with_more more client, []) ≡ step_with_more more (cond test step (client, []))
  either_same true client step longer same = same
  either_same false client step longer same = refl

  taken_same : (from : ℕ) (group : Draw) (seq : ℕ) (answer : AnswerBody) (client : Client) → IsSame client → ((reply : Reply) → answer ≡ Value reply → seq < length client.requests)
      → answer_taken from group seq answer (with_more more client) ≡ step_with_more more (answer_taken from group seq answer client)
  taken_same from group seq (Value reply) client same within =
      let low = within reply refl in
      started_same (seq + 1) (record client { replies = client.replies ++ reply ∷ [] }) (omega arith) (omega (arith, low))
  taken_same from group seq (NotLeader hint) client same within = either_same (was_asked client.asked from group) client (redirected group (NotLeader hint) client) (redirected group (NotLeader hint) (with_more more client)) (redirected_same group (NotLeader hint) client same)
  taken_same from group seq (NotMine arc succ) client same within = either_same (was_asked client.asked from group) client (redirected group (NotMine arc succ) client) (redirected group (NotMine arc succ) (with_more more client)) (redirected_same group (NotMine arc succ) client same)
  taken_same from group seq (Gone into) client same within = either_same (was_asked client.asked from group) client (redirected group (Gone into) client) (redirected group (Gone into) (with_more more client)) (redirected_same group (Gone into) client same)
  taken_same from group seq (Stale last) client same within = either_same (was_asked client.asked from group) client (redirected group (Stale last) client) (redirected group (Stale last) (with_more more client)) (redirected_same group (Stale last) client same)

  -- where the request waits
  waited_same : (test : Bool) (from : ℕ) (group : Draw) (seq : ℕ) (answer : AnswerBody) (client : Client) → IsSame client → (test ≡ true → (reply : Reply) → answer ≡ Value reply → seq < length client.requests)
      → cond test (answer_taken from group seq answer (with_more more client)) (with_more more client, []) ≡ step_with_more more (cond test (answer_taken from group seq answer client) (client, []))
  waited_same true from group seq answer client same within = taken_same from group seq answer client same (within refl)
  waited_same false from group seq answer client same within = refl

  got_same : (mail : Mail) (body : MailBody) (client : Client) → mail.body ≡ body → IsSame client → IsWithin client (Got mail)
      → got mail.from body (with_more more client) ≡ step_with_more more (got mail.from body client)
  got_same mail (Answer group seq answer) client is same within =
      waited_same (waits_for client.waiting seq) mail.from group seq answer client same
      (λ waits reply value. within.replied seq reply (waited_for client.waiting seq waits) (mail, group, refl, is ∙ ap (Answer group seq) value))
  got_same mail _ client is same within = refl

  pub step_same : (client : Client) (input : Input Mail OrderLine) → WaitsForOwn client → IsWithin client input → table (with_more more client) input ≡ step_with_more more (table client input)
  step_same client (Got mail) own within = got_same mail mail.body client refl (own_same client.requests client.waiting own.least own.most) within
  step_same client Tick own within = ticked_same client client.waiting client.asked (own_same client.requests client.waiting own.least own.most)
  step_same client Go own within = started_same 1 client (omega arith) (within.begins refl)
  step_same client (Told line) own within = refl

-- ---- a client waits for a request of its own

-- after a step that lets the same request wait
kept : (client after : Client) → after.requests ≡ client.requests → after.waiting ≡ client.waiting → WaitsForOwn client → WaitsForOwn after
kept client after requests waiting own = record {
  least = λ seq is. own.least seq (sym waiting ∙ is);
  most = λ seq is. subst (λ (rs : List Op). seq ≤ length rs) (sym requests) (own.most seq (sym waiting ∙ is));
}

none_waits : (after : Client) → after.waiting ≡ None → WaitsForOwn after
none_waits after none = record {
  least = λ seq is. absurd (let no : None ≡ Some seq = sym none ∙ is in cc);
  most = λ seq is. absurd (let no : None ≡ Some seq = sym none ∙ is in cc);
}

one_waits : (after : Client) (number : ℕ) → after.waiting ≡ Some number → 1 ≤ number → number ≤ length after.requests → WaitsForOwn after
one_waits after number is low high = record {
  least = λ seq e. (let same : number ≡ seq = same_Some number seq (sym is ∙ e) in omega (arith, same, low));
  most = λ seq e. (let same : number ≡ seq = same_Some number seq (sym is ∙ e) in omega (arith, same, high));
}

-- after any step that is within
pub stays_own : (client : Client) (input : Input Mail OrderLine) → WaitsForOwn client → IsWithin client input → WaitsForOwn (table client input).0
stays_own client input own within =
    let turn = sends_in_turn client input in
    let after : Client = (table client input).0 in
    let same : length after.requests ≡ length client.requests = ap length turn.requests in
    elim turn.moves [
      | inl waits ↦ kept client after turn.requests waits.number own
      | inr (inl begins) ↦ elim begins.number [
        | inl one ↦ (let some = within.begins begins.go in one_waits after 1 one (omega arith) (omega (arith, some, same)))
        | inr none ↦ none_waits after none
      ]
      | inr (inr takes) ↦ elim takes.number [
        | inl next ↦ (let low = within.replied takes.seq takes.reply takes.waited takes.is_reply in one_waits after (takes.seq + 1) next (omega arith) (omega (arith, low, same)))
        | inr none ↦ none_waits after none
      ]
    ]

pub all_same : (more : List Op) (inputs : List (Input Mail OrderLine)) (client : Client) → WaitsForOwn client → AreWithin client inputs
    → steps (with_more more client) inputs ≡ (with_more more (steps client inputs).0, (steps client inputs).1)
all_same more [] client own within = refl
all_same more (input ∷ inputs) client own within =
    let step : ClientStep = table client input in
    let here = step_same more client input own within.0 in
    let there = all_same more inputs step.0 (stays_own client input own within.0) within.1 in
    ap (λ (s : ClientStep). ((steps s.0 inputs).0, s.1 ∷ (steps s.0 inputs).1)) here
    ∙ ap (λ (rest : Client × List (List Mail)). (rest.0, step.1 ∷ rest.1)) there

pub same_from_birth : SameWithMoreRequests
same_from_birth me ops more first inputs within = all_same more inputs (born_client me ops first) (none_waits (born_client me ops first) refl) within

pub steps_same : StepsAreSame
steps_same client more input own within = step_same more client input own within
