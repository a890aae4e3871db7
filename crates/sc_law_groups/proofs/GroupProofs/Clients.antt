-- Requests that were issued, and what holds of a client.
use Rattle.std.proofs.Common.{◌≡◌, ℕ, ◌+◌, ◌-◌, ◌≤◌, true, List, [], ◌∷◌, ◌++◌, length, Option, Some, None, ◌⊎◌, inl, inr, refl, sym, ◌∙◌, ap, subst, arith}
use Rattle.std.specs.Prelude.{slice_get}
use Rattle.std.specs.Option.{option_map}
use Rattle.std.proofs.lemmas.Bool.{cases_Bool, cond-true, cond-false}
use Rattle.std.proofs.lemmas.List.{length_push}
use Rattle.sc_base.specs.Definitions.{client_actor, Among}
use Rattle.sc_node_table.specs.Values.{Draw, Op, Reply, Command, Base, OrderLine, Value, Mail, MailBody, Row, Input, Got}
use Rattle.sc_actor.specs.declared.rows.Input.TheVariants.{Go}
use Rattle.sc_client_table.specs.table.TableDefinitions.{Client, request_at, request_of, InTurn, Waits, Begins, TakesReply}
use Rattle.sc_scenario.specs.declared.scenario.scenarios.Asks.{Asks}
use Rattle.sc_scenario.specs.declared.scenario.scenarios.Scenario.{Scenario}
use Rattle.sc_meaning.specs.sound.SoundDefinitions.{Ahead, issues, issued_from, issue_row}
use Rattle.sc_law_groups.proofs.GroupProofs.Invariant.{Steps, IsReplyAt, IsTrue, IsTrueAnswer, grown_reply}
use Rattle.sc_law_groups.proofs.GroupProofs.Names.{IsOneOf, IsNamedIn}
use Rattle.sc_law_groups.proofs.GroupProofs.FirstRows.{Journal, or_now, issue-push}
use Rattle.sc_paxos_law.proofs.Lemmas.{get_pushed}
use Rattle.sc_base.proofs.Lemmas.{same_name}

-- it holds of each client section of a scenario
abbrev pub EachClient : Scenario → (Asks → Type 0) → Type 0
EachClient scenario P = (asks : Asks) → Among asks scenario.clients → P asks

-- one client number stands in one section
abbrev pub HaveOneSection : Scenario → Type 0
HaveOneSection scenario = (one other : Asks) → Among one scenario.clients → Among other scenario.clients → one.client ≡ other.client → one ≡ other

-- ---- requests

-- a request of the scenario with a number, and the row that issued it
pub record IsIssued (scenario : Scenario) (rows : Journal) (client seq : ℕ) (op : Op) : Type 0 where
  pub asks : Asks
  pub stands : Among asks scenario.clients
  pub who : client ≡ asks.client
  pub some : 1 ≤ seq
  pub op_is : slice_get asks.ops (seq - 1) ≡ Some op
  pub row : ℕ
  pub issued : issue_row client seq rows ≡ Some row
  pub within : row ≤ length rows

issue_bound : (client seq before : ℕ) (rows : Journal) (i : ℕ) → issued_from client seq before rows ≡ Some i → i ≤ before + length rows
issue_bound client seq before [] i e = cc
issue_bound client seq before (r ∷ rows) i e =
    elim (cases_Bool (issues client seq r)) [
      | inl t ↦ (
          let got : Some (before + 1) ≡ Some i = sym (cond-true (issues client seq r) (Some (before + 1)) (issued_from client seq (before + 1) rows) t) ∙ e in
          let same : before + 1 ≡ i = cc in
          omega (arith, same))
      | inr f ↦ (let le = issue_bound client seq (before + 1) rows i (sym (cond-false (issues client seq r) (Some (before + 1)) (issued_from client seq (before + 1) rows) f) ∙ e) in omega (arith, le))
    ]

-- the row of a client that sends it issues it, if none did before
pub issued_now : (scenario : Scenario) (rows : Journal) (row : Row Mail OrderLine) (client seq : ℕ) (op : Op) (asks : Asks) → Among asks scenario.clients → client ≡ asks.client → 1 ≤ seq
    → slice_get asks.ops (seq - 1) ≡ Some op → issues client seq row ≡ true → IsIssued scenario (rows ++ row ∷ []) client seq op
issued_now scenario rows row client seq op asks stands who some op_is now = by (issue_row client seq rows) refl
  where
    by : (o : Option ℕ) → issue_row client seq rows ≡ o → IsIssued scenario (rows ++ row ∷ []) client seq op
    by (Some i) e =
        let longer = length_push rows row in
        let bound = issue_bound client seq 0 rows i e in
        record {
          asks = asks;
          stands = stands;
          who = who;
          some = some;
          op_is = op_is;
          row = i;
          issued = issue-push client seq rows row ∙ ap (λ o. or_now o (issues client seq row) (length rows + 1)) e;
          within = omega (arith, bound, longer);
        }
    by None e =
        let longer = length_push rows row in
        record {
          asks = asks;
          stands = stands;
          who = who;
          some = some;
          op_is = op_is;
          row = length rows + 1;
          issued = issue-push client seq rows row ∙ ap (λ o. or_now o (issues client seq row) (length rows + 1)) e ∙ cond-true (issues client seq row) (Some (length rows + 1)) None now;
          within = omega (arith, longer);
        }

-- ---- a client

-- the waiting number, if one waits, is the next one
abbrev pub IsNextOf : Option ℕ → ℕ → Type 0
IsNextOf None n = Unit {0}
IsNextOf (Some seq) n = seq ≡ n + 1

-- a request that the client has
abbrev pub IsAsk : Asks → ℕ × Op → Type 0
IsAsk asks request = (1 ≤ request.0) × (slice_get asks.ops (request.0 - 1) ≡ Some request.1)

-- nothing is sent, or a request that is asked
abbrev pub SendsAsked : Asks → List Mail → Type 0
SendsAsked asks sent = (sent ≡ []) ⊎ ((group : Draw) × (target : ℕ) × (request : ℕ × Op) × IsAsk asks request × (sent ≡ request_of asks.client group target request ∷ []))

asked_op : (requests : List Op) (seq n : ℕ) (request : ℕ × Op) → seq ≡ n + 1 → (o : Option Op) → slice_get requests (seq - 1) ≡ o → option_map (λ op. (seq, op)) o ≡ Some request
    → (1 ≤ request.0) × (slice_get requests (request.0 - 1) ≡ Some request.1)
asked_op requests seq n request fact None at e = cc
asked_op requests seq n request fact (Some op) at e =
    let pair : (seq, op) ≡ request = cc in
    subst (λ (r : ℕ × Op). (1 ≤ r.0) × (slice_get requests (r.0 - 1) ≡ Some r.1)) pair (omega (arith, fact), at)

asked_at : (requests : List Op) (waiting : Option ℕ) (n : ℕ) (request : ℕ × Op) → IsNextOf waiting n → request_at requests waiting ≡ Some request → (1 ≤ request.0) × (slice_get requests (request.0 - 1) ≡ Some request.1)
asked_at requests None n request fact e = cc
asked_at requests (Some seq) n request fact e = asked_op requests seq n request fact (slice_get requests (seq - 1)) refl e

next_of : (o : Option ℕ) (n m : ℕ) → (o ≡ Some m) ⊎ (o ≡ None) → m ≡ n + 1 → IsNextOf o n
next_of o n m (inl e) fact = subst (λ x. IsNextOf x n) (sym e) fact
next_of o n m (inr e) fact = subst (λ x. IsNextOf x n) (sym e) tt

module _ (ahead : Ahead) (bases : List Base) where
  -- a reply is that of an entry of the log of one of the groups
  abbrev pub IsAnswered : (Base → Steps) → ℕ → ℕ → Reply → Type 0
  IsAnswered h client seq reply = (base : Base) × Among base bases × IsReplyAt ahead base (h base) client seq reply

  -- each group has these steps and more
  abbrev pub HaveGrown : (Base → Steps) → (Base → Steps) → Type 0
  HaveGrown h after = (base : Base) → Among base bases → (newer : Steps) × (after base ≡ newer ++ h base)

  -- a reply stays that of an entry
  pub later_answered : (h after : Base → Steps) → HaveGrown h after → (client seq : ℕ) (reply : Reply) → IsAnswered h client seq reply → IsAnswered after client seq reply
  later_answered h after grown client seq reply (base, among, at) =
      let more = grown base among in
      (base, among, subst (λ s. IsReplyAt ahead base s client seq reply) (sym more.1) (grown_reply ahead base more.0 (h base) client seq reply at))

  -- a client as the steps say: its requests, and replies by the logs
  pub record IsClient (h : Base → Steps) (asks : Asks) (client : Client) : Type 0 where
    -- it has its number
    pub me : client.me ≡ asks.client
    -- it has the requests of its section
    pub requests : client.requests ≡ asks.ops
    -- it waits for the reply after those that it has, if for any
    pub waits : IsNextOf client.waiting (length client.replies)
    -- each reply that it has is one by a log
    pub replies : (k : ℕ) (reply : Reply) → slice_get client.replies k ≡ Some reply → IsAnswered h asks.client (k + 1) reply

  -- a client stays as the steps say after more of them
  pub later_client : (h after : Base → Steps) → HaveGrown h after → (asks : Asks) (client : Client) → IsClient h asks client → IsClient after asks client
  later_client h after grown asks client c = record {
    me = c.me;
    requests = c.requests;
    waits = c.waits;
    replies = λ k reply e. later_answered h after grown asks.client (k + 1) reply (c.replies k reply e);
  }

  -- what became of the replies
  abbrev pub Grew : (Base → Steps) → Asks → List Reply → List Reply → Type 0
  Grew h asks old new = (new ≡ old) ⊎ ((reply : Reply) × (new ≡ old ++ reply ∷ []) × IsAnswered h asks.client (length old + 1) reply)

  module _ (made : Base → Command → Type 0) (heard : MailBody → Type 0) (h : Base → Steps) (asks : Asks) (client after : Client) (c : IsClient h asks client) (input : Input Mail OrderLine) (sent : List Mail) (turn : InTurn client after input sent)
      (reported : (m : Mail) → input ≡ Got m → (m.to ≡ client_actor asks.client) × IsNamedIn heard bases m.body × ((base : Base) → Among base bases → IsTrue ahead base (made base) heard (h base) m m.body)) (fresh : input ≡ Go → client.replies ≡ []) where
    waited : Waits client after → IsClient h asks after × Grew h asks client.replies after.replies
    waited s = (
      record {
        me = turn.me ∙ c.me;
        requests = turn.requests ∙ c.requests;
        waits = subst (λ (rs : List Reply). IsNextOf after.waiting (length rs)) (sym s.replies) (subst (λ o. IsNextOf o (length client.replies)) (sym s.number) c.waits);
        replies = subst (λ (rs : List Reply). (k : ℕ) (reply : Reply) → slice_get rs k ≡ Some reply → IsAnswered h asks.client (k + 1) reply) (sym s.replies) c.replies;
      },
      inl s.replies,
    )

    begun : Begins client after input → IsClient h asks after × Grew h asks client.replies after.replies
    begun s = (
      record {
        me = turn.me ∙ c.me;
        requests = turn.requests ∙ c.requests;
        waits = (let none = ap length (s.replies ∙ fresh s.go) in next_of after.waiting (length after.replies) 1 s.number (omega (arith, none)));
        replies = subst (λ (rs : List Reply). (k : ℕ) (reply : Reply) → slice_get rs k ≡ Some reply → IsAnswered h asks.client (k + 1) reply) (sym s.replies) c.replies;
      },
      inl s.replies,
    )

    took : TakesReply client after input → IsClient h asks after × Grew h asks client.replies after.replies
    took s =
        let (m, where_from, got, body) = s.is_reply in
        let came = reported m got in
        let one : IsOneOf bases where_from = subst (IsNamedIn heard bases) body came.1 in
        let truth : IsTrueAnswer ahead one.0 (h one.0) m.to s.seq (Value s.reply) = (subst (IsTrue ahead one.0 (made one.0) heard (h one.0) m) body (came.2 one.0 one.1)) (same_name where_from one.0.core.id one.2) in
        let number : s.seq ≡ length client.replies + 1 = subst (λ o. IsNextOf o (length client.replies)) s.waited c.waits in
        let answer : IsAnswered h asks.client (length client.replies + 1) s.reply = (one.0, one.1, subst (λ n. IsReplyAt ahead one.0 (h one.0) asks.client n s.reply) number (truth asks.client came.0)) in (
          record {
            me = turn.me ∙ c.me;
            requests = turn.requests ∙ c.requests;
            waits = (let more = ap length s.replies ∙ length_push client.replies s.reply in next_of after.waiting (length after.replies) (s.seq + 1) s.number (omega (arith, more, number)));
            replies = λ k reply e. elim (get_pushed client.replies s.reply k reply (subst (λ (rs : List Reply). slice_get rs k ≡ Some reply) s.replies e)) [
              | inl old ↦ c.replies k reply old
              | inr (end, same) ↦ subst (λ n. IsAnswered h asks.client (n + 1) reply) (sym end) (subst (IsAnswered h asks.client (length client.replies + 1)) same answer)
            ];
          },
          inr (s.reply, s.replies, answer),
        )

    -- after a client's row it is as the steps say, and its replies stay or are one more
    pub client_after : IsClient h asks after × Grew h asks client.replies after.replies
    client_after = elim turn.moves [ inl s ↦ waited s | inr (inl s) ↦ begun s | inr (inr s) ↦ took s ]

    -- it sends nothing, or a request that it has
    pub client_sends : SendsAsked asks sent
    client_sends =
        elim turn.sends [
          | inl none ↦ inl none
          | inr (group, target, request, fact, sends) ↦ (
              let now = client_after.0 in
              let ask = asked_at after.requests after.waiting (length after.replies) request now.waits fact in
              inr (
                group,
                target,
                request,
                (ask.0, subst (λ ops. slice_get ops (request.0 - 1) ≡ Some request.1) now.requests ask.1),
                sends ∙ ap (λ n. request_of n group target request ∷ []) now.me,
              ))
        ]
