-- A client's step: the number that it begins is that of a request, and there is none only behind the last; it begins its first one once.
use Rattle.std.proofs.Common.{◌≡◌, ℕ, ◌+◌, nat_le, Bool, true, false, cond, List, [], ◌∷◌, ◌++◌, length, Option, Some, None, inl, inr, refl, sym, ap, subst, ◌∙◌, arith}
use Rattle.std.proofs.lemmas.Bool.{cond_both, cond-true, eq-eqb}
use Rattle.std.proofs.lemmas.List.{length-append}
use Rattle.sc_node_table.specs.Values.{Draw, Op, Reply, Input, OrderLine, Value, Mail, MailBody, Answer}
use Rattle.sc_actor.specs.declared.rows.Input.TheVariants.{Go}
use Rattle.sc_client_table.specs.table.TableDefinitions.{Client, ClientStep, request_sent, started, waits_for, got, table, IsReplyTo, InTurn}
use Rattle.sc_law_walks.proofs.WalkLemmas.{request_same}
use Rattle.sc_client_table.proofs.TableProofs.TurnLemmas.{sends_in_turn}
use Rattle.sc_law_refusal.specs.refusal.RefusalDefinitions.{number_in, Starts, GoesOn, KeepsTurn}

-- ---- the number that is begun

-- a request that is begun waits, if there is one with the number
started_number : (seq : ℕ) (client : Client) → (started seq client).0.waiting ≡ number_in client.requests seq
started_number seq client = by (nat_le seq (length client.requests))
  where
    by : (b : Bool) → (cond b (request_sent (record client { waiting = Some seq })) (record client { waiting = None }, [])).0.waiting ≡ cond b (Some seq) None
    by true = request_same (λ (c : Client). c.waiting) (λ c asked. refl) (record client { waiting = Some seq })
    by false = refl

-- ---- the moves

-- what holds of a client before a row: one that has not started has begun nothing, and what waits has the next number
pub record InPlace (gone : Bool) (client : Client) : Type 0 where
  pub fresh : gone ≡ false → (client.waiting ≡ None) × (client.replies ≡ [])
  pub rises : (seq : ℕ) → client.waiting ≡ Some seq → seq ≡ length client.replies + 1

number_is : (requests : List Op) (seq number : ℕ) → number_in requests seq ≡ Some number → number ≡ seq
number_is requests seq number e = cond_both (nat_le seq (length requests)) (Some seq) None (λ o. o ≡ Some number → number ≡ seq) (λ _ k. cc) (λ _ k. cc) e

-- the step after a reply to the waiting request
reply_number : (client : Client) (mail : Mail) (body : MailBody) (group : Draw) (seq : ℕ) (reply : Reply) → body ≡ Answer group seq (Value reply) → client.waiting ≡ Some seq → (got mail.from body client).0.waiting ≡ number_in client.requests (seq + 1)
reply_number client mail body group seq reply e w =
    let waits : waits_for client.waiting seq ≡ true = ap (λ (o : Option ℕ). waits_for o seq) w ∙ eq-eqb seq seq refl in
    let next : Client = record client { replies = client.replies ++ reply ∷ [] } in
    let here : (got mail.from (Answer group seq (Value reply)) client).0.waiting ≡ number_in client.requests (seq + 1) =
    ap (λ (step : ClientStep). step.0.waiting) (cond-true (waits_for client.waiting seq) (started (seq + 1) next) (client, []) waits) ∙ started_number (seq + 1) next in
    subst (λ (b : MailBody). (got mail.from b client).0.waiting ≡ number_in client.requests (seq + 1)) (sym e) here

module _ (client : Client) (input : Input Mail OrderLine) (gone : Bool) (place : InPlace gone client) (reported : input ≡ Go → gone ≡ false) where
  abbrev pub after : Client
  after = (table client input).0

  turn : InTurn client after input (table client input).1
  turn = sends_in_turn client input

  -- it starts
  starts : input ≡ Go → after.replies ≡ client.replies → Starts client after input
  starts go replies =
      let fresh = place.fresh (reported go) in
      let number : after.waiting ≡ number_in client.requests 1 = subst (λ (i : Input Mail OrderLine). (table client i).0.waiting ≡ number_in client.requests 1) (sym go) (started_number 1 client) in
      record { go = go; fresh = fresh.0; unanswered = fresh.1; number = subst (λ requests. after.waiting ≡ number_in requests 1) (sym turn.requests) number; replies = replies ∙ fresh.1 }

  -- it takes a reply
  goes_on : (seq : ℕ) (reply : Reply) → IsReplyTo seq reply input → client.waiting ≡ Some seq → after.replies ≡ client.replies ++ reply ∷ [] → GoesOn client after input
  goes_on seq reply (mail, group, fact, body) waited replies =
      let number : after.waiting ≡ number_in client.requests (seq + 1) =
      subst (λ (i : Input Mail OrderLine). (table client i).0.waiting ≡ number_in client.requests (seq + 1)) (sym fact) (reply_number client mail mail.body group seq reply body waited) in
      record { seq = seq; reply = reply; is_reply = (mail, group, fact, body); waited = waited; number = subst (λ requests. after.waiting ≡ number_in requests (seq + 1)) (sym turn.requests) number; replies = replies }

  -- its number stays the next one after its replies
  starts_rises : Starts client after input → (seq : ℕ) → after.waiting ≡ Some seq → seq ≡ length after.replies + 1
  starts_rises s seq w = let one = number_is after.requests 1 seq (sym s.number ∙ w) in let none : length after.replies ≡ 0 = ap length s.replies in omega (arith, one, none)

  goes_rises : GoesOn client after input → (seq : ℕ) → after.waiting ≡ Some seq → seq ≡ length after.replies + 1
  goes_rises g seq w =
      let before = place.rises g.seq g.waited in
      let next = number_is after.requests (g.seq + 1) seq (sym g.number ∙ w) in
      let more : length after.replies ≡ length client.replies + 1 = ap length g.replies ∙ length-append client.replies (g.reply ∷ []) in omega (arith, before, next, more)

  pub keeps_turn : KeepsTurn client after input (table client input).1
  keeps_turn =
      let t = turn in
      elim t.moves [
        | inl w ↦ record { turn = t; rises = λ seq e. place.rises seq (sym w.number ∙ e) ∙ ap (λ rs. length rs + 1) (sym w.replies); moves = inl w }
        | inr (inl s) ↦ (let fact = starts s.go s.replies in record { turn = t; rises = starts_rises fact; moves = inr (inl fact) })
        | inr (inr g) ↦ (let fact = goes_on g.seq g.reply g.is_reply g.waited g.replies in record { turn = t; rises = goes_rises fact; moves = inr (inr fact) })
      ]

  -- one that has not started begins nothing
  still_fresh : KeepsTurn client after input (table client input).1 → (input ≡ Go → ⊥) → (client.waiting ≡ None) × (client.replies ≡ []) → (after.waiting ≡ None) × (after.replies ≡ [])
  still_fresh k not_go f =
      elim k.moves [
        | inl w ↦ (w.number ∙ f.0, w.replies ∙ f.1)
        | inr (inl s) ↦ absurd (not_go s.go)
        | inr (inr g) ↦ (let no_way : Some g.seq ≡ None = sym g.waited ∙ f.0 in absurd (cc))
      ]

  pub in_place : (later : Bool) → (later ≡ false → (gone ≡ false) × (input ≡ Go → ⊥)) → InPlace later after
  in_place later back = let k = keeps_turn in record { fresh = λ e. (let b = back e in still_fresh k b.1 (place.fresh b.0)); rises = k.rises }
