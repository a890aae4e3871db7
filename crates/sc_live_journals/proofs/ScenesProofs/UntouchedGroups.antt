-- The groups that an order has not touched stay as they were, row by row.
use Rattle.sc_base.specs.Definitions.{Each, same_draw}
use Rattle.sc_base.proofs.Lemmas.{same_name}
use Rattle.sc_node_table.specs.Values.{AnswerBody, Draw, OrderLine, Mail, MailBody, Request, Answer, Prepare, Promise, Accept, Accepted, Nack, Learn, Ask, Install, TxPrepare, TxVote, TxOutcome, TxElsewhere, TxWatch, TxWatched, Told as ToldMail, Node, Client, Seat, Event, Input}
use Rattle.sc_client_table.specs.table.TableDefinitions.{got, table, Client as ClientState}
use Rattle.sc_words.proofs.PaxosProofs.PaxosLemmas.{Each-append}
use Rattle.sc_live_steps.proofs.CalmStepsProofs.CalmStepLemmas.{apart}
use Rattle.sc_live_steps.specs.orders.OrderDefinitions.{is_yes, is_cast_yes, Question, Elsewhere, Reply, Result, Errand, errand_by}
use Rattle.sc_live_steps.specs.following.FollowingDefinitions.{Asks, Votes, Teaches, Installs, Prepares, Promises, Mark}
use Rattle.sc_live_journals.proofs.RowsProofs.RowLemmas.{AreQuiet, wide_mark, made_keeps, names_stay, view_others, view_was, view_is, sent_is, new_others, none_some}
use Rattle.sc_live_journals.specs.scenes.SceneDefinitions.{IsErrandFor, BesideFinds}
use Rattle.std.proofs.Common.{◌≡◌, ℕ, eqb, Bool, true, false, cond, List, [], ◌∷◌, ◌&&◌, ◌||◌, not, nat_lt, length, drop, Option, Some, None, ◌⊎◌, inl, inr, refl, sym, ◌∙◌, ap, subst}
use Rattle.std.proofs.lemmas.Bool.{cases_eq}
use Rattle.sc_actor.specs.Definitions.{mails, is_delivery, value, acted, input_of, System, row_of}
use Rattle.sc_live_orderly.specs.OrderlyDefinitions.{rest, mail_for, taken, AreInTime}
use Rattle.sc_live_orderly.proofs.OrderlyLemmas.{in_time_before, in_time_tidy, last_in_time, rest-calm}
use Rattle.sc_node_table.specs.NodeDefinitions.{NodeState, replica_of, with_made, group_of_mail, unknown, absent, ReplicaState, Place, last_slot, mailed, made_by, slots_ahead, sent_elsewhere}
use Rattle.sc_law_walks.proofs.WalkLemmas.{either_way}
use Rattle.sc_meaning.specs.sound.SoundDefinitions.{Player, player_table}
use Rattle.sc_live_steps.specs.calm.CalmDefinitions.{players, Rows}
use Rattle.sc_live_steps.proofs.OrderStepsProofs.OrderStepLemmas.{offer_is, watch_row_is}
use Rattle.sc_live_journals.specs.rows.RowDefinitions.{view_at, IsSeat, with_event}
use Rattle.sc_live_journals.proofs.ScenesProofs.RowPremises.{IsQuestion}
use Rattle.sc_live_journals.proofs.ScenesProofs.SceneReceivers.{now_is, was_is, all_sent}
use Rattle.sc_live_journals.proofs.ScenesProofs.UntouchedBySteps.{Questions}
pub use Rattle.sc_words.proofs.PaxosProofs.ListLemmas.{Each-filter as each_filter}

-- ---- mail

marked : (group name : Draw) (mark : Mark) → Some group ≡ Some name → cond (same_draw group name) (Some mark) None ≡ None → ⊥
marked group name mark named e = (let fact : group ≡ name = cc in none_some (sym e ∙ ap (λ b. cond b (Some mark) None) (same_name group name fact)))

-- mail that leaves no mark of its group is an errand
unmarked_errand : (name : Draw) (from to : ℕ) (body : MailBody) → wide_mark name from body ≡ None → group_of_mail body ≡ Some name → (entry : Draw × Errand) × (errand_by from to body ≡ Some entry)
unmarked_errand name from to (Accept group ballot slot command) e g = absurd (marked group name (Asks ballot slot) g e)
unmarked_errand name from to (Accepted group ballot slot) e g = absurd (marked group name (Votes from ballot slot) g e)
unmarked_errand name from to (Learn group slot command) e g = absurd (marked group name (Teaches slot) g e)
unmarked_errand name from to (Install group slot base sets) e g = absurd (marked group name (Installs slot) g e)
unmarked_errand name from to (Prepare group ballot from_slot) e g = absurd (marked group name (Prepares ballot) g e)
unmarked_errand name from to (Promise group ballot reports) e g = absurd (marked group name (Promises from ballot) g e)
unmarked_errand name from to (Nack group promised) e g = absurd (marked group name (Teaches 0) g e)
unmarked_errand name from to (Ask group from_slot) e g = absurd (marked group name (Teaches 0) g e)
unmarked_errand name from to (Request group client seq op) e g = absurd (marked group name (Teaches 0) g e)
unmarked_errand name from to (Answer group seq answer) e g = absurd (none_some g)
unmarked_errand name from to (ToldMail order result) e g = absurd (none_some g)
unmarked_errand name from to (TxPrepare tx offer) e g = ((offer.part, Question tx offer.coord false offer.by to), refl)
unmarked_errand name from to (TxWatch tx watch) e g = ((watch.part, Question tx watch.coord true watch.by to), refl)
unmarked_errand name from to (TxElsewhere tx coord hint) e g = ((coord, Elsewhere tx to), refl)
unmarked_errand name from to (TxVote tx coord part vote) e g = ((coord, Reply tx false (is_yes vote) from to), refl)
unmarked_errand name from to (TxWatched tx coord part vote) e g = ((coord, Reply tx true (is_cast_yes vote) from to), refl)
unmarked_errand name from to (TxOutcome tx part outcome) e g = ((part, Result tx to), refl)

-- so all that a replica sends of another group is
pub quiet_errands : (group name : Draw) (mails : List Mail) → (group ≡ name → ⊥) → AreQuiet group mails → Each (IsErrandFor name) mails
quiet_errands group name [] ne q = tt
quiet_errands group name (mail ∷ mails) ne q = (unmarked_errand name mail.from mail.to mail.body (q.0 name (apart group name ne)), quiet_errands group name mails ne q.1)

each_drop : {X : Type 0} (P : X → Type 0) (b : Bool) (xs : List X) → Each P xs → Each P (drop (cond b 1 0) xs)
each_drop P true [] e = tt
each_drop P false [] e = tt
each_drop {X = X} P true (x ∷ xs) e = at_zero xs e.1
  where
    at_zero : (xs : List X) → Each P xs → Each P (drop 0 xs)
    at_zero [] e = tt
    at_zero (x ∷ xs) e = e
each_drop P false (x ∷ xs) e = e

-- what is answered where there is no replica: of the mail's group, or an errand
absent_other : (name group : Draw) → (name ≡ group → ⊥) → (me from : ℕ) (body : MailBody) → group_of_mail body ≡ Some group → Each (IsErrandFor name) (absent me from body)
absent_other name group ne me from (Request g client seq op) e = ((λ n. absurd (none_some n)), tt)
absent_other name group ne me from (Prepare g ballot from_slot) e = ((λ n. (let a : g ≡ group = cc in let b : g ≡ name = cc in absurd (ne (sym b ∙ a)))), tt)
absent_other name group ne me from (Accept g ballot slot command) e = ((λ n. (let a : g ≡ group = cc in let b : g ≡ name = cc in absurd (ne (sym b ∙ a)))), tt)
absent_other name group ne me from (Learn g slot command) e = ((λ n. (let a : g ≡ group = cc in let b : g ≡ name = cc in absurd (ne (sym b ∙ a)))), tt)
absent_other name group ne me from (TxPrepare tx offer) e = ((λ n. ((offer.coord, Elsewhere tx from), refl)), tt)
absent_other name group ne me from (TxWatch tx watch) e = ((λ n. ((watch.coord, Elsewhere tx from), refl)), tt)
absent_other name group ne me from _ e = tt

pub absent_errand : (name : Draw) (me from to : ℕ) (body : MailBody) (entry : Draw × Errand) → errand_by from to body ≡ Some entry → Each (IsErrandFor name) (absent me from body)
absent_errand name me from to (TxPrepare tx offer) entry e = ((λ n. ((offer.coord, Elsewhere tx from), refl)), tt)
absent_errand name me from to (TxWatch tx watch) entry e = ((λ n. ((watch.coord, Elsewhere tx from), refl)), tt)
absent_errand name me from to (Request g client seq op) entry e = absurd (none_some e)
absent_errand name me from to (Prepare g ballot from_slot) entry e = absurd (none_some e)
absent_errand name me from to (Accept g ballot slot command) entry e = absurd (none_some e)
absent_errand name me from to (Learn g slot command) entry e = absurd (none_some e)
absent_errand name me from to _ entry e = tt

-- a client that is not answered sends nothing
pub got_nothing : (from : ℕ) (body : MailBody) (client : ClientState) → ((group : Draw) (seq : ℕ) (answer : AnswerBody) → body ≡ Answer group seq answer → ⊥) → (got from body client).1 ≡ []
got_nothing from (Answer group seq answer) client other = absurd (other group seq answer refl)
got_nothing from _ client other = refl

-- ---- what a row leaves

module _ (words : ℕ → ℕ → ℕ × ℕ) (births : List (Seat Player)) (rows : Rows) (seat : Seat Player) (event : Event OrderLine) (born : IsSeat births seat) (timely : AreInTime (players words births) (with_event rows seat event)) where
  abbrev s : System Player Mail OrderLine
  s = players words births

  -- the replica of a group at the player who acts stays, and only errands are sent to it
  pub record Leaves (name : Draw) : Type 0 where
    pub view : view_at births (with_event rows seat event) name seat.who ≡ view_at births rows name seat.who
    pub silent : Each (IsErrandFor name) (row_of player_table seat rows event).sent

  pub left_view : (name : Draw) → Leaves name → (who : ℕ) → view_at births (with_event rows seat event) name who ≡ view_at births rows name who
  left_view name l who = elim (cases_eq who seat.who) [
    | inl fact ↦ ap (view_at births (with_event rows seat event) name) fact ∙ (l.view ∙ ap (view_at births rows name) (sym fact))
    | inr ne ↦ view_others births rows (row_of player_table seat rows event) name who ne
  ]

  pub left_mail : (name : Draw) → Leaves name → (who : ℕ) → Each (IsErrandFor name) (rest s rows who) → Each (IsErrandFor name) (rest s (with_event rows seat event) who)
  left_mail name l who each =
      let row = row_of player_table seat rows event in
      let tidy = in_time_tidy s rows (in_time_before s rows row timely) in
      let calm = (last_in_time s rows row timely).0 in
      subst (Each (IsErrandFor name)) (sym (rest-calm s rows row who tidy calm))
      (Each-append (IsErrandFor name) (drop (taken who row) (rest s rows who)) (mail_for s who row.sent) (each_drop (IsErrandFor name) (eqb row.who who && is_delivery row.event) (rest s rows who) each)
      (each_filter (IsErrandFor name) (λ (m : Mail). eqb (s.receiver m) who) row.sent l.silent))

  -- a client that sends nothing leaves all
  pub client_leaves : (client : ClientState) → value player_table seat rows ≡ Client client → (name : Draw) (input : Input Mail OrderLine) → input_of (mails rows) event ≡ Some input → (table client input).1 ≡ [] → Leaves name
  client_leaves client fact name input e none = record {
    view = view_is births rows seat event name born (Client client) fact (Some input) e ∙ sym (view_was births rows seat event name born (Client client) fact);
    silent = subst (Each (IsErrandFor name)) (sym (sent_is births rows seat event name born (Client client) fact (Some input) e ∙ none)) tt;
  }

  -- a node leaves a group by what it makes of its replica and sends
  pub node_leaves : (node : NodeState) → value player_table seat rows ≡ Node node → (step : NodeState × List Mail) (o : Option (Input Mail OrderLine)) → input_of (mails rows) event ≡ o
      → acted player_table (Node node) o ≡ (Node step.0, step.1) → (name : Draw) → replica_of name step.0.replicas ≡ replica_of name node.replicas → Each (IsErrandFor name) step.1 → Leaves name
  node_leaves node fact step o input does name same silent = record {
    view = now_is births rows seat event node born fact step o input does name ∙ (same ∙ sym (was_is births rows seat event node born fact step o input does name));
    silent = subst (Each (IsErrandFor name)) (sym (all_sent births rows seat event node born fact step o input does)) silent;
  }

-- ---- a delivery

pub is_asked : (body : MailBody) → IsQuestion body ⊎ (IsQuestion body → ⊥)
is_asked (TxPrepare tx offer) = inl tt
is_asked (TxWatch tx watch) = inl tt
is_asked _ = inr (λ q. q)

abbrev AsksIn : Option (Draw × Errand) → Type 0
AsksIn None = ⊥
AsksIn (Some entry) = Questions entry.1

-- a mail whose errand is a question is one
pub asks_it : (from to : ℕ) (body : MailBody) (entry : Draw × Errand) → errand_by from to body ≡ Some entry → Questions entry.1 → IsQuestion body
asks_it from to (TxPrepare tx offer) entry e q = tt
asks_it from to (TxWatch tx watch) entry e q = tt
asks_it from to (TxVote tx coord part vote) entry e q = absurd (subst AsksIn (sym e) q)
asks_it from to (TxWatched tx coord part vote) entry e q = absurd (subst AsksIn (sym e) q)
asks_it from to (TxOutcome tx part outcome) entry e q = absurd (subst AsksIn (sym e) q)
asks_it from to (TxElsewhere tx coord hint) entry e q = absurd (subst AsksIn (sym e) q)
asks_it from to _ entry e q = absurd cc

-- one that a replica beside the leader takes is sent on, and the replica stays
pub aside_is : (mail : Mail) (r : ReplicaState) (body : MailBody) → IsQuestion body → BesideFinds mail r body → (tx : Draw) × (coord : Draw) × ((mailed mail.from body (r, [])).0 ≡ sent_elsewhere mail.from tx coord (r, []))
aside_is mail r (TxPrepare tx offer) q f = (tx, offer.coord, offer_is r false mail.from tx offer f.1.0 f.1.1)
aside_is mail r (TxWatch tx watch) q f = (tx, watch.coord, watch_row_is r false mail.from tx watch f.1.0 f.1.1)
aside_is mail r _ q f = absurd q

-- where there is no replica, another group's stay, and nothing of its agreement is sent
module _ (name group : Draw) (ne : name ≡ group → ⊥) (node : NodeState) (from : ℕ) where
  abbrev pub Apart : NodeState × List Mail → Type 0
  Apart step = (replica_of name step.0.replicas ≡ replica_of name node.replicas) × Each (IsErrandFor name) step.1

  answers_apart : (body : MailBody) → group_of_mail body ≡ Some group → Apart (node, absent node.me from body)
  answers_apart body e = (refl, absent_other name group ne node.me from body e)

  pub unknown_apart : (body : MailBody) → group_of_mail body ≡ Some group → Apart (unknown from body node)
  unknown_apart (Install named slot base sets) e =
      let same : Some named ≡ Some group = e in
      let own : named ≡ group = cc in
      let place : Place = made_by node.me from named slot base sets in
      either_way Apart (not (eqb (length sets) slots_ahead) || nat_lt last_slot slot) (node, []) (with_made place node) (refl, tt)
      (new_others name place.0 node.replicas (λ i. ne (sym i ∙ (names_stay.made node.me from named slot base sets ∙ own))), quiet_errands named name place.1 (λ i. ne (sym i ∙ own)) (made_keeps node.me from named slot base sets).1)
  unknown_apart body e = answers_apart body e
