-- The rows of requests, ticks, transactions and orders, and a whole step.
use Rattle.std.proofs.Common.{◌≡◌, ℕ, ◌+◌, ◌-◌, ◌≤◌, ◌^◌, ◌&&◌, ◌||◌, not, nat_le, eqb, Bool, true, false, List, [], ◌∷◌, ◌++◌, Option, Some, None, refl, sym, ap, ◌∙◌, subst, arith}
use Rattle.std.specs.List.{list_any}
use Rattle.std.specs.Prelude.{is_some}
use Rattle.std.proofs.lemmas.Bool.{cond_both, leb-true, and_parts, not-true, not-false}
use Rattle.sc_base.specs.Definitions.{Drawer, next_name, client_actor, is_member}
use Rattle.sc_node_table.specs.Values.{Ballot, Draw, Op, Body, Offer, Watch, Command, Call, GiveUp, Lock, Free, Coordinating, Promised, Watching, Route, Order, OrderLine, OrderRefusal, Heard, Outcome, Past, Vote, AnswerBody, Mail, Answer, TxOutcome, TxElsewhere, Told}
use Rattle.sc_words.specs.ideal.IdealDefinitions.{key_of, holds_key}
use Rattle.sc_words.specs.declared.commands.orders.Order.TheVariants as An
use Rattle.sc_words.specs.declared.commands.orders.OrderResult.TheVariants as Results
use Rattle.sc_mail.specs.declared.bodies.AnswerBody.TheVariants as Says
use Rattle.sc_words.proofs.PaxosProofs.PaxosLemmas.{Each-append}
use Rattle.sc_words.specs.paxos.PaxosDefinitions.{entry_at}
use Rattle.sc_node_table.specs.NodeDefinitions.{has_act, is_of_kind, with_act, act_queued, elected, sent, ordered_command, untaken, queued_or_refused, ordered_row, wished_line, with_command, with_line, wishing, admits_requests, pumped, queued_number, without_request, patience, one_tick_more, waited_in, reminders, reminded, ReplicaState, Place, name_of, next, listed, members, open_slots, settled, taken_at, taken_from, is_idle, request_refusal, refused_at, queued, requested, request_row, asked_again, last_entry_sent, tick_row, offer_row, watch_row, vote_row, watched_row, elsewhere_row, outcome_row}
use Rattle.sc_law_walks.proofs.WalkLemmas.{either_way, TransactionParts}
use Rattle.sc_law_walks.proofs.TransactionRows.{offer_keeps, watch_keeps, vote_keeps, watched_keeps, elsewhere_keeps, outcome_keeps}
use Rattle.sc_law_refusal.specs.refusal.RefusalDefinitions.{LacksKey}
use Rattle.sc_law_refusal.proofs.RefusalProofs.Keeping.{Kept, Due, with_calls, with_acts, more_due, ends_after}
use Rattle.sc_law_entries.proofs.NamesProofs.HeldCommands.{without_held}
use Rattle.sc_law_refusal.proofs.RefusalProofs.Plain.{again_plain, last_plain, reminders_plain, vote_plain, watched_plain, next_plain}
use Rattle.sc_law_refusal.proofs.RefusalProofs.Standing.{CauseSo, CausedAnswer, AllCaused, plain_caused, answer_caused, stopped_caused, FineAs, Fine, resent, with_plain}
use Rattle.sc_law_refusal.proofs.RefusalProofs.Locking.{allowed}
use Rattle.sc_law_refusal.proofs.RefusalProofs.Stopping.{elected_fine}
use Rattle.sc_law_refusal.proofs.RefusalProofs.Pumping.{lacking, pumped_fine}

module _ (start : ReplicaState) (A : Command → Type 0) (G : Draw → ℕ → Type 0) (W : Ballot → Draw → ℕ) (Q : Type 0) where
  abbrev F : Place → Type 0
  F place = FineAs start A G W Q false true place

  abbrev After : Place → Type 0
  After place = Fine start A G W Q place

  -- ---- Request

  -- why a request is not taken
  abbrev pub Untaken : ReplicaState → Op → AnswerBody → Type 0
  Untaken r op (Says.Value reply) = ⊥
  Untaken r op (Says.NotLeader hint) = r.running ≡ false
  Untaken r op (Says.NotMine arc succ) = LacksKey r.group op (Says.NotMine arc succ)
  Untaken r op (Says.Gone into) = LacksKey r.group op (Says.Gone into)
  Untaken r op (Says.Stale last) = ⊥

  pub refusal_by : (gone : Option Route) (r : ReplicaState) (op : Op) (answer : AnswerBody) → gone ≡ r.group.core.gone → request_refusal gone r.group.core r.running r.hint op ≡ Some answer → Untaken r op answer
  refusal_by (Some into) r op answer g e = let same : Says.Gone into ≡ answer = cc in subst (Untaken r op) same (sym g)
  refusal_by None r op answer g e =
      cond_both (not r.running) (Some (Says.NotLeader r.hint)) _ (λ o. o ≡ Some answer → Untaken r op answer)
      (λ idle k. (let same : Says.NotLeader r.hint ≡ answer = cc in subst (Untaken r op) same (not-true r.running idle)))
      (λ _ k. cond_both (admits_requests r.group.core.lock && not (holds_key r.group.core.arc (key_of op))) (Some (Says.NotMine r.group.core.arc r.group.core.succ)) None (λ o. o ≡ Some answer → Untaken r op answer)
      (λ both j. (let parts = and_parts (admits_requests r.group.core.lock) (not (holds_key r.group.core.arc (key_of op))) both in
      let same : Says.NotMine r.group.core.arc r.group.core.succ ≡ answer = cc in subst (Untaken r op) same (sym g, parts.0, not-true (holds_key r.group.core.arc (key_of op)) parts.1, refl, refl))) (λ _ j. cc) k) e

  -- it waits, and the pump is tried: no other leader is named
  pub queued_so : (o : Option ℕ) (client seq : ℕ) (op : Op) (r : ReplicaState) (mails : List Mail) → A (Call client seq op) → F (r, mails) → F (queued o client seq op (r, mails))
  unfolding queued
  queued_so None client seq op r mails a f =
      let backlog : List Command = r.backlog ++ Call client seq op ∷ [] in
      pumped_fine start A G W Q false (record r { backlog = backlog }, mails) (with_calls A G r backlog (Each-append (Kept A G) r.backlog (Call client seq op ∷ []) f.0.backlog (a, tt)) f.0, f.1)
  queued_so (Some other) client seq op r mails a f =
      let backlog : List Command = without_request r.backlog client ++ Call client seq op ∷ [] in
      either_way F (nat_le seq other) (r, mails) (pumped (record r { backlog = backlog }, mails)) f
      (pumped_fine start A G W Q false (record r { backlog = backlog }, mails) (with_calls A G r backlog (Each-append (Kept A G) (without_request r.backlog client) (Call client seq op ∷ []) (without_held (Kept A G) r.backlog client f.0.backlog) (a, tt)) f.0, f.1))

  -- one answer behind the mails
  said_fine : (refused : Bool) (client seq : ℕ) (op : Op) (answer : AnswerBody) (r : ReplicaState) (mails : List Mail) (f : FineAs start A G W Q refused true (r, mails)) → A (Call client seq op)
      → CauseSo start A G W Q f.1.entries refused true op answer → After (r, sent r.me (client_actor client) (Answer (name_of r) seq answer) mails)
  said_fine refused client seq op answer r mails f a c =
      let caused : CausedAnswer start A G W Q f.1.entries refused true (client_actor client) (name_of r) seq answer = record { own = f.1.name_is; client = client; op = op; receiver = refl; was_asked = a; cause = c } in (
        refused,
        (
          f.0,
          resent start A G W Q refused true r mails _ f.1 (answer_caused start A G W Q f.1.entries refused true r.me (client_actor client) (name_of r) seq answer mails caused f.1.sent),
        ),
      )

  -- one that does not run may name another leader
  idle_fine : (r : ReplicaState) (mails : List Mail) → r.running ≡ false → F (r, mails) → FineAs start A G W Q true true (r, mails)
  idle_fine r mails idle f = (
    f.0,
    record { entries = f.1.entries; me_is = f.1.me_is; name_is = f.1.name_is; group_is = f.1.group_is; log_is = f.1.log_is; out = λ _. idle; patient = f.1.patient; sent = stopped_caused start A G W Q f.1.entries false true mails f.1.sent },
  )

  -- its cause stands, or it comes of one that does not run
  answer_fine : (client seq : ℕ) (op : Op) (answer : AnswerBody) (r : ReplicaState) (mails : List Mail) → A (Call client seq op) → Untaken r op answer → F (r, mails) → After (r, sent r.me (client_actor client) (Answer (name_of r) seq answer) mails)
  answer_fine client seq op (Says.Value reply) r mails a u f = absurd u
  answer_fine client seq op (Says.Stale last) r mails a u f = absurd u
  answer_fine client seq op (Says.NotLeader hint) r mails a u f = said_fine true client seq op (Says.NotLeader hint) r mails (idle_fine r mails u f) a refl
  answer_fine client seq op (Says.NotMine arc succ) r mails a u f =
      said_fine false client seq op (Says.NotMine arc succ) r mails f a (lacking start A G W Q false f.1.entries r.group op (Says.NotMine arc succ) f.1.group_is u)
  answer_fine client seq op (Says.Gone into) r mails a u f = said_fine false client seq op (Says.Gone into) r mails f a (lacking start A G W Q false f.1.entries r.group op (Says.Gone into) f.1.group_is u)

  requested_by : (o : Option AnswerBody) (client seq : ℕ) (op : Op) (r : ReplicaState) (mails : List Mail) → A (Call client seq op) → ((answer : AnswerBody) → o ≡ Some answer → Untaken r op answer) → F (r, mails) → After (requested o client seq op (r, mails))
  unfolding requested
  requested_by (Some answer) client seq op r mails a u f = answer_fine client seq op answer r mails a (u answer refl) f
  requested_by None client seq op r mails a u f = (false, queued_so (queued_number r.backlog client) client seq op r mails a f)

  pub request_fine : (client seq : ℕ) (op : Op) (r : ReplicaState) (mails : List Mail) → A (Call client seq op) → F (r, mails) → After (request_row client seq op (r, mails))
  unfolding request_row
  request_fine client seq op r mails a f = requested_by (refused_at r.group.core.gone op r) client seq op r mails a (λ answer e. refusal_by r.group.core.gone r op answer refl e) f

  -- ---- the acts of transactions

  act_fine : (act : Command) (r : ReplicaState) (mails : List Mail) → Kept A G act → (has_act act r ≡ false → Due A G act r.acts) → F (r, mails) → F (with_act act r, mails)
  act_fine act r mails k d f =
      cond_both (has_act act r) r (record r { acts = r.acts ++ act ∷ [] }) (λ (x : ReplicaState). F (x, mails)) (λ _. f)
      (λ none. (with_acts A G r (r.acts ++ act ∷ []) (Each-append (Kept A G) r.acts (act ∷ []) f.0.acts (k, tt)) (more_due A G act r.acts (r.acts ++ act ∷ []) (ends_after act r.acts) (d none) f.0.due) f.0, f.1))

  queued_act : (act : Command) (r : ReplicaState) (mails : List Mail) → Kept A G act → (has_act act r ≡ false → Due A G act r.acts) → F (r, mails) → F (act_queued act (r, mails))
  unfolding act_queued
  queued_act act r mails k d f = pumped_fine start A G W Q false (with_act act r, mails) (act_fine act r mails k d f)

  -- ---- Tick

  -- how long it has waited is nothing to what is under way
  same_taken : (r : ReplicaState) (waits : ℕ) (slots : List ℕ) → taken_from (record r { waits = waits }) slots ≡ taken_from r slots
  same_taken r waits [] = refl
  same_taken r waits (slot ∷ slots) = ap (λ (commands : List Command). listed (taken_at r slot) ++ commands) (same_taken r waits slots)

  same_act : (act : Command) (r : ReplicaState) (waits : ℕ) → has_act act (record r { waits = waits }) ≡ has_act act r
  same_act act r waits = ap (λ (commands : List Command). list_any (is_of_kind act) r.acts || list_any (is_of_kind act) commands) (same_taken r waits (open_slots r))

  -- a coordinator that has waited long enough may give up
  abbrev pub GivesUp : ReplicaState → Type 0
  GivesUp r = (tx : Draw) (body : Body) (order : ℕ) (heard : Option Heard) → r.group.core.lock ≡ Coordinating tx body order heard → patience ≤ r.waits + 1 → has_act (GiveUp tx) r ≡ false → Due A G (GiveUp tx) r.acts

  -- a tick more is within what a leader may wait
  abbrev pub TicksOn : ReplicaState → Type 0
  TicksOn r = Q → (tx : Draw) (body : Body) (order : ℕ) (heard : Option Heard) → r.group.core.lock ≡ Coordinating tx body order heard → r.waits + 1 ≤ W r.leader.ballot tx

  few_more : (waits : ℕ) → one_tick_more waits ≤ waits + 1
  few_more waits = cond_both (eqb waits (2 ^ 32 - 1)) waits (waits + 1) (λ n. n ≤ waits + 1) (λ _. omega arith) (λ _. omega arith)

  long_enough : (waits : ℕ) → nat_le patience (one_tick_more waits) ≡ true → patience ≤ waits + 1
  long_enough waits e = let le = leb-true patience (one_tick_more waits) e in let few = few_more waits in omega (arith, le, few)

  -- one that waits a tick longer
  more_fine : (r : ReplicaState) (mails : List Mail) → (Q → one_tick_more r.waits ≤ allowed W r.leader.ballot r.group.core.lock) → F (r, mails) → F (record r { waits = one_tick_more r.waits }, mails)
  more_fine r mails t f = (
    record { backlog = f.0.backlog; acts = f.0.acts; due = f.0.due; flights = f.0.flights; ready = f.0.ready; reports = f.0.reports },
    record { entries = f.1.entries; me_is = f.1.me_is; name_is = f.1.name_is; group_is = f.1.group_is; log_is = f.1.log_is; out = f.1.out; patient = λ q runs. t q; sent = f.1.sent },
  )

  waited_fine : (lock : Lock) (r : ReplicaState) (mails : List Mail) → lock ≡ r.group.core.lock → GivesUp r → TicksOn r → F (r, mails) → F (waited_in lock r, mails)
  waited_fine Free r mails l g t f = f
  waited_fine (Promised tx offer) r mails l g t f = f
  waited_fine (Watching tx watch) r mails l g t f = f
  waited_fine (Coordinating tx body order heard) r mails l g t f =
      let more : ReplicaState = record r { waits = one_tick_more r.waits } in
      let few = few_more r.waits in
      let within : Q → one_tick_more r.waits ≤ allowed W r.leader.ballot r.group.core.lock =
      λ q. (let on = t q tx body order heard (sym l) in subst (λ (lock : Lock). one_tick_more r.waits ≤ allowed W r.leader.ballot lock) l (omega (arith, on, few))) in
      let h : F (more, mails) = more_fine r mails within f in
      cond_both (nat_le patience more.waits) (with_act (GiveUp tx) more) more (λ (x : ReplicaState). F (x, mails)) (λ e. act_fine (GiveUp tx) more mails tt (λ none. g tx body order heard (sym l) (long_enough r.waits e) (sym (same_act (GiveUp tx) r more.waits) ∙ none)) h) (λ _. h)

  reminded_fine : (r : ReplicaState) (mails : List Mail) → GivesUp r → TicksOn r → F (r, mails) → F (reminded (r, mails))
  unfolding reminded
  reminded_fine r mails g t f =
      let s = f.1 in
      let said : F (r, reminders r.group.core.lock r.me r.group mails) =
      (f.0, resent start A G W Q false true r mails _ s (reminders_plain (AllCaused start A G W Q s.entries false true) (plain_caused start A G W Q s.entries false true) r.group.core.lock r.me r.group mails s.sent)) in
      waited_fine r.group.core.lock r (reminders r.group.core.lock r.me r.group mails) refl g t said

  -- ---- the parties of a transaction

  -- which commands such mail may queue, and what it sends
  abbrev transactions : TransactionParts F
  transactions = record {
    Files = λ act. Kept A G act × ((acts : List Command) → Due A G act acts);
    queues = λ act place q f. queued_act act place.0 place.1 q.0 (λ _. q.1 place.0.acts) f;
    votes = λ to tx offer vote r mails q f. (f.0, resent start A G W Q false true r mails _ f.1 (vote_plain (AllCaused start A G W Q f.1.entries false true) (plain_caused start A G W Q f.1.entries false true) r.me r.group to tx offer vote mails f.1.sent));
    sees = λ to tx watch vote r mails f. (f.0, resent start A G W Q false true r mails _ f.1 (watched_plain (AllCaused start A G W Q f.1.entries false true) (plain_caused start A G W Q f.1.entries false true) r.me to tx watch vote mails f.1.sent));
    ends = λ to tx part outcome r mails f. (f.0, with_plain start A G W Q false true r mails r.me to (TxOutcome tx part outcome) tt f.1);
    sends_on = λ to tx coord r mails f. (f.0, with_plain start A G W Q false true r mails r.me to (TxElsewhere tx coord r.hint) tt f.1);
    asks_next = λ from tx hint r mails f. (f.0, resent start A G W Q false true r mails _ f.1 (next_plain (AllCaused start A G W Q f.1.entries false true) (plain_caused start A G W Q f.1.entries false true) r.group.core.lock r.me r.group.core from tx hint mails f.1.sent));
  }

  pub offer_fine : (from : ℕ) (tx : Draw) (offer : Offer) (r : ReplicaState) (mails : List Mail) → F (r, mails) → F (offer_row from tx offer (r, mails))
  offer_fine from tx offer r mails f = offer_keeps F transactions from tx offer (r, mails) (tt, λ _. tt) f

  pub watch_fine : (from : ℕ) (tx : Draw) (watch : Watch) (r : ReplicaState) (mails : List Mail) → F (r, mails) → F (watch_row from tx watch (r, mails))
  watch_fine from tx watch r mails f = watch_keeps F transactions from tx watch (r, mails) (tt, λ _. tt) f

  pub vote_fine : (from : ℕ) (tx part : Draw) (vote : Vote) (r : ReplicaState) (mails : List Mail) → F (r, mails) → F (vote_row from tx part vote (r, mails))
  vote_fine from tx part vote r mails f = vote_keeps F transactions from tx part vote (r, mails) (tt, λ _. tt) f

  pub watched_fine : (from : ℕ) (tx part : Draw) (vote : Past) (r : ReplicaState) (mails : List Mail) → F (r, mails) → F (watched_row from tx part vote (r, mails))
  watched_fine from tx part vote r mails f = watched_keeps F transactions from tx part vote (r, mails) (tt, λ _. tt) f

  pub elsewhere_fine : (from : ℕ) (tx : Draw) (hint : Option ℕ) (r : ReplicaState) (mails : List Mail) → F (r, mails) → F (elsewhere_row from tx hint (r, mails))
  elsewhere_fine from tx hint r mails f = elsewhere_keeps F transactions from tx hint (r, mails) f

  pub outcome_fine : (tx : Draw) (outcome : Outcome) (r : ReplicaState) (mails : List Mail) → F (r, mails) → F (outcome_row tx outcome (r, mails))
  outcome_fine tx outcome r mails f = outcome_keeps F transactions tx outcome (r, mails) (tt, λ _. tt) f

  -- ---- orders

  order_kept : (name : Draw) (number : ℕ) (order : Order) → Kept A G (ordered_command name number order)
  order_kept name number (An.Join node group) = tt
  order_kept name number _ = tt

  taken_fine : (o : Option OrderRefusal) (number : ℕ) (command : Command) (place : Place) → Kept A G command → F place → F (queued_or_refused o number command place)
  taken_fine (Some why) number command (r, mails) k f = (f.0, with_plain start A G W Q false true r mails r.me 0 (Told number (Results.Refused why)) tt f.1)
  taken_fine None number command (r, mails) k f =
      pumped_fine start A G W Q false (record r { backlog = r.backlog ++ command ∷ [] }, mails) (with_calls A G r (r.backlog ++ command ∷ []) (Each-append (Kept A G) r.backlog (command ∷ []) f.0.backlog (k, tt)) f.0, f.1)

  pub order_fine : (drawer : Drawer) (line : OrderLine) (r : ReplicaState) (mails : List Mail) → F (r, mails) → F (ordered_row drawer line (r, mails))
  unfolding ordered_row
  order_fine drawer line r mails f =
      taken_fine (untaken drawer line r) line.number (ordered_command (next_name drawer) line.number line.order) (r, mails) (order_kept (next_name drawer) line.number line.order) f

  -- ---- Tick, with what a policy orders

  command_fine : (o : Option OrderRefusal) (command : Command) (r : ReplicaState) (mails : List Mail) → Kept A G command → F (r, mails) → F (with_command o command r, mails)
  command_fine (Some why) command r mails k f = f
  command_fine None command r mails k f = (with_calls A G r (r.backlog ++ command ∷ []) (Each-append (Kept A G) r.backlog (command ∷ []) f.0.backlog (k, tt)) f.0, f.1)

  line_fine : (drawer : Drawer) (o : Option OrderLine) (r : ReplicaState) (mails : List Mail) → F (r, mails) → F (with_line drawer o r, mails)
  line_fine drawer None r mails f = f
  line_fine drawer (Some line) r mails f =
      command_fine (untaken drawer line r) (ordered_command (next_name drawer) line.number line.order) r mails (order_kept (next_name drawer) line.number line.order) f

  wishing_fine : (on : Bool) (drawer : Drawer) (place : Place) → F place → F (wishing on drawer place)
  unfolding wishing
  wishing_fine on drawer (r, mails) f = line_fine drawer (wished_line on r) r mails f

  pub tick_fine : (on : Bool) (drawer : Drawer) (r : ReplicaState) (mails : List Mail) → (settled r ≡ true → GivesUp r) → (settled r ≡ true → TicksOn r) → F (r, mails) → F (tick_row on drawer (r, mails))
  unfolding tick_row
  tick_fine on drawer r mails g t f =
      let s = f.1 in
      let last : List Mail = last_entry_sent (entry_at (next r - 1) r.log) r mails in
      let again : List Mail = asked_again r (next r) r.sets mails in
      either_way F (is_some r.group.core.gone || not (is_member (members r) r.me)) (r, mails) _ f
      (cond_both (not (settled r)) (elected (r, mails)) _ F (λ _. elected_fine start A G W Q true r mails f)
      (λ e. either_way F (is_idle r) (pumped (wishing on drawer (reminded (r, last)))) (pumped (wishing on drawer (reminded (r, again))))
      (pumped_fine start A G W Q false (wishing on drawer (reminded (r, last))) (wishing_fine on drawer (reminded (r, last))
      (reminded_fine r last (g (not-false (settled r) e)) (t (not-false (settled r) e)) (f.0, resent start A G W Q false true r mails last s (last_plain (AllCaused start A G W Q s.entries false true) (plain_caused start A G W Q s.entries false true) (entry_at (next r - 1) r.log) r mails s.sent)))))
      (pumped_fine start A G W Q false (wishing on drawer (reminded (r, again))) (wishing_fine on drawer (reminded (r, again))
      (reminded_fine r again (g (not-false (settled r) e)) (t (not-false (settled r) e)) (f.0, resent start A G W Q false true r mails again s (again_plain (AllCaused start A G W Q s.entries false true) (plain_caused start A G W Q s.entries false true) r (next r) r.sets mails s.sent)))))))
