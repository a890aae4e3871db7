-- What is sent is no answer but where a client is answered: all other mail keeps what such mail leaves as it is.
use Rattle.std.proofs.Common.{◌≡◌, ◌∙◌, ap, refl, append-nil, ℕ, zero, suc, ◌+◌, ◌-◌, nat_lt, Bool, false, cond, List, [], ◌∷◌, ◌++◌, Option, Some, None}
use Rattle.std.proofs.lemmas.Bool.{cond_both}
use Rattle.std.proofs.lemmas.List.Elements.{filter-append}
use Rattle.sc_base.specs.Definitions.{Each}
use Rattle.sc_node_table.specs.Values.{Draw, Offer, Watch, Command, Core, Lock, Effect, OrderResult, Past, AnswerBody, Mail, MailBody, Answer, Accept, Learn, Told}
use Rattle.sc_group_table.specs.machine.MachineDefinitions.{Group}
use Rattle.sc_words.specs.paxos.PaxosDefinitions.{entry_at}
use Rattle.sc_node_table.specs.declared.Before.{Before}
use Rattle.sc_node_table.specs.NodeDefinitions.{sent, sent_all, sent_others, order_reported, ReplicaState, name_of, flying, members, next, reminders, taught, uncounted, asked_again, last_entry_sent, voted_to, watched_to, asked_next, begun_result, spoken_number, result_reported, begun_reported, went_on, spoken_mails}
use Rattle.sc_law_walks.proofs.WalkLemmas.{either_way}
use Rattle.sc_law_walks.proofs.PlaceWalks.{IsToParty, PartiesAnd}
use Rattle.sc_law_walks.proofs.Talks.{all_sent, others_sent, vote_reported, watch_reported, next_one_asked, all_reminded, went_said}
use Rattle.sc_law_refusal.specs.refusal.RefusalDefinitions.{IfAnswer, answers_in, is_answer}

-- a mail that is no answer
abbrev pub IsPlain : MailBody → Type 0
IsPlain body = IfAnswer (λ group seq answer. ⊥) body

-- a fact of an answer that follows from another
pub answer_weaker : (P Q : Draw → ℕ → AnswerBody → Type 0) → ((group : Draw) (seq : ℕ) (answer : AnswerBody) → P group seq answer → Q group seq answer) → (body : MailBody) → IfAnswer P body → IfAnswer Q body
answer_weaker P Q f (Answer group seq answer) p = f group seq answer p
answer_weaker P Q f _ p = p

-- what is no answer has any fact of answers
pub plain_has : (P : Draw → ℕ → AnswerBody → Type 0) (body : MailBody) → IsPlain body → IfAnswer P body
plain_has P body p = answer_weaker (λ group seq answer. ⊥) P (λ group seq answer none. absurd none) body p

party_plain : (me to : ℕ) (body : MailBody) → IsToParty (λ n. ⊥) me to body → IsPlain body
party_plain me to (Answer group seq answer) own = own
party_plain me to _ own = tt

-- ---- the answers among mails

-- what is no answer is none
plain_is : (body : MailBody) → IsPlain body → is_answer body ≡ false
plain_is (Answer group seq answer) p = absurd p
plain_is _ p = refl

-- it leaves the answers as they are
pub plain_adds : (mails : List Mail) (mail : Mail) → IsPlain mail.body → answers_in (mails ++ mail ∷ []) ≡ answers_in mails
plain_adds mails mail p =
    filter-append (λ (m : Mail). is_answer m.body) mails (mail ∷ []) ∙ ap (λ (b : Bool). answers_in mails ++ cond b (mail ∷ []) []) (plain_is mail.body p) ∙ append-nil (answers_in mails)

-- and an answer is one more
pub answer_adds : (mails : List Mail) (from to : ℕ) (group : Draw) (seq : ℕ) (answer : AnswerBody)
    → answers_in (mails ++ record { from = from; to = to; body = Answer group seq answer } ∷ []) ≡ answers_in mails ++ record { from = from; to = to; body = Answer group seq answer } ∷ []
answer_adds mails from to group seq answer = filter-append (λ (m : Mail). is_answer m.body) mails (record { from = from; to = to; body = Answer group seq answer } ∷ [])

-- what holds of all that is no answer, and of each answer, holds of all mail
pub all_from_answers : (P : Mail → Type 0) → ((mail : Mail) → is_answer mail.body ≡ false → P mail) → (mails : List Mail) → Each P (answers_in mails) → Each P mails
all_from_answers P plain [] each = tt
all_from_answers P plain (mail ∷ mails) each =
    cond_both (is_answer mail.body) (mail ∷ answers_in mails) (answers_in mails) (λ (rest : List Mail). Each P rest → P mail × Each P mails) (λ _ e. (e.0, all_from_answers P plain mails e.1))
    (λ none e. (plain mail none, all_from_answers P plain mails e)) each

module _ (Sent : List Mail → Type 0) (plain : (me to : ℕ) (body : MailBody) (mails : List Mail) → IsPlain body → Sent mails → Sent (sent me to body mails)) where
  pub all_plain : (me : ℕ) (nodes : List ℕ) (body : MailBody) (mails : List Mail) → IsPlain body → Sent mails → Sent (sent_all me nodes body mails)
  all_plain me nodes body mails b m = all_sent me Sent body (λ to ms q. plain me to body ms b q) nodes mails m

  pub others_plain : (me : ℕ) (nodes : List ℕ) (body : MailBody) (mails : List Mail) → IsPlain body → Sent mails → Sent (sent_others me nodes body mails)
  others_plain me nodes body mails b m = others_sent me Sent body (λ to ms q. plain me to body ms b q) nodes mails m

  pub reported_plain : (me number : ℕ) (result : OrderResult) (mails : List Mail) → Sent mails → Sent (order_reported me number result mails)
  unfolding order_reported
  reported_plain me number result mails m = either_way Sent (nat_lt 0 number) (sent me 0 (Told number result) mails) mails (plain me 0 (Told number result) mails tt m) m

  -- ---- the parties of a transaction

  parties : (me : ℕ) → PartiesAnd (λ n. ⊥) me Sent
  parties me to body mails own m = plain me to body mails (party_plain me to body own) m

  pub vote_plain : (me : ℕ) (group : Group) (node : ℕ) (tx : Draw) (offer : Offer) (vote : Past) (mails : List Mail) → Sent mails → Sent (voted_to me group node tx offer vote mails)
  vote_plain me group node tx offer vote mails m = vote_reported me Sent (parties me) group node tx offer vote mails m

  pub watched_plain : (me node : ℕ) (tx : Draw) (watch : Watch) (vote : Past) (mails : List Mail) → Sent mails → Sent (watched_to me node tx watch vote mails)
  watched_plain me node tx watch vote mails m = watch_reported me Sent (parties me) node tx watch vote mails m

  pub next_plain : (lock : Lock) (me : ℕ) (core : Core) (from : ℕ) (tx : Draw) (hint : Option ℕ) (mails : List Mail) → Sent mails → Sent (asked_next lock me core from tx hint mails)
  next_plain lock me core from tx hint mails m = next_one_asked me Sent (parties me) lock core from tx hint mails m

  pub reminders_plain : (lock : Lock) (me : ℕ) (group : Group) (mails : List Mail) → Sent mails → Sent (reminders lock me group mails)
  reminders_plain lock me group mails m = all_reminded me Sent (parties me) lock group mails m

  -- ---- what is said of an executed entry

  result_plain : (me : ℕ) (result : Option OrderResult) (number : ℕ) (mails : List Mail) → Sent mails → Sent (result_reported me result number mails)
  result_plain me None number mails m = m
  result_plain me (Some result) number mails m = reported_plain me number result mails m

  begun_plain : (me : ℕ) (before : Before) (effect : Effect) (command : Command) (mails : List Mail) → Sent mails → Sent (begun_reported me before effect command mails)
  unfolding begun_reported
  begun_plain me before effect command mails m = result_plain me (begun_result before.alone effect command) (spoken_number before.order command) mails m

  -- all that is said of an executed entry
  pub spoken_plain : (counted : Bool) (me : ℕ) (group : Group) (before : Before) (effect : Effect) (command : Command) (mails : List Mail) → Sent mails → Sent (spoken_mails counted me group before effect command mails)
  unfolding spoken_mails
  spoken_plain counted me group before effect command mails m =
      either_way Sent counted (went_on me group before effect command (begun_reported me before effect command mails)) (begun_reported me before effect command mails)
      (went_said me Sent (parties me) group before effect command (begun_reported me before effect command mails) (begun_plain me before effect command mails m)) (begun_plain me before effect command mails m)

  -- ---- entries that are taught, and what a leader asks again

  taught_by : (count : ℕ) (r : ReplicaState) (from slot : ℕ) (mails : List Mail) (o : Option Command) → Sent mails → ((more : List Mail) → Sent more → Sent (taught count r from (slot + 1) more))
      → Sent (elim o [ None ↦ mails | Some command ↦ taught count r from (slot + 1) (sent r.me from (Learn (name_of r) slot command) mails) ])
  taught_by count r from slot mails None m more = m
  taught_by count r from slot mails (Some command) m more = more (sent r.me from (Learn (name_of r) slot command) mails) (plain r.me from (Learn (name_of r) slot command) mails tt m)

  pub taught_plain : (count : ℕ) (r : ReplicaState) (from slot : ℕ) (mails : List Mail) → Sent mails → Sent (taught count r from slot mails)
  unfolding taught
  taught_plain zero r from slot mails m = m
  taught_plain (suc count) r from slot mails m = taught_by count r from slot mails (entry_at slot r.log) m (λ more n. taught_plain count r from (slot + 1) more n)

  again_by : (r : ReplicaState) (slot : ℕ) (set : List ℕ) (sets : List (List ℕ)) (mails : List Mail) (o : Option Command) → Sent mails → ((more : List Mail) → Sent more → Sent (asked_again r (slot + 1) sets more))
      → Sent (elim o [
        | None ↦ asked_again r (slot + 1) sets mails
        | Some command ↦ asked_again r (slot + 1) sets (sent_all r.me (uncounted r slot set) (Accept (name_of r) r.leader.ballot slot command) mails)
      ])
  again_by r slot set sets mails None m more = more mails m
  again_by r slot set sets mails (Some command) m more =
      more (sent_all r.me (uncounted r slot set) (Accept (name_of r) r.leader.ballot slot command) mails) (all_plain r.me (uncounted r slot set) (Accept (name_of r) r.leader.ballot slot command) mails tt m)

  pub again_plain : (r : ReplicaState) (slot : ℕ) (sets : List (List ℕ)) (mails : List Mail) → Sent mails → Sent (asked_again r slot sets mails)
  unfolding asked_again
  again_plain r slot [] mails m = m
  again_plain r slot (set ∷ sets) mails m = again_by r slot set sets mails (flying r slot) m (λ more n. again_plain r (slot + 1) sets more n)

  pub last_plain : (o : Option Command) (r : ReplicaState) (mails : List Mail) → Sent mails → Sent (last_entry_sent o r mails)
  unfolding last_entry_sent
  last_plain None r mails m = m
  last_plain (Some command) r mails m = others_plain r.me (members r) (Learn (name_of r) (next r - 1) command) mails tt m
