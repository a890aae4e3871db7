-- What the parts of a replica's table report of an order was decided.
use Rattle.std.proofs.Common.{◌≡◌, ℕ, Bool, true, false, refl, sym, ap, ◌∙◌, subst, List, [], ◌∷◌, Option, Some, None, inl, inr}
use Rattle.std.proofs.lemmas.Bool.{cond_both}
use Rattle.std.specs.Prelude.{if◌then◌else◌}
use Rattle.sc_base.specs.Definitions.{Among}
use Rattle.sc_node_table.specs.Values.{Draw, Body, Command, Noop, Call, Join, Leave, Split, Begin, RecordVote, GiveUp, RecordWatch, Core, Lock, Free, Coordinating, Promised, Watching, Effect, Route, OrderRefusal, OrderResult, Heard, Outcome, AnswerBody, Mail, MailBody, Told}
use Rattle.sc_words.specs.declared.commands.effects.Effect.TheVariants as Was
use Rattle.sc_words.specs.declared.commands.orders.OrderRefusal.TheVariants.{NotLeader}
use Rattle.sc_words.specs.declared.commands.orders.OrderResult.TheVariants.{Done, Committed, Aborted, Refused}
use Rattle.sc_words.specs.declared.commands.votes.Outcome.TheVariants as Is
use Rattle.sc_words.specs.commands.CommandDefinitions.{is_alone, refused_result, result_of}
use Rattle.sc_group_table.specs.machine.MachineDefinitions.{Group, applied, begun_group, has_named, ordered, refusal_of, split_group, with_node, without_node}
use Rattle.sc_words.proofs.PaxosProofs.PaxosLemmas.{Each-append, Each-from}
use Rattle.sc_group_table.specs.policy.PolicyDefinitions.{is_reported}
use Rattle.sc_node_table.specs.declared.Before.{Before}
use Rattle.sc_node_table.specs.NodeDefinitions.{ReplicaState, Place, name_of, under_way, sent, answered_all, answer_of, answered_or_put_back, order_result, effect_reported, announced, entered, before_of, before_in, begun_result, decided_result, dismissed_all, ended, order_number, outcome_result, spoken, spoken_mails, spoken_number, begun_reported, result_sent, order_reported, result_reported, went_on}
use Rattle.sc_law_walks.proofs.Ways.{either_way}
use Rattle.sc_law_walks.proofs.PlaceWalks.{IsToParty, IsClient, Parties}
use Rattle.sc_law_walks.proofs.Talks.{went_said, all_replied}
use Rattle.sc_law_walks.proofs.EndedRequests.{queue_ends}
use Rattle.sc_law_walks.proofs.RefusedOrders.{order_refused}
use Rattle.sc_law_refusal.specs.results.ResultDefinitions.{IsOf, IsAtOnce, IsCommit, DecidesFor, FindsCause, EndsOrder, IfReported, ReportAs, said_of_entry, IsGivenBack, ReportsAreDecided}

module _ (me : ℕ) (Fact : ℕ → OrderResult → Type 0) where
  abbrev Q : List Mail → Type 0
  Q mails = ReportAs Fact mails

  pub puts : (to : ℕ) (body : MailBody) (mails : List Mail) → IfReported Fact body → Q mails → Q (sent me to body mails)
  puts to body mails told m = Each-append (λ (mail : Mail). IfReported Fact mail.body) mails (record { from = me; to = to; body = body } ∷ []) m (told, tt)

  pub reported : (number : ℕ) (result : OrderResult) (mails : List Mail) → (is_reported number ≡ true → Fact number result) → Q mails → Q (order_reported me number result mails)
  unfolding order_reported
  reported number result mails fact m = cond_both (is_reported number) (result_sent me number result mails) mails Q (λ t. puts 0 _ mails (fact t) m) (λ _. m)

  -- a mail to a client or to a party of a transaction tells no result
  untold : (to : ℕ) (body : MailBody) → IsToParty IsClient me to body → IfReported Fact body
  untold to (Told number result) q = absurd q
  untold to _ q = tt

  pub parties_told : Parties me Q
  parties_told to body mails q m = puts to body mails (untold to body q) m

  -- a result, where there is one
  pub begun_said : (number : ℕ) (o : Option OrderResult) (mails : List Mail) → ((result : OrderResult) → o ≡ Some result → is_reported number ≡ true → Fact number result) → Q mails → Q (result_reported me o number mails)
  begun_said number None mails fact m = m
  begun_said number (Some result) mails fact m = reported number result mails (λ t. fact result refl t) m

  -- ---- who stops

  pub all_dismissed : (group : Draw) (hint : Option ℕ) (answer : AnswerBody) (commands : List Command) (mails : List Mail) → ((command : Command) → Among command commands → is_reported (order_number command) ≡ true → Fact (order_number command) (Refused (NotLeader hint))) → Q mails → Q (dismissed_all me group hint answer commands mails)
  all_dismissed group hint answer commands mails fact m =
      let K = λ (command : Command). is_reported (order_number command) ≡ true → Fact (order_number command) (Refused (NotLeader hint)) in
      queue_ends K me group answer Q (λ client seq op ms k q. puts _ _ ms tt q) hint (λ command ms k q. reported (order_number command) _ ms k q) commands mails (Each-from K commands fact) m

-- ---- how an entry ends an order

-- an order is refused for its first cause
module _ (core : Core) (command : Command) (group after : Group) where
  abbrev Causes : Group × Effect → Type 0
  Causes p = (why : OrderRefusal) → p.1 ≡ Was.Refused why → FindsCause core command why

  ordered_cause : (gone : Option Route) (o : Option OrderRefusal) → core.gone ≡ gone → refusal_of core command ≡ o → Causes (ordered gone o after group)
  ordered_cause (Some into) o e f why r = (let same : NotLeader None ≡ why = cc in inl (into, e, sym same))
  ordered_cause None (Some other) e f why r = (let same : other ≡ why = cc in inr (e, f ∙ ap Some same))
  ordered_cause None None e f why r = cc

  named_cause : (b : Bool) (draw : Draw) → ((b ≡ false) → Causes (ordered core.gone (refusal_of core command) after group)) → Causes (if b then (group, Was.NoEffect draw) else ordered core.gone (refusal_of core command) after group)
  named_cause true draw more why r = cc
  named_cause false draw more why r = more refl why r

module _ (group : Group) (command : Command) (number : ℕ) where
  -- what the group refuses has a cause
  abbrev HasCause : Type 0
  HasCause = (why : OrderRefusal) → (applied group command).1 ≡ Was.Refused why → FindsCause group.core command why

  at_once_ends : IsOf number command → IsAtOnce group.core command → HasCause → (effect : Effect) → (applied group command).1 ≡ effect → (result : OrderResult) → result_of effect ≡ Some result → EndsOrder group command number result
  at_once_ends own at_once cause Was.Changed e result f =
      let same : Done ≡ result = cc in subst (λ (x : OrderResult). EndsOrder group command number x) same (record { own = own; at_once = at_once; effect = e })
  at_once_ends own at_once cause (Was.Refused why) e result f =
      let same : Refused why ≡ result = cc in subst (λ (x : OrderResult). EndsOrder group command number x) same (record { own = own; cause = cause why e; effect = e })
  at_once_ends own at_once cause _ e result f = cc

  refused_ends : IsOf number command → HasCause → (effect : Effect) → (applied group command).1 ≡ effect → (result : OrderResult) → refused_result effect ≡ Some result → EndsOrder group command number result
  refused_ends own cause (Was.Refused why) e result f =
      let same : Refused why ≡ result = cc in subst (λ (x : OrderResult). EndsOrder group command number x) same (record { own = own; cause = cause why e; effect = e })
  refused_ends own cause Was.Changed e result f = cc
  refused_ends own cause _ e result f = cc

  -- an outcome stands for a commit or an abort
  stands_for : (outcome : Outcome) → ((Such : Outcome → Type 0) → Such outcome → DecidesFor group command number Such) → EndsOrder group command number (outcome_result outcome)
  stands_for Is.Abort decides = decides (λ other. other ≡ Is.Abort) refl
  stands_for _ decides = decides IsCommit tt

  decided_ends : (tx : Draw) (body : Body) (heard : Option Heard) → group.core.lock ≡ Coordinating tx body number heard → (effect : Effect) → (applied group command).1 ≡ effect → (result : OrderResult) → decided_result effect ≡ Some result → EndsOrder group command number result
  decided_ends tx body heard locked (Was.Decided outcome) e result f =
      let same : outcome_result outcome ≡ result = cc in
      subst (λ (x : OrderResult). EndsOrder group command number x) same
      (stands_for outcome (λ Such fact. record { tx = tx; body = body; heard = heard; locked = locked; outcome = outcome; effect = e; such = fact }))
  decided_ends tx body heard locked Was.Changed e result f = cc
  decided_ends tx body heard locked _ e result f = cc

-- who coordinates no transaction decides none for an order
locked_ends : (group : Group) (command : Command) (lock : Lock) → group.core.lock ≡ lock → (result : OrderResult) → decided_result (applied group command).1 ≡ Some result → is_reported (before_in lock group.core).order ≡ true → EndsOrder group command (before_in lock group.core).order result
locked_ends group command Free e result f t = cc
locked_ends group command (Coordinating tx body order heard) e result f t = decided_ends group command order tx body heard e (applied group command).1 refl result f
locked_ends group command (Promised tx offer) e result f t = cc
locked_ends group command (Watching tx watch) e result f t = cc

before_alone : (lock : Lock) (core : Core) → (before_in lock core).alone ≡ is_alone core
before_alone Free core = refl
before_alone _ core = refl

pub order_ends : (group : Group) (command : Command) (result : OrderResult) → order_result command (applied group command).1 ≡ Some result → EndsOrder group command (order_number command) result
order_ends group (Join node order) result e =
    at_once_ends group (Join node order) order refl tt (ordered_cause group.core (Join node order) group (with_node group node) group.core.gone (refusal_of group.core (Join node order)) refl refl) (applied group (Join node order)).1 refl result e
order_ends group (Leave node order) result e =
    at_once_ends group (Leave node order) order refl tt (ordered_cause group.core (Leave node order) group (without_node group node) group.core.gone (refusal_of group.core (Leave node order)) refl refl) (applied group (Leave node order)).1 refl result e
order_ends group Noop result e = cc
order_ends group _ result e = cc

split_cause : (group : Group) (at : ℕ) (child : Draw) (order : ℕ) → HasCause group (Split at child order) order
split_cause group at child order =
    let command : Command = Split at child order in
    let after : Group = split_group group at child order in
    named_cause group.core command group after (has_named group.core child) child (λ _. ordered_cause group.core command group after group.core.gone (refusal_of group.core command) refl refl)

begin_cause : (group : Group) (tx : Draw) (body : Body) (order : ℕ) → HasCause group (Begin tx body order) order
begin_cause group tx body order =
    let command : Command = Begin tx body order in
    let after : Group = begun_group group tx body order in
    named_cause group.core command group after (has_named group.core tx) tx (λ _. ordered_cause group.core command group after group.core.gone (refusal_of group.core command) refl refl)

split_ends : (group : Group) (at : ℕ) (child : Draw) (order : ℕ) (result : OrderResult) (b : Bool) → is_alone group.core ≡ b → (if b then result_of (applied group (Split at child order)).1 else refused_result (applied group (Split at child order)).1) ≡ Some result → EndsOrder group (Split at child order) order result
split_ends group at child order result true alone e = at_once_ends group (Split at child order) order refl alone (split_cause group at child order) (applied group (Split at child order)).1 refl result e
split_ends group at child order result false alone e = refused_ends group (Split at child order) order refl (split_cause group at child order) (applied group (Split at child order)).1 refl result e

pub begun_ends : (group : Group) (command : Command) (result : OrderResult) → begun_result (before_of group.core).alone (applied group command).1 command ≡ Some result → is_reported (spoken_number (before_of group.core).order command) ≡ true
    → EndsOrder group command (spoken_number (before_of group.core).order command) result
begun_ends group (Split at child order) result e t =
    split_ends group at child order result (is_alone group.core) refl
    (subst (λ (b : Bool). (if b then result_of (applied group (Split at child order)).1 else refused_result (applied group (Split at child order)).1) ≡ Some result) (before_alone group.core.lock group.core) e)
begun_ends group (Begin tx body order) result e t = refused_ends group (Begin tx body order) order refl (begin_cause group tx body order) (applied group (Begin tx body order)).1 refl result e
begun_ends group (RecordVote tx vote by) result e t = locked_ends group (RecordVote tx vote by) group.core.lock refl result e t
begun_ends group (GiveUp tx) result e t = locked_ends group (GiveUp tx) group.core.lock refl result e t
begun_ends group (RecordWatch tx vote by) result e t = locked_ends group (RecordWatch tx vote by) group.core.lock refl result e t
begun_ends group _ result e t = cc

-- ---- the parts of the table

module _ (Fact : ℕ → OrderResult → Type 0) where
  call_said : (answer : Option AnswerBody) (command : Command) (place : Place) → ReportAs Fact place.1 → ReportAs Fact (answered_or_put_back answer command place).1
  unfolding answered_or_put_back
  call_said (Some answer) (Call client seq op) (r, mails) m = puts r.me Fact _ _ mails tt m
  call_said None (Call client seq op) (r, mails) m = m
  call_said (Some answer) _ place m = m
  call_said None _ place m = m

  effect_said : (o : Option OrderResult) (command : Command) (place : Place) → ((result : OrderResult) → o ≡ Some result → Fact (order_number command) result) → ReportAs Fact place.1 → ReportAs Fact (effect_reported o command place).1
  unfolding effect_reported
  effect_said None command place fact m = m
  effect_said (Some result) command (r, mails) fact m = reported r.me Fact (order_number command) result mails (λ t. fact result refl) m

  announced_said : (counted : Bool) (effect : Effect) (command : Command) (place : Place) → ((result : OrderResult) → order_result command effect ≡ Some result → Fact (order_number command) result) → ReportAs Fact place.1 → ReportAs Fact (announced counted effect command place).1
  unfolding announced
  announced_said counted effect command place fact m =
      effect_said (order_result command effect) command (if counted then answered_or_put_back (answer_of effect) command place else place) fact
      (either_way (λ (p : Place). ReportAs Fact p.1) counted (answered_or_put_back (answer_of effect) command place) place (call_said (answer_of effect) command place m) m)

  spoken_said : (counted : Bool) (before : Before) (effect : Effect) (command : Command) (place : Place) → ((result : OrderResult) → begun_result before.alone effect command ≡ Some result → is_reported (spoken_number before.order command) ≡ true → Fact (spoken_number before.order command) result)
      → ReportAs Fact place.1 → ReportAs Fact (spoken counted before effect command place).1
  unfolding spoken spoken_mails begun_reported
  spoken_said counted before effect command (r, mails) fact m =
      let told : List Mail = result_reported r.me (begun_result before.alone effect command) (spoken_number before.order command) mails in
      let said : ReportAs Fact told = begun_said r.me Fact (spoken_number before.order command) (begun_result before.alone effect command) mails fact m in
      either_way (λ (ms : List Mail). ReportAs Fact ms) counted (went_on r.me r.group before effect command told) told (went_said r.me (λ (ms : List Mail). ReportAs Fact ms) (parties_told r.me Fact) r.group before effect command told said) said

entries_end : (counted : Bool) (command : Command) (r : ReplicaState) → ReportAs (EndsOrder r.group command) (said_of_entry counted command r)
entries_end counted command r =
    let Fact : ℕ → OrderResult → Type 0 = EndsOrder r.group command in
    let effect : Effect = (applied r.group command).1 in
    spoken_said Fact counted (before_of r.group.core) effect command (announced counted effect command (entered command r, [])) (λ result e t. begun_ends r.group command result e t)
    (announced_said Fact counted effect command (entered command r, []) (λ result e. order_ends r.group command result e) tt)

-- what has a number that is reported is the command of that order
pub is_of : (command : Command) → is_reported (order_number command) ≡ true → IsOf (order_number command) command
is_of (Join node order) t = refl
is_of (Leave node order) t = refl
is_of (Split at child order) t = refl
is_of (Begin tx body order) t = refl
is_of Noop t = cc
is_of _ t = cc

queues_end : (hint : Option ℕ) (answer : AnswerBody) (r : ReplicaState) → ReportAs (IsGivenBack r hint) (ended hint answer (r, [])).1
unfolding ended
queues_end hint answer r =
    all_dismissed r.me (IsGivenBack r hint) (name_of r) hint answer r.backlog (answered_all r.me (name_of r) answer (under_way r) []) (λ command a t. record { command = command; queued = a; own = is_of command t; result_is = refl })
    (all_replied r.me (λ (ms : List Mail). ReportAs (IsGivenBack r hint) ms) (parties_told r.me (IsGivenBack r hint)) (name_of r) answer (under_way r) [] tt)

-- ---- an entry ends an order with one result

ends_once : (group : Group) (command : Command) (order : ℕ) (result other : OrderResult) → EndsOrder group command order result → EndsOrder group command order other → result ≡ other
ends_once group command order Done Done a b = refl
ends_once group command order Done Committed a b = (let apart : Was.Changed ≡ Was.Decided b.outcome = sym a.effect ∙ b.effect in cc)
ends_once group command order Done Aborted a b = (let apart : Was.Changed ≡ Was.Decided b.outcome = sym a.effect ∙ b.effect in cc)
ends_once group command order Done (Refused why) a b = (let apart : Was.Changed ≡ Was.Refused why = sym a.effect ∙ b.effect in cc)
ends_once group command order Committed Done a b = (let apart : Was.Decided a.outcome ≡ Was.Changed = sym a.effect ∙ b.effect in cc)
ends_once group command order Committed Committed a b = refl
ends_once group command order Committed Aborted a b = (let both : Was.Decided a.outcome ≡ Was.Decided b.outcome = sym a.effect ∙ b.effect in let same : a.outcome ≡ b.outcome = cc in absurd (subst IsCommit (same ∙ b.such) a.such))
ends_once group command order Committed (Refused why) a b = (let apart : Was.Decided a.outcome ≡ Was.Refused why = sym a.effect ∙ b.effect in cc)
ends_once group command order Aborted Done a b = (let apart : Was.Decided a.outcome ≡ Was.Changed = sym a.effect ∙ b.effect in cc)
ends_once group command order Aborted Committed a b = (let both : Was.Decided a.outcome ≡ Was.Decided b.outcome = sym a.effect ∙ b.effect in let same : a.outcome ≡ b.outcome = cc in absurd (subst IsCommit (sym same ∙ a.such) b.such))
ends_once group command order Aborted Aborted a b = refl
ends_once group command order Aborted (Refused why) a b = (let apart : Was.Decided a.outcome ≡ Was.Refused why = sym a.effect ∙ b.effect in cc)
ends_once group command order (Refused why) Done a b = (let apart : Was.Refused why ≡ Was.Changed = sym a.effect ∙ b.effect in cc)
ends_once group command order (Refused why) Committed a b = (let apart : Was.Refused why ≡ Was.Decided b.outcome = sym a.effect ∙ b.effect in cc)
ends_once group command order (Refused why) Aborted a b = (let apart : Was.Refused why ≡ Was.Decided b.outcome = sym a.effect ∙ b.effect in cc)
ends_once group command order (Refused why) (Refused other) a b = (let both : Was.Refused why ≡ Was.Refused other = sym a.effect ∙ b.effect in let same : why ≡ other = cc in ap Refused same)

pub reports_are_decided : ReportsAreDecided
reports_are_decided = record { once = ends_once; entries = entries_end; queues = queues_end; orders = order_refused }
