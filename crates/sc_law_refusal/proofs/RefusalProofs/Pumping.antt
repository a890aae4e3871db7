-- What a settled replica offers: each call that it turns down has its cause in the executed state.
use Rattle.std.proofs.Common.{◌≡◌, ℕ, Bool, true, false, List, [], ◌∷◌, Option, Some, None, refl, sym, subst}
use Rattle.std.specs.List.{list_any}
use Rattle.std.proofs.lemmas.Bool.{cond_both, not-false}
use Rattle.sc_base.specs.Definitions.{client_actor}
use Rattle.sc_node_table.specs.Values.{Ballot, Draw, Op, Command, Call, Route, AnswerBody, Mail, Accept, Must, Gap}
use Rattle.sc_words.specs.ideal.IdealDefinitions.{key_of, holds_key}
use Rattle.sc_mail.specs.declared.bodies.AnswerBody.TheVariants as Says
use Rattle.sc_group_table.specs.machine.MachineDefinitions.{Group, state_after}
use Rattle.sc_words.proofs.PaxosProofs.PaxosLemmas.{Each-append}
use Rattle.sc_words.specs.declared.paxos.answers.Must.TheVariants.{Value, Free as Open}
use Rattle.sc_words.specs.paxos.PaxosDefinitions.{must}
use Rattle.sc_node_table.specs.NodeDefinitions.{answered, Found, is_act, admits_requests, waits, refused_by, turned_down, next_queued, from_backlog, from_acts, from_queues, found_by, found_for, offered, pumped, ReplicaState, Place, name_of, under_way, is_idle}
use Rattle.sc_law_walks.proofs.WalkLemmas.{either_way, next_found, Offers, pumped_place}
use Rattle.sc_law_refusal.specs.refusal.RefusalDefinitions.{LacksKey}
use Rattle.sc_law_refusal.proofs.RefusalProofs.Keeping.{Kept, KeptAll, KeptOne, DueAll, Flying, MustKept, with_calls, with_acts, must_kept, fewer_due, ends_behind}
use Rattle.sc_law_refusal.proofs.RefusalProofs.Standing.{CauseSo, AllCaused, answer_caused, FineAs, Fine, resent, with_all}

-- why a call is turned down
refused_so : (gone : Option Route) (group : Group) (op : Op) (answer : AnswerBody) → gone ≡ group.core.gone → admits_requests group.core.lock ≡ true → refused_by gone group.core op ≡ Some answer → LacksKey group op answer
refused_so (Some into) group op answer g l e = let same : Says.Gone into ≡ answer = cc in subst (LacksKey group op) same (sym g)
refused_so None group op answer g l e =
    cond_both (holds_key group.core.arc (key_of op)) None (Some (Says.NotMine group.core.arc group.core.succ)) (λ o. o ≡ Some answer → LacksKey group op answer)
    (λ _ k. cc) (λ lacks k. (let same : Says.NotMine group.core.arc group.core.succ ≡ answer = cc in subst (LacksKey group op) same (sym g, l, lacks, refl, refl))) e

-- the pump names no other leader: whether one was named stays as it is
module _ (start : ReplicaState) (A : Command → Type 0) (G : Draw → ℕ → Type 0) (W : Ballot → Draw → ℕ) (Q : Type 0) (refused : Bool) where
  abbrev pub F : Place → Type 0
  F place = FineAs start A G W Q refused true place

  abbrev FoundFine : Found → Type 0
  FoundFine found = KeptOne A G found.0 × F found.1

  -- ---- the calls at the head that the group does not serve

  -- a call that the executed state does not serve is answered with cause
  pub lacking : (entries : List Command) (group : Group) (op : Op) (answer : AnswerBody) → group ≡ state_after start.group entries → LacksKey group op answer → CauseSo start A G W Q entries refused true op answer
  lacking entries group op (Says.Value reply) fact l = absurd l
  lacking entries group op (Says.NotLeader hint) fact l = absurd l
  lacking entries group op (Says.NotMine arc succ) fact l = (refl, subst (λ g. LacksKey g op (Says.NotMine arc succ)) fact l)
  lacking entries group op (Says.Gone into) fact l = (refl, subst (λ g. LacksKey g op (Says.Gone into)) fact l)
  lacking entries group op (Says.Stale last) fact l = absurd l

  module _ (entries : List Command) (me : ℕ) (idle : Bool) (group : Group) (fact : group ≡ state_after start.group entries) (own : group.core.id ≡ start.group.core.id) where
    abbrev C : List Mail → Type 0
    C mails = AllCaused start A G W Q entries refused true mails

    abbrev Next : Option Command × List Command × List Mail → Type 0
    Next found = KeptOne A G found.0 × KeptAll A G found.1 × C found.2

    turned_one : (command : Command) (answer : AnswerBody) (mails : List Mail) → Kept A G command → waits idle group.core.lock command ≡ false → turned_down group.core command ≡ Some answer → C mails → C (answered me group.core.id answer command mails)
    unfolding answered
    turned_one (Call client seq op) answer mails k w e c =
        answer_caused start A G W Q entries refused true me (client_actor client) group.core.id seq answer mails (record {
          own = own;
          client = client;
          op = op;
          receiver = refl;
          was_asked = k;
          cause = lacking entries group op answer fact (refused_so group.core.gone group op answer refl (not-false (admits_requests group.core.lock) w) e);
        }) c
    turned_one _ answer mails k w e c = c

    pub next_fine : (backlog : List Command) (mails : List Mail) → KeptAll A G backlog → C mails → Next (next_queued me idle group.core backlog mails)
    next_fine backlog mails k c =
        next_found me idle group.core (λ cs ms. KeptAll A G cs × C ms) Next (λ cs ms q. (tt, q.0, q.1)) (λ command cs ms q. (q.0.0, q.0.1, q.1))
        (λ command answer cs ms w e q. (q.0.1, turned_one command answer ms q.0.0 w e q.1)) backlog mails (k, c)

  -- ---- what is found for a slot

  calls_fine : (place : Place) → F place → FoundFine (from_backlog place)
  unfolding from_backlog
  calls_fine (r, mails) f =
      let s = f.1 in
      let found = next_fine s.entries r.me (is_idle r) r.group s.group_is s.name_is r.backlog mails f.0.backlog s.sent in
      let next : Option Command × List Command × List Mail = next_queued r.me (is_idle r) r.group.core r.backlog mails in
      (found.0, (with_calls A G r next.1 found.1 f.0, resent start A G W Q refused true r mails next.2 s found.2))

  acts_fine : (acts : List Command) (place : Place) → KeptAll A G acts → DueAll A G acts → F place → FoundFine (from_acts acts place)
  acts_fine [] place a d f = calls_fine place f
  acts_fine (act ∷ acts) (r, mails) a d f = either_way FoundFine (is_idle r) (Some act, (record r { acts = acts }, mails)) (None, (r, mails)) (a.0, (with_acts A G r acts a.1 (fewer_due A G (act ∷ acts) acts (λ tx. ends_behind act acts tx) d) f.0, f.1)) (tt, f)

  queues_fine : (place : Place) → F place → FoundFine (from_queues place)
  unfolding from_queues
  queues_fine (r, mails) f = either_way FoundFine (list_any is_act (under_way r)) (None, (r, mails)) (from_acts r.acts (r, mails)) (tt, f) (acts_fine r.acts (r, mails) f.0.acts f.0.due f)

  found_by_fine : (o : Must Command) (place : Place) → MustKept A G o → F place → FoundFine (found_by o place)
  found_by_fine (Value command) place k f = (k, f)
  found_by_fine Gap place k f = (tt, f)
  found_by_fine Open place k f = queues_fine place f

  found_fine : (slot : ℕ) (place : Place) → F place → FoundFine (found_for slot place)
  unfolding found_for
  found_fine slot (r, mails) f = found_by_fine (must slot r.leader) (r, mails) (must_kept A G slot r f.0) f

  offered_fine : (slot : ℕ) (set : List ℕ) (command : Command) (place : Place) → Kept A G command → F place → F (offered slot set command place)
  unfolding offered
  offered_fine slot set command (r, mails) k f =
      let h = f.0 in (
        record { backlog = h.backlog; acts = h.acts; due = h.due; flights = Each-append (Flying A G) r.leader.flights (record { slot = slot; value = command; voters = None } ∷ []) h.flights (k, tt); ready = h.ready; reports = h.reports },
        with_all start A G W Q refused true r mails r.me set (Accept (name_of r) r.leader.ballot slot command) tt f.1,
      )

  found_offers : (slot : ℕ) (set : List ℕ) (found : Found) → FoundFine found → Offers F slot set found
  found_offers slot set (None, place) f = f.1
  found_offers slot set (Some command, place) f = offered_fine slot set command place f.0 f.1

  -- what a replica offers
  pub pumped_fine : (place : Place) → F place → F (pumped place)
  pumped_fine place f = pumped_place F (λ slot set p g. found_offers slot set (found_for slot p) (found_fine slot p g)) place f

-- what a replica offers, whether or not another leader was named
pub pumped_still : (start : ReplicaState) (A : Command → Type 0) (G : Draw → ℕ → Type 0) (W : Ballot → Draw → ℕ) (Q : Type 0) (place : Place) → Fine start A G W Q place → Fine start A G W Q (pumped place)
pumped_still start A G W Q place (refused, f) = (refused, pumped_fine start A G W Q refused place f)
