-- A replica that stops answers all calls that it keeps, each with its cause; one that is elected has waited for nothing yet.
use Rattle.std.proofs.Common.{◌≡◌, ℕ, ◌+◌, ◌-◌, ◌^◌, refl, arith, ◌&&◌, eqb, Bool, true, false, cond, List, [], ◌∷◌, Option, Some}
use Rattle.sc_base.specs.Definitions.{client_actor}
use Rattle.sc_node_table.specs.Values.{Ballot, Draw, Op, Command, Call, AnswerBody, Mail, Answer, Prepare, Install}
use Rattle.sc_words.specs.declared.commands.orders.OrderRefusal.TheVariants as Why
use Rattle.sc_words.specs.declared.commands.orders.OrderResult.TheVariants as Results
use Rattle.sc_mail.specs.declared.bodies.AnswerBody.TheVariants as Says
use Rattle.sc_group_table.specs.machine.MachineDefinitions.{base_of}
use Rattle.sc_words.specs.paxos.PaxosDefinitions.{below, new_leader}
use Rattle.sc_node_table.specs.NodeDefinitions.{open_nodes, elected, ended, stopped, saw, install_to, asked_to_promise, welcomed_all, sent, answered_all, order_number, dismissed_all, ReplicaState, Place, name_of, next, under_way}
use Rattle.sc_law_walks.proofs.WalkLemmas.{either_way}
use Rattle.sc_law_walks.proofs.EndedRequests.{requests_end, queue_ends}
use Rattle.sc_law_refusal.proofs.RefusalProofs.Keeping.{Kept, KeptAll, way_kept, fewer_due}
use Rattle.sc_law_refusal.proofs.RefusalProofs.Plain.{reported_plain}
use Rattle.sc_law_refusal.proofs.RefusalProofs.Standing.{CauseSo, AllCaused, plain_caused, answer_caused, stopped_caused, Stands, FineAs, Fine, with_plain, with_all}

module _ (start : ReplicaState) (A : Command → Type 0) (G : Draw → ℕ → Type 0) (W : Ballot → Draw → ℕ) (Q : Type 0) where
  abbrev F : Bool → Bool → Place → Type 0
  F refused turned place = FineAs start A G W Q refused turned place

  -- ---- answers to the calls that are kept

  module _ (entries : List Command) (refused turned : Bool) (me : ℕ) (group : Draw) (own : group ≡ name_of start) (answer : AnswerBody) (causes : (op : Op) → CauseSo start A G W Q entries refused turned op answer) where
    abbrev C : List Mail → Type 0
    C mails = AllCaused start A G W Q entries refused turned mails

    answered_one : (client seq : ℕ) (op : Op) (mails : List Mail) → A (Call client seq op) → C mails → C (sent me (client_actor client) (Answer group seq answer) mails)
    answered_one client seq op mails a c =
        answer_caused start A G W Q entries refused turned me (client_actor client) group seq answer mails (record { own = own; client = client; op = op; receiver = refl; was_asked = a; cause = causes op }) c

    pub answers_caused : (commands : List Command) (mails : List Mail) → KeptAll A G commands → C mails → C (answered_all me group answer commands mails)
    answers_caused commands mails k c = requests_end (Kept A G) me group answer C answered_one commands mails k c

    pub dismissals_caused : (hint : Option ℕ) (commands : List Command) (mails : List Mail) → KeptAll A G commands → C mails → C (dismissed_all me group hint answer commands mails)
    dismissals_caused hint commands mails k c =
        queue_ends (Kept A G) me group answer C answered_one hint (λ command ms k q. reported_plain C (plain_caused start A G W Q entries refused turned) me (order_number command) (Results.Refused (Why.NotLeader hint)) ms q) commands mails k c

  -- ---- it stops

  -- with an answer whose cause is that it has stopped, or the executed state
  unfoldable pub ended_fine : (refused turned refused' turned' : Bool) (hint : Option ℕ) (answer : AnswerBody) (r : ReplicaState) (mails : List Mail) (f : F refused turned (r, mails))
      → ((ms : List Mail) → AllCaused start A G W Q f.1.entries refused turned ms → AllCaused start A G W Q f.1.entries refused' turned' ms)
      → ((op : Op) → CauseSo start A G W Q f.1.entries refused' turned' op answer) → F refused' turned' (ended hint answer (r, mails))
  unfolding ended
  ended_fine refused turned refused' turned' hint answer r mails f later causes =
      let first = answers_caused f.1.entries refused' turned' r.me (name_of r) f.1.name_is answer causes (under_way r) mails (way_kept A G r f.0) (later mails f.1.sent) in (
        record { backlog = tt; acts = tt; due = fewer_due A G r.acts [] (λ tx. omega arith) f.0.due; flights = tt; ready = tt; reports = tt },
        record {
          entries = f.1.entries;
          me_is = f.1.me_is;
          name_is = f.1.name_is;
          group_is = f.1.group_is;
          log_is = f.1.log_is;
          out = λ e. refl;
          patient = λ q runs. cc;
          sent = dismissals_caused f.1.entries refused' turned' r.me (name_of r) f.1.name_is answer causes hint r.backlog (answered_all r.me (name_of r) answer (under_way r) mails) f.0.backlog first;
        },
      )

  unfoldable pub stopped_fine : (refused turned : Bool) (hint : Option ℕ) (r : ReplicaState) (mails : List Mail) → F refused turned (r, mails) → F true turned (stopped hint (r, mails))
  stopped_fine refused turned hint r mails f = ended_fine refused turned true turned hint (Says.NotLeader hint) r mails f (λ ms c. stopped_caused start A G W Q f.1.entries refused turned ms c) (λ op. refl)

  -- ---- it is elected, where no other leader was named

  pub elected_fine : (turned : Bool) (r : ReplicaState) (mails : List Mail) → F false turned (r, mails) → F false turned (elected (r, mails))
  unfolding elected
  elected_fine turned r mails f =
      let ballot : Ballot = record { round = r.top.round + 1; node = r.me } in
      let s : Stands start A G W Q false turned r.me r.group r.log true ballot 0 mails = record {
        entries = f.1.entries;
        me_is = f.1.me_is;
        name_is = f.1.name_is;
        group_is = f.1.group_is;
        log_is = f.1.log_is;
        out = λ e. cc;
        patient = λ q runs. omega arith;
        sent = f.1.sent;
      } in
      either_way (F false turned) (eqb r.top.round (2 ^ 32 - 1)) _ _ f (
        record { backlog = f.0.backlog; acts = f.0.acts; due = f.0.due; flights = tt; ready = tt; reports = tt },
        with_all start A G W Q false turned (record r { top = ballot; hint = Some r.me; running = true; leader = new_leader ballot (next r); ready = []; waits = 0 }) mails r.me (open_nodes r.sets) (Prepare (name_of r) ballot (next r)) tt s,
      )

  -- ---- a ballot that is seen

  raised : (refused turned : Bool) (r : ReplicaState) (ballot : Ballot) (mails : List Mail) → F refused turned (r, mails) → F refused turned (record r { top = ballot }, mails)
  raised refused turned r ballot mails f = (
    record { backlog = f.0.backlog; acts = f.0.acts; due = f.0.due; flights = f.0.flights; ready = f.0.ready; reports = f.0.reports },
    f.1,
  )

  pub saw_fine : (ballot : Ballot) (r : ReplicaState) (mails : List Mail) → F false true (r, mails) → Fine start A G W Q (saw ballot (r, mails))
  unfolding saw
  saw_fine ballot r mails f =
      let seen : ReplicaState = cond (below r.top ballot) (record r { top = ballot }) r in
      let g : F false true (seen, mails) = either_way (λ (s : ReplicaState). F false true (s, mails)) (below r.top ballot) (record r { top = ballot }) r (raised false true r ballot mails f) f in
      either_way (Fine start A G W Q) (r.running && below r.leader.ballot ballot) (stopped (Some ballot.node) (seen, mails)) (seen, mails) (true, stopped_fine false true (Some ballot.node) seen mails g) (false, g)

  -- ---- the state is sent

  pub installed_fine : (refused turned : Bool) (node : ℕ) (place : Place) → F refused turned place → F refused turned (install_to node place)
  unfolding install_to
  installed_fine refused turned node (r, mails) f = (f.0, with_plain start A G W Q refused turned r mails r.me node (Install (name_of r) (next r - 1) (base_of r.group) r.sets) tt f.1)

  asked_fine : (refused turned : Bool) (node : ℕ) (place : Place) → F refused turned place → F refused turned (asked_to_promise node place)
  asked_fine refused turned node (r, mails) f =
      either_way (F refused turned) r.leader.is_first (r, mails) (r, sent r.me node (Prepare (name_of r) r.leader.ballot (next r)) mails) f (f.0, with_plain start A G W Q refused turned r mails r.me node (Prepare (name_of r) r.leader.ballot (next r)) tt f.1)

  pub welcomed_fine : (refused turned : Bool) (nodes : List ℕ) (place : Place) → F refused turned place → F refused turned (welcomed_all nodes place)
  unfolding welcomed_all
  welcomed_fine refused turned [] place f = f
  welcomed_fine refused turned (node ∷ nodes) place f =
      welcomed_fine refused turned nodes (asked_to_promise node (install_to node place)) (asked_fine refused turned node (install_to node place) (installed_fine refused turned node place f))
