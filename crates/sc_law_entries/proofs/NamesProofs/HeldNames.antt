-- Parts of a replica's table: what goes back, elections, what a leader offers, and what is installed.
use Rattle.std.proofs.Common.{ℕ, ◌-◌, nat_lt, List, [], ◌∷◌, Option, Some, None}
use Rattle.sc_base.specs.Definitions.{Each}
use Rattle.sc_node_table.specs.Values.{Draw, Op, Command, Call, Base, Core, Route, AnswerBody, Accept, Flight, Report}
use Rattle.sc_words.specs.ideal.IdealDefinitions.{key_of, holds_key}
use Rattle.sc_words.proofs.PaxosProofs.PaxosLemmas.{Each-append, Each-filter}
use Rattle.sc_node_table.specs.NodeDefinitions.{ReplicaState, Place, name_of, under_way, born_replica, installed_replica, floor_of, forgotten, answered_all, put_back, ended, named, jumped, refused_by, turned_down, offered}
use Rattle.sc_law_entries.specs.names.NameDefinitions.{Opt, CoreNames, CommandNames, AnswerNames, ReplicaNames}
use Rattle.sc_law_entries.proofs.NamesProofs.EachFound.{Each-drop}
use Rattle.sc_law_walks.proofs.WalkLemmas.{either_way, back_any}
use Rattle.sc_law_entries.proofs.NamesProofs.HeldCommands.{Held, back_held}
use Rattle.sc_law_entries.proofs.NamesProofs.Sent.{Sent, sent_all_names, answered_all_names, dismissed_all_names}

module _ (K : Draw → Type 0) where
  abbrev pub Fine : Place → Type 0
  Fine place = ReplicaNames K place.0 × Sent K place.1

  abbrev pub Cmds : List Command → Type 0
  Cmds commands = Each (CommandNames K) commands

  abbrev pub Cmd : Option Command → Type 0
  Cmd o = Opt (CommandNames K) o

  abbrev pub R : ReplicaState → Type 0
  R r = ReplicaNames K r

  pub with_calls : (r : ReplicaState) (commands : List Command) → Cmds commands → R r → R (record r { backlog = commands })
  with_calls r commands c k = record { core = k.core; log = k.log; accepted = k.accepted; reports = k.reports; flights = k.flights; ready = k.ready; acts = k.acts; backlog = c }

  pub with_acts : (r : ReplicaState) (commands : List Command) → Cmds commands → R r → R (record r { acts = commands })
  with_acts r commands c k = record { core = k.core; log = k.log; accepted = k.accepted; reports = k.reports; flights = k.flights; ready = k.ready; acts = c; backlog = k.backlog }

  -- its commands in the queues, with its leader, and ready
  pub held_of : (r : ReplicaState) → R r → Held (CommandNames K) r
  held_of r k = (k.backlog, k.acts, k.flights, k.reports, k.ready)

  pub back_names : (command : Command) (r : ReplicaState) → CommandNames K command → R r → R (put_back command r)
  back_names command r c k =
      let put = back_held (CommandNames K) command r c (held_of r k) in
      let rest = back_any (λ (s : ReplicaState). CoreNames K s.group.core × Cmds s.log.entries × Each (λ (report : Report Command). CommandNames K report.value) s.acceptor.accepted) (λ s acts backlog q. q) command r (k.core, k.log, k.accepted) in
      record { core = rest.0; log = rest.1; accepted = rest.2; reports = put.3; flights = put.2; ready = put.4; acts = put.1; backlog = put.0 }

  -- ---- one that runs no longer

  pub ended_names : (hint : Option ℕ) (answer : AnswerBody) (place : Place) → AnswerNames K answer → Fine place → Fine (ended hint answer place)
  unfolding ended
  ended_names hint answer (r, mails) a f = (
    record { core = f.0.core; log = f.0.log; accepted = f.0.accepted; reports = tt; flights = tt; ready = tt; acts = tt; backlog = tt },
    dismissed_all_names K r.me (name_of r) hint answer r.backlog (answered_all r.me (name_of r) answer (under_way r) mails) f.0.core.id a (answered_all_names K r.me (name_of r) answer (under_way r) mails f.0.core.id a f.1),
  )

  pub forgotten_names : (last : ℕ) (r : ReplicaState) → R r → R (forgotten last r)
  unfolding forgotten
  forgotten_names last r k = record {
    core = k.core;
    log = Each-drop (CommandNames K) (floor_of last - r.log.base) r.log.entries k.log;
    accepted = Each-filter (λ (report : Report Command). CommandNames K report.value) (λ (report : Report Command). nat_lt (floor_of last) report.slot) r.acceptor.accepted k.accepted;
    reports = k.reports;
    flights = k.flights;
    ready = k.ready;
    acts = k.acts;
    backlog = k.backlog;
  }

  pub named_names : (group : Draw) (base : Base) → K group → CoreNames K base.core → CoreNames K (named group base).core
  named_names group base g k = record { id = g; succ = k.succ; pred = k.pred; lock = k.lock; decided = k.decided; voted = k.voted; born = k.born; gone = k.gone }

  pub jumped_names : (slot : ℕ) (base : Base) (sets : List (List ℕ)) (r : ReplicaState) → CoreNames K base.core → R r → R (jumped slot base sets r)
  unfolding jumped
  jumped_names slot base sets r b k =
      forgotten_names slot _ (record { core = named_names (name_of r) base k.core.id b; log = tt; accepted = k.accepted; reports = k.reports; flights = k.flights; ready = k.ready; acts = k.acts; backlog = k.backlog })

  pub installed_names : (me slot : ℕ) (base : Base) (sets : List (List ℕ)) → CoreNames K base.core → R (installed_replica me slot base sets)
  installed_names me slot base sets b = forgotten_names slot _ (record { core = b; log = tt; accepted = tt; reports = tt; flights = tt; ready = tt; acts = tt; backlog = tt })

  pub born_names : (ahead me : ℕ) (base : Base) → CoreNames K base.core → R (born_replica ahead me base)
  born_names ahead me base b = record { core = b; log = tt; accepted = tt; reports = tt; flights = tt; ready = tt; acts = tt; backlog = tt }

  -- ---- the pump

  refused_names : (gone : Option Route) (core : Core) (op : Op) → Opt (λ (into : Route). K into.group) gone → CoreNames K core → Opt (AnswerNames K) (refused_by gone core op)
  refused_names (Some into) core op g k = g
  refused_names None core op g k = either_way (λ (o : Option AnswerBody). Opt (AnswerNames K) o) (holds_key core.arc (key_of op)) _ _ tt k.succ

  pub turned_names : (core : Core) (command : Command) → CoreNames K core → Opt (AnswerNames K) (turned_down core command)
  turned_names core (Call client seq op) k = refused_names core.gone core op k.gone k
  turned_names core _ k = tt

  pub offered_names : (slot : ℕ) (set : List ℕ) (command : Command) (place : Place) → CommandNames K command → Fine place → Fine (offered slot set command place)
  unfolding offered
  offered_names slot set command (r, mails) c f = (
    record {
      core = f.0.core;
      log = f.0.log;
      accepted = f.0.accepted;
      reports = f.0.reports;
      flights = Each-append (λ (flight : Flight Command). CommandNames K flight.value) r.leader.flights (record { slot = slot; value = command; voters = None } ∷ []) f.0.flights (c, tt);
      ready = f.0.ready;
      acts = f.0.acts;
      backlog = f.0.backlog;
    },
    sent_all_names K r.me set (Accept (name_of r) r.leader.ballot slot command) mails (f.0.core.id, c) f.1,
  )
