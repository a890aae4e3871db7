-- What each part of a row does to a replica of a group that is not reshaped: the replica stays one, and each mail that it sends says what such a replica may say.
use Rattle.std.proofs.Common.{◌≡◌, ℕ, ◌+◌, ◌-◌, ◌&&◌, not, nat_lt, Bool, true, false, true≢false, List, [], ◌∷◌, ◌++◌, replicate, Some, None, refl, sym, ◌∙◌, ap, subst, inl, inr, arith}
use Rattle.std.specs.Option.{option_map}
use Rattle.std.proofs.lemmas.Bool.{cond_both}
use Rattle.sc_base.specs.Definitions.{Each, is_member, client_actor, same_ballot}
use Rattle.sc_words.proofs.PaxosProofs.PaxosLemmas.{Each-append, Each-filter, at_least_itself, at_least_trans, at_least_from_below, below_from}
use Rattle.sc_node_table.specs.Values.{Ballot, Draw, Command, Noop, Call, Base, Core, Lock, AnswerBody, Mail, MailBody, Answer, Prepare, Accept, Learn, Flight, Report}
use Rattle.sc_mail.specs.declared.bodies.AnswerBody.TheVariants as Says
use Rattle.sc_group_table.specs.machine.MachineDefinitions.{applied}
use Rattle.sc_words.specs.paxos.PaxosDefinitions.{IsAtLeast, AcceptorState, LeaderState, below, promise_counted, counted, with_flight_at, without_flight, flight_at}
use Rattle.sc_node_table.specs.NodeDefinitions.{ended, stopped, entered, forgotten, floor_of, jumped, offered, put_back, request_before, queued_number, answered_all, dismissed, dismissed_all, sent, sent_all, under_way, without_slot, hinted, name_of, next, rest_of, ReplicaState, Place, answer_of, waits_in, open_nodes, flying, slots_ahead, with_entry}
use Rattle.sc_law_entries.proofs.NamesProofs.EachFound.{Each-drop, slot_without, flight_without}
use Rattle.sc_law_walks.proofs.WalkLemmas.{either_way, elected_place, TableEntry, entry_holds, entered_place}
use Rattle.sc_law_walks.specs.WalkDefinitions.{GoesOn}
use Rattle.sc_live_healed.proofs.FixedWalks.{IsFixedPlace, IsSaid, IsMember, IsFresh}
use Rattle.sc_live_healed.proofs.FixedEntries.{unreported, unspoken, learner, none_joined}
use Rattle.sc_law_walks.proofs.Talks.{each_sent}
use Rattle.sc_law_walks.proofs.EndedRequests.{all_end}
use Rattle.sc_live_healed.proofs.FixedParts as parts
use Rattle.sc_live_healed.specs.HealedDefinitions.{IsFixedRequest, IsFixedCommand, IsFixedReplica, KeepsBallots, IsFixedBody, IsFixedAnswer}

-- a filler or a request that goes back
back_filler : (command : Command) (r : ReplicaState) → command ≡ Noop → put_back command r ≡ r
unfolding put_back
back_filler command r e = ap (λ (c : Command). put_back c r) e

module _ (base : Base) (me : ℕ) (fresh : IsFresh base me) where
  abbrev pub F : Place → Type 0
  F place = IsFixedPlace base me place

  abbrev pub Said : List Mail → Type 0
  Said mails = Each (IsSaid base me) mails

  abbrev pub Fixed : Command → Type 0
  Fixed command = IsFixedCommand base command

  pub name_is : (r : ReplicaState) → IsFixedReplica base r → name_of r ≡ base.core.id
  name_is r k = ap (λ (core : Core). core.id) k.group

  -- ---- mails

  pub one_said : (r : ReplicaState) (to : ℕ) (body : MailBody) (mails : List Mail) → r.me ≡ me → IsFixedBody base me to body → Said mails → Said (sent r.me to body mails)
  one_said r to body mails fact b m = Each-append (IsSaid base me) mails (record { from = r.me; to = to; body = body } ∷ []) m ((fact, b), tt)

  pub sends : (r : ReplicaState) (to : ℕ) (body : MailBody) (mails : List Mail) → IsFixedBody base me to body → F (r, mails) → F (r, sent r.me to body mails)
  sends r to body mails b k = record { me_is = k.me_is; fixed = k.fixed; ballots = k.ballots; said = one_said r to body mails k.me_is b k.said }

  pub answers_client : (r : ReplicaState) (client seq : ℕ) (answer : AnswerBody) (mails : List Mail) → IsFixedAnswer base answer → F (r, mails) → F (r, sent r.me (client_actor client) (Answer (name_of r) seq answer) mails)
  answers_client r client seq answer mails fine k = sends r (client_actor client) (Answer (name_of r) seq answer) mails (name_is r k.fixed, fresh.member, fine) k

  -- what one that stops answers
  module _ (r : ReplicaState) (fact : r.me ≡ me) (same : name_of r ≡ base.core.id) (node : ℕ) (m : IsMember base node) where
    leader_said : (client seq : ℕ) (mails : List Mail) → Said mails → Said (sent r.me (client_actor client) (Answer (name_of r) seq (Says.NotLeader (Some node))) mails)
    leader_said client seq mails s = one_said r (client_actor client) (Answer (name_of r) seq (Says.NotLeader (Some node))) mails fact (same, fresh.member, m) s

    all_said : (commands : List Command) (mails : List Mail) → Said mails → Said (answered_all r.me (name_of r) (Says.NotLeader (Some node)) commands mails)
    all_said commands mails s = all_end r.me (name_of r) (Says.NotLeader (Some node)) Said leader_said commands mails s

    requests_said : (commands : List Command) (mails : List Mail) → Each (IsFixedRequest base) commands → Said mails → Said (dismissed_all r.me (name_of r) (Some node) (Says.NotLeader (Some node)) commands mails)
    unfolding dismissed_all dismissed
    requests_said [] mails f s = s
    requests_said (Call client seq op ∷ commands) mails f s = requests_said commands _ f.1 (leader_said client seq mails s)
    requests_said (command ∷ commands) mails f s = absurd f.0

  -- ---- one that stops

  pub stops_at : (node : ℕ) (r : ReplicaState) (mails : List Mail) → IsMember base node → F (r, mails) → F (stopped (Some node) (r, mails))
  unfolding ended
  stops_at node r mails m k = record {
    me_is = k.me_is;
    fixed = record { group = k.fixed.group; sets = k.fixed.sets; acts = refl; waits = k.fixed.waits; backlog = tt; flights = tt; ready = tt; reports = tt; accepted = k.fixed.accepted; entries = k.fixed.entries };
    ballots = record {
      promised = k.ballots.promised;
      asker = k.ballots.asker;
      running = λ on. absurd (true≢false (sym on));
      stopped = λ off. record { backlog = refl; flights = refl; ready = refl; leader = node; hint = refl; member = m };
    };
    said = requests_said r k.me_is (name_is r k.fixed) node m r.backlog _ k.fixed.backlog (all_said r k.me_is (name_is r k.fixed) node m (under_way r) mails k.said);
  }

  -- a greater ballot is seen
  pub higher : (ballot : Ballot) (r : ReplicaState) (mails : List Mail) → below r.top ballot ≡ true → F (r, mails) → F (record r { top = ballot }, mails)
  higher ballot r mails t k =
      let up : IsAtLeast ballot r.top = at_least_from_below r.top ballot t in record {
        me_is = k.me_is;
        fixed = record { group = k.fixed.group; sets = k.fixed.sets; acts = k.fixed.acts; waits = k.fixed.waits; backlog = k.fixed.backlog; flights = k.fixed.flights; ready = k.fixed.ready; reports = k.fixed.reports; accepted = k.fixed.accepted; entries = k.fixed.entries };
        ballots = record {
          promised = at_least_trans ballot r.top r.acceptor.promised up k.ballots.promised;
          asker = k.ballots.asker;
          running = λ on. (let runs = k.ballots.running on in record { own = runs.own; seen = at_least_trans ballot r.top r.leader.ballot up runs.seen; unpassed = runs.unpassed; hint = runs.hint });
          stopped = λ off. (let s = k.ballots.stopped off in record { backlog = s.backlog; flights = s.flights; ready = s.ready; leader = s.leader; hint = s.hint; member = s.member });
        };
        said = k.said;
      }

  -- one that runs, with other requests queued, another leader's state of its ballot, and other commands ready
  pub runs_with : (r : ReplicaState) (mails : List Mail) (leader : LeaderState Command) (ready : List (ℕ × Command)) (backlog : List Command) → r.running ≡ true → leader.ballot ≡ r.leader.ballot
      → Each (IsFixedRequest base) backlog → Each (λ (flight : Flight Command). Fixed flight.value) leader.flights → Each (λ (entry : ℕ × Command). Fixed entry.1) ready → Each (λ (report : Report Command). Fixed report.value) leader.reports
      → F (r, mails) → F (record r { leader = leader; ready = ready; backlog = backlog }, mails)
  runs_with r mails leader ready backlog on same b f c p k =
      let runs = k.ballots.running on in record {
        me_is = k.me_is;
        fixed = record { group = k.fixed.group; sets = k.fixed.sets; acts = k.fixed.acts; waits = k.fixed.waits; backlog = b; flights = f; ready = c; reports = p; accepted = k.fixed.accepted; entries = k.fixed.entries };
        ballots = record {
          promised = k.ballots.promised;
          asker = k.ballots.asker;
          running = λ _. record {
            own = ap (λ (ballot : Ballot). ballot.node) same ∙ runs.own;
            seen = subst (λ (ballot : Ballot). IsAtLeast r.top ballot) (sym same) runs.seen;
            unpassed = subst (λ (ballot : Ballot). IsAtLeast ballot r.acceptor.promised) (sym same) runs.unpassed;
            hint = runs.hint;
          };
          stopped = λ off. absurd (true≢false (sym on ∙ off));
        };
        said = k.said;
      }

  pub with_backlog : (r : ReplicaState) (mails : List Mail) (backlog : List Command) → r.running ≡ true → Each (IsFixedRequest base) backlog → F (r, mails) → F (record r { backlog = backlog }, mails)
  with_backlog r mails backlog on b k = runs_with r mails r.leader r.ready backlog on refl b k.fixed.flights k.fixed.ready k.fixed.reports k

  pub offers : (slot : ℕ) (set : List ℕ) (command : Command) (r : ReplicaState) (mails : List Mail) → r.running ≡ true → Fixed command → Each (IsMember base) set → F (r, mails) → F (offered slot set command (r, mails))
  unfolding offered
  offers slot set command r mails on f of k =
      let own : r.leader.ballot.node ≡ me = (k.ballots.running on).own ∙ k.me_is in
      let more : Said (sent_all r.me set (Accept (name_of r) r.leader.ballot slot command) mails) =
      each_sent r.me (IsMember base) Said (Accept (name_of r) r.leader.ballot slot command) (λ to ms m s. one_said r to (Accept (name_of r) r.leader.ballot slot command) ms k.me_is (name_is r k.fixed, (fresh.member, m), own, f) s) set mails of k.said in
      let said : F (r, sent_all r.me set (Accept (name_of r) r.leader.ballot slot command) mails) = record { me_is = k.me_is; fixed = k.fixed; ballots = k.ballots; said = more } in
      runs_with r _ (with_flight_at slot command r.leader) r.ready r.backlog on refl k.fixed.backlog
      (Each-append (λ (flight : Flight Command). Fixed flight.value) r.leader.flights (record { slot = slot; value = command; voters = None } ∷ []) k.fixed.flights (f, tt)) k.fixed.ready k.fixed.reports said

  -- the head of the queue is a request
  pub head_of : (command : Command) (backlog : List Command) (r : ReplicaState) → r.backlog ≡ command ∷ backlog → IsFixedReplica base r → IsFixedRequest base command × Each (IsFixedRequest base) backlog
  head_of command backlog r e k = subst (Each (IsFixedRequest base)) e k.backlog

  -- ---- entries

  module _ (command : Command) (start : ReplicaState) (f : Fixed command) (same : start.group.core ≡ base.core) where
    -- one that runs, or not, as the row found it
    abbrev Q : Place → Type 0
    Q place = F place × (place.0.running ≡ start.running)

    enters : (mails : List Mail) → F (start, mails) → Q (entered command start, mails)
    unfolding entered forgotten
    enters mails k =
        let core : (applied start.group command).0.core ≡ base.core = parts.applied_core base command start.group f ∙ k.fixed.group in (
          record {
            me_is = k.me_is;
            fixed = record {
              group = core;
              sets = ap (λ (sets : List (List ℕ)). rest_of sets ++ (applied start.group command).0.core.members ∷ []) k.fixed.sets ∙ ap (λ (c : Core). rest_of (replicate slots_ahead base.core.members) ++ c.members ∷ []) core;
              acts = k.fixed.acts;
              waits = ap (λ (c : Core). waits_in c.lock start.waits) core ∙ ap (λ (lock : Lock). waits_in lock start.waits) fresh.free;
              backlog = k.fixed.backlog;
              flights = k.fixed.flights;
              ready = k.fixed.ready;
              reports = k.fixed.reports;
              accepted = Each-filter (λ (report : Report Command). Fixed report.value) (λ (report : Report Command). nat_lt (floor_of (next start)) report.slot) start.acceptor.accepted k.fixed.accepted;
              entries = Each-drop Fixed (floor_of (next start) - (with_entry command start.log).base) (with_entry command start.log).entries (parts.logged_fixed base command start.log f k.fixed.entries);
            };
            ballots = record {
              promised = k.ballots.promised;
              asker = k.ballots.asker;
              running = λ on. (let runs = k.ballots.running on in record { own = runs.own; seen = runs.seen; unpassed = runs.unpassed; hint = runs.hint });
              stopped = λ off. (let s = k.ballots.stopped off in record { backlog = s.backlog; flights = s.flights; ready = s.ready; leader = s.leader; hint = s.hint; member = s.member });
            };
            said = k.said;
          },
          refl,
        )

    -- a request goes back to a replica that runs
    goes_back : (other : Command) (r : ReplicaState) (mails : List Mail) → Fixed other → start.running ≡ true → Q (r, mails) → Q (put_back other r, mails)
    unfolding put_back
    goes_back other r mails (inr e) on k = subst (λ (x : ReplicaState). Q (x, mails)) (sym (back_filler other r e)) k
    goes_back other r mails (inl g) on k = call_back other g
      where
        call_back : (c : Command) → IsFixedRequest base c → Q (put_back c r, mails)
        call_back (Call client seq op) g = (with_backlog r mails (request_before (queued_number r.backlog client) client seq (Call client seq op) r.backlog) (k.1 ∙ on) (parts.before_request base (queued_number r.backlog client) client seq (Call client seq op) r.backlog g k.0.fixed.backlog) k.0, k.1)
        call_back _ g = absurd g

    none_flies : (r : ReplicaState) (slot : ℕ) (other : Command) → r.leader.flights ≡ [] → flying r slot ≡ Some other → ⊥
    none_flies r slot other e fact = (let none : flying r slot ≡ None = ap (λ (flights : List (Flight Command)). option_map (λ (flight : Flight Command). flight.value) (flight_at slot flights)) e in cc)

    -- what is in flight is so at one that runs
    flying_runs : (r : ReplicaState) (slot : ℕ) (other : Command) → KeepsBallots base r → flying r slot ≡ Some other → r.running ≡ true
    flying_runs r slot other k e = by r.running refl
      where
        by : (b : Bool) → r.running ≡ b → b ≡ true
        by true q = refl
        by false q = absurd (none_flies r slot other (k.stopped q).flights e)

    entry_of : (counted : Bool) → (counted ≡ true → start.running ≡ true) → TableEntry counted command start (λ place. F place) Q
    entry_of counted on = record {
      Lost = λ other. Fixed other × (start.running ≡ true);
      entered = λ mails k. enters mails k;
      answers = λ client seq op answer r mails t fact e k. (answers_client r client seq answer mails (parts.answer_fine base me fresh start.group client seq op answer same (subst (λ (c : Command). answer_of (applied start.group c).1 ≡ Some answer) fact e)) k.0, k.1);
      returned = λ r mails t k. goes_back command r mails f (on t) k;
      reports = λ result r mails fact k. absurd (unreported base counted command start f same result fact);
      speaks = λ r mails k. unspoken base counted command start f same Q r mails k;
      teaches = λ to r mails t a k. (sends r to (Learn (name_of r) (next start) command) mails (name_is r k.0.fixed, (fresh.member, learner base counted command start f same to a), f) k.0, k.1);
      installs = λ to r mails t new k. absurd (none_joined base counted command start f same r k.0.fixed.group to new);
      repolls = λ to r mails t new k. absurd (none_joined base counted command start f same r k.0.fixed.group to new);
      flies = λ other r mails e k. (parts.flight_fixed base r.leader.flights (next start) other e k.0.fixed.flights, sym k.1 ∙ flying_runs r (next start) other k.0.ballots e);
      landed = λ place k. (
        record {
          me_is = k.0.me_is;
          fixed = record {
            group = k.0.fixed.group;
            sets = k.0.fixed.sets;
            acts = k.0.fixed.acts;
            waits = k.0.fixed.waits;
            backlog = k.0.fixed.backlog;
            flights = flight_without Fixed (next start) place.0.leader.flights k.0.fixed.flights;
            ready = slot_without Fixed place.0.ready (next start) k.0.fixed.ready;
            reports = k.0.fixed.reports;
            accepted = k.0.fixed.accepted;
            entries = k.0.fixed.entries;
          };
          ballots = record {
            promised = k.0.ballots.promised;
            asker = k.0.ballots.asker;
            running = λ on. (let runs = k.0.ballots.running on in record { own = runs.own; seen = runs.seen; unpassed = runs.unpassed; hint = runs.hint });
            stopped = λ off. (let s = k.0.ballots.stopped off in record { backlog = s.backlog; flights = ap (without_flight (next start)) s.flights; ready = ap (λ (es : List (ℕ × Command)). without_slot es (next start)) s.ready; leader = s.leader; hint = s.hint; member = s.member });
          };
          said = k.0.said;
        },
        k.1,
      );
      back = λ other r mails l k. goes_back other r mails l.0 l.1 k;
    }

  pub enters_place : (counted : Bool) (command : Command) (r : ReplicaState) (mails : List Mail) → (counted ≡ true → r.running ≡ true) → Fixed command → F (r, mails) → F (entered_place counted command (r, mails))
  enters_place counted command r mails on f k =
      (entry_holds counted command r (λ place. F place) (Q command r f k.fixed.group) (entry_of command r f k.fixed.group counted on) mails k).0

  -- ---- votes and promises

  -- one that does not run follows the node of a ballot
  pub hints : (ballot : Ballot) (r : ReplicaState) (mails : List Mail) → IsMember base ballot.node → F (r, mails) → F (hinted ballot r, mails)
  hints ballot r mails m k =
      cond_both r.running r (record r { hint = Some ballot.node }) (λ (x : ReplicaState). F (x, mails)) (λ _. k)
      (λ off. record {
        me_is = k.me_is;
        fixed = record { group = k.fixed.group; sets = k.fixed.sets; acts = k.fixed.acts; waits = k.fixed.waits; backlog = k.fixed.backlog; flights = k.fixed.flights; ready = k.fixed.ready; reports = k.fixed.reports; accepted = k.fixed.accepted; entries = k.fixed.entries };
        ballots = record {
          promised = k.ballots.promised;
          asker = k.ballots.asker;
          running = λ on. absurd (true≢false (sym on ∙ off));
          stopped = λ _. (let s = k.ballots.stopped off in record { backlog = s.backlog; flights = s.flights; ready = s.ready; leader = ballot.node; hint = refl; member = m });
        };
        said = k.said;
      })

  -- an acceptor of another promise, which is no greater than what was seen and stops nobody
  pub with_acceptor : (r : ReplicaState) (mails : List Mail) (acceptor : AcceptorState Command) → IsAtLeast r.top acceptor.promised → GoesOn acceptor.promised r → IsMember base acceptor.promised.node
      → Each (λ (report : Report Command). Fixed report.value) acceptor.accepted → F (r, mails) → F (record r { acceptor = acceptor }, mails)
  with_acceptor r mails acceptor top goes m a k = record {
    me_is = k.me_is;
    fixed = record { group = k.fixed.group; sets = k.fixed.sets; acts = k.fixed.acts; waits = k.fixed.waits; backlog = k.fixed.backlog; flights = k.fixed.flights; ready = k.fixed.ready; reports = k.fixed.reports; accepted = a; entries = k.fixed.entries };
    ballots = record {
      promised = top;
      asker = m;
      running = λ on. (let runs = k.ballots.running on in record { own = runs.own; seen = runs.seen; unpassed = ap (λ (b : Bool). b && below r.leader.ballot acceptor.promised) (sym on) ∙ goes; hint = runs.hint });
      stopped = λ off. (let s = k.ballots.stopped off in record { backlog = s.backlog; flights = s.flights; ready = s.ready; leader = s.leader; hint = s.hint; member = s.member });
    };
    said = k.said;
  }

  -- a promise is counted by the one that asked
  pub polls : (from : ℕ) (ballot : Ballot) (reports : List (Report Command)) (r : ReplicaState) (mails : List Mail) → r.running ≡ true → Each (λ (report : Report Command). Fixed report.value) reports → F (r, mails) → F (record r { leader = (promise_counted from ballot reports r.leader).1 }, mails)
  polls from ballot reports r mails on f k =
      either_way (λ (p : Bool × LeaderState Command). F (record r { leader = p.1 }, mails)) (same_ballot ballot r.leader.ballot && not (is_member r.leader.promisers from)) _ _
      (runs_with r mails (record r.leader { promisers = r.leader.promisers ++ from ∷ []; reports = r.leader.reports ++ reports }) r.ready r.backlog on refl k.fixed.backlog k.fixed.flights k.fixed.ready
      (Each-append (λ (report : Report Command). Fixed report.value) r.leader.reports reports k.fixed.reports f) k) k

  -- ---- a state that is taken over

  pub jumps : (from : ℕ) (slot : ℕ) (sent : Base) (sets : List (List ℕ)) (r : ReplicaState) (mails : List Mail) → IsMember base from → sent.core ≡ base.core → sets ≡ replicate slots_ahead base.core.members → r.running ≡ false → F (r, mails) → F (record (jumped slot sent sets r) { hint = Some from }, mails)
  unfolding jumped forgotten
  jumps from slot sent sets r mails m same many off k = record {
    me_is = k.me_is;
    fixed = record {
      group = ap (λ (core : Core). record core { id = name_of r }) same ∙ ap (λ (name : Draw). record base.core { id = name }) (name_is r k.fixed);
      sets = many;
      acts = k.fixed.acts;
      waits = ap (λ (core : Core). waits_in core.lock r.waits) same ∙ ap (λ (lock : Lock). waits_in lock r.waits) fresh.free;
      backlog = k.fixed.backlog;
      flights = k.fixed.flights;
      ready = k.fixed.ready;
      reports = k.fixed.reports;
      accepted = Each-filter (λ (report : Report Command). Fixed report.value) (λ (report : Report Command). nat_lt (floor_of slot) report.slot) r.acceptor.accepted k.fixed.accepted;
      entries = Each-drop Fixed (floor_of slot - slot) [] tt;
    };
    ballots = record {
      promised = k.ballots.promised;
      asker = k.ballots.asker;
      running = λ on. absurd (true≢false (sym on ∙ off));
      stopped = λ _. (let s = k.ballots.stopped off in record { backlog = s.backlog; flights = s.flights; ready = s.ready; leader = from; hint = refl; member = m });
    };
    said = k.said;
  }

  -- ---- an election

  next_round : (top : Ballot) (other : Ballot) (node : ℕ) → IsAtLeast top other → IsAtLeast (record { round = top.round + 1; node = node }) other
  next_round top other node e = at_least_trans (record { round = top.round + 1; node = node }) top other (at_least_from_below top (record { round = top.round + 1; node = node }) (below_from top (record { round = top.round + 1; node = node }) (inl (omega arith)))) e

  pub elects : (r : ReplicaState) (mails : List Mail) → F (r, mails) → F (elected_place (r, mails))
  elects r mails k =
      let ballot : Ballot = record { round = r.top.round + 1; node = r.me } in record {
        me_is = k.me_is;
        fixed = record { group = k.fixed.group; sets = k.fixed.sets; acts = k.fixed.acts; waits = refl; backlog = k.fixed.backlog; flights = tt; ready = tt; reports = tt; accepted = k.fixed.accepted; entries = k.fixed.entries };
        ballots = record {
          promised = next_round r.top r.acceptor.promised r.me k.ballots.promised;
          asker = k.ballots.asker;
          running = λ on. record { own = refl; seen = at_least_itself ballot; unpassed = next_round r.top r.acceptor.promised r.me k.ballots.promised; hint = refl };
          stopped = λ off. absurd (true≢false off);
        };
        said = each_sent r.me (IsMember base) Said (Prepare (name_of r) ballot (next r)) (λ to ms m s. one_said r to (Prepare (name_of r) ballot (next r)) ms k.me_is (name_is r k.fixed, (fresh.member, m), k.me_is) s) (open_nodes r.sets) mails (parts.open_are_members base r.sets k.fixed.sets) k.said;
      }
