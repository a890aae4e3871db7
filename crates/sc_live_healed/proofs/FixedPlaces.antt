-- A replica of a group that is not reshaped stays one, and each mail that it sends says what such a replica may say: an instance of the walk of such replicas.
use Rattle.std.proofs.Common.{◌≡◌, ℕ, ◌-◌, nat_le, true, false, true≢false, List, [], ◌∷◌, ◌++◌, Some, refl, sym, ◌∙◌, ap, subst, inl, inr}
use Rattle.std.proofs.lemmas.Bool.{cond_both}
use Rattle.sc_base.specs.Definitions.{Each, Drawer, is_member}
use Rattle.sc_words.proofs.PaxosProofs.PaxosLemmas.{Each-append, Each-filter}
use Rattle.sc_node_table.specs.Values.{Ballot, Command, Noop, Call, Base, Mail, MailBody, Promise, Accept, Accepted, Nack, Learn, Ask, Install, Report}
use Rattle.sc_group_table.specs.machine.MachineDefinitions.{base_of}
use Rattle.sc_words.specs.paxos.PaxosDefinitions.{IsAtLeast, below, reports_from, after_promise, after_accept, counted}
use Rattle.sc_node_table.specs.NodeDefinitions.{stopped, sent, with_slot, without_request, hinted, name_of, next, ReplicaState, Place, mailed, tick_row}
use Rattle.sc_law_entries.proofs.NamesProofs.EachFound.{slot_with, report_with}
use Rattle.sc_law_walks.specs.WalkDefinitions.{GoesOn}
use Rattle.sc_live_healed.proofs.FixedWalks.{FixedWalk, FixedTickParts, IsFixedPlace, IsMember, IsFresh}
use Rattle.sc_live_healed.proofs.FixedTicks.{ticks}
use Rattle.sc_live_healed.proofs.FixedRows.{takes_mail}
use Rattle.sc_live_healed.proofs.FixedParts as parts
use Rattle.sc_live_healed.specs.HealedDefinitions.{IsFixedRequest, IsFixedCommand, KeepsBallots, IsFixedBody}
use Rattle.sc_live_healed.proofs.FixedChanges as changes

module _ (base : Base) (me : ℕ) (fresh : IsFresh base me) where
  abbrev pub F : Place → Type 0
  F place = IsFixedPlace base me place

  abbrev Fixed : Command → Type 0
  Fixed command = IsFixedCommand base command

  -- ---- the walk

  pub leader_of : (r : ReplicaState) → KeepsBallots base r → r.running ≡ false → (leader : ℕ) × (r.hint ≡ Some leader) × IsMember base leader
  leader_of r k off = (let s = k.stopped off in (s.leader, s.hint, s.member))

  pub of_ballot : (ballot : Ballot) (from : ℕ) → IsMember base from → ballot.node ≡ from → IsMember base ballot.node
  of_ballot ballot from m e = ap (λ (node : ℕ). is_member base.core.members node) e ∙ m

  pub accepts : (from : ℕ) (report : Report Command) (r : ReplicaState) (mails : List Mail) → IsMember base from → report.ballot.node ≡ from → Fixed report.value → IsAtLeast r.top report.ballot → GoesOn report.ballot r → F (r, mails)
      → F (hinted report.ballot (record r { acceptor = after_accept report r.acceptor }), sent r.me from (Accepted (name_of r) report.ballot report.slot) mails)
  accepts from report r mails m own f top goes k =
      let node : IsMember base report.ballot.node = of_ballot report.ballot from m own in
      let a = report_with Fixed report r.acceptor.accepted f k.fixed.accepted in
      changes.hints base me fresh report.ballot (record r { acceptor = after_accept report r.acceptor }) _ node
      (changes.with_acceptor base me fresh r _ (after_accept report r.acceptor) top goes node a (changes.sends base me fresh r from (Accepted (name_of r) report.ballot report.slot) mails (changes.name_is base me fresh r k.fixed, (fresh.member, m), own) k))

  abbrev pub fixed_walk : FixedWalk base me
  fixed_walk = record {
    fresh = fresh;
    First = λ r. Unit {0};
    P = λ place. F place;
    Hears = λ from body. IsFixedBody base from me body;
    Sees = λ ballot. IsMember base ballot.node;
    frame = λ place k. k;
    heard = λ from body h. h;
    prepare_seen = λ from group ballot from_slot h. of_ballot ballot from h.1.0 h.2;
    accept_seen = λ from group ballot slot command h. of_ballot ballot from h.1.0 h.2;
    nack_seen = λ from group promised h. h.2;
    turned = λ command answer backlog r mails on e no k. absurd (parts.never_turned base me fresh command r.group.core answer (changes.head_of base me fresh command backlog r e k.fixed).0 k.fixed.group no);
    offers_value = λ slot set command r mails on low near none e of k. changes.offers base me fresh slot set command r mails on (parts.must_fixed base slot command r.leader e k.fixed.reports) of k;
    offers_noop = λ slot set r mails on low near none gap of k. changes.offers base me fresh slot set Noop r mails on (inr refl) of k;
    offers_call = λ slot set command backlog r mails on low near none e of k. (let head = changes.head_of base me fresh command backlog r e k.fixed in
        changes.offers base me fresh slot set command (record r { backlog = backlog }) mails on (inl head.0) of (changes.with_backlog base me fresh r mails backlog on head.1 k));
    counted_entry = λ command r mails on e k. changes.enters_place base me fresh true command r mails (λ _. on) (parts.ready_fixed base r.ready (next r) command e k.fixed.ready) k;
    learnt_entry = λ from group command r mails h first k. changes.enters_place base me fresh false command r mails (λ e. absurd (true≢false (sym e))) h.2 k;
    seen = λ ballot r mails m t goes k. changes.higher base me fresh ballot r mails t k;
    overtaken = λ ballot r mails m on t k. cond_both (below r.top ballot) (record r { top = ballot }) r (λ (x : ReplicaState). F (stopped (Some ballot.node) (x, mails))) (λ up. changes.stops_at base me fresh ballot.node (record r { top = ballot }) mails m (changes.higher base me fresh ballot r mails up k)) (λ _. changes.stops_at base me fresh ballot.node r mails m k);
    polled = λ from group ballot reports r mails on h k. changes.polls base me fresh from ballot reports r mails on h.3 k;
    counts = λ from group ballot slot set count r mails on h e k. (let t = parts.counted_fixed base from ballot slot set r.leader k.fixed.flights in
        changes.runs_with base me fresh r mails (counted from ballot slot set r.leader).1 r.ready r.backlog on t.ballot k.fixed.backlog t.flights k.fixed.ready (subst (Each (λ (report : Report Command). Fixed report.value)) (sym t.reports) k.fixed.reports) k);
    chosen = λ from group ballot slot set command r mails on h e k. (let t = parts.counted_fixed base from ballot slot set r.leader k.fixed.flights in
        changes.runs_with base me fresh r mails (counted from ballot slot set r.leader).1 (with_slot r.ready slot command) r.backlog on t.ballot k.fixed.backlog t.flights (slot_with Fixed r.ready slot command (t.chosen command e) k.fixed.ready) (subst (Each (λ (report : Report Command). Fixed report.value)) (sym t.reports) k.fixed.reports) k);
    promised = λ from group ballot from_slot r mails h top goes t k. (let node = of_ballot ballot from h.1.0 h.2 in
        changes.hints base me fresh ballot (record r { acceptor = after_promise ballot r.acceptor }) _ node
        (changes.with_acceptor base me fresh r _ (after_promise ballot r.acceptor) top goes node k.fixed.accepted
        (changes.sends base me fresh r from (Promise (name_of r) ballot (reports_from from_slot r.acceptor.accepted)) mails (changes.name_is base me fresh r k.fixed, (fresh.member, h.1.0), h.2, Each-filter (λ (report : Report Command). Fixed report.value) (λ (report : Report Command). nat_le from_slot report.slot) r.acceptor.accepted k.fixed.accepted) k)));
    accepted = λ from group report r mails h top goes t k. accepts from report r mails h.1.0 h.2 h.3 top goes k;
    nacks = λ to r mails m k. changes.sends base me fresh r to (Nack (name_of r) r.acceptor.promised) mails (changes.name_is base me fresh r k.fixed, (fresh.member, m), k.ballots.asker) k;
    installs = λ to r mails m k. changes.sends base me fresh r to (Install (name_of r) (next r - 1) (base_of r.group) r.sets) mails (changes.name_is base me fresh r k.fixed, (fresh.member, m), k.fixed.group, k.fixed.sets) k;
    recalls = λ to from_slot slot group command r mails h m e k. changes.sends base me fresh r to (Learn (name_of r) slot command) mails (changes.name_is base me fresh r k.fixed, (fresh.member, m), parts.entry_fixed base slot r.log command e k.fixed.entries) k;
    wants = λ to slot group command r mails h m low k. changes.sends base me fresh r to (Ask (name_of r) (next r)) mails (changes.name_is base me fresh r k.fixed, (fresh.member, m)) k;
    stops = λ from r mails m on k. changes.stops_at base me fresh from r mails m k;
    jumps = λ from group slot sent sets r mails h later off k. changes.jumps base me fresh from slot sent sets r mails h.1.0 h.2 h.3 off k;
    refuses = λ from group client seq op answer r mails h e k. changes.answers_client base me fresh r client seq answer mails (parts.refused_fine base me fresh op r answer k.fixed.group (leader_of r k.ballots) e) k;
    requested = λ from group client seq op r mails h e none k. (let t = parts.request_taken base me fresh client seq op r k.fixed.group e in
        changes.with_backlog base me fresh r mails (r.backlog ++ Call client seq op ∷ []) t.0 (Each-append (IsFixedRequest base) r.backlog (Call client seq op ∷ []) k.fixed.backlog (t.1, tt)) k);
    requested_again = λ from group client seq other op r mails h e some more k. (let t = parts.request_taken base me fresh client seq op r k.fixed.group e in
        changes.with_backlog base me fresh r mails (without_request r.backlog client ++ Call client seq op ∷ []) t.0 (Each-append (IsFixedRequest base) (without_request r.backlog client) (Call client seq op ∷ []) (parts.without_requests base r.backlog client k.fixed.backlog) (t.1, tt)) k);
  }

  abbrev pub fixed_ticks : FixedTickParts base me (λ place. F place)
  fixed_ticks = record {
    elected = λ r mails off k. changes.elects base me fresh r mails k;
    asks = record {
      reasks = λ to slot command r mails m on e k. changes.sends base me fresh r to (Accept (name_of r) r.leader.ballot slot command) mails (changes.name_is base me fresh r k.fixed, (fresh.member, m), (k.ballots.running on).own ∙ k.me_is, parts.flight_fixed base r.leader.flights slot command e k.fixed.flights) k;
      relearns = λ to command r mails m on e k. changes.sends base me fresh r to (Learn (name_of r) (next r - 1) command) mails (changes.name_is base me fresh r k.fixed, (fresh.member, m), parts.entry_fixed base (next r - 1) r.log command e k.fixed.entries) k;
    };
  }

  -- a row of mail, and a tick of a node without policy, leave such a replica and send such mail
  pub mailed_fixed : (from : ℕ) (body : MailBody) (place : Place) → IsFixedBody base from me body → F place → F (mailed from body place).0 × ((mailed from body place).1 ≡ [])
  mailed_fixed from body place h k = takes_mail base me fixed_walk from body place h tt k

  pub ticked_fixed : (drawer : Drawer) (place : Place) → F place → F (tick_row false drawer place)
  ticked_fixed drawer place k = ticks base me fixed_walk fixed_ticks drawer place k
