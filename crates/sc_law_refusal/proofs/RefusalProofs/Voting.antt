-- The rows of Paxos: what a replica makes of promises, votes and executed entries that it is sent.
use Rattle.std.proofs.Common.{◌≡◌, ◌≤◌, ℕ, ◌&&◌, nat_le, eqb, Bool, true, false, List, Option, Some, None, refl, sym, subst}
use Rattle.sc_base.specs.Definitions.{Each}
use Rattle.sc_node_table.specs.Values.{Ballot, Draw, Command, Mail, Promise, Accepted, Nack, Report, PrepareAnswer, AcceptAnswer, Counted, Chosen, NotYet}
use Rattle.sc_words.specs.declared.paxos.answers.PrepareAnswer.TheVariants as Prepared
use Rattle.sc_words.specs.declared.paxos.answers.AcceptAnswer.TheVariants as Asked
use Rattle.sc_words.specs.paxos.PaxosDefinitions.{prepared, accepted as accepted_by, AcceptorState, LeaderState, promise_counted, counted}
use Rattle.sc_node_table.specs.NodeDefinitions.{with_slot, ReplicaState, Place, Executed, childless, name_of, next, set_at, sent, saw, executed, has_room, install_to, pumped, most_taught, ask_row, hinted, promise_to, prepare_row, accepted_to, took, accept_row, leads, promise_row, readied, vote_tallied, voted, accepted_row, nack_row}
use Rattle.sc_law_entries.proofs.NamesProofs.NameLemmas.{slot_with}
use Rattle.sc_law_walks.proofs.WalkLemmas.{promised_place, asked_place, either_way, promise_ballot, counted_ballot}
use Rattle.sc_law_entries.proofs.NamesProofs.HeldCommands.{polled_held, counted_held, chosen_held}
use Rattle.sc_law_refusal.proofs.RefusalProofs.Keeping.{Kept, Flying, Reported, Holds}
use Rattle.sc_law_refusal.proofs.RefusalProofs.Plain.{taught_plain}
use Rattle.sc_law_refusal.proofs.RefusalProofs.Standing.{AllCaused, plain_caused, Stands, FineAs, Fine, turned_fine, resent, with_plain}
use Rattle.sc_law_refusal.proofs.RefusalProofs.Stopping.{saw_fine, installed_fine}
use Rattle.sc_law_refusal.proofs.RefusalProofs.Pumping.{pumped_fine}
use Rattle.sc_law_refusal.proofs.RefusalProofs.Executing.{counted_fine, executed_fine}

module _ (start : ReplicaState) (A : Command → Type 0) (G : Draw → ℕ → Type 0) (W : Ballot → Draw → ℕ) (Q : Type 0) (numbered : 1 ≤ start.me) where
  -- whether or not another leader was named
  abbrev F : Bool → Place → Type 0
  F refused place = FineAs start A G W Q refused true place

  abbrev After : Place → Type 0
  After place = Fine start A G W Q place

  -- what holds of a replica with its mail while entries are executed
  abbrev E : Place → Type 0
  E place = FineAs start A G W Q false false place

  -- what a replica keeps of commands is the same with another acceptor, hint or hint and acceptor
  with_acceptor : (r : ReplicaState) (acceptor : AcceptorState Command) → Holds A G r → Holds A G (record r { acceptor = acceptor })
  with_acceptor r acceptor h = record { backlog = h.backlog; acts = h.acts; due = h.due; flights = h.flights; ready = h.ready; reports = h.reports }

  hinted_fine : (refused : Bool) (ballot : Ballot) (r : ReplicaState) (mails : List Mail) → F refused (r, mails) → F refused (hinted ballot r, mails)
  hinted_fine refused ballot r mails f =
      either_way (λ (x : ReplicaState). F refused (x, mails)) r.running r (record r { hint = Some ballot.node }) f
      (record { backlog = f.0.backlog; acts = f.0.acts; due = f.0.due; flights = f.0.flights; ready = f.0.ready; reports = f.0.reports }, f.1)

  -- ---- Prepare and Accept

  promise_fine : (refused : Bool) (from : ℕ) (ballot : Ballot) (p : PrepareAnswer Command × AcceptorState Command) (place : Place) → F refused place → F refused (promise_to from ballot p place)
  promise_fine refused from ballot (Prepared.Promise reports, acceptor) (r, mails) f =
      hinted_fine refused ballot (record r { acceptor = acceptor }) (sent r.me from (Promise (name_of r) ballot reports) mails) (with_acceptor r acceptor f.0, with_plain start A G W Q refused true r mails r.me from (Promise (name_of r) ballot reports) tt f.1)
  promise_fine refused from ballot (Prepared.Ignored was, acceptor) (r, mails) f = (with_acceptor r acceptor f.0, with_plain start A G W Q refused true r mails r.me from (Nack (name_of r) was) tt f.1)

  pub prepare_fine : (from : ℕ) (ballot : Ballot) (from_slot : ℕ) (r : ReplicaState) (mails : List Mail) → F false (r, mails) → After (prepare_row from ballot from_slot (r, mails))
  unfolding prepare_row
  prepare_fine from ballot from_slot r mails f =
      let seen : Place = saw ballot (r, mails) in
      let g : After seen = saw_fine start A G W Q ballot r mails f in
      (g.0, promised_place (F g.0) from ballot from_slot seen (installed_fine start A G W Q g.0 true from seen g.1) (promise_fine g.0 from ballot (prepared ballot from_slot seen.0.acceptor) seen g.1))

  accepted_to_fine : (refused : Bool) (from : ℕ) (ballot : Ballot) (slot : ℕ) (p : AcceptAnswer × AcceptorState Command) (place : Place) → F refused place → F refused (accepted_to from ballot slot p place)
  accepted_to_fine refused from ballot slot (Asked.Accepted, acceptor) (r, mails) f =
      hinted_fine refused ballot (record r { acceptor = acceptor }) (sent r.me from (Accepted (name_of r) ballot slot) mails) (with_acceptor r acceptor f.0, with_plain start A G W Q refused true r mails r.me from (Accepted (name_of r) ballot slot) tt f.1)
  accepted_to_fine refused from ballot slot (Asked.Ignored was, acceptor) (r, mails) f = (with_acceptor r acceptor f.0, with_plain start A G W Q refused true r mails r.me from (Nack (name_of r) was) tt f.1)

  took_fine : (refused : Bool) (from : ℕ) (report : Report Command) (place : Place) → F refused place → F refused (took from report place)
  unfolding took
  took_fine refused from report (r, mails) f =
      either_way (F refused) (nat_le report.slot r.acceptor.floor) (install_to from (r, mails)) (accepted_to from report.ballot report.slot (accepted_by report r.acceptor) (r, mails)) (installed_fine start A G W Q refused true from (r, mails) f)
      (accepted_to_fine refused from report.ballot report.slot (accepted_by report r.acceptor) (r, mails) f)

  pub accept_fine : (from : ℕ) (ballot : Ballot) (slot : ℕ) (command : Command) (r : ReplicaState) (mails : List Mail) → F false (r, mails) → After (accept_row from ballot slot command (r, mails))
  unfolding accept_row
  accept_fine from ballot slot command r mails f =
      let g : After (saw ballot (r, mails)) = saw_fine start A G W Q ballot r mails f in (g.0, took_fine g.0 from (record { slot = slot; ballot = ballot; value = command }) (saw ballot (r, mails)) g.1)

  -- ---- Promise

  -- a leader keeps what was asked, in the same ballot
  record Leads (r : ReplicaState) (leader : LeaderState Command) : Type 0 where
    flights : Each (Flying A G) leader.flights
    reports : Each (Reported A G) leader.reports
    ballot : leader.ballot ≡ r.leader.ballot

  with_leader : (turned : Bool) (r : ReplicaState) (leader : LeaderState Command) (mails : List Mail) → Leads r leader → FineAs start A G W Q false turned (r, mails) → FineAs start A G W Q false turned (record r { leader = leader }, mails)
  with_leader turned r leader mails l f = (
    record { backlog = f.0.backlog; acts = f.0.acts; due = f.0.due; flights = l.flights; ready = f.0.ready; reports = l.reports },
    subst (λ ballot. Stands start A G W Q false turned r.me r.group r.log r.running ballot r.waits mails) (sym l.ballot) f.1,
  )

  counted_leads : (node : ℕ) (ballot : Ballot) (reports : List (Report Command)) (r : ReplicaState) → Each (Reported A G) reports → Holds A G r → Leads r (promise_counted node ballot reports r.leader).1
  counted_leads node ballot reports r p h =
      let held = polled_held (Kept A G) node ballot reports r.leader p (h.flights, h.reports) in
      record { flights = held.0; reports = held.1; ballot = promise_ballot node ballot reports r.leader }

  pub promise_row_fine : (from : ℕ) (ballot : Ballot) (reports : List (Report Command)) (r : ReplicaState) (mails : List Mail) → Each (Reported A G) reports → F false (r, mails) → F false (promise_row from ballot reports (r, mails))
  unfolding promise_row
  promise_row_fine from ballot reports r mails p f =
      let next : Place = (record r { leader = (promise_counted from ballot reports r.leader).1 }, mails) in
      either_way (F false) (leads ballot r) (pumped next) (r, mails) (pumped_fine start A G W Q false next (with_leader true r (promise_counted from ballot reports r.leader).1 mails (counted_leads from ballot reports r p f.0) f)) f

  -- ---- Accepted

  abbrev CountOf : Counted Command → Type 0
  CountOf (Chosen command) = Kept A G command
  CountOf (NotYet count) = Unit {0}

  abbrev Counts : ReplicaState → Counted Command × LeaderState Command → Type 0
  Counts r p = CountOf p.0 × Leads r p.1

  counts_so : (p : Counted Command × LeaderState Command) → ((command : Command) → p.0 ≡ Chosen command → Kept A G command) → CountOf p.0
  counts_so (Chosen command, leader) k = k command refl
  counts_so (NotYet count, leader) k = tt

  counted_counts : (node : ℕ) (ballot : Ballot) (slot : ℕ) (members : List ℕ) (r : ReplicaState) → Holds A G r → Counts r (counted node ballot slot members r.leader)
  counted_counts node ballot slot members r h =
      let held = counted_held (Kept A G) node ballot slot members r.leader (h.flights, h.reports) in (
        counts_so (counted node ballot slot members r.leader) (chosen_held (Kept A G) node ballot slot members r.leader (h.flights, h.reports)),
        record { flights = held.0; reports = held.1; ballot = counted_ballot node ballot slot members r.leader },
      )

  -- one that executes nothing
  still : (place : Place) → E place → After place
  still place f = (false, turned_fine start A G W Q false false place f)

  -- what holds of a replica with its mail and the children that a row made
  abbrev AfterAll : Executed → Type 0
  AfterAll step = After step.0

  readied_fine : (slot : ℕ) (command : Command) (place : Place) → Kept A G command → E place → After (readied slot command place).0
  unfolding readied
  readied_fine slot command (r, mails) k f =
      let after : ReplicaState = record r { ready = with_slot r.ready slot command } in
      let g : E (after, mails) = (record { backlog = f.0.backlog; acts = f.0.acts; due = f.0.due; flights = f.0.flights; ready = slot_with (Kept A G) r.ready slot command k f.0.ready; reports = f.0.reports }, f.1) in
      either_way AfterAll (eqb slot (next r) && has_room r) (executed true command (after, mails)) (childless (after, mails)) (executed_fine start A G W Q numbered true command after mails (λ other flies counted. cc) (counted_fine start A G W Q numbered command after mails k g)) (still (after, mails) g)

  tallied_fine : (slot : ℕ) (p : Counted Command × LeaderState Command) (r : ReplicaState) (mails : List Mail) → Counts r p → E (r, mails) → After (vote_tallied slot p (r, mails)).0
  tallied_fine slot (Chosen command, leader) r mails c f = readied_fine slot command (record r { leader = leader }, mails) c.0 (with_leader false r leader mails c.1 f)
  tallied_fine slot (NotYet count, leader) r mails c f = still (record r { leader = leader }, mails) (with_leader false r leader mails c.1 f)

  voted_fine : (from : ℕ) (ballot : Ballot) (slot : ℕ) (set : Option (List ℕ)) (r : ReplicaState) (mails : List Mail) → E (r, mails) → After (voted from ballot slot set (r, mails)).0
  voted_fine from ballot slot None r mails f = still (r, mails) f
  voted_fine from ballot slot (Some set) r mails f = tallied_fine slot (counted from ballot slot set r.leader) r mails (counted_counts from ballot slot set r f.0) f

  pub accepted_fine : (from : ℕ) (ballot : Ballot) (slot : ℕ) (r : ReplicaState) (mails : List Mail) → E (r, mails) → After (accepted_row from ballot slot (r, mails)).0
  unfolding accepted_row
  accepted_fine from ballot slot r mails f = either_way AfterAll (leads ballot r) (voted from ballot slot (set_at slot r) (r, mails)) (childless (r, mails)) (voted_fine from ballot slot (set_at slot r) r mails f) (still (r, mails) f)

  -- ---- Nack and Ask

  pub nack_fine : (ballot : Ballot) (r : ReplicaState) (mails : List Mail) → F false (r, mails) → After (nack_row ballot (r, mails))
  unfolding nack_row
  nack_fine ballot r mails f = saw_fine start A G W Q ballot r mails f

  pub ask_fine : (from slot : ℕ) (r : ReplicaState) (mails : List Mail) → F false (r, mails) → F false (ask_row from slot (r, mails))
  ask_fine from slot r mails f =
      asked_place (F false) from slot (r, mails) f (installed_fine start A G W Q false true from (r, mails) f)
      (f.0, resent start A G W Q false true r mails _ f.1 (taught_plain (AllCaused start A G W Q f.1.entries false true) (plain_caused start A G W Q f.1.entries false true) most_taught r from slot mails f.1.sent))
