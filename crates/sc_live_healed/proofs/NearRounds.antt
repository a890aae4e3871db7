-- No round that a replica of a group that is not reshaped has seen or names in a row is above those of the mail that it takes, but for its election at a tick, which is in the next round.
use Rattle.std.proofs.Common.{◌≡◌, ℕ, ◌+◌, ◌-◌, ◌≤◌, false, true, List, [], ◌∷◌, Some, arith}
use Rattle.sc_base.specs.Definitions.{Each, Drawer, client_actor}
use Rattle.sc_words.proofs.PaxosProofs.PaxosLemmas.{Each-append, Each-weaker}
use Rattle.sc_node_table.specs.Values.{Command, Noop, Base, Mail, MailBody, Answer, Prepare, Promise, Accept, Accepted, Nack, Learn, Ask, Install, TxPrepare, TxVote, TxOutcome, TxElsewhere, TxWatch, TxWatched, Told}
use Rattle.sc_group_table.specs.machine.MachineDefinitions.{base_of}
use Rattle.sc_words.specs.paxos.PaxosDefinitions.{reports_from, after_promise, after_accept}
use Rattle.sc_node_table.specs.NodeDefinitions.{ended, entered, forgotten, jumped, offered, answered_all, sent, under_way, mailed, tick_row, open_nodes, ReplicaState, Place, name_of, next}
use Rattle.sc_law_walks.proofs.Talks.{all_sent, all_answered, all_dismissed, one_answered}
use Rattle.sc_law_walks.proofs.WalkLemmas.{Talk, at_least_round, elected_place}
use Rattle.sc_live_healed.proofs.FixedWalks.{IsFresh, IsFixedPlace, FixedWalk, FixedAskParts}
use Rattle.sc_live_healed.proofs.UnqueuedEntries.{Unqueued, KeptEntry, hints, overtakes, entry_keeps}
use Rattle.sc_live_healed.proofs.FixedParts.{ready_fixed}
use Rattle.sc_live_healed.proofs.FixedPlaces.{fixed_ticks}
use Rattle.sc_live_healed.proofs.FixedRows.{takes_mail}
use Rattle.sc_live_healed.proofs.FixedTicks.{ticks_once}
use Rattle.sc_live_healed.proofs.FixedBesides.{FixedFacts, FixedStates, both_walk}
use Rattle.sc_live_healed.proofs.GrowingJournals.{Growth}
use Rattle.sc_live_healed.specs.HealedDefinitions.{IsFixedBody}

-- a mail names no ballot of a round above this one
abbrev pub NamesRound : ℕ → MailBody → Type 0
NamesRound bound (Prepare group ballot from_slot) = ballot.round ≤ bound
NamesRound bound (Accept group ballot slot command) = ballot.round ≤ bound
NamesRound bound (Nack group promised) = promised.round ≤ bound
NamesRound bound _ = Unit {0}

-- the round that a replica has seen, and those that its mails name, are not above this one
abbrev pub StaysWithin : ℕ → Place → Type 0
StaysWithin bound (r, mails) = (r.top.round ≤ bound) × Each (λ (mail : Mail). NamesRound bound mail.body) mails

pub names_more : (low high : ℕ) (body : MailBody) → low ≤ high → NamesRound low body → NamesRound high body
names_more low high (Prepare group ballot from_slot) up n = omega (arith, up, n)
names_more low high (Accept group ballot slot command) up n = omega (arith, up, n)
names_more low high (Nack group promised) up n = omega (arith, up, n)
names_more low high _ up n = tt

pub within_more : (low high : ℕ) (place : Place) → low ≤ high → StaysWithin low place → StaysWithin high place
within_more low high (r, mails) up k =
    (let seen = k.0 in omega (arith, seen, up), Each-weaker (λ (mail : Mail). NamesRound low mail.body) (λ (mail : Mail). NamesRound high mail.body) (λ mail n. names_more low high mail.body up n) mails k.1)

module _ (bound : ℕ) where
  abbrev Within : List Mail → Type 0
  Within mails = Each (λ (mail : Mail). NamesRound bound mail.body) mails

  pushed : (me to : ℕ) (body : MailBody) (mails : List Mail) → NamesRound bound body → Within mails → Within (sent me to body mails)
  pushed me to body mails a m = Each-append (λ (mail : Mail). NamesRound bound mail.body) mails (record { from = me; to = to; body = body } ∷ []) m (a, tt)

  talk : (me : ℕ) → Talk me Within
  talk me = record {
    tells = λ number result mails m. pushed me 0 (Told number result) mails tt m;
    answers = λ client group seq answer mails m. pushed me (client_actor client) (Answer group seq answer) mails tt m;
    offers = λ to tx offer mails own m. pushed me to (TxPrepare tx offer) mails tt m;
    watches = λ to tx watch mails own m. pushed me to (TxWatch tx watch) mails tt m;
    casts = λ to tx coord part vote mails m. pushed me to (TxVote tx coord part vote) mails tt m;
    sees = λ to tx coord part vote mails m. pushed me to (TxWatched tx coord part vote) mails tt m;
    ends = λ to tx part outcome mails m. pushed me to (TxOutcome tx part outcome) mails tt m;
    sends_on = λ to tx coord hint mails m. pushed me to (TxElsewhere tx coord hint) mails tt m;
  }

module _ (base : Base) (me : ℕ) (fresh : IsFresh base me) (bound : ℕ) where
  abbrev E : Place → Type 0
  E place = StaysWithin bound place

  abbrev F : Place → Type 0
  F place = IsFixedPlace base me place

  abbrev pub round_facts : FixedFacts
  round_facts = record { E = λ place. StaysWithin bound place; HeardSo = λ from body. NamesRound bound body; SeenSo = λ ballot. ballot.round ≤ bound }

  says : (r : ReplicaState) (to : ℕ) (body : MailBody) (mails : List Mail) → NamesRound bound body → E (r, mails) → E (r, sent r.me to body mails)
  says r to body mails a k = (k.0, pushed bound r.me to body mails a k.1)

  own_round : (r : ReplicaState) (mails : List Mail) → r.running ≡ true → F (r, mails) → E (r, mails) → r.leader.ballot.round ≤ bound
  own_round r mails on f k = (let own = at_least_round r.top r.leader.ballot (f.ballots.running on).seen in let seen = k.0 in omega (arith, own, seen))

  offers : (slot : ℕ) (set : List ℕ) (command : Command) (r : ReplicaState) (mails : List Mail) → r.leader.ballot.round ≤ bound → E (r, mails) → E (offered slot set command (r, mails))
  unfolding offered
  offers slot set command r mails low k = (k.0, all_sent r.me (Within bound) (Accept (name_of r) r.leader.ballot slot command) (λ to ms m. pushed bound r.me to (Accept (name_of r) r.leader.ballot slot command) ms low m) set mails k.1)

  besides : Unqueued (λ place. StaysWithin bound place)
  unfolding ended
  besides = record {
    requeues = λ acts backlog r mails k. k;
    rehints = λ hint r mails k. k;
    ends = λ hint answer r mails k. (k.0, all_dismissed r.me (Within bound) (talk bound r.me) (name_of r) hint answer r.backlog (answered_all r.me (name_of r) answer (under_way r) mails) (all_answered r.me (Within bound) (talk bound r.me) (name_of r) answer (under_way r) mails k.1));
  }

  entry_within : (command : Command) (r : ReplicaState) → KeptEntry (λ place. StaysWithin bound place) command r
  unfolding entered forgotten
  entry_within command r = record {
    enters = λ mails longer k. k;
    answers = λ client seq answer x mails k. says x (client_actor client) (Answer (name_of x) seq answer) mails tt k;
    teaches = λ to x mails k. says x to (Learn (name_of x) (next r) command) mails tt k;
    clears = λ place k. k;
  }

  jumps : (slot : ℕ) (sent : Base) (sets : List (List ℕ)) (from : ℕ) (r : ReplicaState) (mails : List Mail) → E (r, mails) → E (record (jumped slot sent sets r) { hint = Some from }, mails)
  unfolding jumped forgotten
  jumps slot sent sets from r mails k = k

  -- ---- the walk

  pub round_states : FixedStates base me round_facts
  round_states = record {
    prepare_seen = λ from group ballot from_slot h. h.1;
    accept_seen = λ from group ballot slot command h. h.1;
    nack_seen = λ from group promised h. h.1;
    turned = λ command answer backlog r mails on e turn f k. (k.0, one_answered r.me (Within bound) (talk bound r.me) r.group.core.id answer command mails k.1);
    offers_value = λ slot set command r mails on low near none e of f k. offers slot set command r mails (own_round r mails on f k) k;
    offers_noop = λ slot set r mails on low near none gap of f k. offers slot set Noop r mails (own_round r mails on f k) k;
    offers_call = λ slot set command backlog r mails on above near none e of f k. (let low = own_round r mails on f k in offers slot set command (record r { backlog = backlog }) mails low k);
    counted_entry = λ command r mails on e f k. entry_keeps (λ place. StaysWithin bound place) besides base true command r (ready_fixed base r.ready (next r) command e f.fixed.ready) f.fixed.group (entry_within command r) mails k;
    learnt_entry = λ from group command r mails h f k. entry_keeps (λ place. StaysWithin bound place) besides base false command r h.0.2 f.fixed.group (entry_within command r) mails k;
    seen = λ ballot r mails s t goes f k. (s.1, k.1);
    overtaken = λ ballot r mails s on t f k. overtakes (λ place. StaysWithin bound place) besides ballot r mails (λ up. (s.1, k.1)) k;
    polled = λ from group ballot reports r mails on h f k. k;
    counts = λ from group ballot slot set count r mails on h e f k. k;
    chosen = λ from group ballot slot set command r mails on h e f k. k;
    promised = λ from group ballot from_slot r mails h top goes t f k. hints (λ place. StaysWithin bound place) besides ballot (record r { acceptor = after_promise ballot r.acceptor }) _ (says r from (Promise (name_of r) ballot (reports_from from_slot r.acceptor.accepted)) mails tt k);
    accepted = λ from group report r mails h top goes t f k. hints (λ place. StaysWithin bound place) besides report.ballot (record r { acceptor = after_accept report r.acceptor }) _ (says r from (Accepted (name_of r) report.ballot report.slot) mails tt k);
    nacks = λ to r mails m f k. says r to (Nack (name_of r) r.acceptor.promised) mails (let own = at_least_round r.top r.acceptor.promised f.ballots.promised in let seen = k.0 in omega (arith, own, seen)) k;
    installs = λ to r mails m f k. says r to (Install (name_of r) (next r - 1) (base_of r.group) r.sets) mails tt k;
    recalls = λ to from_slot slot group command r mails h m e f k. says r to (Learn (name_of r) slot command) mails tt k;
    wants = λ to slot group command r mails h m low f k. says r to (Ask (name_of r) (next r)) mails tt k;
    stops = λ from r mails m on f k. besides.ends (Some from) _ r mails k;
    jumps = λ from group slot sent sets r mails h later off f k. jumps slot sent sets from r mails k;
    refuses = λ client seq op answer r mails e f k. says r (client_actor client) (Answer (name_of r) seq answer) mails tt k;
    requested = λ from group client seq op r mails h e none f k. k;
    requested_again = λ from group client seq other op r mails h e some more f k. k;
  }

  abbrev walk : FixedWalk base me
  walk = both_walk base me fresh round_facts round_states

  -- a row of mail leaves it so
  pub mailed_within : (from : ℕ) (body : MailBody) (start : ReplicaState) → IsFixedBody base from me body → NamesRound bound body → F (start, []) → E (start, []) → E (mailed from body (start, [])).0
  mailed_within from body start h near f k = (takes_mail base me walk from body (start, []) (h, near) tt (f, k)).0.1

  asks : FixedAskParts base me (λ place. IsFixedPlace base me place × StaysWithin bound place)
  asks = record {
    reasks = λ to slot command r mails m on e k. ((fixed_ticks base me fresh).asks.reasks to slot command r mails m on e k.0, says r to (Accept (name_of r) r.leader.ballot slot command) mails (own_round r mails on k.0 k.1) k.1);
    relearns = λ to command r mails m on e k. ((fixed_ticks base me fresh).asks.relearns to command r mails m on e k.0, says r to (Learn (name_of r) (next r - 1) command) mails tt k.1);
  }

  elects : (r : ReplicaState) (mails : List Mail) → E (r, mails) → StaysWithin (bound + 1) (elected_place (r, mails))
  elects r mails k = (
    (let seen = k.0 in omega (arith, seen)),
    all_sent r.me (Within (bound + 1)) (Prepare (name_of r) (record { round = r.top.round + 1; node = r.me }) (next r)) (λ to ms m. pushed (bound + 1) r.me to (Prepare (name_of r) (record { round = r.top.round + 1; node = r.me }) (next r)) ms (let seen = k.0 in omega (arith, seen)) m) (open_nodes r.sets) mails
        (within_more bound (bound + 1) (r, mails) (omega arith) k).1,
  )

  -- and a tick brings it to the next round at most
  pub ticked_within : (drawer : Drawer) (start : ReplicaState) → F (start, []) → E (start, []) → StaysWithin (bound + 1) (tick_row false drawer (start, []))
  ticked_within drawer start f k = ticks_once base me walk asks (StaysWithin (bound + 1)) (λ place q. within_more bound (bound + 1) place (omega arith) q.1) (λ r mails off q. elects r mails q.1) drawer (start, []) (f, k)

-- rounds grow by one
abbrev pub rounds_grow : Growth
rounds_grow = record {
  Near = λ bound r. r.top.round ≤ bound;
  Names = λ bound body. NamesRound bound body;
  added = 1;
  bound_at = λ rows. 1 + rows;
  then_ = λ rows. omega arith;
  begins = λ me base. omega arith;
  near_more = λ bound r n. omega (arith, n);
  names_more = λ bound body n. names_more bound (bound + 1) body (omega arith) n;
  requests = λ bound group client seq op. tt;
  mailed_so = λ base me fresh bound from body r h names f n. within_more bound (bound + 1) (mailed from body (r, [])).0 (omega arith) (mailed_within base me fresh bound from body r h names f (n, tt));
  ticked_so = λ base me fresh bound drawer r f n. ticked_within base me fresh bound drawer r f (n, tt);
}
