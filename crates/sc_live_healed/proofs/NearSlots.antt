-- No slot that a replica of a group that is not reshaped has executed, holds or names in a row is far above those of the mail that it takes.
use Rattle.std.specs.Option.{option_map}
use Rattle.std.proofs.Common.{◌≡◌, ℕ, ◌+◌, ◌-◌, ◌<◌, ◌≤◌, ◌&&◌, not, eqb, Bool, true, false, List, [], ◌∷◌, length, Option, Some, None, refl, ap, arith}
use Rattle.std.proofs.lemmas.Bool.{eqb-true}
use Rattle.sc_base.specs.Definitions.{Each, Drawer, same_ballot, is_majority, is_member, client_actor}
use Rattle.sc_words.proofs.PaxosProofs.PaxosLemmas.{Each-append, Each-among, Each-push, find_found}
use Rattle.sc_node_table.specs.Values.{Ballot, Command, Noop, Base, Counted, Mail, MailBody, Answer, Prepare, Promise, Accept, Accepted, Nack, Learn, Ask, Install, Flight, TxPrepare, TxVote, TxOutcome, TxElsewhere, TxWatch, TxWatched, Told}
use Rattle.sc_group_table.specs.machine.MachineDefinitions.{base_of}
use Rattle.sc_words.specs.paxos.PaxosDefinitions.{LeaderState, LogState, installed, after_promise, after_accept, reports_from, kept_voters, voters_after, counted, vote_at, flight_at, without_flight}
use Rattle.sc_node_table.specs.NodeDefinitions.{ended, entered, forgotten, floor_of, jumped, offered, answered_all, sent, under_way, mailed, tick_row, open_nodes, without_slot, ReplicaState, Place, name_of, next, slots_ahead}
use Rattle.sc_law_walks.proofs.Talks.{all_sent, all_answered, all_dismissed, one_answered}
use Rattle.sc_law_walks.proofs.WalkLemmas.{either_way, Talk, floor_under, entry_low, cut_next}
use Rattle.sc_live_plain.proofs.PlainLemmas.{at_found, out_each, with_each}
use Rattle.sc_live_plain.proofs.LeadersProofs.Flights.{voted_each}
use Rattle.sc_live_healed.proofs.FixedWalks.{IsFresh, IsFixedPlace}
use Rattle.sc_live_healed.proofs.UnqueuedEntries.{Unqueued, KeptEntry, hints, overtakes, entry_keeps}
use Rattle.sc_live_healed.proofs.FixedParts.{ready_fixed}
use Rattle.sc_live_healed.proofs.FixedRows.{takes_mail}
use Rattle.sc_live_healed.proofs.FixedTicks.{ticks}
use Rattle.sc_live_healed.proofs.FixedBesides.{FixedFacts, FixedStates, FixedTickStates, both_walk, both_ticks}
use Rattle.sc_live_healed.specs.HealedDefinitions.{IsFixedBody}

-- a mail names no slot from this one on that was learnt, and none that is not open then
abbrev pub NamesNear : ℕ → MailBody → Type 0
NamesNear bound (Accept group ballot slot command) = slot < bound + slots_ahead
NamesNear bound (Accepted group ballot slot) = slot < bound + slots_ahead
NamesNear bound (Learn group slot command) = slot < bound
NamesNear bound (Install group slot base sets) = slot < bound
NamesNear bound _ = Unit {0}

-- a mail that is taken names no slot from this one on that was learnt or voted for
abbrev pub BringsNear : ℕ → MailBody → Type 0
BringsNear bound (Accepted group ballot slot) = slot < bound
BringsNear bound (Accept group ballot slot command) = slot < bound + slots_ahead
BringsNear bound (Learn group slot command) = slot < bound
BringsNear bound (Install group slot base sets) = slot < bound
BringsNear bound _ = Unit {0}

-- What a replica has executed, holds ready and in flight, and says, is below a slot, or open then; and its acceptor has forgotten no slot that is not executed.
pub record IsNear (bound next_slot floor : ℕ) (entries : List (ℕ × Command)) (flying : List (Flight Command)) (mails : List Mail) : Type 0 where
  pub reached : next_slot ≤ bound
  pub floored : floor < next_slot
  pub ready : Each (λ (entry : ℕ × Command). entry.0 < bound) entries
  pub flights : Each (λ (flight : Flight Command). flight.slot < bound + slots_ahead) flying
  pub says : Each (λ (mail : Mail). NamesNear bound mail.body) mails

-- of a replica with its mails
abbrev pub StaysNear : ℕ → Place → Type 0
StaysNear bound (r, mails) = IsNear bound (next r) r.acceptor.floor r.ready r.leader.flights mails

module _ (bound : ℕ) where
  abbrev Within : List Mail → Type 0
  Within mails = Each (λ (mail : Mail). NamesNear bound mail.body) mails

  pushed : (me to : ℕ) (body : MailBody) (mails : List Mail) → NamesNear bound body → Within mails → Within (sent me to body mails)
  pushed me to body mails a m = Each-append (λ (mail : Mail). NamesNear bound mail.body) mails (record { from = me; to = to; body = body } ∷ []) m (a, tt)

  talk : (me : ℕ) → Talk me Within
  talk me = record {
    tells = λ number result mails m. pushed me 0 (Told number result) mails tt m;
    answers = λ client group seq answer mails m. pushed me (client_actor client) (Answer group seq answer) mails tt m;
    offers = λ to tx offer mails own m. pushed me to (TxPrepare tx offer) mails tt m;
    watches = λ to tx watch mails own m. pushed me to (TxWatch tx watch) mails tt m;
    casts = λ to tx coord part vote mails m. pushed me to (TxVote tx coord part vote) mails tt m;
    sees = λ to tx coord part vote mails m. pushed me to (TxWatched tx coord part vote) mails tt m;
    ends = λ to tx part outcome mails m. pushed me to (TxOutcome tx part outcome) mails tt m;
    sends_on = λ to tx coord hint mails m. pushed me to (TxElsewhere tx coord hint) mails tt m;
  }

module _ (base : Base) (me : ℕ) (fresh : IsFresh base me) (bound : ℕ) where
  abbrev E : Place → Type 0
  E place = StaysNear bound place

  abbrev F : Place → Type 0
  F place = IsFixedPlace base me place

  abbrev pub near_facts : FixedFacts
  near_facts = record { E = λ place. StaysNear bound place; HeardSo = λ from body. BringsNear bound body; SeenSo = λ ballot. Unit {0} }

  says : (r : ReplicaState) (to : ℕ) (body : MailBody) (mails : List Mail) → NamesNear bound body → E (r, mails) → E (r, sent r.me to body mails)
  says r to body mails a k = record { reached = k.reached; floored = k.floored; ready = k.ready; flights = k.flights; says = pushed bound r.me to body mails a k.says }

  offers : (slot : ℕ) (set : List ℕ) (command : Command) (r : ReplicaState) (mails : List Mail) → slot < bound + slots_ahead → E (r, mails) → E (offered slot set command (r, mails))
  unfolding offered
  offers slot set command r mails low k = record {
    reached = k.reached;
    floored = k.floored;
    ready = k.ready;
    flights = Each-push (λ (flight : Flight Command). flight.slot < bound + slots_ahead) r.leader.flights (record { slot = slot; value = command; voters = None }) k.flights low;
    says = all_sent r.me (Within bound) (Accept (name_of r) r.leader.ballot slot command) (λ to ms m. pushed bound r.me to (Accept (name_of r) r.leader.ballot slot command) ms low m) set mails k.says;
  }

  -- an open slot is below
  open_low : (slot : ℕ) (r : ReplicaState) (mails : List Mail) → slot < next r + length r.sets → F (r, mails) → E (r, mails) → slot < bound + slots_ahead
  open_low slot r mails near f k = (let many = ap length f.fixed.sets in let low = k.reached in omega (arith, near, many, low))

  besides : Unqueued (λ place. StaysNear bound place)
  unfolding ended
  besides = record {
    requeues = λ acts backlog r mails k. k;
    rehints = λ hint r mails k. k;
    ends = λ hint answer r mails k. record {
      reached = k.reached;
      floored = k.floored;
      ready = tt;
      flights = tt;
      says = all_dismissed r.me (Within bound) (talk bound r.me) (name_of r) hint answer r.backlog (answered_all r.me (name_of r) answer (under_way r) mails) (all_answered r.me (Within bound) (talk bound r.me) (name_of r) answer (under_way r) mails k.says);
    };
  }

  -- ---- entries

  entry_near : (command : Command) (r : ReplicaState) → next r < bound → KeptEntry (λ place. StaysNear bound place) command r
  unfolding entered forgotten
  entry_near command r low = record {
    enters = λ mails longer k. (let cut = floor_under (next r) (omega arith) in let was = k.floored in record { reached = omega (arith, longer, low); floored = omega (arith, longer, cut, was); ready = k.ready; flights = k.flights; says = k.says });
    answers = λ client seq answer x mails k. says x (client_actor client) (Answer (name_of x) seq answer) mails tt k;
    teaches = λ to x mails k. says x to (Learn (name_of x) (next r) command) mails low k;
    clears = λ place k. record {
      reached = k.reached;
      floored = k.floored;
      ready = out_each (λ (entry : ℕ × Command). entry.0) (λ s es. without_slot es s) (λ s. refl) (λ s y es. refl) (λ (entry : ℕ × Command). entry.0 < bound) (next r) place.0.ready k.ready;
      flights = out_each (λ (f : Flight Command). f.slot) (λ s fs. without_flight s fs) (λ s. refl) (λ s f fs. refl) (λ (flight : Flight Command). flight.slot < bound + slots_ahead) (next r) place.0.leader.flights k.flights;
      says = k.says;
    };
  }

  -- ---- votes and promises

  abbrev Low : List (Flight Command) → Type 0
  Low flights = Each (λ (flight : Flight Command). flight.slot < bound + slots_ahead) flights

  votes_low : (from : ℕ) (ballot : Ballot) (slot : ℕ) (set : List ℕ) (leader : LeaderState Command) → Low leader.flights → Low (counted from ballot slot set leader).1.flights
  votes_low from ballot slot set leader k =
      either_way (λ (x : Counted Command × LeaderState Command). Low x.1.flights) (same_ballot ballot leader.ballot) _ _ (by (flight_at slot leader.flights)) k
    where
      by : (o : Option (Flight Command)) → Low (vote_at from slot set o leader).1.flights
      by None = k
      by (Some flight) =
          either_way (λ (x : Counted Command × LeaderState Command). Low x.1.flights) (is_majority set (kept_voters (voters_after set from flight.voters))) _ _
          (out_each (λ (f : Flight Command). f.slot) (λ s fs. without_flight s fs) (λ s. refl) (λ s f fs. refl) (λ (x : Flight Command). x.slot < bound + slots_ahead) slot leader.flights k)
          (voted_each slot (voters_after set from flight.voters) (λ (x : Flight Command). x.slot < bound + slots_ahead) leader.flights k (λ x e low. low))

  jumps_by : (slot : ℕ) (sent : Base) (sets : List (List ℕ)) (from : ℕ) (r : ReplicaState) (mails : List Mail) → slot < bound → next r ≤ slot → E (r, mails) → E (record (jumped slot sent sets r) { hint = Some from }, mails)
  unfolding jumped forgotten
  jumps_by slot sent sets from r mails low later k =
      let cut = floor_under slot (omega (arith, later)) in
      let log : LogState Command = installed slot in
      let same = cut_next (floor_of slot) log (omega (arith, cut)) in
      let was = k.floored in record { reached = omega (arith, same, low); floored = omega (arith, was, later, cut, same); ready = k.ready; flights = k.flights; says = k.says }

  pub near_states : FixedStates base me near_facts
  near_states = record {
    prepare_seen = λ from group ballot from_slot h. tt;
    accept_seen = λ from group ballot slot command h. tt;
    nack_seen = λ from group promised h. tt;
    turned = λ command answer backlog r mails on e turn f k. record { reached = k.reached; floored = k.floored; ready = k.ready; flights = k.flights; says = one_answered r.me (Within bound) (talk bound r.me) r.group.core.id answer command mails k.says };
    offers_value = λ slot set command r mails on above near none e of f k. offers slot set command r mails (open_low slot r mails near f k) k;
    offers_noop = λ slot set r mails on above near none gap of f k. offers slot set Noop r mails (open_low slot r mails near f k) k;
    offers_call = λ slot set command backlog r mails on above near none e of f k. (let low = open_low slot r mails near f k in offers slot set command (record r { backlog = backlog }) mails low k);
    counted_entry = λ command r mails on e f k. entry_keeps (λ place. StaysNear bound place) besides base true command r (ready_fixed base r.ready (next r) command e f.fixed.ready) f.fixed.group (entry_near command r (Each-among (λ (entry : ℕ × Command). entry.0 < bound) r.ready (next r, command) k.ready (at_found r.ready (next r) command e).1)) mails k;
    learnt_entry = λ from group command r mails h f k. entry_keeps (λ place. StaysNear bound place) besides base false command r h.0.2 f.fixed.group (entry_near command r h.1) mails k;
    seen = λ ballot r mails s t goes f k. k;
    overtaken = λ ballot r mails s on t f k. overtakes (λ place. StaysNear bound place) besides ballot r mails (λ up. k) k;
    polled = λ from group ballot reports r mails on h f k. either_way (λ (x : Bool × LeaderState Command). E (record r { leader = x.1 }, mails)) (same_ballot ballot r.leader.ballot && not (is_member r.leader.promisers from)) _ _ k k;
    counts = λ from group ballot slot set count r mails on h e f k. record { reached = k.reached; floored = k.floored; ready = k.ready; flights = votes_low from ballot slot set r.leader k.flights; says = k.says };
    chosen = λ from group ballot slot set command r mails on h e f k. record { reached = k.reached; floored = k.floored; ready = with_each slot command (λ (entry : ℕ × Command). entry.0 < bound) r.ready h.1 k.ready; flights = votes_low from ballot slot set r.leader k.flights; says = k.says };
    promised = λ from group ballot from_slot r mails h top goes t f k. hints (λ place. StaysNear bound place) besides ballot (record r { acceptor = after_promise ballot r.acceptor }) _ (says r from (Promise (name_of r) ballot (reports_from from_slot r.acceptor.accepted)) mails tt k);
    accepted = λ from group report r mails h top goes t f k. hints (λ place. StaysNear bound place) besides report.ballot (record r { acceptor = after_accept report r.acceptor }) _ (says r from (Accepted (name_of r) report.ballot report.slot) mails h.1 k);
    nacks = λ to r mails m f k. says r to (Nack (name_of r) r.acceptor.promised) mails tt k;
    installs = λ to r mails m f k. says r to (Install (name_of r) (next r - 1) (base_of r.group) r.sets) mails (let low = k.reached in omega (arith, low)) k;
    recalls = λ to from_slot slot group command r mails h m e f k. says r to (Learn (name_of r) slot command) mails (let under = entry_low slot r.log command e in let low = k.reached in omega (arith, under, low)) k;
    wants = λ to slot group command r mails h m low f k. says r to (Ask (name_of r) (next r)) mails tt k;
    stops = λ from r mails m on f k. besides.ends (Some from) _ r mails k;
    jumps = λ from group slot sent sets r mails h later off f k. jumps_by slot sent sets from r mails h.1 later k;
    refuses = λ client seq op answer r mails e f k. says r (client_actor client) (Answer (name_of r) seq answer) mails tt k;
    requested = λ from group client seq op r mails h e none f k. k;
    requested_again = λ from group client seq other op r mails h e some more f k. k;
  }

  -- a row of mail leaves it so
  pub mailed_near : (from : ℕ) (body : MailBody) (start : ReplicaState) → IsFixedBody base from me body → BringsNear bound body → F (start, []) → E (start, []) → E (mailed from body (start, [])).0
  mailed_near from body start h near f k = (takes_mail base me (both_walk base me fresh near_facts near_states) from body (start, []) (h, near) tt (f, k)).0.1

  -- and so does a tick
  near_ticks : FixedTickStates base me near_facts
  near_ticks = record {
    elected = λ r mails off f k. record {
      reached = k.reached;
      floored = k.floored;
      ready = tt;
      flights = tt;
      says = all_sent r.me (Within bound) (Prepare (name_of r) (record { round = r.top.round + 1; node = r.me }) (next r)) (λ to ms m. pushed bound r.me to (Prepare (name_of r) (record { round = r.top.round + 1; node = r.me }) (next r)) ms tt m) (open_nodes r.sets) mails k.says;
    };
    reasks = λ to slot command r mails m on e f k. says r to (Accept (name_of r) r.leader.ballot slot command) mails (flying_low (flight_at slot r.leader.flights) slot command r mails refl e k) k;
    relearns = λ to command r mails m on e f k. says r to (Learn (name_of r) (next r - 1) command) mails (let low = k.reached in omega (arith, low)) k;
  }
    where
      flying_low : (o : Option (Flight Command)) (slot : ℕ) (command : Command) (r : ReplicaState) (mails : List Mail) → flight_at slot r.leader.flights ≡ o → option_map (λ (flight : Flight Command). flight.value) o ≡ Some command → E (r, mails) → slot < bound + slots_ahead
      flying_low None slot command r mails e fact k = cc
      flying_low (Some flight) slot command r mails e fact k =
          let found = find_found (λ (x : Flight Command). eqb x.slot slot) r.leader.flights flight e in
          let low = Each-among (λ (x : Flight Command). x.slot < bound + slots_ahead) r.leader.flights flight k.flights found.0 in
          let same = eqb-true flight.slot slot found.1 in omega (arith, low, same)

  pub ticked_near : (drawer : Drawer) (start : ReplicaState) → F (start, []) → E (start, []) → E (tick_row false drawer (start, []))
  ticked_near drawer start f k = (ticks base me (both_walk base me fresh near_facts near_states) (both_ticks base me fresh near_facts near_states near_ticks) drawer (start, []) (f, k)).1
