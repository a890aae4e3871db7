-- What a row that is no tick changes of a replica of a group that is not reshaped: its greatest ballot rises, what it asks is within it, it promises nothing but what the mail brings, it begins to lead no ballot, and it loses no promise of its own ballot.
use Rattle.std.proofs.Common.{◌≡◌, ℕ, ◌+◌, ◌-◌, ◌<◌, ◌≤◌, ◌&&◌, not, Bool, true, false, true≢false, List, [], ◌∷◌, ◌++◌, Option, Some, None, ◌⊎◌, inl, inr, refl, sym, ◌∙◌, ap, subst, arith}
use Rattle.sc_base.specs.Definitions.{Each, Drawer, same_ballot, is_majority, is_member, client_actor}
use Rattle.sc_words.proofs.PaxosProofs.PaxosLemmas.{Each-append, Each-weaker}
use Rattle.sc_paxos_law.proofs.Lemmas.{Among-left, among-member, member-among}
use Rattle.sc_node_table.specs.Values.{Ballot, Command, Noop, Base, Counted, Mail, MailBody, Answer, Prepare, Promise, Accept, Accepted, Nack, Learn, Ask, Install, Flight, TxPrepare, TxVote, TxOutcome, TxElsewhere, TxWatch, TxWatched, Told, Report}
use Rattle.sc_group_table.specs.machine.MachineDefinitions.{base_of}
use Rattle.sc_words.specs.paxos.PaxosDefinitions.{AcceptorState, LeaderState, below, after_promise, after_accept, reports_from, kept_voters, voters_after, promise_counted, counted, vote_at, flight_at}
use Rattle.sc_node_table.specs.NodeDefinitions.{ended, entered, forgotten, jumped, offered, answered_all, sent, under_way, mailed, pumped, tick_row, open_nodes, ReplicaState, Place, name_of, next}
use Rattle.sc_law_walks.proofs.Talks.{all_sent, all_answered, all_dismissed, one_answered}
use Rattle.sc_law_walks.proofs.WalkLemmas.{either_way, below_round, at_least_round, Talk, counted_ballot, promise_ballot, floor_under}
use Rattle.sc_live_healed.proofs.FixedWalks.{IsFresh, IsFixedPlace, FixedWalk}
use Rattle.sc_live_healed.proofs.UnqueuedEntries.{Unqueued, KeptEntry, hints, overtakes, entry_keeps}
use Rattle.sc_live_healed.proofs.FixedParts.{ready_fixed}
use Rattle.sc_live_healed.proofs.FixedPumps.{pumps, pumps_next}
use Rattle.sc_live_healed.proofs.FixedRows.{takes_mail}
use Rattle.sc_live_healed.proofs.FixedTicks.{ticks}
use Rattle.sc_live_healed.proofs.FixedBesides.{FixedFacts, FixedStates, FixedTickStates, both_walk, both_ticks}
use Rattle.sc_live_healed.specs.HealedDefinitions.{IsFixedBody}

-- a mail that asks for a promise or a vote does so in a round that is not above this one
abbrev pub AsksWithin : ℕ → MailBody → Type 0
AsksWithin round (Prepare group ballot from_slot) = ballot.round ≤ round
AsksWithin round (Accept group ballot slot command) = ballot.round ≤ round
AsksWithin round _ = Unit {0}

-- a mail that asks for a promise or a vote brings its ballot
abbrev pub Brings : MailBody → Ballot → Type 0
Brings (Prepare group asked from_slot) ballot = asked ≡ ballot
Brings (Accept group asked slot command) ballot = asked ≡ ballot
Brings _ ballot = ⊥

-- What a row leaves of a replica, which may elect itself in it where Elects holds: by its greatest ballot, its promise and floor, whether it runs, with which ballot and promises, its next slot, and the mail.
pub record Moves (Elects : Type 0) (start : ReplicaState) (body : MailBody) (top promised : Ballot) (floor : ℕ) (running : Bool) (ballot : Ballot) (is_first : Bool) (promisers : List ℕ) (next_slot : ℕ) (mails : List Mail) : Type 0 where
  pub rises : start.top.round ≤ top.round
  pub asks : Each (λ (mail : Mail). AsksWithin top.round mail.body) mails
  pub promise : (promised ≡ start.acceptor.promised) ⊎ Brings body promised
  pub leads : running ≡ true → Elects ⊎ ((start.running ≡ true) × (ballot ≡ start.leader.ballot) × (is_first ≡ start.leader.is_first) × ((node : ℕ) → is_member start.leader.promisers node ≡ true → is_member promisers node ≡ true))
  pub floored : floor < next_slot

-- what a row leaves of a replica with its mail
abbrev pub HasMoved : Type 0 → ReplicaState → MailBody → Place → Type 0
HasMoved Elects start body (r, mails) = Moves Elects start body r.top r.acceptor.promised r.acceptor.floor r.running r.leader.ballot r.leader.is_first r.leader.promisers (next r) mails

pub within_more : (low high : ℕ) (body : MailBody) → low ≤ high → AsksWithin low body → AsksWithin high body
within_more low high (Prepare group ballot from_slot) up a = omega (arith, up, a)
within_more low high (Accept group ballot slot command) up a = omega (arith, up, a)
within_more low high _ up a = tt

-- any mail but a question is within any round
module _ (round : ℕ) where
  abbrev Within : List Mail → Type 0
  Within mails = Each (λ (mail : Mail). AsksWithin round mail.body) mails

  pushed : (me to : ℕ) (body : MailBody) (mails : List Mail) → AsksWithin round body → Within mails → Within (sent me to body mails)
  pushed me to body mails a m = Each-append (λ (mail : Mail). AsksWithin round mail.body) mails (record { from = me; to = to; body = body } ∷ []) m (a, tt)

  talk : (me : ℕ) → Talk me Within
  talk me = record {
    tells = λ number result mails m. pushed me 0 (Told number result) mails tt m;
    answers = λ client group seq answer mails m. pushed me (client_actor client) (Answer group seq answer) mails tt m;
    offers = λ to tx offer mails own m. pushed me to (TxPrepare tx offer) mails tt m;
    watches = λ to tx watch mails own m. pushed me to (TxWatch tx watch) mails tt m;
    casts = λ to tx coord part vote mails m. pushed me to (TxVote tx coord part vote) mails tt m;
    sees = λ to tx coord part vote mails m. pushed me to (TxWatched tx coord part vote) mails tt m;
    ends = λ to tx part outcome mails m. pushed me to (TxOutcome tx part outcome) mails tt m;
    sends_on = λ to tx coord hint mails m. pushed me to (TxElsewhere tx coord hint) mails tt m;
  }

module _ (base : Base) (me : ℕ) (fresh : IsFresh base me) (Elects : Type 0) (start : ReplicaState) (heard_from : ℕ) (heard_body : MailBody) where
  abbrev E : Place → Type 0
  E place = HasMoved Elects start heard_body place

  abbrev F : Place → Type 0
  F place = IsFixedPlace base me place

  abbrev pub move_facts : FixedFacts
  move_facts = record { E = λ place. HasMoved Elects start heard_body place; HeardSo = λ from body. body ≡ heard_body; SeenSo = λ ballot. Unit {0} }

  says : (r : ReplicaState) (to : ℕ) (body : MailBody) (mails : List Mail) → AsksWithin r.top.round body → E (r, mails) → E (r, sent r.me to body mails)
  says r to body mails a k = record { rises = k.rises; asks = pushed r.top.round r.me to body mails a k.asks; promise = k.promise; leads = k.leads; floored = k.floored }

  own_round : (r : ReplicaState) (mails : List Mail) → r.running ≡ true → F (r, mails) → r.leader.ballot.round ≤ r.top.round
  own_round r mails on f = at_least_round r.top r.leader.ballot (f.ballots.running on).seen

  offers_low : (slot : ℕ) (set : List ℕ) (command : Command) (r : ReplicaState) (mails : List Mail) → r.leader.ballot.round ≤ r.top.round → E (r, mails) → E (offered slot set command (r, mails))
  unfolding offered
  offers_low slot set command r mails low k =
      record {
        rises = k.rises;
        asks = all_sent r.me (Within r.top.round) (Accept (name_of r) r.leader.ballot slot command) (λ to ms m. pushed r.top.round r.me to (Accept (name_of r) r.leader.ballot slot command) ms low m) set mails k.asks;
        promise = k.promise;
        leads = k.leads;
        floored = k.floored;
      }

  offers : (slot : ℕ) (set : List ℕ) (command : Command) (r : ReplicaState) (mails : List Mail) → r.running ≡ true → F (r, mails) → E (r, mails) → E (offered slot set command (r, mails))
  offers slot set command r mails on f k = offers_low slot set command r mails (own_round r mails on f) k

  besides : Unqueued (λ place. HasMoved Elects start heard_body place)
  unfolding ended
  besides = record {
    requeues = λ acts backlog r mails k. k;
    rehints = λ hint r mails k. k;
    ends = λ hint answer r mails k. record {
      rises = k.rises;
      asks = all_dismissed r.me (Within r.top.round) (talk r.top.round r.me) (name_of r) hint answer r.backlog (answered_all r.me (name_of r) answer (under_way r) mails) (all_answered r.me (Within r.top.round) (talk r.top.round r.me) (name_of r) answer (under_way r) mails k.asks);
      promise = k.promise;
      leads = λ on. absurd (true≢false (sym on));
      floored = k.floored;
    };
  }

  higher : (ballot : Ballot) (r : ReplicaState) (mails : List Mail) → below r.top ballot ≡ true → E (r, mails) → E (record r { top = ballot }, mails)
  higher ballot r mails t k =
      let up : r.top.round ≤ ballot.round = below_round r.top ballot t in record {
        rises = (let low = k.rises in omega (arith, low, up));
        asks = Each-weaker (λ (mail : Mail). AsksWithin r.top.round mail.body) (λ (mail : Mail). AsksWithin ballot.round mail.body) (λ mail a. within_more r.top.round ballot.round mail.body up a) mails k.asks;
        promise = k.promise;
        leads = k.leads;
        floored = k.floored;
      }

  -- ---- entries

  entry_moved : (command : Command) (r : ReplicaState) → KeptEntry (λ place. HasMoved Elects start heard_body place) command r
  unfolding entered forgotten
  entry_moved command r = record {
    enters = λ mails longer k. (
        let low = floor_under (next r) (omega arith) in
        let was = k.floored in
        record { rises = k.rises; asks = k.asks; promise = k.promise; leads = k.leads; floored = omega (arith, longer, low, was) });
    answers = λ client seq answer x mails k. says x (client_actor client) (Answer (name_of x) seq answer) mails tt k;
    teaches = λ to x mails k. says x to (Learn (name_of x) (next r) command) mails tt k;
    clears = λ place k. k;
  }

  -- ---- votes and promises

  -- a vote leaves ballot and promises
  same_promisers : (from : ℕ) (ballot : Ballot) (slot : ℕ) (set : List ℕ) (leader : LeaderState Command) → ((counted from ballot slot set leader).1.is_first ≡ leader.is_first) × ((counted from ballot slot set leader).1.promisers ≡ leader.promisers)
  same_promisers from ballot slot set leader =
      either_way (λ (x : Counted Command × LeaderState Command). (x.1.is_first ≡ leader.is_first) × (x.1.promisers ≡ leader.promisers)) (same_ballot ballot leader.ballot) _ _ (by (flight_at slot leader.flights)) (refl, refl)
    where
      by : (o : Option (Flight Command)) → ((vote_at from slot set o leader).1.is_first ≡ leader.is_first) × ((vote_at from slot set o leader).1.promisers ≡ leader.promisers)
      by None = (refl, refl)
      by (Some flight) = either_way (λ (x : Counted Command × LeaderState Command). (x.1.is_first ≡ leader.is_first) × (x.1.promisers ≡ leader.promisers)) (is_majority set (kept_voters (voters_after set from flight.voters))) _ _ (refl, refl) (refl, refl)

  leads_with : (r : ReplicaState) (mails : List Mail) (leader : LeaderState Command) → leader.ballot ≡ r.leader.ballot → leader.is_first ≡ r.leader.is_first → ((node : ℕ) → is_member r.leader.promisers node ≡ true → is_member leader.promisers node ≡ true) → E (r, mails) → E (record r { leader = leader }, mails)
  leads_with r mails leader b i p k = record {
    rises = k.rises;
    asks = k.asks;
    promise = k.promise;
    leads = λ on. elim (k.leads on) [ inl e ↦ inl e | inr l ↦ inr (l.0, b ∙ l.1, i ∙ l.2, λ node m. p node (l.3 node m)) ];
    floored = k.floored;
  }

  votes : (from : ℕ) (ballot : Ballot) (slot : ℕ) (set : List ℕ) (r : ReplicaState) (mails : List Mail) → E (r, mails) → E (record r { leader = (counted from ballot slot set r.leader).1 }, mails)
  votes from ballot slot set r mails k =
      let same = same_promisers from ballot slot set r.leader in
      leads_with r mails (counted from ballot slot set r.leader).1 (counted_ballot from ballot slot set r.leader) same.0 (λ node m. ap (λ (nodes : List ℕ). is_member nodes node) same.1 ∙ m) k

  more_promisers : (from : ℕ) (ballot : Ballot) (reports : List (Report Command)) (leader : LeaderState Command) → ((promise_counted from ballot reports leader).1.is_first ≡ leader.is_first) × ((node : ℕ) → is_member leader.promisers node ≡ true → is_member (promise_counted from ballot reports leader).1.promisers node ≡ true)
  more_promisers from ballot reports leader =
      either_way (λ (x : Bool × LeaderState Command). (x.1.is_first ≡ leader.is_first) × ((node : ℕ) → is_member leader.promisers node ≡ true → is_member x.1.promisers node ≡ true)) (same_ballot ballot leader.ballot && not (is_member leader.promisers from)) _ _
      (refl, λ node m. among-member (leader.promisers ++ from ∷ []) node (Among-left node leader.promisers (from ∷ []) (member-among leader.promisers node m))) (refl, λ node m. m)

  polls : (from : ℕ) (ballot : Ballot) (reports : List (Report Command)) (r : ReplicaState) (mails : List Mail) → E (r, mails) → E (record r { leader = (promise_counted from ballot reports r.leader).1 }, mails)
  polls from ballot reports r mails k =
      let more = more_promisers from ballot reports r.leader in
      leads_with r mails (promise_counted from ballot reports r.leader).1 (promise_ballot from ballot reports r.leader) more.0 more.1 k

  promises : (promised : Ballot) (acceptor : AcceptorState Command) (r : ReplicaState) (mails : List Mail) → Brings heard_body acceptor.promised → acceptor.floor ≡ r.acceptor.floor → E (r, mails) → E (record r { acceptor = acceptor }, mails)
  promises promised acceptor r mails b same k = record { rises = k.rises; asks = k.asks; promise = inr b; leads = k.leads; floored = (let low = k.floored in omega (arith, low, same)) }

  -- ---- a state that is taken over

  jumps : (slot : ℕ) (sent : Base) (sets : List (List ℕ)) (from : ℕ) (r : ReplicaState) (mails : List Mail) → next r ≤ slot → E (r, mails) → E (record (jumped slot sent sets r) { hint = Some from }, mails)
  unfolding jumped forgotten
  jumps slot sent sets from r mails later k = record {
    rises = k.rises;
    asks = k.asks;
    promise = k.promise;
    leads = k.leads;
    floored = (let low = k.floored in let cut = floor_under slot (omega (arith, later)) in omega (arith, low, later, cut));
  }

  -- ---- the walk

  pub move_states : FixedStates base me move_facts
  move_states = record {
    prepare_seen = λ from group ballot from_slot h. tt;
    accept_seen = λ from group ballot slot command h. tt;
    nack_seen = λ from group promised h. tt;
    turned = λ command answer backlog r mails on e turn f k. record { rises = k.rises; asks = one_answered r.me (Within r.top.round) (talk r.top.round r.me) r.group.core.id answer command mails k.asks; promise = k.promise; leads = k.leads; floored = k.floored };
    offers_value = λ slot set command r mails on low near none e of f k. offers slot set command r mails on f k;
    offers_noop = λ slot set r mails on low near none gap of f k. offers slot set Noop r mails on f k;
    offers_call = λ slot set command backlog r mails on above near none e of f k. (let low = own_round r mails on f in offers_low slot set command (record r { backlog = backlog }) mails low k);
    counted_entry = λ command r mails on e f k. entry_keeps (λ place. HasMoved Elects start heard_body place) besides base true command r (ready_fixed base r.ready (next r) command e f.fixed.ready) f.fixed.group (entry_moved command r) mails k;
    learnt_entry = λ from group command r mails h f k. entry_keeps (λ place. HasMoved Elects start heard_body place) besides base false command r h.0.2 f.fixed.group (entry_moved command r) mails k;
    seen = λ ballot r mails s t goes f k. higher ballot r mails t k;
    overtaken = λ ballot r mails s on t f k. overtakes (λ place. HasMoved Elects start heard_body place) besides ballot r mails (λ up. higher ballot r mails up k) k;
    polled = λ from group ballot reports r mails on h f k. polls from ballot reports r mails k;
    counts = λ from group ballot slot set count r mails on h e f k. votes from ballot slot set r mails k;
    chosen = λ from group ballot slot set command r mails on h e f k. votes from ballot slot set r mails k;
    promised = λ from group ballot from_slot r mails h top goes t f k. hints (λ place. HasMoved Elects start heard_body place) besides ballot (record r { acceptor = after_promise ballot r.acceptor }) _
        (promises ballot (after_promise ballot r.acceptor) r _ (subst (λ (body : MailBody). Brings body ballot) h.1 refl) refl (says r from (Promise (name_of r) ballot (reports_from from_slot r.acceptor.accepted)) mails tt k));
    accepted = λ from group report r mails h top goes t f k. hints (λ place. HasMoved Elects start heard_body place) besides report.ballot (record r { acceptor = after_accept report r.acceptor }) _
        (promises report.ballot (after_accept report r.acceptor) r _ (subst (λ (body : MailBody). Brings body report.ballot) h.1 refl) refl (says r from (Accepted (name_of r) report.ballot report.slot) mails tt k));
    nacks = λ to r mails m f k. says r to (Nack (name_of r) r.acceptor.promised) mails tt k;
    installs = λ to r mails m f k. says r to (Install (name_of r) (next r - 1) (base_of r.group) r.sets) mails tt k;
    recalls = λ to from_slot slot group command r mails h m e f k. says r to (Learn (name_of r) slot command) mails tt k;
    wants = λ to slot group command r mails h m low f k. says r to (Ask (name_of r) (next r)) mails tt k;
    stops = λ from r mails m on f k. besides.ends (Some from) _ r mails k;
    jumps = λ from group slot sent sets r mails h later off f k. jumps slot sent sets from r mails later k;
    refuses = λ client seq op answer r mails e f k. says r (client_actor client) (Answer (name_of r) seq answer) mails tt k;
    requested = λ from group client seq op r mails h e none f k. k;
    requested_again = λ from group client seq other op r mails h e some more f k. k;
  }

  -- a row of mail moves a replica so
  pub mailed_moves : start.acceptor.floor < next start → IsFixedBody base heard_from me heard_body → F (start, []) → F (mailed heard_from heard_body (start, [])).0 × E (mailed heard_from heard_body (start, [])).0
  mailed_moves low h f =
      (takes_mail base me (both_walk base me fresh move_facts move_states) heard_from heard_body (start, []) (h, refl) tt
      (f, record { rises = omega arith; asks = tt; promise = inl refl; leads = λ on. inr (on, refl, refl, λ node m. m); floored = low })).0

  -- the pump, of the replica that the row found
  pub pumped_moves : start.acceptor.floor < next start → F (start, []) → F (pumped (start, [])) × E (pumped (start, [])) × (next (pumped (start, [])).0 ≡ next start)
  pumped_moves low f =
      let k : F (start, []) × E (start, []) = (f, record { rises = omega arith; asks = tt; promise = inl refl; leads = λ on. inr (on, refl, refl, λ node m. m); floored = low }) in
      let w : FixedWalk base me = both_walk base me fresh move_facts move_states in
      let after = pumps base me w (start, []) k in (after.0, after.1, pumps_next base me w (start, []) k)

  -- a tick, which may elect the replica
  pub tick_states : Elects → FixedTickStates base me move_facts
  tick_states may = record {
    elected = λ r mails off f k. record {
      rises = (let low = k.rises in omega (arith, low));
      asks = all_sent r.me (Within (r.top.round + 1)) (Prepare (name_of r) (record { round = r.top.round + 1; node = r.me }) (next r)) (λ to ms m. pushed (r.top.round + 1) r.me to (Prepare (name_of r) (record { round = r.top.round + 1; node = r.me }) (next r)) ms (omega arith) m) (open_nodes r.sets) mails
          (Each-weaker (λ (mail : Mail). AsksWithin r.top.round mail.body) (λ (mail : Mail). AsksWithin (r.top.round + 1) mail.body) (λ mail a. within_more r.top.round (r.top.round + 1) mail.body (omega arith) a) mails k.asks);
      promise = k.promise;
      leads = λ on. inl may;
      floored = k.floored;
    };
    reasks = λ to slot command r mails m on e f k. says r to (Accept (name_of r) r.leader.ballot slot command) mails (own_round r mails on f) k;
    relearns = λ to command r mails m on e f k. says r to (Learn (name_of r) (next r - 1) command) mails tt k;
  }

  pub ticked_moves : Elects → (drawer : Drawer) → start.acceptor.floor < next start → F (start, []) → F (tick_row false drawer (start, [])) × E (tick_row false drawer (start, []))
  ticked_moves may drawer low f =
      ticks base me (both_walk base me fresh move_facts move_states) (both_ticks base me fresh move_facts move_states (tick_states may)) drawer (start, [])
      (f, record { rises = omega arith; asks = tt; promise = inl refl; leads = λ on. inr (on, refl, refl, λ node m. m); floored = low })
