-- In any journal a replica has promised no later ballot than the greatest that it saw; and where it runs, it runs with that one, and takes itself for the leader.
use Rattle.std.proofs.Common.{◌≡◌, ℕ, ◌+◌, ◌<◌, cond, true, true≢false, List, Option, Some, inl, refl, sym, ◌∙◌, ap, subst, arith}
use Rattle.std.proofs.lemmas.Bool.{cond_both, and_from, eqb-true}
use Rattle.sc_base.specs.Definitions.{Each}
use Rattle.sc_node_table.specs.Values.{Ballot, Draw, Command, Base}
use Rattle.sc_words.specs.paxos.PaxosDefinitions.{IsAtLeast, below, LeaderState, promise_counted, counted}
use Rattle.sc_words.proofs.PaxosProofs.PaxosLemmas.{at_least_itself, at_least_trans, at_least_from_below, below_from}
use Rattle.sc_node_table.specs.NodeDefinitions.{entered, jumped, forgotten, ReplicaState, replica_of, installed_replica, first_ballot}
use Rattle.sc_meaning.specs.sound.SoundDefinitions.{Player}
use Rattle.sc_law_walks.specs.WalkDefinitions.{IsKept, GoesOn}
use Rattle.sc_law_walks.proofs.WalkLemmas.{StateParts, ended_replica, promise_ballot, counted_ballot, StateBirths}
use Rattle.sc_live_journals.proofs.RowsProofs.Players as players
use Rattle.sc_live_journals.specs.groups.GroupDefinitions.{IsTopKept, NodesKeepTops, NodesAreBornTopped}

-- a later round is of a later ballot
round_later : (a b : Ballot) → a.round < b.round → below a b ≡ true
round_later a b lt = below_from a b (inl lt)

module _ (me : ℕ) where
  abbrev pub Stands : ReplicaState → Type 0
  Stands r = IsAtLeast r.top r.acceptor.promised × (r.running ≡ true → (r.top ≡ r.leader.ballot) × (r.hint ≡ Some me))

  pub with_leader : (r : ReplicaState) (l : LeaderState Command) → l.ballot ≡ r.leader.ballot → Stands r → Stands (record r { leader = l })
  with_leader r l same k = (k.0, λ on. ((k.1 on).0 ∙ sym same, (k.1 on).1))

  pub enters : (command : Command) (r : ReplicaState) → Stands r → Stands (entered command r)
  unfolding entered forgotten
  enters command r k = k

  pub jumps : (slot : ℕ) (base : Base) (sets : List (List ℕ)) (r : ReplicaState) → Stands r → Stands (jumped slot base sets r)
  unfolding jumped forgotten
  jumps slot base sets r k = k

  -- what it promised is no later than a later ballot than the greatest that it saw
  pub raised : (ballot : Ballot) (r : ReplicaState) → Stands r → below r.top ballot ≡ true → IsAtLeast ballot r.acceptor.promised
  raised ballot r k lt = at_least_trans ballot r.top r.acceptor.promised (at_least_from_below r.top ballot lt) k.0

  pub self_election : (r : ReplicaState) → Stands r → IsAtLeast (record { round = r.top.round + 1; node = r.me }) r.acceptor.promised
  self_election r k = (let ballot : Ballot = record { round = r.top.round + 1; node = r.me } in raised ballot r k (round_later r.top ballot (omega arith)))

  -- a leader goes on where it saw no later ballot, so this one is not later than its own
  pub sees : (ballot : Ballot) (r : ReplicaState) → below r.top ballot ≡ true → GoesOn ballot r → Stands r → Stands (record r { top = ballot })
  sees ballot r lt on k = (
    raised ballot r k lt,
    λ run. absurd (true≢false (sym (and_from r.running (below r.leader.ballot ballot) run (subst (λ b. below b ballot ≡ true) (k.1 run).0 lt)) ∙ on)),
  )

  pub stops : (ballot : Ballot) (r : ReplicaState) → Stands r → Stands (ended_replica (Some ballot.node) (cond (below r.top ballot) (record r { top = ballot }) r))
  stops ballot r k =
      cond_both (below r.top ballot) (record r { top = ballot }) r (λ (x : ReplicaState). Stands (ended_replica (Some ballot.node) x)) (λ t. (raised ballot r k t, λ on. absurd (true≢false (sym on))))
      (λ _. (k.0, λ on. absurd (true≢false (sym on))))

  pub makes : (slot : ℕ) (base : Base) (sets : List (List ℕ)) → Stands (installed_replica me slot base sets)
  unfolding forgotten
  makes slot base sets = (at_least_itself (first_ballot base.core), λ on. absurd (true≢false (sym on)))

  abbrev pub parts : StateParts me (λ r. Stands r)
  parts = record {
    entered = λ command r kept k. enters command r k;
    landed = λ slot r k. k;
    jumped = λ slot base sets r later k. jumps slot base sets r k;
    hinted = λ hint r off k. (k.0, λ on. absurd (true≢false (sym on ∙ off)));
    ended = λ hint r k. (k.0, λ on. absurd (true≢false (sym on)));
    elected = λ r same k. (self_election r k, λ on. (refl, ap Some same));
    seen = λ ballot r t on k. sees ballot r t on k;
    overtaken = λ ballot r on t k. stops ballot r k;
    polled = λ from ballot reports r on k. with_leader r (promise_counted from ballot reports r.leader).1 (promise_ballot from ballot reports r.leader) k;
    counts = λ from ballot slot set r on k. with_leader r (counted from ballot slot set r.leader).1 (counted_ballot from ballot slot set r.leader) k;
    readied = λ slot command r on k. k;
    promised = λ ballot r top t k. (top, k.1);
    accepted = λ report r top t k. (top, k.1);
    flown = λ slot command r on near k. k;
    queues = λ r acts backlog k. k;
    waited = λ waits r k. k;
  }

  abbrev pub begins : StateBirths me (λ r. Stands r)
  begins = record { born = λ base. (at_least_itself (first_ballot base.core), λ on. (refl, ap Some (eqb-true base.core.first me on))); made = λ slot base sets. makes slot base sets }

  pub to : (r : ReplicaState) → IsTopKept me r → IsKept me r × Stands r
  to r k = (k.3, (k.1, k.2))

  pub from : (r : ReplicaState) → IsKept me r × Stands r → IsTopKept me r
  from r k = (k.0.0, k.1.0, k.1.1, k.0)

  -- ---- players and their rows

  abbrev pub Found : Option ReplicaState → Type 0
  Found o = players.Found me (λ r. Stands r) parts begins (λ r. IsTopKept me r) to from o

  abbrev pub Plays : Player → Type 0
  Plays player = players.Plays me (λ r. Stands r) parts begins (λ r. IsTopKept me r) to from player

  pub found_well : (group : Draw) (replicas : List ReplicaState) → Each (IsTopKept me) replicas → Found (replica_of group replicas)
  found_well group replicas k = players.found me (λ r. Stands r) parts begins (λ r. IsTopKept me r) to from group replicas k

  pub replay_well : players.RowsKeep Plays
  replay_well who rows player sent k = players.replays me (λ r. Stands r) parts begins (λ r. IsTopKept me r) to from who rows player sent k

-- Each replica of a node is so after any rows, and the node keeps its number.
pub nodes_keep : NodesKeepTops
nodes_keep seat rows born node fact well e =
    let after = players.stays born.me (λ r. Stands born.me r) (parts born.me) (begins born.me) (λ r. IsTopKept born.me r) (to born.me) (from born.me) seat rows born node fact (refl, well) e in
    (subst (λ m. Each (IsTopKept m) node.replicas) (sym after.0) after.1, after.0)

-- So it is of each replica that is made at the birth of groups.
pub nodes_born : NodesAreBornTopped
nodes_born me groups policy = players.born me (λ r. Stands me r) (parts me) (begins me) (λ r. IsTopKept me r) (to me) (from me) groups
