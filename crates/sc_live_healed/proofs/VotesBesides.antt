-- The votes for what a node has in flight stay counted or under way while others take mail, and are so after its own tick.
use Rattle.std.proofs.Common.{◌≡◌, ℕ, ◌-◌, ◌^◌, false, List, [], ◌∷◌, inl, inr, refl, sym, ◌∙◌, ap, subst}
use Rattle.sc_base.specs.Definitions.{Among, Each, same_draw}
use Rattle.sc_words.proofs.PaxosProofs.PaxosLemmas.{Each-among, find_found}
use Rattle.sc_node_table.specs.Values.{Ballot, Base, Command, Core, Mail, Accept, Flight}
use Rattle.sc_node_table.specs.NodeDefinitions.{NodeState, ReplicaState, name_of, on_tick}
use Rattle.sc_paxos_law.proofs.Lemmas.{member-among}
use Rattle.sc_base.proofs.Lemmas.{draw_is}
use Rattle.sc_live_healed.specs.HealedDefinitions.{IsFixedReplica, IsFixedNode, AllTakeSlots, mail_between, IsAnswered, IsVoteUnderWay, Counted, Asked, Answered, VotesAreUnderWay}
use Rattle.sc_live_healed.proofs.FixedNodes.{AreFresh}
use Rattle.sc_live_healed.proofs.NodeSlots.{AreRosters, Ticks, ticks_so}
use Rattle.sc_live_healed.proofs.ServingReplicas.{Grows, IsAsked}
use Rattle.sc_live_healed.proofs.VotesUnderWay.{answered_still, still_under_way}

-- more mail is pending
more_mail : (mails more : List Mail) → Grows mails more → (base : Base) (lead : ℕ) (ballot : Ballot) (flight : Flight Command) (member : ℕ) → IsVoteUnderWay mails base lead ballot flight member → IsVoteUnderWay more base lead ballot flight member
more_mail mails more grow base lead ballot flight member (Counted voted) = Counted voted
more_mail mails more grow base lead ballot flight member (Asked command a) = Asked command (grow _ a)
more_mail mails more grow base lead ballot flight member (Answered a) = Answered (answered_still mails more base member lead ballot flight.slot (λ mail b e. grow mail b) a)

pub votes_with_more : (bases : List Base) (alive : ℕ → Type 0) (mails more : List Mail) (node : NodeState) → Grows mails more → VotesAreUnderWay bases alive mails node → VotesAreUnderWay bases alive more node
votes_with_more bases alive mails more node grow votes base a r e flight f member in_ lives = more_mail mails more grow base node.me r.leader.ballot flight member (votes base a r e flight f member in_ lives)

-- another actor takes a mail, and answers it where it is an Accept
module _ (bases : List Base) (alive : ℕ → Type 0) (node : NodeState) (mail : Mail) (others more : List Mail) (rest : Grows others more) (elsewhere : mail.to ≡ node.me → ⊥)
    (answers : (base : Base) → Among base bases → (ballot : Ballot) (slot : ℕ) (command : Command) → alive mail.to → mail ≡ mail_between node.me mail.to (Accept base.core.id ballot slot command) → IsAnswered more base mail.to node.me ballot slot) where
  pub votes_after_others : VotesAreUnderWay bases alive (mail ∷ others) node → VotesAreUnderWay bases alive more node
  votes_after_others votes base a r e flight f member in_ lives =
      still_under_way mail others more base node.me member r.leader.ballot flight flight rest refl (record {
        counted = λ v. v;
        asked = λ command fact. (
            let who : mail.to ≡ member = ap (λ (x : Mail). x.to) fact in
            Answered (subst (λ (w : ℕ). IsAnswered more base w node.me r.leader.ballot flight.slot) who
            (answers base a r.leader.ballot flight.slot command (subst alive (sym who) lives) (fact ∙ ap (λ (w : ℕ). mail_between node.me w (Accept base.core.id r.leader.ballot flight.slot command)) (sym who)))));
        accepted = λ fact. absurd (elsewhere (ap (λ (x : Mail). x.to) fact));
        refused = λ promised low fact. absurd (elsewhere (ap (λ (x : Mail). x.to) fact));
        installed = λ last sent sets up near fact. absurd (elsewhere (ap (λ (x : Mail). x.to) fact));
      }) (votes base a r e flight f member in_ lives)

-- ---- the node's own tick

module _ (bases : List Base) (fresh : AreFresh bases) (rosters : AreRosters bases) (alive : ℕ → Type 0) (node : NodeState) (k : IsFixedNode bases node) (slots : AllTakeSlots bases node)
    (low : Each (λ (r : ReplicaState). r.top.round ≡ 2 ^ 32 - 1 → ⊥) node.replicas) (off : node.policy ≡ false) (more : List Mail) (sends : (x : Mail) → Among x (on_tick node).1 → alive x.to → Among x more) where
  -- a replica after the tick was one before it
  ticked_from : (mails : List Mail) (replicas after : List ReplicaState) → Each (λ (r : ReplicaState). r.top.round ≡ 2 ^ 32 - 1 → ⊥) replicas → Ticks bases fresh rosters node k slots mails replicas after → (r : ReplicaState) → Among r after
      → (base : Base) × Among base bases × IsFixedReplica base r × (r.me ≡ node.me) × Each (IsAsked base r.me r.leader.ballot mails) r.leader.flights
  ticked_from mails [] [] l t r a = absurd a
  ticked_from mails [] (x ∷ after) l t r a = absurd t
  ticked_from mails (y ∷ replicas) [] l t r a = absurd t
  ticked_from mails (y ∷ replicas) (x ∷ after) l t r (inl fact) =
      subst (λ (z : ReplicaState). (base : Base) × Among base bases × IsFixedReplica base z × (z.me ≡ node.me) × Each (IsAsked base z.me z.leader.ballot mails) z.leader.flights) fact (t.0.0, t.0.1, t.0.3.fixed, t.0.3.me_is, t.0.3.asked l.0)
  ticked_from mails (y ∷ replicas) (x ∷ after) l t r (inr a) = ticked_from mails replicas after l.1 t.1 r a

  -- the votes for what it has in flight are counted or asked for
  pub votes_after_tick : VotesAreUnderWay bases alive more (on_tick node).0
  votes_after_tick base a r e flight f member in_ lives =
      let found = find_found (λ (x : ReplicaState). same_draw (name_of x) base.core.id) (on_tick node).0.replicas r e in
      let was = ticked_from (on_tick node).1 node.replicas (on_tick node).0.replicas low (ticks_so bases fresh rosters node k slots off) r found.0 in
      let same : was.0 ≡ base = fresh.apart was.0 base was.1 a (sym (ap (λ (core : Core). core.id) was.2.group) ∙ draw_is (name_of r) base.core.id found.1) in
      let asked : IsAsked base r.me r.leader.ballot (on_tick node).1 flight = subst (λ (b : Base). IsAsked b r.me r.leader.ballot (on_tick node).1 flight) same (Each-among (IsAsked was.0 r.me r.leader.ballot (on_tick node).1) r.leader.flights flight was.4 f) in
      elim (asked member (member-among base.core.members member in_)) [
        | inl voted ↦ Counted voted
        | inr one ↦ Asked one.0 (sends _ (subst (λ (me : ℕ). Among (mail_between me member (Accept base.core.id r.leader.ballot flight.slot one.0)) (on_tick node).1) was.3 one.1) lives)
      ]
