-- The votes of members that are alive stay counted or under way while mail is delivered, and are so after a node's tick.
use Rattle.std.proofs.Common.{◌≡◌, ℕ, ◌≤◌, ◌||◌, not, nat_lt, eqb, Bool, true, false, true≢false, List, [], ◌∷◌, length, replicate, Some, None, ◌⊎◌, inl, inr, refl, sym, ◌∙◌, ap, subst, arith}
use Rattle.std.proofs.lemmas.Bool.{cond-false, cases_Bool, eq-eqb, le-ltb, and_from, or_from}
use Rattle.sc_base.specs.Definitions.{Among, same_draw, is_member}
use Rattle.sc_base.proofs.Lemmas.{draw_is, same_name}
use Rattle.sc_words.proofs.PaxosProofs.PaxosLemmas.{Each-among}
use Rattle.sc_node_table.specs.Values.{Ballot, Draw, Base, Command, Core, Got, Mail, MailBody, Accept, Accepted, Nack, Install, Flight}
use Rattle.sc_words.specs.paxos.PaxosDefinitions.{below}
use Rattle.sc_node_table.specs.NodeDefinitions.{NodeState, ReplicaState, Place, name_of, replica_of, with_replica, is_node, may_come, group_of_mail, nack_row, took_over, install_row, mailed, accept_row, node_table, next, last_slot, slots_ahead}
use Rattle.sc_paxos_law.proofs.Lemmas.{member-among}
use Rattle.sc_live_plain.proofs.PlainLemmas.{put_found, put_others, some_is}
use Rattle.sc_live_healed.specs.HealedDefinitions.{IsFixedReplica, IsFixedBase, IsFixedBody, IsFixedMail, IsFixedNode, TakesSlots, AllTakeSlots, HasVoted, Counts, IsCarried, mail_between, IsAnswered, Accepts, Refuses, Installs, IsVoteUnderWay, Counted, Asked, Answered, VotesAreUnderWay, IsInBounds}
use Rattle.sc_live_healed.proofs.FixedNodes.{AreFresh}
use Rattle.sc_live_healed.proofs.FixedGroupMail.{TakesMail, PassesMail, mail_taken}
use Rattle.sc_live_healed.proofs.NodeSlots.{AreRosters, found_takes}
use Rattle.sc_live_healed.proofs.AnsweredAccepts.{accept_answers}
use Rattle.sc_live_healed.proofs.ServingReplicas.{Grows, IsUnderWay}
use Rattle.sc_live_healed.proofs.ServedRows.{seen_by, took_over_off}
use Rattle.sc_live_healed.proofs.MailedSlots.{mailed_leaves}
use Rattle.sc_live_healed.proofs.TickedSlots.{in_open}

-- ---- one mail taken

-- where the first of some mails is taken, a vote that was under way is so still, if the mail makes no difference or makes up for it
module _ (mail : Mail) (others more : List Mail) (base : Base) (lead member : ℕ) (ballot : Ballot) (before after : Flight Command) (rest : Grows others more) (same : before.slot ≡ after.slot) where
  abbrev W : Type 0
  W = IsVoteUnderWay more base lead ballot after member

  -- what makes up for it
  pub record MakesUp : Type 0 where
    pub counted : HasVoted member before → HasVoted member after
    pub asked : (command : Command) → mail ≡ mail_between lead member (Accept base.core.id ballot before.slot command) → W
    pub accepted : mail ≡ mail_between member lead (Accepted base.core.id ballot before.slot) → W
    pub refused : (promised : Ballot) → below ballot promised ≡ true → mail ≡ mail_between member lead (Nack base.core.id promised) → W
    pub installed : (last : ℕ) (sent : Base) (sets : List (List ℕ)) → before.slot ≤ last → last ≤ last_slot → mail ≡ mail_between member lead (Install base.core.id last sent sets) → W

  pub still_under_way : MakesUp → IsVoteUnderWay (mail ∷ others) base lead ballot before member → W
  still_under_way m (Counted voted) = Counted (m.counted voted)
  still_under_way m (Asked command (inl fact)) = m.asked command fact
  still_under_way m (Asked command (inr a)) = Asked command (subst (λ (s : ℕ). Among (mail_between lead member (Accept base.core.id ballot s command)) more) same (rest _ a))
  still_under_way m (Answered (Accepts (inl fact))) = m.accepted fact
  still_under_way m (Answered (Accepts (inr a))) = Answered (Accepts (subst (λ (s : ℕ). Among (mail_between member lead (Accepted base.core.id ballot s)) more) same (rest _ a)))
  still_under_way m (Answered (Refuses promised low (inl fact))) = m.refused promised low fact
  still_under_way m (Answered (Refuses promised low (inr a))) = Answered (Refuses promised low (rest _ a))
  still_under_way m (Answered (Installs last sent sets up near (inl fact))) = m.installed last sent sets up near fact
  still_under_way m (Answered (Installs last sent sets up near (inr a))) = Answered (Installs last sent sets (subst (λ (s : ℕ). s ≤ last) same up) near (rest _ a))

-- an answer among other mails
pub answered_still : (mails more : List Mail) (base : Base) (member lead : ℕ) (ballot : Ballot) (slot : ℕ) → ((mail : Mail) → Among mail mails → mail.to ≡ lead → Among mail more) → IsAnswered mails base member lead ballot slot → IsAnswered more base member lead ballot slot
answered_still mails more base member lead ballot slot grow (Accepts a) = Accepts (grow _ a refl)
answered_still mails more base member lead ballot slot grow (Refuses promised low a) = Refuses promised low (grow _ a refl)
answered_still mails more base member lead ballot slot grow (Installs last sent sets up near a) = Installs last sent sets up near (grow _ a refl)

-- ---- what stops a replica

nack_stops : (r : ReplicaState) (mails : List Mail) (promised : Ballot) → r.running ≡ true → below r.leader.ballot promised ≡ true → (nack_row promised (r, mails)).0.running ≡ false
unfolding nack_row
nack_stops r mails promised on low =
    seen_by (λ (place : Place). place.0.running ≡ false) promised r mails (λ place off. off) (λ top f. absurd (true≢false (sym (and_from r.running (below r.leader.ballot promised) on low) ∙ f)))

install_stops : (base : Base) (from slot : ℕ) (sent : Base) (sets : List (List ℕ)) (r : ReplicaState) (mails : List Mail) → IsFixedReplica base r → IsFixedBase base sent → is_member base.core.members from ≡ true → sets ≡ replicate slots_ahead base.core.members → slot ≤ last_slot → next r ≤ slot
    → (install_row from slot sent sets (r, mails)).0.running ≡ false
unfolding install_row
install_stops base from slot sent sets r mails fixed same m are near up =
    let many : length sets ≡ length r.sets = ap length are ∙ sym (ap length fixed.sets) in
    let no_ : (not (eqb (length sets) (length r.sets)) || (nat_lt last_slot slot || nat_lt slot (next r))) ≡ false =
    or_from (not (eqb (length sets) (length r.sets))) (nat_lt last_slot slot || nat_lt slot (next r)) (ap not (eq-eqb (length sets) (length r.sets) many))
    (or_from (nat_lt last_slot slot) (nat_lt slot (next r)) (le-ltb last_slot slot near) (le-ltb slot (next r) up)) in
    ap (λ (p : Place). p.0.running) (cond-false (not (eqb (length sets) (length r.sets)) || (nat_lt last_slot slot || nat_lt slot (next r))) (r, mails) (took_over from slot sent sets (r, mails)) no_)
    ∙ took_over_off base from slot sent sets (r, mails) same m

-- ---- rows by their mail

accept_mails : (lead : ℕ) (group : Draw) (ballot : Ballot) (slot : ℕ) (command : Command) (r : ReplicaState) → (mailed lead (Accept group ballot slot command) (r, [])).0.1 ≡ (accept_row lead ballot slot command (r, [])).1
unfolding mailed
accept_mails lead group ballot slot command r = refl

nack_mails : (from : ℕ) (group : Draw) (promised : Ballot) (r : ReplicaState) → r.running ≡ true → below r.leader.ballot promised ≡ true → (mailed from (Nack group promised) (r, [])).0.0.running ≡ false
unfolding mailed
nack_mails from group promised r on low = nack_stops r [] promised on low

install_mails : (base : Base) (from : ℕ) (group : Draw) (slot : ℕ) (sent : Base) (sets : List (List ℕ)) (r : ReplicaState) → IsFixedReplica base r → IsFixedBody base from r.me (Install group slot sent sets) → slot ≤ last_slot → next r ≤ slot
    → (mailed from (Install group slot sent sets) (r, [])).0.0.running ≡ false
unfolding mailed
install_mails base from group slot sent sets r fixed b near up = install_stops base from slot sent sets r [] fixed b.2 b.1.0 b.3 near up

module _ (bases : List Base) (fresh : AreFresh bases) where
  -- where two of these groups have one name, they are the same
  same_group : (base other : Base) → Among base bases → Among other bases → Some base.core.id ≡ Some other.core.id → base ≡ other
  same_group base other a b e = fresh.apart base other a b (let same : base.core.id ≡ other.core.id = cc in same)

  -- ---- Accept is answered

  module _ (node : NodeState) (k : IsFixedNode bases node) (bounds : (base : Base) (r : ReplicaState) → Among base bases → replica_of base.core.id node.replicas ≡ Some r → IsInBounds r)
      (mail : Mail) (m : IsFixedMail bases mail) (to : mail.to ≡ node.me) where
    answered_by : (base : Base) → Among base bases → (lead : ℕ) (ballot : Ballot) (slot : ℕ) (command : Command) → is_node lead ≡ true → mail ≡ mail_between lead node.me (Accept base.core.id ballot slot command)
        → PassesMail node mail ⊎ TakesMail bases node mail → IsAnswered (node_table node (Got mail)).1 base node.me lead ballot slot
    answered_by base a lead ballot slot command n fact (inl p) =
        absurd (elim (p.why) [
          | inl no_ ↦ true≢false (sym (ap (λ (x : Mail). may_come x.from x.body) fact ∙ n) ∙ no_)
          | inr none ↦ (let some : Some base.core.id ≡ None = sym (ap (λ (x : Mail). group_of_mail x.body) fact) ∙ none in cc)
        ])
    answered_by base a lead ballot slot command n fact (inr t) =
        let same : base ≡ t.base = same_group base t.base a t.among (sym (ap (λ (x : Mail). group_of_mail x.body) fact) ∙ t.group) in
        let found : replica_of base.core.id node.replicas ≡ Some t.replica = subst (λ (b : Base). replica_of b.core.id node.replicas ≡ Some t.replica) (sym same) t.found in
        let fixed : IsFixedReplica base t.replica = subst (λ (b : Base). IsFixedReplica b t.replica) (sym same) t.fixed in
        let answers = accept_answers base lead ballot slot command t.replica [] (ap (λ (core : Core). core.id) fixed.group) (bounds base t.replica a found) in
        subst (λ (ms : List Mail). IsAnswered ms base node.me lead ballot slot) (sym (ap (λ (step : NodeState × List Mail). step.1) t.step ∙ ap (λ (x : Mail). (mailed x.from x.body (t.replica, [])).0.1) fact ∙ accept_mails lead base.core.id ballot slot command t.replica))
        (subst (λ (me : ℕ). IsAnswered (accept_row lead ballot slot command (t.replica, [])).1 base me lead ballot slot) t.me_is answers)

    pub accept_answered : (base : Base) → Among base bases → (lead : ℕ) (ballot : Ballot) (slot : ℕ) (command : Command) → is_node lead ≡ true → mail ≡ mail_between lead node.me (Accept base.core.id ballot slot command)
        → IsAnswered (node_table node (Got mail)).1 base node.me lead ballot slot
    accept_answered base a lead ballot slot command n fact = answered_by base a lead ballot slot command n fact (mail_taken bases fresh node k mail m to)

  -- ---- a node takes a mail

  module _ (rosters : AreRosters bases) (alive : ℕ → Type 0) (nodes : (who : ℕ) → alive who → is_node who ≡ true)
      (node : NodeState) (k : IsFixedNode bases node) (slots : AllTakeSlots bases node) (living : alive node.me)
      (bounds : (base : Base) (r : ReplicaState) → Among base bases → replica_of base.core.id node.replicas ≡ Some r → IsInBounds r)
      (mail : Mail) (m : IsFixedMail bases mail) (to : mail.to ≡ node.me) (others more : List Mail) (rest : Grows others more)
      (sends : (x : Mail) → Among x (node_table node (Got mail)).1 → alive x.to → Among x more) (votes : VotesAreUnderWay bases alive (mail ∷ others) node) where
    -- its own Accept is answered
    own_asked : (base : Base) → Among base bases → (ballot : Ballot) (slot : ℕ) (command : Command) → mail ≡ mail_between node.me mail.to (Accept base.core.id ballot slot command) → IsAnswered more base mail.to node.me ballot slot
    own_asked base a ballot slot command fact =
        subst (λ (who : ℕ). IsAnswered more base who node.me ballot slot) (sym to)
        (answered_still (node_table node (Got mail)).1 more base node.me node.me ballot slot (λ x b e. sends x b (subst alive (sym e) living))
        (accept_answered node k bounds mail m to base a node.me ballot slot command (nodes node.me living) (fact ∙ ap (λ (who : ℕ). mail_between node.me who (Accept base.core.id ballot slot command)) to)))

    -- where the group's replica is as it was, and the mail is not one of the group
    stays : (base : Base) → Among base bases → (r : ReplicaState) → replica_of base.core.id node.replicas ≡ Some r → ((body : MailBody) → group_of_mail body ≡ Some base.core.id → (from : ℕ) → alive from → is_node from ≡ true → mail ≡ mail_between from mail.to body → may_come from body ≡ true → ⊥)
        → (flight : Flight Command) → Among flight r.leader.flights → (member : ℕ) → is_member base.core.members member ≡ true → alive member → IsVoteUnderWay more base node.me r.leader.ballot flight member
    stays base a r e none flight f member in_ lives =
        still_under_way mail others more base node.me member r.leader.ballot flight flight rest refl (record {
          counted = λ v. v;
          asked = λ command fact. absurd (none (Accept base.core.id r.leader.ballot flight.slot command) refl node.me living (nodes node.me living) (fact ∙ ap (λ (who : ℕ). mail_between node.me who (Accept base.core.id r.leader.ballot flight.slot command)) (sym (ap (λ (x : Mail). x.to) fact))) (nodes node.me living));
          accepted = λ fact. absurd (none (Accepted base.core.id r.leader.ballot flight.slot) refl member lives (nodes member lives) (fact ∙ ap (λ (who : ℕ). mail_between member who (Accepted base.core.id r.leader.ballot flight.slot)) (sym (ap (λ (x : Mail). x.to) fact))) (nodes member lives));
          refused = λ promised low fact. absurd (none (Nack base.core.id promised) refl member lives (nodes member lives) (fact ∙ ap (λ (who : ℕ). mail_between member who (Nack base.core.id promised)) (sym (ap (λ (x : Mail). x.to) fact))) (nodes member lives));
          installed = λ last sent sets up near fact. absurd (none (Install base.core.id last sent sets) refl member lives (nodes member lives) (fact ∙ ap (λ (who : ℕ). mail_between member who (Install base.core.id last sent sets)) (sym (ap (λ (x : Mail). x.to) fact))) (nodes member lives));
        }) (votes base a r e flight f member in_ lives)

    passes : PassesMail node mail → VotesAreUnderWay bases alive more (node_table node (Got mail)).0
    passes p =
        subst (λ (step : NodeState × List Mail). VotesAreUnderWay bases alive more step.0) (sym p.step)
        (λ base a r e. stays base a r e (λ body of from lives n fact come. elim (p.why) [
          | inl no_ ↦ true≢false (sym (ap (λ (x : Mail). may_come x.from x.body) fact ∙ come) ∙ no_)
          | inr none ↦ (let some : Some base.core.id ≡ None = sym (ap (λ (x : Mail). group_of_mail x.body) fact ∙ of) ∙ none in cc)
        ]))

    -- the replica that takes the mail
    module _ (t : TakesMail bases node mail) where
      takes_slots : TakesSlots t.base t.replica
      takes_slots = found_takes bases fresh rosters node k slots t.base t.replica t.among t.found t.fixed

      says : IsFixedBody t.base mail.from t.replica.me mail.body
      says = subst (λ (n : ℕ). IsFixedBody t.base mail.from n mail.body) (sym t.me_is) t.says

      here : is_member t.base.core.members t.replica.me ≡ true
      here = ap (is_member t.base.core.members) t.me_is ∙ t.member

      sent_is : (node_table node (Got mail)).1 ≡ (mailed mail.from mail.body (t.replica, [])).0.1
      sent_is = ap (λ (step : NodeState × List Mail). step.1) t.step

      -- a replica with something in flight runs
      runs : (flight : Flight Command) → Among flight t.replica.leader.flights → t.replica.running ≡ true
      runs flight a = elim (cases_Bool t.replica.running) [ inl on ↦ on | inr off ↦ absurd (subst (Among flight) (t.ballots.stopped off).flights a) ]

      carried : (mailed mail.from mail.body (t.replica, [])).0.0.running ≡ true → (flight : Flight Command) → IsCarried mail.from mail.body t.replica.leader.ballot t.replica.leader.flights flight → (member : ℕ) → is_member t.base.core.members member ≡ true → alive member
          → IsVoteUnderWay more t.base node.me t.replica.leader.ballot flight member
      carried on flight c member in_ lives =
          let base : Base = t.base in
          let ballot : Ballot = t.replica.leader.ballot in
          let f = fresh.each base t.among node.me t.member in
          still_under_way mail others more base node.me member ballot c.earlier flight rest c.same_slot (record {
            counted = λ v. c.kept member v;
            asked = λ command fact. (
                let who : member ≡ mail.to = sym (ap (λ (x : Mail). x.to) fact) in
                Answered (subst (λ (s : ℕ). IsAnswered more base member node.me ballot s) c.same_slot (subst (λ (w : ℕ). IsAnswered more base w node.me ballot c.earlier.slot) (sym who)
                (own_asked base t.among ballot c.earlier.slot command (fact ∙ ap (λ (w : ℕ). mail_between node.me w (Accept base.core.id ballot c.earlier.slot command)) who)))));
            accepted = λ fact. (let counts : Counts member (Accepted base.core.id ballot c.earlier.slot) ballot flight = subst (λ (x : Mail). Counts x.from x.body ballot flight) fact c.counts in Counted (counts refl c.same_slot));
            refused = λ promised low fact. absurd (true≢false (sym on ∙ (ap (λ (x : Mail). (mailed x.from x.body (t.replica, [])).0.0.running) fact ∙ nack_mails member base.core.id promised t.replica (runs c.earlier c.among) low)));
            installed = λ last sent sets up near fact. (
                let body : IsFixedBody base member t.replica.me (Install base.core.id last sent sets) = subst (λ (x : Mail). IsFixedBody base x.from t.replica.me x.body) fact says in
                let open_ = (in_open base f.free f.stands t.replica here t.fixed takes_slots c.earlier c.among).0 in
                absurd (true≢false (sym on ∙ (ap (λ (x : Mail). (mailed x.from x.body (t.replica, [])).0.0.running) fact ∙ install_mails base member base.core.id last sent sets t.replica t.fixed body near (omega (arith, open_, up))))));
          }) (votes base t.among t.replica t.found c.earlier c.among member in_ lives)

      -- the replica after the mail
      own_votes : (flight : Flight Command) → Among flight (mailed mail.from mail.body (t.replica, [])).0.0.leader.flights → (member : ℕ) → is_member t.base.core.members member ≡ true → alive member
          → IsVoteUnderWay more t.base node.me (mailed mail.from mail.body (t.replica, [])).0.0.leader.ballot flight member
      own_votes flight a member in_ lives =
          let base : Base = t.base in
          let f = fresh.each base t.among node.me t.member in
          let place : Place = (mailed mail.from mail.body (t.replica, [])).0 in
          elim (mailed_leaves base f.free f.stands (rosters base t.among) t.replica here t.fixed t.ballots takes_slots mail.from mail.body says) [
            | inl off ↦ absurd (subst (Among flight) (t.after.ballots.stopped off).flights a)
            | inr served ↦ (
                let ballot_is : place.0.leader.ballot ≡ t.replica.leader.ballot = served.serves.ballot_is in
                let u = Each-among (IsUnderWay base t.replica.me t.replica.leader.ballot (λ (x : Flight Command). IsCarried mail.from mail.body t.replica.leader.ballot t.replica.leader.flights x) place.1) place.0.leader.flights flight served.serves.flights a in
                subst (λ (b : Ballot). IsVoteUnderWay more base node.me b flight member) (sym ballot_is)
                (elim (u.from) [
                  | inl c ↦ carried served.serves.running flight c member in_ lives
                  | inr asked ↦ elim (asked member (member-among base.core.members member in_)) [
                    | inl voted ↦ Counted voted
                    | inr one ↦ Asked one.0 (sends _ (subst (λ (ms : List Mail). Among (mail_between node.me member (Accept base.core.id t.replica.leader.ballot flight.slot one.0)) ms) (sym sent_is)
                        (subst (λ (me : ℕ). Among (mail_between me member (Accept base.core.id t.replica.leader.ballot flight.slot one.0)) place.1) t.me_is one.1)) lives)
                  ]
                ]))
          ]

      name_after : name_of (mailed mail.from mail.body (t.replica, [])).0.0 ≡ t.base.core.id
      name_after = ap (λ (core : Core). core.id) t.after.fixed.group

      takes : VotesAreUnderWay bases alive more (node_table node (Got mail)).0
      takes = subst (λ (step : NodeState × List Mail). VotesAreUnderWay bases alive more step.0) (sym t.step) (λ base a r e. by base a r e (same_draw base.core.id t.base.core.id) refl)
        where
          by : (base : Base) → Among base bases → (r : ReplicaState) → replica_of base.core.id (with_replica t.base.core.id (mailed mail.from mail.body (t.replica, [])).0.0 node.replicas) ≡ Some r → (b : Bool) → same_draw base.core.id t.base.core.id ≡ b
              → (flight : Flight Command) → Among flight r.leader.flights → (member : ℕ) → is_member base.core.members member ≡ true → alive member → IsVoteUnderWay more base node.me r.leader.ballot flight member
          by base a r e true same flight f member in_ lives =
              let one : base ≡ t.base = fresh.apart base t.base a t.among (draw_is base.core.id t.base.core.id same) in
              let found = put_found t.base.core.id (mailed mail.from mail.body (t.replica, [])).0.0 t.replica node.replicas name_after t.found in
              let fact : (mailed mail.from mail.body (t.replica, [])).0.0 ≡ r = some_is (sym found ∙ ap (λ (b : Base). replica_of b.core.id (with_replica t.base.core.id (mailed mail.from mail.body (t.replica, [])).0.0 node.replicas)) (sym one) ∙ e) in
              subst (λ (b : Base). IsVoteUnderWay more b node.me r.leader.ballot flight member) (sym one)
              (subst (λ (x : ReplicaState). IsVoteUnderWay more t.base node.me x.leader.ballot flight member) fact
              (own_votes flight (subst (λ (x : ReplicaState). Among flight x.leader.flights) (sym fact) f) member (subst (λ (b : Base). is_member b.core.members member ≡ true) one in_) lives))
          by base a r e false other flight f member in_ lives =
              let ne : base.core.id ≡ t.base.core.id → ⊥ = λ same. true≢false (sym (same_name base.core.id t.base.core.id same) ∙ other) in
              stays base a r (sym (put_others t.base.core.id base.core.id (mailed mail.from mail.body (t.replica, [])).0.0 node.replicas name_after ne) ∙ e)
              (λ body of from l n fact come. ne (let ids : Some base.core.id ≡ Some t.base.core.id = sym (ap (λ (x : Mail). group_of_mail x.body) fact ∙ of) ∙ t.group in some_is ids)) flight f member in_ lives

    -- the votes for what its replicas have in flight stay counted or under way
    pub votes_after_mail : VotesAreUnderWay bases alive more (node_table node (Got mail)).0
    votes_after_mail = elim (mail_taken bases fresh node k mail m to) [ inl p ↦ passes p | inr t ↦ takes t ]
