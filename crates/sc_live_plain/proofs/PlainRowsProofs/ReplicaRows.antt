-- What a replica of a plain group does with each mail, and that it stays plain.
use Rattle.std.proofs.Common.{◌≡◌, ℕ, ◌+◌, ◌≤◌, ◌&&◌, true, false, List, [], ◌∷◌, Some, ◌⊎◌, inl, inr, refl, sym, ◌∙◌, ap, subst, arith}
use Rattle.std.proofs.lemmas.Bool.{cases_Bool, both_ways, and_left, and_right}
use Rattle.sc_base.specs.Definitions.{Each, client_actor, is_member}
use Rattle.sc_node_table.specs.Values.{Ballot, Draw, Op, Command, Call, Core, Mail, MailBody, Request, Answer, Accept, Accepted, Learn}
use Rattle.sc_words.specs.ideal.IdealDefinitions.{key_of, holds_key}
use Rattle.sc_mail.specs.declared.bodies.AnswerBody.TheVariants as Says
use Rattle.sc_words.specs.paxos.PaxosDefinitions.{below}
use Rattle.sc_words.proofs.PaxosProofs.PaxosLemmas.{at_least_itself, Each-weaker}
use Rattle.sc_node_table.specs.NodeDefinitions.{ReplicaState, Place, name_of, next, last_slot, mailed, slots_ahead}
use Rattle.sc_live_plain.specs.PlainDefinitions.{Frame, IsFrame, Requests, IsPlainCall, IsPlainCommand, IsPlainBody, AreTaken, IsPlainLeader, IsPlainFollower, IsPlainVoter, IsPlainReplica, HasOffered, IsLeading, IsSettled, IsPlainAt, IsDue}
use Rattle.sc_live_plain.proofs.LeadersProofs.LeaderRequests.{request_refused, request_run}
use Rattle.sc_live_plain.proofs.LeadersProofs.LeadingReplicas.{IsHeld, IsSaid}
use Rattle.sc_live_plain.proofs.LeadersProofs.PlainPumps.{call_is}
use Rattle.sc_live_plain.proofs.LeadersProofs.LeaderExecutions.{IsRun}
use Rattle.sc_live_plain.proofs.PlainRowsProofs.RepeatedMail.{mail_of}
use Rattle.sc_live_plain.proofs.PlainRowsProofs.PlainAcceptAndLearnRows.{accepted_state, accept_is, accepted_voter, as_voter, accepted_plain, accepted_hint, accepted_me, accepted_group, accepted_next, accepted_flights, accepted_held, accepted_slots, accepted_follower, accepted_leader, accepted_done, learn_is, learnt_none, learnt_plain, learnt_follower, learnt_next}
use Rattle.sc_live_plain.proofs.LeadersProofs.CountedVotes.{IsCounted, accepted_counted, accepted_none}

module _ (begun : Requests) (frame : Frame) (fact : IsFrame frame) where
  -- the replica at the leading node leads
  pub leading_at : (me : ℕ) (r : ReplicaState) → me ≡ frame.lead → IsPlainAt begun frame me r → IsPlainReplica begun frame frame.lead r × IsLeading begun frame r
  leading_at me r e (inl (p, inl k)) = (subst (λ m. IsPlainReplica begun frame m r) e p, k.1)
  leading_at me r e (inl (p, inr k)) = absurd (k.0 e)
  leading_at me r e (inr k) = absurd (both_ways (is_member frame.core.members me) k.left (ap (is_member frame.core.members) e ∙ fact.leads))

  -- the replica of another member follows
  pub following_at : (me : ℕ) (r : ReplicaState) → is_member frame.core.members me ≡ true → (me ≡ frame.lead → ⊥) → IsPlainAt begun frame me r → IsPlainReplica begun frame me r × IsPlainFollower r
  following_at me r m ne (inl (p, inl k)) = absurd (ne k.0)
  following_at me r m ne (inl (p, inr k)) = (p, k.1)
  following_at me r m ne (inr k) = absurd (both_ways (is_member frame.core.members me) k.left m)

  -- none stops for the ballot of the frame
  pub none_stops : (me : ℕ) (r : ReplicaState) → IsPlainAt begun frame me r → (r.running && below r.leader.ballot frame.ballot) ≡ false
  none_stops me r (inl (p, inl k)) = and_right r.running (below r.leader.ballot frame.ballot) (ap (λ (b : Ballot). below b frame.ballot) k.1.leader.ballot_is ∙ at_least_itself frame.ballot)
  none_stops me r (inl (p, inr k)) = and_left r.running (below r.leader.ballot frame.ballot) k.1.stopped
  none_stops me r (inr k) = and_left r.running (below r.leader.ballot frame.ballot) k.follower.stopped

  -- ---- what is done with it

  -- the client of a request is sent on
  pub record DidRefuse (r : ReplicaState) (client seq : ℕ) (op : Op) (place : Place) : Type 0 where
    pub lacks : holds_key frame.core.arc (key_of op) ≡ false
    pub place_is : place ≡ (r, mail_of frame.lead (client_actor client) (Answer frame.core.id seq (Says.NotMine frame.core.arc frame.core.succ)) ∷ [])

  -- a request is queued, and queued requests are offered
  pub record DidQueue (r : ReplicaState) (client seq : ℕ) (op : Op) (place : Place) : Type 0 where
    pub taken : ℕ
    pub plain : IsPlainReplica begun frame frame.lead r
    pub leader : IsPlainLeader begun frame taken r
    pub done : HasOffered taken r
    pub run : IsRun begun frame fact (next r) (next r + taken) r.leader.flights (λ c n. IsHeld r c n ⊎ ((c ≡ client) × (n ≤ seq))) place

  -- a vote is counted, and what it decides is executed
  pub record DidCount (r : ReplicaState) (from slot : ℕ) (place : Place) : Type 0 where
    pub taken : ℕ
    pub plain : IsPlainReplica begun frame frame.lead r
    pub leader : IsPlainLeader begun frame taken r
    pub done : HasOffered taken r
    pub room : next r + taken ≤ last_slot
    pub counted : IsCounted begun frame fact taken r plain leader done room from slot place

  -- a command is accepted
  pub record DidAccept (me from slot : ℕ) (r : ReplicaState) (place : Place) : Type 0 where
    pub hint_is : place.0.hint ≡ Some frame.lead
    pub me_is : place.0.me ≡ r.me
    pub group_is : place.0.group ≡ r.group
    pub sends : place.1 ≡ mail_of me from (Accepted frame.core.id frame.ballot slot) ∷ []
    pub next_is : next place.0 ≡ next r
    pub flights_are : place.0.leader.flights ≡ r.leader.flights
    pub held : (c n : ℕ) → IsHeld r c n → IsHeld place.0 c n
    pub slots : (taken : ℕ) → AreTaken r taken → AreTaken place.0 taken

  -- a command is executed by one that does not lead
  pub record DidLearn (me slot : ℕ) (r : ReplicaState) (place : Place) : Type 0 where
    pub follows : me ≡ frame.lead → ⊥
    pub follower : IsPlainFollower r
    pub sends : place.1 ≡ []
    pub next_is : next place.0 ≡ next r + 1
    pub flights_are : place.0.leader.flights ≡ []

  abbrev pub Does : ℕ → ReplicaState → ℕ → MailBody → Place → Type 0
  Does me r from (Request group client seq op) place = (me ≡ frame.lead) × (DidRefuse r client seq op place ⊎ DidQueue r client seq op place)
  Does me r from (Accept group ballot slot command) place = DidAccept me from slot r place
  Does me r from (Accepted group ballot slot) place = (me ≡ frame.lead) × DidCount r from slot place
  Does me r from (Learn group slot command) place = DidLearn me slot r place
  Does me r from _ place = ⊥

  -- the replica stays plain, sends plain mail, and makes no child
  pub record ReplicaRow (me : ℕ) (r : ReplicaState) (from : ℕ) (body : MailBody) (place : Place) : Type 0 where
    pub after : IsPlainAt begun frame me place.0
    pub name_is : name_of place.0 ≡ frame.core.id
    pub said : Each (λ mail. IsPlainBody begun frame mail.from mail.to mail.body) place.1
    pub response : Does me r from body place

  abbrev Row : ℕ → ReplicaState → ℕ → MailBody → Type 0
  Row me r from body = ReplicaRow me r from body (mailed from body (r, [])).0 × ((mailed from body (r, [])).1 ≡ [])

  module _ (r : ReplicaState) (from : ℕ) (room : next r + slots_ahead ≤ last_slot) where
    -- ---- a request

    said_plain : (first free next_ end : ℕ) (mails : List Mail) → Each (IsSaid begun frame first free next_ end) mails → Each (λ mail. IsPlainBody begun frame mail.from mail.to mail.body) mails
    said_plain first free next_ end mails e = Each-weaker (IsSaid begun frame first free next_ end) (λ (mail : Mail). IsPlainBody begun frame mail.from mail.to mail.body) (λ mail s. s.plain) mails e

    open_room : (taken : ℕ) → IsPlainLeader begun frame taken r → next r + taken ≤ last_slot
    open_room taken l = (let most = l.slots.most in omega (arith, most, room))

    request_leading : (group : Draw) (client seq : ℕ) (op : Op) → IsPlainReplica begun frame frame.lead r → IsLeading begun frame r → begun client seq op → Row frame.lead r from (Request group client seq op)
    unfolding mailed
    request_leading group client seq op p k b =
        elim (cases_Bool (holds_key frame.core.arc (key_of op))) [
          | inl h ↦ (
              let run = request_run begun frame fact k.taken r p k.leader k.done (open_room k.taken k.leader) client seq op (record { is_begun = b; held = h }) in (
                record {
                  after = inl (run.leads.plain, inl (refl, record { taken = run.taken; leader = run.leads.leader; done = run.done }));
                  name_is = ap (λ (core : Core). core.id) run.leads.plain.group.core_is;
                  said = said_plain _ _ _ _ _ run.leads.said;
                  response = (refl, inr (record { taken = k.taken; plain = p; leader = k.leader; done = k.done; run = run }));
                },
                refl,
              ))
          | inr f ↦ (
              let place_is = request_refused begun frame fact k.taken r p k.leader client seq op f in
              let after : Place = (r, mail_of frame.lead (client_actor client) (Answer frame.core.id seq (Says.NotMine frame.core.arc frame.core.succ)) ∷ []) in (
                subst (ReplicaRow frame.lead r from (Request group client seq op)) (sym place_is) (record {
                  after = inl (p, inl (refl, k));
                  name_is = ap (λ (core : Core). core.id) p.group.core_is;
                  said = ((refl, record { client = client; op = op; from_is = refl; to_is = refl; is_begun = b; says = (f, refl, refl) }), tt);
                  response = (refl, inl (record { lacks = f; place_is = refl }));
                }),
                refl,
              ))
        ]

    -- ---- a vote

    vote_leading : (group : Draw) (slot : ℕ) → IsPlainReplica begun frame frame.lead r → IsLeading begun frame r → is_member (frame.at slot) from ≡ true → Row frame.lead r from (Accepted group frame.ballot slot)
    unfolding mailed
    vote_leading group slot p k m =
        let counted = accepted_counted begun frame fact k.taken r p k.leader k.done (open_room k.taken k.leader) from slot m in
        let run = counted.run in (
          record {
            after = inl (run.leads.plain, inl (refl, record { taken = run.taken; leader = run.leads.leader; done = run.done }));
            name_is = ap (λ (core : Core). core.id) run.leads.plain.group.core_is;
            said = said_plain _ _ _ _ _ run.leads.said;
            response = (refl, record { taken = k.taken; plain = p; leader = k.leader; done = k.done; room = open_room k.taken k.leader; counted = counted });
          },
          accepted_none begun frame fact k.taken r p k.leader k.done (open_room k.taken k.leader) from slot m,
        )

    -- ---- an accept

    settled_still : (me slot : ℕ) (command : Command) → IsSettled begun frame me r → IsSettled begun frame me (accepted_state frame r slot command)
    settled_still me slot command (inl k) =
        inl (k.0, record { taken = k.1.taken; leader = accepted_leader frame r slot command begun k.1.taken k.1.leader; done = accepted_done frame r slot command k.1.taken k.1.done })
    settled_still me slot command (inr k) = inr (k.0, accepted_follower frame r slot command k.1)

    did_accept : (me slot : ℕ) (command : Command) → DidAccept me from slot r (accepted_state frame r slot command, mail_of me from (Accepted frame.core.id frame.ballot slot) ∷ [])
    did_accept me slot command = record {
      hint_is = accepted_hint frame r slot command;
      me_is = accepted_me frame r slot command;
      group_is = accepted_group frame r slot command;
      sends = refl;
      next_is = accepted_next frame r slot command;
      flights_are = accepted_flights frame r slot command;
      held = accepted_held frame r slot command;
      slots = accepted_slots frame r slot command;
    }

    accept_row_is : (me : ℕ) (group : Draw) (slot : ℕ) (command : Command) → IsPlainVoter frame me r → IsPlainAt begun frame me r → IsPlainAt begun frame me (accepted_state frame r slot command) → from ≡ frame.lead → is_member (frame.at slot) me ≡ true → next r ≤ slot
        → Row me r from (Accept group frame.ballot slot command)
    unfolding mailed
    accept_row_is me group slot command v k after f m low =
        let place_is = accept_is frame fact me r v from slot command low (none_stops me r k) in (
          subst (ReplicaRow me r from (Accept group frame.ballot slot command)) (sym place_is) (record {
            after = after;
            name_is = (accepted_voter frame fact me r v slot command).name_is;
            said = ((refl, refl, f, m), tt);
            response = did_accept me slot command;
          }),
          refl,
        )

    accept_any : (me : ℕ) (group : Draw) (slot : ℕ) (command : Command) → IsPlainAt begun frame me r → from ≡ frame.lead → is_member (frame.at slot) me ≡ true → next r ≤ slot → Row me r from (Accept group frame.ballot slot command)
    accept_any me group slot command (inl k) f m low =
        accept_row_is me group slot command (as_voter begun frame fact me r k.0) (inl k) (inl (accepted_plain begun frame fact me r k.0 slot command, settled_still me slot command k.1)) f m low
    accept_any me group slot command (inr k) f m low =
        let v : (s : ℕ) → is_member (frame.at s) me ≡ true → IsPlainVoter frame me (accepted_state frame r slot command) = λ s n. accepted_voter frame fact me r (k.voter s n) slot command in
        accept_row_is me group slot command (k.voter slot m) (inr k) (inr (record { left = k.left; follower = accepted_follower frame r slot command k.follower; voter = v })) f m low

    -- ---- a decided command

    learn_follower : (me : ℕ) (group : Draw) (slot client seq : ℕ) (op : Op) → IsPlainReplica begun frame me r → IsPlainFollower r → (me ≡ frame.lead → ⊥) → IsPlainCall begun frame client seq op → slot ≡ next r
        → Row me r from (Learn group slot (Call client seq op))
    unfolding mailed
    learn_follower me group slot client seq op p f ne c at =
        let low : next r ≤ last_slot = omega (arith, room) in
        let place_is = learn_is begun frame fact me r p f fact.leads client seq op c low from slot at in
        let after = learnt_follower begun frame fact me r p f fact.leads client seq op c low in (
          subst (ReplicaRow me r from (Learn group slot (Call client seq op))) (sym place_is) (record {
            after = inl (learnt_plain begun frame fact me r p f fact.leads client seq op c low, inr (ne, after));
            name_is = ap (λ (core : Core). core.id) (learnt_plain begun frame fact me r p f fact.leads client seq op c low).group.core_is;
            said = tt;
            response = record { follows = ne; follower = f; sends = refl; next_is = learnt_next begun frame fact me r p f fact.leads client seq op c low; flights_are = after.flights };
          }),
          learnt_none begun frame fact me r p f fact.leads client seq op c low from slot at,
        )

    -- ---- each mail

    pub replica_row : (me : ℕ) (body : MailBody) → IsPlainAt begun frame me r → IsPlainBody begun frame from me body → IsDue r body → ((client seq : ℕ) (op : Op) → begun client seq op → me ≡ client_actor client → ⊥) → Row me r from body
    replica_row me (Request group client seq op) k b due not_client =
        let e = b.1.to_is in
        let leads = leading_at me r e k in
        subst (λ m. Row m r from (Request group client seq op)) (sym e) (request_leading group client seq op leads.0 leads.1 b.1.is_begun)
    replica_row me (Accepted group ballot slot) k b due not_client =
        let e = b.2 in
        let leads = leading_at me r e k in
        subst (λ (x : Ballot). Row me r from (Accepted group x slot)) (sym b.1) (subst (λ m. Row m r from (Accepted group frame.ballot slot)) (sym e) (vote_leading group slot leads.0 leads.1 b.3))
    replica_row me (Accept group ballot slot command) k b due not_client = subst (λ (x : Ballot). Row me r from (Accept group x slot command)) (sym b.1) (accept_any me group slot command k b.2.from_is b.2.to_in due)
    replica_row me (Learn group slot command) k b due not_client =
        let c = call_is begun frame fact 0 0 [] (λ x y. ⊥) command b.1.is_call in
        let plain : IsPlainCall begun frame c.0 c.1 c.2 = subst (IsPlainCommand begun frame) c.3 b.1.is_call in
        let follows = following_at me r b.1.to_in b.1.other k in
        subst (λ (x : Command). Row me r from (Learn group slot x)) (sym c.3) (learn_follower me group slot c.0 c.1 c.2 follows.0 follows.1 b.1.other plain due)
    replica_row me (Answer group seq answer) k b due not_client = absurd (not_client b.1.client seq b.1.op b.1.is_begun b.1.to_is)
    replica_row me _ k b due not_client = absurd b
