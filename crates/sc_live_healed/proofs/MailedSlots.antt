-- Each mail leaves a replica of a group that is not reshaped stopped, or with its slots taken as they should be; and so does its birth.
use Rattle.std.proofs.Common.{◌≡◌, ℕ, ◌+◌, ◌<◌, ◌==◌, true, false, List, [], count_by, true≢false, None, ◌⊎◌, inl, inr, refl, sym, ◌∙◌, ap, subst, arith}
use Rattle.std.proofs.lemmas.Bool.{cases_Bool, and_parts}
use Rattle.sc_base.specs.Definitions.{Among, Each, is_member, IsRoster}
use Rattle.sc_node_table.specs.Values.{Base, Command, Free, Flight, Report, MailBody, Request, Answer, Prepare, Promise, Accept, Accepted, Nack, Learn, Ask, Install}
use Rattle.sc_node_table.specs.NodeDefinitions.{ReplicaState, Place, next, settled, may_offer, first_set, slots_ahead, born_replica, mailed}
use Rattle.sc_live_plain.specs.PlainDefinitions.{AreTaken, takers}
use Rattle.sc_live_healed.specs.HealedDefinitions.{IsFixedReplica, IsFixedBody, IsFollower, KeepsBallots, IsUndecided, TakesSlots, Counts, IsCarried}
use Rattle.sc_live_healed.proofs.ExecutedSlots.{range_none}
use Rattle.sc_live_healed.proofs.ReadySlots.{HasServed, served_takes}
use Rattle.sc_live_healed.proofs.ServedRows.{requests, prepares, promises_count, accepts, nacks, learns, asks, installs, unchanged}
use Rattle.sc_live_healed.proofs.VotedSlots.{accepted_serves}
use Rattle.sc_live_healed.proofs.StoppedRows.{stopped_requests, stopped_prepares, stopped_promises, stopped_accepts, stopped_votes, stopped_nacks, stopped_learns, stopped_asks, stopped_installs}

-- ---- where nothing is in flight, ready or queued

-- no slot is taken
pub none_taken : (r : ReplicaState) → r.leader.flights ≡ [] → r.ready ≡ [] → AreTaken r 0
none_taken r f e = record { most = omega arith; once = λ slot. none slot ∙ sym (range_none (next r) slot) }
  where
    none : (slot : ℕ) → takers r slot ≡ 0
    none slot =
        ap (λ (fs : List (Flight Command)). takers (record r { leader = record r.leader { flights = fs } }) slot) f
        ∙ ap (λ (es : List (ℕ × Command)). takers (record r { leader = record r.leader { flights = [] }; ready = es }) slot) e

pub empty_takes : (base : Base) (r : ReplicaState) → r.leader.flights ≡ [] → r.ready ≡ [] → (settled r ≡ true → (r.backlog ≡ []) × (r.leader.reports ≡ [])) → TakesSlots base r
empty_takes base r f e rest = record {
  taken = 0;
  slots = none_taken r f e;
  room = inl refl;
  executed = ap (λ (es : List (ℕ × Command)). count_by (λ (entry : ℕ × Command). entry.0 == next r) es) e;
  undecided = subst (Each (IsUndecided base)) (sym f) tt;
  offered = λ t near. inr ((rest t).0, subst (Each (λ (report : Report Command). report.slot < next r + 0)) (sym (rest t).1) tt);
}

-- one that does not run has taken none
pub follower_takes : (base : Base) (r : ReplicaState) → r.running ≡ false → IsFollower base r → TakesSlots base r
follower_takes base r off follows = empty_takes base r follows.flights follows.ready (λ t. absurd (true≢false (sym (and_parts r.running (may_offer r (first_set r.sets)) t).0 ∙ off)))

-- the replicas of a group at its birth have taken none
pub born_takes : (base : Base) (me : ℕ) → TakesSlots base (born_replica slots_ahead me base)
born_takes base me = empty_takes base (born_replica slots_ahead me base) refl refl (λ t. (refl, refl))

-- ---- each mail

module _ (base : Base) (free : base.core.lock ≡ Free) (stands : base.core.gone ≡ None) (roster : IsRoster base.core.members) (r : ReplicaState) (member : is_member base.core.members r.me ≡ true) (fixed : IsFixedReplica base r) (ballots : KeepsBallots base r) (takes : TakesSlots base r) (from : ℕ) where
  -- what is in flight after the mail
  abbrev pub Carried : MailBody → Flight Command → Type 0
  Carried body flight = IsCarried from body r.leader.ballot r.leader.flights flight

  -- what the mail leaves
  abbrev pub Leaves : MailBody → Place → Type 0
  Leaves body place = (place.0.running ≡ false) ⊎ HasServed base r.me r.leader.ballot (Carried body) place

  -- what was in flight, where the mail is no vote for it
  held : (body : MailBody) → ((flight : Flight Command) → Counts from body r.leader.ballot flight) → (flight : Flight Command) → Among flight r.leader.flights → Carried body flight
  held body counts flight a = record { earlier = flight; among = a; same_slot = refl; kept = λ node v. v; counts = counts flight }

  runs : (body : MailBody) → r.running ≡ true → IsFixedBody base from r.me body → Leaves body (mailed from body (r, [])).0
  unfolding mailed
  runs (Request group client seq op) on b = requests base r.me r.leader.ballot (Carried (Request group client seq op)) free stands member r fixed ballots takes on refl refl (held (Request group client seq op) (λ flight. tt)) client seq op []
  runs (Prepare group seen from_slot) on b = prepares base r.me r.leader.ballot (Carried (Prepare group seen from_slot)) free stands member r fixed ballots takes on refl refl (held (Prepare group seen from_slot) (λ flight. tt)) from seen from_slot []
  runs (Promise group seen reports) on b = promises_count base r.me r.leader.ballot (Carried (Promise group seen reports)) free stands member r fixed ballots takes on refl refl (held (Promise group seen reports) (λ flight. tt)) from seen reports [] b.3
  runs (Accept group seen slot command) on b = accepts base r.me r.leader.ballot (Carried (Accept group seen slot command)) free stands member r fixed ballots takes on refl refl (held (Accept group seen slot command) (λ flight. tt)) from seen slot command []
  runs (Nack group promised) on b = nacks base r.me r.leader.ballot (Carried (Nack group promised)) free stands member r fixed ballots takes on refl refl (held (Nack group promised) (λ flight. tt)) promised []
  runs (Learn group slot command) on b = learns base r.me r.leader.ballot (Carried (Learn group slot command)) free stands member r fixed ballots takes on refl refl (held (Learn group slot command) (λ flight. tt)) from slot command [] b.2
  runs (Ask group from_slot) on b = asks base r.me r.leader.ballot (Carried (Ask group from_slot)) free stands member r fixed ballots takes on refl refl (held (Ask group from_slot) (λ flight. tt)) from from_slot []
  runs (Install group slot sent sets) on b = installs base r.me r.leader.ballot (Carried (Install group slot sent sets)) free stands member r fixed ballots takes on refl refl (held (Install group slot sent sets) (λ flight. tt)) from slot sent sets [] b.2 b.1.0
  runs (Accepted group seen slot) on b = inr (accepted_serves base free stands roster r member fixed takes on group from slot b.1.0 [] seen)
  runs (Answer group seq answer) on b = inr (unchanged base r.me r.leader.ballot (Carried (Answer group seq answer)) free stands member r fixed ballots takes on refl refl (held (Answer group seq answer) (λ flight. tt)) [])
  runs _ on b = absurd b

  idles : (body : MailBody) → r.running ≡ false → IsFixedBody base from r.me body → (mailed from body (r, [])).0.0.running ≡ false
  unfolding mailed
  idles (Request group client seq op) off b = stopped_requests base free stands r member fixed off (ballots.stopped off) client seq op []
  idles (Prepare group seen from_slot) off b = stopped_prepares base free stands r member fixed off (ballots.stopped off) from seen from_slot []
  idles (Promise group seen reports) off b = stopped_promises base free stands r member fixed off (ballots.stopped off) from seen reports []
  idles (Accept group seen slot command) off b = stopped_accepts base free stands r member fixed off (ballots.stopped off) from seen slot command []
  idles (Accepted group seen slot) off b = stopped_votes base free stands r member fixed off (ballots.stopped off) from seen slot []
  idles (Nack group promised) off b = stopped_nacks base free stands r member fixed off (ballots.stopped off) promised []
  idles (Learn group slot command) off b = stopped_learns base free stands r member fixed off (ballots.stopped off) from slot command [] b.2
  idles (Ask group from_slot) off b = stopped_asks base free stands r member fixed off (ballots.stopped off) from from_slot []
  idles (Install group slot sent sets) off b = stopped_installs base free stands r member fixed off (ballots.stopped off) from slot sent sets [] b.2 b.1.0
  idles (Answer group seq answer) off b = off
  idles _ off b = absurd b

  -- a mail of the group leaves the replica stopped, or with its slots taken as they should be
  pub mailed_leaves : (body : MailBody) → IsFixedBody base from r.me body → Leaves body (mailed from body (r, [])).0
  mailed_leaves body b = elim (cases_Bool r.running) [ inl on ↦ runs body on b | inr off ↦ inl (idles body off b) ]

  pub mailed_takes : (body : MailBody) → IsFixedBody base from r.me body → KeepsBallots base (mailed from body (r, [])).0.0 → TakesSlots base (mailed from body (r, [])).0.0
  mailed_takes body b after =
      let place : Place = (mailed from body (r, [])).0 in
      elim (mailed_leaves body b) [ inl off ↦ follower_takes base place.0 off (after.stopped off) | inr served ↦ served_takes base r.me r.leader.ballot (Carried body) place served ]
