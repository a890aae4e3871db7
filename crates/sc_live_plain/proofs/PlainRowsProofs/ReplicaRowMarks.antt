-- What the rows of a plain group's replicas do, as marks.
use Rattle.std.proofs.Common.{◌≡◌, ℕ, ◌+◌, ◌≤◌, eqb, true, List, [], ◌∷◌, map, Option, Some, None, inl, inr, refl, sym, ◌∙◌, ap, subst, arith}
use Rattle.std.specs.Option.{option_map}
use Rattle.std.proofs.lemmas.Bool.{cases_eq, cond-true, cond-false, eq-eqb, ne_eqb}
use Rattle.sc_base.specs.Definitions.{Each, same_draw, is_member}
use Rattle.sc_base.proofs.Lemmas.{same_name}
use Rattle.sc_node_table.specs.Values.{Command, Mail, Accepted, Flight}
use Rattle.sc_words.specs.paxos.PaxosDefinitions.{flight_at, kept_voters}
use Rattle.sc_node_table.specs.NodeDefinitions.{ReplicaState, Place, next}
use Rattle.sc_live_plain.specs.PlainDefinitions.{Frame, Mark, Asks, Votes, Teaches, Other, mark, voters_in, marks_for, IsOther, IsCount, MovesBy, Requests, AreTaken}
use Rattle.sc_live_plain.proofs.PlainRowsProofs.LeaderMarks.{IsHeldOn, held_same, leads_moves}
use Rattle.sc_live_plain.proofs.PlainRowsProofs.SlotCounts.{one_no, find_none}
use Rattle.sc_live_plain.proofs.LeadersProofs.LeadingReplicas.{in_range, range_behind, Leads}
use Rattle.sc_live_plain.proofs.PlainRowsProofs.RepeatedMail.{mail_of}
use Rattle.sc_live_plain.proofs.LeadersProofs.CountedVotes.{IsVoted}

module _ (frame : Frame) (me : ℕ) (r : ReplicaState) (taken : ℕ) where
  -- a replica that stays as it is, of whose group nothing is sent
  pub idle_moves : (mark : Mark) (sent : List Mail) → mark ≡ Other → ((who : ℕ) → Each IsOther (marks_for frame.core.id who sent)) → MovesBy frame me r taken r taken mark sent
  idle_moves mark sent none others = λ one two v w own. inl record {
    takes = none;
    next = w.next ∙ sym v.next;
    bound = elim (cases_eq me frame.lead) [ inl fact ↦ w.bound fact ∙ sym (v.bound fact) | inr ne ↦ own.bound ne ];
    voters = λ slot. elim (cases_eq me frame.lead) [ inl fact ↦ w.voters fact slot ∙ sym (v.voters fact slot) | inr ne ↦ own.voters ne slot ];
    sends = others;
  }

  -- the vote of a node
  vote : ℕ → Mail
  vote slot = mail_of me frame.lead (Accepted frame.core.id frame.ballot slot)

  vote_lead : (slot : ℕ) → marks_for frame.core.id frame.lead (vote slot ∷ []) ≡ Votes me slot ∷ []
  unfolding vote
  vote_lead slot =
      ap (λ l. map (mark frame.core.id) l) (cond-true (eqb frame.lead frame.lead) (vote slot ∷ []) [] (eq-eqb frame.lead frame.lead refl))
      ∙ ap (λ m. m ∷ []) (cond-true (same_draw frame.core.id frame.core.id) (Votes me slot) Other (same_name frame.core.id frame.core.id refl))

  vote_others : (slot who : ℕ) → (who ≡ frame.lead → ⊥) → Each IsOther (marks_for frame.core.id who (vote slot ∷ []))
  unfolding vote
  vote_others slot who ne =
      subst (λ l. Each IsOther (map (mark frame.core.id) l)) (sym (cond-false (eqb frame.lead who) (vote slot ∷ []) [] (ne_eqb frame.lead who (λ e. ne (sym e))))) tt

  -- a replica that accepts, with the slots and votes that it had
  pub accept_moves : (after : ReplicaState) (slot : ℕ) → next after ≡ next r → after.leader.flights ≡ r.leader.flights → MovesBy frame me r taken after taken (Asks slot) (mail_of me frame.lead (Accepted frame.core.id frame.ballot slot) ∷ [])
  unfolding vote
  accept_moves after slot same flights = λ one two v w own. inr (inl record {
    slot = slot;
    takes = refl;
    next = w.next ∙ (same ∙ sym v.next);
    bound = elim (cases_eq me frame.lead) [ inl fact ↦ w.bound fact ∙ (ap (λ n. n + taken) same ∙ sym (v.bound fact)) | inr ne ↦ own.bound ne ];
    voters = λ other. elim (cases_eq me frame.lead) [ inl fact ↦ w.voters fact other ∙ (ap (λ fs. voters_in fs other) flights ∙ sym (v.voters fact other)) | inr ne ↦ own.voters ne other ];
    lead = vote_lead slot;
    others = vote_others slot;
  })

  -- a replica that learns
  pub learn_moves : (after : ReplicaState) (slot : ℕ) → (me ≡ frame.lead → ⊥) → is_member frame.core.members me ≡ true → next after ≡ next r + 1 → MovesBy frame me r taken after taken (Teaches slot) []
  learn_moves after slot follows member more = λ one two v w own. inr (inr (inl record {
    slot = slot;
    takes = refl;
    follows = follows;
    member = member;
    next = w.next ∙ (more ∙ ap (λ n. n + 1) (sym v.next));
    bound = own.bound follows;
    voters = λ other. own.voters follows other;
    sends = λ who. tt;
  }))

-- ---- votes that are counted

-- no flight is at a slot that is not taken
pub past_taken : (r : ReplicaState) (taken slot : ℕ) → AreTaken r taken → next r + taken ≤ slot → flight_at slot r.leader.flights ≡ None
past_taken r taken slot a high =
    let once = a.once slot in
    let none = one_no (in_range (next r) taken slot) (range_behind (next r) taken slot high) in
    find_none (λ (f : Flight Command). eqb f.slot slot) r.leader.flights (omega (arith, once, none))

module _ (from slot : ℕ) (flights held : List (Flight Command)) (v : IsVoted from slot flights held) where
  abbrev kept_in : Option (Flight Command) → Option (List ℕ)
  kept_in o = option_map (λ (flight : Flight Command). kept_voters flight.voters) o

  voted_before : (other : ℕ) (voters : List ℕ) → voters_in held other ≡ Some voters → (was : List ℕ) × (voters_in flights other ≡ Some was) × ((node : ℕ) → is_member was node ≡ true → is_member voters node ≡ true) × ((node : ℕ) → Votes from slot ≡ Votes node other → is_member voters node ≡ true)
  voted_before other voters e = elim (cases_eq other slot) [
    | inl fact ↦ here other voters fact (flight_at other held) refl e
    | inr ne ↦ (voters, ap kept_in (sym (v.others other ne)) ∙ e, (λ node m. m), (λ node same. absurd (ne (let at : slot ≡ other = cc in sym at))))
  ]
    where
      here : (other : ℕ) (voters : List ℕ) → other ≡ slot → (o : Option (Flight Command)) → flight_at other held ≡ o → kept_in o ≡ Some voters
          → (was : List ℕ) × (voters_in flights other ≡ Some was) × ((node : ℕ) → is_member was node ≡ true → is_member voters node ≡ true) × ((node : ℕ) → Votes from slot ≡ Votes node other → is_member voters node ≡ true)
      here other voters fact None f k = cc
      here other voters fact (Some flight) f k =
          (let h = v.here flight (ap (λ n. flight_at n held) (sym fact) ∙ f) in
          let now : kept_voters flight.voters ≡ voters = cc in (
            kept_voters h.0.voters,
            ap kept_in (ap (λ n. flight_at n flights) fact ∙ h.1),
            (λ node m. subst (λ l. is_member l node ≡ true) now (h.2 node m)),
            (λ node same. (let who : from ≡ node = cc in subst (λ l. is_member l node ≡ true) now (subst (λ n. is_member (kept_voters flight.voters) n ≡ true) who h.3))),
          ))

  -- what is in flight behind a vote, as marks
  pub voted_on : IsHeldOn flights held (Votes from slot)
  voted_on = record {
    kept = λ other voters e away. ap kept_in (v.others other away) ∙ e;
    before = voted_before;
  }

  pub voted_past : (free : ℕ) → ((other : ℕ) → free ≤ other → flight_at other flights ≡ None) → (other : ℕ) → free ≤ other → flight_at other held ≡ None
  voted_past free none other high = by (flight_at other held) refl
    where
      by : (o : Option (Flight Command)) → flight_at other held ≡ o → flight_at other held ≡ None
      by None e = e
      by (Some flight) e = elim (cases_eq other slot) [
        | inl fact ↦ (let h = v.here flight (ap (λ n. flight_at n held) (sym fact) ∙ e) in
            let bad : None ≡ Some h.0 = sym (none other high) ∙ (ap (λ n. flight_at n flights) fact ∙ h.1) in cc)
        | inr ne ↦ v.others other ne ∙ none other high
      ]

-- ---- rows of a leader

module _ (begun : Requests) (frame : Frame) (r : ReplicaState) (taken : ℕ) (slots : AreTaken r taken) (held : List (Flight Command)) (wanted : ℕ → ℕ → Type 0) (place : Place) (after : ℕ)
    (k : Leads begun frame (next r) (next r + taken) held wanted after place) where
  -- a run of a leader that takes such a mail
  pub run_moves : (mark : Mark) → IsCount frame mark → IsHeldOn r.leader.flights held mark → ((slot : ℕ) → next r + taken ≤ slot → flight_at slot held ≡ None) → MovesBy frame frame.lead r taken place.0 after mark place.1
  run_moves mark counts on past = λ one two v w own. inr (inr (inr
      (leads_moves begun frame (next r) (next r + taken) r.leader.flights held wanted after place k one two mark v.next (v.bound refl) (λ slot. v.voters refl slot) w.next (w.bound refl) (λ slot. w.voters refl slot) counts on past)))

  -- the leader counts the vote of a member
  pub counted_moves : (from slot : ℕ) → is_member (frame.at slot) from ≡ true → IsVoted from slot r.leader.flights held → MovesBy frame frame.lead r taken place.0 after (Votes from slot) place.1
  counted_moves from slot member v =
      run_moves (Votes from slot) member (voted_on from slot r.leader.flights held v) (voted_past from slot r.leader.flights held v (next r + taken) (λ other high. past_taken r taken other slots high))

  -- the leader takes a request
  pub asked_moves : held ≡ r.leader.flights → MovesBy frame frame.lead r taken place.0 after Other place.1
  asked_moves same =
      run_moves Other tt (subst (λ l. IsHeldOn r.leader.flights l Other) (sym same) (held_same r.leader.flights)) (λ slot high. ap (flight_at slot) same ∙ past_taken r taken slot slots high)
