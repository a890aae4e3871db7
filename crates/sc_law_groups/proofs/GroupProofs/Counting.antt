-- Promises and votes that are counted.
use Rattle.std.proofs.Common.{◌≡◌, ℕ, ◌+◌, ◌<◌, ◌&&◌, not, nat_lt, Bool, true, eqb, List, [], ◌∷◌, ◌++◌, length, Option, Some, None, ◌⊎◌, inl, inr, refl, sym, ◌∙◌, ap, subst, append-nil, append_assoc}
use Rattle.std.specs.List.{flat_map}
use Rattle.std.proofs.lemmas.Bool.{cases_Bool, eqb-true, eqb-false, and_parts, cond_both}
use Rattle.sc_node_table.specs.Values.{Ballot, Command, Base, Mail, MailBody, Counted, Chosen, NotYet, Flight, Report}
use Rattle.sc_base.specs.Definitions.{same_ballot, is_member, is_majority, Among, Each}
use Rattle.sc_words.specs.paxos.PaxosDefinitions.{LeaderState, flight_at, without_flight_at, promise_counted, kept_voters, voters_after, with_voters, vote_at, counted}
use Rattle.sc_words.proofs.PaxosProofs.PaxosLemmas.{Each-among, Each-weaker, Each-append, find_found}
use Rattle.sc_paxos_law.specs.PaxosLawDefinitions.{Prepared, Promised, Accepted, CountedPromise}
use Rattle.sc_paxos_law.proofs.Lemmas.{Among-right}
use Rattle.sc_node_table.specs.NodeDefinitions.{with_slot, ReplicaState, Place, set_at}
use Rattle.sc_meaning.specs.sound.SoundDefinitions.{Ahead}
use Rattle.sc_law_groups.proofs.GroupProofs.Growth.{IsLearnt}
use Rattle.sc_law_groups.proofs.GroupProofs.Invariant.{Steps, rule, IsFlying, IsTaken, IsReplica}
use Rattle.sc_law_groups.proofs.GroupProofs.Midway.{Fine, turn}
use Rattle.sc_law_groups.proofs.GroupProofs.WithoutOne.{among_without_flight, Each-without_flight}
use Rattle.std.proofs.lemmas.List.{map-append}
use Rattle.sc_base.proofs.Lemmas.{ballot_is}
use Rattle.sc_law_groups.proofs.GroupProofs.MajorityVotes.{AreMembersAt, set_is, same_value, accepted_by, learnt_here}

reports_push : (votes : List (CountedPromise Command)) (vote : CountedPromise Command) → flat_map (λ (v : CountedPromise Command). v.reports) (votes ++ vote ∷ []) ≡ flat_map (λ (v : CountedPromise Command). v.reports) votes ++ vote.reports
reports_push [] vote = append-nil vote.reports
reports_push (v ∷ votes) vote = ap (λ rs. v.reports ++ rs) (reports_push votes vote) ∙ sym (append_assoc v.reports (flat_map (λ (x : CountedPromise Command). x.reports) votes) vote.reports)

each_with_voters : (P : Flight Command → Type 0) (slot : ℕ) (voters : Option (List ℕ)) (fs : List (Flight Command)) → Each P fs → ((f : Flight Command) → Among f fs → f.slot ≡ slot → P (record f { voters = voters }))
    → Each P (with_voters slot voters fs)
each_with_voters P slot voters [] e new = tt
each_with_voters P slot voters (f ∷ fs) e new =
    cond_both (eqb f.slot slot) (record f { voters = voters } ∷ fs) (f ∷ with_voters slot voters fs) (Each P)
    (λ t. (new f (inl refl) (eqb-true f.slot slot t), e.1)) (λ _. (e.0, each_with_voters P slot voters fs e.1 (λ g a. new g (inr a))))

still_flying : (slot : ℕ) (voters : Option (List ℕ)) (fs : List (Flight Command)) (at : ℕ) (f : Flight Command) → Among f fs → f.slot ≡ at
    → (g : Flight Command) × Among g (with_voters slot voters fs) × (g.slot ≡ at)
still_flying slot voters [] at f a e = absurd a
still_flying slot voters (x ∷ fs) at f (inl same) e =
    cond_both (eqb x.slot slot) (record x { voters = voters } ∷ fs) (x ∷ with_voters slot voters fs) (λ gs. (g : Flight Command) × Among g gs × (g.slot ≡ at))
    (λ _. (record x { voters = voters }, inl refl, ap (λ (y : Flight Command). y.slot) same ∙ e)) (λ _. (x, inl refl, ap (λ (y : Flight Command). y.slot) same ∙ e))
still_flying slot voters (x ∷ fs) at f (inr a) e =
    cond_both (eqb x.slot slot) (record x { voters = voters } ∷ fs) (x ∷ with_voters slot voters fs) (λ gs. (g : Flight Command) × Among g gs × (g.slot ≡ at))
    (λ _. (f, inr a, e)) (λ _. (let k = still_flying slot voters fs at f a e in (k.0, inr k.1, k.2)))

-- ---- what is ready

pub each_with_slot : (P : ℕ × Command → Type 0) (es : List (ℕ × Command)) (slot : ℕ) (c : Command) → Each P es → P (slot, c) → Each P (with_slot es slot c)
each_with_slot P [] slot c e p = (p, tt)
each_with_slot P (x ∷ es) slot c e p =
    cond_both (eqb x.0 slot) _ _ (Each P) (λ _. (p, e.1)) (λ _. cond_both (nat_lt slot x.0) _ _ (Each P) (λ _. (p, e)) (λ _. (e.0, each_with_slot P es slot c e.1 p)))

has_slot : (es : List (ℕ × Command)) (slot : ℕ) (c : Command) → Among (slot, c) (with_slot es slot c)
has_slot [] slot c = inl refl
has_slot (x ∷ es) slot c =
    cond_both (eqb x.0 slot) _ _ (Among (slot, c)) (λ _. inl refl) (λ _. cond_both (nat_lt slot x.0) _ _ (Among (slot, c)) (λ _. inl refl) (λ _. inr (has_slot es slot c)))

still_ready : (es : List (ℕ × Command)) (slot : ℕ) (c : Command) (x : ℕ × Command) → Among x es → (x.0 ≡ slot → ⊥) → Among x (with_slot es slot c)
still_ready [] slot c x a ne = absurd a
still_ready (y ∷ es) slot c x (inl same) ne =
    cond_both (eqb y.0 slot) _ _ (Among x) (λ t. absurd (ne (ap (λ (p : ℕ × Command). p.0) (sym same) ∙ eqb-true y.0 slot t)))
    (λ _. cond_both (nat_lt slot y.0) _ _ (Among x) (λ _. inr (inl same)) (λ _. inl same))
still_ready (y ∷ es) slot c x (inr a) ne =
    cond_both (eqb y.0 slot) _ _ (Among x) (λ _. inr a) (λ _. cond_both (nat_lt slot y.0) _ _ (Among x) (λ _. inr (inr a)) (λ _. inr (still_ready es slot c x a ne)))

module _ (ahead : Ahead) (base : Base) (made : Command → Type 0) (heard : MailBody → Type 0) (me : ℕ) (older : List Mail) (before : Steps) where
  abbrev Ok : Place → Type 0
  Ok = Fine ahead base made heard me older before

  abbrev Replica : Steps → ReplicaState → Type 0
  Replica h r = IsReplica ahead base made h me r

  -- ---- a promise

  voter_replica : (h : Steps) (from : ℕ) (ballot : Ballot) (reports : List (Report Command)) (start : ℕ) (r : ReplicaState) → Replica h r → r.running ≡ true → ballot ≡ r.leader.ballot
      → Among (Promised from ballot start reports) h → Among (Prepared ballot start) h
      → Replica h (record r { leader = record r.leader { promisers = r.leader.promisers ++ from ∷ []; reports = r.leader.reports ++ reports } })
  voter_replica h from ballot reports start r k runs same promised asked =
      let l = k.leads runs in
      let vote : CountedPromise Command = record { node = from; from = start; reports = reports } in
      record {
        me_is = k.me_is;
        whole = k.whole;
        log_is = k.log_is;
        acceptor_is = k.acceptor_is;
        tops = k.tops;
        prepares = k.prepares;
        count = k.count;
        sets = k.sets;
        backlog = k.backlog;
        acts = k.acts;
        flights = k.flights;
        ready = k.ready;
        leads = λ _. record {
          own = l.own;
          low = l.low;
          first_is = l.first_is;
          votes = l.votes ++ vote ∷ [];
          promisers = ap (λ ns. ns ++ from ∷ []) l.promisers ∙ sym (map-append (λ (v : CountedPromise Command). v.node) l.votes (vote ∷ []));
          reports = ap (λ rs. rs ++ reports) l.reports ∙ sym (reports_push l.votes vote);
          made = Each-append _ l.votes (vote ∷ []) l.made
              ((subst (λ b. Among (Promised from b start reports) h) same promised, k.prepares ballot start asked (ap (λ (b : Ballot). b.node) same ∙ l.own)), tt);
          offers = l.offers;
        };
      }

  -- a promise that is counted keeps what holds
  pub fine_polled : (from : ℕ) (ballot : Ballot) (reports : List (Report Command)) (start : ℕ) (r : ReplicaState) (mails : List Mail) → r.running ≡ true → Among (Promised from ballot start reports) before → Among (Prepared ballot start) before
      → Ok (r, mails) → Ok (record r { leader = (promise_counted from ballot reports r.leader).1 }, mails)
  fine_polled from ballot reports start r mails runs promised asked f =
      let h = f.newer ++ before in
      turn ahead base made heard me older before r (record r { leader = (promise_counted from ballot reports r.leader).1 }) mails f
      (cond_both (same_ballot ballot r.leader.ballot && not (is_member r.leader.promisers from)) _ _ (λ (x : Bool × LeaderState Command). Replica h (record r { leader = x.1 }))
      (λ t. (let own = and_parts (same_ballot ballot r.leader.ballot) (not (is_member r.leader.promisers from)) t in
      voter_replica h from ballot reports start r f.replica runs (ballot_is ballot r.leader.ballot own.0) (Among-right _ f.newer before promised) (Among-right _ f.newer before asked)))
      (λ _. f.replica))

  -- ---- a vote

  -- a command that a majority accepted is ready
  pub ready_replica : (h : Steps) (slot : ℕ) (c : Command) (r : ReplicaState) (k : Replica h r) → IsLearnt (rule ahead base) h slot c
      → Replica h (record r { leader = without_flight_at slot r.leader; ready = with_slot r.ready slot c })
  ready_replica h slot c r k t = record {
    me_is = k.me_is;
    whole = k.whole;
    log_is = k.log_is;
    acceptor_is = k.acceptor_is;
    tops = k.tops;
    prepares = k.prepares;
    count = k.count;
    sets = k.sets;
    backlog = k.backlog;
    acts = k.acts;
    flights = Each-without_flight _ slot r.leader.flights k.flights;
    ready = each_with_slot _ r.ready slot c k.ready t;
    leads = λ runs. (let l = k.leads runs in
        record { own = l.own; low = l.low; first_is = l.first_is; votes = l.votes; promisers = l.promisers; reports = l.reports; made = l.made; offers = λ at d a. stays at (l.offers at d a) });
  }
    where
      stays : (at : ℕ) → (at < length k.whole + 1) ⊎ IsTaken ahead base r.leader r.ready at → (at < length k.whole + 1) ⊎ IsTaken ahead base (without_flight_at slot r.leader) (with_slot r.ready slot c) at
      stays at (inl lt) = inl lt
      stays at (inr t) =
          elim (cases_Bool (eqb at slot)) [
            | inl e ↦ inr (inr (c, subst (λ n. Among (n, c) (with_slot r.ready slot c)) (sym (eqb-true at slot e)) (has_slot r.ready slot c)))
            | inr n ↦ (
                let ne = eqb-false at slot n in
                elim t [
                  | inl (g, a, e) ↦ inr (inl (g, among_without_flight slot r.leader.flights g a (λ s. ne (sym e ∙ s)), e))
                  | inr (d, a) ↦ inr (inr (d, still_ready r.ready slot c (at, d) a ne))
                ])
          ]

  voters_replica : (h : Steps) (slot : ℕ) (voters : Option (List ℕ)) (r : ReplicaState) (k : Replica h r)
      → ((g : Flight Command) → Among g r.leader.flights → g.slot ≡ slot → IsFlying ahead base h r.leader.ballot (record g { voters = voters }))
      → Replica h (record r { leader = record r.leader { flights = with_voters slot voters r.leader.flights } })
  voters_replica h slot voters r k new = record {
    me_is = k.me_is;
    whole = k.whole;
    log_is = k.log_is;
    acceptor_is = k.acceptor_is;
    tops = k.tops;
    prepares = k.prepares;
    count = k.count;
    sets = k.sets;
    backlog = k.backlog;
    acts = k.acts;
    flights = each_with_voters _ slot voters r.leader.flights k.flights new;
    ready = k.ready;
    leads = λ runs. (let l = k.leads runs in
        record { own = l.own; low = l.low; first_is = l.first_is; votes = l.votes; promisers = l.promisers; reports = l.reports; made = l.made; offers = λ at d a. stays at (l.offers at d a) });
  }
    where
      stays : (at : ℕ) → (at < length k.whole + 1) ⊎ IsTaken ahead base r.leader r.ready at
          → (at < length k.whole + 1) ⊎ IsTaken ahead base (record r.leader { flights = with_voters slot voters r.leader.flights }) r.ready at
      stays at (inl lt) = inl lt
      stays at (inr (inl (g, a, e))) = inr (inl (still_flying slot voters r.leader.flights at g a e))
      stays at (inr (inr t)) = inr (inr t)

  -- a vote that a mail of a node that accepted brings, with the members of its slot
  module _ (from : ℕ) (ballot : Ballot) (slot : ℕ) (set : List ℕ) (r : ReplicaState) (mails : List Mail) (d : Command) (did : Among (Accepted from ballot slot d) before) (open_is : set_at slot r ≡ Some set) (f : Ok (r, mails)) where
    abbrev h : Steps
    h = f.newer ++ before

    -- what is chosen is ready, and what is not counts one vote more
    abbrev AfterVote : Counted Command × LeaderState Command → Type 0
    AfterVote (Chosen c, leader) = Ok (record r { leader = leader; ready = with_slot r.ready slot c }, mails)
    AfterVote (NotYet count, leader) = Ok (record r { leader = leader }, mails)

    here : AreMembersAt ahead base f.replica.whole slot set
    here = set_is ahead base made h me slot set r f.replica open_is

    voted_at : Among (Accepted from r.leader.ballot slot d) h → (o : Option (Flight Command)) → flight_at slot r.leader.flights ≡ o → AfterVote (vote_at from slot set o r.leader)
    voted_at own None e = f
    voted_at own (Some flight) e =
        let there = find_found (λ (g : Flight Command). eqb g.slot slot) r.leader.flights flight e in
        let at = eqb-true flight.slot slot there.1 in
        let voters = voters_after set from flight.voters in
        cond_both (is_majority set (kept_voters voters)) _ _ AfterVote
        (λ most. turn ahead base made heard me older before r (record r { leader = without_flight_at slot r.leader; ready = with_slot r.ready slot flight.value }) mails f
        (ready_replica h slot flight.value r f.replica (learnt_here ahead base made me h f.lawful from slot set r f.replica d own here.0 here.1 flight there.0 at most)))
        (λ _. turn ahead base made heard me older before r (record r { leader = record r.leader { flights = with_voters slot voters r.leader.flights } }) mails f
        (voters_replica h slot voters r f.replica (λ g a same. (
        let flies = Each-among _ r.leader.flights g f.replica.flights a in
        let b = r.leader.ballot in
        (flies.0, Each-weaker _ _ (λ n x. subst (λ v. Among (Accepted n b g.slot v) h) (same_value ahead base made me h f.lawful from slot set r f.replica d own here.0 here.1 g a same) (subst (λ m. Among (Accepted n b m d) h) (sym same) x)) (kept_voters voters) (accepted_by ahead base made me h f.lawful from slot set r f.replica d own here.0 here.1 flight there.0 at))))))

    counts_one : AfterVote (counted from ballot slot set r.leader)
    counts_one =
        cond_both (same_ballot ballot r.leader.ballot) _ _ AfterVote
        (λ t. voted_at (Among-right _ f.newer before (subst (λ b. Among (Accepted from b slot d) before) (ballot_is ballot r.leader.ballot t) did)) (flight_at slot r.leader.flights) refl) (λ _. f)

    counts_so : (p : Counted Command × LeaderState Command) (count : ℕ) → p.0 ≡ NotYet count → AfterVote p → Ok (record r { leader = p.1 }, mails)
    counts_so (Chosen c, leader) count e k = cc
    counts_so (NotYet other, leader) count e k = k

    chooses_so : (p : Counted Command × LeaderState Command) (c : Command) → p.0 ≡ Chosen c → AfterVote p → Ok (record r { leader = p.1; ready = with_slot r.ready slot c }, mails)
    chooses_so (Chosen other, leader) c e k = (let same : other ≡ c = cc in subst (λ v. Ok (record r { leader = leader; ready = with_slot r.ready slot v }, mails)) same k)
    chooses_so (NotYet count, leader) c e k = cc

    -- a vote that decides nothing keeps what holds
    pub fine_counted : (count : ℕ) → (counted from ballot slot set r.leader).0 ≡ NotYet count → Ok (record r { leader = (counted from ballot slot set r.leader).1 }, mails)
    fine_counted count e = counts_so (counted from ballot slot set r.leader) count e counts_one

    -- and so does one that decides its slot
    pub fine_chosen : (c : Command) → (counted from ballot slot set r.leader).0 ≡ Chosen c → Ok (record r { leader = (counted from ballot slot set r.leader).1; ready = with_slot r.ready slot c }, mails)
    fine_chosen c e = chooses_so (counted from ballot slot set r.leader) c e counts_one
