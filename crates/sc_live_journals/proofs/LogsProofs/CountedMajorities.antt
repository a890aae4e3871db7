-- A majority of votes that a leader has counted makes its command the log's.
use Rattle.std.proofs.Common.{◌≡◌, ℕ, ◌≤◌, true, eqb, List, length, Option, Some, None, refl, sym, ap, subst}
use Rattle.std.proofs.lemmas.Bool.{eqb-true, ltb-true, cond_both}
use Rattle.sc_base.specs.Definitions.{Among, Each, same_ballot, is_majority}
use Rattle.sc_node_table.specs.Values.{Ballot, Command, Base, Counted, Chosen, NotYet, Flight}
use Rattle.sc_base.proofs.Lemmas.{ballot_is}
use Rattle.sc_words.specs.paxos.PaxosDefinitions.{LeaderState, flight_at, kept_voters, voters_after, vote_at, counted}
use Rattle.sc_words.proofs.PaxosProofs.PaxosLemmas.{Each-among, Each-weaker, find_found}
use Rattle.sc_paxos_law.specs.PaxosLawDefinitions.{Offered, Accepted, needed, members_of, IsLog, IsLawfulHistory}
use Rattle.sc_paxos_law.proofs.Lemmas.{was_offered, one_offer}
use Rattle.sc_meaning.specs.sound.SoundDefinitions.{Ahead}
use Rattle.sc_law_groups.proofs.GroupProofs.GroupLemmas.{IsLearnt, Steps, rule, first, IsFlying, each_after}
pub use Rattle.sc_law_groups.proofs.GroupProofs.Counting.{each_with_slot}

-- ---- kept voters

-- ---- a count

not_yet : (count : ℕ) (c : Command) → ◌≡◌ {A = Counted Command} (NotYet count) (Chosen c) → ⊥
not_yet count c e = cc

one_chosen : (d c : Command) → ◌≡◌ {A = Counted Command} (Chosen d) (Chosen c) → d ≡ c
one_chosen d c e = cc

-- a leader's flights by the steps of its group, and the members of a slot by a log of these
module _ (ahead : Ahead) (base : Base) (h : Steps) (lawful : IsLawfulHistory (rule ahead base) (first ahead base) h) (leader : LeaderState Command) (flying : Each (IsFlying ahead base h leader.ballot) leader.flights)
    (log : List Command) (is_log : IsLog (rule ahead base) h log) (slot : ℕ) (set : List ℕ) (fact : set ≡ members_of (rule ahead base) log slot) (known : needed (rule ahead base) slot ≤ length log) where
  -- the vote of a node that accepted something in the leader's ballot
  module _ (from : ℕ) (d : Command) (did : Among (Accepted from leader.ballot slot d) h) where
    abbrev b : Ballot
    b = leader.ballot

    same_value : (g : Flight Command) → Among g leader.flights → g.slot ≡ slot → d ≡ g.value
    same_value g a e =
        let flies = Each-among _ leader.flights g flying a in
        one_offer (rule ahead base) (first ahead base) h b slot d g.value lawful (was_offered (rule ahead base) (first ahead base) h from b slot d lawful did)
        (subst (λ n. Among (Offered b n g.value) h) e flies.0)

    accepted_by : (flight : Flight Command) → Among flight leader.flights → flight.slot ≡ slot → Each (λ n. Among (Accepted n b slot d) h) (kept_voters (voters_after set from flight.voters))
    accepted_by flight a e =
        let flies = Each-among _ leader.flights flight flying a in
        each_after (λ n. Among (Accepted n b slot d) h) set from flight.voters did
        (Each-weaker _ _ (λ n x. subst (λ v. Among (Accepted n b slot v) h) (sym (same_value flight a e)) (subst (λ m. Among (Accepted n b m flight.value) h) e x)) (kept_voters flight.voters) flies.1)

    learnt_here : (flight : Flight Command) → Among flight leader.flights → flight.slot ≡ slot → is_majority set (kept_voters (voters_after set from flight.voters)) ≡ true → IsLearnt (rule ahead base) h slot flight.value
    learnt_here flight a e most =
        subst (IsLearnt (rule ahead base) h slot) (same_value flight a e)
        (record {
          log = log;
          is_log = is_log;
          chosen = record {
            known = known;
            chosen = record {
              ballot = b;
              voters = kept_voters (voters_after set from flight.voters);
              each = accepted_by flight a e;
              majority = ltb-true _ _ (subst (λ ms. is_majority ms (kept_voters (voters_after set from flight.voters)) ≡ true) fact most);
            };
          };
        })

    module _ (c : Command) (after : LeaderState Command) where
      abbrev Q : Counted Command × LeaderState Command → Type 0
      Q x = x ≡ (Chosen c, after) → IsLearnt (rule ahead base) h slot c

      no_count : (count : ℕ) (other : LeaderState Command) → Q (NotYet count, other)
      no_count count other e = absurd (not_yet count c (ap (λ (x : Counted Command × LeaderState Command). x.0) e))

      count_at : (o : Option (Flight Command)) → flight_at slot leader.flights ≡ o → Q (vote_at from slot set o leader)
      count_at None e = no_count 0 leader
      count_at (Some flight) e =
          let there = find_found (λ (g : Flight Command). eqb g.slot slot) leader.flights flight e in
          let at = eqb-true flight.slot slot there.1 in
          cond_both (is_majority set (kept_voters (voters_after set from flight.voters))) _ _ Q
          (λ most. chosen flight.value (learnt_here flight there.0 at most)) (λ _. no_count _ _)
        where
          chosen : (d : Command) → IsLearnt (rule ahead base) h slot d → {other : LeaderState Command} → Q (Chosen d, other)
          chosen d t e = subst (IsLearnt (rule ahead base) h slot) (one_chosen d c (ap (λ (x : Counted Command × LeaderState Command). x.0) e)) t

  -- a vote that decides a slot makes its command chosen
  pub counted_learnt : (from : ℕ) (ballot : Ballot) (d : Command) → Among (Accepted from ballot slot d) h → (c : Command) (after : LeaderState Command) → counted from ballot slot set leader ≡ (Chosen c, after)
      → IsLearnt (rule ahead base) h slot c
  counted_learnt from ballot d did c after =
      cond_both (same_ballot ballot leader.ballot) _ _ (λ (x : Counted Command × LeaderState Command). x ≡ (Chosen c, after) → IsLearnt (rule ahead base) h slot c)
      (λ same. count_at from d (subst (λ x. Among (Accepted from x slot d) h) (ballot_is ballot leader.ballot same) did) c after (flight_at slot leader.flights) refl)
      (λ _ e. absurd (not_yet 0 c (ap (λ (x : Counted Command × LeaderState Command). x.0) e)))
