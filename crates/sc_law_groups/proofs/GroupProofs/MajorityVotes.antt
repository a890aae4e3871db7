-- Votes of a majority for what is in flight at a slot make its command learnt there.
use Rattle.std.proofs.Common.{◌≡◌, ℕ, ◌+◌, ◌-◌, ◌≤◌, ◌||◌, nat_lt, true, eqb, List, ◌∷◌, length, filter, Option, Some, None, sym, subst, arith}
use Rattle.std.specs.Prelude.{slice_get}
use Rattle.std.proofs.lemmas.Bool.{ltb-true, ltb-false, cond_both}
use Rattle.sc_node_table.specs.Values.{Ballot, Command, Base, Flight}
use Rattle.sc_base.specs.Definitions.{is_member, with_member, is_majority, Among, Each}
use Rattle.sc_words.specs.paxos.PaxosDefinitions.{kept_voters, add_voter, voters_after}
use Rattle.sc_words.proofs.PaxosProofs.PaxosLemmas.{Each-among, Each-weaker, Each-append, Each-filter}
use Rattle.sc_paxos_law.specs.PaxosLawDefinitions.{Offered, Accepted, needed, members_of, IsLawfulHistory}
use Rattle.sc_paxos_law.proofs.Lemmas.{was_offered, one_offer}
use Rattle.sc_node_table.specs.NodeDefinitions.{ReplicaState, next, set_at}
use Rattle.sc_meaning.specs.sound.SoundDefinitions.{Ahead}
use Rattle.sc_law_groups.proofs.GroupProofs.Growth.{IsLearnt}
use Rattle.sc_law_groups.proofs.GroupProofs.Invariant.{Steps, rule, first, IsReplica, next_after}

pub each_voter : (P : ℕ → Type 0) (node : ℕ) (o : Option (List ℕ)) → P node → Each P (kept_voters o) → Each P (kept_voters (add_voter node o))
each_voter P node None p e = (p, tt)
each_voter P node (Some voters) p e =
    cond_both (is_member voters node || eqb (length voters) 9) (Some voters) (Some (with_member voters node)) (λ o. Each P (kept_voters o)) (λ _. e)
    (λ _. Each-append P (filter (λ m. nat_lt m node) voters) (node ∷ filter (λ m. nat_lt node m) voters) (Each-filter P (λ m. nat_lt m node) voters e) (p, Each-filter P (λ m. nat_lt node m) voters e))

pub each_after : (P : ℕ → Type 0) (members : List ℕ) (node : ℕ) (o : Option (List ℕ)) → P node → Each P (kept_voters o) → Each P (kept_voters (voters_after members node o))
each_after P members node o p e = cond_both (is_member members node) (add_voter node o) o (λ x. Each P (kept_voters x)) (λ _. each_voter P node o p e) (λ _. e)

-- these are the members of the slot by the log that a replica has executed, which knows them
abbrev pub AreMembersAt : (ahead : Ahead) (base : Base) → List Command → ℕ → List ℕ → Type 0
AreMembersAt ahead base log slot set = (set ≡ members_of (rule ahead base) log slot) × (needed (rule ahead base) slot ≤ length log)

-- the members of an open slot are so
pub open_set : (ahead : Ahead) (base : Base) (made : Command → Type 0) (h : Steps) (me slot : ℕ) (set : List ℕ) (r : ReplicaState) (k : IsReplica ahead base made h me r) → next r ≤ slot → slice_get r.sets (slot - next r) ≡ Some set → AreMembersAt ahead base k.whole slot set
open_set ahead base made h me slot set r k up e =
    let at = next_after ahead base made h me r k in
    let same : length k.whole + 1 + (slot - next r) ≡ slot = omega (arith, up, at) in
    subst (λ n. AreMembersAt ahead base k.whole n set) same (k.sets (slot - next r) set e)

pub set_is : (ahead : Ahead) (base : Base) (made : Command → Type 0) (h : Steps) (me slot : ℕ) (set : List ℕ) (r : ReplicaState) (k : IsReplica ahead base made h me r) → set_at slot r ≡ Some set → AreMembersAt ahead base k.whole slot set
set_is ahead base made h me slot set r k e =
    cond_both (nat_lt slot (next r)) None (slice_get r.sets (slot - next r)) (λ (o : Option (List ℕ)). o ≡ Some set → AreMembersAt ahead base k.whole slot set) (λ _ x. cc)
    (λ n x. open_set ahead base made h me slot set r k (ltb-false slot (next r) n) x) e

-- a vote from a node that accepted, of a replica that leads, with the members of the slot
module _ (ahead : Ahead) (base : Base) (made : Command → Type 0) (me : ℕ) (h : Steps) (lawful : IsLawfulHistory (rule ahead base) (first ahead base) h) (from : ℕ) (slot : ℕ) (set : List ℕ) (r : ReplicaState) (k : IsReplica ahead base made h me r)
    (d : Command) (did : Among (Accepted from r.leader.ballot slot d) h) (fact : set ≡ members_of (rule ahead base) k.whole slot) (known : needed (rule ahead base) slot ≤ length k.whole) where
  abbrev b : Ballot
  b = r.leader.ballot

  -- what is in flight at the slot is what was accepted there
  pub same_value : (g : Flight Command) → Among g r.leader.flights → g.slot ≡ slot → d ≡ g.value
  same_value g a e =
      let flies = Each-among _ r.leader.flights g k.flights a in
      one_offer (rule ahead base) (first ahead base) h b slot d g.value lawful (was_offered (rule ahead base) (first ahead base) h from b slot d lawful did)
      (subst (λ n. Among (Offered b n g.value) h) e flies.0)

  pub accepted_by : (flight : Flight Command) → Among flight r.leader.flights → flight.slot ≡ slot → Each (λ n. Among (Accepted n b slot d) h) (kept_voters (voters_after set from flight.voters))
  accepted_by flight a e =
      let flies = Each-among _ r.leader.flights flight k.flights a in
      each_after (λ n. Among (Accepted n b slot d) h) set from flight.voters did
      (Each-weaker _ _ (λ n x. subst (λ v. Among (Accepted n b slot v) h) (sym (same_value flight a e)) (subst (λ m. Among (Accepted n b m flight.value) h) e x)) (kept_voters flight.voters) flies.1)

  pub learnt_here : (flight : Flight Command) → Among flight r.leader.flights → flight.slot ≡ slot → is_majority set (kept_voters (voters_after set from flight.voters)) ≡ true → IsLearnt (rule ahead base) h slot flight.value
  learnt_here flight a e most =
      subst (IsLearnt (rule ahead base) h slot) (same_value flight a e)
      (record {
        log = k.whole;
        is_log = k.log_is.is_log;
        chosen = record {
          known = known;
          chosen = record {
            ballot = b;
            voters = kept_voters (voters_after set from flight.voters);
            each = accepted_by flight a e;
            majority = ltb-true _ _ (subst (λ ms. is_majority ms (kept_voters (voters_after set from flight.voters)) ≡ true) fact most);
          };
        };
      })
