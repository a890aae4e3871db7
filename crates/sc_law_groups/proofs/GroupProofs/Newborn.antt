-- A replica that is made as at its group's birth, at a node that has taken no step in the group.
use Rattle.std.proofs.Common.{◌≡◌, ℕ, zero, suc, ◌+◌, ◌<◌, [], length, take, replicate, Some, refl, sym, ◌∙◌, ap, subst, arith}
use Rattle.std.specs.Prelude.{slice_get}
use Rattle.std.proofs.lemmas.Bool.{eqb-true}
use Rattle.sc_node_table.specs.Values.{Command, Base}
use Rattle.sc_node_table.specs.NodeDefinitions.{born_replica, first_ballot}
use Rattle.sc_words.specs.paxos.PaxosDefinitions.{born_acceptor}
use Rattle.sc_words.proofs.PaxosProofs.PaxosLemmas.{Each-among}
use Rattle.sc_paxos_law.specs.PaxosLawDefinitions.{Prepared, Offered, needed}
use Rattle.sc_meaning.specs.sound.SoundDefinitions.{Ahead}
use Rattle.sc_law_groups.proofs.GroupProofs.Growth.{IsFresh, fresh_state}
use Rattle.sc_law_groups.proofs.GroupProofs.ForgottenEntries.{Mirrors, mirrors_itself}
use Rattle.sc_law_groups.proofs.GroupProofs.Invariant.{Steps, rule, first, IsReplica}

length_replicate : {X : Type 0} (n : ℕ) (x : X) → length (replicate n x) ≡ n
length_replicate zero x = refl
length_replicate (suc n) x = ap suc (length_replicate n x)

get_replicate : {X : Type 0} (n : ℕ) (x y : X) (k : ℕ) → slice_get (replicate n x) k ≡ Some y → (y ≡ x) × (k < n)
get_replicate zero x y k e = cc
get_replicate {X} (suc n) x y zero e = let same : x ≡ y = cc in (sym same, omega arith)
get_replicate (suc n) x y (suc k) e = let r = get_replicate n x y k e in (r.0, omega (arith, r.1))

take_none : {X : Type 0} (n : ℕ) → take {A = X} n [] ≡ []
take_none zero = refl
take_none (suc n) = refl

-- it is as the steps say
pub born_replica_is : (ahead : Ahead) (base : Base) (made : Command → Type 0) (h : Steps) (n : ℕ) → IsFresh n h → IsReplica ahead base made h n (born_replica ahead.slots n base)
born_replica_is ahead base made h n fresh = record {
  me_is = refl;
  whole = [];
  log_is = record { low = omega arith; entries_are = refl; group_is = refl; is_log = λ k v e. cc; all_made = tt };
  acceptor_is = subst (Mirrors (born_acceptor (first ahead base))) (sym (fresh_state (first ahead base) n h fresh)) (mirrors_itself (born_acceptor (first ahead base)));
  tops = λ b slot c a own. absurd (Each-among _ h (Offered b slot c) fresh a own);
  prepares = λ b from a own. absurd (Each-among _ h (Prepared b from) fresh a own);
  count = length_replicate ahead.slots base.core.members;
  sets = λ k set e. (
      let r = get_replicate ahead.slots base.core.members set k e in
      let need = needed (rule ahead base) (1 + k) in
      (r.0 ∙ ap (rule ahead base).members (sym (take_none {X = Command} need)), (let lt = r.1 in omega (arith, lt))));
  backlog = tt;
  acts = tt;
  flights = tt;
  ready = tt;
  leads = λ runs. record {
    own = eqb-true base.core.first n runs;
    low = omega arith;
    first_is = λ e. refl;
    votes = [];
    promisers = refl;
    reports = refl;
    made = tt;
    offers = λ slot c a. absurd (Each-among _ h (Offered (first_ballot base.core) slot c) fresh a (eqb-true base.core.first n runs));
  };
}
