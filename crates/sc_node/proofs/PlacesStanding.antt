-- Where a group's replica stands.
use Rattle.std.proofs.Common.{◌≡◌, ℕ, ◌+◌, ◌≤◌, Bool, true, false, List, [], ◌∷◌, zero, suc, Option, Some, None, is_some, refl, sym, ap, ◌∙◌, arith, if◌then◌else◌}
use Rattle.sc_base.specs.declared.names.Draw.{Draw}
use Rattle.sc_base.specs.Same.{same_draw}
use Rattle.sc_node_table.specs.Replica.{ReplicaState, name_of}
use Rattle.sc_node_table.specs.Node.{replica_of}
use Rattle.sc_node.specs.Places.{place_from, StandsAt, IsPlaceOf}

-- nothing stands at a place before the first
place-test : (b : Bool) (at n : ℕ) (o : Option ℕ) → (o ≡ Some n → at + 1 ≤ n) → (if b then Some at else o) ≡ Some n → at ≤ n
place-test true at n o rest e = let same : at ≡ n = cc in omega arith
place-test false at n o rest e = let less : at + 1 ≤ n = rest e in omega arith

place-after : (group : Draw) (rs : List ReplicaState) (at n : ℕ) → place_from at group rs ≡ Some n → at ≤ n
place-after group [] at n e = absurd (cc)
place-after group (r ∷ rs) at n e = place-test (same_draw (name_of r) group) at n (place_from (at + 1) group rs) (place-after group rs (at + 1) n) e

same_number : (a b : ℕ) → Some a ≡ Some b → a ≡ b
same_number a b e = cc

stands-test : (group : Draw) (r : ReplicaState) (rs : List ReplicaState) (b : Bool) (at k : ℕ) → same_draw (name_of r) group ≡ b
    → ((j : ℕ) → place_from (at + 1) group rs ≡ Some (at + 1 + j) → StandsAt group rs j)
    → (if b then Some at else place_from (at + 1) group rs) ≡ Some (at + k) → StandsAt group (r ∷ rs) k
stands-test group r rs true at zero is rest e = record { within = omega arith; found = λ d. rw is refl; written = λ new. rw is refl }
stands-test group r rs true at (suc k) is rest e = let same : at ≡ at + suc k = same_number at (at + suc k) e in absurd (omega arith)
stands-test group r rs false at zero is rest e = let less : at + 1 ≤ at + 0 = place-after group rs (at + 1) (at + 0) e in absurd (omega arith)
stands-test group r rs false at (suc k) is rest e =
    let same : at + suc k ≡ at + 1 + k = omega arith in
    let there = rest k (e ∙ ap (λ n. Some n) same) in
    record {
      within = omega (arith, there.within);
      found = λ d. rw is (there.found d);
      written = λ new. rw is (ap (λ ys. r ∷ ys) (there.written new));
    }

stands-from : (group : Draw) (rs : List ReplicaState) (at k : ℕ) → place_from at group rs ≡ Some (at + k) → StandsAt group rs k
stands-from group [] at k e = absurd (cc)
stands-from group (r ∷ rs) at k e = stands-test group r rs (same_draw (name_of r) group) at k refl (stands-from group rs (at + 1)) e

-- where its place is told
stands-at : (group : Draw) (rs : List ReplicaState) (n : ℕ) → place_from 0 group rs ≡ Some n → StandsAt group rs n
stands-at group rs n e = let same : n ≡ 0 + n = omega arith in stands-from group rs 0 n (e ∙ ap (λ m. Some m) same)

nowhere-test : (group : Draw) (r : ReplicaState) (rs : List ReplicaState) (b : Bool) (at : ℕ) → same_draw (name_of r) group ≡ b → (place_from (at + 1) group rs ≡ None → replica_of group rs ≡ None)
    → (if b then Some at else place_from (at + 1) group rs) ≡ None → replica_of group (r ∷ rs) ≡ None
nowhere-test group r rs true at is rest e = absurd (cc)
nowhere-test group r rs false at is rest e = rw is (rest e)

-- where no place is told
stands-nowhere : (group : Draw) (rs : List ReplicaState) (at : ℕ) → place_from at group rs ≡ None → replica_of group rs ≡ None
stands-nowhere group [] at e = refl
stands-nowhere group (r ∷ rs) at e = nowhere-test group r rs (same_draw (name_of r) group) at refl (stands-nowhere group rs (at + 1)) e

-- what is told of the first place is the place of the group's replica
pub place_is : (group : Draw) (rs : List ReplicaState) (o : Option ℕ) → o ≡ place_from 0 group rs → IsPlaceOf group rs o
place_is group rs (Some n) e = stands-at group rs n (sym e)
place_is group rs None e = stands-nowhere group rs 0 (sym e)

-- whether there is a replica, by its place
pub known_by : (group : Draw) (rs : List ReplicaState) (o : Option ℕ) → o ≡ place_from 0 group rs → is_some o ≡ is_some (replica_of group rs)
known_by group [] (Some n) e = absurd (cc)
known_by group [] None e = refl
known_by group (r ∷ rs) (Some n) e = sym (ap is_some ((stands-at group (r ∷ rs) n (sym e)).found r))
known_by group (r ∷ rs) None e = sym (ap is_some (stands-nowhere group (r ∷ rs) 0 (sym e)))
