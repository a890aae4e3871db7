-- The groups of a bounded scenario are free at their birth, have names of their own, and follow one another.
use Rattle.std.proofs.Common.{◌≡◌, ℕ, ◌+◌, ◌<◌, ◌≤◌, nat_le, [], length, refl, sym, ◌∙◌, ap, subst, arith}
use Rattle.std.proofs.lemmas.Bool.{le-leb}
use Rattle.sc_base.specs.Definitions.{Among, least_of, most_nodes}
use Rattle.sc_node_table.specs.Values.{Draw, Base}
use Rattle.sc_words.proofs.PaxosProofs.PaxosLemmas.{Each-among, Each-from_All}
use Rattle.sc_scenario.specs.declared.scenario.scenarios.Scenario.{Scenario}
use Rattle.sc_scenario.specs.scenario.Definitions.{IsBounded, IsUpTo, base_at, place_right}
use Rattle.sc_paxos_law.proofs.Lemmas.{member-among}
use Rattle.sc_law_groups.proofs.WholeProofs.WholeLemmas.{in_up_to, group_place, right_in}
use Rattle.sc_live_steps.proofs.FollowingProofs.FollowingLemmas.{least_in}
use Rattle.sc_base.proofs.Lemmas.{and_both}
use Rattle.sc_live_healed.proofs.FixedWalks.{IsFresh, IsMember}
use Rattle.sc_live_healed.proofs.FixedNodes.{AreFresh}

module _ (scenario : Scenario) (bounded : IsBounded scenario) where
  some_members : (k : ℕ) → k < length bounded.starts → 1 ≤ length (base_at bounded.starts k).core.members
  some_members k low = (bounded.each k (record { lo = 0; members = [] }) low).roster.some

  pub groups_fresh : AreFresh scenario.groups
  groups_fresh = record {
    each = λ base a me m. (let p = group_place scenario bounded base a in subst (λ (b : Base). IsMember b me → IsFresh b me) p.2 (λ fact. record { free = refl; stands = refl; first = least_in (base_at bounded.starts p.0).core.members (some_members p.0 p.1); member = fact }) m);
    apart = λ one other a b same.
        (let x = group_place scenario bounded one a in
        let y = group_place scenario bounded other b in
        let names : x.0 + 1 ≡ y.0 + 1 = ap (λ (f : Base). f.core.id.count) x.2 ∙ (ap (λ (d : Draw). d.count) same ∙ sym (ap (λ (f : Base). f.core.id.count) y.2)) in
        let k : x.0 ≡ y.0 = omega (arith, names) in
        sym x.2 ∙ (ap (λ n. base_at bounded.starts n) k ∙ y.2));
    least = λ base a. (let p = group_place scenario bounded base a in subst (λ (b : Base). IsMember b (least_of b.core.members)) p.2 (least_in (base_at bounded.starts p.0).core.members (some_members p.0 p.1)));
    follows = λ base a.
        (let p = group_place scenario bounded base a in
        let right : ℕ = place_right bounded.starts p.0 in
        subst (λ (b : Base). (other : Base) × Among other scenario.groups × (other.core.id ≡ b.core.succ.group) × (other.core.members ≡ b.core.succ.members)) p.2
        (base_at bounded.starts right, subst (Among (base_at bounded.starts right)) (sym bounded.groups) (in_up_to bounded.starts (length bounded.starts) right (right_in bounded.starts p.0 p.1)), refl, refl));
    within = λ base a node m.
        (let p = group_place scenario bounded base a in
        let line = bounded.each p.0 (record { lo = 0; members = [] }) p.1 in
        let up : IsUpTo scenario.nodes node = Each-among (IsUpTo scenario.nodes) (base_at bounded.starts p.0).core.members node (Each-from_All (IsUpTo scenario.nodes) (base_at bounded.starts p.0).core.members line.members_in)
        (member-among (base_at bounded.starts p.0).core.members node (subst (λ (b : Base). IsMember b node) (sym p.2) m)) in
        let most = bounded.nodes.1 in
        and_both (nat_le 1 node) (nat_le node most_nodes) (le-leb 1 node up.0) (le-leb node most_nodes (omega (arith, up, most))));
  }
