-- How a plain journal begins: the frames of the groups of a valid scenario, and its seats.
use Rattle.std.proofs.Common.{◌≡◌, ℕ, ◌+◌, ◌-◌, ◌<◌, ◌≤◌, leb, true, List, [], ◌∷◌, ◌++◌, length, map, refl, sym, ◌∙◌, ap, subst, arith}
use Rattle.std.proofs.lemmas.Bool.{and_from, le-leb}
use Rattle.sc_base.specs.Definitions.{Among, most_nodes, is_member}
use Rattle.sc_node_table.specs.Values.{Draw, Base}
use Rattle.sc_actor.specs.Definitions.{are_apart}
use Rattle.sc_words.proofs.PaxosProofs.PaxosLemmas.{Each-among, Each-from_All, one_of_name}
use Rattle.sc_node_table.specs.NodeDefinitions.{numbers_from}
use Rattle.sc_scenario.specs.scenario.Definitions.{base_at, group_at, IsBounded, IsUpTo}
use Rattle.sc_scenario.specs.declared.scenario.scenarios.Asks.{Asks}
use Rattle.sc_scenario.specs.declared.scenario.scenarios.Scenario.{Scenario}
use Rattle.sc_meaning.specs.sound.SoundDefinitions.{node_seat, client_seat, client_seats, route_of, births, as_nodes}
use Rattle.sc_law_groups.proofs.WholeProofs.WholeLemmas.{all_apart, bases_from, first_and_others, group_place}
use Rattle.sc_paxos_law.proofs.Lemmas.{from_map, member-among}
use Rattle.sc_live_plain.specs.PlainDefinitions.{Frame, frame_of, IsFrame, AreNamedApart}
use Rattle.sc_live_steps.proofs.FollowingProofs.FollowingLemmas.{least_in}
use Rattle.sc_law_groups.proofs.GroupProofs.GroupLemmas.{EachClient, HaveOneSection}

-- the frames of the groups of a scenario
abbrev pub frames_of : Scenario → List Frame
frames_of scenario = map frame_of scenario.groups

-- How a valid scenario begins.
pub record IsStage (scenario : Scenario) : Type 0 where
  pub first : Base
  pub others : List Base
  pub groups_are : scenario.groups ≡ first ∷ others
  pub are : (frame : Frame) → Among frame (frames_of scenario) → IsFrame frame
  pub apart : AreNamedApart (frames_of scenario)
  pub fit : (frame : Frame) → Among frame (frames_of scenario) → (slot node : ℕ) → is_member (frame.at slot) node ≡ true → (1 ≤ node) × (node ≤ scenario.nodes)
  pub seats : births as_nodes scenario ≡ map (node_seat as_nodes scenario.groups scenario.policy) (numbers_from 1 scenario.nodes) ++ map (client_seat (route_of first)) scenario.clients
  pub nodes : scenario.nodes ≤ most_nodes
  pub numbered : EachClient scenario (λ asks. 1 ≤ asks.client)
  pub once : HaveOneSection scenario
  pub seats_apart : are_apart (births as_nodes scenario) ≡ true

module _ (scenario : Scenario) (bounded : IsBounded scenario) where
  within : (k : ℕ) → k < length bounded.starts → (node : ℕ) → is_member (group_at bounded.starts k).members node ≡ true → (1 ≤ node) × (node ≤ scenario.nodes)
  within k low node m =
      let members = (group_at bounded.starts k).members in
      Each-among (IsUpTo scenario.nodes) members node (Each-from_All (IsUpTo scenario.nodes) members (bounded.each k (record { lo = 0; members = [] }) low).members_in) (member-among members node m)

  frame_at : (k : ℕ) → k < length bounded.starts → IsFrame (frame_of (base_at bounded.starts k))
  frame_at k low =
      let roster = (bounded.each k (record { lo = 0; members = [] }) low).roster in
      record {
        free = refl;
        stands = refl;
        own = refl;
        leads = least_in (group_at bounded.starts k).members roster.some;
        rosters = λ slot. roster;
        nodes = λ slot node m. (let w = within k low node m in let one = w.0 in let most = w.1 in let all = bounded.nodes.1 in and_from (leb 1 node) (leb node most_nodes) (le-leb 1 node one) (le-leb node most_nodes (omega (arith, most, all))));
        later = λ slot low_. refl;
      }

  pub frame_is : (frame : Frame) → Among frame (frames_of scenario) → (k : ℕ) × (k < length bounded.starts) × (frame_of (base_at bounded.starts k) ≡ frame)
  frame_is frame a =
      let b = from_map frame_of scenario.groups frame a in
      let g = group_place scenario bounded b.0 b.1 in
      (g.0, g.1, ap frame_of g.2 ∙ b.2)

  named_once : AreNamedApart (frames_of scenario)
  named_once one other a b same =
      let x = frame_is one a in
      let y = frame_is other b in
      let names : x.0 + 1 ≡ y.0 + 1 = ap (λ (f : Frame). f.core.id.count) x.2 ∙ (ap (λ (d : Draw). d.count) same ∙ sym (ap (λ (f : Frame). f.core.id.count) y.2)) in
      let k : x.0 ≡ y.0 = omega (arith, names) in
      sym x.2 ∙ (ap (λ n. frame_of (base_at bounded.starts n)) k ∙ y.2)

  first_base : Base
  first_base = base_at bounded.starts 0

  all_groups : scenario.groups ≡ first_base ∷ bases_from bounded.starts 1 (length bounded.starts - 1)
  unfolding first_base
  all_groups = bounded.groups ∙ first_and_others bounded.starts bounded.some

  -- every bounded scenario begins so
  pub stage : IsStage scenario
  stage = record {
    first = first_base;
    others = bases_from bounded.starts 1 (length bounded.starts - 1);
    groups_are = all_groups;
    are = λ frame a. (let x = frame_is frame a in subst IsFrame x.2 (frame_at x.0 x.1));
    apart = named_once;
    fit = λ frame a slot node m. (let x = frame_is frame a in within x.0 x.1 node (ap (λ (f : Frame). is_member (f.at slot) node) x.2 ∙ m));
    seats = ap (λ gs. map (node_seat as_nodes scenario.groups scenario.policy) (numbers_from 1 scenario.nodes) ++ client_seats gs scenario.clients) all_groups;
    nodes = bounded.nodes.1;
    numbered = λ asks a. (Each-among (λ (x : Asks). 1 ≤ x.client) scenario.clients asks (Each-from_All (λ (x : Asks). 1 ≤ x.client) scenario.clients (λ k d lt. (bounded.clients k d lt).0.0)) a);
    once = one_of_name (λ (asks : Asks). asks.client) scenario.clients (λ i j d lt within_ e. (let below = bounded.ascending i j d lt within_ in absurd (omega (arith, below, e))));
    seats_apart = all_apart scenario bounded;
  }
