-- What the world has of a group that stands in a quiet journal: the state of its newest replica, and a cut where its arc begins.
use Rattle.std.proofs.Common.{◌≡◌, ℕ, ◌+◌, ◌-◌, ◌/◌, ◌%◌, ◌<◌, ◌≤◌, ◌^◌, true, true≢false, List, [], ◌∷◌, Option, Some, None, inl, inr, refl, sym, ◌∙◌, ap, subst, arith}
use Rattle.std.specs.Prelude.{IsTrue, find, ◌&&◌, cond, option_map, is_none}
use Rattle.std.proofs.lemmas.Option.{same_Some}
use Rattle.std.proofs.lemmas.Bool.{cases_Bool, lt-ltb}
use Rattle.sc_base.proofs.Lemmas.{draw_is, same_name}
use Rattle.sc_base.specs.Definitions.{Among, Arc, IsArc, offset, holds, same_draw, pos_of}
use Rattle.sc_node_table.specs.Values.{Draw, Base, Free, OrderLine, Mail, Row}
use Rattle.sc_words.specs.ideal.IdealDefinitions.{holds_key}
use Rattle.sc_meaning.specs.entries.EntryDefinitions.{effective, effective_by, is_open, serves, IsPlaced, StoreWorld, named_group, is_named}
use Rattle.sc_meaning.specs.declared.entries.Cut.{Cut}
use Rattle.sc_law_entries.specs.logs.LogDefinitions.{AreItsLogs}
use Rattle.sc_group_table.specs.machine.MachineDefinitions.{Group}
use Rattle.sc_node_table.specs.NodeDefinitions.{ReplicaState, next}
use Rattle.sc_words.proofs.PaxosProofs.PaxosLemmas.{find_found}
use Rattle.sc_scenario.specs.declared.scenario.scenarios.Scenario.{Scenario}
use Rattle.sc_meaning.specs.sound.SoundDefinitions.{groups_at, is_birth_of, world_at, as_nodes, IsOneMap}
use Rattle.sc_live_steps.specs.calm.CalmDefinitions.{IsNewest, StandsQuiet}
use Rattle.sc_live_plain.specs.PlainDefinitions.{replicas_after, IsQuietJournal}
use Rattle.sc_live_answers.specs.AnswerDefinitions.{state_of, AreKnown}

-- ---- names

-- a birth record that is found by its name
pub record Found (bases : List Base) (name : Draw) : Type 0 where
  pub base : Base
  pub fact : find (is_birth_of name) bases ≡ Some base
  pub among : Among base bases
  pub named : base.core.id ≡ name

pub found : (bases : List Base) (name : Draw) (base : Base) → Among base bases → base.core.id ≡ name → Found bases name
found [] name base a e = absurd a
found (b ∷ bases) name base a e = elim (cases_Bool (same_draw b.core.id name)) [
  | inl fact ↦ record { base = b; fact = ap (λ t. cond t (Some b) (find (is_birth_of name) bases)) fact; among = inl refl; named = draw_is b.core.id name fact }
  | inr other ↦ (
      let there : Among base bases = elim a [ inl here ↦ absurd (true≢false (sym (same_name b.core.id name (ap (λ (x : Base). x.core.id) here ∙ e)) ∙ other)) | inr more ↦ more ] in
      let f = found bases name base there e in
      record { base = f.base; fact = ap (λ t. cond t (Some b) (find (is_birth_of name) bases)) other ∙ f.fact; among = inr f.among; named = f.named })
]

-- ---- a key at a position

abbrev pub key_at : ℕ → List ℕ
key_at p = p / 16777216 ∷ (p / 65536) % 256 ∷ (p / 256) % 256 ∷ p % 256 ∷ []

pub key_there : (p : ℕ) → p < 2 ^ 32 → pos_of (key_at p) ≡ p
key_there p low = omega arith

-- an arc holds its first position
pub first_held : (arc : Arc) → IsArc arc × (arc.lo < 2 ^ 32) → IsTrue (holds arc arc.lo)
first_held arc fact = lt-ltb (offset arc arc.lo) arc.len (near arc.lo arc.len fact.1 fact.0.some)
  where
    near : (lo len : ℕ) → lo < 2 ^ 32 → 1 ≤ len → ((lo + 2 ^ 32) - lo) % 2 ^ 32 < len
    near lo len a b = omega arith

-- it serves a key on its arc
pub serves_it : (group : Group) (key : List ℕ) → holds_key group.core.arc key ≡ true → group.core.lock ≡ Free → group.core.gone ≡ None → IsTrue (serves group key)
serves_it group key held free stands = ap (λ b. (b && is_open group.core.lock) && is_none group.core.gone) held ∙ (ap (λ lock. is_open lock && is_none group.core.gone) free ∙ ap is_none stands)

module _ (words : ℕ → ℕ → ℕ × ℕ) (scenario : Scenario) (first : Base) (rows : List (Row Mail OrderLine)) (map : IsOneMap (world_at as_nodes scenario.groups rows)) (logs : AreItsLogs as_nodes scenario.groups rows) (known : AreKnown scenario rows) (quiet : IsQuietJournal words scenario first rows) where
  abbrev world : StoreWorld
  world = world_at as_nodes scenario.groups rows

  abbrev at : Draw → ℕ → Option ReplicaState
  at = replicas_after scenario rows

  -- the effective record of a group that is free is its own
  pub free_is : (name : Draw) (group : Group) → named_group name world.groups ≡ Some group → group.core.lock ≡ Free → effective world name ≡ Some group
  free_is name group there free =
      ap (option_map (λ (g : Group). effective_by g.core.lock world.transactions g)) there ∙ ap (λ lock. Some (effective_by lock world.transactions group)) free

  -- what the world has of a group by its newest replica
  pub record IsHad (name : Draw) (r : ReplicaState) : Type 0 where
    pub base : Base
    pub among : Among base (groups_at as_nodes scenario.groups rows)
    pub named : base.core.id ≡ name
    pub state : r.group ≡ state_of scenario rows base
    pub there : named_group name world.groups ≡ Some r.group

  pub had : (name : Draw) (r : ReplicaState) → at name r.me ≡ Some r → ((node : ℕ) (other : ReplicaState) → at name node ≡ Some other → next other ≤ next r) → IsHad name r
  had name r here most =
      let k = known.named name r.me r here in
      let f = found (groups_at as_nodes scenario.groups rows) name k.0 k.1 k.2 in
      let state = known.newest f.base r f.among (subst (λ n. IsNewest at n r) (sym f.named) (record { is_there = here; most = most })) in
      record {
        base = f.base;
        among = f.among;
        named = f.named;
        state = state;
        there = logs.states name ∙ (ap (option_map (state_of scenario rows)) f.fact ∙ ap Some (sym state));
      }

  -- what the world has of a group that stands
  pub effective_is : (name : Draw) (q : StandsQuiet (replicas_after scenario rows) name) → effective (world_at as_nodes scenario.groups rows) name ≡ Some q.lead.group
  effective_is name q =
      free_is name q.lead.group (had name q.lead q.newest.is_there q.newest.most).there (quiet.quiet.at_rest name q.lead.me q.lead q.newest.is_there).free

  -- where a cut of its name is placed, its group is that of the newest replica
  pub placed_group : (name : Draw) (q : StandsQuiet (replicas_after scenario rows) name) (cut : Cut) → cut.group ≡ name → (placed : IsPlaced (world_at as_nodes scenario.groups rows) cut) → placed.group ≡ q.lead.group
  placed_group name q cut named placed = same_Some placed.group q.lead.group (sym placed.fact ∙ (ap (effective world) named ∙ effective_is name q))

  -- it has a cut of the ring
  pub cut_there : (name : Draw) (q : StandsQuiet (replicas_after scenario rows) name) → (cut : Cut) × Among cut (world_at as_nodes scenario.groups rows).ring × (cut.group ≡ name)
  cut_there name q =
      let h = had name q.lead q.newest.is_there q.newest.most in
      let free = (quiet.quiet.at_rest name q.lead.me q.lead q.newest.is_there).free in
      let stood = ap (λ (g : Group). g.core.gone) (sym h.state) ∙ q.stands in
      let arc = subst (λ (g : Group). IsArc g.core.arc × (g.core.arc.lo < 2 ^ 32)) (sym h.state) (known.arcs h.base h.among stood) in
      let group = q.lead.group in
      let key = key_at group.core.arc.lo in
      let held : holds_key group.core.arc key ≡ true = ap (holds group.core.arc) (key_there group.core.arc.lo arc.1) ∙ first_held group.core.arc arc in
      let c = map.serves_apart group (find_found (is_named name) world.groups group h.there).0 key (serves_it group key held free q.stands) in
      (c.0, c.1, c.2 ∙ (quiet.kept name q.lead.me q.lead q.newest.is_there).name_is)
