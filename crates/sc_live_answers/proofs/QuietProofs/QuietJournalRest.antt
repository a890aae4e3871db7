-- A quiet prefix of a calm journal rests, where its players are as a quiet journal asks it.
use Rattle.std.proofs.Common.{◌≡◌, ◌⊎◌, inl, inr, ℕ, Bool, true, false, cond, List, [], ◌∷◌, Option, Some, None, refl, ◌∙◌, ap}
use Rattle.std.specs.Prelude.{nat_le}
use Rattle.sc_node_table.specs.Values.{Draw, Base, OrderLine, Mail}
use Rattle.sc_actor.specs.Definitions.{mails, copies, System, numbers_of}
use Rattle.sc_live_orderly.proofs.OrderlyLemmas.{in_time_tidy, quiet-empty}
use Rattle.sc_scenario.specs.declared.scenario.scenarios.Scenario.{Scenario}
use Rattle.sc_node_table.specs.NodeDefinitions.{ReplicaState, next}
use Rattle.sc_meaning.specs.sound.SoundDefinitions.{Player, births, as_nodes}
use Rattle.sc_live_steps.specs.calm.CalmDefinitions.{players, IsAtRest, Rows}
use Rattle.sc_live_steps.specs.orders.OrderDefinitions.{bond_in, errands_for, Bond, Unbound, Work, Errand, Here, free, Still, IsAt}
use Rattle.sc_live_journals.specs.rows.RowDefinitions.{view_at}
use Rattle.sc_live_journals.specs.scenes.SceneDefinitions.{later, newest_of, lead_of, bond_there, bond_by, works_of, work_at, left_after, scene_at}
use Rattle.sc_live_journals.proofs.ScenesProofs.SceneLemmas.{none_left}
use Rattle.sc_live_answers.specs.AnswerDefinitions.{IsQuietPrefix, PrefixesAreFound, RestsAt, QuietPrefixesRest, RestsBesides, QuietJournalsRest}
use Rattle.sc_live_answers.proofs.RequestsProofs.RequestInvariant.{prefix_timely}
use Rattle.sc_live_plain.specs.PlainDefinitions.{IsQuietJournal}
use Rattle.sc_live_answers.proofs.OrdersProofs.OrderPremises.{no_works}

-- ---- replicas that rest

-- at these nodes each replica is one of those
module _ (at : ℕ → Option ReplicaState) (rests : (node : ℕ) (r : ReplicaState) → at node ≡ Some r → IsAtRest r) where
  bond_here : (o : Option ReplicaState) → ((r : ReplicaState) → o ≡ Some r → IsAtRest r) → bond_there o ≡ Unbound
  bond_here None k = refl
  bond_here (Some r) k = ap (λ lock. bond_in lock r.group.core) (k r refl).free

  works_here : (o : Option ReplicaState) → ((r : ReplicaState) → o ≡ Some r → IsAtRest r) → works_of o ≡ []
  works_here None k = refl
  works_here (Some r) k = no_works r (k r refl)

  either_of : (c : Bool) (a b r : ReplicaState) → cond c (Some a) (Some b) ≡ Some r → (Some a ≡ Some r) ⊎ (Some b ≡ Some r)
  either_of true a b r l = inl l
  either_of false a b r l = inr l

  later_rests : (o p : Option ReplicaState) → ((r : ReplicaState) → o ≡ Some r → IsAtRest r) → ((r : ReplicaState) → p ≡ Some r → IsAtRest r) → (r : ReplicaState) → later o p ≡ Some r → IsAtRest r
  later_rests None p k j r l = j r l
  later_rests (Some a) None k j r l = k r l
  later_rests (Some a) (Some b) k j r l = elim (either_of (nat_le (next b) (next a)) a b r l) [ inl x ↦ k r x | inr y ↦ j r y ]

  newest_rests : (nodes : List ℕ) (r : ReplicaState) → newest_of at nodes ≡ Some r → IsAtRest r
  newest_rests [] r e = cc
  newest_rests (node ∷ nodes) r e = later_rests (at node) (newest_of at nodes) (rests node) (newest_rests nodes) r e

  bond_free : (nodes : List ℕ) (o : Option ℕ) → bond_by at nodes o ≡ Unbound
  bond_free nodes None = bond_here (newest_of at nodes) (newest_rests nodes)
  bond_free nodes (Some node) = bond_here (at node) (rests node)

  work_none : (o : Option ℕ) → work_at at o ≡ []
  work_none None = refl
  work_none (Some node) = works_here (at node) (rests node)

free_here : (bond : Bond) (work : List Work) (errands : List Errand) → bond ≡ Unbound → work ≡ [] → errands ≡ [] → (let h : Here = record { bond = bond; work = work; errands = errands } in h) ≡ free
free_here bond work errands b w e =
    ap (λ x. (let h : Here = record { bond = x; work = work; errands = errands } in h)) b
    ∙ (ap (λ x. (let h : Here = record { bond = Unbound; work = x; errands = errands } in h)) w ∙ ap (λ x. (let h : Here = record { bond = Unbound; work = []; errands = x } in h)) e)

module _ (found_law : PrefixesAreFound) (rest_law : QuietPrefixesRest) (words : ℕ → ℕ → ℕ × ℕ) (scenario : Scenario) (first : Base) (journal prefix : Rows) (q : IsQuietPrefix words scenario journal prefix) (fact : IsQuietJournal words scenario first prefix)
    (besides : RestsBesides words scenario journal prefix q.sent) where
  abbrev s : System Player Mail OrderLine
  s = players words (births as_nodes scenario)

  at_rest : (name : Draw) (node : ℕ) (r : ReplicaState) → view_at (births as_nodes scenario) prefix name node ≡ Some r → IsAtRest r
  at_rest name node r e = fact.quiet.at_rest name node r ((found_law words scenario journal prefix q.calm q.begins).views name node ∙ e)

  none : (name : Draw) → errands_for name (left_after prefix) ≡ []
  none name =
      none_left words (births as_nodes scenario) name (mails prefix) (copies prefix) besides.errands
      (λ who born. quiet-empty s prefix who (in_time_tidy s prefix (prefix_timely words scenario journal prefix q.calm q.begins)) born q.quiet)

  still : IsAt Still (scene_at (births as_nodes scenario) prefix)
  still = record {
    parties = (
      tt,
      λ name out. free_here
          (bond_by (view_at (births as_nodes scenario) prefix name) (numbers_of (births as_nodes scenario)) (lead_of (view_at (births as_nodes scenario) prefix name) (numbers_of (births as_nodes scenario))))
          (work_at (view_at (births as_nodes scenario) prefix name) (lead_of (view_at (births as_nodes scenario) prefix name) (numbers_of (births as_nodes scenario))))
          (errands_for name (left_after prefix))
          (bond_free (view_at (births as_nodes scenario) prefix name) (at_rest name) (numbers_of (births as_nodes scenario)) (lead_of (view_at (births as_nodes scenario) prefix name) (numbers_of (births as_nodes scenario))))
          (work_none (view_at (births as_nodes scenario) prefix name) (at_rest name) (lead_of (view_at (births as_nodes scenario) prefix name) (numbers_of (births as_nodes scenario))))
          (none name),
    );
    leads = tt;
    apart = tt;
    sound = tt;
  }

  rests : RestsAt words scenario first journal prefix
  rests = rest_law words scenario first journal prefix q (record {
    still = still;
    done = λ name node r e runs. (let k = at_rest name node r e in (k.acts, k.backlog));
    rounds = besides.rounds;
    rising = besides.rising;
    clients = fact.clients;
    answered = fact.quiet.answered;
    players = fact.players;
    reached = fact.reached;
    turn = besides.turn;
    turns = besides.turns;
  })

pub quiet_journals_rest : PrefixesAreFound → QuietPrefixesRest → QuietJournalsRest
quiet_journals_rest found_law rest_law words scenario first journal prefix q fact besides = rests found_law rest_law words scenario first journal prefix q fact besides
