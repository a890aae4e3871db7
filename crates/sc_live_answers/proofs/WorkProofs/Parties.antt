-- What the parties of an order are, by what they executed since the quiet before it.
use Rattle.std.proofs.Common.{◌≡◌, ℕ, Bool, false, List, [], ◌∷◌, Some, ◌∙◌, ap}
use Rattle.sc_node_table.specs.Values.{Draw, Command, Free, Seat}
use Rattle.sc_actor.specs.Definitions.{numbers_of}
use Rattle.sc_group_table.specs.machine.MachineDefinitions.{Group, state_after}
use Rattle.sc_node_table.specs.NodeDefinitions.{ReplicaState}
use Rattle.sc_meaning.specs.sound.SoundDefinitions.{Player}
use Rattle.sc_live_steps.specs.calm.CalmDefinitions.{Rows}
use Rattle.sc_live_steps.specs.orders.OrderDefinitions.{bond_of, Asking, Bound, Turn, First, Lone, Next}
use Rattle.sc_live_journals.specs.rows.RowDefinitions.{view_at}
use Rattle.sc_live_journals.specs.scenes.SceneDefinitions.{bond_by, bond_there, scene_at}
use Rattle.sc_live_answers.specs.AnswerDefinitions.{AreDeeds, Promising, Voting, opened}
use Rattle.sc_live_answers.proofs.VotesProofs.OpenedTransactions.{HasBoth, IsBoundBy, IsOpened, both_by, opened_by, voted_by}

-- the bond of a group that is led, by its leader
pub lead_bond : (births : List (Seat Player)) (rows : Rows) (name : Draw) (host : ℕ) (r : ReplicaState) → (scene_at births rows).lead name ≡ Some host → view_at births rows name host ≡ Some r → ((scene_at births rows).at name).bond ≡ bond_of r.group.core
lead_bond births rows name host r leads has = ap (bond_by (view_at births rows name) (numbers_of births)) leads ∙ ap bond_there has

-- what a coordinator is in its turn, where it was this group
abbrev pub Coordinates : Group → Draw → Draw → Turn → Group → Type 0
Coordinates group tx asked First made = IsOpened group tx asked First made
Coordinates group tx asked Lone made = IsOpened group tx asked Lone made
Coordinates group tx asked (Next part host) made = HasBoth group tx asked part made

-- its deeds make it so
pub coordinates : (group : Group) → group.core.lock ≡ Free → (tx tx2 asked : Draw) (turn : Turn) (entries : List Command) → AreDeeds (opened tx turn) entries → bond_of (state_after group entries).core ≡ Asking tx2 asked turn
    → Coordinates group tx asked turn (state_after group entries)
coordinates group free tx tx2 asked First (c ∷ []) are e = opened_by group free tx tx2 asked First c are.0.0 are.0.1 e
coordinates group free tx tx2 asked Lone (c ∷ []) are e = opened_by group free tx tx2 asked Lone c are.0.0 are.0.1 e
coordinates group free tx tx2 asked (Next part host) (c ∷ (d ∷ [])) are e = both_by group free tx tx2 asked part host are.1.0.0 c d are.0.0 are.0.1 are.1.0.1 e
coordinates group free tx tx2 asked First [] are e = absurd are
coordinates group free tx tx2 asked Lone [] are e = absurd are
coordinates group free tx tx2 asked (Next part host) [] are e = absurd are
coordinates group free tx tx2 asked First (c ∷ (d ∷ more)) are e = absurd are.1
coordinates group free tx tx2 asked Lone (c ∷ (d ∷ more)) are e = absurd are.1
coordinates group free tx tx2 asked (Next part host) (c ∷ []) are e = absurd are.1
coordinates group free tx tx2 asked (Next part host) (c ∷ (d ∷ (more ∷ rest))) are e = absurd are.1.1

-- it has decided nothing since
pub decided_same : (group : Group) (tx asked : Draw) (turn : Turn) (made : Group) → Coordinates group tx asked turn made → made.core.decided ≡ group.core.decided
decided_same group tx asked First made c = ap (λ (g : Group). g.core.decided) c.fact
decided_same group tx asked Lone made c = ap (λ (g : Group). g.core.decided) c.fact
decided_same group tx asked (Next part host) made c = ap (λ (g : Group). g.core.decided) c.heard.fact ∙ ap (λ (g : Group). g.core.decided) c.opened.fact

-- ---- one that voted

-- a group that voted is bound by its Yes on an offer
pub promised : (group : Group) (free : group.core.lock ≡ Free) (tx tx2 : Draw) (entries : List Command) → AreDeeds (Promising tx ∷ []) entries → bond_of (state_after group entries).core ≡ Bound tx2
    → (coord : Draw) × (by : ℕ) × IsBoundBy group free tx tx2 coord false by (state_after group entries)
promised group free tx tx2 (c ∷ []) are e = (are.0.0, are.0.1, voted_by group free tx tx2 are.0.0 false are.0.1 c are.0.2 e)
promised group free tx tx2 [] are e = absurd are
promised group free tx tx2 (c ∷ (d ∷ more)) are e = absurd are.1

-- a group that voted is bound by its Yes on whatever it was asked
pub bound : (group : Group) (free : group.core.lock ≡ Free) (tx tx2 : Draw) (entries : List Command) → AreDeeds (Voting tx ∷ []) entries → bond_of (state_after group entries).core ≡ Bound tx2
    → (coord : Draw) × (watch : Bool) × (by : ℕ) × IsBoundBy group free tx tx2 coord watch by (state_after group entries)
bound group free tx tx2 (c ∷ []) are e = (are.0.0, are.0.1, are.0.2, voted_by group free tx tx2 are.0.0 are.0.1 are.0.2 c are.0.3 e)
bound group free tx tx2 [] are e = absurd are
bound group free tx tx2 (c ∷ (d ∷ more)) are e = absurd are.1
