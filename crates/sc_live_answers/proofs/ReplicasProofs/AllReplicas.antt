-- The replicas of all players are those of each seat.
use Rattle.std.proofs.Common.{List, [], ◌∷◌, inl, inr, refl, sym, subst}
use Rattle.sc_base.specs.Definitions.{Among}
use Rattle.sc_node_table.specs.Values.{Seat}
use Rattle.sc_actor.specs.Definitions.{value}
use Rattle.sc_node_table.specs.NodeDefinitions.{ReplicaState}
use Rattle.sc_paxos_law.proofs.Lemmas.{Among-left, Among-right, Among-either}
use Rattle.sc_meaning.specs.sound.SoundDefinitions.{Player, player_table}
use Rattle.sc_live_steps.specs.calm.CalmDefinitions.{Rows}
use Rattle.sc_live_journals.specs.charts.ChartDefinitions.{replicas_of, all_replicas}

module _ (rows : Rows) where
  pub from_seats : (seats : List (Seat Player)) (r : ReplicaState) → Among r (all_replicas seats rows) → (seat : Seat Player) × Among seat seats × Among r (replicas_of (value player_table seat rows))
  from_seats [] r a = absurd a
  from_seats (seat ∷ seats) r a = elim (Among-either r (replicas_of (value player_table seat rows)) (all_replicas seats rows) a) [
    | inl here ↦ (seat, inl refl, here)
    | inr more ↦ (let f = from_seats seats r more in (f.0, inr f.1, f.2))
  ]

  pub into_seats : (seats : List (Seat Player)) (seat : Seat Player) (r : ReplicaState) → Among seat seats → Among r (replicas_of (value player_table seat rows)) → Among r (all_replicas seats rows)
  into_seats [] seat r a here = absurd a
  into_seats (s ∷ seats) seat r (inl e) here = Among-left r (replicas_of (value player_table s rows)) (all_replicas seats rows) (subst (λ x. Among r (replicas_of (value player_table x rows))) (sym e) here)
  into_seats (s ∷ seats) seat r (inr more) here = Among-right r (replicas_of (value player_table s rows)) (all_replicas seats rows) (into_seats seats seat r more here)
