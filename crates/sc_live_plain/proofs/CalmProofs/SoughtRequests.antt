-- What it is for a request that waits to be on its way: it is pending itself, or its answer is, or it is queued at the leader that was asked.
use Rattle.std.proofs.Common.{◌≡◌, ℕ, Some, ◌⊎◌, sym, ◌∙◌, ap}
use Rattle.sc_base.specs.Definitions.{Among, client_actor}
use Rattle.sc_node_table.specs.Values.{Draw, Op, AnswerBody, Answer, Client}
use Rattle.sc_actor.specs.Definitions.{value}
use Rattle.sc_client_table.specs.table.TableDefinitions.{Client as ClientState}
use Rattle.sc_node_table.specs.NodeDefinitions.{ReplicaState}
use Rattle.sc_scenario.specs.declared.scenario.scenarios.Asks.{Asks}
use Rattle.sc_scenario.specs.declared.scenario.scenarios.Scenario.{Scenario}
use Rattle.sc_meaning.specs.sound.SoundDefinitions.{player_table, client_seat, route_of, system_of, as_nodes}
use Rattle.sc_live_orderly.specs.OrderlyDefinitions.{IsTidy, rest}
use Rattle.sc_live_plain.specs.PlainDefinitions.{IsAsking, replica_at, IsLinkedSetting, Setting, IsSetting, Frame, IsWaiting}
use Rattle.sc_live_plain.proofs.PlainProofs.PlainBeginnings.{IsStage}
use Rattle.sc_live_plain.proofs.PlainRowsProofs.RowViews.{Journal}
use Rattle.sc_live_plain.proofs.CalmProofs.CalmClients.{EndsWait}
use Rattle.sc_live_plain.proofs.CalmProofs.CalmClients.{asking}
use Rattle.sc_live_plain.proofs.LeadersProofs.LeadingReplicas.{IsHeld}
use Rattle.sc_live_plain.proofs.PlainRowsProofs.RowViews.{client_is}
use Rattle.sc_live_plain.proofs.PlainRowsProofs.RepeatedMail.{mail_of}

module _ (words : ℕ → ℕ → ℕ × ℕ) (scenario : Scenario) (begins : IsStage scenario) (set : Setting) (fact : IsSetting set) (linked : IsLinkedSetting set) where
  -- its request is on its way
  abbrev pub IsAsked : Journal → ClientState → Draw → ℕ → ℕ → Type 0
  IsAsked rows client group target seq = (op : Op) × Among (asking client.me target group seq op) (rest (system_of as_nodes words scenario) rows target)

  -- its answer is
  pub record IsAnswered (rows : Journal) (client : ClientState) (group : Draw) (target seq : ℕ) : Type 0 where
    pub answer : AnswerBody
    pub ends : EndsWait answer
    pub there : Among (mail_of target (client_actor client.me) (Answer group seq answer)) (rest (system_of as_nodes words scenario) rows (client_actor client.me))

  -- its request is queued at the leader
  pub record IsHeldAt (rows : Journal) (client : ClientState) (group : Draw) (target seq : ℕ) : Type 0 where
    pub frame : Frame
    pub is_frame : Among frame set.frames
    pub name : frame.core.id ≡ group
    pub lead : frame.lead ≡ target
    pub r : ReplicaState
    pub there : replica_at scenario rows group target ≡ Some r
    pub held : IsHeld r client.me seq

  -- one of these
  abbrev pub IsSought : Journal → ClientState → Draw → ℕ → ℕ → Type 0
  IsSought rows client group target seq = IsAsked rows client group target seq ⊎ (IsAnswered rows client group target seq ⊎ IsHeldAt rows client group target seq)

  abbrev pub AreSought : Journal → Type 0
  AreSought rows = (asks : Asks) (client : ClientState) → Among asks scenario.clients → value player_table (client_seat (route_of begins.first) asks) rows ≡ Client client → (w : IsWaiting client) → IsSought rows client w.group w.target w.seq

  module _ (rows : Journal) (t : IsTidy rows) (j : IsAsking words scenario set begins.first rows) (sought : AreSought rows) where
    pub me_of : (asks : Asks) (client : ClientState) → Among asks scenario.clients → value player_table (client_seat (route_of begins.first) asks) rows ≡ Client client → client.me ≡ asks.client
    me_of asks client a e = (let c = j.clients asks a in ap (λ (x : ClientState). x.me) (client_is (sym e ∙ c.fact)) ∙ c.calm.me_is)
