-- A replica's table takes the mail of an order as the rows of `Rows.antt` say.
use Rattle.std.specs.Prelude.{◌≡◌, ℕ, ◌≤◌, true, false, List, [], ◌∷◌, Option, Some, None}
use Rattle.sc_node_table.specs.Values.{Draw, Offer, Watch, Outcome, Past, Vote, TxPrepare, TxVote, TxOutcome, TxElsewhere, TxWatch, TxWatched}
use Rattle.sc_node_table.specs.NodeDefinitions.{absent, pumped, ReplicaState, Place, name_of, next, settled, listed, mailed, standing_vote, noted_outcome}
use Rattle.sc_words.specs.declared.paxos.answers.Must.TheVariants.{Free as Open}
use Rattle.sc_words.specs.paxos.PaxosDefinitions.{must}
use Rattle.sc_live_steps.specs.orders.Scenes.{Turn, is_watch, Asking, Bound, Errand, Question, Elsewhere, Work, Answers, Records, Ends, IsOnly}
use Rattle.sc_live_steps.specs.orders.Parts.{bond_of, is_yes, is_cast_yes, works, errands_for}

-- No report that the leader has counted says what it must offer at a slot that it has not executed.
abbrev pub IsUnbound : ReplicaState → Type 0
IsUnbound r = (slot : ℕ) → next r ≤ slot → must slot r.leader ≡ Open

-- After a step the replica has this work; its group's state and whether it runs stay as they were; and the step sends these errands and no others.
pub record Works (done : List Work) (sent : List (Draw × List Errand)) (r : ReplicaState) (after : Place) : Type 0 where
  pub group : after.0.group ≡ r.group
  pub me : after.0.me ≡ r.me
  pub running : after.0.running ≡ r.running
  pub work : works after.0 ≡ done
  pub sends : IsOnly [] sent (λ name. errands_for name after.1)

-- A pump, which offers queued commands at open slots, leaves a replica's one work, or none, as it was.
abbrev pub PumpsKeepWork : Type 0
PumpsKeepWork = (work : Option Work) (r : ReplicaState) → IsUnbound r → works r ≡ listed work → Works (listed work) [] r (pumped (r, []))

-- A leader that no report binds and that has no work; calls may wait.
pub record MayFile (r : ReplicaState) : Type 0 where
  pub running : r.running ≡ true
  pub unbound : IsUnbound r
  pub idle : works r ≡ []

-- What a leader takes becomes its one work: a question on which it has cast no vote; a vote for which it waits, in a transaction whose outcome is not noted;
-- and an outcome of the transaction in which it is bound.
pub record TablesFile : Type 0 where
  pub offer : (from : ℕ) (tx : Draw) (offer : Offer) (r : ReplicaState) → MayFile r → standing_vote r.group.core tx ≡ None
      → Works (Answers tx offer.coord false offer.by ∷ []) [] r (mailed from (TxPrepare tx offer) (r, [])).0
  pub watch : (from : ℕ) (tx : Draw) (watch : Watch) (r : ReplicaState) → MayFile r → standing_vote r.group.core tx ≡ None
      → Works (Answers tx watch.coord true watch.by ∷ []) [] r (mailed from (TxWatch tx watch) (r, [])).0
  pub vote : (from : ℕ) (tx coord part : Draw) (vote : Vote) (asked : Draw) (turn : Turn) (r : ReplicaState) → MayFile r → bond_of r.group.core ≡ Asking tx asked turn → is_watch turn ≡ false
      → noted_outcome r.group.core tx ≡ None → Works (Records tx false (is_yes vote) from ∷ []) [] r (mailed from (TxVote tx coord part vote) (r, [])).0
  pub watched : (from : ℕ) (tx coord part : Draw) (vote : Past) (asked : Draw) (turn : Turn) (r : ReplicaState) → MayFile r → bond_of r.group.core ≡ Asking tx asked turn → is_watch turn ≡ true
      → noted_outcome r.group.core tx ≡ None → Works (Records tx true (is_cast_yes vote) from ∷ []) [] r (mailed from (TxWatched tx coord part vote) (r, [])).0
  pub outcome : (from : ℕ) (tx part : Draw) (outcome : Outcome) (r : ReplicaState) → MayFile r → bond_of r.group.core ≡ Bound tx
      → Works (Ends tx ∷ []) [] r (mailed from (TxOutcome tx part outcome) (r, [])).0

-- A replica that does not run, and a node without a replica, send a question back to its sender, to be asked at another node.
pub record TablesPass : Type 0 where
  pub offer : (from : ℕ) (tx : Draw) (offer : Offer) (r : ReplicaState) → r.running ≡ false → standing_vote r.group.core tx ≡ None
      → Works (works r) ((offer.coord, Elsewhere tx from ∷ []) ∷ []) r (mailed from (TxPrepare tx offer) (r, [])).0
  pub watch : (from : ℕ) (tx : Draw) (watch : Watch) (r : ReplicaState) → r.running ≡ false → standing_vote r.group.core tx ≡ None
      → Works (works r) ((watch.coord, Elsewhere tx from ∷ []) ∷ []) r (mailed from (TxWatch tx watch) (r, [])).0
  pub offer_missed : (me from : ℕ) (tx : Draw) (offer : Offer) → IsOnly [] ((offer.coord, Elsewhere tx from ∷ []) ∷ []) (λ name. errands_for name (absent me from (TxPrepare tx offer)))
  pub watch_missed : (me from : ℕ) (tx : Draw) (watch : Watch) → IsOnly [] ((watch.coord, Elsewhere tx from ∷ []) ∷ []) (λ name. errands_for name (absent me from (TxWatch tx watch)))

-- A settled coordinator that is sent to another node asks that node what it asks.
abbrev pub TablesAskOn : Type 0
TablesAskOn =
    (from node : ℕ) (tx coord asked : Draw) (turn : Turn) (r : ReplicaState) → settled r ≡ true → bond_of r.group.core ≡ Asking tx asked turn
    → Works (works r) ((asked, Question tx (name_of r) (is_watch turn) r.me node ∷ []) ∷ []) r (mailed from (TxElsewhere tx coord (Some node)) (r, [])).0
