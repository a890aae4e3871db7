-- What one row does to an order that is under way, and that each kind of row keeps its stages.
use Rattle.std.specs.Prelude.{◌≡◌, ℕ, Bool, true, false, List, [], ◌∷◌, ◌++◌, if◌then◌else◌, Option, Some, None}
use Rattle.sc_node_table.specs.Values.{Draw}
use Rattle.sc_node_table.specs.NodeDefinitions.{listed}
use Rattle.sc_live_steps.specs.orders.Scenes.{Turn, First, Lone, Next, is_watch, Unbound, Asking, Errand, Question, Elsewhere, Reply, Result, Work, Opens, Answers, Records, Ends, Scene, IsOnly}
use Rattle.sc_live_steps.specs.orders.Stages.{bound_by, IsOrder, IsAt, Still, IsUnderWay, IsQuiet}

-- A row of one group, at one of its nodes, that takes an errand for the group or none.
-- The errands that it sends to other groups are appended to theirs, and whoever leads one of those leads on.
pub record IsRow (now after : Scene) (group : Draw) (taken : Option Errand) (sent : Draw → List Errand) : Type 0 where
  pub before : List Errand
  pub behind : List Errand
  pub takes : (now.at group).errands ≡ before ++ (listed taken ++ behind)
  pub own : (after.at group).errands ≡ (before ++ behind) ++ sent group
  pub others : (other : Draw) → (other ≡ group → ⊥) → after.at other ≡ record (now.at other) { errands = (now.at other).errands ++ sent other }
  pub leads : (other : Draw) (node : ℕ) → (other ≡ group → ⊥) → now.lead other ≡ Some node → after.lead other ≡ Some node

-- What a row may do in its group: a relation of the scenes before and after it, the group, the errand taken and the errands sent.
abbrev pub Kind : Type 1
Kind = Scene → Scene → Draw → Option Errand → (Draw → List Errand) → Type 0

-- Whoever leads the group leads on.
abbrev pub GoesOn : Scene → Scene → Draw → Type 0
GoesOn now after group = (node : ℕ) → now.lead group ≡ Some node → after.lead group ≡ Some node

-- A row that does nothing of the order. Such is also a row in which a leader's work is put in flight or becomes ready, and one in which a node learns an entry or elects itself.
pub record Rests (now after : Scene) (group : Draw) (taken : Option Errand) (sent : Draw → List Errand) : Type 0 where
  pub takes : taken ≡ None
  pub bond : (after.at group).bond ≡ (now.at group).bond
  pub work : (after.at group).work ≡ (now.at group).work
  pub leads : GoesOn now after group
  pub sends : IsOnly [] [] sent

-- A leader is given an order and takes it.
pub record IsTold (now after : Scene) (group : Draw) (taken : Option Errand) (sent : Draw → List Errand) : Type 0 where
  pub takes : taken ≡ None
  pub bond : (after.at group).bond ≡ (now.at group).bond
  pub order : Work
  pub is_order : IsOrder order
  pub work : (after.at group).work ≡ (now.at group).work ++ order ∷ []
  pub chief : ℕ
  pub leads : after.lead group ≡ Some chief
  pub sends : IsOnly [] [] sent

-- A node that does not lead, or has no replica, sends a question back, to be asked at another node.
pub record PassesOn (now after : Scene) (group : Draw) (taken : Option Errand) (sent : Draw → List Errand) : Type 0 where
  pub tx : Draw
  pub coord : Draw
  pub watch : Bool
  pub by : ℕ
  pub to : ℕ
  pub takes : taken ≡ Some (Question tx coord watch by to)
  pub bond : (after.at group).bond ≡ (now.at group).bond
  pub work : (after.at group).work ≡ (now.at group).work
  pub leads : GoesOn now after group
  pub sends : IsOnly [] ((coord, Elsewhere tx by ∷ []) ∷ []) sent

-- A coordinator's leader is sent to another node and asks there.
pub record AsksOn (now after : Scene) (group : Draw) (taken : Option Errand) (sent : Draw → List Errand) : Type 0 where
  pub tx : Draw
  pub to : ℕ
  pub asked : Draw
  pub turn : Turn
  pub chief : ℕ
  pub node : ℕ
  pub takes : taken ≡ Some (Elsewhere tx to)
  pub asking : (now.at group).bond ≡ Asking tx asked turn
  pub led : now.lead group ≡ Some chief
  pub bond : (after.at group).bond ≡ (now.at group).bond
  pub work : (after.at group).work ≡ (now.at group).work
  pub leads : GoesOn now after group
  pub sends : IsOnly [] ((asked, Question tx group (is_watch turn) chief node ∷ []) ∷ []) sent

-- The work that comes of an errand at a leader; none for `Elsewhere`.
abbrev pub work_for : Errand → Option Work
work_for (Question tx coord watch by to) = Some (Answers tx coord watch by)
work_for (Elsewhere tx to) = None
work_for (Reply tx watch agreed by to) = Some (Records tx watch agreed by)
work_for (Result tx to) = Some (Ends tx)

-- A leader takes a question, a vote or an outcome, which becomes its work: it is to go into the log.
pub record Files (now after : Scene) (group : Draw) (taken : Option Errand) (sent : Draw → List Errand) : Type 0 where
  pub errand : Errand
  pub takes : taken ≡ Some errand
  pub filed : Work
  pub files : work_for errand ≡ Some filed
  pub work : (after.at group).work ≡ (now.at group).work ++ filed ∷ []
  pub host : ℕ
  pub led : now.lead group ≡ Some host
  pub bond : (after.at group).bond ≡ (now.at group).bond
  pub leads : GoesOn now after group
  pub sends : IsOnly [] [] sent

-- A leader executes an entry, which was all its work.
pub record Executes (work : Work) (now after : Scene) (group : Draw) (taken : Option Errand) : Type 0 where
  pub takes : taken ≡ None
  pub had : (now.at group).work ≡ work ∷ []
  pub has : (after.at group).work ≡ []

-- A leader executes an order that begins no transaction: members come and go, the group splits at once, or the order has no effect.
pub record Changed (now after : Scene) (group : Draw) (taken : Option Errand) (sent : Draw → List Errand) : Type 0 where
  pub order : Work
  pub is_order : IsOrder order
  pub execution : Executes order now after group taken
  pub bond : (after.at group).bond ≡ (now.at group).bond
  pub sends : IsOnly [] [] sent

-- A leader executes an order that begins a transaction, and asks another group.
pub record Opened (now after : Scene) (group : Draw) (taken : Option Errand) (sent : Draw → List Errand) : Type 0 where
  pub tx : Draw
  pub asked : Draw
  pub watch : Bool
  pub chief : ℕ
  pub node : ℕ
  pub execution : Executes (Opens tx) now after group taken
  pub bond : (after.at group).bond ≡ Asking tx asked (if watch then Lone else First)
  pub apart : asked ≡ group → ⊥
  pub led : now.lead group ≡ Some chief
  pub leads : GoesOn now after group
  pub sends : IsOnly [] ((asked, Question tx group watch chief node ∷ []) ∷ []) sent

-- The group that is asked executes its vote and sends it.
pub record Voted (now after : Scene) (group : Draw) (taken : Option Errand) (sent : Draw → List Errand) : Type 0 where
  pub tx : Draw
  pub coord : Draw
  pub watch : Bool
  pub agreed : Bool
  pub by : ℕ
  pub host : ℕ
  pub willing : watch ≡ true → agreed ≡ true
  pub execution : Executes (Answers tx coord watch by) now after group taken
  pub was : (now.at group).bond ≡ Unbound
  pub bond : (after.at group).bond ≡ bound_by agreed tx
  pub led : now.lead group ≡ Some host
  pub leads : GoesOn now after group
  pub sends : IsOnly [] ((coord, Reply tx watch agreed host by ∷ []) ∷ []) sent

-- The coordinator executes a No, and is free.
pub record Aborted (now after : Scene) (group : Draw) (taken : Option Errand) (sent : Draw → List Errand) : Type 0 where
  pub tx : Draw
  pub by : ℕ
  pub execution : Executes (Records tx false false by) now after group taken
  pub bond : (after.at group).bond ≡ Unbound
  pub sends : IsOnly [] [] sent

-- The errands with the outcome, to those that said Yes: the group asked last, and the participant heard before it.
abbrev pub results : Draw → Draw → Turn → ℕ → List (Draw × List Errand)
results tx asked First by = (asked, Result tx by ∷ []) ∷ []
results tx asked Lone by = (asked, Result tx by ∷ []) ∷ []
results tx asked (Next part host) by = (part, Result tx host ∷ []) ∷ (asked, Result tx by ∷ []) ∷ []

-- The coordinator executes a Yes, decides, and sends the outcome.
pub record Decided (now after : Scene) (group : Draw) (taken : Option Errand) (sent : Draw → List Errand) : Type 0 where
  pub tx : Draw
  pub by : ℕ
  pub asked : Draw
  pub turn : Turn
  pub execution : Executes (Records tx (is_watch turn) true by) now after group taken
  pub was : (now.at group).bond ≡ Asking tx asked turn
  pub bond : (after.at group).bond ≡ Unbound
  pub sends : IsOnly [] (results tx asked turn by) sent

-- The coordinator executes its participant's Yes, and asks the watcher, a third group.
pub record Heard (now after : Scene) (group : Draw) (taken : Option Errand) (sent : Draw → List Errand) : Type 0 where
  pub tx : Draw
  pub by : ℕ
  pub asked : Draw
  pub watcher : Draw
  pub chief : ℕ
  pub node : ℕ
  pub execution : Executes (Records tx false true by) now after group taken
  pub was : (now.at group).bond ≡ Asking tx asked First
  pub bond : (after.at group).bond ≡ Asking tx watcher (Next asked by)
  pub third : (watcher ≡ group → ⊥) × (watcher ≡ asked → ⊥)
  pub led : now.lead group ≡ Some chief
  pub leads : GoesOn now after group
  pub sends : IsOnly [] ((watcher, Question tx group true chief node ∷ []) ∷ []) sent

-- A party executes the outcome and is free.
pub record Ended (now after : Scene) (group : Draw) (taken : Option Errand) (sent : Draw → List Errand) : Type 0 where
  pub tx : Draw
  pub execution : Executes (Ends tx) now after group taken
  pub bond : (after.at group).bond ≡ Unbound
  pub sends : IsOnly [] [] sent

-- Each row of this kind keeps it that some stage stands.
abbrev pub Keeps : Kind → Type 0
Keeps Does =
    (now after : Scene) (group : Draw) (taken : Option Errand) (sent : Draw → List Errand) → IsRow now after group taken sent → Does now after group taken sent → IsUnderWay now → IsUnderWay after

-- Rows that do nothing of an order keep its stages.
abbrev pub RestsKeep : Type 0
RestsKeep = Keeps Rests

-- Rows that send a question back, and rows that ask again elsewhere, keep the stages.
pub record QuestionsKeep : Type 0 where
  pub passes : Keeps PassesOn
  pub asks : Keeps AsksOn

-- Rows in which a leader takes a question, a vote or an outcome keep the stages.
abbrev pub FilesKeep : Type 0
FilesKeep = Keeps Files

-- Rows in which a leader executes an entry of an order keep the stages.
pub record EntriesKeep : Type 0 where
  pub changed : Keeps Changed
  pub opened : Keeps Opened
  pub voted : Keeps Voted
  pub aborted : Keeps Aborted
  pub decided : Keeps Decided
  pub heard : Keeps Heard
  pub ended : Keeps Ended

-- Where nothing is under way, a row in which a leader takes an order begins its stages.
abbrev pub OrdersBegin : Type 0
OrdersBegin =
    (now after : Scene) (group : Draw) (taken : Option Errand) (sent : Draw → List Errand) → IsRow now after group taken sent → IsTold now after group taken sent → IsAt Still now → IsUnderWay after

-- Where no errand is under way and no leader has work, the stage is `Still`, and no group is bound.
abbrev pub QuietIsStill : Type 0
QuietIsStill = (now : Scene) → IsQuiet now → IsUnderWay now → IsAt Still now × ((group : Draw) → (now.at group).bond ≡ Unbound)
