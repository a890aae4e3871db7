-- Which lists of events are a history.
use Rattle.std.specs.Prelude.{◌≡◌, ◌<◌, ℕ, ◌==◌, Bool, true, false, List, [], ◌∷◌, ◌++◌, AllPairs, fold, Option, Some, None, if◌then◌else◌}
use Rattle.sc_base.specs.declared.ops.Op.{Op}
use Rattle.sc_base.specs.declared.ops.Op.TheVariants.{Get, Put, Del, Add, Cas}
use Rattle.sc_history.specs.declared.events.Act.{Act}
use Rattle.sc_history.specs.declared.events.Act.TheVariants.{Begin, End}
use Rattle.sc_history.specs.declared.events.End.TheVariants.{Absent, Value, Done, No, Fail, Lost}
use Rattle.sc_history.specs.declared.events.End as end
use Rattle.sc_history.specs.declared.events.Event.{Event}

-- whether an operation writes only under a condition
abbrev pub is_conditional : Op → Bool
is_conditional (Get key) = false
is_conditional (Put key value) = false
is_conditional (Del key) = false
is_conditional (Add key value) = true
is_conditional (Cas key expect value) = true

-- a request can end so: `no` is for conditional writes alone
abbrev pub CanEnd : Op → end.End → Type 0
CanEnd op Absent = Unit {0}
CanEnd op (Value value) = Unit {0}
CanEnd op Done = Unit {0}
CanEnd op No = is_conditional op ≡ true
CanEnd op Fail = Unit {0}
CanEnd op Lost = Unit {0}

-- a process that was told this may ask again: it was not told `lost`
abbrev pub MayAskAfter : end.End → Type 0
MayAskAfter Absent = Unit {0}
MayAskAfter (Value value) = Unit {0}
MayAskAfter Done = Unit {0}
MayAskAfter No = Unit {0}
MayAskAfter Fail = Unit {0}
MayAskAfter Lost = ⊥

-- the last act of a process, if it has one
abbrev pub last_act : ℕ → List Event → Option Act
last_act process events = fold (λ last event. if event.process == process then Some event.act else last) None events

-- an act may follow the last one of its process: one request is under way at a time, and none after `lost`
abbrev pub MayFollow : Option Act → Act → Type 0
MayFollow None (Begin op) = Unit {0}
MayFollow None (End told) = ⊥
MayFollow (Some (Begin op)) (Begin next) = ⊥
MayFollow (Some (Begin op)) (End told) = CanEnd op told
MayFollow (Some (End told)) (Begin op) = MayAskAfter told
MayFollow (Some (End told)) (End next) = ⊥

-- behind the events before, each event may follow the last act of its process
abbrev pub AreInTurn : List Event → List Event → Type 0
AreInTurn before [] = Unit {0}
AreInTurn before (event ∷ events) = MayFollow (last_act event.process before) event.act × AreInTurn (before ++ event ∷ []) events

-- events are a history: their lines ascend, and the acts of each process are requests and their ends, in turn
pub record IsHistory (events : List Event) : Type 0 where
  pub ascending : AllPairs (λ (one other : Event). one.line < other.line) events
  pub in_turn : AreInTurn [] events
