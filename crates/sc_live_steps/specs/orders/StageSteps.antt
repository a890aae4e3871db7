-- Which stage of an order follows which, by which kind of row of a group.
use Rattle.std.specs.Prelude.{◌≡◌, ℕ, Bool, true, List, ◌⊎◌, Option}
use Rattle.sc_node_table.specs.Values.{Draw}
use Rattle.sc_live_steps.specs.orders.Scenes.{Turn, First, Lone, Next, Errand, Work, Opens, Scene}
use Rattle.sc_live_steps.specs.orders.Stages.{Deal, Mailed, Filed, Party, Stage, Still, Ordered, Asks, SentOn, Weighs, Replied, Recorded, Closes, ClosesBoth, IsAt}
use Rattle.sc_live_steps.specs.orders.OrderStageRows.{IsRow, Kind, Rests, IsTold, PassesOn, AsksOn, Files, Changed, Opened, Voted, Aborted, Decided, Heard, Ended}

-- A relation of a row's group and the stages before and after the row.
abbrev pub Step : Type 1
Step = Draw → Stage → Stage → Type 0

-- The stage stays.
abbrev pub Stays : Step
Stays group before after = after ≡ before

-- The group's leader takes an order.
pub record Begins (group : Draw) (before after : Stage) : Type 0 where
  pub chief : ℕ
  pub work : Work
  pub before_is : before ≡ Still
  pub after_is : after ≡ Ordered group chief work

-- The group executes the order, which is then over.
pub record Changes (group : Draw) (before after : Stage) : Type 0 where
  pub chief : ℕ
  pub work : Work
  pub before_is : before ≡ Ordered group chief work
  pub after_is : after ≡ Still

-- The group executes the order, which begins a transaction: a question to another group is under way.
pub record BeginsDeal (group : Draw) (before after : Stage) : Type 0 where
  pub deal : Deal
  pub to : ℕ
  pub before_is : before ≡ Ordered group deal.chief (Opens deal.tx)
  pub coord_is : deal.coord ≡ group
  pub turn_is : (deal.turn ≡ First) ⊎ (deal.turn ≡ Lone)
  pub after_is : after ≡ Asks deal to

-- The group that is asked sends the question back, to be asked at another node.
pub record Passes (group : Draw) (before after : Stage) : Type 0 where
  pub deal : Deal
  pub to : ℕ
  pub before_is : before ≡ Asks deal to
  pub asked_is : deal.asked ≡ group
  pub after_is : after ≡ SentOn deal

-- The coordinator asks again, at another node.
pub record AsksAgain (group : Draw) (before after : Stage) : Type 0 where
  pub deal : Deal
  pub to : ℕ
  pub before_is : before ≡ SentOn deal
  pub coord_is : deal.coord ≡ group
  pub after_is : after ≡ Asks deal to

-- The group that is asked takes the question.
pub record TakesQuestion (group : Draw) (before after : Stage) : Type 0 where
  pub deal : Deal
  pub to : ℕ
  pub host : ℕ
  pub before_is : before ≡ Asks deal to
  pub asked_is : deal.asked ≡ group
  pub after_is : after ≡ Weighs deal host

-- The group that is asked votes.
pub record Votes (group : Draw) (before after : Stage) : Type 0 where
  pub deal : Deal
  pub agreed : Bool
  pub host : ℕ
  pub before_is : before ≡ Weighs deal host
  pub asked_is : deal.asked ≡ group
  pub after_is : after ≡ Replied deal agreed host

-- The coordinator takes the vote.
pub record TakesVote (group : Draw) (before after : Stage) : Type 0 where
  pub deal : Deal
  pub agreed : Bool
  pub host : ℕ
  pub before_is : before ≡ Replied deal agreed host
  pub coord_is : deal.coord ≡ group
  pub after_is : after ≡ Recorded deal agreed host

-- The coordinator records a No, and the order is over.
pub record Aborts (group : Draw) (before after : Stage) : Type 0 where
  pub deal : Deal
  pub agreed : Bool
  pub host : ℕ
  pub before_is : before ≡ Recorded deal agreed host
  pub coord_is : deal.coord ≡ group
  pub after_is : after ≡ Still

-- The coordinator records its participant's Yes, and asks the watcher.
pub record Hears (group : Draw) (before after : Stage) : Type 0 where
  pub deal : Deal
  pub host : ℕ
  pub next : Deal
  pub to : ℕ
  pub before_is : before ≡ Recorded deal true host
  pub coord_is : deal.coord ≡ group
  pub first : deal.turn ≡ First
  pub tx_same : next.tx ≡ deal.tx
  pub coord_same : next.coord ≡ deal.coord
  pub chief_same : next.chief ≡ deal.chief
  pub turn_is : next.turn ≡ Next deal.asked host
  pub after_is : after ≡ Asks next to

-- The stage at which the outcome is under way to those that said Yes: the one asked last, and the participant heard before it.
abbrev pub closed : Draw → Draw → Turn → ℕ → Stage
closed tx asked First host = Closes tx (record { group = asked; host = host; leg = Mailed })
closed tx asked Lone host = Closes tx (record { group = asked; host = host; leg = Mailed })
closed tx asked (Next part node) host = ClosesBoth tx (record { group = part; host = node; leg = Mailed }) (record { group = asked; host = host; leg = Mailed })

-- The coordinator records a Yes and decides; the outcome is under way.
pub record Decides (group : Draw) (before after : Stage) : Type 0 where
  pub deal : Deal
  pub host : ℕ
  pub before_is : before ≡ Recorded deal true host
  pub coord_is : deal.coord ≡ group
  pub after_is : after ≡ closed deal.tx deal.asked deal.turn host

-- The party, with the outcome at its leader.
abbrev pub filed_there : Party → Party
filed_there party = record party { leg = Filed }

-- A party's leader takes the outcome.
pub data TakesOutcome (group : Draw) (before after : Stage) : Type 0 where
  LastTakes : (tx : Draw) (party : Party) → before ≡ Closes tx party → party.leg ≡ Mailed → party.group ≡ group → after ≡ Closes tx (filed_there party) → TakesOutcome group before after
  OneTakes : (tx : Draw) (one two : Party) → before ≡ ClosesBoth tx one two → one.leg ≡ Mailed → one.group ≡ group → after ≡ ClosesBoth tx (filed_there one) two → TakesOutcome group before after
  TwoTakes : (tx : Draw) (one two : Party) → before ≡ ClosesBoth tx one two → two.leg ≡ Mailed → two.group ≡ group → after ≡ ClosesBoth tx one (filed_there two) → TakesOutcome group before after

-- A party executes the outcome and is free.
pub data IsFreed (group : Draw) (before after : Stage) : Type 0 where
  LastFreed : (tx : Draw) (party : Party) → before ≡ Closes tx party → party.leg ≡ Filed → party.group ≡ group → after ≡ Still → IsFreed group before after
  OneFreed : (tx : Draw) (one two : Party) → before ≡ ClosesBoth tx one two → one.leg ≡ Filed → one.group ≡ group → after ≡ Closes tx two → IsFreed group before after
  TwoFreed : (tx : Draw) (one two : Party) → before ≡ ClosesBoth tx one two → two.leg ≡ Filed → two.group ≡ group → after ≡ Closes tx one → IsFreed group before after

-- The group's leader takes a question, a vote or an outcome.
pub data IsTaken (group : Draw) (before after : Stage) : Type 0 where
  OfQuestion : TakesQuestion group before after → IsTaken group before after
  OfVote : TakesVote group before after → IsTaken group before after
  OfOutcome : TakesOutcome group before after → IsTaken group before after

-- A row of the group leads from the one stage to the other. Each constructor is one kind of row.
pub data IsStepOf (group : Draw) (before after : Stage) : Type 0 where
  ByRest : Stays group before after → IsStepOf group before after
  ByOrder : Begins group before after → IsStepOf group before after
  ByChange : Changes group before after → IsStepOf group before after
  ByDeal : BeginsDeal group before after → IsStepOf group before after
  ByPassing : Passes group before after → IsStepOf group before after
  ByAsking : AsksAgain group before after → IsStepOf group before after
  ByTaking : IsTaken group before after → IsStepOf group before after
  ByVote : Votes group before after → IsStepOf group before after
  ByNo : Aborts group before after → IsStepOf group before after
  ByHearing : Hears group before after → IsStepOf group before after
  ByDeciding : Decides group before after → IsStepOf group before after
  ByEnd : IsFreed group before after → IsStepOf group before after

-- Some stage holds of the scene after the row, and this relation leads to it from the stage before.
abbrev pub Comes : Step → Draw → Stage → Scene → Type 0
Comes Is group before after = (stage : Stage) × IsAt stage after × Is group before stage

-- A row of this kind leads from the stage before it as this relation says.
abbrev pub StepsBy : Kind → Step → Type 0
StepsBy Does Is =
    (now after : Scene) (group : Draw) (taken : Option Errand) (sent : Draw → List Errand) → IsRow now after group taken sent → Does now after group taken sent → (before : Stage) → IsAt before now → Comes Is group before after

-- A row of this kind leads, from the stage at which nothing is under way, as this relation says.
abbrev pub BeginsBy : Kind → Step → Type 0
BeginsBy Does Is =
    (now after : Scene) (group : Draw) (taken : Option Errand) (sent : Draw → List Errand) → IsRow now after group taken sent → Does now after group taken sent → IsAt Still now → Comes Is group Still after

-- Which relation of stages each kind of row satisfies.
pub record RowsStep : Type 0 where
  pub rests : StepsBy Rests Stays
  pub told : BeginsBy IsTold Begins
  pub passes : StepsBy PassesOn Passes
  pub asks : StepsBy AsksOn AsksAgain
  pub files : StepsBy Files IsTaken
  pub changed : StepsBy Changed Changes
  pub opened : StepsBy Opened BeginsDeal
  pub voted : StepsBy Voted Votes
  pub aborted : StepsBy Aborted Aborts
  pub decided : StepsBy Decided Decides
  pub heard : StepsBy Heard Hears
  pub ended : StepsBy Ended IsFreed
