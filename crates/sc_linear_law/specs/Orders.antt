-- Linearizations (Herlihy and Wing, 1990), on the ideal store.
use Rattle.std.specs.Prelude.{◌≢◌, Bool, not, IsTrue, is_some, List, [], ◌∷◌, map}
use Rattle.std.specs.FinMap.{empty}
use Rattle.sc_base.specs.Definitions.{Among, Each}
use Rattle.sc_words.specs.ideal.IdealDefinitions.{HasStoreReplies}
use Rattle.sc_words.specs.declared.ideal.Entry.{Entry}
use Rattle.sc_linear_law.specs.declared.requests.Request.{Request}
use Rattle.sc_linear_law.specs.declared.requests.Step.{Step}
use Rattle.sc_linear_law.specs.Requests.{answer_line, is_before, fits}

-- a step as an entry of a history of the ideal store
abbrev pub entry_of : Step → Entry
entry_of step = record { client = step.request.process; seq = step.request.begun; op = step.request.op; reply = record { old = step.old } }

-- each element and each one after it are so related
abbrev pub EachPair : {X : Type 0} → (X → X → Type 0) → List X → Type 0
EachPair R [] = Unit {0}
EachPair R (x ∷ xs) = Each (R x) xs × EachPair R xs

-- two steps are of two requests
abbrev pub AreTwo : Step → Step → Type 0
AreTwo a b = a.request.begun ≢ b.request.begun

-- of two steps the second may stand behind the first: it was not answered before the first one began
abbrev pub MayFollow : Step → Step → Type 0
MayFollow a b = IsTrue (not (is_before (answer_line b.request.ending) a.request.begun))

-- the steps are some of these requests, each at most once, in an order that the ideal store can have served them in
pub record IsOrder (must : Request → Bool) (requests : List Request) (steps : List Step) : Type 0 where
  -- they are of these requests
  pub taken : Each (λ step. Among step.request requests) steps
  -- each request stands there at most once
  pub once : EachPair AreTwo steps
  -- each request that must be there is
  pub complete : Each (λ request. IsTrue (must request) → Among request (map (λ (step : Step). step.request) steps)) requests
  -- a request that was answered before another one began stands before it
  pub ordered : EachPair MayFollow steps
  -- each one meets what the one map that they make from the empty one has at its key
  pub replies : HasStoreReplies empty (map entry_of steps)
  -- it was told nothing else, and none that failed is there
  pub told : Each (λ step. IsTrue (fits step.request.ending step.request.op step.old)) steps

-- a request is done
abbrev pub is_done : Request → Bool
is_done request = is_some (answer_line request.ending)

-- the steps are a linearization of these requests: each one that is done is there
abbrev pub IsLinearization : List Request → List Step → Type 0
IsLinearization = IsOrder is_done

-- there is a linearization of these requests
abbrev pub IsLinearizable : List Request → Type 0
IsLinearizable requests = (steps : List Step) × IsLinearization requests steps
