-- The places of a search for a linearization of the requests on one key.
use Rattle.std.specs.Prelude.{◌≡◌, ◌≢◌, ℕ, ◌<◌, Bool, not, nat_lt, ◌↔◌, Some, List, length, Option, map, filter}
use Rattle.std.specs.FinMap.{empty, get}
use Rattle.sc_base.specs.Definitions.{Among, Each}
use Rattle.sc_words.specs.ideal.IdealDefinitions.{contents_after}
use Rattle.sc_linear_law.specs.declared.requests.Request.{Request}
use Rattle.sc_linear_law.specs.declared.requests.Step.{Step}
use Rattle.sc_linear_law.specs.Requests.{answer_line, is_before}
use Rattle.sc_linear_law.specs.Orders.{entry_of, IsOrder, EachPair}

-- the requests that began before this line
abbrev pub begun_before : ℕ → List Request → List Request
begun_before line = filter (λ request. nat_lt request.begun line)

-- whether a request was answered before this line
abbrev pub is_done_before : ℕ → Request → Bool
is_done_before line request = is_before (answer_line request.ending) line

-- the lines on which those requests of these steps began that are under way just before a line
abbrev pub taken_of : ℕ → List Step → List ℕ
taken_of line steps = map (λ step. step.request.begun) (filter (λ step. not (is_done_before line step.request)) steps)

-- a place just before a line: the key's value, and those requests under way that are taken already, by the lines on which they began, ascending
pub record Place : Type 0 where
  pub value : Option (List ℕ)
  pub taken : List ℕ

-- a place of the search without reductions: of an order of the requests so far, in which what is answered later has the value that it will be told
pub record IsPlace (key : List ℕ) (requests : List Request) (line : ℕ) (place : Place) : Type 0 where
  pub steps : List Step
  pub order : IsOrder (is_done_before line) (begun_before line requests) steps
  pub value_is : get (contents_after empty (map entry_of steps)) key ≡ place.value
  pub rising : EachPair (λ (a b : ℕ). a < b) place.taken
  pub taken_is : (begun : ℕ) → Among begun place.taken ↔ Among begun (taken_of line steps)

-- just before the line on which one of these requests is answered there are more than `most` different places
pub record HasMorePlaces (key : List ℕ) (requests : List Request) (most line : ℕ) : Type 0 where
  pub request : Request
  pub stands : Among request requests
  pub answered : answer_line request.ending ≡ Some line
  pub places : List Place
  pub more : most < length places
  pub apart : EachPair (λ a b. a ≢ b) places
  pub each : Each (IsPlace key requests line) places
