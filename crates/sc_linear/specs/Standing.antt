-- What a place of the search stands for.
use Rattle.std.specs.Prelude.{◌≡◌, ◌≢◌, ℕ, ◌<◌, ◌≤◌, Bool, true, false, not, ◌&&◌, is_some, is_none, List, [], ◌++◌, length, map, fold, slice_index_or, Option, None, ◌==◌}
use Rattle.std.specs.List.{list_any}
use Rattle.std.specs.Map.{lookup}
use Rattle.sc_base.specs.declared.ops.Op.TheVariants.{Get}
use Rattle.sc_base.specs.Definitions.{Among, Each}
use Rattle.sc_linear_law.specs.declared.requests.Request.{Request}
use Rattle.sc_linear_law.specs.LinearDefinitions.{answer_line, is_before, fits, value_after, EachPair, Place, AllFit}
use Rattle.sc_linear.specs.Search.{same_value, same_place, taken_with}
use Rattle.sc_linear.specs.Trails.{path_at}

-- the request of a number, and what the search asks of it
abbrev pub blank : Request
blank = record { begun = 0; process = 0; op = Get []; ending = None }

abbrev pub request_at : List Request → ℕ → Request
request_at requests x = slice_index_or requests x blank

abbrev pub begun_at : List Request → ℕ → ℕ
begun_at requests x = (request_at requests x).begun

abbrev pub answered_at : List Request → ℕ → Option ℕ
answered_at requests x = answer_line (request_at requests x).ending

abbrev pub fits_at : List Request → ℕ → Option (List ℕ) → Bool
fits_at requests x = fits (request_at requests x).ending (request_at requests x).op

abbrev pub next_at : List Request → ℕ → Option (List ℕ) → Option (List ℕ)
next_at requests x = value_after (request_at requests x).op

-- whether a request is not answered
abbrev pub is_lost_at : List Request → ℕ → Bool
is_lost_at requests x = is_none (answered_at requests x)

-- whether a request changes nothing at a value
abbrev pub is_idle_at : List Request → ℕ → Option (List ℕ) → Bool
is_idle_at requests x value = same_value (next_at requests x value) value

-- whether the search takes a request at a value: it fits, and is not a lost one that changes nothing
abbrev pub may_take : List Request → ℕ → Option (List ℕ) → Bool
may_take requests x value = fits_at requests x value && not (is_lost_at requests x && is_idle_at requests x value)

-- whether a number is among some
abbrev pub has : List ℕ → ℕ → Bool
has xs x = list_any (λ y. y == x) xs

-- the requests of an order
abbrev pub whose : List (ℕ × ℕ) → List ℕ
whose = map (λ step. step.1)

-- the value that requests leave, taken one after another
abbrev pub value_of : List Request → Option (List ℕ) → List ℕ → Option (List ℕ)
value_of requests = fold (λ value x. next_at requests x value)

-- a request is under way just before a line
pub record IsUnder (requests : List Request) (line x : ℕ) : Type 0 where
  pub within : x < length requests
  pub began : begun_at requests x < line
  pub open_yet : is_before (answered_at requests x) line ≡ false

-- a request was taken at a line while it was under way
pub record IsInTime (requests : List Request) (line : ℕ) (step : ℕ × ℕ) : Type 0 where
  pub within : step.1 < length requests
  pub began : begun_at requests step.1 < step.0
  pub open_yet : is_before (answered_at requests step.1) step.0 ≡ false
  pub so_far : step.0 ≤ line

-- an order of requests leads to a place just before a line, or at the event of that line
pub record Stands (requests : List Request) (line : ℕ) (place : Place) (path : List (ℕ × ℕ)) : Type 0 where
  pub fit : AllFit (fits_at requests) (next_at requests) None (whose path)
  pub value_is : value_of requests None (whose path) ≡ place.value
  pub in_time : Each (IsInTime requests line) path
  pub rising : EachPair (λ (a b : ℕ × ℕ). a.0 ≤ b.0) path
  pub once : EachPair (λ (a b : ℕ × ℕ). a.1 ≢ b.1) path
  pub done : (x : ℕ) → x < length requests → is_before (answered_at requests x) line ≡ true → Among x (whose path)
  pub taken_from : (x : ℕ) → Among x place.taken → Among x (whose path) × (is_before (answered_at requests x) line ≡ false)
  pub taken_all : (x : ℕ) → Among x (whose path) → is_before (answered_at requests x) line ≡ false → Among x place.taken
  pub ascending : EachPair (λ (a b : ℕ). a < b) place.taken

-- a place and the number of an order, which leads to it
pub record Leads (requests : List Request) (line : ℕ) (paths : List (List (ℕ × ℕ))) (entry : Place × ℕ) : Type 0 where
  pub within : entry.1 < length paths
  pub stands : Stands requests line entry.0 (path_at paths entry.1)

-- each place has its order
abbrev pub AllLead : List Request → ℕ → List (List (ℕ × ℕ)) → List (Place × ℕ) → Type 0
AllLead requests line paths = Each (Leads requests line paths)

-- two entries have two places
abbrev pub AreApart : List (Place × ℕ) → Type 0
AreApart = EachPair (λ (a b : Place × ℕ). a.0 ≢ b.0)

-- the place at which the search starts
abbrev pub start_entry : Place × ℕ
start_entry = (record { value = None; taken = [] }, 0)

-- whether a place was seen
abbrev pub is_seen : Place → List (Place × ℕ) → Bool
is_seen place entries = is_some (lookup (same_place place) entries)

-- the place at an index
abbrev pub place_at : List (Place × ℕ) → ℕ → Place
place_at entries at = (slice_index_or entries at start_entry).0

-- whether a request can be taken at a place
abbrev pub can_take : List Request → Place → ℕ → Bool
can_take requests place x = not (has place.taken x) && may_take requests x place.value

-- the place once a request is taken
abbrev pub with_request : List Request → Place → ℕ → Place
with_request requests place x = record { value = next_at requests x place.value; taken = taken_with x place.taken }

-- the list has more at its end
abbrev pub Extends : {X : Type 0} → List X → List X → Type 0
Extends {X} old new = (more : List X) × (new ≡ old ++ more)
