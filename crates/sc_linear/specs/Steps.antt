-- Which places of the search are explored, and which remain behind an end.
use Rattle.std.specs.Prelude.{◌≡◌, ℕ, ◌<◌, Bool, true, false, is_none, ◌||◌, List, Some, None, ◌⊎◌}
use Rattle.sc_base.specs.declared.ops.Op.{Op}
use Rattle.sc_base.specs.declared.ops.Op.TheVariants.{Get, Put, Del, Add, Cas}
use Rattle.sc_history.specs.declared.events.End.TheVariants.{Absent, Value, Done, No, Fail, Lost}
use Rattle.sc_base.specs.Definitions.{Among, Each}
use Rattle.sc_linear_law.specs.declared.requests.Request.{Request}
use Rattle.sc_linear_law.specs.LinearDefinitions.{Ending, Place, answer_line, fits, value_after}
use Rattle.sc_linear.specs.Search.{same_value, taken_without}
use Rattle.sc_linear.specs.Standing.{request_at, has, place_at, can_take, with_request, is_seen}

-- whether an ending tells the value that its request met, or that it was refused
abbrev pub tells : Ending → Bool
tells None = false
tells (Some (line, Absent)) = true
tells (Some (line, Value value)) = true
tells (Some (line, Done)) = false
tells (Some (line, No)) = true
tells (Some (line, Fail)) = false
tells (Some (line, Lost)) = false

-- whether an ending says that its request failed
abbrev pub is_failure : Ending → Bool
is_failure None = false
is_failure (Some (line, Absent)) = false
is_failure (Some (line, Value value)) = false
is_failure (Some (line, Done)) = false
is_failure (Some (line, No)) = false
is_failure (Some (line, Fail)) = true
is_failure (Some (line, Lost)) = false

-- whether an operation only reads
abbrev pub is_get : Op → Bool
is_get (Get key) = true
is_get (Put key value) = false
is_get (Del key) = false
is_get (Add key value) = false
is_get (Cas key expect value) = false

-- whether a request leaves whatever value it may meet, where it leaves one
abbrev pub is_settled : Request → Bool
is_settled request = is_get request.op || tells request.ending

-- a request can be taken at a place, and changes nothing there nor wherever else it fits
pub record CanRead (request : Request) (x : ℕ) (place : Place) : Type 0 where
  pub new : has place.taken x ≡ false
  pub answered : is_none (answer_line request.ending) ≡ false
  pub fitting : fits request.ending request.op place.value ≡ true
  pub settled : is_settled request ≡ true
  pub idle : same_value (value_after request.op place.value) place.value ≡ true

-- a request under way is one
pub record IsReaderAt (requests : List Request) (under : List ℕ) (place : Place) (x : ℕ) : Type 0 where
  pub among : Among x under
  pub reads : CanRead (request_at requests x) x place

-- each of these requests that can be taken at a place leads to one that was seen
abbrev pub AllTaken : List Request → List (Place × ℕ) → Place → List ℕ → Type 0
AllTaken requests seen place = Each (λ x. can_take requests place x ≡ true → is_seen (with_request requests place x) seen ≡ true)

-- each request that can be taken at a place leads to one that was seen, or one that changes nothing does
abbrev pub IsClosedAt : List Request → List ℕ → List (Place × ℕ) → Place → Type 0
IsClosedAt requests under seen place =
    AllTaken requests seen place under
    ⊎ ((x : ℕ) × IsReaderAt requests under place x × (is_seen (with_request requests place x) seen ≡ true))

-- each place so far at which a request is not taken is closed
abbrev pub AreClosed : List Request → List ℕ → ℕ → List (Place × ℕ) → ℕ → Type 0
AreClosed requests under who seen count = (at : ℕ) → at < count → has (place_at seen at).taken who ≡ false → IsClosedAt requests under seen (place_at seen at)

-- the place without a request that has ended
abbrev pub without_request : ℕ → Place → Place
without_request who place = record { value = place.value; taken = taken_without who place.taken }

-- each kept place is a seen one with the request that ends, without it
abbrev pub ComeFrom : ℕ → List (Place × ℕ) → List (Place × ℕ) → Type 0
ComeFrom who seen kept = Each (λ k. (e : Place × ℕ) × Among e seen × (has e.0.taken who ≡ true) × (k ≡ (without_request who e.0, e.1))) kept

-- each seen place with the request that ends is kept without it
abbrev pub AreKept : ℕ → List (Place × ℕ) → List (Place × ℕ) → Type 0
AreKept who seen kept = Each (λ e. has e.0.taken who ≡ true → is_seen (without_request who e.0) kept ≡ true) seen

-- whether a request failed
abbrev pub has_failed : Request → Bool
has_failed request = is_failure request.ending
