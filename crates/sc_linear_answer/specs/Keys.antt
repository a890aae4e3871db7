-- The keys of a history.
use Rattle.std.specs.Prelude.{◌≡◌, ℕ, ◌+◌, Bool, List, [], ◌∷◌, ◌++◌, length, fold, nat_eq, if◌then◌else◌}
use Rattle.std.specs.Borrow.{Bor}
use Rattle.std.specs.HashSet.{HashSet, contains, hash_set_len}
use Rattle.std.specs.List.{list_any}
use Rattle.std.specs.Cmp.Lexicographic.{pointwise}
use Rattle.sc_base.specs.Definitions.{key_of}
use Rattle.sc_history.specs.declared.events.Act.{Act}
use Rattle.sc_history.specs.declared.events.Act.TheVariants.{Begin, End}
use Rattle.sc_history.specs.declared.events.Event.{Event}

-- whether a key is one of these
abbrev pub is_key_in : List ℕ → List (List ℕ) → Bool
is_key_in key keys = list_any (λ other. pointwise nat_eq key other) keys

-- these keys and the one of an act that begins a request, each once
abbrev pub with_key : List (List ℕ) → Act → List (List ℕ)
with_key keys (Begin op) = if is_key_in (key_of op) keys then keys else keys ++ key_of op ∷ []
with_key keys (End told) = keys

-- the keys of the requests of a history, each once
abbrev pub keys_of : List Event → List (List ℕ)
keys_of = fold (λ keys event. with_key keys event.act) []

-- the number of requests, and one more where a request begins
abbrev pub with_request : ℕ → Act → ℕ
with_request count (Begin op) = count + 1
with_request count (End told) = count

-- the number of requests of a history
abbrev pub request_count : List Event → ℕ
request_count = fold (λ count event. with_request count event.act) 0

-- a set of byte slices has these keys
abbrev pub HasKeys : {S : Type 0} → HashSet (Bor (List ℕ)) S → List (List ℕ) → Type 0
HasKeys set keys = ((key : Bor (List ℕ)) → contains (λ (a b : Bor (List ℕ)). pointwise nat_eq a.now b.now) set key ≡ is_key_in key.now keys) × (hash_set_len set ≡ length keys)
