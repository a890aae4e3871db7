-- A text is no shorter than its parts.
use Rattle.std.proofs.Common.{ℕ, ◌<◌, ◌≤◌, List, ◌∷◌, ◌++◌, length, Bool, true, false, arith, length-append}
use Rattle.json.specs.Print.{quoted}
use Rattle.serde_json.specs.Data.{Data, array, Items, no_items, item, Members, member}
use Rattle.serde_json.specs.Events.{items_len}
use Rattle.serde_json.specs.Written.{comma_if, compact_text, items_text, members_text}

-- each item after the first has a comma
later_items_counted : (ds : Items) → items_len ds < length (items_text true ds)
later_items_counted no_items = omega arith
later_items_counted (item value more) = omega (arith, length-append (compact_text value) (items_text true more), later_items_counted more)

first_items_counted : (ds : Items) → items_len ds ≤ length (items_text false ds)
first_items_counted no_items = omega arith
first_items_counted (item value more) = omega (arith, length-append (compact_text value) (items_text true more), later_items_counted more)

pub items_counted : (ds : Items) → items_len ds ≤ length (compact_text (array ds))
items_counted ds = omega (arith, first_items_counted ds)

pub items_parts : (later : Bool) (d : Data) (ds : Items) → (length (compact_text d) ≤ length (items_text later (item d ds))) × (length (items_text true ds) ≤ length (items_text later (item d ds)))
items_parts later d ds =
    let inner = length-append (compact_text d) (items_text true ds) in
    let outer = length-append (comma_if later) (compact_text d ++ items_text true ds) in
    (omega (arith, inner, outer), omega (arith, inner, outer))

pub members_parts : (later : Bool) (name : List ℕ) (d : Data) (ms : Members)
    → (length (compact_text d) ≤ length (members_text later (member name d ms))) × (length (members_text true ms) ≤ length (members_text later (member name d ms)))
members_parts later name d ms =
    let rest = compact_text d ++ members_text true ms in
    let inner = length-append (compact_text d) (members_text true ms) in
    let named = length-append (quoted name) (58 ∷ rest) in
    let outer = length-append (comma_if later) (quoted name ++ 58 ∷ rest) in
    (omega (arith, inner, named, outer), omega (arith, inner, named, outer))
