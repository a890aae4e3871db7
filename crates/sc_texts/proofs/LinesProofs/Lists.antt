-- The rest of a list, element by element.
use Rattle.std.proofs.Common.{◌≡◌, ℕ, ◌-◌, ◌≤◌, List, map, take, drop, length, sym, ◌∙◌, ap, arith}
use Rattle.std.proofs.lemmas.List.{drop-map, take_all, length-drop}

-- the rest of mapped lists
pub rest_of : {X Y : Type 0} (f : X → Y) (n : ℕ) (xs : List X) → map f (take (length xs - n) (drop n xs)) ≡ drop n (map f xs)
rest_of f n xs =
    let short : length (drop n xs) ≤ length xs - n = rw (length-drop n xs) (omega arith) in
    ap (map f) (take_all (length xs - n) (drop n xs) short) ∙ sym (drop-map f n xs)
