-- Orders that continue one another.
use Rattle.std.proofs.lemmas.List.{get_or_append_left}
use Rattle.std.proofs.Math.Seq.{get_or-append_seam}
use Rattle.std.proofs.Common.{◌≡◌, ℕ, zero, suc, ◌+◌, ◌<◌, ◌≤◌, List, [], ◌∷◌, ◌++◌, length, get_or, fold, refl, sym, ap, ◌∙◌, arith, length-append}
use Rattle.sc_linear.specs.declared.trail.Link.{Link}
use Rattle.sc_linear.specs.Trails.{paths_of, with_link, path_at, IsLinked}

length_from : (paths : List (List (ℕ × ℕ))) (links : List Link) → length (fold with_link paths links) ≡ length paths + length links
length_from paths [] = omega arith
length_from paths (link ∷ links) = let rest : length (fold with_link (with_link paths link) links) ≡ length (with_link paths link) + length links = length_from (with_link paths link) links in omega (arith, length-append paths ((path_at paths link.before ++ (link.line, link.request) ∷ []) ∷ []))

pub length-paths_of : (links : List Link) → length (paths_of links) ≡ length links + 1
length-paths_of links = let all = length_from ([] ∷ []) links in omega arith

pub linked_push : (n : ℕ) (links : List Link) (link : Link) → IsLinked n links → link.before ≤ n + length links → IsLinked n (links ++ link ∷ [])
linked_push n [] link h low = (omega arith, tt)
linked_push n (first ∷ links) link h low = (h.0, linked_push (n + 1) links link h.1 (omega arith))

-- an order is that which it continues, with one more request
linked_get : (n i : ℕ) (links : List Link) (d : Link) → IsLinked n links → i < length links → (get_or links i d).before ≤ n + i
linked_get n i [] d h low = absurd (omega arith)
linked_get n zero (link ∷ links) d h low = (let a : link.before ≤ n = h.0 in omega arith)
linked_get n (suc i) (link ∷ links) d h low = (let r : (get_or links i d).before ≤ (n + 1) + i = linked_get (n + 1) i links d h.1 (omega arith) in omega arith)

pub before_low : (links : List Link) (i : ℕ) (d : Link) → IsLinked 0 links → i < length links → (get_or links i d).before ≤ i
before_low links i d h low = (let r : (get_or links i d).before ≤ 0 + i = linked_get 0 i links d h low in omega arith)

kept_from : (paths : List (List (ℕ × ℕ))) (links : List Link) (i : ℕ) → i < length paths → path_at (fold with_link paths links) i ≡ path_at paths i
kept_from paths [] i low = refl
kept_from paths (link ∷ links) i low =
    let one = (path_at paths link.before ++ (link.line, link.request) ∷ []) ∷ [] in
    let longer : length (with_link paths link) ≡ length paths + length one = length-append paths one in
    kept_from (with_link paths link) links i (omega arith) ∙ get_or_append_left paths one [] i low

path_from : (paths : List (List (ℕ × ℕ))) (links : List Link) (i n : ℕ) (d : Link) → i < length links → length paths ≡ n → (get_or links i d).before < n + i → path_at (fold with_link paths links) (n + i) ≡ path_at (fold with_link paths links) (get_or links i d).before ++ ((get_or links i d).line, (get_or links i d).request) ∷ []
path_from paths [] i n d low long before = absurd (omega arith)
path_from paths (link ∷ links) zero n d low long before =
    let path = path_at paths link.before ++ (link.line, link.request) ∷ [] in
    let longer : length (with_link paths link) ≡ length paths + length (path ∷ []) = length-append paths (path ∷ []) in
    let here : path_at (with_link paths link) (length paths) ≡ path = get_or-append_seam paths path [] [] in
    let seam : path_at (with_link paths link) (n + 0) ≡ path = ap (path_at (with_link paths link)) (omega arith) ∙ here in
    let old : path_at (with_link paths link) link.before ≡ path_at paths link.before = get_or_append_left paths (path ∷ []) [] link.before (omega arith) in
    kept_from (with_link paths link) links (n + 0) (omega arith) ∙ seam
    ∙ ap (λ p. p ++ (link.line, link.request) ∷ []) (sym old ∙ sym (kept_from (with_link paths link) links link.before (omega arith)))
path_from paths (link ∷ links) (suc i) n d low long before =
    let path = path_at paths link.before ++ (link.line, link.request) ∷ [] in
    let longer : length (with_link paths link) ≡ length paths + length (path ∷ []) = length-append paths (path ∷ []) in
    ap (path_at (fold with_link (with_link paths link) links)) (let e : n + suc i ≡ suc n + i = omega arith in e) ∙ path_from (with_link paths link) links i (suc n) d (omega arith) (omega arith) (omega arith)

pub path_more : (links : List Link) (i : ℕ) (d : Link) → IsLinked 0 links → i < length links → path_at (paths_of links) (i + 1) ≡ path_at (paths_of links) (get_or links i d).before ++ ((get_or links i d).line, (get_or links i d).request) ∷ []
path_more links i d h low = ap (path_at (paths_of links)) (let e : i + 1 ≡ 1 + i = omega arith in e) ∙ path_from ([] ∷ []) links i 1 d low refl (let b : (get_or links i d).before ≤ i = before_low links i d h low in omega arith)

pub path_start : (links : List Link) → path_at (paths_of links) 0 ≡ []
path_start links = kept_from ([] ∷ []) links 0 (omega arith)
