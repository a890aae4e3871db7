-- Where a line stands among lines by ascending beginning.
use Rattle.std.proofs.Common.{◌≡◌, ℕ, suc, ◌+◌, ◌<◌, ◌≤◌, ltb, List, [], ◌∷◌, length, drop, get_or, if◌then◌else◌, inl, inr, sym, ap, ◌∙◌, arith}
use Rattle.std.proofs.Math.Seq.{drop-cons}
use Rattle.std.proofs.lemmas.Bool.{cases_Bool, cond-true, cond-false, lt-ltb, le-ltb}
use Rattle.std.proofs.lemmas.List.{drop_all}
use Rattle.sc_words.specs.declared.commands.links.Route.{Route}
use Rattle.sc_world.specs.Summary.{place_in}

-- it is one of them, or after all
place_within : (lines : List Route) (lo : ℕ) → place_in lines lo ≤ length lines
place_within [] lo = omega arith
place_within (other ∷ lines) lo =
    let more : place_in lines lo ≤ length lines = place_within lines lo in
    elim (cases_Bool (ltb lo other.lo)) [
      | inl t ↦ omega (arith, cond-true (ltb lo other.lo) 0 (1 + place_in lines lo) t)
      | inr f ↦ omega (arith, more, cond-false (ltb lo other.lo) 0 (1 + place_in lines lo) f)
    ]

pub within : (lines : List Route) (lo at : ℕ) → at ≡ place_in lines lo → at ≤ length lines
within lines lo at is = omega (arith, is, place_within lines lo)

split : (lines : List Route) (lo i : ℕ) (other : Route) → i < length lines → other ≡ get_or lines i other → place_in (drop i lines) lo ≡ (if ltb lo other.lo then 0 else 1 + place_in (drop (i + 1) lines) lo)
split lines lo i other lt is =
    let one : suc i ≡ i + 1 = omega arith in
    ap (λ (xs : List Route). place_in xs lo) (drop-cons lines i other lt ∙ ap (λ (x : Route). x ∷ drop (suc i) lines) (sym is))
    ∙ ap (λ (n : ℕ). if ltb lo other.lo then 0 else 1 + place_in (drop n lines) lo) one

-- before the first that begins later
pub here : (lines : List Route) (lo i : ℕ) (other : Route) (at : ℕ) → i < length lines → other ≡ get_or lines i other → lo < other.lo → at ≡ i → place_in lines lo ≡ i + place_in (drop i lines) lo → at ≡ place_in lines lo
here lines lo i other at lt is before count left =
    let none : place_in (drop i lines) lo ≡ 0 = split lines lo i other lt is ∙ cond-true (ltb lo other.lo) 0 (1 + place_in (drop (i + 1) lines) lo) (lt-ltb lo other.lo before) in
    omega (arith, count, left, none)

-- after one that does not
pub later : (lines : List Route) (lo i : ℕ) (other : Route) → i < length lines → other ≡ get_or lines i other → other.lo ≤ lo → place_in lines lo ≡ i + place_in (drop i lines) lo
    → place_in lines lo ≡ (i + 1) + place_in (drop (i + 1) lines) lo
later lines lo i other lt is after left =
    let more : place_in (drop i lines) lo ≡ 1 + place_in (drop (i + 1) lines) lo = split lines lo i other lt is ∙ cond-false (ltb lo other.lo) 0 (1 + place_in (drop (i + 1) lines) lo) (le-ltb lo other.lo after) in
    omega (arith, left, more)

-- after all, where none begins later
pub end : (lines : List Route) (lo i at : ℕ) → length lines ≤ i → at ≡ i → place_in lines lo ≡ i + place_in (drop i lines) lo → at ≡ place_in lines lo
end lines lo i at le count left =
    let none : place_in (drop i lines) lo ≡ 0 = ap (λ (xs : List Route). place_in xs lo) (drop_all i lines le) in
    omega (arith, count, left, none)
