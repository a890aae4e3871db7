-- Pages of a list whose keys differ, one after another.
use Rattle.std.proofs.Common.{◌≡◌, ◌≢◌, ℕ, zero, suc, ◌-◌, ◌<◌, ◌≤◌, true, false, List, [], ◌∷◌, ◌++◌, length, take, drop, Option, Some, None, inl, inr, refl, sym, ◌∙◌, ap, subst, append_assoc, arith}
use Rattle.std.specs.Prelude.{nat_eq, nat_lt, slice_get}
use Rattle.std.specs.List.{flat_map}
use Rattle.std.specs.Option.{option_map}
use Rattle.std.specs.Cmp.Lexicographic.{bytes_decides, pointwise}
use Rattle.std.proofs.lemmas.Bool.{cases_Bool, cond-true, cond-false, lt-ltb, le-ltb, ltb-true, ltb-false}
use Rattle.std.proofs.lemmas.List.{append-nil, length-drop, take-append-drop, take_all}
use Rattle.sc_base.specs.Among.{Among}
use Rattle.sc_paxos_law.proofs.Among.{Among-left}
use Rattle.sc_words.proofs.PaxosProofs.ListLemmas.{Each-among}
use Rattle.sc_law_entries.proofs.RingProofs.Finds.{Pairwise, pairwise_from}
use Rattle.sc_world_entries.specs.scans.Laws.{PagesFollow}
use Rattle.sc_world_entries.specs.scans.Order.{HaveKeysOnce, Pair}
use Rattle.sc_world_entries.specs.scans.Pages.{after_key, behind_page, last_key, next_key, pages_from, past}
use Rattle.sc_world_entries.proofs.ScanProofs.PairsInArcs.{KeysDiffer}

same_key : (key : List ℕ) → pointwise nat_eq key key ≡ true
same_key key = (bytes_decides key key).1 refl

other_key : (one key : List ℕ) → one ≢ key → pointwise nat_eq one key ≡ false
other_key one key differ = elim (cases_Bool (pointwise nat_eq one key)) [ inl t ↦ absurd (differ ((bytes_decides one key).0 t)) | inr f ↦ f ]

-- the last of more is the last of all
last_step : (first next : Pair) (more : List Pair) → last_key (first ∷ next ∷ more) ≡ last_key (next ∷ more)
last_step first next more =
    let e : length (first ∷ next ∷ more) - 1 ≡ suc (length (next ∷ more) - 1) = omega arith in
    ap (λ i. option_map (λ (pair : Pair). pair.0) (slice_get (first ∷ next ∷ more) i)) e

last_is : (first : Pair) (prefix : List Pair) → (last : Pair) × Among last (first ∷ prefix) × (last_key (first ∷ prefix) ≡ Some last.0)
last_is first [] = (first, inl refl, refl)
last_is first (next ∷ more) = (let k = last_is next more in (k.0, inr k.1, last_step first next more ∙ k.2))

last_behind : (prefix : List Pair) (next : Pair) (more : List Pair) → last_key (prefix ++ next ∷ more) ≡ last_key (next ∷ more)
last_behind [] next more = refl
last_behind (first ∷ []) next more = last_step first next more
last_behind (first ∷ second ∷ prefix) next more = last_step first second (prefix ++ next ∷ more) ∙ last_behind (second ∷ prefix) next more

past_last : (first : Pair) (prefix rest : List Pair) → Pairwise KeysDiffer ((first ∷ prefix) ++ rest) → after_key (last_key (first ∷ prefix)) ((first ∷ prefix) ++ rest) ≡ rest
past_last first [] rest apart = cond-true (pointwise nat_eq first.0 first.0) rest (past first.0 rest) (same_key first.0)
past_last first (next ∷ more) rest apart =
    let k = last_is next more in
    let differ : first.0 ≢ k.0.0 = Each-among (KeysDiffer first) ((next ∷ more) ++ rest) k.0 apart.0 (Among-left k.0 (next ∷ more) rest k.1) in
    ap (λ key. after_key key ((first ∷ next ∷ more) ++ rest)) (last_step first next more ∙ k.2)
    ∙ cond-false (pointwise nat_eq first.0 k.0.0) ((next ∷ more) ++ rest) (past k.0.0 ((next ∷ more) ++ rest)) (other_key first.0 k.0.0 differ)
    ∙ ap (λ key. after_key key ((next ∷ more) ++ rest)) (sym k.2)
    ∙ past_last next more rest apart.1

-- behind the last key of a prefix comes the rest
behind_last : (prefix rest : List Pair) → HaveKeysOnce (prefix ++ rest) → after_key (last_key prefix) (prefix ++ rest) ≡ rest
behind_last [] rest apart = refl
behind_last (first ∷ prefix) rest apart = past_last first prefix rest (pairwise_from KeysDiffer ((first ∷ prefix) ++ rest) apart)

-- ---- one page

-- a list goes on behind a page as it does behind all before the page and the page
seam : (prefix page rest : List Pair) → (prefix ++ page) ++ rest ≡ prefix ++ (page ++ rest)
seam prefix page rest = append_assoc prefix page rest

behind_page_last : (prefix : List Pair) (first : Pair) (page rest : List Pair) → HaveKeysOnce (prefix ++ ((first ∷ page) ++ rest)) → after_key (last_key (first ∷ page)) (prefix ++ ((first ∷ page) ++ rest)) ≡ rest
behind_page_last prefix first page rest once =
    let e = seam prefix (first ∷ page) rest in
    let k : after_key (last_key (prefix ++ first ∷ page)) ((prefix ++ first ∷ page) ++ rest) ≡ rest = behind_last (prefix ++ first ∷ page) rest (subst HaveKeysOnce (sym e) once) in
    ap (λ all. after_key (last_key (first ∷ page)) all) (sym e)
    ∙ ap (λ key. after_key key ((prefix ++ first ∷ page) ++ rest)) (sym (last_behind prefix first page))
    ∙ k

-- where more pairs are left, the key is the last of the page
key_of : (most : ℕ) (rest : List Pair) → most < length rest → next_key most rest ≡ last_key (take most rest)
key_of most rest more = cond-true (nat_lt most (length rest)) (last_key (take most rest)) None (lt-ltb most (length rest) more)

last_page : (most : ℕ) (rest : List Pair) → length rest ≤ most → next_key most rest ≡ None
last_page most rest all = cond-false (nat_lt most (length rest)) (last_key (take most rest)) None (le-ltb most (length rest) all)

next_page : (most : ℕ) (prefix rest : List Pair) → HaveKeysOnce (prefix ++ rest) → 0 < most → most < length rest → after_key (next_key most rest) (prefix ++ rest) ≡ drop most rest
next_page zero prefix rest once some more = absurd (omega (arith, some))
next_page (suc most) prefix [] once some more = absurd (omega (arith, more))
next_page (suc most) prefix (first ∷ rest) once some more =
    let e : (first ∷ take most rest) ++ drop most rest ≡ first ∷ rest = ap (λ list. first ∷ list) (take-append-drop most rest) in
    let k : after_key (last_key (first ∷ take most rest)) (prefix ++ ((first ∷ take most rest) ++ drop most rest)) ≡ drop most rest =
    behind_page_last prefix first (take most rest) (drop most rest) (subst (λ list. HaveKeysOnce (prefix ++ list)) (sym e) once) in
    ap (λ key. after_key key (prefix ++ first ∷ rest)) (key_of (suc most) (first ∷ rest) more)
    ∙ ap (λ list. after_key (last_key (first ∷ take most rest)) (prefix ++ list)) (sym e)
    ∙ k

-- ---- all pages

has_key : (most : ℕ) (rest : List Pair) → 0 < most → most < length rest → (key : List ℕ) × (next_key most rest ≡ Some key)
has_key zero rest some more = absurd (omega (arith, some))
has_key (suc most) [] some more = absurd (omega (arith, more))
has_key (suc most) (first ∷ rest) some more = let k = last_is first (take most rest) in (k.0.0, key_of (suc most) (first ∷ rest) more ∙ k.2)

-- the pages one after another
abbrev flat : List (List Pair) → List Pair
flat = flat_map (λ page. page)

-- the pages from a key on, where some pairs are left behind it
walked : (many most : ℕ) (all prefix rest : List Pair) (after : Option (List ℕ)) → all ≡ prefix ++ rest → after_key after all ≡ rest → HaveKeysOnce all → 0 < most → length rest ≤ many
    → flat (pages_from many most all after) ≡ rest
unfolding pages_from
walked zero most all prefix [] after parts begins once some enough = refl
walked zero most all prefix (pair ∷ rest) after parts begins once some enough = absurd (omega (arith, enough))
walked (suc many) most all prefix rest after parts begins once some enough =
    let page_then = λ (left : List Pair). take most left ++ flat (behind_page (next_key most left) (pages_from many most all)) in
    ap page_then begins ∙ elim (cases_Bool (nat_lt most (length rest))) [
      | inl t ↦ (
          let more : most < length rest = ltb-true most (length rest) t in
          let k = has_key most rest some more in
          let e : all ≡ (prefix ++ take most rest) ++ drop most rest = parts ∙ ap (λ list. prefix ++ list) (sym (take-append-drop most rest)) ∙ sym (seam prefix (take most rest) (drop most rest)) in
          let goes_on : after_key (next_key most rest) all ≡ drop most rest =
          ap (after_key (next_key most rest)) parts ∙ next_page most prefix rest (subst HaveKeysOnce parts once) some more in
          let begins_then : after_key (Some k.0) all ≡ drop most rest = ap (λ key. after_key key all) (sym k.1) ∙ goes_on in
          let fewer : length (drop most rest) ≤ many = omega (arith, length-drop most rest, enough, some, more) in
          let goes : flat (pages_from many most all (Some k.0)) ≡ drop most rest = walked many most all (prefix ++ take most rest) (drop most rest) (Some k.0) e begins_then once some fewer in
          ap (λ key. take most rest ++ flat (behind_page key (pages_from many most all))) k.1
          ∙ ap (λ list. take most rest ++ list) goes
          ∙ take-append-drop most rest)
      | inr f ↦ (
          let within : length rest ≤ most = ltb-false most (length rest) f in
          ap (λ key. take most rest ++ flat (behind_page key (pages_from many most all))) (last_page most rest within)
          ∙ append-nil (take most rest)
          ∙ take_all most rest within)
    ]

all_pages : (most many : ℕ) (all : List Pair) → HaveKeysOnce all → 0 < most → length all ≤ many → flat_map (λ page. page) (pages_from many most all None) ≡ all
all_pages most many all once some enough = walked many most all [] all None refl refl once some enough

pub pages_follow : PagesFollow
pages_follow = record { next = next_page; last = last_page; whole = all_pages }
