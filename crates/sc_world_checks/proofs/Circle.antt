-- Cuts of which each is followed by another, and of which no two have a position in common, share the circle out.
use Rattle.std.proofs.Common.{◌≡◌, ◌≢◌, ℕ, zero, suc, ◌+◌, ◌-◌, ◌%◌, ◌^◌, ◌<◌, ◌≤◌, ltb, eqb, not, Bool, true, false, ◌||◌, List, [], ◌∷◌, length, inl, inr, refl, sym, ◌∙◌, ap, subst, arith}
use Rattle.std.specs.List.{All, AllPairs, list_all, list_any}
use Rattle.std.proofs.lemmas.Bool.{cases_Bool, cases_lt, ltb-true, lt-ltb, and_parts, and_from, or_right}
use Rattle.std.proofs.lemmas.List.Kept.{AllPairs-cons}
use Rattle.std.proofs.lemmas.List.Elements.{All-nil, All-cons}
use Rattle.sc_base.proofs.NameLemmas.{draw_is, same_name}
use Rattle.sc_base.specs.Among.{Among}
use Rattle.sc_base.specs.Arc.{Arc, IsArc, offset, holds, end_of}
use Rattle.sc_base.specs.Same.{same_draw}
use Rattle.sc_meaning.specs.declared.entries.Cut.{Cut}
use Rattle.sc_meaning.specs.entries.Rings.{Covers}
use Rattle.sc_world_checks.specs.Covering.{is_beside, is_other, are_others, is_followed}
use Rattle.sc_base.proofs.Pairs.{AllPairs-head, AllPairs-tail}

-- an arc of the circle that starts on it
abbrev pub IsOn : Cut → Type 0
IsOn cut = IsArc cut.arc × (cut.arc.lo < 2 ^ 32)

-- ---- arcs

-- an arc holds its start
holds_start : (arc : Arc) → IsArc arc → arc.lo < 2 ^ 32 → holds arc arc.lo ≡ true
holds_start arc is on = (let some : 1 ≤ arc.len = is.some in lt-ltb (offset arc arc.lo) arc.len (omega arith))

meet : (lo len lo2 len2 p : ℕ) → lo < 2 ^ 32 → lo2 < 2 ^ 32 → p < 2 ^ 32 → len ≤ 2 ^ 32 → len2 ≤ 2 ^ 32
    → ((p + 2 ^ 32) - lo) % 2 ^ 32 < len → ((p + 2 ^ 32) - lo2) % 2 ^ 32 < len2
    → len ≤ ((lo2 + 2 ^ 32) - lo) % 2 ^ 32 → ((lo + 2 ^ 32) - lo2) % 2 ^ 32 < len2
meet lo len lo2 len2 p a b c d e f g h = omega arith

-- where two arcs hold a position, one holds the start of the other
common : (arc other : Arc) (p : ℕ) → IsArc arc → arc.lo < 2 ^ 32 → IsArc other → other.lo < 2 ^ 32 → p < 2 ^ 32 → holds arc p ≡ true → holds other p ≡ true → is_beside arc other ≡ true → ⊥
common arc other p is on is_other on_other small here there beside =
    let parts = and_parts (not (holds arc other.lo)) (not (holds other arc.lo)) beside in
    elim (cases_Bool (holds arc other.lo)) [
      | inl t ↦ no (holds arc other.lo) t parts.0
      | inr f ↦ no (holds other arc.lo)
          (lt-ltb (offset other arc.lo) other.len
          (meet arc.lo arc.len other.lo other.len p on on_other small is.most is_other.most (ltb-true (offset arc p) arc.len here) (ltb-true (offset other p) other.len there)
          (beyond (offset arc other.lo) arc.len f)))
          parts.1
    ]
  where
    no : (b : Bool) → b ≡ true → not b ≡ true → ⊥
    no true t n = cc
    no false t n = cc

    beyond : (a b : ℕ) → ltb a b ≡ false → b ≤ a
    beyond a b f = elim (cases_lt a b) [ inl lt ↦ absurd (let t : ltb a b ≡ true = lt-ltb a b lt in cc) | inr le ↦ le ]

-- ---- round the circle

-- how far a position lies after another
abbrev away : ℕ → ℕ → ℕ
away from to = ((to + 2 ^ 32) - from) % 2 ^ 32

closer : (end lo len p : ℕ) → end < 2 ^ 32 → lo < 2 ^ 32 → p < 2 ^ 32 → 1 ≤ len → len ≤ 2 ^ 32 → ((end + 2 ^ 32) - lo) % 2 ^ 32 < len → len ≤ ((p + 2 ^ 32) - lo) % 2 ^ 32
    → ((p + 2 ^ 32) - (lo + len) % 2 ^ 32) % 2 ^ 32 < ((p + 2 ^ 32) - end) % 2 ^ 32
closer end lo len p a b c d e f g = omega arith

found : {X : Type 0} (test : X → Bool) (xs : List X) → list_any test xs ≡ true → (x : X) × Among x xs × (test x ≡ true)
found test [] t = absurd (let no : false ≡ true = t in cc)
found {X} test (x ∷ xs) t = elim (cases_Bool (test x)) [
  | inl here ↦ (x, inl refl, here)
  | inr not_here ↦ (let there = found test xs (sym (ap (λ (a : Bool). a || list_any test xs) not_here) ∙ t) in (there.0, inr there.1, there.2))
]

any_among : {X : Type 0} (test : X → Bool) (xs : List X) (x : X) → Among x xs → test x ≡ true → list_any test xs ≡ true
any_among test [] x a t = elim a [ ]
any_among {X} test (y ∷ xs) x (inl same) t = ap (λ (b : Bool). b || list_any test xs) (ap test same ∙ t)
any_among test (y ∷ xs) x (inr there) t = or_right (test y) (list_any test xs) (any_among test xs x there t)

all_among : {X : Type 0} (test : X → Bool) (xs : List X) (x : X) → list_all test xs ≡ true → Among x xs → test x ≡ true
all_among test [] x all a = elim a [ ]
all_among test (y ∷ xs) x all (inl same) = ap test (sym same) ∙ (and_parts (test y) (list_all test xs) all).0
all_among test (y ∷ xs) x all (inr there) = all_among test xs x (and_parts (test y) (list_all test xs) all).1 there

-- from the end of a cut on, at most this number of steps
reached : (ring : List Cut) → ((cut : Cut) → Among cut ring → IsOn cut) → list_all (is_followed ring) ring ≡ true → (p : ℕ) → p < 2 ^ 32 → (n : ℕ) (cut : Cut) → Among cut ring → away (end_of cut.arc) p < n
    → (other : Cut) × Among other ring × (holds other.arc p ≡ true)
reached ring on followed p small zero cut a far = absurd (omega (arith, far))
reached ring on followed p small (suc n) cut a far =
    let next = found (λ (other : Cut). holds other.arc (end_of cut.arc)) ring (all_among (is_followed ring) ring cut followed a) in
    elim (cases_Bool (holds next.0.arc p)) [
      | inl t ↦ (next.0, next.1, t)
      | inr f ↦ (
          let is = on next.0 next.1 in
          let end : end_of cut.arc < 2 ^ 32 = omega arith in
          let nearer : away (end_of next.0.arc) p < away (end_of cut.arc) p =
          closer (end_of cut.arc) next.0.arc.lo next.0.arc.len p end is.1 small is.0.some is.0.most (ltb-true (offset next.0.arc (end_of cut.arc)) next.0.arc.len next.2) (beyond_by (offset next.0.arc p) next.0.arc.len f) in
          reached ring on followed p small n next.0 next.1 (omega (arith, nearer, far)))
    ]
  where
    beyond_by : (a b : ℕ) → ltb a b ≡ false → b ≤ a
    beyond_by a b f = elim (cases_lt a b) [ inl lt ↦ absurd (let t : ltb a b ≡ true = lt-ltb a b lt in cc) | inr le ↦ le ]

-- ---- lists of cuts

on_among : (ring : List Cut) → All IsOn ring → (cut : Cut) → Among cut ring → IsOn cut
on_among [] all cut a = elim a [ ]
on_among (x ∷ ring) all cut (inl same) = subst IsOn same (all 0 x (omega arith))
on_among (x ∷ ring) all cut (inr there) = on_among ring (λ k d lt. all (suc k) d (omega (arith, lt))) cut there

no_common : (ring : List Cut) → ((cut : Cut) → Among cut ring → IsOn cut) → are_others ring ≡ true → (p : ℕ) → p < 2 ^ 32 → (cut other : Cut) → Among cut ring → Among other ring
    → holds cut.arc p ≡ true → holds other.arc p ≡ true → cut ≡ other
no_common [] on others p small cut other a b here there = elim a [ ]
no_common (x ∷ ring) on others p small cut other (inl one) (inl two) here there = sym one ∙ two
no_common (x ∷ ring) on others p small cut other (inl one) (inr two) here there =
    (let parts = and_parts (list_all (is_other x) ring) (are_others ring) others in
    let apart = and_parts (not (same_draw x.group other.group)) (is_beside x.arc other.arc) (all_among (is_other x) ring other parts.0 two) in
    let is = on x (inl refl) in
    let is_other = on other (inr two) in
    absurd (common x.arc other.arc p is.0 is.1 is_other.0 is_other.1 small (ap (λ (c : Cut). holds c.arc p) one ∙ here) there apart.1))
no_common (x ∷ ring) on others p small cut other (inr one) (inl two) here there =
    (let parts = and_parts (list_all (is_other x) ring) (are_others ring) others in
    let apart = and_parts (not (same_draw x.group cut.group)) (is_beside x.arc cut.arc) (all_among (is_other x) ring cut parts.0 one) in
    let is = on x (inl refl) in
    let is_cut = on cut (inr one) in
    absurd (common x.arc cut.arc p is.0 is.1 is_cut.0 is_cut.1 small (ap (λ (c : Cut). holds c.arc p) two ∙ there) here apart.1))
no_common (x ∷ ring) on others p small cut other (inr one) (inr two) here there =
    no_common ring (λ c a. on c (inr a)) (and_parts (list_all (is_other x) ring) (are_others ring) others).1 p small cut other one two here there

not_true : (b : Bool) → not b ≡ true → b ≡ false
not_true true n = absurd (let no : false ≡ true = n in cc)
not_true false n = refl

no_group_twice : (ring : List Cut) → are_others ring ≡ true → AllPairs (λ (cut other : Cut). cut.group ≢ other.group) ring
no_group_twice [] others = λ i j d lt within. absurd (omega (arith, lt, within))
no_group_twice (x ∷ ring) others =
    let parts = and_parts (list_all (is_other x) ring) (are_others ring) others in
    AllPairs-cons (λ (cut other : Cut). cut.group ≢ other.group) x ring (differ ring parts.0) (no_group_twice ring parts.1)
  where
    differ : (cuts : List Cut) → list_all (is_other x) cuts ≡ true → All (λ (other : Cut). x.group ≢ other.group) cuts
    differ [] all = All-nil (λ (other : Cut). x.group ≢ other.group)
    differ (y ∷ cuts) all =
        let here = and_parts (is_other x y) (list_all (is_other x) cuts) all in
        let apart = and_parts (not (same_draw x.group y.group)) (is_beside x.arc y.arc) here.0 in
        All-cons (λ (other : Cut). x.group ≢ other.group) y cuts
        (λ same. let t : same_draw x.group y.group ≡ true = same_name x.group y.group same in let f : same_draw x.group y.group ≡ false = not_true (same_draw x.group y.group) apart.0 in let no : true ≡ false = sym t ∙ f in cc)
        (differ cuts here.1)

-- ---- both directions

-- cuts that pass the tests cover
pub covers_by : (cut : Cut) (cuts : List Cut) → (let ring : List Cut = cut ∷ cuts in are_others ring ≡ true → list_all (is_followed ring) ring ≡ true → All IsOn ring → Covers ring)
covers_by cut cuts others followed all =
    let ring : List Cut = cut ∷ cuts in
    let on = on_among ring all in
    record {
      arcs = λ c a. on c a;
      some = λ p small. reached ring on followed p small (suc (away (end_of cut.arc) p)) cut (inl refl) (omega arith);
      only = λ p small c other a b here there. no_common ring on others p small c other a b here there;
      apart = no_group_twice ring others;
    }

-- two cuts are of two groups
abbrev Apart : Cut → Cut → Type 0
Apart cut other = cut.group ≢ other.group

covers_others : (ring : List Cut) → ((cut : Cut) → Among cut ring → IsOn cut)
    → ((p : ℕ) → p < 2 ^ 32 → (cut other : Cut) → Among cut ring → Among other ring → holds cut.arc p ≡ true → holds other.arc p ≡ true → cut ≡ other)
    → AllPairs Apart ring → are_others ring ≡ true
covers_others [] on only apart = refl
covers_others (x ∷ ring) on only apart =
    and_from (list_all (is_other x) ring) (are_others ring) (others ring (λ o a. a) (AllPairs-head Apart x ring apart))
    (covers_others ring (λ c a. on c (inr a)) (λ p small c o a b. only p small c o (inr a) (inr b)) (AllPairs-tail Apart x ring apart))
  where
    false_not : (b : Bool) → (b ≡ true → ⊥) → not b ≡ true
    false_not true never = absurd (never refl)
    false_not false never = refl

    other : (o : Cut) → Among o ring → x.group ≢ o.group → is_other x o ≡ true
    other o a differ =
        let on_x = on x (inl refl) in
        let on_o = on o (inr a) in
        and_from (not (same_draw x.group o.group)) (is_beside x.arc o.arc) (false_not (same_draw x.group o.group) (λ t. differ (draw_is x.group o.group t)))
        (and_from (not (holds x.arc o.arc.lo)) (not (holds o.arc x.arc.lo))
        (false_not (holds x.arc o.arc.lo) (λ t. differ (ap (λ (c : Cut). c.group) (only o.arc.lo on_o.1 x o (inl refl) (inr a) t (holds_start o.arc on_o.0 on_o.1)))))
        (false_not (holds o.arc x.arc.lo) (λ t. differ (ap (λ (c : Cut). c.group) (only x.arc.lo on_x.1 x o (inl refl) (inr a) (holds_start x.arc on_x.0 on_x.1) t)))))

    others : (cuts : List Cut) → ((o : Cut) → Among o cuts → Among o ring) → All (λ (o : Cut). x.group ≢ o.group) cuts → list_all (is_other x) cuts ≡ true
    others [] within differ = refl
    others (y ∷ cuts) within differ =
        and_from (is_other x y) (list_all (is_other x) cuts) (other y (within y (inl refl)) (differ 0 y (omega arith)))
        (others cuts (λ o a. within o (inr a)) (λ k d lt. differ (suc k) d (omega (arith, lt))))

-- cuts that cover pass the tests
pub others_of : (ring : List Cut) → Covers ring → are_others ring ≡ true
others_of ring covers = covers_others ring (λ cut a. covers.arcs cut a) (λ p small cut other a b here there. covers.only p small cut other a b here there) covers.apart

pub followed_of : (ring : List Cut) → Covers ring → list_all (is_followed ring) ring ≡ true
followed_of ring covers = all ring
  where
    all : (cuts : List Cut) → list_all (is_followed ring) cuts ≡ true
    all [] = refl
    all (cut ∷ cuts) =
        let end : end_of cut.arc < 2 ^ 32 = omega arith in
        let next = covers.some (end_of cut.arc) end in
        and_from (is_followed ring cut) (list_all (is_followed ring) cuts) (any_among (λ (other : Cut). holds other.arc (end_of cut.arc)) ring next.0 next.1 next.2) (all cuts)

-- where a test fails, they do not cover
pub no_cover : (ring : List Cut) → are_others ring ≡ false → Covers ring → ⊥
no_cover ring f covers = (let t : are_others ring ≡ true = others_of ring covers in let no : true ≡ false = sym t ∙ f in cc)

-- some cuts cover exactly where they pass both tests
pub covers_all : (ring : List Cut) (passed : Bool) → 1 ≤ length ring → are_others ring ≡ true → passed ≡ list_all (is_followed ring) ring → (passed ≡ true → All IsOn ring)
    → (passed ≡ true → Covers ring) × (Covers ring → passed ≡ true)
covers_all [] passed some others is on = absurd (omega (arith, some))
covers_all (cut ∷ cuts) passed some others is on = (
  (λ t. covers_by cut cuts others (sym is ∙ t) (on t)),
  (λ covers. is ∙ followed_of (cut ∷ cuts) covers),
)

-- there are some
pub some_of : (n : ℕ) (none : Bool) → none ≡ eqb n 0 → none ≡ false → 1 ≤ n
some_of zero none is f = absurd (let wrong : true ≡ false = sym is ∙ f in cc)
some_of (suc n) none is f = omega arith
