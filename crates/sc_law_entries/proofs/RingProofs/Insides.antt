-- Pairs that lie on an arc, through cuts and joins.
use Rattle.std.specs.Prelude.{is_some, ◌||◌}
use Rattle.std.proofs.Common.{◌≡◌, ℕ, ◌+◌, ◌-◌, ◌%◌, ◌^◌, ◌<◌, ◌≤◌, Bool, true, false, List, [], ◌∷◌, inl, inr, Some, None, refl, sym, ◌∙◌, ap, arith}
use Rattle.std.proofs.lemmas.Bool.{cases_Bool, cases_lt, cond-true, cond-false, or_from, or_parts}
use Rattle.std.specs.declared.cmp.Ordering.{Ordering}
use Rattle.std.specs.declared.cmp.Ordering.TheVariants.{Less, Equal, Greater}
use Rattle.std.specs.Ordering.{nat_cmp, eq_by_cmp, is_eq, ordering_reverse}
use Rattle.std.specs.Cmp.Lexicographic.{slice_cmp, nat_list_cmp_total}
use Rattle.std.specs.FinMap.{find, is_sorted, get, empty, entries, get-entries, entries_sorted, get-empty}
use Rattle.sc_base.specs.Definitions.{Arc, before, from, joined, offset, end_of, pos_of}
use Rattle.sc_base.proofs.Lemmas.{joins_hold}
use Rattle.sc_words.specs.ideal.IdealDefinitions.{Contents, holds_key, part_of, with_pairs}
use Rattle.sc_words.proofs.IdealProofs.IdealLemmas.{get-part, or_else, get-with_pairs, none_past, sorted_rest}
use Rattle.sc_group_table.specs.machine.MachineDefinitions.{has_key_of}
use Rattle.sc_law_entries.proofs.RingProofs.View.{IsOnRing, Holds}
use lib.Dec.{T}
use Rattle.std.proofs.lemmas.Option.{none-some}

-- what the map holds lies on the arc
abbrev pub InsideOf : Arc → Contents → Type 0
InsideOf arc pairs = (key : List ℕ) → holds_key arc key ≡ false → get pairs key ≡ None

pub inside_part : (arc : Arc) (m : Contents) → InsideOf arc (part_of arc m)
inside_part arc m key out = get-part m (holds_key arc) key ∙ cond-false (holds_key arc key) (get m key) None out

-- two maps together
pub inside_with : (whole a b : Arc) (p q : Contents) → ((key : List ℕ) → holds_key whole key ≡ false → (holds_key a key ≡ false) × (holds_key b key ≡ false)) → InsideOf a p → InsideOf b q → InsideOf whole (with_pairs p (entries q))
inside_with whole a b p q parts ip iq key out =
    let r = parts key out in
    get-with_pairs (entries q) (entries_sorted q) p key
    ∙ ap (λ o. or_else o (get p key)) (sym (get-entries q key) ∙ iq key r.1)
    ∙ ip key r.0

-- a map made anew of its entries
pub inside_again : (arc : Arc) (q : Contents) → InsideOf arc q → InsideOf arc (with_pairs empty (entries q))
inside_again arc q iq = inside_with arc arc arc empty q (λ key out. (out, out)) (λ key out. get-empty (slice_cmp nat_cmp) key) iq

-- two arcs that meet
pub outside_joined : (a b : Arc) → IsOnRing a → IsOnRing b → b.lo ≡ end_of a → a.len + b.len ≤ 2 ^ 32 → (key : List ℕ) → holds_key (joined a b) key ≡ false → (holds_key a key ≡ false) × (holds_key b key ≡ false)
outside_joined a b oa ob meet room key out =
    or_parts (holds_key a key) (holds_key b key)
    (sym ((joins_hold a b oa.lo_fits (record { some = oa.some; most = oa.len_fits }) (record { some = ob.some; most = ob.len_fits }) (meet, room)).both (pos_of key)) ∙ out)

not_both : (x y : Bool) → (Rattle.std.specs.Prelude.◌&&◌ x y) ≡ false → x ≡ true → y ≡ false
not_both true y e t = e
not_both false y e t = absurd (let f : false ≡ true = t in cc)

pub outside_next : (a b : Arc) → IsOnRing a → IsOnRing b → b.lo ≡ end_of a → a.len + b.len ≤ 2 ^ 32 → (key : List ℕ) → holds_key a key ≡ true → holds_key b key ≡ false
outside_next a b oa ob meet room key held =
    not_both (holds_key a key) (holds_key b key) ((joins_hold a b oa.lo_fits (record { some = oa.some; most = oa.len_fits }) (record { some = ob.some; most = ob.len_fits }) (meet, room)).apart (pos_of key)) held

-- ---- no key twice

self_by : (o : Ordering) → o ≡ ordering_reverse o → o ≡ Equal
self_by Less e = absurd (let f : Less ≡ Greater = e in cc)
self_by Equal e = refl
self_by Greater e = absurd (let f : Greater ≡ Less = e in cc)

ties_itself : (x : List ℕ) → eq_by_cmp (slice_cmp nat_cmp) x x ≡ true
ties_itself x = ap is_eq (self_by (slice_cmp nat_cmp x x) (nat_list_cmp_total.antisymm x x))

later : (e : List ℕ × List ℕ) (es : List (List ℕ × List ℕ)) → T (is_sorted (slice_cmp nat_cmp) (e ∷ es)) → (q v : List ℕ) → find (slice_cmp nat_cmp) q es ≡ Some v → find (slice_cmp nat_cmp) q (e ∷ es) ≡ Some v
later e es up q v f =
    elim (cases_Bool (eq_by_cmp (slice_cmp nat_cmp) q e.0)) [
      | inl t ↦ absurd (none-some v (sym (none_past (slice_cmp nat_cmp) nat_list_cmp_total q e es up t) ∙ f))
      | inr t ↦ cond-false (eq_by_cmp (slice_cmp nat_cmp) q e.0) (Some e.1) (find (slice_cmp nat_cmp) q es) t ∙ f
    ]

pub clear_of : (m : Contents) (es : List (List ℕ × List ℕ)) → T (is_sorted (slice_cmp nat_cmp) es) → ((q v : List ℕ) → find (slice_cmp nat_cmp) q es ≡ Some v → get m q ≡ None) → has_key_of m es ≡ false
clear_of m [] up k = refl
clear_of m (e ∷ es) up k =
    or_from (is_some (get m e.0)) (has_key_of m es)
    (ap is_some (k e.0 e.1 (cond-true (eq_by_cmp (slice_cmp nat_cmp) e.0 e.0) (Some e.1) (find (slice_cmp nat_cmp) e.0 es) (ties_itself e.0))))
    (clear_of m es (sorted_rest (slice_cmp nat_cmp) nat_list_cmp_total e es up) (λ q v f. k q v (later e es up q v f)))

-- maps on arcs that share nothing share no key
pub no_shared : (a b : Arc) (p q : Contents) → InsideOf a p → InsideOf b q → ((key : List ℕ) → holds_key b key ≡ true → holds_key a key ≡ false) → has_key_of p (entries q) ≡ false
no_shared a b p q ip iq apart = clear_of p (entries q) (entries_sorted q) (λ k v f. (
    let found : get q k ≡ Some v = get-entries q k ∙ f in
    elim (cases_Bool (holds_key b k)) [
      | inl t ↦ ip k (apart k t)
      | inr t ↦ absurd (none-some v (sym (iq k t) ∙ found))
    ]))

-- ---- arithmetic of arcs

first_held : (lo : ℕ) → lo < 2 ^ 32 → ((lo + 2 ^ 32) - lo) % 2 ^ 32 ≡ 0
first_held lo f = omega arith

pub holds_first : (arc : Arc) → IsOnRing arc → Holds arc arc.lo
holds_first arc a = let z = first_held arc.lo a.lo_fits in let k = a.some in omega (arith, z, k)

next_holds : (lo len next more : ℕ) → lo < 2 ^ 32 → 0 < len → len ≤ 2 ^ 32 → more ≤ 2 ^ 32 → next ≡ (lo + len) % 2 ^ 32 → 2 ^ 32 < len + more → ((lo + 2 ^ 32) - next) % 2 ^ 32 < more
next_holds lo len next more a b c d e f = omega arith

-- arcs that meet and share nothing fit on the ring
pub room_of : (arc its : Arc) → IsOnRing arc → IsOnRing its → its.lo ≡ end_of arc → ((p : ℕ) → p < 2 ^ 32 → Holds arc p → Holds its p → ⊥) → arc.len + its.len ≤ 2 ^ 32
room_of arc its a i meet apart =
    elim (cases_lt (2 ^ 32) (arc.len + its.len)) [
      | inl over ↦ absurd (apart arc.lo a.lo_fits (holds_first arc a) (next_holds arc.lo arc.len its.lo its.len a.lo_fits a.some a.len_fits i.len_fits meet over))
      | inr fits ↦ fits
    ]

-- the rest of two arcs from a place in the first
pub from_first : (arc its : Arc) (at : ℕ) → Holds arc at → from (joined arc its) at ≡ joined (from arc at) its
from_first arc its at held =
    let sum : (arc.len + its.len) - offset arc at ≡ (arc.len - offset arc at) + its.len = omega (arith, held) in
    ap (λ (n : ℕ). (let a : Arc = record { lo = at; len = n } in a)) sum

past_first : (lo len next p : ℕ) → lo < 2 ^ 32 → 0 < len → len ≤ 2 ^ 32 → next ≡ (lo + len) % 2 ^ 32 → len ≤ ((p + 2 ^ 32) - lo) % 2 ^ 32 → ((p + 2 ^ 32) - lo) % 2 ^ 32 ≡ len + ((p + 2 ^ 32) - next) % 2 ^ 32
past_first lo len next p a b c d e = omega arith

pub before_second : (arc its : Arc) (at : ℕ) → IsOnRing arc → its.lo ≡ end_of arc → arc.len ≤ offset arc at → before (joined arc its) at ≡ joined arc (before its at)
before_second arc its at a meet past =
    ap (λ (n : ℕ). (let x : Arc = record { lo = arc.lo; len = n } in x)) (past_first arc.lo arc.len its.lo at a.lo_fits a.some a.len_fits meet past)

taken_rest : (a b o q : ℕ) → o ≡ a + q → (a + b) - o ≡ b - q
taken_rest a b o q e = omega (arith, e)

pub from_second : (arc its : Arc) (at : ℕ) → IsOnRing arc → its.lo ≡ end_of arc → arc.len ≤ offset arc at → from (joined arc its) at ≡ from its at
from_second arc its at a meet past =
    ap (λ (n : ℕ). (let x : Arc = record { lo = at; len = n } in x)) (taken_rest arc.len its.len (offset arc at) (offset its at) (past_first arc.lo arc.len its.lo at a.lo_fits a.some a.len_fits meet past))
