-- Parts of maps on arcs: a part of a part, and parts that are joined; and records that start their groups again.
use Rattle.std.proofs.Common.{◌≡◌, ℕ, ◌<◌, ◌^◌, Bool, true, false, cond, ◌||◌, List, Option, Some, None, refl, sym, ap, subst, ◌∙◌}
use Rattle.std.specs.FinMap.{empty, find, entries, get, same_map, get-empty, get-entries, entries_sorted}
use Rattle.std.specs.Ordering.{nat_cmp}
use Rattle.std.specs.Cmp.{nat_cmp_total}
use Rattle.std.specs.Cmp.Lexicographic.{slice_cmp}
use Rattle.std.proofs.lemmas.Map.Lookups.{exact_unsigned}
use Rattle.sc_base.specs.Definitions.{Arc, IsArc, CanJoin, before, from, joined, holds, PartsJoin, pos_of}
use Rattle.sc_base.specs.declared.ops.Noted.{Noted}
use Rattle.sc_base.proofs.Lemmas.{joins_hold}
use Rattle.sc_words.specs.ideal.IdealDefinitions.{Contents, holds_key, part_of, with_pairs, ClientTable, later, joined_with}
use Rattle.sc_words.proofs.IdealProofs.IdealLemmas.{same_contents, get-part, or_else, get-with_pairs, get-joined_with}
use Rattle.sc_group_table.specs.machine.MachineDefinitions.{Group, group_of, base_of}

-- the part on an arc that lies in another
inside : {X : Type 0} (a b : Bool) (found : Option X) → (a ≡ true → b ≡ true) → cond a (cond b found None) None ≡ cond a found None
inside true b found in_b = rw (in_b refl) refl
inside false b found in_b = refl

-- a part of a part, on an arc that lies in the other, is that part of the whole
pub part_within : (inner outer : Arc) (whole : Contents) → ((p : ℕ) → holds inner p ≡ true → holds outer p ≡ true) → part_of inner (part_of outer whole) ≡ part_of inner whole
part_within inner outer whole lies = same_contents _ _ (λ q.
    get-part (part_of outer whole) (holds_key inner) q
    ∙ ap (λ o. cond (holds_key inner q) o None) (get-part whole (holds_key outer) q)
    ∙ inside (holds_key inner q) (holds_key outer q) (get whole q) (λ t. lies (pos_of q) t)
    ∙ sym (get-part whole (holds_key inner) q))

-- arcs that meet lie in the joined one
first_or : (a b : Bool) → a ≡ true → (a || b) ≡ true
first_or true b t = refl
first_or false b t = absurd (let no_way : false ≡ true = t in cc)

pub second_or : (a b : Bool) → b ≡ true → (a || b) ≡ true
second_or true b t = refl
second_or false b t = t

first_lies : (arc next : Arc) → arc.lo < 2 ^ 32 → IsArc arc → IsArc next → CanJoin arc next → (p : ℕ) → holds arc p ≡ true → holds (joined arc next) p ≡ true
first_lies arc next fits is is' can p t = (joins_hold arc next fits is is' can).both p ∙ first_or (holds arc p) (holds next p) t

second_lies : (arc next : Arc) → arc.lo < 2 ^ 32 → IsArc arc → IsArc next → CanJoin arc next → (p : ℕ) → holds next p ≡ true → holds (joined arc next) p ≡ true
second_lies arc next fits is is' can p t = (joins_hold arc next fits is is' can).both p ∙ second_or (holds arc p) (holds next p) t

-- the two parts of an arc lie in it
pub first_inside : (arc : Arc) (at : ℕ) → arc.lo < 2 ^ 32 → PartsJoin arc at → (p : ℕ) → holds (before arc at) p ≡ true → holds arc p ≡ true
first_inside arc at fits parts p t = subst (λ a. holds a p ≡ true) parts.same (first_lies (before arc at) (from arc at) fits parts.first parts.second parts.can p t)

-- what the second part of an arc holds, the arc holds
pub second_inside : (arc : Arc) (at : ℕ) → arc.lo < 2 ^ 32 → PartsJoin arc at → (p : ℕ) → holds (from arc at) p ≡ true → holds arc p ≡ true
second_inside arc at fits parts p t = subst (λ a. holds a p ≡ true) parts.same (second_lies (before arc at) (from arc at) fits parts.first parts.second parts.can p t)

-- parts on two arcs that meet, joined from the second on
turned : {X : Type 0} (a b : Bool) (old : Option X) → or_else (cond a old None) (cond b old None) ≡ cond (a || b) old None
turned true true None = refl
turned true true (Some x) = refl
turned true false None = refl
turned true false (Some x) = refl
turned false b old = refl

-- the part on the first of two arcs that meet, put into that on the second, makes the part on both
pub parts_turned : (arc next : Arc) (whole : Contents) → arc.lo < 2 ^ 32 → IsArc arc → IsArc next → CanJoin arc next
    → with_pairs (part_of next whole) (entries (part_of arc whole)) ≡ part_of (joined arc next) whole
parts_turned arc next whole fits is is' can = same_contents _ _ (λ q.
    get-with_pairs (entries (part_of arc whole)) (entries_sorted (part_of arc whole)) (part_of next whole) q
    ∙ ap (λ o. or_else o (get (part_of next whole) q)) (sym (get-entries (part_of arc whole) q) ∙ get-part whole (holds_key arc) q)
    ∙ ap (or_else (cond (holds_key arc q) (get whole q) None)) (get-part whole (holds_key next) q)
    ∙ turned (holds_key arc q) (holds_key next q) (get whole q)
    ∙ ap (λ b. cond b (get whole q) None) (sym ((joins_hold arc next fits is is' can).both (pos_of q)))
    ∙ sym (get-part whole (holds_key (joined arc next)) q))

-- ---- the record of a group starts it again

-- the pairs of a map, put into an empty one, make the same map
pub pairs_again : (pairs : Contents) → with_pairs empty (entries pairs) ≡ pairs
pairs_again pairs = same_contents _ _ (λ key.
    get-with_pairs (entries pairs) (entries_sorted pairs) empty key
    ∙ ap (or_else (find (slice_cmp nat_cmp) key (entries pairs))) (get-empty (slice_cmp nat_cmp) key)
    ∙ none_else (find (slice_cmp nat_cmp) key (entries pairs)) ∙ sym (get-entries pairs key))
  where
    none_else : (o : Option (List ℕ)) → or_else o None ≡ o
    none_else None = refl
    none_else (Some value) = refl

-- the entries of a client table, put into an empty one, make the same table
pub clients_again : (clients : ClientTable) → joined_with empty (entries clients) ≡ clients
clients_again clients = same_map nat_cmp_total exact_unsigned _ _ (λ client.
    get-joined_with (entries clients) (entries_sorted clients) empty client
    ∙ ap (λ o. later o (find nat_cmp client (entries clients))) (get-empty nat_cmp client)
    ∙ none_later (find nat_cmp client (entries clients)) ∙ sym (get-entries clients client))
  where
    none_later : (o : Option Noted) → later None o ≡ o
    none_later None = refl
    none_later (Some noted) = refl

-- the record of a group starts the group again
pub group_again : (group : Group) → group_of (base_of group) ≡ group
group_again group =
    ap (λ pairs. (let g : Group = record { core = group.core; pairs = pairs; clients = joined_with empty (entries group.clients) } in g)) (pairs_again group.pairs)
    ∙ ap (λ clients. (let g : Group = record { core = group.core; pairs = group.pairs; clients = clients } in g)) (clients_again group.clients)
