-- What a client knows of a group that it knows by name, and that the group which it chooses depends on names and starts alone.
use Rattle.std.proofs.Common.{◌≡◌, ℕ, leb, [], ◌∷◌, ◌++◌, map, fold, Option, Some, inl, inr, refl, sym, ◌∙◌, ap, subst}
use Rattle.std.specs.Option.{option_map}
use Rattle.std.specs.Map.{set_value}
use Rattle.std.proofs.lemmas.Bool.{cond_both, cond-true, cond-false, cases_Bool, both_ways}
use Rattle.sc_base.specs.Definitions.{Among, Each, same_draw}
use Rattle.sc_node_table.specs.Values.{Draw}
use Rattle.sc_base.proofs.Lemmas.{draw_is, same_name}
use Rattle.sc_client_table.specs.lookup.LookupDefinitions.{KnownGroups, way_to, nearer, better, chosen, far}
use Rattle.sc_client_table.specs.declared.lookup.ways.Way.{Way}
use Rattle.sc_live_plain.specs.PlainDefinitions.{start_known}
use Rattle.sc_live_plain.proofs.CalmProofs.KnownGroups.{name_in, gap, chosen_is}
use Rattle.sc_live_plain.proofs.PlainRowsProofs.Lists.{some_is, map_among}

-- ---- what is known of a group

-- of a group whose name is known, what is known of it
pub way_found : (P : Draw × Way → Type 0) (known : KnownGroups) (group : Draw) → Among group (map name_in known) → Each P known → (way : Way) × (way_to group known ≡ Some way) × P (group, way)
way_found P [] group a e = absurd a
way_found P (k ∷ ks) group a e =
    elim (cases_Bool (same_draw group k.0)) [
      | inl t ↦ (k.1, cond-true (same_draw group k.0) (Some k.1) (way_to group ks) t, subst (λ d. P (d, k.1)) (sym (draw_is group k.0 t)) e.0)
      | inr f ↦ (
          let rest = way_found P ks group (elim a [ inl same ↦ absurd (both_ways (same_draw group k.0) f (same_name group k.0 (sym same))) | inr b ↦ b ]) e.1 in
          (rest.0, cond-false (same_draw group k.0) (Some k.1) (way_to group ks) f ∙ rest.1, rest.2))
    ]

pub lookup_has : (P : Draw × Way → Type 0) (known : KnownGroups) (group : Draw) (way : Way) → way_to group known ≡ Some way → Each P known → P (group, way)
lookup_has P [] group way f e = cc
lookup_has P (k ∷ ks) group way f e =
    elim (cases_Bool (same_draw group k.0)) [
      | inl t ↦ (let same : k.1 ≡ way = some_is (sym (cond-true (same_draw group k.0) (Some k.1) (way_to group ks) t) ∙ f) in
          subst (λ w. P (group, w)) same (subst (λ d. P (d, k.1)) (sym (draw_is group k.0 t)) e.0))
      | inr n ↦ lookup_has P ks group way (sym (cond-false (same_draw group k.0) (Some k.1) (way_to group ks) n) ∙ f) e.1
    ]

pub set_each : (P : Draw × Way → Type 0) (group : Draw) (known : KnownGroups) (way : Way) → P (group, way) → Each P known → Each P (set_value (same_draw group) known way)
set_each P group [] way p e = tt
set_each P group (k ∷ ks) way p e =
    cond_both (same_draw group k.0) ((k.0, way) ∷ ks) (k ∷ set_value (same_draw group) ks way) (Each P) (λ t. (subst (λ d. P (d, way)) (draw_is group k.0 t) p, e.1)) (λ f. (e.0, set_each P group ks way p e.1))

pub push_each : (P : Draw × Way → Type 0) (known : KnownGroups) (entry : Draw × Way) → Each P known → P entry → Each P (known ++ entry ∷ [])
push_each P [] entry e p = (p, tt)
push_each P (k ∷ ks) entry e p = (e.0, push_each P ks entry e.1 p)

-- ---- which group is chosen depends on names and starts

near_same : (p : ℕ) (x y a b : Draw × Way) → start_known x ≡ start_known y → start_known a ≡ start_known b → start_known (nearer p x a) ≡ start_known (nearer p y b)
near_same p x y a b e f =
    let same : leb (far p a.1) (far p x.1) ≡ leb (far p b.1) (far p y.1) = ap (λ (s : Draw × ℕ). leb (gap p s.1) (far p x.1)) f ∙ ap (λ (s : Draw × ℕ). leb (far p b.1) (gap p s.1)) e in
    elim (cases_Bool (leb (far p a.1) (far p x.1))) [
      | inl t ↦ ap start_known (cond-true (leb (far p a.1) (far p x.1)) a x t) ∙ (f ∙ sym (ap start_known (cond-true (leb (far p b.1) (far p y.1)) b y (sym same ∙ t))))
      | inr n ↦ ap start_known (cond-false (leb (far p a.1) (far p x.1)) a x n) ∙ (e ∙ sym (ap start_known (cond-false (leb (far p b.1) (far p y.1)) b y (sym same ∙ n))))
    ]

abbrev chosen_name : Option (Draw × Way) → Option Draw
chosen_name o = option_map (λ (entry : Draw × Way). entry.0) o

best_same : (p : ℕ) (xs ys : KnownGroups) (x y : Draw × Way) → start_known x ≡ start_known y → map start_known xs ≡ map start_known ys → chosen_name (fold (better p) (Some x) xs) ≡ chosen_name (fold (better p) (Some y) ys)
best_same p [] [] x y e f = ap (λ (s : Draw × ℕ). Some s.0) e
best_same p (a ∷ xs) (b ∷ ys) x y e f =
    let head : start_known a ≡ start_known b = cc in
    let tail : map start_known xs ≡ map start_known ys = cc in
    best_same p xs ys (nearer p x a) (nearer p y b) (near_same p x y a b e head) tail
best_same p [] (b ∷ ys) x y e f = cc
best_same p (a ∷ xs) [] x y e f = cc

pub chosen_same : (p : ℕ) (known other : KnownGroups) → map start_known known ≡ map start_known other → chosen p known ≡ chosen p other
chosen_same p [] [] e = refl
chosen_same p (x ∷ xs) (y ∷ ys) e =
    let head : start_known x ≡ start_known y = cc in
    let tail : map start_known xs ≡ map start_known ys = cc in
    best_same p xs ys x y head tail
chosen_same p [] (y ∷ ys) e = cc
chosen_same p (x ∷ xs) [] e = cc

-- the chosen group is known
pub chosen_among : (p : ℕ) (known : KnownGroups) (group : Draw) → chosen p known ≡ Some group → Among group (map name_in known)
chosen_among p known group e = (let c = chosen_is p known group e in subst (λ d. Among d (map name_in known)) c.name (map_among name_in known c.entry c.stands))
