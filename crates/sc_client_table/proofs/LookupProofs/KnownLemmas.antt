-- How the known groups change, and that some group stays known.
use Rattle.std.proofs.Common.{◌≡◌, ℕ, ◌≤◌, Bool, true, false, cond, List, [], ◌∷◌, ◌++◌, Option, Some, None, length, length-append, refl, ap, arith}
use Rattle.std.specs.Map.{lookup, set_value}
use Rattle.std.proofs.lemmas.Map.{length-set_value}
use Rattle.indexmap.specs.IndexMap.{insert_entry}
use Rattle.sc_base.specs.declared.names.Draw.{Draw}
use Rattle.sc_base.specs.Definitions.{same_draw}
use Rattle.sc_client_table.specs.declared.lookup.ways.Way.{Way}
use Rattle.std.specs.Prelude.{is_some, Result, Ok, Err, OnOk, IsOk}
use Rattle.sc_client_table.specs.lookup.LookupDefinitions.{new_way, KnownGroups, way_to, changed, group_learnt}

-- to change what is known of a group that is not known changes nothing
pub set_value-none : {K X : Type 0} (test : K → Bool) (es : List (K × X)) (w : X) → lookup test es ≡ None → set_value test es w ≡ es
set_value-none test [] w e = refl
set_value-none test (f ∷ es) w e =
    elim (test f.0) as (λ b. cond b (Some f.1) (lookup test es) ≡ None → cond b ((f.0, w) ∷ es) (f ∷ set_value test es w) ≡ f ∷ es) [
      | true ↦ λ h. absurd (cc)
      | false ↦ λ h. ap (λ l. f ∷ l) (set_value-none test es w h)
    ] e

-- to change what is known of one group makes no group known and none unknown
pub set_value-known : {K X : Type 0} (other test : K → Bool) (es : List (K × X)) (w : X) → is_some (lookup other (set_value test es w)) ≡ is_some (lookup other es)
set_value-known other test [] w = refl
set_value-known other test (f ∷ es) w =
    elim (test f.0) as (λ b. is_some (lookup other (cond b ((f.0, w) ∷ es) (f ∷ set_value test es w))) ≡ is_some (cond (other f.0) (Some f.1) (lookup other es))) [
      | true ↦
          elim (other f.0) as (λ o. is_some (cond o (Some w) (lookup other es)) ≡ is_some (cond o (Some f.1) (lookup other es))) [
            | true ↦ refl
            | false ↦ refl
          ]
      | false ↦
          elim (other f.0) as (λ o. is_some (cond o (Some f.1) (lookup other (set_value test es w))) ≡ is_some (cond o (Some f.1) (lookup other es))) [
            | true ↦ refl
            | false ↦ set_value-known other test es w
          ]
    ]

-- a group that was not known goes last
pub insert_entry-last : {K X : Type 0} (eq : K → K → Bool) (es : List (K × X)) (k : K) (w : X) → lookup (eq k) es ≡ None → insert_entry eq es k w ≡ es ++ (k, w) ∷ []
insert_entry-last eq [] k w e = refl
insert_entry-last eq (f ∷ es) k w e =
    elim (eq k f.0) as (λ b. cond b (Some f.1) (lookup (eq k) es) ≡ None → cond b ((f.0, w) ∷ es) (f ∷ insert_entry eq es k w) ≡ f ∷ (es ++ (k, w) ∷ [])) [
      | true ↦ λ h. absurd (cc)
      | false ↦ λ h. ap (λ l. f ∷ l) (insert_entry-last eq es k w h)
    ] e

pub length-changed : (change : Way → Way) (group : Draw) (known : KnownGroups) (way : Option Way) → length (changed change group known way) ≡ length known
length-changed change group known None = refl
length-changed change group known (Some way) = length-set_value (same_draw group) known (change way)

some_added : (known : KnownGroups) (entry : Draw × Way) → 1 ≤ length (known ++ entry ∷ [])
some_added known entry = omega (arith, length-append known (entry ∷ []))

some_known : (group : Draw) (known : KnownGroups) (way : Way) → way_to group known ≡ Some way → 1 ≤ length known
some_known group [] way e = absurd (cc)
some_known group (f ∷ known) way e = omega arith

-- after a group was learnt some group is known
pub some_learnt : (group : Draw) (lo : ℕ) (members : List ℕ) (known : KnownGroups) → 1 ≤ length (group_learnt group lo members known)
some_learnt group lo members known =
    elim (way_to group known) as (λ o. way_to group known ≡ o → 1 ≤ length (cond (is_some o) (changed (λ way. record way { lo = lo }) group known o) (known ++ (group, new_way lo members) ∷ []))) [
      | None ↦ λ e. some_added known (group, new_way lo members)
      | Some way ↦ λ e. omega (arith, some_known group known way e, length-changed (λ way. record way { lo = lo }) group known (Some way))
    ] refl

-- what holds where a call is done holds of a call that is done
pub of_done : {T E P : Type 0} (result : Result T E) → OnOk result P → IsOk result → P
of_done (Ok done) ok is = ok
of_done (Err error) ok is = absurd (let f : false ≡ true = is in cc)
