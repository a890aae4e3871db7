-- The chosen group is the nearest.
use Rattle.std.proofs.Common.{◌≡◌, ℕ, ◌<◌, ◌≤◌, true, false, cond, leb, [], ◌∷◌, ◌++◌, All, Some, None, fold, length, refl, ap, arith, append_assoc, append-nil, subst, zero, suc}
use Rattle.std.specs.Option.{option_map}
use Rattle.std.proofs.lemmas.Bool.{leb-true, leb-false}
use Rattle.std.proofs.lemmas.List.Elements.{All-append}
use Rattle.sc_base.specs.declared.names.Draw.{Draw}
use Rattle.sc_client_table.specs.declared.lookup.ways.Way.{Way}
use Rattle.sc_client_table.specs.lookup.LookupDefinitions.{far, KnownGroups, nearer, better, chosen, IsNearest, ChoosesNearest}

-- once there is a best group there is one
pub some_best : (p : ℕ) (best : Draw × Way) (known : KnownGroups) → fold (better p) (Some best) known ≡ None → ⊥
some_best p best [] e = cc
some_best p best (entry ∷ known) e = some_best p (nearer p best entry) known e

-- where some group is known one is chosen
pub some_chosen : (p : ℕ) (known : KnownGroups) → 1 ≤ length known → fold (better p) None known ≡ None → ⊥
some_chosen p [] some e = absurd (omega arith)
some_chosen p (entry ∷ known) some e = some_best p entry known e

all_none : {X : Type 0} (P : X → Type 0) → All P []
all_none P k d inside = absurd (omega arith)

all_one : {X : Type 0} (P : X → Type 0) (x : X) → P x → All P (x ∷ [])
all_one P x holds zero d inside = holds
all_one P x holds (suc k) d inside = absurd (omega arith)

-- a group with what is known of it that is the nearest of a list
abbrev pub Nearest : ℕ → KnownGroups → Draw × Way → Type 0
Nearest p known best = (before : KnownGroups) × (after : KnownGroups) × (known ≡ before ++ best ∷ after) × All (λ (entry : Draw × Way). far p best.1 ≤ far p entry.1) before × All (λ (entry : Draw × Way). far p best.1 < far p entry.1) after

-- where the best so far is the nearest of a list, the best in the end is the nearest of the whole
nearest_on : (p : ℕ) (before mid rest : KnownGroups) (best chosen : Draw × Way)
    → All (λ (entry : Draw × Way). far p best.1 ≤ far p entry.1) before → All (λ (entry : Draw × Way). far p best.1 < far p entry.1) mid
    → fold (better p) (Some best) rest ≡ Some chosen → Nearest p (before ++ best ∷ (mid ++ rest)) chosen
nearest_on p before mid [] best chosen none_nearer each_farther e =
    let same : best ≡ chosen = cc in
    subst (λ c. Nearest p (before ++ best ∷ (mid ++ [])) c) same (before, mid, ap (λ l. before ++ best ∷ l) (append-nil mid), none_nearer, each_farther)
nearest_on p before mid (entry ∷ rest) best chosen none_nearer each_farther e =
    elim (leb (far p entry.1) (far p best.1)) as (λ b. leb (far p entry.1) (far p best.1) ≡ b → fold (better p) (Some (cond b entry best)) rest ≡ Some chosen → Nearest p (before ++ best ∷ (mid ++ entry ∷ rest)) chosen) [
      | true ↦ λ t h.
          let near : far p entry.1 ≤ far p best.1 = leb-true _ _ t in
          let farther = λ (other : Draw × Way). far p entry.1 ≤ far p other.1 in
          let all : All farther (before ++ best ∷ mid) = All-append farther before (best ∷ mid) (λ k d inside. omega (arith, none_nearer k d inside)) (All-append farther (best ∷ []) mid (all_one farther best near) (λ k d inside. omega (arith, each_farther k d inside))) in
          subst (λ l. Nearest p l chosen) (append_assoc before (best ∷ mid) (entry ∷ rest)) (nearest_on p (before ++ best ∷ mid) [] rest entry chosen all (all_none _) h)
      | false ↦ λ t h.
          let away : far p best.1 < far p entry.1 = leb-false _ _ t in
          let nearer_than = λ (other : Draw × Way). far p best.1 < far p other.1 in
          subst (λ l. Nearest p (before ++ best ∷ l) chosen) (append_assoc mid (entry ∷ []) rest) (nearest_on p before (mid ++ entry ∷ []) rest best chosen none_nearer (All-append nearer_than mid (entry ∷ []) each_farther (all_one nearer_than entry away)) h)
    ] refl e

as_nearest : (p : ℕ) (known : KnownGroups) (best : Draw × Way) → Nearest p known best → IsNearest p known best.0
as_nearest p known best is = record { before = is.0; way = best.1; after = is.1; stands = is.2; none_nearer = is.3; each_farther = is.4 }

-- the chosen group is the nearest
pub chooses_nearest : ChoosesNearest
chooses_nearest p [] group e = absurd (cc)
chooses_nearest p (entry ∷ known) group e =
    elim (fold (better p) (Some entry) known) as (λ o. fold (better p) (Some entry) known ≡ o → option_map (λ (best : Draw × Way). best.0) o ≡ Some group → IsNearest p (entry ∷ known) group) [
      | None ↦ λ _ h. absurd (cc)
      | Some best ↦ λ f h. let same : best.0 ≡ group = cc in subst (IsNearest p (entry ∷ known)) same (as_nearest p (entry ∷ known) best (nearest_on p [] [] known entry best (all_none _) (all_none _) f))
    ] refl e
