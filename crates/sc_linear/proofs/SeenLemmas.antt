-- Places that were seen.
use Rattle.std.proofs.Common.{◌≡◌, ◌≢◌, ℕ, Bool, true, false, cond, is_some, List, [], ◌∷◌, Option, Some, None, refl, sym, ap, ◌∙◌, true≢false, inl, inr}
use Rattle.sc_base.specs.Definitions.{Among, Each}
use Rattle.sc_linear_law.specs.LinearDefinitions.{Place}
use Rattle.sc_linear.specs.Search.{same_place}
use Rattle.sc_linear.specs.PlaceEquality.{place_decides}
use Rattle.sc_linear.specs.Standing.{is_seen}

pub none_from : {X : Type 0} (o : Option X) → is_some o ≡ false → o ≡ None
none_from None h = refl
none_from (Some x) h = absurd (true≢false h)

seen_case : (place : Place) (e : Place × ℕ) (es : List (Place × ℕ)) → (b : Bool) → same_place place e.0 ≡ b → is_seen place (e ∷ es) ≡ cond b true (is_seen place es)
seen_case place e es true h = rw h refl
seen_case place e es false h = rw h refl

pub unseen_apart : (place : Place) (es : List (Place × ℕ)) → is_seen place es ≡ false → Each (λ (e : Place × ℕ). e.0 ≢ place) es
unseen_apart place [] h = tt
unseen_apart place (e ∷ es) h = go (same_place place e.0) refl (λ k. unseen_apart place es k)
  where
    go : (b : Bool) → same_place place e.0 ≡ b → (is_seen place es ≡ false → Each (λ (f : Place × ℕ). f.0 ≢ place) es) → Each (λ (f : Place × ℕ). f.0 ≢ place) (e ∷ es)
    go true s rest = absurd (true≢false (sym (seen_case place e es true s) ∙ h))
    go false s rest = (λ q. true≢false (sym ((place_decides place e.0).1 (sym q)) ∙ s), rest (sym (seen_case place e es false s) ∙ h))

-- a place that was seen is one of the entries
pub seen_entry : (place : Place) (es : List (Place × ℕ)) → is_seen place es ≡ true → (e : Place × ℕ) × Among e es × (e.0 ≡ place)
seen_entry place [] h = absurd (true≢false (sym h))
seen_entry place (e ∷ es) h = go (same_place place e.0) refl (λ k. seen_entry place es k)
  where
    go : (b : Bool) → same_place place e.0 ≡ b → (is_seen place es ≡ true → (f : Place × ℕ) × Among f es × (f.0 ≡ place)) → (f : Place × ℕ) × Among f (e ∷ es) × (f.0 ≡ place)
    go true s rest = (e, inl refl, sym ((place_decides place e.0).0 s))
    go false s rest = let r : (f : Place × ℕ) × Among f es × (f.0 ≡ place) = rest (sym (seen_case place e es false s) ∙ h) in (r.0, inr r.1, r.2)

pub entry_seen : (place : Place) (e : Place × ℕ) (es : List (Place × ℕ)) → Among e es → e.0 ≡ place → is_seen place es ≡ true
entry_seen place e [] here same = absurd here
entry_seen place e (f ∷ es) here same = go (same_place place f.0) refl here (λ k. entry_seen place e es k same)
  where
    go : (b : Bool) → same_place place f.0 ≡ b → Among e (f ∷ es) → (Among e es → is_seen place es ≡ true) → is_seen place (f ∷ es) ≡ true
    go true s there rest = seen_case place f es true s
    go false s (inl q) rest = absurd (true≢false (sym ((place_decides place f.0).1 (sym (ap (λ (g : Place × ℕ). g.0) q ∙ same))) ∙ s))
    go false s (inr there) rest = seen_case place f es false s ∙ rest there
