-- The test of places decides whether they are equal.
use Rattle.std.specs.Prelude.{◌≡◌, ℕ, Bool, true, false, ◌&&◌, List, Option, Some, None, Decides, IsTrue}
use Rattle.std.specs.Cmp.{IsEquivalence, decided}
use Rattle.std.specs.Cmp.Lexicographic.{bytes_decides}
use Rattle.std.proofs.Common.{refl, sym, ap, ap₂, true≢false}
use Rattle.sc_linear_law.specs.LinearDefinitions.{Place}
use Rattle.sc_linear.specs.Search.{same_value, same_place, place_writes}

pub value_decides : (a b : Option (List ℕ)) → Decides (same_value a b) (a ≡ b)
value_decides None None = (λ _. refl, λ _. refl)
value_decides None (Some w) = (λ e. absurd (true≢false (sym e)), λ e. absurd (cc))
value_decides (Some v) None = (λ e. absurd (true≢false (sym e)), λ e. absurd (cc))
value_decides (Some v) (Some w) = (λ e. ap Some (sym ((bytes_decides w v).0 e)), λ e. (bytes_decides w v).1 (cc))

both : (a b : Bool) → a && b ≡ true → (a ≡ true) × (b ≡ true)
both true true h = (refl, refl)
both true false h = absurd (true≢false (sym h))
both false true h = absurd (true≢false (sym h))
both false false h = absurd (true≢false (sym h))

joins : (a b : Bool) → a ≡ true → b ≡ true → a && b ≡ true
joins true true p q = refl
joins true false p q = absurd (true≢false (sym q))
joins false b p q = absurd (true≢false (sym p))

place_from : (a b : Place) → a.value ≡ b.value → a.taken ≡ b.taken → a ≡ b
place_from a b p q = ap₂ (λ v t. let r : Place = record { value = v; taken = t } in r) p q

pub place_decides : (a b : Place) → Decides (same_place a b) (a ≡ b)
place_decides a b = (
  λ e. place_from a b ((value_decides a.value b.value).0 (both _ _ e).0) ((bytes_decides a.taken b.taken).0 (both _ _ e).1),
  λ e. joins _ _ ((value_decides a.value b.value).1 (ap (λ (p : Place). p.value) e)) ((bytes_decides a.taken b.taken).1 (ap (λ (p : Place). p.taken) e)),
)

pub place_equiv : IsEquivalence same_place
place_equiv = decided same_place place_decides

pub place_alike : (a b : Place) → IsTrue (same_place a b) → place_writes a ≡ place_writes b
place_alike a b e = ap place_writes ((place_decides a b).0 e)
