-- What an `==` decides, from what it decides of the parts: at lists and options, and as a derive gives it at structs and enums.
use Rattle.std.proofs.Common.{◌≡◌, Bool, true, false, ◌&&◌, ◌⊎◌, inl, inr, refl, sym, ◌∙◌, ap, Decides}
use Rattle.std.specs.Prelude.{⊤, Option, Some, None, nat_eq}
use Rattle.std.specs.Cmp.{unsigned_Decides, booleans_Decides, first_so, second_so}
use Rattle.std.specs.Cmp.Lexicographic.{pointwise, pointwise_decides}
use Rattle.std.specs.Option.{option_eq}
use Rattle.std.specs.Bool.{beq}
use mathlib.Core.Bool.{true≢false}
use mathlib.Core.Logic.{⊎_elim}
use denote.Struct.Values.{Values}
use denote.Struct.Declared.{Declared}
use denote.Struct.Cover.{Cover-one}
use denote.Enum.Declared.{Record, Choice, values_one, left_or, right_or}

-- E holds exactly of what is one and the same. It is a record so that its type tells E
pub record Exact {K : Type 0} (E : K → K → Bool) : Type 0 where
  pub decides : (x y : K) → Decides (E x y) (x ≡ y)

pub numbers : Exact nat_eq
numbers = record { decides = unsigned_Decides }

pub booleans : Exact beq
booleans = record { decides = booleans_Decides }

pub lists : {K : Type 0} {E : K → K → Bool} → Exact E → Exact (pointwise E)
lists e = record { decides = pointwise_decides e.decides }

-- ---- the fields of a struct or of a variant, one after another

pub no_field : Exact (λ (x y : ⊤). true)
no_field = record { decides = λ x y. (λ h. refl, λ p. refl) }

pub last : {A : Type 0} {E : A → A → Bool} → Exact E → Exact (λ (x y : A × ⊤). E x.0 y.0)
last {A} e = record { decides = λ x y. (λ h i. ((e.decides x.0 y.0).0 h i, tt), λ p. (e.decides x.0 y.0).1 (ap (λ (a : A × ⊤). a.0) p)) }

infixr 30 ◌and◌
pub ◌and◌ : {A B : Type 0} {E : A → A → Bool} {F : B → B → Bool} → Exact E → Exact F → Exact (λ (x y : A × B). E x.0 y.0 && F x.1 y.1)
◌and◌ {A} {B} {E} {F} e f = record {
  decides = λ x y. (
    λ h i. ((e.decides x.0 y.0).0 (first_so (E x.0 y.0) (F x.1 y.1) h) i, (f.decides x.1 y.1).0 (second_so (E x.0 y.0) (F x.1 y.1) h) i),
    λ p i. (e.decides x.0 y.0).1 (ap (λ (a : A × B). a.0) p) i && (f.decides x.1 y.1).1 (ap (λ (a : A × B). a.1) p) i,
  );
}

pub struct : (T : Declared) {E : Values T.parts → Values T.parts → Bool} → Exact E → Exact (λ x y. E (T.as_values x) (T.as_values y))
struct T e = record {
  decides = λ x y.
      let d = e.decides (T.as_values x) (T.as_values y) in
      (λ h. Cover-one T.cover T.propositions x y (d.0 h), λ p. d.1 (ap T.as_values p));
}

-- ---- the variants of an enum, one after another

abbrev sides : {A B : Type 0} → (A → A → Bool) → (B → B → Bool) → A ⊎ B → A ⊎ B → Bool
sides E F c d = ⊎_elim (λ x. ⊎_elim (λ y. E x y) (λ _. false) d) (λ x. ⊎_elim (λ _. false) (λ y. F x y) d) c

abbrev is_left : {A B : Type 0} → A ⊎ B → Bool
is_left (inl x) = true
is_left (inr y) = false

pub no_variant : Exact (λ (c d : ⊥). absurd c)
no_variant = record { decides = λ c d. absurd c }

infixr 20 ◌or◌
module _ {A B : Type 0} {E : A → A → Bool} {F : B → B → Bool} (e : Exact E) (f : Exact F) where
  choices : (c d : A ⊎ B) → Decides (sides E F c d) (c ≡ d)
  choices (inl x) (inl y) = (λ h. ap inl ((e.decides x y).0 h), λ p. (e.decides x y).1 (ap (left_or x) p))
  choices (inl x) (inr y) = (λ h. absurd (true≢false (sym h)), λ p. absurd (true≢false (ap is_left p)))
  choices (inr x) (inl y) = (λ h. absurd (true≢false (sym h)), λ p. absurd (true≢false (sym (ap is_left p))))
  choices (inr x) (inr y) = (λ h. ap inr ((f.decides x y).0 h), λ p. (f.decides x y).1 (ap (right_or x) p))

  pub ◌or◌ : Exact (sides E F)
  ◌or◌ = record { decides = choices }

pub enum : (N : Record) {E : Choice N.parts → Choice N.parts → Bool} → Exact E → Exact (λ x y. E (N.as_values x) (N.as_values y))
enum N e = record {
  decides = λ x y.
      let d = e.decides (N.as_values x) (N.as_values y) in
      (λ h. values_one N x y (d.0 h), λ p. d.1 (ap N.as_values p));
}

-- ---- `Option`

abbrev held_or : {K : Type 0} → K → Option K → K
held_or x None = x
held_or x (Some y) = y

module _ {K : Type 0} {E : K → K → Bool} (e : Exact E) where
  maybe : (x y : Option K) → Decides (option_eq E x y) (x ≡ y)
  maybe None None = (λ h. refl, λ p. refl)
  maybe None (Some y) = (λ h. absurd (true≢false (sym h)), λ p. absurd (true≢false (ap (option_eq (λ _ _. true) None) p)))
  maybe (Some x) None = (λ h. absurd (true≢false (sym h)), λ p. absurd (true≢false (sym (ap (option_eq (λ _ _. true) None) p))))
  maybe (Some x) (Some y) = (λ h. ap Some ((e.decides x y).0 h), λ p. (e.decides x y).1 (ap (held_or x) p))

  pub options : Exact (option_eq E)
  options = record { decides = maybe }

-- ---- what an answer of such an `==` tells

pub told : {K : Type 0} {E : K → K → Bool} → Exact E → (x y : K) (r : Bool) → r ≡ E x y → Decides r (x ≡ y)
told e x y r h = (λ s. (e.decides x y).0 (sym h ∙ s), λ p. h ∙ (e.decides x y).1 p)
