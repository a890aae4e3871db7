-- One of two values, the first of two that is there, and one that is there or not.
use Rattle.std.proofs.Common.{◌≡◌, ◌||◌, not, Bool, true, false, cond, Option, Some, None, refl}
use Rattle.std.specs.Prelude.{is_some}
use Rattle.std.proofs.lemmas.Bool.{cond_both}
use Rattle.sc_node_table.specs.NodeDefinitions.{either}

-- whichever it is
pub either_way : {A : Type 0} (P : A → Type 0) (b : Bool) (x y : A) → P x → P y → P (cond b x y)
either_way P b x y p q = cond_both b x y P (λ _. p) (λ _. q)

-- one of two, where the first is also taken unless a test holds
pub unless_so : {A : Type 0} (P : A → Type 0) (b c : Bool) (x y : A) → P x → (b ≡ true → P y) → P (cond (not b || c) x y)
unless_so P false c x y p q = p
unless_so P true true x y p q = p
unless_so P true false x y p q = q refl

-- which of three is there first, whichever two are asked first
pub either_assoc : {X : Type 0} (a b c : Option X) → either (either a b) c ≡ either a (either b c)
either_assoc None b c = refl
either_assoc (Some x) b c = refl

-- nothing behind changes nothing
pub either_none : {X : Type 0} (a : Option X) → either a None ≡ a
either_none None = refl
either_none (Some x) = refl

-- what is there or not, where the test fails ..
pub none_there : {X : Type 0} (o : Option X) → is_some o ≡ false → o ≡ None
none_there None e = refl
none_there (Some x) e = cc

-- .. and where it passes
pub some_there : {X : Type 0} (o : Option X) → is_some o ≡ true → (x : X) × (o ≡ Some x)
some_there None e = cc
some_there (Some x) e = (x, refl)
