-- A node that leaves one set for another.
use Rattle.std.proofs.Common.{◌≡◌, ℕ, true, false, Bool, not, eqb, ltb, ◌||◌, ◌∷◌, [], List, filter, refl, ap, ◌∙◌}
use Rattle.std.proofs.Math.Bool.{or-true}
use Rattle.std.specs.List.{All}
use Rattle.std.proofs.lemmas.Bool.{cond_both, eq-eqb}
use Rattle.std.proofs.lemmas.List.Elements.{All-weaker, filter_passes}
use Rattle.std.proofs.lemmas.List.Folds.{list_any_none, list_any-append}
use Rattle.sc_base.specs.Definitions.{is_member, with_member, without_member, united}
use Rattle.sc_group_parts.specs.transactions.TransactionDefinitions.{MigrationsKeepAll}

passed : (b : Bool) → not b ≡ true → b ≡ false
passed true t = absurd (let no_way : false ≡ true = t in cc)
passed false t = refl

-- it is no member of those that stay
left_out : (members : List ℕ) (node : ℕ) → is_member (without_member members node) node ≡ false
left_out members node =
    list_any_none (λ m. eqb m node) (without_member members node)
    (All-weaker (λ m. not (eqb m node) ≡ true) (λ m. eqb m node ≡ false) (λ m t. passed (eqb m node) t) (without_member members node) (filter_passes (λ m. not (eqb m node)) members))

-- and one of those that it comes to
comes_in : (members : List ℕ) (node : ℕ) → is_member (united members (node ∷ [])) node ≡ true
comes_in members node =
    cond_both (is_member members node) members (with_member members node) (λ l. is_member l node ≡ true)
    (λ t. t)
    (λ _. (
    let low = filter (λ m. ltb m node) members in
    let high = filter (λ m. ltb node m) members in
    list_any-append (λ m. eqb m node) low (node ∷ high)
    ∙ ap (λ b. is_member low node || (b || is_member high node)) (eq-eqb node node refl)
    ∙ or-true (is_member low node)))

-- a member's move changes no arc, pair or client table, and makes it a member of the other group
pub moves_keep : MigrationsKeepAll
moves_keep group next node = record {
  first = record { arc = refl; pairs = refl; table = refl };
  second = record { arc = refl; pairs = refl; table = refl };
  moves = record { left = left_out group.core.members node; came = comes_in next.core.members node };
}
