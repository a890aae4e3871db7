-- The groups of a scenario stand in the order of their names.
use Rattle.std.proofs.Common.{◌≡◌, ℕ, zero, suc, ◌+◌, ◌<◌, ◌≤◌, Bool, true, List, [], ◌∷◌, ◌++◌, length, refl, ◌∙◌, ap, arith}
use Rattle.std.specs.List.{list_all}
use Rattle.std.proofs.lemmas.Bool.{and_from, and_parts, lt-ltb}
use Rattle.std.proofs.lemmas.List.Folds.{list_all-append}
use Rattle.sc_base.specs.declared.names.Draw.{Draw}
use Rattle.sc_words.specs.declared.commands.cores.Base.{Base}
use Rattle.sc_node_table.specs.Node.{is_before, are_in_order}
use Rattle.sc_scenario.specs.scenario.Groups.{name_at, base_at, bases_up_to}
use Rattle.sc_scenario.specs.declared.scenario.drafts.GroupLine.{GroupLine}
use Rattle.sc_scenario.specs.declared.scenario.scenarios.Scenario.{Scenario}
use Rattle.sc_scenario.specs.scenario.Valid.{IsBounded}

-- whether a group's name stands before another
abbrev is_named_before : Draw → Base → Bool
is_named_before name other = is_before other.core.id name

all_and_one : (p : Base → Bool) (xs : List Base) (x : Base) → list_all p xs ≡ true → p x ≡ true → list_all p (xs ++ x ∷ []) ≡ true
all_and_one p xs x all one = list_all-append p xs (x ∷ []) ∙ and_from (list_all p xs) (list_all p (x ∷ [])) all (and_from (p x) true one refl)

ordered_and_one : (xs : List Base) (x : Base) → are_in_order xs ≡ true → list_all (is_named_before x.core.id) xs ≡ true → are_in_order (xs ++ x ∷ []) ≡ true
ordered_and_one [] x ordered before = refl
ordered_and_one (y ∷ ys) x ordered before =
    let here = and_parts (list_all (λ other. is_before y.core.id other.core.id) ys) (are_in_order ys) ordered in
    let less = and_parts (is_before y.core.id x.core.id) (list_all (is_named_before x.core.id) ys) before in
    and_from (list_all (λ other. is_before y.core.id other.core.id) (ys ++ x ∷ [])) (are_in_order (ys ++ x ∷ []))
    (all_and_one (λ other. is_before y.core.id other.core.id) ys x here.0 less.0) (ordered_and_one ys x here.1 less.1)

is_later : (k j : ℕ) → k < j → is_before (name_at k) (name_at j) ≡ true
is_later k j lt = lt-ltb (k + 1) (j + 1) (omega (arith, lt))

earlier_named : (lines : List GroupLine) (k j : ℕ) → k ≤ j → list_all (is_named_before (name_at j)) (bases_up_to lines k) ≡ true
earlier_named lines zero j le = refl
earlier_named lines (suc k) j le =
    all_and_one (is_named_before (name_at j)) (bases_up_to lines k) (base_at lines k) (earlier_named lines k j (omega (arith, le))) (is_later k j (omega (arith, le)))

names_rise : (lines : List GroupLine) (k : ℕ) → are_in_order (bases_up_to lines k) ≡ true
names_rise lines zero = refl
names_rise lines (suc k) = ordered_and_one (bases_up_to lines k) (base_at lines k) (names_rise lines k) (earlier_named lines k k (omega arith))

-- groups stand in the order of their names
pub all_ordered : (scenario : Scenario) → IsBounded scenario → are_in_order scenario.groups ≡ true
all_ordered scenario bounded = ap are_in_order bounded.groups ∙ names_rise bounded.starts (length bounded.starts)
