-- The groups after one of them has executed a command.
use Rattle.std.proofs.Common.{◌≡◌, ℕ, zero, suc, ◌+◌, ◌<◌, true, false, List, [], ◌∷◌, ◌++◌, length, map, set, get_or, if◌then◌else◌, Option, Some, None, refl, sym, ap, ◌∙◌, arith}
use Rattle.std.specs.Prelude.{slice_get}
use Rattle.std.specs.Option.{option_to_list}
use Rattle.std.proofs.lemmas.Bool.{cond-true, cond-false}
use Rattle.std.proofs.lemmas.Option.{none-some, slice_get_within, get_or_from_slice_get, slice_get-get_or}
use Rattle.sc_base.proofs.CommonLemmas.{cond-same}
use Rattle.sc_base.proofs.NameLemmas.{same_name}
use Rattle.sc_base.specs.declared.names.Draw.{Draw}
use Rattle.sc_words.specs.declared.commands.commands.Command.{Command}
use Rattle.sc_words.specs.declared.commands.cores.Base.{Base}
use Rattle.sc_group_table.specs.machine.Group.{Group, group_of}
use Rattle.sc_group_table.specs.machine.Machine.{applied}
use Rattle.sc_meaning.specs.entries.Births.{birth_of}
use Rattle.sc_words.specs.declared.commands.cores.Core.{Core}
use Rattle.sc_words.specs.declared.commands.effects.Effect.{Effect}
use Rattle.sc_words.specs.declared.ideal.Entry.{Entry}
use Rattle.sc_group_table.specs.machine.Logs.{entry_of}
use Rattle.sc_meaning.specs.declared.entries.Cut.{Cut}
use Rattle.sc_meaning.specs.declared.entries.Transaction.{Transaction}
use Rattle.sc_meaning.specs.entries.Decisions.{transactions_after}
use Rattle.sc_meaning.specs.entries.Rings.{ring_after}
use Rattle.sc_meaning.specs.entries.Worlds.{StoreWorld, is_named, with_group, groups_after, with_result}
use Rattle.sc_world_groups.proofs.Changes.{changed, changed-put, changed-length, changed-next-at, put-same}

placed : {X : Type 0} (xs : List X) (i : ℕ) (x y : X) → slice_get xs i ≡ Some x → slice_get (set xs i y) i ≡ Some y
placed [] i x y is = absurd (none-some x is)
placed (z ∷ xs) zero x y is = refl
placed (z ∷ xs) (suc i) x y is = placed xs i x y is

-- the group at a place was changed, each other of its name became the same, and a child was born
pub executed : (xs ys zs : List Group) (at : ℕ) (group : Group) (command : Command) (child : Option Base) → slice_get xs at ≡ Some group → ys ≡ set xs at (applied group command).0
    → ((after : Group) → slice_get ys at ≡ Some after → zs ≡ with_group group.core.id after ys) → child ≡ birth_of group command (applied group command).1
    → zs ++ map group_of (option_to_list child) ≡ groups_after group (applied group command).0 (birth_of group command (applied group command).1) xs
executed xs ys zs at group command child is changes copies born =
    let after : Group = (applied group command).0 in
    let here : slice_get ys at ≡ Some after = ap (λ (gs : List Group). slice_get gs at) changes ∙ placed xs at group after is in
    let named : is_named group.core.id group ≡ true = same_name group.core.id group.core.id refl in
    let becomes : (if is_named group.core.id (get_or xs at group) then after else get_or xs at group) ≡ (if is_named group.core.id after then after else after) =
    ap (λ (g : Group). if is_named group.core.id g then after else g) (get_or_from_slice_get xs at group group is)
    ∙ cond-true (is_named group.core.id group) after group named ∙ sym (cond-same (is_named group.core.id after) after) in
    let all : zs ≡ with_group group.core.id after xs =
    copies after here ∙ ap (with_group group.core.id after) changes
    ∙ changed-put (λ (g : Group). if is_named group.core.id g then after else g) xs at group after (slice_get_within xs at group is) becomes in
    ap (λ (gs : List Group). gs ++ map group_of (option_to_list child)) all
    ∙ ap (λ (o : Option Base). with_group group.core.id after xs ++ map group_of (option_to_list o)) born

-- ---- groups of one name

one_default : {X : Type 0} (xs : List X) (i : ℕ) (d e : X) → i < length xs → get_or xs i d ≡ get_or xs i e
one_default [] i d e lt = absurd (omega (arith, lt))
one_default (x ∷ xs) zero d e lt = refl
one_default (x ∷ xs) (suc i) d e lt = one_default xs i d e (omega (arith, lt))

same_some : {X : Type 0} (x y : X) → Some x ≡ Some y → x ≡ y
same_some {X} x y e = ap (λ (o : Option X). elim o [ None ↦ x | Some z ↦ z ]) e

-- the group at the place itself stays
pub copied-self : (xs : List Group) (at i : ℕ) (name : Draw) (after group : Group) → i ≡ at → slice_get xs at ≡ Some after → slice_get xs i ≡ Some group
    → xs ≡ set xs i (if is_named name group then after else group)
copied-self xs at i name after group place here is =
    let same : after ≡ group = same_some after group (sym here ∙ ap (λ (n : ℕ). slice_get xs n) (sym place) ∙ is) in
    sym (ap (λ (g : Group). set xs i (if is_named name group then g else group)) same ∙ ap (set xs i) (cond-same (is_named name group) group) ∙ put-same xs i group is)

-- one with another name stays
pub copied-other : (xs : List Group) (i : ℕ) (name : Draw) (after group : Group) → slice_get xs i ≡ Some group → is_named name group ≡ false
    → xs ≡ set xs i (if is_named name group then after else group)
copied-other xs i name after group is other =
    sym (ap (set xs i) (cond-false (is_named name group) after group other) ∙ put-same xs i group is)

-- one with the name becomes the same
pub copied-named : (xs ys : List Group) (i : ℕ) (name : Draw) (after group : Group) → ys ≡ set xs i after → is_named name group ≡ true
    → ys ≡ set xs i (if is_named name group then after else group)
copied-named xs ys i name after group copied named = copied ∙ ap (set xs i) (sym (cond-true (is_named name group) after group named))

keeps : {X : Type 0} (f : X → X) (xs : List X) (i at : ℕ) (x : X) → slice_get xs at ≡ Some x → f x ≡ x → slice_get (changed f i xs) at ≡ Some x
keeps f xs zero at x is same = is
keeps f [] (suc i) at x is same = absurd (none-some x is)
keeps {X} f (y ∷ xs) (suc i) zero x is same = (let e : y ≡ x = same_some y x is in ap (λ (z : X). Some (f z)) e ∙ ap (λ (z : X). Some z) same)
keeps f (y ∷ xs) (suc i) (suc at) x is same = keeps f xs i at x is same

-- one place more
pub copied-next : (xs ys zs : List Group) (at i : ℕ) (name : Draw) (after : Group) → slice_get xs at ≡ Some after → ys ≡ changed (λ (group : Group). if is_named name group then after else group) i xs → i < length xs
    → ((a group : Group) → slice_get ys at ≡ Some a → slice_get ys i ≡ Some group → zs ≡ set ys i (if is_named name group then a else group))
    → zs ≡ changed (λ (group : Group). if is_named name group then after else group) (i + 1) xs
copied-next xs ys zs at i name after is so_far lt copies =
    let f : Group → Group = λ (group : Group). if is_named name group then after else group in
    let long : length ys ≡ length xs = ap length so_far ∙ changed-length f i xs in
    let here : slice_get ys at ≡ Some after = ap (λ (gs : List Group). slice_get gs at) so_far ∙ keeps f xs i at after is (cond-same (is_named name after) after) in
    let group : Group = get_or ys i after in
    let found : slice_get ys i ≡ Some group = slice_get-get_or ys i after (omega (arith, lt, long)) in
    copies after group here found
    ∙ changed-next-at f xs ys i group (f group) lt so_far (one_default ys i after group (omega (arith, lt, long))) refl

pub item-at : {X : Type 0} (xs : List X) (i : ℕ) → i < length xs → (x : X) × (slice_get xs i ≡ Some x)
item-at [] i lt = absurd (omega (arith, lt))
item-at (x ∷ xs) zero lt = (x, refl)
item-at (x ∷ xs) (suc i) lt = item-at xs i (omega (arith, lt))

-- as many groups are there as before
pub set-length : {X : Type 0} (xs : List X) (i : ℕ) (x : X) → length (set xs i x) ≡ length xs
set-length [] i x = refl
set-length (y ∷ ys) zero x = refl
set-length (y ∷ ys) (suc i) x = ap suc (set-length ys i x)

-- the group at a place executes a command
pub applied-at : (xs : List Group) (at : ℕ) (group old new : Group) (command : Command) (effect : Effect) → slice_get xs at ≡ Some group → old ≡ get_or xs at old → applied old command ≡ (new, effect)
    → (effect ≡ (applied group command).1) × (set xs at new ≡ set xs at (applied group command).0)
applied-at xs at group old new command effect is read does =
    let same : old ≡ group = read ∙ get_or_from_slice_get xs at group old is in
    let both : applied group command ≡ (new, effect) = ap (λ (g : Group). applied g command) (sym same) ∙ does in
    (ap (λ (r : Group × Effect). r.1) (sym both), ap (λ (r : Group × Effect). set xs at r.0) (sym both))

-- the world that has these parts
pub parts-are : (world : StoreWorld) (group : Group) (command : Command) (core : Core) (effect : Effect) (groups : List Group) (transactions : List Transaction) (ring : List Cut) (history : List Entry)
    → core ≡ group.core → effect ≡ (applied group command).1 → groups ≡ groups_after group (applied group command).0 (birth_of group command (applied group command).1) world.groups
    → transactions ≡ transactions_after core command effect world.transactions → ring ≡ ring_after core command effect world.ring → history ≡ world.history ++ entry_of command effect
    → (let parts : StoreWorld = record { groups = groups; transactions = transactions; ring = ring; history = history } in parts) ≡ with_result world group command (applied group command)
parts-are world group command core effect groups transactions ring history core_is effect_is groups_are transactions_are ring_is history_is =
    let now : Group = (applied group command).0 in
    let all : List Group = groups_after group now (birth_of group command (applied group command).1) world.groups in
    let make : List Group → List Transaction → List Cut → List Entry → StoreWorld = λ gs ts r h. record { groups = gs; transactions = ts; ring = r; history = h } in
    let by : Core → Effect → StoreWorld = λ k e. make all (transactions_after k command e world.transactions) (ring_after k command e world.ring) (world.history ++ entry_of command e) in
    ap (λ gs. make gs transactions ring history) groups_are ∙ ap (λ ts. make all ts ring history) transactions_are
    ∙ ap (λ r. make all (transactions_after core command effect world.transactions) r history) ring_is
    ∙ ap (λ h. make all (transactions_after core command effect world.transactions) (ring_after core command effect world.ring) h) history_is
    ∙ ap (λ k. by k effect) core_is ∙ ap (λ e. by group.core e) effect_is
