-- A part of the map changes only with its own keys.
use Rattle.std.proofs.Common.{◌≡◌, ℕ, Bool, true, false, cond, List, Option, Some, None, refl, sym, ap, ◌∙◌}
use Rattle.std.specs.Prelude.{is_none}
use Rattle.std.specs.declared.cmp.Ordering.TheVariants.{Equal}
use Rattle.std.specs.Ordering.{nat_cmp, eq_by_cmp, is_eq}
use Rattle.std.specs.Cmp.Lexicographic.{slice_cmp, nat_list_cmp_total}
use Rattle.std.specs.FinMap.{get, insert, retain_keys, same_map, get-insert, get-remove, get-retain_keys}
use Rattle.std.proofs.lemmas.Map.Lookups.{exact_bytes}
use Rattle.sc_base.specs.declared.ops.Op.TheVariants.{Get, Put, Del, Add, Cas}
use Rattle.sc_words.specs.ideal.IdealDefinitions.{Contents, was, ServesApart}

-- maps that answer alike are one
pub same_contents : (m n : Contents) → ((q : List ℕ) → get m q ≡ get n q) → m ≡ n
same_contents m n = same_map nat_list_cmp_total exact_bytes m n

-- what a part has at a key
pub get-part : (m : Contents) (part : List ℕ → Bool) (q : List ℕ) → get (retain_keys m part) q ≡ cond (part q) (get m q) None
get-part m part q = get-retain_keys m part q (λ x tie. ap part (sym (exact_bytes q x tie)))

tied : (q k : List ℕ) → eq_by_cmp (slice_cmp nat_cmp) q k ≡ true → q ≡ k
tied q k e =
    elim (slice_cmp nat_cmp q k) as (λ o. slice_cmp nat_cmp q k ≡ o → is_eq o ≡ true → q ≡ k) [
      | Equal ↦ λ h _. exact_bytes q k h
      | _ ↦ λ _ f. absurd (cc)
    ] refl e

at_key : {X : Type 0} (tie inside changed : Bool) (value old : Option X) → (tie ≡ true → inside ≡ changed) → cond inside (cond tie value old) None ≡ cond changed (cond tie value (cond inside old None)) (cond inside old None)
at_key true true true value old h = refl
at_key true true false value old h = absurd (let f : true ≡ false = h refl in cc)
at_key true false true value old h = absurd (let f : false ≡ true = h refl in cc)
at_key true false false value old h = refl
at_key false inside true value old h = refl
at_key false inside false value old h = refl

get-choice : (b : Bool) (m n : Contents) (q : List ℕ) → get (cond b m n) q ≡ cond b (get m q) (get n q)
get-choice true m n q = refl
get-choice false m n q = refl

-- a change at one key, whatever it is
changes : (contents changed : Contents) (in_part : Contents) (key : List ℕ) (value : Option (List ℕ)) (part : List ℕ → Bool)
    → ((q : List ℕ) → get changed q ≡ cond (eq_by_cmp (slice_cmp nat_cmp) q key) value (get contents q))
    → ((q : List ℕ) → get in_part q ≡ cond (eq_by_cmp (slice_cmp nat_cmp) q key) value (get (retain_keys contents part) q))
    → retain_keys changed part ≡ cond (part key) in_part (retain_keys contents part)
changes contents changed in_part key value part whole within = same_contents _ _ (λ q.
    let tie : Bool = eq_by_cmp (slice_cmp nat_cmp) q key in
    get-part changed part q ∙ ap (λ o. cond (part q) o None) (whole q)
    ∙ at_key tie (part q) (part key) value (get contents q) (λ e. ap part (tied q key e))
    ∙ ap (λ o. cond (part key) (cond tie value o) o) (sym (get-part contents part q))
    ∙ ap (λ o. cond (part key) o (get (retain_keys contents part) q)) (sym (within q))
    ∙ sym (get-choice (part key) in_part (retain_keys contents part) q))

same_both : {X : Type 0} (b : Bool) (x : X) → x ≡ cond b x x
same_both true x = refl
same_both false x = refl

set_apart : (contents : Contents) (key value : List ℕ) (part : List ℕ → Bool) → retain_keys (insert contents key value) part ≡ cond (part key) (insert (retain_keys contents part) key value) (retain_keys contents part)
set_apart contents key value part = changes contents _ _ key (Some value) part (get-insert nat_list_cmp_total contents key value) (get-insert nat_list_cmp_total (retain_keys contents part) key value)

-- a change that is made where a test of the key's value holds
where_tested : (test : Option (List ℕ) → Bool) (inside : Bool) (old in_old : Option (List ℕ)) (contents changed in_part rest : Contents) (cut : Contents → Contents)
    → (in_old ≡ cond inside old None) → (cut contents ≡ rest) → (cut changed ≡ cond inside in_part rest)
    → cut (cond (test old) changed contents) ≡ cond inside (cond (test in_old) in_part rest) rest
where_tested test true old in_old contents changed in_part rest cut same kept changes =
    elim (test old) as (λ b. cut (cond b changed contents) ≡ cond b in_part rest) [ true ↦ changes | false ↦ kept ] ∙ ap (λ o. cond (test o) in_part rest) (sym same)
where_tested test false old in_old contents changed in_part rest cut same kept changes =
    elim (test old) as (λ b. cut (cond b changed contents) ≡ rest) [ true ↦ changes | false ↦ kept ]

tested : (test : Option (List ℕ) → Bool) (contents : Contents) (key value : List ℕ) (part : List ℕ → Bool)
    → retain_keys (cond (test (get contents key)) (insert contents key value) contents) part ≡ cond (part key) (cond (test (get (retain_keys contents part) key)) (insert (retain_keys contents part) key value) (retain_keys contents part)) (retain_keys contents part)
tested test contents key value part = where_tested test (part key) (get contents key) (get (retain_keys contents part) key) contents (insert contents key value) (insert (retain_keys contents part) key value) (retain_keys contents part) (λ m. retain_keys m part) (get-part contents part key) refl (set_apart contents key value part)

-- a part changes by operations on its own keys alone
pub apart : ServesApart
apart (Get key) contents part = same_both (part key) _
apart (Put key value) contents part = set_apart contents key value part
apart (Del key) contents part = changes contents _ _ key None part (get-remove nat_list_cmp_total contents key) (get-remove nat_list_cmp_total (retain_keys contents part) key)
apart (Add key value) contents part = tested is_none contents key value part
apart (Cas key expect value) contents part = tested (was expect) contents key value part
