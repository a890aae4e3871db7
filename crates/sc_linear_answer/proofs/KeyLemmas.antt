-- Keys that are counted by a set.
use Rattle.std.proofs.Common.{◌≡◌, ℕ, ◌+◌, Bool, true, false, cond, ◌||◌, not, List, [], ◌∷◌, ◌++◌, length, if◌then◌else◌, refl, sym, ap, ◌∙◌, subst, inl, inr, true≢false, nat_eq, arith}
use Rattle.std.specs.Cmp.Lexicographic.{pointwise, bytes_decides}
use Rattle.std.specs.Borrow.{Bor}
use Rattle.std.specs.HashSet.{HashSet, contains, hash_set_len}
use Rattle.std.proofs.lemmas.Bool.{cases_Bool, cond-true, cond-false}
use Rattle.std.proofs.lemmas.List.{length_push}
use Rattle.std.proofs.lemmas.List.Folds.{list_any-append}
use Rattle.sc_linear_answer.specs.Keys.{HasKeys, is_key_in}

-- these keys and one more, each once
abbrev pub joined : List (List ℕ) → List ℕ → List (List ℕ)
joined keys key = if is_key_in key keys then keys else keys ++ key ∷ []

pushed : (q k : List ℕ) (keys : List (List ℕ)) → is_key_in q (keys ++ k ∷ []) ≡ (is_key_in q keys || (pointwise nat_eq q k || false))
pushed q k keys = list_any-append (λ other. pointwise nat_eq q other) keys (k ∷ [])

or_true : (a b : Bool) → b ≡ true → (a || (b || false)) ≡ true
or_true true b is = refl
or_true false true is = refl
or_true false false is = is

or_false : (a b : Bool) → b ≡ false → (a || (b || false)) ≡ a
or_false true b is = refl
or_false false true is = is
or_false false false is = refl

-- one of them is the key that was joined
joined_by : (b : Bool) (k : List ℕ) (keys : List (List ℕ)) → is_key_in k keys ≡ b → is_key_in k (if b then keys else keys ++ k ∷ []) ≡ true
joined_by true k keys is = is
joined_by false k keys is = pushed k k keys ∙ or_true (is_key_in k keys) (pointwise nat_eq k k) ((bytes_decides k k).1 refl)

-- of another key the join says nothing new
other_by : (b : Bool) (q k : List ℕ) (keys : List (List ℕ)) → pointwise nat_eq q k ≡ false → is_key_in q keys ≡ is_key_in q (if b then keys else keys ++ k ∷ [])
other_by true q k keys apart = refl
other_by false q k keys apart = sym (pushed q k keys ∙ or_false (is_key_in q keys) (pointwise nat_eq q k) apart)

turned : (k q : List ℕ) → pointwise nat_eq k q ≡ false → pointwise nat_eq q k ≡ false
turned k q apart = elim (cases_Bool (pointwise nat_eq q k)) [
  | inl same ↦ absurd (true≢false (sym ((bytes_decides k q).1 (sym ((bytes_decides q k).0 same))) ∙ apart))
  | inr differ ↦ differ
]

-- which keys there are, once one more is put in
pub is_in_joined : (k q : List ℕ) (keys : List (List ℕ)) → cond (pointwise nat_eq k q) true (is_key_in q keys) ≡ is_key_in q (joined keys k)
is_in_joined k q keys = elim (cases_Bool (pointwise nat_eq k q)) [
  | inl same ↦
      cond-true (pointwise nat_eq k q) true (is_key_in q keys) same
      ∙ sym (subst (λ x. is_key_in x (joined keys k) ≡ true) ((bytes_decides k q).0 same) (joined_by (is_key_in k keys) k keys refl))
  | inr differ ↦
      cond-false (pointwise nat_eq k q) true (is_key_in q keys) differ
      ∙ other_by (is_key_in k keys) q k keys (turned k q differ)
]

counted_by : (b : Bool) (k : List ℕ) (keys : List (List ℕ)) → length keys + (if not b then 1 else 0) ≡ length (if b then keys else keys ++ k ∷ [])
counted_by true k keys = grind arith
counted_by false k keys = grind (arith, length_push keys k)

-- how many there are then
pub counted_joined : (k : List ℕ) (keys : List (List ℕ)) (added : Bool) → added ≡ not (is_key_in k keys) → length keys + (if added then 1 else 0) ≡ length (joined keys k)
counted_joined k keys added is = ap (λ (b : Bool). length keys + (if b then 1 else 0)) is ∙ counted_by (is_key_in k keys) k keys

-- a set into which a key was put has that key too
pub noted : {S : Type 0} (old new : HashSet (Bor (List ℕ)) S) (key : Bor (List ℕ)) (added : Bool) (before : List (List ℕ)) → HasKeys old before
    → ((q : Bor (List ℕ)) → contains (λ (a b : Bor (List ℕ)). pointwise nat_eq a.now b.now) new q ≡ cond (pointwise nat_eq key.now q.now) true (contains (λ (a b : Bor (List ℕ)). pointwise nat_eq a.now b.now) old q))
    → added ≡ not (contains (λ (a b : Bor (List ℕ)). pointwise nat_eq a.now b.now) old key)
    → hash_set_len new ≡ hash_set_len old + (if added then 1 else 0)
    → HasKeys new (joined before key.now)
noted old new key added before has updates is_added counted = (
  λ q. updates q ∙ ap (cond (pointwise nat_eq key.now q.now) true) (has.0 q) ∙ is_in_joined key.now q.now before,
  counted ∙ ap (λ n. n + (if added then 1 else 0)) has.1 ∙ counted_joined key.now before added (is_added ∙ ap not (has.0 key)),
)
