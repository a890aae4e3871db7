-- The entries of pending mail, as counts change and mail is sent.
use Rattle.std.proofs.Common.{◌≡◌, ◌≢◌, ℕ, zero, suc, ◌+◌, ◌<◌, ◌≤◌, nat_eq, nat_lt, List, [], ◌∷◌, ◌++◌, length, filter, insert, Bool, true, false, cond, ◌&&◌, replicate, get_or, set, refl, sym, ap, ◌∙◌, arith, append_assoc, ne_eqb, eq-eqb, map, Result, Ok, Err, OnOk}
use Rattle.std.proofs.lemmas.List.{append-nil}
use Rattle.std.proofs.lemmas.Bool.{lt-ltb, le-ltb}
use Rattle.std.specs.Map.{remove_entry}
use Rattle.indexmap.specs.IndexMap.{insert_entry}
use Rattle.sc_actor.specs.Definitions.{numbers}
use Rattle.sc_thread_ledger.specs.LedgerDefinitions.{open_entries, copies_in, lower, recounted}

pub and_false : (b : Bool) → (b && false) ≡ false
and_false true = refl
and_false false = refl

abbrev head : Bool → ℕ → ℕ → List (ℕ × ℕ)
head b n c = cond b ((n, c) ∷ []) []

remove_skip : (key n c : ℕ) (b : Bool) (rest : List (ℕ × ℕ)) → nat_eq key n ≡ false → remove_entry (nat_eq key) (head b n c ++ rest) ≡ head b n c ++ remove_entry (nat_eq key) rest
remove_skip key n c true rest e = rw e refl
remove_skip key n c false rest e = refl

insert_skip : (key n c v : ℕ) (b : Bool) (rest : List (ℕ × ℕ)) → nat_eq key n ≡ false → insert_entry nat_eq (head b n c ++ rest) key v ≡ head b n c ++ insert_entry nat_eq rest key v
insert_skip key n c v true rest e = rw e refl
insert_skip key n c v false rest e = refl

insert_next : {X : Type 0} (xs : List X) (x y : X) (j : ℕ) → insert (x ∷ xs) (suc j) y ≡ x ∷ insert xs j y
insert_next xs x y j = refl

insert_first : {X : Type 0} (xs : List X) (y : X) → insert xs 0 y ≡ y ∷ xs
insert_first [] y = refl
insert_first (x ∷ xs) y = refl

put_skip : (key n c v : ℕ) (b : Bool) (rest : List (ℕ × ℕ)) → n < key → insert (head b n c ++ rest) (lower (head b n c ++ rest) key) (key, v) ≡ head b n c ++ insert rest (lower rest key) (key, v)
put_skip key n c v true rest lt = rw (lt-ltb n key lt) (insert_next rest (n, c) (key, v) (lower rest key))
put_skip key n c v false rest lt = refl

module _ (test : ℕ → Bool) where
  remove_below : (key n : ℕ) (rs cs : List ℕ) → key < n → remove_entry (nat_eq key) (open_entries test n rs cs) ≡ open_entries test n rs cs
  remove_below key n [] cs lt = refl
  remove_below key n (r ∷ rs) [] lt = refl
  remove_below key n (r ∷ rs) (c ∷ cs) lt =
      remove_skip key n c (test r && nat_lt 0 c) (open_entries test (suc n) rs cs) (ne_eqb key n (omega arith)) ∙ ap (λ l. head (test r && nat_lt 0 c) n c ++ l) (remove_below key (suc n) rs cs (omega arith))

  lower_none : (key n : ℕ) (rs cs : List ℕ) → key ≤ n → lower (open_entries test n rs cs) key ≡ 0
  lower_none key n [] cs le = refl
  lower_none key n (r ∷ rs) [] le = refl
  lower_none key n (r ∷ rs) (c ∷ cs) le = by (test r && nat_lt 0 c) (lower_none key (suc n) rs cs (omega arith))
    where
      by : (b : Bool) → lower (open_entries test (suc n) rs cs) key ≡ 0 → lower (head b n c ++ open_entries test (suc n) rs cs) key ≡ 0
      by true rest = rw (le-ltb n key le) rest
      by false rest = rest

  remove_at : (key p n : ℕ) (rs cs : List ℕ) → key ≡ n + p → remove_entry (nat_eq key) (open_entries test n rs cs) ≡ open_entries test n rs (set cs p 0)
  remove_at key p n [] cs is = refl
  remove_at key p n (r ∷ rs) [] is = refl
  remove_at key zero n (r ∷ rs) (c ∷ cs) is = by (test r && nat_lt 0 c) ∙ ap (λ b. head b n 0 ++ open_entries test (suc n) rs cs) (sym (and_false (test r)))
    where
      by : (b : Bool) → remove_entry (nat_eq key) (head b n c ++ open_entries test (suc n) rs cs) ≡ open_entries test (suc n) rs cs
      by true = rw (eq-eqb key n (omega arith)) refl
      by false = remove_below key (suc n) rs cs (omega arith)
  remove_at key (suc p) n (r ∷ rs) (c ∷ cs) is =
      remove_skip key n c (test r && nat_lt 0 c) (open_entries test (suc n) rs cs) (ne_eqb key n (omega arith)) ∙ ap (λ l. head (test r && nat_lt 0 c) n c ++ l) (remove_at key p (suc n) rs cs (omega arith))

  put_at : (key p n count : ℕ) (rs cs : List ℕ) → key ≡ n + p → p < length rs → length cs ≡ length rs → test (get_or rs p 0) ≡ true → 0 < count → get_or cs p 0 ≡ 0 →
      insert (open_entries test n rs cs) (lower (open_entries test n rs cs) key) (key, count) ≡ open_entries test n rs (set cs p count)
  put_at key p n count [] cs is lt same ok some none = absurd (omega arith)
  put_at key p n count (r ∷ rs) [] is lt same ok some none = absurd (omega arith)
  put_at key zero n count (r ∷ rs) (c ∷ cs) is lt same ok some none =
      let rest = open_entries test (suc n) rs cs in
      let gone : head (test r && nat_lt 0 c) n c ++ rest ≡ rest = ap (λ b. head (test r && b) n c ++ rest) (le-ltb 0 c (omega (arith, none))) ∙ ap (λ b. head b n c ++ rest) (and_false (test r)) in
      let here : key ≡ n = omega (arith, is) in
      ap (λ l. insert l (lower l key) (key, count)) gone
      ∙ (ap (λ j. insert rest j (key, count)) (lower_none key (suc n) rs cs (omega arith))
      ∙ (insert_first rest (key, count)
      ∙ ((λ i. (here i, count) ∷ rest) ∙ ap (λ b. head b n count ++ rest) (sym ((λ i. ok i && lt-ltb 0 count some i))))))
  put_at key (suc p) n count (r ∷ rs) (c ∷ cs) is lt same ok some none =
      put_skip key n c count (test r && nat_lt 0 c) (open_entries test (suc n) rs cs) (omega arith)
      ∙ ap (λ l. head (test r && nat_lt 0 c) n c ++ l) (put_at key p (suc n) count rs cs (omega arith) (omega arith) (omega (arith, same)) ok some none)

  replace_at : (key p n count : ℕ) (rs cs : List ℕ) → key ≡ n + p → p < length rs → length cs ≡ length rs → test (get_or rs p 0) ≡ true → 0 < count → 0 < get_or cs p 0 →
      insert_entry nat_eq (open_entries test n rs cs) key count ≡ open_entries test n rs (set cs p count)
  replace_at key p n count [] cs is lt same ok some had = absurd (omega arith)
  replace_at key p n count (r ∷ rs) [] is lt same ok some had = absurd (omega arith)
  replace_at key zero n count (r ∷ rs) (c ∷ cs) is lt same ok some had =
      let rest = open_entries test (suc n) rs cs in
      ap (λ b. insert_entry nat_eq (head b n c ++ rest) key count) (λ i. ok i && lt-ltb 0 c had i)
      ∙ (rw (eq-eqb key n (omega arith)) refl
      ∙ ap (λ b. head b n count ++ rest) (sym ((λ i. ok i && lt-ltb 0 count some i))))
  replace_at key (suc p) n count (r ∷ rs) (c ∷ cs) is lt same ok some had =
      insert_skip key n c count (test r && nat_lt 0 c) (open_entries test (suc n) rs cs) (ne_eqb key n (omega arith))
      ∙ ap (λ l. head (test r && nat_lt 0 c) n c ++ l) (replace_at key p (suc n) count rs cs (omega arith) (omega arith) (omega (arith, same)) ok some had)

-- no more entries are lower than there are
pub lower_most : (es : List (ℕ × ℕ)) (key : ℕ) → lower es key ≤ length es
lower_most [] key = omega arith
lower_most (e ∷ es) key = elim (nat_lt e.0 key) as (λ b. length (cond b (e ∷ filter (λ x. nat_lt x.0 key) es) (filter (λ x. nat_lt x.0 key) es)) ≤ length (e ∷ es)) [ true ↦ omega (arith, lower_most es key) | false ↦ omega (arith, lower_most es key) ]

module _ (test : ℕ → Bool) where
  some_left : (key p count : ℕ) (back : Bool) (rs cs : List ℕ) → recounted (open_entries test 1 rs cs) key back (suc count) ≡ cond back (insert (open_entries test 1 rs cs) (lower (open_entries test 1 rs cs) key) (key, suc count)) (insert_entry nat_eq (open_entries test 1 rs cs) key (suc count))
  some_left key p count back rs cs =
      let es = open_entries test 1 rs cs in
      ap (λ b. cond b (remove_entry (nat_eq key) es) (cond back (insert es (lower es key) (key, suc count)) (insert_entry nat_eq es key (suc count)))) (ne_eqb (suc count) 0 (omega arith))

  -- the entries once the count at a place is another
  pub recounted_at : (key p count : ℕ) (back : Bool) (rs cs : List ℕ) → key ≡ 1 + p → p < length rs → length cs ≡ length rs → test (get_or rs p 0) ≡ true → (back ≡ true → get_or cs p 0 ≡ 0) → (back ≡ false → count ≢ 0 → 0 < get_or cs p 0) →
      recounted (open_entries test 1 rs cs) key back count ≡ open_entries test 1 rs (set cs p count)
  recounted_at key p zero back rs cs is lt same ok none had = remove_at test key p 1 rs cs is
  recounted_at key p (suc count) true rs cs is lt same ok none had = some_left key p count true rs cs ∙ put_at test key p 1 (suc count) rs cs is lt same ok (omega arith) (none refl)
  recounted_at key p (suc count) false rs cs is lt same ok none had = some_left key p count false rs cs ∙ replace_at test key p 1 (suc count) rs cs is lt same ok (omega arith) (had refl (omega arith))

  -- a place that does not count
  pub set_other : (p n count : ℕ) (rs cs : List ℕ) → test (get_or rs p 0) ≡ false → open_entries test n rs (set cs p count) ≡ open_entries test n rs cs
  set_other p n count [] cs fails = refl
  set_other p n count (r ∷ rs) [] fails = refl
  set_other zero n count (r ∷ rs) (c ∷ cs) fails = rw fails refl
  set_other (suc p) n count (r ∷ rs) (c ∷ cs) fails = ap (λ l. head (test r && nat_lt 0 c) n c ++ l) (set_other p (suc n) count rs cs fails)

  push_at : (key n count r : ℕ) (rs cs : List ℕ) → key ≡ n + length rs → length cs ≡ length rs → test r ≡ true → 0 < count →
      open_entries test n rs cs ++ (key, count) ∷ [] ≡ open_entries test n (rs ++ r ∷ []) (cs ++ count ∷ [])
  push_at key n count r [] [] is same ok some =
      let here : key ≡ n = omega (arith, is) in
      (λ i. (here i, count) ∷ []) ∙ ap (λ b. head b n count ++ []) (sym ((λ i. ok i && lt-ltb 0 count some i)))
  push_at key n count r [] (c ∷ cs) is same ok some = absurd (omega arith)
  push_at key n count r (x ∷ rs) [] is same ok some = absurd (omega arith)
  push_at key n count r (x ∷ rs) (c ∷ cs) is same ok some =
      append_assoc (head (test x && nat_lt 0 c) n c) (open_entries test (suc n) rs cs) ((key, count) ∷ [])
      ∙ ap (λ l. head (test x && nat_lt 0 c) n c ++ l) (push_at key (suc n) count r rs cs (omega (arith, is)) (omega (arith, same)) ok some)

  -- one more mail, which counts
  pub push_here : (key count r : ℕ) (rs cs : List ℕ) → key ≡ 1 + length rs → length cs ≡ length rs → test r ≡ true → 0 < count →
      open_entries test 1 rs cs ++ (key, count) ∷ [] ≡ open_entries test 1 (rs ++ r ∷ []) (cs ++ count ∷ [])
  push_here key count r rs cs is same ok some = push_at key 1 count r rs cs is same ok some

  -- one more mail, which does not
  pub push_other : (n count r : ℕ) (rs cs : List ℕ) → length cs ≡ length rs → (test r && nat_lt 0 count) ≡ false → open_entries test n (rs ++ r ∷ []) (cs ++ count ∷ []) ≡ open_entries test n rs cs
  push_other n count r [] [] same fails = ap (λ b. head b n count ++ []) fails
  push_other n count r [] (c ∷ cs) same fails = absurd (omega arith)
  push_other n count r (x ∷ rs) [] same fails = absurd (omega arith)
  push_other n count r (x ∷ rs) (c ∷ cs) same fails = ap (λ l. head (test x && nat_lt 0 c) n c ++ l) (push_other (suc n) count r rs cs (omega (arith, same)) fails)

  expand_if : (b : Bool) (c n : ℕ) → copies_in (head (b && nat_lt 0 c) n c) ≡ cond b (replicate c n) []
  expand_if true zero n = refl
  expand_if true (suc c) n = ap (λ b. copies_in (head b n (suc c))) (lt-ltb 0 (suc c) (omega arith)) ∙ append-nil (replicate (suc c) n)
  expand_if false c n = refl

  copies_append : (xs ys : List (ℕ × ℕ)) → copies_in (xs ++ ys) ≡ copies_in xs ++ copies_in ys
  copies_append [] ys = refl
  copies_append (x ∷ xs) ys = ap (λ l. replicate x.1 x.0 ++ l) (copies_append xs ys) ∙ sym (append_assoc (replicate x.1 x.0) (copies_in xs) (copies_in ys))

  -- the entries are the pending numbers
  pub expand : (n : ℕ) (rs cs : List ℕ) → copies_in (open_entries test n rs cs) ≡ numbers test n rs cs
  expand n [] cs = refl
  expand n (r ∷ rs) [] = refl
  expand n (r ∷ rs) (c ∷ cs) =
      copies_append (head (test r && nat_lt 0 c) n c) (open_entries test (suc n) rs cs)
      ∙ (λ i. expand_if (test r) c n i ++ expand (suc n) rs cs i)

  -- where no receiver passes, nothing is pending
  pub open_none : ((r : ℕ) → test r ≡ false) → (n : ℕ) (rs cs : List ℕ) → open_entries test n rs cs ≡ []
  open_none fails n [] cs = refl
  open_none fails n (r ∷ rs) [] = refl
  open_none fails n (r ∷ rs) (c ∷ cs) = rw (fails r) (open_none fails (suc n) rs cs)

-- two tests that agree find the same
pub open_same : (test other : ℕ → Bool) → ((r : ℕ) → test r ≡ other r) → (n : ℕ) (rs cs : List ℕ) → open_entries test n rs cs ≡ open_entries other n rs cs
open_same test other same n [] cs = refl
open_same test other same n (r ∷ rs) [] = refl
open_same test other same n (r ∷ rs) (c ∷ cs) = λ i. head (same r i && nat_lt 0 c) n c ++ open_same test other same (suc n) rs cs i

-- a list of which one element is changed, seen through a function
module _ {A E : Type 0} (f : A → E) where
  -- a map over a list of which one item was set
  pub map_set : (xs : List A) (i : ℕ) (x : A) → map f (set xs i x) ≡ set (map f xs) i (f x)
  map_set [] i x = refl
  map_set (y ∷ xs) zero x = refl
  map_set (y ∷ xs) (suc i) x = ap (λ l. f y ∷ l) (map_set xs i x)

  map_get : (xs : List A) (i : ℕ) (x : A) (d : E) → i < length xs → x ≡ get_or xs i x → f x ≡ get_or (map f xs) i d
  map_get [] i x d lt is = absurd (omega arith)
  map_get (y ∷ xs) zero x d lt is = ap f is
  map_get (y ∷ xs) (suc i) x d lt is = map_get xs i x d (omega arith) is

  -- an item changed in its place, as a list of what its items show
  pub changed_one : {R : Type 0} (r : Result (Unit {0}) R) (g : E → E) (xs : List A) (i : ℕ) (item new : A) (d : E) → i < length xs → item ≡ get_or xs i item → OnOk r (f new ≡ g (f item)) → OnOk r (map f (set xs i new) ≡ set (map f xs) i (g (get_or (map f xs) i d)))
  changed_one (Err e) g xs i item new d lt is p = tt
  changed_one (Ok u) g xs i item new d lt is p = map_set xs i new ∙ ap (set (map f xs) i) (p ∙ ap g (map_get xs i item d lt is))
