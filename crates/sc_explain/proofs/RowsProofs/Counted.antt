-- How many pairs a group has after an operation.
use Rattle.std.proofs.Common.{◌≡◌, ℕ, ◌+◌, ◌-◌, cond, Bool, true, false, List, length, Option, Some, None, refl, sym, ◌∙◌, ap}
use Rattle.std.specs.Prelude.{if◌then◌else◌, is_some, is_none}
use Rattle.std.specs.Cmp.Lexicographic.{nat_list_cmp_total}
use Rattle.std.specs.FinMap.{entries, get, insert, remove, len, len-entries, len-insert, len-remove}
use Rattle.sc_base.specs.declared.ops.Op.{Op}
use Rattle.sc_base.specs.declared.ops.Op.TheVariants.{Get, Put, Del, Add, Cas}
use Rattle.sc_words.specs.ideal.IdealStore.{Contents, after, reply_of, was}
use Rattle.sc_explain.specs.rows.Counts.{count_after, one_less, one_more}

more_is : (o : Option (List ℕ)) (n : ℕ) → cond (is_some o) n (n + 1) ≡ one_more o n
more_is None n = refl
more_is (Some old) n = refl

less_is : (o : Option (List ℕ)) (n : ℕ) → cond (is_some o) (n - 1) n ≡ one_less o n
less_is None n = refl
less_is (Some old) n = refl

inserted : (m : Contents) (key value : List ℕ) → length (entries (insert m key value)) ≡ one_more (get m key) (length (entries m))
inserted m key value =
    sym (len-entries (insert m key value)) ∙ len-insert nat_list_cmp_total m key value ∙ more_is (get m key) (len m) ∙ ap (one_more (get m key)) (len-entries m)

removed : (m : Contents) (key : List ℕ) → length (entries (remove m key)) ≡ one_less (get m key) (length (entries m))
removed m key =
    sym (len-entries (remove m key)) ∙ len-remove nat_list_cmp_total m key ∙ less_is (get m key) (len m) ∙ ap (one_less (get m key)) (len-entries m)

added : (o : Option (List ℕ)) (m : Contents) (key value : List ℕ) → get m key ≡ o → length (entries (if is_none o then insert m key value else m)) ≡ one_more o (length (entries m))
added None m key value is = inserted m key value ∙ ap (λ o. one_more o (length (entries m))) is
added (Some old) m key value is = refl

swapped : (o : Option (List ℕ)) (m : Contents) (key expect value : List ℕ) → get m key ≡ o → length (entries (if was expect o then insert m key value else m)) ≡ length (entries m)
swapped None m key expect value is = refl
swapped (Some old) m key expect value is = by (was expect (Some old))
  where
    by : (b : Bool) → length (entries (if b then insert m key value else m)) ≡ length (entries m)
    by true = inserted m key value ∙ ap (λ o. one_more o (length (entries m))) is
    by false = refl

-- by the old value of its key
pub count_is : (op : Op) (m : Contents) → length (entries (after op m)) ≡ count_after op (reply_of op m).old (length (entries m))
count_is (Get key) m = refl
count_is (Put key value) m = inserted m key value
count_is (Del key) m = removed m key
count_is (Add key value) m = added (get m key) m key value refl
count_is (Cas key expect value) m = swapped (get m key) m key expect value refl
