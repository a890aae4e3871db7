-- The ideal store is a register for each key.
use Rattle.std.proofs.Common.{◌≡◌, ℕ, Bool, true, false, cond, is_none, List, [], ◌∷◌, map, Some, None, refl, sym, ap, ◌∙◌, subst}
use Rattle.std.specs.Ordering.{nat_cmp, eq_by_cmp}
use Rattle.std.specs.Cmp.Lexicographic.{slice_cmp, nat_list_cmp_total, bytes_decides, texts_ties}
use Rattle.std.specs.FinMap.{get, insert, get-insert, get-remove}
use Rattle.sc_base.specs.declared.ops.Op.{Op}
use Rattle.sc_base.specs.declared.ops.Op.TheVariants.{Get, Put, Del, Add, Cas}
use Rattle.sc_base.specs.declared.ops.Reply.{Reply}
use Rattle.sc_base.specs.Definitions.{Each, key_of}
use Rattle.sc_words.specs.ideal.IdealDefinitions.{Contents, after, was, HasStoreReplies}
use Rattle.sc_linear_law.specs.declared.requests.Step.{Step}
use Rattle.sc_linear_law.specs.LinearDefinitions.{value_after, entry_of}
use Rattle.sc_linear_law.specs.Registers.{HasRegisterReplies}

same_key : (k : List ℕ) → eq_by_cmp (slice_cmp nat_cmp) k k ≡ true
same_key k = sym (texts_ties k k) ∙ (bytes_decides k k).1 refl

other_key : (q k : List ℕ) → (q ≡ k → ⊥) → eq_by_cmp (slice_cmp nat_cmp) q k ≡ false
other_key q k apart = go (eq_by_cmp (slice_cmp nat_cmp) q k) refl
  where
    go : (b : Bool) → eq_by_cmp (slice_cmp nat_cmp) q k ≡ b → eq_by_cmp (slice_cmp nat_cmp) q k ≡ false
    go true e = absurd (apart ((bytes_decides q k).0 (texts_ties q k ∙ e)))
    go false e = e

put_here : (c : Contents) (k v : List ℕ) → get (insert c k v) k ≡ Some v
put_here c k v = get-insert nat_list_cmp_total c k v k ∙ ap (λ b. cond b (Some v) (get c k)) (same_key k)

put_other : (c : Contents) (k v q : List ℕ) → (q ≡ k → ⊥) → get (insert c k v) q ≡ get c q
put_other c k v q apart = get-insert nat_list_cmp_total c k v q ∙ ap (λ b. cond b (Some v) (get c q)) (other_key q k apart)

choice_here : (b : Bool) (c : Contents) (k v : List ℕ) → get (cond b (insert c k v) c) k ≡ cond b (Some v) (get c k)
choice_here true c k v = put_here c k v
choice_here false c k v = refl

choice_other : (b : Bool) (c : Contents) (k v q : List ℕ) → (q ≡ k → ⊥) → get (cond b (insert c k v) c) q ≡ get c q
choice_other true c k v q apart = put_other c k v q apart
choice_other false c k v q apart = refl

-- an operation changes the value of its key so
pub after_here : (op : Op) (c : Contents) → get (after op c) (key_of op) ≡ value_after op (get c (key_of op))
after_here (Get k) c = refl
after_here (Put k v) c = put_here c k v
after_here (Del k) c = get-remove nat_list_cmp_total c k k ∙ ap (λ b. cond b None (get c k)) (same_key k)
after_here (Add k v) c = choice_here (is_none (get c k)) c k v
after_here (Cas k e v) c = choice_here (was e (get c k)) c k v

-- and no other
pub after_other : (op : Op) (c : Contents) (q : List ℕ) → (q ≡ key_of op → ⊥) → get (after op c) q ≡ get c q
after_other (Get k) c q apart = refl
after_other (Put k v) c q apart = put_other c k v q apart
after_other (Del k) c q apart = get-remove nat_list_cmp_total c k q ∙ ap (λ b. cond b None (get c q)) (other_key q k apart)
after_other (Add k v) c q apart = choice_other (is_none (get c k)) c k v q apart
after_other (Cas k e v) c q apart = choice_other (was e (get c k)) c k v q apart

-- of steps on one key, what the store replies is what a register replies
pub register_from_store : (key : List ℕ) (steps : List Step) (c : Contents) → Each (λ (s : Step). key_of s.request.op ≡ key) steps → HasStoreReplies c (map entry_of steps) → HasRegisterReplies (get c key) steps
register_from_store key [] c on h = tt
register_from_store key (s ∷ ss) c on h = (ap (λ (r : Reply). r.old) h.0 ∙ ap (get c) on.0, subst (λ v. HasRegisterReplies v ss) (subst (λ k. get (after s.request.op c) k ≡ value_after s.request.op (get c k)) on.0 (after_here s.request.op c)) (register_from_store key ss (after s.request.op c) on.1 h.1))

pub store_from_register : (key : List ℕ) (steps : List Step) (c : Contents) → Each (λ (s : Step). key_of s.request.op ≡ key) steps → HasRegisterReplies (get c key) steps → HasStoreReplies c (map entry_of steps)
store_from_register key [] c on h = tt
store_from_register key (s ∷ ss) c on h = (ap (λ v. let r : Reply = record { old = v } in r) (h.0 ∙ ap (get c) (sym on.0)), store_from_register key ss (after s.request.op c) on.1 (subst (λ v. HasRegisterReplies v ss) (sym (subst (λ k. get (after s.request.op c) k ≡ value_after s.request.op (get c k)) on.0 (after_here s.request.op c))) h.1))
