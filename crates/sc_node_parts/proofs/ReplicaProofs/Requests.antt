-- The queues' heads.
use Rattle.std.proofs.Common.{◌≡◌, List, [], ◌∷◌, ◌++◌, drop, length, suc, Option, Some, None, sym, ◌∙◌, ap, refl, arith}
use Rattle.std.specs.Option.{option_to_list}
use Rattle.sc_node_table.specs.NodeDefinitions.{rest_of}
use Rattle.sc_node_parts.specs.replica.ReplicaDefinitions.{head_of}

-- what is taken out of a queue is its head
pub popped_head : {X : Type 0} (xs ys : List X) (o : Option X) → xs ≡ option_to_list o ++ ys → ys ≡ drop 1 xs → o ≡ head_of xs
popped_head [] ys None e r = refl
popped_head (x ∷ xs) ys None e r = let longer : suc (length xs) ≡ length xs = ap length (e ∙ r) in absurd (omega (arith, longer))
popped_head xs ys (Some y) e r = sym (ap head_of e)

-- what stays in the queue is what was behind the head
pub popped_rest : {X : Type 0} (xs : List X) → drop 1 xs ≡ rest_of xs
popped_rest [] = refl
popped_rest (x ∷ xs) = refl
