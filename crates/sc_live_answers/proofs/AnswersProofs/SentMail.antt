-- Mail that is under way was sent.
use Rattle.std.proofs.Common.{◌≡◌, ℕ, zero, suc, Bool, true, false, cond, List, [], ◌∷◌, replicate, inl, inr}
use Rattle.sc_base.specs.Definitions.{Among}
use Rattle.sc_node_table.specs.Values.{Mail}
use Rattle.sc_live_orderly.specs.OrderlyDefinitions.{mail_with}
use Rattle.sc_paxos_law.proofs.Lemmas.{Among-either}

-- what passes was there
pub among_passed : {X : Type 0} (x : X) (xs : List X) (b : Bool) → Among x (cond b xs []) → Among x xs
among_passed x xs true a = a
among_passed x xs false a = absurd a

-- mail that is under way was sent
pub sent_with : (test : Mail → Bool) (sent : List Mail) (counts : List ℕ) (mail : Mail) → Among mail (mail_with test sent counts) → Among mail sent
sent_with test [] counts mail a = absurd a
sent_with test (m ∷ sent) [] mail a = absurd a
sent_with test (m ∷ sent) (c ∷ counts) mail a = elim (Among-either mail (cond (test m) (replicate c m) []) (mail_with test sent counts) a) [
  | inl here ↦ inl (one c (among_passed mail (replicate c m) (test m) here))
  | inr more ↦ inr (sent_with test sent counts mail more)
]
  where
    one : (n : ℕ) → Among mail (replicate n m) → m ≡ mail
    one zero x = absurd x
    one (suc n) (inl e) = e
    one (suc n) (inr x) = one n x
