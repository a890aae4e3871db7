-- What an order is to the groups: what each is bound by, what work stands at its leader, and which mail of a transaction is under way for it.
use Rattle.std.specs.Prelude.{◌≡◌, ℕ, Bool, true, false, List, [], ◌∷◌, Option}
use Rattle.sc_base.specs.Definitions.{Each}
use Rattle.sc_node_table.specs.Values.{Draw}

-- Whom a coordinator asks: its participant first; or the watcher of its split, which has no participant;
-- or the watcher after the participant, with that participant and the node that sent its Yes.
pub data Turn : Type 0 where
  First : Turn
  Lone : Turn
  Next : (part : Draw) (host : ℕ) → Turn

-- Whether the coordinator asks a watcher.
abbrev pub is_watch : Turn → Bool
is_watch First = false
is_watch Lone = true
is_watch (Next part host) = true

-- What the newest state of a group is bound by: nothing; a transaction, as coordinator, for which it asks another group; or its own Yes in a transaction.
pub data Bond : Type 0 where
  Unbound : Bond
  Asking : (tx asked : Draw) (turn : Turn) → Bond
  Bound : (tx : Draw) → Bond

-- A mail of a transaction, with the nodes that sent it and get it: the coordinator's question; the reply that it has to ask at another node; a vote; or an outcome.
pub data Errand : Type 0 where
  Question : (tx coord : Draw) (watch : Bool) (by to : ℕ) → Errand
  Elsewhere : (tx : Draw) (to : ℕ) → Errand
  Reply : (tx : Draw) (watch agreed : Bool) (by to : ℕ) → Errand
  Result : (tx : Draw) (to : ℕ) → Errand

-- A command that waits, is in flight or is ready at a leader, and is no call and no filler: a join or leave; an order that may begin a transaction;
-- a vote of this group; a vote that the coordinator records; the end of waiting (`GiveUp`); or an outcome.
pub data Work : Type 0 where
  Changes : Work
  Opens : (tx : Draw) → Work
  Answers : (tx coord : Draw) (watch : Bool) (by : ℕ) → Work
  Records : (tx : Draw) (watch agreed : Bool) (by : ℕ) → Work
  GivesUp : (tx : Draw) → Work
  Ends : (tx : Draw) → Work

-- A group's part in an order: its bond, the work at its leader, and the errands under way for it.
pub record Here : Type 0 where
  pub bond : Bond
  pub work : List Work
  pub errands : List Errand

-- A group that has no part in any order.
abbrev pub free : Here
free = record { bond = Unbound; work = []; errands = [] }

-- The part of each group, and the node that leads it, if one does.
pub record Scene : Type 0 where
  pub at : Draw → Here
  pub lead : Draw → Option ℕ

-- This name is none of the names in the list.
abbrev pub IsNone : {X : Type 0} → Draw → List (Draw × X) → Type 0
IsNone name named = Each (λ entry. name ≡ entry.0 → ⊥) named

-- The names in the list have these values, and every other name has the value `other`.
abbrev pub IsOnly : {X : Type 0} → X → List (Draw × X) → (Draw → X) → Type 0
IsOnly other named value = Each (λ entry. value entry.0 ≡ entry.1) named × ((name : Draw) → IsNone name named → value name ≡ other)

-- No two names in the list are the same.
abbrev pub AreApart : {X : Type 0} → List (Draw × X) → Type 0
AreApart [] = Unit {0}
AreApart (entry ∷ named) = IsNone entry.0 named × AreApart named
