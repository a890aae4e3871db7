-- The numbers and printed names of the refusals of orders.
use Rattle.std.specs.Prelude.{ℕ, List, codes}
use Rattle.sc_words.specs.declared.commands.orders.OrderRefusal.{OrderRefusal}
use Rattle.sc_words.specs.declared.commands.orders.OrderRefusal.TheVariants.{NotLeader, InTransaction, NoNeighbour, BadBoundary, TooManyMembers, NotMember, LastMember, TxLimit, IsMember}

-- the number of a refusal, in the order in which refusals are tested
abbrev pub code_of : OrderRefusal → ℕ
code_of (NotLeader hint) = 1
code_of (InTransaction tx) = 2
code_of NoNeighbour = 3
code_of BadBoundary = 4
code_of (TooManyMembers n) = 5
code_of NotMember = 6
code_of LastMember = 7
code_of TxLimit = 8
code_of IsMember = 9

-- the printed name of a refusal
abbrev pub refusal_name : OrderRefusal → List ℕ
refusal_name (NotLeader hint) = codes "not-leader"
refusal_name (InTransaction tx) = codes "in-transaction"
refusal_name NoNeighbour = codes "no-neighbour"
refusal_name BadBoundary = codes "bad-boundary"
refusal_name (TooManyMembers n) = codes "too-many-members"
refusal_name NotMember = codes "not-member"
refusal_name LastMember = codes "last-member"
refusal_name TxLimit = codes "tx-limit"
refusal_name IsMember = codes "is-member"
