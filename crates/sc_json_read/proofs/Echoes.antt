-- What is in an object never has the object's name for its own.
use Rattle.std.proofs.Common.{◌≡◌, ℕ, List, codes, refl}
use Rattle.serde_json.specs.Data.{string}
use Rattle.sc_words.specs.declared.commands.votes.No.{No}
use Rattle.sc_words.specs.declared.commands.votes.No.TheVariants.{Busy, Gone, Apart, TooMany}
use Rattle.sc_words.specs.declared.commands.orders.OrderRefusal.{OrderRefusal}
use Rattle.sc_words.specs.declared.commands.orders.OrderRefusal.TheVariants.{NotLeader, InTransaction, NoNeighbour, BadBoundary, TooManyMembers, NotMember, LastMember, TxLimit, IsMember}
use Rattle.sc_json_text.specs.rows.Votes.{no_json}
use Rattle.sc_json_text.specs.rows.Orders.{order_refusal_json}
use Rattle.sc_json_text.specs.rows.Shapes.{variant}
use Rattle.sc_json_text.proofs.RowsProofs.Apart.{apart}

-- no reason of a No is called No
pub no_in_no : (inner : No) (called : List ℕ) → variant called (string called) ≡ variant (codes "No") (no_json inner) → ⊥
unfolding no_json
no_in_no (Busy tx) called same = cc
no_in_no Gone called same = apart (codes "No") (codes "Gone") (cc) refl
no_in_no Apart called same = apart (codes "No") (codes "Apart") (cc) refl
no_in_no (TooMany n) called same = cc

-- no reason of a refusal is called Refused
pub no_refused_in_refused : (inner : OrderRefusal) (called : List ℕ) → variant called (string called) ≡ variant (codes "Refused") (order_refusal_json inner) → ⊥
unfolding order_refusal_json
no_refused_in_refused (NotLeader hint) called same = cc
no_refused_in_refused (InTransaction tx) called same = cc
no_refused_in_refused NoNeighbour called same = apart (codes "Refused") (codes "NoNeighbour") (cc) refl
no_refused_in_refused BadBoundary called same = apart (codes "Refused") (codes "BadBoundary") (cc) refl
no_refused_in_refused (TooManyMembers n) called same = cc
no_refused_in_refused NotMember called same = apart (codes "Refused") (codes "NotMember") (cc) refl
no_refused_in_refused LastMember called same = apart (codes "Refused") (codes "LastMember") (cc) refl
no_refused_in_refused TxLimit called same = apart (codes "Refused") (codes "TxLimit") (cc) refl
no_refused_in_refused IsMember called same = apart (codes "Refused") (codes "IsMember") (cc) refl
