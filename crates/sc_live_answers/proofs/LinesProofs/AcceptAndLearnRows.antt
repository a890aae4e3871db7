-- Learn at a replica of a group that stands, which is called: what it keeps of what it was.
use Rattle.std.proofs.Common.{◌≡◌, ℕ, ◌≤◌, [], sym, subst}
use Rattle.sc_node_table.specs.Values.{Op, Call}
use Rattle.sc_node_table.specs.NodeDefinitions.{ReplicaState, Place, next, last_slot, learn_row}
use Rattle.sc_live_plain.specs.PlainDefinitions.{Frame, IsFrame, Requests, IsPlainCall, IsPlainFollower, IsPlainReplica}
use Rattle.sc_live_plain.proofs.PlainRowsProofs.PlainAcceptAndLearnRows.{learnt_state}
use Rattle.sc_live_plain.proofs.PlainLemmas.{learn_is}
use Rattle.sc_live_answers.proofs.LinesProofs.CallEffects.{Leaves, leaves_itself, leaves_entry}

pub learn_leaves : (begun : Requests) (frame : Frame) (fact : IsFrame frame) (me : ℕ) (r : ReplicaState) (p : IsPlainReplica begun frame me r) (f : IsPlainFollower r) (client seq : ℕ) (op : Op) (call : IsPlainCall begun frame client seq op)
    → (from slot : ℕ) → next r ≤ last_slot → slot ≡ next r → Leaves r (learn_row from slot (Call client seq op) (r, [])).0.0
unfolding learnt_state
learn_leaves begun frame fact me r p f client seq op call from slot room e =
    subst (λ (place : Place). Leaves r place.0) (sym (learn_is begun frame fact me r p f fact.leads client seq op call room from slot e)) (leaves_entry r r [] (Call client seq op) (leaves_itself r))
