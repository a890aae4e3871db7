-- A command that goes back and leaves its queue as it is: it is a Noop, or a call behind which the same or a later one waits.
use Rattle.std.proofs.Common.{◌≡◌, ℕ, ◌≤◌, Bool, true, false, List, ◌∷◌, length, suc, Option, Some, None, refl, sym, ap, ◌∙◌, arith, if◌then◌else◌, nat_lt}
use Rattle.std.proofs.lemmas.Bool.{eq-eqb, ltb-true, ltb-false}
use Rattle.sc_base.specs.declared.ops.Op.{Op}
use Rattle.sc_words.specs.declared.commands.commands.Command.{Command}
use Rattle.sc_words.specs.declared.commands.commands.Command.TheVariants.{Noop, Call, Join, Leave, Split, Begin, Prepared, RecordVote, GiveUp, Finish, Watched, RecordWatch}
use Rattle.sc_node_table.specs.Queues.{queued_number, without_request, request_before, put_back}
use Rattle.sc_node_table.specs.Replica.{ReplicaState}
use Rattle.sc_node_replica.specs.IdleInputs.{KeepsQueues}

-- one more is not the same
pub cons_self : {X : Type 0} (x : X) (xs : List X) → x ∷ xs ≡ xs → ⊥
cons_self x xs e = let n : suc (length xs) ≡ length xs = ap length e in omega (arith, n)

-- a call at the head is that of its client
head_call : (client seq : ℕ) (op : Op) (rest : List Command) → queued_number (Call client seq op ∷ rest) client ≡ Some seq
head_call client seq op rest = rw (eq-eqb client client refl) refl

kept_by : (b : Bool) (backlog : List Command) (client seq other : ℕ) (op : Op) → nat_lt other seq ≡ b → queued_number backlog client ≡ Some other
    → (if b then Call client seq op ∷ without_request backlog client else backlog) ≡ backlog → seq ≤ other
kept_by true backlog client seq other op less is e =
    let found : queued_number backlog client ≡ Some seq = ap (λ cs. queued_number cs client) (sym e) ∙ head_call client seq op (without_request backlog client) in
    let same : seq ≡ other = cc in
    let lt = ltb-true other seq less in
    omega (arith, lt, same)
kept_by false backlog client seq other op less is e = ltb-false other seq less

-- the number of the call that waits
pub kept_waits : (o : Option ℕ) (backlog : List Command) (client seq : ℕ) (op : Op) → queued_number backlog client ≡ o → request_before o client seq (Call client seq op) backlog ≡ backlog
    → (other : ℕ) × ((o ≡ Some other) × (seq ≤ other))
kept_waits None backlog client seq op is e = absurd (cons_self _ backlog e)
kept_waits (Some other) backlog client seq op is e = (other, (refl, kept_by (nat_lt other seq) backlog client seq other op refl is e))

-- a command that leaves its queue as it is when it goes back
abbrev pub Stays : Command → ReplicaState → Type 0
Stays Noop r = Unit {0}
Stays (Call client seq op) r = (other : ℕ) × ((queued_number r.backlog client ≡ Some other) × (seq ≤ other))
Stays (Join node order) r = ⊥
Stays (Leave node order) r = ⊥
Stays (Split at child order) r = ⊥
Stays (Begin tx body order) r = ⊥
Stays (Prepared tx offer) r = ⊥
Stays (RecordVote tx vote by) r = ⊥
Stays (GiveUp tx) r = ⊥
Stays (Finish tx outcome) r = ⊥
Stays (Watched tx watch) r = ⊥
Stays (RecordWatch tx vote by) r = ⊥

pub put_back-stays : (command : Command) (r : ReplicaState) → KeepsQueues r (put_back command r) → Stays command r
unfolding put_back
put_back-stays Noop r h = tt
put_back-stays (Call client seq op) r h = kept_waits (queued_number r.backlog client) r.backlog client seq op refl h.0
put_back-stays (Join node order) r h = cons_self _ r.backlog h.0
put_back-stays (Leave node order) r h = cons_self _ r.backlog h.0
put_back-stays (Split at child order) r h = cons_self _ r.backlog h.0
put_back-stays (Begin tx body order) r h = cons_self _ r.backlog h.0
put_back-stays (Prepared tx offer) r h = cons_self _ r.acts h.1
put_back-stays (RecordVote tx vote by) r h = cons_self _ r.acts h.1
put_back-stays (GiveUp tx) r h = cons_self _ r.acts h.1
put_back-stays (Finish tx outcome) r h = cons_self _ r.acts h.1
put_back-stays (Watched tx watch) r h = cons_self _ r.acts h.1
put_back-stays (RecordWatch tx vote by) r h = cons_self _ r.acts h.1
