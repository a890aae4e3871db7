-- An executed call of a plain journal: what its client is answered, and the group after it.
use Rattle.std.proofs.Common.{◌≡◌, ℕ, ltb, eqb, true, cond, List, Option, Some, None, ◌⊎◌, inl, inr, refl, sym, ◌∙◌, ap, subst, arith}
use Rattle.std.specs.Cmp.{nat_cmp_total, unsigned_tied}
use Rattle.std.specs.Cmp.Lexicographic.{nat_list_cmp_total}
use Rattle.std.specs.FinMap.{get, insert, remove, get-insert, get-remove}
use Rattle.std.specs.Prelude.{is_none}
use Rattle.std.proofs.lemmas.Bool.{cond_both, eqb-true, eqb-false, ltb-false, both_ways}
use Rattle.sc_node_table.specs.Values.{Noted, Op, Get, Put, Del, Add, Cas, Reply, Call, Core, Lock, Free, Effect, Route, AnswerBody, Value, Stale}
use Rattle.sc_words.specs.ideal.IdealDefinitions.{Contents, key_of, holds_key, reply_of, after, was}
use Rattle.sc_words.specs.declared.commands.effects.Effect.TheVariants as Was
use Rattle.sc_group_table.specs.machine.MachineDefinitions.{Group, done, served_by_note, served, called, applied}
use Rattle.sc_node_table.specs.NodeDefinitions.{answer_of, entered, forgotten, ReplicaState}
use Rattle.sc_live_plain.specs.PlainDefinitions.{Frame, IsFrame, Requests, written_by, IsWrittenValue, IsPlainCall, IsPlainAnswer, IsPlainGroup}
use Rattle.sc_live_plain.proofs.PlainRowsProofs.Lists.{some_is}

-- what a key has after an operation is what it had, or what the operation writes
abbrev Had : Op → Contents → Contents → Type 0
Had op before now = (key value : List ℕ) → get now key ≡ Some value → (written_by op ≡ Some value) ⊎ (get before key ≡ Some value)

put_had : (op : Op) (contents : Contents) (key value : List ℕ) → written_by op ≡ Some value → Had op contents (insert contents key value)
put_had op contents key value w other now e =
    cond_both _ (Some value) (get contents other) (λ o. o ≡ Some now → (written_by op ≡ Some now) ⊎ (get contents other ≡ Some now)) (λ _ k. inl (w ∙ k)) (λ _ k. inr k)
    (sym (get-insert nat_list_cmp_total contents key value other) ∙ e)

gone_had : (op : Op) (contents : Contents) (key : List ℕ) → Had op contents (remove contents key)
gone_had op contents key other now e =
    cond_both _ None (get contents other) (λ o. o ≡ Some now → (written_by op ≡ Some now) ⊎ (get contents other ≡ Some now)) (λ _ k. cc) (λ _ k. inr k)
    (sym (get-remove nat_list_cmp_total contents key other) ∙ e)

same_had : (op : Op) (contents : Contents) → Had op contents contents
same_had op contents key value e = inr e

after_had : (op : Op) (contents : Contents) → Had op contents (after op contents)
after_had (Get key) contents = same_had (Get key) contents
after_had (Put key value) contents = put_had (Put key value) contents key value refl
after_had (Del key) contents = gone_had (Del key) contents key
after_had (Add key value) contents = cond_both (is_none (get contents key)) (insert contents key value) contents (Had (Add key value) contents) (λ _. put_had (Add key value) contents key value refl) (λ _. same_had (Add key value) contents)
after_had (Cas key expect value) contents =
    cond_both (was expect (get contents key)) (insert contents key value) contents (Had (Cas key expect value) contents) (λ _. put_had (Cas key expect value) contents key value refl) (λ _. same_had (Cas key expect value) contents)

-- the group after a call, with the answer of its client
pub record IsServed (begun : Requests) (frame : Frame) (client seq : ℕ) (op : Op) (after : Group × Effect) : Type 0 where
  pub group : IsPlainGroup begun frame after.0
  pub answer : AnswerBody
  pub answer_is : answer_of after.1 ≡ Some answer
  pub says : IsPlainAnswer begun frame client seq op answer

module _ (begun : Requests) (frame : Frame) (fact : IsFrame frame) where
  done_plain : (client seq : ℕ) (op : Op) (group : Group) → begun client seq op → IsPlainGroup begun frame group → IsServed begun frame client seq op (done group client seq op)
  done_plain client seq op group b g = record {
    group = record {
      core_is = g.core_is;
      noted = λ who note e.
          cond_both _ (Some (record { seq = seq; reply = reply_of op group.pairs })) (get group.clients who) (λ o. o ≡ Some note → (p : Op) × begun who note.seq p)
          (λ t k. (let tied : eqb who client ≡ true = sym (unsigned_tied who client) ∙ t in
          let at : client ≡ who = sym (eqb-true who client tied) in
          let same : seq ≡ note.seq = ap (λ (o : Noted). o.seq) (some_is k) in
          (op, subst (λ n. begun who n op) same (subst (λ w. begun w seq op) at b)))) (λ _ k. g.noted who note k) (sym (get-insert nat_cmp_total group.clients client (record { seq = seq; reply = reply_of op group.pairs }) who) ∙ e);
      replied = λ who note e value v.
          cond_both _ (Some (record { seq = seq; reply = reply_of op group.pairs })) (get group.clients who) (λ o. o ≡ Some note → IsWrittenValue begun value)
          (λ t k. (let same : reply_of op group.pairs ≡ note.reply = ap (λ (o : Noted). o.reply) (some_is k) in
          g.stored (key_of op) value (ap (λ (reply : Reply). reply.old) same ∙ v))) (λ _ k. g.replied who note k value v)
          (sym (get-insert nat_cmp_total group.clients client (record { seq = seq; reply = reply_of op group.pairs }) who) ∙ e);
      stored = λ key value e.
          elim (after_had op group.pairs key value e) [ inl w ↦ record { client = client; seq = seq; op = op; is_begun = b; writes = w } | inr k ↦ g.stored key value k ];
    };
    answer = Value (reply_of op group.pairs);
    answer_is = refl;
    says = λ value e. g.stored (key_of op) value e;
  }

  -- a call is answered by what was noted of its client
  note_plain : (o : Option Noted) (client seq : ℕ) (op : Op) (group : Group) → get group.clients client ≡ o → begun client seq op → IsPlainGroup begun frame group
      → IsServed begun frame client seq op (served_by_note o group client seq op)
  note_plain None client seq op group e b g = done_plain client seq op group b g
  note_plain (Some note) client seq op group e b g =
      cond_both (ltb note.seq seq) (done group client seq op) (cond (eqb note.seq seq) (group, Was.Again note.reply) (group, Was.Stale note.seq)) (IsServed begun frame client seq op) (λ _. done_plain client seq op group b g)
      (λ f. cond_both (eqb note.seq seq) (group, Was.Again note.reply) (group, Was.Stale note.seq) (IsServed begun frame client seq op)
      (λ _. record { group = g; answer = Value note.reply; answer_is = refl; says = λ value k. g.replied client note e value k })
      (λ d. (let low = ltb-false note.seq seq f in
      let other = eqb-false note.seq seq d in
      record { group = g; answer = Stale note.seq; answer_is = refl; says = (omega (arith, low, other), g.noted client note e) })))

  -- a call is answered by the arc
  arc_plain : (client seq : ℕ) (op : Op) (group : Group) → IsPlainCall begun frame client seq op → IsPlainGroup begun frame group → IsServed begun frame client seq op (served group client seq op)
  arc_plain client seq op group c g =
      let held : holds_key group.core.arc (key_of op) ≡ true = ap (λ core. holds_key core.arc (key_of op)) g.core_is ∙ c.held in
      cond_both (holds_key group.core.arc (key_of op)) (served_by_note (get group.clients client) group client seq op) (group, Was.NotMine group.core.arc group.core.succ) (IsServed begun frame client seq op)
      (λ _. note_plain (get group.clients client) client seq op group refl c.is_begun g) (λ f. absurd (both_ways _ f held))

  -- a call is answered by the lock
  lock_plain : (gone : Option Route) (lock : Lock) (client seq : ℕ) (op : Op) (group : Group) → gone ≡ None → lock ≡ Free → IsPlainCall begun frame client seq op → IsPlainGroup begun frame group
      → IsServed begun frame client seq op (called gone lock group client seq op)
  lock_plain into lock client seq op group n f c g = rw (n, f) (arc_plain client seq op group c g)

  pub call_plain : (client seq : ℕ) (op : Op) (group : Group) → IsPlainCall begun frame client seq op → IsPlainGroup begun frame group → IsServed begun frame client seq op (applied group (Call client seq op))
  call_plain client seq op group c g =
      lock_plain group.core.gone group.core.lock client seq op group (ap (λ (core : Core). core.gone) g.core_is ∙ fact.stands) (ap (λ (core : Core). core.lock) g.core_is ∙ fact.free) c g

-- a replica that executes a plain call keeps the record of its frame
pub entered_frame : (begun : Requests) (frame : Frame) (client seq : ℕ) (op : Op) (r : ReplicaState) → IsServed begun frame client seq op (applied r.group (Call client seq op)) → (entered (Call client seq op) r).group.core ≡ frame.core
unfolding entered forgotten
entered_frame begun frame client seq op r serves = serves.group.core_is
