-- A group that answers a call has noted it.
use Rattle.std.proofs.Common.{◌≡◌, ℕ, cond, eqb, nat_lt, Option, Some, None, inl, inr, refl, ◌∙◌, ap}
use Rattle.std.specs.Cmp.{nat_cmp_total, unsigned_tied}
use Rattle.std.specs.FinMap.{get, get-insert}
use Rattle.std.proofs.lemmas.Bool.{cond_both, cond-true, eq-eqb, eqb-true}
use Rattle.sc_base.specs.declared.ops.Noted.{Noted}
use Rattle.sc_base.specs.declared.ops.Op.{Op}
use Rattle.sc_base.specs.declared.ops.Reply.{Reply}
use Rattle.sc_words.specs.declared.commands.commands.Command.TheVariants.{Call}
use Rattle.sc_words.specs.declared.commands.cores.Lock.{Lock}
use Rattle.sc_words.specs.declared.commands.cores.Lock.TheVariants.{Free, Coordinating, Promised, Watching}
use Rattle.sc_words.specs.declared.commands.effects.Effect.{Effect}
use Rattle.sc_words.specs.declared.commands.links.Route.{Route}
use Rattle.sc_words.specs.ideal.IdealDefinitions.{key_of, holds_key, reply_of}
use Rattle.sc_group_table.specs.machine.MachineDefinitions.{Group, applied, called, done, served, served_by_note}
use Rattle.sc_law_entries.specs.history.HistoryDefinitions.{IsReplied}

-- a reply to a request is noted of the client
pub record IsNotedAs (group : Group) (client seq : ℕ) (reply : Reply) : Type 0 where
  pub noted : Noted
  pub found : get group.clients client ≡ Some noted
  pub seq_is : noted.seq ≡ seq
  pub reply_is : noted.reply ≡ reply

-- so it is of a reply that is given
abbrev Notes : ℕ → ℕ → Group × Effect → Type 0
Notes client seq result = (reply : Reply) → IsReplied result.1 reply → IsNotedAs result.0 client seq reply

module _ (group : Group) (client seq : ℕ) (op : Op) where
  by_done : Notes client seq (done group client seq op)
  by_done reply (inr e) = cc
  by_done reply (inl e) =
      let note : Noted = record { seq = seq; reply = reply_of op group.pairs } in
      let same : reply_of op group.pairs ≡ reply = cc in
      record {
        noted = note;
        found = get-insert nat_cmp_total group.clients client note client ∙ ap (λ b. cond b (Some note) (get group.clients client)) (unsigned_tied client client) ∙ cond-true (eqb client client) (Some note) (get group.clients client) (eq-eqb client client refl);
        seq_is = refl;
        reply_is = same;
      }

  by_note : (o : Option Noted) → get group.clients client ≡ o → Notes client seq (served_by_note o group client seq op)
  by_note None e = by_done
  by_note (Some n) e =
      cond_both (nat_lt n.seq seq) _ _ (Notes client seq)
      (λ _. by_done)
      (λ _. cond_both (eqb n.seq seq) _ _ (Notes client seq)
      (λ t reply replied. elim replied [
        | inl d ↦ cc
        | inr a ↦ (let same : n.reply ≡ reply = cc in record { noted = n; found = e; seq_is = eqb-true n.seq seq t; reply_is = same })
      ])
      (λ _ reply replied. elim replied [ inl d ↦ cc | inr a ↦ cc ]))

  by_arc : Notes client seq (served group client seq op)
  by_arc =
      cond_both (holds_key group.core.arc (key_of op)) _ _ (Notes client seq)
      (λ _. by_note (get group.clients client) refl)
      (λ _ reply replied. elim replied [ inl d ↦ cc | inr a ↦ cc ])

  by_lock : (gone : Option Route) (lock : Lock) → Notes client seq (called gone lock group client seq op)
  by_lock (Some into) lock reply (inl e) = cc
  by_lock (Some into) lock reply (inr e) = cc
  by_lock None Free reply replied = by_arc reply replied
  by_lock None (Watching tx watch) reply replied = by_arc reply replied
  by_lock None (Coordinating tx body order heard) reply (inl e) = cc
  by_lock None (Coordinating tx body order heard) reply (inr e) = cc
  by_lock None (Promised tx offer) reply (inl e) = cc
  by_lock None (Promised tx offer) reply (inr e) = cc

  pub replied_noted : (reply : Reply) → IsReplied (applied group (Call client seq op)).1 reply → IsNotedAs (applied group (Call client seq op)).0 client seq reply
  replied_noted = by_lock group.core.gone group.core.lock
