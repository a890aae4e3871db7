-- What a call makes of a group: an operation is carried out, or the group stays as it was.
use Rattle.std.proofs.Common.{◌≡◌, ◌⊎◌, ℕ, Bool, true, false, Option, Some, None, inl, inr, refl}
use Rattle.std.specs.Prelude.{if◌then◌else◌, nat_lt, ◌==◌}
use Rattle.std.specs.FinMap.{get}
use Rattle.sc_base.specs.declared.ops.Noted.{Noted}
use Rattle.sc_base.specs.declared.ops.Op.{Op}
use Rattle.sc_base.specs.declared.ops.Reply.{Reply}
use Rattle.sc_words.specs.declared.commands.cores.Lock.{Lock}
use Rattle.sc_words.specs.declared.commands.cores.Lock.TheVariants.{Free, Coordinating, Promised, Watching}
use Rattle.sc_words.specs.declared.commands.effects.Effect.{Effect}
use Rattle.sc_words.specs.declared.commands.effects.Effect.TheVariants.{Done, Again, Stale, NotMine}
use Rattle.sc_words.specs.declared.commands.links.Route.{Route}
use Rattle.sc_words.specs.ideal.IdealStore.{holds_key, key_of}
use Rattle.sc_meaning.specs.entries.Effective.{is_open}
use Rattle.sc_group_table.specs.machine.Group.{Group}
use Rattle.sc_group_table.specs.machine.Machine.{called, done, served, served_by_note}

-- the group stays as it was, and nothing was done
abbrev pub Stays : Group → Group × Effect → Type 0
Stays group made = (made.0 ≡ group) × ((reply : Reply) → made.1 ≡ Done reply → ⊥)

-- the operation was done, or the group stays
abbrev pub DoesOrStays : Group → ℕ → ℕ → Op → Group × Effect → Type 0
DoesOrStays group client seq op made = (made ≡ done group client seq op) ⊎ Stays group made

by_note : (group : Group) (client seq : ℕ) (op : Op) (o : Option Noted) → DoesOrStays group client seq op (served_by_note o group client seq op)
by_note group client seq op None = inl refl
by_note group client seq op (Some noted) = later (nat_lt noted.seq seq) (noted.seq == seq)
  where
    later : (b c : Bool) → DoesOrStays group client seq op (if b then done group client seq op else if c then (group, Again noted.reply) else (group, Stale noted.seq))
    later true c = inl refl
    later false true = inr (refl, λ reply e. cc)
    later false false = inr (refl, λ reply e. cc)

by_key : (group : Group) (client seq : ℕ) (op : Op) → DoesOrStays group client seq op (served group client seq op)
by_key group client seq op = holding (holds_key group.core.arc (key_of op))
  where
    holding : (b : Bool) → DoesOrStays group client seq op (if b then served_by_note (get group.clients client) group client seq op else (group, NotMine group.core.arc group.core.succ))
    holding true = by_note group client seq op (get group.clients client)
    holding false = inr (refl, λ reply e. cc)

-- a call by the group's lock: only an open group does something
pub call_is : (gone : Option Route) (lock : Lock) (group : Group) (client seq : ℕ) (op : Op)
    → ((is_open lock ≡ true) × (called gone lock group client seq op ≡ done group client seq op)) ⊎ Stays group (called gone lock group client seq op)
call_is (Some into) lock group client seq op = inr (refl, λ reply e. cc)
call_is None Free group client seq op = elim (by_key group client seq op) [ inl does ↦ inl (refl, does) | inr stays ↦ inr stays ]
call_is None (Watching tx watch) group client seq op = elim (by_key group client seq op) [ inl does ↦ inl (refl, does) | inr stays ↦ inr stays ]
call_is None (Coordinating tx body order heard) group client seq op = inr (refl, λ reply e. cc)
call_is None (Promised tx offer) group client seq op = inr (refl, λ reply e. cc)
