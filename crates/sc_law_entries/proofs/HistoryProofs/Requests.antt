-- A request takes effect at its group, or it changes nothing and is no entry of a history.
use Rattle.std.proofs.Common.{◌≡◌, ℕ, ◌<◌, true, eqb, nat_lt, [], Option, Some, None, refl, sym, ap, ◌∙◌, subst}
use Rattle.std.specs.FinMap.{get}
use Rattle.std.proofs.lemmas.Bool.{cond_both, ltb-true}
use Rattle.sc_base.specs.declared.ops.Noted.{Noted}
use Rattle.sc_base.specs.declared.ops.Op.{Op}
use Rattle.sc_words.specs.ideal.IdealDefinitions.{key_of, holds_key}
use Rattle.sc_words.specs.declared.commands.links.Route.{Route}
use Rattle.sc_words.specs.declared.commands.cores.Lock.{Lock}
use Rattle.sc_words.specs.declared.commands.cores.Lock.TheVariants.{Free, Coordinating, Promised, Watching}
use Rattle.sc_words.specs.declared.commands.commands.Command.TheVariants.{Call}
use Rattle.sc_words.specs.declared.commands.effects.Effect.{Effect}
use Rattle.sc_words.specs.declared.commands.effects.Effect.TheVariants.{Again, Stale, NotMine, Gone, NoEffect}
use Rattle.sc_group_table.specs.machine.MachineDefinitions.{Group, entry_by, applied, done, served_by_note, served, called}
use Rattle.sc_meaning.specs.entries.EntryDefinitions.{is_open}

-- the group is open and not gone, its arc holds the key, and what is noted of the client is lower
pub record TakesEffect (group : Group) (client seq : ℕ) (op : Op) : Type 0 where
  pub open_now : is_open group.core.lock ≡ true
  pub here : group.core.gone ≡ None
  pub its : holds_key group.core.arc (key_of op) ≡ true
  pub above : (noted : Noted) → get group.clients client ≡ Some noted → noted.seq < seq

module _ (group : Group) (client seq : ℕ) (op : Op) (P : Group × Effect → Type 0)
    (quiet : (effect : Effect) → entry_by client seq op effect ≡ [] → P (group, effect))
    (go : TakesEffect group client seq op → P (done group client seq op)) where
  by_note : is_open group.core.lock ≡ true → group.core.gone ≡ None → (o : Option Noted) → holds_key group.core.arc (key_of op) ≡ true → get group.clients client ≡ o → P (served_by_note o group client seq op)
  by_note opened here None its none = go (record { open_now = opened; here = here; its = its; above = λ n e. (let no_way : None ≡ Some n = sym none ∙ e in absurd (cc)) })
  by_note opened here (Some n) its some =
      cond_both (nat_lt n.seq seq) _ _ P
      (λ lt. go (record {
        open_now = opened;
        here = here;
        its = its;
        above = λ m e. (let same : Some n ≡ Some m = sym some ∙ e in let fact : n ≡ m = cc in subst (λ (x : Noted). x.seq < seq) fact (ltb-true n.seq seq lt));
      }))
      (λ _. cond_both (eqb n.seq seq) _ _ P (λ _. quiet (Again n.reply) refl) (λ _. quiet (Stale n.seq) refl))

  by_arc : is_open group.core.lock ≡ true → group.core.gone ≡ None → P (served group client seq op)
  by_arc opened here =
      cond_both (holds_key group.core.arc (key_of op)) _ _ P
      (λ its. by_note opened here (get group.clients client) its refl)
      (λ _. quiet (NotMine group.core.arc group.core.succ) refl)

  by_lock : (gone : Option Route) (lock : Lock) → group.core.gone ≡ gone → group.core.lock ≡ lock → P (called gone lock group client seq op)
  by_lock (Some into) lock e f = quiet (Gone into) refl
  by_lock None Free e f = by_arc (ap is_open f) e
  by_lock None (Watching tx watch) e f = by_arc (ap is_open f) e
  by_lock None (Coordinating tx body order heard) e f = quiet (NoEffect tx) refl
  by_lock None (Promised tx offer) e f = quiet (NoEffect tx) refl

  -- either way
  pub request_cases : P (applied group (Call client seq op))
  request_cases = by_lock group.core.gone group.core.lock refl refl
