-- What holds of all that may come of a command holds of what comes of it.
use Rattle.std.proofs.Common.{◌≡◌, ℕ, nat_lt, eqb, cond, Option, Some, None, inl, inr, refl, sym, ◌∙◌, ap, subst}
use Rattle.std.proofs.lemmas.Bool.{cond_both}
use Rattle.std.specs.FinMap.{get}
use Rattle.sc_base.specs.Definitions.{same_draw}
use Rattle.sc_base.proofs.Lemmas.{draw_is}
use Rattle.sc_node_table.specs.Values.{Draw, Noted, Op, Body, Command, Noop, Call, Join, Leave, Split, Begin, Prepared, RecordVote, GiveUp, Finish, Watched, RecordWatch, Lock, Free, Coordinating, Promised, Watching, Effect, Route, OrderRefusal, Outcome, Past, Vote}
use Rattle.sc_words.specs.commands.CommandDefinitions.{is_alone}
use Rattle.sc_words.specs.ideal.IdealDefinitions.{key_of, holds_key}
use Rattle.sc_words.specs.declared.commands.bodies.Body.TheVariants as By
use Rattle.sc_words.specs.declared.commands.effects.Effect.TheVariants as Was
use Rattle.sc_words.specs.declared.commands.votes.Past.TheVariants as Cast
use Rattle.sc_words.specs.declared.commands.votes.Vote.TheVariants as Vows
use Rattle.sc_group_table.specs.machine.MachineDefinitions.{Group, served_by_note, called, split_group, applied, locked_in, refusal_of, ordered, with_node, without_node, has_named, left_group, begun_group, aborted, vote_recorded, watch_recorded, is_coordinating, has_voted, finished}
use Rattle.sc_law_walks.proofs.CommandWalks.{vote_step, watch_step, finish_step}
use Rattle.sc_law_walks.proofs.MachineWalks.{IsAccepted, MachineWalk}

module _ (group : Group) (P : Command → Group × Effect → Type 0) (k : MachineWalk group P) where
  -- ---- requests

  by_note : (o : Option Noted) (client seq : ℕ) (op : Op) → P (Call client seq op) (served_by_note o group client seq op)
  by_note None client seq op = k.serves client seq op
  by_note (Some noted) client seq op =
      cond_both (nat_lt noted.seq seq) _ _ (P (Call client seq op)) (λ _. k.serves client seq op)
      (λ _. cond_both (eqb noted.seq seq) _ _ (P (Call client seq op)) (λ _. k.same (Call client seq op) _ tt) (λ _. k.same (Call client seq op) _ tt))

  by_key : (client seq : ℕ) (op : Op) → P (Call client seq op) (cond (holds_key group.core.arc (key_of op)) (served_by_note (get group.clients client) group client seq op) (group, Was.NotMine group.core.arc group.core.succ))
  by_key client seq op = cond_both (holds_key group.core.arc (key_of op)) _ _ (P (Call client seq op)) (λ _. by_note (get group.clients client) client seq op) (λ _. k.same (Call client seq op) _ (refl, refl))

  by_call : (gone : Option Route) (lock : Lock) → group.core.gone ≡ gone → group.core.lock ≡ lock → (client seq : ℕ) (op : Op) → P (Call client seq op) (called gone lock group client seq op)
  by_call (Some into) lock g l client seq op = k.same (Call client seq op) _ g
  by_call None Free g l client seq op = by_key client seq op
  by_call None (Watching tx watch) g l client seq op = by_key client seq op
  by_call None (Coordinating tx body order got) g l client seq op = k.same (Call client seq op) _ (inl (ap locked_in l))
  by_call None (Promised tx offer) g l client seq op = k.same (Call client seq op) _ (inl (ap locked_in l))

  -- ---- orders

  by_order : (c : Command) (after : Group) (gone : Option Route) (why : Option OrderRefusal) → group.core.gone ≡ gone → refusal_of group.core c ≡ why → (IsAccepted group c → P c (after, Was.Changed)) → P c (ordered gone why after group)
  by_order c after (Some into) why g w q = k.same c _ (inl refl)
  by_order c after None (Some why) g w q = k.same c _ (inr w)
  by_order c after None None g w q = q (record { stands = g; taken = w })

  by_split : (at : ℕ) (child : Draw) (order : ℕ) → P (Split at child order) (applied group (Split at child order))
  by_split at child order =
      let c = Split at child order in
      cond_both (has_named group.core child) _ _ (P c) (λ _. k.same c _ (inr refl))
      (λ new. by_order c (split_group group at child order) group.core.gone (refusal_of group.core c) refl refl
      (λ taken. cond_both (is_alone group.core) (left_group group at child) (begun_group group child (By.Split at child) order) (λ g. P c (g, Was.Changed)) (k.splits at child order taken new) (k.begins_split at child order taken new)))

  by_begin : (tx : Draw) (body : Body) (order : ℕ) → P (Begin tx body order) (applied group (Begin tx body order))
  by_begin tx body order =
      let c = Begin tx body order in
      cond_both (has_named group.core tx) _ _ (P c) (λ _. k.same c _ (inr refl)) (λ new. by_order c (begun_group group tx body order) group.core.gone (refusal_of group.core c) refl refl (λ taken. k.begins tx body order taken new))

  -- ---- votes and outcomes

  by_vote : (tx : Draw) (vote : Vote) (by : ℕ) → P (RecordVote tx vote by) (vote_recorded group.core.lock group tx vote by)
  by_vote tx vote by =
      vote_step group tx vote by (P (RecordVote tx vote by)) (record {
        quiet = k.same (RecordVote tx vote by) _ (inr refl);
        hears = λ order lock frozen votes other. cast (Vows.Yes frozen) votes _ (k.hears tx order lock frozen by other);
        aborts = λ body order lock why no. k.aborts (RecordVote tx vote by) tx refl body order None lock;
        closes = λ order lock frozen votes two may. cast (Vows.Yes frozen) votes _ (k.closes tx order lock frozen by two may);
        gives = λ at order lock frozen votes here can. cast (Vows.Yes frozen) votes _ (k.gives tx at order lock frozen by here can);
        takes = λ at order lock frozen votes there can. cast (Vows.Yes frozen) votes _ (k.takes tx at order lock frozen by there can);
        migrates = λ node order lock frozen votes can. cast (Vows.Yes frozen) votes _ (k.migrates tx node order lock frozen by can);
      })
    where
      cast : (given : Vote) → vote ≡ given → (x : Group × Effect) → P (RecordVote tx given by) x → P (RecordVote tx vote by) x
      cast given fact x = subst (λ v. P (RecordVote tx v by) x) (sym fact)

  by_watch : (tx : Draw) (vote : Past) (by : ℕ) → P (RecordWatch tx vote by) (watch_recorded group.core.lock group tx vote)
  by_watch tx vote by =
      watch_step group tx vote (P (RecordWatch tx vote by)) (record {
        quiet = k.same (RecordWatch tx vote by) _ (inr refl);
        aborts = λ body order got lock no. k.aborts (RecordWatch tx vote by) tx refl body order got lock;
        divides = λ at child order got lock votes can. cast votes _ (k.divides tx at child order got lock by can);
        merges = λ order heard lock votes may. cast votes _ (k.merges tx order heard lock by may);
      })
    where
      cast : vote ≡ Cast.Yes → (x : Group × Effect) → P (RecordWatch tx Cast.Yes by) x → P (RecordWatch tx vote by) x
      cast fact x = subst (λ v. P (RecordWatch tx v by) x) (sym fact)

  by_finish : (tx : Draw) (outcome : Outcome) → P (Finish tx outcome) (finished group.core.lock group tx outcome)
  by_finish tx =
      finish_step group tx (λ outcome. P (Finish tx outcome)) (record {
        quiet = λ outcome. k.same (Finish tx outcome) _ (inr refl);
        stays = k.stays tx;
        goes = k.goes tx;
        gains = k.gains tx;
        loses = k.loses tx;
        welcomes = k.welcomes tx;
        sees_end = k.sees_end tx;
      })

  by_giving_up : (lock : Lock) → group.core.lock ≡ lock → (tx : Draw) → P (GiveUp tx) (cond (is_coordinating lock tx) (aborted group tx) (group, Was.NoEffect tx))
  by_giving_up (Coordinating t body order got) e tx =
      cond_both (same_draw t tx) _ _ (P (GiveUp tx)) (λ same. k.aborts (GiveUp tx) tx refl body order got (e ∙ ap (λ d. Coordinating d body order got) (draw_is t tx same))) (λ _. k.same (GiveUp tx) _ (inr refl))
  by_giving_up Free e tx = k.same (GiveUp tx) _ (inr refl)
  by_giving_up (Promised t offer) e tx = k.same (GiveUp tx) _ (inr refl)
  by_giving_up (Watching t watch) e tx = k.same (GiveUp tx) _ (inr refl)

  -- ---- all commands

  pub machine_step : (c : Command) → P c (applied group c)
  machine_step Noop = k.same Noop _ tt
  machine_step (Call client seq op) = by_call group.core.gone group.core.lock refl refl client seq op
  machine_step (Join node order) = by_order (Join node order) (with_node group node) group.core.gone _ refl refl (k.joins node order)
  machine_step (Leave node order) = by_order (Leave node order) (without_node group node) group.core.gone _ refl refl (k.leaves node order)
  machine_step (Split at child order) = by_split at child order
  machine_step (Begin tx body order) = by_begin tx body order
  machine_step (Prepared tx offer) = cond_both (has_voted group.core tx) _ _ (P (Prepared tx offer)) (λ _. k.same (Prepared tx offer) _ (inr refl)) (k.offers tx offer)
  machine_step (RecordVote tx vote by) = by_vote tx vote by
  machine_step (GiveUp tx) = by_giving_up group.core.lock refl tx
  machine_step (Finish tx outcome) = by_finish tx outcome
  machine_step (Watched tx watch) = cond_both (has_voted group.core tx) _ _ (P (Watched tx watch)) (λ _. k.same (Watched tx watch) _ (inr refl)) (k.watches tx watch)
  machine_step (RecordWatch tx vote by) = by_watch tx vote by
