-- An affair in which nobody else has a part makes no child that the group knew.
use Rattle.std.proofs.Common.{◌≡◌, ℕ, ◌||◌, false, true≢false, List, [], Option, Some, None, inl, inr, sym, ◌∙◌, ap, subst}
use Rattle.std.specs.List.{list_any}
use Rattle.std.proofs.lemmas.Bool.{cond_both, cases_Bool}
use Rattle.sc_base.specs.Definitions.{Each, same_draw}
use Rattle.sc_node_table.specs.Values.{Draw, Body, Command, Split, RecordWatch, Base, Core, Lock, Free, Coordinating, Promised, Watching, Route, OrderRefusal, Past, MailBody, Accepted, Learn}
use Rattle.sc_words.specs.commands.CommandDefinitions.{is_alone}
use Rattle.sc_words.specs.declared.commands.bodies.Body.TheVariants as At
use Rattle.sc_words.specs.declared.commands.votes.Past.TheVariants as Cast
use Rattle.sc_group_table.specs.machine.MachineDefinitions.{ordered_child, released_child, answered_child, watched_child, child_by, Group, applied, locked_in, refusal_of, can_split, child_of, has_named, is_locked_in}
use Rattle.sc_node_table.specs.NodeDefinitions.{ReplicaState, mailed}
use Rattle.sc_live_answers.specs.AnswerDefinitions.{SplitsInto, LockSplits}
use Rattle.sc_live_answers.proofs.WorkProofs.Affairs.{Affair}
use Rattle.sc_live_answers.proofs.ChildrenProofs.KnownChildren.{HasCreated, stays_born}
use Rattle.sc_live_answers.proofs.WorkProofs.AffairParts.{Held, Kids}
use Rattle.sc_live_answers.proofs.WorkProofs.AffairRows.{Hears, mailed_kids}
use Rattle.sc_live_answers.proofs.WorkProofs.OrderTasks.{first_off}

-- a child is not known yet
abbrev pub IsUnborn : List Draw → Base → Type 0
IsUnborn born base = list_any (λ other. same_draw other base.core.id) born ≡ false

none_some : {P : Type 0} {x : Base} → None ≡ Some x → P
none_some e = absurd (let bad : None ≡ Some _ = e in cc)

-- ---- a child that is created is not known before

named_unborn : (group : Group) (at : ℕ) (drawn : Draw) (kid : Base) → list_any (λ other. same_draw other drawn) group.core.born ≡ false → Some (child_of group at drawn) ≡ Some kid → IsUnborn group.core.born kid
named_unborn group at drawn kid new e = (let own : child_of group at drawn ≡ kid = cc in subst (IsUnborn group.core.born) own new)

ordered_unborn : (gone : Option Route) (why : Option OrderRefusal) (group : Group) (at : ℕ) (drawn : Draw) (kid : Base) → list_any (λ other. same_draw other drawn) group.core.born ≡ false → ordered_child gone why group at drawn ≡ Some kid → IsUnborn group.core.born kid
ordered_unborn (Some into) why group at drawn kid new e = none_some e
ordered_unborn None (Some why) group at drawn kid new e = none_some e
ordered_unborn None None group at drawn kid new e =
    cond_both (is_alone group.core) (Some (child_of group at drawn)) None (λ o. o ≡ Some kid → IsUnborn group.core.born kid) (λ _ x. named_unborn group at drawn kid new x) (λ _ x. none_some x) e

released_unborn : (told child name : Draw) (body : Body) (group : Group) (kid : Base) → SplitsInto told child name group.core.born body → released_child body group ≡ Some kid → IsUnborn group.core.born kid
released_unborn told child name At.Merge group kid b e = none_some e
released_unborn told child name (At.Repart at) group kid b e = none_some e
released_unborn told child name (At.Migrate node) group kid b e = none_some e
released_unborn told child name (At.Split at drawn) group kid b e =
    cond_both (can_split group.core at) (Some (child_of group at drawn)) None (λ o. o ≡ Some kid → IsUnborn group.core.born kid)
    (λ _ x. named_unborn group at drawn kid (ap (λ d. list_any (λ other. same_draw other d) group.core.born) b.1 ∙ b.2) x) (λ _ x. none_some x) e

answered_unborn : (told child name : Draw) (vote : Past) (body : Body) (group : Group) (kid : Base) → SplitsInto told child name group.core.born body → answered_child vote body group ≡ Some kid → IsUnborn group.core.born kid
answered_unborn told child name Cast.Yes body group kid b e = released_unborn told child name body group kid b e
answered_unborn told child name (Cast.No why) body group kid b e = none_some e
answered_unborn told child name Cast.Ended body group kid b e = none_some e

watched_unborn : (told child name : Draw) (lock : Lock) (group : Group) (tx : Draw) (vote : Past) (kid : Base) → LockSplits told child name group.core.born lock → watched_child lock group tx vote ≡ Some kid → IsUnborn group.core.born kid
watched_unborn told child name Free group tx vote kid l e = none_some e
watched_unborn told child name (Promised locked offer) group tx vote kid l e = none_some e
watched_unborn told child name (Watching locked watch) group tx vote kid l e = none_some e
watched_unborn told child name (Coordinating locked body order heard) group tx vote kid l e =
    cond_both (same_draw locked tx) (answered_child vote body group) None (λ o. o ≡ Some kid → IsUnborn group.core.born kid) (λ _ x. answered_unborn told child name vote body group kid l x) (λ _ x. none_some x) e

pub kid_unborn : (told child name : Draw) (group : Group) (command : Command) (kid : Base) → LockSplits told child name group.core.born group.core.lock → child_by group command ≡ Some kid → IsUnborn group.core.born kid
kid_unborn told child name group (Split at drawn order) kid l e =
    cond_both (has_named group.core drawn) None (ordered_child group.core.gone (refusal_of group.core (Split at drawn order)) group at drawn) (λ o. o ≡ Some kid → IsUnborn group.core.born kid) (λ _ x. none_some x)
    (λ new x. ordered_unborn group.core.gone (refusal_of group.core (Split at drawn order)) group at drawn kid
    (first_off (list_any (λ other. same_draw other drawn) group.core.born) (list_any (λ decision. same_draw decision.0 drawn) group.core.decided)
    (first_off (list_any (λ other. same_draw other drawn) group.core.born || list_any (λ decision. same_draw decision.0 drawn) group.core.decided) (is_locked_in (locked_in group.core.lock) drawn) new)) x) e
kid_unborn told child name group (RecordWatch tx vote by) kid l e = watched_unborn told child name group.core.lock group tx vote kid l e
kid_unborn told child name group _ kid l e = none_some e

-- ---- nor was it known when the row began

module _ (a : Affair) (unborn : (name : Draw) (group : Group) (command : Command) (kid : Base) → a.Is name group.core → child_by group command ≡ Some kid → IsUnborn group.core.born kid) (born : List Draw) where
  -- what was known then is known still
  Grown : Core → Type 0
  Grown core = (name : Draw) → HasCreated name born → HasCreated name core.born

  not_before : (core : Core) (kid : Base) → Grown core → IsUnborn core.born kid → IsUnborn born kid
  unfolding Grown
  not_before core kid grown new = elim (cases_Bool (list_any (λ other. same_draw other kid.core.id) born)) [ inl t ↦ absurd (true≢false (sym (grown kid.core.id t) ∙ new)) | inr f ↦ f ]

  grown_entered : (group : Group) (command : Command) → Grown group.core → Grown (applied group command).0.core
  unfolding Grown
  grown_entered group command grown name has = stays_born group command name (grown name has)

  grown_renamed : (id : Draw) (core : Core) → Grown core → Grown (record core { id = id })
  unfolding Grown
  grown_renamed id core grown = grown

  grown : Affair
  grown = record {
    Parts = a.Parts;
    Does = a.Does;
    Is = λ name core. a.Is name core × Grown core;
    Creates = λ name base. a.Creates name base × IsUnborn born base;
    backlog = a.backlog;
    entered = λ name group command s d. (a.entered name group command s.0 d, grown_entered group command s.1);
    creation = λ name group command kid s d e. (a.creation name group command kid s.0 d e, not_before group.core kid s.1 (unborn name group command kid s.0 e));
    adds = λ name group command s d. a.adds name group command s.0 d;
    asks = λ name core tx body order heard s e. a.asks name core tx body order heard s.0 e;
    renamed = λ name id core s. (a.renamed name id core s.0, grown_renamed id core s.1);
    begins = a.begins;
    votes = a.votes;
    offer = a.offer;
    vote = a.vote;
    finish = a.finish;
    watched = a.watched;
    watch = a.watch;
  }

module _ (a : Affair) (unborn : (name : Draw) (group : Group) (command : Command) (kid : Base) → a.Is name group.core → child_by group command ≡ Some kid → IsUnborn group.core.born kid) (g : Draw) (r : ReplicaState) where
  held_grown : Held a g r → Held (grown a unborn r.group.core.born) g r
  unfolding grown Grown
  held_grown k = (k.0, k.1, k.2, k.3, k.4, (k.5, λ name has. has), k.6)

  kids_unborn : (from : ℕ) (body : MailBody) → Hears a r body → Held a g r → Kids (grown a unborn r.group.core.born) g (mailed from body (r, [])).1
  unfolding grown mailed
  kids_unborn from (Accepted group ballot slot) h k = mailed_kids (grown a unborn r.group.core.born) g from (Accepted group ballot slot) r [] tt (held_grown k, tt)
  kids_unborn from (Learn group slot command) h k = mailed_kids (grown a unborn r.group.core.born) g from (Learn group slot command) r [] h (held_grown k, tt)
  kids_unborn from _ h k = tt

  -- so each that is made was not known
  pub made_unborn : (from : ℕ) (body : MailBody) → Hears a r body → Held a g r → Each (λ (kid : Base). a.Creates g kid × IsUnborn r.group.core.born kid) (mailed from body (r, [])).1
  unfolding grown
  made_unborn from body h k = kids_unborn from body h k
