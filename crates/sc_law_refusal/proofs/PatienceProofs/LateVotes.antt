-- A vote that arrives after its transaction was decided changes nothing, and a participant that hears of an abort is free again.
use Rattle.std.proofs.Common.{◌≡◌, ℕ, true, false, true≢false, List, [], ◌∷◌, ◌||◌, Option, Some, None, inl, inr, refl, sym, ◌∙◌, ap}
use Rattle.std.proofs.lemmas.Bool.{cases_Bool, cond-false, cond-true, or_parts}
use Rattle.sc_base.specs.Definitions.{same_draw}
use Rattle.sc_base.proofs.NameLemmas.{draw_is, same_name}
use Rattle.sc_node_table.specs.Values.{Command, Core, Draw, Lock, Free, Coordinating, Promised, Watching, GiveUp, NoEffect}
use Rattle.sc_words.specs.declared.commands.votes.No.{No}
use Rattle.sc_words.specs.declared.commands.votes.Outcome.TheVariants.{Abort}
use Rattle.sc_words.specs.declared.commands.votes.Past.{Past}
use Rattle.sc_words.specs.declared.commands.votes.Vote.{Vote}
use Rattle.sc_group_table.specs.machine.Group.{group_of}
use Rattle.sc_group_table.specs.machine.MachineDefinitions.{Group, aborted, applied, bound_by, finished, has_named, is_coordinating, is_locked_in, locked_in, settled_in, state_after, vote_of, vote_recorded, watch_recorded, watch_vote_of}
use Rattle.sc_law_entries.specs.ring.Invariant.{has_born, has_decided}
use Rattle.sc_law_walks.proofs.WalkLemmas.{MachineWalk, machine_step}
use Rattle.sc_law_refusal.specs.patience.LateVotes.{AbortsFreeParticipants, LateVotesChangeNothing}

-- a group does not coordinate a transaction that it has decided
abbrev IsThrough : Draw → Core → Type 0
IsThrough tx core = has_decided core tx ≡ true → is_coordinating core.lock tx ≡ false

module _ (tx : Draw) (group : Group) (before : IsThrough tx group.core) where
  -- what the group begins has a name that is not in use, so it is no transaction that it has decided
  begun : (name : Draw) → has_named group.core name ≡ false → has_decided group.core tx ≡ true → same_draw name tx ≡ false
  begun name new decided = elim (cases_Bool (same_draw name tx)) [
    | inl same ↦ (
        let a = or_parts (has_born group.core name || has_decided group.core name) (is_locked_in (locked_in group.core.lock) name) new in
        let b = or_parts (has_born group.core name) (has_decided group.core name) a.0 in
        absurd (true≢false (sym decided ∙ (ap (has_decided group.core) (sym (draw_is name tx same)) ∙ b.1))))
    | inr other ↦ other
  ]

  -- a vote binds it to another, or leaves its lock
  bound : (why : Option No) (bond : Lock) → is_coordinating bond tx ≡ false → has_decided group.core tx ≡ true → is_coordinating (bound_by why bond group.core.lock) tx ≡ false
  bound None bond not decided = not
  bound (Some why) bond not decided = before decided

  through_walk : MachineWalk group (λ command step. IsThrough tx step.0.core)
  through_walk = record {
    same = λ command effect nothing. before;
    serves = λ client seq op. before;
    joins = λ node order accepted. before;
    leaves = λ node order accepted. before;
    splits = λ at child order accepted new alone. before;
    begins_split = λ at child order accepted new other. begun child new;
    begins = λ name body order accepted new. begun name new;
    offers = λ name offer new. bound (vote_of group.core offer) (Promised name offer) refl;
    watches = λ name watch new. bound (watch_vote_of group.core watch) (Watching name watch) refl;
    hears = λ name order lock frozen by other decided. sym (ap (λ l. is_coordinating l tx) lock) ∙ before decided;
    aborts = λ command name ends body order got lock decided. refl;
    divides = λ name at child order got lock by can decided. refl;
    merges = λ name order heard lock by may decided. refl;
    closes = λ name order lock frozen by two may decided. refl;
    gives = λ name at order lock frozen by here can decided. refl;
    takes = λ name at order lock frozen by there can decided. refl;
    migrates = λ name node order lock frozen by can decided. refl;
    stays = λ name offer lock decided. refl;
    goes = λ name offer lock into decided. refl;
    gains = λ name offer lock at gift can decided. refl;
    loses = λ name offer lock at can decided. refl;
    welcomes = λ name offer lock node few decided. refl;
    sees_end = λ name watch lock outcome decided. refl;
  }

-- so it is after each log
through_log : (tx : Draw) (log : List Command) (group : Group) → IsThrough tx group.core → IsThrough tx (state_after group log).core
through_log tx [] group before = before
through_log tx (command ∷ log) group before = through_log tx log (applied group command).0 (machine_step group _ (through_walk tx group before) command)

-- ---- what comes late

module _ (tx : Draw) (group : Group) where
  -- a lock that does not coordinate the transaction counts no vote in it
  late_vote : (lock : Lock) (vote : Vote) (by : ℕ) → is_coordinating lock tx ≡ false → vote_recorded lock group tx vote by ≡ (group, NoEffect tx)
  late_vote Free vote by not = refl
  late_vote (Promised locked offer) vote by not = refl
  late_vote (Watching locked watch) vote by not = refl
  late_vote (Coordinating locked body order heard) vote by not = cond-false (same_draw locked tx) _ (group, NoEffect tx) not

  late_watch : (lock : Lock) (vote : Past) → is_coordinating lock tx ≡ false → watch_recorded lock group tx vote ≡ (group, NoEffect tx)
  late_watch Free vote not = refl
  late_watch (Promised locked offer) vote not = refl
  late_watch (Watching locked watch) vote not = refl
  late_watch (Coordinating locked body order heard) vote not = cond-false (same_draw locked tx) _ (group, NoEffect tx) not

  late_give_up : is_coordinating group.core.lock tx ≡ false → applied group (GiveUp tx) ≡ (group, NoEffect tx)
  late_give_up not = cond-false (is_coordinating group.core.lock tx) (aborted group tx) (group, NoEffect tx) not

pub late_votes_change_nothing : LateVotesChangeNothing
late_votes_change_nothing base log tx free decided =
    let group : Group = state_after (group_of base) log in
    let not : is_coordinating group.core.lock tx ≡ false = through_log tx log (group_of base) (λ _. ap (λ l. is_coordinating l tx) free) decided in
    record {
      vote = λ vote by. late_vote tx group group.core.lock vote by not;
      watch = λ vote by. late_watch tx group group.core.lock vote not;
      give_up = late_give_up tx group not;
    }

pub aborts_free_participants : AbortsFreeParticipants
aborts_free_participants group tx offer lock =
    ap (λ l. finished l group tx Abort) lock ∙ cond-true (same_draw tx tx) (settled_in (Some group) group tx Abort) (group, NoEffect tx) (same_name tx tx refl)
