-- What is under way for groups while an order is, and which children it makes.
use Rattle.std.proofs.Common.{◌≡◌, ◌⊎◌, ℕ, eqb, Bool, true, false, List, [], ◌∷◌, ◌++◌, Option, Some, None, inl, inr, refl, sym, ◌∙◌, ap, subst, append_assoc, cond}
use Rattle.std.specs.List.{find, list_any}
use Rattle.std.proofs.lemmas.Bool.{cases_Bool, eqb-true}
use Rattle.sc_base.specs.Definitions.{Each, same_draw}
use Rattle.sc_node_table.specs.Values.{Draw, Base, MailBody, Prepare, Promise, Accept, Accepted, Learn, Install, Seat}
use Rattle.sc_base.proofs.Lemmas.{draw_is}
use Rattle.sc_live_orderly.specs.OrderlyDefinitions.{AreInTime}
use Rattle.sc_words.proofs.PaxosProofs.PaxosLemmas.{Each-among, Each-weaker, find_found}
use Rattle.sc_node_table.specs.NodeDefinitions.{group_of_mail, ReplicaState, mailed}
use Rattle.sc_meaning.specs.sound.SoundDefinitions.{Player, births, as_nodes}
use Rattle.sc_live_steps.specs.calm.CalmDefinitions.{players, Rows}
use Rattle.sc_live_steps.specs.following.FollowingDefinitions.{Mark, named_mark, mark_of}
use Rattle.sc_live_journals.specs.rows.RowDefinitions.{view_at, replica_in}
use Rattle.sc_live_journals.specs.scenes.SceneDefinitions.{IsThere, IsNowhere}
use Rattle.sc_live_answers.specs.AnswerDefinitions.{Creates, CreatesBy, DeliveriesKeepWork, ChildrenWereNowhere}

pub none_some : {X P : Type 0} {x : X} → None ≡ Some x → P
none_some e = absurd (let bad : None ≡ Some _ = e in cc)

-- ---- a group is there, or nowhere

module _ (all : List (Seat Player)) (rows : Rows) (name : Draw) where
  -- none of these players has a replica
  abbrev NoneOf : List (Seat Player) → Type 0
  NoneOf seats = Each (λ (seat : Seat Player). view_at all rows name seat.who ≡ None) seats

  search_all : (seats : List (Seat Player)) → IsThere all rows name ⊎ NoneOf seats
  search_all [] = inr tt
  search_all (seat ∷ seats) = by (view_at all rows name seat.who) refl (search_all seats)
    where
      by : (o : Option ReplicaState) → view_at all rows name seat.who ≡ o → IsThere all rows name ⊎ NoneOf seats → IsThere all rows name ⊎ NoneOf (seat ∷ seats)
      by (Some r) e more = inl (seat.who, r, e)
      by None e (inl there) = inl there
      by None e (inr none) = inr (e, none)

  nowhere_of : NoneOf all → IsNowhere all rows name
  nowhere_of none node = by (find (λ (other : Seat Player). eqb other.who node) all) refl
    where
      by : (o : Option (Seat Player)) → find (λ (other : Seat Player). eqb other.who node) all ≡ o → view_at all rows name node ≡ None
      by None e = ap (replica_in name rows) e
      by (Some seat) e =
          let found = find_found (λ (other : Seat Player). eqb other.who node) all seat e in
          ap (view_at all rows name) (sym (eqb-true seat.who node found.1)) ∙ Each-among (λ (s : Seat Player). view_at all rows name s.who ≡ None) all seat none found.0

  pub there_or : IsThere all rows name ⊎ IsNowhere all rows name
  there_or = elim (search_all all) [ inl there ↦ inl there | inr none ↦ inr (nowhere_of none) ]

-- ---- marks

-- mail that has a mark of a group is of it
named_none : (name group : Draw) (mark : Mark) → (Some group ≡ Some name → ⊥) → named_mark name group mark ≡ None
named_none name group mark ne = elim (cases_Bool (same_draw group name)) [
  | inl t ↦ absurd (ne (ap Some (draw_is group name t)))
  | inr f ↦ ap (λ b. cond b (Some mark) None) f
]

pub unmarked : (name : Draw) (from : ℕ) (body : MailBody) → (group_of_mail body ≡ Some name → ⊥) → mark_of name from body ≡ None
unmarked name from (Accept group ballot slot command) ne = named_none name group _ ne
unmarked name from (Accepted group ballot slot) ne = named_none name group _ ne
unmarked name from (Learn group slot command) ne = named_none name group _ ne
unmarked name from (Install group slot base sets) ne = named_none name group _ ne
unmarked name from (Prepare group ballot from_slot) ne = named_none name group _ ne
unmarked name from (Promise group ballot reports) ne = named_none name group _ ne
unmarked name from _ ne = refl

-- the first rows of some in time are
pub prefix_in_time : (words : ℕ → ℕ → ℕ × ℕ) (all : List (Seat Player)) (journal rows more : Rows) → journal ≡ rows ++ more → AreInTime (players words all) journal → AreInTime (players words all) rows
prefix_in_time words all journal rows more e t before row after fact = t before row (after ++ more) (e ∙ (ap (λ l. l ++ more) fact ∙ append_assoc before (row ∷ after) more))

-- ---- groups are quiet while young

-- ---- children were nowhere

children_of : (b : Bool) (told child name : Draw) (P : Base → Type 0) → (b ≡ true → (base : Base) → base.core.id ≡ child → P base) → (made : List Base) → Each (CreatesBy b told child name) made → Each P made
children_of b told child name P p [] k = tt
children_of true told child name P p (base ∷ made) k = (p refl base k.0.1, children_of true told child name P p made k.1)
children_of false told child name P p (base ∷ made) k = absurd k.0

pub children_were : DeliveriesKeepWork → ChildrenWereNowhere
children_were keeps words scenario quiet rows seat number line task of row work mail group node r t here =
    children_of task.splitting task.group task.name group (λ child. IsNowhere (births as_nodes scenario) quiet child.core.id) (λ on base fact. subst (IsNowhere (births as_nodes scenario) quiet) (sym fact) (of.new on)) (mailed mail.from mail.body (r, [])).1
    (Each-weaker (λ (child : Base). Creates task group child × (list_any (λ other. same_draw other child.core.id) r.group.core.born ≡ false)) (λ (child : Base). CreatesBy task.splitting task.group task.name group child) (λ child k. k.0) (mailed mail.from mail.body (r, [])).1
    (keeps.creation words scenario rows seat number task row work mail group node r t here))
