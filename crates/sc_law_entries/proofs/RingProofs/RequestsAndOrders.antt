-- Requests and orders keep the facts and the view.
use Rattle.std.specs.Prelude.{nat_lt, not, ◌||◌, ◌==◌}
use Rattle.std.proofs.Common.{◌≡◌, ℕ, Bool, true, false, cond, List, inl, inr, Option, Some, None, refl, sym, ◌∙◌, ap, subst}
use Rattle.std.proofs.lemmas.Bool.{cases_Bool, cond_both, or_parts, not_from_true, not_from_false, cond-true, cond-false}
use Rattle.std.specs.Option.{option_map}
use Rattle.std.specs.FinMap.{get, retain_keys}
use Rattle.std.proofs.lemmas.Option.{same_Some}
use Rattle.sc_base.specs.Definitions.{same_draw, Arc}
use Rattle.sc_base.specs.declared.names.Draw.{Draw}
use Rattle.sc_base.specs.declared.ops.Op.{Op}
use Rattle.sc_base.specs.declared.ops.Noted.{Noted}
use Rattle.sc_words.specs.commands.CommandDefinitions.{is_changed, is_alone}
use Rattle.sc_words.specs.ideal.IdealDefinitions.{Contents, key_of, after, holds_key}
use Rattle.sc_words.proofs.IdealProofs.IdealLemmas.{apart, get-part}
use Rattle.sc_words.specs.declared.commands.bodies.Body.{Body}
use Rattle.sc_words.specs.declared.commands.bodies.Body.TheVariants as At
use Rattle.sc_words.specs.declared.commands.bodies.Watch.{Watch}
use Rattle.sc_words.specs.declared.commands.commands.Command.{Command}
use Rattle.sc_words.specs.declared.commands.commands.Command.TheVariants.{Join, Leave, Begin, Finish}
use Rattle.sc_words.specs.declared.commands.cores.Core.{Core}
use Rattle.sc_words.specs.declared.commands.cores.Lock.{Lock}
use Rattle.sc_words.specs.declared.commands.cores.Lock.TheVariants.{Free, Coordinating, Promised, Watching}
use Rattle.sc_words.specs.declared.commands.effects.Effect.{Effect}
use Rattle.sc_words.specs.declared.commands.effects.Effect.TheVariants as Was
use Rattle.sc_words.specs.declared.commands.links.Link.{Link}
use Rattle.sc_words.specs.declared.commands.links.Route.{Route}
use Rattle.sc_words.specs.declared.commands.orders.OrderRefusal.{OrderRefusal}
use Rattle.sc_words.specs.declared.commands.orders.OrderRefusal.TheVariants.{NotLeader, InTransaction, NoNeighbour}
use Rattle.sc_words.specs.declared.commands.votes.Outcome.{Outcome}
use Rattle.sc_words.specs.declared.commands.votes.Outcome.TheVariants.{Abort, Merged, Moved, Migrated, Divided}
use Rattle.sc_group_table.specs.machine.MachineDefinitions.{Group, finished, party_freed, pred_after, watcher_after, watch_ended, done, served_by_note, served, called, applied, ordered_by, locked_in, refused_free, refused_in, refusal_of, begin_refused, body_refused, ordered, with_node, without_node, has_named, is_locked_in, begun_group}
use Rattle.sc_meaning.specs.entries.EntryDefinitions.{after_outcome, is_commit}
use Rattle.sc_law_entries.specs.ring.RingDefinitions.{IsShared, Story, Stories, put, with_story, new_story, stories_after, Groups, has_decided, has_born, IsOwnBody, Facts}
use Rattle.sc_meaning.proofs.EntriesProofs.EntryLemmas.{draw_cases, names_differ}
use Rattle.sc_law_entries.proofs.RingProofs.View.{Ring}
use Rattle.sc_law_entries.proofs.RingProofs.Cover.{at-same, at-is, at-other}
use Rattle.sc_base.proofs.Lemmas.{same_name}
use Rattle.sc_law_entries.proofs.RingProofs.EntryKinds.{IsPlain, IsOpen, plain_facts, begin_facts}
use Rattle.sc_law_entries.proofs.RingProofs.Ends.{draw_new}
use Rattle.sc_law_entries.proofs.RingProofs.Effects.{Decisions, decisions, settle_by, living, eff, view_of, arc_of, succ_of, pred_of, pairs_of, IsInside, inside_same, Good, Agrees, whole_agree, like_same, like_at, Old, whole_change, eff_by, living_is, eff_free}
use Rattle.sc_law_entries.proofs.RingProofs.Finds.{some_none}

-- the facts of all groups and stories, and the view of the effective records
abbrev pub Kept : (Draw → Option Draw) → Ring → Groups → Stories → Type 0
Kept owner ring gs ys = Facts owner gs ys × Good ring (Old gs ys)

pub same_fun : {X : Type 0} (f g : Draw → X) → ((n : Draw) → f n ≡ g n) → f ≡ g
same_fun f g h = λ i n. h n i

pub at_self : {X : Type 0} (f : Draw → X) (g : Draw) (x : X) → f g ≡ x → put f g x ≡ f
at_self f g x e = same_fun (put f g x) f (λ h. elim (draw_cases h g) [ inl q ↦ at-is f g x h q ∙ sym e ∙ ap f (sym q) | inr q ↦ at-other f g x h q ])

story_id : (f : Story → Story) → ((y : Story) → f y ≡ y) → (o : Option Story) → option_map f o ≡ o
story_id f k None = refl
story_id f k (Some y) = ap Some (k y)

pub unchanged_story : (ys : Stories) (tx : Draw) (f : Story → Story) → ((y : Story) → f y ≡ y) → with_story ys tx f ≡ ys
unchanged_story ys tx f k = at_self ys tx (option_map f (ys tx)) (sym (story_id f k (ys tx)))

pub reported_at : (ys : Stories) (tx : Draw) (f : Story → Story) (y : Story) → ys tx ≡ Some y → with_story ys tx f ≡ put ys tx (Some (f y))
reported_at ys tx f y e = ap (λ o. put ys tx (option_map f o)) e

-- nothing changes
pub idle : (owner : Draw → Option Draw) (ring : Ring) (gs : Groups) (ys : Stories) (g : Draw) (s : Group) → Kept owner ring gs ys → gs g ≡ Some s → Kept owner ring (put gs g (Some s)) ys
idle owner ring gs ys g s k fact = subst (λ x. Kept owner ring x ys) (sym (at_self gs g (Some s) fact)) k

pub idle_reported : (owner : Draw → Option Draw) (ring : Ring) (gs : Groups) (ys : Stories) (g : Draw) (s : Group) (tx : Draw) (f : Story → Story) → ((y : Story) → f y ≡ y) → Kept owner ring gs ys → gs g ≡ Some s → Kept owner ring (put gs g (Some s)) (with_story ys tx f)
idle_reported owner ring gs ys g s tx f e k fact = subst (λ x. Kept owner ring (put gs g (Some s)) x) (sym (unchanged_story ys tx f e)) (idle owner ring gs ys g s k fact)

-- ---- contents and members

-- the pairs are not looked at; a watcher stands behind whoever was decided
abbrev pub pred_by : Option Outcome → Watch → Link → Link
pred_by None watch pred = pred
pred_by (Some outcome) watch pred = pred_after outcome watch.next pred

-- who stands before an open group
abbrev pub open_pred : Decisions → Lock → Link → Link
open_pred f Free pred = pred
open_pred f (Coordinating tx body order heard) pred = pred
open_pred f (Promised tx offer) pred = pred
open_pred f (Watching tx watch) pred = pred_by (f tx) watch pred

-- the effective record of an open group: its own, but for who stands before it
pub record IsServing (f : Decisions) (s : Group) : Type 0 where
  pub e : Group
  pub fact : eff f (Some s) ≡ Some e
  pub arc : e.core.arc ≡ s.core.arc
  pub succ : e.core.succ.group ≡ s.core.succ.group
  pub pred : e.core.pred ≡ open_pred f s.core.lock s.core.pred
  pub pairs : e.pairs ≡ s.pairs

-- a watcher after a commit
pub watch_settled : (o : Outcome) (tx : Draw) (s : Group) (watch : Watch) → is_commit o ≡ true → s.core.lock ≡ Watching tx watch → after_outcome (Some o) tx s ≡ party_freed (watcher_after o s watch) tx
watch_settled o tx s watch c lock =
    cond-true (is_commit o) (applied s (Finish tx o)).0 s c
    ∙ ap (λ l. (finished l s tx o).0) lock
    ∙ ap (λ (r : Group × Effect). r.0) (cond-true (same_draw tx tx) (watch_ended o s tx watch) (s, Was.NoEffect tx) (same_name tx tx refl))

serving_self : (f : Decisions) (s : Group) (l : Lock) → s.core.gone ≡ None → s.core.lock ≡ l → living (settle_by l f s) ≡ living s → open_pred f l s.core.pred ≡ s.core.pred → IsServing f s
serving_self f s l here lock same pred = record {
  e = s;
  fact = eff_by f s l lock ∙ same ∙ living_is s here;
  arc = refl;
  succ = refl;
  pred = sym pred ∙ ap (λ k. open_pred f k s.core.pred) (sym lock);
  pairs = refl;
}

serving_watch : (f : Decisions) (s : Group) (tx : Draw) (watch : Watch) (o : Outcome) → s.core.gone ≡ None → s.core.lock ≡ Watching tx watch → f tx ≡ Some o → is_commit o ≡ true → IsServing f s
serving_watch f s tx watch o here lock out c = record {
  e = party_freed (watcher_after o s watch) tx;
  fact = eff_by f s (Watching tx watch) lock ∙ ap (λ x. living (after_outcome x tx s)) out ∙ ap living (watch_settled o tx s watch c lock) ∙ living_is (party_freed (watcher_after o s watch) tx) here;
  arc = refl;
  succ = refl;
  pred = ap (λ x. pred_by x watch s.core.pred) (sym out) ∙ ap (λ k. open_pred f k s.core.pred) (sym lock);
  pairs = refl;
}

serving_by : (f : Decisions) (s : Group) (tx : Draw) (watch : Watch) → s.core.gone ≡ None → s.core.lock ≡ Watching tx watch → (o : Option Outcome) → f tx ≡ o → IsServing f s
serving_by f s tx watch here lock None out = serving_self f s (Watching tx watch) here lock (ap (λ x. living (after_outcome x tx s)) out) (ap (λ x. pred_by x watch s.core.pred) out)
serving_by f s tx watch here lock (Some Abort) out = serving_self f s (Watching tx watch) here lock (ap (λ x. living (after_outcome x tx s)) out) (ap (λ x. pred_by x watch s.core.pred) out)
serving_by f s tx watch here lock (Some (Merged into)) out = serving_watch f s tx watch (Merged into) here lock out refl
serving_by f s tx watch here lock (Some (Moved at gift)) out = serving_watch f s tx watch (Moved at gift) here lock out refl
serving_by f s tx watch here lock (Some (Migrated node)) out = serving_watch f s tx watch (Migrated node) here lock out refl
serving_by f s tx watch here lock (Some Divided) out = serving_watch f s tx watch Divided here lock out refl

pub serving : (f : Decisions) (s : Group) → s.core.gone ≡ None → IsOpen s.core.lock → IsServing f s
serving f s here (inl e) = serving_self f s Free here e refl refl
serving f s here (inr w) = serving_by f s w.0 w.1 here w.2 (f w.0) refl

-- what a group that serves keeps
pub record IsSameRecord (s s' : Group) : Type 0 where
  pub plain : IsPlain s s'
  pub arc : s.core.arc ≡ s'.core.arc
  pub succ : s.core.succ.group ≡ s'.core.succ.group
  pub pred : s.core.pred ≡ s'.core.pred

-- an open group changes its members alone, or its pairs on its arc
pub plain : (owner : Draw → Option Draw) (ring : Ring) (gs : Groups) (ys : Stories) (g : Draw) (s s' : Group) → Kept owner ring gs ys → gs g ≡ Some s → s.core.gone ≡ None → IsOpen s.core.lock → IsSameRecord s s' → (IsInside s → IsInside s')
    → Kept owner ring (put gs g (Some s')) ys
plain owner ring gs ys g s s' k fact here free same inside =
    let f = decisions ys in
    let a = serving f s here free in
    let b = serving f s' (same.plain.here ∙ here) (subst IsOpen (sym same.plain.lock) free) in
    let d = Old gs ys in
    let n : Draw → Option Group = λ h. eff f (put gs g (Some s') h) in
    let old : d g ≡ Some a.e = ap (eff f) fact ∙ a.fact in
    let new : n g ≡ Some b.e = ap (eff f) (at-same gs g (Some s')) ∙ b.fact in
    let other : (h : Draw) → (h ≡ g → ⊥) → d h ≡ n h = λ h ne. ap (eff f) (sym (at-other gs g (Some s') h ne)) in
    let arcs : a.e.core.arc ≡ b.e.core.arc = a.arc ∙ same.arc ∙ sym b.arc in
    let succs : a.e.core.succ.group ≡ b.e.core.succ.group = a.succ ∙ same.succ ∙ sym b.succ in
    let preds : a.e.core.pred ≡ b.e.core.pred = a.pred ∙ ap (λ l. open_pred f l s.core.pred) (sym same.plain.lock) ∙ ap (open_pred f s'.core.lock) same.pred ∙ sym b.pred in
    let agrees : Agrees (view_of d) (view_of n) = record {
      arcs = λ h. elim (draw_cases h g) [ inl q ↦ ap arc_of (ap d q ∙ old) ∙ ap Some arcs ∙ sym (ap arc_of (ap n q ∙ new)) | inr ne ↦ ap arc_of (other h ne) ];
      next = λ h c w. elim (draw_cases h g) [ inl q ↦ ap succ_of (ap d q ∙ old) ∙ succs ∙ sym (ap succ_of (ap n q ∙ new)) | inr ne ↦ ap succ_of (other h ne) ];
      prev = λ h c w. elim (draw_cases h g) [ inl q ↦ ap pred_of (ap d q ∙ old) ∙ ap (λ (x : Link). x.group) preds ∙ sym (ap pred_of (ap n q ∙ new)) | inr ne ↦ ap pred_of (other h ne) ];
    } in
    let mine : IsInside b.e = inside_same s' b.e (sym b.arc) (sym b.pairs) (inside (inside_same a.e s a.arc a.pairs (k.1.1 g a.e old))) in (
      plain_facts gs ys owner g s s' k.0 fact free same.plain,
      (
        whole_agree (view_of d) (view_of n) agrees k.1.0,
        λ h c q. elim (draw_cases h g) [
          | inl w ↦ subst IsInside (same_Some b.e c (sym new ∙ ap n (sym w) ∙ q)) mine
          | inr ne ↦ k.1.1 h c (other h ne ∙ q)
        ],
        λ h. k.1.2 h ∙ agrees.arcs h,
      ),
    )

-- ---- calls

-- an operation on a key of the arc changes pairs on the arc alone
inside_after : (arc : Arc) (op : Op) (m : Contents) → holds_key arc (key_of op) ≡ true → ((key : List ℕ) → holds_key arc key ≡ false → get m key ≡ None) → (key : List ℕ) → holds_key arc key ≡ false → get (after op m) key ≡ None
inside_after arc op m held inside key out =
    let part : List ℕ → Bool = λ k. not (holds_key arc k) in
    let mine : part key ≡ true = not_from_false (holds_key arc key) out in
    let other : part (key_of op) ≡ false = not_from_true (holds_key arc (key_of op)) held in
    sym (cond-true (part key) (get (after op m) key) None mine)
    ∙ sym (get-part (after op m) part key)
    ∙ ap (λ c. get c key) (apart op m part ∙ cond-false (part (key_of op)) (after op (retain_keys m part)) (retain_keys m part) other)
    ∙ get-part m part key
    ∙ cond-true (part key) (get m key) None mine
    ∙ inside key out

module _ (owner : Draw → Option Draw) (ring : Ring) (gs : Groups) (ys : Stories) (g : Draw) (s : Group) (k : Kept owner ring gs ys) (fact : gs g ≡ Some s) where
  abbrev Calls : Group × Effect → Type 0
  Calls r = Kept owner ring (put gs g (Some r.0)) ys

  done_kept : (client seq : ℕ) (op : Op) → s.core.gone ≡ None → IsOpen s.core.lock → holds_key s.core.arc (key_of op) ≡ true → Calls (done s client seq op)
  done_kept client seq op here free held =
      plain owner ring gs ys g s (done s client seq op).0 k fact here free
      (record { plain = record { id = refl; lock = refl; here = refl; decided = λ t. refl; voted = λ t. refl; born = λ h b. b }; arc = refl; succ = refl; pred = refl })
      (λ inside. inside_after s.core.arc op s.pairs held inside)

  noted_kept : (client seq : ℕ) (op : Op) → s.core.gone ≡ None → IsOpen s.core.lock → holds_key s.core.arc (key_of op) ≡ true → (o : Option Noted) → Calls (served_by_note o s client seq op)
  noted_kept client seq op here free held None = done_kept client seq op here free held
  noted_kept client seq op here free held (Some noted) =
      cond_both (nat_lt noted.seq seq) _ _ Calls (λ a. done_kept client seq op here free held)
      (λ a. cond_both (noted.seq == seq) _ _ Calls (λ b. idle owner ring gs ys g s k fact) (λ b. idle owner ring gs ys g s k fact))

  served_kept : (client seq : ℕ) (op : Op) → s.core.gone ≡ None → IsOpen s.core.lock → Calls (served s client seq op)
  served_kept client seq op here free =
      cond_both (holds_key s.core.arc (key_of op)) _ _ Calls (λ e. noted_kept client seq op here free e (get s.clients client)) (λ e. idle owner ring gs ys g s k fact)

  pub call_kept : (client seq : ℕ) (op : Op) (went : Option Route) → s.core.gone ≡ went → (l : Lock) → s.core.lock ≡ l → Calls (called went l s client seq op)
  call_kept client seq op (Some into) here l e = idle owner ring gs ys g s k fact
  call_kept client seq op None here Free e = served_kept client seq op here (inl e)
  call_kept client seq op None here (Coordinating tx body order heard) e = idle owner ring gs ys g s k fact
  call_kept client seq op None here (Promised tx offer) e = idle owner ring gs ys g s k fact
  call_kept client seq op None here (Watching tx watch) e = served_kept client seq op here (inr (tx, watch, e))

-- ---- orders

pub lock_free : (l : Lock) → locked_in l ≡ None → l ≡ Free
lock_free Free e = refl
lock_free (Coordinating tx body order heard) e = absurd (some_none tx e)
lock_free (Promised tx offer) e = absurd (some_none tx e)
lock_free (Watching tx watch) e = absurd (some_none tx e)

refused_not : (o : Option Draw) (core : Core) (command : Command) → refused_in o core command ≡ None → (o ≡ None) × (refused_free core command ≡ None)
refused_not None core command e = (refl, e)
refused_not (Some tx) core command e = absurd (some_none (InTransaction tx) e)

-- what an order that is carried out has met
pub record IsOrder (s : Group) (command : Command) : Type 0 where
  pub here : s.core.gone ≡ None
  pub free : s.core.lock ≡ Free
  pub fit : refused_free s.core command ≡ None

ordered_by_went : (P : Group × Effect → Type 0) (s next : Group) (command : Command) → ((e : Effect) → is_changed e ≡ false → P (s, e)) → (IsOrder s command → P (next, Was.Changed))
    → (went : Option Route) → s.core.gone ≡ went → (why : Option OrderRefusal) → refusal_of s.core command ≡ why → P (ordered went why next s)
ordered_by_went P s next command quiet go (Some into) here why e = quiet (Was.Refused (NotLeader None)) refl
ordered_by_went P s next command quiet go None here (Some why) e = quiet (Was.Refused why) refl
ordered_by_went P s next command quiet go None here None e =
    let r = refused_not (locked_in s.core.lock) s.core command e in go (record { here = here; free = lock_free s.core.lock r.0; fit = r.1 })

pub order_cases : (P : Group × Effect → Type 0) (s next : Group) (command : Command) → ((e : Effect) → is_changed e ≡ false → P (s, e)) → (IsOrder s command → P (next, Was.Changed))
    → P (ordered s.core.gone (refusal_of s.core command) next s)
order_cases P s next command quiet go = ordered_by_went P s next command quiet go s.core.gone refl (refusal_of s.core command) refl

-- a draw that names nothing here yet
pub record IsNew (s : Group) (draw : Draw) : Type 0 where
  pub unborn : has_born s.core draw ≡ false
  pub undecided : has_decided s.core draw ≡ false

pub named_cases : (P : Group × Effect → Type 0) (s next : Group) (draw : Draw) (command : Command) → ((e : Effect) → is_changed e ≡ false → P (s, e)) → (IsOrder s command → IsNew s draw → P (next, Was.Changed))
    → P (ordered_by (Some draw) (refusal_of s.core command) next s)
named_cases P s next draw command quiet go =
    cond_both (has_named s.core draw) _ _ P (λ e. quiet (Was.NoEffect draw) refl)
    (λ e. (let a = or_parts (has_born s.core draw || has_decided s.core draw) (is_locked_in (locked_in s.core.lock) draw) e in
    let b = or_parts (has_born s.core draw) (has_decided s.core draw) a.0 in
    order_cases P s next command quiet (λ o. go o (record { unborn = b.0; undecided = b.1 }))))

module _ (owner : Draw → Option Draw) (ring : Ring) (gs : Groups) (ys : Stories) (g : Draw) (s : Group) (k : Kept owner ring gs ys) (fact : gs g ≡ Some s) where
  pub join_kept : (node order : ℕ) → Kept owner ring (put gs g (Some (ordered_by None (refusal_of s.core (Join node order)) (with_node s node) s).0)) ys
  join_kept node order =
      order_cases (λ r. Kept owner ring (put gs g (Some r.0)) ys) s (with_node s node) (Join node order) (λ e q. idle owner ring gs ys g s k fact)
      (λ o. plain owner ring gs ys g s (with_node s node) k fact o.here (inl o.free)
      (record { plain = record { id = refl; lock = refl; here = refl; decided = λ t. refl; voted = λ t. refl; born = λ h b. b }; arc = refl; succ = refl; pred = refl }) (λ inside. inside))

  pub leave_kept : (node order : ℕ) → Kept owner ring (put gs g (Some (ordered_by None (refusal_of s.core (Leave node order)) (without_node s node) s).0)) ys
  leave_kept node order =
      order_cases (λ r. Kept owner ring (put gs g (Some r.0)) ys) s (without_node s node) (Leave node order) (λ e q. idle owner ring gs ys g s k fact)
      (λ o. plain owner ring gs ys g s (without_node s node) k fact o.here (inl o.free)
      (record { plain = record { id = refl; lock = refl; here = refl; decided = λ t. refl; voted = λ t. refl; born = λ h b. b }; arc = refl; succ = refl; pred = refl }) (λ inside. inside))

  -- the group locks, for a transaction that is new
  pub lock_taken : (tx : Draw) (body : Body) (order : ℕ) → s.core.lock ≡ Free → s.core.gone ≡ None → ys tx ≡ None → owner tx ≡ Some g
      → ((at : ℕ) (child : Draw) → body ≡ At.Split at child → gs tx ≡ None) → (s.core.succ.group ≡ g → ⊥) → IsOwnBody body tx
      → Kept owner ring (put gs g (Some (begun_group s tx body order))) (put ys tx (Some (new_story s body)))
  lock_taken tx body order free here fresh mine unborn apart own =
      let s' = begun_group s tx body order in
      let ys' = put ys tx (Some (new_story s body)) in (
        begin_facts gs ys owner g s tx body order k.0 fact free here fresh mine unborn apart own,
        whole_change ring gs ys ys' g s s' fact (like_at ys tx (new_story s body) None fresh (like_same None None refl))
            (let a = eff_free (decisions ys) s here free in
            let b : eff (decisions ys') (Some s') ≡ Some s' = living_is s' here in
            (ap arc_of a ∙ sym (ap arc_of b), ap succ_of a ∙ sym (ap succ_of b), ap pred_of a ∙ sym (ap pred_of b), ap pairs_of a ∙ sym (ap pairs_of b))) k.1,
      )

shared_own : (body : Body) (tx : Draw) → IsShared body → IsOwnBody body tx
shared_own At.Merge tx h = tt
shared_own (At.Repart at) tx h = h
shared_own (At.Migrate node) tx h = tt
shared_own (At.Split at child) tx h = absurd h

shared_whole : (body : Body) (at : ℕ) (child : Draw) → IsShared body → body ≡ At.Split at child → ⊥
shared_whole body at child h e = subst IsShared e h

begin_apart : (core : Core) (body : Body) → begin_refused core body ≡ None → is_alone core ≡ false
begin_apart core body e =
    elim (cases_Bool (is_alone core)) [
      | inl t ↦ absurd (some_none NoNeighbour (sym (cond-true (is_alone core) (Some NoNeighbour) (body_refused body core) t) ∙ e))
      | inr t ↦ t
    ]

module _ (owner : Draw → Option Draw) (ring : Ring) (gs : Groups) (ys : Stories) (g : Draw) (s : Group) (k : Kept owner ring gs ys) (fact : gs g ≡ Some s) where
  pub begin_kept : (tx : Draw) (body : Body) (order : ℕ) → owner tx ≡ Some g → IsShared body
      → (let r = ordered_by (Some tx) (refusal_of s.core (Begin tx body order)) (begun_group s tx body order) s in Kept owner ring (put gs g (Some r.0)) (stories_after s (Begin tx body order) r.1 ys))
  begin_kept tx body order mine shared =
      let named = (k.0.group g s fact).named in
      let quiet = idle owner ring gs ys g s k fact in
      named_cases (λ r. Kept owner ring (put gs g (Some r.0)) (stories_after s (Begin tx body order) r.1 ys)) s (begun_group s tx body order) tx (Begin tx body order)
      (λ e q. subst (λ b. Kept owner ring (put gs g (Some s)) (cond b (put ys tx (Some (new_story s body))) ys)) (sym q) quiet)
      (λ o n. lock_taken owner ring gs ys g s k fact tx body order o.free o.here (draw_new gs ys owner g tx s k.0 mine fact o.free n.undecided (ys tx) refl) mine
      (λ at child e. absurd (shared_whole body at child shared e))
      (λ e. names_differ s.core.succ.group s.core.id (begin_apart s.core body o.fit) (e ∙ sym named)) (shared_own body tx shared))
