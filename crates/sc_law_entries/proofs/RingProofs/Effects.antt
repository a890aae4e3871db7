-- What entries do to the effective records.
use Rattle.std.proofs.Common.{◌≡◌, ℕ, false, List, ◌⊎◌, inl, inr, Option, Some, None, refl, sym, ◌∙◌, ap, subst}
use Rattle.std.specs.FinMap.{get, empty}
use Rattle.sc_base.specs.Definitions.{Arc}
use Rattle.sc_base.specs.declared.names.Draw.{Draw}
use Rattle.sc_words.specs.ideal.IdealDefinitions.{Contents, holds_key}
use Rattle.sc_words.specs.declared.commands.bodies.Offer.{Offer}
use Rattle.sc_words.specs.declared.commands.bodies.Watch.{Watch}
use Rattle.sc_words.specs.declared.commands.cores.Lock.{Lock}
use Rattle.sc_words.specs.declared.commands.cores.Lock.TheVariants.{Free, Coordinating, Promised, Watching}
use Rattle.sc_words.specs.declared.commands.links.Route.{Route}
use Rattle.sc_words.specs.declared.commands.votes.Outcome.{Outcome}
use Rattle.sc_words.specs.declared.commands.votes.Outcome.TheVariants.{Abort, Merged, Moved, Migrated, Divided}
use Rattle.sc_group_table.specs.machine.MachineDefinitions.{Group}
use Rattle.sc_meaning.specs.entries.EntryDefinitions.{after_outcome}
use Rattle.sc_law_entries.specs.ring.RingDefinitions.{Story, Stories, put, unsigned, unsigned_watch, Groups, LockOk}
use Rattle.sc_law_entries.proofs.RingProofs.View.{View, Ring, HeldBy}
use Rattle.sc_meaning.proofs.EntriesProofs.EntryLemmas.{draw_cases}
use Rattle.sc_law_entries.proofs.RingProofs.Cover.{at-is, at-other}
use Rattle.sc_law_entries.proofs.RingProofs.Facts.{IsOf}
use Rattle.sc_law_entries.proofs.RingProofs.Recut.{IsWhole}
use Rattle.std.proofs.lemmas.Option.{none-some, same_Some}

-- ---- effective records

-- what was decided of each transaction
abbrev pub Decisions : Type 0
Decisions = Draw → Option Outcome

abbrev pub outcome_of : Option Story → Option Outcome
outcome_of None = None
outcome_of (Some story) = story.outcome

abbrev pub decisions : Stories → Decisions
decisions stories tx = outcome_of (stories tx)

-- a group as its transaction's decision makes it
abbrev pub settle_by : Lock → Decisions → Group → Group
settle_by Free decided group = group
settle_by (Coordinating tx body order heard) decided group = group
settle_by (Promised tx offer) decided group = after_outcome (decided tx) tx group
settle_by (Watching tx watch) decided group = after_outcome (decided tx) tx group

-- a group, unless it is gone
abbrev pub living_by : Option Route → Group → Option Group
living_by None group = Some group
living_by (Some into) group = None

abbrev pub living : Group → Option Group
living group = living_by group.core.gone group

-- the effective record of a group, unless it is gone
abbrev pub eff : Decisions → Option Group → Option Group
eff decided None = None
eff decided (Some group) = living (settle_by group.core.lock decided group)

-- ---- what is seen of it

abbrev pub no_draw : Draw
no_draw = record { node = 0; count = 0 }

abbrev pub arc_of : Option Group → Option Arc
arc_of None = None
arc_of (Some group) = Some group.core.arc

abbrev pub succ_of : Option Group → Draw
succ_of None = no_draw
succ_of (Some group) = group.core.succ.group

abbrev pub pred_of : Option Group → Draw
pred_of None = no_draw
pred_of (Some group) = group.core.pred.group

abbrev pub pairs_of : Option Group → Contents
pairs_of None = empty
pairs_of (Some group) = group.pairs

abbrev pub view_of : (Draw → Option Group) → View
view_of d = record { arc = λ h. arc_of (d h); next = λ h. succ_of (d h); prev = λ h. pred_of (d h) }

-- a group holds pairs on its arc alone
abbrev pub IsInside : Group → Type 0
IsInside group = (key : List ℕ) → holds_key group.core.arc key ≡ false → get group.pairs key ≡ None

abbrev pub AllInside : (Draw → Option Group) → Type 0
AllInside d = (h : Draw) (group : Group) → d h ≡ Some group → IsInside group

-- the ring covers, each group names its neighbours, and holds pairs on its arc alone; the ring has the arcs
abbrev pub Good : Ring → (Draw → Option Group) → Type 0
Good ring d = IsWhole (view_of d) × AllInside d × ((h : Draw) → ring h ≡ arc_of (d h))

-- ---- views that agree where there is an arc

pub record Agrees (v w : View) : Type 0 where
  pub arcs : (h : Draw) → v.arc h ≡ w.arc h
  pub next : (h : Draw) (a : Arc) → w.arc h ≡ Some a → v.next h ≡ w.next h
  pub prev : (h : Draw) (a : Arc) → w.arc h ≡ Some a → v.prev h ≡ w.prev h

pub whole_agree : (v w : View) → Agrees v w → IsWhole v → IsWhole w
whole_agree v w e k = (
  record {
    arcs = λ g a q. k.0.arcs g a (e.arcs g ∙ q);
    owner = λ p q. (let o = k.0.owner p q in (o.0, subst (λ x. HeldBy x p) (e.arcs o.0) o.1));
    only = λ p g h q a b. k.0.only p g h q (subst (λ x. HeldBy x p) (sym (e.arcs g)) a) (subst (λ x. HeldBy x p) (sym (e.arcs h)) b);
  },
  record {
    meets = λ g a q. (let m = k.1.meets g a (e.arcs g ∙ q) in (m.0, sym (e.arcs (w.next g)) ∙ ap v.arc (sym (e.next g a q)) ∙ m.1, m.2));
    back = λ g a q. (
        let m = k.1.meets g a (e.arcs g ∙ q) in
        let n = e.next g a q in
        sym (e.prev (w.next g) m.0 (sym (e.arcs (w.next g)) ∙ ap v.arc (sym n) ∙ m.1)) ∙ ap v.prev (sym n) ∙ k.1.back g a (e.arcs g ∙ q));
    behind = λ g a q. (let m = k.1.behind g a (e.arcs g ∙ q) in (m.0, sym (e.arcs (w.prev g)) ∙ ap v.arc (sym (e.prev g a q)) ∙ m.1));
    forth = λ g a q. (
        let m = k.1.behind g a (e.arcs g ∙ q) in
        let n = e.prev g a q in
        sym (e.next (w.prev g) m.0 (sym (e.arcs (w.prev g)) ∙ ap v.arc (sym n) ∙ m.1)) ∙ ap v.next (sym n) ∙ k.1.forth g a (e.arcs g ∙ q));
  },
)

-- effective records with the same arc, links and pairs
abbrev pub Alike : Option Group → Option Group → Type 0
Alike a b = (arc_of a ≡ arc_of b) × (succ_of a ≡ succ_of b) × (pred_of a ≡ pred_of b) × (pairs_of a ≡ pairs_of b)

pub inside_same : (a b : Group) → a.core.arc ≡ b.core.arc → a.pairs ≡ b.pairs → IsInside a → IsInside b
inside_same a b e p k key n = subst (λ (m : Contents). get m key ≡ None) p (k key (ap (λ (x : Arc). holds_key x key) e ∙ n))

alike_inside : (a : Option Group) (b : Group) → Alike a (Some b) → ((h : Group) → a ≡ Some h → IsInside h) → IsInside b
alike_inside None b k ok = absurd (none-some b.core.arc k.0)
alike_inside (Some a) b k ok = inside_same a b (same_Some a.core.arc b.core.arc k.0) k.3 (ok a refl)

pub alike_all : (d e : Draw → Option Group) → ((h : Draw) → Alike (d h) (e h)) → AllInside d → AllInside e
alike_all d e k ok h b q = alike_inside (d h) b (subst (Alike (d h)) q (k h)) (λ a w. ok h a w)

pub alike_view : (d e : Draw → Option Group) → ((h : Draw) → Alike (d h) (e h)) → Agrees (view_of d) (view_of e)
alike_view d e k = record { arcs = λ h. (k h).0; next = λ h a q. (k h).1; prev = λ h a q. (k h).2 }

pub alike_same : (a b : Option Group) → a ≡ b → Alike a b
alike_same a b e = (ap arc_of e, ap succ_of e, ap pred_of e, ap pairs_of e)

-- ---- decisions that mean the same to locks

abbrev pub Like : Option Outcome → Option Outcome → Type 0
Like a b = (tx : Draw) (s : Group) → after_outcome a tx s ≡ after_outcome b tx s

pub like_same : (a b : Option Outcome) → a ≡ b → Like a b
like_same a b e tx s = ap (λ x. after_outcome x tx s) e

pub like_abort : Like None (Some Abort)
like_abort tx s = refl

settle_like : (f f' : Decisions) → ((t : Draw) → Like (f t) (f' t)) → (l : Lock) (s : Group) → settle_by l f s ≡ settle_by l f' s
settle_like f f' k Free s = refl
settle_like f f' k (Coordinating tx body order heard) s = refl
settle_like f f' k (Promised tx offer) s = k tx tx s
settle_like f f' k (Watching tx watch) s = k tx tx s

pub eff_like : (f f' : Decisions) → ((t : Draw) → Like (f t) (f' t)) → (o : Option Group) → eff f o ≡ eff f' o
eff_like f f' k None = refl
eff_like f f' k (Some s) = ap living (settle_like f f' k s.core.lock s)

-- a story with a like decision
pub like_at : (ys : Stories) (tx : Draw) (y : Story) (o : Option Story) → ys tx ≡ o → Like (outcome_of o) y.outcome → (t : Draw) → Like (decisions ys t) (decisions (put ys tx (Some y)) t)
like_at ys tx y o fact k t =
    elim (draw_cases t tx) [
      | inl q ↦ subst (λ x. Like x (decisions (put ys tx (Some y)) t)) (ap outcome_of (sym fact ∙ ap ys (sym q))) (subst (λ x. Like (outcome_of o) x) (ap outcome_of (sym (at-is ys tx (Some y) t q))) k)
      | inr q ↦ like_same (decisions ys t) (decisions (put ys tx (Some y)) t) (ap outcome_of (sym (at-other ys tx (Some y) t q)))
    ]

-- one group changes, and its effective record stays alike
pub eff_change : (gs : Groups) (f f' : Decisions) (g : Draw) (s s' : Group) → gs g ≡ Some s → ((t : Draw) → Like (f t) (f' t)) → Alike (eff f (Some s)) (eff f' (Some s'))
    → (h : Draw) → Alike (eff f (gs h)) (eff f' (put gs g (Some s') h))
eff_change gs f f' g s s' fact k mine h =
    elim (draw_cases h g) [
      | inl q ↦ (
          let a : eff f (gs h) ≡ eff f (Some s) = ap (eff f) (ap gs q ∙ fact) in
          let b : eff f' (Some s') ≡ eff f' (put gs g (Some s') h) = ap (eff f') (sym (at-is gs g (Some s') h q)) in
          (ap arc_of a ∙ mine.0 ∙ ap arc_of b, ap succ_of a ∙ mine.1 ∙ ap succ_of b, ap pred_of a ∙ mine.2 ∙ ap pred_of b, ap pairs_of a ∙ mine.3 ∙ ap pairs_of b))
      | inr q ↦ alike_same (eff f (gs h)) (eff f' (put gs g (Some s') h)) (eff_like f f' k (gs h) ∙ ap (eff f') (sym (at-other gs g (Some s') h q)))
    ]

abbrev pub Old : Groups → Stories → Draw → Option Group
Old gs ys h = eff (decisions ys) (gs h)

pub good_alike : (ring : Ring) (d e : Draw → Option Group) → ((h : Draw) → Alike (d h) (e h)) → Good ring d → Good ring e
good_alike ring d e all w = (whole_agree (view_of d) (view_of e) (alike_view d e all) w.0, alike_all d e all w.1, λ h. w.2 h ∙ (all h).0)

pub whole_change : (ring : Ring) (gs : Groups) (ys ys' : Stories) (g : Draw) (s s' : Group) → gs g ≡ Some s → ((t : Draw) → Like (decisions ys t) (decisions ys' t)) → Alike (eff (decisions ys) (Some s)) (eff (decisions ys') (Some s'))
    → Good ring (Old gs ys) → Good ring (Old (put gs g (Some s')) ys')
whole_change ring gs ys ys' g s s' fact k mine w =
    good_alike ring (Old gs ys) (Old (put gs g (Some s')) ys') (eff_change gs (decisions ys) (decisions ys') g s s' fact k mine) w

-- ---- the effective record of one group by its lock

pub eff_by : (f : Decisions) (s : Group) (l : Lock) → s.core.lock ≡ l → eff f (Some s) ≡ living (settle_by l f s)
eff_by f s l lock = ap (λ k. living (settle_by k f s)) lock

pub living_is : (s : Group) → s.core.gone ≡ None → living s ≡ Some s
living_is s here = ap (λ r. living_by r s) here

pub eff_free : (f : Decisions) (s : Group) → s.core.gone ≡ None → s.core.lock ≡ Free → eff f (Some s) ≡ Some s
eff_free f s here lock = eff_by f s Free lock ∙ living_is s here

-- a transaction that a group has not voted on is not committed on it
pub no_commit : (o : Option Outcome) → ((x : Outcome) → o ≡ Some x → (x ≡ Abort → ⊥) → ⊥) → Like o None
no_commit None k = like_same None None refl
no_commit (Some Abort) k = λ tx s. refl
no_commit (Some (Merged into)) k = absurd (k (Merged into) refl (λ e. cc))
no_commit (Some (Moved at gift)) k = absurd (k (Moved at gift) refl (λ e. cc))
no_commit (Some (Migrated node)) k = absurd (k (Migrated node) refl (λ e. cc))
no_commit (Some Divided) k = absurd (k Divided refl (λ e. cc))

-- ---- who is locked in another group's transaction

pub record IsParty (y : Story) (h tx : Draw) (lock : Lock) : Type 0 where
  pub cases : ((offer : Offer) × (lock ≡ Promised tx offer) × (y.offer ≡ Some (unsigned offer)) × (offer.part ≡ h)) ⊎ ((watch : Watch) × (lock ≡ Watching tx watch) × (y.watch ≡ Some (unsigned_watch watch)) × (watch.part ≡ h))

pub party : (ys : Stories) (tx : Draw) (y : Story) (g h : Draw) (u : Group) → ys tx ≡ Some y → y.coordinator ≡ g → (h ≡ g → ⊥) → (l : Lock) → LockOk ys h u l → IsOf l tx → IsParty y h tx l
party ys tx y g h u fact coord ne Free ok of = absurd of
party ys tx y g h u fact coord ne (Coordinating t body order heard) ok of =
    absurd (ne (sym ok.coordinator ∙ sym (ap (λ (z : Story). z.coordinator) (same_Some y ok.story (sym fact ∙ ap ys (sym of) ∙ ok.fact))) ∙ coord))
party ys tx y g h u fact coord ne (Promised t offer) ok of = record {
  cases = inl (offer, ap (λ n. Promised n offer) of, ap (λ (z : Story). z.offer) (same_Some y ok.story (sym fact ∙ ap ys (sym of) ∙ ok.fact)) ∙ ok.offered, ok.part);
}
party ys tx y g h u fact coord ne (Watching t watch) ok of = record {
  cases = inr (watch, ap (λ n. Watching n watch) of, ap (λ (z : Story). z.watch) (same_Some y ok.story (sym fact ∙ ap ys (sym of) ∙ ok.fact)) ∙ ok.asked, ok.part);
}
