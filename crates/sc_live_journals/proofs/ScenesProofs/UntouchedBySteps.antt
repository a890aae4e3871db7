-- Which steps leave a group untouched: what is so after a step was so before it, and only a question that is sent on is of such a group.
use Rattle.std.proofs.Common.{◌≡◌, ℕ, true, List, ◌⊎◌, inl, inr, refl, sym, ◌∙◌, ap, subst}
use Rattle.sc_base.specs.Definitions.{Among, Each}
use Rattle.sc_node_table.specs.Values.{Draw, Seat}
use Rattle.sc_live_steps.specs.orders.OrderDefinitions.{Turn, First, Lone, Next, Errand, Question, Elsewhere, Reply, Result, Work, Opens, Scene, IsNone, Deal, Stage, Still, Ordered, Asks, SentOn, Weighs, Replied, Recorded, Closes, ClosesBoth, heard, parties_of, IsAt, closed, IsTaken, OfQuestion, OfVote, OfOutcome, LastTakes, OneTakes, TwoTakes, LastFreed, OneFreed, TwoFreed, IsStepOf, ByRest, ByOrder, ByChange, ByDeal, ByPassing, ByAsking, ByTaking, ByVote, ByNo, ByHearing, ByDeciding, ByEnd}
use Rattle.sc_live_steps.proofs.OrderStepsProofs.OrderStepLemmas.{tokens, found, errands_of, no-errand}
use Rattle.sc_meaning.specs.sound.SoundDefinitions.{Player}
use Rattle.sc_live_steps.specs.calm.CalmDefinitions.{Rows}
use Rattle.sc_live_journals.specs.scenes.SceneDefinitions.{IsHeard, IsFresh, IsThere, AreThere}

-- none is, once an outcome is under way
closed_none : (tx asked : Draw) (turn : Turn) (host : ℕ) (name : Draw) → IsFresh (closed tx asked turn host) name → ⊥
closed_none tx asked First host name f = f
closed_none tx asked Lone host name f = f
closed_none tx asked (Next part node) host name f = f

-- by what a leader takes
pub taken_back : (group : Draw) (stage later : Stage) (name : Draw) → IsTaken group stage later → IsFresh later name → IsFresh stage name × (name ≡ group → ⊥)
taken_back group stage later name (OfQuestion s) f =
    let g : IsFresh (Weighs s.deal s.host) name = subst (λ x. IsFresh x name) s.after_is f in
    (subst (λ x. IsFresh x name) (sym s.before_is) (g.0, g.2), λ e. g.1 (e ∙ sym s.asked_is))
taken_back group stage later name (OfVote s) f =
    let g : IsFresh (Recorded s.deal s.agreed s.host) name = subst (λ x. IsFresh x name) s.after_is f in
    (subst (λ x. IsFresh x name) (sym s.before_is) g, λ e. g.0 (e ∙ sym s.coord_is))
taken_back group stage later name (OfOutcome (LastTakes tx party e l g a)) f = absurd (subst (λ x. IsFresh x name) a f)
taken_back group stage later name (OfOutcome (OneTakes tx one two e l g a)) f = absurd (subst (λ x. IsFresh x name) a f)
taken_back group stage later name (OfOutcome (TwoTakes tx one two e l g a)) f = absurd (subst (λ x. IsFresh x name) a f)

-- by any step of an order that is under way
pub step_back : (group : Draw) (stage later : Stage) (name : Draw) → IsStepOf group stage later → (stage ≡ Still → ⊥) → IsFresh later name → IsFresh stage name
step_back group stage later name (ByRest e) on f = subst (λ x. IsFresh x name) e f
step_back group stage later name (ByOrder s) on f = absurd (on s.before_is)
step_back group stage later name (ByChange s) on f = absurd (subst (λ x. IsFresh x name) s.after_is f)
step_back group stage later name (ByDeal s) on f =
    let g : IsFresh (Asks s.deal s.to) name = subst (λ x. IsFresh x name) s.after_is f in
    subst (λ x. IsFresh x name) (sym s.before_is) (λ e. g.0 (e ∙ sym s.coord_is))
step_back group stage later name (ByPassing s) on f = subst (λ x. IsFresh x name) (sym s.before_is) (subst (λ x. IsFresh x name) s.after_is f)
step_back group stage later name (ByAsking s) on f = subst (λ x. IsFresh x name) (sym s.before_is) (subst (λ x. IsFresh x name) s.after_is f)
step_back group stage later name (ByTaking s) on f = (taken_back group stage later name s f).0
step_back group stage later name (ByVote s) on f = subst (λ x. IsFresh x name) (sym s.before_is) (subst (λ x. IsFresh x name) s.after_is f)
step_back group stage later name (ByNo s) on f = absurd (subst (λ x. IsFresh x name) s.after_is f)
step_back group stage later name (ByHearing s) on f =
    let g : IsFresh (Asks s.next s.to) name = subst (λ x. IsFresh x name) s.after_is f in
    subst (λ x. IsFresh x name) (sym s.before_is)
    ((λ e. g.0 (e ∙ sym s.coord_same)), (λ e. g.1 (subst (λ t. IsHeard t name) (sym s.turn_is) e)), (λ h. subst (λ t. IsHeard t name) s.first h))
step_back group stage later name (ByDeciding s) on f = absurd (closed_none s.deal.tx s.deal.asked s.deal.turn s.host name (subst (λ x. IsFresh x name) s.after_is f))
step_back group stage later name (ByEnd (LastFreed tx party e l g a)) on f = absurd (subst (λ x. IsFresh x name) a f)
step_back group stage later name (ByEnd (OneFreed tx one two e l g a)) on f = absurd (subst (λ x. IsFresh x name) a f)
step_back group stage later name (ByEnd (TwoFreed tx one two e l g a)) on f = absurd (subst (λ x. IsFresh x name) a f)

-- a group that is untouched after an order is not the one that gets it
pub begun_other : (group : Draw) (later : Stage) (name : Draw) → IsStepOf group Still later → IsFresh later name → name ≡ group → ⊥
begun_other group later name (ByRest e) f = absurd (subst (λ x. IsFresh x name) e f)
begun_other group later name (ByOrder s) f = subst (λ x. IsFresh x name) s.after_is f
begun_other group later name (ByChange s) f = (let e = s.before_is in absurd cc)
begun_other group later name (ByDeal s) f = (let e = s.before_is in absurd cc)
begun_other group later name (ByPassing s) f = (let e = s.before_is in absurd cc)
begun_other group later name (ByAsking s) f = (let e = s.before_is in absurd cc)
begun_other group later name (ByTaking s) f = absurd (taken_back group Still later name s f).0
begun_other group later name (ByVote s) f = (let e = s.before_is in absurd cc)
begun_other group later name (ByNo s) f = (let e = s.before_is in absurd cc)
begun_other group later name (ByHearing s) f = (let e = s.before_is in absurd cc)
begun_other group later name (ByDeciding s) f = (let e = s.before_is in absurd cc)
begun_other group later name (ByEnd (LastFreed tx party e l g a)) f = absurd cc
begun_other group later name (ByEnd (OneFreed tx one two e l g a)) f = absurd cc
begun_other group later name (ByEnd (TwoFreed tx one two e l g a)) f = absurd cc

-- the group that is asked is apart from the others
unheard : (tx name : Draw) (turn : Turn) → IsNone name (heard tx turn) → IsHeard turn name → ⊥
unheard tx name First none fact = fact
unheard tx name Lone none fact = fact
unheard tx name (Next part host) none fact = none.0 fact

pub asked_fresh : (now : Scene) (deal : Deal) (to : ℕ) → IsAt (Asks deal to) now → IsFresh (Asks deal to) deal.asked
asked_fresh now deal to a = ((λ e. a.apart.0.0 (sym e)), unheard deal.tx deal.asked deal.turn a.apart.1.0)

pub sent_on_fresh : (now : Scene) (deal : Deal) → IsAt (SentOn deal) now → IsFresh (SentOn deal) deal.asked
sent_on_fresh now deal a = ((λ e. a.apart.0.0 (sym e)), unheard deal.tx deal.asked deal.turn a.apart.1.0)

-- ---- the groups that have a part

module _ (births : List (Seat Player)) (quiet : Rows) where
  abbrev There : Stage → Type 0
  There stage = AreThere births quiet stage

  closed_there : (tx asked : Draw) (turn : Turn) (host : ℕ) → IsThere births quiet asked → Each (λ party. IsThere births quiet party.0) (heard tx turn) → There (closed tx asked turn host)
  closed_there tx asked First host a h = (a, tt)
  closed_there tx asked Lone host a h = (a, tt)
  closed_there tx asked (Next part node) host a h = (h.0, (a, tt))

  unheard_there : (tx : Draw) (turn : Turn) → (turn ≡ First) ⊎ (turn ≡ Lone) → Each (λ party. IsThere births quiet party.0) (heard tx turn)
  unheard_there tx turn (inl e) = subst (λ t. Each (λ party. IsThere births quiet party.0) (heard tx t)) (sym e) tt
  unheard_there tx turn (inr e) = subst (λ t. Each (λ party. IsThere births quiet party.0) (heard tx t)) (sym e) tt

  -- by a step they stay there, if a group that is asked is
  pub step_there : (group : Draw) (stage later : Stage) → IsStepOf group stage later → (stage ≡ Still → ⊥) → ((deal : Deal) (to : ℕ) → later ≡ Asks deal to → IsThere births quiet deal.asked) → There stage → There later
  step_there group stage later (ByRest e) on asked t = subst There (sym e) t
  step_there group stage later (ByOrder s) on asked t = absurd (on s.before_is)
  step_there group stage later (ByChange s) on asked t = subst There (sym s.after_is) tt
  step_there group stage later (ByDeal s) on asked t =
      let was : There (Ordered group s.deal.chief (Opens s.deal.tx)) = subst There s.before_is t in
      subst There (sym s.after_is) (subst (IsThere births quiet) (sym s.coord_is) was.0, (asked s.deal s.to s.after_is, unheard_there s.deal.tx s.deal.turn s.turn_is))
  step_there group stage later (ByPassing s) on asked t =
      let was : There (Asks s.deal s.to) = subst There s.before_is t in
      subst There (sym s.after_is) was
  step_there group stage later (ByAsking s) on asked t =
      let was : There (SentOn s.deal) = subst There s.before_is t in
      subst There (sym s.after_is) was
  step_there group stage later (ByTaking (OfQuestion s)) on asked t =
      let was : There (Asks s.deal s.to) = subst There s.before_is t in
      subst There (sym s.after_is) was
  step_there group stage later (ByTaking (OfVote s)) on asked t =
      let was : There (Replied s.deal s.agreed s.host) = subst There s.before_is t in
      subst There (sym s.after_is) was
  step_there group stage later (ByTaking (OfOutcome (LastTakes tx party e l g a))) on asked t =
      let was : There (Closes tx party) = subst There e t in
      subst There (sym a) was
  step_there group stage later (ByTaking (OfOutcome (OneTakes tx one two e l g a))) on asked t =
      let was : There (ClosesBoth tx one two) = subst There e t in
      subst There (sym a) was
  step_there group stage later (ByTaking (OfOutcome (TwoTakes tx one two e l g a))) on asked t =
      let was : There (ClosesBoth tx one two) = subst There e t in
      subst There (sym a) was
  step_there group stage later (ByVote s) on asked t =
      let was : There (Weighs s.deal s.host) = subst There s.before_is t in
      subst There (sym s.after_is) was
  step_there group stage later (ByNo s) on asked t = subst There (sym s.after_is) tt
  step_there group stage later (ByHearing s) on asked t =
      let was : There (Recorded s.deal true s.host) = subst There s.before_is t in
      subst There (sym s.after_is)
      (subst (IsThere births quiet) (sym s.coord_same) was.0, (asked s.next s.to s.after_is, subst (λ u. Each (λ party. IsThere births quiet party.0) (heard s.next.tx u)) (sym s.turn_is) (was.1.0, tt)))
  step_there group stage later (ByDeciding s) on asked t =
      let was : There (Recorded s.deal true s.host) = subst There s.before_is t in
      subst There (sym s.after_is) (closed_there s.deal.tx s.deal.asked s.deal.turn s.host was.1.0 was.1.1)
  step_there group stage later (ByEnd (LastFreed tx party e l g a)) on asked t = subst There (sym a) tt
  step_there group stage later (ByEnd (OneFreed tx one two e l g a)) on asked t =
      let was : There (ClosesBoth tx one two) = subst There e t in
      subst There (sym a) was.1
  step_there group stage later (ByEnd (TwoFreed tx one two e l g a)) on asked t =
      let was : There (ClosesBoth tx one two) = subst There e t in
      subst There (sym a) (was.0, tt)

  -- by an order they are, if the group that gets it is where its leader is
  pub begun_there : (group : Draw) (later : Stage) → IsStepOf group Still later → ((chief : ℕ) (work : Work) → later ≡ Ordered group chief work → IsThere births quiet group) → There later
  begun_there group later (ByRest e) there = subst There (sym e) tt
  begun_there group later (ByOrder s) there = subst There (sym s.after_is) (there s.chief s.work s.after_is, tt)
  begun_there group later (ByChange s) there = (let e = s.before_is in absurd cc)
  begun_there group later (ByDeal s) there = (let e = s.before_is in absurd cc)
  begun_there group later (ByPassing s) there = (let e = s.before_is in absurd cc)
  begun_there group later (ByAsking s) there = (let e = s.before_is in absurd cc)
  begun_there group later (ByTaking (OfQuestion s)) there = (let e = s.before_is in absurd cc)
  begun_there group later (ByTaking (OfVote s)) there = (let e = s.before_is in absurd cc)
  begun_there group later (ByTaking (OfOutcome (LastTakes tx party e l g a))) there = absurd cc
  begun_there group later (ByTaking (OfOutcome (OneTakes tx one two e l g a))) there = absurd cc
  begun_there group later (ByTaking (OfOutcome (TwoTakes tx one two e l g a))) there = absurd cc
  begun_there group later (ByVote s) there = (let e = s.before_is in absurd cc)
  begun_there group later (ByNo s) there = (let e = s.before_is in absurd cc)
  begun_there group later (ByHearing s) there = (let e = s.before_is in absurd cc)
  begun_there group later (ByDeciding s) there = (let e = s.before_is in absurd cc)
  begun_there group later (ByEnd (LastFreed tx party e l g a)) there = absurd cc
  begun_there group later (ByEnd (OneFreed tx one two e l g a)) there = absurd cc
  begun_there group later (ByEnd (TwoFreed tx one two e l g a)) there = absurd cc

-- ---- what is under way for such a group

-- a question
abbrev pub Questions : Errand → Type 0
Questions (Question tx coord watch by to) = Unit {0}
Questions (Elsewhere tx to) = ⊥
Questions (Reply tx watch agreed by to) = ⊥
Questions (Result tx to) = ⊥

pub fresh_errand : (now : Scene) (stage : Stage) (name : Draw) (errand : Errand) → IsAt stage now → IsFresh stage name → Among errand (now.at name).errands → Questions errand
fresh_errand now stage name errand a f there = by stage a f (found errands_of now.at name errand there (parties_of stage) a.parties refl)
  where
    none_left : (tx : Draw) (turn : Turn) → Among (name, errand) (tokens errands_of (heard tx turn)) → Questions errand
    none_left tx turn t = absurd (no-errand tx turn (name, errand) t)

    by : (s : Stage) → IsAt s now → IsFresh s name → Among (name, errand) (tokens errands_of (parties_of s)) → Questions errand
    by Still a f t = absurd f
    by (Ordered group chief work) a f t = absurd t
    by (Asks deal to) a f (inl e) = subst Questions (ap (λ p. p.1) e) tt
    by (Asks deal to) a f (inr t) = none_left deal.tx deal.turn t
    by (SentOn deal) a f (inl e) = absurd (f.0 (sym (ap (λ p. p.0) e)))
    by (SentOn deal) a f (inr t) = none_left deal.tx deal.turn t
    by (Weighs deal host) a f t = none_left deal.tx deal.turn t
    by (Replied deal agreed host) a f (inl e) = absurd (f.0 (sym (ap (λ p. p.0) e)))
    by (Replied deal agreed host) a f (inr t) = none_left deal.tx deal.turn t
    by (Recorded deal agreed host) a f t = none_left deal.tx deal.turn t
    by (Closes tx party) a f t = absurd f
    by (ClosesBoth tx one two) a f t = absurd f
