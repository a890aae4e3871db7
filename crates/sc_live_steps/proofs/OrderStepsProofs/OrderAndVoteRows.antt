-- Rows in which a leader executes an order, and in which the group that is asked votes.
use Rattle.std.proofs.Common.{◌≡◌, ℕ, Bool, true, false, List, [], ◌∷◌, Option, Some, inl, inr, refl, sym, ◌∙◌, ap, subst, cond}
use Rattle.sc_node_table.specs.Values.{Draw}
use Rattle.sc_live_steps.specs.orders.OrderDefinitions.{Turn, First, Lone, Next, is_watch, Unbound, Asking, Errand, Question, Reply, Work, Opens, Answers, Records, Ends, Here, free, Scene, Deal, Still, Ordered, Asks, Weighs, Replied, coordinator, asked_one, bound_by, leads_of, IsOrder, IsVote, IsAt, IsRow, Changed, Opened, Voted, BeginsDeal, Votes, Comes, StepsBy}
use Rattle.sc_live_steps.specs.orders.StageSteps.{Changes}
use Rattle.sc_live_steps.proofs.OrderStepsProofs.NamedValues.{AreOne, cases-draw, having}
use Rattle.sc_live_steps.proofs.OrderStepsProofs.PartyChanges.{other-mailed, other-same, leads-stay, deal-goes}
use Rattle.sc_live_steps.proofs.OrderStepsProofs.WorkStages.{AtEach, by-work, own-done}

pub first : {X : Type 0} {a b : Draw × X} → a ≡ b → a.0 ≡ b.0
first e = ap (λ p. p.0) e

pub second : {X : Type 0} {a b : Draw × X} → a ≡ b → a.1 ≡ b.1
second e = ap (λ p. p.1) e

-- ---- an order that begins no transaction

module _ (now after : Scene) (group : Draw) (taken : Option Errand) (sent : Draw → List Errand) (row : IsRow now after group taken sent) (d : Changed now after group taken sent) where
  changed_over : (name : Draw) (chief : ℕ) (order : Work) → IsAt (Ordered name chief order) now → AreOne (name, order) (group, d.order) → Comes Changes group (Ordered name chief order) after
  changed_over name chief order a e = (
    Still,
    record { parties = (tt, λ other none. all other); leads = tt; apart = tt; sound = tt },
    record { chief = chief; work = order; before_is = ap (λ n. Ordered n chief order) (first e); after_is = refl },
  )
    where
      fact : name ≡ group
      fact = first e

      was : now.at group ≡ having Unbound (order ∷ []) []
      was = ap now.at (sym fact) ∙ a.parties.0.0

      all : (other : Draw) → after.at other ≡ free
      all other = elim (cases-draw other group) [
        | inl i ↦ ap after.at i ∙ own-done d.order now after group taken sent row d.execution (having Unbound (order ∷ []) []) Unbound was refl (d.sends.1 group tt) (d.bond ∙ ap (λ (h : Here). h.bond) was)
        | inr ne ↦ other-same now after group taken sent row other ne (d.sends.1 other tt) ∙ a.parties.1 other ((λ i. ne (i ∙ fact)), tt)
      ]

  changed_at : AtEach d.order now group (λ s. Comes Changes group s after)
  changed_at = record {
    ordered = changed_over;
    weighs = λ deal host a e. absurd (subst IsOrder (sym (second e)) d.is_order);
    recorded = λ deal agreed host a e. absurd (subst IsOrder (sym (second e)) d.is_order);
    closes = λ tx party a l e. absurd (subst IsOrder (sym (second e)) d.is_order);
    one = λ tx one two a l e. absurd (subst IsOrder (sym (second e)) d.is_order);
    two = λ tx one two a l e. absurd (subst IsOrder (sym (second e)) d.is_order);
  }

pub changed-step : StepsBy Changed Changes
changed-step now after group taken sent row d s a = by-work d.order now after group taken (λ s. Comes Changes group s after) d.execution s a (changed_at now after group taken sent row d)

-- ---- an order that begins one

module _ (now after : Scene) (group : Draw) (taken : Option Errand) (sent : Draw → List Errand) (row : IsRow now after group taken sent) (d : Opened now after group taken sent) where
  abbrev begun : Turn → Deal
  begun turn = record { tx = d.tx; coord = group; chief = d.chief; asked = d.asked; turn = turn }

  module _ (name : Draw) (chief : ℕ) (order : Work) (a : IsAt (Ordered name chief order) now) (e : AreOne (name, order) (group, Opens d.tx)) where
    fact : name ≡ group
    fact = first e

    was : now.at group ≡ having Unbound (order ∷ []) []
    was = ap now.at (sym fact) ∙ a.parties.0.0

    none_asked : now.at d.asked ≡ free
    none_asked = a.parties.1 d.asked ((λ i. d.apart (i ∙ fact)), tt)

    at_asked : after.at d.asked ≡ having Unbound [] (Question d.tx group d.watch d.chief d.node ∷ [])
    at_asked = other-mailed now after group taken sent row d.asked free (Question d.tx group d.watch d.chief d.node ∷ []) d.apart none_asked d.sends.0.0

    at_coord : (turn : Turn) → (after.at group).bond ≡ Asking d.tx d.asked turn → after.at group ≡ (coordinator (begun turn) [] []).1
    at_coord turn b = own-done (Opens d.tx) now after group taken sent row d.execution (having Unbound (order ∷ []) []) (Asking d.tx d.asked turn) was refl (d.sends.1 group ((λ i. d.apart (sym i)), tt)) b

    rest : (other : Draw) → (other ≡ group → ⊥) → (other ≡ d.asked → ⊥) → after.at other ≡ free
    rest other c b = other-same now after group taken sent row other c (d.sends.1 other (b, tt)) ∙ a.parties.1 other ((λ i. c (i ∙ fact)), tt)

    chief_is : chief ≡ d.chief
    chief_is = (let f : Some chief ≡ Some d.chief = sym a.leads.0 ∙ (ap now.lead fact ∙ d.led) in cc)

    -- it was the order of that transaction
    opened_by : Ordered name chief order ≡ Ordered group d.chief (Opens d.tx)
    opened_by = ap (λ n. Ordered n chief order) fact ∙ (ap (λ n. Ordered group n order) chief_is ∙ ap (Ordered group d.chief) (second e))

    opened_turn : (watch : Bool) → d.watch ≡ watch → Comes BeginsDeal group (Ordered name chief order) after
    opened_turn true w = (
      Asks (begun Lone) d.node,
      record {
        parties = ((at_coord Lone (d.bond ∙ ap (λ x. Asking d.tx d.asked (cond x Lone First)) w), (at_asked ∙ ap (λ x. having Unbound [] (Question d.tx group x d.chief d.node ∷ [])) w, tt)), λ other none. rest other none.0 none.1.0);
        leads = (d.leads d.chief d.led, tt);
        apart = (((λ i. d.apart (sym i)), tt), (tt, tt));
        sound = tt;
      },
      record { deal = begun Lone; to = d.node; before_is = opened_by; coord_is = refl; turn_is = inr refl; after_is = refl },
    )
    opened_turn false w = (
      Asks (begun First) d.node,
      record {
        parties = ((at_coord First (d.bond ∙ ap (λ x. Asking d.tx d.asked (cond x Lone First)) w), (at_asked ∙ ap (λ x. having Unbound [] (Question d.tx group x d.chief d.node ∷ [])) w, tt)), λ other none. rest other none.0 none.1.0);
        leads = (d.leads d.chief d.led, tt);
        apart = (((λ i. d.apart (sym i)), tt), (tt, tt));
        sound = tt;
      },
      record { deal = begun First; to = d.node; before_is = opened_by; coord_is = refl; turn_is = inl refl; after_is = refl },
    )

  opened_at : AtEach (Opens d.tx) now group (λ s. Comes BeginsDeal group s after)
  opened_at = record {
    ordered = λ name chief order a e. opened_turn name chief order a e d.watch refl;
    weighs = λ deal host a e. (let f : Answers deal.tx deal.coord (is_watch deal.turn) deal.chief ≡ Opens d.tx = second e in absurd cc);
    recorded = λ deal agreed host a e. (let f : Records deal.tx (is_watch deal.turn) agreed host ≡ Opens d.tx = second e in absurd cc);
    closes = λ tx party a l e. (let f : Ends tx ≡ Opens d.tx = second e in absurd cc);
    one = λ tx one two a l e. (let f : Ends tx ≡ Opens d.tx = second e in absurd cc);
    two = λ tx one two a l e. (let f : Ends tx ≡ Opens d.tx = second e in absurd cc);
  }

pub opened-step : StepsBy Opened BeginsDeal
opened-step now after group taken sent row d s a = by-work (Opens d.tx) now after group taken (λ s. Comes BeginsDeal group s after) d.execution s a (opened_at now after group taken sent row d)

-- ---- a vote

vote_ok : (turn : Turn) (agreed : Bool) → (is_watch turn ≡ true → agreed ≡ true) → IsVote turn agreed
vote_ok First agreed w = tt
vote_ok Lone agreed w = w refl
vote_ok (Next part host) agreed w = w refl

module _ (now after : Scene) (group : Draw) (taken : Option Errand) (sent : Draw → List Errand) (row : IsRow now after group taken sent) (d : Voted now after group taken sent) where
  voted_in : (deal : Deal) (host : ℕ) → IsAt (Weighs deal host) now → AreOne (deal.asked, Answers deal.tx deal.coord (is_watch deal.turn) deal.chief) (group, Answers d.tx d.coord d.watch d.by) → Comes Votes group (Weighs deal host) after
  voted_in deal host a e = (
    Replied deal d.agreed host,
    record {
      parties = deal-goes now.at after.at deal (coordinator deal [] []).1 (asked_one deal Unbound (Answers deal.tx deal.coord (is_watch deal.turn) deal.chief ∷ []) []).1 a.parties a.apart
          (λ other c b. other-same now after group taken sent row other (λ i. b (i ∙ sym fact)) (d.sends.1 other ((λ i. c (i ∙ sym coord_is)), tt)))
          (coordinator deal [] (Reply deal.tx (is_watch deal.turn) d.agreed host deal.chief ∷ [])).1 (asked_one deal (bound_by d.agreed deal.tx) [] []).1
          (other-mailed now after group taken sent row deal.coord (coordinator deal [] []).1 (Reply deal.tx (is_watch deal.turn) d.agreed host deal.chief ∷ []) (λ i. a.apart.0.0 (i ∙ sym fact)) a.parties.0.0 mail)
          (ap after.at fact ∙ own-done (Answers d.tx d.coord d.watch d.by) now after group taken sent row d.execution (asked_one deal Unbound (Answers deal.tx deal.coord (is_watch deal.turn) deal.chief ∷ []) []).1
          (bound_by d.agreed deal.tx) (ap now.at (sym fact) ∙ a.parties.0.1.0) refl (d.sends.1 group ((λ i. a.apart.0.0 (coord_is ∙ (sym i ∙ sym fact))), tt)) (d.bond ∙ ap (bound_by d.agreed) (sym tx_is)));
      leads = leads-stay now after group taken sent row d.leads (leads_of (Weighs deal host)) a.leads;
      apart = a.apart;
      sound = vote_ok deal.turn d.agreed (λ w. d.willing (sym watch_is ∙ w));
    },
    record { deal = deal; agreed = d.agreed; host = host; before_is = refl; asked_is = first e; after_is = refl },
  )
    where
      fact : deal.asked ≡ group
      fact = first e

      same : Answers deal.tx deal.coord (is_watch deal.turn) deal.chief ≡ Answers d.tx d.coord d.watch d.by
      same = second e

      coord_is : deal.coord ≡ d.coord
      coord_is = (let f = same in cc)

      tx_is : deal.tx ≡ d.tx
      tx_is = (let f = same in cc)

      watch_is : is_watch deal.turn ≡ d.watch
      watch_is = (let f = same in cc)

      by_is : deal.chief ≡ d.by
      by_is = (let f = same in cc)

      host_is : d.host ≡ host
      host_is = (let f : Some d.host ≡ Some host = sym d.led ∙ (ap now.lead (sym fact) ∙ a.leads.1.0) in cc)

      mail : sent deal.coord ≡ Reply deal.tx (is_watch deal.turn) d.agreed host deal.chief ∷ []
      mail = ap sent coord_is ∙ (d.sends.0.0 ∙ (ap (λ x. Reply x d.watch d.agreed d.host d.by ∷ []) (sym tx_is)
          ∙ (ap (λ x. Reply deal.tx x d.agreed d.host d.by ∷ []) (sym watch_is)
          ∙ (ap (λ x. Reply deal.tx (is_watch deal.turn) d.agreed x d.by ∷ []) host_is ∙ ap (λ x. Reply deal.tx (is_watch deal.turn) d.agreed host x ∷ []) (sym by_is)))))

  voted_at : AtEach (Answers d.tx d.coord d.watch d.by) now group (λ s. Comes Votes group s after)
  voted_at = record {
    ordered = λ name chief order a e. absurd (subst IsOrder (second e) a.sound);
    weighs = voted_in;
    recorded = λ deal agreed host a e. (let f : Records deal.tx (is_watch deal.turn) agreed host ≡ Answers d.tx d.coord d.watch d.by = second e in absurd cc);
    closes = λ tx party a l e. (let f : Ends tx ≡ Answers d.tx d.coord d.watch d.by = second e in absurd cc);
    one = λ tx one two a l e. (let f : Ends tx ≡ Answers d.tx d.coord d.watch d.by = second e in absurd cc);
    two = λ tx one two a l e. (let f : Ends tx ≡ Answers d.tx d.coord d.watch d.by = second e in absurd cc);
  }

pub voted-step : StepsBy Voted Votes
voted-step now after group taken sent row d s a = by-work (Answers d.tx d.coord d.watch d.by) now after group taken (λ s. Comes Votes group s after) d.execution s a (voted_at now after group taken sent row d)
