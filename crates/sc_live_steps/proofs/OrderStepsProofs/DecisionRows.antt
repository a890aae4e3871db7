-- Rows in which a coordinator records a vote, and in which a party is free again.
use Rattle.std.proofs.Common.{◌≡◌, ℕ, Bool, true, false, List, [], ◌∷◌, Option, Some, inl, inr, refl, sym, ◌∙◌, ap, subst}
use Rattle.sc_base.specs.Definitions.{Each}
use Rattle.sc_node_table.specs.Values.{Draw}
use Rattle.sc_live_steps.specs.orders.OrderDefinitions.{Turn, First, Lone, Next, is_watch, Unbound, Asking, Bound, Errand, Question, Result, Answers, Records, Ends, Here, free, Scene, IsNone, IsOnly, Deal, Mailed, Filed, Party, Stage, Still, Asks, Recorded, Closes, ClosesBoth, coordinator, heard, heard_lead, bound_by, closing, party_of, IsOrder, IsAt, IsRow, results, Aborted, Decided, Heard, Ended, closed, Aborts, Hears, IsFreed, LastFreed, OneFreed, TwoFreed, Comes, StepsBy}
use Rattle.sc_live_steps.specs.orders.StageSteps.{Decides}
use Rattle.sc_live_steps.proofs.OrderStepsProofs.NamedValues.{AreOne, cases-draw, having}
use Rattle.sc_live_steps.proofs.OrderStepsProofs.PartyChanges.{other-mailed, other-same, lead-stays, same_asking}
use Rattle.sc_live_steps.proofs.OrderStepsProofs.WorkStages.{AtEach, by-work, own-done}
use Rattle.sc_live_steps.proofs.OrderStepsProofs.OrderAndVoteRows.{first, second}

-- where the coordinator has recorded a vote
recorded_at : (now : Scene) (group : Draw) (deal : Deal) (agreed : Bool) (host : ℕ) → IsAt (Recorded deal agreed host) now → deal.coord ≡ group → now.at group ≡ (coordinator deal (Records deal.tx (is_watch deal.turn) agreed host ∷ []) []).1
recorded_at now group deal agreed host a fact = ap now.at (sym fact) ∙ a.parties.0.0

-- ---- a No

none_heard : (tx name : Draw) (turn : Turn) → is_watch turn ≡ false → IsNone name (heard tx turn)
none_heard tx name First e = tt
none_heard tx name Lone e = tt
none_heard tx name (Next part host) e = absurd cc

module _ (now after : Scene) (group : Draw) (taken : Option Errand) (sent : Draw → List Errand) (row : IsRow now after group taken sent) (d : Aborted now after group taken sent) where
  aborted_over : (deal : Deal) (agreed : Bool) (host : ℕ) → IsAt (Recorded deal agreed host) now → AreOne (deal.coord, Records deal.tx (is_watch deal.turn) agreed host) (group, Records d.tx false false d.by) → Comes Aborts group (Recorded deal agreed host) after
  aborted_over deal agreed host a e = (
    Still,
    record { parties = (tt, λ other none. all other); leads = tt; apart = tt; sound = tt },
    record { deal = deal; agreed = agreed; host = host; before_is = refl; coord_is = first e; after_is = refl },
  )
    where
      fact : deal.coord ≡ group
      fact = first e

      watch_is : is_watch deal.turn ≡ false
      watch_is = (let f : Records deal.tx (is_watch deal.turn) agreed host ≡ Records d.tx false false d.by = second e in cc)

      agreed_is : agreed ≡ false
      agreed_is = (let f : Records deal.tx (is_watch deal.turn) agreed host ≡ Records d.tx false false d.by = second e in cc)

      was : (other : Draw) → (other ≡ group → ⊥) → now.at other ≡ free
      was other ne = elim (cases-draw other deal.asked) [
        | inl i ↦ ap now.at i ∙ (a.parties.0.1.0 ∙ ap (λ x. having (bound_by x deal.tx) [] []) agreed_is)
        | inr nb ↦ a.parties.1 other ((λ i. ne (i ∙ fact)), (nb, none_heard deal.tx other deal.turn watch_is))
      ]

      all : (other : Draw) → after.at other ≡ free
      all other = elim (cases-draw other group) [
        | inl i ↦ ap after.at i ∙ own-done (Records d.tx false false d.by) now after group taken sent row d.execution (coordinator deal (Records deal.tx (is_watch deal.turn) agreed host ∷ []) []).1 Unbound
            (ap now.at (sym fact) ∙ a.parties.0.0) refl (d.sends.1 group tt) d.bond
        | inr ne ↦ other-same now after group taken sent row other ne (d.sends.1 other tt) ∙ was other ne
      ]

  aborted_at : AtEach (Records d.tx false false d.by) now group (λ s. Comes Aborts group s after)
  aborted_at = record {
    ordered = λ name chief order a e. absurd (subst IsOrder (second e) a.sound);
    weighs = λ deal host a e. (let f : Answers deal.tx deal.coord (is_watch deal.turn) deal.chief ≡ Records d.tx false false d.by = second e in absurd cc);
    recorded = aborted_over;
    closes = λ tx party a l e. (let f : Ends tx ≡ Records d.tx false false d.by = second e in absurd cc);
    one = λ tx one two a l e. (let f : Ends tx ≡ Records d.tx false false d.by = second e in absurd cc);
    two = λ tx one two a l e. (let f : Ends tx ≡ Records d.tx false false d.by = second e in absurd cc);
  }

pub aborted-step : StepsBy Aborted Aborts
aborted-step now after group taken sent row d s a = by-work (Records d.tx false false d.by) now after group taken (λ s. Comes Aborts group s after) d.execution s a (aborted_at now after group taken sent row d)

-- ---- a Yes that decides

module _ (now after : Scene) (group : Draw) (taken : Option Errand) (sent : Draw → List Errand) (row : IsRow now after group taken sent) (d : Decided now after group taken sent) where
  module _ (deal : Deal) (agreed : Bool) (host : ℕ) (a : IsAt (Recorded deal agreed host) now) (e : AreOne (deal.coord, Records deal.tx (is_watch deal.turn) agreed host) (group, Records d.tx (is_watch d.turn) true d.by)) where
    d_is : deal.coord ≡ group
    d_is = first e

    d_same : Records deal.tx (is_watch deal.turn) agreed host ≡ Records d.tx (is_watch d.turn) true d.by
    d_same = second e

    d_agreed : agreed ≡ true
    d_agreed = (let f = d_same in cc)

    d_by : host ≡ d.by
    d_by = (let f = d_same in cc)

    d_tx : d.tx ≡ deal.tx
    d_tx = (same_asking deal (recorded_at now group deal agreed host a d_is) d.was refl).0

    d_asked : d.asked ≡ deal.asked
    d_asked = (same_asking deal (recorded_at now group deal agreed host a d_is) d.was refl).1

    d_turn : d.turn ≡ deal.turn
    d_turn = (same_asking deal (recorded_at now group deal agreed host a d_is) d.was refl).2

    d_results : IsOnly [] (results deal.tx deal.asked deal.turn host) sent
    d_results = subst (λ x. IsOnly [] (results x deal.asked deal.turn host) sent) d_tx (subst (λ x. IsOnly [] (results d.tx x deal.turn host) sent) d_asked
        (subst (λ x. IsOnly [] (results d.tx d.asked x host) sent) d_turn (subst (λ x. IsOnly [] (results d.tx d.asked d.turn x) sent) (sym d_by) d.sends)))

    d_bound : now.at deal.asked ≡ having (Bound deal.tx) [] []
    d_bound = a.parties.0.1.0 ∙ ap (λ x. having (bound_by x deal.tx) [] []) d_agreed

    d_ne : deal.asked ≡ group → ⊥
    d_ne i = a.apart.0.0 (d_is ∙ sym i)

    d_own : sent group ≡ [] → after.at group ≡ free
    d_own s = own-done (Records d.tx (is_watch d.turn) true d.by) now after group taken sent row d.execution (coordinator deal (Records deal.tx (is_watch deal.turn) agreed host ∷ []) []).1 Unbound (recorded_at now group deal agreed host a d_is) refl s d.bond

    d_lead : after.lead deal.asked ≡ Some host
    d_lead = row.leads deal.asked host d_ne a.leads.1.0

    -- which stage this was, and which one it leads to
    d_step : (stage : Stage) → stage ≡ closed deal.tx deal.asked deal.turn host → Decides group (Recorded deal agreed host) stage
    d_step stage e = record { deal = deal; host = host; before_is = ap (λ x. Recorded deal x host) d_agreed; coord_is = d_is; after_is = e }

    -- one party
    d_single : Closes deal.tx (record { group = deal.asked; host = host; leg = Mailed }) ≡ closed deal.tx deal.asked deal.turn host → IsOnly [] ((deal.asked, Result deal.tx host ∷ []) ∷ []) sent → ((other : Draw) → IsNone other (heard deal.tx deal.turn)) → Comes Decides group (Recorded deal agreed host) after
    d_single to only none = (
      Closes deal.tx (record { group = deal.asked; host = host; leg = Mailed }),
      record {
        parties = (
          (other-mailed now after group taken sent row deal.asked (having (Bound deal.tx) [] []) (Result deal.tx host ∷ []) d_ne d_bound only.0.0, tt),
          λ other n. elim (cases-draw other group) [
            | inl i ↦ ap after.at i ∙ d_own (only.1 group ((λ j. d_ne (sym j)), tt))
            | inr ne ↦ other-same now after group taken sent row other ne (only.1 other (n.0, tt)) ∙ a.parties.1 other ((λ i. ne (i ∙ d_is)), (n.0, none other))
          ],
        );
        leads = (d_lead, tt);
        apart = (tt, tt);
        sound = tt;
      },
      d_step (Closes deal.tx (record { group = deal.asked; host = host; leg = Mailed })) to,
    )

    -- the participant that was heard, and the watcher
    d_both : (part : Draw) (node : ℕ) → deal.turn ≡ Next part node → IsOnly [] ((part, Result deal.tx node ∷ []) ∷ (deal.asked, Result deal.tx host ∷ []) ∷ []) sent → now.at part ≡ having (Bound deal.tx) [] [] → (part ≡ group → ⊥) → (part ≡ deal.asked → ⊥)
        → now.lead part ≡ Some node → ((other : Draw) → (other ≡ part → ⊥) → IsNone other (heard deal.tx deal.turn)) → Comes Decides group (Recorded deal agreed host) after
    d_both part node to only was ne apart led none = (
      ClosesBoth deal.tx (record { group = part; host = node; leg = Mailed }) (record { group = deal.asked; host = host; leg = Mailed }),
      record {
        parties = (
          (
            other-mailed now after group taken sent row part (having (Bound deal.tx) [] []) (Result deal.tx node ∷ []) ne was only.0.0,
            (other-mailed now after group taken sent row deal.asked (having (Bound deal.tx) [] []) (Result deal.tx host ∷ []) d_ne d_bound only.0.1.0, tt),
          ),
          λ other n. elim (cases-draw other group) [
            | inl i ↦ ap after.at i ∙ d_own (only.1 group ((λ j. ne (sym j)), ((λ j. d_ne (sym j)), tt)))
            | inr ng ↦ other-same now after group taken sent row other ng (only.1 other (n.0, (n.1.0, tt))) ∙ a.parties.1 other ((λ i. ng (i ∙ d_is)), (n.1.0, none other n.0))
          ],
        );
        leads = (row.leads part node ne led, (d_lead, tt));
        apart = ((apart, tt), (tt, tt));
        sound = tt;
      },
      d_step (closed deal.tx deal.asked (Next part node) host) (ap (λ x. closed deal.tx deal.asked x host) (sym to)),
    )

    d_turns : (turn : Turn) → deal.turn ≡ turn → Comes Decides group (Recorded deal agreed host) after
    d_turns First t = d_single (ap (λ x. closed deal.tx deal.asked x host) (sym t)) (subst (λ x. IsOnly [] (results deal.tx deal.asked x host) sent) t d_results) (λ other. subst (λ x. IsNone other (heard deal.tx x)) (sym t) tt)
    d_turns Lone t = d_single (ap (λ x. closed deal.tx deal.asked x host) (sym t)) (subst (λ x. IsOnly [] (results deal.tx deal.asked x host) sent) t d_results) (λ other. subst (λ x. IsNone other (heard deal.tx x)) (sym t) tt)
    d_turns (Next part node) t = d_both part node t (subst (λ x. IsOnly [] (results deal.tx deal.asked x host) sent) t d_results)
        (subst (λ x. Each (λ entry. now.at entry.0 ≡ entry.1) (heard deal.tx x)) t a.parties.0.1.1).0
        (λ i. (subst (λ x. IsNone deal.coord (heard deal.tx x)) t a.apart.0.1).0 (d_is ∙ sym i))
        (λ i. (subst (λ x. IsNone deal.asked (heard deal.tx x)) t a.apart.1.0).0 (sym i))
        (subst (λ x. Each (λ lead. now.lead lead.0 ≡ Some lead.1) (heard_lead x)) t a.leads.1.1).0
        (λ other ne. subst (λ x. IsNone other (heard deal.tx x)) (sym t) (ne, tt))

  decided_at : AtEach (Records d.tx (is_watch d.turn) true d.by) now group (λ s. Comes Decides group s after)
  decided_at = record {
    ordered = λ name chief order a e. absurd (subst IsOrder (second e) a.sound);
    weighs = λ deal host a e. (let f : Answers deal.tx deal.coord (is_watch deal.turn) deal.chief ≡ Records d.tx (is_watch d.turn) true d.by = second e in absurd cc);
    recorded = λ deal agreed host a e. d_turns deal agreed host a e deal.turn refl;
    closes = λ tx party a l e. (let f : Ends tx ≡ Records d.tx (is_watch d.turn) true d.by = second e in absurd cc);
    one = λ tx one two a l e. (let f : Ends tx ≡ Records d.tx (is_watch d.turn) true d.by = second e in absurd cc);
    two = λ tx one two a l e. (let f : Ends tx ≡ Records d.tx (is_watch d.turn) true d.by = second e in absurd cc);
  }

pub decided-step : StepsBy Decided Decides
decided-step now after group taken sent row d s a = by-work (Records d.tx (is_watch d.turn) true d.by) now after group taken (λ s. Comes Decides group s after) d.execution s a (decided_at now after group taken sent row d)

-- ---- a Yes that is heard

module _ (now after : Scene) (group : Draw) (taken : Option Errand) (sent : Draw → List Errand) (row : IsRow now after group taken sent) (d : Heard now after group taken sent) where
  module _ (deal : Deal) (agreed : Bool) (host : ℕ) (a : IsAt (Recorded deal agreed host) now) (e : AreOne (deal.coord, Records deal.tx (is_watch deal.turn) agreed host) (group, Records d.tx false true d.by)) where
    h_is : deal.coord ≡ group
    h_is = first e

    h_same : Records deal.tx (is_watch deal.turn) agreed host ≡ Records d.tx false true d.by
    h_same = second e

    h_asking : Asking d.tx d.asked First ≡ Asking deal.tx deal.asked deal.turn
    h_asking = sym d.was ∙ ap (λ (h : Here). h.bond) (recorded_at now group deal agreed host a h_is)

    h_agreed : agreed ≡ true
    h_agreed = (let f = h_same in cc)

    h_by : host ≡ d.by
    h_by = (let f = h_same in cc)

    h_tx : d.tx ≡ deal.tx
    h_tx = (let f = h_asking in cc)

    h_asked : d.asked ≡ deal.asked
    h_asked = (let f = h_asking in cc)

    h_turn : First ≡ deal.turn
    h_turn = (let f = h_asking in cc)

    h_chief : d.chief ≡ deal.chief
    h_chief = (let f : Some d.chief ≡ Some deal.chief = sym d.led ∙ (ap now.lead (sym h_is) ∙ a.leads.0) in cc)

    abbrev h_deal : Deal
    h_deal = record { tx = d.tx; coord = group; chief = d.chief; asked = d.watcher; turn = Next d.asked d.by }

    h_bound : now.at d.asked ≡ having (Bound d.tx) [] []
    h_bound = ap now.at h_asked ∙ (a.parties.0.1.0 ∙ (ap (λ x. having (bound_by x deal.tx) [] []) h_agreed ∙ ap (λ x. having (Bound x) [] []) (sym h_tx)))

    h_ne : d.asked ≡ group → ⊥
    h_ne i = a.apart.0.0 (h_is ∙ (sym i ∙ h_asked))

    h_free : (other : Draw) → (other ≡ group → ⊥) → (other ≡ d.asked → ⊥) → now.at other ≡ free
    h_free other c b = a.parties.1 other ((λ i. c (i ∙ h_is)), ((λ i. b (i ∙ sym h_asked)), subst (λ x. IsNone other (heard deal.tx x)) h_turn tt))

    heard_on : Comes Hears group (Recorded deal agreed host) after
    heard_on = (
      Asks h_deal d.node,
      record {
        parties = (
          (
            own-done (Records d.tx false true d.by) now after group taken sent row d.execution (coordinator deal (Records deal.tx (is_watch deal.turn) agreed host ∷ []) []).1 (Asking d.tx d.watcher (Next d.asked d.by)) (recorded_at now group deal agreed host a h_is) refl
                (d.sends.1 group ((λ i. d.third.0 (sym i)), tt)) d.bond,
            (
              other-mailed now after group taken sent row d.watcher free (Question d.tx group true d.chief d.node ∷ []) d.third.0 (h_free d.watcher d.third.0 d.third.1) d.sends.0.0,
              (other-same now after group taken sent row d.asked h_ne (d.sends.1 d.asked ((λ i. d.third.1 (sym i)), tt)) ∙ h_bound, tt),
            ),
          ),
          λ other n. other-same now after group taken sent row other n.0 (d.sends.1 other (n.1.0, tt)) ∙ h_free other n.0 n.1.1.0,
        );
        leads = (d.leads d.chief d.led, (lead-stays now after group taken sent row d.leads d.asked d.by (ap now.lead h_asked ∙ (a.leads.1.0 ∙ ap (λ x. Some x) h_by)), tt));
        apart = (((λ i. d.third.0 (sym i)), ((λ i. h_ne (sym i)), tt)), ((d.third.1, tt), (tt, tt)));
        sound = tt;
      },
      record {
        deal = deal;
        host = host;
        next = h_deal;
        to = d.node;
        before_is = ap (λ x. Recorded deal x host) h_agreed;
        coord_is = h_is;
        first = sym h_turn;
        tx_same = h_tx;
        coord_same = sym h_is;
        chief_same = h_chief;
        turn_is = ap (λ x. Next x d.by) h_asked ∙ ap (Next deal.asked) (sym h_by);
        after_is = refl;
      },
    )

  heard_at : AtEach (Records d.tx false true d.by) now group (λ s. Comes Hears group s after)
  heard_at = record {
    ordered = λ name chief order a e. absurd (subst IsOrder (second e) a.sound);
    weighs = λ deal host a e. (let f : Answers deal.tx deal.coord (is_watch deal.turn) deal.chief ≡ Records d.tx false true d.by = second e in absurd cc);
    recorded = heard_on;
    closes = λ tx party a l e. (let f : Ends tx ≡ Records d.tx false true d.by = second e in absurd cc);
    one = λ tx one two a l e. (let f : Ends tx ≡ Records d.tx false true d.by = second e in absurd cc);
    two = λ tx one two a l e. (let f : Ends tx ≡ Records d.tx false true d.by = second e in absurd cc);
  }

pub heard-step : StepsBy Heard Hears
heard-step now after group taken sent row d s a = by-work (Records d.tx false true d.by) now after group taken (λ s. Comes Hears group s after) d.execution s a (heard_at now after group taken sent row d)

-- ---- an outcome

module _ (now after : Scene) (group : Draw) (taken : Option Errand) (sent : Draw → List Errand) (row : IsRow now after group taken sent) (d : Ended now after group taken sent) where
  -- the party is free
  ended_own : (tx : Draw) (party : Party) → now.at party.group ≡ (party_of tx party).1 → party.leg ≡ Filed → party.group ≡ group → after.at group ≡ free
  ended_own tx party was leg fact = own-done (Ends d.tx) now after group taken sent row d.execution (closing tx Filed party.host) Unbound (ap now.at (sym fact) ∙ (was ∙ ap (λ l. closing tx l party.host) leg)) refl (d.sends.1 group tt) d.bond

  ended_last : (tx : Draw) (party : Party) → IsAt (Closes tx party) now → party.leg ≡ Filed → AreOne (party.group, Ends tx) (group, Ends d.tx) → Comes IsFreed group (Closes tx party) after
  ended_last tx party a leg e = (
    Still,
    record {
      parties = (
        tt,
        λ other none. elim (cases-draw other group) [
          | inl i ↦ ap after.at i ∙ ended_own tx party a.parties.0.0 leg (first e)
          | inr ne ↦ other-same now after group taken sent row other ne (d.sends.1 other tt) ∙ a.parties.1 other ((λ i. ne (i ∙ first e)), tt)
        ],
      );
      leads = tt;
      apart = tt;
      sound = tt;
    },
    LastFreed tx party refl leg (first e) refl,
  )

  ended_one : (tx : Draw) (one two : Party) → IsAt (ClosesBoth tx one two) now → one.leg ≡ Filed → AreOne (one.group, Ends tx) (group, Ends d.tx) → Comes IsFreed group (ClosesBoth tx one two) after
  ended_one tx one two a leg e = (
    Closes tx two,
    record {
      parties = (
        (other-same now after group taken sent row two.group ne_two (d.sends.1 two.group tt) ∙ a.parties.0.1.0, tt),
        λ other none. elim (cases-draw other group) [
          | inl i ↦ ap after.at i ∙ ended_own tx one a.parties.0.0 leg (first e)
          | inr ne ↦ other-same now after group taken sent row other ne (d.sends.1 other tt) ∙ a.parties.1 other ((λ i. ne (i ∙ first e)), (none.0, tt))
        ],
      );
      leads = (row.leads two.group two.host ne_two a.leads.1.0, tt);
      apart = (tt, tt);
      sound = tt;
    },
    OneFreed tx one two refl leg (first e) refl,
  )
    where
      ne_two : two.group ≡ group → ⊥
      ne_two i = a.apart.0.0 (first e ∙ sym i)

  ended_two : (tx : Draw) (one two : Party) → IsAt (ClosesBoth tx one two) now → two.leg ≡ Filed → AreOne (two.group, Ends tx) (group, Ends d.tx) → Comes IsFreed group (ClosesBoth tx one two) after
  ended_two tx one two a leg e = (
    Closes tx one,
    record {
      parties = (
        (other-same now after group taken sent row one.group ne_one (d.sends.1 one.group tt) ∙ a.parties.0.0, tt),
        λ other none. elim (cases-draw other group) [
          | inl i ↦ ap after.at i ∙ ended_own tx two a.parties.0.1.0 leg (first e)
          | inr ne ↦ other-same now after group taken sent row other ne (d.sends.1 other tt) ∙ a.parties.1 other (none.0, ((λ i. ne (i ∙ first e)), tt))
        ],
      );
      leads = (row.leads one.group one.host ne_one a.leads.0, tt);
      apart = (tt, tt);
      sound = tt;
    },
    TwoFreed tx one two refl leg (first e) refl,
  )
    where
      ne_one : one.group ≡ group → ⊥
      ne_one i = a.apart.0.0 (i ∙ sym (first e))

  ended_at : AtEach (Ends d.tx) now group (λ s. Comes IsFreed group s after)
  ended_at = record {
    ordered = λ name chief order a e. absurd (subst IsOrder (second e) a.sound);
    weighs = λ deal host a e. (let f : Answers deal.tx deal.coord (is_watch deal.turn) deal.chief ≡ Ends d.tx = second e in absurd cc);
    recorded = λ deal agreed host a e. (let f : Records deal.tx (is_watch deal.turn) agreed host ≡ Ends d.tx = second e in absurd cc);
    closes = ended_last;
    one = ended_one;
    two = ended_two;
  }

pub ended-step : StepsBy Ended IsFreed
ended-step now after group taken sent row d s a = by-work (Ends d.tx) now after group taken (λ s. Comes IsFreed group s after) d.execution s a (ended_at now after group taken sent row d)
