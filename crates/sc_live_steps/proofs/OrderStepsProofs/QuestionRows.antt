-- Rows that take a mail of a transaction: a question is sent on, or asked again elsewhere, and a leader takes a question, a vote or an outcome.
use Rattle.std.proofs.Common.{◌≡◌, ℕ, Bool, List, [], ◌∷◌, ◌++◌, Option, Some, None, inl, inr, refl, sym, ◌∙◌, ap, subst}
use Rattle.sc_base.specs.Definitions.{Among}
use Rattle.sc_node_table.specs.Values.{Draw}
use Rattle.sc_live_steps.specs.orders.OrderDefinitions.{is_watch, Unbound, Errand, Question, Elsewhere, Reply, Result, Work, Answers, Records, Ends, Here, Scene, Deal, Leg, Mailed, Filed, Party, Stage, Still, Ordered, Asks, SentOn, Weighs, Replied, Recorded, Closes, ClosesBoth, coordinator, asked_one, heard_lead, bound_by, closing, party_of, parties_of, leads_of, IsAt, IsRow, PassesOn, AsksOn, Files, work_for, filed_there, Passes, AsksAgain, LastTakes, OneTakes, TwoTakes, IsTaken, OfQuestion, OfVote, OfOutcome, Comes, StepsBy}
use Rattle.sc_live_steps.proofs.OrderStepsProofs.NamedValues.{AreOne, having, here-is, tokens, found}
use Rattle.sc_live_steps.proofs.OrderStepsProofs.PartyChanges.{errands_of, other-mailed, other-same, own-taken, taken-there, lead-stays, leads-stay, deal-goes, no-errand, closing-errand, same_asking}
use Rattle.sc_live_steps.proofs.OrderStepsProofs.OrderAndVoteRows.{first, second}

-- what two rows that take an errand share: the parties are those of the deal, at the group that is asked or at the coordinator
module _ (now after : Scene) (group : Draw) (taken : Option Errand) (sent : Draw → List Errand) (row : IsRow now after group taken sent)
    (bond_same : (after.at group).bond ≡ (now.at group).bond) where
  -- the group that takes its only errand has that no more, and other work
  pub took : (h : Here) (errand : Errand) (work : List Work) (only : Errand) → now.at group ≡ h → h.errands ≡ only ∷ [] → taken ≡ Some errand → (after.at group).work ≡ work → sent group ≡ [] → after.at group ≡ having h.bond work []
  took h errand work only fact one t w s =
      here-is (after.at group) h.bond work [] (bond_same ∙ ap (λ (k : Here). k.bond) fact) w
      ((own-taken now after group taken sent row only errand t (ap (λ (k : Here). k.errands) fact ∙ one)).1 ∙ s)

-- ---- a question is sent on

module _ (now after : Scene) (group : Draw) (taken : Option Errand) (sent : Draw → List Errand) (row : IsRow now after group taken sent) (d : PassesOn now after group taken sent) where
  abbrev passed : Errand
  passed = Question d.tx d.coord d.watch d.by d.to

  passes_goes : (deal : Deal) (to : ℕ) → IsAt (Asks deal to) now → AreOne (deal.asked, Question deal.tx deal.coord (is_watch deal.turn) deal.chief to) (group, passed) → Comes Passes group (Asks deal to) after
  passes_goes deal to a e = (
    SentOn deal,
    record {
      parties = deal-goes now.at after.at deal (coordinator deal [] []).1 (asked_one deal Unbound [] (Question deal.tx deal.coord (is_watch deal.turn) deal.chief to ∷ [])).1 a.parties a.apart
          (λ other c b. other-same now after group taken sent row other (λ i. b (i ∙ sym fact)) (d.sends.1 other ((λ i. c (i ∙ sym coord_is)), tt)))
          (coordinator deal [] (Elsewhere deal.tx deal.chief ∷ [])).1 (asked_one deal Unbound [] []).1 at_coord at_asked;
      leads = leads-stay now after group taken sent row d.leads (leads_of (Asks deal to)) a.leads;
      apart = a.apart;
      sound = tt;
    },
    record { deal = deal; to = to; before_is = refl; asked_is = first e; after_is = refl },
  )
    where
      fact : deal.asked ≡ group
      fact = first e

      same : Question deal.tx deal.coord (is_watch deal.turn) deal.chief to ≡ Question d.tx d.coord d.watch d.by d.to
      same = second e

      coord_is : deal.coord ≡ d.coord
      coord_is = (let f = same in cc)

      sends : sent d.coord ≡ Elsewhere d.tx d.by ∷ []
      sends = d.sends.0.0

      mail : sent deal.coord ≡ Elsewhere deal.tx deal.chief ∷ []
      mail = (let f = same in let g = coord_is in let h = sends in cc)

      apart : deal.coord ≡ deal.asked → ⊥
      apart = a.apart.0.0

      at_coord : after.at deal.coord ≡ (coordinator deal [] (Elsewhere deal.tx deal.chief ∷ [])).1
      at_coord = other-mailed now after group taken sent row deal.coord (coordinator deal [] []).1 (Elsewhere deal.tx deal.chief ∷ []) (λ i. apart (i ∙ sym fact)) a.parties.0.0 mail

      own : after.at group ≡ having Unbound [] []
      own = took now after group taken sent row d.bond (asked_one deal Unbound [] (Question deal.tx deal.coord (is_watch deal.turn) deal.chief to ∷ [])).1 passed [] (Question deal.tx deal.coord (is_watch deal.turn) deal.chief to)
          (ap now.at (sym fact) ∙ a.parties.0.1.0) refl d.takes (d.work ∙ (ap (λ n. (now.at n).work) (sym fact) ∙ ap (λ (k : Here). k.work) a.parties.0.1.0))
          (d.sends.1 group ((λ i. apart (coord_is ∙ (sym i ∙ sym fact))), tt))

      at_asked : after.at deal.asked ≡ (asked_one deal Unbound [] []).1
      at_asked = ap after.at fact ∙ own

  passes_not : (tx : Draw) (leg : Leg) (host : ℕ) (name : Draw) → (leg ≡ Mailed) × (AreOne (name, Result tx host) (group, passed)) → ⊥
  passes_not tx leg host name e = (let f : Result tx host ≡ Question d.tx d.coord d.watch d.by d.to = second e.1 in absurd cc)

  passes_by : (s : Stage) → IsAt s now → Among (group, passed) (tokens errands_of (parties_of s)) → Comes Passes group s after
  passes_by Still a t = absurd t
  passes_by (Ordered name chief work) a t = absurd t
  passes_by (Asks deal to) a (inl e) = passes_goes deal to a e
  passes_by (Asks deal to) a (inr t) = absurd (no-errand deal.tx deal.turn (group, passed) t)
  passes_by (SentOn deal) a (inl e) = (let f : Elsewhere deal.tx deal.chief ≡ Question d.tx d.coord d.watch d.by d.to = second e in absurd cc)
  passes_by (SentOn deal) a (inr t) = absurd (no-errand deal.tx deal.turn (group, passed) t)
  passes_by (Weighs deal host) a t = absurd (no-errand deal.tx deal.turn (group, passed) t)
  passes_by (Replied deal agreed host) a (inl e) = (let f : Reply deal.tx (is_watch deal.turn) agreed host deal.chief ≡ Question d.tx d.coord d.watch d.by d.to = second e in absurd cc)
  passes_by (Replied deal agreed host) a (inr t) = absurd (no-errand deal.tx deal.turn (group, passed) t)
  passes_by (Recorded deal agreed host) a t = absurd (no-errand deal.tx deal.turn (group, passed) t)
  passes_by (Closes tx party) a t = elim (closing-errand tx party.leg party.host party.group [] (group, passed) t) [ inl e ↦ absurd (passes_not tx party.leg party.host party.group e) | inr r ↦ absurd r ]
  passes_by (ClosesBoth tx one two) a t =
      elim (closing-errand tx one.leg one.host one.group (tokens errands_of (party_of tx two ∷ [])) (group, passed) t) [
        | inl e ↦ absurd (passes_not tx one.leg one.host one.group e)
        | inr r ↦ elim (closing-errand tx two.leg two.host two.group [] (group, passed) r) [ inl e ↦ absurd (passes_not tx two.leg two.host two.group e) | inr n ↦ absurd n ]
      ]

pub passes-step : StepsBy PassesOn Passes
passes-step now after group taken sent row d s a =
    passes_by now after group taken sent row d s a (found errands_of now.at group (Question d.tx d.coord d.watch d.by d.to) (taken-there now after group taken sent row (Question d.tx d.coord d.watch d.by d.to) d.takes) (parties_of s) a.parties refl)

-- ---- a question is asked elsewhere

module _ (now after : Scene) (group : Draw) (taken : Option Errand) (sent : Draw → List Errand) (row : IsRow now after group taken sent) (d : AsksOn now after group taken sent) where
  abbrev sent_on : Errand
  sent_on = Elsewhere d.tx d.to

  asks_goes : (deal : Deal) → IsAt (SentOn deal) now → AreOne (deal.coord, Elsewhere deal.tx deal.chief) (group, sent_on) → Comes AsksAgain group (SentOn deal) after
  asks_goes deal a e = (
    Asks deal d.node,
    record {
      parties = deal-goes now.at after.at deal (coordinator deal [] (Elsewhere deal.tx deal.chief ∷ [])).1 (asked_one deal Unbound [] []).1 a.parties a.apart
          (λ other c b. other-same now after group taken sent row other (λ i. c (i ∙ sym fact)) (d.sends.1 other ((λ i. b (i ∙ asked_is)), tt)))
          (coordinator deal [] []).1 (asked_one deal Unbound [] (Question deal.tx deal.coord (is_watch deal.turn) deal.chief d.node ∷ [])).1 at_coord at_asked;
      leads = leads-stay now after group taken sent row d.leads (leads_of (SentOn deal)) a.leads;
      apart = a.apart;
      sound = tt;
    },
    record { deal = deal; to = d.node; before_is = refl; coord_is = first e; after_is = refl },
  )
    where
      fact : deal.coord ≡ group
      fact = first e

      was : now.at group ≡ (coordinator deal [] (Elsewhere deal.tx deal.chief ∷ [])).1
      was = ap now.at (sym fact) ∙ a.parties.0.0

      asked_is : d.asked ≡ deal.asked
      asked_is = (same_asking deal was d.asking refl).1

      tx_is : d.tx ≡ deal.tx
      tx_is = (same_asking deal was d.asking refl).0

      turn_is : d.turn ≡ deal.turn
      turn_is = (same_asking deal was d.asking refl).2

      chief_is : d.chief ≡ deal.chief
      chief_is = (let f : Some d.chief ≡ Some deal.chief = sym d.led ∙ (ap now.lead (sym fact) ∙ a.leads.0) in cc)

      mail : sent deal.asked ≡ Question deal.tx deal.coord (is_watch deal.turn) deal.chief d.node ∷ []
      mail = subst (λ n. sent n ≡ Question deal.tx deal.coord (is_watch deal.turn) deal.chief d.node ∷ []) asked_is
          (d.sends.0.0 ∙ (ap (λ x. Question x group (is_watch d.turn) d.chief d.node ∷ []) tx_is
          ∙ (ap (λ x. Question deal.tx x (is_watch d.turn) d.chief d.node ∷ []) (sym fact)
          ∙ (ap (λ x. Question deal.tx deal.coord (is_watch x) d.chief d.node ∷ []) turn_is ∙ ap (λ x. Question deal.tx deal.coord (is_watch deal.turn) x d.node ∷ []) chief_is))))

      apart : deal.coord ≡ deal.asked → ⊥
      apart = a.apart.0.0

      at_coord : after.at deal.coord ≡ (coordinator deal [] []).1
      at_coord = ap after.at fact ∙ took now after group taken sent row d.bond (coordinator deal [] (Elsewhere deal.tx deal.chief ∷ [])).1 sent_on [] (Elsewhere deal.tx deal.chief) was refl d.takes
          (d.work ∙ ap (λ (k : Here). k.work) was) (d.sends.1 group ((λ i. apart (fact ∙ (i ∙ asked_is))), tt))

      at_asked : after.at deal.asked ≡ (asked_one deal Unbound [] (Question deal.tx deal.coord (is_watch deal.turn) deal.chief d.node ∷ [])).1
      at_asked = other-mailed now after group taken sent row deal.asked (asked_one deal Unbound [] []).1 (Question deal.tx deal.coord (is_watch deal.turn) deal.chief d.node ∷ [])
          (λ i. apart (fact ∙ sym i)) a.parties.0.1.0 mail

  asks_not : (tx : Draw) (leg : Leg) (host : ℕ) (name : Draw) → (leg ≡ Mailed) × (AreOne (name, Result tx host) (group, sent_on)) → ⊥
  asks_not tx leg host name e = (let f : Result tx host ≡ Elsewhere d.tx d.to = second e.1 in absurd cc)

  asks_by : (s : Stage) → IsAt s now → Among (group, sent_on) (tokens errands_of (parties_of s)) → Comes AsksAgain group s after
  asks_by Still a t = absurd t
  asks_by (Ordered name chief work) a t = absurd t
  asks_by (Asks deal to) a (inl e) = (let f : Question deal.tx deal.coord (is_watch deal.turn) deal.chief to ≡ Elsewhere d.tx d.to = second e in absurd cc)
  asks_by (Asks deal to) a (inr t) = absurd (no-errand deal.tx deal.turn (group, sent_on) t)
  asks_by (SentOn deal) a (inl e) = asks_goes deal a e
  asks_by (SentOn deal) a (inr t) = absurd (no-errand deal.tx deal.turn (group, sent_on) t)
  asks_by (Weighs deal host) a t = absurd (no-errand deal.tx deal.turn (group, sent_on) t)
  asks_by (Replied deal agreed host) a (inl e) = (let f : Reply deal.tx (is_watch deal.turn) agreed host deal.chief ≡ Elsewhere d.tx d.to = second e in absurd cc)
  asks_by (Replied deal agreed host) a (inr t) = absurd (no-errand deal.tx deal.turn (group, sent_on) t)
  asks_by (Recorded deal agreed host) a t = absurd (no-errand deal.tx deal.turn (group, sent_on) t)
  asks_by (Closes tx party) a t = elim (closing-errand tx party.leg party.host party.group [] (group, sent_on) t) [ inl e ↦ absurd (asks_not tx party.leg party.host party.group e) | inr r ↦ absurd r ]
  asks_by (ClosesBoth tx one two) a t =
      elim (closing-errand tx one.leg one.host one.group (tokens errands_of (party_of tx two ∷ [])) (group, sent_on) t) [
        | inl e ↦ absurd (asks_not tx one.leg one.host one.group e)
        | inr r ↦ elim (closing-errand tx two.leg two.host two.group [] (group, sent_on) r) [ inl e ↦ absurd (asks_not tx two.leg two.host two.group e) | inr n ↦ absurd n ]
      ]

pub asks-step : StepsBy AsksOn AsksAgain
asks-step now after group taken sent row d s a =
    asks_by now after group taken sent row d s a (found errands_of now.at group (Elsewhere d.tx d.to) (taken-there now after group taken sent row (Elsewhere d.tx d.to) d.takes) (parties_of s) a.parties refl)

-- ---- what a leader takes

module _ (now after : Scene) (group : Draw) (taken : Option Errand) (sent : Draw → List Errand) (row : IsRow now after group taken sent) (d : Files now after group taken sent) where
  none : (other : Draw) → sent other ≡ []
  none other = d.sends.1 other tt

  other : (name : Draw) → (name ≡ group → ⊥) → after.at name ≡ now.at name
  other name ne = other-same now after group taken sent row name ne (none name)

  filed : (only : Errand) (work : Work) → only ≡ d.errand → work_for only ≡ Some work → d.filed ≡ work
  filed only work e w = (let f : Some d.filed ≡ Some work = sym d.files ∙ (ap work_for (sym e) ∙ w) in cc)

  -- the group that takes it has it as work
  own : (h : Here) (only : Errand) (work : Work) → now.at group ≡ h → h.errands ≡ only ∷ [] → h.work ≡ [] → only ≡ d.errand → work_for only ≡ Some work → after.at group ≡ having h.bond (work ∷ []) []
  own h only work fact one idle e w = took now after group taken sent row d.bond h d.errand (work ∷ []) only fact one d.takes
      (d.work ∙ (ap (λ l. l ++ d.filed ∷ []) (ap (λ (k : Here). k.work) fact ∙ idle) ∙ ap (λ x. x ∷ []) (filed only work e w))) (none group)

  weighs : (deal : Deal) (to : ℕ) → IsAt (Asks deal to) now → AreOne (deal.asked, Question deal.tx deal.coord (is_watch deal.turn) deal.chief to) (group, d.errand) → Comes IsTaken group (Asks deal to) after
  weighs deal to a e = (
    Weighs deal d.host,
    record {
      parties = deal-goes now.at after.at deal (coordinator deal [] []).1 (asked_one deal Unbound [] (Question deal.tx deal.coord (is_watch deal.turn) deal.chief to ∷ [])).1 a.parties a.apart
          (λ name c b. other name (λ i. b (i ∙ sym fact)))
          (coordinator deal [] []).1 (asked_one deal Unbound (Answers deal.tx deal.coord (is_watch deal.turn) deal.chief ∷ []) []).1
          (other deal.coord (λ i. a.apart.0.0 (i ∙ sym fact)) ∙ a.parties.0.0)
          (ap after.at fact ∙ own (asked_one deal Unbound [] (Question deal.tx deal.coord (is_watch deal.turn) deal.chief to ∷ [])).1 (Question deal.tx deal.coord (is_watch deal.turn) deal.chief to)
          (Answers deal.tx deal.coord (is_watch deal.turn) deal.chief) (ap now.at (sym fact) ∙ a.parties.0.1.0) refl refl (second e) refl);
      leads = (
        lead-stays now after group taken sent row d.leads deal.coord deal.chief a.leads.0,
        (ap after.lead fact ∙ d.leads d.host d.led, leads-stay now after group taken sent row d.leads (heard_lead deal.turn) a.leads.1),
      );
      apart = a.apart;
      sound = tt;
    },
    OfQuestion (record { deal = deal; to = to; host = d.host; before_is = refl; asked_is = first e; after_is = refl }),
  )
    where
      fact : deal.asked ≡ group
      fact = first e

  records : (deal : Deal) (agreed : Bool) (host : ℕ) → IsAt (Replied deal agreed host) now → AreOne (deal.coord, Reply deal.tx (is_watch deal.turn) agreed host deal.chief) (group, d.errand) → Comes IsTaken group (Replied deal agreed host) after
  records deal agreed host a e = (
    Recorded deal agreed host,
    record {
      parties = deal-goes now.at after.at deal (coordinator deal [] (Reply deal.tx (is_watch deal.turn) agreed host deal.chief ∷ [])).1 (asked_one deal (bound_by agreed deal.tx) [] []).1 a.parties a.apart
          (λ name c b. other name (λ i. c (i ∙ sym fact)))
          (coordinator deal (Records deal.tx (is_watch deal.turn) agreed host ∷ []) []).1 (asked_one deal (bound_by agreed deal.tx) [] []).1
          (ap after.at fact ∙ own (coordinator deal [] (Reply deal.tx (is_watch deal.turn) agreed host deal.chief ∷ [])).1 (Reply deal.tx (is_watch deal.turn) agreed host deal.chief)
          (Records deal.tx (is_watch deal.turn) agreed host) (ap now.at (sym fact) ∙ a.parties.0.0) refl refl (second e) refl)
          (other deal.asked (λ i. a.apart.0.0 (fact ∙ sym i)) ∙ a.parties.0.1.0);
      leads = leads-stay now after group taken sent row d.leads (leads_of (Replied deal agreed host)) a.leads;
      apart = a.apart;
      sound = a.sound;
    },
    OfVote (record { deal = deal; agreed = agreed; host = host; before_is = refl; coord_is = first e; after_is = refl }),
  )
    where
      fact : deal.coord ≡ group
      fact = first e

  -- a party that takes its outcome
  ends : (tx : Draw) (party : Party) → now.at party.group ≡ (party_of tx party).1 → party.leg ≡ Mailed → AreOne (party.group, Result tx party.host) (group, d.errand) → after.at party.group ≡ closing tx Filed party.host
  ends tx party was leg e = ap after.at (first e) ∙ own (closing tx Mailed party.host) (Result tx party.host) (Ends tx)
      (ap now.at (sym (first e)) ∙ (was ∙ ap (λ l. closing tx l party.host) leg)) refl refl (second e) refl

  closes : (tx : Draw) (party : Party) → IsAt (Closes tx party) now → (party.leg ≡ Mailed) × (AreOne (party.group, Result tx party.host) (group, d.errand)) → Comes IsTaken group (Closes tx party) after
  closes tx party a e = (
    Closes tx (filed_there party),
    record {
      parties = ((ends tx party a.parties.0.0 e.0 e.1, tt), λ name n. other name (λ i. n.0 (i ∙ sym (first e.1))) ∙ a.parties.1 name n);
      leads = leads-stay now after group taken sent row d.leads (leads_of (Closes tx party)) a.leads;
      apart = a.apart;
      sound = tt;
    },
    OfOutcome (LastTakes tx party refl e.0 (first e.1) refl),
  )

  closes_one : (tx : Draw) (one two : Party) → IsAt (ClosesBoth tx one two) now → (one.leg ≡ Mailed) × (AreOne (one.group, Result tx one.host) (group, d.errand)) → Comes IsTaken group (ClosesBoth tx one two) after
  closes_one tx one two a e = (
    ClosesBoth tx (filed_there one) two,
    record {
      parties = ((ends tx one a.parties.0.0 e.0 e.1, (other two.group (λ i. a.apart.0.0 (first e.1 ∙ sym i)) ∙ a.parties.0.1.0, tt)), λ name n. other name (λ i. n.0 (i ∙ sym (first e.1))) ∙ a.parties.1 name n);
      leads = leads-stay now after group taken sent row d.leads (leads_of (ClosesBoth tx one two)) a.leads;
      apart = a.apart;
      sound = tt;
    },
    OfOutcome (OneTakes tx one two refl e.0 (first e.1) refl),
  )

  closes_two : (tx : Draw) (one two : Party) → IsAt (ClosesBoth tx one two) now → (two.leg ≡ Mailed) × (AreOne (two.group, Result tx two.host) (group, d.errand)) → Comes IsTaken group (ClosesBoth tx one two) after
  closes_two tx one two a e = (
    ClosesBoth tx one (filed_there two),
    record {
      parties = ((other one.group (λ i. a.apart.0.0 (i ∙ sym (first e.1))) ∙ a.parties.0.0, (ends tx two a.parties.0.1.0 e.0 e.1, tt)), λ name n. other name (λ i. n.1.0 (i ∙ sym (first e.1))) ∙ a.parties.1 name n);
      leads = leads-stay now after group taken sent row d.leads (leads_of (ClosesBoth tx one two)) a.leads;
      apart = a.apart;
      sound = tt;
    },
    OfOutcome (TwoTakes tx one two refl e.0 (first e.1) refl),
  )

  files_by : (s : Stage) → IsAt s now → Among (group, d.errand) (tokens errands_of (parties_of s)) → Comes IsTaken group s after
  files_by Still a t = absurd t
  files_by (Ordered name chief work) a t = absurd t
  files_by (Asks deal to) a (inl e) = weighs deal to a e
  files_by (Asks deal to) a (inr t) = absurd (no-errand deal.tx deal.turn (group, d.errand) t)
  files_by (SentOn deal) a (inl e) = (let f : None ≡ Some d.filed = ap work_for (second e) ∙ d.files in absurd cc)
  files_by (SentOn deal) a (inr t) = absurd (no-errand deal.tx deal.turn (group, d.errand) t)
  files_by (Weighs deal host) a t = absurd (no-errand deal.tx deal.turn (group, d.errand) t)
  files_by (Replied deal agreed host) a (inl e) = records deal agreed host a e
  files_by (Replied deal agreed host) a (inr t) = absurd (no-errand deal.tx deal.turn (group, d.errand) t)
  files_by (Recorded deal agreed host) a t = absurd (no-errand deal.tx deal.turn (group, d.errand) t)
  files_by (Closes tx party) a t = elim (closing-errand tx party.leg party.host party.group [] (group, d.errand) t) [ inl e ↦ closes tx party a e | inr r ↦ absurd r ]
  files_by (ClosesBoth tx one two) a t =
      elim (closing-errand tx one.leg one.host one.group (tokens errands_of (party_of tx two ∷ [])) (group, d.errand) t) [
        | inl e ↦ closes_one tx one two a e
        | inr r ↦ elim (closing-errand tx two.leg two.host two.group [] (group, d.errand) r) [ inl e ↦ closes_two tx one two a e | inr n ↦ absurd n ]
      ]

pub files-step : StepsBy Files IsTaken
files-step now after group taken sent row d s a =
    files_by now after group taken sent row d s a (found errands_of now.at group d.errand (taken-there now after group taken sent row d.errand d.takes) (parties_of s) a.parties refl)
