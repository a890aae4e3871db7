-- What a row of a leader does, as marks: of what the leader executed and offered in it.
use Rattle.std.proofs.Common.{◌≡◌, ℕ, ◌+◌, ◌-◌, ◌<◌, ◌≤◌, eqb, Bool, true, cond, List, [], ◌∷◌, ◌++◌, map, Option, Some, None, ◌⊎◌, inl, inr, refl, sym, ◌∙◌, ap, subst, arith}
use Rattle.std.specs.Prelude.{find}
use Rattle.std.specs.Option.{option_map}
use Rattle.std.specs.List.{filter}
use Rattle.std.proofs.lemmas.Bool.{cases_lt, cond_both, cond-true, cond-false, eqb-true, eq-eqb, ne_eqb}
use Rattle.sc_base.specs.Definitions.{Among, Each, same_draw, is_member}
use Rattle.sc_node_table.specs.Values.{Draw, Command, Mail, MailBody, Answer, Accept, Accepted, Learn, Flight}
use Rattle.sc_base.proofs.Lemmas.{same_name}
use Rattle.sc_words.specs.paxos.PaxosDefinitions.{flight_at, kept_voters}
use Rattle.sc_words.proofs.PaxosProofs.PaxosLemmas.{Each-among, find_found}
use Rattle.sc_node_table.specs.NodeDefinitions.{Place, next, numbers_from}
use Rattle.sc_paxos_law.proofs.Lemmas.{member-among}
use Rattle.sc_live_plain.specs.PlainDefinitions.{Frame, Mark, Asks, Votes, Teaches, Other, mark_of, mark, taught_slots, View, voters_in, marks_for, IsNew as IsNewMark, IsCount, IsElsewhere, Leads as LeadsTo, Requests, takers}
use Rattle.sc_live_plain.proofs.PlainRowsProofs.SlotCounts.{one_yes, one_no, count-cons, find_some, found_one, entries_at}
use Rattle.sc_live_plain.proofs.LeadersProofs.LeadingReplicas.{in_range, range_yes, range_before, range_behind, InRow, IsSaid, IsNew, Leads}
use Rattle.sc_live_plain.proofs.PlainRowsProofs.RepeatedMail.{mail_of, learns_of, learns_to}

-- ---- marks of what is sent

reported_of : (name : Draw) (from : ℕ) (body : MailBody) (rest : List Mark) → taught_slots (mark_of name from body ∷ rest) ≡ learns_of name body ++ taught_slots rest
reported_of name from (Learn group slot command) rest = cond_both (same_draw group name) (Teaches slot) Other (λ m. taught_slots (m ∷ rest) ≡ cond (same_draw group name) (slot ∷ []) [] ++ taught_slots rest)
    (λ t. ap (λ b. cond b (slot ∷ []) [] ++ taught_slots rest) (sym t)) (λ f. ap (λ b. cond b (slot ∷ []) [] ++ taught_slots rest) (sym f))
reported_of name from (Accept group ballot slot command) rest = cond_both (same_draw group name) (Asks slot) Other (λ m. taught_slots (m ∷ rest) ≡ taught_slots rest) (λ _. refl) (λ _. refl)
reported_of name from (Accepted group ballot slot) rest = cond_both (same_draw group name) (Votes from slot) Other (λ m. taught_slots (m ∷ rest) ≡ taught_slots rest) (λ _. refl) (λ _. refl)
reported_of name from _ rest = refl

-- the slots that an actor learns are those of the Learns for it
pub learnt_marks : (name : Draw) (who : ℕ) (mails : List Mail) → taught_slots (marks_for name who mails) ≡ learns_to name who mails
learnt_marks name who [] = refl
learnt_marks name who (mail ∷ mails) =
    let rest = learnt_marks name who mails in
    cond_both (eqb mail.to who) (mail ∷ filter (λ m. eqb m.to who) mails) (filter (λ m. eqb m.to who) mails) (λ l. taught_slots (map (mark name) l) ≡ cond (eqb mail.to who) (learns_of name mail.body) [] ++ learns_to name who mails)
    (λ t. reported_of name mail.from mail.body (marks_for name who mails) ∙ (ap (λ l. learns_of name mail.body ++ l) rest ∙ ap (λ b. cond b (learns_of name mail.body) [] ++ learns_to name who mails) (sym t)))
    (λ f. rest ∙ ap (λ b. cond b (learns_of name mail.body) [] ++ learns_to name who mails) (sym f))

-- what holds of each mail holds of each mark
pub each_mark : (P : Mark → Type 0) (Q : Mail → Type 0) (name : Draw) (who : ℕ) → ((mail : Mail) → Q mail → P (mark name mail)) → (mails : List Mail) → Each Q mails → Each P (marks_for name who mails)
each_mark P Q name who f [] e = tt
each_mark P Q name who f (mail ∷ mails) e =
    cond_both (eqb mail.to who) (mail ∷ filter (λ m. eqb m.to who) mails) (filter (λ m. eqb m.to who) mails) (λ l. Each P (map (mark name) l))
    (λ _. (f mail e.0, each_mark P Q name who f mails e.1)) (λ _. each_mark P Q name who f mails e.1)

-- a mail for an actor leaves its mark
pub mark_among : (name : Draw) (who : ℕ) (mails : List Mail) (mail : Mail) → mail.to ≡ who → Among mail mails → Among (mark name mail) (marks_for name who mails)
mark_among name who [] mail to a = absurd a
mark_among name who (m ∷ mails) mail to (inl same) =
    subst (λ l. Among (mark name mail) (map (mark name) l)) (sym (cond-true (eqb m.to who) (m ∷ filter (λ x. eqb x.to who) mails) (filter (λ x. eqb x.to who) mails) (eq-eqb m.to who (ap (λ (x : Mail). x.to) same ∙ to))))
    (inl (ap (mark name) same))
mark_among name who (m ∷ mails) mail to (inr a) =
    cond_both (eqb m.to who) (m ∷ filter (λ x. eqb x.to who) mails) (filter (λ x. eqb x.to who) mails) (λ l. Among (mark name mail) (map (mark name) l)) (λ _. inr (mark_among name who mails mail to a)) (λ _. mark_among name who mails mail to a)

-- a mark is that of some mail
pub among_mark : (P : Mark → Type 0) (name : Draw) (who : ℕ) (mails : List Mail) (m : Mark) → Each P (marks_for name who mails) → Among m (marks_for name who mails) → P m
among_mark P name who mails m e a = Each-among P (marks_for name who mails) m e a

row_new : (name : Draw) (from : ℕ) (first free next end : ℕ) (body : MailBody) → next ≤ free → InRow first free next end body → IsNewMark free end (mark_of name from body)
row_new name from first free next end (Accept group ballot slot command) le p = cond_both (same_draw group name) (Asks slot) Other (IsNewMark free end) (λ _. p) (λ _. tt)
row_new name from first free next end (Learn group slot command) le p = cond_both (same_draw group name) (Teaches slot) Other (IsNewMark free end) (λ _. (let high = p.1 in omega (arith, high, le))) (λ _. tt)
row_new name from first free next end (Answer group seq answer) le p = tt
row_new name from first free next end _ le p = absurd p

-- ---- votes of flights

find_left : {X : Type 0} (p : X → Bool) (xs ys : List X) (x : X) → find p xs ≡ Some x → find p (xs ++ ys) ≡ Some x
find_left p [] ys x e = cc
find_left p (y ∷ xs) ys x e = cond_both (p y) (Some y) (find p xs) (λ o. o ≡ Some x → cond (p y) (Some y) (find p (xs ++ ys)) ≡ Some x)
    (λ t k. cond-true (p y) (Some y) (find p (xs ++ ys)) t ∙ k) (λ f k. cond-false (p y) (Some y) (find p (xs ++ ys)) f ∙ find_left p xs ys x k) e

find_right : {X : Type 0} (p : X → Bool) (xs ys : List X) → find p xs ≡ None → find p (xs ++ ys) ≡ find p ys
find_right p [] ys e = refl
find_right p (y ∷ xs) ys e = cond_both (p y) (Some y) (find p xs) (λ o. o ≡ None → cond (p y) (Some y) (find p (xs ++ ys)) ≡ find p ys)
    (λ t k. cc) (λ f k. cond-false (p y) (Some y) (find p (xs ++ ys)) f ∙ find_right p xs ys k) e

abbrev kept_of : Option (Flight Command) → Option (List ℕ)
kept_of o = option_map (λ (flight : Flight Command). kept_voters flight.voters) o

-- votes are of what is in flight before the row, or there are none
module _ (held begins : List (Flight Command)) (free : ℕ) (new : Each (IsNew free) begins) where
  new_votes : (slot : ℕ) (voters : List ℕ) → voters_in begins slot ≡ Some voters → (free ≤ slot) × (voters ≡ [])
  new_votes slot voters e = by (flight_at slot begins) refl e
    where
      by : (o : Option (Flight Command)) → flight_at slot begins ≡ o → kept_of o ≡ Some voters → (free ≤ slot) × (voters ≡ [])
      by None f k = cc
      by (Some flight) f k =
          (let found = find_found (λ (x : Flight Command). eqb x.slot slot) begins flight f in
          let fact = Each-among (IsNew free) begins flight new found.0 in
          let late = fact.late in
          let at = eqb-true flight.slot slot found.1 in
          let none : Some (kept_voters flight.voters) ≡ Some [] = ap (λ v. Some (kept_voters v)) fact.unvoted in
          (omega (arith, late, at), (let e : Some voters ≡ Some [] = sym k ∙ none in cc)))

  votes_split : (slot : ℕ) (voters : List ℕ) → voters_in (held ++ begins) slot ≡ Some voters → (voters_in held slot ≡ Some voters) ⊎ ((free ≤ slot) × (voters ≡ []))
  votes_split slot voters e = by (flight_at slot held) refl
    where
      by : (o : Option (Flight Command)) → flight_at slot held ≡ o → (voters_in held slot ≡ Some voters) ⊎ ((free ≤ slot) × (voters ≡ []))
      by None f = inr (new_votes slot voters (ap kept_of (sym (find_right (λ (x : Flight Command). eqb x.slot slot) held begins f)) ∙ e))
      by (Some flight) f = inl (ap kept_of (f ∙ sym (find_left (λ (x : Flight Command). eqb x.slot slot) held begins flight f)) ∙ e)

  votes_kept : (slot : ℕ) (voters : List ℕ) → voters_in held slot ≡ Some voters → voters_in (held ++ begins) slot ≡ Some voters
  votes_kept slot voters e = by (flight_at slot held) refl e
    where
      by : (o : Option (Flight Command)) → flight_at slot held ≡ o → kept_of o ≡ Some voters → voters_in (held ++ begins) slot ≡ Some voters
      by None f k = cc
      by (Some flight) f k = ap kept_of (find_left (λ (x : Flight Command). eqb x.slot slot) held begins flight f) ∙ k

-- ---- what is in flight when a row of a leader goes on: what was, but for the vote that it takes
pub record IsHeldOn (flights held : List (Flight Command)) (taken : Mark) : Type 0 where
  pub kept : (slot : ℕ) (voters : List ℕ) → voters_in flights slot ≡ Some voters → IsElsewhere taken slot → voters_in held slot ≡ Some voters
  pub before : (slot : ℕ) (voters : List ℕ) → voters_in held slot ≡ Some voters → (was : List ℕ) × (voters_in flights slot ≡ Some was) × ((node : ℕ) → is_member was node ≡ true → is_member voters node ≡ true) × ((node : ℕ) → taken ≡ Votes node slot → is_member voters node ≡ true)

-- nothing of the group is taken
pub held_same : (flights : List (Flight Command)) → IsHeldOn flights flights Other
held_same flights = record { kept = λ slot voters e away. e; before = λ slot voters e. (voters, e, (λ node m. m), (λ node same. (let bad : Other ≡ Votes node slot = same in cc))) }

module _ (begun : Requests) (frame : Frame) (first free : ℕ) (flights held : List (Flight Command)) (wanted : ℕ → ℕ → Type 0) (taken : ℕ) (place : Place)
    (k : Leads begun frame first free held wanted taken place) where
  abbrev name : Draw
  name = frame.core.id

  abbrev end : ℕ
  end = next place.0 + taken

  abbrev sends : ℕ → List Mark
  sends who = marks_for name who place.1

  all_new : (who : ℕ) → Each (IsNewMark free end) (sends who)
  all_new who = (let le = k.reached in each_mark (IsNewMark free end) (IsSaid begun frame first free (next place.0) end) name who (λ mail s. row_new name mail.from first free (next place.0) end mail.body le s.in_row) place.1 k.said)

  -- a flight is at a slot that is taken
  flight_low : (slot : ℕ) (voters : List ℕ) → voters_in place.0.leader.flights slot ≡ Some voters → (next place.0 ≤ slot) × (slot < end)
  flight_low slot voters e = by (flight_at slot place.0.leader.flights) refl e
    where
      in_taken : 1 ≤ takers place.0 slot → (next place.0 ≤ slot) × (slot < end)
      in_taken some =
          let once = k.leader.slots.once slot in
          elim (cases_lt slot (next place.0)) [
            | inl low ↦ (let none = one_no (in_range (next place.0) taken slot) (range_before (next place.0) taken slot low) in absurd (omega (arith, once, none, some)))
            | inr on ↦ elim (cases_lt slot (next place.0 + taken)) [
              | inl under ↦ (on, under)
              | inr over ↦ (let none = one_no (in_range (next place.0) taken slot) (range_behind (next place.0) taken slot over) in absurd (omega (arith, once, none, some)))
            ]
          ]

      by : (o : Option (Flight Command)) → flight_at slot place.0.leader.flights ≡ o → kept_of o ≡ Some voters → (next place.0 ≤ slot) × (slot < end)
      by None f v = cc
      by (Some flight) f v = (let some = found_one (λ (x : Flight Command). eqb x.slot slot) place.0.leader.flights flight f in in_taken (omega (arith, some)))

  -- what is offered in the row is in flight, without a vote
  offered_flies : ((slot : ℕ) → free ≤ slot → flight_at slot held ≡ None) → (slot : ℕ) → free ≤ slot → slot < end → voters_in place.0.leader.flights slot ≡ Some []
  offered_flies past slot least high =
      let reached = k.reached in
      let once = k.leader.slots.once slot in
      let one = one_yes (in_range (next place.0) taken slot) (range_yes (next place.0) taken slot (omega (arith, reached, least)) high) in
      let none = no_ready place.0.ready k.early in
      let found = find_some (λ (x : Flight Command). eqb x.slot slot) place.0.leader.flights (omega (arith, once, one, none)) in
      let there : flight_at slot place.0.leader.flights ≡ Some found.0 = found.1 in
      let split : flight_at slot (held ++ k.begun_flights) ≡ flight_at slot k.begun_flights = find_right (λ (x : Flight Command). eqb x.slot slot) held k.begun_flights (past slot least) in
      let begun_ : flight_at slot k.begun_flights ≡ Some found.0 = sym split ∙ (ap (flight_at slot) (sym k.flights_are) ∙ there) in
      let among = find_found (λ (x : Flight Command). eqb x.slot slot) k.begun_flights found.0 begun_ in
      let fact = Each-among (IsNew free) k.begun_flights found.0 k.new among.0 in
      ap kept_of there ∙ ap (λ v. Some (kept_voters v)) fact.unvoted
    where
      no_ready : (es : List (ℕ × Command)) → Each (λ (entry : ℕ × Command). entry.0 < free) es → entries_at slot es ≡ 0
      no_ready [] e = refl
      no_ready (x ∷ es) e =
          (let c = count-cons (λ (y : ℕ × Command). eqb y.0 slot) x es in
          let low = e.0 in
          let no_ = one_no (eqb x.0 slot) (ne_eqb x.0 slot (λ same. absurd (omega (arith, same, low, least)))) in
          let rest = no_ready es e.1 in
          omega (arith, c, no_, rest))

  -- what the row does, as marks
  pub leads_moves : (now after : View) (mark_taken : Mark) → now.next frame.lead ≡ first → now.bound ≡ free → ((slot : ℕ) → now.voters slot ≡ voters_in flights slot) →
      after.next frame.lead ≡ next place.0 → after.bound ≡ end → ((slot : ℕ) → after.voters slot ≡ voters_in place.0.leader.flights slot) →
      IsCount frame mark_taken → IsHeldOn flights held mark_taken → ((slot : ℕ) → free ≤ slot → flight_at slot held ≡ None) → LeadsTo frame now after frame.lead mark_taken sends
  leads_moves now after mark_taken n b v n' b' v' counts on past =
      let low = k.low in
      let reached = k.reached in
      let more = k.more in
      record {
        leads = refl;
        takes = counts;
        executed = next place.0 - first;
        next = omega (arith, n, n', low);
        within = omega (arith, n', b, reached);
        bound = omega (arith, b, b', more);
        tells = λ who m ne. learnt_marks name who place.1 ∙ (k.learns who m ne ∙ ap (λ x. numbers_from x (next place.0 - first)) (sym n));
        sends = λ who. subst (λ x. Each (IsNewMark x after.bound) (sends who)) (sym b) (subst (λ x. Each (IsNewMark free x) (sends who)) (sym b') (all_new who));
        offered = λ slot a. (let fact = among_mark (IsNewMark free end) name frame.lead place.1 (Asks slot) (all_new frame.lead) a in v' slot ∙ offered_flies past slot fact.0 fact.1);
        flying = λ slot voters e. (let fact = flight_low slot voters (sym (v' slot) ∙ e) in let on_ = fact.0 in omega (arith, n', on_));
        kept = λ slot voters e away. v' slot ∙ (ap (λ fs. voters_in fs slot) k.flights_are ∙ votes_kept held k.begun_flights free k.new slot voters (on.kept slot voters (sym (v slot) ∙ e) away));
        grown = λ slot voters e.
            (let now_ : voters_in place.0.leader.flights slot ≡ Some voters = sym (v' slot) ∙ e in
            let range = flight_low slot voters now_ in
            elim (votes_split held k.begun_flights free k.new slot voters (ap (λ fs. voters_in fs slot) (sym k.flights_are) ∙ now_)) [
              | inl old ↦ (let was = on.before slot voters old in inr (record { before = was.0; flew = v slot ∙ was.1; keeps = was.2; counts = was.3 }))
              | inr new ↦ (
                  let least = new.0 in
                  inl (record {
                    from = omega (arith, b, least);
                    none = new.1;
                    asks = λ node m. (let offer = k.offers slot node new.0 range.1 (member-among (frame.at slot) node m) in
                        subst (λ x. Among x (sends node)) (cond-true (same_draw name name) (Asks slot) Other (same_name name name refl))
                        (mark_among name node place.1 (mail_of frame.lead node (Accept name frame.ballot slot offer.0)) refl offer.1));
                  }))
            ]);
      }
