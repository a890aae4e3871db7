-- Companies that go on, and whether mail is pending at the end of rounds.
use Rattle.std.proofs.Common.{◌≡◌, ℕ, zero, suc, ◌<◌, Bool, true, false, true≢false, eqb, not, List, [], ◌∷◌, length, get_or, refl, sym, ap, ◌∙◌, subst, arith, Option, Some, None, is_some, Contains}
use Rattle.std.specs.Prelude.{is_none}
use Rattle.std.specs.List.{list_any}
use Rattle.std.proofs.lemmas.Bool.{and_parts, or_parts}
use Rattle.sc_actor.specs.declared.actors.Actor.{Ghosts}
use Rattle.sc_actor.specs.declared.actors.Parcel.{Ghosts as MailGhosts}
use Rattle.sc_actor.specs.declared.actors.Seat.{Seat}
use Rattle.sc_actor.specs.Mail.{has_crashed}
use Rattle.sc_actor.specs.System.{numbers_of, waiting, kth}
use Rattle.sc_actor.specs.Walk.{is_quiet}
use Rattle.sc_thread_ledger.specs.Pending.{kth_pending}
use Rattle.sc_thread_ports.specs.declared.exchange.ports.Port.{Port}
use Rattle.sc_thread_ports.specs.exchange.BareRows.{rows_of}
use Rattle.sc_thread_ports.specs.exchange.Ports.{seen, made, Looked, IsTrue}
use Rattle.sc_thread_work.specs.declared.shell.shells.Shell.{Shell}
use Rattle.sc_thread_workers.specs.Crews.{AllGo, AllOver, AllStill, AllSound, crew_numbers}
use Rattle.sc_thread_workers.specs.RoundEnds.{any_waits, IsGathered}
use Rattle.sc_thread_workers.proofs.Crews.{still_all_go, still_sound, still_rows}
use Rattle.sc_thread_workers.proofs.Serving.{numbers_go, count_later, list_same, waits_at, is_some_is}
use Rattle.sc_thread_drive.specs.Numbers.{is_in, apart}
use Rattle.sc_thread_drive.specs.Companies.{IsCompany}
use Rattle.sc_thread_drive.proofs.OneActed.{count_seen, none_seen, replays_of, count_company}
use Rattle.sc_thread_drive.proofs.SystemWords.{sys, waiting_at}
use Rattle.sc_actor.proofs.PendingLemmas.{some_waits, first_is}
use Rattle.sc_thread_drive.proofs.FreeRows.{in_at, flip_in}
use Rattle.std.proofs.lemmas.List.{nil_from_length}
use Rattle.sc_thread_workers.proofs.ChangedLists.{one_of}
use Rattle.sc_thread_ports.proofs.ExchangeProofs.Knowing.{own_length}

module _ {M O : Type 0} {h : MailGhosts M} where
  -- what is true later was true before
  pub true_before : (net next : Port M O h) → Looked net next → IsTrue next → IsTrue net
  true_before net next l t = record {
    own =
        let same : rows_of net.who (seen next) ≡ made net = ap (λ n. rows_of n (seen next)) (sym l.stays.who) ∙ (t.own ∙ l.made) in
        sym (list_same net.who (seen next) (seen net) l.later (ap length same ∙ sym (own_length net))) ∙ same;
    others = λ z n ne away.
        let none : rows_of n (seen next) ≡ [] = t.others (l.stays.who ∙ z) n ne (λ there. away (subst (λ ws. Contains ws n) l.stays.given there)) in
        nil_from_length (rows_of n (seen net)) (omega (arith, ap length none, count_later n (seen next) (seen net) l.later));
  }

module _ {A M O : Type 0} {g : Ghosts A M O} {h : MailGhosts M} where
  -- shells that have gone on are a company again
  pub company_go : (births : List (Seat A)) (net next : Port M O h) (ss after : List (Shell A M O g h)) → IsCompany births net ss → Looked net next → length after ≡ length ss → AllGo ss after → AllOver next after → IsTrue next → AllSound after → IsCompany births next after
  company_go births net next ss after c looked len go over rows sound =
      let same : crew_numbers after ≡ crew_numbers ss = numbers_go ss after len go in record {
        first = looked.stays.who ∙ c.first;
        all = looked.stays.given ∙ (c.all ∙ sym same);
        born = same ∙ c.born;
        far = ap (λ ws. apart (0 ∷ ws)) same ∙ c.far;
        within = λ k d lt. let le : k < length ss = omega (arith, lt, len) in omega (arith, (go k d le).stays.who, looked.stays.exchange.1, c.within k d le);
        over = over;
        rows = rows;
        sound = sound;
        replay = λ k d e lt. let le : k < length ss = omega (arith, lt, len) in replays_of (get_or after k d) (get_or births k e).actor (sound k d lt) ((go k d le).replay (get_or births k e).actor (λ _. c.replay k d e le));
      }

  -- all gather once more, and nothing was made
  pub company_still : (births : List (Seat A)) (net next : Port M O h) (ss after : List (Shell A M O g h)) → IsCompany births net ss → Looked net next → length after ≡ length ss → AllStill ss after → IsGathered next after → IsTrue next → IsCompany births next after × (seen next ≡ seen net)
  company_still births net next ss after c looked len still gathered rows =
      let d : IsCompany births next after = company_go births net next ss after c looked len (still_all_go ss after still) gathered.over rows (still_sound ss after len still c.sound) in
      let a = count_company births net ss c in
      let b = count_company births next after d in
      (d, none_seen net next (length (seen net)) looked.later refl (omega (arith, a, b, ap length looked.made, still_rows ss after len still)))

  -- the same of what was seen alone
  pub gathered_same : (births : List (Seat A)) (net mid next : Port M O h) (ss mids after : List (Shell A M O g h)) → IsCompany births net ss → Looked net mid → length mids ≡ length ss → AllGo ss mids → AllOver mid mids → IsTrue mid →
      Looked mid next → length after ≡ length mids → AllStill mids after → IsGathered next after → IsTrue next → seen next ≡ seen mid
  gathered_same births net mid next ss mids after c looked len go over rows looked2 len2 still gathered rows2 =
      let one : crew_numbers mids ≡ crew_numbers ss = numbers_go ss mids len go in
      let two : crew_numbers after ≡ crew_numbers ss = numbers_go mids after len2 (still_all_go mids after still) ∙ one in
      let a = count_seen mid mids (looked.stays.who ∙ c.first) (looked.stays.given ∙ (c.all ∙ sym one)) (ap (λ ws. apart (0 ∷ ws)) one ∙ c.far) over rows in
      let b = count_seen next after (looked2.stays.who ∙ (looked.stays.who ∙ c.first)) (looked2.stays.given ∙ (looked.stays.given ∙ (c.all ∙ sym two))) (ap (λ ws. apart (0 ∷ ws)) two ∙ c.far) gathered.over rows2 in
      none_seen mid next (length (seen mid)) looked2.later refl (omega (arith, a, b, ap length looked2.made, still_rows mids after len2 still))

  any_false : (p : ℕ → Bool) (ss : List (Shell A M O g h)) → list_any p (crew_numbers ss) ≡ false → (k : ℕ) (d : Shell A M O g h) → k < length ss → p (get_or ss k d).port.who ≡ false
  any_false p [] e k d lt = absurd (omega arith)
  any_false p (s ∷ ss) e zero d lt = (or_parts (p s.port.who) (list_any p (crew_numbers ss)) e).0
  any_false p (s ∷ ss) e (suc k) d lt = any_false p ss (or_parts (p s.port.who) (list_any p (crew_numbers ss)) e).1 k d (omega (arith, lt))

  module _ (words : ℕ → ℕ → ℕ × ℕ) (births : List (Seat A)) (net next : Port M O h) (ss : List (Shell A M O g h)) (c : IsCompany births net ss) (actors : next.actors ≡ net.actors) where
    -- nothing waits for the shells' actors, so nothing waits
    pub quiet_after : any_waits next (crew_numbers ss) ≡ false → is_quiet (sys words births net ss c) (seen next) ≡ true
    quiet_after none = by (kth (waiting (sys words births net ss c) (seen next) None) 1) refl
      where
        by : (o : Option ℕ) → kth (waiting (sys words births net ss c) (seen next) None) 1 ≡ o → is_none o ≡ true
        by None e = refl
        by (Some n) e =
            let f = first_is (sys words births net ss c) (seen next) n e in
            let w = h.receiver f.0 in
            let there : is_in w (crew_numbers ss) ≡ true = ap (is_in w) c.born ∙ flip_in w (numbers_of births) (and_parts (list_any (λ a. eqb a w) (numbers_of births)) (not (has_crashed (seen next) w)) f.2).0 in
            let place = in_at w ss there in
            let d = one_of ss place.0 place.1 in
            let first : kth_pending h.receiver next.actors (seen next) (get_or ss place.0 d).port.who 1 ≡ Some n =
            ap (λ a. kth_pending h.receiver a (seen next) (get_or ss place.0 d).port.who 1) actors ∙ (waiting_at words births net ss c place.0 place.1 d (seen next) 1 ∙ (ap (λ v. kth (waiting (sys words births net ss c) (seen next) (Some v)) 1) (place.2 d) ∙ f.3)) in
            absurd (true≢false (sym (ap is_some first) ∙ any_false (λ who. is_some (kth_pending h.receiver next.actors (seen next) who 1)) ss none place.0 d place.1))

    -- mail waits for one of them
    pub cut_after : any_waits next (crew_numbers ss) ≡ true → is_quiet (sys words births net ss c) (seen next) ≡ false
    cut_after some =
        let place = waits_at (λ who. is_some (kth_pending h.receiver next.actors (seen next) who 1)) ss some in
        let d = one_of ss place.0 place.1 in
        let n = is_some_is (kth_pending h.receiver next.actors (seen next) (get_or ss place.0 d).port.who 1) (place.2 d) in
        some_waits (sys words births net ss c) (seen next) (get_or ss place.0 d).port.who n.0
        (sym (waiting_at words births net ss c place.0 place.1 d (seen next) 1) ∙ (ap (λ a. kth_pending h.receiver a (seen next) (get_or ss place.0 d).port.who 1) (sym actors) ∙ n.1))
