-- Shells at their births, once all have gathered.
use Rattle.std.proofs.Common.{◌≡◌, ℕ, suc, ◌<◌, Bool, true, false, eqb, not, ◌||◌, ◌&&◌, List, [], ◌∷◌, length, get_or, refl, sym, ap, ◌∙◌, subst, arith}
use Rattle.std.specs.List.{list_any}
use Rattle.std.proofs.lemmas.Bool.{eqb-true, and_parts}
use Rattle.sc_actor.specs.declared.actors.Actor.{Ghosts}
use Rattle.sc_actor.specs.declared.actors.Parcel.{Ghosts as MailGhosts}
use Rattle.sc_actor.specs.declared.actors.Seat.{Seat}
use Rattle.sc_actor.specs.Replay.{value}
use Rattle.sc_actor.specs.System.{numbers_of, are_apart}
use Rattle.sc_thread_ports.specs.declared.exchange.ports.Port.{Port}
use Rattle.sc_thread_ports.specs.exchange.Ports.{seen, made, Looked, IsTrue}
use Rattle.sc_thread_work.specs.declared.shell.shells.Shell.{Shell}
use Rattle.sc_thread_work.specs.shell.Shells.{Replays}
use Rattle.sc_thread_work.proofs.ShellProofs.Replaying.{replay_born}
use Rattle.sc_thread_workers.specs.Crews.{AllStill, crew_numbers, rows_made}
use Rattle.sc_thread_workers.specs.RoundEnds.{IsGathered}
use Rattle.sc_thread_workers.proofs.Crews.{still_all_go, still_sound, still_rows}
use Rattle.sc_thread_workers.proofs.Serving.{numbers_go}
use Rattle.sc_thread_drive.specs.Numbers.{is_in, apart}
use Rattle.sc_thread_drive.specs.Companies.{IsCompany, AtBirth, seats}
use Rattle.sc_thread_drive.proofs.RowCounts.{sum_each, sum_nothing, flip}
use Rattle.sc_thread_drive.proofs.OneActed.{replays_of, count_company}
use Rattle.std.proofs.lemmas.List.{get_or-map, length-map, nil_from_length}

module _ {A : Type 0} where
  -- different seats have different numbers
  any_in : (n : ℕ) (births : List (Seat A)) → list_any (λ other. eqb other.who n) births ≡ is_in n (numbers_of births)
  any_in n [] = refl
  any_in n (b ∷ births) = λ i. flip b.who n i || any_in n births i

  far_apart : (births : List (Seat A)) → are_apart births ≡ true → apart (numbers_of births) ≡ true
  far_apart [] far = refl
  far_apart (b ∷ births) far =
      let parts = and_parts (not (list_any (λ other. eqb other.who b.who) births)) (are_apart births) far in
      λ i. (ap not (sym (any_in b.who births)) ∙ parts.0) i && far_apart births parts.1 i

  -- no seat has the network's number
  zero_out : (births : List (Seat A)) → ((k : ℕ) (e : Seat A) → k < length births → 0 < (get_or births k e).who) → is_in 0 (numbers_of births) ≡ false
  zero_out [] some = refl
  zero_out (b ∷ births) some =
      λ i. by (eqb 0 b.who) refl i || zero_out births (λ k e lt. some (suc k) e (omega (arith, lt))) i
    where
      by : (t : Bool) → eqb 0 b.who ≡ t → eqb 0 b.who ≡ false
      by true is = absurd (let first : 0 < b.who = some 0 b (omega arith) in omega (arith, first, eqb-true 0 b.who is))
      by false is = is

module _ {A M O : Type 0} {g : Ghosts A M O} {h : MailGhosts M} where
  numbers_born : (ss : List (Shell A M O g h)) → crew_numbers ss ≡ numbers_of (seats ss)
  numbers_born [] = refl
  numbers_born (s ∷ ss) = ap (λ l. s.port.who ∷ l) (numbers_born ss)

  abbrev seat : Shell A M O g h → Seat A
  seat s = record { who = s.port.who; actor = s.actor }

  module _ (births : List (Seat A)) (net next : Port M O h) (ss after : List (Shell A M O g h)) (b : AtBirth births net ss) (looked : Looked net next) (len : length after ≡ length ss) (still : AllStill ss after) (gathered : IsGathered next after) (rows : IsTrue next) where
    births_long : length births ≡ length ss
    births_long = ap length (sym b.born) ∙ length-map ss seat

    seat_is : (k : ℕ) (d : Shell A M O g h) (e : Seat A) → k < length ss → seat (get_or ss k d) ≡ get_or births k e
    seat_is k d e lt = sym (get_or-map seat ss k d e lt) ∙ ap (λ l. get_or l k e) b.born

    numbers_are : crew_numbers after ≡ crew_numbers ss
    numbers_are = numbers_go ss after len (still_all_go ss after still)

    born_is : crew_numbers after ≡ numbers_of births
    born_is = numbers_are ∙ (numbers_born ss ∙ ap numbers_of b.born)

    far_is : apart (0 ∷ numbers_of births) ≡ true
    far_is = λ i. ap not (zero_out births (λ k e lt. (b.numbered k e lt).0)) i && far_apart births b.far i

    replays_before : (k : ℕ) (d : Shell A M O g h) (e : Seat A) → k < length ss → Replays (get_or ss k d) (get_or births k e).actor
    replays_before k d e lt =
        let s = get_or ss k d in
        subst (λ (birth : A). s.actor ≡ value g.table (record { who = s.port.who; actor = birth }) (seen s.port)) (ap (λ (x : Seat A). x.actor) (seat_is k d e lt)) (replay_born g.table s.port s.actor (b.fresh k d lt).0)

    -- a company at its birth
    pub company_born : IsCompany births next after
    company_born = record {
      first = looked.stays.who ∙ b.crew.first;
      all = looked.stays.given ∙ (b.all ∙ sym numbers_are);
      born = born_is;
      far = ap (λ ws. apart (0 ∷ ws)) born_is ∙ far_is;
      within = λ k d lt.
          let le : k < length ss = omega (arith, lt, len) in
          let e = seat d in
          let most = (b.numbered k e (omega (arith, le, births_long))).1 in
          let number : (get_or ss k d).port.who ≡ (get_or births k e).who = ap (λ (x : Seat A). x.who) (seat_is k d e le) in
          omega (arith, (still k d le).goes.stays.who, looked.stays.exchange.1, most, number);
      over = gathered.over;
      rows = rows;
      sound = still_sound ss after len still b.crew.sound;
      replay = λ k d e lt. let le : k < length ss = omega (arith, lt, len) in replays_of (get_or after k d) (get_or births k e).actor (still_sound ss after len still b.crew.sound k d lt) ((still k d le).goes.replay (get_or births k e).actor (λ _. replays_before k d e le));
    }

    none_made : rows_made ss ≡ 0
    none_made = sum_each (λ (s : Shell A M O g h). length (made s.port)) (λ (s : Shell A M O g h). 0) ss (λ k d lt. ap length (b.fresh k d lt).0) ∙ sum_nothing ss

    -- no row is there at birth
    pub nothing_seen : seen next ≡ []
    nothing_seen =
        let c = company_born in
        nil_from_length (seen next) (omega (arith, count_company births next after c, still_rows ss after len still, none_made, ap length (looked.made ∙ b.unmade)))
