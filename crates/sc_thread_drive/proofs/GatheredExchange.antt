-- What is kept of the exchange, once all have gathered.
use Rattle.std.proofs.Common.{◌≡◌, ℕ, ◌<◌, true, true≢false, List, length, get_or, set, refl, sym, ap, ◌∙◌, arith}
use Rattle.sc_actor.specs.declared.actors.Actor.{Ghosts}
use Rattle.sc_actor.specs.declared.actors.Parcel.{Ghosts as MailGhosts}
use Rattle.sc_actor.specs.declared.rows.Event.{Event}
use Rattle.sc_thread_ports.specs.declared.exchange.ports.Port.{Port}
use Rattle.sc_thread_ports.specs.exchange.Ports.{SameExchange, Stays, Looked}
use Rattle.sc_thread_work.specs.declared.shell.shells.Shell.{Shell}
use Rattle.sc_thread_work.specs.declared.shell.turns.Turn.{Turn}
use Rattle.sc_thread_work.specs.declared.shell.turns.Turn.TheVariants.{Did, Empty, Full, Spent, OutOfMemory}
use Rattle.sc_thread_work.specs.shell.Shells.{Happens, State, Takes, state}
use Rattle.sc_thread_workers.specs.Crews.{AllGo, AllOf, AllSound, AllStill, AreLater, AreStill, Sound, Still, crew_numbers}
use Rattle.sc_thread_workers.specs.RoundEnds.{IsGathered}
use Rattle.sc_thread_workers.proofs.ChangedLists.{get_any}
use Rattle.sc_thread_workers.proofs.Crews.{all_of_go, all_of_later, all_of_on, later_then, stays_same as stays_self, still_all_go, still_later, still_sound}
use Rattle.sc_thread_workers.proofs.Serving.{numbers_go}
use Rattle.sc_thread_drive.specs.Acts.{IsEventAnswer, SoundAfter}
use Rattle.sc_thread_drive.specs.Goings.{IsKept, IsOn, IsTogether}
use Rattle.sc_thread_drive.proofs.OneActed.{length_set, numbers_set, set_all, sound_acted}
use Rattle.sc_thread_ports.proofs.ExchangeProofs.Knowing.{looked_trans, stays_trans}

module _ {A M O : Type 0} {g : Ghosts A M O} {h : MailGhosts M} where
  -- the shells are of the exchange of a port that stays
  pub all_of_stays : (net next : Port M O h) (ss : List (Shell A M O g h)) → Stays net next → AllOf net ss → AllOf next ss
  all_of_stays net next ss s of k d lt = let o = of k d lt in let e = s.exchange in (e.0 ∙ o.0, e.1 ∙ o.1, e.2 ∙ o.2)

  -- what is kept from a later beginning is kept from an earlier one
  pub kept_then : (a b c : Port M O h) (ss ts us : List (Shell A M O g h)) → Stays a b → crew_numbers ts ≡ crew_numbers ss → IsKept b ts c us → IsKept a ss c us
  kept_then a b c ss ts us stays same kept = record {
    stays = stays_trans a b c stays kept.stays;
    exchange = kept.exchange;
    same = kept.same ∙ same;
    over = kept.over;
    rows = kept.rows;
  }

  -- the same shells at a port that stays
  pub on_same : (net : Port M O h) (ss : List (Shell A M O g h)) → IsTogether net ss → IsOn net ss net ss
  on_same net ss t = record {
    kept = record { stays = stays_self net; exchange = t.crew.exchange; same = refl; over = t.over; rows = t.rows };
    sound = t.crew.sound;
  }

  -- what goes on and on
  pub on_then : (a b c : Port M O h) (ss ts us : List (Shell A M O g h)) → IsOn a ss b ts → IsOn b ts c us → IsOn a ss c us
  on_then a b c ss ts us one two = record { kept = kept_then a b c ss ts us one.kept.stays one.kept.same two.kept; sound = two.sound }

  -- after what stays, all are together again
  pub together_on : (net next : Port M O h) (ss after : List (Shell A M O g h)) → net.who ≡ 0 → IsOn net ss next after → IsTogether next after
  together_on net next ss after first on = record {
    crew = record { first = on.kept.stays.who ∙ first; exchange = on.kept.exchange; sound = on.sound };
    over = on.kept.over;
    rows = on.kept.rows;
  }

  -- the shells went on, and the network's port, and all gathered
  pub kept_gone : (net mid next : Port M O h) (ss mids after : List (Shell A M O g h)) → AllOf net ss → AreLater net mid ss mids → AreStill mid next mids after → IsGathered next after → IsKept net ss next after
  kept_gone net mid next ss mids after of later still gathered =
      let whole = later_then net mid next ss mids after later (still_later mid next mids after still) in record {
        stays = whole.looked.stays;
        exchange = all_of_on net next ss after whole of;
        same = numbers_go ss after whole.len whole.go;
        over = gathered.over;
        rows = gathered.rows;
      }

  -- the network's port went on, and all gathered
  pub kept_gathered : (net mid next : Port M O h) (ss after : List (Shell A M O g h)) → AllOf net ss → Stays net mid → AreStill mid next ss after → IsGathered next after → IsKept net ss next after
  kept_gathered net mid next ss after of stays still gathered =
      let on : Stays net next = stays_trans net mid next stays still.looked.stays in record {
        stays = on;
        exchange = all_of_go next ss after still.len (still_all_go ss after still.still) (all_of_stays net next ss on of);
        same = numbers_go ss after still.len (still_all_go ss after still.still);
        over = gathered.over;
        rows = gathered.rows;
      }

  -- the same, and all are sound
  pub on_gathered : (net mid next : Port M O h) (ss after : List (Shell A M O g h)) → AllOf net ss → AllSound ss → Stays net mid → AreStill mid next ss after → IsGathered next after → IsOn net ss next after
  on_gathered net mid next ss after of sound stays still gathered = record {
    kept = kept_gathered net mid next ss after of stays still gathered;
    sound = still_sound ss after still.len still.still sound;
  }

  -- one shell acted, which met the port
  pub all_of_acted : (net mid : Port M O h) (ss : List (Shell A M O g h)) (k : ℕ) (t : Shell A M O g h) → k < length ss → AllOf net ss → Stays (get_or ss k t).port t.port → Looked net mid → AllOf mid (set ss k t)
  all_of_acted net mid ss k t lt of mine looked =
      let o = of k t lt in
      let e = mine.exchange in
      let there : AllOf net (set ss k t) = λ j d less. set_all (λ i s. SameExchange s.port net) ss k t lt (o.0 ∙ sym e.0, o.1 ∙ sym e.1, o.2 ∙ sym e.2) (λ i x l. of i x l) j d (omega (arith, less, length_set ss k t)) in
      all_of_later net mid (set ss k t) looked there

  -- one shell acted, and all gathered
  pub kept_acted : (net mid next : Port M O h) (ss after : List (Shell A M O g h)) (k : ℕ) (t : Shell A M O g h) → k < length ss → AllOf net ss → Stays (get_or ss k t).port t.port → Looked net mid → AreStill mid next (set ss k t) after → IsGathered next after → IsKept net ss next after
  kept_acted net mid next ss after k t lt of mine looked still gathered =
      let middle = set ss k t in
      let all : Looked net next = looked_trans net mid next looked still.looked in
      let go : AllGo middle after = still_all_go middle after still.still in record {
        stays = all.stays;
        exchange = all_of_go next middle after still.len go (all_of_later mid next middle still.looked (all_of_acted net mid ss k t lt of mine looked));
        same = numbers_go middle after still.len go ∙ numbers_set ss k t lt (λ d. mine.who ∙ ap (λ (s : Shell A M O g h). s.port.who) (get_any ss k t d lt));
        over = gathered.over;
        rows = gathered.rows;
      }

  -- what the shell's turn leaves sound
  module _ (ss after : List (Shell A M O g h)) (k : ℕ) (met t : Shell A M O g h) (lt : k < length ss) (was : Still (get_or ss k t) met) (sound : AllSound ss) (len : length after ≡ length (set ss k t)) (rest : AllStill (set ss k t) after) where
    sound_met : Sound met
    sound_met spent = was.crashed ∙ sound k t lt (sym was.spent ∙ spent)

    sound_same : t.port ≡ met.port → met.spent ≡ true → Sound t
    sound_same port spent = λ _. ap (λ (p : Port M O h). p.crashed) port ∙ sound_met spent

    sound_all : Sound t → AllSound after
    sound_all mine = sound_acted ss after k t lt sound mine len rest

    -- after an event
    pub sound_after_event : (event : Event O) (turn : Turn) → Happens (state met) (state t) event turn → SoundAfter turn after
    sound_after_event event (Did at) x = sound_all (λ spent. x.1.4 ∙ (sym x.1.3 ∙ spent))
    sound_after_event event (Empty reported) x = absurd x.1
    sound_after_event event (Full bytes) x = tt
    sound_after_event event Spent x = sound_all (sound_same x.2 x.0)
    sound_after_event event OutOfMemory x = tt

    -- after a turn
    pub sound_after_turn : (n : ℕ) (turn : Turn) → Takes (state met) (state t) n turn → SoundAfter turn after
    sound_after_turn n (Did at) x = sound_all (λ spent. absurd (true≢false (sym spent ∙ x.2.3)))
    sound_after_turn n (Empty reported) x = sound_all (λ spent. absurd (true≢false (sym spent ∙ x.1.4)))
    sound_after_turn n (Full bytes) x = tt
    sound_after_turn n Spent x = sound_all (sound_same x.2 x.0)
    sound_after_turn n OutOfMemory x = tt

  -- an event is no fetch
  pub is_event_answer : (s t : State A M O g h) (event : Event O) (turn : Turn) → Happens s t event turn → IsEventAnswer turn
  is_event_answer s t event (Did at) x = tt
  is_event_answer s t event (Empty reported) x = absurd x.1
  is_event_answer s t event (Full bytes) x = tt
  is_event_answer s t event Spent x = tt
  is_event_answer s t event OutOfMemory x = tt
