-- Which kinds of rows the rows of a group are.
use Rattle.std.proofs.Common.{◌≡◌, ℕ, true, false, true≢false, cond, List, [], ◌∷◌, ◌++◌, Option, Some, None, inl, inr, sym, ◌∙◌, ap, subst}
use Rattle.std.proofs.lemmas.Bool.{cases_Bool, cases_eq}
use Rattle.sc_base.specs.Definitions.{Each}
use Rattle.sc_node_table.specs.Values.{Draw, OrderLine, Seat, Event}
use Rattle.sc_actor.specs.Definitions.{mails, numbers_of, row_of}
use Rattle.sc_node_table.specs.NodeDefinitions.{ReplicaState, Place}
use Rattle.sc_meaning.specs.sound.SoundDefinitions.{Player, player_table}
use Rattle.sc_live_steps.specs.calm.CalmDefinitions.{Rows}
use Rattle.sc_live_steps.specs.orders.OrderDefinitions.{First, Lone, Next, is_watch, Bond, Unbound, Asking, Errand, Question, Reply, Work, Opens, Answers, Records, Ends, Scene, IsOnly, bound_by, GoesOn, Executes, results, bond_of, works, errands_for}
use Rattle.sc_live_journals.specs.rows.RowDefinitions.{view_at, with_event}
use Rattle.sc_live_journals.proofs.RowsProofs.RowLemmas.{view_others}
use Rattle.sc_live_journals.specs.scenes.SceneDefinitions.{scene_at, taken_errand, errands_sent, IsTablesRow, LeadsAlone, NoneRuns, Stays, IsUnled, AsidesStay, AsidesAre, IsLeadsRow, LeadersAre, IsEntrysRow, EntriesAre}
use Rattle.sc_live_journals.proofs.ScenesProofs.GroupParts.{same_part}
use Rattle.sc_live_journals.proofs.ScenesProofs.SceneViews.{tell}

-- errands that are the same are those of these groups alone
pub only_as : (sent : List (Draw × List Errand)) (one other : Draw → List Errand) → ((name : Draw) → other name ≡ one name) → IsOnly [] sent one → IsOnly [] sent other
only_as sent one other same only = (each sent only.0, λ name none. same name ∙ only.1 name none)
  where
    each : (some : List (Draw × List Errand)) → Each (λ entry. one entry.0 ≡ entry.1) some → Each (λ entry. other entry.0 ≡ entry.1) some
    each [] all = tt
    each (entry ∷ some) all = (same entry.0 ∙ all.0, each some all.1)

module _ (births : List (Seat Player)) (rows : Rows) (seat : Seat Player) (event : Event OrderLine) (name : Draw) where
  abbrev now : Scene
  now = scene_at births rows

  abbrev after_rows : Rows
  after_rows = with_event rows seat event

  abbrev then_ : Scene
  then_ = scene_at births after_rows

  abbrev one : ℕ → Option ReplicaState
  one = view_at births rows name

  abbrev other : ℕ → Option ReplicaState
  other = view_at births after_rows name

  pub others_same : (node : ℕ) → (node ≡ seat.who → ⊥) → other node ≡ one node
  others_same node ne = view_others births rows (row_of player_table seat rows event) name node ne

  pub all_same : other seat.who ≡ one seat.who → (node : ℕ) → other node ≡ one node
  all_same own node = elim (cases_eq node seat.who) [ inl e ↦ ap other e ∙ (own ∙ sym (ap one e)) | inr ne ↦ others_same node ne ]

  -- the replicas stay
  missed_stays : other seat.who ≡ one seat.who → Stays births rows seat event name
  missed_stays own = (let part = same_part one other (numbers_of births) (all_same own) in record { bond = part.bond; work = part.work; leads = part.leads })

  module _ (r : ReplicaState) (after : Place) (table : IsTablesRow births rows seat event name r after) where
    own_is : (node : ℕ) (x : ReplicaState) → node ≡ seat.who → other node ≡ Some x → after.0 ≡ x
    own_is node x e has = (let own : Some after.0 ≡ Some x = sym table.fact ∙ (sym (ap other e) ∙ has) in cc)

    -- who leads alone, and runs on, leads alone
    pub leads_on : LeadsAlone births rows name seat.who r → after.0.running ≡ true → LeadsAlone births after_rows name seat.who after.0
    leads_on leads runs = record {
      is_there = table.fact;
      running = runs;
      alone = λ node x has running. elim (cases_eq node seat.who) [ inl e ↦ e | inr ne ↦ leads.alone node x (sym (others_same node ne) ∙ has) running ];
    }

    -- where it stops, none runs
    pub stops_alone : LeadsAlone births rows name seat.who r → after.0.running ≡ false → NoneRuns births after_rows name
    stops_alone leads stops node x has = elim (cases_eq node seat.who) [
      | inl e ↦ subst (λ (y : ReplicaState). y.running ≡ false) (own_is node x e has) stops
      | inr ne ↦ elim (cases_Bool x.running) [ inl t ↦ absurd (ne (leads.alone node x (sym (others_same node ne) ∙ has) t)) | inr f ↦ f ]
    ]

    -- none runs by it
    none_still : NoneRuns births rows name → after.0.running ≡ false → NoneRuns births after_rows name
    none_still none stops node x has = elim (cases_eq node seat.who) [
      | inl e ↦ subst (λ (y : ReplicaState). y.running ≡ false) (own_is node x e has) stops
      | inr ne ↦ none node x (sym (others_same node ne) ∙ has)
    ]

    -- who is elected leads alone
    elected_alone : NoneRuns births rows name → after.0.running ≡ true → LeadsAlone births after_rows name seat.who after.0
    elected_alone none runs = record {
      is_there = table.fact;
      running = runs;
      alone = λ node x has running. elim (cases_eq node seat.who) [ inl e ↦ e | inr ne ↦ absurd (true≢false (sym running ∙ none node x (sym (others_same node ne) ∙ has))) ];
    }

    -- another leads on
    pub aside_leads : (node : ℕ) (lead : ReplicaState) → LeadsAlone births rows name node lead → (node ≡ seat.who → ⊥) → after.0.running ≡ false → LeadsAlone births after_rows name node lead
    aside_leads node lead leads ne stops = record {
      is_there = others_same node ne ∙ leads.is_there;
      running = leads.running;
      alone = λ n x has running. elim (cases_eq n seat.who) [
        | inl e ↦ absurd (true≢false (sym running ∙ subst (λ (y : ReplicaState). y.running ≡ false) (own_is n x e has) stops))
        | inr ne' ↦ leads.alone n x (sym (others_same n ne') ∙ has) running
      ];
    }

    aside_stays : (node : ℕ) (lead : ReplicaState) → LeadsAlone births rows name node lead → (node ≡ seat.who → ⊥) → after.0.running ≡ false → Stays births rows seat event name
    aside_stays node lead leads ne stops =
        let was = tell.led births rows name node lead leads in
        let fact = tell.led births after_rows name node lead (aside_leads node lead leads ne stops) in
        record {
          bond = fact.1.0 ∙ sym was.1.0;
          work = fact.1.1 ∙ sym was.1.1;
          leads = λ n e. fact.0 ∙ (sym was.0 ∙ e);
        }

    unled_stays : IsUnled births rows seat event name after.0 → Stays births rows seat event name
    unled_stays u =
        let was = tell.idle births rows name u.bond seat.who r u.none u.was table.was in
        elim (cases_Bool after.0.running) [
          | inl t ↦ (let fact = tell.led births after_rows name seat.who after.0 (elected_alone u.none t) in
              let e = u.elected t in
              record {
                bond = fact.1.0 ∙ (e.1 ∙ sym was.1.0);
                work = fact.1.1 ∙ (e.0 ∙ sym was.1.1);
                leads = λ n e'. (let bad : None ≡ Some n = sym was.0 ∙ e' in cc);
              })
          | inr f ↦ (let fact = tell.idle births after_rows name u.bond seat.who after.0 (none_still u.none f) u.has table.fact in
              record {
                bond = fact.1.0 ∙ sym was.1.0;
                work = fact.1.1 ∙ sym was.1.1;
                leads = λ n e'. (let bad : None ≡ Some n = sym was.0 ∙ e' in cc);
              })
        ]

    sends_as : (sent : List (Draw × List Errand)) → IsOnly [] sent (λ n. errands_for n after.1) → IsOnly [] sent (errands_sent rows seat event)
    sends_as sent only = only_as sent (λ n. errands_for n after.1) (errands_sent rows seat event) (λ n. ap (errands_for n) table.sends) only

  -- ---- the leader

  -- what a leader's row leaves
  record Led (done : List Work) (sent : List (Draw × List Errand)) (r : ReplicaState) : Type 0 where
    bond : (then_.at name).bond ≡ (now.at name).bond
    was_bond : (now.at name).bond ≡ bond_of r.group.core
    work : (then_.at name).work ≡ done
    was_work : (now.at name).work ≡ works r
    lead : now.lead name ≡ Some seat.who
    lead_after : then_.lead name ≡ Some seat.who
    goes : GoesOn now then_ name
    sends : IsOnly [] sent (errands_sent rows seat event)

  led : (done : List Work) (sent : List (Draw × List Errand)) (r : ReplicaState) (after : Place) → IsLeadsRow births rows seat event name done sent r after → Led done sent r
  led done sent r after row =
      let was = tell.led births rows name seat.who r row.leads in
      let fact = tell.led births after_rows name seat.who after.0 (leads_on r after row.table row.leads (row.works_so.running ∙ row.leads.running)) in
      record {
        bond = fact.1.0 ∙ (ap (λ g. bond_of g.core) row.works_so.group ∙ sym was.1.0);
        was_bond = was.1.0;
        work = fact.1.1 ∙ row.works_so.work;
        was_work = was.1.1;
        lead = was.0;
        lead_after = fact.0;
        goes = λ n e. fact.0 ∙ (sym was.0 ∙ e);
        sends = sends_as r after row.table sent row.works_so.sends;
      }

  -- ---- entries

  -- what an entry's row leaves
  record Ran (work : Work) (bond : Bond) (sent : List (Draw × List Errand)) (r : ReplicaState) (after : Place) : Type 0 where
    execution : Executes work now then_ name (taken_errand (mails rows) event)
    bond_is : (then_.at name).bond ≡ bond
    was_bond : (now.at name).bond ≡ bond_of r.group.core
    lead : now.lead name ≡ Some seat.who
    goes : after.0.running ≡ true → GoesOn now then_ name
    sends : IsOnly [] sent (errands_sent rows seat event)

  ran : (work : Work) (bond : Bond) (sent : List (Draw × List Errand)) (r : ReplicaState) (after : Place) → IsEntrysRow births rows seat event name work bond sent r after → Ran work bond sent r after
  ran work bond sent r after row =
      let was = tell.led births rows name seat.who r row.leads in
      let parts : ((then_.at name).bond ≡ bond) × ((then_.at name).work ≡ []) = elim (cases_Bool after.0.running) [
        | inl t ↦ (let fact = tell.led births after_rows name seat.who after.0 (leads_on r after row.table row.leads t) in (fact.1.0 ∙ row.bound, fact.1.1 ∙ row.has))
        | inr f ↦ (let fact = tell.idle births after_rows name bond seat.who after.0 (stops_alone r after row.table row.leads f) (row.newest f) row.table.fact in (fact.1.0, fact.1.1))
      ] in
      record {
        execution = record { takes = row.none; had = was.1.1 ∙ row.had; has = parts.1 };
        bond_is = parts.0;
        was_bond = was.1.0;
        lead = was.0;
        goes = λ t n e. (tell.led births after_rows name seat.who after.0 (leads_on r after row.table row.leads t)).0 ∙ (sym was.0 ∙ e);
        sends = sends_as r after row.table sent row.sends;
      }

-- A row at a node without replica that makes none, one of a replica that does not run where another leads, and one where none runs leave their group as it is.
pub asides_stay : AsidesStay
asides_stay = record {
  missed = missed_stays;
  aside = λ births rows seat event name node lead r after leads ne table stops. aside_stays births rows seat event name r after table node lead leads ne stops;
  unled = λ births rows seat event name r after table u. unled_stays births rows seat event name r after table u;
}

-- Such a row does nothing of the order, or passes a question on.
pub asides_are : AsidesAre
asides_are = record {
  rests = λ births rows seat event name stays none sends. record { takes = none; bond = stays.bond; work = stays.work; leads = stays.leads; sends = sends };
  passes = λ births rows seat event name tx coord watch by to stays takes sends. record {
    tx = tx;
    coord = coord;
    watch = watch;
    by = by;
    to = to;
    takes = takes;
    bond = stays.bond;
    work = stays.work;
    leads = stays.leads;
    sends = sends;
  };
}

-- A row of the leader alone does nothing of the order, or is that it is given one, takes what comes to it, or asks elsewhere, by the work that its table leaves and the errands that it sends.
pub leaders_are : LeadersAre
leaders_are = record {
  rests = λ births rows seat event name r after row none.
      (let l = led births rows seat event name (works r) [] r after row in record { takes = none; bond = l.bond; work = l.work ∙ sym l.was_work; leads = l.goes; sends = l.sends });
  told = λ births rows seat event name order r after row idle fact none.
      (let l = led births rows seat event name (order ∷ []) [] r after row in
      record {
        takes = none;
        bond = l.bond;
        order = order;
        is_order = fact;
        work = l.work ∙ sym (ap (λ w. w ++ order ∷ []) (l.was_work ∙ idle));
        chief = seat.who;
        leads = l.lead_after;
        sends = l.sends;
      });
  files = λ births rows seat event name errand filed r after row idle takes files.
      (let l = led births rows seat event name (filed ∷ []) [] r after row in
      record {
        errand = errand;
        takes = takes;
        filed = filed;
        files = files;
        work = l.work ∙ sym (ap (λ w. w ++ filed ∷ []) (l.was_work ∙ idle));
        host = seat.who;
        led = l.lead;
        bond = l.bond;
        leads = l.goes;
        sends = l.sends;
      });
  asks = λ births rows seat event name tx asked turn node to r after row asking takes.
      (let l = led births rows seat event name (works r) ((asked, Question tx name (is_watch turn) seat.who node ∷ []) ∷ []) r after row in
      record {
        tx = tx;
        to = to;
        asked = asked;
        turn = turn;
        chief = seat.who;
        node = node;
        takes = takes;
        asking = l.was_bond ∙ asking;
        led = l.lead;
        bond = l.bond;
        work = l.work ∙ sym l.was_work;
        leads = l.goes;
        sends = l.sends;
      });
}

-- A row in which the leader alone executes the command that was its one work is of the kind of its entry, by the bond that this leaves and the errands that it sends.
pub entries_are : EntriesAre
entries_are = record {
  changed = λ births rows seat event name order r after row fact.
      (let x = ran births rows seat event name order (bond_of r.group.core) [] r after row in
      record { order = order; is_order = fact; execution = x.execution; bond = x.bond_is ∙ sym x.was_bond; sends = x.sends });
  opened = λ births rows seat event name tx asked watch node r after row runs apart.
      (let x = ran births rows seat event name (Opens tx) (Asking tx asked (cond watch Lone First)) ((asked, Question tx name watch seat.who node ∷ []) ∷ []) r after row in
      record { tx = tx; asked = asked; watch = watch; chief = seat.who; node = node; execution = x.execution; bond = x.bond_is; apart = apart; led = x.lead; leads = x.goes runs; sends = x.sends });
  voted = λ births rows seat event name tx coord watch agreed by r after row unbound runs willing.
      (let x = ran births rows seat event name (Answers tx coord watch by) (bound_by agreed tx) ((coord, Reply tx watch agreed seat.who by ∷ []) ∷ []) r after row in
      record {
        tx = tx;
        coord = coord;
        watch = watch;
        agreed = agreed;
        by = by;
        host = seat.who;
        willing = willing;
        execution = x.execution;
        was = x.was_bond ∙ unbound;
        bond = x.bond_is;
        led = x.lead;
        leads = x.goes runs;
        sends = x.sends;
      });
  aborted = λ births rows seat event name tx by r after row.
      (let x = ran births rows seat event name (Records tx false false by) Unbound [] r after row in record { tx = tx; by = by; execution = x.execution; bond = x.bond_is; sends = x.sends });
  decided = λ births rows seat event name tx asked turn by r after row asking.
      (let x = ran births rows seat event name (Records tx (is_watch turn) true by) Unbound (results tx asked turn by) r after row in
      record { tx = tx; by = by; asked = asked; turn = turn; execution = x.execution; was = x.was_bond ∙ asking; bond = x.bond_is; sends = x.sends });
  heard = λ births rows seat event name tx asked watcher by node r after row asking runs third.
      (let x = ran births rows seat event name (Records tx false true by) (Asking tx watcher (Next asked by)) ((watcher, Question tx name true seat.who node ∷ []) ∷ []) r after row in
      record {
        tx = tx;
        by = by;
        asked = asked;
        watcher = watcher;
        chief = seat.who;
        node = node;
        execution = x.execution;
        was = x.was_bond ∙ asking;
        bond = x.bond_is;
        third = third;
        led = x.lead;
        leads = x.goes runs;
        sends = x.sends;
      });
  ended = λ births rows seat event name tx r after row.
      (let x = ran births rows seat event name (Ends tx) Unbound [] r after row in record { tx = tx; execution = x.execution; bond = x.bond_is; sends = x.sends });
}
