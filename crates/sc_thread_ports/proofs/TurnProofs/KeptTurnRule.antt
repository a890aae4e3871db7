-- Each step keeps the rule of the turn.
use Rattle.std.proofs.Common.{◌≡◌, ◌≢◌, ℕ, zero, suc, ◌+◌, ◌%◌, ◌^◌, ◌<◌, eqb, Bool, true, false, List, [], ◌∷◌, ◌++◌, length, get_or, set, sym, refl, ap, ◌∙◌, subst, ⊎_elim, arith, length-append, Contains, Option, Some, None}
use Rattle.std.proofs.lemmas.List.Elements.{Contains-push, Contains-append_left, Contains-push_cases}
use mathlib.Core.Logic.{dite}
use mathlib.Core.Option.{none, some, some-injective, some-ne-none}
use native.Mathlib.Decide.{ℕ_discrete}
use lib.ListN.{get_elem?}
use lib.Seq.{set-get_or}
use prog.Atomic.{either}
use Rattle.atomic_table.specs.Table.{State, Me, step, keeps, takes, gives, stepped, opening, put_back, Allows, Splits, Joins}
use Rattle.atomic_table.proofs.Lists.{at_longer, set_else}
use Rattle.sc_thread_ports.specs.declared.turn.rule.View.{View}
use Rattle.sc_thread_ports.specs.turn.TurnDefinitions.{StartsWith, rows_by, Status, unused, carried, settled, put_status, TurnHolder, free, held, turn_word, view, opener, newcomer, note, with_turn, with_seen, with_row, with_given, informed, merged, entered_with, OwnsNumber, Fits, HasTurn, IsTrueOf, Kept, acquire_returns, look_returns, read_returns, append_returns, release_returns}
use Rattle.sc_thread_ports.proofs.TurnProofs.ListPrefixes.{starts_refl, starts_nil, starts_more, starts_of_one, each_set, set_at, at_end, set_only, longer_begins, rows_by_other, rows_by_same, put_same, put_other}

module _ {E : Type 0} where
  abbrev first_status : ℕ → Status E
  first_status = put_status (λ _. unused) 0 (carried 0)

  opens_each : (i : ℕ) (v : View E) → get_elem? (opener ∷ []) i ≡ some v → Fits [] first_status free i v
  opens_each zero v e = subst (Fits [] first_status free 0) (some-injective opener v e) record {
    seen = ([], refl);
    received = ([], refl);
    has_turn = λ t. cc;
    number = λ _. record { carries = refl; made = refl; others = λ _ n ne _. put_other (λ _. unused) 0 (carried 0) n ne; joined = λ _ k c. absurd (omega (arith, c.1)) };
  }
  opens_each (suc i) v e = absurd (some-ne-none v (sym e))

  opens_ended : (n : ℕ) (rows : List E) → first_status n ≡ settled rows → [] ≡ rows
  opens_ended n rows e = dite (ℕ_discrete n 0)
      (λ z. let bad : carried 0 ≡ settled rows = sym (put_same (λ _. unused) 0 (carried 0)) ∙ (ap first_status (sym z) ∙ e) in cc)
      (λ nz. let bad : unused ≡ settled rows = sym (put_other (λ _. unused) 0 (carried 0) n nz) ∙ e in cc)

  turn_stays : (log : List (E × ℕ)) (vs : List (View E)) (h me : ℕ) (v w : View E) → get_elem? vs me ≡ some v → w.turn ≡ v.turn → (v.turn ≡ true → v.seen ≡ log → w.seen ≡ log)
      → HasTurn log vs h → HasTurn log (set vs me w) h
  turn_stays log vs h me v w at same whole t = dite (ℕ_discrete h me)
      (λ e. let is : t.holder ≡ v = some-injective t.holder v (sym t.there ∙ (ap (get_elem? vs) e ∙ at)) in
      let has : v.turn ≡ true = ap (λ x. x.turn) (sym is) ∙ t.has in
      record { holder = w; there = ap (get_elem? (set vs me w)) e ∙ set_at vs me v w at; has = same ∙ has; whole = whole has (ap (λ x. x.seen) (sym is) ∙ t.whole) })
      (λ ne. record { holder = t.holder; there = set_else vs me h w ne ∙ t.there; has = t.has; whole = t.whole })

  -- the number stays where only the turn and what was seen change
  own_again : (log : List (E × ℕ)) (status : ℕ → Status E) (place : ℕ) (v : View E) (turn : Bool) (seen received : List (E × ℕ)) → OwnsNumber log status place v
      → OwnsNumber log status place (view v.who v.live turn seen received v.made v.given v.joined)
  own_again log status place v turn seen received o = record { carries = o.carries; made = o.made; others = o.others; joined = o.joined }

module _ {T E : Type 0} (entries : T → List (E × ℕ)) where
  abbrev St : Type 0
  St = State (Option T) (View E)

  abbrev M : Type 0
  M = Me (Option T) (View E)

  abbrev Rule : St → Type 0
  Rule = Kept entries

  -- the rule holds of a new table
  pub opens : (x : T) → entries x ≡ [] → Rule (opening (0 ∷ 0 ∷ []) (Some x ∷ []) opener)
  opens x empty = record {
    log = [];
    status = first_status;
    turn = free;
    words = refl;
    at_home = λ _. (x, refl, empty);
    taken = λ h e. cc;
    each = opens_each;
    unmade = λ n _. refl;
    ended = opens_ended;
  }

  -- who has the turn has seen the whole list
  whole_of : (s : St) (r : Rule s) (id : ℕ) (v : View E) → get_elem? s.views id ≡ some v → v.turn ≡ true → v.seen ≡ r.log
  whole_of s r id v at has = let t = r.taken id ((r.each id v at).has_turn has) in
      let is : t.holder ≡ v = some-injective t.holder v (sym t.there ∙ at) in ap (λ x. x.seen) (sym is) ∙ t.whole

  true_of_log : (s : St) (r : Rule s) (id : ℕ) (v : View E) → get_elem? s.views id ≡ some v → v.live ≡ true → IsTrueOf v r.log
  true_of_log s r id v at live = let o = (r.each id v at).number live in record {
    own = o.made;
    joined = λ z k c. r.ended k.0 k.1 (o.joined z k c);
    others = λ z n ne no. r.unmade n (o.others z n ne no);
  }

  -- a step that changes no word
  unmoved : (s : St) (r : Rule s) (i me : ℕ) (cs : List (ℕ × Option T)) (v w : View E) → get_elem? s.views me ≡ some v → w.turn ≡ v.turn → (v.seen ≡ r.log → w.seen ≡ r.log)
      → Fits r.log r.status r.turn me w → Rule (stepped s i (get_or s.words i 0) me cs w keeps)
  unmoved s r i me cs v w at same whole mine = subst (λ (ws : List ℕ). Rule record { words = ws; homes = s.homes; views = set s.views me w }) (sym (set-get_or s.words i 0)) record {
    log = r.log;
    status = r.status;
    turn = r.turn;
    words = r.words;
    at_home = r.at_home;
    taken = λ h e. turn_stays r.log s.views h me v w at same (λ _. whole) (r.taken h e);
    each = each_set (Fits r.log r.status r.turn) s.views me w mine (λ j d _. r.each j d);
    unmade = r.unmade;
    ended = r.ended;
  }

  -- a load that looks keeps it, and all rows are seen
  pub looks : (slots id : ℕ) (me : M) → Allows Rule slots id me 1 (λ n. n) (look_returns entries (step slots 1 0 0 none) me)
  looks slots id me s r _ at _ = let v : View E = me.0 in let f = r.each id v at in let w : View E = with_seen v r.log in (
    w,
    keeps,
    tt,
    unmoved s r 1 id me.1 v w at refl (λ _. refl) record { seen = starts_refl r.log; received = starts_nil r.log; has_turn = f.has_turn; number = λ live. own_again r.log r.status id v v.turn r.log [] (f.number live) },
    record { slots = refl; view_is = refl; later = f.seen; received = f.received; facts = λ live. true_of_log s r id v at live },
  )

  -- a load that reads keeps it, and no more is seen
  pub reads : (slots id : ℕ) (me : M) → Allows Rule slots id me 1 (λ n. n) (read_returns entries (step slots 1 0 0 none) me)
  reads slots id me s r _ at _ = let v : View E = me.0 in let f = r.each id v at in let w : View E = with_seen v v.seen in (
    w,
    keeps,
    tt,
    unmoved s r 1 id me.1 v w at refl (λ e. e) record { seen = f.seen; received = starts_nil r.log; has_turn = f.has_turn; number = λ live. own_again r.log r.status id v v.turn v.seen [] (f.number live) },
    record {
      same = refl;
      count = λ has. ap (λ ws. get_or ws 1 0) r.words ∙ ap length (sym (whole_of s r id v at has));
      received = λ l. starts_of_one r.log v.seen v.received f.seen f.received l;
      facts = λ live. record { list = r.log; later = f.seen; facts = true_of_log s r id v at live };
      over = λ live. record { list = r.log; later = f.seen; over = f.received; facts = true_of_log s r id v at live };
    },
  )

  acquire_at : (slots id : ℕ) (me : M) → me.1 ≡ [] → me.0.turn ≡ false → (s : St) (r : Rule s) → get_elem? s.views id ≡ some me.0 → (t : TurnHolder) → r.turn ≡ t
      → (w : View E) × (a : Rattle.atomic_table.specs.Table.Act (Option T)) × Rattle.atomic_table.specs.Table.Valid s.homes me.1 a
      × Rule (stepped s 0 (either (eqb (get_or s.words 0 0) 0) 1 (get_or s.words 0 0)) id me.1 w a) × acquire_returns entries (step slots 0 0 1 none) me (get_or s.words 0 0) (w, Rattle.atomic_table.specs.Table.carried_after me.1 a)
  acquire_at slots id me none_out no_turn s r at free is = let v : View E = me.0 in let f = r.each id v at in let h = r.at_home is in let w : View E = entered_with v r.log in
      let words : s.words ≡ 0 ∷ length r.log ∷ [] = r.words ∙ ap (λ t. turn_word t ∷ length r.log ∷ []) is in (
        w,
        takes 0 (Some h.0),
        ap (λ hs. get_elem? hs 0) h.1,
        record {
          log = r.log;
          status = r.status;
          turn = held id;
          words = ap (λ ws. set ws 0 (either (eqb (get_or ws 0 0) 0) 1 (get_or ws 0 0))) words;
          at_home = λ e. cc;
          taken = λ h e. let same : id ≡ h = cc in subst (HasTurn r.log (set s.views id w)) same record { holder = w; there = set_at s.views id v w at; has = refl; whole = refl };
          each = each_set (Fits r.log r.status (held id)) s.views id w
              record { seen = starts_refl r.log; received = f.received; has_turn = λ _. refl; number = λ live. own_again r.log r.status id v true r.log v.received (f.number live) }
              (λ j d ne e. let g = r.each j d e in record { seen = g.seen; received = g.received; has_turn = λ has. (let bad : free ≡ held j = sym is ∙ g.has_turn has in cc); number = g.number });
          unmade = r.unmade;
          ended = r.ended;
        },
        (
          (λ _. record {
            value = h.0;
            slot = refl;
            view_is = ap (entered_with v) (sym h.2);
            later = subst (λ l. StartsWith l v.seen) (sym h.2) f.seen;
            facts = λ live. subst (IsTrueOf v) (sym h.2) (true_of_log s r id v at live);
          }),
          λ no. absurd (no (ap (λ ws. get_or ws 0 0) words)),
        ),
      )
  acquire_at slots id me none_out no_turn s r at (held k) is = let v : View E = me.0 in let f = r.each id v at in
      let one : get_or s.words 0 0 ≡ 1 = ap (λ ws. get_or ws 0 0) r.words ∙ ap turn_word is in (
        v,
        keeps,
        tt,
        subst (λ n. Rule (stepped s 0 n id me.1 v keeps)) (one ∙ ap (λ n. either (eqb n 0) 1 n) (sym one)) (unmoved s r 0 id me.1 v v at refl (λ e. e) f),
        ((λ zero. absurd (omega (arith, one, zero))), λ _. refl),
      )

  -- taking the turn keeps it
  pub acquires : (slots id : ℕ) (me : M) → me.1 ≡ [] → me.0.turn ≡ false → Allows Rule slots id me 0 (λ n. either (eqb n 0) 1 n) (acquire_returns entries (step slots 0 0 1 none) me)
  acquires slots id me none_out no_turn s r _ at _ = acquire_at slots id me none_out no_turn s r at r.turn refl

  abbrev value_in : T → List (ℕ × Option T) → T
  value_in d [] = d
  value_in d (c ∷ cs) = elim c.1 [ None ↦ d | Some y ↦ y ]

  -- so does counting one row more
  pub appends : (slots id : ℕ) (me : M) (x : T) (row : E) → me.1 ≡ (0, Some x) ∷ [] → me.0.turn ≡ true → me.0.live ≡ true → entries x ≡ me.0.seen ++ (row, me.0.who) ∷ [] → length me.0.seen + 1 < 2 ^ 64
      → Allows Rule slots id me 1 (λ n. (n + 1) % 2 ^ 64) (append_returns entries (step slots 1 1 0 none) me)
  appends slots id me x row out has live is small s r _ at _ =
      let v : View E = me.0 in let w : View E = with_row v row in let f = r.each id v at in let o = f.number live in
      let whole : v.seen ≡ r.log = whole_of s r id v at has in
      let log : List (E × ℕ) = r.log ++ (row, v.who) ∷ [] in
      let now : w.seen ≡ log = ap (λ l. l ++ (row, v.who) ∷ []) whole in
      let mine : r.turn ≡ held id = f.has_turn has in
      let count : (length r.log + 1) % 2 ^ 64 ≡ length log = omega (arith, small, ap length whole, length-append r.log ((row, v.who) ∷ [])) in
      let carries : r.status v.who ≡ carried id = o.carries in (
        w,
        keeps,
        tt,
        record {
          log = log;
          status = r.status;
          turn = r.turn;
          words = ap (λ ws. set ws 1 ((get_or ws 1 0 + 1) % 2 ^ 64)) r.words ∙ ap (λ n. turn_word r.turn ∷ n ∷ []) count;
          at_home = λ e. (let bad : free ≡ held id = sym e ∙ mine in cc);
          taken = λ h e. let q : held id ≡ held h = sym mine ∙ e in let same : id ≡ h = cc in
              subst (HasTurn log (set s.views id w)) same record { holder = w; there = set_at s.views id v w at; has = has; whole = now };
          each = each_set (Fits log r.status r.turn) s.views id w
              record {
                seen = subst (λ l. StartsWith l w.seen) now (starts_refl w.seen);
                received = starts_more r.log v.received ((row, v.who) ∷ []) f.received;
                has_turn = λ _. mine;
                number = λ _. record { carries = carries; made = rows_by_same v.who row r.log ∙ ap (λ l. l ++ row ∷ []) o.made; others = o.others; joined = o.joined };
              }
              (λ j d ne e. let g = r.each j d e in record {
                seen = starts_more r.log d.seen ((row, v.who) ∷ []) g.seen;
                received = starts_more r.log d.received ((row, v.who) ∷ []) g.received;
                has_turn = g.has_turn;
                number = λ alive. let p = g.number alive in record {
                  carries = p.carries;
                  made = rows_by_other d.who v.who row r.log (λ q. (let c : carried id ≡ carried j = sym carries ∙ (ap r.status q ∙ p.carries) in let z : j ≡ id = cc in ne z)) ∙ p.made;
                  others = p.others;
                  joined = p.joined;
                };
              });
          unmade = λ n e. rows_by_other n v.who row r.log (λ q. (let c : carried id ≡ unused = sym carries ∙ (ap r.status q ∙ e) in cc)) ∙ r.unmade n e;
          ended = λ n rows e. rows_by_other n v.who row r.log (λ q. (let c : carried id ≡ settled rows = sym carries ∙ (ap r.status q ∙ e) in cc)) ∙ r.ended n rows e;
        },
        record { row = row; slots = refl; view_is = refl; whole = λ y e. (ap entries (ap (value_in x) (sym e ∙ out)) ∙ is) },
      )

  -- and giving the turn back
  pub releases : (slots id : ℕ) (me : M) (x : T) → slots ≡ 1 → me.1 ≡ (0, Some x) ∷ [] → me.0.turn ≡ true → entries x ≡ me.0.seen
      → Allows Rule slots id me 0 (λ _. 0) (λ _. release_returns entries (step slots 0 0 0 none) me 0)
  releases slots id me x one out has is s r len at _ =
      let v : View E = me.0 in let w : View E = with_turn v false in let f = r.each id v at in
      let mine : r.turn ≡ held id = f.has_turn has in (
        w,
        gives,
        tt,
        record {
          log = r.log;
          status = r.status;
          turn = free;
          words = ap (λ ws. set ws 0 0) r.words;
          at_home = λ _. (x, ap (put_back s.homes) out ∙ set_only s.homes (some (Some x)) (len ∙ one), is ∙ whole_of s r id v at has);
          taken = λ h e. cc;
          each = each_set (Fits r.log r.status free) s.views id w
              record { seen = f.seen; received = f.received; has_turn = λ t. cc; number = λ live. own_again r.log r.status id v false v.seen v.received (f.number live) }
              (λ j d ne e. let g = r.each j d e in record {
                seen = g.seen;
                received = g.received;
                has_turn = λ t. (let q : held id ≡ held j = sym mine ∙ g.has_turn t in let z : j ≡ id = cc in absurd (ne z));
                number = g.number;
              });
          unmade = r.unmade;
          ended = r.ended;
        },
        refl,
      )

  carrier_is_one : (s : St) (r : Rule s) (i j : ℕ) (v d : View E) → get_elem? s.views i ≡ some v → get_elem? s.views j ≡ some d → v.live ≡ true → d.live ≡ true → v.who ≡ d.who → j ≡ i
  carrier_is_one s r i j v d at there live alive same =
      let c : carried i ≡ carried j = sym ((r.each i v at).number live).carries ∙ (ap r.status same ∙ ((r.each j d there).number alive).carries) in cc

  -- a new seat of the number who comes
  pub splits : (id : ℕ) (v : View E) (who : ℕ) → v.live ≡ true → v.who ≡ 0 → who ≢ 0 → ¬ Contains v.given who → Splits Rule id v (with_given v who) (newcomer who v.seen)
  splits id v who live first some_who new_who s r at =
      let f = r.each id v at in let o = f.number live in let w : View E = with_given v who in let new : View E = newcomer who v.seen in
      let place : ℕ = length (set s.views id w) in
      let blank : r.status who ≡ unused = o.others first who some_who new_who in
      let status : ℕ → Status E = put_status r.status who (carried place) in
      let used : (n : ℕ) (x : Status E) → r.status n ≡ x → x ≢ unused → n ≢ who = λ n x is no e. no (sym is ∙ (ap r.status e ∙ blank)) in
      let other : (n : ℕ) → n ≢ who → status n ≡ r.status n = λ n ne. put_other r.status who (carried place) n ne in record {
        log = r.log;
        status = status;
        turn = r.turn;
        words = r.words;
        at_home = r.at_home;
        taken = λ h e. let t = turn_stays r.log s.views h id v w at refl (λ _ x. x) (r.taken h e) in
            record { holder = t.holder; there = at_longer (set s.views id w) (new ∷ []) h t.holder t.there; has = t.has; whole = t.whole };
        each = λ j d e. ⊎_elim
            (λ (t : get_elem? (set s.views id w) j ≡ some d). each_set (Fits r.log status r.turn) s.views id w
            record {
              seen = f.seen;
              received = f.received;
              has_turn = f.has_turn;
              number = λ _. record {
                carries = other v.who (used v.who (carried id) o.carries (λ z. cc)) ∙ o.carries;
                made = o.made;
                others = λ z n ne no. other n (λ q. no (subst (Contains (v.given ++ who ∷ [])) (sym q) (Contains-push v.given who)))
                    ∙ o.others z n ne (λ c. no (Contains-append_left v.given (who ∷ []) n c));
                joined = λ z k c. let is = o.joined z k c in other k.0 (used k.0 (settled k.1) is (λ z. cc)) ∙ is;
              };
            }
            (λ i x ne y. let g = r.each i x y in record {
              seen = g.seen;
              received = g.received;
              has_turn = g.has_turn;
              number = λ alive. let p = g.number alive in let not_first : x.who ≢ 0 = λ z. ne (carrier_is_one s r id i v x at y live alive (first ∙ sym z)) in record {
                carries = other x.who (used x.who (carried i) p.carries (λ z. cc)) ∙ p.carries;
                made = p.made;
                others = λ z. absurd (not_first z);
                joined = λ z. absurd (not_first z);
              };
            }) j d t)
            (λ (t : (j ≡ place) × (new ≡ d)). subst (λ (x : ℕ × View E). Fits r.log status r.turn x.0 x.1) (λ i. (sym t.0 i, t.1 i)) record {
              seen = f.seen;
              received = starts_nil r.log;
              has_turn = λ z. cc;
              number = λ _. record {
                carries = put_same r.status who (carried place);
                made = r.unmade who blank;
                others = λ z. absurd (some_who z);
                joined = λ z. absurd (some_who z);
              };
            })
            (at_end (set s.views id w) new d j e);
        unmade = λ n e. dite (ℕ_discrete n who) (λ q. (let z : carried place ≡ unused = sym (put_same r.status who (carried place)) ∙ (ap status (sym q) ∙ e) in cc)) (λ ne. r.unmade n (sym (other n ne) ∙ e));
        ended = λ n rows e. dite (ℕ_discrete n who) (λ q. (let z : carried place ≡ settled rows = sym (put_same r.status who (carried place)) ∙ (ap status (sym q) ∙ e) in cc)) (λ ne. r.ended n rows (sym (other n ne) ∙ e));
      }

  -- a note of what was seen comes
  pub notes : (id : ℕ) (v : View E) → Splits Rule id v v (note v.seen)
  notes id v s r at = let f = r.each id v at in let new : View E = note v.seen in record {
    log = r.log;
    status = r.status;
    turn = r.turn;
    words = r.words;
    at_home = r.at_home;
    taken = λ h e. let t = turn_stays r.log s.views h id v v at refl (λ _ x. x) (r.taken h e) in
        record { holder = t.holder; there = at_longer (set s.views id v) (new ∷ []) h t.holder t.there; has = t.has; whole = t.whole };
    each = λ j d e. ⊎_elim
        (λ (t : get_elem? (set s.views id v) j ≡ some d). each_set (Fits r.log r.status r.turn) s.views id v f (λ i x _ y. r.each i x y) j d t)
        (λ (t : (j ≡ length (set s.views id v)) × (new ≡ d)). subst (Fits r.log r.status r.turn j) t.1 record { seen = f.seen; received = starts_nil r.log; has_turn = λ z. cc; number = λ z. cc })
        (at_end (set s.views id v) new d j e);
    unmade = r.unmade;
    ended = r.ended;
  }

  blank_note : (log : List (E × ℕ)) (status : ℕ → Status E) (turn : TurnHolder) (j : ℕ) → Fits log status turn j (note [])
  blank_note log status turn j = record { seen = starts_nil log; received = starts_nil log; has_turn = λ z. cc; number = λ z. cc }

  -- a seat receives what another has seen, and the other is spent: what the other carried is lost
  pub tells : (id : ℕ) (v : View E) (other : ℕ) (x : View E) → x.turn ≡ false → Joins Rule id v other x (informed v x) (note [])
  tells id v other x no_turn s r at apart there =
      let f = r.each id v at in let w : View E = informed v x in let vs : List (View E) = set s.views id w in
      let there_first : get_elem? s.views other ≡ some x = sym (set_else s.views id other w apart) ∙ there in
      let g = r.each other x there_first in record {
        log = r.log;
        status = r.status;
        turn = r.turn;
        words = r.words;
        at_home = r.at_home;
        taken = λ h e. turn_stays r.log vs h other x (note []) there (sym no_turn) (λ has. (let z : false ≡ true = sym no_turn ∙ has in cc)) (turn_stays r.log s.views h id v w at refl (λ _ y. y) (r.taken h e));
        each = each_set (Fits r.log r.status r.turn) vs other (note []) (blank_note r.log r.status r.turn other)
            (λ j d _. each_set (Fits r.log r.status r.turn) s.views id w
            record { seen = f.seen; received = g.seen; has_turn = f.has_turn; number = λ live. own_again r.log r.status id v v.turn v.seen x.seen (f.number live) }
            (λ i y _ z. r.each i y z) j d);
        unmade = r.unmade;
        ended = r.ended;
      }

  -- the start's seat takes in another
  pub merges : (id : ℕ) (v : View E) (other : ℕ) (x : View E) → v.live ≡ true → v.who ≡ 0 → x.live ≡ true → x.turn ≡ false → v.turn ≡ false → Joins Rule id v other x (merged v x) (note [])
  merges id v other x live first alive no_turn not_mine s r at apart there =
      let f = r.each id v at in let o = f.number live in let w : View E = merged v x in let vs : List (View E) = set s.views id w in
      let there_first : get_elem? s.views other ≡ some x = sym (set_else s.views id other w apart) ∙ there in
      let g = r.each other x there_first in let p = g.number alive in
      let status : ℕ → Status E = put_status r.status x.who (settled x.made) in
      let was : r.status x.who ≡ carried other = p.carries in
      let same : (n : ℕ) (y : Status E) → r.status n ≡ y → y ≢ carried other → status n ≡ y = λ n y is no. put_other r.status x.who (settled x.made) n (λ e. no (sym is ∙ (ap r.status e ∙ was))) ∙ is in
      let seen = longer_begins r.log v.seen x.seen f.seen g.seen in record {
        log = r.log;
        status = status;
        turn = r.turn;
        words = r.words;
        at_home = r.at_home;
        taken = λ h e. turn_stays r.log vs h other x (note []) there (sym no_turn) (λ has. (let z : false ≡ true = sym no_turn ∙ has in cc))
            (turn_stays r.log s.views h id v w at refl (λ has. (let z : false ≡ true = sym not_mine ∙ has in cc)) (r.taken h e));
        each = each_set (Fits r.log status r.turn) vs other (note []) (blank_note r.log status r.turn other)
            (λ j d out e. each_set (λ i y. i ≢ other → Fits r.log status r.turn i y) s.views id w
            (λ _. record {
              seen = seen.0;
              received = seen.1;
              has_turn = f.has_turn;
              number = λ _. record {
                carries = same v.who (carried id) o.carries (λ z. (let q : other ≡ id = cc in apart q));
                made = o.made;
                others = λ z n ne no. same n unused (o.others z n ne no) (λ q. cc);
                joined = λ z k c. ⊎_elim
                    (λ (t : Contains v.joined k). same k.0 (settled k.1) (o.joined z k t) (λ q. cc))
                    (λ (t : (x.who, x.made) ≡ k). subst (λ (m : ℕ × List E). status m.0 ≡ settled m.1) t (put_same r.status x.who (settled x.made)))
                    (Contains-push_cases v.joined (x.who, x.made) k c);
              };
            })
            (λ i y ne z far. let h = r.each i y z in record {
              seen = h.seen;
              received = h.received;
              has_turn = h.has_turn;
              number = λ lives. let q = h.number lives in let not_first : y.who ≢ 0 = λ e. ne (carrier_is_one s r id i v y at z live lives (first ∙ sym e)) in record {
                carries = same y.who (carried i) q.carries (λ e. (let n : i ≡ other = cc in far n));
                made = q.made;
                others = λ e. absurd (not_first e);
                joined = λ e. absurd (not_first e);
              };
            }) j d e out);
        unmade = λ n e. dite (ℕ_discrete n x.who) (λ q. (let z : settled x.made ≡ unused = sym (put_same r.status x.who (settled x.made)) ∙ (ap status (sym q) ∙ e) in cc))
            (λ ne. r.unmade n (sym (put_other r.status x.who (settled x.made) n ne) ∙ e));
        ended = λ n rows e. dite (ℕ_discrete n x.who)
            (λ q. let z : settled x.made ≡ settled rows = sym (put_same r.status x.who (settled x.made)) ∙ (ap status (sym q) ∙ e) in let m : x.made ≡ rows = cc in ap (λ k. rows_by k r.log) q ∙ (p.made ∙ m))
            (λ ne. r.ended n rows (sym (put_other r.status x.who (settled x.made) n ne) ∙ e));
      }
