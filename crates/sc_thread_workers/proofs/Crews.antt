-- Lists of shells that go on.
use Rattle.std.proofs.Common.{◌≡◌, ℕ, suc, ◌+◌, ◌<◌, ◌≤◌, ⊎_elim, Bool, true, false, true≢false, cond, ◌&&◌, not, List, [], ◌∷◌, ◌++◌, length, sum_by, get_or, refl, sym, ap, ◌∙◌, subst, arith, append_assoc, length-append, Option, Some, None}
use Rattle.std.specs.List.{AllByRecursion}
use Rattle.std.proofs.lemmas.Bool.Decides.{leb_tells}
use Rattle.std.proofs.lemmas.List.{append-nil}
use Rattle.sc_actor.specs.declared.actors.Actor.{Ghosts}
use Rattle.sc_actor.specs.declared.actors.Parcel.{Ghosts as MailGhosts}
use Rattle.sc_actor.specs.declared.rows.Row.{Row}
use Rattle.sc_thread_ports.specs.declared.exchange.ports.Port.{Port}
use Rattle.sc_thread_ports.specs.exchange.BareRows.{rows_of}
use Rattle.sc_thread_ports.specs.exchange.Ports.{seen, made, SameExchange, Stays, Looked}
use Rattle.sc_thread_work.specs.declared.shell.shells.Shell.{Shell}
use Rattle.sc_thread_work.specs.declared.shell.turns.Turn.{Turn}
use Rattle.sc_thread_work.specs.declared.shell.turns.Turn.TheVariants.{Did, Empty, Full, Spent, OutOfMemory}
use Rattle.sc_thread_ports.specs.turn.Turn.{StartsWith}
use Rattle.sc_actor.specs.Mail.{is_delivery}
use Rattle.sc_actor.specs.Replay.{value}
use Rattle.sc_thread_work.specs.shell.Shells.{State, Takes, state, KeepsReplay, Replays, ReplaysOver}
use Rattle.sc_thread_workers.specs.Crews.{Delivers, is_did, refusal_in, GoesByDeliveries, AllGo, Took, AllTook, Passed, Sound, AllSound, AllOf, AllMet, HasMet, IsAhead, IsOver, rows_made, Still, AllStill, AreStill, AreLater, HasRefusal, did, refusal}
use Rattle.sc_thread_workers.proofs.ChangedLists.{sum_with, sum_zero, sum_short}
use Rattle.sc_thread_ports.proofs.ExchangeProofs.Knowing.{looked_trans, stays_trans}
use Rattle.sc_thread_ports.proofs.TurnProofs.ListPrefixes.{starts_trans}

module _ {M O : Type 0} where
  deliveries_append : (xs ys : List (Row M O)) → AllByRecursion (λ (r : Row M O). is_delivery r.event ≡ true) xs → AllByRecursion (λ (r : Row M O). is_delivery r.event ≡ true) ys → AllByRecursion (λ (r : Row M O). is_delivery r.event ≡ true) (xs ++ ys)
  deliveries_append [] ys p q = q
  deliveries_append (x ∷ xs) ys p q = (p.0, deliveries_append xs ys p.1 q)

  delivers_none : (old new : List (Row M O)) → new ≡ old → Delivers old new
  delivers_none old new same = record { rows = []; all = same ∙ sym (append-nil old); each = tt }

  delivers_trans : (xs ys zs : List (Row M O)) → Delivers xs ys → Delivers ys zs → Delivers xs zs
  delivers_trans xs ys zs p q = record {
    rows = p.rows ++ q.rows;
    all = q.all ∙ (ap (λ l. l ++ q.rows) p.all ∙ append_assoc xs p.rows q.rows);
    each = deliveries_append p.rows q.rows p.each q.each;
  }

module _ {M O : Type 0} {h : MailGhosts M} where
  -- a port is of the exchange of one that looked
  pub of_later : (net next : Port M O h) (p : Port M O h) → Looked net next → SameExchange p net → SameExchange p next
  of_later net next p l o = let e = l.stays.exchange in (e.0 ∙ o.0, e.1 ∙ o.1, e.2 ∙ o.2)

  -- a port is as it was
  pub stays_same : (p : Port M O h) → Stays p p
  stays_same p = record { exchange = (refl, refl, refl); who = refl; given = refl; joined = refl }

  -- and has looked at nothing
  looked_same : (p : Port M O h) → Looked p p
  looked_same p = record { stays = stays_same p; later = ([], sym (append-nil (seen p))); made = refl }

some_injective : (x y : Turn) → Some x ≡ Some y → x ≡ y
some_injective x y e = cc

one_or_none : (b : Bool) → cond {A = ℕ} (b && false) 1 0 ≡ 0
one_or_none true = refl
one_or_none false = refl

full_last : (o : Option Turn) (r : Turn) (bytes : ℕ) → o ≡ Some r → refusal_in o ≡ Full bytes → r ≡ Full bytes
full_last o (Full other) bytes e f = ap refusal_in (sym e) ∙ f
full_last o (Did at) bytes e f = (let reported : OutOfMemory ≡ Full bytes = ap refusal_in (sym e) ∙ f in cc)
full_last o (Empty seen) bytes e f = (let reported : OutOfMemory ≡ Full bytes = ap refusal_in (sym e) ∙ f in cc)
full_last o Spent bytes e f = (let reported : OutOfMemory ≡ Full bytes = ap refusal_in (sym e) ∙ f in cc)
full_last o OutOfMemory bytes e f = (let reported : OutOfMemory ≡ Full bytes = ap refusal_in (sym e) ∙ f in cc)

module _ {A M O : Type 0} {g : Ghosts A M O} {h : MailGhosts M} where
  pub goes_same : (s : Shell A M O g h) → GoesByDeliveries s s
  goes_same s = record { stays = stays_same s.port; replay = λ birth r. r; made = delivers_none (made s.port) (made s.port) refl }

  pub goes_trans : (s t u : Shell A M O g h) → GoesByDeliveries s t → GoesByDeliveries t u → GoesByDeliveries s u
  goes_trans s t u a b = record {
    stays = stays_trans s.port t.port u.port a.stays b.stays;
    replay = λ birth r. b.replay birth (a.replay birth r);
    made = delivers_trans (made s.port) (made t.port) (made u.port) a.made b.made;
  }

  -- what a turn made
  takes_made : (s t : State A M O g h) (r : Turn) → Takes s t 1 r → Delivers (made s.port) (made t.port)
  takes_made s t (Did at) x = record { rows = _; all = x.2.0.made; each = (refl, tt) }
  takes_made s t (Empty reported) x = delivers_none (made s.port) (made t.port) x.1.0.made
  takes_made s t (Full bytes) x = delivers_none (made s.port) (made t.port) x.2.0.made
  takes_made s t Spent x = delivers_none (made s.port) (made t.port) (ap made x.2)
  takes_made s t OutOfMemory x = delivers_none (made s.port) (made t.port) x.1.made

  did_last : (t : Shell A M O g h) (r : Turn) → t.last ≡ Some r → t.port.crashed ≡ false → did t ≡ cond {A = ℕ} (is_did (Some r)) 1 0
  did_last t r last runs = λ i. cond (not (runs i) && is_did (last i)) 1 0

  did_not : (t : Shell A M O g h) → is_did t.last ≡ false → did t ≡ 0
  did_not t stuck = ap (λ b. cond (not t.port.crashed && b) 1 0) stuck ∙ one_or_none (not t.port.crashed)

  takes_did : (s t : Shell A M O g h) (r : Turn) → s.spent ≡ false → Takes (state s) (state t) 1 r → t.last ≡ Some r → length (made t.port) ≡ length (made s.port) + did t
  takes_did s t (Did at) free x last =
      let one : did t ≡ 1 = did_last t (Did at) last x.2.4 in
      omega (arith, ap length x.2.0.made ∙ length-append (made s.port) (_ ∷ []), one)
  takes_did s t (Empty reported) free x last = let none = did_not t (ap is_did last) in omega (arith, ap length x.1.0.made, none)
  takes_did s t (Full bytes) free x last = let none = did_not t (ap is_did last) in omega (arith, ap length x.2.0.made, none)
  takes_did s t Spent free x last = absurd (true≢false (sym x.0 ∙ free))
  takes_did s t OutOfMemory free x last = let none = did_not t (ap is_did last) in omega (arith, ap length x.1.made, none)

  crashed_did : (s t : Shell A M O g h) → t ≡ s → s.port.crashed ≡ true → length (made t.port) ≡ length (made s.port) + did t
  crashed_did s t same crashed =
      let none : did t ≡ 0 = ap did same ∙ ap (λ b. cond (not b && is_did s.last) 1 0) crashed in
      omega (arith, ap (λ (x : Shell A M O g h). length (made x.port)) same, none)

  pub took_did : (s t : Shell A M O g h) → Sound s → Took s t → length (made t.port) ≡ length (made s.port) + did t
  took_did s t sound took =
      ⊎_elim (λ x. crashed_did s t x.1 (sound x.0)) (λ x. takes_did s t x.1.0 x.0 x.1.1 x.1.2) took.acts

  pub refused_so : (s : Shell A M O g h) (r : Turn) → refusal s ≡ Some r → (s.spent ≡ true) × (s.port.crashed ≡ false) × (refusal_in s.last ≡ r)
  refused_so s r e = by s.spent s.port.crashed refl refl
    where
      by : (a b : Bool) → s.spent ≡ a → s.port.crashed ≡ b → (s.spent ≡ true) × (s.port.crashed ≡ false) × (refusal_in s.last ≡ r)
      by true false x y = (x, y, some_injective (refusal_in s.last) r (sym (λ i. cond (x i && not (y i)) (Some (refusal_in s.last)) None) ∙ e))
      by true true x y = (let reported : None ≡ Some r = sym (λ i. cond (x i && not (y i)) (Some (refusal_in s.last)) None) ∙ e in cc)
      by false b x y = (let reported : None ≡ Some r = sym (λ i. cond (x i && not (y i)) (Some (refusal_in s.last)) None) ∙ e in cc)

  -- a shell that was refused in this round answered so
  pub passed_full : (s t : Shell A M O g h) (bytes : ℕ) → Sound s → Passed s t → refusal t ≡ Some (Full bytes) → Takes (state s) (state t) 1 (Full bytes)
  passed_full s t bytes sound p e =
      let reported = refused_so t (Full bytes) e in
      ⊎_elim (λ same. stuck same reported.0 reported.1)
      (λ (took : Took s t). ⊎_elim (λ x. stuck x.1 reported.0 reported.1) (λ x. subst (Takes (state s) (state t) 1) (full_last t.last x.1.0 bytes x.1.2 reported.2) x.1.1) took.acts) p
    where
      stuck : t ≡ s → t.spent ≡ true → t.port.crashed ≡ false → Takes (state s) (state t) 1 (Full bytes)
      stuck same spent runs = absurd (true≢false (sym (sound (ap (λ (x : Shell A M O g h). x.spent) (sym same) ∙ spent)) ∙ (ap (λ (x : Shell A M O g h). x.port.crashed) (sym same) ∙ runs)))

  did_most : (t : Shell A M O g h) → did t ≤ 1
  did_most t = elim (not t.port.crashed && is_did t.last) as (λ b. cond {A = ℕ} b 1 0 ≤ 1) [ true ↦ omega arith | false ↦ omega arith ]

  -- a shell that was refused in this round made no row in it
  pub refused_idle : (s t : Shell A M O g h) (r : Turn) → Sound s → Took s t → refusal t ≡ Some r → did t ≡ 0
  refused_idle s t r sound took e =
      let reported = refused_so t r e in
      ⊎_elim (λ x. absurd (true≢false (sym (sound x.0) ∙ (ap (λ (y : Shell A M O g h). y.port.crashed) (sym x.1) ∙ reported.1))))
      (λ x. by x.1.0 x.0 x.1.1 x.1.2 reported.0) took.acts
    where
      by : (a : Turn) → s.spent ≡ false → Takes (state s) (state t) 1 a → t.last ≡ Some a → t.spent ≡ true → did t ≡ 0
      by (Did at) free x last spent = absurd (true≢false (sym spent ∙ x.2.3))
      by (Empty reported) free x last spent = did_not t (ap is_did last)
      by (Full bytes) free x last spent = did_not t (ap is_did last)
      by Spent free x last spent = did_not t (ap is_did last)
      by OutOfMemory free x last spent = did_not t (ap is_did last)

  -- a shell that was refused is not sound
  pub refused_unsound : (t : Shell A M O g h) (r : Turn) → refusal t ≡ Some r → ¬ Sound t
  refused_unsound t r e = λ sound. let reported = refused_so t r e in true≢false (sym (sound reported.0) ∙ reported.1)

  -- so fewer rows were made than there are shells
  pub took_short : (ss ts : List (Shell A M O g h)) (r : Turn) → length ts ≡ length ss → AllSound ss → AllTook ss ts → HasRefusal ts r → sum_by did ts < length ts
  took_short ss ts r l sound took refused =
      sum_short did ts (λ k d lt. did_most (get_or ts k d)) refused.place refused.inside
      (λ d. refused_idle (get_or ss refused.place d) (get_or ts refused.place d) r (sound refused.place d (omega (arith, refused.inside, l))) (took refused.place d (omega (arith, refused.inside, l))) (refused.reported d))

  -- a shell is as it was
  pub still_same : (s : Shell A M O g h) → Still s s
  still_same s = record { goes = goes_same s; made = refl; later = ([], sym (append-nil (seen s.port))); spent = refl; crashed = refl }

  pub still_trans : (s t u : Shell A M O g h) → Still s t → Still t u → Still s u
  still_trans s t u a b = record {
    goes = goes_trans s t u a.goes b.goes;
    made = b.made ∙ a.made;
    later = starts_trans (seen u.port) (seen t.port) (seen s.port) b.later a.later;
    spent = b.spent ∙ a.spent;
    crashed = b.crashed ∙ a.crashed;
  }

  -- a shell that made nothing goes on
  pub still_made : (s t : Shell A M O g h) → Stays s.port t.port → KeepsReplay s t → made t.port ≡ made s.port → GoesByDeliveries s t
  still_made s t stays replay same = record { stays = stays; replay = replay; made = delivers_none (made s.port) (made t.port) same }

  -- lists
  pub all_go_trans : (ss ts us : List (Shell A M O g h)) → length ts ≡ length ss → AllGo ss ts → AllGo ts us → AllGo ss us
  all_go_trans ss ts us l a b k d lt = goes_trans (get_or ss k d) (get_or ts k d) (get_or us k d) (a k d lt) (b k d (omega (arith, l, lt)))

  -- shells that made nothing have gone on
  pub still_all_go : (ss ts : List (Shell A M O g h)) → AllStill ss ts → AllGo ss ts
  still_all_go ss ts a k d lt = (a k d lt).goes

  pub all_still_trans : (ss ts us : List (Shell A M O g h)) → length ts ≡ length ss → AllStill ss ts → AllStill ts us → AllStill ss us
  all_still_trans ss ts us l a b k d lt = still_trans (get_or ss k d) (get_or ts k d) (get_or us k d) (a k d lt) (b k d (omega (arith, l, lt)))

  -- sound shells that made nothing are sound
  pub still_sound : (ss ts : List (Shell A M O g h)) → length ts ≡ length ss → AllStill ss ts → AllSound ss → AllSound ts
  still_sound ss ts l a sound k d lt spent = let s = a k d (omega (arith, l, lt)) in s.crashed ∙ sound k d (omega (arith, l, lt)) (sym s.spent ∙ spent)

  -- and as many rows were made
  pub still_rows : (ss ts : List (Shell A M O g h)) → length ts ≡ length ss → AllStill ss ts → rows_made ts ≡ rows_made ss
  still_rows ss ts l a =
      let e = sum_with (λ (s : Shell A M O g h). length (made s.port)) (λ (s : Shell A M O g h). 0) ss ts l (λ k d lt. omega (arith, ap length (a k d lt).made)) in
      omega (arith, e, sum_zero ts)

  -- how many rows a round made
  pub took_rows : (ss ts : List (Shell A M O g h)) → length ts ≡ length ss → AllSound ss → AllTook ss ts → rows_made ts ≡ rows_made ss + sum_by did ts
  took_rows ss ts l sound a =
      sum_with (λ (s : Shell A M O g h). length (made s.port)) did ss ts l (λ k d lt. took_did (get_or ss k d) (get_or ts k d) (sound k d lt) (a k d lt))

  -- shells that have gone on are of the exchange as before
  pub all_of_go : (net : Port M O h) (ss ts : List (Shell A M O g h)) → length ts ≡ length ss → AllGo ss ts → AllOf net ss → AllOf net ts
  all_of_go net ss ts l a of k d lt =
      let o = of k d (omega (arith, l, lt)) in let e = (a k d (omega (arith, l, lt))).stays.exchange in
      (o.0 ∙ sym e.0, o.1 ∙ sym e.1, o.2 ∙ sym e.2)

  -- and so they are where the port looked
  pub all_of_later : (net next : Port M O h) (ss : List (Shell A M O g h)) → Looked net next → AllOf net ss → AllOf next ss
  all_of_later net next ss l of k d lt = of_later net next (get_or ss k d).port l (of k d lt)

  -- a shell that has met the port has met it when it looked
  pub has_later : (net next : Port M O h) (s : Shell A M O g h) → Looked net next → HasMet net s → HasMet next s
  has_later net next s l m = record { begins = starts_trans (seen next) (seen net) (seen s.port) l.later m.begins }

  -- a shell that is ahead of a port is ahead of it as it was
  pub ahead_before : (net next : Port M O h) (s : Shell A M O g h) → Looked net next → IsAhead next s → IsAhead net s
  ahead_before net next s l a = record { begins = starts_trans (seen s.port) (seen next) (seen net) a.begins l.later; own = a.own }

  -- what was met is what was seen
  pub met_same : (net next : Port M O h) (s : Shell A M O g h) → seen next ≡ seen net → HasMet net s → HasMet next s
  met_same net next s e m = record { begins = subst (λ l. StartsWith l (seen s.port)) (sym e) m.begins }

  -- the same of all shells
  pub all_met_later : (net next : Port M O h) (ss : List (Shell A M O g h)) → Looked net next → AllMet net ss → AllMet next ss
  all_met_later net next ss l met k d lt = has_later net next (get_or ss k d) l (met k d lt)

  -- what is over the rows that were seen is over the same rows
  pub over_same : (net next : Port M O h) (s : Shell A M O g h) → seen next ≡ seen net → IsOver net s → IsOver next s
  over_same net next s e o = record {
    begins = subst (λ l. StartsWith l (seen s.port)) (sym e) o.begins;
    own = ap (rows_of s.port.who) e ∙ o.own;
    replay = λ birth r. subst (λ l. ReplaysOver s l birth) (sym e) (o.replay birth r);
  }

-- what all shells did, one after another
module _ {A M O : Type 0} {g : Ghosts A M O} {h : MailGhosts M} where
  -- nothing was done
  pub are_still_same : (net : Port M O h) (ss : List (Shell A M O g h)) → AreStill net net ss ss
  are_still_same net ss = record { len = refl; still = λ k d lt. still_same (get_or ss k d); looked = looked_same net }

  -- and once more nothing was made
  pub are_still_then : (a b c : Port M O h) (ss ts us : List (Shell A M O g h)) → AreStill a b ss ts → AreStill b c ts us → AreStill a c ss us
  are_still_then a b c ss ts us one two = record {
    len = two.len ∙ one.len;
    still = all_still_trans ss ts us one.len one.still two.still;
    looked = looked_trans a b c one.looked two.looked;
  }

  -- the port looked once more
  pub are_still_looked : (a b c : Port M O h) (ss ts : List (Shell A M O g h)) → AreStill a b ss ts → Looked b c → AreStill a c ss ts
  are_still_looked a b c ss ts one two = record { len = one.len; still = one.still; looked = looked_trans a b c one.looked two }

  -- shells that made nothing are later
  pub still_later : (a b : Port M O h) (ss ts : List (Shell A M O g h)) → AreStill a b ss ts → AreLater a b ss ts
  still_later a b ss ts one = record { len = one.len; go = still_all_go ss ts one.still; looked = one.looked }

  -- later and later
  pub later_then : (a b c : Port M O h) (ss ts us : List (Shell A M O g h)) → AreLater a b ss ts → AreLater b c ts us → AreLater a c ss us
  later_then a b c ss ts us one two = record {
    len = two.len ∙ one.len;
    go = all_go_trans ss ts us one.len one.go two.go;
    looked = looked_trans a b c one.looked two.looked;
  }

  -- they are of the exchange as before
  pub all_of_on : (a b : Port M O h) (ss ts : List (Shell A M O g h)) → AreLater a b ss ts → AllOf a ss → AllOf b ts
  all_of_on a b ss ts one of = all_of_go b ss ts one.len one.go (all_of_later a b ss one.looked of)

-- the elements before a place are related, and the others are as they were
pub all_partly : {X : Type 0} (R : X → X → Type 0) → ((x : X) → R x x) → (before now : List X) (i : ℕ) → ((k : ℕ) (d : X) → k < i → R (get_or before k d) (get_or now k d)) → ((k : ℕ) (d : X) → i ≤ k → get_or now k d ≡ get_or before k d) → (k : ℕ) (d : X) → k < length before → R (get_or before k d) (get_or now k d)
all_partly R same before now i done left k d lt =
    ⊎_elim (λ t. done k d (omega (arith, t.1))) (λ t. subst (R (get_or before k d)) (sym (left k d (omega (arith, t.1)))) (same (get_or before k d))) (leb_tells (suc k) i)

module _ {A M O : Type 0} {g : Ghosts A M O} {h : MailGhosts M} where
  -- a shell that has vouched
  pub over_vouched : (net next : Port M O h) (s t : Shell A M O g h) → HasMet net s → seen next ≡ seen net → seen t.port ≡ seen s.port → t.port.who ≡ s.port.who → t.actor ≡ s.actor → rows_of s.port.who (seen next) ≡ made t.port
      → ((birth : A) → Replays s birth → ReplaysOver t (seen next) birth) → IsOver next t
  over_vouched net next s t met theirs mine who actor own over = record {
    begins = (met.begins.0, theirs ∙ (met.begins.1 ∙ ap (λ l. l ++ met.begins.0) (sym mine)));
    own = ap (λ n. rows_of n (seen next)) who ∙ own;
    replay = λ birth r. over birth (sym actor ∙ (r ∙ (λ i. value g.table (record { who = who i; actor = birth }) (mine i))));
  }
