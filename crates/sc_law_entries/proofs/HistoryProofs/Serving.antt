-- A request that takes effect at the group whose arc holds its key.
use Rattle.std.proofs.Common.{◌≡◌, ℕ, Bool, true, false, cond, eqb, List, [], ◌∷◌, ◌++◌, Option, Some, None, ◌⊎◌, inl, inr, refl, sym, ◌∙◌, ap, subst, AllPairs, arith}
use Rattle.std.specs.Cmp.{nat_cmp_total, unsigned_tied}
use Rattle.std.specs.FinMap.{empty, get, get-insert}
use Rattle.std.specs.Option.{option_map}
use Rattle.std.proofs.lemmas.Bool.{cases_Bool, eqb-true, eq-eqb, cond-true, cond-false}
use Rattle.std.proofs.lemmas.Option.{same_Some}
use Rattle.sc_base.specs.Definitions.{Among, holds, pos_of}
use Rattle.sc_base.specs.declared.names.Draw.{Draw}
use Rattle.sc_base.specs.declared.ops.Noted.{Noted}
use Rattle.sc_base.specs.declared.ops.Op.{Op}
use Rattle.sc_base.specs.declared.ops.Reply.{Reply}
use Rattle.sc_words.specs.ideal.IdealDefinitions.{AreApart, HasEntry, contents_after, Contents, key_of, reply_of, after, holds_key, part_of}
use Rattle.sc_words.specs.declared.ideal.Entry.{Entry}
use Rattle.sc_words.proofs.IdealProofs.IdealLemmas.{apart, get-part}
use Rattle.sc_paxos_law.proofs.Lemmas.{Among-right, Among-either}
use Rattle.sc_law_entries.specs.history.HistoryDefinitions.{Holding, Holdings, RequestOf, MayServe, MatchesHoldings, IsReportedOf, IsNotedIn, with_request, with_holding, holdings_after, entries_by, AreDisjoint, ServedBy, request_entry}
use Rattle.sc_law_entries.proofs.HistoryProofs.Disjoint.{holding_here, holding_there}
use Rattle.sc_law_entries.proofs.HistoryProofs.Holdings.{IsOnRing}
use Rattle.sc_law_entries.proofs.HistoryProofs.Kept.{IsApart, all_pairs, apart_push}
use Rattle.sc_law_entries.proofs.HistoryProofs.StoreAdditions.{replay_push, after_push, entry_later}
use Rattle.sc_meaning.proofs.EntriesProofs.EntryLemmas.{draw_cases}
use Rattle.sc_words.proofs.PaxosProofs.PaxosLemmas.{Each-from_All}
use Rattle.sc_base.proofs.Lemmas.{AllPairs-head, AllPairs-tail}

-- entries that are apart, one by one
one_by_one : (es : List Entry) → AllPairs AreApart es → IsApart es
one_by_one [] a = tt
one_by_one (e ∷ es) a = (Each-from_All (AreApart e) es (AllPairs-head AreApart e es a), one_by_one es (AllPairs-tail AreApart e es a))

not_held : (b : Bool) → (b ≡ true → ⊥) → b ≡ false
not_held true no_way = absurd (no_way refl)
not_held false no_way = refl

module _ (request : RequestOf) (history : List Entry) (holdings : Holdings) (recorded : MatchesHoldings request history holdings)
    (group : Draw) (client seq : ℕ) (op : Op) (may : MayServe request holdings group client seq op) where
  abbrev holding : Holding
  holding = may.holding

  abbrev served : Holding
  served = with_request client seq op holding

  abbrev note : Noted
  note = record { seq = seq; reply = reply_of op holding.pairs }

  abbrev new : Entry
  new = record { client = client; seq = seq; op = op; reply = reply_of op holding.pairs }

  abbrev map : Contents
  map = contents_after empty history

  here : IsReportedOf history holding
  here = recorded.recorded group holding may.fact

  -- the reply is that of the whole map
  reply_is : reply_of op holding.pairs ≡ reply_of op map
  reply_is =
      ap (λ m. reply_of op m) here.pairs
      ∙ ap (λ (o : Option (List ℕ)). (let r : Reply = record { old = o } in r))
      (get-part map (holds_key holding.arc) (key_of op) ∙ cond-true (holds_key holding.arc (key_of op)) (get map (key_of op)) None may.its)

  -- no request of the history has this client and number
  first_time : (e : Entry) → Among e history → e.client ≡ client → e.seq ≡ seq → ⊥
  first_time e among same number =
      let fact : e.op ≡ op = recorded.asked e among ∙ ap (λ c. request c e.seq) same ∙ ap (request client) number ∙ sym may.asked in
      let old = here.noted e among (ap (λ o. holds_key holding.arc (key_of o)) fact ∙ may.its) in
      let less = may.above old.noted (ap (get holding.clients) (sym same) ∙ old.found) in
      let most = old.most in
      omega (arith, less, most, number)

  -- what the table has afterwards
  found_at : (who : ℕ) → get served.clients who ≡ cond (eqb who client) (Some note) (get holding.clients who)
  found_at who = get-insert nat_cmp_total holding.clients client note who ∙ ap (λ b. cond b (Some note) (get holding.clients who)) (unsigned_tied who client)

  found_new : (who : ℕ) → who ≡ client → get served.clients who ≡ Some note
  found_new who e = found_at who ∙ cond-true (eqb who client) (Some note) (get holding.clients who) (eq-eqb who client e)

  found_old : (who : ℕ) → eqb who client ≡ false → get served.clients who ≡ get holding.clients who
  found_old who f = found_at who ∙ cond-false (eqb who client) (Some note) (get holding.clients who) f

  last_is : HasEntry (history ++ new ∷ []) client seq (reply_of op holding.pairs)
  last_is = record { entry = new; stands = Among-right new history (new ∷ []) (inl refl); client_is = refl; seq_is = refl; reply_is = refl }

  noted_old : (e : Entry) → Among e history → holds_key holding.arc (key_of e.op) ≡ true → IsNotedIn served.clients e
  noted_old e among held =
      let old = here.noted e among held in
      elim (cases_Bool (eqb e.client client)) [
        | inl t ↦ (
            let same = eqb-true e.client client t in
            let less = may.above old.noted (ap (get holding.clients) (sym same) ∙ old.found) in
            let most = old.most in
            record { noted = note; found = found_new e.client same; most = omega (arith, less, most) })
        | inr f ↦ record { noted = old.noted; found = found_old e.client f ∙ old.found; most = old.most }
      ]

  noted_now : (e : Entry) → Among e history ⊎ Among e (new ∷ []) → holds_key holding.arc (key_of e.op) ≡ true → IsNotedIn served.clients e
  noted_now e (inl a) held = noted_old e a held
  noted_now e (inr (inl same)) held = subst (IsNotedIn served.clients) same (record { noted = note; found = found_new client refl; most = omega arith })
  noted_now e (inr (inr n)) held = absurd n

  notes_now : (who : ℕ) (n : Noted) → get served.clients who ≡ Some n → HasEntry (history ++ new ∷ []) who n.seq n.reply
  notes_now who n e =
      elim (cases_Bool (eqb who client)) [
        | inl t ↦ (
            let same : note ≡ n = same_Some note n (sym (found_new who (eqb-true who client t)) ∙ e) in
            subst (λ (x : Noted). HasEntry (history ++ new ∷ []) who x.seq x.reply) same
            (subst (λ c. HasEntry (history ++ new ∷ []) c seq (reply_of op holding.pairs)) (sym (eqb-true who client t)) last_is))
        | inr f ↦ entry_later history (new ∷ []) who n.seq n.reply (here.notes who n (sym (found_old who f) ∙ e))
      ]

  -- the group that served it
  served_reported : IsReportedOf (history ++ new ∷ []) served
  served_reported = record {
    pairs = ap (after op) here.pairs
        ∙ sym (apart op map (holds_key holding.arc) ∙ cond-true (holds_key holding.arc (key_of op)) (after op (part_of holding.arc map)) (part_of holding.arc map) may.its)
        ∙ ap (part_of holding.arc) (sym (after_push empty history new));
    noted = λ e among held. noted_now e (Among-either e history (new ∷ []) among) held;
    notes = notes_now;
  }

  -- any other group
  other_reported : (other : Holding) → holds_key other.arc (key_of op) ≡ false → IsReportedOf history other → IsReportedOf (history ++ new ∷ []) other
  other_reported other out old = record {
    pairs = old.pairs
        ∙ sym (apart op map (holds_key other.arc) ∙ cond-false (holds_key other.arc (key_of op)) (after op (part_of other.arc map)) (part_of other.arc map) out)
        ∙ ap (part_of other.arc) (sym (after_push empty history new));
    noted = λ e among held. noted_other e (Among-either e history (new ∷ []) among) held;
    notes = λ who n e. entry_later history (new ∷ []) who n.seq n.reply (old.notes who n e);
  }
    where
      noted_other : (e : Entry) → Among e history ⊎ Among e (new ∷ []) → holds_key other.arc (key_of e.op) ≡ true → IsNotedIn other.clients e
      noted_other e (inl a) held = old.noted e a held
      noted_other e (inr (inl same)) held = (let in_it : holds_key other.arc (key_of op) ≡ true = ap (λ (x : Entry). holds_key other.arc (key_of x.op)) same ∙ held in let no_way : true ≡ false = sym in_it ∙ out in absurd (cc))
      noted_other e (inr (inr n)) held = absurd n

  abbrev mine : Option Holding
  mine = option_map (with_request client seq op) (holdings group)

  mine_is : mine ≡ Some served
  mine_is = ap (option_map (with_request client seq op)) may.fact

  abbrev changed : Holdings
  changed = with_holding group mine holdings

  -- what a group has afterwards has the arc that it had
  same_arc : (name : Draw) (now : Holding) → changed name ≡ Some now → (old : Holding) × (holdings name ≡ Some old) × (old.arc ≡ now.arc)
  same_arc name now fact = elim (draw_cases name group) [
    | inl e ↦ (
        let same : Some served ≡ Some now = sym mine_is ∙ sym (holding_here group mine holdings name e) ∙ fact in
        let it : served ≡ now = cc in
        (holding, ap holdings e ∙ may.fact, ap (λ (h : Holding). h.arc) it))
    | inr ne ↦ (now, sym (holding_there group mine holdings name ne) ∙ fact, refl)
  ]

  changed_disjoint : AreDisjoint changed
  changed_disjoint = record {
    arcs = λ name now fact. (let old = same_arc name now fact in subst (λ a. IsOnRing a) old.2 (recorded.disjoint.arcs name old.0 old.1));
    only = λ p name other now another fact its held held_too. (
        let old = same_arc name now fact in
        let older = same_arc other another its in
        recorded.disjoint.only p name other old.0 older.0 old.1 older.1
        (ap (λ a. holds a p) old.2 ∙ held) (ap (λ a. holds a p) older.2 ∙ held_too));
  }

  changed_reported : (name : Draw) (now : Holding) → changed name ≡ Some now → IsReportedOf (history ++ new ∷ []) now
  changed_reported name now fact = elim (draw_cases name group) [
    | inl e ↦ (
        let same : Some served ≡ Some now = sym mine_is ∙ sym (holding_here group mine holdings name e) ∙ fact in
        let it : served ≡ now = cc in
        subst (IsReportedOf (history ++ new ∷ [])) it served_reported)
    | inr ne ↦ (
        let was = sym (holding_there group mine holdings name ne) ∙ fact in
        other_reported now (not_held _ (λ held. ne (recorded.disjoint.only (pos_of (key_of op)) name group now holding was may.fact held may.its))) (recorded.recorded name now was))
  ]

  asked_now : (e : Entry) → Among e history ⊎ Among e (new ∷ []) → e.op ≡ request e.client e.seq
  asked_now e (inl a) = recorded.asked e a
  asked_now e (inr (inl same)) = subst (λ (x : Entry). x.op ≡ request x.client x.seq) same may.asked
  asked_now e (inr (inr n)) = absurd n

  -- the history with the new entry matches what all groups hold
  tells_served : MatchesHoldings request (history ++ new ∷ []) changed
  tells_served = record {
    legal = record {
      replay = replay_push empty history new recorded.legal.replay reply_is;
      once = all_pairs (history ++ new ∷ []) (apart_push history new (one_by_one history recorded.legal.once) first_time);
    };
    asked = λ e among. asked_now e (Among-either e history (new ∷ []) among);
    disjoint = changed_disjoint;
    recorded = changed_reported;
  }

  pub served_kept : MatchesHoldings request (history ++ entries_by (ServedBy group client seq op) holdings) (holdings_after (ServedBy group client seq op) holdings)
  served_kept = subst (λ o. MatchesHoldings request (history ++ request_entry o client seq op) changed) (sym may.fact) tells_served
