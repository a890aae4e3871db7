-- Each move but a request shares out between two groups what the two held.
use Rattle.std.proofs.Common.{◌≡◌, ℕ, true, List, Option, Some, None, ◌⊎◌, inl, inr, sym, ap, ◌∙◌, subst}
use Rattle.std.specs.Option.{option_map}
use Rattle.sc_base.specs.Definitions.{before, from, holds}
use Rattle.sc_base.specs.declared.names.Draw.{Draw}
use Rattle.sc_words.specs.declared.ideal.Entry.{Entry}
use Rattle.sc_law_entries.specs.history.HistoryDefinitions.{Holding, Holdings, AreDisjoint, IsReportedOf, IsBetween, MayDivide, CanFollow, CanGive, CanTake, part_before, part_from, with_next, with_previous, both_holdings}
use Rattle.sc_law_entries.proofs.HistoryProofs.Holdings.{IsOnRing, before_arc, from_arc, parts_apart, before_reported, from_reported, joined_from, joined_arc, next_reported, previous_reported}
use Rattle.sc_law_entries.proofs.HistoryProofs.Disjoint.{HoldsAt, IsGood, SharesOut, owner}
use Rattle.std.proofs.lemmas.Option.{none-some, same_Some}

-- of a holding that is known
good_is : (history : List Entry) (found : Option Holding) (holding : Holding) → found ≡ Some holding → IsOnRing holding.arc → IsReportedOf history holding → IsGood history found
good_is history found holding fact arc recorded other its =
    let same : holding ≡ other = same_Some holding other (sym fact ∙ its) in
    subst (λ h. IsOnRing h.arc × IsReportedOf history h) same (arc, recorded)

at_is : (found : Option Holding) (holding : Holding) (p : ℕ) → found ≡ Some holding → HoldsAt found p → holds holding.arc p ≡ true
at_is found holding p fact h =
    let same : h.holding ≡ holding = same_Some h.holding holding (sym h.fact ∙ fact) in
    subst (λ (x : Holding). holds x.arc p ≡ true) same h.at

-- two that are known, as one
pub both_are : (together : Holding → Holding → Holding) (one other : Option Holding) (holding next : Holding) → one ≡ Some holding → other ≡ Some next → both_holdings together one other ≡ Some (together holding next)
both_are together one other holding next e f = ap (λ o. both_holdings together o other) e ∙ ap (both_holdings together (Some holding)) f

module _ (history : List Entry) (holdings : Holdings) (disjoint : AreDisjoint holdings) (recorded : (name : Draw) → IsGood history (holdings name)) where
  -- a group and its child
  pub divided : (group : Draw) (at : ℕ) (child : Draw) → MayDivide holdings group at child
      → SharesOut history holdings group child (option_map (part_before at) (holdings group)) (option_map (part_from at) (holdings group))
  divided group at child may =
      let good = recorded group may.holding may.fact in
      let arc = may.holding.arc in
      let mine : option_map (part_before at) (holdings group) ≡ Some (part_before at may.holding) = ap (option_map (part_before at)) may.fact in
      let theirs : option_map (part_from at) (holdings group) ≡ Some (part_from at may.holding) = ap (option_map (part_from at)) may.fact in
      let before_is = before_arc arc at good.0 may.fits may.cut in
      let from_is = from_arc arc at good.0 may.fits may.cut in
      record {
        apart = λ e. none-some may.holding (sym may.free ∙ ap holdings (sym e) ∙ may.fact);
        mine_good = good_is history _ (part_before at may.holding) mine before_is.0 (before_reported history may.holding at good.0 may.fits may.cut good.1);
        theirs_good = good_is history _ (part_from at may.holding) theirs from_is.0 (from_reported history may.holding at good.0 may.fits may.cut good.1);
        mine_from = λ p h. inl (record { holding = may.holding; fact = may.fact; at = before_is.1 p (at_is _ (part_before at may.holding) p mine h) });
        theirs_from = λ p h. inl (record { holding = may.holding; fact = may.fact; at = from_is.1 p (at_is _ (part_from at may.holding) p theirs h) });
        disjoint = λ p h k. parts_apart arc at good.0 may.fits may.cut p (at_is _ (part_before at may.holding) p mine h) (at_is _ (part_from at may.holding) p theirs k);
      }

  -- what two holdings have, one of the two groups has
  from_either : (group next : Draw) (holding other : Holding) (p : ℕ) → holdings group ≡ Some holding → holdings next ≡ Some other → (holds holding.arc p ≡ true) ⊎ (holds other.arc p ≡ true)
      → HoldsAt (holdings group) p ⊎ HoldsAt (holdings next) p
  from_either group next holding other p fact its (inl h) = inl (record { holding = holding; fact = fact; at = h })
  from_either group next holding other p fact its (inr h) = inr (record { holding = other; fact = its; at = h })

  -- a group that has taken over the next one, which has nothing
  pub joined_up : (group next : Draw) → IsBetween holdings group next CanFollow → SharesOut history holdings group next (both_holdings with_next (holdings group) (holdings next)) None
  joined_up group next may =
      let good = recorded group may.holding may.fact in
      let well = recorded next may.other may.next_is in
      let mine : both_holdings with_next (holdings group) (holdings next) ≡ Some (with_next may.holding may.other) = both_are with_next _ _ _ _ may.fact may.next_is in
      record {
        apart = may.apart;
        mine_good = good_is history _ (with_next may.holding may.other) mine (joined_arc may.holding.arc may.other.arc good.0 well.0 may.fits)
            (next_reported history may.holding may.other good.0 well.0 may.fits good.1 well.1);
        theirs_good = λ holding e. absurd (none-some holding e);
        mine_from = λ p h. from_either group next may.holding may.other p may.fact may.next_is
            (joined_from may.holding.arc may.other.arc good.0 well.0 may.fits p (at_is _ (with_next may.holding may.other) p mine h));
        theirs_from = λ p h. absurd (none-some h.holding h.fact);
        disjoint = λ p h k. absurd (none-some k.holding k.fact);
      }

  -- a position of both groups' arcs is none
  never_both : (group next : Draw) (holding other : Holding) → (group ≡ next → ⊥) → holdings group ≡ Some holding → holdings next ≡ Some other → (p : ℕ) → holds holding.arc p ≡ true → holds other.arc p ≡ true → ⊥
  never_both group next holding other apart fact its p h k =
      apart (owner holdings disjoint p group next (record { holding = holding; fact = fact; at = h }) (record { holding = other; fact = its; at = k }))

  neither_held : {A B C : Type 0} → A ⊎ B → (A → C) → (B → C) → C
  neither_held (inl a) f g = f a
  neither_held (inr b) f g = g b

  -- a group that gives
  pub given : (group : Draw) (at : ℕ) (next : Draw) → IsBetween holdings group next (CanGive at)
      → SharesOut history holdings group next (option_map (part_before at) (holdings group)) (both_holdings with_previous (holdings next) (option_map (part_from at) (holdings group)))
  given group at next may =
      let good = recorded group may.holding may.fact in
      let well = recorded next may.other may.next_is in
      let arc = may.holding.arc in
      let fits = may.fits.0 in
      let cut = may.fits.1 in
      let meet = may.fits.2 in
      let rest = part_from at may.holding in
      let whole = with_previous may.other rest in
      let mine : option_map (part_before at) (holdings group) ≡ Some (part_before at may.holding) = ap (option_map (part_before at)) may.fact in
      let theirs : both_holdings with_previous (holdings next) (option_map (part_from at) (holdings group)) ≡ Some whole =
      both_are with_previous _ _ _ _ may.next_is (ap (option_map (part_from at)) may.fact) in
      let before_is = before_arc arc at good.0 fits cut in
      let from_is = from_arc arc at good.0 fits cut in
      let in_whole : (p : ℕ) → HoldsAt (both_holdings with_previous (holdings next) (option_map (part_from at) (holdings group))) p → (holds (from arc at) p ≡ true) ⊎ (holds may.other.arc p ≡ true) =
      λ p h. joined_from (from arc at) may.other.arc from_is.0 well.0 meet p (at_is _ whole p theirs h) in
      record {
        apart = may.apart;
        mine_good = good_is history _ (part_before at may.holding) mine before_is.0 (before_reported history may.holding at good.0 fits cut good.1);
        theirs_good = good_is history _ whole theirs (joined_arc (from arc at) may.other.arc from_is.0 well.0 meet)
            (previous_reported history may.other rest well.0 from_is.0 meet well.1 (from_reported history may.holding at good.0 fits cut good.1));
        mine_from = λ p h. inl (record { holding = may.holding; fact = may.fact; at = before_is.1 p (at_is _ (part_before at may.holding) p mine h) });
        theirs_from = λ p h. neither_held (in_whole p h)
            (λ k. inl (record { holding = may.holding; fact = may.fact; at = from_is.1 p k }))
            (λ k. inr (record { holding = may.other; fact = may.next_is; at = k }));
        disjoint = λ p h k. neither_held (in_whole p k)
            (λ in_rest. parts_apart arc at good.0 fits cut p (at_is _ (part_before at may.holding) p mine h) in_rest)
            (λ in_next. never_both group next may.holding may.other may.apart may.fact may.next_is p (before_is.1 p (at_is _ (part_before at may.holding) p mine h)) in_next);
      }

  -- a group that takes
  pub taken : (group : Draw) (at : ℕ) (next : Draw) → IsBetween holdings group next (CanTake at)
      → SharesOut history holdings group next (both_holdings with_next (holdings group) (option_map (part_before at) (holdings next))) (option_map (part_from at) (holdings next))
  taken group at next may =
      let good = recorded group may.holding may.fact in
      let well = recorded next may.other may.next_is in
      let arc = may.other.arc in
      let fits = may.fits.0 in
      let cut = may.fits.1 in
      let meet = may.fits.2 in
      let part = part_before at may.other in
      let whole = with_next may.holding part in
      let mine : both_holdings with_next (holdings group) (option_map (part_before at) (holdings next)) ≡ Some whole =
      both_are with_next _ _ _ _ may.fact (ap (option_map (part_before at)) may.next_is) in
      let theirs : option_map (part_from at) (holdings next) ≡ Some (part_from at may.other) = ap (option_map (part_from at)) may.next_is in
      let before_is = before_arc arc at well.0 fits cut in
      let from_is = from_arc arc at well.0 fits cut in
      let in_whole : (p : ℕ) → HoldsAt (both_holdings with_next (holdings group) (option_map (part_before at) (holdings next))) p → (holds may.holding.arc p ≡ true) ⊎ (holds (before arc at) p ≡ true) =
      λ p h. joined_from may.holding.arc (before arc at) good.0 before_is.0 meet p (at_is _ whole p mine h) in
      record {
        apart = may.apart;
        mine_good = good_is history _ whole mine (joined_arc may.holding.arc (before arc at) good.0 before_is.0 meet)
            (next_reported history may.holding part good.0 before_is.0 meet good.1 (before_reported history may.other at well.0 fits cut well.1));
        theirs_good = good_is history _ (part_from at may.other) theirs from_is.0 (from_reported history may.other at well.0 fits cut well.1);
        mine_from = λ p h. neither_held (in_whole p h)
            (λ k. inl (record { holding = may.holding; fact = may.fact; at = k }))
            (λ k. inr (record { holding = may.other; fact = may.next_is; at = before_is.1 p k }));
        theirs_from = λ p h. inr (record { holding = may.other; fact = may.next_is; at = from_is.1 p (at_is _ (part_from at may.other) p theirs h) });
        disjoint = λ p h k. neither_held (in_whole p h)
            (λ in_mine. never_both group next may.holding may.other may.apart may.fact may.next_is p in_mine (from_is.1 p (at_is _ (part_from at may.other) p theirs k)))
            (λ in_part. parts_apart arc at well.0 fits cut p in_part (at_is _ (part_from at may.other) p theirs k));
      }
