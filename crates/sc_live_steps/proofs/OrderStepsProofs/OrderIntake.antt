-- A row that does nothing of an order, and one that takes an order where none is under way.
use Rattle.std.proofs.Common.{◌≡◌, List, [], ◌∷◌, ◌++◌, inl, inr, refl, sym, ◌∙◌, ap, append-nil}
use Rattle.sc_base.specs.Definitions.{Each}
use Rattle.sc_node_table.specs.Values.{Draw}
use Rattle.sc_live_steps.specs.orders.OrderDefinitions.{Unbound, Here, free, Ordered, parties_of, leads_of, Rests, IsTold, Stays, Begins, StepsBy, BeginsBy}
use Rattle.sc_live_steps.proofs.OrderStepsProofs.NamedValues.{cases-draw, having, here-is}
use Rattle.sc_live_steps.proofs.OrderStepsProofs.PartyChanges.{other-same, own-idle, leads-stay}

each_same : (value after : Draw → Here) (named : List (Draw × Here)) → ((name : Draw) → after name ≡ value name) → Each (λ entry. value entry.0 ≡ entry.1) named → Each (λ entry. after entry.0 ≡ entry.1) named
each_same value after [] same e = tt
each_same value after (entry ∷ named) same e = (same entry.0 ∙ e.0, each_same value after named same e.1)

pub rests-step : StepsBy Rests Stays
rests-step now after group taken sent row d s a = (
  s,
  record {
    parties = (each_same now.at after.at (parties_of s) all a.parties.0, λ name none. all name ∙ a.parties.1 name none);
    leads = leads-stay now after group taken sent row d.leads (leads_of s) a.leads;
    apart = a.apart;
    sound = a.sound;
  },
  refl,
)
  where
    own : after.at group ≡ now.at group
    own = here-is (after.at group) (now.at group).bond (now.at group).work (now.at group).errands d.bond d.work
        (own-idle now after group taken sent row d.takes ∙ (ap (λ l. (now.at group).errands ++ l) (d.sends.1 group tt) ∙ append-nil (now.at group).errands))

    all : (name : Draw) → after.at name ≡ now.at name
    all name = elim (cases-draw name group) [
      | inl fact ↦ ap after.at fact ∙ (own ∙ ap now.at (sym fact))
      | inr ne ↦ other-same now after group taken sent row name ne (d.sends.1 name tt)
    ]

pub reported-step : BeginsBy IsTold Begins
reported-step now after group taken sent row d a = (
  Ordered group d.chief d.order,
  record {
    parties = ((own, tt), λ name none. other-same now after group taken sent row name none.0 (d.sends.1 name tt) ∙ a.parties.1 name tt);
    leads = (d.leads, tt);
    apart = (tt, tt);
    sound = d.is_order;
  },
  record { chief = d.chief; work = d.order; before_is = refl; after_is = refl },
)
  where
    was : now.at group ≡ free
    was = a.parties.1 group tt

    own : after.at group ≡ having Unbound (d.order ∷ []) []
    own = here-is (after.at group) Unbound (d.order ∷ []) [] (d.bond ∙ ap (λ (h : Here). h.bond) was) (d.work ∙ ap (λ (h : Here). h.work ++ d.order ∷ []) was)
        (own-idle now after group taken sent row d.takes ∙ (ap (λ l. (now.at group).errands ++ l) (d.sends.1 group tt) ∙ ap (λ (h : Here). h.errands ++ []) was))
