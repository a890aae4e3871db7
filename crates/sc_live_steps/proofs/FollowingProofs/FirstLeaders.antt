-- The first leader of a group leads in its progress from its birth on.
use Rattle.std.proofs.Common.{◌≡◌, ◌∙◌, ℕ, ◌||◌, not, eqb, ltb, false, true≢false, List, Option, Some, None, inl, refl, sym, arith}
use Rattle.std.proofs.lemmas.Bool.{cond_both, cond-true, eq-eqb}
use Rattle.sc_base.specs.Definitions.{is_member}
use Rattle.sc_node_table.specs.NodeDefinitions.{next, first_ballot, born_replica, slots_ahead}
use Rattle.sc_live_steps.specs.following.FollowingDefinitions.{LeadersBegin, voters_of, IsLeadOf, IsOrderly, begun}

-- The first leader of a group leads in its progress from its birth on, with nothing in flight or ready.
pub leaders_begin : LeadersBegin
leaders_begin at me base same first member stands roster = (leads_first, orderly_first)
  where
    no_voters : (s : ℕ) → voters_of (born_replica slots_ahead me base) s ≡ None
    no_voters s = cond_both {A = Option (List ℕ)} (not (eqb base.core.first me) || (ltb s (next (born_replica slots_ahead me base)) || false)) None None (λ o. o ≡ None) (λ _. refl) (λ _. refl)

    leads_first : IsLeadOf at (begun base.core.members (first_ballot base.core)) (born_replica slots_ahead me base)
    leads_first = record {
      led = record {
        running = eq-eqb base.core.first me first;
        stands = stands;
        first = refl;
        mine = first;
        member = member;
        was = same 4 (omega arith);
        ahead = refl;
        roster = roster;
        may = record {
          ballot = refl;
          sets = (same 1 (omega arith), (same 2 (omega arith), (same 3 (omega arith), (same 4 (omega arith), tt))));
          low = omega arith;
          high = omega arith;
          taken = λ s least most. absurd (omega (arith, least, most));
          free = λ s least. refl;
        };
      };
      newest = refl;
      runs = refl;
      stands = refl;
      executed = cond-true (is_member base.core.members me) 1 0 member;
      promise = refl;
      voters = λ s. sym (no_voters s);
      polled = λ s voters e. (let none : None ≡ Some voters = sym (no_voters s) ∙ e in cc);
      counted = λ node. refl;
    }

    orderly_first : IsOrderly (born_replica slots_ahead me base)
    orderly_first = record {
      apart = tt;
      single = λ s from some. refl;
      alone = λ s other command from e act from_other some. absurd (true≢false (sym some));
      plain = refl;
      asked = λ s from some. inl refl;
    }
