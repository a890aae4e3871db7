-- Where mail is pending that is delivered, something is owed for it.
use Rattle.std.proofs.Common.{◌≡◌, ℕ, ◌≤◌, true, false, true≢false, List, [], ◌∷◌, sum_by, Option, Some, None, refl, sym, ◌∙◌, ap, arith}
use Rattle.std.specs.Prelude.{is_none}
use Rattle.std.proofs.lemmas.List.Sums.{sum_by-cons}
use Rattle.sc_base.specs.Definitions.{Each}
use Rattle.sc_node_table.specs.Values.{Mail, Seat}
use Rattle.sc_actor.specs.Definitions.{waiting, kth, is_quiet}
use Rattle.sc_actor.proofs.Lemmas.{waiting_any}
use Rattle.sc_live_orderly.specs.OrderlyDefinitions.{IsTidy, is_born, under_way}
use Rattle.sc_live_orderly.proofs.OrderlyLemmas.{delivered, may-born}
use Rattle.sc_meaning.specs.sound.SoundDefinitions.{Player, receiver_of}
use Rattle.sc_live_steps.specs.calm.CalmDefinitions.{players, IsDelivered, Ways, mail_owes, Rows}
use Rattle.sc_live_steps.proofs.CalmStepsProofs.NodePotential.{body_most}

-- each owes one at least
each_owes : (ways : Ways) (mails : List Mail) → Each (λ (mail : Mail). IsDelivered mail.body) mails → sum_by (λ (mail : Mail). 1) mails ≤ sum_by (mail_owes ways) mails
each_owes ways [] each = omega arith
each_owes ways (mail ∷ mails) each =
    let one = body_most ways mail.to mail.body each.0 in
    let more = each_owes ways mails each.1 in
    let a = sum_by-cons (λ (other : Mail). 1) mail mails in
    let b = sum_by-cons (mail_owes ways) mail mails in
    omega (arith, one, more, a, b)

module _ (words : ℕ → ℕ → ℕ × ℕ) (births : List (Seat Player)) where
  pub pending_owes : (ways : Ways) (rows : Rows) → IsTidy rows → Each (λ (mail : Mail). IsDelivered mail.body) (under_way (players words births) rows) → is_quiet (players words births) rows ≡ false → 1 ≤ sum_by (mail_owes ways) (under_way (players words births) rows)
  pending_owes ways rows tidy each loud = by (kth (waiting (players words births) rows None) 1) refl
    where
      by : (o : Option ℕ) → kth (waiting (players words births) rows None) 1 ≡ o → 1 ≤ sum_by (mail_owes ways) (under_way (players words births) rows)
      by None e = absurd (true≢false (sym (ap is_none e) ∙ loud))
      by (Some number) e =
          let u = waiting_any (players words births) rows 1 number e in
          let born : is_born (players words births) (receiver_of u.0) ≡ true = sym (may-born (players words births) rows (receiver_of u.0) tidy) ∙ u.1.may in
          let took = delivered (players words births) (λ (mail : Mail). 1) rows number u.0 born u.1 in
          let all = each_owes ways (under_way (players words births) rows) each in
          omega (arith, took, all)
