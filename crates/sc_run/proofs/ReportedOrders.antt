-- The result that a report gives of an order has happened in the row that reports it first.
use Rattle.std.proofs.Common.{◌≡◌, ℕ, refl, sym, ◌∙◌, ap, subst, List, [], ◌∷◌, ◌++◌, append_assoc, eqb, Option, Some, None}
use Rattle.std.proofs.lemmas.Bool.{cond_both, eqb-true}
use Rattle.sc_node_table.specs.Values.{OrderLine, OrderResult, Mail, MailBody, Row, Request, Told}
use Rattle.sc_node_table.specs.Replica.{either}
use Rattle.sc_actor.specs.Mail.{mails}
use Rattle.sc_actor.proofs.Lemmas.{mails-snoc}
use Rattle.sc_scenario.specs.declared.scenario.scenarios.Scenario.{Scenario}
use Rattle.sc_meaning.specs.sound.Players.{as_nodes}
use Rattle.sc_law_refusal.specs.refusal.Journals.{RefusesWithCause}
use Rattle.sc_law_refusal.specs.results.ResultDefinitions.{IfReported, ReportAs, HasHappened}
use Rattle.sc_world.specs.Summary.{reported_in_mail, reported_of}
use Rattle.sc_run.specs.ReportedOrders.{IsReportedFirst, LinesHaveHappened}

module _ (Fact : ℕ → OrderResult → Type 0) (number : ℕ) (result : OrderResult) where
  in_mail : (body : MailBody) → reported_in_mail number body ≡ Some result → IfReported Fact body → Fact number result
  in_mail (Told order told) e fact =
      cond_both (eqb order number) (Some told) None (λ (o : Option OrderResult). o ≡ Some result → Fact number result)
      (λ t f. (let same : told ≡ result = cc in subst (λ n. Fact n result) (eqb-true order number t) (subst (λ r. Fact order r) same fact))) (λ _ f. cc) e
  in_mail (Request group client seq op) e fact = cc
  in_mail _ e fact = cc

  in_mails : (sent : List Mail) → reported_of number sent ≡ Some result → ReportAs Fact sent → Fact number result
  in_mails [] e facts = cc
  in_mails (mail ∷ more) e facts = by (reported_in_mail number mail.body) refl e (λ g. in_mails more g facts.1)
    where
      by : (o : Option OrderResult) → reported_in_mail number mail.body ≡ o → either o (reported_of number more) ≡ Some result → (reported_of number more ≡ Some result → Fact number result) → Fact number result
      by None f g rest = rest g
      by (Some told) f g rest = in_mail mail.body (f ∙ g) facts.0

-- of two lists of mail, the first that reports of an order says its result
of_both : (number : ℕ) (sent more : List Mail) → reported_of number (sent ++ more) ≡ either (reported_of number sent) (reported_of number more)
of_both number [] more = refl
of_both number (mail ∷ sent) more = by (reported_in_mail number mail.body) (of_both number sent more)
  where
    by : (o : Option OrderResult) → reported_of number (sent ++ more) ≡ either (reported_of number sent) (reported_of number more) → either o (reported_of number (sent ++ more)) ≡ either (either o (reported_of number sent)) (reported_of number more)
    by None rest = rest
    by (Some told) rest = refl

module _ (scenario : Scenario) (journal : List (Row Mail OrderLine)) (refuses : RefusesWithCause as_nodes scenario journal) (number : ℕ) (result : OrderResult) where
  abbrev Is : Type 0
  Is = IsReportedFirst scenario journal number result

  from_rows : (rows before : List (Row Mail OrderLine)) → journal ≡ before ++ rows → reported_of number (mails before) ≡ None → reported_of number (mails rows) ≡ Some result → Is
  from_rows [] before are none e = cc
  from_rows (row ∷ rows) before are none e = by (reported_of number row.sent) refl (sym (of_both number row.sent (mails rows)) ∙ e) (from_rows rows (before ++ row ∷ []) (are ∙ sym (append_assoc before (row ∷ []) rows)))
    where
      -- no mail of the row reports of the order, or the first that does says the result
      by : (o : Option OrderResult) → reported_of number row.sent ≡ o → either (reported_of number row.sent) (reported_of number (mails rows)) ≡ Some result
          → (reported_of number (mails (before ++ row ∷ [])) ≡ None → reported_of number (mails rows) ≡ Some result → Is) → Is
      by None f g rest = rest
          (ap (λ (ms : List Mail). reported_of number ms) (mails-snoc before row) ∙ of_both number (mails before) row.sent ∙ ap (λ (o : Option OrderResult). either o (reported_of number row.sent)) none ∙ f)
          (ap (λ (o : Option OrderResult). either o (reported_of number (mails rows))) (sym f) ∙ g)
      by (Some told) f g rest =
          let same : Some told ≡ Some result = ap (λ (o : Option OrderResult). either o (reported_of number (mails rows))) (sym f) ∙ g in
          let reports : reported_of number row.sent ≡ Some result = f ∙ same in
          record {
            before = before;
            row = row;
            later = rows;
            are = are;
            first = none;
            reports = reports;
            happened = in_mails (HasHappened as_nodes scenario before row) number result row.sent reports (refuses.reported before row rows are);
          }

pub lines_have_happened : (scenario : Scenario) (journal : List (Row Mail OrderLine)) → RefusesWithCause as_nodes scenario journal → LinesHaveHappened scenario journal
lines_have_happened scenario journal refuses number result e = from_rows scenario journal refuses number result journal [] refl refl e
