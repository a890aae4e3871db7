-- Of an acceptance and the one found among older ones, which is chosen: the lesser that is chosen.
use Rattle.std.proofs.Common.{◌≡◌, ℕ, Bool, true, false, ◌&&◌, ◌==◌, List, Option, None, Some, IfSome, refl, subst}
use Rattle.std.specs.Option.{option_map}
use Rattle.sc_base.specs.Same.{same_ballot}
use Rattle.sc_base.proofs.NameLemmas.{ballot_is}
use Rattle.sc_words.specs.declared.commands.commands.Command.{Command}
use Rattle.sc_base.specs.Majority.{is_majority}
use Rattle.sc_words.specs.declared.paxos.reports.Report.{Report}
use Rattle.sc_words.specs.paxos.Ballots.{below}
use Rattle.sc_paxos_law.specs.Steps.{Step}
use Rattle.sc_paxos_law.specs.Decided.{voters_of}
use Rattle.sc_world_logs.specs.Acceptances.{report_of, with_chosen, IsFoundChosen}
use Rattle.sc_world_logs.specs.declared.accepting.Acceptance.{Acceptance}

-- a later ballot is passed over
passed : (t : Bool) (here least : Report Command) → below least.ballot here.ballot ≡ true → Some least ≡ with_chosen t here (Some least)
passed true here least e = rw e refl
passed false here least e = refl

-- a ballot that is not later takes the place
taken : (here : Report Command) (least : Option (Report Command)) → IfSome least (λ (r : Report Command). below r.ballot here.ballot ≡ false) → Some here ≡ with_chosen true here least
taken here None e = refl
taken here (Some least) e = rw e refl

-- of the acceptances, too
not_later : (here : Acceptance) (least : Option Acceptance) → IfSome least (λ (a : Acceptance). below a.ballot here.ballot ≡ false) → IfSome (option_map report_of least) (λ (r : Report Command). below r.ballot here.ballot ≡ false)
not_later here None e = tt
not_later here (Some least) e = e

module _ (members : List ℕ) (h : List (Step Command)) (slot : ℕ) (here : Acceptance) where
  abbrev accepted : Bool
  accepted = is_majority members (voters_of h here.ballot slot)

  pub better_elsewhere : (least : Option Acceptance) → (here.slot == slot) ≡ false → option_map report_of least ≡ with_chosen ((here.slot == slot) && accepted) (report_of here) (option_map report_of least)
  better_elsewhere least other = rw other refl

  pub better_later : (least : Acceptance) → below least.ballot here.ballot ≡ true → Some (report_of least) ≡ with_chosen ((here.slot == slot) && accepted) (report_of here) (Some (report_of least))
  better_later least e = passed ((here.slot == slot) && accepted) (report_of here) (report_of least) e

  pub better_chosen : (least : Option Acceptance) → (here.slot == slot) ≡ true → accepted ≡ true → IfSome least (λ (a : Acceptance). below a.ballot here.ballot ≡ false)
      → Some (report_of here) ≡ with_chosen ((here.slot == slot) && accepted) (report_of here) (option_map report_of least)
  better_chosen least at chosen e = rw (at, chosen) (taken (report_of here) (option_map report_of least) (not_later here least e))

  pub better_none : (least : Option Acceptance) → (here.slot == slot) ≡ true → accepted ≡ false → option_map report_of least ≡ with_chosen ((here.slot == slot) && accepted) (report_of here) (option_map report_of least)
  better_none least at none = rw (at, none) refl

  -- a majority accepted in its ballot too, where it is the same
  pub same_chosen : (least : Acceptance) → same_ballot least.ballot here.ballot ≡ true → IsFoundChosen members h slot (Some least) → accepted ≡ true
  same_chosen least same chosen = subst (λ b. is_majority members (voters_of h b slot) ≡ true) (ballot_is least.ballot here.ballot same) chosen
