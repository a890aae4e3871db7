use Rattle.std.proofs.Common.{rules, ◌≡◌, ◌∙◌, List, true, false, sym, subst, ap}
use Rattle.std.specs.Option.{option_map}
use Rattle.sc_base.specs.Definitions.{is_majority}
use Rattle.sc_words.specs.declared.paxos.flights.Flight.{Flight}
use Rattle.sc_words.specs.declared.paxos.answers.Counted.{Counted}
use Rattle.sc_words.specs.declared.paxos.answers.Counted.TheVariants.{Chosen}
use Rattle.sc_words.specs.paxos.PaxosDefinitions.{LeaderState, flight_at, kept_voters, counted}
use Rattle.sc_paxos.specs.PaxosDefinitions.{IsOneEach}
use Rattle.sc_paxos.proofs.Flying.{one_without, one_written}
use Rattle.sc_paxos.proofs.Counting.{no_majority, majority, something}
use Rattle.sc_paxos.proofs.leader.Leader.on_accepted.Goals as goal
use Rattle.sc_paxos.proofs.leader.Leader.on_accepted.Goals.{in-Some-take_out, in-None}

pub returns-then-not-are_majority : goal.returns-then-not-are_majority
returns-then-not-are_majority g c =
    let same : c.args.ballot ≡ c.self.inside.ballot = search rules in
    let miss : is_majority c.args.members.now (kept_voters c.voters_after-voters.result) ≡ false = search rules in
    let leader : LeaderState g.row.V.Denot = record { ballot = c.self.inside.ballot; is_first = c.self.inside.is_first; from = c.self.inside.from; promisers = c.self.inside.promisers.items; reports = c.self.inside.reports.items; flights = c.self.inside.flights.items } in
    let found = ap (λ (fs : List (Flight g.row.V.Denot)). option_map (λ (f : Flight g.row.V.Denot). f.voters) (flight_at c.args.slot fs)) (sym c.as_slice.ensures.value) ∙ sym c.kept_at.ensures ∙ c.in-Some.is in
    ap (counted c.args.from c.args.ballot c.args.slot c.args.members.now) (sym c.self.view_is)
    ∙ no_majority c.args.from c.args.ballot c.args.slot c.args.members.now leader c.in-Some.kept c.voters_after-voters.result c.count_of.result c.set_voters.new.flights.items
    same found c.voters_after-voters.ensures miss c.count_of.ensures c.set_voters.ensures

pub returns : goal.returns
returns g c =
    let same : c.args.ballot ≡ c.self.inside.ballot = search rules in
    let most : is_majority c.args.members.now (kept_voters c.voters_after-voters.result) ≡ true = search rules in
    let leader : LeaderState g.row.V.Denot = record { ballot = c.self.inside.ballot; is_first = c.self.inside.is_first; from = c.self.inside.from; promisers = c.self.inside.promisers.items; reports = c.self.inside.reports.items; flights = c.self.inside.flights.items } in
    let found = ap (λ (fs : List (Flight g.row.V.Denot)). option_map (λ (f : Flight g.row.V.Denot). f.voters) (flight_at c.args.slot fs)) (sym c.as_slice.ensures.value) ∙ sym c.kept_at.ensures ∙ c.in-Some.is in
    elim c.match-take_out.branch [
      | in-Some-take_out w ↦
          ap (counted c.args.from c.args.ballot c.args.slot c.args.members.now) (sym c.self.view_is)
          ∙ majority c.args.from c.args.ballot c.args.slot c.args.members.now leader c.in-Some.kept c.voters_after-voters.result w.in-Some-take_out.flight c.take_out.new.flights.items
          same found c.voters_after-voters.ensures most (sym w.in-Some-take_out.is ∙ c.take_out.ensures.value) c.take_out.ensures.after
          ∙ ap (λ (r : Counted g.row.V.Denot). (let p : Counted g.row.V.Denot × LeaderState g.row.V.Denot = (r, record leader { flights = c.take_out.new.flights.items }) in p)) (sym (w.result-is ∙ ap Chosen w.value_of.ensures))
      | in-None w ↦ absurd (something c.args.slot c.self.inside.flights.items c.in-Some.kept found (sym w.in-None.is ∙ c.take_out.ensures.value))
    ]

pub invariant_of-self : goal.invariant_of-self
invariant_of-self g c = subst IsOneEach (sym c.set_voters.ensures) (one_written c.args.slot c.voters_after-voters.result c.self.inside.flights.items c.self.invariant)

pub invariant_of-self-2 : goal.invariant_of-self-2
invariant_of-self-2 g c = subst IsOneEach (sym c.take_out.ensures.after) (one_without c.args.slot c.self.inside.flights.items c.self.invariant)
