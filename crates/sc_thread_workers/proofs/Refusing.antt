-- The cause of Full.
use Rattle.std.proofs.Common.{◌≡◌, ℕ, ◌+◌, ◌≤◌, List, [], length, get_or, inl, sym, ap, ◌∙◌, arith, Some}
use Rattle.std.specs.Option.{option_map}
use Rattle.std.proofs.lemmas.List.Sums.{sum_by-append}
use Rattle.sc_thread_ports.specs.turn.Turn.{StartsWith}
use Rattle.sc_actor.specs.declared.actors.Actor.{Ghosts}
use Rattle.sc_actor.specs.declared.actors.Parcel.{Ghosts as MailGhosts}
use Rattle.sc_actor.specs.declared.rows.Row.{Row}
use Rattle.sc_actor.specs.declared.rows.Event.TheVariants.{Deliver}
use Rattle.sc_actor.specs.declared.rows.Input.TheVariants.{Got}
use Rattle.sc_actor.specs.Mail.{mails, numbered}
use Rattle.sc_actor.specs.Counted.{row_bytes, journal_bytes}
use Rattle.sc_actor.specs.Replay.{acted, value}
use Rattle.sc_actor.specs.System.{row_of}
use Rattle.sc_thread_ledger.specs.Pending.{kth_pending}
use Rattle.sc_thread_ports.specs.declared.exchange.ports.Port.{Port}
use Rattle.sc_thread_ports.specs.exchange.BareRows.{rows_of}
use Rattle.sc_thread_ports.specs.exchange.Ports.{seen, made, SameExchange, Looked, IsAddressed}
use Rattle.sc_thread_ports.proofs.ExchangeProofs.Addressing.{first_stays}
use Rattle.std.proofs.lemmas.List.{append-nil}
use Rattle.sc_thread_work.specs.declared.shell.shells.Shell.{Shell}
use Rattle.sc_thread_work.specs.declared.shell.turns.Turn.TheVariants.{Full}
use Rattle.sc_thread_work.specs.shell.Shells.{Takes, IsReplay, state, row_at}
use Rattle.sc_thread_work.proofs.ShellProofs.Replaying.{numbered_more, replay_over}
use Rattle.sc_thread_workers.specs.Crews.{GoesByDeliveries, AllGo, AllWorked, AllSound, AllStill, AllOf, AllOver, AllAhead, HasRefusal, Still, IsOver}
use Rattle.sc_thread_workers.specs.RoundEnds.{IsRefusedShell, HasRefusedShell}
use Rattle.sc_thread_workers.proofs.Crews.{goes_trans}
use Rattle.sc_thread_workers.proofs.ShellTurns.{worked_full}
use Rattle.sc_thread_workers.proofs.Serving.{net_same}
use Rattle.sc_thread_ports.proofs.TurnProofs.ListPrefixes.{starts_trans}

-- a longer journal counts no less
counts_more : {M O : Type 0} (weighs : M → ℕ) (xs ys : List (Row M O)) → StartsWith xs ys → journal_bytes weighs ys ≤ journal_bytes weighs xs
counts_more weighs xs ys p =
    let e : journal_bytes weighs xs ≡ journal_bytes weighs ys + journal_bytes weighs p.0 = ap (journal_bytes weighs) p.1 ∙ sum_by-append (row_bytes weighs) ys p.0 in
    omega (arith, e)

module _ {A M O : Type 0} {g : Ghosts A M O} {h : MailGhosts M} where
  module _ (start s t u : Shell A M O g h) (net : Port M O h) (bytes : ℕ) (goes : GoesByDeliveries start s) (x : Takes (state s) (state t) 1 (Full bytes)) (still : Still t u) (over : IsOver net u) (one : SameExchange u.port net)
      (begin : Port M O h) (met : StartsWith (seen s.port) (seen begin)) (looked : Looked begin net) (first : begin.who ≡ 0) (addressed : IsAddressed net) where
    all_later : StartsWith (seen net) (seen t.port)
    all_later = starts_trans (seen net) (seen u.port) (seen t.port) over.begins still.later

    rows_later : StartsWith (seen net) x.1.rows
    rows_later = starts_trans (seen net) (seen t.port) x.1.rows all_later x.1.before

    first_later : StartsWith (seen net) (seen s.port)
    first_later = starts_trans (seen net) (seen t.port) (seen s.port) all_later x.2.0.later

    who_is : u.port.who ≡ s.port.who
    who_is = still.goes.stays.who ∙ x.2.0.stays.who

    actors_are : net.actors ≡ s.port.actors
    actors_are = one.1 ∙ (still.goes.stays.exchange.1 ∙ x.2.0.stays.exchange.1)

    limit_is : net.limit ≡ s.port.limit
    limit_is = one.2 ∙ (still.goes.stays.exchange.2 ∙ x.2.0.stays.exchange.2)

    mail_there : numbered (mails (seen net)) x.1.number ≡ Some x.1.mail
    mail_there = ap (λ l. numbered (mails l) x.1.number) rows_later.1 ∙ numbered_more x.1.rows rows_later.0 x.1.number x.1.mail x.1.mail_is

    own_rows : rows_of s.port.who (seen net) ≡ made s.port
    own_rows = ap (λ n. rows_of n (seen net)) (sym who_is) ∙ (over.own ∙ (still.made ∙ x.2.0.made))

    -- neither the actor nor the network made a row since the fetch
    first_still : kth_pending h.receiver s.port.actors (seen net) s.port.who 1 ≡ Some x.1.number
    first_still =
        let up : StartsWith x.1.rows (seen begin) = starts_trans x.1.rows (seen s.port) (seen begin) x.1.later met in
        first_stays h.receiver s.port.actors x.1.rows (seen net) s.port.who x.1.number rows_later (λ z. let some = s.numbered in absurd (omega (arith, z, some))) (ap length own_rows ∙ sym (ap length x.1.own))
        (net_same begin net x.1.rows (seen net) looked first up rows_later ([], sym (append-nil (seen net)))) addressed x.1.kth

    value_is : (birth : A) → IsReplay start birth → s.actor ≡ value g.table (record { who = s.port.who; actor = birth }) (seen net)
    value_is birth r = replay_over g.table s.port (seen net) first_later own_rows s.actor birth (goes.replay birth r (inl x.0))

    row_is : (birth : A) → IsReplay start birth → row_at (state s) (Deliver x.1.number) (Some (Got x.1.mail)) ≡ row_of g.table (record { who = u.port.who; actor = birth }) (seen net) (Deliver x.1.number)
    row_is birth r =
        (λ i. record { who = s.port.who; event = Deliver x.1.number; sent = (acted g.table (value_is birth r i) (sym (ap (option_map Got) mail_there) i)).1 })
        ∙ ap (λ n. row_of g.table (record { who = n; actor = birth }) (seen net) (Deliver x.1.number)) (sym who_is)

    -- the shell that was refused
    pub refused_at : IsRefusedShell start net u bytes
    refused_at = record {
      spent = still.spent ∙ x.2.2;
      runs = still.crashed ∙ x.2.3;
      number = x.1.number;
      mail = x.1.mail;
      first = (λ i. kth_pending h.receiver (actors_are i) (seen net) (who_is i) 1) ∙ first_still;
      mail_is = mail_there;
      passes = λ birth r. omega (arith, limit_is, x.2.1.1, x.2.1.0, counts_more h.weighs (seen net) (seen t.port) all_later, ap (row_bytes h.weighs) (row_is birth r));
      reported = omega (arith, x.2.1.0, counts_more h.weighs (seen net) (seen t.port) all_later);
    }

  -- after a round with a refusal, and the meetings after it
  pub full_so : (start before after last : List (Shell A M O g h)) (net : Port M O h) (bytes : ℕ) → length before ≡ length start → length after ≡ length before → length last ≡ length after →
      AllGo start before → AllSound before → AllWorked before after → HasRefusal after (Full bytes) → AllStill after last → AllOver net last → AllOf net last →
      (begin : Port M O h) → AllAhead begin before → Looked begin net → begin.who ≡ 0 → IsAddressed net → HasRefusedShell start net last bytes
  full_so start before after last net bytes l m n go sound worked r still over one begin ahead looked first addressed = record {
    place = r.place;
    inside = omega (arith, r.inside, n);
    refused = λ d.
        (let s = get_or start r.place d in let b = get_or before r.place d in let t = get_or after r.place d in
        let w = worked r.place d (omega (arith, r.inside, m)) in
        let f = worked_full w.0 b t bytes (sound r.place d (omega (arith, r.inside, m))) w.1 (r.reported d) in
        refused_at s f.last t (get_or last r.place d) net bytes
        (goes_trans s b f.last (go r.place d (omega (arith, r.inside, m, l))) f.goes)
        f.takes
        (still r.place d r.inside)
        (over r.place d (omega (arith, r.inside, n)))
        (one r.place d (omega (arith, r.inside, n)))
        begin (starts_trans (seen f.last.port) (seen b.port) (seen begin) f.later (ahead r.place d (omega (arith, r.inside, m))).begins) looked first addressed);
  }

  -- from an earlier start
  pub full_from : (first start last : List (Shell A M O g h)) (net : Port M O h) (bytes : ℕ) → length start ≡ length first → length last ≡ length start → AllGo first start → HasRefusedShell start net last bytes → HasRefusedShell first net last bytes
  full_from first start last net bytes l m go f = record {
    place = f.place;
    inside = f.inside;
    refused = λ d. let r = f.refused d in record {
      spent = r.spent;
      runs = r.runs;
      number = r.number;
      mail = r.mail;
      first = r.first;
      mail_is = r.mail_is;
      passes = λ birth is. r.passes birth ((go f.place d (omega (arith, f.inside, m, l))).replay birth is);
      reported = r.reported;
    };
  }
