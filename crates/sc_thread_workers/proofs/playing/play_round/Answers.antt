use Rattle.std.proofs.Common.{rules, inr, ◌≡◌, ◌+◌, ◌-◌, ◌*◌, ◌≤◌, sum_by, sym, ap, ◌∙◌, subst, length, arith}
use Rattle.sc_thread_workers.specs.Crews.{did, rows_made, HasPlayed}
use Rattle.sc_thread_workers.proofs.Crews.{took_rows, took_short}
use Rattle.sc_thread_workers.proofs.ShellTurns.{all_passed_worked}
use Rattle.sc_thread_workers.proofs.ChangedLists.{whole_slice}
use Rattle.sc_thread_workers.proofs.playing.play_round.Goals as goal

pub returns-then-is_empty-clause-played : goal.returns-then-is_empty-clause-played
returns-then-is_empty-clause-played g c =
    let ss = c.args.shells.now.items in let ts = c.in_order.new.shells in
    let value : c.as_mut_slice.result.now ≡ ss = c.as_mut_slice.ensures.value in
    let len : length ts ≡ length ss = search rules in
    let all : c.args.shells.now.len ≡ length ss = search rules in
    subst (λ l. HasPlayed c.args.left ss l c.in_order.result) (sym (whole_slice ts ss c.args.shells.now.len len all))
    (subst (λ l. HasPlayed c.args.left l ts c.in_order.result) value (record {
      len = len ∙ sym (ap length value);
      worked = all_passed_worked c.as_mut_slice.result.now ts c.in_order.ensures.passed;
      most = c.in_order.ensures.most;
      did = c.in_order.ensures.did;
      whole = c.in_order.ensures.whole;
      short = c.in_order.ensures.short;
    }))

pub returns-in-Runs-clause-played : goal.returns-in-Runs-clause-played
returns-in-Runs-clause-played g c =
    let ss = c.args.shells.now.items in let ts = c.at_once.new.shells.items in
    let is : c.did_in.result ≡ sum_by did ts = c.did_in.ensures.did ∙ ap (sum_by did) c.as_slice.ensures.value in record {
      len = c.at_once.ensures.len;
      worked = all_passed_worked ss ts (λ k d lt. inr (c.at_once.ensures.took k d lt));
      most = search rules;
      did = took_rows ss ts c.at_once.ensures.len c.requires.sound c.at_once.ensures.took ∙ ap (λ n. rows_made ss + n) (sym is);
      whole = λ none some calm. c.at_once.ensures.took;
      short = λ r refused. omega (arith, took_short ss ts r c.at_once.ensures.len c.requires.sound c.at_once.ensures.took refused, is, c.at_once.ensures.len);
    }

pub returns-in-Runs-clause-few : goal.returns-in-Runs-clause-few
returns-in-Runs-clause-few g c =
    let workers = c.args.play.now.workers in let size = c.run_size-size.result in
    let same : workers - 1 + 1 ≡ workers = omega (arith, c.requires.workers.0) in
    let fits : length c.args.shells.now.items ≤ size * workers = subst (λ n. n ≤ size * workers) (c.len-in-Runs.ensures ∙ c.args.shells.now.ok.0) c.run_size-size.ensures.few in
    let most = c.at_once.ensures.few (workers - 1) (subst (λ n. length c.args.shells.now.items ≤ size * n) (sym same) fits) in
    omega (arith, most, c.requires.workers.0)
