use Rattle.std.proofs.Common.{rules, Some, ◌≡◌, ◌+◌, ◌-◌, ◌∙◌, subst, arith}
use Rattle.sc_thread_workers.specs.Crews.{HasRefusal, AllSound, AllAhead, rows_made}
use Rattle.sc_thread_workers.specs.RoundEnds.{IsGathered, CanBegin}
use Rattle.sc_thread_workers.proofs.Crews.{all_go_trans, all_of_go, all_of_later, all_of_on, later_then, still_all_go, still_later, still_rows, still_sound}
use Rattle.sc_thread_workers.proofs.ShellTurns.{later_worked, worked_all_go}
use Rattle.sc_thread_workers.proofs.Refusing.{full_so, full_from}
use Rattle.sc_thread_workers.proofs.Serving.{delivers_one}
use Rattle.sc_thread_workers.proofs.Attending.{round_serves}
use Rattle.sc_thread_workers.proofs.Ending.{step_end, calm_maps, calm_of, calm_never, held_calm, held_maps, held_of, kept_of, refused_held, step_from}
use Rattle.sc_thread_workers.proofs.playing.step.Goals as goal
use Rattle.sc_thread_ports.proofs.ExchangeProofs.Knowing.{looked_trans}

pub prepare-requires-clause-exchange : goal.prepare-requires-clause-exchange
prepare-requires-clause-exchange g c κs within = all_of_on c.args.net.now c.meet.new.net c.args.shells.now.items c.play_round.new.shells.items (later_worked c.args.net.now c.meet.new.net c.args.shells.now.items c.meet.new.shells.items c.play_round.new.shells.items c.meet.ensures.still c.in-Some.ensures.played.len c.in-Some.ensures.played.worked) c.requires.crew.exchange

pub ended-requires-clause-exchange : goal.ended-requires-clause-exchange
ended-requires-clause-exchange g c κs within = all_of_on c.args.net.now c.meet.new.net c.args.shells.now.items c.play_round.new.shells.items (later_worked c.args.net.now c.meet.new.net c.args.shells.now.items c.meet.new.shells.items c.play_round.new.shells.items c.meet.ensures.still c.in-Some.ensures.played.len c.in-Some.ensures.played.worked) c.requires.crew.exchange

pub returns-in-None-clause-later : goal.returns-in-None-clause-later
returns-in-None-clause-later g c =
    kept_of _ c.args.play.now.way c.prepare.result
    (later_then c.args.net.now c.meet.new.net c.prepare.new.net c.args.shells.now.items c.play_round.new.shells.items c.prepare.new.shells.items (later_worked c.args.net.now c.meet.new.net c.args.shells.now.items c.meet.new.shells.items c.play_round.new.shells.items c.meet.ensures.still c.in-Some.ensures.played.len c.in-Some.ensures.played.worked)
    (still_later c.meet.new.net c.prepare.new.net c.play_round.new.shells.items c.prepare.new.shells.items c.prepare.ensures.still))

pub returns-in-Some-refused_in-clause-later : goal.returns-in-Some-refused_in-clause-later
returns-in-Some-refused_in-clause-later g c =
    kept_of _ c.args.play.now.way (Some c.ended.result)
    (later_then c.args.net.now c.meet.new.net c.ended.new.net c.args.shells.now.items c.play_round.new.shells.items c.ended.new.shells.items (later_worked c.args.net.now c.meet.new.net c.args.shells.now.items c.meet.new.shells.items c.play_round.new.shells.items c.meet.ensures.still c.in-Some.ensures.played.len c.in-Some.ensures.played.worked)
    (still_later c.meet.new.net c.ended.new.net c.play_round.new.shells.items c.ended.new.shells.items c.ended.ensures.still))

pub returns-in-None-clause-count : goal.returns-in-None-clause-count
returns-in-None-clause-count g c =
    let count : rows_made c.prepare.new.shells.items + c.args.standing.now.used ≡ rows_made c.args.shells.now.items + (c.args.standing.now.used + c.in-Some.did) = omega (
      arith,
      c.in-Some.ensures.played.did,
      still_rows c.args.shells.now.items c.meet.new.shells.items c.meet.ensures.still.len c.meet.ensures.still.still,
      still_rows c.play_round.new.shells.items c.prepare.new.shells.items c.prepare.ensures.still.len c.prepare.ensures.still.still,
    ) in held_of _ c.prepare.result count

pub returns-in-Some-refused_in-clause-count : goal.returns-in-Some-refused_in-clause-count
returns-in-Some-refused_in-clause-count g c =
    let count : rows_made c.ended.new.shells.items + c.args.standing.now.used ≡ rows_made c.args.shells.now.items + (c.args.standing.now.used + c.in-Some.did) = omega (
      arith,
      c.in-Some.ensures.played.did,
      still_rows c.args.shells.now.items c.meet.new.shells.items c.meet.ensures.still.len c.meet.ensures.still.still,
      still_rows c.play_round.new.shells.items c.ended.new.shells.items c.ended.ensures.still.len c.ended.ensures.still.still,
    ) in held_of _ (Some c.ended.result) count

pub returns-in-None-clause-serves : goal.returns-in-None-clause-serves
returns-in-None-clause-serves g c =
    let start = c.args.shells.now.items in let met = c.meet.new.shells.items in let after = c.play_round.new.shells.items in let last = c.prepare.new.shells.items in
    let calm : AllSound after = subst AllSound c.as_slice.ensures.value (c.refused_in.ensures.none (search rules)) in
    let ahead : AllAhead c.args.net.now met = c.meet.ensures.met.ahead in
    calm_maps c.prepare.result
    (λ (gathered : IsGathered c.prepare.new.net last).
    let some = delivers_one c.args.net.now c.prepare.new.net start met after last c.in-Some.did (c.args.play.now.limit - c.args.standing.now.used) c.meet.ensures.still.len c.in-Some.ensures.played.len c.prepare.ensures.still.len
    (looked_trans c.args.net.now c.meet.new.net c.prepare.new.net c.meet.ensures.still.looked c.prepare.ensures.still.looked) c.requires.crew.first (subst (CanBegin c.args.net.now start) c.requires.whos c.requires.begin) c.meet.ensures.still.still ahead
    (still_sound start met c.meet.ensures.still.len c.meet.ensures.still.still c.requires.crew.sound) c.in-Some.ensures.played.whole (omega (arith, c.requires.used)) c.prepare.ensures.still.still gathered.over c.requires.crew.exchange calm c.in-Some.ensures.played.did in
    omega (arith, some))
    (held_calm _ c.prepare.result c.prepare.ensures.gathered)

pub returns-in-None-clause-end : goal.returns-in-None-clause-end
returns-in-None-clause-end g c =
    let start = c.args.shells.now.items in let met = c.meet.new.shells.items in let after = c.play_round.new.shells.items in let last = c.prepare.new.shells.items in
    step_from c.prepare.result c.prepare.new.net start after last _ c.args.play.now.limit _
    (λ bytes f. full_from start after last c.prepare.new.net bytes (c.in-Some.ensures.played.len ∙ c.meet.ensures.still.len) c.prepare.ensures.still.len
    (all_go_trans start met after c.meet.ensures.still.len (still_all_go start met c.meet.ensures.still.still) (worked_all_go met after c.in-Some.ensures.played.worked)) f)
    c.prepare.ensures.end

pub returns-in-Some-refused_in-clause-end : goal.returns-in-Some-refused_in-clause-end
returns-in-Some-refused_in-clause-end g c =
    let start = c.args.shells.now.items in let met = c.meet.new.shells.items in let after = c.play_round.new.shells.items in let last = c.ended.new.shells.items in
    let ahead : AllAhead c.args.net.now met = c.meet.ensures.met.ahead in
    let refusal : HasRefusal after c.in-Some-refused_in.refused = subst (λ l. HasRefusal l c.in-Some-refused_in.refused) c.as_slice.ensures.value c.in-Some-refused_in.ensures.some in
    let short = c.in-Some.ensures.played.short c.in-Some-refused_in.refused refusal in
    step_end c.ended.result c.in-Some-refused_in.refused c.ended.new.net start last _ c.args.play.now.limit _ c.ended.ensures.end
    (λ bytes e gathered. (
      full_so start met after last c.ended.new.net bytes c.meet.ensures.still.len c.in-Some.ensures.played.len c.ended.ensures.still.len
          (still_all_go start met c.meet.ensures.still.still)
          (still_sound start met c.meet.ensures.still.len c.meet.ensures.still.still c.requires.crew.sound)
          c.in-Some.ensures.played.worked
          (subst (HasRefusal after) e refusal)
          c.ended.ensures.still.still gathered.over
          (all_of_later c.meet.new.net c.ended.new.net last c.ended.ensures.still.looked
          (all_of_go c.meet.new.net after last c.ended.ensures.still.len (still_all_go after last c.ended.ensures.still.still)
          (all_of_go c.meet.new.net met after c.in-Some.ensures.played.len (worked_all_go met after c.in-Some.ensures.played.worked)
          (all_of_go c.meet.new.net start met c.meet.ensures.still.len (still_all_go start met c.meet.ensures.still.still)
          (all_of_later c.args.net.now c.meet.new.net start c.meet.ensures.still.looked c.requires.crew.exchange)))))
          c.args.net.now ahead (looked_trans c.args.net.now c.meet.new.net c.ended.new.net c.meet.ensures.still.looked c.ended.ensures.still.looked) c.requires.crew.first gathered.addressed,
      omega (arith, short),
    ))

pub returns-in-None-clause-served : goal.returns-in-None-clause-served
returns-in-None-clause-served g c =
    let start = c.args.shells.now.items in let met = c.meet.new.shells.items in let after = c.play_round.new.shells.items in let last = c.prepare.new.shells.items in
    let ahead : AllAhead c.args.net.now met = c.meet.ensures.met.ahead in
    held_maps c.prepare.result
    (λ (gathered : IsGathered c.prepare.new.net last).
    round_serves c.args.net.now c.prepare.new.net start met after last c.meet.ensures.still.len c.in-Some.ensures.played.len c.prepare.ensures.still.len
    (looked_trans c.args.net.now c.meet.new.net c.prepare.new.net c.meet.ensures.still.looked c.prepare.ensures.still.looked) c.requires.crew.first c.meet.ensures.still.still ahead c.in-Some.ensures.played.worked c.prepare.ensures.still.still gathered c.requires.crew.exchange)
    c.prepare.ensures.gathered

pub returns-in-Some-refused_in-clause-served : goal.returns-in-Some-refused_in-clause-served
returns-in-Some-refused_in-clause-served g c =
    let start = c.args.shells.now.items in let met = c.meet.new.shells.items in let after = c.play_round.new.shells.items in let last = c.ended.new.shells.items in
    let ahead : AllAhead c.args.net.now met = c.meet.ensures.met.ahead in
    refused_held c.ended.result c.in-Some-refused_in.refused c.ended.new.net last
    (λ gathered. round_serves c.args.net.now c.ended.new.net start met after last c.meet.ensures.still.len c.in-Some.ensures.played.len c.ended.ensures.still.len
    (looked_trans c.args.net.now c.meet.new.net c.ended.new.net c.meet.ensures.still.looked c.ended.ensures.still.looked) c.requires.crew.first c.meet.ensures.still.still ahead c.in-Some.ensures.played.worked c.ended.ensures.still.still gathered c.requires.crew.exchange)
    c.ended.ensures.end

pub returns-in-None-clause-sound : goal.returns-in-None-clause-sound
returns-in-None-clause-sound g c =
    let after = c.play_round.new.shells.items in let last = c.prepare.new.shells.items in
    let calm : AllSound after = subst AllSound c.as_slice.ensures.value (c.refused_in.ensures.none (search rules)) in
    calm_of (AllSound last) c.prepare.result (still_sound after last c.prepare.ensures.still.len c.prepare.ensures.still.still calm)

pub returns-in-Some-refused_in-clause-sound : goal.returns-in-Some-refused_in-clause-sound
returns-in-Some-refused_in-clause-sound g c = calm_never (AllSound c.ended.new.shells.items) c.ended.result c.in-Some-refused_in.refused c.ended.new.net c.ended.new.shells.items c.ended.ensures.end
