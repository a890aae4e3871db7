-- The definitions of this crate that others cite, under one name.
pub use Rattle.sc_actor.specs.Mail.{mails, copies, counts_at, counts_after, numbered, may_get, has_crashed, numbers, is_for, is_delivery, is_crash, one_less, one_more, pending}
pub use Rattle.sc_actor.specs.Replay.{Table, input_of, acted, replay, value, values}
pub use Rattle.sc_actor.specs.Counted.{mail_bytes, row_bytes, journal_bytes, IsFull}
pub use Rattle.sc_actor.specs.System.{System, acts, row_of, network, waiting, kth, numbers_of, has_started, are_apart, system, is_go, no_words}
pub use Rattle.sc_actor.specs.Walk.{Task, Once, Settles, Frees, Storms, WalkPlace, Allows, MayAdd, IsWalk, IsLawful, after_row, start, rest_of_all, tasks_of, delivery, repeat_of, picked, storm_row, is_quiet, storm_steps, IsWhole, IsNext, is_over, skips, cuts, rest_of_task, onward, place_after, skipped, unsettled, line_row, first_of, lowest}
pub use Rattle.sc_actor.specs.Steps.{IsUnderWay, IsOpen, IsLoose, IsStep, ActorStep}
