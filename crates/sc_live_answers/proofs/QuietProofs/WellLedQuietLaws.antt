-- What a group that is well led is in a quiet journal, as the definition of a quiet journal asks it.
use Rattle.sc_live_answers.proofs.QuietProofs.StandingQuietGroups.{quiet_groups_stand as quiet_groups_stand_by, quiet_groups_are_gone as quiet_groups_are_gone_by}
use Rattle.sc_live_answers.proofs.LedGroupsProofs.LedGroupLaws.{replicas_run_logs}
use Rattle.sc_live_answers.specs.AnswerDefinitions.{QuietGroupsStand, QuietGroupsAreGone, QuietReplicasRest, QuietReplicasAreKept}
use Rattle.sc_live_answers.proofs.QuietProofs.RestingReplicas.{quiet_replicas_rest as quiet_replicas_rest_by}
use Rattle.sc_live_answers.proofs.QuietProofs.QuietReplicaInvariants.{quiet_replicas_are_kept as quiet_replicas_are_kept_by}
use Rattle.sc_live_journals.proofs.LogsProofs.GroupLogLemmas.{replicas_are_logged}

-- A group that stands does as a quiet journal asks it: one leads it at rest, each member is up to date, and each node of an open slot may vote; where none saw a later ballot or accepted what was not offered, and its link is as that asks.
pub quiet_groups_stand : QuietGroupsStand
quiet_groups_stand = quiet_groups_stand_by replicas_run_logs

-- And one that is gone is so as that asks it, where the nodes of the group that took it in have a replica of that.
pub quiet_groups_are_gone : QuietGroupsAreGone
quiet_groups_are_gone = quiet_groups_are_gone_by replicas_run_logs

-- Each replica of the group is at rest, where its newest state is locked in no transaction, and no work stands at the one that runs.
pub quiet_replicas_rest : QuietReplicasRest
quiet_replicas_rest = quiet_replicas_rest_by replicas_run_logs

-- Each is as any journal keeps it, and may pump where no report binds it.
pub quiet_replicas_are_kept : QuietReplicasAreKept
quiet_replicas_are_kept = quiet_replicas_are_kept_by replicas_are_logged
