-- The lemmas of this part of the crate that others cite, under one name.
pub use Rattle.sc_live_steps.proofs.CalmStepsProofs.ChartChanges.{charts_may_change}
pub use Rattle.sc_live_steps.proofs.CalmStepsProofs.ClientRows.{clients as clients_lower}
pub use Rattle.sc_live_steps.proofs.CalmStepsProofs.PaidEntries.{lone_paid as lone_entries_are_paid}
pub use Rattle.sc_live_steps.proofs.CalmStepsProofs.PaidRows.{taken_mail as taken_mail_lowers, kept_calm as kept_calm_is_measured}
pub use Rattle.sc_live_steps.proofs.CalmStepsProofs.LearnRows.{unbound_new}
pub use Rattle.sc_live_steps.proofs.CalmStepsProofs.LearntPotential.{count_numbers}
pub use Rattle.sc_live_steps.proofs.CalmStepsProofs.LedReplicas.{led_learns as led_learns_lower}
pub use Rattle.sc_live_steps.proofs.CalmStepsProofs.CreatedPotential.{made_owe as made_replicas_owe}
pub use Rattle.sc_live_steps.proofs.CalmStepsProofs.MailPotential.{answers as answers_lower, votes as votes_lower, learns as learns_lower, asks as asks_lower, moves as moves_lower, counts as counts_lower, old_learns as old_learns_lower}
pub use Rattle.sc_live_steps.proofs.CalmStepsProofs.NodePotential.{nodes_lower, raise_little as nodes_raise_little}
pub use Rattle.sc_live_steps.proofs.CalmStepsProofs.PartyPotential.{parties_lower, parties_raise_little, led_parties_lower, children_found, put_others, put_found, apart}
pub use Rattle.sc_live_steps.proofs.CalmStepsProofs.ClientReach.{clients_pay}
pub use Rattle.sc_live_steps.proofs.CalmStepsProofs.RestingJournals.{resting_owes_little, kept_ends_quiet as kept_calm_ends_quiet, quiet_mail}
pub use Rattle.sc_live_steps.proofs.CalmStepsProofs.UntakenPotential.{strangers_lower}
pub use Rattle.sc_live_steps.proofs.CalmStepsProofs.BornReplicas.{begin_at_rest as replicas_begin_at_rest, first_leads as first_members_lead, begin_at_rest, first_leads}
pub use Rattle.sc_live_steps.proofs.CalmStepsProofs.CalmLaws.{orders_raise_little}
