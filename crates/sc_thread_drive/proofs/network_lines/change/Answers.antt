use Rattle.std.proofs.Common.{refl}
use Rattle.sc_thread_drive.proofs.NetworkKept.{changes_all_of}
use Rattle.sc_thread_drive.proofs.CompanyActs.{network_acts}
use Rattle.sc_thread_drive.proofs.network_lines.change.Goals as goal

pub returns : goal.returns
returns g c =
    network_acts c.args.company.now (record c.args.company.now { net = c.gather.new.net; shells = c.gather.new.shells }) c.change_one-made.new.net c.args.fate c.args.number c.change_one-made.result c.requires.crew c.change_one-made.ensures c.gather.ensures.still c.gather.ensures.gathered refl

pub gather-requires-clause-exchange : goal.gather-requires-clause-exchange
gather-requires-clause-exchange g c κs within =
    changes_all_of c.args.company.now.net c.change_one-made.new.net c.args.company.now.shells.items c.args.fate c.args.number c.change_one-made.result c.requires.crew c.change_one-made.ensures
