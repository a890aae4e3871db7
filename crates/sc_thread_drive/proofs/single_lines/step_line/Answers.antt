use Rattle.sc_thread_drive.proofs.single_lines.step_line.Goals as goal

pub returns-in-Deliver : goal.returns-in-Deliver
returns-in-Deliver g c = rw c.in-Deliver.is c.deliver.ensures

pub returns-in-Drop : goal.returns-in-Drop
returns-in-Drop g c = rw c.in-Drop.is c.lose.ensures

pub returns-in-Again : goal.returns-in-Again
returns-in-Again g c = rw c.in-Again.is c.again.ensures

pub returns-in-Tick : goal.returns-in-Tick
returns-in-Tick g c = rw c.in-Tick.is c.happen.ensures

pub returns-in-Crash : goal.returns-in-Crash
returns-in-Crash g c = rw c.in-Crash.is c.happen-in-Crash.ensures

pub returns-in-Told : goal.returns-in-Told
returns-in-Told g c = rw c.in-Told.is c.give_order.ensures
