use Rattle.sc_world.proofs.worlds.World.stands.Goals as goal

pub returns-clause-lawful : goal.returns-clause-lawful
returns-clause-lawful c = rw (← c.self.view_is) c.self.invariant.lawful

pub returns-clause-sound : goal.returns-clause-sound
returns-clause-sound c = rw (← c.self.view_is) c.self.invariant.sound

pub returns-clause-refuses : goal.returns-clause-refuses
returns-clause-refuses c = rw (← c.self.view_is) c.self.invariant.refuses
