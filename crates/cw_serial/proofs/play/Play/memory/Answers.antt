use Rattle.cw_serial.proofs.play.Play.memory.Goals as goal

pub returns : goal.returns
returns c = λ job names m is. c.memory.ensures job m is.machine
