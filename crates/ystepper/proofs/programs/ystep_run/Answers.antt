use Rattle.ystepper.proofs.programs.ystep_run.Goals as goal

pub returns : goal.returns
returns g c = (c.ystep_in.new.folder, rw c.new-disk.ensures at c.ystep_in.ensures)
