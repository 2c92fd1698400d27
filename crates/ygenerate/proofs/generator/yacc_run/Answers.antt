use Rattle.ygenerate.proofs.generator.yacc_run.Goals as goal

pub returns : goal.returns
returns g c = (c.yacc_in.new.folder, rw c.new-disk.ensures at c.yacc_in.ensures)
