use Rattle.ymachine.specs.MachineOver.{machine_over}
use Rattle.ymachine.proofs.Completes.{complete_machine}
use Rattle.ymachine.proofs.Headlines.{machine_of_grammar}
use Rattle.ymachine.proofs.Machines.{sound_machine}
use Rattle.ymachine.proofs.OneMachine.{one_machine}
use Rattle.ymachine.proofs.Sounds.{sound}
use Rattle.ymachine.proofs.Unwindings.{unwinds_right}
use Rattle.ymachine.proofs.tables.known.Goals as goal

pub returns-clause-cells : goal.returns-clause-cells
returns-clause-cells c = let p = c.promised.ensures in
    sound_machine c.args.tables.now p.grammar p.states p.allowed

pub returns-clause-complete : goal.returns-clause-complete
returns-clause-complete c e = let p = c.promised.ensures in
    complete_machine c.args.tables.now p.grammar p.states (p.have e)

pub returns-clause-machine : goal.returns-clause-machine
returns-clause-machine c =
    let p = c.promised.ensures in
    machine_of_grammar c.args.tables.now p.grammar p.states p.guide.0 p.guide.1 p.tables

pub returns-clause-only : goal.returns-clause-only
returns-clause-only c =
    let p = c.promised.ensures in
    let t = c.args.tables.now in
    λ m h. one_machine t.built.grammar m (machine_over t) h
    (machine_of_grammar t p.grammar p.states p.guide.0 p.guide.1 p.tables)

pub returns-clause-sound : goal.returns-clause-sound
returns-clause-sound c = let p = c.promised.ensures in
    sound c.args.tables.now p.grammar p.states p.allowed

pub returns-clause-unwinds : goal.returns-clause-unwinds
returns-clause-unwinds c =
    let p = c.promised.ensures in
    let t = c.args.tables.now in
    λ tokens h a. unwinds_right t.built.grammar.bare (machine_over t) p.grammar
    (sound_machine t p.grammar p.states p.allowed) tokens h a
