use Rattle.ygrammar.proofs.reader.read_placed.Goals as goal

pub returns-clause-refused : goal.returns-clause-refused
returns-clause-refused c = λ r is. absurd (c.in_ok-parsed.ensures.refused r is)
