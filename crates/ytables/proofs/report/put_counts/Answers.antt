use Rattle.std.proofs.Common.{ℕ, ◌++◌, List, codes, decimal, is_some, length, subst, sym}
use Rattle.std.proofs.Common.{append_assoc}
use Rattle.ylink.specs.Sends.{Sends}
use Rattle.ytables.specs.Text.{pair_line}
use Rattle.ytables.proofs.report.put_counts.Goals as goal

pub returns : goal.returns
returns g c =
    let v = c.args.tables.now in
    subst (λ (l : List ℕ). Sends g.W.Write.contents c.args.link.now c.put_pieces.new.link
    (is_some c.put_pieces.result) (codes "States " ++ l))
    (sym (append_assoc (decimal (length v.built.states)) (codes "\n")
    (pair_line (codes "Conflicts ") v.shift_reduce v.reduce_reduce)))
    (rw (
      c.states.ensures.count,
      c.automaton.ensures.value,
      c.conflicts-counts.ensures.shift_reduce,
      c.conflicts-counts.ensures.reduce_reduce,
    ) at c.put_pieces.ensures)
