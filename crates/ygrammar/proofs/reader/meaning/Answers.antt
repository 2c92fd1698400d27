use Rattle.std.proofs.Common.{subst}
use Rattle.ydeclarations.specs.Mistakes.{IsFirst, order}
use Rattle.ysyntax.specs.SiteViews.{tree_sites}
use Rattle.ysyntax.specs.TreeViews.{tree_view}
use Rattle.ygrammar.proofs.OneMeaning.{none_first}
use Rattle.ygrammar.proofs.ReaderSteps.{fault_of, no_grammar, same_grammar, same_mistake}
use Rattle.ygrammar.proofs.reader.meaning.Goals as goal

pub returns-in-Ok-clause-only : goal.returns-in-Ok-clause-only
returns-in-Ok-clause-only c = λ g (u, h, m).
    same_grammar c.args.source.now (tree_view c.args.parsed.now.tree) u c.in-Ok.grammar g
    (c.requires.one u h) c.in-Ok.ensures.means m

pub returns-in-Ok-clause-mistaken : goal.returns-in-Ok-clause-mistaken
returns-in-Ok-clause-mistaken c = λ m (u, h, first).
    none_first (tree_view c.args.parsed.now.tree) order m c.in-Ok.ensures.means.sound
    (subst (λ x. IsFirst x order m) (c.requires.one u h) first)

pub returns-in-Err-clause-only : goal.returns-in-Err-clause-only
returns-in-Err-clause-only c = λ g (u, h, m).
    no_grammar c.args.source.now (tree_view c.args.parsed.now.tree) u c.in-Err.refused
    c.in_file.result g (c.requires.one u h) c.in-Err.ensures.means c.in_file.ensures m

pub returns-in-Err-clause-mistaken : goal.returns-in-Err-clause-mistaken
returns-in-Err-clause-mistaken c = λ m (u, h, first).
    same_mistake c.args.source.now (tree_view c.args.parsed.now.tree) u
    (tree_sites c.args.parsed.now.tree) c.in-Err.refused c.in_file.result m (c.requires.one u h)
    c.requires.has c.requires.sites c.in-Err.ensures.means c.in-Err.ensures.place c.in_file.ensures
    first

pub returns-in-Err-clause-fault : goal.returns-in-Err-clause-fault
returns-in-Err-clause-fault c =
    fault_of c.args.source.now (tree_view c.args.parsed.now.tree)
    (tree_sites c.args.parsed.now.tree) c.in-Err.refused c.in_file.result c.requires.has
    c.requires.sites c.in-Err.ensures.means c.in-Err.ensures.place c.in_file.ensures
