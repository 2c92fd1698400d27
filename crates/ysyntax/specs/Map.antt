-- The source map of a grammar file with a syntax.
use Rattle.std.specs.Prelude.{ℕ, ◌≡◌, List, [], map}
use Rattle.ysyntax.specs.declared.lexer.Placed.{Placed}
use Rattle.ysyntax.specs.Answers.{StandIn, views}
use Rattle.ysyntax.specs.Sites.{StandFrom}
use Rattle.ysyntax.specs.SiteViews.{marks_in}
use Rattle.ysyntax.specs.Tree.{Tree, yield}
use Rattle.ysyntax.specs.declared.map.Mark.{Mark}
use Rattle.ysyntax.specs.declared.role.Role.{Role}
use Rattle.ysyntax.specs.Roles.{roles}

-- the lexemes, each where it stands
abbrev pub placed_of : List Mark → List Placed
placed_of marks = map (λ m. m.placed) marks

-- what they are there for
abbrev pub roles_in : List Mark → List Role
roles_in marks = map (λ m. m.role) marks

-- The marks are the lexemes of the file with this tree, one after another: reading comes to the
-- place of each with those before it, and it stands there to its end; and each has its role.
pub record AreMarksOf (source : List ℕ) (t : Tree) (marks : List Mark) : Type 0 where
  pub lexemes : views (placed_of marks) ≡ yield t
  pub places : StandFrom source [] (marks_in (placed_of marks))
  pub ends : StandIn source (placed_of marks)
  pub roles : roles_in marks ≡ roles t
