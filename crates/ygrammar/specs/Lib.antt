pub mod Numbered
pub mod Numbers
pub mod OwnTable
pub mod Meaning
pub mod Places
pub mod Faults
pub mod Elaborated
pub mod Texts
pub mod GrammarOf
pub mod Parsed
pub use Rattle.ysymbols.specs.Derivation
pub use Rattle.ysymbols.specs.Grammar
pub use Rattle.ysymbols.specs.Forms
pub use Rattle.ysymbols.specs.WellFormed
pub use Rattle.ysymbols.specs.Names
pub use Rattle.ysyntax.specs.Lexer
pub use Rattle.ysyntax.specs.Tree
pub use Rattle.ysyntax.specs.Sites
pub use Rattle.ysyntax.specs.Roles
pub use Rattle.ysyntax.specs.Map as SourceMaps
pub use Rattle.ydeclarations.specs.Printed
pub use Rattle.ydeclarations.specs.Elaboration
pub use Rattle.ydeclarations.specs.Mistakes
pub use Rattle.ydeclarations.specs.Places as MistakePlaces
