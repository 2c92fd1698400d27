-- The braced texts of a file, by their places in the source.
use Rattle.std.specs.Prelude.{ℕ, List, [], ◌∷◌, ◌++◌, Option, Some}
use Rattle.std.specs.List.{flat_map}
use Rattle.ydeclarations.specs.Elaboration.{Rule, final_of}
use Rattle.ysyntax.specs.Tree.{RuleText, BodyPart, symbol, action}

-- the kept text of a rule's action, where it has one
abbrev pub kept_text : Rule → Option (List ℕ)
kept_text r = r.text

-- the kept text of an inner action, as that of its rule
abbrev pub body_part_texts : BodyPart → List (Option (List ℕ))
body_part_texts (symbol i) = []
body_part_texts (action t) = Some t ∷ []

-- the kept texts of the rules that a rule of the file makes, inner ones first
abbrev pub texts_of_rule : RuleText → List (Option (List ℕ))
texts_of_rule c = let f = final_of c.last c.body in flat_map body_part_texts f.0 ++ f.1 ∷ []
