-- What is read of a file.
use Rattle.std.specs.Prelude.{ℕ, List, Option, Some, None, take}

-- the first bytes, at most so many, or all where there is no limit
abbrev pub front : Option ℕ → List ℕ → List ℕ
front None all = all
front (Some most) all = take most all
