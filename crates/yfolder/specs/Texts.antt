-- Two texts in memory.
use Rattle.std.specs.Prelude.{ℕ, ◌≡◌, ◌≢◌, ◌⊎◌, List}
use Rattle.yfolder.specs.declared.texts.Text.{Text}

-- the text has this path and these bytes
abbrev pub Is : Text → List ℕ → List ℕ → Type 0
Is text path bytes = (path ≡ text.path.now) × (bytes ≡ text.bytes.now)

-- one of the two has this path and these bytes
abbrev pub Has : Text → Text → List ℕ → List ℕ → Type 0
Has one other path bytes = Is one path bytes ⊎ Is other path bytes

-- neither has this path
abbrev pub HasNone : Text → Text → List ℕ → Type 0
HasNone one other path = (path ≢ one.path.now) × (path ≢ other.path.now)
