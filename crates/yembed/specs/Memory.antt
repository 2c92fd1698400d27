-- What a call leaves in the caller's memory.
use Rattle.std.specs.Prelude.{ℕ, ◌≡◌, List, ◌++◌, take, drop, length}

-- the memory begins with as much of a text as fits, and is after that as it was
abbrev pub Holds : List ℕ → List ℕ → List ℕ → Type 0
Holds old new text = new ≡ take (length old) text ++ drop (length text) old

-- such a text was handed over, and its whole length
pub record Hands (is : List ℕ → Type 0) (old new : List ℕ) (len : ℕ) : Type 0 where
  pub text : List ℕ
  pub such : is text
  pub holds : Holds old new text
  pub whole : len ≡ length text

-- the memory is as it was, and the length is 0
pub record HandsNothing (old new : List ℕ) (len : ℕ) : Type 0 where
  pub stays : new ≡ old
  pub none : len ≡ 0
