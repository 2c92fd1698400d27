-- The texts of a grammar's rules, as parts of its source.
use Rattle.std.specs.Prelude.{ℕ, List, take, drop, Option, Some, None}
use Rattle.std.specs.Borrow.{Bor}
use Rattle.ysymbols.specs.declared.texts.Span.{Span}

-- the part of the source there
abbrev pub part_of : List ℕ → Span → List ℕ
part_of source s = take s.len (drop s.start source)

-- A source, and the texts of rules that are parts of it.
pub record TextsValue : Type 0 where
  pub source : List ℕ
  pub texts : List (Option (List ℕ))

-- what a function makes of a value, where there is one
abbrev pub option_view : {A B : Type 0} → (A → B) → Option A → Option B
option_view f None = None
option_view f (Some x) = Some (f x)

-- a text, where there is one
abbrev pub text_view : Option (Bor (List ℕ)) → Option (List ℕ)
text_view t = option_view (λ s. s.now) t
