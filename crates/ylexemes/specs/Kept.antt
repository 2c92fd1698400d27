-- Reading a kept text byte by byte, as functions of lists.
use Rattle.std.specs.Prelude.{ℕ, zero, suc, ◌==◌, ◌-◌, ◌&&◌, ◌||◌, Bool, true, false, cond, List}
use Rattle.std.specs.Prelude.{[], ◌∷◌, Option, Some, None}
use Rattle.ylexemes.specs.declared.kept.Mode.{Mode}
use Rattle.ylexemes.specs.declared.kept.Mode.TheVariants.{Outside, Quoted, Escaped, Opening}
use Rattle.ylexemes.specs.declared.kept.Mode.TheVariants.{Commented, Closing, Lined}
use Rattle.ylexemes.specs.Bytes.{begins}

-- the mode after a byte outside strings and comments that is no brace, with what follows it
abbrev pub outside_mode : ℕ → List ℕ → Mode
outside_mode b bs =
    cond (b == 34 || b == 39) (Quoted b) (cond (b == 47 && begins (λ y. y == 42) bs) Opening
    (cond (b == 47 && begins (λ y. y == 47) bs) Lined Outside))

abbrev pub next_mode : Mode → ℕ → List ℕ → Mode
next_mode Outside b bs = outside_mode b bs
next_mode (Quoted q) b bs = cond (b == q) Outside (cond (b == 92) (Escaped q) (Quoted q))
next_mode (Escaped q) b bs = Quoted q
next_mode Opening b bs = Commented
next_mode Commented b bs = cond (b == 42 && begins (λ y. y == 47) bs) Closing Commented
next_mode Closing b bs = Outside
next_mode Lined b bs = cond (b == 10) Outside Lined

abbrev pub is_outside : Mode → Bool
is_outside Outside = true
is_outside _ = false

abbrev pub close : ℕ → List ℕ → Option (List ℕ) → Option (List ℕ)
close zero bs r = Some bs
close (suc d) bs r = r

-- what follows the brace that closes the text; depth more are open
abbrev pub closes : Mode → ℕ → List ℕ → Option (List ℕ)
closes m depth [] = None
closes m depth (b ∷ bs) =
    cond (is_outside m && b == 125) (close depth bs (closes m (depth - 1) bs))
    (cond (is_outside m && b == 123) (closes m (suc depth) bs)
    (closes (next_mode m b bs) depth bs))
