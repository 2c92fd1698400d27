-- Derivations in a context-free grammar (Aho, Sethi and Ullman, section 4.2).
use Rattle.std.specs.Prelude.{◌≡◌, List, ◌∷◌, ◌++◌}

module _ {S : Type 0} (Produces : S → List S → Type 0) where
  -- y is x with one symbol replaced by the body of one of its productions
  pub record Replaces (x y : List S) : Type 0 where
    pub before : List S
    pub symbol : S
    pub body : List S
    pub after : List S
    pub rule : Produces symbol body
    pub from : x ≡ before ++ symbol ∷ after
    pub to : y ≡ before ++ (body ++ after)

  -- a derivation begins with x and ends with y
  pub data Derives : List S → List S → Type 0 where
    done : {x : List S} → Derives x x
    step : {x y z : List S} → Replaces x y → Derives y z → Derives x z
