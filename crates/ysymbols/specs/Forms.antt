-- Derivations by the rules of a grammar (Aho, Sethi, Ullman, section 4.2). A form is a list of
-- symbols.
use Rattle.std.specs.Prelude.{ℕ, ◌≡◌, ◌<◌, ◌↔◌, Bool, true, false, List, [], ◌∷◌, length, Contains}
use Rattle.std.specs.Prelude.{refl, slice_index_or}
use Rattle.std.specs.List.{All}
use Rattle.ysymbols.specs.Derivation.{Replaces, Derives, done, step}
use Rattle.ysymbols.specs.Grammar.{ContextFree, left_of, body_of, IsToken}

-- The rule s : b is one of the rules.
pub record IsRule (g : ContextFree) (s : ℕ) (b : List ℕ) : Type 0 where
  pub number : ℕ
  pub within : number < length g.rules
  pub left : s ≡ left_of g number
  pub body : b ≡ body_of g number

-- The form x derives the empty form.
abbrev pub Nullable : ContextFree → List ℕ → Type 0
Nullable g x = Derives (IsRule g) x []

-- The marks are those of the symbols that derive the empty form.
pub record MarksNullable (g : ContextFree) (marks : List Bool) : Type 0 where
  pub each : length marks ≡ g.symbols
  pub exact : (s : ℕ) → s < g.symbols →
      (slice_index_or marks s false ≡ true) ↔ Nullable g (s ∷ [])

-- The form x derives a form that begins with the token t.
pub record First (g : ContextFree) (x : List ℕ) (t : ℕ) : Type 0 where
  pub token : IsToken g t
  pub rest : List ℕ
  pub derives : Derives (IsRule g) x (t ∷ rest)

-- The symbol s derives a list of tokens.
pub record Productive (g : ContextFree) (s : ℕ) : Type 0 where
  pub word : List ℕ
  pub tokens : All (IsToken g) word
  pub derives : Derives (IsRule g) (s ∷ []) word

-- The symbols that can be reached: the first left side, and the symbols of the bodies of those
-- that can.
pub data IsReachable (g : ContextFree) : ℕ → Type 0 where
  first : IsReachable g (left_of g 0)
  further : {r s : ℕ} → r < length g.rules → IsReachable g (left_of g r) →
      Contains (body_of g r) s → IsReachable g s

-- the last of x and the forms listed
abbrev pub last_of : List ℕ → List (List ℕ) → List ℕ
last_of x [] = x
last_of x (y ∷ more) = last_of y more

-- x and then the forms listed, each made from the one before by one replacement
abbrev pub IsRun : ContextFree → List ℕ → List (List ℕ) → Type 0
IsRun g x [] = Unit {0}
IsRun g x (y ∷ more) = Replaces (IsRule g) x y × IsRun g y more

-- such a run, in which only tokens stand after each replaced nonterminal
abbrev pub IsRightmostRun : ContextFree → List ℕ → List (List ℕ) → Type 0
IsRightmostRun g x [] = Unit {0}
IsRightmostRun g x (y ∷ more) = ((s : Replaces (IsRule g) x y) × All (IsToken g) s.after)
    × IsRightmostRun g y more

-- A run of forms and `Derives` say the same.
pub derives_from_run : (g : ContextFree) (x : List ℕ) (more : List (List ℕ)) → IsRun g x more →
    Derives (IsRule g) x (last_of x more)
derives_from_run g x [] h = done
derives_from_run g x (y ∷ more) h = step h.0 (derives_from_run g y more h.1)

pub run_from_derives : {g : ContextFree} {x y : List ℕ} → Derives (IsRule g) x y →
    (more : List (List ℕ)) × IsRun g x more × (last_of x more ≡ y)
run_from_derives done = ([], tt, refl)
run_from_derives (step {y = y} s d) =
    let r = run_from_derives d in
    (y ∷ r.0, (s, r.1), r.2)

pub run_from_rightmost : (g : ContextFree) (x : List ℕ) (more : List (List ℕ)) →
    IsRightmostRun g x more → IsRun g x more
run_from_rightmost g x [] h = tt
run_from_rightmost g x (y ∷ more) h = (h.0.0, run_from_rightmost g y more h.1)
