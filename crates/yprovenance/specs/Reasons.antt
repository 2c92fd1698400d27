-- Why a token is a lookahead of an item in a state (Aho, Sethi, Ullman, section 4.7): the closure
-- rule and the goto rule, one after another, from the item that has the token first.
use Rattle.std.specs.Prelude.{ℕ, suc, ◌≡◌, ◌≢◌, ◌<◌, List, [], ◌∷◌, ◌++◌, length, drop, Some}
use Rattle.std.specs.List.{Contains}
use Rattle.ysymbols.specs.Grammar.{left_of, body_of, end_token}
use Rattle.ysymbols.specs.Forms.{Nullable, First}
use Rattle.ylalr.specs.declared.items.Item.{Item}
use Rattle.ylalr.specs.Collection.{Collection, bare_of, state_of, goto_in}
use Rattle.yprovenance.specs.declared.reason.Place.{Place}
use Rattle.yprovenance.specs.declared.reason.Cause.{Cause}
use Rattle.yprovenance.specs.declared.reason.Cause.TheVariants.{Starts, Begins, Passes, Moves}
use Rattle.yprovenance.specs.declared.reason.Reason.{Reason}

-- the item of rule r with the dot at d, in state q
abbrev pub place_of : ℕ → ℕ → ℕ → Place
place_of q r d = record { state = q; item = record { rule = r; dot = d } }

-- state q has the item k, with the left side of rule s after its dot, and then the form y
pub record Opens (m : Collection) (q : ℕ) (k : Item) (s : ℕ) (y : List ℕ) : Type 0 where
  pub there : Contains (state_of m q) k
  pub next : drop k.dot (body_of (bare_of m) k.rule) ≡ left_of (bare_of m) s ∷ y
  pub rule : s < length (bare_of m).rules

-- the item there has the token a of itself: the item before the whole input the end, and an item
-- that the closure adds what the form after its left side can begin with
pub data Has (m : Collection) (a : ℕ) : Place → Cause → Type 0 where
  starts : a ≡ end_token → Has m a (place_of 0 0 0) Starts
  begins : {q s : ℕ} {k : Item} {y : List ℕ} → Opens m q k s y → First (bare_of m) y a →
      Has m a (place_of q s 0) (Begins k)

-- the first place gives each lookahead of its item to the item of the second: by the closure, where
-- the form after the left side is nullable, or by the goto
pub data Gives (m : Collection) : Place → Place → Cause → Type 0 where
  passes : {q s r d : ℕ} {y : List ℕ} → Opens m q (record { rule = r; dot = d }) s y →
      Nullable (bare_of m) y → Gives m (place_of q r d) (place_of q s 0) Passes
  moves : {q n r d x : ℕ} {y : List ℕ} → Contains (state_of m q) (record { rule = r; dot = d }) →
      drop d (body_of (bare_of m) r) ≡ x ∷ y → x ≢ end_token → goto_in m q x ≡ Some n →
      Gives m (place_of q r d) (place_of n r (suc d)) Moves

-- a chain of reasons why the token a is a lookahead at the place: the first has it of itself, and
-- each gives it to the next
pub data IsChain (m : Collection) (a : ℕ) : Place → List Reason → Type 0 where
  source : {p : Place} {c : Cause} → Has m a p c →
      IsChain m a p (record { place = p; cause = c } ∷ [])
  further : {p v : Place} {c : Cause} {more : List Reason} → IsChain m a p more → Gives m p v c →
      IsChain m a v (more ++ record { place = v; cause = c } ∷ [])
