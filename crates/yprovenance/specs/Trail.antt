-- The places that a search came to, and the states that lead to a state.
use Rattle.std.specs.Prelude.{ℕ, ◌≡◌, ◌<◌, ◌⊎◌, List, [], ◌∷◌, ◌++◌, length, map, drop, Some}
use Rattle.std.specs.Prelude.{slice_index_or}
use Rattle.std.specs.List.{Contains}
use Rattle.ysymbols.specs.Grammar.{left_of, body_of}
use Rattle.ysymbols.specs.Forms.{Nullable, First}
use Rattle.ylalr.specs.declared.items.Item.{Item}
use Rattle.ylalr.specs.Collection.{Collection, bare_of, state_of, goto_in}
use Rattle.ybitsets.specs.Links.{AreLinks, Link}
use Rattle.yprovenance.specs.declared.reason.Place.{Place}
use Rattle.yprovenance.specs.declared.reason.Cause.{Cause}
use Rattle.yprovenance.specs.declared.reason.Cause.TheVariants.{Starts}
use Rattle.yprovenance.specs.declared.trail.Entry.{Entry}
use Rattle.yprovenance.specs.Reasons.{Has, Gives, place_of}

-- an entry that no search makes
abbrev pub blank_entry : Entry
blank_entry = record { place = place_of 0 0 0; cause = Starts; gives = 0 }

-- the entry of this number
abbrev pub entry_at : List Entry → ℕ → Entry
entry_at l k = slice_index_or l k blank_entry

-- the places of the entries
abbrev pub places_of : List Entry → List Place
places_of l = map (λ (e : Entry). e.place) l

-- each entry but the first gives to an earlier one
abbrev pub GivesBack : List Entry → Type 0
GivesBack l = (k : ℕ) → 0 < k → k < length l → (entry_at l k).gives < k

-- the entry was added, or its place was there
abbrev pub Puts : List Entry → Entry → List Entry → Type 0
Puts old e new = ((new ≡ old) × Contains (places_of old) e.place) ⊎ (new ≡ old ++ e ∷ [])

-- entries were only added, at the end
abbrev pub Extends : List Entry → List Entry → Type 0
Extends old new = (more : List Entry) × (new ≡ old ++ more)

-- a state of the collection, and one of its items
pub record IsPlace (m : Collection) (p : Place) : Type 0 where
  pub state : p.state < length m.states
  pub item : Contains (state_of m p.state) p.item

-- each entry but the first gives to the one that it names
pub record IsTrail (m : Collection) (l : List Entry) : Type 0 where
  pub some : 0 < length l
  pub places : (k : ℕ) → k < length l → IsPlace m (entry_at l k).place
  pub gives : (k : ℕ) → 0 < k → k < length l → ((entry_at l k).gives < k) ×
      Gives m (entry_at l k).place (entry_at l (entry_at l k).gives).place (entry_at l k).cause

-- the place doesn't have the token of itself, and all that give to it are among the places
pub record IsVisited (m : Collection) (a : ℕ) (l : List Entry) (v : Place) : Type 0 where
  pub none : (c : Cause) → Has m a v c → ⊥
  pub every : (p : Place) (c : Cause) → Gives m p v c → Contains (places_of l) p

-- the item i of the same state, where the left side of v stands after its dot: the token can't come
-- after that, and where nothing has to come there, i is among the places
pub record IsTried (m : Collection) (a : ℕ) (l : List Entry) (v : Place) (i : Item) : Type 0 where
  pub none : (y : List ℕ) → drop i.dot (body_of (bare_of m) i.rule) ≡ left_of (bare_of m) v.item.rule
      ∷ y → First (bare_of m) y a → ⊥
  pub every : (y : List ℕ) → drop i.dot (body_of (bare_of m) i.rule) ≡ left_of (bare_of m)
      v.item.rule ∷ y → Nullable (bare_of m) y →
      Contains (places_of l) (record { state = v.state; item = i })

-- state q is listed with each state that a goto from it leads to
abbrev pub IsListed : Collection → List (List ℕ) → ℕ → Type 0
IsListed m l q = (n x : ℕ) (i : Item) (y : List ℕ) → Contains (state_of m q) i →
    drop i.dot (body_of (bare_of m) i.rule) ≡ x ∷ y → goto_in m q x ≡ Some n → Link l n q

-- for each state, those of which a goto leads to it
pub record AreBefore (m : Collection) (l : List (List ℕ)) : Type 0 where
  pub links : AreLinks (length m.states) l
  pub every : (q : ℕ) → q < length m.states → IsListed m l q
