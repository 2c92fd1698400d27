-- Lookaheads that are not complete yet: what rows have from the start, and the links along which
-- they give.
use Rattle.std.specs.Prelude.{ℕ, suc, ◌≡◌, ◌≢◌, ◌<◌, List, ◌∷◌, length, drop, All, Option, Some}
use Rattle.ysymbols.specs.Grammar.{left_of, body_of, end_token}
use Rattle.ylalr.specs.declared.items.Item.{Item}
use Rattle.ylalr.specs.declared.looks.Lr0.{Lr0}
use Rattle.ylalr.specs.declared.looks.Here.{Here}
use Rattle.ylalr.specs.Gotos.{goto_of}
use Rattle.ybitsets.specs.Marks.{Has}
use Rattle.ybitsets.specs.Rows.{BitRows, Holds, Grows, IsSized}
use Rattle.ybitsets.specs.Links.{AreLinks, Link}
use Rattle.ylalr.specs.ItemRows.{AreLefts, IsRowOf, rows_at}
use Rattle.ylalr.specs.Sets.{Moves, step_of}
use Rattle.ylalr.specs.States.{set_at}
use Rattle.ylalr.specs.Behind.{FormHas}
use Rattle.ylalr.specs.Looks.{Spread, SoundLooks, StartLooks}

-- rows of lookaheads, and the links along which they are to give
pub record DraftValue : Type 0 where
  pub looks : BitRows
  pub links : List (List ℕ)

-- what stands after the symbol after the dot
abbrev pub form_of : Lr0 → Item → List ℕ
form_of P i = drop (suc i.dot) (body_of P.grammar.bare i.rule)

-- p is the row of the item i of state q
abbrev pub RowIn : Lr0 → ℕ → Item → ℕ → Type 0
RowIn P q i p = IsRowOf P.states P.item_rows q i p

-- the row that is given is that of the item
abbrev pub IsHere : Lr0 → Here → Type 0
IsHere P h = IsRowOf P.states P.item_rows h.state h.item h.row

-- the rows of the left sides of state q
abbrev pub LeftsIn : Lr0 → ℕ → List (Option ℕ) → Type 0
LeftsIn P q lefts = AreLefts P.grammar.bare (set_at P.states.closures q) (rows_at P.item_rows q) lefts

-- the rules of lookaheads give the token a to the item i of state q
abbrev pub SpreadIn : Lr0 → ℕ → Item → ℕ → Type 0
SpreadIn P q i a = Spread P.grammar.bare (goto_of P.gotos) q i.rule i.dot a

-- all lookaheads of an item of row p are those of each item of row t
pub record Carries (P : Lr0) (p t : ℕ) : Type 0 where
  pub state : ℕ
  pub item : Item
  pub place : RowIn P state item p
  pub on : (n : ℕ) (k : Item) (a : ℕ) → RowIn P n k t → SpreadIn P state item a → SpreadIn P n k a

-- the rows and links give lookaheads alone
pub record SoundDraft (P : Lr0) (d : DraftValue) : Type 0 where
  pub sized : IsSized P.item_rows.total P.grammar.bare.tokens d.looks
  pub links : AreLinks P.item_rows.total d.links
  pub looks : SoundLooks P.grammar.bare (goto_of P.gotos) P.states P.item_rows d.looks
  pub carried : (p t : ℕ) → Link d.links p t → Carries P p t

-- rows and links were only added
pub record Further (d e : DraftValue) : Type 0 where
  pub looks : Grows d.looks e.looks
  pub links : (p t : ℕ) → Link d.links p t → Link e.links p t

-- row t has what the form y begins with, and what row p has if y vanishes
pub record GivesForm (P : Lr0) (d : DraftValue) (y : List ℕ) (p t : ℕ) : Type 0 where
  pub begun : (b : ℕ) → FormHas P.nullable P.first y b → Holds d.looks t b
  pub linked : All (Has P.nullable) y → Link d.links p t

-- the closure rule is kept from the item i of state q, with the row p
abbrev pub OpensAt : Lr0 → DraftValue → ℕ → Item → ℕ → Type 0
OpensAt P d q i p =
    (n t : ℕ) (y : List ℕ) → drop i.dot (body_of P.grammar.bare i.rule) ≡ left_of P.grammar.bare n ∷
    y → RowIn P q (record { rule = n; dot = 0 }) t → GivesForm P d y p t

-- the goto rule is kept from that item
abbrev pub ShiftsAt : Lr0 → DraftValue → ℕ → Item → ℕ → Type 0
ShiftsAt P d q i p =
    (x n t : ℕ) (y : List ℕ) → drop i.dot (body_of P.grammar.bare i.rule) ≡ x ∷ y → x ≢ end_token →
    goto_of P.gotos q x ≡ Some n → RowIn P n (step_of i) t → Link d.links p t

-- both rules are kept from that item
pub record ServesAt (P : Lr0) (d : DraftValue) (q : ℕ) (i : Item) (p : ℕ) : Type 0 where
  pub opens : OpensAt P d q i p
  pub shifts : ShiftsAt P d q i p

-- both rules are kept from each item of state q
abbrev pub ServesState : Lr0 → DraftValue → ℕ → Type 0
ServesState P d q = (i : Item) (p : ℕ) → RowIn P q i p → ServesAt P d q i p

-- t is the row of the item with its dot moved, in the state to which the symbol after the dot leads
pub record IsMoved (P : Lr0) (h : Here) (t : ℕ) : Type 0 where
  pub symbol : ℕ
  pub target : ℕ
  pub moves : Moves P.grammar.bare h.item symbol
  pub leads : goto_of P.gotos h.state symbol ≡ Some target
  pub place : RowIn P target (step_of h.item) t

-- the first item has the end token
abbrev pub StartsDraft : Lr0 → DraftValue → Type 0
StartsDraft P d = StartLooks P.states P.item_rows d.looks

-- the closure rule and the goto rule are kept from each item
abbrev pub ServesAll : Lr0 → DraftValue → Type 0
ServesAll P d = (q : ℕ) → q < length P.states.closures → ServesState P d q
