-- The machine of tables without a choice says whatever a valid item of a stack allows.
use Rattle.std.proofs.Common.{ℕ, ◌≡◌, ◌<◌, ◌&&◌, nat_lt, List, reverse}
use Rattle.std.proofs.Common.{◌∙◌, ap, Option, Some, None, length, if◌then◌else◌}
use Rattle.std.proofs.lemmas.Bool.{lt-ltb}
use Rattle.ysymbols.specs.Grammar.{ContextFree, IsToken, end_token}
use Rattle.ysymbols.specs.WellFormed.{WellFormed}
use Rattle.ylalr.specs.declared.items.Item.{Item}
use Rattle.ylalr.specs.Items.{Valid, InCore, IsCore}
use Rattle.ylalr.specs.Collection.{HasStates, bare_of, state_of}
use Rattle.ylalr.proofs.Fruitful.{valid_token}
use Rattle.ytables.specs.declared.cell.Action.TheVariants as actions
use Rattle.ytables.specs.Allowed.{complete_of, accept_item}
use Rattle.ytables.specs.Had.{CellsHave}
use Rattle.ytables.specs.Tables.{TablesValue as Tables, action_at}
use Rattle.ymachine.specs.Cells.{Expects, Ends}
use Rattle.ymachine.specs.Complete.{IsComplete}
use Rattle.ymachine.specs.Machine.{Move, Shift, Reduce, Accept}
use Rattle.ymachine.specs.MachineOver.{move_of, machine_over}
use Rattle.ymachine.specs.Tables.{cell_at, cell_in, state_after}
use Rattle.ymachine.proofs.Machines.{LeadsIn, leads}

module _ (t : Tables) (w : WellFormed (bare_of t.built)) (s : HasStates t.built) (c : CellsHave t)
  where
    abbrev g : ContextFree
    g = bare_of t.built

    -- in range, the cell is the tables' action
    in_range : (q token : ℕ) → q < length t.built.states → IsToken g token
        → cell_at t q token ≡ action_at t q token
    in_range q token h l =
        ap (λ b. if b && nat_lt token g.tokens then action_at t q token else actions.Error)
        (lt-ltb q (length t.built.states) h)
        ∙ ap (λ b. if b then action_at t q token else actions.Error) (lt-ltb token g.tokens l)

    -- the item is in the core of the prefix's state, and what that state's cell says is the move
    abbrev Found : List ℕ → Option ℕ → ℕ → Item → Move → Type 0
    Found p o token i move =
        ((q : ℕ) → q < length t.built.states → IsCore g p (state_of t.built q)
        → move_of (action_at t q token) ≡ move) → move_of (cell_in t o token) ≡ move

    found : (p : List ℕ) (o : Option ℕ) (token : ℕ) (i : Item) (move : Move) → LeadsIn t p o
        → InCore g p i → IsToken g token → Found p o token i move
    found p None token i move h v l e = absurd (h i v)
    found p (Some q) token i move h v l e =
        ap move_of (in_range q token h.0 l) ∙ e q h.0 h.1

    found_at : (stack : List ℕ) (token : ℕ) (i : Item) (move : Move) → InCore g (reverse stack) i
        → IsToken g token → Found (reverse stack) (state_after t stack) token i move
    found_at stack token i move v l =
        found (reverse stack) (state_after t stack) token i move (leads t w s stack) v l

    at_shift : (stack : List ℕ) (token : ℕ) → IsToken g token → Expects g (reverse stack) token
        → move_of (cell_in t (state_after t stack) token) ≡ Shift
    at_shift stack token l x =
        let i : Item = record { rule = x.rule; dot = x.dot } in
        found_at stack token i Shift (x.ahead, x.valid) l (λ q h k. ap move_of
        (c.shift q token h l (i, (k i).1 (x.ahead, x.valid), (x.rest, x.next), x.inside)).1)

    at_reduce : (stack : List ℕ) (r a : ℕ) → Ends g (reverse stack) r a
        → move_of (cell_in t (state_after t stack) a) ≡ Reduce r
    at_reduce stack r a e =
        let l : IsToken g a = valid_token w e.1 in
        found_at stack a (complete_of g r) (Reduce r) (a, e.1) l (λ q h k. ap move_of
        (c.reduce q r a h l e.0 (record { prefix = reverse stack; core = k; valid = e.1 })))

    at_accept : (stack : List ℕ) (a : ℕ) → Valid g (reverse stack) 0 1 a
        → move_of (cell_in t (state_after t stack) end_token) ≡ Accept
    at_accept stack a v =
        found_at stack end_token accept_item Accept (a, v) w.ends (λ q h k. ap move_of
        (c.accept q h ((k accept_item).1 (a, v))))

    pub complete_machine : IsComplete g (machine_over t)
    unfolding machine_over
    complete_machine = record { shift = at_shift; reduce = at_reduce; accept = at_accept }
