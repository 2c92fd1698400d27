-- Where each nonterminal is productive, every item of a core has a lookahead: cores are the closed
-- sets of items.
use Rattle.std.proofs.Common.{ℕ, ◌≡◌, ◌<◌, ◌≤◌, List, [], ◌∷◌, ◌++◌, length, drop, subst, inl, inr}
use Rattle.std.proofs.Common.{◌⊎◌}
use Rattle.std.specs.List.{All}
use Rattle.std.proofs.lemmas.List.Elements.{All-head, All-tail, All-drop, All-weaker}
use Rattle.ysymbols.specs.Derivation.{Derives}
use Rattle.ysymbols.specs.Grammar.{ContextFree, left_of, body_of, IsToken, end_token}
use Rattle.ysymbols.specs.Forms.{IsRule, First, Productive}
use Rattle.ylalr.specs.Items.{Valid, start, closure, move}
use Rattle.ysymbols.specs.WellFormed.{WellFormed}
use Rattle.ysymbols.proofs.Derivations.{within, token_productive, words}
use Rattle.ylalr.specs.Sets.{Closure, given, opened, Kernel, moved, Begin, begin}
use Rattle.ylalr.proofs.Live.{Live}
use Rattle.std.proofs.lemmas.Bool.{cases_lt}

symbol_productive : (g : ContextFree) → WellFormed g → (s : ℕ) → s < g.symbols →
    (s < g.tokens) ⊎ (g.tokens ≤ s) → Productive g s
symbol_productive g w s h (inl t) = token_productive g s t
symbol_productive g w s h (inr t) = w.productive s t h

front : (g : ContextFree) (x : List ℕ) (a : ℕ) (w : List ℕ) → All (IsToken g) w → IsToken g a →
    Derives (IsRule g) x (w ++ a ∷ []) → (b : ℕ) × First g x b
front g x a [] h k d = (a, record { token = k; rest = []; derives = d })
front g x a (b ∷ w) h k d =
    (b, record { token = All-head (IsToken g) b w h; rest = w ++ a ∷ []; derives = d })

-- some token stands first in y a
pub some_first : (g : ContextFree) → WellFormed g → (y : List ℕ) (a : ℕ) →
    All (λ s. s < g.symbols) y → IsToken g a → (b : ℕ) × First g (y ++ a ∷ []) b
some_first g w y a h k =
    let v = words g y (All-weaker (λ s. s < g.symbols) (Productive g)
    (λ s k. symbol_productive g w s k (cases_lt s g.tokens)) y h) in
    front g (y ++ a ∷ []) a v.word v.tokens k (within [] (a ∷ []) v.derives)

pub valid_token : {g : ContextFree} {p : List ℕ} {r d a : ℕ} → WellFormed g → Valid g p r d a →
    IsToken g a
valid_token w start = w.ends
valid_token w (closure v e h f) = f.token
valid_token w (move v e h) = valid_token w v

pub valid_rule : {g : ContextFree} {p : List ℕ} {r d a : ℕ} → WellFormed g → Valid g p r d a →
    r < length g.rules
valid_rule w start = w.some
valid_rule w (closure v e h f) = h
valid_rule w (move v e h) = valid_rule w v

after_dot : (g : ContextFree) → WellFormed g → (r d s : ℕ) (y : List ℕ) → r < length g.rules →
    drop d (body_of g r) ≡ s ∷ y → All (λ s. s < g.symbols) y
after_dot g w r d s y h e =
    let P : ℕ → Type 0 = λ s. s < g.symbols in
    All-tail P s y (subst (All P) e (All-drop P d (body_of g r) (w.body r h)))

opens : (g : ContextFree) → WellFormed g → (p : List ℕ) (r d s : ℕ) (y : List ℕ) →
    (a : ℕ) × Valid g p r d a → drop d (body_of g r) ≡ left_of g s ∷ y → s < length g.rules →
    (b : ℕ) × Valid g p s 0 b
opens g w p r d s y v e h =
    let f = some_first g w y v.0 (after_dot g w r d (left_of g s) y (valid_rule w v.1) e)
    (valid_token w v.1) in
    (f.0, closure v.1 e h f.1)

begins_valid : {g : ContextFree} {r d : ℕ} → WellFormed g → Closure g Begin r d →
    (a : ℕ) × Valid g [] r d a
begins_valid w (given begin) = (end_token, start)
begins_valid {g = g} w (opened {r = r} {d = d} {s = s} {y = y} c e h) = opens g w [] r d s y
    (begins_valid w c) e h

moves_valid : {g : ContextFree} {p : List ℕ} {x r d : ℕ} → WellFormed g →
    ((r d : ℕ) → Live g p r d → (a : ℕ) × Valid g p r d a) → Closure g (Kernel g (Live g p) x) r d →
    (a : ℕ) × Valid g (x ∷ p) r d a
moves_valid w f (given (moved {r = r} {d = d} l e h)) = let v = f r d l in (v.0, move v.1 e h)
moves_valid {g = g} {p = p} {x = x} w f (opened {r = r} {d = d} {s = s} {y = y} c e h) =
    opens g w (x ∷ p) r d s y (moves_valid w f c) e h

pub valid_from_live : (g : ContextFree) → WellFormed g → (p : List ℕ) (r d : ℕ) → Live g p r d →
    (a : ℕ) × Valid g p r d a
valid_from_live g w [] r d l = begins_valid w l
valid_from_live g w (x ∷ p) r d l = moves_valid w (valid_from_live g w p) l
