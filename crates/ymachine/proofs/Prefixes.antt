-- What a valid item says of its prefix: the symbols before its dot stand at the end, and what
-- expected them is valid for what stands before (Aho, Sethi and Ullman, 4.7).
use Rattle.std.proofs.Common.{ℕ, zero, suc, ◌≡◌, ◌≢◌, ◌<◌, ◌≤◌, List, [], ◌∷◌, ◌++◌, length, take}
use Rattle.std.proofs.Common.{drop, reverse, refl, sym, ◌∙◌, ap, subst, append_assoc, arith}
use Rattle.std.specs.List.{All}
use Rattle.std.proofs.lemmas.List.Elements.{All-head, All-drop}
use Rattle.std.proofs.lemmas.List.{append-nil, reverse-append, take_all}
use Rattle.ysymbols.specs.Grammar.{ContextFree, left_of, body_of, start_of}
use Rattle.ysymbols.specs.WellFormed.{WellFormed}
use Rattle.ylalr.specs.Items.{Valid, start, closure, move}
use Rattle.ymachine.specs.Cells.{Expects, Ends}

pub reverse_cons : (x : ℕ) (p : List ℕ) → reverse (x ∷ p) ≡ reverse p ++ x ∷ []
reverse_cons x p = reverse-append (x ∷ []) p

pub reverse_push : (p : List ℕ) (x : ℕ) → reverse (p ++ x ∷ []) ≡ x ∷ reverse p
reverse_push p x = reverse-append p (x ∷ [])

pub record After (xs : List ℕ) (d x : ℕ) (y : List ℕ) : Type 0 where
  pub rest : drop (suc d) xs ≡ y
  pub within : suc d ≤ length xs
  pub taken : take (suc d) xs ≡ take d xs ++ x ∷ []

-- the dot one place further
pub after : (xs : List ℕ) (d x : ℕ) (y : List ℕ) → drop d xs ≡ x ∷ y → After xs d x y
after [] zero x y e = absurd (let l : 0 ≡ suc (length y) = ap length e in omega arith)
after [] (suc d) x y e = absurd (let l : 0 ≡ suc (length y) = ap length e in omega arith)
after (z ∷ xs) zero x y e = record {
  rest = ap (drop 1) e;
  within = omega arith;
  taken =
      ap (take 1) e;
}
after (z ∷ xs) (suc d) x y e =
    let a = after xs d x y e in
    record {
      rest = a.rest;
      within = (let l = a.within in omega arith);
      taken =
          ap (λ t. z ∷ t) a.taken;
    }

-- a valid item is one of the grammar's
pub rule_within : {g : ContextFree} {p : List ℕ} {r d a : ℕ} → WellFormed g → Valid g p r d a
    → r < length g.rules
rule_within w start = w.some
rule_within w (closure v e h f) = h
rule_within w (move v e h) = rule_within w v

-- The symbols before the dot are the last of the prefix, and the item begins at what stands before
-- them.
pub record Behind (g : ContextFree) (p : List ℕ) (r d a : ℕ) : Type 0 where
  pub below : List ℕ
  pub parts : reverse p ≡ reverse below ++ take d (body_of g r)
  pub valid : Valid g below r 0 a

pub behind : {g : ContextFree} {p : List ℕ} {r d a : ℕ} → Valid g p r d a → Behind g p r d a
behind start = record { below = []; parts = refl; valid = start }
behind {p = p} (closure v e h f) =
    record { below = p; parts = sym (append-nil (reverse p)); valid = closure v e h f }
behind {g = g} (move {p = p} {r = r} {d = d} {x = x} {y = y} v e h) =
    let b = behind v in
    let t = (after (body_of g r) d x y e).taken in
    record {
      below = b.below;
      parts = reverse_cons x p ∙ (ap (λ z. z ++ x ∷ []) b.parts
          ∙ (append_assoc (reverse b.below) (take d (body_of g r)) (x ∷ [])
          ∙ ap (λ z. reverse b.below ++ z) (sym t)));
      valid = b.valid;
    }

-- a new item comes from one that expects its left side
pub origin : {g : ContextFree} {p : List ℕ} {r d a : ℕ} → WellFormed g → Valid g p r d a → d ≡ 0
    → r ≢ 0 → Expects g p (left_of g r)
origin w start z n = absurd (n refl)
origin {g = g} w (closure {r = r} {d = d} {a = a} {s = s} {y = y} v e h f) z n =
    record {
      rule = r;
      dot = d;
      ahead = a;
      rest = y;
      valid = v;
      next = e;
      inside = λ i. let l =
          w.nonterminal s h in let k = w.ends in omega arith;
    }
origin w (move v e h) z n = absurd (omega arith)

pub expected : {g : ContextFree} {p : List ℕ} {x : ℕ} (e : Expects g p x)
    → Valid g (x ∷ p) e.rule (suc e.dot) e.ahead
expected e = move e.valid e.next e.inside

-- some item is valid
pub record Viable (g : ContextFree) (p : List ℕ) : Type 0 where
  pub rule : ℕ
  pub dot : ℕ
  pub ahead : ℕ
  pub valid : Valid g p rule dot ahead

pub viable : {g : ContextFree} {p : List ℕ} {r d a : ℕ} → Valid g p r d a → Viable g p
viable {r = r} {d = d} {a = a} v = record { rule = r; dot = d; ahead = a; valid = v }

pub viable_expected : {g : ContextFree} {p : List ℕ} {x : ℕ} → Expects g p x → Viable g (x ∷ p)
viable_expected e = viable (expected e)

-- what the last symbol of a prefix was expected by
pub expects_last : {g : ContextFree} {x : ℕ} {p : List ℕ} {r d a : ℕ} → Valid g (x ∷ p) r d a
    → Expects g p x
expects_last (closure v e h f) = expects_last v
expects_last (move {r = r} {d = d} {a = a} {y = y} v e h) =
    record { rule = r; dot = d; ahead = a; rest = y; valid = v; next = e; inside = h }

-- an expected symbol is one of the grammar's
pub expects_symbol : {g : ContextFree} {p : List ℕ} {x : ℕ} → WellFormed g → Expects g p x
    → x < g.symbols
expects_symbol {g = g} {x = x} w e =
    let all : All (λ s. s < g.symbols) (x ∷ e.rest) =
    subst (All (λ s. s < g.symbols)) e.next
    (All-drop (λ s. s < g.symbols) e.dot (body_of g e.rule)
    (w.body e.rule (rule_within w e.valid))) in
    All-head (λ s. s < g.symbols) x e.rest all

-- the first rule begins nowhere else
pub zero_at_start : {g : ContextFree} {p : List ℕ} {r d a : ℕ} → WellFormed g → Valid g p r d a
    → r ≡ 0 → d ≡ 0 → p ≡ []
zero_at_start w start z e = refl
zero_at_start {g = g} w (closure {r = r} {d = d} {s = s} {y = y} v e h f) z k =
    let all : All (λ x. x ≢ left_of g 0) (left_of g s ∷ y) =
    subst (All (λ x. x ≢ left_of g 0)) e
    (All-drop (λ x. x ≢ left_of g 0) d (body_of g r) (w.alone r (rule_within w v))) in
    absurd (All-head (λ x. x ≢ left_of g 0) (left_of g s) y all (ap (left_of g) z))
zero_at_start w (move v e h) z k = absurd (omega arith)

-- the first rule's dot after its first symbol: the prefix is that symbol
pub at_accept : {g : ContextFree} {p : List ℕ} {a : ℕ} (w : WellFormed g) → Valid g p 0 1 a
    → reverse p ≡ start_of g ∷ []
at_accept {g = g} w v =
    let b = behind v in
    let e : b.below ≡ [] = zero_at_start w b.valid refl refl in
    b.parts ∙ (ap (λ z. reverse z ++ take 1 (body_of g 0)) e ∙ ap (take 1) w.first)

-- What a reduction finds: its body on top, and a goto for its left side.
pub record Handle (g : ContextFree) (p : List ℕ) (r : ℕ) : Type 0 where
  pub below : List ℕ
  pub parts : reverse p ≡ reverse below ++ body_of g r
  pub goto : Expects g below (left_of g r)
  pub within : r < length g.rules

pub handle : {g : ContextFree} {p : List ℕ} {r a : ℕ} → WellFormed g → Ends g p r a → Handle g p r
handle {g = g} {r = r} w e =
    let b = behind e.1 in
    record {
      below = b.below;
      parts = b.parts ∙ ap (λ z. reverse b.below ++ z)
          (take_all (length (body_of g r)) (body_of g r) (omega arith));
      goto = origin w b.valid refl e.0;
      within = rule_within w e.1;
    }
