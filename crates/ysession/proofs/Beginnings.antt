-- What was shifted before an error begins a sentence (Aho, Sethi and Ullman, 4.7, the viable prefix
-- property).
use Rattle.std.proofs.Common.{ℕ, suc, ◌≡◌, ◌≢◌, ◌<◌, ◌≤◌, List, [], ◌∷◌, ◌++◌, drop, reverse}
use Rattle.std.proofs.Common.{refl, sym, ◌∙◌, ap, subst, append_assoc, append-nil, inl, inr, ◌⊎◌}
use Rattle.std.proofs.Common.{arith}
use Rattle.std.specs.List.{All}
use Rattle.std.proofs.lemmas.List.Elements.{All-nil, All-head, All-tail, All-append, All-drop}
use Rattle.std.proofs.lemmas.List.{reverse-reverse}
use Rattle.ysymbols.specs.Grammar.{ContextFree, left_of, body_of, IsToken, end_token, start_of}
use Rattle.ysymbols.specs.Derivation.{Derives, done}
use Rattle.ysymbols.specs.Forms.{IsRule}
use Rattle.ysymbols.specs.WellFormed.{WellFormed}
use Rattle.ysymbols.proofs.Derivations.{trans, replaced, rule_is}
use Rattle.ylalr.specs.Items.{Valid, start, closure, move}
use Rattle.ymachine.specs.declared.machine.StepKind.{StepKind}
use Rattle.ymachine.specs.Machine.{Machine, Configuration, symbols, lookahead}
use Rattle.ymachine.specs.History.{first_configuration}
use Rattle.ymachine.specs.Cells.{IsSound}
use Rattle.ymachine.proofs.Prefixes.{reverse_cons, reverse_push, rule_within, after, Viable, viable}
use Rattle.ymachine.proofs.Prefixes.{viable_expected}
use Rattle.ymachine.proofs.Unwindings.{found}
use Rattle.ysession.specs.Sentences.{IsSentence, BeginsSentence}
use Rattle.ysession.proofs.Yields.{all_front, all_middle, Cut, cut, Yields, none, token, rule}
use Rattle.ysession.proofs.Yields.{Split}
use Rattle.ysession.proofs.Yields.{yields_tokens, yields_append, yields_split, yields_token}
use Rattle.ysession.proofs.Yields.{yields_from_derives, yields_derived, derives_from_yields}
use Rattle.ysession.proofs.Quiet.{Plain, plain_shift, plain_reduce, plain_accept, plain_fail}
use Rattle.ysession.proofs.Quiet.{PlainTo}
use Rattle.ysession.proofs.Shifted.{Shifted, shifted_on}

abbrev known : ContextFree → ℕ → Type 0
known g s = s < g.symbols

-- The front is the beginning of a form that the first rule's body derives.
record Extends (g : ContextFree) (front : List ℕ) : Type 0 where
  pub rest : List ℕ
  pub derives : Derives (IsRule g) (body_of g 0) (front ++ rest)
  pub known : All (λ s. s < g.symbols) rest

-- a valid item's prefix, and what stands after its dot, begin such a form
extends_valid : {g : ContextFree} {p : List ℕ} {r d a : ℕ} → WellFormed g → Valid g p r d a
    → Extends g (reverse p ++ drop d (body_of g r))
extends_valid {g = g} w start = record {
  rest = [];
  derives = subst (Derives (IsRule g) (body_of g 0)) (sym (append-nil (body_of g 0))) done;
  known = All-nil (known g);
}
extends_valid {g = g} {p = p} w (closure {r = r} {d = d} {s = s} {y = y} v e h f) =
    let x = extends_valid w v in
    let i : (reverse p ++ drop d (body_of g r)) ++ x.rest
    ≡ reverse p ++ left_of g s ∷ (y ++ x.rest) =
    append_assoc (reverse p) (drop d (body_of g r)) x.rest
    ∙ ap (λ z. reverse p ++ (z ++ x.rest)) e in
    let j : reverse p ++ (body_of g s ++ (y ++ x.rest))
    ≡ (reverse p ++ body_of g s) ++ (y ++ x.rest) =
    sym (append_assoc (reverse p) (body_of g s) (y ++ x.rest)) in
    let t : Derives (IsRule g) (reverse p ++ left_of g s ∷ (y ++ x.rest))
    (reverse p ++ (body_of g s ++ (y ++ x.rest))) =
    replaced (left_of g s) (body_of g s) (reverse p) (y ++ x.rest) (rule_is g s h) in
    let k : All (known g) (left_of g s ∷ y) =
    subst (All (known g)) e (All-drop (known g) d (body_of g r) (w.body r (rule_within w v))) in
    record {
      rest = y ++ x.rest;
      derives = trans (subst (Derives (IsRule g) (body_of g 0)) i x.derives)
          (subst (Derives (IsRule g) (reverse p ++ left_of g s ∷ (y ++ x.rest))) j t);
      known = All-append (known g) y x.rest (All-tail (known g) (left_of g s) y k) x.known;
    }
extends_valid {g = g} w (move {p = p} {r = r} {d = d} {x = x} {y = y} v e h) =
    let i : reverse p ++ drop d (body_of g r) ≡ reverse (x ∷ p) ++ drop (suc d) (body_of g r) =
    ap (λ z. reverse p ++ z) (e ∙ ap (λ z. x ∷ z) (sym (after (body_of g r) d x y e).rest))
    ∙ sym (ap (λ z. z ++ drop (suc d) (body_of g r)) (reverse_cons x p)
    ∙ append_assoc (reverse p) (x ∷ []) (drop (suc d) (body_of g r))) in
    subst (Extends g) i (extends_valid w v)

side : (g : ContextFree) (s : ℕ) → (s < g.tokens) ⊎ (g.tokens ≤ s)
side g s = grind arith

becomes_one : {g : ContextFree} → WellFormed g → (s : ℕ) → s < g.symbols
    → (s < g.tokens) ⊎ (g.tokens ≤ s) → (v : List ℕ) × Yields g (s ∷ []) v
becomes_one w s k (inl l) = (s ∷ [], token l none)
becomes_one w s k (inr l) =
    let p = w.productive s l k in
    (p.word, yields_from_derives p.derives p.tokens)

-- each list of symbols becomes a list of tokens
becomes : {g : ContextFree} → WellFormed g → (x : List ℕ) → All (λ s. s < g.symbols) x
    → (v : List ℕ) × Yields g x v
becomes w [] h = ([], none)
becomes {g = g} w (s ∷ x) h =
    let r = becomes w x (All-tail (known g) s x h) in
    let q = becomes_one w s (All-head (known g) s x h) (side g s) in
    (q.0 ++ r.0, yields_append q.1 x r.0 r.1)

-- the tokens that a prefix with a valid item becomes begin a sentence
pub begins_sentence : {g : ContextFree} {p word : List ℕ} → WellFormed g → Viable g p
    → Yields g (reverse p) word → All (λ t. t ≢ end_token) word → BeginsSentence g word
begins_sentence {g = g} {p = p} {word = word} w v y k =
    let d = drop v.dot (body_of g v.rule) in
    let x = extends_valid w v.valid in
    let b = becomes w (d ++ x.rest) (All-append (known g) d x.rest
    (All-drop (known g) v.dot (body_of g v.rule) (w.body v.rule (rule_within w v.valid)))
    x.known) in
    let f : Derives (IsRule g) (start_of g ∷ end_token ∷ []) (reverse p ++ (d ++ x.rest)) =
    subst (λ z. Derives (IsRule g) z (reverse p ++ (d ++ x.rest))) w.first
    (subst (Derives (IsRule g) (body_of g 0)) (append_assoc (reverse p) d x.rest) x.derives) in
    let z : Yields g (start_of g ∷ end_token ∷ []) (word ++ b.0) =
    yields_derived f (yields_append y (d ++ x.rest) b.0 b.1) in
    by b.0 (yields_split (start_of g ∷ []) (end_token ∷ []) z)
  where
    at : (back front : List ℕ) → Yields g (start_of g ∷ []) front
        → Cut word back front end_token [] → BeginsSentence g word
    at back front l (inl c) =
        absurd (all_middle (λ t. t ≢ end_token) front end_token c.0
        (subst (All (λ t. t ≢ end_token)) c.1 k) refl)
    at back front l (inr c) =
        (c.0, subst (IsSentence g) c.1 (yields_tokens l, derives_from_yields l))

    by : (back : List ℕ) → Split g (start_of g ∷ []) (end_token ∷ []) (word ++ back)
        → BeginsSentence g word
    by back q =
        let e : q.back ≡ end_token ∷ [] = yields_token end_token w w.ends q.back q.right in
        at back q.front q.left (cut word back q.front end_token []
        (q.parts ∙ ap (λ z. q.front ++ z) e))

-- the stack's symbols, the newest first
abbrev pub prefix_of : Configuration → List ℕ
prefix_of c = reverse (symbols c.stack)

module _ (g : ContextFree) (m : Machine) (w : WellFormed g) (s : IsSound g m) (tokens : List ℕ)
    (a : All (IsToken g) tokens) where
  -- The tokens shifted, which the stack's symbols become; an item is valid for these.
  pub record Taken (now : Configuration) : Type 0 where
    pub word : List ℕ
    pub shifted : Shifted tokens word now.rest
    pub yields : Yields g (symbols now.stack) word
    pub items : Viable g (prefix_of now)

  kept : {c n : Configuration} → n.stack ≡ c.stack → n.rest ≡ c.rest → Taken c → Taken n
  kept st re y = record {
    word = y.word;
    shifted = subst (Shifted tokens y.word) (sym re) y.shifted;
    yields = subst (λ z. Yields g (symbols z) y.word) (sym st) y.yields;
    items = subst (λ z. Viable g (reverse (symbols z))) (sym st) y.items;
  }

  taken_step : {c n : Configuration} {k : StepKind} → Plain m c k n → Taken c → Taken n
  taken_step {c = c} (plain_shift t rest d h e k st re mo) y =
      let here : Shifted tokens y.word (t ∷ rest) = subst (Shifted tokens y.word) e y.shifted in
      let more : Shifted tokens (y.word ++ t.0 ∷ []) rest = shifted_on t rest here in
      let j : IsToken g t.0 = all_middle (IsToken g) y.word t.0 more.back
      (subst (All (IsToken g)) (more.parts ∙ append_assoc y.word (t.0 ∷ []) more.back) a) in
      record {
        word = y.word ++ t.0 ∷ [];
        shifted = subst (Shifted tokens (y.word ++ t.0 ∷ [])) (sym re) more;
        yields = subst (λ z. Yields g z (y.word ++ t.0 ∷ [])) (sym st)
            (yields_append y.yields (t.0 ∷ []) (t.0 ∷ []) (token j none));
        items = subst (Viable g) (sym (ap reverse st ∙ reverse_push (symbols c.stack) t.0))
            (viable_expected (s.shift (symbols c.stack) t.0 h));
      }
  taken_step {c = c} (plain_reduce r d h k st re mo) y =
      let f = found g m w s c (lookahead c.rest) r h in
      let q : Split g (reverse f.below) (body_of g r) y.word =
      yields_split (reverse f.below) (body_of g r)
      (subst (λ z. Yields g z y.word) f.parts y.yields) in
      let b : Yields g (left_of g r ∷ []) q.back =
      rule r f.within refl (sym (append-nil q.back)) q.right none in
      record {
        word = y.word;
        shifted = subst (Shifted tokens y.word) (sym re) y.shifted;
        yields = subst (λ z. Yields g z y.word) (sym (st ∙ f.left))
            (subst (Yields g (reverse f.below ++ left_of g r ∷ [])) (sym q.parts)
            (yields_append q.left (left_of g r ∷ []) q.back b));
        items = subst (Viable g) (sym (ap reverse (st ∙ f.left)
            ∙ (reverse_push (reverse f.below) (left_of g r)
            ∙ ap (λ z. left_of g r ∷ z) (reverse-reverse f.below)))) (viable_expected f.goto);
      }
  taken_step (plain_accept d k st re mo) y = kept st re y
  taken_step (plain_fail k st re mo) y = kept st re y

  pub taken : (now : Configuration) (earlier : List (StepKind × Configuration))
      → PlainTo m (first_configuration tokens) now earlier → Taken now
  taken now [] h = subst Taken (sym h) (record {
    word = [];
    shifted = record { back = tokens; parts = refl; left = refl };
    yields = none;
    items = viable start;
  })
  taken now (last ∷ earlier) h = taken_step h.0 (taken last.1 earlier h.1)

  -- what was shifted begins a sentence
  pub taken_begins : (now : Configuration) (t : Taken now) → All (λ t. t ≢ end_token) tokens
      → BeginsSentence g t.word
  taken_begins now t k =
      begins_sentence w t.items
      (subst (λ z. Yields g z t.word) (sym (reverse-reverse (symbols now.stack))) t.yields)
      (all_front (λ t. t ≢ end_token) t.word t.shifted.back
      (subst (All (λ t. t ≢ end_token)) t.shifted.parts k))
