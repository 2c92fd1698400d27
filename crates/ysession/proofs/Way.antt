-- A configuration on the way of a rightmost derivation read backward, and the step that it needs
-- (Aho, Sethi and Ullman, 4.5: handle pruning).
use Rattle.std.proofs.Common.{ℕ, suc, ◌≡◌, ◌≢◌, ◌<◌, List, [], ◌∷◌, ◌++◌, length, drop, reverse}
use Rattle.std.proofs.Common.{refl, sym, ◌∙◌, ap, subst, append_assoc, append-nil, inl, inr, arith}
use Rattle.std.specs.List.{All}
use Rattle.std.proofs.lemmas.List.Elements.{All-head}
use Rattle.std.proofs.lemmas.List.{reverse-append, reverse-reverse}
use Rattle.ysymbols.specs.Grammar.{ContextFree, left_of, body_of, IsToken, end_token, start_of}
use Rattle.ysymbols.specs.WellFormed.{WellFormed}
use Rattle.ylalr.specs.Items.{Valid, start, move}
use Rattle.ymachine.specs.Cells.{Expects, Ends}
use Rattle.ymachine.proofs.Prefixes.{reverse_cons}
use Rattle.ysession.proofs.Yields.{all_middle, no_middle, Cut, cut, Uses, yields_self}
use Rattle.ysession.proofs.Sentential.{Sent, begins, goes, listed, replacements, ended, not_first}
use Rattle.ysession.proofs.Sentential.{ahead, slide, expects_within, valid_new}

-- the stack p and the upcoming tokens u lie on the way: the last replaced body isn't covered yet
abbrev pub Ready : {g : ContextFree} {x : List ℕ} → Sent g x → List ℕ → List ℕ → Type 0
Ready (begins e) p u = u ≡ []
Ready {g = g} (goes d s k) p u =
    (part : List ℕ) × (u ≡ part ++ s.after) × (s.before ++ body_of g s.rule ≡ reverse p ++ part)

-- The step that the derivation needs, and that it leads on the way again.
pub data Wants (g : ContextFree) {x : List ℕ} (d : Sent g x) (p u : List ℕ) : Type 0 where
  wants_shift : (t : ℕ) (rest : List ℕ) → u ≡ t ∷ rest → Expects g p t → Ready d (t ∷ p) rest
      → Wants g d p u
  wants_reduce : (r : ℕ) (below z : List ℕ) (b : Sent g z) → r < length g.rules
      → Ends g p r (ahead u) → reverse p ≡ reverse below ++ body_of g r
      → z ≡ reverse (left_of g r ∷ below) ++ u → Ready b (left_of g r ∷ below) u
      → ((more : List (List ℕ)) → listed d more ≡ listed b (x ∷ more))
      → replacements d ≡ suc (replacements b) → Wants g d p u
  wants_accept : u ≡ [] → Valid g p 0 1 end_token
      → ((more : List (List ℕ)) → listed d more ≡ more) → Wants g d p u

-- the left side stands where the next body begins or later, since after that body are tokens alone
ready_next : {g : ContextFree} {x : List ℕ} → WellFormed g → (d : Sent g x) → (below : List ℕ)
    (r : ℕ) (u : List ℕ) → r < length g.rules → x ≡ reverse below ++ left_of g r ∷ u
    → Ready d (left_of g r ∷ below) u
ready_next {g = g} w (begins e) below r u h f = first (reverse below) (sym e ∙ f)
  where
    first : (front : List ℕ) → start_of g ∷ [] ≡ front ++ left_of g r ∷ u → u ≡ []
    first [] i = sym (ap (drop 1) i)
    first (c ∷ front) i = absurd (no_middle front (left_of g r) u (ap (drop 1) i))
ready_next {g = g} w (goes d s k) below r u h f =
    by (cut (s.before ++ body_of g s.rule) s.after (reverse below) (left_of g r) u
    (append_assoc s.before (body_of g s.rule) s.after ∙ (sym s.to ∙ f)))
  where
    by : Cut (s.before ++ body_of g s.rule) s.after (reverse below) (left_of g r) u
        → (part : List ℕ) × (u ≡ part ++ s.after)
        × (s.before ++ body_of g s.rule ≡ reverse (left_of g r ∷ below) ++ part)
    by (inl q) = (
      q.0,
      q.2,
      q.1 ∙ sym (ap (λ z. z ++ q.0) (reverse_cons (left_of g r) below)
          ∙ append_assoc (reverse below) (left_of g r ∷ []) q.0),
    )
    by (inr q) =
        let l = all_middle (IsToken g) q.0 (left_of g r) u (subst (All (IsToken g)) q.2 k) in
        let n = w.nonterminal r h in
        absurd (omega (arith, l, n))

-- at the start nothing is replaced
pub ready_first : {g : ContextFree} {w : List ℕ} → WellFormed g → (d : Sent g w)
    → All (IsToken g) w → Ready d [] w
ready_first {g = g} w (begins e) k =
    let l = All-head (IsToken g) (start_of g) [] (subst (All (IsToken g)) e k) in
    let n = w.start_nonterminal in
    absurd (omega (arith, l, n))
ready_first {g = g} w (goes d s i) k = (
  s.before ++ body_of g s.rule,
  s.to ∙ sym (append_assoc s.before (body_of g s.rule) s.after),
  refl,
)

-- the body of the last replacement is a prefix's end with the complete item valid
complete_item : {g : ContextFree} {x y : List ℕ} → WellFormed g → (d : Sent g x) (s : Uses g x y)
    → All (IsToken g) s.after
    → Valid g (reverse (s.before ++ body_of g s.rule)) s.rule (length (body_of g s.rule))
    (ahead s.after)
complete_item {g = g} w d s k =
    let b = body_of g s.rule in
    let v : Valid g (reverse s.before) s.rule 0 (ahead s.after) =
    valid_new w d s.before s.rule s.after s.after s.from s.within (yields_self s.after k) in
    let l = slide b [] v (sym (append-nil b)) (ended w d s) in
    subst (λ z. Valid g z s.rule (length b) (ahead s.after)) (sym (reverse-append s.before b))
    (subst (λ n. Valid g (reverse b ++ reverse s.before) s.rule n (ahead s.after))
    (omega arith) l)

pub wants : {g : ContextFree} {x : List ℕ} → WellFormed g → (d : Sent g x) (p u : List ℕ)
    → reverse p ++ u ≡ x → Ready d p u → Wants g d p u
wants {g = g} {x = x} w (begins e) p u f h =
    let i : reverse p ≡ start_of g ∷ [] =
    sym (append-nil (reverse p)) ∙ (ap (λ z. reverse p ++ z) (sym h) ∙ (f ∙ e)) in
    let j : start_of g ∷ [] ≡ p = sym (ap reverse i) ∙ reverse-reverse p in
    let n : start_of g ≢ end_token =
    (λ q. let l = w.start_nonterminal in let k = w.ends in omega (arith, q, l, k)) in
    wants_accept h (subst (λ z. Valid g z 0 1 end_token) j (move start w.first n)) (λ more. refl)
wants {g = g} {x = x} w (goes {x = z} d s k) p u f h = by h.0 h.1 h.2
  where
    item : Valid g (reverse (s.before ++ body_of g s.rule)) s.rule (length (body_of g s.rule))
        (ahead s.after)
    item = complete_item w d s k

    by : (part : List ℕ) → u ≡ part ++ s.after → s.before ++ body_of g s.rule ≡ reverse p ++ part
        → Wants g (goes d s k) p u
    by [] e i =
        let j : s.before ++ body_of g s.rule ≡ reverse p = i ∙ append-nil (reverse p) in
        let q : reverse (s.before ++ body_of g s.rule) ≡ p = ap reverse j ∙ reverse-reverse p in
        let v : Valid g p s.rule (length (body_of g s.rule)) (ahead u) =
        subst (λ y. Valid g p s.rule (length (body_of g s.rule)) (ahead y)) (sym e)
        (subst (λ y. Valid g y s.rule (length (body_of g s.rule)) (ahead s.after)) q item) in
        let b = reverse-reverse s.before in
        let y : z ≡ reverse (reverse s.before) ++ left_of g s.rule ∷ u =
        s.from ∙ (ap (λ c. c ++ left_of g s.rule ∷ s.after) (sym b)
        ∙ ap (λ c. reverse (reverse s.before) ++ left_of g s.rule ∷ c) (sym e)) in
        wants_reduce s.rule (reverse s.before) z d s.within (not_first w d s, v)
        (sym j ∙ ap (λ c. c ++ body_of g s.rule) (sym b))
        (y ∙ sym (ap (λ c. c ++ u) (reverse_cons (left_of g s.rule) (reverse s.before))
        ∙ append_assoc (reverse (reverse s.before)) (left_of g s.rule ∷ []) u))
        (ready_next w d (reverse s.before) s.rule u s.within y) (λ more. refl) refl
    by (t ∷ part) e i =
        let q : reverse (s.before ++ body_of g s.rule) ≡ reverse part ++ t ∷ p =
        ap reverse i ∙ (reverse-append (reverse p) (t ∷ part)
        ∙ (ap (λ c. reverse (t ∷ part) ++ c) (reverse-reverse p)
        ∙ (ap (λ c. c ++ p) (reverse_cons t part)
        ∙ append_assoc (reverse part) (t ∷ []) p))) in
        let v : Valid g (reverse part ++ t ∷ p) s.rule (length (body_of g s.rule))
        (ahead s.after) =
        subst (λ y. Valid g y s.rule (length (body_of g s.rule)) (ahead s.after)) q item in
        wants_shift t (part ++ s.after) e (expects_within (reverse part) t p v) (
          part,
          refl,
          i ∙ sym (ap (λ c. c ++ part) (reverse_cons t p)
              ∙ append_assoc (reverse p) (t ∷ []) part),
        )
