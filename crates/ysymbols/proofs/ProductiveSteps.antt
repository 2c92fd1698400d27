-- Marks that a worklist leaves, and the symbols that derive a list of tokens.
use Rattle.std.proofs.Common.{ℕ, zero, suc, Bool, ◌≡◌, ◌<◌, ◌⊎◌, List, [], ◌∷◌, ◌++◌}
use Rattle.std.proofs.Common.{length, get_or, slice_index, sym, subst}
use Rattle.std.proofs.Common.{append-nil, inl, inr, arith, refl, ◌↔◌}
use Rattle.std.specs.List.{All, AllByRecursion}
use Rattle.std.proofs.lemmas.List.Elements.{recursion_from_All, All-weaker, All-from_get_or}
use Rattle.std.proofs.lemmas.List.Elements.{All-head, All-nil}
use Rattle.std.proofs.lemmas.List.{length-map}
use Rattle.ysymbols.specs.Grammar.{ContextFree, left_of, body_of, IsToken}
use Rattle.ysymbols.specs.Derivation.{Derives, done, step}
use Rattle.ysymbols.specs.Forms.{IsRule, MarksNullable, Nullable, Productive}
use Rattle.ysymbols.specs.Grammar.{RuleValue}
use Rattle.ysymbols.specs.Marking.{WorklistValue, IsMarked, IsSettled, IsWaiting, OnlyProductive}
use Rattle.ysymbols.specs.Marking.{numbered_grammar, rule_at}
use Rattle.ysymbols.specs.Grammar.{production_of}
use Rattle.ysymbols.proofs.Derivations.{trans, replaced, rule_is, words}
use Rattle.ysymbols.proofs.MarkingSteps.{closed_end}

-- the left side of a rule whose body is marked
pub body_productive : (g : ContextFree) (m : List Bool) (r : ℕ) → OnlyProductive g m →
    r < length g.rules → ((k : ℕ) → k < length (body_of g r) →
    IsMarked m (slice_index (body_of g r) k)) → Productive g (left_of g r)
body_productive g m r f h a =
    let all = All-from_get_or (Productive g) (body_of g r) 0 (λ k l. f _ (a k l)) in
    let w = words g (body_of g r) all in
    record {
      word = w.word;
      tokens = w.tokens;
      derives = trans (subst (Derives (IsRule g) (left_of g r ∷ [])) (append-nil (body_of g r))
          (replaced (left_of g r) (body_of g r) [] [] (rule_is g r h))) w.derives;
    }

marked_or_left : (g : ContextFree) (m : List Bool) (s l : ℕ) → OnlyProductive g m →
    Productive g l → IsMarked m s ⊎ (s ≡ l) → Productive g s
marked_or_left g m s l f p (inl k) = f s k
marked_or_left g m s l f p (inr e) = subst (Productive g) (sym e) p

pub left_marked : (tokens symbols : ℕ) (rules : List RuleValue) (m m2 : List Bool) (r l : ℕ) →
    r < length rules → l ≡ (rule_at rules r).left →
    ((k : ℕ) → k < length (rule_at rules r).body →
    IsMarked m (slice_index (rule_at rules r).body k)) → ((t : ℕ) → IsMarked m2 t → IsMarked m t ⊎
    (t ≡ l)) → OnlyProductive (numbered_grammar tokens symbols rules) m → OnlyProductive
    (numbered_grammar tokens symbols rules) m2
left_marked tokens symbols rules m m2 r l h e a only f s k =
    let g = numbered_grammar tokens symbols rules in
    marked_or_left g m s l f (subst (Productive g) (sym e)
    (body_productive g m r f (subst (λ (n : ℕ). r < n) (sym (length-map rules production_of)) h) a))
    (only s k)

abbrev Every : (ℕ → Type 0) → List ℕ → Type 0
Every P xs = AllByRecursion P xs

front : (P : ℕ → Type 0) (a b : List ℕ) → Every P (a ++ b) → Every P a
front P [] b h = tt
front P (x ∷ a) b h = (h.0, front P a b h.1)

back : (P : ℕ → Type 0) (a b : List ℕ) → Every P (a ++ b) → Every P b
back P [] b h = h
back P (x ∷ a) b h = back P a b h.1

both : (P : ℕ → Type 0) (a b : List ℕ) → Every P a → Every P b → Every P (a ++ b)
both P [] b h k = k
both P (x ∷ a) b h k = (h.0, both P a b h.1 k)

-- where a marked body gives a marked left side, a form that derives marked symbols is marked
covers : {g : ContextFree} {x y : List ℕ} (m : List Bool) →
    ((r : ℕ) → r < length g.rules → Every (IsMarked m) (body_of g r) → IsMarked m (left_of g r)) →
    Derives (IsRule g) x y → Every (IsMarked m) y → Every (IsMarked m) x
covers m c done h = h
covers {g = g} m c (step s d) h =
    let p = IsMarked m in
    let i = subst (Every p) s.to (covers m c d h) in
    let j = back p s.before (s.body ++ s.after) i in
    let b = subst (Every p) s.rule.body (front p s.body s.after j) in
    subst (Every p) (sym s.from) (both p s.before (s.symbol ∷ s.after)
    (front p s.before (s.body ++ s.after) i)
    (subst p (sym s.rule.left) (c s.rule.number s.rule.within b), back p s.body s.after j))

every_at : (P : ℕ → Type 0) (xs : List ℕ) (k : ℕ) → k < length xs → Every P xs → P (get_or xs k 0)
every_at P [] k l h = absurd (omega arith)
every_at P (x ∷ xs) zero l h = h.0
every_at P (x ∷ xs) (suc k) l h = every_at P xs k (omega arith) h.1

pub all_marked : (tokens symbols : ℕ) (rules : List RuleValue) (w : WorklistValue) →
    ((s : ℕ) → IsWaiting w s → ⊥) → ((r : ℕ) → r < length rules → IsSettled (rule_at rules r) w) →
    ((t : ℕ) → t < tokens → IsMarked w.marks t) →
    (s : ℕ) → Productive (numbered_grammar tokens symbols rules) s → IsMarked w.marks s
all_marked tokens symbols rules w z c t s p =
    let g = numbered_grammar tokens symbols rules in
    let m = w.marks in
    let i : Every (IsMarked m) p.word = recursion_from_All (IsMarked m) p.word
    (All-weaker (IsToken g) (IsMarked m) t p.word p.tokens) in
    (covers {g = g} m (λ r h e. closed_end (rule_at rules r).body ((rule_at rules r).left ∷ []) w
    z (c r (subst (λ (n : ℕ). r < n) (length-map rules production_of) h))
    (λ k l. every_at (IsMarked m) (rule_at rules r).body k l e) 0 (omega arith)) p.derives i).0

-- ---- without tokens, what derives a list of tokens derives the empty form

-- the same rules make the same derivations
same_rules : {g h : ContextFree} {x y : List ℕ} →
    ((s : ℕ) (b : List ℕ) → IsRule g s b → IsRule h s b) →
    Derives (IsRule g) x y → Derives (IsRule h) x y
same_rules f done = done
same_rules f (step s d) = step (record {
  before = s.before;
  symbol = s.symbol;
  body = s.body;
  after = s.after;
  rule = f s.symbol s.body s.rule;
  from = s.from;
  to = s.to;
}) (same_rules f d)

tokenless : (symbols : ℕ) (rules : List RuleValue) (w : List ℕ) →
    All (IsToken (numbered_grammar 0 symbols rules)) w → w ≡ []
tokenless symbols rules [] a = refl
tokenless symbols rules (t ∷ w) a =
    let h = All-head (IsToken (numbered_grammar 0 symbols rules)) t w a in
    absurd (omega (arith, h))

pub nullable_productive : (tokens symbols : ℕ) (rules : List RuleValue) (s : ℕ) →
    Productive (numbered_grammar 0 symbols rules) s
    ↔ Nullable (numbered_grammar tokens symbols rules) (s ∷ [])
nullable_productive tokens symbols rules s =
    let g = numbered_grammar 0 symbols rules in
    let h = numbered_grammar tokens symbols rules in (
      λ p. same_rules {g = g} {h = h} (λ _ _ r. record {
        number = r.number;
        within = r.within;
        left = r.left;
        body = r.body;
      }) (subst (Derives (IsRule g) (s ∷ [])) (tokenless symbols rules p.word p.tokens) p.derives),
      λ d. record {
        word = [];
        tokens = All-nil (IsToken g);
        derives = same_rules {g = h} {h = g} (λ _ _ r. record {
          number = r.number;
          within = r.within;
          left = r.left;
          body = r.body;
        }) d;
      },
    )

pub marks_nullable : (tokens symbols n : ℕ) (rules rs : List RuleValue) (m : List Bool) →
    n ≡ symbols → rs ≡ rules → length m ≡ n →
    ((s : ℕ) → s < n → IsMarked m s ↔ Productive (numbered_grammar 0 n rs) s) →
    MarksNullable (numbered_grammar tokens symbols rules) m
marks_nullable tokens symbols n rules rs m e f sized exact =
    subst (λ (x : ℕ). MarksNullable (numbered_grammar tokens x rules) m) e
    (subst (λ (x : List RuleValue). MarksNullable (numbered_grammar tokens n x) m) f (record {
      each = sized;
      exact = λ s l.
          let a = exact s l in
          let b = nullable_productive tokens n rs s in
          (λ h. b.0 (a.0 h), λ h. a.1 (b.1 h));
    }))
