-- Marks that a worklist leaves, and the symbols that can be reached.
use Rattle.std.proofs.Common.{ℕ, zero, suc, Bool, false, refl, ◌≡◌, ◌<◌, ◌⊎◌, List, length}
use Rattle.std.proofs.Common.{[], ◌∷◌}
use Rattle.std.proofs.Common.{get_or, slice_index, sym, ◌∙◌, ap, subst, inl, inr}
use Rattle.std.specs.List.{Contains}
use Rattle.std.proofs.Math.ListN.{replicate}
use Rattle.std.proofs.lemmas.List.{length-map}
use Rattle.std.proofs.lemmas.List.Elements.{All-contains, All-from_get_or, Contains-get_or}
use Rattle.ysymbols.specs.Grammar.{ContextFree}
use Rattle.ysymbols.specs.Forms.{IsReachable, first, further}
use Rattle.ysymbols.specs.Grammar.{RuleValue}
use Rattle.ysymbols.specs.Marking.{WorklistValue, IsMarked, IsUnmarked, IsSpread, IsWaiting}
use Rattle.ysymbols.specs.Marking.{OnlyReachable, numbered_grammar, rule_at}
use Rattle.ysymbols.specs.Grammar.{production_of}
use Rattle.ysymbols.proofs.MarkingSteps.{alone, closed_end}

either : (g : ContextFree) (m : List Bool) (s x : ℕ) → OnlyReachable g m → IsReachable g x →
    IsMarked m s ⊎ (s ≡ x) → IsReachable g s
either g m s x f p (inl k) = f s k
either g m s x f p (inr e) = subst (IsReachable g) (sym e) p

-- one more symbol of a reachable rule is marked
pub symbol_marked : (tokens symbols : ℕ) (rules : List RuleValue) (m m2 : List Bool) (r i x : ℕ)
    (body : List ℕ) → r < length rules → body ≡ (rule_at rules r).body → i < length body →
    x ≡ slice_index body i → ((t : ℕ) → IsMarked m2 t → IsMarked m t ⊎ (t ≡ x)) →
    IsReachable (numbered_grammar tokens symbols rules) (rule_at rules r).left → OnlyReachable
    (numbered_grammar tokens symbols rules) m → OnlyReachable
    (numbered_grammar tokens symbols rules) m2
symbol_marked tokens symbols rules m m2 r i x body h e l n only p f s k =
    let g = numbered_grammar tokens symbols rules in
    let c : Contains (rule_at rules r).body x = subst (λ (b : List ℕ). Contains b x) e
    (subst (Contains body) (sym n) (Contains-get_or body i 0 l)) in
    either g m s x f (further {r = r}
    (subst (λ (j : ℕ). r < j) (sym (length-map rules production_of))
    h) p c) (only s k)

pub first_marked : (tokens symbols : ℕ) (rules : List RuleValue) (m m2 : List Bool) (x : ℕ) →
    x ≡ (rule_at rules 0).left → ((t : ℕ) → IsMarked m2 t → IsMarked m t ⊎ (t ≡ x)) → OnlyReachable
    (numbered_grammar tokens symbols rules) m → OnlyReachable
    (numbered_grammar tokens symbols rules) m2
first_marked tokens symbols rules m m2 x e only f s k =
    let g = numbered_grammar tokens symbols rules in
    either g m s x f (subst (IsReachable g) (sym e) first) (only s k)

pub all_marked : (tokens symbols : ℕ) (rules : List RuleValue) (w : WorklistValue) →
    ((s : ℕ) → IsWaiting w s → ⊥) → ((r : ℕ) → r < length rules → IsSpread (rule_at rules r) w) →
    IsMarked w.marks (rule_at rules 0).left →
    (s : ℕ) → IsReachable (numbered_grammar tokens symbols rules) s → IsMarked w.marks s
all_marked tokens symbols rules w z c b s first = b
all_marked tokens symbols rules w z c b s (further {r = r} h p k) =
    let body = (rule_at rules r).body in
    let f = closed_end ((rule_at rules r).left ∷ []) body w z
    (c r (subst (λ (j : ℕ). r < j) (length-map rules production_of) h))
    (alone (IsMarked w.marks) (rule_at rules r).left
    (all_marked tokens symbols rules w z c b (rule_at rules r).left p)) in
    All-contains (IsMarked w.marks) body s (All-from_get_or (IsMarked w.marks) body 0 f) k

blank_at : (n s : ℕ) → get_or (replicate n false) s false ≡ false
blank_at zero s = refl
blank_at (suc n) zero = refl
blank_at (suc n) (suc s) = blank_at n s

-- of marks that were made alike none is set
pub none_marked : (m : List Bool) (n s : ℕ) → m ≡ replicate n false → IsUnmarked m s
none_marked m n s e = ap (λ (x : List Bool). get_or x s false) e ∙ blank_at n s
