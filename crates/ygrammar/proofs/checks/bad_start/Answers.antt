use Rattle.std.proofs.Common.{ℕ, suc, ◌≡◌, ◌-◌, List, [], ◌∷◌, length, Option, Some, None, get_or}
use Rattle.std.proofs.Common.{refl, sym, ◌∙◌, ap, arith}
use Rattle.std.specs.List.{last_or}
use Rattle.ydeclarations.specs.declared.outline.Started.{Started}
use Rattle.ysymbols.specs.Sources.{option_view}
use Rattle.ygrammar.proofs.checks.bad_start.Goals as goal

-- the last of a list stands at its end
last_there : {A : Type 0} (xs : List A) (o : Option A) (k : ℕ) (d : A) → length xs ≡ suc k →
    last_or o xs ≡ Some (get_or xs k d)
last_there [] o k d e = absurd (omega arith)
last_there (x ∷ []) o k d e = let z : k ≡ 0 = omega arith in
    sym (ap (λ (i : ℕ). Some (get_or (x ∷ []) i d)) z)
last_there (x ∷ y ∷ xs) o k d e =
    let z : k ≡ suc (length xs) = omega arith in
    last_there (y ∷ xs) (Some x) (length xs) d refl ∙ sym
    (ap (λ (i : ℕ). Some (get_or (x ∷ y ∷ xs) i d)) z)

pub returns-in-len1-up-clause-place : goal.returns-in-len1-up-clause-place
returns-in-len1-up-clause-place c =
    let h = c.in-len1-up.len_at_least in
    let e : length c.args.starts.now ≡ suc (length c.args.starts.now - 1) = omega arith in
    ap (λ (o : Option Started). option_view (λ s. s.at) o) (last_there c.args.starts.now None
    (length c.args.starts.now - 1) _ e)
