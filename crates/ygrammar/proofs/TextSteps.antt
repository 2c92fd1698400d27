-- The texts of a file's rules.
use Rattle.std.proofs.Common.{ℕ, suc, ◌≡◌, List, [], ◌∷◌, ◌++◌, map, Option, Some, refl}
use Rattle.std.proofs.Common.{sym, ◌∙◌, ap, append_assoc, subst}
use Rattle.std.specs.List.{flat_map, AllByRecursion}
use Rattle.std.proofs.lemmas.List.{map-append}
use Rattle.ysyntax.specs.declared.tree.BodyPart.{BodyPart as CodeBodyPart}
use Rattle.ydeclarations.specs.Elaboration.{Rule, body_from, final_of, or_else, rules_from}
use Rattle.ysymbols.specs.Names.{Name}
use Rattle.ygrammar.specs.Texts.{texts_of_rule, body_part_texts}
use Rattle.ysyntax.specs.TreeTexts.{BodyPartStands}
use Rattle.ysymbols.specs.Sources.{TextsValue}
use Rattle.ygrammar.specs.Texts.{kept_text}
use Rattle.ysyntax.specs.Tree.{RuleText, BodyPart, symbol, action}
use Rattle.ysyntax.specs.TreeViews.{body_part_view}

inner_texts : (k : ℕ) (is : List BodyPart) → flat_map body_part_texts is ≡ map kept_text
    (body_from k is).inner
inner_texts k [] = refl
inner_texts k (symbol i ∷ is) = inner_texts k is
inner_texts k (action t ∷ is) = ap (λ (x : List (Option (List ℕ))). Some t ∷ x)
    (inner_texts (suc k) is)

-- the texts of the rules from a rule of the file on
pub rules_texts : (before : Name) (k : ℕ) (cs : List RuleText) → flat_map texts_of_rule cs ≡ map
    kept_text (rules_from before k cs)
rules_texts before k [] = refl
rules_texts before k (c ∷ cs) =
    let f = final_of c.last c.body in
    let b = body_from k f.0 in
    let n = or_else c.left before in
    let rest : List Rule = rules_from n b.next cs in
    let r : Rule = record { left = n; body = b.symbols; prec = c.prec; text = f.1 } in
    append_assoc (flat_map body_part_texts f.0) (f.1 ∷ []) (flat_map texts_of_rule cs)
    ∙ ap (λ (x : List (Option (List ℕ))). flat_map body_part_texts f.0 ++ (f.1 ∷ x))
    (rules_texts n b.next cs)
    ∙ ap (λ (x : List (Option (List ℕ))). x ++ (f.1 ∷ map kept_text rest)) (inner_texts k f.0)
    ∙ sym (map-append kept_text b.inner (r ∷ rest))

-- one part of a body on, the texts of the inner actions are those of the whole body
pub one_item : (source : List ℕ) (old new : TextsValue) (xs rest : List CodeBodyPart)
    (x : CodeBodyPart)
    (all : List (Option (List ℕ))) → xs ≡ x ∷ rest → new.source ≡ old.source →
    new.texts ≡ old.texts ++ body_part_texts (body_part_view x) → old.source ≡ source →
    old.texts ++ flat_map body_part_texts (map body_part_view xs) ≡ all →
    AllByRecursion (BodyPartStands old.source) xs → (new.source ≡ source)
    × (new.texts ++ flat_map body_part_texts (map body_part_view rest) ≡ all)
    × AllByRecursion (BodyPartStands new.source) rest
one_item source old new xs rest x all e s t h w a = (
  s ∙ h,
  ap (λ (y : List (Option (List ℕ))). y ++ flat_map body_part_texts (map body_part_view rest)) t
      ∙ append_assoc old.texts (body_part_texts (body_part_view x))
      (flat_map body_part_texts (map body_part_view rest))
      ∙ ap (λ (ys : List CodeBodyPart). old.texts ++ flat_map body_part_texts
      (map body_part_view ys)) (sym e)
      ∙ w,
  subst (λ z. AllByRecursion (BodyPartStands z) rest) (sym s)
      (subst (AllByRecursion (BodyPartStands old.source)) e a).1,
)
