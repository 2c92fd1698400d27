-- There is a role for each lexeme.
use Rattle.std.proofs.Common.{ℕ, zero, suc, ◌≡◌, ◌+◌, ◌∙◌, Bool, true, false, List, [], ◌∷◌, ◌++◌}
use Rattle.std.proofs.Common.{length, map}
use Rattle.std.proofs.Common.{Option, Some, None, replicate, refl, ap, sym, length-append, arith}
use Rattle.std.specs.List.{flat_map}
use Rattle.ylexemes.specs.Lexemes.{Lexeme, braced, fixed, name, number}
use Rattle.ylexemes.specs.declared.kind.Sign.TheVariants as sign
use Rattle.ysyntax.specs.Tree.{BodyPart, Definition, start, union, block, listing, types, Entry}
use Rattle.ysyntax.specs.Tree.{Identifier, RuleText, Tree, Word, body_part_yield, definition_yield}
use Rattle.ysyntax.specs.Tree.{end_yield, entry_yield, mark_yield, option_yield, rule_text_yield}
use Rattle.ysyntax.specs.Tree.{identifier_yield, tag_yield, yield}
use Rattle.ysyntax.specs.declared.role.Role.{Role}
use Rattle.ysyntax.specs.declared.role.Role.TheVariants as role
use Rattle.ysyntax.specs.Roles.{body_role, definition_roles, digits_roles, entry_roles}
use Rattle.ysyntax.specs.Roles.{last_roles, mark_roles, prec_roles, roles, rule_roles}
use Rattle.ysyntax.specs.Roles.{rules_from, tag_roles}

both : {A B : Type 0} (a b : List A) (c d : List B) → length a ≡ length c → length b ≡ length d
    → length (a ++ b) ≡ length (c ++ d)
both a b c d e f =
    let left = length-append a b in let right = length-append c d in omega (arith, left, right, e, f)

flat : {A B C : Type 0} (f : A → List B) (g : A → List C)
    → ((x : A) → length (f x) ≡ length (g x)) → (xs : List A)
    → length (flat_map f xs) ≡ length (flat_map g xs)
flat f g e [] = refl
flat f g e (x ∷ xs) = both (f x) (flat_map f xs) (g x) (flat_map g xs) (e x) (flat f g e xs)

mapped : {A B C : Type 0} (f : A → B) (g : A → C) (xs : List A)
    → length (map f xs) ≡ length (map g xs)
mapped f g [] = refl
mapped f g (x ∷ xs) = ap suc (mapped f g xs)

repeated : {A B C : Type 0} (b : B) (f : A → C) (xs : List A)
    → length (replicate (length xs) b) ≡ length (map f xs)
repeated b f [] = refl
repeated b f (x ∷ xs) = ap suc (repeated b f xs)

copies : {B C : Type 0} (b : B) (c : C) (n : ℕ) → length (replicate n b) ≡ length (replicate n c)
copies b c zero = refl
copies b c (suc n) = ap suc (copies b c n)

tags : (tag : Option (List ℕ)) → length (tag_roles tag) ≡ length (option_yield tag_yield tag)
tags None = refl
tags (Some n) = refl

digits : (ds : Option (List ℕ)) → length (digits_roles ds)
    ≡ length (option_yield (λ ds. number ds ∷ []) ds)
digits None = refl
digits (Some ds) = refl

entries : (w : Word) (e : Entry) → length (entry_roles w e) ≡ length (entry_yield e)
entries w e = ap suc (digits e.digits)

definitions : (d : Definition) → length (definition_roles d) ≡ length (definition_yield d)
definitions (start i) = refl
definitions (union t) = refl
definitions block = refl
definitions (listing w tag es) = ap suc (both (tag_roles tag) (flat_map (entry_roles w) es)
    (option_yield tag_yield tag) (flat_map entry_yield es) (tags tag)
    (flat (entry_roles w) entry_yield (entries w) es))
definitions (types t ns) = ap suc (both (tag_roles (Some t))
    (replicate (length ns) role.Typed) (tag_yield t) (map name ns) refl
    (repeated role.Typed name ns))

precs : (k : ℕ) (prec : Option Identifier) → length (prec_roles k prec)
    ≡ length (option_yield (λ i. fixed sign.Prec ∷ identifier_yield i ∷ []) prec)
precs k None = refl
precs k (Some i) = refl

lasts : (k : ℕ) (last : Option (List ℕ)) → length (last_roles k last)
    ≡ length (option_yield (λ t. braced t ∷ []) last)
lasts k None = refl
lasts k (Some t) = refl

rules : (k : ℕ) (c : RuleText) → length (rule_roles k c) ≡ length (rule_text_yield c)
rules k c = ap suc (both (map (body_role k) c.body) _ (map body_part_yield c.body) _
    (mapped (body_role k) body_part_yield c.body)
    (both (prec_roles k c.prec) _ _ _ (precs k c.prec)
    (both (last_roles k c.last) _ _ _ (lasts k c.last)
    (copies role.Semicolon (fixed sign.Semicolon) c.semicolons))))

all_rules : (k : ℕ) (cs : List RuleText) → length (rules_from k cs)
    ≡ length (flat_map rule_text_yield cs)
all_rules k [] = refl
all_rules k (c ∷ cs) = both (rule_roles k c) (rules_from (k + 1) cs) (rule_text_yield c)
    (flat_map rule_text_yield cs) (rules k c) (all_rules (k + 1) cs)

marks : (b : Bool) → length (mark_roles b) ≡ length (mark_yield b)
marks true = refl
marks false = refl

pub length-roles : (t : Tree) → length (roles t) ≡ length (yield t)
length-roles t =
    both (flat_map definition_roles t.definitions) _ (flat_map definition_yield t.definitions) _
    (flat definition_roles definition_yield definitions t.definitions)
    (ap suc (both (rules_from 0 t.rule_texts) (mark_roles t.second_mark)
    (flat_map rule_text_yield t.rule_texts) (mark_yield t.second_mark)
    (all_rules 0 t.rule_texts) (marks t.second_mark)))
