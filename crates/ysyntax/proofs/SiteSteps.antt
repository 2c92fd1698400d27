-- The sites of lexemes after others, and those of a tree.
use Rattle.std.proofs.Common.{ℕ, ◌≡◌, ◌+◌, Bool, true, false, List, [], ◌∷◌, ◌++◌, length, map}
use Rattle.std.proofs.Common.{Option, Some, None, take, drop, refl, sym, ap, ◌∙◌, arith}
use Rattle.std.proofs.Common.{length-append}
use Rattle.std.proofs.Common.{append-nil}
use Rattle.std.proofs.lemmas.Grind.{flat_map-append}
use Rattle.std.proofs.lemmas.List.{map-append, take-append-drop}
use Rattle.std.proofs.Math.Seq.{drop-append_seam}
use Rattle.std.specs.List.{flat_map}
use Rattle.ylexemes.specs.declared.kind.Sign.TheVariants as sign
use Rattle.ylexemes.specs.Lexemes.{Lexeme, name, c_identifier, literal, number, fixed}
use Rattle.ylexemes.specs.Views.{lexeme_view}
use Rattle.ysyntax.specs.declared.lexer.Placed.{Placed}
use Rattle.ysyntax.specs.Answers.{views}
use Rattle.ysymbols.specs.Sources.{option_view}
use Rattle.ysyntax.specs.declared.tree.BodyPart.{BodyPart as CodeBodyPart}
use Rattle.ysyntax.specs.declared.tree.BodyPart.TheVariants as items
use Rattle.ysyntax.specs.declared.tree.Definition.{Definition as CodeDefinition}
use Rattle.ysyntax.specs.declared.tree.Definition.TheVariants as definitions
use Rattle.ysyntax.specs.declared.tree.Digits.{Digits}
use Rattle.ysyntax.specs.declared.tree.Entry.{Entry as CodeEntry}
use Rattle.ysyntax.specs.declared.tree.NameAt.{NameAt}
use Rattle.ysyntax.specs.declared.tree.Occurrence.{Occurrence}
use Rattle.ysyntax.specs.declared.tree.RuleText.{RuleText as CodeRuleText}
use Rattle.ysyntax.specs.declared.tree.Tree.{Tree as CodeTree}
use Rattle.ysyntax.specs.Sites.{Mark, Role, Site, body_part_roles, definition_roles, digits, each}
use Rattle.ysyntax.specs.Sites.{entry_roles, left_side, listed, mark, naming, namings, prec_name}
use Rattle.ysyntax.specs.Sites.{roles, rule_text_roles, site_mark, tag, typed}
use Rattle.ysyntax.specs.SiteViews.{body_part_sites, definition_sites, digits_site, entry_sites}
use Rattle.ysyntax.specs.SiteViews.{name_site, named_in, occurrence_site, one, placed_mark}
use Rattle.ysyntax.specs.SiteViews.{rule_text_sites, site_marks, tree_sites}
use Rattle.ysyntax.specs.TreeViews.{body_part_view, definition_view, digits_view, entry_view}
use Rattle.ysyntax.specs.TreeViews.{name_view, occurrence_view, rule_text_view, tree_view}
use Rattle.ysyntax.specs.Tree.{mark_yield}

-- ---- how many lexemes name something

-- how many of these lexemes do
count : List Lexeme → ℕ
count [] = 0
count (l ∷ ls) = length (naming l 0) + count ls

anywhere : (l : Lexeme) (at : ℕ) → length (naming l at) ≡ length (naming l 0)
anywhere (name n) at = refl
anywhere (literal v) at = refl
anywhere (c_identifier n) at = refl
anywhere (number ds) at = refl
anywhere (fixed sign.Start) at = refl
anywhere (fixed sign.Mark) at = refl
anywhere (fixed _) at = refl
anywhere _ at = refl

counted : (ls : List Placed) → length (named_in ls) ≡ count (views ls)
unfolding count
counted [] = refl
counted (p ∷ ls) =
    let again = counted ls in
    let one = anywhere (lexeme_view p.lexeme) p.at in
    let both = length-append (naming (lexeme_view p.lexeme) p.at) (named_in ls) in
    omega (arith, again, one, both)

-- ---- lexemes after others

named_append : (a b : List Placed) → named_in (a ++ b) ≡ named_in a ++ named_in b
named_append a b = ap namings (map-append placed_mark a b)
    ∙ flat_map-append (λ (m : Mark). naming m.what m.at) (map placed_mark a) (map placed_mark b)

-- of two lists that are one, each cut in two, what is after is the same where it is as long
cut_same : {A : Type 0} (xs ys us vs : List A) → xs ++ ys ≡ us ++ vs → length ys ≡ length vs →
    ys ≡ vs
cut_same {A = A} xs ys us vs e l =
    let a : length (xs ++ ys) ≡ length xs + length ys = length-append xs ys in
    let b : length (us ++ vs) ≡ length us + length vs = length-append us vs in
    let c : length (xs ++ ys) ≡ length (us ++ vs) = ap (λ (x : List A). length x) e in
    let n : length xs ≡ length us = omega (arith, a, b, c, l) in
    sym (drop-append_seam xs ys) ∙ ap (drop (length xs)) e
    ∙ ap (λ k. drop k (us ++ vs)) n ∙ drop-append_seam us vs

-- the sites of what is left after a piece are those of the rest
pub named_behind : (n : ℕ) (ls rest : List Placed) (front : List Mark) →
    named_in ls ≡ front ++ named_in rest → views (drop n ls) ≡ views rest →
    named_in (drop n ls) ≡ named_in rest
named_behind n ls rest front e v =
    cut_same (named_in (take n ls)) (named_in (drop n ls)) front (named_in rest)
    (sym (named_append (take n ls) (drop n ls)) ∙ ap named_in (take-append-drop n ls) ∙ e)
    (counted (drop n ls) ∙ ap count v ∙ sym (counted rest))

nothing : {A : Type 0} (xs : List A) → length xs ≡ 0 → xs ≡ []
nothing [] h = refl
nothing (x ∷ xs) h = absurd (omega (arith, h))

-- the second mark names nothing
pub mark_named : (b : Bool) (ls : List Placed) → views ls ≡ mark_yield b → named_in ls ≡ []
unfolding count
mark_named b ls v = nothing (named_in ls) (counted ls ∙ ap count v ∙ go b)
  where
    go : (b : Bool) → count (mark_yield b) ≡ 0
    go true = refl
    go false = refl

-- the sites of two pieces, and nothing after them
pub two_pieces : (xs ys : List Site) (whole rest last : List Mark) →
    whole ≡ site_marks xs ++ rest → rest ≡ site_marks ys ++ last → last ≡ [] →
    whole ≡ site_marks (xs ++ ys)
two_pieces xs ys whole rest last e f g =
    e ∙ ap (λ z. site_marks xs ++ z)
    (f ∙ ap (λ z. site_marks ys ++ z) g ∙ append-nil (site_marks ys))
    ∙ sym (map-append site_mark xs ys)

-- ---- what the sites of a tree are there for

abbrev role_of : Site → Role
role_of s = s.role

seen : {X Y : Type 0} (g : X → List Site) (v : X → Y) (h : Y → List Role) →
    ((x : X) → map role_of (g x) ≡ h (v x)) → (xs : List X) →
    map role_of (flat_map g xs) ≡ flat_map h (map v xs)
seen g v h same [] = refl
seen g v h same (x ∷ xs) = map-append role_of (g x) (flat_map g xs)
    ∙ ap (λ z. z ++ map role_of (flat_map g xs)) (same x)
    ∙ ap (λ z. h (v x) ++ z) (seen g v h same xs)

both : (xs ys : List Site) (rs qs : List Role) → map role_of xs ≡ rs → map role_of ys ≡ qs →
    map role_of (xs ++ ys) ≡ rs ++ qs
both xs ys rs qs e f = map-append role_of xs ys ∙ ap (λ z. z ++ map role_of ys) e
    ∙ ap (λ z. rs ++ z) f

digits_seen : (o : Option Digits) →
    map role_of (one digits_site o) ≡ each (λ ds. digits ds ∷ []) (option_view digits_view o)
digits_seen None = refl
digits_seen (Some d) = refl

entry_seen : (e : CodeEntry) → map role_of (entry_sites e) ≡ entry_roles (entry_view e)
entry_seen e = ap (λ z. listed (occurrence_view e.who) ∷ z) (digits_seen e.digits)

tag_seen : (o : Option NameAt) →
    map role_of (one (name_site tag) o) ≡ each (λ n. tag n ∷ []) (option_view name_view o)
tag_seen None = refl
tag_seen (Some n) = refl

names_seen : (ns : List NameAt) → map role_of (map (name_site typed) ns) ≡ map typed (map name_view ns)
names_seen [] = refl
names_seen (n ∷ ns) = ap (λ z. typed (name_view n) ∷ z) (names_seen ns)

definition_seen : (d : CodeDefinition) →
    map role_of (definition_sites d) ≡ definition_roles (definition_view d)
definition_seen (definitions.Start m at) = refl
definition_seen (definitions.Union t) = refl
definition_seen definitions.Block = refl
definition_seen (definitions.Listing l) =
    both (one (name_site tag) l.tag) (flat_map entry_sites l.entries.items) _ _ (tag_seen l.tag)
    (seen entry_sites entry_view entry_roles entry_seen l.entries.items)
definition_seen (definitions.Types t) =
    ap (λ z. tag (name_view t.tag) ∷ z) (names_seen t.names.items)

part_seen : (b : CodeBodyPart) → map role_of (body_part_sites b) ≡ body_part_roles (body_part_view b)
part_seen (items.Symbol m) = refl
part_seen (items.Action b) = refl

left_seen : (o : Option NameAt) →
    map role_of (one (name_site left_side) o) ≡ each (λ n. left_side n ∷ []) (option_view name_view o)
left_seen None = refl
left_seen (Some n) = refl

prec_seen : (o : Option Occurrence) → map role_of (one (occurrence_site prec_name) o)
    ≡ each (λ i. prec_name i ∷ []) (option_view occurrence_view o)
prec_seen None = refl
prec_seen (Some m) = refl

rule_seen : (c : CodeRuleText) →
    map role_of (rule_text_sites c) ≡ rule_text_roles (rule_text_view c)
rule_seen c = both (one (name_site left_side) c.left)
    (flat_map body_part_sites c.body.items ++ one (occurrence_site prec_name) c.prec) _ _
    (left_seen c.left)
    (both (flat_map body_part_sites c.body.items) (one (occurrence_site prec_name) c.prec) _ _
    (seen body_part_sites body_part_view body_part_roles part_seen c.body.items)
    (prec_seen c.prec))

-- the sites of a tree are there for what its lexemes are
pub roles_are : (t : CodeTree) → map (λ s. s.role) (tree_sites t) ≡ roles (tree_view t)
roles_are t = both (flat_map definition_sites t.definitions.items)
    (flat_map rule_text_sites t.rule_texts.items) _ _
    (seen definition_sites definition_view definition_roles definition_seen t.definitions.items)
    (seen rule_text_sites rule_text_view rule_text_roles rule_seen t.rule_texts.items)
