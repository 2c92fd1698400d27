-- The lists of a file are those of its sites.
use Rattle.std.proofs.Common.{ℕ, ◌≡◌, true, false, List, [], ◌∷◌, ◌++◌, map, Option, Some, None}
use Rattle.std.proofs.Common.{refl, sym, ap, ◌∙◌}
use Rattle.std.proofs.lemmas.Grind.{flat_map-append}
use Rattle.std.proofs.lemmas.List.{map-append}
use Rattle.std.specs.List.{flat_map, AllByRecursion}
use Rattle.ydeclarations.specs.declared.outline.Listed.{Listed}
use Rattle.ysyntax.specs.Tree.{Identifier}
use Rattle.ydeclarations.specs.Elaboration.{option_list}
use Rattle.ydeclarations.specs.OutlineSites.{digits_at, entries_in, is_of_rule, left_of, lefts_in}
use Rattle.ydeclarations.specs.OutlineSites.{listed_entry, numbers_at}
use Rattle.ydeclarations.specs.OutlineSites.{name_at, occurrence_at, prec_of, precs_in, start_at}
use Rattle.ydeclarations.specs.OutlineSites.{starts_in, symbol_in, typed_in, typed_of, use_of}
use Rattle.ydeclarations.specs.OutlineSites.{used_in}
use Rattle.ydeclarations.specs.Places.{digits_of, listed_of, select, start_of}
use Rattle.ysyntax.specs.declared.tree.BodyPart.{BodyPart as CodeBodyPart}
use Rattle.ysyntax.specs.declared.tree.BodyPart.TheVariants as items
use Rattle.ysyntax.specs.declared.tree.Definition.{Definition as CodeDefinition}
use Rattle.ysyntax.specs.declared.tree.Definition.TheVariants as definitions
use Rattle.ysyntax.specs.declared.tree.Digits.{Digits}
use Rattle.ysyntax.specs.declared.tree.Entry.{Entry as CodeEntry}
use Rattle.ysyntax.specs.declared.tree.Listing.{Listing as CodeListing}
use Rattle.ysyntax.specs.declared.tree.NameAt.{NameAt}
use Rattle.ysyntax.specs.declared.tree.Occurrence.{Occurrence}
use Rattle.ysyntax.specs.declared.tree.RuleText.{RuleText as CodeRuleText}
use Rattle.ysyntax.specs.TreeViews.{name_view}
use Rattle.ysyntax.specs.Sites.{each, Role, Site, prec_name, tag, typed, left_side}
use Rattle.ysyntax.specs.SiteViews.{body_part_sites, definition_sites, digits_site, entry_sites}
use Rattle.ysyntax.specs.SiteViews.{name_site, occurrence_site, one, rule_text_sites}

-- ---- piece by piece

pub select_append : {A : Type 0} (f : Role → Option A) (xs ys : List Site) →
    select f (xs ++ ys) ≡ select f xs ++ select f ys
select_append {A = A} f xs ys =
    flat_map-append (λ (s : Site). each (λ (x : A). (x, s.at) ∷ []) (f s.role)) xs ys

-- where each piece has what stands in it, all have
gather : {X Y A : Type 0} (f : Role → Option A) (g : X → List Site) (h : X → List Y)
    (v : Y → A × ℕ) → ((x : X) → map v (h x) ≡ select f (g x)) → (xs : List X) →
    map v (flat_map h xs) ≡ select f (flat_map g xs)
gather f g h v same [] = refl
gather f g h v same (x ∷ xs) = map-append v (h x) (flat_map h xs)
    ∙ ap (λ z. z ++ map v (flat_map h xs)) (same x)
    ∙ ap (λ z. select f (g x) ++ z) (gather f g h v same xs)
    ∙ sym (select_append f (g x) (flat_map g xs))

-- what is seen of the things of pieces is what the sites of the pieces have
abbrev Sees : {X Y A : Type 0} → (Role → Option A) → (X → List Site) → (X → List Y) →
    (Y → A × ℕ) → Type 0
Sees {X} {Y} f g h v = (xs : List X) (ys : List Y) → ys ≡ flat_map h xs →
    map v ys ≡ select f (flat_map g xs)

sees : {X Y A : Type 0} (f : Role → Option A) (g : X → List Site) (h : X → List Y)
    (v : Y → A × ℕ) → ((x : X) → map v (h x) ≡ select f (g x)) → Sees f g h v
sees f g h v same xs ys e = ap (λ z. map v z) e ∙ gather f g h v same xs

-- where no piece has any, there is none
gather_none : {X A : Type 0} (f : Role → Option A) (g : X → List Site) →
    ((x : X) → select f (g x) ≡ []) → (xs : List X) → select f (flat_map g xs) ≡ []
gather_none f g same [] = refl
gather_none f g same (x ∷ xs) = select_append f (g x) (flat_map g xs)
    ∙ ap (λ z. z ++ select f (flat_map g xs)) (same x) ∙ gather_none f g same xs

-- where a site of the kind is none of those asked for, one at most is none
one_none : {X A : Type 0} (f : Role → Option A) (g : X → Site) → ((x : X) → f (g x).role ≡ None) →
    (o : Option X) → select f (one g o) ≡ []
one_none f g none None = refl
one_none f g none (Some x) = rw (none x) refl

none_typed : {A : Type 0} (f : Role → Option A) → ((n : List ℕ) → f (typed n) ≡ None) →
    (ns : List NameAt) → [] ≡ select f (map (name_site typed) ns)
none_typed f none [] = refl
none_typed f none (n ∷ ns) = rw (none (name_view n)) (none_typed f none ns)

-- two pieces that have none, and the second alone
behind_none : {A : Type 0} (f : Role → Option A) (xs ys : List Site) → select f xs ≡ [] →
    select f (xs ++ ys) ≡ select f ys
behind_none f xs ys e = select_append f xs ys ∙ ap (λ z. z ++ select f ys) e

all_append : (P : Site → Type 0) (xs ys : List Site) → AllByRecursion P xs → AllByRecursion P ys →
    AllByRecursion P (xs ++ ys)
all_append P [] ys a b = b
all_append P (x ∷ xs) ys a b = (a.0, all_append P xs ys a.1 b)

all_pieces : {X : Type 0} (P : Site → Type 0) (g : X → List Site) →
    ((x : X) → AllByRecursion P (g x)) → (xs : List X) → AllByRecursion P (flat_map g xs)
all_pieces P g each [] = tt
all_pieces P g each (x ∷ xs) = all_append P (g x) (flat_map g xs) (each x)
    (all_pieces P g each xs)

-- ---- declarations

abbrev OfDeclaration : Site → Type 0
OfDeclaration s = is_of_rule s.role ≡ false

-- a line of listings has what its entries have, where its tag is none
listing_piece : {A : Type 0} (f : Role → Option A) → ((n : List ℕ) → f (tag n) ≡ None) →
    (l : CodeListing) {v : List (A × ℕ)} → v ≡ select f (flat_map entry_sites l.entries.items) →
    v ≡ select f (definition_sites (definitions.Listing l))
listing_piece f none l e = e
    ∙ sym (behind_none f (one (name_site tag) l.tag) (flat_map entry_sites l.entries.items)
    (one_none f (name_site tag) (λ n. none (name_view n)) l.tag))

names_typed : (ns : List NameAt) → map name_at ns ≡ select typed_of (map (name_site typed) ns)
names_typed [] = refl
names_typed (n ∷ ns) = ap (λ z. name_at n ∷ z) (names_typed ns)

typed_piece : (d : CodeDefinition) → map name_at (typed_in d) ≡ select typed_of (definition_sites d)
typed_piece (definitions.Types t) = names_typed t.names.items
typed_piece (definitions.Listing l) = listing_piece typed_of (λ n. refl) l (sym (gather_none typed_of
    entry_sites (λ e. one_none typed_of digits_site (λ d. refl) e.digits) l.entries.items))
typed_piece _ = refl

pub typed_sites : Sees typed_of definition_sites typed_in name_at
typed_sites = sees typed_of definition_sites typed_in name_at typed_piece

start_piece : (d : CodeDefinition) → map start_at (starts_in d) ≡ select start_of (definition_sites d)
start_piece (definitions.Types t) = none_typed start_of (λ n. refl) t.names.items
start_piece (definitions.Listing l) = listing_piece start_of (λ n. refl) l (sym (gather_none start_of
    entry_sites (λ e. one_none start_of digits_site (λ d. refl) e.digits) l.entries.items))
start_piece _ = refl

pub start_sites : Sees start_of definition_sites starts_in start_at
start_sites = sees start_of definition_sites starts_in start_at start_piece

abbrev entry_at : CodeEntry → Identifier × ℕ
entry_at e = occurrence_at e.who

entries_listed : (es : List CodeEntry) →
    map entry_at es ≡ select listed_of (flat_map entry_sites es)
entries_listed [] = refl
entries_listed (e ∷ es) = ap (λ z. entry_at e ∷ z) (entries_listed es
    ∙ sym (behind_none listed_of (one digits_site e.digits) (flat_map entry_sites es)
    (one_none listed_of digits_site (λ d. refl) e.digits)))

listed_piece : (d : CodeDefinition) →
    map entry_at (entries_in d) ≡ select listed_of (definition_sites d)
listed_piece (definitions.Types t) = none_typed listed_of (λ n. refl) t.names.items
listed_piece (definitions.Listing l) =
    listing_piece listed_of (λ n. refl) l (entries_listed l.entries.items)
listed_piece _ = refl

abbrev entry_numbers : CodeEntry → List (List ℕ × ℕ)
entry_numbers e = map digits_at (option_list e.digits)

digits_number_sites : (o : Option Digits) →
    map digits_at (option_list o) ≡ select digits_of (one digits_site o)
digits_number_sites None = refl
digits_number_sites (Some d) = refl

entries_numbered : (es : List CodeEntry) →
    flat_map entry_numbers es ≡ select digits_of (flat_map entry_sites es)
entries_numbered [] = refl
entries_numbered (e ∷ es) = ap (λ z. z ++ flat_map entry_numbers es) (digits_number_sites e.digits)
    ∙ ap (λ z. select digits_of (one digits_site e.digits) ++ z) (entries_numbered es)
    ∙ sym (select_append digits_of (one digits_site e.digits) (flat_map entry_sites es))

numbers_piece : (d : CodeDefinition) →
    flat_map entry_numbers (entries_in d) ≡ select digits_of (definition_sites d)
numbers_piece (definitions.Types t) = none_typed digits_of (λ n. refl) t.names.items
numbers_piece (definitions.Listing l) =
    listing_piece digits_of (λ n. refl) l (entries_numbered l.entries.items)
numbers_piece _ = refl

gather_numbers : (ds : List CodeDefinition) →
    flat_map entry_numbers (flat_map entries_in ds) ≡ select digits_of (flat_map definition_sites ds)
gather_numbers [] = refl
gather_numbers (d ∷ ds) = flat_map-append entry_numbers (entries_in d) (flat_map entries_in ds)
    ∙ ap (λ z. z ++ flat_map entry_numbers (flat_map entries_in ds)) (numbers_piece d)
    ∙ ap (λ z. select digits_of (definition_sites d) ++ z) (gather_numbers ds)
    ∙ sym (select_append digits_of (definition_sites d) (flat_map definition_sites ds))

declaration_piece : (d : CodeDefinition) → AllByRecursion OfDeclaration (definition_sites d)
declaration_piece (definitions.Types t) = (refl, go t.names.items)
  where
    go : (ns : List NameAt) → AllByRecursion OfDeclaration (map (name_site typed) ns)
    go [] = tt
    go (n ∷ ns) = (refl, go ns)
declaration_piece (definitions.Start m at) = (refl, (refl, tt))
declaration_piece (definitions.Union t) = tt
declaration_piece definitions.Block = tt
declaration_piece (definitions.Listing l) =
    all_append OfDeclaration (one (name_site tag) l.tag) (flat_map entry_sites l.entries.items)
    (tagged l.tag) (all_pieces OfDeclaration entry_sites (λ e. (refl, numbered e.digits))
    l.entries.items)
  where
    tagged : (o : Option NameAt) → AllByRecursion OfDeclaration (one (name_site tag) o)
    tagged None = tt
    tagged (Some n) = (refl, tt)

    numbered : (o : Option Digits) → AllByRecursion OfDeclaration (one digits_site o)
    numbered None = tt
    numbered (Some d) = (refl, tt)

-- the sites of declarations are of no rule
pub of_declarations : (ds : List CodeDefinition) →
    AllByRecursion (λ s. is_of_rule s.role ≡ false) (flat_map definition_sites ds)
of_declarations ds = all_pieces OfDeclaration definition_sites declaration_piece ds

pub number_sites : (ds : List CodeDefinition) (xs : List Listed) →
    map listed_entry xs ≡ flat_map entries_in ds →
    flat_map numbers_at xs ≡ select digits_of (flat_map definition_sites ds)
number_sites ds xs e = seen xs ∙ ap (λ (z : List CodeEntry). flat_map entry_numbers z) e
    ∙ gather_numbers ds
  where
    seen : (ys : List Listed) → flat_map numbers_at ys ≡ flat_map entry_numbers (map listed_entry ys)
    seen [] = refl
    seen (y ∷ ys) = ap (λ z. map digits_at (option_list y.digits) ++ z) (seen ys)

pub listed_sites : (ds : List CodeDefinition) (xs : List Listed) →
    map listed_entry xs ≡ flat_map entries_in ds →
    map (λ (l : Listed). occurrence_at l.who) xs ≡ select listed_of (flat_map definition_sites ds)
listed_sites ds xs e = seen xs ∙ ap (λ (z : List CodeEntry). map entry_at z) e
    ∙ gather listed_of definition_sites entries_in entry_at listed_piece ds
  where
    seen : (xs : List Listed) →
        map (λ (l : Listed). occurrence_at l.who) xs ≡ map entry_at (map listed_entry xs)
    seen [] = refl
    seen (x ∷ xs) = ap (λ z. occurrence_at x.who ∷ z) (seen xs)

-- ---- rules

abbrev OfRule : Site → Type 0
OfRule s = is_of_rule s.role ≡ true

-- what stands after the left side of a rule
abbrev tail_sites : List CodeBodyPart → Option Occurrence → List Site
tail_sites bs p = flat_map body_part_sites bs ++ one (occurrence_site prec_name) p

tail_no_left : (bs : List CodeBodyPart) (p : Option Occurrence) → select left_of (tail_sites bs p) ≡ []
tail_no_left [] None = refl
tail_no_left [] (Some m) = refl
tail_no_left (items.Symbol m ∷ bs) p = tail_no_left bs p
tail_no_left (items.Action b ∷ bs) p = tail_no_left bs p

left_piece : (c : CodeRuleText) → map name_at (lefts_in c) ≡ select left_of (rule_text_sites c)
left_piece c = go c.left
  where
    go : (o : Option NameAt) → map name_at (option_list o)
        ≡ select left_of (one (name_site left_side) o ++ tail_sites c.body.items c.prec)
    go None = sym (tail_no_left c.body.items c.prec)
    go (Some n) = ap (λ z. name_at n ∷ z) (sym (tail_no_left c.body.items c.prec))

pub left_sites : Sees left_of rule_text_sites lefts_in name_at
left_sites = sees left_of rule_text_sites lefts_in name_at left_piece

-- a rule has what stands after its left side, where that side is none
tail_piece : {A : Type 0} (f : Role → Option A) → ((n : List ℕ) → f (left_side n) ≡ None) →
    (c : CodeRuleText) {v : List (A × ℕ)} → v ≡ select f (tail_sites c.body.items c.prec) →
    v ≡ select f (rule_text_sites c)
tail_piece f none c e = e
    ∙ sym (behind_none f (one (name_site left_side) c.left) (tail_sites c.body.items c.prec)
    (one_none f (name_site left_side) (λ n. none (name_view n)) c.left))

tail_uses : (bs : List CodeBodyPart) (p : Option Occurrence) →
    map occurrence_at (flat_map symbol_in bs ++ option_list p) ≡ select use_of (tail_sites bs p)
tail_uses [] None = refl
tail_uses [] (Some m) = refl
tail_uses (items.Symbol m ∷ bs) p = ap (λ z. occurrence_at m ∷ z) (tail_uses bs p)
tail_uses (items.Action b ∷ bs) p = tail_uses bs p

pub use_sites : Sees use_of rule_text_sites used_in occurrence_at
use_sites = sees use_of rule_text_sites used_in occurrence_at
    (λ c. tail_piece use_of (λ n. refl) c (tail_uses c.body.items c.prec))

tail_precs : (bs : List CodeBodyPart) (p : Option Occurrence) →
    map occurrence_at (option_list p) ≡ select prec_of (tail_sites bs p)
tail_precs [] None = refl
tail_precs [] (Some m) = refl
tail_precs (items.Symbol m ∷ bs) p = tail_precs bs p
tail_precs (items.Action b ∷ bs) p = tail_precs bs p

pub prec_sites : Sees prec_of rule_text_sites precs_in occurrence_at
prec_sites = sees prec_of rule_text_sites precs_in occurrence_at
    (λ c. tail_piece prec_of (λ n. refl) c (tail_precs c.body.items c.prec))

rule_piece : (c : CodeRuleText) → AllByRecursion OfRule (rule_text_sites c)
rule_piece c = all_append OfRule (one (name_site left_side) c.left) (tail_sites c.body.items c.prec)
    (left c.left) (tail c.body.items c.prec)
  where
    left : (o : Option NameAt) → AllByRecursion OfRule (one (name_site left_side) o)
    left None = tt
    left (Some n) = (refl, tt)

    tail : (bs : List CodeBodyPart) (p : Option Occurrence) → AllByRecursion OfRule (tail_sites bs p)
    tail [] None = tt
    tail [] (Some m) = (refl, tt)
    tail (items.Symbol m ∷ bs) p = (refl, tail bs p)
    tail (items.Action b ∷ bs) p = tail bs p

-- the sites of rules are those
pub of_rules : (cs : List CodeRuleText) →
    AllByRecursion (λ s. is_of_rule s.role ≡ true) (flat_map rule_text_sites cs)
of_rules cs = all_pieces OfRule rule_text_sites rule_piece cs
