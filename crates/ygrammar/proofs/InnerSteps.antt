-- The numbers of inner actions: there are no more than lexemes.
use Rattle.std.proofs.Common.{ℕ, suc, ◌≡◌, ◌<◌, ◌≤◌, ◌+◌, List, [], ◌∷◌, ◌++◌, length, Option, sym}
use Rattle.std.proofs.Common.{Some, None, ◌∙◌, ap, map, arith, drop, get_or, refl, length-append}
use Rattle.std.specs.List.{flat_map}
use Rattle.std.proofs.lemmas.List.{append_assoc, append-nil, at_drop_all, drop_more, length-map}
use Rattle.std.proofs.lemmas.List.{map-append}
use Rattle.ylexemes.specs.declared.kind.Sign.TheVariants.{Mark}
use Rattle.ysyntax.specs.declared.tree.BodyPart.{BodyPart as CodeBodyPart}
use Rattle.ysyntax.specs.declared.tree.BodyPart.TheVariants as items
use Rattle.ysyntax.specs.declared.tree.BracedText.{BracedText}
use Rattle.ysyntax.specs.declared.tree.RuleText.{RuleText as CodeRuleText}
use Rattle.ysyntax.specs.TreeViews.{body_part_view, rule_text_view}
use Rattle.ydeclarations.specs.Elaboration.{Body, Rule, body_from, final_of, split_last}
use Rattle.ysymbols.specs.Grammar.{RuleValue}
use Rattle.ysymbols.specs.Names.{Name}
use Rattle.ylexemes.specs.Lexemes.{Lexeme, fixed}
use Rattle.ygrammar.specs.Numbered.{inner_after}
use Rattle.ysyntax.specs.Tree.{RuleText, BodyPart, symbol, action, Tree, rule_text_yield}
use Rattle.ysyntax.specs.Tree.{definition_yield}
use Rattle.ysyntax.specs.Tree.{end_yield, body_part_yield, mark_yield, yield}

-- ---- numbers grow

body_later : (k : ℕ) (xs : List BodyPart) → k ≤ (body_from k xs).next
body_later k [] = omega arith
body_later k (symbol i ∷ xs) = body_later k xs
body_later k (action t ∷ xs) = let h : suc k ≤ (body_from (suc k) xs).next =
    body_later (suc k) xs in omega arith

rules_later : (k : ℕ) (cs : List RuleText) → k ≤ inner_after k cs
rules_later k [] = omega arith
rules_later k (c ∷ cs) =
    let a = body_later k (final_of c.last c.body).0 in
    let b = rules_later (body_from k (final_of c.last c.body).0).next cs in
    omega arith

-- after an action there is one more
pub action_room : (xs : List CodeBodyPart) (i k m n : ℕ) (t : BracedText) (d : CodeBodyPart) →
    get_or xs i d ≡ items.Action t → i < length xs →
    (body_from k (map body_part_view (drop i xs))).next ≡ m → m < n → k + 1 < n
action_room xs i k m n t d e h w l =
    let rest : List BodyPart = map body_part_view (drop (i + 1) xs) in
    let a : drop i xs ≡ items.Action t ∷ drop (i + 1) xs =
    drop_more xs i d h ∙ ap (λ (y : CodeBodyPart). y ∷ drop (i + 1) xs) e in
    let b : (body_from (suc k) rest).next ≡ m =
    sym (ap (λ (ys : List CodeBodyPart). (body_from k (map body_part_view ys)).next) a) ∙ w in
    let f : suc k ≤ (body_from (suc k) rest).next = body_later (suc k) rest in
    omega (arith, b)

-- ---- one part of a body on

step_inner : (k : ℕ) (x : BodyPart) (xs : List BodyPart) → (body_from k (x ∷ xs)).inner
    ≡ (body_from k (x ∷ [])).inner ++ (body_from (body_from k (x ∷ [])).next xs).inner
step_inner k (symbol i) xs = refl
step_inner k (action t) xs = refl

step_symbols : (k : ℕ) (x : BodyPart) (xs : List BodyPart) → (body_from k (x ∷ xs)).symbols
    ≡ (body_from k (x ∷ [])).symbols ++ (body_from (body_from k (x ∷ [])).next xs).symbols
step_symbols k (symbol i) xs = refl
step_symbols k (action t) xs = refl

step_next : (k : ℕ) (x : BodyPart) (xs : List BodyPart) → (body_from k (x ∷ xs)).next
    ≡ (body_from (body_from k (x ∷ [])).next xs).next
step_next k (symbol i) xs = refl
step_next k (action t) xs = refl

-- a part of a body, as the code reads it
part_read : (cs : List CodeBodyPart) (i : ℕ) (d : CodeBodyPart) → i < length cs →
    map body_part_view (drop i cs)
    ≡ body_part_view (get_or cs i d) ∷ map body_part_view (drop (i + 1) cs)
part_read cs i d h = ap (λ (ys : List CodeBodyPart). map body_part_view ys) (drop_more cs i d h)

-- what a part adds, and what is left to be added after it
abbrev Pushes : {A B : Type 0} → (A → B) → (Body → List A) → Type 0
Pushes {A} {B} f adds = (cs : List CodeBodyPart) (i k n : ℕ) (d : CodeBodyPart)
    (old new all : List B) → i < length cs →
    n ≡ (body_from k (body_part_view (get_or cs i d) ∷ [])).next →
    new ≡ old ++ map f (adds (body_from k (body_part_view (get_or cs i d) ∷ []))) →
    old ++ map f (adds (body_from k (map body_part_view (drop i cs)))) ≡ all →
    new ++ map f (adds (body_from n (map body_part_view (drop (i + 1) cs)))) ≡ all

pushed : {A B : Type 0} (f : A → B) (adds : Body → List A) → ((k : ℕ) (x : BodyPart)
    (xs : List BodyPart) → adds (body_from k (x ∷ xs)) ≡ adds (body_from k (x ∷ []))
    ++ adds (body_from (body_from k (x ∷ [])).next xs)) → Pushes f adds
pushed {A = A} {B = B} f adds step cs i k n d old new all h e g w =
    let x : BodyPart = body_part_view (get_or cs i d) in
    let rest : List BodyPart = map body_part_view (drop (i + 1) cs) in
    let here : List A = adds (body_from k (x ∷ [])) in
    let left : List A = adds (body_from n rest) in
    let all_of : here ++ left ≡ adds (body_from k (map body_part_view (drop i cs))) =
    ap (λ m. here ++ adds (body_from m rest)) e
    ∙ sym (step k x rest)
    ∙ ap (λ (ys : List BodyPart). adds (body_from k ys)) (sym (part_read cs i d h)) in
    ap (λ (ys : List B). ys ++ map f left) g
    ∙ append_assoc old (map f here) (map f left)
    ∙ ap (λ (ys : List B). old ++ ys)
    (sym (map-append f here left) ∙ ap (λ (ys : List A). map f ys) all_of)
    ∙ w

pub inner_pushed : (f : Rule → RuleValue) → Pushes f (λ (b : Body). b.inner)
inner_pushed f = pushed f (λ (b : Body). b.inner) step_inner

pub symbols_pushed : (f : Name → ℕ) → Pushes f (λ (b : Body). b.symbols)
symbols_pushed f = pushed f (λ (b : Body). b.symbols) step_symbols

-- where no part is left, all is added
all_pushed : {A B : Type 0} (f : A → B) (adds : Body → List A) → ((k : ℕ) →
    adds (body_from k []) ≡ []) → (cs : List CodeBodyPart) (i k : ℕ) (old all : List B) →
    length cs ≤ i → old ++ map f (adds (body_from k (map body_part_view (drop i cs)))) ≡ all →
    old ≡ all
all_pushed {A = A} f adds none cs i k old all h w =
    sym (append-nil old)
    ∙ ap (λ (ys : List A). old ++ map f ys) (sym (none k) ∙ sym (at_drop_all
    (λ (ys : List CodeBodyPart). adds (body_from k (map body_part_view ys))) cs i h))
    ∙ w

pub inner_all : (f : Rule → RuleValue) (cs : List CodeBodyPart) (i k : ℕ)
    (old all : List RuleValue) → length cs ≤ i →
    old ++ map f (body_from k (map body_part_view (drop i cs))).inner ≡ all → old ≡ all
inner_all f = all_pushed f (λ (b : Body). b.inner) (λ k. refl)

pub symbols_all : (f : Name → ℕ) (cs : List CodeBodyPart) (i k : ℕ) (old all : List ℕ) →
    length cs ≤ i → old ++ map f (body_from k (map body_part_view (drop i cs))).symbols ≡ all →
    old ≡ all
symbols_all f = all_pushed f (λ (b : Body). b.symbols) (λ k. refl)

pub next_pushed : (cs : List CodeBodyPart) (i k n m : ℕ) (d : CodeBodyPart) → i < length cs →
    n ≡ (body_from k (body_part_view (get_or cs i d) ∷ [])).next →
    (body_from k (map body_part_view (drop i cs))).next ≡ m →
    (body_from n (map body_part_view (drop (i + 1) cs))).next ≡ m
next_pushed cs i k n m d h e w =
    let rest : List BodyPart = map body_part_view (drop (i + 1) cs) in
    ap (λ j. (body_from j rest).next) e
    ∙ sym (step_next k (body_part_view (get_or cs i d)) rest)
    ∙ ap (λ (ys : List BodyPart). (body_from k ys).next) (sym (part_read cs i d h))
    ∙ w

-- the number after a part is no more than that after the body
pub part_room : (cs : List CodeBodyPart) (i k m n : ℕ) (d : CodeBodyPart) → i < length cs →
    (body_from k (map body_part_view (drop i cs))).next ≡ m → m < n →
    (body_from k (body_part_view (get_or cs i d) ∷ [])).next < n
part_room cs i k m n d h w l =
    let next = (body_from k (body_part_view (get_or cs i d) ∷ [])).next in
    let rest : List BodyPart = map body_part_view (drop (i + 1) cs) in
    let a : (body_from next rest).next ≡ m = next_pushed cs i k next m d h refl w in
    let b : next ≤ (body_from next rest).next = body_later next rest in
    omega (arith, a)

-- ---- rules of the file

-- a rule of the file, as the code reads it
pub rule_text_read : (cs : List CodeRuleText) (i : ℕ) (x : CodeRuleText) → x ≡ get_or cs i x →
    i < length cs → drop i cs ≡ x ∷ drop (i + 1) cs
rule_text_read cs i x e h =
    drop_more cs i x h ∙ ap (λ (y : CodeRuleText). y ∷ drop (i + 1) cs) (sym e)

-- one rule of the file on, the last number is the same
pub rule_text_counts : (cs : List CodeRuleText) (i k next m : ℕ) (x : CodeRuleText) (xs : List
    BodyPart) →
    x ≡ get_or cs i x → i < length cs →
    xs ≡ (final_of (rule_text_view x).last (rule_text_view x).body).0 → next ≡ (body_from k xs).next
    →
    inner_after k (map rule_text_view (drop i cs)) ≡ m →
    inner_after next (map rule_text_view (drop (i + 1) cs)) ≡ m
rule_text_counts cs i k next m x xs r h e f w =
    ap (λ n. inner_after n (map rule_text_view (drop (i + 1) cs)))
    (f ∙ ap (λ (ys : List BodyPart). (body_from k ys).next) e)
    ∙ sym (ap (λ (ys : List CodeRuleText). inner_after k (map rule_text_view ys))
    (rule_text_read cs i x r h)) ∙ w

-- after its body there is room
pub rule_text_room : (cs : List CodeRuleText) (i k m n : ℕ) (x : CodeRuleText) (xs : List BodyPart)
    →
    x ≡ get_or cs i x → i < length cs →
    xs ≡ (final_of (rule_text_view x).last (rule_text_view x).body).0 →
    inner_after k (map rule_text_view (drop i cs)) ≡ m → m < n → (body_from k xs).next < n
rule_text_room cs i k m n x xs r h e w l =
    let next = (body_from k xs).next in
    let rest : List RuleText = map rule_text_view (drop (i + 1) cs) in
    let a : inner_after next rest ≡ m = rule_text_counts cs i k next m x xs r h e refl w in
    let b : next ≤ inner_after next rest = rules_later next rest in
    omega (arith, a)

-- ---- how many there are

body_count : (k : ℕ) (xs : List BodyPart) → (body_from k xs).next ≤ k + length xs
body_count k [] = omega arith
body_count k (symbol i ∷ xs) = let h : (body_from k xs).next ≤ k + length xs = body_count k xs in
    omega arith
body_count k (action t ∷ xs) = let h : (body_from (suc k) xs).next ≤ suc k + length xs =
    body_count (suc k) xs in omega arith

split_count : (xs : List BodyPart) → length (split_last xs).0 ≤ length xs
split_count [] = omega arith
split_count (symbol i ∷ []) = omega arith
split_count (action t ∷ []) = omega arith
split_count (i ∷ j ∷ xs) = let h : length (split_last (j ∷ xs)).0 ≤ length (j ∷ xs) =
    split_count (j ∷ xs) in omega arith

final_count : (last : Option (List ℕ)) (xs : List BodyPart) → length (final_of last xs).0 ≤ length
    xs
final_count (Some t) xs = omega arith
final_count None xs = split_count xs

rules_count : (k : ℕ) (cs : List RuleText) → inner_after k cs ≤ k + length
    (flat_map rule_text_yield cs)
rules_count k [] = omega arith
rules_count k (c ∷ cs) =
    let xs : List BodyPart = (final_of c.last c.body).0 in
    let end : List Lexeme = end_yield c.prec c.last c.semicolons in
    let body : List Lexeme = map body_part_yield c.body in
    let a : inner_after (body_from k xs).next cs ≤ (body_from k xs).next + length
    (flat_map rule_text_yield cs) = rules_count (body_from k xs).next cs in
    let b : (body_from k xs).next ≤ k + length xs = body_count k xs in
    let d : length xs ≤ length c.body = final_count c.last c.body in
    let e : length (body ++ end) ≡ length body + length end = length-append body end in
    let f : length body ≡ length c.body = length-map c.body body_part_yield in
    let g : length (rule_text_yield c ++ flat_map rule_text_yield cs) ≡ length (rule_text_yield c) +
    length
    (flat_map rule_text_yield cs) = length-append (rule_text_yield c)
    (flat_map rule_text_yield cs) in
    omega arith

-- no more inner actions than lexemes
pub few_inner : (t : Tree) → inner_after 1 t.rule_texts ≤ 1 + length (yield t)
few_inner t =
    let front : List Lexeme = flat_map definition_yield t.definitions in
    let body : List Lexeme = flat_map rule_text_yield t.rule_texts in
    let back : List Lexeme = mark_yield t.second_mark in
    let a : length (front ++ fixed Mark ∷ (body ++ back)) ≡ length front + suc
    (length (body ++ back)) = length-append front (fixed Mark ∷ (body ++ back)) in
    let b : length (body ++ back) ≡ length body + length back = length-append body back in
    let r : inner_after 1 t.rule_texts ≤ 1 + length body = rules_count 1 t.rule_texts in
    omega arith
