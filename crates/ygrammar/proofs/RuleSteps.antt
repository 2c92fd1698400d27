-- Bodies, their final actions, and rules by number.
use Rattle.std.proofs.Common.{ℕ, suc, ◌≡◌, List, [], ◌∷◌, ◌++◌, map, Option, Some, None, refl, sym}
use Rattle.std.proofs.Common.{◌∙◌, ap, append_assoc, append-nil, length}
use Rattle.std.proofs.lemmas.List.{map-append}
use Rattle.ysyntax.specs.declared.tree.BodyPart.{BodyPart as CodeBodyPart}
use Rattle.ysyntax.specs.declared.tree.BracedText.{BracedText}
use Rattle.ysyntax.specs.declared.tree.BodyPart.TheVariants as items
use Rattle.ysyntax.specs.declared.tree.Occurrence.{Occurrence}
use Rattle.ysyntax.specs.Tree.{BodyPart, symbol, action, RuleText}
use Rattle.ysyntax.specs.TreeViews.{braced_view, body_part_view, occurrence_view}
use Rattle.ysymbols.specs.Sources.{option_view}
use Rattle.ydeclarations.specs.Elaboration.{split_last, final_of, Body, Rule, body_from, inner_rule}
use Rattle.ydeclarations.specs.Elaboration.{or_else, precedence_at, rules_from}
use Rattle.ysymbols.specs.declared.precedence.Precedence.{Precedence}
use Rattle.ysymbols.specs.Names.{Name, number_in}
use Rattle.ygrammar.specs.Numbered.{chosen_token, inner_numbers, rule_numbers, rule_precedence}
use Rattle.ysymbols.specs.Grammar.{RuleValue}

-- after other parts the last one is split off as where it stands alone
last_part : (xs : List BodyPart) (x : BodyPart) → split_last (xs ++ x ∷ []) ≡
    (xs ++ (split_last (x ∷ [])).0, (split_last (x ∷ [])).1)
last_part [] x = refl
last_part (symbol i ∷ []) x = refl
last_part (action u ∷ []) x = refl
last_part (symbol i ∷ (y ∷ xs)) x = ap (λ (r : List BodyPart × Option (List ℕ)).
    (symbol i ∷ r.0, r.1)) (last_part (y ∷ xs) x)
last_part (action u ∷ (y ∷ xs)) x = ap (λ (r : List BodyPart × Option (List ℕ)).
    (action u ∷ r.0, r.1)) (last_part (y ∷ xs) x)

-- the last part of a body is an action
pub ends_action : (last : Option BracedText) (body whole rest : List CodeBodyPart)
    (x : CodeBodyPart)
    (b : BracedText) → last ≡ None → whole ≡ body → whole ≡ rest ++ x ∷ [] → x ≡ items.Action b →
    final_of (option_view braced_view last) (map body_part_view body) ≡ (
      map body_part_view rest,
      Some b.text.now,
    )
ends_action last body whole rest x b n w e f =
    ap (λ (o : Option BracedText). final_of (option_view braced_view o) (map body_part_view body)) n
    ∙ ap split_last (ap (map body_part_view) (sym w ∙ e) ∙ map-append body_part_view rest
    (x ∷ []) ∙ ap
    (λ (y : CodeBodyPart). map body_part_view rest ++ body_part_view y ∷ []) f)
    ∙ last_part (map body_part_view rest) (action b.text.now)
    ∙ ap (λ (l : List BodyPart). (l, Some b.text.now)) (append-nil (map body_part_view rest))

-- it is a name or a literal
pub ends_symbol : (last : Option BracedText) (body whole rest : List CodeBodyPart)
    (x : CodeBodyPart)
    (m : Occurrence) → last ≡ None → whole ≡ body → whole ≡ rest ++ x ∷ [] → x ≡ items.Symbol m →
    final_of (option_view braced_view last) (map body_part_view body) ≡ (
      map body_part_view whole,
      None,
    )
ends_symbol last body whole rest x m n w e f =
    let u : map body_part_view whole ≡ map body_part_view rest ++ symbol (occurrence_view m) ∷ [] =
    ap (map body_part_view) e ∙ map-append body_part_view rest (x ∷ []) ∙ ap
    (λ (y : CodeBodyPart). map body_part_view rest ++ body_part_view y ∷ []) f in
    ap (λ (o : Option BracedText). final_of (option_view braced_view o) (map body_part_view body)) n
    ∙ ap split_last (ap (map body_part_view) (sym w) ∙ u)
    ∙ last_part (map body_part_view rest) (symbol (occurrence_view m))
    ∙ ap (λ (l : List BodyPart). (l, None)) (sym u)

-- the rules of inner actions have no precedence
pub inner_are : (ns : List Name) (given : List (Option Precedence)) (k : ℕ) (xs : List BodyPart) →
    map (rule_numbers ns given) (body_from k xs).inner ≡ map (inner_numbers ns)
    (body_from k xs).inner
inner_are ns given k [] = refl
inner_are ns given k (symbol i ∷ xs) = inner_are ns given k xs
inner_are ns given k (action t ∷ xs) =
    ap (λ (rs : List RuleValue). inner_numbers ns (inner_rule k t) ∷ rs)
    (inner_are ns given (suc k) xs)

-- one more rule of the file is put after the rules of its inner actions
pub rule_step : (ns : List Name) (given : List (Option Precedence)) (before : Name) (k : ℕ)
    (cv : RuleText) (cs : List RuleText) (items : List BodyPart) (left : Name) (symbols : List ℕ)
    (next l : ℕ) (p : Option Precedence) (old mid new whole : List RuleValue)
    → items ≡ (final_of cv.last cv.body).0
    → mid ≡ old ++ map (inner_numbers ns) (body_from k items).inner
    → symbols ≡ map (number_in ns) (body_from k items).symbols
    → next ≡ (body_from k items).next
    → p ≡ precedence_at given (chosen_token ns (length given) cv.prec symbols)
    → left ≡ or_else cv.left before
    → l ≡ number_in ns left
    → new ≡ mid ++ record { production = record { left = l; body = symbols }; precedence = p } ∷ []
    → old ++ map (rule_numbers ns given) (rules_from before k (cv ∷ cs)) ≡ whole
    → new ++ map (rule_numbers ns given) (rules_from left next cs) ≡ whole
rule_step ns given before k cv cs items left symbols next l p old mid new whole hi hm hs hn hp hl hk
    hw hall =
    let it : List BodyPart = (final_of cv.last cv.body).0 in
    let tx : Option (List ℕ) = (final_of cv.last cv.body).1 in
    let b : Body = body_from k it in
    let lf : Name = or_else cv.left before in
    let f : Rule → RuleValue = rule_numbers ns given in
    let r : Rule = record { left = lf; body = b.symbols; prec = cv.prec; text = tx } in
    let rest : List RuleValue = map f (rules_from lf b.next cs) in
    let m : mid ≡ old ++ map (inner_numbers ns) b.inner =
    hm ∙ ap (λ (is : List BodyPart). old ++ map (inner_numbers ns) (body_from k is).inner) hi in
    let s : symbols ≡ map (number_in ns) b.symbols =
    hs ∙ ap (λ (is : List BodyPart). map (number_in ns) (body_from k is).symbols) hi in
    let q : p ≡ precedence_at given (chosen_token ns (length given) cv.prec
    (map (number_in ns) b.symbols)) =
    hp ∙ ap (λ (ss : List ℕ). precedence_at given
    (chosen_token ns (length given) cv.prec ss)) s in
    let e : l ≡ number_in ns lf = hk ∙ ap (number_in ns) hl in
    let same : number_rule l symbols p ≡ f r = same_rule l (number_in ns lf) symbols
    (map (number_in ns) b.symbols) p (rule_precedence ns given r) e s q in
    let w : new ≡ (old ++ map (inner_numbers ns) b.inner) ++ f r ∷ [] =
    hw ∙ ap (λ (x : RuleValue). mid ++ x ∷ []) same ∙ ap (λ (x : List RuleValue).
    x ++ f r ∷ []) m in
    let t : map f (rules_from left next cs) ≡ rest = ap (λ (n : Name). map f (rules_from n next cs))
    hl ∙ ap (λ n. map f (rules_from lf n cs))
    (hn ∙ ap (λ (is : List BodyPart). (body_from k is).next) hi) in
    ap (λ (x : List RuleValue). new ++ x) t
    ∙ ap (λ (x : List RuleValue). x ++ rest) w
    ∙ append_assoc (old ++ map (inner_numbers ns) b.inner) (f r ∷ []) rest
    ∙ append_assoc old (map (inner_numbers ns) b.inner) (f r ∷ rest)
    ∙ ap (λ (x : List RuleValue). old ++ (x ++ f r ∷ rest)) (sym (inner_are ns given k it))
    ∙ ap (λ (x : List RuleValue). old ++ x)
    (sym (map-append f b.inner (r ∷ rules_from lf b.next cs)))
    ∙ hall
  where
    number_rule : ℕ → List ℕ → Option Precedence → RuleValue
    number_rule l s p = record { production = record { left = l; body = s }; precedence = p }

    same_rule : (l m : ℕ) (s u : List ℕ) (p q : Option Precedence) → l ≡ m → s ≡ u → p ≡ q →
        number_rule l s p ≡ number_rule m u q
    same_rule l m s u p q a b c =
        ap (λ x. number_rule x s p) a
        ∙ ap (λ x. number_rule m x p) b
        ∙ ap (λ x. number_rule m u x) c
