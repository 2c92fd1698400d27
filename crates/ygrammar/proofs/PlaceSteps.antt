-- Where the mistakes of a tree stand.
use Rattle.std.proofs.Common.{ℕ, zero, suc, ◌≡◌, ◌<◌, ◌↔◌, arith, Bool, true, false, filter, not}
use Rattle.std.proofs.Common.{List, [], ◌∷◌, ◌++◌, length, map}
use Rattle.std.proofs.Common.{Option, Some, None, refl, sym, ap, subst, ◌∙◌, append-nil}
use Rattle.std.proofs.Common.{Result, Ok, Err, IsErrAnd}
use Rattle.std.specs.Prelude.{IfErr, slice_index_or, unwrap_or}
use Rattle.std.specs.List.{find, last_or, AllByRecursion}
use Rattle.ysymbols.specs.Grammar.{ContextFree}
use Rattle.ysymbols.specs.Forms.{Productive}
use Rattle.ysymbols.specs.Marking.{IsMarked}
use Rattle.ysymbols.specs.Names.{Name, is_among, number_in}
use Rattle.ysymbols.specs.Sources.{option_view}
use Rattle.ysymbols.proofs.NameSteps.{false_true}
use Rattle.ydeclarations.specs.declared.mistake.Refused.{Refused}
use Rattle.ydeclarations.specs.declared.mistake.Refused.TheVariants as refused
use Rattle.ydeclarations.specs.declared.outline.Outline.{Outline}
use Rattle.ydeclarations.specs.declared.outline.Started.{Started}
use Rattle.ydeclarations.specs.Elaboration.{bare_of, is_nonterminal, is_token, lefts, symbols}
use Rattle.ydeclarations.specs.Elaboration.{tokens}
use Rattle.ydeclarations.specs.OutlineSites.{IsPlaced, OutlineSites, is_of_rule, left_of, name_at}
use Rattle.ydeclarations.specs.OutlineSites.{prec_of, start_at, typed_of, use_of}
use Rattle.ydeclarations.specs.Places.{AllAt, FirstAt, IsBarren, is_bad_prec, is_token_left}
use Rattle.ydeclarations.specs.Places.{is_undefined}
use Rattle.ydeclarations.specs.Places.{last_start, select, start_of}
use Rattle.ydeclarations.specs.Printed.{printed_name}
use Rattle.ydeclarations.proofs.PlaceSteps.{all_map, first_behind, first_front, found_in, last_seen}
use Rattle.ydeclarations.proofs.PlaceSteps.{none_found}
use Rattle.ydeclarations.proofs.SiteSteps.{select_append}
use Rattle.ydeclarations.proofs.TokenSteps.{token_among}
use Rattle.ysyntax.specs.declared.tree.NameAt.{NameAt}
use Rattle.ysyntax.specs.declared.tree.Occurrence.{Occurrence}
use Rattle.ysyntax.specs.Sites.{Role, Site, start_word, used, prec_name, typed, left_side}
use Rattle.ysyntax.specs.Tree.{Identifier, Tree}
use Rattle.ysyntax.specs.TreeViews.{name_view, occurrence_view}
use Rattle.ygrammar.specs.Numbered.{is_between}
use Rattle.ygrammar.proofs.AllPlaces.{all_behind, all_found}
use Rattle.ygrammar.proofs.MistakeSteps.{between_here}
use Rattle.ygrammar.proofs.SymbolNames.{each_to_map}

abbrev InDeclaration : Site → Type 0
InDeclaration s = is_of_rule s.role ≡ false

abbrev InRule : Site → Type 0
InRule s = is_of_rule s.role ≡ true

clash : {A : Type 0} (b : Bool) → b ≡ true → b ≡ false → A
clash b t f = absurd (false_true (sym f ∙ t))

-- ---- tokens on the left

module _ (t : Tree) (ns : List Name) (are : ns ≡ tokens t) where
  token : (n : Name) → is_among ns n ≡ is_token t n
  token n = ap (λ (x : List Name). is_among x n) are ∙ token_among t n

  abbrev TokenLeft : Role → Type 0
  TokenLeft r = is_token_left t r ≡ true

  typed_yes : (r : Role) (n : Name) → typed_of r ≡ Some n → is_among ns n ≡ true → TokenLeft r
  typed_yes (typed m) n e h =
      let same : m ≡ n = cc in
      ap (is_token t) same ∙ sym (token n) ∙ h
  typed_yes _ n e h = cc

  left_yes : (r : Role) (n : Name) → left_of r ≡ Some n → is_among ns n ≡ true → TokenLeft r
  left_yes (left_side m) n e h =
      let same : m ≡ n = cc in
      ap (is_token t) same ∙ sym (token n) ∙ h
  left_yes _ n e h = cc

  typed_shows : (r : Role) → is_of_rule r ≡ false → TokenLeft r →
      (n : Name) × (typed_of r ≡ Some n) × (is_among ns n ≡ true)
  typed_shows (typed m) w h = (m, refl, token m ∙ h)
  typed_shows (left_side m) w h = cc
  typed_shows _ w h = cc

  left_shows : (r : Role) → is_of_rule r ≡ true → TokenLeft r →
      (n : Name) × (left_of r ≡ Some n) × (is_among ns n ≡ true)
  left_shows (left_side m) w h = (m, refl, token m ∙ h)
  left_shows (typed m) w h = cc
  left_shows _ w h = cc

  module _ (o : Outline) (ds rs : List Site) (out : OutlineSites o ds rs) (now : List NameAt)
      (same : now ≡ o.typed.items) (a : Option ℕ)
      (is : a ≡ option_view (λ n. n.at) (find (λ n. is_among ns (name_view n)) now)) where
    shown : AllByRecursion (λ s. TokenLeft s.role → (n : Name) × (typed_of s.role ≡ Some n)
        × (is_among ns n ≡ true)) ds
    shown = all_map InDeclaration _ (λ s w. typed_shows s.role w) ds out.of_declarations

    pub token_typed_at : (at : ℕ) → a ≡ Some at → FirstAt TokenLeft (ds ++ rs) at
    token_typed_at at h = first_front TokenLeft ds rs at
        (found_in typed_of (is_among ns) TokenLeft typed_yes name_view (λ n. n.at) o.typed.items
        now a ds same out.typed is shown at h)

    pub token_left_at : (later : List NameAt) → later ≡ o.lefts.items → (b : Option ℕ) →
        b ≡ option_view (λ n. n.at) (find (λ n. is_among ns (name_view n)) later) → a ≡ None →
        (at : ℕ) → b ≡ Some at → FirstAt TokenLeft (ds ++ rs) at
    token_left_at later e b w n at h = first_behind TokenLeft ds rs at
        (none_found typed_of (is_among ns) TokenLeft typed_yes name_view (λ n. n.at) o.typed.items
        now a ds same out.typed is shown n)
        (found_in left_of (is_among ns) TokenLeft left_yes name_view (λ n. n.at) o.lefts.items
        later b rs e out.lefts w
        (all_map InRule _ (λ s w. left_shows s.role w) rs out.of_rules) at h)

-- ---- names that are no symbols

module _ (t : Tree) (ns : List Name) (are : ns ≡ symbols t) where
  unknown : (n : Name) → not (is_among ns n) ≡ not (is_among (symbols t) n)
  unknown n = ap (λ (x : List Name). not (is_among x n)) are

  abbrev Unknown : Role → Type 0
  Unknown r = is_undefined t r ≡ true

  abbrev no_symbol : Name → Bool
  no_symbol n = not (is_among ns n)

  abbrev no_use : Identifier → Bool
  no_use i = not (is_among ns (printed_name i))

  unknown_yes : (r : Role) (n : Name) → typed_of r ≡ Some n → no_symbol n ≡ true → Unknown r
  unknown_yes (typed m) n e h =
      let same : m ≡ n = cc in
      ap (λ (x : Name). not (is_among (symbols t) x)) same ∙ sym (unknown n) ∙ h
  unknown_yes _ n e h = cc

  use_yes : (r : Role) (i : Identifier) → use_of r ≡ Some i → no_use i ≡ true → Unknown r
  use_yes (used j) i e h =
      let same : j ≡ i = cc in
      ap (λ x. not (is_among (symbols t) (printed_name x))) same
      ∙ sym (unknown (printed_name i)) ∙ h
  use_yes (prec_name j) i e h =
      let same : j ≡ i = cc in
      ap (λ x. not (is_among (symbols t) (printed_name x))) same
      ∙ sym (unknown (printed_name i)) ∙ h
  use_yes _ i e h = cc

  unknown_shows : (r : Role) → is_of_rule r ≡ false → Unknown r →
      (n : Name) × (typed_of r ≡ Some n) × (no_symbol n ≡ true)
  unknown_shows (typed m) w h = (m, refl, unknown m ∙ h)
  unknown_shows (used i) w h = cc
  unknown_shows (prec_name i) w h = cc
  unknown_shows _ w h = cc

  use_shows : (r : Role) → is_of_rule r ≡ true → Unknown r →
      (i : Identifier) × (use_of r ≡ Some i) × (no_use i ≡ true)
  use_shows (used i) w h = (i, refl, unknown (printed_name i) ∙ h)
  use_shows (prec_name i) w h = (i, refl, unknown (printed_name i) ∙ h)
  use_shows (typed m) w h = cc
  use_shows _ w h = cc

  module _ (o : Outline) (ds rs : List Site) (out : OutlineSites o ds rs) (now : List NameAt)
      (same : now ≡ o.typed.items) (a : Option ℕ)
      (is : a ≡ option_view (λ n. n.at) (find (λ n. not (is_among ns (name_view n))) now)) where
    types_shown : AllByRecursion (λ s. Unknown s.role → (n : Name) × (typed_of s.role ≡ Some n)
        × (no_symbol n ≡ true)) ds
    types_shown = all_map InDeclaration _ (λ s w. unknown_shows s.role w) ds out.of_declarations

    pub unknown_typed_at : (at : ℕ) → a ≡ Some at → FirstAt Unknown (ds ++ rs) at
    unknown_typed_at at h = first_front Unknown ds rs at
        (found_in typed_of no_symbol Unknown unknown_yes name_view (λ n. n.at) o.typed.items
        now a ds same out.typed is types_shown at h)

    pub unknown_used_at : (later : List Occurrence) → later ≡ o.used.items → (b : Option ℕ) →
        b ≡ option_view (λ m. m.at)
        (find (λ m. not (is_among ns (printed_name (occurrence_view m)))) later) → a ≡ None →
        (at : ℕ) → b ≡ Some at → FirstAt Unknown (ds ++ rs) at
    unknown_used_at later e b w n at h = first_behind Unknown ds rs at
        (none_found typed_of no_symbol Unknown unknown_yes name_view (λ n. n.at) o.typed.items
        now a ds same out.typed is types_shown n)
        (found_in use_of no_use Unknown use_yes occurrence_view (λ m. m.at) o.used.items
        later b rs e out.used w
        (all_map InRule _ (λ s w. use_shows s.role w) rs out.of_rules) at h)

-- ---- nonterminals after `%prec`

module _ (t : Tree) (ns : List Name) (k : ℕ) (are : ns ≡ symbols t)
    (few : k ≡ length (tokens t)) where
  abbrev BadPrec : Role → Type 0
  BadPrec r = is_bad_prec t r ≡ true

  abbrev above : Identifier → Bool
  above i = is_between k (length ns) (number_in ns (printed_name i))

  prec_yes : (r : Role) (i : Identifier) → prec_of r ≡ Some i → above i ≡ true → BadPrec r
  prec_yes (prec_name j) i e h =
      let same : j ≡ i = cc in
      ap (λ x. is_nonterminal t (printed_name x)) same ∙ sym (between_here t ns k i are few) ∙ h
  prec_yes _ i e h = cc

  prec_shows : (r : Role) → BadPrec r → (i : Identifier) × (prec_of r ≡ Some i) × (above i ≡ true)
  prec_shows (prec_name i) h = (i, refl, between_here t ns k i are few ∙ h)
  prec_shows _ h = cc

  no_prec_declared : (r : Role) → is_of_rule r ≡ false → BadPrec r → ⊥
  no_prec_declared (prec_name i) w h = cc
  no_prec_declared _ w h = cc

  pub prec_at : (o : Outline) (ds rs : List Site) → OutlineSites o ds rs → (now : List Occurrence) →
      now ≡ o.precs.items → (a : Option ℕ) → a ≡ option_view (λ m. m.at)
      (find (λ m. is_between k (length ns) (number_in ns (printed_name (occurrence_view m)))) now) →
      (at : ℕ) → a ≡ Some at → FirstAt BadPrec (ds ++ rs) at
  prec_at o ds rs out now same a is at h = first_behind BadPrec ds rs at
      (all_map InDeclaration _ (λ s w. no_prec_declared s.role w) ds out.of_declarations)
      (found_in prec_of above BadPrec prec_yes occurrence_view (λ m. m.at) o.precs.items now a rs
      same out.precs is (all_map InRule _ (λ s w. prec_shows s.role) rs out.of_rules) at h)

-- ---- the last `%start`

no_start_in_rules : (rs : List Site) → AllByRecursion InRule rs → select start_of rs ≡ []
no_start_in_rules [] a = refl
no_start_in_rules (s ∷ rs) a = go s.role s.at a.0 (no_start_in_rules rs a.1)
  where
    go : (r : Role) (at : ℕ) → is_of_rule r ≡ true → select start_of rs ≡ [] →
        select start_of (record { role = r; at = at } ∷ rs) ≡ []
    go start_word at w e = cc
    go _ at w e = e

map_map : (xs : List Started) → map (λ (p : Unit {0} × ℕ). p.1) (map start_at xs)
    ≡ map (λ (s : Started). s.at) xs
map_map [] = refl
map_map (x ∷ xs) = ap (λ z. x.at ∷ z) (map_map xs)

pub start_stands : (o : Outline) (ds rs : List Site) → OutlineSites o ds rs → (now : List Started) →
    now ≡ o.starts.items → (at : ℕ) → option_view (λ s. s.at) (last_or None now) ≡ Some at →
    last_start (ds ++ rs) ≡ Some at
start_stands o ds rs out now same at h =
    ap (λ (z : List (Unit {0} × ℕ)). last_or None (map (λ p. p.1) z))
    (select_append start_of ds rs ∙ ap (λ z. select start_of ds ++ z)
    (no_start_in_rules rs out.of_rules) ∙ append-nil (select start_of ds) ∙ sym out.starts)
    ∙ ap (λ z. last_or None z) (map_map o.starts.items)
    ∙ last_seen (λ (s : Started). s.at) None o.starts.items
    ∙ ap (λ (z : List Started). option_view (λ s. s.at) (last_or None z)) (sym same) ∙ h

-- ---- refusals

-- an answer that passes on a refusal has its place
pub passes_place : {A : Type 0} (P : Refused → Type 0) (e : Refused) (r : Result A Refused) →
    IsErrAnd r (λ y. y ≡ e) → P e → IfErr r P
passes_place P e (Ok v) h p = absurd h
passes_place P e (Err y) h p = subst P (sym h) p

-- where memory runs out nothing is said of a place
pub memory_placed : {A : Type 0} (t : Tree) (ss : List Site) (r : Result A Refused) →
    IfErr r (λ e. e ≡ refused.Memory) → IfErr r (IsPlaced t ss)
memory_placed t ss (Ok v) h = tt
memory_placed t ss (Err e) h = subst (IsPlaced t ss) (sym h) tt

-- ---- left sides that derive no list of tokens

read_within : (xs : List Bool) (k : ℕ) (a b : Bool) → k < length xs →
    slice_index_or xs k a ≡ slice_index_or xs k b
read_within [] k a b h = absurd (omega (arith, h))
read_within (x ∷ xs) zero a b h = refl
read_within (x ∷ xs) (suc k) a b h = read_within xs k a b (omega (arith, h))

read_false : (xs : List Bool) (k : ℕ) → slice_index_or xs k true ≡ false → k < length xs
read_false [] k h = absurd (false_true (sym h))
read_false (x ∷ xs) zero h = omega arith
read_false (x ∷ xs) (suc k) h = let l = read_false xs k h in omega (arith, l)

map_name : (xs : List NameAt) → map (λ (p : Name × ℕ). p.0) (map name_at xs) ≡ map name_view xs
map_name [] = refl
map_name (x ∷ xs) = ap (λ z. name_view x ∷ z) (map_name xs)

not_true : (b : Bool) → not b ≡ true → b ≡ false
not_true true h = absurd (false_true h)
not_true false h = refl

-- what holds of no site holds of no left side among them
selected : (P : Role → Type 0) (ss : List Site) → AllByRecursion (λ s. P s.role → ⊥) ss →
    AllByRecursion (λ (y : Name × ℕ). P (left_side y.0) → ⊥) (select left_of ss)
selected P [] a = tt
selected P (s ∷ ss) a = go s.role s.at a.0 (selected P ss a.1)
  where
    go : (r : Role) (at : ℕ) → (P r → ⊥) →
        AllByRecursion (λ (y : Name × ℕ). P (left_side y.0) → ⊥) (select left_of ss) →
        AllByRecursion (λ (y : Name × ℕ). P (left_side y.0) → ⊥)
        (select left_of (record { role = r; at = at } ∷ ss))
    go (left_side n) at h again = (h, again)
    go _ at h again = again

module _ (t : Tree) (ns : List Name) (are : ns ≡ symbols t) (marks : List Bool)
    (g : ContextFree) (same : g ≡ bare_of t) (sized : length marks ≡ g.symbols)
    (exact : (s : ℕ) → s < g.symbols → (IsMarked marks s ↔ Productive g s)) where
  abbrev Barren : Role → Type 0
  Barren r = IsBarren t r

  abbrev unmarked : Name → Bool
  unmarked n = not (slice_index_or marks (number_in ns n) true)

  number : (n : Name) → number_in ns n ≡ number_in (symbols t) n
  number n = ap (λ (x : List Name). number_in x n) are

  count : length marks ≡ length (symbols t)
  count = sized ∙ ap (λ (x : ContextFree). x.symbols) same

  within : (n : Name) → number_in ns n < length marks → number_in ns n < g.symbols
  within n h = subst (λ k. number_in ns n < k) sized h

  barren_yes : (r : Role) (n : Name) → left_of r ≡ Some n → unmarked n ≡ true → Barren r
  barren_yes (left_side m) n e h =
      let one : m ≡ n = cc in
      subst (λ (x : Name). Barren (left_side x)) (sym one) (go (not_true _ h))
    where
      go : slice_index_or marks (number_in ns n) true ≡ false → Barren (left_side n)
      go f =
          let l = read_false marks (number_in ns n) f in (
            subst (λ k. k < length (symbols t)) (number n)
                (subst (λ k. number_in ns n < k) count l),
            λ p. clash (slice_index_or marks (number_in ns n) true)
                (read_within marks (number_in ns n) true false l
                ∙ (exact (number_in ns n) (within n l)).1
                (subst (λ k. Productive g k) (sym (number n))
                (subst (λ x. Productive x (number_in (symbols t) n)) (sym same) p))) f,
          )
  barren_yes _ n e h = cc

  barren_shows : (r : Role) → Barren r →
      (n : Name) × (left_of r ≡ Some n) × (unmarked n ≡ true)
  barren_shows (left_side n) (l, never) =
      (n, refl, go (slice_index_or marks (number_in ns n) true) refl)
    where
      inside : number_in ns n < length marks
      inside = subst (λ k. number_in ns n < k) (sym count)
          (subst (λ k. k < length (symbols t)) (sym (number n)) l)

      go : (b : Bool) → slice_index_or marks (number_in ns n) true ≡ b → not b ≡ true
      go false e = refl
      go true e = absurd (never (subst (λ k. Productive (bare_of t) k) (number n)
          (subst (λ x. Productive x (number_in ns n)) same
          ((exact (number_in ns n) (within n inside)).0
          (read_within marks (number_in ns n) false true inside ∙ e)))))
  barren_shows _ h = absurd h

  none_declared : (r : Role) → is_of_rule r ≡ false → Barren r → ⊥
  none_declared (left_side n) w h = cc
  none_declared _ w h = h

  module _ (o : Outline) (ds rs : List Site) (out : OutlineSites o ds rs) (now : List NameAt)
      (e : now ≡ o.lefts.items) where
    front : AllByRecursion (λ s. Barren s.role → ⊥) ds
    front = all_map InDeclaration _ (λ s w. none_declared s.role w) ds out.of_declarations

    lefts_shown : AllByRecursion (λ s. Barren s.role → (n : Name) × (left_of s.role ≡ Some n)
        × (unmarked n ≡ true)) rs
    lefts_shown = all_map InRule _ (λ s w. barren_shows s.role) rs out.of_rules

    -- where a left side of the file is one, the first that isn't marked stands at the place
    pub barren_at : map name_view o.lefts.items ≡ lefts t →
        (AllByRecursion (λ n. Barren (left_side n) → ⊥) (lefts t) → ⊥) →
        (at : ℕ) → at ≡ unwrap_or (option_view (λ l. l.at)
        (find (λ l. not (slice_index_or marks (number_in ns (name_view l)) true)) now)) 0 →
        FirstAt Barren (ds ++ rs) at
    barren_at seen some at is = go (option_view (λ l. l.at)
        (find (λ l. not (slice_index_or marks (number_in ns (name_view l)) true)) now)) refl is
      where
        go : (a : Option ℕ) → a ≡ option_view (λ l. l.at)
            (find (λ l. not (slice_index_or marks (number_in ns (name_view l)) true)) now) →
            at ≡ unwrap_or a 0 → FirstAt Barren (ds ++ rs) at
        go (Some place) found h = subst (λ x. FirstAt Barren (ds ++ rs) x) (sym h)
            (first_behind Barren ds rs place front
            (found_in left_of unmarked Barren barren_yes name_view (λ n. n.at) o.lefts.items now
            (Some place) rs e out.lefts found lefts_shown place refl))
        go None found h = absurd (some (subst (λ (x : List Name).
            AllByRecursion (λ n. Barren (left_side n) → ⊥) x) (map_name o.lefts.items ∙ seen)
            (each_to_map (λ n. Barren (left_side n) → ⊥) (λ (y : Name × ℕ). y.0)
            (map name_at o.lefts.items) (subst (AllByRecursion (λ (y : Name × ℕ). Barren (left_side y.0) → ⊥))
            (sym out.lefts) (selected Barren rs (none_found left_of unmarked Barren barren_yes name_view
            (λ n. n.at) o.lefts.items now None rs e out.lefts found lefts_shown refl))))))

    -- the places of those that aren't marked
    pub all_barren : (ps : List ℕ) → ps ≡ map (λ (l : NameAt). l.at)
        (filter (λ l. not (slice_index_or marks (number_in ns (name_view l)) true)) now) →
        AllAt Barren (ds ++ rs) ps
    all_barren ps is = all_behind Barren ds rs ps front
        (all_found left_of unmarked Barren barren_yes name_view (λ n. n.at) o.lefts.items now ps rs
        e out.lefts is lefts_shown)
