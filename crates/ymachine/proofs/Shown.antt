-- The configuration that a content shows, and what the steps of a content show.
use Rattle.std.proofs.Common.{ℕ, suc, ◌≡◌, ◌≤◌, ◌-◌, true, List, [], ◌∷◌, ◌++◌, length, take, drop}
use Rattle.std.proofs.Common.{map, get_or, refl, sym, ◌∙◌, ap, subst, arith}
use Rattle.std.proofs.lemmas.List.{map-append, take-map, drop-map, take_all}
use Rattle.std.proofs.Math.Seq.{get_or-append_seam, drop-append_seam}
use Rattle.ymachine.specs.declared.parts.StackEntry.{StackEntry}
use Rattle.ymachine.specs.declared.parts.Node.{Node}
use Rattle.ymachine.specs.declared.parts.Node.TheVariants as nodes
use Rattle.ymachine.specs.Tree.{Tree, error_leaf, node, trees_of}
use Rattle.ymachine.specs.Machine.{Entry, entry_of, symbols, without_last, last_ones}
use Rattle.ymachine.specs.Content.{entry, all_below, nodes_fit, tree_over, trees_over, entry_view}
use Rattle.ymachine.proofs.Ends.{length-last_ones}
use Rattle.ymachine.proofs.Nodes.{below_take, trees-push, trees-more, length-trees, shown-more}

pub length-map : {X Y : Type 0} (f : X → Y) (xs : List X) → length (map f xs) ≡ length xs
length-map f [] = refl
length-map f (x ∷ xs) = ap suc (length-map f xs)

abbrev pub symbol_of : StackEntry → ℕ
symbol_of e = e.symbol

pub shown-symbols : (trees : List Tree) (es : List StackEntry)
    → symbols (map (entry_view trees) es) ≡ map symbol_of es
shown-symbols trees [] = refl
shown-symbols trees (e ∷ es) = ap (λ (l : List ℕ). e.symbol ∷ l) (shown-symbols trees es)

pub shown-trees : (trees : List Tree) (es : List StackEntry)
    → map (λ (e : Entry). e.tree) (map (entry_view trees) es)
    ≡ map (λ (e : StackEntry). get_or trees e.node error_leaf) es
shown-trees trees [] = refl
shown-trees trees (e ∷ es) =
    ap (λ (l : List Tree). get_or trees e.node error_leaf ∷ l) (shown-trees trees es)

module _ (children : List StackEntry) (ns : List Node) where
  trees : List Tree
  trees = trees_over children ns

  -- the same entries, with a tree more
  kept_more : (t : Tree) (es : List StackEntry) → all_below (length ns) es ≡ true
      → map (entry_view (trees_over children ns ++ t ∷ [])) es
      ≡ map (entry_view (trees_over children ns)) es
  kept_more t es h =
      shown-more (trees_over children ns) (t ∷ []) es
      (subst (λ n. all_below n es ≡ true) (sym (length-trees children ns)) h)

  new_tree : (t : Tree) → get_or (trees_over children ns ++ t ∷ []) (length ns) error_leaf ≡ t
  new_tree t =
      subst (λ n. get_or (trees_over children ns ++ t ∷ []) n error_leaf ≡ t)
      (length-trees children ns) (get_or-append_seam (trees_over children ns) t [] error_leaf)

  -- entries, and one with the newest node
  with_new : (t : Tree) (es : List StackEntry) (state symbol : ℕ) → all_below (length ns) es ≡ true
      → map (entry_view (trees_over children ns ++ t ∷ []))
      (es ++ entry state symbol (length ns) ∷ [])
      ≡ map (entry_view (trees_over children ns)) es ++ entry_of symbol t ∷ []
  with_new t es state symbol h =
      map-append (entry_view (trees_over children ns ++ t ∷ [])) es
      (entry state symbol (length ns) ∷ [])
      ∙ ap (λ (l : List Entry). l ++ entry_view (trees_over children ns ++ t ∷ [])
      (entry state symbol (length ns)) ∷ []) (kept_more t es h)
      ∙ ap (λ (x : Tree). map (entry_view (trees_over children ns)) es ++ entry_of symbol x ∷ [])
      (new_tree t)

  pub shown-grown : (es : List StackEntry) (state symbol : ℕ) (n : Node)
      → all_below (length ns) es ≡ true
      → map (entry_view (trees_over children (ns ++ n ∷ [])))
      (es ++ entry state symbol (length ns) ∷ [])
      ≡ map (entry_view (trees_over children ns)) es
      ++ entry_of symbol (tree_over children (trees_over children ns) n) ∷ []
  shown-grown es state symbol n h =
      ap (λ (l : List Tree). map (entry_view l) (es ++ entry state symbol (length ns) ∷ []))
      (trees-push children ns n)
      ∙ with_new (tree_over children (trees_over children ns) n) es state symbol h

  pub shown-reduced : (es : List StackEntry) (state left rule width : ℕ)
      → all_below (length ns) es ≡ true → nodes_fit children 0 ns ≡ true → width ≤ length es
      → map (entry_view (trees_over (children ++ last_ones width es)
      (ns ++ nodes.Rule rule (length children) width ∷ [])))
      (without_last width es ++ entry state left (length ns) ∷ [])
      ≡ without_last width (map (entry_view (trees_over children ns)) es)
      ++ entry_of left
      (node rule (trees_of (map (λ (e : Entry). e.tree)
      (last_ones width (map (entry_view (trees_over children ns)) es))))) ∷ []
  shown-reduced es state left rule width h f w =
      let more = last_ones width es in
      let n : Node = nodes.Rule rule (length children) width in
      let old = trees_over children ns in
      let t = tree_over (children ++ more) old n in
      let pushed : trees_over (children ++ more) (ns ++ n ∷ []) ≡ old ++ t ∷ [] =
      trees-push (children ++ more) ns n
      ∙ ap (λ (l : List Tree). l ++ tree_over (children ++ more) l n ∷ [])
      (trees-more children more ns f) in
      let part : take width (drop (length children) (children ++ more)) ≡ more =
      ap (take width) (drop-append_seam children more)
      ∙ take_all width more (let l = length-last_ones width es w in omega (arith, l)) in
      let lengths : length es ≡ length (map (entry_view old) es) =
      sym (length-map (entry_view old) es) in
      let last : last_ones width (map (entry_view old) es) ≡ map (entry_view old) more =
      ap (λ (n : ℕ). drop (n - width) (map (entry_view old) es)) (sym lengths)
      ∙ drop-map (entry_view old) (length es - width) es in
      let kept : map (entry_view old) (without_last width es)
      ≡ without_last width (map (entry_view old) es) =
      sym (take-map (entry_view old) (length es - width) es)
      ∙ ap (λ (n : ℕ). take (n - width) (map (entry_view old) es)) lengths in
      let tree : t
      ≡ node rule (trees_of (map (λ (e : Entry). e.tree)
      (last_ones width (map (entry_view old) es)))) =
      ap (λ (l : List StackEntry). node rule
      (trees_of (map (λ (e : StackEntry). get_or old e.node error_leaf) l))) part
      ∙ ap (λ (l : List Tree). node rule (trees_of l))
      (sym (ap (map (λ (e : Entry). e.tree)) last ∙ shown-trees old more)) in
      ap (λ (l : List Tree). map (entry_view l)
      (without_last width es ++ entry state left (length ns) ∷ [])) pushed
      ∙ with_new t (without_last width es) state left
      (below_take (length ns) (length es - width) es h)
      ∙ ap (λ (l : List Entry). l ++ entry_of left t ∷ []) kept
      ∙ ap (λ (x : Tree). without_last width (map (entry_view old) es) ++ entry_of left x ∷ [])
      tree
