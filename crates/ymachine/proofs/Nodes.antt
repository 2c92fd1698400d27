-- Trees that lie in flat lists: a node more adds a tree at the end, and children more change none.
use Rattle.std.proofs.Common.{ℕ, zero, suc, ◌≡◌, ◌<◌, ◌≤◌, ◌+◌, true, List, [], ◌∷◌, ◌++◌, length}
use Rattle.std.proofs.Common.{take, drop, map, get_or, refl, sym, ◌∙◌, ap, subst, arith}
use Rattle.std.proofs.lemmas.Bool.{lt-ltb, ltb-true, le-leb, leb-true}
use Rattle.std.proofs.lemmas.List.{length-append, drop-append-le, take-append-le, length-drop}
use Rattle.std.proofs.lemmas.List.{get_or_append_left}
use Rattle.std.proofs.Math.Seq.{get_or-append_seam}
use Rattle.ymachine.specs.declared.parts.StackEntry.{StackEntry}
use Rattle.ymachine.specs.declared.parts.Node.{Node}
use Rattle.ymachine.specs.declared.parts.Node.TheVariants as nodes
use Rattle.ymachine.specs.Tree.{Tree, error_leaf, node, trees_of, list_of, children_of}
use Rattle.ymachine.specs.Machine.{Entry}
use Rattle.ymachine.specs.Content.{all_below, node_fits, nodes_fit, tree_over, trees_from}
use Rattle.ymachine.specs.Content.{trees_over}
use Rattle.ymachine.specs.Content.{node_tree, entry_view}
use Rattle.ymachine.proofs.Ends.{join, first, second}

pub below_weaker : (n m : ℕ) (es : List StackEntry) → n ≤ m → all_below n es ≡ true
    → all_below m es ≡ true
below_weaker n m [] h b = refl
below_weaker n m (e ∷ es) h b =
    let l = ltb-true e.node n (first _ _ b) in
    join (lt-ltb e.node m (omega (arith, l, h))) (below_weaker n m es h (second _ _ b))

pub below_append : (n : ℕ) (xs ys : List StackEntry) → all_below n xs ≡ true → all_below n ys ≡ true
    → all_below n (xs ++ ys) ≡ true
below_append n [] ys h k = k
below_append n (x ∷ xs) ys h k = join (first _ _ h) (below_append n xs ys (second _ _ h) k)

pub below_take : (n k : ℕ) (es : List StackEntry) → all_below n es ≡ true
    → all_below n (take k es) ≡ true
below_take n zero es h = refl
below_take n (suc k) [] h = refl
below_take n (suc k) (e ∷ es) h = join (first _ _ h) (below_take n k es (second _ _ h))

pub below_drop : (n k : ℕ) (es : List StackEntry) → all_below n es ≡ true
    → all_below n (drop k es) ≡ true
below_drop n zero es h = h
below_drop n (suc k) [] h = refl
below_drop n (suc k) (e ∷ es) h = below_drop n k es (second _ _ h)

-- a part of a list that lies in it isn't changed by what comes after
pub part_append : (from count : ℕ) (xs ys : List StackEntry) → from + count ≤ length xs
    → take count (drop from (xs ++ ys)) ≡ take count (drop from xs)
part_append from count xs ys h =
    ap (take count) (drop-append-le from xs ys (omega (arith, h)))
    ∙ take-append-le count (drop from xs) ys (let l = length-drop from xs in omega (arith, h, l))

pub node_fits-more : (children more : List StackEntry) (i : ℕ) (n : Node)
    → node_fits children i n ≡ true → node_fits (children ++ more) i n ≡ true
node_fits-more children more i (nodes.Leaf token place) h = refl
node_fits-more children more i nodes.ErrorLeaf h = refl
node_fits-more children more i (nodes.Rule rule from count) h =
    let l = leb-true (from + count) (length children) (first _ _ h) in
    let a = length-append children more in
    join (le-leb (from + count) (length (children ++ more)) (omega (arith, l, a)))
    (ap (all_below i) (part_append from count children more l) ∙ second _ _ h)

pub nodes_fit-more : (children more : List StackEntry) (i : ℕ) (ns : List Node)
    → nodes_fit children i ns ≡ true → nodes_fit (children ++ more) i ns ≡ true
nodes_fit-more children more i [] h = refl
nodes_fit-more children more i (n ∷ ns) h =
    join (node_fits-more children more i n (first _ _ h))
    (nodes_fit-more children more (suc i) ns (second _ _ h))

pub nodes_fit-push : (children : List StackEntry) (i : ℕ) (ns : List Node) (n : Node)
    → nodes_fit children i ns ≡ true → node_fits children (i + length ns) n ≡ true
    → nodes_fit children i (ns ++ n ∷ []) ≡ true
nodes_fit-push children i [] n h k = let e : i + length {A = Node} [] ≡ i = omega arith in
    join (subst (λ j. node_fits children j n ≡ true) e k) refl
nodes_fit-push children i (m ∷ ns) n h k =
    let e : i + length (m ∷ ns) ≡ suc i + length ns = omega arith in
    join (first _ _ h) (nodes_fit-push children (suc i) ns n (second _ _ h)
    (subst (λ j. node_fits children j n ≡ true) e k))

pub nodes_fit-last : (children : List StackEntry) (ns : List Node) (n : Node)
    → nodes_fit children 0 ns ≡ true → node_fits children (length ns) n ≡ true
    → nodes_fit children 0 (ns ++ n ∷ []) ≡ true
nodes_fit-last children ns n h k =
    let e : length ns ≡ 0 + length ns = omega arith in
    nodes_fit-push children 0 ns n h (subst (λ j. node_fits children j n ≡ true) e k)

pub node_fits-at : (children : List StackEntry) (i : ℕ) (ns : List Node) (k : ℕ) (d : Node)
    → k < length ns → nodes_fit children i ns ≡ true
    → node_fits children (i + k) (get_or ns k d) ≡ true
node_fits-at children i [] k d h f = absurd (omega arith)
node_fits-at children i (n ∷ ns) zero d h f = let e : i ≡ i + zero = omega arith in
    subst (λ j. node_fits children j n ≡ true) e (first _ _ f)
node_fits-at children i (n ∷ ns) (suc k) d h f =
    let e : suc i + k ≡ i + suc k = omega arith in
    subst (λ j. node_fits children j (get_or ns k d) ≡ true) e
    (node_fits-at children (suc i) ns k d (omega arith) (second _ _ f))

-- ---- trees

pub trees_from-push : (children : List StackEntry) (trees : List Tree) (ns : List Node) (n : Node)
    → trees_from children trees (ns ++ n ∷ [])
    ≡ trees_from children trees ns ++ tree_over children (trees_from children trees ns) n ∷ []
trees_from-push children trees [] n = refl
trees_from-push children trees (m ∷ ns) n =
    trees_from-push children (trees ++ tree_over children trees m ∷ []) ns n

pub trees-push : (children : List StackEntry) (ns : List Node) (n : Node)
    → trees_over children (ns ++ n ∷ [])
    ≡ trees_over children ns ++ tree_over children (trees_over children ns) n ∷ []
trees-push children ns n = trees_from-push children [] ns n

length-trees_from : (children : List StackEntry) (trees : List Tree) (ns : List Node)
    → length (trees_from children trees ns) ≡ length trees + length ns
length-trees_from children trees [] = omega arith
length-trees_from children trees (n ∷ ns) =
    let l = length-trees_from children (trees ++ tree_over children trees n ∷ []) ns in
    let a = length-append trees (tree_over children trees n ∷ []) in
    omega (arith, l, a)

pub length-trees : (children : List StackEntry) (ns : List Node)
    → length (trees_over children ns) ≡ length ns
length-trees children ns = let l = length-trees_from children [] ns in omega (arith, l)

pub tree_over-more : (children more : List StackEntry) (i : ℕ) (trees : List Tree) (n : Node)
    → node_fits children i n ≡ true
    → tree_over (children ++ more) trees n ≡ tree_over children trees n
tree_over-more children more i trees (nodes.Leaf token place) h = refl
tree_over-more children more i trees nodes.ErrorLeaf h = refl
tree_over-more children more i trees (nodes.Rule rule from count) h =
    let l = leb-true (from + count) (length children) (first _ _ h) in
    ap (λ (es : List StackEntry). node rule
    (trees_of (map (λ (e : StackEntry). get_or trees e.node error_leaf) es)))
    (part_append from count children more l)

trees_from-more : (children more : List StackEntry) (i : ℕ) (trees : List Tree) (ns : List Node)
    → nodes_fit children i ns ≡ true
    → trees_from (children ++ more) trees ns ≡ trees_from children trees ns
trees_from-more children more i trees [] h = refl
trees_from-more children more i trees (n ∷ ns) h =
    ap (λ (t : Tree). trees_from (children ++ more) (trees ++ t ∷ []) ns)
    (tree_over-more children more i trees n (first _ _ h))
    ∙ trees_from-more children more (suc i) (trees ++ tree_over children trees n ∷ []) ns
    (second _ _ h)

pub trees-more : (children more : List StackEntry) (ns : List Node) → nodes_fit children 0 ns ≡ true
    → trees_over (children ++ more) ns ≡ trees_over children ns
trees-more children more ns h = trees_from-more children more 0 [] ns h

-- entries whose nodes are there show the same with more trees
pub shown-more : (trees more : List Tree) (es : List StackEntry)
    → all_below (length trees) es ≡ true
    → map (entry_view (trees ++ more)) es ≡ map (entry_view trees) es
shown-more trees more [] h = refl
shown-more trees more (e ∷ es) h =
    let l = ltb-true e.node (length trees) (first _ _ h) in
    ap (λ (t : Tree). let shown : Entry = record { symbol = e.symbol; tree = t } in
    shown ∷ map (entry_view (trees ++ more)) es)
    (get_or_append_left trees more error_leaf e.node l)
    ∙ ap (λ (rest : List Entry). entry_view trees e ∷ rest)
    (shown-more trees more es (second _ _ h))

-- ---- the tree of one node

abbrev no_trees : List Tree
no_trees = []

trees_from-keep : (children : List StackEntry) (trees : List Tree) (ns : List Node) (i : ℕ)
    → i < length trees → get_or (trees_from children trees ns) i error_leaf
    ≡ get_or trees i error_leaf
trees_from-keep children trees [] i h = refl
trees_from-keep children trees (n ∷ ns) i h =
    trees_from-keep children (trees ++ tree_over children trees n ∷ []) ns i (let a =
    length-append trees (tree_over children trees n ∷ []) in omega (arith, a, h))
    ∙ get_or_append_left trees (tree_over children trees n ∷ []) error_leaf i h

got-keep : (children : List StackEntry) (trees : List Tree) (ns : List Node) (es : List StackEntry)
    → all_below (length trees) es ≡ true
    → map (λ (e : StackEntry). get_or (trees_from children trees ns) e.node error_leaf) es
    ≡ map (λ (e : StackEntry). get_or trees e.node error_leaf) es
got-keep children trees ns [] h = refl
got-keep children trees ns (e ∷ es) h =
    let l = ltb-true e.node (length trees) (first _ _ h) in
    ap (λ (t : Tree). t ∷ map (λ (x : StackEntry). get_or (trees_from children trees ns) x.node
    error_leaf) es) (trees_from-keep children trees ns e.node l)
    ∙ ap (λ (rest : List Tree). get_or trees e.node error_leaf ∷ rest)
    (got-keep children trees ns es (second _ _ h))

tree_over-keep : (children : List StackEntry) (trees : List Tree) (ns : List Node) (i : ℕ)
    (n : Node) → i ≡ length trees → node_fits children i n ≡ true
    → tree_over children (trees_from children trees ns) n ≡ tree_over children trees n
tree_over-keep children trees ns i (nodes.Leaf token place) e h = refl
tree_over-keep children trees ns i nodes.ErrorLeaf e h = refl
tree_over-keep children trees ns i (nodes.Rule rule from count) e h =
    ap (λ (l : List Tree). node rule (trees_of l))
    (got-keep children trees ns (take count (drop from children))
    (subst (λ (k : ℕ). all_below k (take count (drop from children)) ≡ true) e (second _ _ h)))

tree_from-at : (children : List StackEntry) (trees : List Tree) (ns : List Node) (i k : ℕ)
    (d : Node) → i ≡ length trees → nodes_fit children i ns ≡ true → k < length ns
    → get_or (trees_from children trees ns) (i + k) error_leaf
    ≡ tree_over children (trees_from children trees ns) (get_or ns k d)
tree_from-at children trees [] i k d e f h = absurd (omega arith)
tree_from-at children trees (n ∷ ns) i zero d e f h =
    let t = tree_over children trees n in
    let longer = trees ++ t ∷ [] in
    let a = length-append trees (t ∷ []) in
    let at : i + zero ≡ length trees = omega (arith, e) in
    ap (λ (j : ℕ). get_or (trees_from children longer ns) j error_leaf) at
    ∙ trees_from-keep children longer ns (length trees) (omega (arith, a))
    ∙ get_or-append_seam trees t no_trees error_leaf
    ∙ sym (tree_over-keep children trees (n ∷ ns) i n e (first _ _ f))
tree_from-at children trees (n ∷ ns) i (suc k) d e f h =
    let t = tree_over children trees n in
    let a = length-append trees (t ∷ []) in
    let at : i + suc k ≡ suc i + k = omega arith in
    ap (λ (j : ℕ). get_or (trees_from children (trees ++ t ∷ []) ns) j error_leaf) at
    ∙ tree_from-at children (trees ++ t ∷ []) ns (suc i) k d (omega (arith, a, e)) (second _ _ f)
    (omega arith)

-- the tree of a node is made of those of its children
pub tree-at : (children : List StackEntry) (ns : List Node) (k : ℕ) (d : Node)
    → nodes_fit children 0 ns ≡ true → k < length ns
    → get_or (trees_over children ns) k error_leaf
    ≡ tree_over children (trees_over children ns) (get_or ns k d)
tree-at children ns k d f h =
    let at : k ≡ 0 + k = omega arith in
    ap (λ (j : ℕ). get_or (trees_over children ns) j error_leaf) at
    ∙ tree_from-at children no_trees ns 0 k d refl f h

pub list_of-trees : (l : List Tree) → list_of (trees_of l) ≡ l
list_of-trees [] = refl
list_of-trees (t ∷ ts) = ap (λ (l : List Tree). t ∷ l) (list_of-trees ts)

pub below_at : (n : ℕ) (es : List StackEntry) (k : ℕ) (d : StackEntry) → all_below n es ≡ true
    → k < length es → (get_or es k d).node < n
below_at n [] k d b h = absurd (omega arith)
below_at n (e ∷ es) zero d b h = ltb-true e.node n (first _ _ b)
below_at n (e ∷ es) (suc k) d b h = below_at n es k d (second _ _ b) (omega arith)

-- ---- what is seen of one node

-- the entries of a node's children
abbrev pub entries_of : List StackEntry → Node → List StackEntry
entries_of children (nodes.Rule rule from count) = take count (drop from children)
entries_of children (nodes.Leaf token place) = []
entries_of children nodes.ErrorLeaf = []

pub entries-below : (children : List StackEntry) (i : ℕ) (n : Node) → node_fits children i n ≡ true
    → all_below i (entries_of children n) ≡ true
entries-below children i (nodes.Rule rule from count) h = second _ _ h
entries-below children i (nodes.Leaf token place) h = refl
entries-below children i nodes.ErrorLeaf h = refl

entries-trees : (children : List StackEntry) (trees : List Tree) (n : Node)
    → map (node_tree trees) (entries_of children n) ≡ children_of (tree_over children trees n)
entries-trees children trees (nodes.Rule rule from count) =
    sym (list_of-trees (map (node_tree trees) (take count (drop from children))))
entries-trees children trees (nodes.Leaf token place) = refl
entries-trees children trees nodes.ErrorLeaf = refl

-- what the tree of a node is, by the node
pub record Seen (children : List StackEntry) (ns : List Node) (k : ℕ) (n : Node) : Type 0 where
  pub fits : node_fits children k n ≡ true
  pub tree : get_or (trees_over children ns) k error_leaf
      ≡ tree_over children (trees_over children ns) n
  pub below : all_below k (entries_of children n) ≡ true
  pub trees : map (node_tree (trees_over children ns)) (entries_of children n)
      ≡ children_of (get_or (trees_over children ns) k error_leaf)

pub seen : (children : List StackEntry) (ns : List Node) (k : ℕ) (d n : Node)
    → nodes_fit children 0 ns ≡ true → k < length ns → get_or ns k d ≡ n → Seen children ns k n
seen children ns k d n f h e =
    let at : 0 + k ≡ k = omega arith in
    let fits : node_fits children k n ≡ true =
    subst (λ (m : Node). node_fits children k m ≡ true) e
    (subst (λ (j : ℕ). node_fits children j (get_or ns k d) ≡ true) at
    (node_fits-at children 0 ns k d h f)) in
    let tree : get_or (trees_over children ns) k error_leaf
    ≡ tree_over children (trees_over children ns) n =
    tree-at children ns k d f h ∙ ap (tree_over children (trees_over children ns)) e in
    record {
      fits = fits;
      tree = tree;
      below = entries-below children k n fits;
      trees = entries-trees children (trees_over children ns) n ∙ ap children_of (sym tree);
    }
