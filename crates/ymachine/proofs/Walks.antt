-- The text that a walk over a tree has left, turn by turn.
use Rattle.std.proofs.Common.{ℕ, zero, suc, ◌≡◌, ◌≢◌, ◌<◌, ◌≤◌, ◌+◌, ◌-◌, nat_le, true, List, []}
use Rattle.std.proofs.Common.{◌∷◌, ◌++◌, length, take, drop, map, flat_map, get_or, decimal, codes}
use Rattle.std.proofs.Common.{refl, sym, ◌∙◌, ap, subst, append_assoc, append-nil, arith, Option}
use Rattle.std.proofs.Common.{None, is_some, false}
use Rattle.std.proofs.lemmas.Bool.{le-leb, leb-true}
use Rattle.std.proofs.lemmas.List.{length-append}
use Rattle.ylink.specs.declared.link.Link.{Link}
use Rattle.ylink.specs.Sends.{Sends}
use Rattle.ylink.proofs.Sent.{Sends-then, Sends-stop, Sends-none}
use Rattle.ymachine.specs.declared.parts.StackEntry.{StackEntry}
use Rattle.ymachine.specs.declared.parts.Node.{Node}
use Rattle.ymachine.specs.declared.parts.Node.TheVariants as nodes
use Rattle.ymachine.specs.declared.parts.Frame.{Frame}
use Rattle.ymachine.specs.Tree.{Tree, error_leaf}
use Rattle.ymachine.specs.Machine.{Machine}
use Rattle.ymachine.specs.Content.{entry, all_below, node_fits, nodes_fit, node_tree, tree_over}
use Rattle.ymachine.specs.Content.{trees_over, entry_view}
use Rattle.ymachine.specs.Unwinding.{tree_text, tree_lines}
use Rattle.ymachine.specs.Walk.{frame, head_text, frames_of, kids_text, range_of, open_from}
use Rattle.ymachine.specs.Walk.{open_text}
use Rattle.ymachine.specs.Walk.{frame_fits, frames_fit}
use Rattle.ymachine.proofs.Ends.{join, first, second}
use Rattle.ymachine.proofs.Nodes.{below_weaker, below_at, seen}

-- ---- frames

pub fit-rest : (children : List StackEntry) (b : ℕ) (fs : List Frame) (f : Frame)
    → frames_fit children b (fs ++ f ∷ []) ≡ true → frames_fit children b fs ≡ true
fit-rest children b [] f h = refl
fit-rest children b (g ∷ fs) f h =
    join (first _ _ h) (fit-rest children (b - 1) fs f (second _ _ h))

pub fit-top : (children : List StackEntry) (b : ℕ) (fs : List Frame) (f : Frame)
    → frames_fit children b (fs ++ f ∷ []) ≡ true → frame_fits children (b - length fs) f ≡ true
fit-top children b [] f h = let e : b ≡ b - length {A = Frame} [] = omega arith in
    subst (λ k. frame_fits children k f ≡ true) e (first _ _ h)
fit-top children b (g ∷ fs) f h =
    let e : (b - 1) - length fs ≡ b - length (g ∷ fs) = omega arith in
    subst (λ k. frame_fits children k f ≡ true) e (fit-top children (b - 1) fs f (second _ _ h))

pub fit-push : (children : List StackEntry) (b : ℕ) (fs : List Frame) (f : Frame)
    → frames_fit children b fs ≡ true → frame_fits children (b - length fs) f ≡ true
    → frames_fit children b (fs ++ f ∷ []) ≡ true
fit-push children b [] f h k = let e : b - length {A = Frame} [] ≡ b = omega arith in
    join (subst (λ n. frame_fits children n f ≡ true) e k) refl
fit-push children b (g ∷ fs) f h k =
    let e : b - length (g ∷ fs) ≡ (b - 1) - length fs = omega arith in
    join (first _ _ h) (fit-push children (b - 1) fs f (second _ _ h)
    (subst (λ n. frame_fits children n f ≡ true) e k))

-- what a node opens fits below the node
pub fit-opened : (children : List StackEntry) (b number : ℕ) (fs : List Frame) (n : Node)
    → frames_fit children b fs ≡ true → node_fits children number n ≡ true → number ≤ b - length fs
    → frames_fit children b (fs ++ frames_of n) ≡ true
fit-opened children b number fs (nodes.Leaf token place) h f l =
    subst (λ x. frames_fit children b x ≡ true) (sym (append-nil fs)) h
fit-opened children b number fs nodes.ErrorLeaf h f l =
    subst (λ x. frames_fit children b x ≡ true) (sym (append-nil fs)) h
fit-opened children b number fs (nodes.Rule rule from count) h f l =
    let e : count ≡ (from + count) - from = omega arith in
    let lie : nat_le (from + count) (length children) ≡ true = first _ _ f in
    let below = below_weaker number (b - length fs) (take count (drop from children)) l
    (second _ _ f) in
    fit-push children b fs (frame from (from + count)) h
    (join (le-leb from (from + count) (omega arith))
    (join lie (subst (λ k. all_below (b - length fs) (take k (drop from children)) ≡ true) e
    below)))

-- the first of some children that are left
range_step : (n next : ℕ) (children : List StackEntry) (d : StackEntry) → next < length children
    → take (suc n) (drop next children) ≡ get_or children next d ∷ take n (drop (suc next) children)
range_step n next [] d h = absurd (omega arith)
range_step n zero (e ∷ es) d h = refl
range_step n (suc next) (e ∷ es) d h = range_step n next es d (omega arith)

-- ---- texts

module _ (m : Machine) (children : List StackEntry) (trees : List Tree) where
  pub open_from-push : (fs : List Frame) (f : Frame) (rest : List ℕ)
      → open_from m children trees (fs ++ f ∷ []) rest
      ≡ kids_text m trees (range_of children f) ++ (41 ∷ open_from m children trees fs rest)
  open_from-push [] f rest = refl
  open_from-push (g ∷ fs) f rest =
      open_from-push fs f (kids_text m trees (range_of children g) ++ (41 ∷ rest))

  -- the text of a tree is its head and the text of what it opens
  pub tree_parts : (fs : List Frame) (n : Node)
      → tree_text m (tree_over children trees n) ++ open_text m children trees fs
      ≡ head_text m n ++ open_text m children trees (fs ++ frames_of n)
  tree_parts fs (nodes.Leaf token place) =
      ap (λ x. head_text m (nodes.Leaf token place) ++ open_text m children trees x)
      (sym (append-nil fs))
  tree_parts fs nodes.ErrorLeaf =
      ap (λ x. codes "error" ++ open_text m children trees x) (sym (append-nil fs))
  tree_parts fs (nodes.Rule rule from count) =
      let f = frame from (from + count) in
      let e : count ≡ (from + count) - from = omega arith in
      let kids = kids_text m trees (take count (drop from children)) in
      let left = open_text m children trees fs in
      let pushed : open_text m children trees (fs ++ f ∷ []) ≡ kids ++ (41 ∷ left) =
      open_from-push fs f []
      ∙ ap (λ k. kids_text m trees (take k (drop from children)) ++ (41 ∷ left)) (sym e) in
      ap (λ l. 40 ∷ l) (append_assoc (decimal rule) (kids ++ 41 ∷ []) left
      ∙ ap (λ l. decimal rule ++ l) (append_assoc kids (41 ∷ []) left))
      ∙ ap (λ l. 40 ∷ (decimal rule ++ l)) (sym pushed)

  -- a node whose children are all written
  pub open-done : (fs : List Frame) (f : Frame) → f.next ≡ f.end
      → open_text m children trees (fs ++ f ∷ []) ≡ 41 ∷ open_text m children trees fs
  open-done fs f e =
      let z : f.end - f.next ≡ 0 = omega (arith, e) in
      open_from-push fs f []
      ∙ ap (λ k. kids_text m trees (take k (drop f.next children))
      ++ (41 ∷ open_text m children trees fs)) z

  -- a child more
  pub open-child : (fs : List Frame) (next end n : ℕ) (d : StackEntry) → next < length children
      → end - next ≡ suc n
      → open_text m children trees (fs ++ frame next end ∷ [])
      ≡ 32 ∷ (tree_text m (node_tree trees (get_or children next d))
      ++ open_text m children trees (fs ++ frame (next + 1) end ∷ []))
  open-child fs next end n d h e =
      let child = get_or children next d in
      let left = 41 ∷ open_text m children trees fs in
      let after : n ≡ end - (next + 1) = omega (arith, e) in
      let s : suc next ≡ next + 1 = omega arith in
      let some : take (end - next) (drop next children)
      ≡ child ∷ take n (drop (suc next) children) =
      ap (λ k. take k (drop next children)) e ∙ range_step n next children d h in
      let rest : take n (drop (suc next) children) ≡ range_of children (frame (next + 1) end) =
      ap (λ k. take k (drop (suc next) children)) after
      ∙ ap (λ k. take (end - (next + 1)) (drop k children)) s in
      open_from-push fs (frame next end) []
      ∙ ap (λ es. kids_text m trees es ++ left) some
      ∙ ap (λ l. 32 ∷ l) (append_assoc (tree_text m (node_tree trees child))
      (kids_text m trees (take n (drop (suc next) children))) left)
      ∙ ap (λ es. 32 ∷ (tree_text m (node_tree trees child) ++ (kids_text m trees es ++ left))) rest
      ∙ ap (λ l. 32 ∷ (tree_text m (node_tree trees child) ++ l))
      (sym (open_from-push fs (frame (next + 1) end) []))

-- the node that the innermost open one has next
abbrev pub next_node : List StackEntry → List Node → Frame → Node
next_node children ns f = get_or ns (get_or children f.next (entry 0 0 0)).node (nodes.Leaf 0 0)

-- what is open once that node is begun
abbrev pub deeper : List Frame → Frame → Node → List Frame
deeper outer f n = (outer ++ frame (f.next + 1) f.end ∷ []) ++ frames_of n

-- what is known of the next child of the innermost open node, where one is left
pub record Opens (m : Machine) (children : List StackEntry) (ns : List Node) (root : ℕ)
    (walk outer : List Frame) (f : Frame) : Type 0 where
  pub inside : f.next < length children
  pub there : (get_or children f.next (entry 0 0 0)).node < length ns
  pub deep : length walk ≤ root
  pub fits : node_fits children (get_or children f.next (entry 0 0 0)).node
      (next_node children ns f) ≡ true
  pub frames : frames_fit children root (deeper outer f (next_node children ns f)) ≡ true
  pub text : open_text m children (trees_over children ns) walk
      ≡ 32 ∷ (head_text m (next_node children ns f)
      ++ open_text m children (trees_over children ns) (deeper outer f (next_node children ns f)))

pub opens : (m : Machine) (children : List StackEntry) (ns : List Node) (root : ℕ)
    (walk outer : List Frame) (f : Frame) → nodes_fit children 0 ns ≡ true → root < length ns
    → frames_fit children root walk ≡ true → walk ≡ outer ++ f ∷ [] → f.next ≢ f.end
    → Opens m children ns root walk outer f
opens m children ns root walk outer f fit r frames popped u =
    let h : frames_fit children root (outer ++ f ∷ []) ≡ true =
    subst (λ fs. frames_fit children root fs ≡ true) popped frames in
    let d = entry 0 0 0 in
    let top = fit-top children root outer f h in
    let up : f.next ≤ f.end = leb-true f.next f.end (first _ _ top) in
    let lie : f.end ≤ length children =
    leb-true f.end (length children) (first _ _ (second _ _ top)) in
    let left : f.next < f.end = smaller f.next f.end up u in
    let inside : f.next < length children = omega (arith, left, lie) in
    let n = f.end - (f.next + 1) in
    let count : f.end - f.next ≡ suc n = omega (arith, left) in
    let child = get_or children f.next d in
    let some : range_of children f ≡ child ∷ take n (drop (suc f.next) children) =
    ap (λ k. take k (drop f.next children)) count ∙ range_step n f.next children d inside in
    let all : all_below (root - length outer) (child ∷ take n (drop (suc f.next) children)) ≡ true =
    subst (λ es. all_below (root - length outer) es ≡ true) some (second _ _ (second _ _ top)) in
    let below : child.node < root - length outer =
    below_at (root - length outer) (child ∷ take n (drop (suc f.next) children)) 0 d all
    (omega arith) in
    let there : child.node < length ns = omega (arith, below, r) in
    let node = get_or ns child.node (nodes.Leaf 0 0) in
    let s = seen children ns child.node (nodes.Leaf 0 0) node fit there refl in
    let next : suc f.next ≡ f.next + 1 = omega arith in
    let after = frame (f.next + 1) f.end in
    let rest_below : all_below (root - length outer) (range_of children after) ≡ true =
    subst (λ k. all_below (root - length outer) (take n (drop k children)) ≡ true) next
    (second _ _ all) in
    let after_fits : frame_fits children (root - length outer) after ≡ true =
    join (le-leb (f.next + 1) f.end (omega (arith, left)))
    (join (first _ _ (second _ _ top)) rest_below) in
    let pushed = fit-push children root outer after (fit-rest children root outer f h) after_fits in
    let long = length-append outer (after ∷ []) in
    let trees = trees_over children ns in
    record {
      inside = inside;
      there = there;
      deep =
          let whole : length walk ≡ length outer + 1 =
          ap length popped ∙ length-append outer (f ∷ []) in
          omega (arith, below, whole);
      fits = s.fits;
      frames =
          fit-opened children root child.node (outer ++ after ∷ []) node pushed s.fits
          (omega (arith, below, long));
      text =
          ap (open_text m children trees) popped
          ∙ open-child m children trees outer f.next f.end n d inside count
          ∙ ap (λ t. 32 ∷ (tree_text m t ++ open_text m children trees (outer ++ after ∷ [])))
          s.tree
          ∙ ap (λ l. 32 ∷ l) (tree_parts m children trees (outer ++ after ∷ []) node);
    }
  where
    smaller : (a b : ℕ) → a ≤ b → a ≢ b → a < b
    smaller a b l n = omega (arith, l, n)

-- the innermost open node ends, where no child is left
pub closes : (m : Machine) (children : List StackEntry) (trees : List Tree)
    (walk outer : List Frame)
    (f : Frame) → walk ≡ outer ++ f ∷ [] → f.next ≡ f.end
    → open_text m children trees walk ≡ 41 ∷ open_text m children trees outer
closes m children trees walk outer f popped e =
    ap (open_text m children trees) popped ∙ open-done m children trees outer f e

-- what a piece leaves is shorter
pub shorter : (x : ℕ) (text head rest : List ℕ) → text ≡ x ∷ (head ++ rest)
    → length rest < length text
shorter x text head rest e =
    let whole : length text ≡ suc (length (head ++ rest)) = ap length e in
    let parts = length-append head rest in
    omega (arith, whole, parts)

-- ---- what was sent

-- two pieces more, and then the rest
pub regroup : (text sent piece head rest : List ℕ) → text ≡ sent ++ (piece ++ (head ++ rest))
    → text ≡ ((sent ++ piece) ++ head) ++ rest
regroup text sent piece head rest e =
    e ∙ sym (append_assoc sent piece (head ++ rest)) ∙ sym (append_assoc (sent ++ piece) head rest)

module _ {W X : Type 0} (contents : W → Option (List ℕ)) where
  -- a piece that was cut after what was sent cuts the whole
  pub cut-behind : (a b c : Link W) (o : Option X) (text sent piece rest : List ℕ) → o ≡ None
      → text ≡ sent ++ (piece ++ rest) → Sends contents a b true sent
      → Sends contents b c false piece → Sends contents a c (is_some o) text
  cut-behind a b c o text sent piece rest e whole before cut =
      Sends-none contents a c o text e
      (subst (λ (t : List ℕ). Sends contents a c false t) (sym whole)
      (Sends-then contents a b c false sent (piece ++ rest) before
      (Sends-stop contents b c piece rest cut)))

-- the text of a tree is that of its root's head and of what its root opens
pub root-text : (m : Machine) (children : List StackEntry) (ns : List Node) (root : ℕ) (n : Node)
    → get_or (trees_over children ns) root error_leaf
    ≡ tree_over children (trees_over children ns) n
    → tree_text m (get_or (trees_over children ns) root error_leaf)
    ≡ head_text m n ++ open_text m children (trees_over children ns) (frames_of n)
root-text m children ns root n e =
    ap (tree_text m) e
    ∙ sym (append-nil (tree_text m (tree_over children (trees_over children ns) n)))
    ∙ tree_parts m children (trees_over children ns) [] n

-- what is known of the root of a tree that is to be written
pub record Rooted (m : Machine) (children : List StackEntry) (ns : List Node) (root : ℕ) (n : Node)
    : Type 0 where
  pub fits : node_fits children root n ≡ true
  pub frames : frames_fit children root (frames_of n) ≡ true
  pub line : tree_text m (get_or (trees_over children ns) root error_leaf) ++ codes "\n"
      ≡ head_text m n ++ (open_text m children (trees_over children ns) (frames_of n) ++ codes "\n")

pub rooted : (m : Machine) (children : List StackEntry) (ns : List Node) (root : ℕ)
    → nodes_fit children 0 ns ≡ true → root < length ns
    → Rooted m children ns root (get_or ns root (nodes.Leaf 0 0))
rooted m children ns root fit there =
    let n = get_or ns root (nodes.Leaf 0 0) in
    let s = seen children ns root (nodes.Leaf 0 0) n fit there refl in
    let more = open_text m children (trees_over children ns) (frames_of n) in
    record {
      fits = s.fits;
      frames = fit-opened children root root [] n refl s.fits (omega arith);
      line =
          ap (λ l. l ++ codes "\n") (root-text m children ns root n s.tree)
          ∙ append_assoc (head_text m n) more (codes "\n");
    }

-- the lines of a stack, by its entries
pub lines-entries : (m : Machine) (trees : List Tree) (es : List StackEntry)
    → tree_lines m (map (entry_view trees) es)
    ≡ flat_map (λ (e : StackEntry). tree_text m (node_tree trees e) ++ codes "\n") es
lines-entries m trees [] = refl
lines-entries m trees (e ∷ es) =
    ap (λ l. (tree_text m (node_tree trees e) ++ codes "\n") ++ l) (lines-entries m trees es)
