-- What holds of the content of a parse, and that steps keep it.
use Rattle.std.proofs.Common.{ℕ, ◌≡◌, ◌≤◌, ◌+◌, ◌-◌, true, List, [], ◌∷◌, ◌++◌, Option, Some}
use Rattle.std.proofs.Common.{length, refl, sym, ◌∙◌, ap, arith}
use Rattle.std.specs.Prelude.{unwrap_or}
use Rattle.std.proofs.lemmas.Bool.{lt-ltb, le-leb, leb-true}
use Rattle.std.proofs.lemmas.List.{length-append}
use Rattle.std.proofs.Math.Seq.{drop-append_seam}
use Rattle.ytables.specs.Tables.{TablesValue as Tables}
use Rattle.ymachine.specs.declared.parts.StackEntry.{StackEntry}
use Rattle.ymachine.specs.declared.parts.Node.{Node}
use Rattle.ymachine.specs.declared.parts.Node.TheVariants as nodes
use Rattle.ymachine.specs.Machine.{without_last, last_ones}
use Rattle.ymachine.specs.Tables.{goto_at}
use Rattle.ymachine.specs.Rest.{Rest}
use Rattle.ymachine.specs.Content.{Place, entry, top_state, lead, leads, all_below, node_fits}
use Rattle.ymachine.specs.Content.{nodes_fit, rest_fits, valid}
use Rattle.ymachine.proofs.Ends.{join, first, second, length-without_last, length-last_ones}
use Rattle.ymachine.proofs.States.{leads-push, leads-take}
use Rattle.ymachine.proofs.Nodes.{below_weaker, below_append, below_take, below_drop}
use Rattle.ymachine.proofs.Nodes.{nodes_fit-last}
use Rattle.ymachine.proofs.Nodes.{nodes_fit-more}

-- what `valid` says, part by part
pub record Facts (t : Tables) (tokens : List ℕ) (stack : List StackEntry) (ns : List Node)
    (children : List StackEntry) (rest : Rest) (errors steps : ℕ) : Type 0 where
  pub states : leads t 0 stack ≡ true
  pub below : all_below (length ns) stack ≡ true
  pub fit : nodes_fit children 0 ns ≡ true
  pub few : length ns ≤ steps
  pub taken : length stack + length children ≤ length ns
  pub reported : errors ≤ steps
  pub read : rest_fits tokens rest ≡ true

abbrev pub FactsOf : Place → Type 0
FactsOf p = Facts p.tables p.tokens p.content.stack p.content.nodes p.content.children
    p.content.rest p.content.errors p.content.steps

pub facts : (p : Place) → valid p ≡ true → FactsOf p
facts p h =
    let a = second _ _ h in
    let b = second _ _ a in
    let c = second _ _ b in
    let n = first _ _ c in
    let d = second _ _ c in
    record {
      states = first _ _ h;
      below = first _ _ a;
      fit = first _ _ b;
      few = leb-true (length p.content.nodes) p.content.steps (first _ _ n);
      taken = leb-true (length p.content.stack + length p.content.children) (length p.content.nodes)
          (second _ _ n);
      reported = leb-true p.content.errors p.content.steps (first _ _ d);
      read = second _ _ d;
    }

pub is_valid : (p : Place) → FactsOf p → valid p ≡ true
is_valid p f =
    join f.states (join f.below (join f.fit (join
    (join (le-leb (length p.content.nodes) p.content.steps f.few)
    (le-leb (length p.content.stack + length p.content.children) (length p.content.nodes)
    f.taken))
    (join (le-leb p.content.errors p.content.steps f.reported) f.read))))

module _ (t : Tables) (tokens : List ℕ) (stack : List StackEntry) (ns : List Node)
    (children : List StackEntry) (rest : Rest) (errors steps : ℕ)
    (f : Facts t tokens stack ns children rest errors steps) where
  lead_is : (q symbol to : ℕ) → goto_at t q symbol ≡ Some to
      → goto_at t q symbol ≡ Some (lead t q symbol)
  lead_is q symbol to e = e ∙ ap (λ (n : ℕ). let o : Option ℕ = Some n in
      o) (sym (ap (λ (o : Option ℕ). unwrap_or o 0) e))

  -- an entry with a node of its own on top
  pub grow : (symbol to : ℕ) → goto_at t (top_state stack) symbol ≡ Some to → (n : Node)
      → node_fits children (length ns) n ≡ true
      → Facts t tokens (stack ++ entry (lead t (top_state stack) symbol) symbol (length ns) ∷ [])
      (ns ++ n ∷ []) children rest errors (steps + 1)
  grow symbol to e n h =
      let l = length-append ns (n ∷ []) in
      let s = length-append stack (entry (lead t (top_state stack) symbol) symbol (length ns) ∷ [])
      in
      let few = f.few in
      let taken = f.taken in
      let reported = f.reported in
      record {
        states = leads-push t 0 stack symbol (lead t (top_state stack) symbol) (length ns) f.states
            (lead_is (top_state stack) symbol to e);
        below = below_append (length (ns ++ n ∷ [])) stack
            (entry (lead t (top_state stack) symbol) symbol (length ns) ∷ [])
            (below_weaker (length ns) (length (ns ++ n ∷ [])) stack (omega (arith, l)) f.below)
            (join (lt-ltb (length ns) (length (ns ++ n ∷ [])) (omega (arith, l))) refl);
        fit = nodes_fit-last children ns n f.fit h;
        few = omega (arith, l, few);
        taken = omega (arith, l, s, taken);
        reported = omega (arith, reported);
        read = f.read;
      }

  -- the entries on top become the children of a new one
  pub fold : (left rule width to : ℕ) → width ≤ length stack
      → goto_at t (top_state (without_last width stack)) left ≡ Some to
      → Facts t tokens (without_last width stack
      ++ entry (lead t (top_state (without_last width stack)) left) left (length ns) ∷ [])
      (ns ++ nodes.Rule rule (length children) width ∷ []) (children ++ last_ones width stack)
      rest errors (steps + 1)
  fold left rule width to h e =
      let n : Node = nodes.Rule rule (length children) width in
      let kept = without_last width stack in
      let l = length-append ns (n ∷ []) in
      let k = length-without_last width stack in
      let j = length-last_ones width stack h in
      let s = length-append kept (entry (lead t (top_state kept) left) left (length ns) ∷ []) in
      let c = length-append children (last_ones width stack) in
      let few = f.few in
      let taken = f.taken in
      let reported = f.reported in
      record {
        states = leads-push t 0 kept left (lead t (top_state kept) left) (length ns)
            (leads-take t 0 (length stack - width) stack f.states)
            (lead_is (top_state kept) left to e);
        below = below_append (length (ns ++ n ∷ [])) kept
            (entry (lead t (top_state kept) left) left (length ns) ∷ [])
            (below_weaker (length ns) (length (ns ++ n ∷ [])) kept (omega (arith, l))
            (below_take (length ns) (length stack - width) stack f.below))
            (join (lt-ltb (length ns) (length (ns ++ n ∷ [])) (omega (arith, l))) refl);
        fit = nodes_fit-last (children ++ last_ones width stack) ns n
            (nodes_fit-more children (last_ones width stack) 0 ns f.fit)
            (join (le-leb (length children + width) (length (children ++ last_ones width stack))
            (omega (arith, c, j)))
            (below_take (length ns) width _
            (ap (all_below (length ns)) (drop-append_seam children (last_ones width stack))
            ∙ below_drop (length ns) (length stack - width) stack f.below)));
        few = omega (arith, l, few);
        taken = omega (arith, l, s, c, j, k, taken, h);
        reported = omega (arith, reported);
        read = f.read;
      }

  -- the entry on top goes
  pub pop : Facts t tokens (without_last 1 stack) ns children rest errors (steps + 1)
  pop =
      let k = length-without_last 1 stack in
      let few = f.few in
      let taken = f.taken in
      let reported = f.reported in
      record {
        states = leads-take t 0 (length stack - 1) stack f.states;
        below = below_take (length ns) (length stack - 1) stack f.below;
        fit = f.fit;
        few = omega (arith, few);
        taken = omega (arith, k, taken);
        reported = omega (arith, reported);
        read = f.read;
      }

  -- one error more or none is reported
  pub stay : (reported : ℕ) → reported ≤ errors + 1
      → Facts t tokens stack ns children rest reported (steps + 1)
  stay reported h =
      let few = f.few in
      let before = f.reported in
      record {
        states = f.states;
        below = f.below;
        fit = f.fit;
        few = omega (arith, few);
        taken = f.taken;
        reported = omega (arith, h, before);
        read = f.read;
      }

  -- other tokens are upcoming
  pub advance : (left : Rest) → rest_fits tokens left ≡ true
      → Facts t tokens stack ns children left errors steps
  advance left h = record {
    states = f.states;
    below = f.below;
    fit = f.fit;
    few = f.few;
    taken = f.taken;
    reported = f.reported;
    read = h;
  }
