use Rattle.std.proofs.Common.{ℕ, ◌≡◌, ◌+◌, ◌<◌, ◌∙◌, true, false, List, [], ◌∷◌, ◌++◌, length}
use Rattle.std.proofs.Common.{get_or}
use Rattle.std.proofs.Common.{Option, None, sym, ap, subst, arith, slice_index}
use Rattle.ysymbols.specs.Names.{is_among}
use Rattle.ycode.specs.declared.layout.Layout.{Layout}
use Rattle.ycode.specs.Finder.{KnowsOf}
use Rattle.ycode.specs.Layout.{key_of, row_of, layout_of, and_row}
use Rattle.ycode.specs.Packing.{PackingValue, IsEntered, is_taken, can_begin, columns_in, with_row}
use Rattle.ycode.specs.Packing.{first_place}
use Rattle.ycode.proofs.FinderSteps.{knows_with}
use Rattle.ycode.proofs.LayoutSteps.{row_is, row_wide, columns_some, fresh_laid}
use Rattle.ycode.proofs.PackingSteps.{entered}
use Rattle.ycode.proofs.PlaceSteps.{taken_there, blocked_more}
use Rattle.ycode.proofs.layout.Layout.add.Goals as goal

pub learn-requires-clause-knows : goal.learn-requires-clause-knows
learn-requires-clause-knows c =
    let l = c.args.self.now in
    let p = l.packing in
    let es = c.args.entries.now in
    let row = c.in_ok-row.row.items in
    let d = c.place_for-d.result in
    let laid = c.requires.laid in
    let wide = c.width.ensures.value in
    let row_eq : row ≡ row_of p.width es = row_is p.width row es (c.in_ok-row.ensures.len ∙ wide)
    (λ t m. c.in_ok-row.ensures.entries t (omega (arith, m, wide))) in
    let new_eq : c.put.new.self ≡ with_row p (row_of p.width es) d =
    c.in_ok-put.ensures.exact laid.even ∙
    ap (λ (x : List (Option ℕ)). with_row p x d) (c.deref-3.ensures.value ∙ row_eq) in
    subst (λ (q : PackingValue). KnowsOf q l.finder) (sym new_eq)
    (knows_with p l.finder (row_of p.width es) d (row_wide p.width es) laid.even laid.knows)

pub learn-requires-clause-cells : goal.learn-requires-clause-cells
learn-requires-clause-cells c =
    let l = c.args.self.now in
    let p = l.packing in
    let es = c.args.entries.now in
    let row = c.in_ok-row.row.items in
    let d = c.place_for-d.result in
    let laid = c.requires.laid in
    let wide = c.width.ensures.value in
    let row_eq : row ≡ row_of p.width es = row_is p.width row es (c.in_ok-row.ensures.len ∙ wide)
    (λ t m. c.in_ok-row.ensures.entries t (omega (arith, m, wide))) in
    let cols_eq : c.in_ok-columns.columns.items ≡ columns_in (row_of p.width es) =
    c.in_ok-columns.ensures.value ∙ ap columns_in (c.deref.ensures.value ∙ row_eq) in
    let new_eq : c.put.new.self ≡ with_row p (row_of p.width es) d =
    c.in_ok-put.ensures.exact laid.even ∙
    ap (λ (x : List (Option ℕ)). with_row p x d) (c.deref-3.ensures.value ∙ row_eq) in
    let R = row_of p.width es in
    subst (λ (x : List ℕ). (k : ℕ) → k < length x →
    is_taken c.put.new.self (d + slice_index x k) ≡ true) (sym (c.deref-4.ensures.value ∙ cols_eq))
    (subst (λ (q : PackingValue). (k : ℕ) → k < length (columns_in R) →
    is_taken q (d + slice_index (columns_in R) k) ≡ true) (sym new_eq)
    (λ k m. taken_there p R d (row_wide p.width es) (slice_index (columns_in R) k)
    (columns_some R k m)))

pub learn-requires-clause-none : goal.learn-requires-clause-none
learn-requires-clause-none c =
    let l = c.args.self.now in
    let p = l.packing in
    let es = c.args.entries.now in
    let row = c.in_ok-row.row.items in
    let d = c.place_for-d.result in
    let laid = c.requires.laid in
    let wide = c.width.ensures.value in
    let row_eq : row ≡ row_of p.width es = row_is p.width row es (c.in_ok-row.ensures.len ∙ wide)
    (λ t m. c.in_ok-row.ensures.entries t (omega (arith, m, wide))) in
    let new_eq : c.put.new.self ≡ with_row p (row_of p.width es) d =
    c.in_ok-put.ensures.exact laid.even ∙
    ap (λ (x : List (Option ℕ)). with_row p x d) (c.deref-3.ensures.value ∙ row_eq) in
    let same : c.deref-2.result.now ≡ c.deref-4.result.now = c.deref-2.ensures.value ∙
    sym c.deref-4.ensures.value in
    λ e m. subst (λ (q : PackingValue). can_begin q c.deref-4.result.now e ≡ false) (sym new_eq)
    (blocked_more p (row_of p.width es) d (row_wide p.width es) laid.even c.deref-4.result.now e
    (subst (λ (x : List ℕ). can_begin p x e ≡ false) same (c.place_for-d.ensures.none e m)))

pub returns-clause-laid : goal.returns-clause-laid
returns-clause-laid c =
    let l = c.args.self.now in
    let p = l.packing in
    let es = c.args.entries.now in
    let row = c.in_ok-row.row.items in
    let d = c.place_for-d.result in
    let laid = c.requires.laid in
    let wide = c.width.ensures.value in
    let row_eq : row ≡ row_of p.width es = row_is p.width row es (c.in_ok-row.ensures.len ∙ wide)
    (λ t m. c.in_ok-row.ensures.entries t (omega (arith, m, wide))) in
    let new_eq : c.put.new.self ≡ with_row p (row_of p.width es) d =
    c.in_ok-put.ensures.exact laid.even ∙
    ap (λ (x : List (Option ℕ)). with_row p x d) (c.deref-3.ensures.value ∙ row_eq) in
    let known_eq : c.push.new.self ≡ l.known ++ key_of es ∷ [] = c.in_ok-push.ensures.added ∙
    ap (λ (k : List ℕ). l.known ++ k ∷ []) c.requires.key in
    let after : Layout = record {
      packing = c.put.new.self;
      finder = c.learn.new.self;
      known = c.push.new.self;
      places = c.push-2.new.self;
    } in
    let exact : layout_of after ≡ and_row (layout_of l) es d = λ i. record {
      packing = new_eq i;
      known = known_eq i;
      places = c.in_ok-push-2.ensures.items i;
    } in
    let inside : IsEntered p c.put.new.self es d = entered p c.put.new.self c.deref-3.result.now es d
    (ap length c.deref-3.ensures.value ∙ (c.in_ok-row.ensures.len ∙ wide))
    (λ t m. ap (λ (x : List (Option ℕ)). get_or x t None) c.deref-3.ensures.value ∙
    c.in_ok-row.ensures.entries t (omega (arith, m, wide))) c.in_ok-put.ensures.put in
    fresh_laid l after laid es d
    (subst (λ (k : List ℕ). is_among l.known k ≡ false) c.requires.key c.requires.fresh) exact
    c.in_ok-learn.ensures inside

pub returns-clause-entered : goal.returns-clause-entered
returns-clause-entered c =
    let l = c.args.self.now in
    let p = l.packing in
    let es = c.args.entries.now in
    let d = c.place_for-d.result in
    let wide = c.width.ensures.value in
    let inside : IsEntered p c.put.new.self es d = entered p c.put.new.self c.deref-3.result.now es d
    (ap length c.deref-3.ensures.value ∙ (c.in_ok-row.ensures.len ∙ wide))
    (λ t m. ap (λ (x : List (Option ℕ)). get_or x t None) c.deref-3.ensures.value ∙
    c.in_ok-row.ensures.entries t (omega (arith, m, wide))) c.in_ok-put.ensures.put in
    inside

pub returns-clause-exact : goal.returns-clause-exact
returns-clause-exact c =
    let l = c.args.self.now in
    let p = l.packing in
    let es = c.args.entries.now in
    let row = c.in_ok-row.row.items in
    let d = c.place_for-d.result in
    let laid = c.requires.laid in
    let wide = c.width.ensures.value in
    let row_eq : row ≡ row_of p.width es = row_is p.width row es (c.in_ok-row.ensures.len ∙ wide)
    (λ t m. c.in_ok-row.ensures.entries t (omega (arith, m, wide))) in
    let new_eq : c.put.new.self ≡ with_row p (row_of p.width es) d =
    c.in_ok-put.ensures.exact laid.even ∙
    ap (λ (x : List (Option ℕ)). with_row p x d) (c.deref-3.ensures.value ∙ row_eq) in
    let known_eq : c.push.new.self ≡ l.known ++ key_of es ∷ [] = c.in_ok-push.ensures.added ∙
    ap (λ (k : List ℕ). l.known ++ k ∷ []) c.requires.key in
    let after : Layout = record {
      packing = c.put.new.self;
      finder = c.learn.new.self;
      known = c.push.new.self;
      places = c.push-2.new.self;
    } in
    let exact : layout_of after ≡ and_row (layout_of l) es d = λ i. record {
      packing = new_eq i;
      known = known_eq i;
      places = c.in_ok-push-2.ensures.items i;
    } in
    exact

pub returns-clause-first : goal.returns-clause-first
returns-clause-first c =
    let l = c.args.self.now in
    let p = l.packing in
    let es = c.args.entries.now in
    let row = c.in_ok-row.row.items in
    let d = c.place_for-d.result in
    let laid = c.requires.laid in
    let wide = c.width.ensures.value in
    let row_eq : row ≡ row_of p.width es = row_is p.width row es (c.in_ok-row.ensures.len ∙ wide)
    (λ t m. c.in_ok-row.ensures.entries t (omega (arith, m, wide))) in
    let cols_eq : c.in_ok-columns.columns.items ≡ columns_in (row_of p.width es) =
    c.in_ok-columns.ensures.value ∙ ap columns_in (c.deref.ensures.value ∙ row_eq) in
    c.place_for-d.ensures.first ∙ ap (first_place p) (c.deref-2.ensures.value ∙ cols_eq)
