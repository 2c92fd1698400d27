-- Lookaheads that are not complete yet: what one more item adds is sound, and stays; and what the
-- links make of it.
use Rattle.std.proofs.Common.{ℕ, zero, suc, ◌≡◌, ◌<◌, ◌≤◌, ◌+◌, ◌⊎◌, ◌↔◌, List, [], ◌∷◌, ◌++◌}
use Rattle.std.proofs.Common.{length, drop, take, get_or, refl, sym, ◌∙◌, ap, subst, inl, inr}
use Rattle.std.proofs.Common.{arith, Option, Some, None, MatchOption}
use Rattle.std.proofs.Math.ListN.{set}
use Rattle.std.specs.List.{All}
use Rattle.ysymbols.specs.Grammar.{ContextFree, left_of, body_of, IsToken, end_token}
use Rattle.ysymbols.specs.Forms.{First}
use Rattle.ysymbols.specs.WellFormed.{WellFormed}
use Rattle.ylalr.specs.declared.items.Item.{Item}
use Rattle.ylalr.specs.declared.looks.Lr0.{Lr0}
use Rattle.ylalr.specs.declared.looks.Here.{Here}
use Rattle.ylalr.specs.Gotos.{goto_of}
use Rattle.ybitsets.specs.Marks.{Has}
use Rattle.ybitsets.specs.Rows.{BitRows, Holds, IsSized}
use Rattle.ybitsets.specs.Links.{Link, Reaches, given, passed, IsSpread}
use Rattle.ylalr.specs.ItemRows.{At, Starts, Shares, rows_at}
use Rattle.ylalr.specs.Sets.{step_of, Moves, IsAscending, Before}
use Rattle.ylalr.specs.States.{GotoIs, set_at, start_item}
use Rattle.ylalr.specs.Looks.{Spread, starts, closes, moves, SoundLooks, StartLooks, ClosedLooks}
use Rattle.ylalr.specs.Behind.{FormHas}
use Rattle.ylalr.specs.Looks.{ClosesAt, MovesAt}
use Rattle.ylalr.specs.Draft.{DraftValue, RowIn, IsHere, LeftsIn, SpreadIn, Carries, SoundDraft}
use Rattle.ylalr.specs.Draft.{Further, GivesForm, OpensAt, ShiftsAt, ServesAt, ServesState, IsMoved}
use Rattle.ylalr.specs.Draft.{StartsDraft}
use Rattle.ylalr.specs.Lr0.{FitLr0}
use Rattle.ylalr.proofs.BeginsWith.{found_first, last_first, cases}
use Rattle.ybitsets.proofs.Turn.{same_default}
use Rattle.ybitsets.proofs.LinkSteps.{link_cases, links_push, no_link, are_links_none}
use Rattle.ylalr.proofs.LookSteps.{some_spread, spread_token}
use Rattle.ysymbols.proofs.Numbers.{below_or_last}

order : (j k : ℕ) → (j < k) ⊎ ((j ≡ k) ⊎ (k < j))
order j k = grind arith

not_both : (i : Item) → Before i i → ⊥
not_both i (inl x) = omega arith
not_both i (inr x) = let y = x.1 in omega arith

-- an item stands once in an ascending list
index_once : (xs : List Item) (i : Item) (j k : ℕ) → IsAscending xs → j < length xs →
    k < length xs → get_or xs j i ≡ i → get_or xs k i ≡ i → j ≡ k
index_once xs i j k a hj hk ej ek = go (order j k)
  where
    go : (j < k) ⊎ ((j ≡ k) ⊎ (k < j)) → j ≡ k
    go (inl l) = absurd (not_both i
        (subst (λ t. Before t i) ej (subst (λ t. Before (get_or xs j i) t) ek (a j k i l hk))))
    go (inr (inl e)) = e
    go (inr (inr l)) = absurd
        (not_both i (subst (λ t. Before t i) ek (subst (λ t. Before (get_or xs k i) t) ej
        (a k j i l hj))))

-- an item of a state has one row
pub row_once : (xs : List Item) (rows : List ℕ) (i : Item) (p t : ℕ) → IsAscending xs →
    At xs rows i p → At xs rows i t → p ≡ t
row_once xs rows i p t a x y = x.row ∙ ap (λ k. get_or rows k 0)
    (index_once xs i x.index y.index a x.within y.within x.here y.here) ∙ sym y.row

heads : (v w : ℕ) (x y z : List ℕ) → z ≡ v ∷ x → z ≡ w ∷ y → v ≡ w
heads v w x y z e h = cc

tails : (v w : ℕ) (x y z : List ℕ) → z ≡ v ∷ x → z ≡ w ∷ y → x ≡ y
tails v w x y z e h = cc

some_same : (a b : ℕ) (o : Option ℕ) → o ≡ Some a → o ≡ Some b → a ≡ b
some_same a b o e h = cc

none_some : (a : ℕ) (o : Option ℕ) → o ≡ None → o ≡ Some a → ⊥
none_some a o e h = cc

below_dot : (d : ℕ) (b : List ℕ) (x : ℕ) (y : List ℕ) → drop d b ≡ x ∷ y → suc d ≤ length b
below_dot zero [] x y e = absurd (cc)
below_dot zero (s ∷ b) x y e = omega arith
below_dot (suc d) [] x y e = absurd (cc)
below_dot (suc d) (s ∷ b) x y e = let z = below_dot d b x y e in omega arith

-- forms with equal beginnings have equal symbols after a shorter one
before_dot : (d : ℕ) (b c : List ℕ) (x : ℕ) (y : List ℕ) → take (suc d) b ≡ take (suc d) c →
    drop d b ≡ x ∷ y → (take d b ≡ take d c) × ((z : List ℕ) × (drop d c ≡ x ∷ z))
before_dot zero [] c x y e h = absurd (cc)
before_dot zero (v ∷ b) [] x y e h = absurd (cc)
before_dot zero (v ∷ b) (w ∷ c) x y e h = (
  refl,
  (
    c,
    let k : v ≡ x = heads v x b y (v ∷ b) refl h in
        let j : v ≡ w = heads v w [] [] (v ∷ []) refl e in
        ap (λ u. u ∷ c) (sym j ∙ k),
  ),
)
before_dot (suc d) [] c x y e h = absurd (cc)
before_dot (suc d) (v ∷ b) [] x y e h = absurd (cc)
before_dot (suc d) (v ∷ b) (w ∷ c) x y e h =
    let j : v ≡ w = heads v w (take (suc d) b) (take (suc d) c) (v ∷ take (suc d) b) refl e in
    let t : take (suc d) b ≡ take (suc d) c = tails v w (take (suc d) b) (take (suc d) c)
    (v ∷ take (suc d) b) refl e in
    let z = before_dot d b c x y t h in
    (ap (λ u. u ∷ take d b) j ∙ ap (λ u. w ∷ u) z.0, z.1)

pub step_is : (i : Item) → ◌≡◌ {A = Item} (record { rule = i.rule; dot = i.dot + 1 }) (step_of i)
step_is i = let e : i.dot + 1 ≡ suc i.dot = omega arith in λ j. record { rule = i.rule; dot = e j }

pub further_then : (d e f : DraftValue) → Further d e → Further e f → Further d f
further_then d e f a b = record {
  looks = λ r c h. b.looks r c (a.looks r c h);
  links =
      λ p t h. b.links p t (a.links p t h);
}

pub opens_kept : (P : Lr0) (d e : DraftValue) (q p : ℕ) (i : Item) → Further d e →
    OpensAt P d q i p → OpensAt P e q i p
opens_kept P d e q p i m o n t y z pt = let w = o n t y z pt in
    record { begun = λ b h. m.looks t b (w.begun b h); linked = λ a. m.links p t (w.linked a) }

pub serves_kept : (P : Lr0) (d e : DraftValue) (q p : ℕ) (i : Item) → Further d e →
    ServesAt P d q i p → ServesAt P e q i p
serves_kept P d e q p i m s = record {
  opens = opens_kept P d e q p i m s.opens;
  shifts =
      λ x n t y z ne to pt. m.links p t (s.shifts x n t y z ne to pt);
}

module _ (P : Lr0) (f : WellFormed P.grammar.bare) (fit : FitLr0 P) where
  g : ContextFree
  g = P.grammar.bare

  gotos : (q x : ℕ) → q < length P.states.closures → x < P.grammar.bare.symbols →
      GotoIs P.grammar.bare P.states q x (goto_of P.gotos q x)
  gotos q x h k = fit.gotos.gotos q h x k

  -- the items of one row
  pub same_row : (q n : ℕ) (i k : Item) (p : ℕ) → RowIn P q i p → RowIn P n k p →
      (q ≡ n) × Shares P.grammar.bare i k
  same_row q n i k p x y =
      let e = fit.item_rows.apart q n i k p x y in (
        e,
        (fit.item_rows.rows q x.state).apart i k p x.at
            (subst (λ m. At (set_at P.states.closures m) (rows_at P.item_rows m) k p) (sym e) y.at),
      )

  pub row_below : (q : ℕ) (i : Item) (p : ℕ) → RowIn P q i p → p < P.item_rows.total
  row_below q i p x = fit.item_rows.below q i p x

  pub row_is_once : (q : ℕ) (i : Item) (p t : ℕ) → RowIn P q i p → RowIn P q i t → p ≡ t
  row_is_once q i p t x y = row_once (set_at P.states.closures q) (rows_at P.item_rows q) i p t
      (fit.states.each q x.state).order x.at y.at

  pub rule_below : (q : ℕ) (i : Item) (p : ℕ) → RowIn P q i p →
      i.rule < length P.grammar.bare.rules
  rule_below q i p x = subst (λ (v : Item). v.rule < length P.grammar.bare.rules) x.at.here
      ((fit.states.each q x.state).range x.at.index i x.at.within).0

  first_rule : (r : ℕ) → r < length P.grammar.bare.rules → left_of P.grammar.bare r ≡ left_of
      P.grammar.bare 0 → r ≡ 0
  first_rule zero h e = refl
  first_rule (suc r) h e = absurd (f.accept_once (suc r) (omega arith) h e)

  -- whatever the rules give to one item, they give to all that may share its row
  shared_spread : {q r d a : ℕ} → Spread P.grammar.bare (goto_of P.gotos) q r d a → (k : Item) →
      k.rule < length P.grammar.bare.rules → Shares P.grammar.bare (record { rule = r; dot = d }) k →
      SpreadIn P q k a
  shared_spread starts k h s =
      let e : k.rule ≡ 0 = first_rule k.rule h (sym s.left) in
      subst (λ v. Spread P.grammar.bare (goto_of P.gotos) 0 v k.dot end_token) (sym e)
      (subst (λ v. Spread P.grammar.bare (goto_of P.gotos) 0 0 v end_token) s.dot starts)
  shared_spread (closes {q = q} {b = b} {y = y} z e n w) k h s =
      subst (λ v. Spread P.grammar.bare (goto_of P.gotos) q k.rule v b) s.dot
      (closes z (e ∙ ap (λ v. v ∷ y) s.left) h w)
  shared_spread (moves {n = n} {r = r} {d = d} {a = a} {x = x} {y = y} z e u w) k h s =
      let j : Item = record { rule = k.rule; dot = d } in
      let t : take (suc d) (body_of P.grammar.bare r) ≡ take (suc d) (body_of P.grammar.bare k.rule) =
      s.before ∙ ap (λ v. take v (body_of P.grammar.bare k.rule)) (sym s.dot) in
      let p = before_dot d (body_of P.grammar.bare r) (body_of P.grammar.bare k.rule) x y t e in
      let before = shared_spread z j h (record { left = s.left; dot = refl; before = p.0 }) in
      subst (λ v. Spread P.grammar.bare (goto_of P.gotos) n k.rule v a) s.dot
      (moves before p.1.1 u w)

  -- what the closure rule gives to one item, it gives to all that share its row
  opened_on : (q n t a : ℕ) (i k j : Item) (s : ℕ) (y : List ℕ) (b : ℕ) → SpreadIn P q i a →
      drop i.dot (body_of P.grammar.bare i.rule) ≡ s ∷ y → First P.grammar.bare (y ++ a ∷ []) b →
      RowIn P q k t → Starts P.grammar.bare s k → RowIn P n j t → SpreadIn P n j b
  opened_on q n t a i k j s y b sp e w pk o pj =
      let z = same_row q n k j t pk pj in
      let oj : Starts P.grammar.bare s j = both z.1 in
      let r : Spread P.grammar.bare (goto_of P.gotos) q j.rule 0 b =
      closes sp (e ∙ ap (λ v. v ∷ y) (sym oj.1)) (rule_below n j t pj) w in
      subst (λ m. Spread P.grammar.bare (goto_of P.gotos) m j.rule j.dot b) z.0
      (subst (λ d. Spread P.grammar.bare (goto_of P.gotos) q j.rule d b) (sym oj.0) r)
    where
      both : Shares P.grammar.bare k j → Starts P.grammar.bare s j
      both h = (sym h.dot ∙ o.0, sym h.left ∙ o.1)

  -- the dot stands in front of a symbol and then the form y, and `to` is the row of the items of
  -- that symbol with the dot at 0
  pub record Opening (h : Here) (to : ℕ) (y : List ℕ) : Type 0 where
    pub symbol : ℕ
    pub dotted : drop h.item.dot (body_of P.grammar.bare h.item.rule) ≡ symbol ∷ y
    pub opened : Item
    pub place : RowIn P h.state opened to
    pub starts : Starts P.grammar.bare symbol opened

  -- what begins the form after the dot goes to the row of the left side
  pub sound_begun : (d : DraftValue) (m : BitRows) (h : Here) (to : ℕ) (y : List ℕ) →
      SoundLooks P.grammar.bare (goto_of P.gotos) P.states P.item_rows d.looks → IsHere P h →
      Opening h to y → ((r b : ℕ) → Holds m r b → Holds d.looks r b ⊎
      ((r ≡ to) × FormHas P.nullable P.first y b)) → SoundLooks P.grammar.bare (goto_of P.gotos)
      P.states P.item_rows m
  sound_begun d m h to y sound ih u a q i p b ip z = go (a p b z)
    where
      go : Holds d.looks p b ⊎ ((p ≡ to) × FormHas P.nullable P.first y b) → SpreadIn P q i b
      go (inl w) = sound q i p b ip w
      go (inr (ep, w)) =
          let c = some_spread P.grammar.bare f P.states (goto_of P.gotos) fit.states gotos h.state
          h.item ih.state (ih.at.index, ih.at.within, ih.at.here) in
          let ta = spread_token P.grammar.bare f P.states (goto_of P.gotos) fit.states gotos h.state
          h.item.rule h.item.dot c.0 c.1 in
          let tb : IsToken P.grammar.bare b = subst (λ v. b < v) fit.first_sized.columns
          w.there.column in
          opened_on h.state q to c.0 h.item u.opened i u.symbol y b c.1 u.dotted
          (found_first P.grammar.bare f P.nullable P.first fit.nullable_exact fit.first_exact y
          c.0 b ta tb w.place w.within w.before w.there) u.place u.starts
          (subst (RowIn P q i) ep ip)

  -- a form that vanishes passes on all that the item has
  pub carries_open : (h : Here) (to : ℕ) (y : List ℕ) → IsHere P h → Opening h to y →
      All (Has P.nullable) y → Carries P h.row to
  carries_open h to y ih u all = record {
    state = h.state;
    item = h.item;
    place = ih;
    on = λ n j a pj sp. (let ta = spread_token P.grammar.bare f P.states (goto_of P.gotos)
        fit.states gotos h.state h.item.rule h.item.dot a sp in
        opened_on h.state n to a h.item u.opened j u.symbol y a sp u.dotted
        (last_first P.grammar.bare f P.nullable P.first fit.nullable_exact fit.first_exact y a a
        ta ta all refl) u.place u.starts pj);
  }

  -- an item passes on all that it has to the item with its dot moved
  pub carries_shift : (h : Here) (t : ℕ) → IsHere P h → IsMoved P h t → Carries P h.row t
  carries_shift h t ih m = record { state = h.state; item = h.item; place = ih; on = on }
    where
      on : (n : ℕ) (k : Item) (a : ℕ) → RowIn P n k t → SpreadIn P h.state h.item a →
          SpreadIn P n k a
      on n k a pk sp =
          let z = same_row m.target n (step_of h.item) k t m.place pk in
          let r : SpreadIn P m.target (step_of h.item) a = moves sp m.moves.1 m.moves.2 m.leads in
          subst (λ v. SpreadIn P v k a) z.0 (shared_spread r k (rule_below n k t pk) z.1)

  -- other items of the row that is opened
  pub opens_by : (d : DraftValue) (h : Here) (to : ℕ) (y : List ℕ) → Opening h to y →
      GivesForm P d y h.row to → OpensAt P d h.state h.item h.row
  opens_by d h to y u gives n t z ez pt =
      let es : left_of P.grammar.bare n ≡ u.symbol = heads (left_of P.grammar.bare n) u.symbol z y
      (drop h.item.dot (body_of P.grammar.bare h.item.rule)) ez u.dotted in
      let ey : z ≡ y = tails (left_of P.grammar.bare n) u.symbol z y
      (drop h.item.dot (body_of P.grammar.bare h.item.rule)) ez u.dotted in
      let et : to ≡ t = (fit.item_rows.rows h.state u.place.state).shared u.opened
      (record { rule = n; dot = 0 }) to t u.place.at pt.at u.starts.0 (refl, es ∙ sym u.starts.1) in
      subst (λ v. GivesForm P d v h.row t) (sym ey) (subst (λ v. GivesForm P d y h.row v) et gives)

  pub opens_nowhere : (d : DraftValue) (h : Here) → length (body_of P.grammar.bare h.item.rule) ≤
      h.item.dot → OpensAt P d h.state h.item h.row
  opens_nowhere d h l n t y e pt =
      absurd (let z = below_dot h.item.dot (body_of P.grammar.bare h.item.rule)
      (left_of P.grammar.bare n) y e in omega arith)

  -- no item of the state has that left side
  pub opens_none : (d : DraftValue) (h : Here) (s : ℕ) (y : List ℕ) (lefts : List (Option ℕ)) →
      LeftsIn P h.state lefts → drop h.item.dot (body_of P.grammar.bare h.item.rule) ≡ s ∷ y →
      get_or lefts s None ≡ None → OpensAt P d h.state h.item h.row
  opens_none d h s y lefts are e none n t z ez pt =
      let es : left_of P.grammar.bare n ≡ s = heads (left_of P.grammar.bare n) s z y
      (drop h.item.dot (body_of P.grammar.bare h.item.rule)) ez e in
      absurd (none_some t (get_or lefts s None) none (subst (λ v. get_or lefts v None ≡ Some t) es
      (are.every (record { rule = n; dot = 0 }) t pt.at refl)))

  pub shifts_by : (d : DraftValue) (h : Here) (t : ℕ) → IsMoved P h t → Link d.links h.row t →
      ShiftsAt P d h.state h.item h.row
  shifts_by d h t m l x n u y e ne to pu =
      let ex : m.symbol ≡ x = heads m.symbol x m.moves.0 y
      (drop h.item.dot (body_of P.grammar.bare h.item.rule)) m.moves.1 e in
      let en : m.target ≡ n = some_same m.target n (goto_of P.gotos h.state m.symbol) m.leads
      (ap (λ v. goto_of P.gotos h.state v) ex ∙ to) in
      let et : t ≡ u = row_is_once n (step_of h.item) t u
      (subst (λ v. RowIn P v (step_of h.item) t) en m.place) pu in
      subst (λ v. Link d.links h.row v) et l

  pub shifts_none : (d : DraftValue) (h : Here) → ((t : ℕ) → IsMoved P h t → ⊥) →
      ShiftsAt P d h.state h.item h.row
  shifts_none d h absent x n u y e ne to pu =
      absurd (absent u (record {
        symbol = x;
        target = n;
        moves = (y, e, ne);
        leads = to;
        place =
            pu;
      }))

  -- the rows with all that is passed on are sound
  pub spread_sound : (d : DraftValue) (m : BitRows) → SoundDraft P d → IsSpread d.links d.looks m →
      SoundLooks P.grammar.bare (goto_of P.gotos) P.states P.item_rows m
  spread_sound d m s x q i p a ip h = go ((x p a).0 h) q i ip
    where
      go : {p a : ℕ} → Reaches d.links d.looks p a → (q : ℕ) (i : Item) → RowIn P q i p →
          SpreadIn P q i a
      go (given {p = p} {c = c} h) q i ip = s.looks q i p c ip h
      go (passed {p = p} {t = t} {c = c} z l) q i ip =
          let k = s.carried p t l in
          k.on q i c ip (go z k.state k.item k.place)

  -- the rows with all that is passed on are closed
  pub spread_closed : (d : DraftValue) (m : BitRows) → SoundDraft P d → IsSpread d.links d.looks m →
      StartsDraft P d → ((q : ℕ) → q < length P.states.closures → ServesState P d q) →
      ClosedLooks P.grammar.bare (goto_of P.gotos) P.states P.item_rows m
  spread_closed d m s x st serves = record {
    start = λ p ip. (x p end_token).1 (given (st p ip));
    states = λ q h i p ip. record {
      closes = closed q i p ip (serves q h i p ip);
      moves =
          moved q i p (serves q h i p ip);
    };
  }
    where
      columns : (p a : ℕ) → Reaches d.links d.looks p a → IsToken P.grammar.bare a
      columns p a (given h) = subst (λ v. a < v) s.sized.columns h.column
      columns p a (passed {p = r} z l) = columns r a z

      closed : (q : ℕ) (i : Item) (p : ℕ) → RowIn P q i p → ServesAt P d q i p →
          ClosesAt P.grammar.bare P.states P.item_rows m q i p
      closed q i p ip v n hn y a b t z e w pt =
          let r = (x p a).0 z in
          let o = v.opens n t y e pt in
          go o r (cases P.grammar.bare f P.nullable P.first fit.nullable_exact fit.first_exact y a b
          (columns p a r) w.token w)
        where
          go : GivesForm P d y p t → Reaches d.links d.looks p a → FormHas P.nullable P.first y b ⊎
              (All (Has P.nullable) y × (b ≡ a)) → Holds m t b
          go o r (inl k) = (x t b).1 (given (o.begun b k))
          go o r (inr k) = (x t b).1 (subst (Reaches d.links d.looks t) (sym k.1)
              (passed r (o.linked k.0)))

      moved : (q : ℕ) (i : Item) (p : ℕ) → ServesAt P d q i p → MovesAt P.grammar.bare
          (goto_of P.gotos) P.states P.item_rows m q i p
      moved q i p v y n z a t h e ne to pt =
          (x t a).1 (passed ((x p a).0 h) (v.shifts y n t z e ne to pt))

  -- a mark for the first item
  pub sound_start : (m o : BitRows) (t : ℕ) → ((r c : ℕ) → Holds m r c → ⊥) →
      RowIn P 0 start_item t →
      ((r c : ℕ) → Holds o r c ↔ (Holds m r c ⊎ ((r ≡ t) × (c ≡ end_token)))) →
      SoundLooks P.grammar.bare (goto_of P.gotos) P.states P.item_rows o
  sound_start m o t none it x q i p b ip z = go ((x p b).0 z)
    where
      go : Holds m p b ⊎ ((p ≡ t) × (b ≡ end_token)) → SpreadIn P q i b
      go (inl w) = absurd (none p b w)
      go (inr w) =
          let s = same_row 0 q start_item i t it (subst (RowIn P q i) w.0 ip) in
          subst (λ v. SpreadIn P v i b) s.0
          (subst (λ v. Spread P.grammar.bare (goto_of P.gotos) 0 i.rule i.dot v) (sym w.1)
          (shared_spread starts i (rule_below q i p ip) s.1))

  pub start_marked : (m o : BitRows) (t : ℕ) → RowIn P 0 start_item t →
      ((r c : ℕ) → Holds o r c ↔ (Holds m r c ⊎ ((r ≡ t) × (c ≡ end_token)))) →
      StartLooks P.states P.item_rows o
  start_marked m o t it x p ip = (x p end_token).1 (inr (row_is_once 0 start_item p t ip it, refl))

  pub goto_within : (q x n : ℕ) → q < length P.states.closures → x < P.grammar.bare.symbols →
      goto_of P.gotos q x ≡ Some n → n < length P.states.closures
  goto_within q x n h k e = let w : GotoIs P.grammar.bare P.states q x (Some n) =
      subst (GotoIs P.grammar.bare P.states q x) e (gotos q x h k) in w.0

  -- the symbol after the dot leads to one state
  one_target : (h : Here) (t x n : ℕ) → IsMoved P h t → Moves P.grammar.bare h.item x →
      goto_of P.gotos h.state x ≡ Some n → RowIn P n (step_of h.item) t
  one_target h t x n m mv e =
      let ex : m.symbol ≡ x = heads m.symbol x m.moves.0 mv.0
      (drop h.item.dot (body_of P.grammar.bare h.item.rule)) m.moves.1 mv.1 in
      let en : m.target ≡ n = some_same m.target n (goto_of P.gotos h.state m.symbol) m.leads
      (ap (λ v. goto_of P.gotos h.state v) ex ∙ e) in
      subst (λ v. RowIn P v (step_of h.item) t) en m.place

  pub moved_match : (h : Here) (x n : ℕ) (o : Option ℕ) → Moves P.grammar.bare h.item x →
      goto_of P.gotos h.state x ≡ Some n →
      MatchOption o ((p : ℕ) → RowIn P n (record { rule = h.item.rule; dot = h.item.dot + 1 }) p →
      ⊥) (λ p. RowIn P n (record { rule = h.item.rule; dot = h.item.dot + 1 }) p) →
      MatchOption o ((t : ℕ) → IsMoved P h t → ⊥) (IsMoved P h)
  moved_match h x n None mv e z =
      λ t m. z t (subst (λ (v : Item). RowIn P n v t) (sym (step_is h.item))
      (one_target h t x n m mv e))
  moved_match h x n (Some p) mv e z = record {
    symbol = x;
    target = n;
    moves = mv;
    leads = e;
    place = subst (λ (v : Item). RowIn P n v p) (step_is h.item) z;
  }

-- rows with more, and one more link along which lookaheads are carried
pub sound_linked : (P : Lr0) (d : DraftValue) (m : BitRows) (more : List (List ℕ)) (from to : ℕ) →
    SoundDraft P d → IsSized P.item_rows.total P.grammar.bare.tokens m → SoundLooks P.grammar.bare
    (goto_of P.gotos) P.states P.item_rows m → from < P.item_rows.total → to < P.item_rows.total →
    more ≡ set d.links from (get_or d.links from [] ++ to ∷ []) → Carries P from to →
    SoundDraft P (record { looks = m; links = more })
sound_linked P d m more from to s z w hf ht e c = record {
  sized = z;
  links = links_push d.links more from to (subst (λ k. from < k) (sym s.links.sized) hf) e
      P.item_rows.total s.links ht;
  looks = w;
  carried = λ p t h. go p t
      (link_cases d.links more from to (subst (λ k. from < k) (sym s.links.sized) hf) e p t h);
}
  where
    go : (p t : ℕ) → Link d.links p t ⊎ ((p ≡ from) × (t ≡ to)) → Carries P p t
    go p t (inl h) = s.carried p t h
    go p t (inr h) = subst (λ k. Carries P k t) (sym h.0)
        (subst (λ k. Carries P from k) (sym h.1) c)

-- rows with more
pub sound_rows : (P : Lr0) (d : DraftValue) (m : BitRows) → SoundDraft P d →
    IsSized P.item_rows.total P.grammar.bare.tokens m → SoundLooks P.grammar.bare (goto_of P.gotos)
    P.states P.item_rows m → SoundDraft P (record { looks = m; links = d.links })
sound_rows P d m s z w = record { sized = z; links = s.links; looks = w; carried = s.carried }

-- the row of an item has a list of links
pub row_linked : (P : Lr0) → WellFormed P.grammar.bare → FitLr0 P → (d : DraftValue) →
    SoundDraft P d → (h : Here) → IsHere P h → h.row < length d.links
row_linked P f fit d s h ih = subst (λ k. h.row < k) (sym s.links.sized)
    (row_below P f fit h.state h.item h.row ih)

-- no links yet
pub no_links : (P : Lr0) (m : BitRows) (l : List (List ℕ)) → length l ≡ P.item_rows.total →
    All (λ r. r ≡ []) l → IsSized P.item_rows.total P.grammar.bare.tokens m → SoundLooks P.grammar.bare
    (goto_of P.gotos) P.states P.item_rows m → SoundDraft P (record { looks = m; links = l })
no_links P m l e none z w = record {
  sized = z;
  links = are_links_none P.item_rows.total l e none;
  looks = w;
  carried = λ p t h. absurd (no_link l none p t h);
}

-- one more item of a state is served
pub served_more : (P : Lr0) (d e : DraftValue) (q k : ℕ) (xs : List Item) (rows : List ℕ)
    (v : Item) → xs ≡ set_at P.states.closures q → rows ≡ rows_at P.item_rows q → k < length xs →
    Further d e → ((i : Item) (p : ℕ) (z : RowIn P q i p) → z.at.index < k → ServesAt P d q i p) →
    ServesAt P e q (get_or xs k v) (get_or rows k 0) → (i : Item) (p : ℕ) (z : RowIn P q i p) →
    z.at.index < k + 1 → ServesAt P e q i p
served_more P d e q k xs rows v ex er h m s last i p z l = go (below_or_last z.at.index k l)
  where
    go : (z.at.index < k) ⊎ (z.at.index ≡ k) → ServesAt P e q i p
    go (inl w) = serves_kept P d e q p i m (s i p z w)
    go (inr w) =
        let ei : get_or xs k v ≡ i = same_default xs k v i h ∙ ap (λ (u : List Item). get_or u k i)
        ex ∙ ap (λ j. get_or (set_at P.states.closures q) j i) (sym w) ∙ z.at.here in
        let ep : get_or rows k 0 ≡ p = ap (λ (u : List ℕ). get_or u k 0) er ∙ ap
        (λ j. get_or (rows_at P.item_rows q) j 0) (sym w) ∙ sym z.at.row in
        subst (λ u. ServesAt P e q i u) ep (subst (λ (u : Item). ServesAt P e q u (get_or rows k 0))
        ei last)
