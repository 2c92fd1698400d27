-- One more state in the rows of all states and in their sums.
use Rattle.std.proofs.Common.{ℕ, ◌≡◌, ◌+◌, ◌<◌, ◌⊎◌, Bool, ◌||◌, List, [], ◌∷◌, ◌++◌, length}
use Rattle.std.proofs.Common.{get_or, sym, ap, ◌∙◌, subst, inl, inr, arith, Option, None, unwrap_or}
use Rattle.std.proofs.Math.Seq.{get_or-append_seam}
use Rattle.std.proofs.lemmas.List.{get_or_append_left}
use Rattle.std.proofs.lemmas.List.FromFn.{get_or-map-range_with_len}
use Rattle.ylalr.specs.Collection.{Collection, Guide}
use Rattle.ytables.specs.declared.cell.Action.{Action}
use Rattle.ytables.specs.declared.cell.Action.TheVariants.{Error}
use Rattle.ytables.specs.Cell.{by_default}
use Rattle.ybitsets.specs.Packed.{PackedRows, entry_of, IsPushed}
use Rattle.ytables.specs.declared.cell.Conflict.{Conflict}
use Rattle.ytables.specs.Rows.{IsRow}
use Rattle.ytables.specs.Tables.{AreConflicts, conflicts_in}
use Rattle.ytables.specs.Tables.{AreRowsTo, AreSumsTo, act_at, rule_at, action_in, default_in}
use Rattle.ytables.specs.Tables.{cell_in, row_shift_reduce, row_reduce_reduce, row_choice}
use Rattle.ytables.proofs.RangeSteps.{sum_more, any_more}

module _ (m : Collection) (u : Guide) (n : ℕ) (row : List Action) (rule : Option ℕ)
    (shifts reduces : ℕ) (chosen : Bool) (r : IsRow m u n row rule shifts reduces chosen) where
  pub sums_step : (s d : ℕ) (b : Bool) → AreSumsTo m u n s d b → AreSumsTo m u (n + 1) (s + shifts)
      (d + reduces) (b || chosen)
  sums_step s d b h = record {
    shift_reduce = (let a = h.shift_reduce in let e = r.cells.shift_reduce in
        let k = sum_more n (row_shift_reduce m u) in cc);
    reduce_reduce = (let a = h.reduce_reduce in let e = r.cells.reduce_reduce in
        let k = sum_more n (row_reduce_reduce m u) in cc);
    choice = (let a = h.choice in let e = r.cells.choice in let k = any_more n (row_choice m u) in
        cc);
  }

  pub conflicts_step : (lists lists' : List (List Conflict)) (k : List Conflict) →
      length lists ≡ n → lists' ≡ lists ++ k ∷ [] → k ≡ conflicts_in m u n →
      AreConflicts m u n lists → AreConflicts m u (n + 1) lists'
  conflicts_step lists lists' k len e same h = λ q l. go q (side q l)
    where
      side : (q : ℕ) → q < n + 1 → (q < n) ⊎ (q ≡ n)
      side q l = grind arith

      go : (q : ℕ) → (q < n) ⊎ (q ≡ n) → get_or lists' q [] ≡ conflicts_in m u q
      go q (inl l) = ap (λ (xs : List (List Conflict)). get_or xs q []) e ∙ get_or_append_left lists
          (k ∷ []) [] q (omega arith) ∙ h q l
      go q (inr l) = ap (λ (xs : List (List Conflict)). get_or xs q []) e ∙ ap
          (λ i. get_or (lists ++ k ∷ []) i []) (l ∙ sym len) ∙ get_or-append_seam lists k [] [] ∙
          same ∙ ap (conflicts_in m u) (sym l)

  pub rows_step : (old new : PackedRows Action) (entries : List (Option Action))
      (ds ds' : List (Option ℕ)) → length old.rows ≡ n → old.width ≡ m.grammar.bare.tokens →
      length ds ≡ n → IsPushed old new entries → ds' ≡ ds ++ rule ∷ []
      → ((t : ℕ) → t < m.grammar.bare.tokens → by_default rule
      (unwrap_or (get_or entries t None) Error) ≡ by_default rule (get_or row t Error)) →
      AreRowsTo m u n (act_at old.rows ds) (rule_at ds) → AreRowsTo m u (n + 1)
      (act_at new.rows ds') (rule_at ds')
  rows_step old new entries ds ds' count wide len p e same h = record {
    action = λ q t l k. action q t k (side q l);
    default = λ q l. default q (side q l);
  }
    where
      side : (q : ℕ) → q < n + 1 → (q < n) ⊎ (q ≡ n)
      side q l = grind arith

      kept : (q : ℕ) → q < n → rule_at ds' q ≡ rule_at ds q
      kept q l = ap (λ (xs : List (Option ℕ)). get_or xs q None) e ∙ get_or_append_left ds
          (rule ∷ []) None q (omega arith)

      added : rule_at ds' n ≡ rule
      added = ap (λ (xs : List (Option ℕ)). get_or xs n None) e ∙ ap
          (λ k. get_or (ds ++ rule ∷ []) k None) (sym len) ∙ get_or-append_seam ds rule [] None

      default : (q : ℕ) → (q < n) ⊎ (q ≡ n) → rule_at ds' q ≡ default_in m u q
      default q (inl l) = kept q l ∙ h.default q l
      default q (inr l) = ap (rule_at ds') l ∙ added ∙ r.default ∙ ap (default_in m u) (sym l)

      at_end : (t : ℕ) → t < m.grammar.bare.tokens → act_at new.rows ds' n t ≡ action_in m u n t
      at_end t k =
          let here : entry_of new.rows n t ≡ get_or entries t None = ap (λ q. entry_of new.rows q t)
          (sym count) ∙ p.here t (subst (λ w. t < w) (sym wide) k) in
          let cell : get_or row t Error ≡ (cell_in m u n t).action =
          ap (λ (l : List Action). get_or l t Error) r.cells.actions ∙ get_or-map-range_with_len
          (λ t. (cell_in m u n t).action) 0 m.grammar.bare.tokens t t Error k (omega arith) in
          ap (λ o. by_default o (unwrap_or (entry_of new.rows n t) Error)) added ∙ ap
          (λ (x : Option Action). by_default rule (unwrap_or x Error)) here ∙ same t k
          ∙ ap (by_default rule) cell ∙ ap (λ o. by_default o (cell_in m u n t).action) r.default

      action : (q t : ℕ) → t < m.grammar.bare.tokens → (q < n) ⊎
          (q ≡ n) → act_at new.rows ds' q t ≡ action_in m u q t
      action q t k (inl l) =
          ap (λ o. by_default o (unwrap_or (entry_of new.rows q t) Error)) (kept q l) ∙ ap
          (λ (x : Option Action). by_default (rule_at ds q) (unwrap_or x Error))
          (p.before q t (omega arith)) ∙ h.action q t l k
      action q t k (inr l) = ap (λ q. act_at new.rows ds' q t) l ∙ at_end t k ∙ ap
          (λ q. action_in m u q t) (sym l)
