-- The gotos of the states so far, with those of one state more.
use Rattle.std.proofs.Common.{ℕ, ◌≡◌, ◌<◌, ◌+◌, ◌⊎◌, List, [], ◌∷◌, ◌++◌, length, get_or}
use Rattle.std.proofs.Common.{sym, ◌∙◌, subst, inl, inr, arith}
use Rattle.ysymbols.specs.Grammar.{ContextFree}
use Rattle.ysymbols.proofs.Numbers.{below_or_last}
use Rattle.ylalr.specs.declared.gotos.Goto.{Goto}
use Rattle.ylalr.specs.Gotos.{lookup, IsAscendingRow, IsRowBelow}
use Rattle.ylalr.specs.States.{StateLists, Extends, Finds, RowIs, RowsAre}
use Rattle.ylalr.proofs.GotoSteps.{goto_kept}
use Rattle.ylalr.proofs.NumberSteps.{found_push, within_push}
use Rattle.ylalr.proofs.StateSteps.{push_old, push_new}

pub rows_push : (g : ContextFree) (s t : StateLists) (n : ℕ) (xs : List (List Goto))
    (o : List Goto) → Extends s t → n < length s.closures → length xs ≡ n → RowsAre g s n xs →
    RowIs g t n o → IsAscendingRow o → IsRowBelow g.symbols o →
    Finds o (length s.closures) (length t.closures) → RowsAre g t (n + 1) (xs ++ o ∷ [])
rows_push g s t n xs o e l z r i a b f = record {
  gotos = λ q h. go q (below_or_last q n h);
  order = λ q h. each IsAscendingRow r.order a q (below_or_last q n h);
  symbols = λ q h. each (IsRowBelow g.symbols) r.symbols b q (below_or_last q n h);
  within = within_push xs o (length s.closures) (length t.closures) (omega arith) e.longer r.within
      r.found f;
  found = found_push xs o (length s.closures) (length t.closures) (omega arith) e.longer r.within
      r.found f;
}
  where
    go : (q : ℕ) → (q < n) ⊎ (q ≡ n) → RowIs g t q (get_or (xs ++ o ∷ []) q [])
    go q (inl h) = subst (RowIs g t q) (sym (push_old xs o [] q (omega arith)))
        (λ x k. goto_kept g s t q x (lookup (get_or xs q []) x) e (omega arith) (r.gotos q h x k))
    go q (inr h) = subst (RowIs g t q) (sym (push_new xs o [] q (h ∙ sym z)))
        (subst (λ p. RowIs g t p o) (sym h) i)

    each : (P : List Goto → Type 0) → ((q : ℕ) → q < n → P (get_or xs q [])) → P o →
        (q : ℕ) → (q < n) ⊎ (q ≡ n) → P (get_or (xs ++ o ∷ []) q [])
    each P old new q (inl h) = subst P (sym (push_old xs o [] q (omega arith))) (old q h)
    each P old new q (inr h) = subst P (sym (push_new xs o [] q (h ∙ sym z))) new
