-- The lookaheads of an item, found one after another.
use Rattle.std.proofs.Common.{ℕ, zero, suc, ◌≡◌, ◌+◌, ◌-◌, ◌<◌, ◌≤◌, ◌++◌, ◌∷◌, Bool, true, false}
use Rattle.std.proofs.Common.{List, [], length, flat_map, refl, sym, ap, ◌∙◌, arith}
use Rattle.std.proofs.Common.{append-nil, if◌then◌else◌, codes}
use Rattle.std.specs.List.{range_with_len}
use Rattle.ylalr.specs.declared.items.Item.{Item}
use Rattle.ylalr.specs.Items.{Lookahead, IsNextLook}
use Rattle.ylalr.specs.Collection.{Guide, IsGuide, bare_of, state_of}
use Rattle.ylink.proofs.Sent.{flat_map-append}
use Rattle.ytables.specs.Tables.{TablesValue}
use Rattle.ytables.specs.Text.{name_of}
use Rattle.ytables.specs.Report.{look_text}
use Rattle.ylink.proofs.Ranges.{range_more}

-- numbers without a text
skip : (f : ℕ → List ℕ) (n r : ℕ) → ((a : ℕ) → n ≤ a → a < n + r → f a ≡ []) →
    flat_map f (range_with_len 0 (n + r)) ≡ flat_map f (range_with_len 0 n)
skip f n zero h = let e : n + 0 ≡ n = omega arith in ap (λ i. flat_map f (range_with_len 0 i)) e
skip f n (suc r) h =
    let e : n + suc r ≡ (n + r) + 1 = omega arith in
    let s : 0 + (n + r) ≡ n + r = omega arith in
    ap (λ i. flat_map f (range_with_len 0 i)) e ∙ ap (flat_map f) (range_more 0 (n + r) (n + r) s) ∙
    flat_map-append f (range_with_len 0 (n + r)) ((n + r) ∷ []) ∙ ap
    (λ l. flat_map f (range_with_len 0 (n + r)) ++ (l ++ [])) (h (n + r) (omega arith) (omega arith))
    ∙ append-nil (flat_map f (range_with_len 0 (n + r))) ∙ skip f n r (λ a x y. h a x (omega arith))

skip_to : (f : ℕ → List ℕ) (n k : ℕ) → n ≤ k → ((a : ℕ) → n ≤ a → a < k → f a ≡ []) →
    flat_map f (range_with_len 0 k) ≡ flat_map f (range_with_len 0 n)
skip_to f n k l h =
    let e : k ≡ n + (k - n) = omega arith in
    ap (λ i. flat_map f (range_with_len 0 i)) e ∙ skip f n (k - n) (λ a x y. h a x (omega arith))

module _ (v : TablesValue) (u : Guide) (h : IsGuide v.built u) (q : ℕ) (i : Item)
    (l : q < length v.built.states) where
  no_look : (a : ℕ) → a < v.built.grammar.bare.tokens →
      (Lookahead (bare_of v.built) (state_of v.built q) i a → ⊥) → look_text v u q i a ≡ []
  no_look a s none = go (u.looks q i a) refl
    where
      go : (b : Bool) → u.looks q i a ≡ b →
          (if b then codes " " ++ name_of v.built.grammar a else []) ≡ []
      go true e = absurd (none ((h.looks q i a l s).0 e))
      go false e = refl

  -- up to the next lookahead there is nothing to say
  pub next_said : (t n : ℕ) → IsNextLook (bare_of v.built) (state_of v.built q) i t n →
      flat_map (look_text v u q i) (range_with_len 0 n) ≡ flat_map (look_text v u q i)
      (range_with_len 0 t)
  next_said t n next = skip_to (look_text v u q i) t n next.further
      (λ a x y. no_look a (let w = next.within in omega (arith, w, y)) (next.none a x y))

  -- the text of that lookahead is written
  pub next_looks : (t n : ℕ) → IsNextLook (bare_of v.built) (state_of v.built q) i t n →
      n < v.built.grammar.bare.tokens → u.looks q i n ≡ true
  next_looks t n next s = (h.looks q i n l s).1 (next.looks s)

  pub look_said : (t : ℕ) → u.looks q i t ≡ true →
      codes " " ++ name_of v.built.grammar t ≡ look_text v u q i t
  look_said t e =
      ap (λ (b : Bool). if b then codes " " ++ name_of v.built.grammar t else []) (sym e)
