-- One step that may grow something after another.
use Rattle.std.proofs.Common.{ℕ, Bool, true, false, ◌||◌, ◌≡◌, ◌<◌, ◌≤◌, ◌∙◌, arith}
use Rattle.ybitsets.specs.Rows.{BitRows, GrowsIf, IsSized}

pub less_then : (a b : Bool) (x y z : ℕ) → (a ≡ true → y < x) → y ≤ x → (b ≡ true → z < y) → z ≤ y →
    (a || b) ≡ true → z < x
less_then true b x y z f k g l e = let h = f (λ i. true) in omega arith
less_then false true x y z f k g l e = let h = g (λ i. true) in omega arith
less_then false false x y z f k g l e = absurd (cc)

pub same_then : {X : Type 0} (a b : Bool) (x y z : X) → (a ≡ false → y ≡ x) → (b ≡ false → z ≡ y) →
    (a || b) ≡ false → z ≡ x
same_then true b x y z f g e = absurd (cc)
same_then false true x y z f g e = absurd (cc)
same_then false false x y z f g e = g (λ i. false) ∙ f (λ i. false)

pub sized_grown : (m n : BitRows) (h w : ℕ) (b : Bool) → IsSized h w m → GrowsIf m n b →
    IsSized h w n
sized_grown m n h w b s g = record { rows = g.rows ∙ s.rows; columns = g.columns ∙ s.columns }

pub sized_then : {h w : ℕ} {m n : BitRows} → IsSized h w m → IsSized m.height m.width n →
    IsSized h w n
sized_then s t = record { rows = t.rows ∙ s.rows; columns = t.columns ∙ s.columns }
