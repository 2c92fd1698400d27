use Rattle.std.proofs.Common.{◌≡◌, ◌<◌, ◌≤◌, ◌+◌, ◌-◌, ◌*◌, ◌/◌, ◌%◌, ◌^◌, sym, subst, arith, rules}
use Rattle.std.specs.Int.{trailing_zeros, w64}
use Rattle.std.proofs.lemmas.List.{get_or_read}
use Rattle.std.proofs.lemmas.Nat.{mod_below}
use Rattle.std.proofs.Math.Nat.{div-le_self}
use Rattle.ybitsets.specs.Rows.{BitRows, Holds, word_of}
use Rattle.ybitsets.proofs.RowLemmas.{after_none, after_further, word_within, in_span}
use Rattle.ybitsets.proofs.rows.Rows.after.Goals.{After-min}
use Rattle.ybitsets.proofs.rows.Rows.after.Goals as goal

-- the rows that are read
abbrev rows : After-min → BitRows
rows c = record {
  height = c.self.inside.height;
  width = c.self.inside.width;
  span =
      c.self.inside.span;
  words = c.self.inside.words.items;
}

row : (c : After-min) → c.args.r < (rows c).height
row c = subst (λ (m : BitRows). c.args.r < m.height) (sym c.self.view_is) c.requires.row

column : (c : After-min) → c.args.c < (rows c).width
column c = subst (λ (m : BitRows). c.args.c < m.width) (sym c.self.view_is) c.requires.column

-- the word that is read, and what is left of it
read : (c : After-min) → c.index.result.now ≡ word_of (rows c) c.args.r c.args.c
read c = get_or_read (rows c).words (c.args.r * (rows c).span + c.args.c / 64) c.index.result.now
    (word_within (rows c) c.self.invariant c.args.r (c.args.c / 64) (row c)
    (in_span (rows c) c.self.invariant c.args.c (column c))) c.index.ensures 0

small : (c : After-min) → word_of (rows c) c.args.r c.args.c / 2 ^ (c.args.c % 64) < 2 ^ 64
small c =
    let w = c.index.result.now in
    let hw : w < 2 ^ 64 = search rules in
    let le = div-le_self w (2 ^ (c.args.c % 64)) in
    let h : w / 2 ^ (c.args.c % 64) < 2 ^ 64 = omega (arith, hw, le) in
    subst (λ n. n / 2 ^ (c.args.c % 64) < 2 ^ 64) (read c) h

pub returns-clause-further : goal.returns-clause-further
returns-clause-further c =
    let at = (goal.at.returns-clause-further c).After-min in
    let w = c.index.result.now in
    let tz : 0 < trailing_zeros w64 (w / 2 ^ (c.args.c % 64)) =
    subst (λ n. 0 < trailing_zeros w64 (n / 2 ^ (c.args.c % 64))) (sym (read at))
    (after_further (rows at) c.args.r c.args.c (row at) (column at) (small at)
    (λ h. c.requires.absent (subst (λ (m : BitRows). Holds m c.args.r c.args.c)
    c.self.view_is h))) in
    let x = mod_below c.args.c 64 (omega arith) in
    let b = c.min-step.ensures in
    let d = c.min.ensures in
    let hc = column at in
    omega (arith, tz, x, b, d, hc)

pub returns-clause-none : goal.returns-clause-none
returns-clause-none c = λ k le lt h.
    (let at = (goal.at.returns-clause-none c).After-min in
    let w = c.index.result.now in
    let b = c.min-step.ensures in
    let d = c.min.ensures in
    let z : c.min.result ≤ trailing_zeros w64 (w / 2 ^ (c.args.c % 64)) = omega (arith, b, d) in
    let s : c.min.result ≤ 64 - c.args.c % 64 = omega (arith, b, d) in
    after_none (rows at) c.args.r c.args.c k c.min.result (small at)
    (subst (λ n. c.min.result ≤ trailing_zeros w64 (n / 2 ^ (c.args.c % 64))) (read at) z) s le
    lt (subst (λ (m : BitRows). Holds m c.args.r k) (sym c.self.view_is) h))
