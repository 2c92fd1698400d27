use Rattle.std.proofs.Common.{ℕ, ◌≡◌, ◌≢◌, ◌<◌, ◌≤◌, ◌^◌, ◌∙◌, ap, length, get_or, bit_or, subst}
use Rattle.std.proofs.Common.{sym, arith, rules}
use Rattle.std.proofs.lemmas.Grind.{common_steps}
use Rattle.std.proofs.lemmas.List.{get_or_read}
use Rattle.std.proofs.lemmas.Nat.{or_lt}
use Rattle.ybitsets.specs.Rows.{BitRows, room}
use Rattle.ybitsets.proofs.RowLemmas.{room_le, room_lt, word_united}
use Rattle.ybitsets.proofs.rows.Rows.unite.Goals.{After-index-before}
use Rattle.ybitsets.proofs.rows.Rows.unite.Goals as goal

-- the word that was read
before : (c : After-index-before) →
    c.index-before.result.now ≡ get_or c.args.self.now.words c.args.at 0
before c =
    let h : c.args.at < length c.self.inside.words.items =
    subst (λ (v : BitRows). c.args.at < length v.words) (sym c.self.view_is) c.requires in
    get_or_read c.self.inside.words.items c.args.at c.index-before.result.now h
    c.index-before.ensures 0 ∙ ap (λ (v : BitRows). get_or v.words c.args.at 0) c.self.view_is

pub returns-clause-fewer : goal.returns-clause-fewer
returns-clause-fewer c =
    let m = c.args.self.now in
    let b = before (goal.at.returns-clause-fewer c).After-index-before in
    let e = word_united _ m c.args.at c.args.more _ c.self.view_is b in
    subst (λ (n : BitRows). room n ≤ room m) (sym e) (room_le m c.args.at c.args.more c.requires)

pub returns-clause-fewer_if : goal.returns-clause-fewer_if
returns-clause-fewer_if c = λ t.
    let m = c.args.self.now in
    let b = before (goal.at.returns-clause-fewer_if c).After-index-before in
    let e = word_united _ m c.args.at c.args.more _ c.self.view_is b in
    let n : bit_or c.index-before.result.now c.args.more ≢ c.index-before.result.now =
    grind (arith, common_steps) in
    let n' : bit_or (get_or m.words c.args.at 0) c.args.more ≢ get_or m.words c.args.at 0 =
    subst (λ (w : ℕ). bit_or w c.args.more ≢ w) b n in
    let k : bit_or (get_or m.words c.args.at 0) c.args.more < 2 ^ 64 =
    subst (λ (w : ℕ). bit_or w c.args.more < 2 ^ 64) b
    (or_lt 64 c.index-before.result.now c.args.more (search rules) (search rules)) in
    subst (λ (n : BitRows). room n < room m) (sym e)
    (room_lt m c.args.at c.args.more c.requires k n')
