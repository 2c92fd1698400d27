use Rattle.std.proofs.Common.{ℕ, List, refl, sym, ap, ◌∙◌, ◌-◌, length}
use Rattle.ylexemes.specs.Front.{blank, comment}
use Rattle.ylexemes.specs.Views.{lexeme_view}
use Rattle.ylexemes.specs.declared.part.Lexeme.{Lexeme}
use Rattle.ysyntax.specs.declared.lexer.Placed.{Placed}
use Rattle.ysyntax.specs.Recogniser.{next_state}
use Rattle.std.proofs.Common.{Some, None}
use Rattle.ysyntax.proofs.Coming.{after_shorter, stops_in}
use Rattle.ysyntax.proofs.Coming.{comes_shorter, empty_is, goes_gap, goes_lexeme, place}
use Rattle.ysyntax.proofs.Coming.{stops_early, stops_ended, placed_more, sites_more, stops_lexical}
use Rattle.ysyntax.proofs.Coming.{stops_marked, stops_stray}
use Rattle.ysyntax.proofs.lexer.read_lexemes.Goals as goal

-- a lexeme with its places, where the one text begins with it and the other follows it
abbrev placed : List ℕ → List ℕ → List ℕ → Lexeme → Placed
placed bytes from rest l =
    record { lexeme = l; at = length bytes - length from; end = length bytes - length rest }

pub stopped-requires : goal.stopped-requires
stopped-requires c = place c.args.bytes.now c.parts.rest.now c.parts.lexemes.items c.parts.state
    c.parts.invariant

pub returns-in-Err-clause-outcome : goal.returns-in-Err-clause-outcome
returns-in-Err-clause-outcome c =
    stops_lexical c.args.bytes.now c.parts.rest.now c.parts.lexemes.items c.parts.state
    c.in-Err.fault c.stopped.result c.parts.invariant c.in-Err.ensures
    (c.stopped.ensures.line, c.stopped.ensures.place)

pub stopped-requires-in-None : goal.stopped-requires-in-None
stopped-requires-in-None c = place c.args.bytes.now c.parts.rest.now c.parts.lexemes.items
    c.parts.state c.parts.invariant

pub returns-in-None-clause-outcome : goal.returns-in-None-clause-outcome
returns-in-None-clause-outcome c =
    let part = rw c.in-Lexeme.is at c.in-Ok.ensures in
    stops_stray c.args.bytes.now c.parts.rest.now c.in-Ok.found.1.now c.parts.lexemes.items
    c.parts.state (lexeme_view c.in-Lexeme.lexeme) c.stopped-in-None.result c.parts.invariant
    part
    (ap (next_state c.parts.state) (sym c.kind.ensures) ∙ sym c.in-None.ensures)
    (c.stopped-in-None.ensures.line, c.stopped-in-None.ensures.place)

pub overflow_sub-bytes : goal.overflow_sub-bytes
overflow_sub-bytes c = comes_shorter c.args.bytes.now c.parts.rest.now c.parts.lexemes.items
    c.parts.state c.parts.invariant

pub overflow_sub-bytes-in-Lexeme : goal.overflow_sub-bytes-in-Lexeme
overflow_sub-bytes-in-Lexeme c =
    let part = rw c.in-Lexeme.is at c.in-Ok.ensures in
    after_shorter c.args.bytes.now c.parts.rest.now c.in-Ok.found.1.now c.parts.lexemes.items
    c.parts.state (lexeme_view c.in-Lexeme.lexeme) c.parts.invariant part

pub returns-then-is_end-clause-outcome : goal.returns-then-is_end-clause-outcome
returns-then-is_end-clause-outcome c =
    let part = rw c.in-Lexeme.is at c.in-Ok.ensures in
    stops_marked c.args.bytes.now c.parts.rest.now c.in-Ok.found.1.now c.parts.lexemes.items
    c.push.new.self.items c.parts.state c.in-Some.next
    (placed c.args.bytes.now c.parts.rest.now c.in-Ok.found.1.now c.in-Lexeme.lexeme)
    c.parts.invariant part
    (ap (next_state c.parts.state) (sym c.kind.ensures) ∙ sym c.in-Some.ensures)
    (sym c.is_end.ensures ∙ c.if-is_end.true) c.in_ok-push-in-Lexeme.ensures.items

pub parts-preserved-in-Blank : goal.parts-preserved-in-Blank
parts-preserved-in-Blank c =
    let part = rw c.in-Blank.is at c.in-Ok.ensures in
    goes_gap c.args.bytes.now c.parts.rest.now c.in-Ok.found.1.now c.parts.lexemes.items
    c.parts.state blank c.parts.invariant refl part

pub parts-preserved-in-Comment : goal.parts-preserved-in-Comment
parts-preserved-in-Comment c =
    let part = rw c.in-Comment.is at c.in-Ok.ensures in
    goes_gap c.args.bytes.now c.parts.rest.now c.in-Ok.found.1.now c.parts.lexemes.items
    c.parts.state comment c.parts.invariant refl part

pub parts-preserved : goal.parts-preserved
parts-preserved c =
    let part = rw c.in-Lexeme.is at c.in-Ok.ensures in
    goes_lexeme c.args.bytes.now c.parts.rest.now c.in-Ok.found.1.now c.parts.lexemes.items
    c.push.new.self.items c.parts.state c.in-Some.next
    (placed c.args.bytes.now c.parts.rest.now c.in-Ok.found.1.now c.in-Lexeme.lexeme)
    c.parts.invariant part refl refl
    (ap (next_state c.parts.state) (sym c.kind.ensures) ∙ sym c.in-Some.ensures)
    (sym c.is_end.ensures ∙ c.if-is_end.false) c.in_ok-push-in-Lexeme.ensures.items

pub returns-then-is_final-clause-outcome : goal.returns-then-is_final-clause-outcome
returns-then-is_final-clause-outcome c =
    stops_ended c.args.bytes.now c.parts.rest.now c.parts.lexemes.items c.parts.state
    c.parts.invariant
    (empty_is c.parts.rest.now c.is_empty.result c.is_empty.ensures c.parts-test.false)
    (sym c.is_final.ensures ∙ c.if-is_final.true)

pub stopped-requires-else-is_final : goal.stopped-requires-else-is_final
stopped-requires-else-is_final c = place c.args.bytes.now c.parts.rest.now c.parts.lexemes.items
    c.parts.state c.parts.invariant

pub returns-clause-outcome : goal.returns-clause-outcome
returns-clause-outcome c =
    stops_early c.args.bytes.now c.parts.rest.now c.parts.lexemes.items c.parts.state
    c.stopped-else-is_final.result c.parts.invariant
    (empty_is c.parts.rest.now c.is_empty.result c.is_empty.ensures c.parts-test.false)
    (sym c.is_final.ensures ∙ c.if-is_final.false)
    (c.stopped-else-is_final.ensures.line, c.stopped-else-is_final.ensures.place)

pub returns-then-is_end-clause-placed : goal.returns-then-is_end-clause-placed
returns-then-is_end-clause-placed c =
    placed_more _ _ _ _ _ _
    (placed c.args.bytes.now c.parts.rest.now c.in-Ok.found.1.now c.in-Lexeme.lexeme)
    c.parts.invariant (rw c.in-Lexeme.is at c.in-Ok.ensures) refl refl
    c.in_ok-push-in-Lexeme.ensures.items

pub returns-then-is_end-clause-sites : goal.returns-then-is_end-clause-sites
returns-then-is_end-clause-sites c =
    sites_more _ _ _ _ _ _
    (placed c.args.bytes.now c.parts.rest.now c.in-Ok.found.1.now c.in-Lexeme.lexeme)
    c.parts.invariant (rw c.in-Lexeme.is at c.in-Ok.ensures) refl
    c.in_ok-push-in-Lexeme.ensures.items

pub returns-in-Err-clause-state : goal.returns-in-Err-clause-state
returns-in-Err-clause-state c =
    stops_in c.args.bytes.now c.parts.rest.now c.parts.lexemes.items c.parts.state (Some c.in-Err.fault)
    c.stopped.result c.parts.invariant (c.stopped.ensures.line, c.stopped.ensures.place) c.stopped.ensures.state

pub returns-in-None-clause-state : goal.returns-in-None-clause-state
returns-in-None-clause-state c =
    stops_in c.args.bytes.now c.parts.rest.now c.parts.lexemes.items c.parts.state None
    c.stopped-in-None.result c.parts.invariant (c.stopped-in-None.ensures.line, c.stopped-in-None.ensures.place) c.stopped-in-None.ensures.state

pub returns-clause-state : goal.returns-clause-state
returns-clause-state c =
    stops_in c.args.bytes.now c.parts.rest.now c.parts.lexemes.items c.parts.state None
    c.stopped-else-is_final.result c.parts.invariant (c.stopped-else-is_final.ensures.line, c.stopped-else-is_final.ensures.place) c.stopped-else-is_final.ensures.state
