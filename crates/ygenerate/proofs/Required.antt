-- Command lines whose required arguments are given.
use Rattle.std.proofs.Common.{zero, suc, ◌≡◌, ◌<◌, ℕ, Bool, not, ◌||◌, true, false, List, [], ◌∷◌}
use Rattle.std.proofs.Common.{true≢false, length, codes, is_some, subst, ap, ap₂, refl, sym, inl}
use Rattle.std.proofs.Common.{inr}
use Rattle.std.proofs.Common.{◌∙◌, arith}
use Rattle.std.specs.List.{All, list_any, slice_index_or}
use Rattle.std.specs.Str.{bytes_eq}
use Rattle.std.proofs.lemmas.Slice.Eq.{bytes_eq-Decides}
use Rattle.clap.specs.Built.{AddsArg, AddsInTurn, FitsChain, HasDistinctIds, IsAuto, IsParsedFrom}
use Rattle.clap.specs.Built.{TakesValue}
use Rattle.clap.specs.Matches.{first_value, found_of}
use Rattle.clap.specs.Words.{App, Rule, app_of, with_rule}
use Rattle.clap.specs.declared.builder.arg.Arg.{Arg}
use Rattle.clap.specs.declared.builder.command.Command.{Command}
use Rattle.clap.specs.declared.parser.matches.ArgMatches.{ArgMatches}
use Rattle.clap.proofs.CallerLemmas.{required_in_chain}
use Rattle.ygenerate.specs.Arguments.{IsArgument, IsNewCommand, required_argument}

-- a command line with one more argument
pub with_argument : {start cmd : Command} {a : Arg} {app : App} {rule : Rule} → app_of start ≡ app
    → AddsArg start a cmd → IsArgument rule a → app_of cmd ≡ with_rule app rule
with_argument same added is = added.shape is.global ∙ ap₂ with_rule same is.rule_is

id_is : (rule : Rule) (a : Arg) → IsArgument rule a → a.id.now ≡ rule.id
id_is rule a is = ap (λ (r : Rule). r.id) is.rule_is

-- an id that is neither empty nor one that building adds
abbrev pub is_own : List ℕ → Bool
is_own w = not (bytes_eq w [] || (bytes_eq w (codes "help") || bytes_eq w (codes "version")))

fits : (rule : Rule) (a : Arg) → IsArgument rule a → is_own rule.id ≡ true → FitsChain a
fits rule a is own =
    let at : (t : List ℕ) → a.id.now ≡ t → is_own t ≡ true =
    λ t e. subst (λ (w : List ℕ). is_own w ≡ true) (sym (id_is rule a is) ∙ e) own in (
      is.plain,
      is.global,
      (λ e. true≢false (sym (at [] e))),
      not_auto a at,
    )
  where
    not_auto : (a : Arg) → ((t : List ℕ) → a.id.now ≡ t → is_own t ≡ true) → IsAuto a → ⊥
    not_auto a at (inl e) = true≢false (sym (at (codes "help") e))
    not_auto a at (inr e) = true≢false (sym (at (codes "version") e))

takes_value : (w : List ℕ) (a : Arg) → IsArgument (required_argument w) a → TakesValue a
takes_value w a is = (
  ap (λ (r : Rule). r.required) is.rule_is,
  ap (λ (r : Rule). r.action) is.rule_is,
  is.delimiter,
  rw (ap (λ (r : Rule). r.range) is.rule_is) (omega arith),
)

-- the arguments of a chain, by their rules
abbrev pub AreArguments : List Rule → List Arg → Type 0
AreArguments [] [] = Unit
AreArguments (r ∷ rs) (x ∷ xs) = IsArgument r x × AreArguments rs xs
AreArguments _ _ = ⊥

-- each has an id of its own
abbrev pub HaveOwnIds : List Rule → Type 0
HaveOwnIds [] = Unit
HaveOwnIds (r ∷ rs) =
    (is_own r.id ≡ true) × (list_any (λ s. bytes_eq s.id r.id) rs ≡ false) × HaveOwnIds rs

all_fit : (rs : List Rule) (xs : List Arg) → AreArguments rs xs → HaveOwnIds rs → All FitsChain xs
all_fit [] [] are own k d lt = absurd (omega arith)
all_fit [] (x ∷ xs) are own k d lt = absurd are
all_fit (r ∷ rs) [] are own k d lt = absurd are
all_fit (r ∷ rs) (x ∷ xs) are own zero d lt = fits r x are.0 own.0
all_fit (r ∷ rs) (x ∷ xs) are own (suc k) d lt = all_fit rs xs are.1 own.2 k d (omega arith)

-- an id that no rule has is that of no argument
is_other : (w : List ℕ) (rs : List Rule) (xs : List Arg) → AreArguments rs xs
    → list_any (λ s. bytes_eq s.id w) rs ≡ false → (k : ℕ) (d : Arg) → k < length xs
    → (slice_index_or xs k d).id.now ≡ w → ⊥
is_other w [] [] are none k d lt e = absurd (omega arith)
is_other w [] (x ∷ xs) are none k d lt e = absurd are
is_other w (r ∷ rs) [] are none k d lt e = absurd are
is_other w (r ∷ rs) (x ∷ xs) are none zero d lt e =
    let same : bytes_eq r.id w ≡ true = (bytes_eq-Decides r.id w).1 (sym (id_is r x are.0) ∙ e) in
    true≢false (rw same at none)
is_other w (r ∷ rs) (x ∷ xs) are none (suc k) d lt e =
    is_other w rs xs are.1 (or_false (bytes_eq r.id w) _ none) k d (omega arith) e
  where
    or_false : (a b : Bool) → (a || b) ≡ false → b ≡ false
    or_false false b e = e
    or_false true b e = absurd (true≢false e)

distinct : (rs : List Rule) (xs : List Arg) → AreArguments rs xs → HaveOwnIds rs
    → HasDistinctIds xs
distinct [] [] are own j k d e l m same = absurd (omega arith)
distinct [] (x ∷ xs) are own j k d e l m same = absurd are
distinct (r ∷ rs) [] are own j k d e l m same = absurd are
distinct (r ∷ rs) (x ∷ xs) are own zero zero d e l m same = refl
distinct (r ∷ rs) (x ∷ xs) are own zero (suc k) d e l m same =
    absurd (is_other r.id rs xs are.1 own.1 k d (omega arith)
    (sym ((bytes_eq-Decides x.id.now (slice_index_or xs k d).id.now).0 same) ∙ id_is r x are.0))
distinct (r ∷ rs) (x ∷ xs) are own (suc j) zero d e l m same =
    absurd (is_other r.id rs xs are.1 own.1 j e (omega arith)
    ((bytes_eq-Decides (slice_index_or xs j e).id.now x.id.now).0 same ∙ id_is r x are.0))
distinct (r ∷ rs) (x ∷ xs) are own (suc j) (suc k) d e l m same =
    ap suc (distinct rs xs are.1 own.2 j k d e (omega arith) (omega arith) same)

-- a parse gives a required argument of a chain a value
pub given : (name : List ℕ) (start cmd : Command) (rs : List Rule) (xs : List Arg)
    → IsNewCommand name start → AreArguments rs xs → HaveOwnIds rs → AddsInTurn AddsArg start xs cmd
    → (m : ArgMatches) → IsParsedFrom cmd m → (k : ℕ) (d : Arg) (w : List ℕ) → k < length xs
    → IsArgument (required_argument w) (slice_index_or xs k d)
    → is_some (first_value (found_of m) w) ≡ true
given name start cmd rs xs new are own chain m parsed k d w lt is =
    let a = slice_index_or xs k d in
    subst (λ (t : List ℕ). is_some (first_value (found_of m) t) ≡ true)
    (id_is (required_argument w) a is)
    (required_in_chain start cmd xs k d m chain new.args new.groups new.globals new.negates
    (all_fit rs xs are own) (distinct rs xs are own) lt (takes_value w a is) parsed)
