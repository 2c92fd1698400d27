-- The command lines of the programs, as `clap` sees them.
use Rattle.std.specs.Prelude.{ℕ, ◌≡◌, List, [], Some, None, codes, is_some, true, false, unwrap_or}
use Rattle.std.specs.Prelude.{IfOk, IfErr, Result}
use Rattle.std.specs.Option.{option_map_or}
use Rattle.std.specs.Str.{bytes_eq}
use Rattle.clap.specs.Words.{App, Rule, new_app, new_rule, with_rule, matches_of, first_of}
use Rattle.clap.specs.Words.{FailsBy, IsPlainArg, args_of, app_of, fault_of, first_value}
use Rattle.clap.specs.Words.{found_of, groups_of, kind_of, rule_of, takes}
use Rattle.clap.specs.declared.builder.arg.Arg.{Arg}
use Rattle.clap.specs.declared.builder.command.Command.{Command}
use Rattle.clap.specs.declared.builder.command.Command.TheViews.{out-Command}
use Rattle.clap.specs.declared.error.Error.{Error}
use Rattle.clap.specs.declared.error.kind.ErrorKind.TheVariants.{OutOfMemory}
use Rattle.clap.specs.declared.parser.matches.ArgMatches.{ArgMatches}
use Rattle.clap.specs.declared.builder.action.ArgAction.TheVariants.{Set, SetTrue}
use Rattle.ygenerate.specs.declared.arguments.YstepWords.{YstepWords}
use Rattle.ygenerate.specs.declared.arguments.YaccWords.{YaccWords}

-- a command of this name that has no argument yet
pub record IsNewCommand (name : List ℕ) (c : Command) : Type 0 where
  pub app : app_of c ≡ new_app name
  pub args : args_of c ≡ []
  pub groups : groups_of c ≡ []
  pub globals : (out-Command c).has_globals ≡ false
  pub negates : (out-Command c).subcommand_negates_reqs ≡ false

-- an argument of this rule; it excludes no other, belongs to its command alone, and its value
-- isn't split
pub record IsArgument (rule : Rule) (a : Arg) : Type 0 where
  pub rule_is : rule_of a ≡ rule
  pub plain : IsPlainArg a
  pub global : a.global ≡ false
  pub delimiter : a.val_delim ≡ None

-- what a command line gives for words: the values that they give each argument, or their first
-- fault; where it takes the words, the only error is that memory ran out
pub record ReadsAs (app : App) (words : List (List ℕ)) (r : Result ArgMatches Error) : Type 0 where
  pub values : IfOk r (λ found. (id : List ℕ)
      → first_of id (matches_of app words) ≡ first_value (found_of found) id)
  pub faults : FailsBy (fault_of app words) r
  pub taken : IfErr r (λ e. takes app words ≡ true → kind_of e ≡ OutOfMemory)

-- a required argument with one value, found by its place
abbrev pub required_argument : List ℕ → Rule
required_argument id = record (new_rule id) { action = Some Set; required = true }

-- `ystep grammar tokens`
unfoldable pub ystep_app : App
ystep_app =
    with_rule (with_rule (new_app (codes "ystep")) (required_argument (codes "grammar")))
    (required_argument (codes "tokens"))

-- the paths are the values that these words give the two arguments
abbrev pub ArePathsIn : List (List ℕ) → YstepWords → Type 0
ArePathsIn words paths =
    (first_of (codes "grammar") (matches_of ystep_app words) ≡ Some paths.grammar.now)
    × (first_of (codes "tokens") (matches_of ystep_app words) ≡ Some paths.tokens.now)

-- a value was found for each of the two
abbrev pub HasBoth : ArgMatches → Type 0
HasBoth found =
    (is_some (first_value (found_of found) (codes "grammar")) ≡ true)
    × (is_some (first_value (found_of found) (codes "tokens")) ≡ true)

-- an option of one letter, with a value
abbrev pub short_option : List ℕ → ℕ → Rule
short_option id letter = record (new_rule id) { action = Some Set; short = Some letter }

-- a flag of one letter without a value
abbrev pub short_flag : List ℕ → ℕ → Rule
short_flag id letter = record (new_rule id) { action = Some SetTrue; short = Some letter }

-- `yacc [-v] [-b prefix] grammar`: 118 is `v`, 98 is `b`
unfoldable pub yacc_app : App
yacc_app =
    with_rule (with_rule (with_rule (new_app (codes "yacc")) (short_flag (codes "verbose") 118))
    (short_option (codes "prefix") 98)) (required_argument (codes "grammar"))

-- what these words give: a grammar, a prefix or else `y`, and whether the flag stands among them
pub record AreYaccWordsIn (words : List (List ℕ)) (said : YaccWords) : Type 0 where
  pub grammar : first_of (codes "grammar") (matches_of yacc_app words) ≡ Some said.grammar.now
  pub prefix : said.prefix.now ≡ unwrap_or (first_of (codes "prefix") (matches_of yacc_app words))
      (codes "y")
  pub verbose : said.verbose ≡ option_map_or (λ word. bytes_eq word (codes "true"))
      (first_of (codes "verbose") (matches_of yacc_app words)) false

-- a value was found for the grammar
abbrev pub HasGrammar : ArgMatches → Type 0
HasGrammar found = is_some (first_value (found_of found) (codes "grammar")) ≡ true
