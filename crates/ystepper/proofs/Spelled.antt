-- Each command but the unknown one is known by its spelling.
use Rattle.std.proofs.Common.{ℕ, ◌≡◌, ◌≢◌, ◌≤◌, ◌∙◌, true, false, List, ◌++◌, length, take}
use Rattle.std.proofs.Common.{drop, Option, Some, None, refl, sym, ap, subst, inl, inr, arith}
use Rattle.std.proofs.Common.{codes}
use Rattle.std.proofs.Common.{◌&&◌, ◌||◌, nat_le, nat_lt, length-append}
use Rattle.std.specs.Option.{option_map_or}
use Rattle.std.specs.Str.{bytes_eq, all_ascii_digits}
use Rattle.std.specs.Str.Parse.{digits_value}
use Rattle.std.proofs.lemmas.Bool.{and_from, and_parts, and_right, cond-false, cond-true, cond_both}
use Rattle.std.proofs.lemmas.Bool.{leb-true, le-leb, le-ltb, ltb-false, lt-ltb, ltb-true, or_from}
use Rattle.std.proofs.lemmas.Bool.{or_parts}
use Rattle.std.proofs.lemmas.List.{take-append-drop}
use lib.Seq.{take-append_seam, drop-append_seam}
use Rattle.std.proofs.lemmas.Slice.Eq.{bytes_eq-Decides}
use Rattle.ystepper.specs.Command.{Command, Run, Back, To, Show, Tree, Unwind, Insert, Drop}
use Rattle.ystepper.specs.Command.{Unknown}
use Rattle.ystepper.specs.Command.{IsNumbered, IsSpelled, command_of, greatest_count, number_after}
use Rattle.ystepper.specs.Command.{number_command, number_in, number_within, text_after}
use Rattle.ystepper.specs.Line as lines
use Rattle.ystepper.specs.Line.{AreTold, IsLineOf, line_in, longest_line}

-- ---- from a command to its spelling

-- the answer where a text is there, and else
option_both : {X Y : Type 0} (P : Y → Type 0) (f : X → Y) (r : Option X) (d : Y)
    → ((x : X) → r ≡ Some x → P (f x)) → P d → P (option_map_or f r d)
option_both P f (Some x) d found none = found x refl
option_both P f None d found none = none

some_is : {X : Type 0} (x y : X) → Some x ≡ Some y → x ≡ y
some_is x y e = cc

-- what stands after a word
text_is : (word line rest : List ℕ) → text_after word line ≡ Some rest → line ≡ word ++ rest
text_is word line rest =
    cond_both (nat_le (length word) (length line) && bytes_eq (take (length word) line) word)
    (Some (drop (length word) line)) None (λ r. r ≡ Some rest → line ≡ word ++ rest)
    (λ holds e.
    let front = (bytes_eq-Decides (take (length word) line) word).0 (and_parts _ _ holds).1 in
    sym (take-append-drop (length word) line)
    ∙ ap (λ (l : List ℕ). l ++ drop (length word) line) front
    ∙ ap (λ (l : List ℕ). word ++ l) (some_is _ _ e)) (λ fails e. cc)

-- the number that digits spell
number_is : (least n : ℕ) (word digits line : List ℕ) → line ≡ word ++ digits
    → number_in least digits ≡ Some n → IsNumbered least word n line
number_is least n word digits line parts =
    cond_both
    (nat_lt 0 (length digits) && (nat_le (length digits) 7 && all_ascii_digits digits))
    (number_within least (digits_value 10 digits)) None
    (λ r. r ≡ Some n → IsNumbered least word n line)
    (λ holds.
    let some = ltb-true _ _ (and_parts _ _ holds).0 in
    let more = and_parts _ _ (and_parts _ _ holds).1 in
    let few = leb-true _ _ more.0 in
    cond_both (nat_lt (digits_value 10 digits) least || nat_lt greatest_count (digits_value 10 digits))
    None (Some (digits_value 10 digits)) (λ r. r ≡ Some n → IsNumbered least word n line)
    (λ out e. cc)
    (λ within e.
    let bounds = or_parts _ _ within in
    let same : digits_value 10 digits ≡ n = some_is _ _ e in
    record {
      digits = digits;
      parts = parts;
      some = some;
      few = few;
      decimal = more.1;
      value = sym same;
      at_least =
          subst (λ (k : ℕ). least ≤ k) same (ltb-false (digits_value 10 digits) least bounds.0);
      at_most = subst (λ (k : ℕ). k ≤ greatest_count) same
          (ltb-false greatest_count (digits_value 10 digits) bounds.1);
    })) (λ fails e. cc)

numbered_is : (least n : ℕ) (word line : List ℕ) → number_after least word line ≡ Some n
    → IsNumbered least word n line
numbered_is least n word line =
    cond_both (nat_le (length word) (length line) && bytes_eq (take (length word) line) word)
    (number_in least (drop (length word) line)) None
    (λ r. r ≡ Some n → IsNumbered least word n line)
    (λ holds e.
    let front = (bytes_eq-Decides (take (length word) line) word).0 (and_parts _ _ holds).1 in
    let parts : line ≡ word ++ drop (length word) line =
    sym (take-append-drop (length word) line)
    ∙ ap (λ (l : List ℕ). l ++ drop (length word) line) front in
    number_is least n word (drop (length word) line) line parts e) (λ fails e. cc)

word_is : (line word : List ℕ) → bytes_eq line word ≡ true → line ≡ word
word_is line word = (bytes_eq-Decides line word).0

-- what a line says, unless it is unknown, it is spelled as
abbrev Spelled : List ℕ → Command → Type 0
Spelled line c = c ≢ Unknown → IsSpelled c line

number_spelled : (line : List ℕ) → Spelled line (number_command line)
number_spelled line =
    option_both (Spelled line) Run (number_after 1 (codes "run ") line) _
    (λ n e known. inr (numbered_is 1 n (codes "run ") line e))
    (option_both (Spelled line) Back (number_after 1 (codes "back ") line) _
    (λ n e known. numbered_is 1 n (codes "back ") line e)
    (option_both (Spelled line) To (number_after 0 (codes "to ") line) _
    (λ n e known. numbered_is 0 n (codes "to ") line e) (λ known. absurd (known refl))))

command_spelled : (line : List ℕ) → Spelled line (command_of line)
unfolding command_of
command_spelled line =
    cond_both (bytes_eq line (codes "step")) (Run 1) _ (Spelled line)
    (λ e known. inl (word_is line (codes "step") e, refl)) (λ _.
    cond_both (bytes_eq line (codes "show")) Show _ (Spelled line)
    (λ e known. word_is line (codes "show") e) (λ _.
    cond_both (bytes_eq line (codes "tree")) Tree _ (Spelled line)
    (λ e known. word_is line (codes "tree") e) (λ _.
    cond_both (bytes_eq line (codes "unwind")) Unwind _ (Spelled line)
    (λ e known. word_is line (codes "unwind") e) (λ _.
    cond_both (bytes_eq line (codes "drop")) Drop _ (Spelled line)
    (λ e known. word_is line (codes "drop") e) (λ _.
    option_both (Spelled line) Insert (text_after (codes "insert ") line) _
    (λ rest e known. text_is (codes "insert ") line rest e) (number_spelled line))))))

-- ---- from a spelling to its command

room : (word rest : List ℕ) → length word ≤ length (word ++ rest)
room word rest = let all = length-append word rest in omega arith

text_says : (word rest : List ℕ) → text_after word (word ++ rest) ≡ Some rest
text_says word rest =
    cond-true _ _ _ (and_from _ _ (le-leb _ _ (room word rest)) ((bytes_eq-Decides _ word).1
    (take-append_seam word rest))) ∙ ap Some (drop-append_seam word rest)

text_other : (word line : List ℕ) → bytes_eq (take (length word) line) word ≡ false
    → text_after word line ≡ None
text_other word line e = cond-false _ _ _ (and_right _ _ e)

number_other : (least : ℕ) (word line : List ℕ) → bytes_eq (take (length word) line) word ≡ false
    → number_after least word line ≡ None
number_other least word line e = cond-false _ _ _ (and_right _ _ e)

number_says : (least n : ℕ) (word line : List ℕ) → IsNumbered least word n line
    → number_after least word line ≡ Some n
number_says least n word line is =
    let digits = is.digits in
    let after : number_after least word (word ++ digits) ≡ number_in least digits =
    cond-true _ _ _ (and_from _ _ (le-leb _ _ (room word digits)) ((bytes_eq-Decides _ word).1
    (take-append_seam word digits))) ∙ ap (number_in least) (drop-append_seam word digits) in
    let taken : number_in least digits ≡ number_within least (digits_value 10 digits) =
    cond-true _ _ _ (and_from _ _ (lt-ltb _ _ is.some) (and_from _ _ (le-leb _ _ is.few) is.decimal)) in
    let within : number_within least n ≡ Some n =
    cond-false _ _ _ (or_from _ _ (le-ltb n least is.at_least)
    (le-ltb greatest_count n is.at_most)) in
    ap (number_after least word) is.parts ∙ after ∙ taken
    ∙ ap (number_within least) (sym is.value) ∙ within

number_of : (c : Command) (line : List ℕ) → number_command line ≡ c
    → bytes_eq (take 7 line) (codes "insert ") ≡ false
    → option_map_or Insert (text_after (codes "insert ") line) (number_command line) ≡ c
number_of c line e other =
    ap (λ (r : _). option_map_or Insert r (number_command line))
    (text_other (codes "insert ") line other) ∙ e

-- what is tried where no other word stands in front
abbrev to_part : List ℕ → Command
to_part line = option_map_or To (number_after 0 (codes "to ") line) Unknown

abbrev back_part : List ℕ → Command
back_part line = option_map_or Back (number_after 1 (codes "back ") line) (to_part line)

run_said : (n : ℕ) (line : List ℕ) → IsNumbered 1 (codes "run ") n line
    → number_command line ≡ Run n
run_said n line is =
    ap (λ (r : _). option_map_or Run r (back_part line)) (number_says 1 n (codes "run ") line is)

back_said : (n : ℕ) (line : List ℕ) → IsNumbered 1 (codes "back ") n line
    → number_command line ≡ Back n
back_said n line is =
    ap (λ (r : _). option_map_or Run r (back_part line)) (number_other 1 (codes "run ") line
    (ap (λ (l : List ℕ). bytes_eq (take 4 l) (codes "run ")) is.parts))
    ∙ ap (λ (r : _). option_map_or Back r (to_part line)) (number_says 1 n (codes "back ") line is)

to_said : (n : ℕ) (line : List ℕ) → IsNumbered 0 (codes "to ") n line
    → number_command line ≡ To n
to_said n line is =
    ap (λ (r : _). option_map_or Run r (back_part line)) (number_other 1 (codes "run ") line
    (ap (λ (l : List ℕ). bytes_eq (take 4 l) (codes "run ")) is.parts))
    ∙ ap (λ (r : _). option_map_or Back r (to_part line)) (number_other 1 (codes "back ") line
    (ap (λ (l : List ℕ). bytes_eq (take 5 l) (codes "back ")) is.parts))
    ∙ ap (λ (r : _). option_map_or To r Unknown) (number_says 0 n (codes "to ") line is)

-- a line that begins with a word before a number is not a word alone
from_number : (word digits line : List ℕ) (c : Command) → line ≡ word ++ digits
    → command_of (word ++ digits) ≡ option_map_or Insert (text_after (codes "insert ") (word ++ digits))
    (number_command (word ++ digits)) → bytes_eq (take 7 (word ++ digits)) (codes "insert ") ≡ false
    → number_command line ≡ c → command_of line ≡ c
from_number word digits line c parts alone other e =
    ap command_of parts ∙ alone
    ∙ number_of c (word ++ digits) (ap number_command (sym parts) ∙ e) other

command_says : (c : Command) (line : List ℕ) → IsSpelled c line → command_of line ≡ c
unfolding command_of
command_says (Run n) line (inl (is, one)) = ap command_of is ∙ ap Run (sym one)
command_says (Run n) line (inr is) =
    from_number (codes "run ") is.digits line (Run n) is.parts refl refl (run_said n line is)
command_says (Back n) line is =
    from_number (codes "back ") is.digits line (Back n) is.parts refl refl (back_said n line is)
command_says (To n) line is =
    from_number (codes "to ") is.digits line (To n) is.parts refl refl (to_said n line is)
command_says Show line is = ap command_of is
command_says Tree line is = ap command_of is
command_says Unwind line is = ap command_of is
command_says (Insert bytes) line is =
    ap command_of is
    ∙ ap (λ (r : _). option_map_or Insert r (number_command (codes "insert " ++ bytes)))
    (text_says (codes "insert ") bytes)
command_says Drop line is = ap command_of is
command_says Unknown line is = absurd is

-- no command is spelled `quit`
not_quit : (c : Command) (line : List ℕ) → IsSpelled c line
    → bytes_eq line (codes "quit") ≡ false
not_quit (Run n) line (inl (is, one)) = rw is refl
not_quit (Run n) line (inr is) = rw is.parts refl
not_quit (Back n) line is = rw is.parts refl
not_quit (To n) line is = rw is.parts refl
not_quit Show line is = rw is refl
not_quit Tree line is = rw is refl
not_quit Unwind line is = rw is refl
not_quit (Insert bytes) line is = rw is refl
not_quit Drop line is = rw is refl
not_quit Unknown line is = absurd is

-- ---- lines

abbrev Told : List ℕ → lines.Line → Type 0
Told line said = said ≢ lines.Command Unknown → IsLineOf said line

line_told : (line : List ℕ) → Told line (line_in line)
unfolding line_in
line_told line =
    cond_both (nat_lt longest_line (length line)) (lines.Command Unknown) _ (Told line)
    (λ _ known. absurd (known refl)) (λ short.
    cond_both (bytes_eq line (codes "quit")) lines.Quit _ (Told line)
    (λ e known. word_is line (codes "quit") e)
    (λ _ known. (
      command_spelled line (λ same. known (ap lines.Command same)),
      ltb-false _ _ short,
    )))

line_says : (said : lines.Line) (line : List ℕ) → IsLineOf said line → line_in line ≡ said
unfolding line_in
line_says lines.Quit line is = ap line_in is
line_says (lines.Command c) line (is, short) =
    cond-false _ _ _ (le-ltb longest_line (length line) short)
    ∙ cond-false _ _ _ (not_quit c line is) ∙ ap lines.Command (command_says c line is)

pub are_told : AreTold
are_told line said known = (
  λ e. subst (IsLineOf said) refl (subst (λ s. IsLineOf s line) e
      (line_told line (λ same. known (sym e ∙ same)))),
  line_says said line,
)
