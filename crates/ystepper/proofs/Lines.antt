-- Lines, and the line that is held in an array.
use Rattle.std.proofs.Common.{ℕ, zero, suc, ◌≡◌, ◌≢◌, ◌+◌, ◌<◌, ◌≤◌, ◌++◌, nat_lt, ◌==◌, Bool, true}
use Rattle.std.proofs.Common.{false, List, [], ◌∷◌, length, take, drop, get_or, refl, sym, ap, ◌∙◌}
use Rattle.std.proofs.Common.{arith, if◌then◌else◌, length-append, length-take-le, append-nil}
use Rattle.std.proofs.Common.{append_assoc, inl, inr}
use Rattle.std.proofs.lemmas.Bool.{cases_lt, lt-ltb, eqb-true}
use Rattle.ystepper.specs.Command.{Unknown}
use Rattle.ystepper.specs.Line.{Command}
use Rattle.ystepper.specs.Line.{line_in, line_room, longest_line}
use Rattle.std.proofs.lemmas.List.{take_all, take_more_set, take_at}
use Rattle.std.proofs.Math.ListN.{set}
use Rattle.std.specs.List.{flat_map}
use Rattle.std.proofs.lemmas.List.Elements.{All-append, All-cons, All-nil}
use Rattle.ystepper.specs.Lines.{IsOneLine, IsCut, AreLines}
use Rattle.ystepper.specs.Serving.{whole_after, rest_after, whole_lines, rest_line, lines_of}

pub push-room : (n len byte : ℕ) (bytes held : List ℕ) → len < length bytes → len + 1 ≤ n → held
    ≡ take len bytes → take (len + 1) (set bytes len byte) ≡ take n (held ++ byte ∷ [])
push-room n len byte bytes held h k e =
    let there : take (len + 1) (set bytes len byte) ≡ take len bytes ++ byte ∷ [] =
    take_more_set bytes len byte h in
    let few : length (take len bytes ++ byte ∷ []) ≤ n =
    omega (
      arith,
      length-append (take len bytes) (byte ∷ []),
      length-take-le len bytes
          (omega arith),
    ) in
    there ∙ sym (take_all n (take len bytes ++ byte ∷ []) few)
    ∙ ap (λ (l : List ℕ). take n (l ++ byte ∷ [])) (sym e)

pub push-full : (n byte : ℕ) (held : List ℕ) → length held ≡ n → held ≡ take n (held ++ byte ∷ [])
push-full n byte held e = sym (take_at held (byte ∷ []) n e)

pub whole_after-append : (line xs ys : List ℕ) → whole_after line (xs ++ ys) ≡ whole_after line xs
    ++ whole_after (rest_after line xs) ys
whole_after-append line [] ys = refl
whole_after-append line (x ∷ xs) ys =
    elim (x == 10) as (λ v. (if v then line
    ∷ whole_after [] (xs ++ ys) else whole_after (line ++ x ∷ []) (xs ++ ys))
    ≡ (if v then line ∷ whole_after [] xs else whole_after (line ++ x ∷ []) xs)
    ++ whole_after (if v then rest_after [] xs else rest_after (line ++ x ∷ []) xs) ys) [
      | true ↦ ap (λ (l : List (List ℕ)). line ∷ l) (whole_after-append [] xs ys)
      | false ↦ whole_after-append (line ++ x ∷ []) xs ys
    ]

pub rest_after-append : (line xs ys : List ℕ) → rest_after line (xs ++ ys)
    ≡ rest_after (rest_after line xs) ys
rest_after-append line [] ys = refl
rest_after-append line (x ∷ xs) ys =
    elim (x == 10) as (λ v. (if v then rest_after [] (xs ++ ys) else rest_after (line ++ x ∷ [])
    (xs ++ ys))
    ≡ rest_after (if v then rest_after [] xs else rest_after (line ++ x ∷ []) xs) ys) [
      | true ↦ rest_after-append [] xs ys
      | false ↦ rest_after-append (line ++ x ∷ []) xs ys
    ]

-- a newline ends the line that came so far
pub whole_after-newline : (line xs ys : List ℕ) (b : ℕ) → b ≡ 10 → whole_after line (xs ++ b ∷ ys)
    ≡ whole_after line xs ++ rest_after line xs ∷ whole_after [] ys
whole_after-newline line xs ys b e =
    whole_after-append line xs (b ∷ ys)
    ∙ ap (λ (c : ℕ). whole_after line xs ++ whole_after (rest_after line xs) (c ∷ ys)) e

pub rest_after-newline : (line xs : List ℕ) (b : ℕ) → b ≡ 10 → rest_after line (xs ++ b ∷ []) ≡ []
rest_after-newline line xs b e =
    rest_after-append line xs (b ∷ []) ∙ ap (λ (c : ℕ). rest_after (rest_after line xs) (c ∷ [])) e

-- another byte is one more of it
pub whole_after-byte : (line xs : List ℕ) (b : ℕ) → (b == 10) ≡ false
    → whole_after line (xs ++ b ∷ []) ≡ whole_after line xs
whole_after-byte line xs b e =
    whole_after-append line xs (b ∷ [])
    ∙ ap (λ (v : Bool). whole_after line xs ++ (if v then rest_after line xs ∷ [] else [])) e
    ∙ append-nil (whole_after line xs)

pub rest_after-byte : (line xs : List ℕ) (b : ℕ) → (b == 10) ≡ false
    → rest_after line (xs ++ b ∷ []) ≡ rest_after line xs ++ b ∷ []
rest_after-byte line xs b e =
    rest_after-append line xs (b ∷ [])
    ∙ ap (λ (v : Bool). if v then [] else rest_after line xs ++ b ∷ []) e

-- the first n of a list suffice for the first n of a longer one
pub take-front : (n : ℕ) (xs ys : List ℕ) → take n (take n xs ++ ys) ≡ take n (xs ++ ys)
take-front zero xs ys = refl
take-front (suc n) [] ys = refl
take-front (suc n) (x ∷ xs) ys = ap (λ (l : List ℕ). x ∷ l) (take-front n xs ys)

pub long-unknown : (line : List ℕ) → longest_line < length line → line_in line ≡ Command Unknown
unfolding line_in
long-unknown line h =
    let e : nat_lt longest_line (length line) ≡ true = lt-ltb longest_line (length line) h in
    rw e refl

pub line_in-front : (n : ℕ) (line : List ℕ) → n ≡ line_room → line_in (take n line) ≡ line_in line
line_in-front n line e =
    elim (cases_lt n (length line)) [
      | inr h ↦ ap line_in (take_all n line h)
      | inl h ↦
          let all : length (take n line) ≡ n = length-take-le n line (omega arith) in
          long-unknown (take n line) (omega arith) ∙ sym (long-unknown line (omega arith))
    ]

-- a list, cut at one of its items
pub whole-at : (xs : List ℕ) (i d : ℕ) → i < length xs → xs ≡ take i xs ++ get_or xs i d
    ∷ drop (suc i) xs
whole-at [] i d h = absurd (omega arith)
whole-at (x ∷ xs) zero d h = refl
whole-at (x ∷ xs) (suc i) d h = ap (λ (l : List ℕ). x ∷ l) (whole-at xs i d (omega arith))

-- ---- what the code cuts is a cut

snoc : (line : List ℕ) (b : ℕ) → IsOneLine line → b ≢ 10 → IsOneLine (line ++ b ∷ [])
snoc line b one h =
    All-append (λ c. c ≢ 10) line (b ∷ []) one
    (All-cons (λ c. c ≢ 10) b [] h (All-nil (λ c. c ≢ 10)))

none_yet : IsOneLine []
none_yet = All-nil (λ c. c ≢ 10)

is_cut-by : (line bytes : List ℕ) (b : ℕ) (v : Bool) → (b == 10) ≡ v → IsOneLine line
    → ((l : List ℕ) → IsOneLine l → IsCut (l ++ bytes) (whole_after l bytes) (rest_after l bytes))
    → IsCut (line ++ b ∷ bytes) (if v then line
    ∷ whole_after [] bytes else whole_after (line ++ b ∷ []) bytes)
    (if v then rest_after [] bytes else rest_after (line ++ b ∷ []) bytes)
is_cut-by line bytes b true e one more =
    let rest = more [] none_yet in
    let newline : b ≡ 10 = eqb-true b 10 e in
    let joined : line ++ b ∷ bytes ≡ (line ++ 10 ∷ [])
    ++ (flat_map (λ l. l ++ 10 ∷ []) (whole_after [] bytes) ++ rest_after [] bytes) =
    ap (λ (c : ℕ). line ++ c ∷ bytes) newline ∙ ap (λ (l : List ℕ). line ++ 10 ∷ l) rest.joined
    ∙ sym (append_assoc line (10 ∷ [])
    (flat_map (λ l. l ++ 10 ∷ []) (whole_after [] bytes) ++ rest_after [] bytes)) in
    record {
      joined = joined ∙ sym (append_assoc (line ++ 10 ∷ [])
          (flat_map (λ l. l ++ 10 ∷ []) (whole_after [] bytes)) (rest_after [] bytes));
      each = All-cons IsOneLine line (whole_after [] bytes) one rest.each;
      last = rest.last;
    }
is_cut-by line bytes b false e one more =
    let rest = more (line ++ b ∷ [])
    (snoc line b one (λ same. let bad : true ≡ false = sym (ap (λ (c : ℕ). c == 10) same)
    ∙ e in cc)) in
    record {
      joined = sym (append_assoc line (b ∷ []) bytes) ∙ rest.joined;
      each = rest.each;
      last = rest.last;
    }

pub is_cut-after : (line bytes : List ℕ) → IsOneLine line
    → IsCut (line ++ bytes) (whole_after line bytes) (rest_after line bytes)
is_cut-after line [] one = record { joined = append-nil line; each = All-nil IsOneLine; last = one }
is_cut-after line (b ∷ bs) one =
    is_cut-by line bs b (b == 10) refl one (λ l all. is_cut-after l bs all)

pub is_cut : (bytes : List ℕ) → IsCut bytes (whole_lines bytes) (rest_line bytes)
is_cut bytes = is_cut-after [] bytes none_yet

pub are_lines : (bytes : List ℕ) → AreLines bytes (lines_of bytes)
are_lines bytes =
    record { whole = whole_lines bytes; rest = rest_line bytes; cut = is_cut bytes; all = refl }
