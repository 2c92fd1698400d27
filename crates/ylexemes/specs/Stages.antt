-- Reading a literal byte by byte, as functions of lists.
use Rattle.std.specs.Prelude.{ℕ, ◌+◌, ◌*◌, ◌==◌, nat_lt, nat_le, Bool, ◌&&◌, ◌||◌, not, List, []}
use Rattle.std.specs.Prelude.{◌∷◌, Option, Some, None, if◌then◌else◌}
use Rattle.std.specs.Char.{digit_value}
use Rattle.ylexemes.specs.declared.literal.Stage.{Stage}
use Rattle.ylexemes.specs.declared.literal.Stage.TheVariants.{Opened, Backslash, Shut, Octals}
use Rattle.ylexemes.specs.declared.literal.Stage.TheVariants.{HexMark, Hexed}
use Rattle.ylexemes.specs.declared.literal.Scan.{Scan}
use Rattle.ylexemes.specs.declared.literal.Scan.TheVariants as scans
use Rattle.ylexemes.specs.Lexemes.{escape_value}

-- a byte that stands for itself
abbrev pub is_plain : ℕ → Bool
is_plain b = nat_le 32 b && nat_le b 126 && not (b == 39) && not (b == 92)

abbrev pub digit_in : ℕ → ℕ → Option ℕ
digit_in radix b = if nat_lt (digit_value b) radix then Some (digit_value b) else None

-- the stage after the first quote and this byte
abbrev pub after_quote : ℕ → Option Stage
after_quote b = if is_plain b then Some (Shut b) else if b == 92 then Some Backslash else None

-- a third digit must leave a value of 1 to 255, or no literal comes of it
abbrev pub octal_fits : ℕ → ℕ → Bool
octal_fits digits more = nat_lt digits 3 && nat_le more 255 && (nat_lt digits 2 || nat_le 1 more)

abbrev pub octal_with : ℕ → ℕ → Option ℕ → Option Stage
octal_with digits value None = None
octal_with digits value (Some d) =
    if octal_fits digits (value * 8 + d) then Some (Octals (digits + 1) (value * 8 + d)) else None

abbrev pub more_octals : ℕ → ℕ → ℕ → Option Stage
more_octals digits value b = octal_with digits value (digit_in 8 b)

abbrev pub hex_with : ℕ → Option ℕ → Option Stage
hex_with value None = None
hex_with value (Some d) =
    if nat_le (value * 16 + d) 255 then Some (Hexed (value * 16 + d)) else None

abbrev pub more_hex : ℕ → ℕ → Option Stage
more_hex value b = hex_with value (digit_in 16 b)

abbrev pub after_backslash_with : ℕ → Option ℕ → Option Stage
after_backslash_with b (Some value) = Some (Shut value)
after_backslash_with b None = if b == 120 then Some HexMark else more_octals 0 0 b

-- the stage after a backslash and this byte
abbrev pub after_backslash : ℕ → Option Stage
after_backslash b = after_backslash_with b (escape_value b)

abbrev pub next_stage : Stage → ℕ → Option Stage
next_stage Opened b = after_quote b
next_stage Backslash b = after_backslash b
next_stage (Shut v) b = None
next_stage (Octals n v) b = more_octals n v b
next_stage HexMark b = more_hex 0 b
next_stage (Hexed v) b = more_hex v b

abbrev pub closed_stage : Stage → Option ℕ
closed_stage Opened = None
closed_stage Backslash = None
closed_stage (Shut v) = Some v
closed_stage (Octals n v) = if nat_le 1 v then Some v else None
closed_stage HexMark = None
closed_stage (Hexed v) = if nat_le 1 v then Some v else None

pub data Answer : Type 0 where
  -- a literal's value, and what follows it
  found : ℕ → List ℕ → Answer
  stuck short : Answer

abbrev pub shut_with : Option ℕ → ℕ → List ℕ → Answer
shut_with None b rest = stuck
shut_with (Some v) b rest = if b == 39 then found v rest else stuck

abbrev pub shut_scan : Stage → ℕ → List ℕ → Answer
shut_scan q b rest = shut_with (closed_stage q) b rest

-- what reading from a stage on comes to
abbrev pub scan : Stage → List ℕ → Answer
scan q [] = short
scan q (b ∷ bs) = elim (next_stage q b) [ Some r ↦ scan r bs | None ↦ shut_scan q b bs ]

abbrev pub scan_view : Scan → Answer
scan_view (scans.Found v rest) = found v rest.now
scan_view scans.Stuck = stuck
scan_view scans.Short = short
