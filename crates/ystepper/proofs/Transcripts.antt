-- How the replies to lines make the text of a session.
use Rattle.std.proofs.Common.{ℕ, ◌≡◌, ◌-◌, ◌^◌, ◌<◌, ◌≤◌, ◌++◌, ◌==◌, Bool, true, false, List, []}
use Rattle.std.proofs.Common.{◌∷◌, Option, Some, None, Ok, Err, length, take, refl, sym, ap, ◌∙◌}
use Rattle.std.proofs.Common.{subst, arith, append_assoc, append-nil, inl, inr, ◌⊎◌, IfSome, Result}
use Rattle.std.proofs.Common.{length-append}
use Rattle.ystepper.specs.Command.{Command}
use Rattle.ystepper.specs.Line.{Line}
use Rattle.ystepper.specs.Line as words
use Rattle.ystepper.specs.declared.run.Flow.{Flow}
use Rattle.ystepper.specs.declared.run.Flow.TheVariants.{GoesOn, Quit}
use Rattle.ylink.specs.declared.link.Link.{Link}
use Rattle.ystepper.specs.declared.fault.SessionFault.{SessionFault}
use Rattle.ystepper.specs.declared.fault.SessionFault.TheVariants as faults
use Rattle.std.specs.Io.KnownBytes.{Consumes, IsAtEnd}
use Rattle.ylink.specs.Link.{device_of}
use Rattle.ylink.specs.Sends.{Sends}
use Rattle.ymachine.specs.Machine.{Machine}
use Rattle.ymachine.specs.History.{History}
use Rattle.ystepper.specs.Line.{line_in, line_view, line_room, longest_line}
use Rattle.ystepper.specs.declared.command.Line.{Line as CodeLine}
use Rattle.ystepper.specs.Lines.{last_line}
use Rattle.ystepper.specs.Reply.{Reply, Answers}
use Rattle.ystepper.specs.Transcript.{Continues, Transcript, Tells}
use Rattle.ystepper.specs.Serving.{whole_after, rest_after, whole_lines, rest_line, lines_of}
use Rattle.ystepper.specs.Serving.{Replies}
use Rattle.ystepper.specs.Serving.{Breaks, ChunkTells, ReadTells, Ends}
use Rattle.ylink.proofs.Sent.{Sends-then, Sends-stop, Sends-nothing}
use Rattle.ystepper.proofs.Plain.{Transcript-some}
use Rattle.ystepper.proofs.Lines.{whole_after-append, rest_after-append, whole_after-newline}
use Rattle.ystepper.proofs.Lines.{rest_after-newline, whole_after-byte, rest_after-byte, take-front}
use Rattle.ystepper.proofs.Lines.{line_in-front, is_cut, are_lines}

-- ---- there is always a text

-- at `quit` the text ends
pub quits : (m : Machine) (h : History) (line : List ℕ) (lines : List (List ℕ))
    → line_in line ≡ words.Quit → Transcript m h (line ∷ lines) []
quits m h line lines e =
    subst
    (λ (x : Line). Continues (Reply m) h x (λ mid more. Transcript m mid lines more) []) (sym e)
    refl

-- a command's reply, and what comes after it
pub goes_on : (m : Machine) (h mid : History) (line : List ℕ) (command : Command)
    (lines : List (List ℕ)) (reply more : List ℕ) → line_in line ≡ words.Command command
    → Reply m h command reply mid → Transcript m mid lines more
    → Transcript m h (line ∷ lines) (reply ++ more)
goes_on m h mid line command lines reply more e r t =
    subst
    (λ (x : Line). Continues (Reply m) h x (λ left rest. Transcript m left lines rest)
    (reply ++ more))
    (sym e) (reply, more, mid, r, refl, t)

-- ---- lines that were answered, and what comes later

-- a text of the same lines
same_text : (m : Machine) (h : History) (lines others : List (List ℕ)) (text other : List ℕ)
    → lines ≡ others → text ≡ other → Transcript m h lines text → Transcript m h others other
same_text m h lines others text other e f t =
    subst (λ (s : List ℕ). Transcript m h others s) f
    (subst (λ (ls : List (List ℕ)). Transcript m h ls text) e t)

pub Replies_none : (m : Machine) (h : History) → Replies m h [] GoesOn [] h
Replies_none m h = λ later more t. t

pub Replies-line : (m : Machine) (h new : History) (line : List ℕ) (command : Command)
    (reply : List ℕ) → line_in line ≡ words.Command command → Reply m h command reply new
    → Replies m h (line ∷ []) GoesOn reply new
Replies-line m h new line command reply e r = λ later more t.
    goes_on m h new line command later reply more e r t

pub Replies-quit : (m : Machine) (h new : History) (line : List ℕ) (lines : List (List ℕ))
    → line_in line ≡ words.Quit → Replies m h (line ∷ lines) Quit [] new
Replies-quit m h new line lines e = λ later. quits m h line (lines ++ later) e

pub Replies-after : (m : Machine) (h mid new : History) (lines others : List (List ℕ)) (flow : Flow)
    (text more : List ℕ) → Replies m h lines GoesOn text mid → Replies m mid others flow more new
    → Replies m h (lines ++ others) flow (text ++ more) new
Replies-after m h mid new lines others GoesOn text more r q = λ later end t.
    same_text m h (lines ++ (others ++ later)) ((lines ++ others) ++ later)
    (text ++ (more ++ end)) ((text ++ more) ++ end) (sym (append_assoc lines others later))
    (sym (append_assoc text more end)) (r (others ++ later) (more ++ end) (q later end t))
Replies-after m h mid new lines others Quit text more r q = λ later.
    same_text m h (lines ++ (others ++ later)) ((lines ++ others) ++ later)
    (text ++ more) (text ++ more) (sym (append_assoc lines others later)) refl
    (r (others ++ later) more (q later))

abbrev flow_number : Flow → ℕ
flow_number GoesOn = 0
flow_number Quit = 1

pub quit_ends : Quit ≡ GoesOn → ⊥
quit_ends e = let bad : 1 ≡ 0 = ap flow_number e in omega (arith, bad)

-- the line that came so far says the same
pub held-line : (line held : List ℕ) → held ≡ take line_room line → line_in held ≡ line_in line
held-line line held e = ap line_in e ∙ line_in-front line_room line refl

-- what the code takes for a line
pub line_read : (r l : CodeLine) (slice held : List ℕ) → line_view r ≡ line_in slice → slice ≡ held
    → r ≡ l → line_in held ≡ line_view l
line_read r l slice held e f g = sym (e ∙ ap line_in f) ∙ ap line_view g

module _ {W : Type 0} (contents : W → Option (List ℕ)) where
  -- a beginning of a command's reply was sent
  Breaks-line : (a b : Link W) (m : Machine) (h now : History) (line : List ℕ) (command : Command)
      (lines : List (List ℕ)) → line_in line ≡ words.Command command
      → Answers contents a b false m h command now → Breaks contents a b m h (line ∷ lines)
  Breaks-line a b m h now line command lines e (reply, left, r, s) = λ later.
      let (more, t) = Transcript-some m left (lines ++ later) in (
        reply ++ more,
        goes_on m h left line command (lines ++ later) reply more e r t,
        Sends-stop contents a b reply more s,
      )

  Breaks-after : (a b c : Link W) (m : Machine) (h mid : History) (lines others : List (List ℕ))
      (text : List ℕ) → Replies m h lines GoesOn text mid → Sends contents a b true text
      → Breaks contents b c m mid others → Breaks contents a c m h (lines ++ others)
  Breaks-after a b c m h mid lines others text r s q = λ later.
      let (more, t, p) = q later in (
        text ++ more,
        same_text m h (lines ++ (others ++ later)) ((lines ++ others) ++ later)
            (text ++ more) (text ++ more) (sym (append_assoc lines others later)) refl
            (r (others ++ later) more t),
        Sends-then contents a b c false text more s p,
      )

  -- ---- one byte

  pub chunk_line : (a b c : Link W) (m x : Machine) (h mid new : History)
      (line bytes held all empty : List ℕ) (byte : ℕ) (command : Command)
      → ChunkTells contents a b (Some GoesOn) m h line bytes mid held → byte ≡ 10
      → all ≡ bytes ++ byte ∷ [] → line_in held ≡ words.Command command → x ≡ m
      → Answers contents b c true x mid command new → empty ≡ []
      → ChunkTells contents a c (Some GoesOn) m h line all new empty
  chunk_line a b c m x h mid new line bytes held all empty byte command (text, r, s, k) e g l f
      (reply, q, p) none =
      let says = sym (held-line (rest_after line bytes) held (k refl)) ∙ l in
      let replied = subst (λ (y : Machine). Reply y mid command reply new) f q in
      let one = Replies-line m mid new (rest_after line bytes) command reply says replied in (
        text ++ reply,
        subst (λ (ls : List (List ℕ)). Replies m h ls GoesOn (text ++ reply) new)
            (sym (ap (whole_after line) g ∙ whole_after-newline line bytes [] byte e))
            (Replies-after m h mid new (whole_after line bytes) (rest_after line bytes ∷ [])
            GoesOn text reply r one),
        Sends-then contents a b c true text reply s p,
        λ on. none ∙ sym (ap (λ (bs : List ℕ). take line_room (rest_after line bs)) g
            ∙ ap (take line_room) (rest_after-newline line bytes byte e)),
      )

  pub chunk_byte : (a b : Link W) (m : Machine) (h mid : History)
      (line bytes held all more : List ℕ) (byte : ℕ)
      → ChunkTells contents a b (Some GoesOn) m h line bytes mid held → (byte == 10) ≡ false
      → all ≡ bytes ++ byte ∷ [] → more ≡ take line_room (held ++ byte ∷ [])
      → ChunkTells contents a b (Some GoesOn) m h line all mid more
  chunk_byte a b m h mid line bytes held all more byte (text, r, s, k) e g f = (
    text,
    subst (λ (ls : List (List ℕ)). Replies m h ls GoesOn text mid)
        (sym (ap (whole_after line) g ∙ whole_after-byte line bytes byte e)) r,
    s,
    λ on.
        f ∙ ap (λ (l : List ℕ). take line_room (l ++ byte ∷ [])) (k refl)
        ∙ take-front line_room (rest_after line bytes) (byte ∷ [])
        ∙ sym (ap (λ (bs : List ℕ). take line_room (rest_after line bs)) g
        ∙ ap (take line_room) (rest_after-byte line bytes byte e)),
  )

  pub chunk_quit : (a b : Link W) (m : Machine) (h mid : History)
      (line bytes held all rest last : List ℕ) (byte : ℕ)
      → ChunkTells contents a b (Some GoesOn) m h line bytes mid held → byte ≡ 10
      → all ≡ bytes ++ byte ∷ rest → line_in held ≡ words.Quit
      → ChunkTells contents a b (Some Quit) m h line all mid last
  chunk_quit a b m h mid line bytes held all rest last byte (text, r, s, k) e g l =
      let says = sym (held-line (rest_after line bytes) held (k refl)) ∙ l in
      let ends = Replies-quit m mid mid (rest_after line bytes) (whole_after [] rest) says in (
        text ++ [],
        subst (λ (ls : List (List ℕ)). Replies m h ls Quit (text ++ []) mid)
            (sym (ap (whole_after line) g ∙ whole_after-newline line bytes rest byte e))
            (Replies-after m h mid mid (whole_after line bytes)
            (rest_after line bytes ∷ whole_after [] rest) Quit text [] r ends),
        Sends-then contents a b b true text [] s (Sends-nothing contents b),
        λ on. absurd (quit_ends on),
      )

  pub chunk_fault : (a b c : Link W) (m x : Machine) (h mid now new : History)
      (line bytes held all rest last : List ℕ) (byte : ℕ) (command : Command)
      → ChunkTells contents a b (Some GoesOn) m h line bytes mid held → byte ≡ 10
      → all ≡ bytes ++ byte ∷ rest → line_in held ≡ words.Command command → x ≡ m
      → Answers contents b c false x mid command now
      → ChunkTells contents a c None m h line all new last
  chunk_fault a b c m x h mid now new line bytes held all rest last byte command (text, r, s, k)
      e g l f q =
      let said = subst (λ (y : Machine). Answers contents b c false y mid command now) f q in
      let says = sym (held-line (rest_after line bytes) held (k refl)) ∙ l in
      subst (λ (ls : List (List ℕ)). Breaks contents a c m h ls)
      (sym (ap (whole_after line) g ∙ whole_after-newline line bytes rest byte e))
      (Breaks-after a b c m h mid (whole_after line bytes)
      (rest_after line bytes ∷ whole_after [] rest) text r s
      (Breaks-line b c m mid now (rest_after line bytes) command (whole_after [] rest) says
      said))

  -- ---- one read

  lines-more : (taken bytes : List ℕ) → whole_lines taken ++ whole_after (rest_line taken) bytes
      ≡ whole_lines (taken ++ bytes)
  lines-more taken bytes = sym (whole_after-append [] taken bytes)

  pub read_on : (a b c : Link W) (m x : Machine) (h mid new : History) (flow : Flow)
      (taken text bytes before held : List ℕ) → x ≡ m → before ≡ take line_room (rest_line taken)
      → Replies m h (whole_lines taken) GoesOn text mid → Sends contents a b true text
      → ((line : List ℕ) → before ≡ take line_room line
      → ChunkTells contents b c (Some flow) x mid line bytes new held)
      → (more : List ℕ) × Replies m h (whole_lines (taken ++ bytes)) flow (text ++ more) new
      × Sends contents a c true (text ++ more)
      × (flow ≡ GoesOn → held ≡ take line_room (rest_line (taken ++ bytes)))
  read_on a b c m x h mid new flow taken text bytes before held e f r s told =
      let own : Machine → Type 0 = λ y.
      ChunkTells contents b c (Some flow) y mid (rest_line taken) bytes new held in
      let (more, q, p, k) = subst own e (told (rest_line taken) f) in (
        more,
        subst (λ (ls : List (List ℕ)). Replies m h ls flow (text ++ more) new)
            (lines-more taken bytes)
            (Replies-after m h mid new (whole_lines taken) (whole_after (rest_line taken) bytes)
            flow text more r q),
        Sends-then contents a b c true text more s p,
        λ on. k on ∙ sym (ap (take line_room) (rest_after-append [] taken bytes)),
      )

  pub read_fault : (a b c : Link W) (m x : Machine) (h mid new : History)
      (taken text bytes before held : List ℕ) → x ≡ m → before ≡ take line_room (rest_line taken)
      → Replies m h (whole_lines taken) GoesOn text mid → Sends contents a b true text
      → ((line : List ℕ) → before ≡ take line_room line
      → ChunkTells contents b c None x mid line bytes new held)
      → Breaks contents a c m h (whole_lines (taken ++ bytes))
  read_fault a b c m x h mid new taken text bytes before held e f r s told =
      let own : Machine → Type 0 = λ y.
      ChunkTells contents b c None y mid (rest_line taken) bytes new held in
      subst (λ (ls : List (List ℕ)). Breaks contents a c m h ls) (lines-more taken bytes)
      (Breaks-after a b c m h mid (whole_lines taken) (whole_after (rest_line taken) bytes) text r s
      (subst own e (told (rest_line taken) f)))

  -- ---- a last line that lacks its newline

  pub ends_quit : (a : Link W) (m : Machine) (h : History) (line held : List ℕ)
      → held ≡ take line_room line → (held ≡ [] → ⊥) → line_in held ≡ words.Quit
      → Ends contents a a true m h line
  ends_quit a m h [] held e f l = absurd (f e)
  ends_quit a m h (x ∷ xs) held e f l = (
    [],
    quits m h (x ∷ xs) [] (sym (held-line (x ∷ xs) held e) ∙ l),
    Sends-nothing contents a,
  )

  pub ends_line : (a b : Link W) (whole : Bool) (m : Machine) (h new : History)
      (line held : List ℕ) (command : Command) → held ≡ take line_room line → (held ≡ [] → ⊥)
      → line_in held ≡ words.Command command → Answers contents a b whole m h command new
      → Ends contents a b whole m h line
  ends_line a b whole m h new [] held command e f l q = absurd (f e)
  ends_line a b true m h new (x ∷ xs) held command e f l (reply, r, s) =
      let says = sym (held-line (x ∷ xs) held e) ∙ l in (
        reply ++ [],
        goes_on m h new (x ∷ xs) command [] reply [] says r refl,
        Sends-then contents a b b true reply [] s (Sends-nothing contents b),
      )
  ends_line a b false m h new (x ∷ xs) held command e f l (reply, left, r, s) =
      let says = sym (held-line (x ∷ xs) held e) ∙ l in (
        reply ++ [],
        goes_on m h left (x ∷ xs) command [] reply [] says r refl,
        Sends-stop contents a b reply [] s,
      )

-- ---- the whole input

-- the lines of an input of which some was taken
pub lines_of-parts : (taken rest : List ℕ) → lines_of (taken ++ rest) ≡ whole_lines taken
    ++ (whole_after (rest_line taken) rest ++ last_line (rest_after (rest_line taken) rest))
lines_of-parts taken rest =
    ap (λ (ls : List (List ℕ)). ls ++ last_line (rest_line (taken ++ rest)))
    (whole_after-append [] taken rest)
    ∙ append_assoc (whole_lines taken) (whole_after (rest_line taken) rest)
    (last_line (rest_line (taken ++ rest)))
    ∙ ap (λ (l : List ℕ). whole_lines taken ++ (whole_after (rest_line taken) rest ++ last_line l))
    (rest_after-append [] taken rest)

-- what was taken begins the input
pub taken_of : (input taken : List ℕ) (left : Option (List ℕ)) → Consumes (Some input) left taken
    → (rest : List ℕ) × (left ≡ Some rest) × (input ≡ taken ++ rest)
taken_of input taken None p = absurd p
taken_of input taken (Some rest) p = (rest, refl, p)

-- at the end all was taken
pub all_taken : (input taken : List ℕ) (left : Option (List ℕ)) → Consumes (Some input) left taken
    → IsAtEnd left ⊎ (2 ^ 64 - 1 ≤ length taken) → length input < 2 ^ 63 → input ≡ taken
all_taken input taken None p q h = absurd p
all_taken input taken (Some rest) p (inl e) h = p ∙ ap (λ (l : List ℕ). taken ++ l) e
    ∙ append-nil taken
all_taken input taken (Some rest) p (inr k) h =
    absurd (omega (arith, ap length p, length-append taken rest))

-- what the lines of the input are, of which some was taken
input_lines : (input taken : List ℕ) (left : Option (List ℕ)) → Consumes (Some input) left taken
    → (later : List (List ℕ)) × (whole_lines taken ++ later ≡ lines_of input)
input_lines input taken left p =
    let (rest, f, g) = taken_of input taken left p in (
      whole_after (rest_line taken) rest ++ last_line (rest_after (rest_line taken) rest),
      sym (ap lines_of g ∙ lines_of-parts taken rest),
    )

module _ {W : Type 0} (contents : W → Option (List ℕ)) where
  -- what was written is right for the input, where the input is known
  abbrev pub Told : Link W → Link W → Option (List ℕ) → Option (List ℕ) → Machine → History
      → Result (Unit {0}) SessionFault → Type 0
  Told old new before left m h r =
      IfSome before (λ input. length input < 2 ^ 63
      → Tells m h input left (contents (device_of old)) (contents (device_of new)) r)

  -- how a session ends where its last text was sent to its end, or cut off
  abbrev pub ending : Bool → Result (Unit {0}) SessionFault
  ending true = Ok tt
  ending false = Err faults.Write

  -- a text of all lines was sent, or a beginning of it
  tells_sent : (old new : Link W) (whole : Bool) (m : Machine) (h : History) (input : List ℕ)
      (left : Option (List ℕ)) (text : List ℕ) → Transcript m h (lines_of input) text
      → Sends contents old new whole text
      → Tells m h input left (contents (device_of old)) (contents (device_of new)) (ending whole)
  tells_sent old new true m h input left text t s =
      (lines_of input, text, are_lines input, t, s.bytes)
  tells_sent old new false m h input left text t s =
      (lines_of input, text, are_lines input, t, s.bytes)

  pub told_err : (old new : Link W) (m : Machine) (h now : History) (held : List ℕ)
      (before left : Option (List ℕ)) (fault : SessionFault)
      → ReadTells contents old new before left (Err fault) m h now held
      → Told old new before left m h (Err fault)
  told_err old new m h now held None left fault r = tt
  told_err old new m h now held (Some input) left faults.Read (taken, text, p, r, s) = λ small. (
    taken,
    whole_lines taken,
    rest_line taken,
    text,
    p,
    is_cut taken,
    same_text m h (whole_lines taken ++ []) (whole_lines taken) (text ++ []) text
        (append-nil (whole_lines taken)) (append-nil text) (r [] [] refl),
    s.bytes,
  )
  told_err old new m h now held (Some input) left faults.Write (taken, p, q) = λ small.
      let (later, f) = input_lines input taken left p in
      let (text, t, s) = q later in
      tells_sent old new false m h input left text (same_text m h _ _ text text f refl t) s

  pub told_quit : (old new : Link W) (m : Machine) (h now : History) (held : List ℕ)
      (before left : Option (List ℕ)) → ReadTells contents old new before left (Ok Quit) m h now
      held
      → Told old new before left m h (Ok tt)
  told_quit old new m h now held None left r = tt
  told_quit old new m h now held (Some input) left (taken, text, p, q, s, k) = λ small.
      let (later, f) = input_lines input taken left p in
      tells_sent old new true m h input left text (same_text m h _ _ text text f refl (q later)) s

  -- the whole lines were answered, and then the last one, or a beginning of its text was sent
  pub told_last : (old mid new : Link W) (whole : Bool) (m x : Machine) (h now : History)
      (held : List ℕ) (before left : Option (List ℕ)) → x ≡ m
      → ReadTells contents old mid before left (Ok GoesOn) m h now held
      → ((line : List ℕ) → held ≡ take line_room line → Ends contents mid new whole x now line)
      → Told old new before left m h (ending whole)
  told_last old mid new whole m x h now held None left e r f = tt
  told_last old mid new whole m x h now held (Some input) left e (taken, text, p, r, s, k) f =
      λ small.
      let (end, same) = k refl in
      let all : input ≡ taken = all_taken input taken left p end small in
      let (more, t, u) = subst (λ (y : Machine). Ends contents mid new whole y now
      (rest_line taken))
      e (f (rest_line taken) same) in
      tells_sent old new whole m h input left (text ++ more)
      (subst (λ (l : List ℕ). Transcript m h (lines_of l) (text ++ more)) (sym all)
      (r (last_line (rest_line taken)) more t))
      (Sends-then contents old mid new whole text more s u)
