-- Bits of bytes, one more at a time, and sets of them.
use Rattle.std.proofs.Common.{ℕ, suc, ◌≡◌, ◌≢◌, ◌+◌, ◌*◌, ◌/◌, ◌%◌, ◌^◌, ◌<◌, ◌≤◌, ◌⊎◌, inl, inr}
use Rattle.std.proofs.Common.{Bool, true, false, nat_eq, List, [], ◌∷◌, ◌++◌, length, refl}
use Rattle.std.proofs.Common.{sym, ap, ◌∙◌, subst, arith, max, bit_or, slice_index, get_or}
use Rattle.std.proofs.Common.{cond, ◌||◌, Some, None, if◌then◌else◌}
use Rattle.std.specs.Int.{bit_at}
use Rattle.std.specs.List.{range_with_len, sum_by}
use Rattle.std.specs.Str.{bytes_eq}
use Rattle.std.specs.Cmp.Lexicographic.{same_text}
use Rattle.std.proofs.Math.Nat.{mul-le-mul_right}
use Rattle.std.proofs.Math.Seq.{get_or-append_seam}
use Rattle.std.proofs.lemmas.Bool.{cases_eq}
use Rattle.std.proofs.lemmas.List.{get_or_append_left, get_or-append-add, get_or_push, length_push}
use Rattle.std.proofs.lemmas.List.Sums.{sum_by_push}
use Rattle.std.proofs.lemmas.List.Folds.{list_any-append}
use Rattle.std.proofs.lemmas.Nat.{one_shl, or_lt, or_comm, or_shifted, pow-add, div-add-mod'}
use Rattle.std.proofs.lemmas.Nat.{mod_below}
use Rattle.std.proofs.lemmas.Nat.Bits.{bit_at_or, bit_at-lt, bit_at-pow_same, bit_at-pow_other}
use Rattle.std.proofs.lemmas.Nat.Bits.{bit_at_above}
use Rattle.ysymbols.specs.Names.{is_among, number_in, find_in}
use Rattle.ysymbols.proofs.NameSteps.{false_true, among_number, eq_self, or_left, or_right}
use Rattle.ycode.specs.Bits.{bit_of, SetsValue, AreBits, HasSet, IsSets, KeepsSets, AreListed}
use Rattle.ycode.specs.Bits.{and_set, with_set, number_of}
use Rattle.ycode.proofs.ListSteps.{range_more}
use Rattle.ycode.proofs.EntrySteps.{same_yes, below_or_last}
use Rattle.ycode.proofs.PackingSteps.{less_or_not}

pub twice : (k : ℕ) → 2 ^ (k + 1) ≡ 2 ^ k * 2
twice k = pow-add 2 k 1

-- the bits below k that are set, as a number
abbrev pub sum_to : (ℕ → Bool) → ℕ → ℕ
sum_to f k = sum_by (λ i. if f i then 2 ^ i else 0) (range_with_len 0 k)

sum_more : (f : ℕ → Bool) (k : ℕ) → sum_to f (k + 1) ≡ sum_to f k + (if f k then 2 ^ k else 0)
sum_more f k = ap (sum_by (λ (i : ℕ). if f i then 2 ^ i else 0)) (range_more k) ∙
    sum_by_push (λ (i : ℕ). if f i then 2 ^ i else 0) (range_with_len 0 k) k

module _ (byte byte' k : ℕ) (f : ℕ → Bool) (small : byte < 2 ^ k) (few : k < 64)
    (old : (i : ℕ) → i < k → nat_eq (bit_at byte i) 1 ≡ f i) where
  pub bits_set : byte' ≡ bit_or byte ((1 * 2 ^ k) % 2 ^ 64) → f k ≡ true → (i : ℕ) → i < k + 1 →
      nat_eq (bit_at byte' i) 1 ≡ f i
  bits_set e h i l = go (cases_eq i k)
    where
      split : bit_at byte' i ≡ max (bit_at byte i) (bit_at (2 ^ k) i)
      split = ap (λ b. bit_at b i) (e ∙ ap (bit_or byte) (one_shl k 64 few)) ∙ bit_at_or byte
          (2 ^ k) i

      go : (i ≡ k) ⊎ (i ≢ k) → nat_eq (bit_at byte' i) 1 ≡ f i
      go (inl z) =
          let one : bit_at (2 ^ k) i ≡ 1 = ap (bit_at (2 ^ k)) z ∙ bit_at-pow_same k in
          let low = bit_at-lt byte i in
          let b : bit_at byte' i ≡ 1 = omega (arith, split, one, low) in
          same_yes (bit_at byte' i) 1 b ∙ sym (ap f z ∙ h)
      go (inr n) =
          let zero : bit_at (2 ^ k) i ≡ 0 = bit_at-pow_other k i n in
          let b : bit_at byte' i ≡ bit_at byte i = omega (arith, split, zero) in
          ap (λ x. nat_eq x 1) b ∙ old i (omega (arith, l, n))

  pub bits_skip : f k ≡ false → (i : ℕ) → i < k + 1 → nat_eq (bit_at byte i) 1 ≡ f i
  bits_skip h i l = go (cases_eq i k)
    where
      go : (i ≡ k) ⊎ (i ≢ k) → nat_eq (bit_at byte i) 1 ≡ f i
      go (inl z) =
          let b : bit_at byte i ≡ 0 = bit_at_above byte k i small (omega (arith, z)) in
          ap (λ x. nat_eq x 1) b ∙ sym (ap f z ∙ h)
      go (inr n) = old i (omega (arith, l, n))

  pub small_set : byte' ≡ bit_or byte ((1 * 2 ^ k) % 2 ^ 64) → byte' < 2 ^ (k + 1)
  small_set e =
      let z = twice k in
      let l = or_lt (k + 1) byte (2 ^ k) (omega (arith, z, small)) (omega (arith, z, small)) in
      subst (λ b. b < 2 ^ (k + 1)) (sym (e ∙ ap (bit_or byte) (one_shl k 64 few))) l

  pub small_skip : byte < 2 ^ (k + 1)
  small_skip = let z = twice k in omega (arith, z, small)

  pub sum_set : byte ≡ sum_to f k → byte' ≡ bit_or byte ((1 * 2 ^ k) % 2 ^ 64) → f k ≡ true →
      byte' ≡ sum_to f (k + 1)
  sum_set e set h =
      let joined : byte' ≡ bit_or (2 ^ k) byte = set ∙ (ap (bit_or byte) (one_shl k 64 few) ∙
      or_comm byte (2 ^ k)) in
      let one : 1 * 2 ^ k ≡ 2 ^ k = omega arith in
      let more : bit_or (2 ^ k) byte ≡ 2 ^ k + byte = subst (λ (p : ℕ). bit_or p byte ≡ p + byte)
      one (or_shifted 1 k byte small) in
      let sum = sum_more f k in
      let there : (if f k then 2 ^ k else 0) ≡ 2 ^ k = ap (λ b. if b then 2 ^ k else 0) h in
      omega (arith, joined, more, sum, there, e)

  pub sum_skip : byte ≡ sum_to f k → f k ≡ false → byte ≡ sum_to f (k + 1)
  sum_skip e h =
      let sum = sum_more f k in
      let none : (if f k then 2 ^ k else 0) ≡ 0 = ap (λ b. if b then 2 ^ k else 0) h in
      omega (arith, sum, none, e)

-- one more byte of bits
pub bits_pushed : (bytes : List ℕ) (b k : ℕ) (f : ℕ → Bool) → length bytes ≡ k →
    ((t : ℕ) → t < 8 * k → bit_of bytes 0 t ≡ f t) →
    ((j : ℕ) → j < 8 → nat_eq (bit_at b j) 1 ≡ f (8 * k + j)) →
    (t : ℕ) → t < 8 * (k + 1) → bit_of (bytes ++ b ∷ []) 0 t ≡ f t
bits_pushed bytes b k f len old new t l = go (less_or_not t (8 * k))
  where
    parts : t / 8 * 8 + t % 8 ≡ t
    parts = div-add-mod' t 8

    low : t % 8 < 8
    low = mod_below t 8 (omega arith)

    go : (t < 8 * k) ⊎ (8 * k ≤ t) → bit_of (bytes ++ b ∷ []) 0 t ≡ f t
    go (inl h) = ap (λ w. nat_eq (bit_at w (t % 8)) 1)
        (get_or_append_left bytes (b ∷ []) 0 (0 + t / 8) (omega (arith, parts, len, h))) ∙ old t h
    go (inr h) =
        let at : 0 + t / 8 ≡ length bytes = omega (arith, parts, low, len, h, l) in
        let seam : slice_index (bytes ++ b ∷ []) (0 + t / 8) ≡ b =
        ap (slice_index (bytes ++ b ∷ []))
        at ∙ get_or-append_seam bytes b [] 0 in
        let place : 8 * k + t % 8 ≡ t = omega (arith, parts, at, len) in
        ap (λ w. nat_eq (bit_at w (t % 8)) 1) seam ∙ new (t % 8) low ∙ ap f place

-- bits of bytes after others, and before others
pub bits_behind : (bytes set : List ℕ) (at t : ℕ) → length bytes ≡ at →
    bit_of (bytes ++ set) at t ≡ bit_of set 0 t
bits_behind bytes set at t e = ap (λ w. nat_eq (bit_at w (t % 8)) 1)
    (ap (λ i. slice_index (bytes ++ set) (i + t / 8)) (sym e)
    ∙ get_or-append-add bytes set (t / 8) 0
    ∙ ap (slice_index set) zero)
  where
    zero : t / 8 ≡ 0 + t / 8
    zero = omega arith

pub bits_before : (bytes more : List ℕ) (at t : ℕ) → at + t / 8 < length bytes →
    bit_of (bytes ++ more) at t ≡ bit_of bytes at t
bits_before bytes more at t l = ap (λ w. nat_eq (bit_at w (t % 8)) 1)
    (get_or_append_left bytes more 0 (at + t / 8) l)

-- the byte of a token lies in its set
pub byte_within : (n count span t : ℕ) → n < count → t < 8 * span → n * span + t / 8 < count * span
byte_within n count span t h l =
    let parts = div-add-mod' t 8 in
    let rows : (n + 1) * span ≤ count * span = mul-le-mul_right {m = n + 1} {n = count} span
    (omega (arith, h)) in
    let more : (n + 1) * span ≡ n * span + span = grind arith in
    omega (arith, parts, rows, more, l)

-- a set after the others leaves them as they are
pub appended_keeps : (old new : SetsValue) (set : List ℕ) → IsSets old → new.span ≡ old.span →
    new.bytes ≡ old.bytes ++ set → new.count ≡ old.count + 1 → KeepsSets old new
appended_keeps old new set s e b c = record {
  span = e;
  bits = λ n t h l. ap (λ w. bit_of new.bytes (n * w) t) e
      ∙ (ap (λ bytes. bit_of bytes (n * old.span) t) b
      ∙ bits_before old.bytes set (n * old.span) t
      (let z = s.sized in let w = byte_within n old.count old.span t h l in omega (arith, z, w)));
  count = omega (arith, c);
  longer = omega (arith, c);
}

-- and is there
pub appended_set : (old new : SetsValue) (set : List ℕ) (members : List Bool) → IsSets old →
    new.span ≡ old.span → new.bytes ≡ old.bytes ++ set → new.count ≡ old.count + 1 →
    AreBits set 0 old.span members → HasSet new old.count members
appended_set old new set members s e b c a = record {
  number = omega (arith, c);
  bits = λ t l. ap (λ x. bit_of new.bytes (old.count * x) t) e
      ∙ (ap (λ bytes. bit_of bytes (old.count * old.span) t) b
      ∙ (bits_behind old.bytes set (old.count * old.span) t s.sized
      ∙ a t (subst (λ x. t < 8 * x) e l)));
}

-- a set stays
pub kept_set : (old new : SetsValue) (n : ℕ) (members : List Bool) → KeepsSets old new →
    HasSet old n members → HasSet new n members
kept_set old new n members k h = record {
  number = let a = h.number in let c = k.count in omega (arith, a, c);
  bits = λ t l. (let z : t < 8 * old.span = subst (λ x. t < 8 * x) k.span l in
      k.bits n t h.number z ∙ h.bits t z);
}

pub keeps_sets : (s : SetsValue) → KeepsSets s s
keeps_sets s = record {
  span = refl;
  bits = λ n t h l. refl;
  count = omega arith;
  longer = omega arith;
}

-- what is found among lists stands at its number
pub number_at : (ns : List (List ℕ)) (n : List ℕ) → is_among ns n ≡ true →
    get_or ns (number_in ns n) [] ≡ n
number_at [] n h = absurd (false_true h)
number_at (m ∷ ns) n h = go (bytes_eq n m) refl (number_at ns n) h
  where
    go : (b : Bool) → bytes_eq n m ≡ b →
        (is_among ns n ≡ true → get_or ns (number_in ns n) [] ≡ n) →
        (bytes_eq n m || is_among ns n) ≡ true →
        get_or (m ∷ ns) (cond (bytes_eq n m) 0 (suc (number_in ns n))) [] ≡ n
    go true q again k = rw q (sym (same_text n m (sym q)))
    go false q again k = rw q (again (subst (λ c. (c || is_among ns n) ≡ true) q k))

pub found_is : (ns : List (List ℕ)) (n : List ℕ) (k : ℕ) → find_in ns n ≡ Some k →
    (is_among ns n ≡ true) × (number_in ns n ≡ k)
found_is ns n k f = go (is_among ns n) refl f
  where
    go : (b : Bool) → is_among ns n ≡ b → cond b (Some (number_in ns n)) None ≡ Some k →
        (is_among ns n ≡ true) × (number_in ns n ≡ k)
    go true e g = (e, cc)
    go false e g = absurd (cc)

pub not_found : (ns : List (List ℕ)) (n : List ℕ) → find_in ns n ≡ None → is_among ns n ≡ false
not_found ns n f = go (is_among ns n) refl f
  where
    go : (b : Bool) → is_among ns n ≡ b → cond b (Some (number_in ns n)) None ≡ None →
        is_among ns n ≡ false
    go true e g = absurd (cc)
    go false e g = e

-- the last list is among them, and its number is how many others there are
pub last_among : (ns : List (List ℕ)) (n : List ℕ) → is_among (ns ++ n ∷ []) n ≡ true
last_among ns n = list_any-append (bytes_eq n) ns (n ∷ []) ∙ or_right (is_among ns n)
    (bytes_eq n n || false) (or_left (bytes_eq n n) false (eq_self n))

pub last_number : (ns : List (List ℕ)) (n : List ℕ) → is_among ns n ≡ false →
    number_in (ns ++ n ∷ []) n ≡ length ns
last_number [] n f = rw (eq_self n) refl
last_number (m ∷ ns) n f = go (bytes_eq n m) refl f (last_number ns n)
  where
    go : (b : Bool) → bytes_eq n m ≡ b → (bytes_eq n m || is_among ns n) ≡ false →
        (is_among ns n ≡ false → number_in (ns ++ n ∷ []) n ≡ length ns) →
        cond (bytes_eq n m) 0 (suc (number_in (ns ++ n ∷ []) n)) ≡ suc (length ns)
    go true e g again = absurd (false_true (sym g ∙ or_left (bytes_eq n m) (is_among ns n) e))
    go false e g again = rw e (ap (λ k. suc k)
        (again (subst (λ b. (b || is_among ns n) ≡ false) e g)))

module _ (s : SetsValue) (set : List ℕ) (members : List Bool) (a : AreListed s)
    (b : AreBits set 0 s.span members) where
  -- a set that is there
  module _ (k : ℕ) (f : find_in s.others set ≡ Some k) where
    among : is_among s.others set ≡ true
    among = (found_is s.others set k f).0

    here : number_in s.others set ≡ k
    here = (found_is s.others set k f).1

    low : k < length s.others
    low = let l = among_number s.others set among in omega (arith, l, here)

    pub there_set : HasSet s (k + 1) members
    there_set = record {
      number = let c = a.count in omega (arith, c, low);
      bits = λ t l. a.bits k t low l ∙ (ap (λ (x : List ℕ). bit_of x 0 t)
          (ap (λ (n : ℕ). get_or s.others n []) (sym here) ∙ number_at s.others set among) ∙ b t l);
    }

    pub there_same : s ≡ with_set s set
    there_same = sym (ap (λ (x : Bool). if x then s else and_set s set) among)

    pub there_number : k + 1 ≡ number_of s set
    there_number = ap (λ (n : ℕ). n + 1) (sym here)

  -- one that isn't
  module _ (i : IsSets s) (f : is_among s.others set ≡ false) where
    pub more_set : HasSet (and_set s set) s.count members
    more_set = appended_set s (and_set s set) set members i refl refl refl b

    pub more_keeps : KeepsSets s (and_set s set)
    more_keeps = appended_keeps s (and_set s set) set i refl refl refl

    pub more_same : and_set s set ≡ with_set s set
    more_same = sym (ap (λ (x : Bool). if x then s else and_set s set) f)

    pub more_number : s.count ≡ number_of (and_set s set) set
    more_number = a.count ∙ ap (λ (n : ℕ). n + 1) (sym (last_number s.others set f))

    pub more_listed : AreListed (and_set s set)
    more_listed = record {
      count = let c = a.count in let l = length_push s.others set in omega (arith, c, l);
      bits = λ k t l m. bits k t m (below_or_last k (length s.others)
          (let p = length_push s.others set in omega (arith, p, l)));
    }
      where
        bits : (k t : ℕ) → t < 8 * s.span → (k < length s.others) ⊎ (k ≡ length s.others) →
            bit_of (s.bytes ++ set) ((k + 1) * s.span) t ≡
            bit_of (get_or (s.others ++ set ∷ []) k []) 0 t
        bits k t m (inl h) =
            let w = byte_within (k + 1) s.count s.span t
            (let c = a.count in omega (arith, c, h)) m in
            bits_before s.bytes set ((k + 1) * s.span) t
            (let z = i.sized in omega (arith, z, w)) ∙ (a.bits k t h m ∙
            sym (ap (λ (x : List ℕ). bit_of x 0 t)
            (get_or_append_left s.others (set ∷ []) [] k h)))
        bits k t m (inr h) =
            let at : k + 1 ≡ s.count = (let c = a.count in omega (arith, c, h)) in
            bits_behind s.bytes set ((k + 1) * s.span) t
            (i.sized ∙ ap (λ (n : ℕ). n * s.span) (sym at)) ∙
            sym (ap (λ (x : List ℕ). bit_of x 0 t) (get_or_push s.others set [] k (sym h)))
