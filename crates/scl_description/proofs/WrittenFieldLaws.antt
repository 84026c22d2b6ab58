-- Fields and lines that are written are read back.
use Rattle.std.proofs.Common.{◌≡◌, ℕ, ◌+◌, ◌*◌, ◌/◌, ◌%◌, ◌<◌, ◌≤◌, Bool, true, false, cond, List, [], ◌∷◌, ◌++◌, Some, None, refl, ap, ◌∙◌, arith, nat_eq, append_assoc, lit≤, lit<}
use Rattle.std.proofs.lemmas.Bool.Decides.{nat_tests}
use Rattle.scl_values.specs.Escaped.{is_plain, digit_of, escape, escaped}
use Rattle.scl_description.specs.Fields.{digit_value, before, field_of, fields_of, two_fields, AreBytes, ArePrintable}
use Rattle.std.specs.Option.{option_zip}
use Rattle.scl_description.specs.Lines.{cut_at, with_first, line, lines_of}
use Rattle.scl_description.proofs.FieldLaws.{field-plain}
use Rattle.scl_description.proofs.CutLaws.{cut_at-mark, lines_of-cut}

pub digit-back : (n : ℕ) → n < 16 → digit_value (digit_of n) ≡ Some n
digit-back n h = grind (arith, nat_tests)

-- an escaped byte before a field
field-digits : (high low : ℕ) (rest : List ℕ) → high < 16 → low < 16 → field_of (0x5c ∷ 0x78 ∷ digit_of high ∷ digit_of low ∷ rest) ≡ before (Some (16 * high + low)) (field_of rest)
field-digits high low rest h l = rw (digit-back high h, digit-back low l) refl

-- a byte as it is written, before a field
field-escape : (b : ℕ) (rest : List ℕ) → b < 256 → field_of (escape b ++ rest) ≡ before (Some b) (field_of rest)
field-escape b rest h = either (is_plain b) refl where
  either : (plain : Bool) → is_plain b ≡ plain → field_of (escape b ++ rest) ≡ before (Some b) (field_of rest)
  either true is = ap (λ p. field_of (cond p (b ∷ []) (0x5c ∷ 0x78 ∷ digit_of (b / 16) ∷ digit_of (b % 16) ∷ []) ++ rest)) is ∙ field-plain b rest is
  either false is =
      let whole : 16 * (b / 16) + b % 16 ≡ b = omega arith in
      ap (λ p. field_of (cond p (b ∷ []) (0x5c ∷ 0x78 ∷ digit_of (b / 16) ∷ digit_of (b % 16) ∷ []) ++ rest)) is
      ∙ field-digits (b / 16) (b % 16) rest (omega arith) (omega arith) ∙ ap (λ n. before (Some n) (field_of rest)) whole

pub field-escaped : (bytes : List ℕ) → AreBytes bytes → field_of (escaped bytes) ≡ Some bytes
field-escaped [] are = refl
field-escaped (b ∷ bs) are = field-escape b (escaped bs) are.0 ∙ ap (before (Some b)) (field-escaped bs are.1)

-- the bytes of an escape are printable, and so are those of a list in front of printable ones
escape-printable : (b : ℕ) (rest : List ℕ) → b < 256 → ArePrintable rest → ArePrintable (escape b ++ rest)
escape-printable b rest h are = either (is_plain b) refl where
  digit-printable : (n : ℕ) → n < 16 → (0x21 ≤ digit_of n) × (digit_of n ≤ 0x7e)
  digit-printable n k = (grind (arith, nat_tests), grind (arith, nat_tests))

  either : (plain : Bool) → is_plain b ≡ plain → ArePrintable (escape b ++ rest)
  either true is = rw is ((grind (arith, nat_tests), grind (arith, nat_tests)), are)
  either false is = rw is ((lit≤ tt, lit≤ tt), ((lit≤ tt, lit≤ tt), (digit-printable (b / 16) (omega arith), (digit-printable (b % 16) (omega arith), are))))

pub escaped-printable : (bytes : List ℕ) → AreBytes bytes → ArePrintable (escaped bytes)
escaped-printable [] are = tt
escaped-printable (b ∷ bs) are = escape-printable b (escaped bs) are.0 (escaped-printable bs are.1)

-- printable bytes have no mark below 33
pub cut_at-printable : (m : ℕ) (bs : List ℕ) → m < 33 → ArePrintable bs → cut_at m bs ≡ None
cut_at-printable m [] h are = refl
cut_at-printable m (b ∷ bs) h are =
    let other : nat_eq b m ≡ false = grind (arith, nat_tests, are.0.0) in
    ap (λ p. cond p (Some ([], bs)) (with_first b (cut_at m bs))) other ∙ ap (with_first b) (cut_at-printable m bs h are.1)

pub fields-written : (a b : List ℕ) → AreBytes a → AreBytes b → two_fields (escaped a ++ 9 ∷ escaped b) ≡ Some (a, b)
fields-written a b h k =
    ap fields_of (cut_at-mark 9 (escaped a) (escaped b) (cut_at-printable 9 (escaped a) (lit< tt) (escaped-printable a h)))
    ∙ ap (λ f. option_zip f (field_of (escaped b))) (field-escaped a h) ∙ ap (option_zip (Some a)) (field-escaped b k)

-- a line ends at the first LF
pub lines-feed : (text rest : List ℕ) → cut_at 10 text ≡ None → lines_of (text ++ 10 ∷ rest) ≡ text ∷ lines_of rest
lines-feed text rest h = lines_of-cut (text ++ 10 ∷ rest) text rest (cut_at-mark 10 text rest h)

pub no-feed : (bs : List ℕ) → AreBytes bs → cut_at 10 (escaped bs) ≡ None
no-feed bs are = cut_at-printable 10 (escaped bs) (lit< tt) (escaped-printable bs are)

-- a line that was written, before other lines
pub lines-line : (text rest : List ℕ) → cut_at 10 text ≡ None → lines_of (line text ++ rest) ≡ text ∷ lines_of rest
lines-line text rest h = ap lines_of (append_assoc text (10 ∷ []) rest) ∙ lines-feed text rest h
