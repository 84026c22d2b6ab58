-- A text, written one character after another.
use Rattle.std.proofs.Common.{◌≡◌, ◌<◌, ℕ, Bool, true, false, cond, refl, List, [], ◌∷◌, ◌++◌, length, ap, sym, ◌∙◌, arith, append_assoc, append-nil}
use Rattle.std.proofs.lemmas.Str.{chars_past_char, IsUtf8-past_char, chars-nil, encode_ascii}
use Rattle.std.specs.Char.{encode_utf8}
use Rattle.std.specs.List.{flat_map}
use Rattle.std.specs.Str.{chars, IsUtf8}
use Rattle.scl_json.specs.Texts.{char_text, is_mark, is_plain, number_escape}
use Rattle.scl_shell.proofs.ShownLaws.{seen_ascii}
use Rattle.scl_shell.specs.Quoted.{between}
use Rattle.scl_shell.specs.Shown.{is_hidden}

pub char-step : (json more total bs rest : List ℕ) (c : ℕ) → IsUtf8 bs → bs ≡ encode_utf8 c ++ rest → json ++ flat_map char_text (chars bs) ≡ total
    → more ≡ json ++ char_text c → IsUtf8 rest × (more ++ flat_map char_text (chars rest) ≡ total)
char-step json more total bs rest c u e h m = (
  IsUtf8-past_char bs rest c u e,
  ap (λ bytes. bytes ++ flat_map char_text (chars rest)) m ∙ append_assoc json (char_text c) (flat_map char_text (chars rest))
      ∙ ap (λ cs. json ++ flat_map char_text cs) (sym (chars_past_char bs rest c u e)) ∙ h,
)

pub char-end : (json total bs : List ℕ) → length bs ≡ 0 → json ++ flat_map char_text (chars bs) ≡ total → json ≡ total
char-end json total [] n e = sym (append-nil json) ∙ ap (λ cs. json ++ flat_map char_text cs) (sym chars-nil) ∙ e
char-end json total (b ∷ bs) n e = absurd (omega arith)

pub ruleset chars_rules = (char-step, char-end)

-- ---- characters of ASCII that stand for themselves

pub plain-number : (c : ℕ) → is_plain c ≡ true → c < 128
plain-number c p = grind arith

pub plain-between : (c : ℕ) → is_plain c ≡ true → between 32 c 126 ≡ true
plain-between c p = grind arith

plain-seen : (c : ℕ) → is_plain c ≡ true → is_hidden c ≡ false
plain-seen c p = seen_ascii c (plain-between c p)

pub plain-mark : (c : ℕ) → is_plain c ≡ true → is_mark c ≡ false
plain-mark c p = grind arith

text-as : (c : ℕ) (hidden mark : Bool) → hidden ≡ false → mark ≡ false → cond hidden (number_escape c) (cond mark (92 ∷ encode_utf8 c) (encode_utf8 c)) ≡ encode_utf8 c
text-as c true mark h m = cc
text-as c false true h m = cc
text-as c false false h m = refl

pub plain-text : (c : ℕ) → is_plain c ≡ true → char_text c ≡ c ∷ []
plain-text c p = text-as c (is_hidden c) (is_mark c) (plain-seen c p) (plain-mark c p) ∙ encode_ascii c (plain-number c p)

-- it is one byte
pub plain-byte : (c : ℕ) → is_plain c ≡ true → c < 256
plain-byte c p = grind arith

pub ruleset plain_rules = (plain-text, plain-byte)
