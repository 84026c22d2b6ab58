-- Compilers that are equal by the derived `==` have the same fields.
use Rattle.std.proofs.Common.{◌≡◌, true, false, Bool, ◌&&◌, Option, None, Some, String, Global, refl, ap}
use mathlib.Core.Bool.{beq}
use Rattle.std.specs.Prelude.{string_bytes}
use Rattle.std.specs.Option.{option_eq, option_map}
use Rattle.std.specs.String.{string_eq}
use Rattle.std.proofs.lemmas.Bool.{and_parts}
use Rattle.std.proofs.lemmas.Slice.Eq.{bytes_eq-Decides}
use Rattle.scl_msvc.specs.contracts.msvc.compiler.MsvcPartialEq.TheImpl.{ghosts}
use Rattle.scl_msvc.specs.declared.msvc.compiler.Msvc.{Msvc}

abbrev Text : Type 0
Text = String Global

texts-same : (x y : Text) → string_eq x y ≡ true → string_bytes x ≡ string_bytes y
texts-same x y e = (bytes_eq-Decides (string_bytes x) (string_bytes y)).0 e

marks-same : (x y : Bool) → beq x y ≡ true → x ≡ y
marks-same true true e = refl
marks-same true false e = absurd (cc)
marks-same false true e = absurd (cc)
marks-same false false e = refl

maybe-same : (x y : Option Text) → option_eq string_eq x y ≡ true → option_map string_bytes x ≡ option_map string_bytes y
maybe-same None None e = refl
maybe-same None (Some y) e = absurd (cc)
maybe-same (Some x) None e = absurd (cc)
maybe-same (Some x) (Some y) e = ap (λ bytes. Some bytes) (texts-same x y e)

module _ (a b : Msvc) (e : ghosts.eq a b ≡ true) where
  parts : (string_eq a.includes_prefix b.includes_prefix ≡ true) × ((beq a.is_clang b.is_clang && option_eq string_eq a.version b.version) ≡ true)
  parts = and_parts (string_eq a.includes_prefix b.includes_prefix) (beq a.is_clang b.is_clang && option_eq string_eq a.version b.version) e

  others : (beq a.is_clang b.is_clang ≡ true) × (option_eq string_eq a.version b.version ≡ true)
  others = and_parts (beq a.is_clang b.is_clang) (option_eq string_eq a.version b.version) parts.1

  pub prefixes : string_bytes a.includes_prefix ≡ string_bytes b.includes_prefix
  prefixes = texts-same a.includes_prefix b.includes_prefix parts.0

  pub clangs : a.is_clang ≡ b.is_clang
  clangs = marks-same a.is_clang b.is_clang others.0

  pub versions : option_map string_bytes a.version ≡ option_map string_bytes b.version
  versions = maybe-same a.version b.version others.1
