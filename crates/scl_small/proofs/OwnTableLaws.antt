-- What follows if tables satisfy the conditions of a builder's own words.
use Rattle.std.proofs.Common.{◌≡◌, ℕ, Bool, true, false, ◌&&◌, List, [], ◌∷◌, None}
use Rattle.std.proofs.lemmas.Bool.{and_parts}
use Rattle.std.specs.List.{list_all}
use Rattle.std.specs.Str.{bytes_eq}
use Rattle.scl_values.specs.Cuts.{mark}
use Rattle.scl_values.specs.Row.{Row, row, apart, either}
use Rattle.scl_values.specs.Seen as plain
use Rattle.scl_values.specs.Tables.{owner_in, all_rows}
use Rattle.scl_args.specs.Options.{side_of_flag}
use Rattle.scl_args.specs.Checks.{PassChecks, is_changing, is_joining, keeps_flags, joins_safely}
use Rattle.scl_args.specs.OwnWords.{OwnWord, apart_or_either, is_owned}
use Rattle.scl_args.specs.Reads.{Reads}
use Rattle.scl_args.proofs.OwnWordLaws.{one-of-two, either-way}
use Rattle.scl_small.specs.OwnTables.{keep_words}
use Rattle.scl_small.specs.ReadAgain.{every_kind}

module _ {K : Type 0} (is_kind : K → K → Bool) where
  module _ (own : List (OwnWord K)) (tables : List (List (Row K))) (keep : keep_words is_kind own tables ≡ true) where
    kept : (list_all (is_owned is_kind tables) own ≡ true) × ((keeps_flags (is_changing every_kind) (all_rows tables) && joins_safely (is_joining side_of_flag) (all_rows tables) (all_rows tables)) ≡ true)
    kept = and_parts (list_all (is_owned is_kind tables) own) (keeps_flags (is_changing every_kind) (all_rows tables) && joins_safely (is_joining side_of_flag) (all_rows tables) (all_rows tables)) keep

    pub words-owned : list_all (is_owned is_kind tables) own ≡ true
    words-owned = kept.0

    pub words-pass : PassChecks tables every_kind side_of_flag
    words-pass =
        let checks = and_parts (keeps_flags (is_changing every_kind) (all_rows tables)) (joins_safely (is_joining side_of_flag) (all_rows tables) (all_rows tables)) kept.1 in
        record { keeps = checks.0; safe = checks.1 }

  pub output-read : ((a b : K) → is_kind a b ≡ true → a ≡ b) → (tables : List (List (Row K))) (flag : List ℕ) (k : K) (object : List ℕ) → bytes_eq flag mark ≡ false →
      is_owned is_kind tables (apart_or_either flag k) ≡ true → Reads (owner_in tables) false (flag ∷ object ∷ []) (plain.value flag k object ∷ [])
  output-read same-kind tables flag k object m owned =
      either-way tables false flag k object m (one-of-two is_kind same-kind (owner_in tables flag) (row flag k apart) (row flag k (either None)) owned)
