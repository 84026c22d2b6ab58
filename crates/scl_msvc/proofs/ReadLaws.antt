-- The outcome of a reading with the words of the environment is that of the words.
use Rattle.std.proofs.Common.{◌≡◌, ℕ, Bool, List, ◌++◌, Result, Ok, Err, refl, ap, sym, ◌∙◌}
use Rattle.scl_args.specs.Options.{◌>>=◌}
use Rattle.scl_files.specs.Views.{Viewed}
use Rattle.scl_msvc_reading.proofs.ReadLaws.{outcome_read}
use Rattle.scl_msvc_reading.specs.Readings.{reading}
use Rattle.scl_text.specs.Records.{Verdict}
use Rattle.scl_msvc.specs.Environment.{surrounded, surrounded_reading, surroundings}
use Rattle.scl_msvc.specs.Reads.{ats_between, read_by_both, surrounded_read, words_between}
use Rattle.scl_msvc.proofs.EnvironmentLemmas.{surrounded_by_both, surrounded_stops}

module _ (is_clang : Bool) (directory : List ℕ) (pairs : List (List ℕ × List ℕ)) (view : Viewed) (words : List (List ℕ)) where
  by-both : (r : Result (List (List ℕ) × List (List ℕ)) Verdict) → surroundings pairs ≡ r
      → (read_by_both is_clang directory view words r).outcome ≡ (surrounded pairs words >>= reading is_clang directory view)
  by-both (Ok both) e =
      outcome_read is_clang directory view (both.0 ++ both.1) (words_between words both) (ats_between words both)
      ∙ ap (λ s. s >>= reading is_clang directory view) (sym (surrounded_by_both pairs words both.0 both.1 e))
  by-both (Err broken) e = ap (λ s. s >>= reading is_clang directory view) (sym (surrounded_stops pairs words broken e))

  pub surrounded-says : (surrounded_read is_clang directory pairs view words).outcome ≡ surrounded_reading is_clang directory pairs view words
  surrounded-says = by-both (surroundings pairs) refl

  by-either : (r : Result (List (List ℕ) × List (List ℕ)) Verdict) → (read_by_both is_clang directory view words r).is_clang ≡ is_clang
  by-either (Ok both) = refl
  by-either (Err broken) = refl

  pub surrounded-by : (surrounded_read is_clang directory pairs view words).is_clang ≡ is_clang
  surrounded-by = by-either (surroundings pairs)
