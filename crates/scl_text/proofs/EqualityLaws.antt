-- Records that are equal by the derived `==` have the same fields.
use Rattle.std.proofs.Common.{rules, ◌≡◌, ℕ, true, false, Bool, ◌&&◌, List, [], ◌∷◌, Option, None, Some, Vec, String, Global, map, refl, ap}
use mathlib.Core.Bool.{beq}
use Rattle.std.specs.Prelude.{nat_eq, string_bytes}
use Rattle.std.specs.String.{string_eq}
use Rattle.std.specs.Cmp.Lexicographic.{pointwise}
use Rattle.std.specs.Option.{option_eq}
use Rattle.std.proofs.lemmas.Bool.{and_parts}
use Rattle.std.proofs.lemmas.Slice.Eq.{bytes_eq-Decides}
use Rattle.scl_values.specs.Words.{words_of}
use Rattle.scl_text.specs.Records.{artifact_of, parsed_of, path_of}
use Rattle.scl_text.specs.contracts.language.LanguagePartialEq.TheImpl as languages
use Rattle.scl_text.specs.contracts.records.ColorModePartialEq.TheImpl as colors
use Rattle.scl_text.specs.contracts.records.ParsedArgumentsPartialEq.TheImpl as records
use Rattle.scl_text.specs.declared.language.Language.{Language}
use Rattle.scl_text.specs.declared.records.ArtifactDescriptor.{ArtifactDescriptor}
use Rattle.scl_text.specs.declared.records.ColorMode.{ColorMode}
use Rattle.scl_text.specs.declared.records.ParsedArguments.{ParsedArguments}

abbrev Word : Type 0
Word = Vec ℕ Global

abbrev word_eq : Word → Word → Bool
word_eq x y = pointwise nat_eq x.items y.items

bytes-same : (xs ys : List ℕ) → pointwise nat_eq xs ys ≡ true → xs ≡ ys
bytes-same xs ys e = (bytes_eq-Decides xs ys).0 e

words-same : (xs ys : List Word) → pointwise word_eq xs ys ≡ true → words_of xs ≡ words_of ys
words-same [] [] e = refl
words-same [] (y ∷ ys) e = absurd (cc)
words-same (x ∷ xs) [] e = absurd (cc)
words-same (x ∷ xs) (y ∷ ys) e =
    let parts = and_parts (word_eq x y) (pointwise word_eq xs ys) e in
    let first : x.items ≡ y.items = bytes-same x.items y.items parts.0 in
    let rest : words_of xs ≡ words_of ys = words-same xs ys parts.1 in
    (cc)

paths-same : (x y : Option Word) → option_eq word_eq x y ≡ true → path_of x ≡ path_of y
paths-same None None e = refl
paths-same None (Some y) e = absurd (cc)
paths-same (Some x) None e = absurd (cc)
paths-same (Some x) (Some y) e = ap (λ bytes. Some bytes) (bytes-same x.items y.items e)

marks-same : (x y : Bool) → beq x y ≡ true → x ≡ y
marks-same true true e = refl
marks-same true false e = absurd (cc)
marks-same false true e = absurd (cc)
marks-same false false e = refl

languages-same : (x y : Language) → languages.ghosts.eq x y ≡ true → x ≡ y
languages-same = search rules

colors-same : (x y : ColorMode) → colors.ghosts.eq x y ≡ true → x ≡ y
colors-same = search rules

-- an output of a map: its name, its path, and whether it may be missing
abbrev Output : Type 0
Output = String Global × ArtifactDescriptor

abbrev output_eq : Output → Output → Bool
output_eq x y = string_eq x.0 y.0 && (word_eq x.1.path y.1.path && beq x.1.optional y.1.optional)

outputs-same : (xs ys : List Output) → pointwise output_eq xs ys ≡ true → map artifact_of xs ≡ map artifact_of ys
outputs-same [] [] e = refl
outputs-same [] (y ∷ ys) e = absurd (cc)
outputs-same (x ∷ xs) [] e = absurd (cc)
outputs-same (x ∷ xs) (y ∷ ys) e =
    let parts = and_parts (output_eq x y) (pointwise output_eq xs ys) e in
    let named = and_parts (string_eq x.0 y.0) (word_eq x.1.path y.1.path && beq x.1.optional y.1.optional) parts.0 in
    let held = and_parts (word_eq x.1.path y.1.path) (beq x.1.optional y.1.optional) named.1 in
    let name : string_bytes x.0 ≡ string_bytes y.0 = bytes-same (string_bytes x.0) (string_bytes y.0) named.0 in
    let path : x.1.path.items ≡ y.1.path.items = bytes-same x.1.path.items y.1.path.items held.0 in
    let optional : x.1.optional ≡ y.1.optional = marks-same x.1.optional y.1.optional held.1 in
    let rest : map artifact_of xs ≡ map artifact_of ys = outputs-same xs ys parts.1 in
    (cc)

pub records_same : (a b : ParsedArguments) → records.ghosts.eq a b ≡ true → parsed_of a ≡ parsed_of b
records_same a b e =
    let all : (
    word_eq a.input b.input
    && (beq a.double_dash_input b.double_dash_input
    && (languages.ghosts.eq a.language b.language
    && (word_eq a.compilation_flag b.compilation_flag
    && (option_eq word_eq a.depfile b.depfile
    && (pointwise output_eq a.outputs.entries b.outputs.entries
    && (pointwise word_eq a.dependency_args.items b.dependency_args.items
    && (pointwise word_eq a.preprocessor_args.items b.preprocessor_args.items
    && (pointwise word_eq a.common_args.items b.common_args.items
    && (pointwise word_eq a.arch_args.items b.arch_args.items
    && (pointwise word_eq a.unhashed_args.items b.unhashed_args.items
    && (pointwise word_eq a.extra_dist_files.items b.extra_dist_files.items
    && (pointwise word_eq a.extra_hash_files.items b.extra_hash_files.items
    && (beq a.uses_external_assembler b.uses_external_assembler
    && (beq a.msvc_show_includes b.msvc_show_includes
    && (beq a.msvc_explicit_language b.msvc_explicit_language
    && (beq a.profile_generate b.profile_generate
    && (colors.ghosts.eq a.color_mode b.color_mode
    && (beq a.suppress_rewrite_includes_only b.suppress_rewrite_includes_only
    && (option_eq word_eq a.too_hard_for_preprocessor_cache_mode b.too_hard_for_preprocessor_cache_mode)))))))))))))))))))
    ) ≡ true = e in
    let p0 = and_parts (word_eq a.input b.input) _ all in
    let p1 = and_parts (beq a.double_dash_input b.double_dash_input) _ p0.1 in
    let p2 = and_parts (languages.ghosts.eq a.language b.language) _ p1.1 in
    let p3 = and_parts (word_eq a.compilation_flag b.compilation_flag) _ p2.1 in
    let p4 = and_parts (option_eq word_eq a.depfile b.depfile) _ p3.1 in
    let p5 = and_parts (pointwise output_eq a.outputs.entries b.outputs.entries) _ p4.1 in
    let p6 = and_parts (pointwise word_eq a.dependency_args.items b.dependency_args.items) _ p5.1 in
    let p7 = and_parts (pointwise word_eq a.preprocessor_args.items b.preprocessor_args.items) _ p6.1 in
    let p8 = and_parts (pointwise word_eq a.common_args.items b.common_args.items) _ p7.1 in
    let p9 = and_parts (pointwise word_eq a.arch_args.items b.arch_args.items) _ p8.1 in
    let p10 = and_parts (pointwise word_eq a.unhashed_args.items b.unhashed_args.items) _ p9.1 in
    let p11 = and_parts (pointwise word_eq a.extra_dist_files.items b.extra_dist_files.items) _ p10.1 in
    let p12 = and_parts (pointwise word_eq a.extra_hash_files.items b.extra_hash_files.items) _ p11.1 in
    let p13 = and_parts (beq a.uses_external_assembler b.uses_external_assembler) _ p12.1 in
    let p14 = and_parts (beq a.msvc_show_includes b.msvc_show_includes) _ p13.1 in
    let p15 = and_parts (beq a.msvc_explicit_language b.msvc_explicit_language) _ p14.1 in
    let p16 = and_parts (beq a.profile_generate b.profile_generate) _ p15.1 in
    let p17 = and_parts (colors.ghosts.eq a.color_mode b.color_mode) _ p16.1 in
    let p18 = and_parts (beq a.suppress_rewrite_includes_only b.suppress_rewrite_includes_only) _ p17.1 in
    let same0 : a.input.items ≡ b.input.items = bytes-same a.input.items b.input.items p0.0 in
    let same1 : a.double_dash_input ≡ b.double_dash_input = marks-same a.double_dash_input b.double_dash_input p1.0 in
    let same2 : a.language ≡ b.language = languages-same a.language b.language p2.0 in
    let same3 : a.compilation_flag.items ≡ b.compilation_flag.items = bytes-same a.compilation_flag.items b.compilation_flag.items p3.0 in
    let same4 : path_of a.depfile ≡ path_of b.depfile = paths-same a.depfile b.depfile p4.0 in
    let same5 : map artifact_of a.outputs.entries ≡ map artifact_of b.outputs.entries = outputs-same a.outputs.entries b.outputs.entries p5.0 in
    let same6 : words_of a.dependency_args.items ≡ words_of b.dependency_args.items = words-same a.dependency_args.items b.dependency_args.items p6.0 in
    let same7 : words_of a.preprocessor_args.items ≡ words_of b.preprocessor_args.items = words-same a.preprocessor_args.items b.preprocessor_args.items p7.0 in
    let same8 : words_of a.common_args.items ≡ words_of b.common_args.items = words-same a.common_args.items b.common_args.items p8.0 in
    let same9 : words_of a.arch_args.items ≡ words_of b.arch_args.items = words-same a.arch_args.items b.arch_args.items p9.0 in
    let same10 : words_of a.unhashed_args.items ≡ words_of b.unhashed_args.items = words-same a.unhashed_args.items b.unhashed_args.items p10.0 in
    let same11 : words_of a.extra_dist_files.items ≡ words_of b.extra_dist_files.items = words-same a.extra_dist_files.items b.extra_dist_files.items p11.0 in
    let same12 : words_of a.extra_hash_files.items ≡ words_of b.extra_hash_files.items = words-same a.extra_hash_files.items b.extra_hash_files.items p12.0 in
    let same13 : a.uses_external_assembler ≡ b.uses_external_assembler = marks-same a.uses_external_assembler b.uses_external_assembler p13.0 in
    let same14 : a.msvc_show_includes ≡ b.msvc_show_includes = marks-same a.msvc_show_includes b.msvc_show_includes p14.0 in
    let same15 : a.msvc_explicit_language ≡ b.msvc_explicit_language = marks-same a.msvc_explicit_language b.msvc_explicit_language p15.0 in
    let same16 : a.profile_generate ≡ b.profile_generate = marks-same a.profile_generate b.profile_generate p16.0 in
    let same17 : a.color_mode ≡ b.color_mode = colors-same a.color_mode b.color_mode p17.0 in
    let same18 : a.suppress_rewrite_includes_only ≡ b.suppress_rewrite_includes_only = marks-same a.suppress_rewrite_includes_only b.suppress_rewrite_includes_only p18.0 in
    let same19 : path_of a.too_hard_for_preprocessor_cache_mode ≡ path_of b.too_hard_for_preprocessor_cache_mode = paths-same a.too_hard_for_preprocessor_cache_mode b.too_hard_for_preprocessor_cache_mode p18.1 in
    (cc)
