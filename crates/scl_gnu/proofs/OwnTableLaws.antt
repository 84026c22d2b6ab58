-- Commands by a caller's own tables are read again, if the tables satisfy the conditions of the builder's own words.
use Rattle.std.proofs.Common.{◌≡◌, ℕ, Bool, true, List, [], ◌∷◌, ◌++◌, map, None, Some, refl, ◌⊎◌, inr, arith}
use Rattle.std.proofs.lemmas.Bool.{and_parts}
use Rattle.std.proofs.lemmas.List.{append-nil}
use Rattle.std.specs.List.{list_all}
use Rattle.std.specs.Prelude.{codes}
use Rattle.scl_values.specs.Each.{Each}
use Rattle.scl_args.specs.Options.{side_of_flag, texts}
use Rattle.scl_values.specs.Row.{Row, row, apart, joined, either}
use Rattle.scl_values.specs.Seen.{shown}
use Rattle.scl_values.specs.Tables.{owner_in, all_rows}
use Rattle.scl_args.proofs.OwnerLaws.{owner_in-is}
use Rattle.scl_args.specs.Checks.{PassChecks, is_changing, is_joining, has_no_kept, keeps_flags, joins_safely}
use Rattle.scl_args.specs.Commands.{IsReadAgain}
use Rattle.scl_args.specs.Origins.{IsClear}
use Rattle.scl_args.specs.OwnWords.{is_one_of, is_owned}
use Rattle.scl_args.specs.Promises.{inner_of, said_by}
use Rattle.scl_args.proofs.FreshLaws.{fresh-either}
use Rattle.scl_args.proofs.OriginLaws.{has_row}
use Rattle.scl_args.proofs.OwnWordLaws.{one-of, one-of-two, unmarked, either-way}
use Rattle.scl_args.proofs.ReadsLaws.{reads-apart, reads-joined}
use Rattle.scl_text.proofs.CompilerLaws.{command-kept}
use Rattle.scl_files.specs.Expand.{expand}
use Rattle.scl_files.specs.Views.{Viewed}
use Rattle.scl_files.specs.declared.expand.ExpansionKind.TheVariants as expansions
use Rattle.scl_text.specs.JudgedWords.{options_of}
use Rattle.scl_gnu_reading.specs.contracts.gcc.data.KindPartialEq.TheImpl as kinds
use Rattle.scl_gnu_reading.specs.declared.gcc.data.Kind.{Kind}
use Rattle.scl_gnu_reading.specs.declared.gcc.data.Kind.TheVariants as kind
use Rattle.scl_gnu_reading.specs.Again.{carried}
use Rattle.scl_gnu_reading.specs.ClangRows.{clang_tables}
use Rattle.scl_gnu_reading.specs.Kinds.{of}
use Rattle.scl_gnu_reading.specs.Readings.{reading}
use Rattle.scl_gnu_reading.specs.Recordings.{is_clang}
use Rattle.scl_gnu.specs.Building.{command_words}
use Rattle.scl_gnu.specs.OwnTables.{own_words, keep_own_words, compiles_bare, targets_apart, targets_otherwise, OwnCommandsAreReadAgain}
use Rattle.scl_gnu.specs.ReadAgain.{inner_options_of, behind_xclang, line_of, parts}
use Rattle.scl_gnu.proofs.OwnWordsLaws.{OwnWords, AreInners, xclang}
use Rattle.scl_gnu.proofs.ReadAgainLaws.{commands-again}

same-kind : (a b : Kind) → kinds.ghosts.eq a b ≡ true → a ≡ b
same-kind a b e = grind arith

-- the conditions one by one
pub record Keeps (tables : List (List (Row Kind))) : Type 0 where
  pub language : owner_in tables (codes "-x") ≡ Some (row (codes "-x") kind.Language (either None))
  pub output : owner_in tables (codes "-o") ≡ Some (row (codes "-o") kind.Output (either None))
  pub color : owner_in tables (codes "-fdiagnostics-color=always") ≡ Some (row (codes "-fdiagnostics-color") kind.DiagnosticsColor (joined (Some 61)))
  pub define : owner_in tables (codes "-D") ≡ Some (row (codes "-D") kind.PassThrough (either None))
  pub depfile : (owner_in tables (codes "-MF") ≡ Some (row (codes "-MF") kind.DepArgumentPath apart)) ⊎ (owner_in tables (codes "-MF") ≡ Some (row (codes "-MF") kind.DepArgumentPath (either None)))
  pub target : (owner_in tables (codes "-MT") ≡ Some (row (codes "-MT") kind.DepTarget apart)) ⊎ (owner_in tables (codes "-MT") ≡ Some (row (codes "-MT") kind.DepTarget (either None)))
  pub wrapper : owner_in tables xclang ≡ Some (row xclang kind.XClang apart)
  pub pass : PassChecks tables carried side_of_flag
  pub compile_flags : list_all compiles_bare (all_rows tables) ≡ true
  pub target_flags : list_all targets_apart (all_rows tables) ≡ true
  pub other_flags : list_all targets_otherwise (all_rows tables) ≡ true
  pub alone : has_no_kept carried xclang (all_rows tables) ≡ true

pub own-tables-keep : (tables : List (List (Row Kind))) → keep_own_words tables ≡ true → Keeps tables
own-tables-keep tables h =
    let all = all_rows tables in
    let owned : List ℕ → List (Row Kind) → Bool = λ word rows. is_one_of kinds.ghosts.eq (owner_in tables word) rows in
    let words = and_parts (list_all (is_owned kinds.ghosts.eq tables) own_words) _ h in
    let first = and_parts (keeps_flags (is_changing carried) all) _ words.1 in
    let second = and_parts (joins_safely (is_joining side_of_flag) all all) _ first.1 in
    let compiles = and_parts (list_all compiles_bare all) _ second.1 in
    let targets = and_parts (list_all targets_apart all) _ compiles.1 in
    let others = and_parts (list_all targets_otherwise all) (has_no_kept carried xclang all) targets.1 in
    let w1 = and_parts (owned (codes "-x") _) _ words.0 in
    let w2 = and_parts (owned (codes "-o") _) _ w1.1 in
    let w3 = and_parts (owned (codes "-fdiagnostics-color=always") _) _ w2.1 in
    let w4 = and_parts (owned (codes "-D") _) _ w3.1 in
    let w5 = and_parts (owned (codes "-MF") _) _ w4.1 in
    let w6 = and_parts (owned (codes "-MT") _) _ w5.1 in
    let w7 = and_parts (owned xclang _) true w6.1 in
    record {
      language = one-of kinds.ghosts.eq same-kind _ _ w1.0;
      output = one-of kinds.ghosts.eq same-kind _ _ w2.0;
      color = one-of kinds.ghosts.eq same-kind _ _ w3.0;
      define = one-of kinds.ghosts.eq same-kind _ _ w4.0;
      depfile = one-of-two kinds.ghosts.eq same-kind _ _ _ w5.0;
      target = one-of-two kinds.ghosts.eq same-kind _ _ _ w6.0;
      wrapper = one-of kinds.ghosts.eq same-kind _ _ w7.0;
      pass = record { keeps = first.0; safe = second.0 };
      compile_flags = compiles.0;
      target_flags = targets.0;
      other_flags = others.0;
      alone = others.1;
    }

-- ---- what the laws of commands need

pub own-words : (tables : List (List (Row Kind))) (dashes : Bool) → Keeps tables → OwnWords tables dashes
own-words tables dashes k =
    let all = all_rows tables in
    record {
      pass = k.pass;
      language = λ text. either-way tables dashes (codes "-x") kind.Language text refl (inr k.language);
      output = λ object. either-way tables dashes (codes "-o") kind.Output object refl (inr k.output);
      color = reads-joined (owner_in tables) dashes (row (codes "-fdiagnostics-color") kind.DiagnosticsColor (joined (Some 61))) (Some 61) (codes "always") refl
          (record { is = k.color; no_mark = unmarked dashes (codes "-fdiagnostics-color=always") refl });
      define = λ path. fresh-either (owner_in tables) dashes all (owner_in-is tables) (is_changing carried) (is_joining side_of_flag) k.pass.keeps k.pass.safe (row (codes "-D") kind.PassThrough (either None))
          (has_row (owner_in tables) dashes all (owner_in-is tables) (row (codes "-D") kind.PassThrough (either None)) (codes "-D") (record { is = k.define; no_mark = unmarked dashes (codes "-D") refl }))
          refl refl refl 95 (codes "gsplit_dwarf_path=" ++ path);
      depfile = λ path. either-way tables dashes (codes "-MF") kind.DepArgumentPath path refl k.depfile;
      target = λ path. either-way tables dashes (codes "-MT") kind.DepTarget path refl k.target;
      compile_flags = k.compile_flags;
      target_flags = k.target_flags;
      other_flags = k.other_flags;
    }

pub handed-on : (tables : List (List (Row Kind))) (dashes : Bool) → Keeps tables → (directory : List ℕ) (view : Viewed) (words : List (List ℕ)) →
    let inner = inner_options_of directory view (map shown (options_of expansions.Gnu tables dashes directory view words)) in
    Each IsClear inner → AreInners tables dashes (map shown inner) (map inner_of (behind_xclang inner ∷ []))
handed-on tables dashes k directory view words clear =
    let os = map shown (options_of expansions.Gnu tables dashes directory view words) in
    record {
      are = (
        record {
          clear = record { words = expand expansions.Gnu directory view.files (texts (of (kind.XClang ∷ [])) os); are = refl; clear = clear };
          wraps = λ w. reads-apart (owner_in tables) dashes (row xclang kind.XClang apart) w refl (record { is = k.wrapper; no_mark = unmarked dashes xclang refl });
          alone = k.alone;
        },
        tt,
      );
      own_flags = (tt, tt);
      flags = (refl, tt);
      words_are = λ there. append-nil _;
    }

-- ---- the law

pub commands_kept : OwnCommandsAreReadAgain
commands_kept compiler tables text h plusplus directory view words =
    let k = own-tables-keep tables h in
    let line = line_of tables (is_clang compiler) (λ inner. behind_xclang inner ∷ []) directory view words in
    command-kept (λ p. command_words (text p.language) p)
    (λ p object built. IsReadAgain tables (is_clang compiler) clang_tables (said_by line) (parts (text p.language) (map shown line.options) p object) built)
    (reading compiler plusplus tables directory view words)
    (λ p object e o. commands-again compiler tables (own-words tables (is_clang compiler) k) text (λ inner. behind_xclang inner ∷ []) (handed-on tables (is_clang compiler) k) plusplus directory view words p object e o)
