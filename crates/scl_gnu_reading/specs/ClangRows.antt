-- Clang's table; Clang's words are looked up in Gcc's table as well.
use Rattle.std.specs.Prelude.{List, [], ◌∷◌, codes}
use Rattle.scl_values.specs.Row.{Row, row, bare}
use Rattle.scl_values.specs.Shapes.{APART, JOINED, JOINED_DASH, JOINED_EQUALS, EITHER, EITHER_EQUALS}
use Rattle.scl_gnu_reading.specs.declared.gcc.data.Kind.{Kind}
use Rattle.scl_gnu_reading.specs.declared.gcc.data.Kind.TheVariants as kind
use Rattle.scl_gnu_reading.specs.GccRows.{gcc_rows}

-- the rows of Clang's table
unfoldable pub clang_rows : List (Row Kind)
clang_rows =
    row (codes "--analyze") kind.TooHardFlag bare ∷
    row (codes "--analyzer-output") kind.TooHard APART ∷
    row (codes "--config") kind.TooHard EITHER_EQUALS ∷
    row (codes "--dependent-lib") kind.PassThrough JOINED_EQUALS ∷
    row (codes "--embed-dir") kind.TooHard JOINED_EQUALS ∷
    row (codes "--extract-api-ignores") kind.ExtraHashFile JOINED_EQUALS ∷
    row (codes "--hip-device-lib-path") kind.PassThroughPath JOINED_EQUALS ∷
    row (codes "--hip-path") kind.PassThroughPath JOINED_EQUALS ∷
    row (codes "--precompile") kind.ModuleOnlyFlag bare ∷
    row (codes "--precompile-reduced-bmi") kind.ModuleOnlyFlag bare ∷
    row (codes "--rocm-path") kind.PassThroughPath JOINED_EQUALS ∷
    row (codes "--save-stats") kind.TooHard JOINED_EQUALS ∷
    row (codes "--serialize-diagnostics") kind.PassThrough APART ∷
    row (codes "--symbol-graph-dir") kind.TooHard JOINED_EQUALS ∷
    row (codes "--target") kind.PassThrough APART ∷
    row (codes "--vfsoverlay") kind.PreprocessorArgumentPath EITHER ∷
    row (codes "--warning-suppression-mappings") kind.ExtraHashFile JOINED_EQUALS ∷
    row (codes "-MF") kind.DepArgumentPath EITHER ∷
    row (codes "-MJ") kind.TooHard EITHER ∷
    row (codes "-MQ") kind.DepTarget EITHER ∷
    row (codes "-MT") kind.DepTarget EITHER ∷
    row (codes "-Wno-unknown-cuda-version") kind.PassThroughFlag bare ∷
    row (codes "-Wno-unused-parameter") kind.PassThroughFlag bare ∷
    row (codes "-Xclang") kind.XClang APART ∷
    row (codes "-add-plugin") kind.PassThrough APART ∷
    row (codes "-debug-info-kind") kind.PassThrough JOINED_EQUALS ∷
    row (codes "-dependency-dot") kind.TooHard APART ∷
    row (codes "-dependency-file") kind.DepArgumentPath APART ∷
    row (codes "-dsym-dir") kind.TooHard EITHER ∷
    row (codes "-dumpdir") kind.TooHard EITHER ∷
    row (codes "-emit-pch") kind.PassThroughFlag bare ∷
    row (codes "-fbuiltin-module-map") kind.TooHardFlag bare ∷
    row (codes "-fcodegen-data-generate") kind.TooHard JOINED_EQUALS ∷
    row (codes "-fcolor-diagnostics") kind.DiagnosticsColorFlag bare ∷
    row (codes "-fcuda-allow-variadic-functions") kind.PassThroughFlag bare ∷
    row (codes "-fcxx-modules") kind.TooHardFlag bare ∷
    row (codes "-fdebug-compilation-dir") kind.PassThrough APART ∷
    row (codes "-fembed-offload-object") kind.ExtraHashFile JOINED_EQUALS ∷
    row (codes "-fexperimental-assignment-tracking") kind.PassThrough JOINED_EQUALS ∷
    row (codes "-fimplicit-modules") kind.TooHardFlag bare ∷
    row (codes "-fintegrated-as") kind.IntegratedAs bare ∷
    row (codes "-fmemory-profile") kind.TooHardFlag bare ∷
    row (codes "-fmemory-profile-use") kind.ExtraHashFile JOINED_EQUALS ∷
    row (codes "-fmemory-profile=") kind.TooHard JOINED ∷
    row (codes "-fmodule-file") kind.ExtraHashFileClangModuleFile JOINED_EQUALS ∷
    row (codes "-fmodule-header") kind.TooHard JOINED_EQUALS ∷
    row (codes "-fmodule-map-file") kind.ExtraHashFile JOINED_EQUALS ∷
    row (codes "-fmodule-output") kind.ClangModuleOutput JOINED ∷
    row (codes "-fmodules-cache-path") kind.TooHard JOINED_EQUALS ∷
    row (codes "-fmodules-reduced-bmi") kind.PassThroughFlag bare ∷
    row (codes "-fmodules-user-build-path") kind.TooHard APART ∷
    row (codes "-fms-secure-hotpatch-functions-file") kind.ExtraHashFile JOINED_EQUALS ∷
    row (codes "-fno-color-diagnostics") kind.NoDiagnosticsColorFlag bare ∷
    row (codes "-fno-integrated-as") kind.NoIntegratedAs bare ∷
    row (codes "-fno-pch-timestamp") kind.PassThroughFlag bare ∷
    row (codes "-fno-profile-instr-generate") kind.TooHardFlag bare ∷
    row (codes "-fno-profile-instr-use") kind.TooHardFlag bare ∷
    row (codes "-foptimization-record-file") kind.TooHard JOINED_EQUALS ∷
    row (codes "-foptimization-record-passes") kind.PassThrough JOINED_EQUALS ∷
    row (codes "-fpass-plugin") kind.ExtraHashFile JOINED_EQUALS ∷
    row (codes "-fplugin") kind.ExtraHashFile EITHER_EQUALS ∷
    row (codes "-fprebuilt-implicit-modules") kind.TooHardFlag bare ∷
    row (codes "-fprebuilt-module-path") kind.TooHard JOINED ∷
    row (codes "-fprofile-instr-generate") kind.ProfileGenerate bare ∷
    row (codes "-fprofile-instr-use") kind.ClangProfileUse JOINED_EQUALS ∷
    row (codes "-fprofile-remapping-file") kind.ExtraHashFile JOINED_EQUALS ∷
    row (codes "-fprofile-use") kind.ClangProfileUse JOINED_EQUALS ∷
    row (codes "-frandomize-layout-seed-file") kind.ExtraHashFile JOINED_EQUALS ∷
    row (codes "-fsanitize-blacklist") kind.ExtraHashFile JOINED_EQUALS ∷
    row (codes "-fsanitize-ignorelist") kind.ExtraHashFile JOINED_EQUALS ∷
    row (codes "-fsanitize-system-ignorelist") kind.ExtraHashFile JOINED_EQUALS ∷
    row (codes "-fsave-optimization-record") kind.TooHard JOINED_EQUALS ∷
    row (codes "-fthin-link-bitcode") kind.TooHard JOINED_EQUALS ∷
    row (codes "-ftime-trace") kind.TooHard JOINED_EQUALS ∷
    row (codes "-fuse-ctor-homing") kind.PassThroughFlag bare ∷
    row (codes "-fxray-always-instrument") kind.ExtraHashFile JOINED_EQUALS ∷
    row (codes "-fxray-attr-list") kind.ExtraHashFile JOINED_EQUALS ∷
    row (codes "-fxray-never-instrument") kind.ExtraHashFile JOINED_EQUALS ∷
    row (codes "-gcc-toolchain") kind.PassThrough APART ∷
    row (codes "-gcodeview") kind.PassThroughFlag bare ∷
    row (codes "-include-pch") kind.PreprocessorArgumentPath EITHER ∷
    row (codes "-integrated-as") kind.IntegratedAs bare ∷
    row (codes "-ivfsoverlay") kind.PreprocessorArgumentPath EITHER ∷
    row (codes "-load") kind.ExtraHashFile APART ∷
    row (codes "-mconstructor-aliases") kind.PassThroughFlag bare ∷
    row (codes "-mllvm") kind.PassThrough APART ∷
    row (codes "-mmlir") kind.PassThrough APART ∷
    row (codes "-module-dependency-dir") kind.TooHard APART ∷
    row (codes "-mrelax-all") kind.PassThroughFlag bare ∷
    row (codes "-no-integrated-as") kind.NoIntegratedAs bare ∷
    row (codes "-no-opaque-pointers") kind.PreprocessorArgumentFlag bare ∷
    row (codes "-parallel-jobs") kind.Unhashed JOINED_EQUALS ∷
    row (codes "-plugin-arg") kind.PassThrough JOINED_DASH ∷
    row (codes "-save-stats") kind.TooHard JOINED_EQUALS ∷
    row (codes "-target") kind.PassThrough APART ∷
    row (codes "-verify") kind.PreprocessorArgumentFlag bare ∷
    row (codes "-verify-pch") kind.PassThroughFlag bare ∷
    row (codes "-vfsoverlay") kind.PreprocessorArgumentPath EITHER ∷
    row (codes "-working-directory") kind.TooHard EITHER_EQUALS ∷
    row (codes "/winsysroot") kind.PassThroughPath EITHER ∷ []

-- the tables of Clang; a flag that both have belongs to the second
abbrev pub clang_tables : List (List (Row Kind))
clang_tables = gcc_rows ∷ clang_rows ∷ []
