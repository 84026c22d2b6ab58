-- Gcc's table.
use Rattle.std.specs.Prelude.{List, [], ◌∷◌, codes}
use Rattle.scl_values.specs.Row.{Row, row, bare}
use Rattle.scl_values.specs.Shapes.{APART, JOINED, JOINED_COMMA, JOINED_EQUALS, EITHER}
use Rattle.scl_gnu_reading.specs.declared.gcc.data.Kind.{Kind}
use Rattle.scl_gnu_reading.specs.declared.gcc.data.Kind.TheVariants as kind

-- the rows of Gcc's table
unfoldable pub gcc_rows : List (Row Kind)
gcc_rows =
    row (codes "-") kind.TooHardFlag bare ∷
    row (codes "--coverage") kind.Coverage bare ∷
    row (codes "--param") kind.PassThrough APART ∷
    row (codes "--save-temps") kind.TooHardFlag bare ∷
    row (codes "--save-temps=cwd") kind.TooHardFlag bare ∷
    row (codes "--save-temps=obj") kind.TooHardFlag bare ∷
    row (codes "--serialize-diagnostics") kind.SerializeDiagnostics APART ∷
    row (codes "--sysroot") kind.PassThroughPath APART ∷
    row (codes "-A") kind.PassThrough APART ∷
    row (codes "-B") kind.PassThroughPath EITHER ∷
    row (codes "-D") kind.PassThrough EITHER ∷
    row (codes "-E") kind.TooHardFlag bare ∷
    row (codes "-F") kind.PreprocessorArgumentPath EITHER ∷
    row (codes "-G") kind.PassThrough APART ∷
    row (codes "-I") kind.PreprocessorArgumentPath EITHER ∷
    row (codes "-L") kind.PassThrough APART ∷
    row (codes "-M") kind.TooHardFlag bare ∷
    row (codes "-MD") kind.NeedDepTarget bare ∷
    row (codes "-MF") kind.DepArgumentPath APART ∷
    row (codes "-MM") kind.TooHardFlag bare ∷
    row (codes "-MMD") kind.NeedDepTarget bare ∷
    row (codes "-MP") kind.NeedDepTarget bare ∷
    row (codes "-MQ") kind.DepTarget APART ∷
    row (codes "-MT") kind.DepTarget APART ∷
    row (codes "-P") kind.TooHardFlag bare ∷
    row (codes "-U") kind.PassThrough EITHER ∷
    row (codes "-V") kind.PassThrough APART ∷
    row (codes "-Werror=pedantic") kind.PedanticFlag bare ∷
    row (codes "-Wp") kind.PreprocessorArgument JOINED_COMMA ∷
    row (codes "-Wpedantic") kind.PedanticFlag bare ∷
    row (codes "-Xassembler") kind.PassThrough APART ∷
    row (codes "-Xlinker") kind.PassThrough APART ∷
    row (codes "-Xpreprocessor") kind.PreprocessorArgument APART ∷
    row (codes "-arch") kind.Arch APART ∷
    row (codes "-aux-info") kind.PassThrough APART ∷
    row (codes "-b") kind.PassThrough APART ∷
    row (codes "-c") kind.DoCompilation bare ∷
    row (codes "-fcallgraph-info") kind.TooHard JOINED_EQUALS ∷
    row (codes "-fdiagnostics-color") kind.DiagnosticsColor JOINED_EQUALS ∷
    row (codes "-fmodules") kind.TooHardFlag bare ∷
    row (codes "-fmodules-ts") kind.TooHardFlag bare ∷
    row (codes "-fno-diagnostics-color") kind.NoDiagnosticsColorFlag bare ∷
    row (codes "-fno-profile-generate") kind.TooHardFlag bare ∷
    row (codes "-fno-profile-use") kind.TooHardFlag bare ∷
    row (codes "-fno-working-directory") kind.PreprocessorArgumentFlag bare ∷
    row (codes "-fplugin") kind.TooHard JOINED_EQUALS ∷
    row (codes "-fprofile-arcs") kind.ProfileGenerate bare ∷
    row (codes "-fprofile-generate") kind.ProfileGenerate bare ∷
    row (codes "-fprofile-use") kind.TooHard JOINED ∷
    row (codes "-frepo") kind.TooHardFlag bare ∷
    row (codes "-fstack-usage") kind.TooHardFlag bare ∷
    row (codes "-fsyntax-only") kind.TooHardFlag bare ∷
    row (codes "-ftest-coverage") kind.TestCoverage bare ∷
    row (codes "-fworking-directory") kind.PreprocessorArgumentFlag bare ∷
    row (codes "-gsplit-dwarf") kind.SplitDwarf bare ∷
    row (codes "-idirafter") kind.PreprocessorArgumentPath EITHER ∷
    row (codes "-iframework") kind.PreprocessorArgumentPath EITHER ∷
    row (codes "-imacros") kind.PreprocessorArgumentPath EITHER ∷
    row (codes "-imultilib") kind.PreprocessorArgumentPath EITHER ∷
    row (codes "-include") kind.PreprocessorArgumentPath EITHER ∷
    row (codes "-index-store-path") kind.TooHard APART ∷
    row (codes "-install_name") kind.PassThrough APART ∷
    row (codes "-iprefix") kind.PreprocessorArgumentPath EITHER ∷
    row (codes "-iquote") kind.PreprocessorArgumentPath EITHER ∷
    row (codes "-isysroot") kind.PreprocessorArgumentPath EITHER ∷
    row (codes "-isystem") kind.PreprocessorArgumentPath EITHER ∷
    row (codes "-ivfsstatcache") kind.PassThroughPath EITHER ∷
    row (codes "-iwithprefix") kind.PreprocessorArgumentPath EITHER ∷
    row (codes "-iwithprefixbefore") kind.PreprocessorArgumentPath EITHER ∷
    row (codes "-nostdinc") kind.PreprocessorArgumentFlag bare ∷
    row (codes "-nostdinc++") kind.PreprocessorArgumentFlag bare ∷
    row (codes "-o") kind.Output EITHER ∷
    row (codes "-pedantic") kind.PedanticFlag bare ∷
    row (codes "-pedantic-errors") kind.PedanticFlag bare ∷
    row (codes "-pipe") kind.UnhashedFlag bare ∷
    row (codes "-remap") kind.PreprocessorArgumentFlag bare ∷
    row (codes "-save-temps") kind.TooHardFlag bare ∷
    row (codes "-save-temps=cwd") kind.TooHardFlag bare ∷
    row (codes "-save-temps=obj") kind.TooHardFlag bare ∷
    row (codes "-std") kind.Standard JOINED_EQUALS ∷
    row (codes "-stdlib") kind.PreprocessorArgument JOINED_EQUALS ∷
    row (codes "-trigraphs") kind.PreprocessorArgumentFlag bare ∷
    row (codes "-u") kind.PassThrough EITHER ∷
    row (codes "-x") kind.Language EITHER ∷
    row (codes "-z") kind.PassThrough EITHER ∷
    row (codes "@") kind.TooHard JOINED ∷ []
