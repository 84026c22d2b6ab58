-- TaskingVX's table.
use Rattle.std.specs.Prelude.{List, [], ◌∷◌, codes}
use Rattle.scl_values.specs.Row.{Row, row, bare}
use Rattle.scl_values.specs.Shapes.{APART, JOINED_EQUALS, EITHER}
use Rattle.scl_small.specs.declared.tasking_vx.data.Kind.{Kind}
use Rattle.scl_small.specs.declared.tasking_vx.data.Kind.TheVariants as kinds

unfoldable pub rows : List (Row Kind)
rows =
    row (codes "--define") kinds.PreprocessorArgument JOINED_EQUALS
    ∷ row (codes "--dep-file") kinds.DepFile JOINED_EQUALS
    ∷ row (codes "--dry-run") kinds.TooHardFlag bare
    ∷ row (codes "--help") kinds.NotCompilation JOINED_EQUALS
    ∷ row (codes "--include-directory") kinds.PreprocessorArgumentPath JOINED_EQUALS
    ∷ row (codes "--include-file") kinds.PreprocessorArgumentPath JOINED_EQUALS
    ∷ row (codes "--library-directory") kinds.PassThrough JOINED_EQUALS
    ∷ row (codes "--mil-split") kinds.TooHard JOINED_EQUALS
    ∷ row (codes "--option-file") kinds.TooHard JOINED_EQUALS
    ∷ row (codes "--output") kinds.Output JOINED_EQUALS
    ∷ row (codes "--preprocess") kinds.TooHard JOINED_EQUALS
    ∷ row (codes "--undefine") kinds.PreprocessorArgument APART
    ∷ row (codes "--version") kinds.NotCompilationFlag bare
    ∷ row (codes "-?") kinds.NotCompilationFlag bare
    ∷ row (codes "-D") kinds.PreprocessorArgument EITHER
    ∷ row (codes "-E") kinds.TooHardFlag bare
    ∷ row (codes "-H") kinds.PreprocessorArgumentPath EITHER
    ∷ row (codes "-I") kinds.PreprocessorArgumentPath EITHER
    ∷ row (codes "-L") kinds.PassThrough EITHER
    ∷ row (codes "-U") kinds.PreprocessorArgument EITHER
    ∷ row (codes "-V") kinds.NotCompilationFlag bare
    ∷ row (codes "-c") kinds.DoCompilation bare
    ∷ row (codes "-f") kinds.TooHard APART
    ∷ row (codes "-n") kinds.TooHardFlag bare
    ∷ row (codes "-o") kinds.Output APART
    ∷ []
