-- Diab's table.
use Rattle.std.specs.Prelude.{List, [], ◌∷◌, codes}
use Rattle.scl_values.specs.Row.{Row, row, bare}
use Rattle.scl_values.specs.Shapes.{APART, JOINED, JOINED_EQUALS, EITHER}
use Rattle.scl_small.specs.declared.diab.data.Kind.{Kind}
use Rattle.scl_small.specs.declared.diab.data.Kind.TheVariants as kinds

unfoldable pub rows : List (Row Kind)
rows =
    row (codes "-") kinds.TooHardFlag bare
    ∷ row (codes "-##") kinds.TooHardFlag bare
    ∷ row (codes "-###") kinds.TooHardFlag bare
    ∷ row (codes "-@") kinds.TooHard JOINED
    ∷ row (codes "-D") kinds.PreprocessorArgument EITHER
    ∷ row (codes "-E") kinds.TooHardFlag bare
    ∷ row (codes "-I") kinds.PreprocessorArgumentPath EITHER
    ∷ row (codes "-L") kinds.PassThrough APART
    ∷ row (codes "-P") kinds.TooHardFlag bare
    ∷ row (codes "-S") kinds.TooHardFlag bare
    ∷ row (codes "-U") kinds.PreprocessorArgument EITHER
    ∷ row (codes "-V") kinds.TooHardFlag bare
    ∷ row (codes "-VV") kinds.TooHardFlag bare
    ∷ row (codes "-W") kinds.PassThrough APART
    ∷ row (codes "-Xmake-dependency") kinds.DepArgumentFlag bare
    ∷ row (codes "-Xmake-dependency-canonicalize-path-off") kinds.DepArgumentFlag bare
    ∷ row (codes "-Xmake-dependency-savefile") kinds.DepArgumentPath JOINED_EQUALS
    ∷ row (codes "-Xmake-dependency-target") kinds.DepArgument JOINED_EQUALS
    ∷ row (codes "-c") kinds.DoCompilation bare
    ∷ row (codes "-include") kinds.PreprocessorArgumentPath EITHER
    ∷ row (codes "-l") kinds.PassThrough APART
    ∷ row (codes "-o") kinds.Output APART
    ∷ row (codes "-t") kinds.PassThrough APART
    ∷ []
