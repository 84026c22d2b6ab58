-- Rows of paths.
use Rattle.std.specs.Prelude.{◌≡◌, true, false, codes, Option, None, Some}
use Prim.Native.String.{String}
use Rattle.scl_files.specs.Paths.{join, with_extension, with_file_name, file_name, extension, same_path}

-- a directory, a path, and the two joined
abbrev pub PathsAreJoined : Type 0
PathsAreJoined =
    (join (codes "/w") (codes "") ≡ codes "/w/")
    × (join (codes "") (codes "a") ≡ codes "a")
    × (join (codes "/w") (codes "/x") ≡ codes "/x")
    × (join (codes "/w") (codes "a") ≡ codes "/w/a")
    × (join (codes "/w/") (codes "a") ≡ codes "/w/a")
    × (join (codes "") (codes "") ≡ codes "")

-- a path, and the same with another extension
abbrev pub ExtensionsAreChanged : Type 0
ExtensionsAreChanged =
    (with_extension (codes "a/b.c/") (codes "o") ≡ codes "a/b.o")
    × (with_extension (codes ".c") (codes "o") ≡ codes ".c.o")
    × (with_extension (codes "..") (codes "o") ≡ codes "..")
    × (with_extension (codes "..c") (codes "o") ≡ codes "..o")
    × (with_extension (codes "a.tar.gz") (codes "o") ≡ codes "a.tar.o")
    × (with_extension (codes "") (codes "o") ≡ codes "")
    × (with_extension (codes "/") (codes "o") ≡ codes "/")
    × (with_extension (codes "a.c") (codes "") ≡ codes "a.")

-- a path, and the same with another file name
abbrev pub FileNamesAreChanged : Type 0
FileNamesAreChanged =
    (with_file_name (codes "/a") (codes "x") ≡ codes "/x")
    × (with_file_name (codes "..") (codes "x") ≡ codes "../x")
    × (with_file_name (codes "a//./b") (codes "x") ≡ codes "a/x")
    × (with_file_name (codes "./a") (codes "x") ≡ codes "./x")

-- the path has this file name, and that this extension
abbrev pub Names : String → Option String → Option String → Type 0
Names path (Some name) (Some ending) = (file_name (codes path) ≡ Some (codes name)) × (extension (codes path) ≡ Some (codes ending))
Names path (Some name) None = (file_name (codes path) ≡ Some (codes name)) × (extension (codes path) ≡ None)
Names path None ending = (file_name (codes path) ≡ None) × (extension (codes path) ≡ None)

abbrev pub FileNamesAndExtensionsAreFound : Type 0
FileNamesAndExtensionsAreFound =
    Names "a/b.c/." (Some "b.c") (Some "c")
    × Names "a/.." None None
    × Names ".c" (Some ".c") None
    × Names "..c" (Some "..c") (Some "c")
    × Names "out." (Some "out.") (Some "")

-- two paths, and whether their components are the same
abbrev pub ComponentsAreCompared : Type 0
ComponentsAreCompared =
    (same_path (codes "a//b/./c/") (codes "a/b/c") ≡ true)
    × (same_path (codes "a/../b") (codes "b") ≡ false)
    × (same_path (codes "./a") (codes "a") ≡ false)
    × (same_path (codes "/./a") (codes "/a") ≡ true)
    × (same_path (codes "/a") (codes "a") ≡ false)
