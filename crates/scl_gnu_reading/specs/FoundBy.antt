-- What the fixed tests find, as the code stores it.
use Rattle.scl_text.specs.Records.{path_of}
use Rattle.scl_gnu_reading.specs.declared.gcc.fixed_tests.Finding.{Finding}
use Rattle.scl_gnu_reading.specs.FixedTests.{Found}

abbrev pub found_of : Finding → Found
found_of f = record { compile_flag = f.compile_flag.now; input = f.input.items; language = f.language; object = f.object.items; module_path = path_of f.module_path }
