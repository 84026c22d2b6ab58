-- The part of a request that its lines so far make.
use Rattle.std.specs.Prelude.{◌||◌, ◌++◌, map}
use Rattle.std.specs.Option.{option_to_list}
use Rattle.scl_values.specs.Words.{words_of}
use Rattle.scl_text.specs.Commands.{pairs_of}
use Rattle.scl_cl.specs.declared.draft.Draft.{Draft}
use Rattle.scl_cl.specs.declared.request.Request as code
use Rattle.scl_cl.specs.Sayings.{Saying}
use Rattle.scl_reader.specs.CommandLines.{Request}
use Rattle.scl_cl.specs.Requests.{compiler_in, directory_in, word_in, variable_in, file_in, viewed_directory_in, path_in, is_multiarch, with_files, Gathered}

-- with one more line
abbrev pub with_line : Gathered → Saying → Gathered
with_line g line = record {
  compilers = g.compilers ++ compiler_in line;
  directories = g.directories ++ directory_in line;
  words = g.words ++ word_in line;
  environment = g.environment ++ variable_in line;
  view = record {
    files = with_files g.view.files (file_in line);
    directories = viewed_directory_in line ++ g.view.directories;
    existing = path_in line ++ g.view.existing;
    is_multiarch = is_multiarch line || g.view.is_multiarch;
  };
}

-- what the lines of a draft name
abbrev pub gathered_by : Draft → Gathered
gathered_by draft = record {
  compilers = option_to_list draft.compiler;
  directories = map (λ path. path.items) (option_to_list draft.directory);
  words = words_of draft.words.items;
  environment = pairs_of draft.environment.items;
  view = draft.view;
}

-- what a finished request requests
abbrev pub asked_by : code.Request → Request
asked_by request = record {
  compiler = request.compiler;
  directory = request.directory.items;
  words = words_of request.words.items;
  environment = pairs_of request.environment.items;
  view = request.view;
}
