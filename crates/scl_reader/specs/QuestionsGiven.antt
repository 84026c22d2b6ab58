-- Questions that the code gives.
use Rattle.scl_values.specs.Words.{words_of}
use Rattle.scl_reader.specs.declared.questions.Questions as code
use Rattle.scl_reader.specs.Questions.{Questions}

abbrev pub given : code.Questions → Questions
given q = record { files = words_of q.files.items; directories = words_of q.directories.items; existing = words_of q.existing.items }
