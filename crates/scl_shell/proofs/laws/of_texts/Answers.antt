use Rattle.scl_shell.proofs.ShellLaws.{each_text_has_one_reading, broken_texts_have_no_words}
use Rattle.scl_shell.proofs.laws.of_texts.Goals as goal

pub returns-clause-each_text_has_one_reading : goal.returns-clause-each_text_has_one_reading
returns-clause-each_text_has_one_reading c = each_text_has_one_reading

pub returns-clause-broken_texts_have_no_words : goal.returns-clause-broken_texts_have_no_words
returns-clause-broken_texts_have_no_words c = broken_texts_have_no_words
