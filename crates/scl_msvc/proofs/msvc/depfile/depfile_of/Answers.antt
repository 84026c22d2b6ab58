use Rattle.std.proofs.Common.{ap, ◌∙◌, arith}
use Rattle.std.proofs.lemmas.Grind.{common_steps}
use Rattle.std.specs.List.{list_any}
use Rattle.std.specs.Str.{bytes_eq}
use Rattle.scl_values.specs.Words.{words_of}
use Rattle.scl_msvc.proofs.msvc.depfile.depfile_of.Goals as goal

pub returns : goal.returns
returns c = record {
  sorted = words_of c.in_ok-sorted.sorted.items;
  are_in_order = record {
    ascend = c.in_ok-sorted.ensures.order;
    are_the_same = λ word. ap (λ ws. list_any (bytes_eq word) (words_of ws)) c.in_ok-sorted.ensures.words
        ∙ c.in_ok-names.ensures.set.are_the_same word ∙ ap (list_any (bytes_eq word)) c.in_ok-names.ensures.names;
  };
  text_is = grind (arith, common_steps, c.in_ok-rules.ensures, c.in_ok-names.ensures.names);
  kept_is = grind (arith, common_steps, c.in_ok-kept_text.ensures);
}
