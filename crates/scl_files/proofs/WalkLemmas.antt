-- The words so far, and the words that are left.
use Rattle.std.proofs.Common.{◌≡◌, ℕ, ◌+◌, ◌<◌, true, false, List, [], ◌∷◌, ◌++◌, length, get_or, take, Vec, sym, ap, subst, ◌∙◌, add-one}
use Rattle.std.proofs.lemmas.List.{map-append}
use Rattle.std.proofs.Math.Seq.{take-suc}
use Rattle.std.specs.declared.alloc.Global.{Global}
use Rattle.std.specs.Option.{is_some, option_to_list}
use Rattle.scl_values.specs.Words.{words_of}
use Rattle.scl_files.specs.PathMaps.{value_at}
use Rattle.scl_files.specs.Views.{File, bytes_at, is_among}
use Rattle.scl_files.proofs.OnceLemmas.{Once, leads-known, leads-new, text-known, text-new}

-- one more word of those that a loop goes over
pub taken_more : (words : List (Vec ℕ Global)) (i : ℕ) (word : Vec ℕ Global) → i < length words → word ≡ get_or words i word → words_of (take (i + 1) words) ≡ words_of (take i words) ++ word.items ∷ []
taken_more words i word within is =
    ap words_of (ap (λ n. take n words) (add-one i) ∙ take-suc words i word within ∙ ap (λ w. take i words ++ w ∷ []) (sym is))
    ∙ map-append (λ w. w.items) (take i words) (word ∷ [])

-- the paths with one more: it was among them, or it was not and its text was appended
module _ (files : List File) (paths : List (Vec ℕ Global)) (i : ℕ) (path : Vec ℕ Global) (within : i < length paths) (is : path ≡ get_or paths i path) where
  abbrev before : List (List ℕ)
  before = words_of (take i paths)

  abbrev after : List (List ℕ)
  after = words_of (take (i + 1) paths)

  pub known_more : (texts : List (Vec ℕ Global)) (seen : List (List ℕ × Unit {0})) → is_some (value_at path.items seen) ≡ true → Once files before (words_of texts) seen → Once files after (words_of texts) seen
  known_more texts seen known once =
      let among : is_among path.items before ≡ true = sym (once.leads path.items) ∙ known in
      subst (λ ps. Once files ps (words_of texts) seen) (sym (taken_more paths i path within is)) (record {
        texts = once.texts ∙ sym (text-known files before path.items among);
        leads = leads-known before seen path.items once.leads among;
      })

  pub new_more : (texts new : List (Vec ℕ Global)) (seen : List (List ℕ × Unit {0})) → is_some (value_at path.items seen) ≡ false → words_of new ≡ words_of texts ++ option_to_list (bytes_at path.items files)
      → Once files before (words_of texts) seen → Once files after (words_of new) ((path.items, tt) ∷ seen)
  new_more texts new seen unknown put once =
      let among : is_among path.items before ≡ false = sym (once.leads path.items) ∙ unknown in
      subst (λ ps. Once files ps (words_of new) ((path.items, tt) ∷ seen)) (sym (taken_more paths i path within is)) (record {
        texts = put ∙ ap (λ ts. ts ++ option_to_list (bytes_at path.items files)) once.texts ∙ sym (text-new files before path.items among);
        leads = leads-new before seen path.items once.leads;
      })
