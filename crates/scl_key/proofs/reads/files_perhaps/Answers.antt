use Rattle.std.proofs.Common.{◌≡◌, [], ◌++◌, List, ℕ, ap, append_assoc, refl}
use Rattle.scl_values.specs.Words.{words_of}
use Rattle.scl_key.proofs.reads.files_perhaps.Goals as goal

five : (p0 p1 p2 p3 p4 p5 a b c d e : List (List ℕ)) → p0 ≡ [] → p1 ≡ p0 ++ a → p2 ≡ p1 ++ b → p3 ≡ p2 ++ c → p4 ≡ p3 ++ d → p5 ≡ p4 ++ e → p5 ≡ a ++ b ++ c ++ d ++ e
five p0 p1 p2 p3 p4 p5 a b c d e h0 h1 h2 h3 h4 h5 = rw (h5, h4, h3, h2, h1, h0) (simp append_assoc refl)

pub returns : goal.returns
returns c =
    five _ _ _ _ _ _ _ _ _ _ _ (ap words_of c.new-paths.ensures.items)
    (rw c.deref.ensures.value at c.in_ok-push_paths.ensures)
    (rw c.deref-2.ensures.value at c.in_ok-push_paths-2.ensures)
    c.in_ok-push_macro_files.ensures
    (rw c.deref-3.ensures.value at c.in_ok-push_profiles.ensures)
    c.in_ok-push_precompiled_headers.ensures
