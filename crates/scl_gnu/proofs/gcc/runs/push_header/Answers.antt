use Rattle.std.proofs.Common.{◌≡◌, ◌++◌, ℕ, List, append_assoc, rules, ap, ◌∙◌}
use Rattle.scl_gnu.proofs.gcc.runs.push_header.Goals as goal

five : (made a b c d e m1 m2 m3 m4 m5 : List ℕ) → m1 ≡ made ++ a → m2 ≡ m1 ++ b → m3 ≡ m2 ++ c → m4 ≡ m3 ++ d → m5 ≡ m4 ++ e → m5 ≡ made ++ (a ++ b ++ c ++ d ++ e)
five made a b c d e m1 m2 m3 m4 m5 h1 h2 h3 h4 h5 = rw (h5, h4, h3, h2, h1) (simp append_assoc)

pub returns : goal.returns
returns c =
    five c.args.made.now.items _ c.args.arch.now _ _ _ _ _ _ _ _ c.in_ok-extend_from_slice.ensures.items c.in_ok-extend_from_slice-2.ensures.items c.in_ok-extend_from_slice-3.ensures.items
    (c.in_ok-extend_from_slice-4.ensures.items ∙ ap (λ d. c.extend_from_slice-3.new.self.items ++ d) (c.as_bytes.ensures.value ∙ search rules)) c.in_ok-extend_from_slice-5.ensures.items
