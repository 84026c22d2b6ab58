-- How many runs there are, and how they differ.
use Rattle.std.proofs.Common.{◌≡◌, ℕ, ◌<◌, ◌≤◌, true, false, nat_le, List, [], ◌∷◌, ◌++◌, length, map, refl, ap, ◌∙◌, arith, length-append}
use Rattle.std.proofs.lemmas.Grind.{common_steps}
use Rattle.std.specs.Prelude.{Option}
use Rattle.scl_text.specs.Records.{Parsed, archs}
use Rattle.scl_gnu.specs.Preprocess.{arch_run, arch_runs, arch_words, is_none, run_words, settings, with_archs, without_files, OneArchitectureHasOneRun, EachArchitectureHasItsRun}

few : (n : ℕ) → n < 2 → nat_le 2 n ≡ false
few n h = grind (arith, common_steps)

many : (n : ℕ) → 2 ≤ n → nat_le 2 n ≡ true
many n h = grind (arith, common_steps)

some_behind : (others : List (List ℕ)) (last : List ℕ) → is_none (others ++ last ∷ []) ≡ false
some_behind [] last = refl
some_behind (other ∷ others) last = refl

runs : (text : Option (List ℕ)) (set : List (List ℕ)) (p : Parsed) (others : List (List ℕ)) (last : List ℕ) → arch_runs text set p (others ++ last ∷ [])
    ≡ map (λ arch. run_words text set (with_archs (arch_words arch) (without_files p))) others ++ run_words text set (with_archs (arch_words last) p) ∷ []
runs text set p [] last = refl
runs text set p (other ∷ others) last =
    ap (λ b. arch_run text set p other b ∷ arch_runs text set p (others ++ last ∷ [])) (some_behind others last)
    ∙ ap (λ rest. arch_run text set p other false ∷ rest) (runs text set p others last)

pub one-run : OneArchitectureHasOneRun
one-run text kind rewrites ignorable may_dist p h = rw (few (length (archs p.arch_args)) h) refl

long : (others : List (List ℕ)) (last : List ℕ) → 0 < length others → 2 ≤ length (others ++ last ∷ [])
long others last h = omega (arith, length-append others (last ∷ []))

pub each-run : EachArchitectureHasItsRun
each-run text kind rewrites ignorable may_dist p others last h e =
    rw (e, many (length (others ++ last ∷ [])) (long others last h)) (runs text (settings kind rewrites ignorable false p) p others last)
