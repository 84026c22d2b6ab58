-- Words for an inner command line, each after a wrapper.
use Rattle.std.specs.Prelude.{ℕ, ◌≡◌, List, [], ◌∷◌, ◌++◌, take}

-- the wrapper as a word of its own before the word
abbrev pub wrapped_apart : List ℕ → List ℕ → List (List ℕ)
wrapped_apart wrapper word = wrapper ∷ word ∷ []

-- the word joined to the wrapper
abbrev pub wrapped_joined : List ℕ → List ℕ → List (List ℕ)
wrapped_joined wrapper word = (wrapper ++ word) ∷ []

-- the words from before, with a prefix of the others appended
abbrev pub HasFirstOf : (before others after : List (List ℕ)) → Type 0
HasFirstOf before others after = (n : ℕ) × (after ≡ before ++ take n others)
