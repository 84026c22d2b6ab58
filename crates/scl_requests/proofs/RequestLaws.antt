-- What is answered by the kind that the first line says.
use Rattle.std.proofs.Common.{◌≡◌, ℕ, List, Result, Ok, Err, Vec, MatchResult, drop, subst, sym}
use Rattle.std.specs.declared.alloc.Global.{Global}
use Rattle.scl_catalogue.specs.Form.{Catalogue}
use Rattle.scl_description.specs.Lines.{lines_of}
use Rattle.scl_describe.specs.Descriptions.{DescribesBytes}
use Rattle.scl_requests.specs.Depfiles.{IsSaid}
use Rattle.scl_requests.specs.Joining.{joined}
use Rattle.scl_requests.specs.Making.{made_by}
use Rattle.scl_requests.specs.Mapping.{mapped}
use Rattle.scl_requests.specs.Naming.{named}
use Rattle.scl_requests.specs.Requests.{AnswersBy, AnswersBytes, kind_of}
use Rattle.scl_talks.specs.Talks.{looked_up}
use Rattle.scl_requests.specs.declared.requests.Kind.{Kind}
use Rattle.scl_requests.specs.declared.requests.Kind.TheVariants as kinds

by_kind : (kind : Kind) (catalogue : Catalogue) (bytes : List ℕ) (said : Result (List ℕ) ℕ) → kind_of (lines_of bytes) ≡ kind → AnswersBy kind catalogue bytes said → AnswersBytes catalogue bytes said
by_kind kind catalogue bytes said is h = subst (λ k. AnswersBy k catalogue bytes said) (sym is) h

-- ---- what the code answers

pub name_said : (catalogue : Catalogue) (bytes : List ℕ) (lines : List (List ℕ)) (said : Result (Vec ℕ Global) ℕ) → kind_of (lines_of bytes) ≡ kinds.Name → lines ≡ drop 1 (lines_of bytes)
    → MatchResult said (λ text. named lines ≡ Ok text.items) (λ number. named lines ≡ Err number)
    → MatchResult said (λ text. AnswersBytes catalogue bytes (Ok text.items)) (λ number. AnswersBytes catalogue bytes (Err number))
name_said catalogue bytes lines (Ok text) is are h = by_kind kinds.Name catalogue bytes (Ok text.items) is (subst (λ ls. named ls ≡ Ok text.items) are h)
name_said catalogue bytes lines (Err number) is are h = by_kind kinds.Name catalogue bytes (Err number) is (subst (λ ls. named ls ≡ Err number) are h)

pub description_said : (catalogue : Catalogue) (bytes : List ℕ) (said : Result (Vec ℕ Global) ℕ) → kind_of (lines_of bytes) ≡ kinds.Description
    → MatchResult said (λ text. DescribesBytes catalogue bytes (Ok text.items)) (λ number. DescribesBytes catalogue bytes (Err number))
    → MatchResult said (λ text. AnswersBytes catalogue bytes (Ok text.items)) (λ number. AnswersBytes catalogue bytes (Err number))
description_said catalogue bytes (Ok text) is h = by_kind kinds.Description catalogue bytes (Ok text.items) is h
description_said catalogue bytes (Err number) is h = by_kind kinds.Description catalogue bytes (Err number) is h

pub join_said : (catalogue : Catalogue) (bytes : List ℕ) (lines : List (List ℕ)) (said : Result (Vec ℕ Global) ℕ) → kind_of (lines_of bytes) ≡ kinds.Join → lines ≡ drop 1 (lines_of bytes)
    → MatchResult said (λ text. joined lines ≡ Ok text.items) (λ number. joined lines ≡ Err number)
    → MatchResult said (λ text. AnswersBytes catalogue bytes (Ok text.items)) (λ number. AnswersBytes catalogue bytes (Err number))
join_said catalogue bytes lines (Ok text) is are h = by_kind kinds.Join catalogue bytes (Ok text.items) is (subst (λ ls. joined ls ≡ Ok text.items) are h)
join_said catalogue bytes lines (Err number) is are h = by_kind kinds.Join catalogue bytes (Err number) is (subst (λ ls. joined ls ≡ Err number) are h)

pub made_by_said : (catalogue : Catalogue) (bytes : List ℕ) (lines : List (List ℕ)) (said : Result (Vec ℕ Global) ℕ) → kind_of (lines_of bytes) ≡ kinds.MadeBy → lines ≡ drop 1 (lines_of bytes)
    → MatchResult said (λ text. made_by lines ≡ Ok text.items) (λ number. made_by lines ≡ Err number)
    → MatchResult said (λ text. AnswersBytes catalogue bytes (Ok text.items)) (λ number. AnswersBytes catalogue bytes (Err number))
made_by_said catalogue bytes lines (Ok text) is are h = by_kind kinds.MadeBy catalogue bytes (Ok text.items) is (subst (λ ls. made_by ls ≡ Ok text.items) are h)
made_by_said catalogue bytes lines (Err number) is are h = by_kind kinds.MadeBy catalogue bytes (Err number) is (subst (λ ls. made_by ls ≡ Err number) are h)

pub map_said : (catalogue : Catalogue) (bytes : List ℕ) (lines : List (List ℕ)) (said : Result (Vec ℕ Global) ℕ) → kind_of (lines_of bytes) ≡ kinds.Map → lines ≡ drop 1 (lines_of bytes)
    → MatchResult said (λ text. mapped lines ≡ Ok text.items) (λ number. mapped lines ≡ Err number)
    → MatchResult said (λ text. AnswersBytes catalogue bytes (Ok text.items)) (λ number. AnswersBytes catalogue bytes (Err number))
map_said catalogue bytes lines (Ok text) is are h = by_kind kinds.Map catalogue bytes (Ok text.items) is (subst (λ ls. mapped ls ≡ Ok text.items) are h)
map_said catalogue bytes lines (Err number) is are h = by_kind kinds.Map catalogue bytes (Err number) is (subst (λ ls. mapped ls ≡ Err number) are h)

pub depfile_said : (catalogue : Catalogue) (bytes : List ℕ) (lines : List (List ℕ)) (said : Result (Vec ℕ Global) ℕ) → kind_of (lines_of bytes) ≡ kinds.Depfile → lines ≡ drop 1 (lines_of bytes)
    → MatchResult said (λ text. IsSaid lines (Ok text.items)) (λ number. IsSaid lines (Err number))
    → MatchResult said (λ text. AnswersBytes catalogue bytes (Ok text.items)) (λ number. AnswersBytes catalogue bytes (Err number))
depfile_said catalogue bytes lines (Ok text) is are h = by_kind kinds.Depfile catalogue bytes (Ok text.items) is (subst (λ ls. IsSaid ls (Ok text.items)) are h)
depfile_said catalogue bytes lines (Err number) is are h = by_kind kinds.Depfile catalogue bytes (Err number) is (subst (λ ls. IsSaid ls (Err number)) are h)

pub lookup_said : (catalogue : Catalogue) (bytes : List ℕ) (lines : List (List ℕ)) (said : Result (Vec ℕ Global) ℕ) → kind_of (lines_of bytes) ≡ kinds.Lookup → lines ≡ drop 1 (lines_of bytes)
    → MatchResult said (λ text. looked_up catalogue lines ≡ Ok text.items) (λ number. looked_up catalogue lines ≡ Err number)
    → MatchResult said (λ text. AnswersBytes catalogue bytes (Ok text.items)) (λ number. AnswersBytes catalogue bytes (Err number))
lookup_said catalogue bytes lines (Ok text) is are h = by_kind kinds.Lookup catalogue bytes (Ok text.items) is (subst (λ ls. looked_up catalogue ls ≡ Ok text.items) are h)
lookup_said catalogue bytes lines (Err number) is are h = by_kind kinds.Lookup catalogue bytes (Err number) is (subst (λ ls. looked_up catalogue ls ≡ Err number) are h)
