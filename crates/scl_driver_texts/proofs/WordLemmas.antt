-- Bytes before a byte 0, and what readers do with the bytes to come.
use Rattle.std.proofs.Common.{◌≡◌, ℕ, ◌<◌, ◌≤◌, ltb, true, false, cond, List, None, Some, Result, Ok, Err, OnOk, position, take, length, refl, arith}
use Rattle.std.proofs.lemmas.Bool.{ltb-true, false≢true}
use Rattle.std.proofs.lemmas.Grind.{common_steps}
use Rattle.std.specs.List.{position_or_len}
use Rattle.scl_driver_texts.specs.Pieces.{is_nul, before_nul}

some_position : (bytes : List ℕ) (i : ℕ) → position is_nul bytes ≡ Some i → (position_or_len is_nul bytes ≡ i) × (i < length bytes)
some_position bytes i h =
    elim (ltb (position_or_len is_nul bytes) (length bytes)) as (λ b. ltb (position_or_len is_nul bytes) (length bytes) ≡ b → cond b (Some (position_or_len is_nul bytes)) None ≡ Some i → (position_or_len is_nul bytes ≡ i) × (i < length bytes)) [
      | true ↦ λ e g. let same : position_or_len is_nul bytes ≡ i = cc in (same, rw (← same) (ltb-true _ _ e))
      | false ↦ λ e g. absurd (false≢true (cc))
    ] refl h

no_position : (bytes : List ℕ) → position is_nul bytes ≡ None → length bytes ≤ position_or_len is_nul bytes
no_position bytes h =
    elim (ltb (position_or_len is_nul bytes) (length bytes)) as (λ b. ltb (position_or_len is_nul bytes) (length bytes) ≡ b → cond b (Some (position_or_len is_nul bytes)) None ≡ None → length bytes ≤ position_or_len is_nul bytes) [
      | true ↦ λ e g. absurd (false≢true (cc))
      | false ↦ λ e g. grind arith
    ] refl h

pub before-some : (bytes : List ℕ) (i : ℕ) → position is_nul bytes ≡ Some i → before_nul bytes ≡ take i bytes
before-some bytes i h = rw ((some_position bytes i h).0) refl

pub before-none : (bytes : List ℕ) → position is_nul bytes ≡ None → before_nul bytes ≡ bytes
before-none bytes h = let l = no_position bytes h in grind (arith, common_steps)

pub inside-some : (bytes : List ℕ) (i : ℕ) → position is_nul bytes ≡ Some i → i < length bytes
inside-some bytes i h = (some_position bytes i h).1

pub ruleset nul_rules = (before-some, before-none, inside-some)

-- an implication between facts that hold on success
pub on_ok : {A E : Type 0} {P Q : Type 0} (r : Result A E) → (P → Q) → OnOk r P → OnOk r Q
on_ok (Ok x) f h = f h
on_ok (Err e) f h = tt
