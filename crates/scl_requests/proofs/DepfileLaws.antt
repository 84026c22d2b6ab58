-- What is answered to a request of a dependency file.
use Rattle.std.proofs.Common.{◌≡◌, ℕ, Bool, true, false, List, [], ◌∷◌, Option, None, Some, Result, Ok, Err, Vec, IfOk, refl, subst, sym}
use Rattle.std.specs.declared.alloc.AllocError.{AllocError}
use Rattle.std.specs.declared.alloc.Global.{Global}
use Rattle.std.specs.Result.{result_ok}
use Rattle.scl_description.specs.Lines.{lines_of}
use Rattle.scl_description.specs.Rows.{Entry, entries_text}
use Rattle.scl_cl.specs.Requests.{request_from}
use Rattle.scl_describe.specs.Descriptions.{too_many_entries}
use Rattle.scl_msvc.specs.Depfile.{IsDepfileAnswer, depfile_object}
use Rattle.scl_msvc.specs.declared.msvc.depfile.DepfileError.{DepfileError}
use Rattle.scl_msvc.specs.declared.msvc.depfile.DepfileError.TheVariants as errors
use Rattle.scl_msvc.specs.declared.msvc.depfile.DepfileText.{DepfileText}
use Rattle.scl_reader.specs.CommandLines.{Given, Request, asked_for, given_in}
use Rattle.scl_reader.specs.Reads.{outcome_in, read_of}
use Rattle.scl_files.specs.Within.{standard}
use Rattle.scl_reader.specs.Within.{has_at_most}
use Rattle.scl_reader.specs.declared.compiler.Compiler.{Compiler}
use Rattle.scl_reader.specs.declared.reading.Reading.{Reading}
use Rattle.scl_text.specs.Records.{Parsed, Verdict}
use Rattle.scl_requests.specs.Depfiles.{IsDepfileSaid, IsReadingSaid, IsRequestSaid, IsSaid, IsSaidBy, IsSaidWithin, Shown, is_clang_cl, made_entries, nothing_entries, shown_in, told_of, unread_entries}

-- ---- by a record, and by a reading

module _ (is_clang : Bool) (parsed : Parsed) (shown : Shown) (prefix messages : List ℕ) (prefix_is : prefix ≡ shown.prefix) (messages_are : messages ≡ shown.messages) where
  abbrev Given_of : Result (Option DepfileText) DepfileError → Type 0
  Given_of given = IsDepfileAnswer parsed prefix messages (depfile_object is_clang parsed) given

  by_given : (given told : Result (Option DepfileText) DepfileError) (entries : List Entry) (said : Result (Vec ℕ Global) AllocError) → Given_of given → given ≡ told → told_of told ≡ Some entries
      → IfOk said (λ text. text.items ≡ entries_text entries) → IfOk said (λ text. IsDepfileSaid is_clang parsed shown text.items)
  by_given given told entries (Ok text) h is tells says =
      let On : List ℕ → List ℕ → Type 0 = λ p m. IsDepfileAnswer parsed p m (depfile_object is_clang parsed) told in
      record { given = told; entries = entries; is_given = subst (λ m. On shown.prefix m) messages_are (subst (λ p. On p messages) prefix_is (subst Given_of is h)); are_told = tells; is_text = says }
  by_given given told entries (Err e) h is tells says = tt

  pub by_made : (given : Result (Option DepfileText) DepfileError) (made : DepfileText) (said : Result (Vec ℕ Global) AllocError) → Given_of given → given ≡ Ok (Some made)
      → IfOk said (λ text. text.items ≡ entries_text (made_entries made)) → IfOk said (λ text. IsDepfileSaid is_clang parsed shown text.items)
  by_made given made said h is says = by_given given (Ok (Some made)) (made_entries made) said h is refl says

  pub by_nothing : (given : Result (Option DepfileText) DepfileError) (said : Result (Vec ℕ Global) AllocError) → Given_of given → given ≡ Ok None
      → IfOk said (λ text. text.items ≡ entries_text nothing_entries) → IfOk said (λ text. IsDepfileSaid is_clang parsed shown text.items)
  by_nothing given said h is says = by_given given (Ok None) nothing_entries said h is refl says

  pub by_unread : (given : Result (Option DepfileText) DepfileError) (said : Result (Vec ℕ Global) AllocError) → Given_of given → given ≡ Err errors.NotUtf8
      → IfOk said (λ text. text.items ≡ entries_text unread_entries) → IfOk said (λ text. IsDepfileSaid is_clang parsed shown text.items)
  by_unread given said h is says = by_given given (Err errors.NotUtf8) unread_entries said h is refl says

by_record : (compiler : Compiler) (outcome : Result Parsed Verdict) (parsed : Parsed) (shown : Shown) (text : List ℕ) → Some parsed ≡ result_ok outcome
    → IsDepfileSaid (is_clang_cl compiler) parsed shown text → IsReadingSaid compiler outcome shown text
by_record compiler (Ok other) parsed shown text is h = subst (λ o. IsOf o) is h where
  IsOf : Option Parsed → Type 0
  IsOf None = ⊥
  IsOf (Some it) = IsDepfileSaid (is_clang_cl compiler) it shown text
by_record compiler (Err verdict) parsed shown text is h = absurd (cc)

by_none : (compiler : Compiler) (outcome : Result Parsed Verdict) (shown : Shown) (text : List ℕ) → None ≡ result_ok outcome → text ≡ entries_text nothing_entries
    → IsReadingSaid compiler outcome shown text
by_none compiler (Ok parsed) shown text is h = absurd (cc)
by_none compiler (Err verdict) shown text is h = h

pub reads_record : (compiler : Compiler) (outcome : Result Parsed Verdict) (parsed : Parsed) (shown : Shown) (said : Result (Vec ℕ Global) AllocError) → Some parsed ≡ result_ok outcome
    → IfOk said (λ text. IsDepfileSaid (is_clang_cl compiler) parsed shown text.items) → IfOk said (λ text. IsReadingSaid compiler outcome shown text.items)
reads_record compiler outcome parsed shown (Ok text) is h = by_record compiler outcome parsed shown text.items is h
reads_record compiler outcome parsed shown (Err e) is h = tt

pub reads_none : (compiler : Compiler) (outcome : Result Parsed Verdict) (shown : Shown) (said : Result (Vec ℕ Global) AllocError) → None ≡ result_ok outcome
    → IfOk said (λ text. text.items ≡ entries_text nothing_entries) → IfOk said (λ text. IsReadingSaid compiler outcome shown text.items)
reads_none compiler outcome shown (Ok text) is h = by_none compiler outcome shown text.items is h
reads_none compiler outcome shown (Err e) is h = tt

-- ---- by a request

module _ (request : Request) (line : Given) (shown : Shown) where
  abbrev there : Given → Request
  there = asked_for request.compiler

  of_reading : (is_its : line ≡ given_in request) (reading : Reading) (text : List ℕ) → has_at_most standard (there line) ≡ true → reading ≡ read_of (there line)
      → IsReadingSaid request.compiler (outcome_in reading) shown text → IsRequestSaid request shown text
  of_reading is_its reading text within reads h =
      let On : Given → Type 0 = λ g. (has_at_most standard (there g) ≡ true) × IsReadingSaid request.compiler (outcome_in (read_of (there g))) shown text in
      let here : On (given_in request) = subst On is_its (within, subst (λ r. IsReadingSaid request.compiler (outcome_in r) shown text) reads h) in
      subst (λ b. IsSaidWithin b request shown text) (sym here.0) here.1

  of_too_many : (is_its : line ≡ given_in request) (text : List ℕ) → has_at_most standard (there line) ≡ false → text ≡ entries_text too_many_entries → IsRequestSaid request shown text
  of_too_many is_its text within h = subst (λ b. IsSaidWithin b request shown text) (sym (subst (λ g. has_at_most standard (there g) ≡ false) is_its within)) h

  pub by_reading : (reading : Reading) (said : Result (Vec ℕ Global) AllocError) → line ≡ given_in request → (has_at_most standard (there line) ≡ true) × (reading ≡ read_of (there line))
      → IfOk said (λ text. IsReadingSaid request.compiler (outcome_in reading) shown text.items) → IfOk said (λ text. IsRequestSaid request shown text.items)
  by_reading reading (Ok text) is_its read h = of_reading is_its reading text.items read.0 read.1 h
  by_reading reading (Err e) is_its read h = tt

  pub by_too_many : (said : Result (Vec ℕ Global) AllocError) → line ≡ given_in request → has_at_most standard (there line) ≡ false
      → IfOk said (λ text. text.items ≡ entries_text too_many_entries) → IfOk said (λ text. IsRequestSaid request shown text.items)
  by_too_many (Ok text) is_its within h = of_too_many is_its text.items within h
  by_too_many (Err e) is_its within h = tt

-- ---- by lines

module _ (bytes line rest : List ℕ) (cut : lines_of bytes ≡ line ∷ lines_of rest) where
  by : (shown : Option Shown) (request : Result Request ℕ) (said : Result (List ℕ) ℕ) → shown ≡ shown_in line → request_from 3 [] (lines_of rest) ≡ request → IsSaidBy shown request said → IsSaid (lines_of bytes) said
  by shown request said shows reads h =
      subst (λ ls. IsSaid ls said) (sym cut) (subst (λ o. IsSaidBy o (request_from 3 [] (lines_of rest)) said) shows (subst (λ r. IsSaidBy shown r said) (sym reads) h))

  pub by_request : (shown : Shown) (request : Request) (text : List ℕ) → Some shown ≡ shown_in line → request_from 3 [] (lines_of rest) ≡ Ok request → IsRequestSaid request shown text → IsSaid (lines_of bytes) (Ok text)
  by_request shown request text shows reads h = by (Some shown) (Ok request) (Ok text) shows reads h

  pub by_bad_line : (shown : Shown) (number : ℕ) → Some shown ≡ shown_in line → request_from 3 [] (lines_of rest) ≡ Err number → IsSaid (lines_of bytes) (Err number)
  by_bad_line shown number shows reads = by (Some shown) (Err number) (Err number) shows reads refl

  pub none_shown : None ≡ shown_in line → IsSaid (lines_of bytes) (Err 2)
  none_shown shows = by None (request_from 3 [] (lines_of rest)) (Err 2) shows refl refl

pub no_line : (bytes : List ℕ) → bytes ≡ [] → IsSaid (lines_of bytes) (Err 2)
no_line bytes none = subst (λ b. IsSaid (lines_of b) (Err 2)) (sym none) refl
