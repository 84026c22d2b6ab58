use Rattle.std.proofs.Common.{◌≡◌, ℕ, true, false, List, [], ◌∷◌, ◌++◌, map, filter, Option, Result, Ok, refl, sym, ap, subst, ◌∙◌, append_assoc}
use Rattle.std.specs.Prelude.{codes, is_some, ok_or}
use Rattle.std.proofs.lemmas.List.{append-nil}
use Rattle.std.specs.List.{flat_map}
use Rattle.scl_values.specs.Cuts.{Cut, raw, unknown, flag, with_value, cut, is_dangling}
use Rattle.scl_values.specs.Each.{Each}
use Rattle.scl_args.specs.Empties.{refusing_empty}
use Rattle.scl_args.specs.Options.{judged, is_raw, texts, side_of_flag}
use Rattle.scl_values.specs.Row.{Row}
use Rattle.scl_values.specs.Seen.{Seen, Raw, Unknown, Known, shown, plain_seen}
use Rattle.scl_values.specs.Seen as plain
use Rattle.scl_values.specs.Tables.{owner_in}
use Rattle.scl_args.specs.Checks.{PassChecks}
use Rattle.scl_args.specs.Commands.{Said, carried, IsReadAgain}
use Rattle.scl_args.specs.Origins.{IsClear, IsKept, AreClear}
use Rattle.scl_args.specs.Reads.{Reads}
use Rattle.scl_args.proofs.CommandLaws.{IsList, command-again}
use Rattle.scl_args.proofs.FoundLaws.{one-text, raw-again}
use Rattle.scl_args.proofs.ListLaws.{listed-again}
use Rattle.scl_args.proofs.EmptyLaws.{judged-clear}
use Rattle.scl_args.proofs.OutcomeLaws.{bind-ok, judged-ok}
use Rattle.scl_args.proofs.ReadsLaws.{reads-append}
use Rattle.scl_args.specs.Promises.{HasNoEmpty, said_by}
use Rattle.scl_text.proofs.CompilerLaws.{command-kept}
use Rattle.scl_text.specs.Compilers.{IfCommand}
use Rattle.scl_text.specs.Languages.{language_of_file_name}
use Rattle.scl_text.specs.Commands.{object_of}
use Rattle.scl_text.specs.Reasons.{empty_value, argument_parse, unknown_source_language}
use Rattle.scl_text.specs.Records.{Parsed, Verdict}
use Rattle.scl_small.specs.Command.{command_words, command}
use Rattle.scl_small.specs.Places.{goes_to}
use Rattle.scl_small.specs.ReadAgain.{every_kind, list_of, line_of, parts, CommandsAreReadAgain, CommandIsReadAgain}
use Rattle.scl_small.specs.Readings.{list_at, record_of, recorded, reads, the_only_input}
use Rattle.scl_small.specs.contracts.place.PlacePartialEq.TheImpl.{ghosts}
use Rattle.scl_small.specs.declared.place.Place.{Place}
use Rattle.scl_small.specs.declared.place.Place.TheVariants as places

-- ---- what a record says of the options

the_only_input-ok : (xs : List (List ℕ)) (x : List ℕ) → the_only_input xs ≡ Ok x → xs ≡ x ∷ []
the_only_input-ok [] x e = absurd (cc)
the_only_input-ok (y ∷ []) x e = cc
the_only_input-ok (y ∷ z ∷ ys) x e = absurd (cc)

module _ {K : Type 0} (place : K → Place) where
  pub record IsRecord (os : List (Seen K)) (f : List ℕ) (p : Parsed) : Type 0 where
    pub flag_is : p.compilation_flag ≡ f
    pub input_is : texts (goes_to place places.Input) os ≡ p.input ∷ []
    pub preprocessor_is : p.preprocessor_args ≡ list_at place places.Preprocessor os
    pub unhashed_is : p.unhashed_args ≡ []
    pub common_is : p.common_args ≡ list_at place places.Common os

  pub is-record : (os : List (Seen K)) (f : List ℕ) (p : Parsed) → recorded place os f ≡ Ok p → IsRecord os f p
  is-record os f p e =
      let a = bind-ok (the_only_input (texts (goes_to place places.Input) os)) _ p e in
      let b = bind-ok (ok_or (language_of_file_name a.0) unknown_source_language) _ p a.2 in
      let is : record_of place os f a.0 b.0 ≡ p = cc (b.2) in
      record {
        flag_is = sym (ap (λ r. r.compilation_flag) is);
        input_is = the_only_input-ok (texts (goes_to place places.Input) os) a.0 a.1 ∙ ap (λ r. r.input ∷ []) is;
        preprocessor_is = sym (ap (λ r. r.preprocessor_args) is);
        unhashed_is = sym (ap (λ r. r.unhashed_args) is);
        common_is = sym (ap (λ r. r.common_args) is);
      }

  -- a record that was made has an object
  pub has-object : (os : List (Seen K)) (f : List ℕ) (p : Parsed) → recorded place os f ≡ Ok p → is_some (object_of p) ≡ true
  has-object os f p e =
      let a = bind-ok (the_only_input (texts (goes_to place places.Input) os)) _ p e in
      let b = bind-ok (ok_or (language_of_file_name a.0) unknown_source_language) _ p a.2 in
      let is : record_of place os f a.0 b.0 ≡ p = cc (b.2) in
      sym (ap (λ r. is_some (object_of r)) is)

-- ---- what was read

-- if words have a record, no option of an either row has an empty value, and their options passed the tests
module _ {K : Type 0} (tables : List (List (Row K))) (verdict : Seen K → Option Verdict) (tested : List (Seen K) → Result Parsed Verdict) (words : List (List ℕ)) (p : Parsed) where
  abbrev options_of : List (Cut K)
  options_of = (cut (owner_in tables) false words).options

  pub was-read : reads verdict tested (owner_in tables) words ≡ Ok p → Each IsClear options_of × (tested (map shown options_of) ≡ Ok p)
  was-read e =
      let dangles = is_dangling (cut (owner_in tables) false words).end in
      let says = refusing_empty (owner_in tables) empty_value (λ before. verdict) in
      let a = bind-ok (judged says argument_parse (map shown options_of) dangles) tested p e in (
        judged-clear tables false words empty_value (λ before. verdict) argument_parse a.0 a.1,
        ap tested (judged-ok says argument_parse (map shown options_of) dangles a.0 a.1) ∙ a.2,
      )

  pub no-empty : reads verdict tested (owner_in tables) words ≡ Ok p → HasNoEmpty (line_of tables words)
  no-empty e = record { outer = (was-read e).0; inner = tt }

-- ---- the command of a record

module _ {K : Type 0} (place : K → Place) (compile output : K) (tables : List (List (Row K))) (pass : PassChecks tables every_kind side_of_flag)
    (no_inputs : (k : K) → ghosts.eq (place k) places.Input ≡ false)
    (reads_output : (object : List ℕ) → Reads (owner_in tables) false (codes "-o" ∷ object ∷ []) (plain.value (codes "-o") output object ∷ [])) where
  abbrev own : List ℕ → Option (Row K)
  own = owner_in tables

  raws : (o : Seen K) → goes_to place places.Input o ≡ true → is_raw o ≡ true
  raws (Raw w) e = refl
  raws (Unknown w) e = absurd (cc)
  raws (Known f k v h) e = absurd (let no : true ≡ false = sym e ∙ no_inputs k in cc)

  keeps_every : (c : Cut K) → IsKept false every_kind c
  keeps_every (raw w) = refl
  keeps_every (unknown w) = tt
  keeps_every (flag row) = tt
  keeps_every (with_value row v h) = refl

  is-list : (there : Place) → IsList tables false [] every_kind every_kind side_of_flag (λ i w. []) [] (list_of place compile output there)
  is-list there = record { keeps = λ c e. keeps_every c; keeps_inner = λ c e. keeps_every c; adds_none = tt }

  module _ (words : List (List ℕ)) (p : Parsed) (object f : List ℕ) (clear : Each IsClear (cut own false words).options) (is : IsRecord place (map shown (cut own false words).options) f p)
      (reads_flag : Reads own false (f ∷ []) (plain.flag f compile ∷ [])) where
    abbrev options : List (Seen K)
    options = map shown (cut own false words).options

    abbrev said : Said K K
    said = record { options = options; inners = [] }

    are_clear : AreClear own false options
    are_clear = record { words = words; are = refl; clear = clear }

    -- the options of a list to which nothing is added
    carried-bare : (there : Place) → map plain_seen (filter (goes_to place there) options) ≡ carried said (list_of place compile output there)
    carried-bare there = sym (append-nil (map plain_seen (filter (goes_to place there) options) ++ []) ∙ append-nil (map plain_seen (filter (goes_to place there) options)))

    reads-list : (there : Place) → Reads own false (list_at place there options) (carried said (list_of place compile output there))
    reads-list there = subst (λ os. Reads own false (list_at place there options) os) (carried-bare there)
        (listed-again tables false every_kind options are_clear (goes_to place there) (λ c e. keeps_every c) side_of_flag pass)

    abbrev front : List (List ℕ)
    front = p.compilation_flag ∷ p.input ∷ codes "-o" ∷ object ∷ []

    reads-input : Reads own false (p.input ∷ []) (plain.raw p.input ∷ [])
    reads-input =
        let o = one-text tables false (goes_to place places.Input) words p.input is.input_is in
        subst (λ x. Reads own false (x ∷ []) (plain.raw x ∷ [])) o.2 (raw-again tables (goes_to place places.Input) raws o.0 o.1)

    reads-front : Reads own false front (parts place compile output p object).front
    reads-front = reads-append own false _ _ _ _ (reads-append own false _ _ _ _
        (subst (λ x. Reads own false (x ∷ []) (plain.flag x compile ∷ [])) (sym is.flag_is) reads_flag) reads-input) (reads_output object)

    abbrev lists : List (List ℕ)
    lists = p.preprocessor_args ++ p.common_args

    reads-lists : Reads own false lists (flat_map (carried said) (parts place compile output p object).lists)
    reads-lists = reads-append own false _ _ _ _
        (rw is.preprocessor_is (reads-list places.Preprocessor))
        (subst (λ os. Reads own false p.common_args os) (sym (append-nil _)) (rw is.common_is (reads-list places.Common)))

    words-are : front ++ lists ++ [] ≡ command_words p object
    words-are =
        append-nil (front ++ lists) ∙ (sym (append_assoc front p.preprocessor_args p.common_args)
        ∙ ap (λ ws. ws ++ p.common_args) (sym (ap (λ ws. front ++ p.preprocessor_args ++ ws) is.unhashed_is ∙ append-nil (front ++ p.preprocessor_args))))

    pub record-again : IsReadAgain tables false [] said (parts place compile output p object) (command_words p object)
    record-again = subst (λ ws. IsReadAgain tables false [] said (parts place compile output p object) ws) words-are
        (command-again tables false [] every_kind every_kind side_of_flag (λ i w. []) pass (record { keeps = refl; safe = refl }) said are_clear tt tt
        (parts place compile output p object) front lists []
        (record { lists = (is-list places.Preprocessor, (is-list places.Common, tt)); no_raws = (record { carries_none = λ w. refl; adds_none = refl }, (record { carries_none = λ w. refl; adds_none = refl }, tt)); front_read = reads-front; back_read = refl; none_in_front = tt; none_behind = tt }) reads-lists)

-- ---- the promise of a command

pub command-kept-again : {K : Type 0} (place : K → Place) (compile output : K) (tables : List (List (Row K))) (reading : (List ℕ → Option (Row K)) → List (List ℕ) → Result Parsed Verdict) →
    CommandsAreReadAgain place compile output tables reading → (words : List (List ℕ)) →
    IfCommand command (CommandIsReadAgain place compile output tables words) (reading (owner_in tables) words)
command-kept-again place compile output tables reading all words =
    command-kept command_words (λ p object again. IsReadAgain tables false [] (said_by (line_of tables words)) (parts place compile output p object) again)
    (reading (owner_in tables) words) (λ p object e o. all words p object e)
