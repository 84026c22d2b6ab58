-- Following leads, and that those which words name are leads of the load.
use Rattle.std.proofs.Common.{◌≡◌, ℕ, ◌+◌, Bool, true, false, cond, List, [], ◌∷◌, ◌++◌, map, Option, None, Some, Contains, flat_map, filter_map, refl, sym, subst, ◌∙◌}
use Rattle.std.proofs.lemmas.List.Elements.{Contains-append_left, Contains-append_right, Contains-push}
use Rattle.std.specs.List.{cons_option}
use Rattle.scl_files.specs.ResponseFiles.{arguments, named}
use Rattle.scl_files.specs.Views.{Viewed, bytes_at}
use Rattle.scl_files.specs.contracts.expand.ExpansionKindPartialEq.TheImpl.{ghosts}
use Rattle.scl_files.specs.declared.expand.ExpansionKind.{ExpansionKind}
use Rattle.scl_files.specs.declared.expand.ExpansionKind.TheVariants as expansions
use Rattle.scl_reader.specs.Questions.{Extends}
use Rattle.scl_values.specs.Each.{Each}
use Rattle.scl_load.specs.Leads.{AsksIn, GoesOn, IsFound, IsLead, IsLed, Lead, Leads, lead_from, leads_from, leads_in, leads_inside, with_more}
use Rattle.scl_load.specs.Loads.{IsAbsent, IsChain, IsInside, IsLookedFor, IsSame, Load, file, inside, is_there, paths_named}
use Rattle.scl_load.specs.declared.look.Sought.TheVariants as kinds

-- ---- each of a list

head-in : {A : Type 0} (x : A) (xs : List A) → Contains (x ∷ xs) x
head-in x xs = Contains-append_left (x ∷ []) xs x (Contains-push [] x)

tail-in : {A : Type 0} (x y : A) (xs : List A) → Contains xs y → Contains (x ∷ xs) y
tail-in x y xs h = Contains-append_right (x ∷ []) xs y h

pub each-in : {A : Type 0} (P : A → Type 0) (xs : List A) → ((x : A) → Contains xs x → P x) → Each P xs
each-in P [] f = tt
each-in P (x ∷ xs) f = (f x (head-in x xs), each-in P xs (λ y h. f y (tail-in x y xs h)))

pub each-both : {A : Type 0} (P : A → Type 0) (xs ys : List A) → Each P xs → Each P ys → Each P (xs ++ ys)
each-both P [] ys h k = k
each-both P (x ∷ xs) ys h k = (h.0, each-both P xs ys h.1 k)

pub each-flat : {A B : Type 0} (P : B → Type 0) (f : A → List B) (xs : List A) → Each (λ x. Each P (f x)) xs → Each P (flat_map f xs)
each-flat P f [] h = tt
each-flat P f (x ∷ xs) h = each-both P (f x) (flat_map f xs) h.0 (each-flat P f xs h.1)

pub each-so : {A : Type 0} (P Q : A → Type 0) (xs : List A) → ((x : A) → P x → Q x) → Each P xs → Each Q xs
each-so P Q [] f h = tt
each-so P Q (x ∷ xs) f h = (f x h.0, each-so P Q xs f h.1)

pub each-mapped : {A B : Type 0} (P : B → Type 0) (f : A → B) (xs : List A) → Each P (map f xs) → Each (λ x. P (f x)) xs
each-mapped P f [] h = tt
each-mapped P f (x ∷ xs) h = (h.0, each-mapped P f xs h.1)

-- ---- leads that words name

each-named : (P : Lead → Type 0) (name : List ℕ → Option (List ℕ)) (kind : ExpansionKind) (depth : ℕ) (words : List (List ℕ))
    → ((path : List ℕ) → Contains (filter_map name words) path → P (record { kind = kind; path = path; depth = depth }))
    → Each P (flat_map (λ word. lead_from kind depth (name word)) words)
each-named P name kind depth [] f = tt
each-named P name kind depth (word ∷ words) f =
    elim (name word) as (λ o. ((path : List ℕ) → Contains (cons_option o (filter_map name words)) path → P (record { kind = kind; path = path; depth = depth }))
    → Each P (lead_from kind depth o ++ flat_map (λ word. lead_from kind depth (name word)) words)) [
      | None ↦ λ g. each-named P name kind depth words g
      | Some path ↦ λ g. (g path (head-in path (filter_map name words)), each-named P name kind depth words (λ other has. g other (tail-in path other (filter_map name words) has)))
    ] f

module _ (disk : Viewed) (load : Load) (view : Viewed) (directory : List ℕ) (asks : AsksIn directory load) (extends : Extends disk view) where
  inside-of : (on : Viewed) (kind : ExpansionKind) (bytes : List ℕ) (words : List (List ℕ)) (from path : List ℕ) → bytes_at from on.files ≡ Some bytes → arguments kind bytes ≡ Some words
      → Contains (paths_named kind directory words) path → IsInside load on from path
  inside-of on kind bytes words from path at e has = (kind, bytes, words, at, e, subst (λ d. Contains (paths_named kind d words) path) (sym (asks on)) has)

  in-text : (kind : ExpansionKind) (bytes from : List ℕ) (depth : ℕ) → bytes_at from view.files ≡ Some bytes → IsChain disk load depth from
      → (text : Option (List (List ℕ))) → arguments kind bytes ≡ text → Each (IsLead disk load view) (leads_in kind directory text (depth + 1))
  in-text kind bytes from depth at chain None e = tt
  in-text kind bytes from depth at chain (Some words) e = each-named (IsLead disk load view) (named kind directory) kind (depth + 1) words (λ path has. record {
    is_chain = inside depth from path chain (inside-of disk kind bytes words from path (extends.files from bytes at) e has);
    is_named = (from, inside-of view kind bytes words from path at e has);
  })

  in-file : (kind : ExpansionKind) (bytes from : List ℕ) (depth : ℕ) → bytes_at from view.files ≡ Some bytes → IsChain disk load depth from
      → Each (IsLead disk load view) (leads_inside kind directory bytes (depth + 1))
  in-file kind bytes from depth at chain =
      elim (ghosts.eq kind expansions.Msvc) as (λ b. Each (IsLead disk load view) (cond b [] (leads_in kind directory (arguments kind bytes) (depth + 1)))) [
        | true ↦ tt
        | false ↦ in-text kind bytes from depth at chain (arguments kind bytes) refl
      ]

  -- words inside a file of a chain name them
  pub each-inside : (kind : ExpansionKind) (from : List ℕ) (depth : ℕ) → IsChain disk load depth from
      → Each (IsLead disk load view) (leads_from kind directory (bytes_at from view.files) (depth + 1))
  each-inside kind from depth chain =
      elim (bytes_at from view.files) as (λ o. bytes_at from view.files ≡ o → Each (IsLead disk load view) (leads_from kind directory o (depth + 1))) [
        | None ↦ λ _. tt
        | Some bytes ↦ λ at. in-file kind bytes from depth at chain
      ] refl

-- ---- one look

module _ (load : Load) (directory : List ℕ) (asks : AsksIn directory load) (before after : Viewed) (keeps : Extends after before) where
  inside-kept : (from path : List ℕ) → IsInside load before from path → IsInside load after from path
  inside-kept from path h = (
    h.0,
    h.1,
    h.2,
    keeps.files from h.1 h.3,
    h.4,
    subst (λ d. Contains (paths_named h.0 d h.2) path) (asks before ∙ sym (asks after)) h.5,
  )

  pub lead-kept : (disk : Viewed) (lead : Lead) → IsLead disk load before lead → IsLead disk load after lead
  lead-kept disk lead h = record { is_chain = h.is_chain; is_named = (h.is_named.0, inside-kept h.is_named.0 lead.path h.is_named.1) }

  pub leads-kept : (disk : Viewed) (leads : List Lead) → Each (IsLead disk load before) leads → Each (IsLead disk load after) leads
  leads-kept disk leads h = each-so (IsLead disk load before) (IsLead disk load after) leads (lead-kept disk) h

there-is : (b : Bool) → ¬ (b ≡ false) → b ≡ true
there-is true n = refl
there-is false n = absurd (n refl)

-- the first of the leads was looked for and found
module _ (holds : Viewed → Type 0) (first before after : Viewed) (leads middle : Leads) (lead : Lead) (rest : List Lead) (on : GoesOn holds first before leads middle)
    (is : middle.ahead ≡ lead ∷ rest) (looked : IsLookedFor holds (IsAbsent kinds.File lead.path) (IsSame kinds.File lead.path) before after true) where
  pub on-looked : GoesOn holds first after leads (record middle { ahead = rest })
  on-looked disk load readings h led =
      let here = on disk load readings h led in
      let are = subst (Each (IsLead disk load before)) is here.are_leads in
      let look = looked.1 disk h here.extends in record {
        are_looks = file readings before after are.0.is_named.0 lead.path true here.are_looks are.0.is_named.1 look;
        extends = look.extends;
        asks_in = here.asks_in;
        most_rounds = here.most_rounds;
        are_leads = leads-kept load middle.directory here.asks_in before after look.keeps disk rest are.1;
      }

  pub is-found : IsFound holds first after leads lead
  is-found disk load readings h led =
      let here = on disk load readings h led in
      let are = subst (Each (IsLead disk load before)) is here.are_leads in
      let look = looked.1 disk h here.extends in
      (lead-kept load middle.directory here.asks_in before after look.keeps disk lead are.0, there-is (is_there kinds.File lead.path disk) (look.some_found refl))

-- what the words of the found file name follows the leads
pub on-more : (holds : Viewed → Type 0) (before after : Viewed) (leads middle more : Leads) (lead : Lead) (depth : ℕ) → GoesOn holds before after leads middle → IsFound holds before after leads lead
    → depth ≡ lead.depth + 1 → more ≡ with_more middle (leads_from lead.kind middle.directory (bytes_at lead.path after.files) depth) → GoesOn holds before after leads more
on-more holds before after leads middle more lead depth on found deeper is disk load readings h led =
    let here = on disk load readings h led in
    let lead_is = (found disk load readings h led).0 in
    let inner = subst (λ d. Each (IsLead disk load after) (leads_from lead.kind middle.directory (bytes_at lead.path after.files) d)) (sym deeper)
    (each-inside disk load after middle.directory here.asks_in here.extends lead.kind lead.path lead.depth lead_is.is_chain) in
    subst (IsLed disk load readings after) (sym is) (record {
      are_looks = here.are_looks;
      extends = here.extends;
      asks_in = here.asks_in;
      most_rounds = here.most_rounds;
      are_leads = each-both (IsLead disk load after) middle.ahead _ here.are_leads inner;
    })
