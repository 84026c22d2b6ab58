-- What a caller is asked about its machine, and what it answers.
use Rattle.std.specs.Prelude.{ℕ, List, Option}

pub data Question : Type 0 where
  -- the value of a variable
  env : (name : List ℕ) → Question
  -- a program, found as the shell finds it; the empty name is the compiler
  program : (name : List ℕ) → Question
  -- what stands at a path
  file : (path : List ℕ) → Question
  -- the bytes of a file
  bytes : (path : List ℕ) → Question
  -- the names in a folder
  names : (path : List ℕ) → Question
  -- a path without links
  real : (path : List ℕ) → Question
  -- size and time of a file
  times : (path : List ℕ) → Question
  -- what the compiler writes for these words, in a language of messages
  run : (language : List ℕ) → (words : List (List ℕ)) → Question

-- what stands at a path: a file, with a sum of its bytes; a folder; a device, a pipe, or what leads to one; nothing
pub data Standing : Type 0 where
  regular : (sum : List ℕ) → Standing
  folder : Standing
  special : Standing
  missing : Standing

-- a sum of a program and its libraries, and each name on the way of its links
pub record Program : Type 0 where
  pub sum : List ℕ
  pub links : List (List ℕ)

-- status of a run, both outputs, and the bytes of its own file
pub record Written : Type 0 where
  pub status : ℕ
  pub output : List ℕ
  pub messages : List ℕ
  pub own : List ℕ

abbrev pub Answer : Question → Type 0
Answer (env name) = Option (List ℕ)
Answer (program name) = Option Program
Answer (file path) = Standing
Answer (bytes path) = Option (List ℕ)
Answer (names path) = List (List ℕ)
Answer (real path) = List ℕ
Answer (times path) = List ℕ
Answer (run language words) = Written

-- a machine at one moment: its answer to each question
abbrev pub Machine : Type 0
Machine = (question : Question) → Answer question
