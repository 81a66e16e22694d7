-- Each command is read where the rows of its matches say it, and nowhere else.
use Rattle.std.proofs.Common.{◌≡◌, ◌∙◌, ◌++◌, ℕ, Bool, true, false, refl, [], ◌∷◌, map, List, codes, Some, None, Option, ap, ap₂, sym, subst}
use Rattle.std.specs.Prelude.{decimal}
use Rattle.clap.specs.Walk.{Row, Text, first_of, one_of}
use Rattle.drg_array.specs.declared.test.Test.{Test}
use Rattle.drg_words.specs.Grammar.{Part, has_flag, positional}
use Rattle.drg_words.specs.Commands.{AreTests, IsBetween, IsBudget, IsNumber, census_grammar, check_grammar, file_grammar, sample_grammar, table_grammar}
use Rattle.drg_words.specs.Matches.{Reads, ReadsNone, SaysCensus, SaysCheck, SaysClassical, SaysGraph, SaysReplay, SaysSample, SaysTable, Tells}
use Rattle.drg_words.specs.declared.command.Command.TheVariants.{Check, Replay, Table, Sample, Graph, Census, Classical}
use Rattle.drg_words.proofs.Told.{first_is, flag_is, no_first, one_word, second_is, third_is, three_words, two_words}

module _ (rows : List Row) where
  abbrev FILE : Option Text
  FILE = first_of (codes "FILE") rows

  -- ---- check

  pub check_read : (tests : List Test) (budget : ℕ) (json : Bool) (file : Text) → AreTests (first_of (codes "tests") rows) tests → IsBudget (first_of (codes "budget") rows) budget
      → (one_of (codes "json") rows ≡ Some (codes "true") → json ≡ true) → (one_of (codes "json") rows ≡ Some (codes "false") → json ≡ false) → Some file ≡ FILE
      → Reads check_grammar rows SaysCheck (Check tests budget json file)
  check_read tests budget json file t b on off f = λ parts last told. (
    tests,
    budget,
    json,
    file,
    refl,
    (
      subst (λ (o : Option Text). AreTests o tests) (told.options (codes "tests") refl) t,
      subst (λ (o : Option Text). IsBudget o budget) (told.options (codes "budget") refl) b,
      flag_is (has_flag (codes "json") parts) json (one_of (codes "json") rows) (told.flags (codes "json") refl) on off,
      one_word FILE (positional parts ++ last) told.words file f,
    ),
  )

  pub check_tests : ((tests : List Test) → AreTests (first_of (codes "tests") rows) tests → ⊥) → ReadsNone check_grammar rows SaysCheck
  check_tests h = λ parts last told command says. h says.0 (subst (λ (o : Option Text). AreTests o says.0) (sym (told.options (codes "tests") refl)) says.5.0)

  pub check_budget : ((n : ℕ) → IsBudget (first_of (codes "budget") rows) n → ⊥) → ReadsNone check_grammar rows SaysCheck
  check_budget h = λ parts last told command says. h says.1 (subst (λ (o : Option Text). IsBudget o says.1) (sym (told.options (codes "budget") refl)) says.5.1)

  pub check_file : None ≡ FILE → ReadsNone check_grammar rows SaysCheck
  check_file f = λ parts last told command says. no_first FILE [] (positional parts ++ last) told.words f

  -- ---- table

  pub table_read : (tests : List Test) (budget : ℕ) (file : Text) → AreTests (first_of (codes "tests") rows) tests → IsBudget (first_of (codes "budget") rows) budget → Some file ≡ FILE
      → Reads table_grammar rows SaysTable (Table tests budget file)
  table_read tests budget file t b f = λ parts last told. (
    tests,
    budget,
    file,
    refl,
    (
      subst (λ (o : Option Text). AreTests o tests) (told.options (codes "tests") refl) t,
      subst (λ (o : Option Text). IsBudget o budget) (told.options (codes "budget") refl) b,
      one_word FILE (positional parts ++ last) told.words file f,
    ),
  )

  pub table_tests : ((tests : List Test) → AreTests (first_of (codes "tests") rows) tests → ⊥) → ReadsNone table_grammar rows SaysTable
  table_tests h = λ parts last told command says. h says.0 (subst (λ (o : Option Text). AreTests o says.0) (sym (told.options (codes "tests") refl)) says.4.0)

  pub table_budget : ((n : ℕ) → IsBudget (first_of (codes "budget") rows) n → ⊥) → ReadsNone table_grammar rows SaysTable
  table_budget h = λ parts last told command says. h says.1 (subst (λ (o : Option Text). IsBudget o says.1) (sym (told.options (codes "budget") refl)) says.4.1)

  pub table_file : None ≡ FILE → ReadsNone table_grammar rows SaysTable
  table_file f = λ parts last told command says. no_first FILE [] (positional parts ++ last) told.words f

  -- ---- commands of a file alone

  file_is : (file : Text) → Some file ≡ FILE → (parts : List Part) (last : List Text) → Tells file_grammar parts last rows → positional parts ++ last ≡ file ∷ []
  file_is file f parts last told = one_word FILE (positional parts ++ last) told.words file f

  no_file : None ≡ FILE → (parts : List Part) (last : List Text) → Tells file_grammar parts last rows → ⊥
  no_file f parts last told = no_first FILE [] (positional parts ++ last) told.words f

  pub replay_read : (file : Text) → Some file ≡ FILE → Reads file_grammar rows SaysReplay (Replay file)
  replay_read file f = λ parts last told. (file, refl, file_is file f parts last told)

  pub replay_file : None ≡ FILE → ReadsNone file_grammar rows SaysReplay
  replay_file f = λ parts last told command says. no_file f parts last told

  pub graph_read : (file : Text) → Some file ≡ FILE → Reads file_grammar rows SaysGraph (Graph file)
  graph_read file f = λ parts last told. (file, refl, file_is file f parts last told)

  pub graph_file : None ≡ FILE → ReadsNone file_grammar rows SaysGraph
  graph_file f = λ parts last told command says. no_file f parts last told

  pub classical_read : (file : Text) → Some file ≡ FILE → Reads file_grammar rows SaysClassical (Classical file)
  classical_read file f = λ parts last told. (file, refl, file_is file f parts last told)

  pub classical_file : None ≡ FILE → ReadsNone file_grammar rows SaysClassical
  classical_file f = λ parts last told command says. no_file f parts last told

  -- ---- sample

  abbrev SEED : Option Text
  SEED = first_of (codes "SEED") rows

  abbrev COUNT : Option Text
  COUNT = first_of (codes "COUNT") rows

  -- the rows have the word of a number
  abbrev HasNumber : Text → ℕ → ℕ → ℕ → Type 0
  HasNumber name least most n = (word : Text) × (Some word ≡ first_of name rows) × IsNumber least most word n

  abbrev HasNoNumber : Text → ℕ → ℕ → Type 0
  HasNoNumber name least most = (n : ℕ) → first_of name rows ≡ Some (decimal n) → IsBetween least most n → ⊥

  pub sample_read : (seed count : ℕ) → HasNumber (codes "SEED") 0 2147483647 seed → HasNumber (codes "COUNT") 0 100000 count → Reads sample_grammar rows SaysSample (Sample seed count)
  sample_read seed count (s, e, (a, r)) (c, f, (b, q)) = λ parts last told. (
    seed,
    count,
    refl,
    (r, q, two_words SEED COUNT (positional parts ++ last) told.words s c e f ∙ ap₂ (λ x y. x ∷ y ∷ []) a b),
  )

  pub sample_seed : HasNoNumber (codes "SEED") 0 2147483647 → ReadsNone sample_grammar rows SaysSample
  sample_seed h = λ parts last told command says.
      h says.0 (first_is SEED (COUNT ∷ []) (decimal says.0) (decimal says.1 ∷ []) (told.words ∙ ap (map Some) says.3.2)) says.3.0

  pub sample_count : HasNoNumber (codes "COUNT") 0 100000 → ReadsNone sample_grammar rows SaysSample
  sample_count h = λ parts last told command says.
      h says.1 (second_is SEED COUNT [] (decimal says.0) (decimal says.1) [] (told.words ∙ ap (map Some) says.3.2)) says.3.1

  -- ---- census

  abbrev D : Option Text
  D = first_of (codes "D") rows

  abbrev K : Option Text
  K = first_of (codes "K") rows

  abbrev N : Option Text
  N = first_of (codes "N") rows

  pub census_read : (d k n : ℕ) → HasNumber (codes "D") 1 4 d → HasNumber (codes "K") 1 32 k → HasNumber (codes "N") 2 2000 n → Reads census_grammar rows SaysCensus (Census d k n)
  census_read d k n (x, e, (a, r)) (y, f, (b, q)) (z, g, (c, p)) = λ parts last told. (
    d,
    k,
    n,
    refl,
    (r, q, p, three_words D K N (positional parts ++ last) told.words x y z e f g ∙ ap₂ (λ s t. s ∷ t) a (ap₂ (λ s t. s ∷ t ∷ []) b c)),
  )

  pub census_d : HasNoNumber (codes "D") 1 4 → ReadsNone census_grammar rows SaysCensus
  census_d h = λ parts last told command says.
      h says.0 (first_is D (K ∷ N ∷ []) (decimal says.0) (decimal says.1 ∷ decimal says.2 ∷ []) (told.words ∙ ap (map Some) says.4.3)) says.4.0

  pub census_k : HasNoNumber (codes "K") 1 32 → ReadsNone census_grammar rows SaysCensus
  census_k h = λ parts last told command says.
      h says.1 (second_is D K (N ∷ []) (decimal says.0) (decimal says.1) (decimal says.2 ∷ []) (told.words ∙ ap (map Some) says.4.3)) says.4.1

  pub census_n : HasNoNumber (codes "N") 2 2000 → ReadsNone census_grammar rows SaysCensus
  census_n h = λ parts last told command says.
      h says.2 (third_is D K N [] (decimal says.0) (decimal says.1) (decimal says.2) [] (told.words ∙ ap (map Some) says.4.3)) says.4.2

  -- a word that isn't there, or that is no number in the range, is the word of no such number
  pub none_is_none : (name : Text) (least most : ℕ) → None ≡ first_of name rows → HasNoNumber name least most
  none_is_none name least most e = λ n f r. cc (e, f)

  pub word_is_none : (name word : Text) (least most : ℕ) → Some word ≡ first_of name rows → ((n : ℕ) → IsNumber least most word n → ⊥) → HasNoNumber name least most
  word_is_none name word least most e h = λ n f r. h n (let same : word ≡ decimal n = cc (e, f) in same, r)
